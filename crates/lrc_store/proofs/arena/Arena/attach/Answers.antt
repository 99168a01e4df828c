use Rattle.std.proofs.Common.{◌≡◌, ◌+◌, ◌<◌, ◌∙◌, eqb, [], List, Some, length, get_or, map, set, take, ap, sym, subst, arith}
use Rattle.std.specs.List.{position}
use Rattle.lrc_page.specs.Pages.{IsRising}
use Rattle.lrc_store.specs.Arena.{ArenaRecord, NotedRecord, rank_of, stored_from}
use Rattle.lrc_store.specs.Interval.{IntervalRecord}
use Rattle.lrc_store.specs.Store.{StoredRecord, interval_of, notice_with}
use Rattle.lrc_store.proofs.ArenaPlaces.{no_notice_written, notice_within, notice_written, ranks-written, start_there}
use Rattle.lrc_store.proofs.Arenas.{length-stored}
use Rattle.lrc_store.proofs.Starts.{count_of}
use Rattle.lrc_store.proofs.arena.Arena.attach.Goals as goal
use Rattle.lrc_store.proofs.arena.Arena.attach.Goals.{After-self, After-place_of, In-Some, After-keep}

within : (c : After-self) → c.args.at < length c.self.inside.intervals.items
within c =
    omega (
      arith,
      c.requires.within,
      length-stored c.self.inside.intervals.items c.self.inside.notices.items,
      ap (λ (a : ArenaRecord). length a.entries) c.self.view_is,
    )

pub index-requires : goal.index-requires
index-requires c = omega (arith, within (goal.at.index-requires c).After-self, c.self.inside.intervals.ok.0)

-- the interval's pages
pages : (c : After-place_of)
    → c.as_slice.result.now ≡ (get_or c.self.inside.intervals.items c.args.at c.index.result.now).pages
pages c = c.as_slice.ensures ∙ ap (λ (i : IntervalRecord). i.pages) (c.behind-self.view_is ∙ c.index.ensures)

-- where the page stands among them
place : (c : After-place_of) → c.place_of.result
    ≡ position (λ named. eqb named c.args.page) (get_or c.self.inside.intervals.items c.args.at c.index.result.now).pages
place c = c.place_of.ensures ∙ ap (position (λ named. eqb named c.args.page)) (pages c)

start : (c : After-self) → c.args.start ≡ count_of (take c.args.at c.self.inside.intervals.items)
start c = start_there c.self.inside.intervals.items c.self.inside.notices.items c.self.invariant c.args.at
    (record { node = 0; stamp = []; pages = [] }) (within c) c.args.start
    (c.requires.start ∙ ap (λ (a : ArenaRecord). count_of (take c.args.at (map interval_of a.entries))) (sym c.self.view_is))

-- the notice is there
inside : (c : In-Some) → c.args.start + c.in-Some.offset < length c.self.inside.notices.items
inside c =
    let a = (goal.at.In-Some c).After-self in
    let less = notice_within c.self.inside.intervals.items c.self.inside.notices.items c.self.invariant c.args.at c.index.result.now (within a)
    c.args.page c.in-Some.offset (sym (place (goal.at.In-Some c).After-place_of) ∙ c.in-Some.is) in
    omega (arith, less, start a)

pub overflow_add-start : goal.overflow_add-start
overflow_add-start c = omega (arith, inside (goal.at.overflow_add-start c).In-Some, c.self.inside.notices.ok.0, c.self.inside.notices.ok.1)

pub index_mut-requires : goal.index_mut-requires
index_mut-requires c = omega (arith, inside (goal.at.index_mut-requires c).In-Some, c.self.inside.notices.ok.0)

pub invariant_of-self : goal.invariant_of-self
invariant_of-self c =
    let a = (goal.at.invariant_of-self c).After-keep in
    let noted = a.self.inside.notices.items in
    ap (λ (n : NotedRecord). map rank_of (set noted (a.args.start + a.in-Some.offset) n)) a.keep.ensures
    ∙ ranks-written noted (a.args.start + a.in-Some.offset) a.args.changes a.index_mut.result.now a.index_mut.ensures.value
    ∙ a.self.invariant

pub returns-in-Some-clause-notices : goal.returns-in-Some-clause-notices
returns-in-Some-clause-notices c =
    let a = (goal.at.returns-in-Some-clause-notices c).After-keep in
    let noted = a.self.inside.notices.items in
    ap (λ (n : NotedRecord). map rank_of (set noted (a.args.start + a.in-Some.offset) n)) a.keep.ensures
    ∙ ranks-written noted (a.args.start + a.in-Some.offset) a.args.changes a.index_mut.result.now a.index_mut.ensures.value
    ∙ ap (λ (s : ArenaRecord). s.notices) a.self.view_is

-- the entries with changes of the page
abbrev with_changes : (c : After-self) → StoredRecord → ArenaRecord → List StoredRecord
with_changes c d s =
    set s.entries c.args.at
    (record (get_or s.entries c.args.at d) { notices = map (notice_with c.args.page c.args.changes) (get_or s.entries c.args.at d).notices })

pub returns-in-Some-clause-entries : goal.returns-in-Some-clause-entries
returns-in-Some-clause-entries c = λ d.
    let a = (goal.at.returns-in-Some-clause-entries c).After-keep in
    let s = (goal.at.returns-in-Some-clause-entries c).After-self in
    let p = (goal.at.returns-in-Some-clause-entries c).After-place_of in
    let intervals = a.self.inside.intervals.items in
    let noted = a.self.inside.notices.items in
    let offset = a.in-Some.offset in
    let old = a.index_mut.result.now in
    ap (λ (n : NotedRecord). stored_from intervals (set noted (a.args.start + offset) n)) a.keep.ensures
    ∙ ap (λ k. stored_from intervals (set noted (k + offset) (record old { changes = Some a.args.changes }))) (start s)
    ∙ notice_written intervals noted a.self.invariant a.args.at a.index.result.now (within s) a.args.page offset
    (sym (place p) ∙ a.in-Some.is) a.args.changes old d
    (subst IsRising (sym a.as_slice.ensures ∙ pages p) a.behind-self.invariant.ascending)
    (a.index_mut.ensures.value ∙ ap (λ k. get_or noted (k + offset) old) (start s))
    ∙ ap (with_changes s d) a.self.view_is

pub returns-in_default-clause-entries : goal.returns-in_default-clause-entries
returns-in_default-clause-entries c = λ d.
    let s = (goal.at.returns-in_default-clause-entries c).After-self in
    sym (ap (λ (r : ArenaRecord). r.entries) c.self.view_is)
    ∙ no_notice_written c.self.inside.intervals.items c.self.inside.notices.items c.self.invariant c.args.at c.index.result.now (within s)
    c.args.page c.args.changes d (sym (place (goal.at.returns-in_default-clause-entries c).After-place_of) ∙ c.in_default.is)
    ∙ ap (with_changes s d) c.self.view_is
