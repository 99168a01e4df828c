use Rattle.std.proofs.Common.{◌≡◌, ◌+◌, ◌<◌, ◌∙◌, eqb, [], length, map, get_or, take, ap, sym, arith}
use Rattle.std.specs.List.{position}
use Rattle.std.specs.Option.{option_copied, option_and_then}
use Rattle.lrc_store.specs.Arena.{ArenaRecord, NotedRecord}
use Rattle.lrc_store.specs.Interval.{IntervalRecord}
use Rattle.lrc_store.specs.Store.{NoticeRecord, interval_of, notice_of}
use Rattle.lrc_store.proofs.ArenaPlaces.{no_notice, notice_there, notice_within, start_there}
use Rattle.lrc_store.proofs.Arenas.{length-stored}
use Rattle.lrc_store.proofs.Starts.{count_of}
use Rattle.lrc_store.proofs.arena.Arena.changes.Goals as goal
use Rattle.lrc_store.proofs.arena.Arena.changes.Goals.{After-self, After-place_of, In_ok-offset}

within : (c : After-self) → c.args.at < length c.self.inside.intervals.items
within c =
    omega (
      arith,
      c.requires.within,
      length-stored c.self.inside.intervals.items c.self.inside.notices.items,
      ap (λ (a : ArenaRecord). length a.entries) c.self.view_is,
    )

pub index-requires : goal.index-requires
index-requires c = omega (arith, within c, c.self.inside.intervals.ok.0)

-- where the page stands among those of the interval
place : (c : After-place_of) → c.place_of.result
    ≡ position (λ named. eqb named c.args.page) (get_or c.self.inside.intervals.items c.args.at c.index.result.now).pages
place c =
    c.place_of.ensures
    ∙ ap (position (λ named. eqb named c.args.page))
    (c.as_slice.ensures ∙ ap (λ (i : IntervalRecord). i.pages) (c.behind-self.view_is ∙ c.index.ensures))

start : (c : After-self) → c.args.start ≡ count_of (take c.args.at c.self.inside.intervals.items)
start c = start_there c.self.inside.intervals.items c.self.inside.notices.items c.self.invariant c.args.at
    (get_or c.self.inside.intervals.items c.args.at (record { node = 0; stamp = []; pages = [] })) (within c) c.args.start
    (c.requires.start ∙ ap (λ (a : ArenaRecord). count_of (take c.args.at (map interval_of a.entries))) (sym c.self.view_is))

-- the notice is there
inside : (c : In_ok-offset) → c.args.start + c.in_ok-offset.offset < length c.self.inside.notices.items
inside c =
    let a = (goal.at.In_ok-offset c).After-self in
    let less = notice_within c.self.inside.intervals.items c.self.inside.notices.items c.self.invariant c.args.at c.index.result.now (within a)
    c.args.page c.in_ok-offset.offset (sym (place (goal.at.In_ok-offset c).After-place_of) ∙ c.in_ok-offset.was) in
    omega (arith, less, start a)

pub overflow_add-start : goal.overflow_add-start
overflow_add-start c = omega (arith, inside c, c.self.inside.notices.ok.0, c.self.inside.notices.ok.1)

pub index-noted-requires : goal.index-noted-requires
index-noted-requires c = omega (arith, inside c, c.self.inside.notices.ok.0)

pub returns-in_err-offset : goal.returns-in_err-offset
returns-in_err-offset c = λ d.
    let a = (goal.at.returns-in_err-offset c).After-self in
    let none = no_notice c.self.inside.intervals.items c.self.inside.notices.items c.self.invariant c.args.at c.index.result.now (within a)
    c.args.page d (sym (place (goal.at.returns-in_err-offset c).After-place_of) ∙ c.in_err-offset.was) in
    ap option_copied c.from_residual.ensures
    ∙ sym (ap (option_and_then (λ (notice : NoticeRecord). notice.changes)) none)
    ∙ ap (λ (s : ArenaRecord). option_and_then (λ (notice : NoticeRecord). notice.changes) (notice_of c.args.page (get_or s.entries c.args.at d)))
    c.self.view_is

pub returns : goal.returns
returns c = λ d.
    let a = (goal.at.returns c).After-self in
    let noted = c.self.inside.notices.items in
    let there = notice_there c.self.inside.intervals.items noted c.self.invariant c.args.at c.index.result.now (within a)
    c.args.page c.in_ok-offset.offset (sym (place (goal.at.returns c).After-place_of) ∙ c.in_ok-offset.was) d c.index-noted.result.now in
    c.as_ref.ensures.value
    ∙ ap (λ (n : NotedRecord). n.changes) (c.noted.view_is ∙ c.index-noted.ensures)
    ∙ ap (λ k. (get_or noted (k + c.in_ok-offset.offset) c.index-noted.result.now).changes) (start a)
    ∙ sym (ap (option_and_then (λ (notice : NoticeRecord). notice.changes)) there)
    ∙ ap (λ (s : ArenaRecord). option_and_then (λ (notice : NoticeRecord). notice.changes) (notice_of c.args.page (get_or s.entries c.args.at d)))
    c.self.view_is
