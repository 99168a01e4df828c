use Rattle.std.proofs.Common.{◌≡◌, ℕ, ◌<◌, ◌∙◌, Some, List, [], ◌∷◌, length, get_or, refl, ap, sym, subst, arith}
use Rattle.std.proofs.lemmas.Bool.{true≢false}
use Rattle.std.proofs.lemmas.List.{length-map}
use Rattle.std.proofs.lemmas.Option.{same_Some}
use Rattle.std.specs.List.{All}
use Rattle.lrc_store.specs.Interval.{IntervalRecord, IsInterval}
use Rattle.lrc_store.specs.Lists.{first_notice_of, notices_of}
use Rattle.lrc_store.specs.Store.{NoticeRecord, StoreRecord, StoredRecord, interval_of, intervals_of}
use Rattle.lrc_store.proofs.Within.{first_notice-none, first_notice-some, first_notice-within, pages-rise}
use Rattle.lrc_store.proofs.store.Store.first_notice.Goals as goal
use Rattle.lrc_store.proofs.store.Store.first_notice.Goals.{After-is_empty, After-start-place}

abbrev none : StoredRecord
none = record { node = 0; stamp = []; notices = [] }

abbrev inner : After-is_empty → StoreRecord
inner c = record { pages = c.self.inside.pages; last = c.self.inside.last; entries = c.self.inside.arena.entries }

within : (c : After-is_empty) → c.at.inside.place < length c.self.inside.arena.entries
within c = omega (
  arith,
  c.requires,
  c.at.view_is,
  length-map c.self.inside.arena.entries interval_of,
  ap (λ (s : StoreRecord). length (intervals_of s)) c.self.view_is,
)

-- how many notices the interval has
count : (c : After-is_empty) → length c.behind-self.inside.pages ≡ length (get_or c.self.inside.arena.entries c.at.inside.place none).notices
count c =
    ap (λ (i : IntervalRecord). length i.pages) (c.behind-self.view_is ∙ c.interval.ensures none)
    ∙ length-map (get_or c.self.inside.arena.entries c.at.inside.place none).notices (λ (notice : NoticeRecord). notice.page)

any : (pages : List ℕ) → (pages ≡ [] → ⊥) → 0 < length pages
any [] other = absurd (other refl)
any (page ∷ pages) other = omega arith

-- the interval has a notice, and that is the first
some : (c : After-start-place) → 0 < length (get_or c.self.inside.arena.entries c.at.inside.place none).notices
some c =
    let has = any c.behind-self.inside.pages (λ is. true≢false (sym (c.is_empty.ensures.1 is) ∙ c.if-is_empty.false)) in
    omega (arith, count (goal.at.After-start-place c).After-is_empty, has)

-- the link stands for the place
there : (c : After-is_empty) → first_notice_of (inner c) c.at.inside.place ≡ first_notice_of c.args.self.now c.args.at
there c = ap (first_notice_of (inner c)) c.at.view_is ∙ ap (λ (s : StoreRecord). first_notice_of s c.args.at) c.self.view_is

begins : (c : After-start-place) → first_notice_of c.args.self.now c.args.at ≡ Some c.start-place.result
begins c =
    let a = (goal.at.After-start-place c).After-is_empty in
    let store = inner a in
    let at = c.at.inside.place in
    let inside : at < length (intervals_of store) = omega (arith, within a, length-map c.self.inside.arena.entries interval_of) in
    sym (there a)
    ∙ first_notice-some store at none (within a) (some c)
    ∙ ap Some (sym (c.start-place.ensures ∙ c.self.invariant.starts.each at 0 inside))

pub returns-then-is_empty-clause-first : goal.returns-then-is_empty-clause-first
returns-then-is_empty-clause-first c =
    let a = (goal.at.returns-then-is_empty-clause-first c).After-is_empty in
    let empty : length c.behind-self.inside.pages ≡ 0 = ap length (c.is_empty.ensures.0 c.if-is_empty.true) in
    sym (first_notice-none (inner a) c.at.inside.place none (within a) (sym (count a) ∙ empty)) ∙ there a

pub returns-clause-first : goal.returns-clause-first
returns-clause-first c = sym (begins (goal.at.returns-clause-first c).After-start-place)

pub returns-clause-in_use : goal.returns-clause-in_use
returns-clause-in_use c = λ notice is.
    let a = (goal.at.returns-clause-in_use c).After-is_empty in
    let b = (goal.at.returns-clause-in_use c).After-start-place in
    let store = inner a in
    let at = c.at.inside.place in
    let inside : at < length (intervals_of store) = omega (arith, within a, length-map c.self.inside.arena.entries interval_of) in
    let place = c.start-place.ensures ∙ c.self.invariant.starts.each at 0 inside in
    let less = first_notice-within store at none (within a) (some b) in
    omega (arith, place, less, ap (λ (s : StoreRecord). length (notices_of s)) c.self.view_is, same_Some _ _ is)

-- the pages of each interval ascend
rising : (c : After-is_empty) → All IsInterval (intervals_of c.args.self.now)
rising c = subst (λ (s : StoreRecord). All IsInterval (intervals_of s)) c.self.view_is c.self.invariant.intervals

pub returns-then-is_empty-clause-ascending : goal.returns-then-is_empty-clause-ascending
returns-then-is_empty-clause-ascending c =
    pages-rise c.args.self.now c.args.at none (rising (goal.at.returns-then-is_empty-clause-ascending c).After-is_empty)

pub returns-clause-ascending : goal.returns-clause-ascending
returns-clause-ascending c = pages-rise c.args.self.now c.args.at none (rising (goal.at.returns-clause-ascending c).After-is_empty)
