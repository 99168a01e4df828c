-- The entry is of the same lane and interval as the one before, or the first of them.
use Rattle.std.proofs.Common.{◌≡◌, ℕ, ◌-◌, ◌<◌, ◌==◌, ◌∙◌, Bool, true, false, List, length, get_or, refl, sym, ap, arith}
use Rattle.std.specs.Prelude.{MatchBool, Some, slice_get, slice_index}
use Rattle.std.proofs.lemmas.Bool.{false≢true, eqb-true, eq-eqb}
use Rattle.std.proofs.lemmas.Option.{get_or_from_slice_get, slice_get-get_or}
use Rattle.lrc_judge.specs.declared.lanes.Entry.{Entry}
use Rattle.lrc_judge.specs.Firsts.{AreAlike, IsFirstAt}
use Rattle.lrc_judge.proofs.Searching.{lane_agrees, lane_differs}
use Rattle.lrc_judge.proofs.firsts.is_alike.Goals as goal

abbrev nothing : Entry
nothing = record { lane = record { word = 0; value = 0; node = 0 }; position = 0 }

first_of_all : (entries : List Entry) (intervals : List ℕ) (at : ℕ) (e : Entry) → at ≡ 0 → slice_get entries at ≡ Some e → IsFirstAt entries intervals at e
first_of_all entries intervals at e zero is = record { is = is; fresh = λ m a next found alike. absurd (omega arith) }

module _ (entries : List Entry) (intervals : List ℕ) (at : ℕ) where
  fresh_at : (AreAlike intervals (get_or entries (at - 1) nothing) (get_or entries at nothing) → ⊥) → (e : Entry) → slice_get entries at ≡ Some e
      → IsFirstAt entries intervals at e
  fresh_at apart e is = record {
    is = is;
    fresh = λ m a next found alike.
        let index : at - 1 ≡ m = omega arith in
        let before : get_or entries (at - 1) nothing ≡ a = ap (λ k. get_or entries k nothing) index ∙ get_or_from_slice_get entries m a nothing found in
        let here : get_or entries at nothing ≡ e = get_or_from_slice_get entries at e nothing is in
        apart (rw (before, here) alike);
  }

  same_or : at < length entries → (at ≡ 0 → ⊥) → (get_or entries (at - 1) nothing).lane ≡ (get_or entries at nothing).lane → (test : Bool)
      → test ≡ (slice_index intervals (get_or entries (at - 1) nothing).position == slice_index intervals (get_or entries at nothing).position)
      → MatchBool test ((e : Entry) → IsFirstAt entries intervals at e → ⊥)
      ((e : Entry) → slice_get entries at ≡ Some e → IsFirstAt entries intervals at e)
  same_or within above lanes true is = λ e first.
      let before = slice_get-get_or entries (at - 1) nothing (omega arith) in
      let here : get_or entries at nothing ≡ e = get_or_from_slice_get entries at e nothing first.is in
      first.fresh (at - 1) (get_or entries (at - 1) nothing) (omega arith) before (record {
        lane = lanes ∙ ap (λ (x : Entry). x.lane) here;
        interval = eqb-true _ _ (sym is) ∙ ap (λ (x : Entry). slice_index intervals x.position) here;
      })
  same_or within above lanes false is = fresh_at (λ alike. false≢true (is ∙ eq-eqb _ _ alike.interval))

pub returns-then-at-eq0 : goal.returns-then-at-eq0
returns-then-at-eq0 c = λ e is. first_of_all c.args.entries.now c.args.intervals.now c.args.at e c.if-at-eq0.true is

pub returns-then-ne : goal.returns-then-ne
returns-then-ne c =
    fresh_at c.args.entries.now c.args.intervals.now c.args.at
    (λ alike. lane_differs (get_or c.args.entries.now (c.args.at - 1) nothing).lane (get_or c.args.entries.now c.args.at nothing).lane c.if-ne.ensures
    alike.lane)

pub returns : goal.returns
returns c =
    same_or c.args.entries.now c.args.intervals.now c.args.at c.requires.at c.if-at-eq0.false
    (lane_agrees (get_or c.args.entries.now (c.args.at - 1) nothing).lane (get_or c.args.entries.now c.args.at nothing).lane c.if-ne.ensures) _ refl
