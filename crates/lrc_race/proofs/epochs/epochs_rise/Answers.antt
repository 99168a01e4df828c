-- The epochs so far rise, with one more, and all of them.
use Rattle.std.proofs.Common.{◌≡◌, ◌≤◌, ℕ, List, Some, refl, subst, sym, arith}
use Rattle.std.specs.Prelude.{slice_get}
use Rattle.std.proofs.lemmas.Bool.{false≢true}
use Rattle.lrc_trace.specs.declared.trace.Segment.{Segment}
use Rattle.lrc_race.proofs.Rises.{rise_all, rise_more, rise_next, rise_one}
use Rattle.lrc_race.proofs.epochs.epochs_rise.Goals as goal

-- the later epoch is not lower than the earlier one
abbrev IsNoLater : Segment → Segment → Type 0
IsNoLater s t = s.epoch ≤ t.epoch

-- of any two of them
abbrev Rise : List Segment → Type 0
Rise segments = (i j : ℕ) (s t : Segment) → i ≤ j → slice_get segments i ≡ Some s → slice_get segments j ≡ Some t → IsNoLater s t

same : (s : Segment) → IsNoLater s s
same s = omega arith

further : (s t u : Segment) → IsNoLater s t → IsNoLater t u → IsNoLater s u
further s t u first second = omega arith

pub loop-at-init : goal.loop-at-init
loop-at-init c = rise_one IsNoLater c.segments-segments.result.now same

pub loop-at-preserved : goal.loop-at-preserved
loop-at-preserved c =
    rise_more IsNoLater c.segments-segments.result.now c.loop-at.at c.index-segments-at.result c.index-segments-at-in-loop-at.result same further
    c.loop-at.auto.at c.loop-at-test.true c.if-segments-at.false c.loop-at.invariant

pub returns-then-segments-at : goal.returns-then-segments-at
returns-then-segments-at c = (
  λ no. absurd (false≢true no),
  λ rises.
      let low = c.if-segments-at.true in
      let next = rise_next IsNoLater c.segments-segments.result.now c.loop-at.at c.index-segments-at.result c.index-segments-at-in-loop-at.result
      c.loop-at.auto.at c.loop-at-test.true (subst Rise (sym c.segments-segments.ensures.all) rises) in
      absurd (omega arith),
)

pub returns : goal.returns
returns c = (
  λ _. subst Rise c.segments-segments.ensures.all
      (rise_all IsNoLater c.segments-segments.result.now c.loop-at.at c.loop-at-test.false c.loop-at.invariant),
  λ _. refl,
)
