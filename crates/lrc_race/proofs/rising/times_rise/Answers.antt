-- The times so far rise, with one more, and all of them.
use Rattle.std.proofs.Common.{◌≡◌, ◌∙◌, ◌-◌, ◌<◌, ◌≤◌, ℕ, List, Some, length, get_or, refl, subst, sym, arith}
use Rattle.std.specs.Prelude.{Contains, slice_get}
use Rattle.std.proofs.lemmas.Bool.{false≢true}
use Rattle.std.proofs.lemmas.List.Elements.{Contains-get_or}
use Rattle.lrc_time.specs.Time.{Covers}
use Rattle.lrc_trace.specs.declared.trace.Segment.{Segment}
use Rattle.lrc_race.proofs.Rises.{rise_all, rise_more, rise_next, rise_one}
use Rattle.lrc_race.proofs.rising.times_rise.Goals as goal

-- the later time covers the earlier one
abbrev IsCovered : Segment → Segment → Type 0
IsCovered s t = Covers t.time s.time

-- of any two of them
abbrev Rise : List Segment → Type 0
Rise segments = (i j : ℕ) (s t : Segment) → i ≤ j → slice_get segments i ≡ Some s → slice_get segments j ≡ Some t → IsCovered s t

same : (s : Segment) → IsCovered s s
same s node = omega arith

further : (s t u : Segment) → IsCovered s t → IsCovered t u → IsCovered s u
further s t u first second node = let a = first node in let b = second node in omega arith

-- the segment at an index has as many entries as all
entries_at : (read all : List Segment) (nodes n : ℕ) (d : Segment) → read ≡ all → ((s : Segment) → Contains all s → length s.time ≡ nodes)
    → n < length read → length (get_or read n d).time ≡ nodes
entries_at read all nodes n d is each within = each (get_or read n d) (subst (λ l. Contains l (get_or read n d)) is (Contains-get_or read n d within))

pub covers-requires : goal.covers-requires
covers-requires c =
    let read = c.segments-segments.result.now in
    let at = c.loop-at.at in
    let some = c.loop-at.auto.at in
    let within = c.loop-at-test.true in
    entries_at read c.args.trace.now.segments c.requires.0 at c.index-segments-at.result c.segments-segments.ensures.all c.requires.1 within
    ∙ sym (entries_at read c.args.trace.now.segments c.requires.0 (at - 1) c.index-segments-at-in-loop-at.result c.segments-segments.ensures.all c.requires.1
    (omega arith))

pub loop-at-init : goal.loop-at-init
loop-at-init c = rise_one IsCovered c.segments-segments.result.now same

pub loop-at-preserved : goal.loop-at-preserved
loop-at-preserved c =
    rise_more IsCovered c.segments-segments.result.now c.loop-at.at c.index-segments-at.result c.index-segments-at-in-loop-at.result same further
    c.loop-at.auto.at c.loop-at-test.true (c.if-not-covers.ensures.0 refl) c.loop-at.invariant

pub returns-then-not-covers : goal.returns-then-not-covers
returns-then-not-covers c = (
  λ no. absurd (false≢true no),
  λ rises. c.if-not-covers.ensures.1 (rise_next IsCovered c.segments-segments.result.now c.loop-at.at c.index-segments-at.result
      c.index-segments-at-in-loop-at.result c.loop-at.auto.at c.loop-at-test.true (subst Rise (sym c.segments-segments.ensures.all) rises)),
)

pub returns : goal.returns
returns c = (
  λ _. subst Rise c.segments-segments.ensures.all
      (rise_all IsCovered c.segments-segments.result.now c.loop-at.at c.loop-at-test.false c.loop-at.invariant),
  λ _. refl,
)
