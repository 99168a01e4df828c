use Rattle.std.proofs.Common.{◌≡◌, ℕ, ◌<◌, Some, List, length, get_or, refl, ap, arith}
use Rattle.std.specs.Prelude.{slice_get}
use Rattle.std.proofs.lemmas.Bool.{false≢true}
use Rattle.std.proofs.lemmas.Option.{slice_get_read}
use Rattle.lrc_trace.specs.declared.trace.Segment.{Segment}
use Rattle.lrc_race.specs.Epochs.{AgreesWith, KnowsBelow}
use Rattle.lrc_race.proofs.Found.{each-more, each-all}
use Rattle.lrc_race.proofs.Agreement.{agrees-known, agrees-whole, known-later}
use Rattle.lrc_race.proofs.Stretches.{at_contains}
use Rattle.lrc_race.proofs.epochs.agrees_between.Goals as goal
use Rattle.lrc_race.proofs.epochs.agrees_between.Goals.{then-rise, else-rise}

-- an element of the segments, by its number
at_number : (items segments : List Segment) (i : ℕ) (t : Segment) → items ≡ segments → i < length items → t ≡ get_or items i t
    → slice_get segments i ≡ Some t
at_number items segments i t same within is = rw (← same) (slice_get_read items (length items) i t refl within is)

pub agrees_from-requires : goal.agrees_from-requires
agrees_from-requires c =
    let there =
    at_contains c.args.b.now.segments c.loop-t.t-index c.t-item.result
    (at_number c.segments-t-items.result.now c.args.b.now.segments c.loop-t.t-index c.t-item.result c.segments-t-items.ensures.all
    c.loop-t-test.true c.t-item.is) in
    record { entry = omega (arith, c.requires.1, c.requires.2 c.t-item.result there); rising = λ up. (c.rise_along-rise.ensures up).0 }

pub skip_known-start-requires : goal.skip_known-start-requires
skip_known-start-requires c =
    let is =
    at_number c.segments-t-items.result.now c.args.b.now.segments c.loop-t.t-index c.t-item.result c.segments-t-items.ensures.all
    c.loop-t-test.true c.t-item.is in
    let there = at_contains c.args.b.now.segments c.loop-t.t-index c.t-item.result is in
    record {
      entry = omega (arith, c.requires.1, c.requires.2 c.t-item.result there);
      within = c.loop-t.invariant.within;
      known = c.loop-t.invariant.known c.loop-t.t-index c.t-item.result (omega arith) is;
    }

pub returns-then-not-agrees_from : goal.returns-then-not-agrees_from
returns-then-not-agrees_from c =
    let t = c.t-item.result in
    let there =
    at_contains c.args.b.now.segments c.loop-t.t-index t
    (at_number c.segments-t-items.result.now c.args.b.now.segments c.loop-t.t-index t c.segments-t-items.ensures.all c.loop-t-test.true
    c.t-item.is) in (
      λ no. absurd (false≢true no),
      λ agree. c.if-not-agrees_from.ensures.1 (agrees-whole c.args.a.now t c.if-rise.start (agree t there)),
    )

pub loop-t-preserved : goal.loop-t-preserved
loop-t-preserved c =
    let a = c.args.a.now in
    let segments = c.args.b.now.segments in
    let i = c.loop-t.t-index in
    let t = c.t-item.result in
    let is =
    at_number c.segments-t-items.result.now segments i t c.segments-t-items.ensures.all c.loop-t-test.true c.t-item.is in
    let item_is : t ≡ get_or segments i t = rw c.segments-t-items.ensures.all at c.t-item.is in
    let within : i < length segments = rw c.segments-t-items.ensures.all at c.loop-t-test.true in
    let known : KnowsBelow a t c.if-rise.start =
    elim c.if-rise.branch [
      | then-rise w ↦ rw w.start-is w.skip_known-start.ensures.known
      | else-rise w ↦ rw w.start-is (c.loop-t.invariant.known i t (omega arith) is)
    ] in
    record {
      within =
          elim c.if-rise.branch [
            | then-rise w ↦ rw w.start-is w.skip_known-start.ensures.within
            | else-rise w ↦ rw w.start-is c.loop-t.invariant.within
          ];
      known = λ j later after later_is.
          elim c.if-rise.branch [
            | then-rise w ↦
                known-later a t later c.if-rise.start ((c.rise_along-rise.ensures w.if-rise.true).1 i j t later (omega arith) is later_is) known
            | else-rise w ↦ rw w.start-is (c.loop-t.invariant.known j later (omega arith) later_is)
          ];
      agree =
          each-more (AgreesWith a) segments i t within item_is c.loop-t.invariant.agree
          (agrees-known a t c.if-rise.start known (c.if-not-agrees_from.ensures.0 refl));
    }

pub returns : goal.returns
returns c = (
  λ yes t there s.
      each-all (AgreesWith c.args.a.now) c.args.b.now.segments c.loop-t.t-index (omega (arith, ap length c.segments-t-items.ensures.all))
      c.loop-t.invariant.agree t there s,
  λ agree. refl,
)
