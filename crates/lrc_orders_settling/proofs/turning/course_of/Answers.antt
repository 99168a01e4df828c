-- The walker goes on from where it is, and comes round where it is what it was.
use Rattle.std.proofs.Common.{◌≡◌, ◌∙◌, ◌<◌, ◌+◌, sym, ap, subst, arith}
use Rattle.std.specs.Prelude.{IsSome}
use Rattle.lrc_exec.specs.declared.spot.Spot.{Spot}
use Rattle.lrc_exec.specs.Spots.{thread_at}
use Rattle.lrc_orders.proofs.Same.{spot_same}
use Rattle.lrc_orders_laws.specs.Free.{after_quiets}
use Rattle.lrc_orders_settling.specs.Turning.{is_quiet_ask}
use Rattle.lrc_orders_settling.proofs.Walking.{Walked, stops_here, walked_on, afresh, comes_so_far, comes_round}
use Rattle.lrc_orders_settling.proofs.turning.course_of.Goals.{then-step-again, else-step-again}
use Rattle.lrc_orders_settling.proofs.turning.course_of.Goals as goal

pub returns-then-not-is_quiet : goal.returns-then-not-is_quiet
returns-then-not-is_quiet c =
    let lt : c.loop-step.step < c.args.most = omega (arith, c.loop-step-test.true, c.loop-step.auto.step-end) in
    stops_here c.args.flat.now c.args.spot.now c.loop-step.earlier c.loop-step.walker c.loop-step.step c.loop-step.invariant c.args.most lt
    (ap is_quiet_ask (sym c.ask.ensures) ∙ sym c.is_quiet.ensures ∙ c.if-not-is_quiet.true)

pub returns-then-eq : goal.returns-then-eq
returns-then-eq c =
    comes_round c.args.flat.now c.args.spot.now c.loop-step.earlier c.loop-step.walker c.answer.new.spot c.loop-step.step c.loop-step.invariant
    (ap is_quiet_ask (sym c.ask.ensures) ∙ sym c.is_quiet.ensures ∙ c.if-not-is_quiet.false) c.answer.ensures.answered c.answer.ensures.within
    (spot_same c.answer.new.spot c.loop-step.earlier (sym c.eq.ensures ∙ c.if-eq.true))

pub loop-step-preserved : goal.loop-step-preserved
loop-step-preserved c =
    let flat = c.args.flat.now in
    let spot = c.args.spot.now in
    let new = c.answer.new.spot in
    let count = c.loop-step.step + 1 in
    let on : Walked flat spot c.loop-step.earlier new count =
    walked_on flat spot c.loop-step.earlier c.loop-step.walker c.loop-step.step c.loop-step.invariant new
    (ap is_quiet_ask (sym c.ask.ensures) ∙ sym c.is_quiet.ensures ∙ c.if-not-is_quiet.false) c.answer.ensures.answered c.answer.ensures.within in
    elim c.if-step-again.branch [
      | then-step-again w ↦
          subst (λ (e : Spot). Walked flat spot e new count) (sym w.earlier-is) (afresh flat spot c.loop-step.earlier new count on)
      | else-step-again w ↦ subst (λ (e : Spot). Walked flat spot e new count) (sym w.earlier-is) on
    ]

pub returns : goal.returns
returns c =
    let all : c.loop-step.step ≡ c.args.most = omega (arith, c.loop-step-test.false, c.loop-step.auto.step-end) in
    subst (λ n. IsSome (after_quiets n (thread_at c.args.flat.now c.args.spot.now))) all
    (comes_so_far c.args.flat.now c.args.spot.now c.loop-step.earlier c.loop-step.walker c.loop-step.step c.loop-step.invariant)
