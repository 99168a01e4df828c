-- A node that can make an act is found; where none is, the state is at rest.
use Rattle.std.proofs.Common.{◌≡◌, ◌∙◌, false, refl, sym, ap, arith}
use Rattle.std.specs.Prelude.{Option, Some, None, is_some, option_map}
use Rattle.std.proofs.lemmas.Bool.{true≢false}
use Rattle.lrc_exec.specs.States.{plain_at}
use Rattle.lrc_orders.proofs.Standing.{all_still, still_more}
use Rattle.lrc_orders.proofs.seen.is_still.Goals as goal

none_of : {A : Type 0} (o : Option A) → is_some o ≡ false → o ≡ None
none_of None e = refl
none_of (Some x) e = absurd (true≢false e)

pub loop-node-preserved : goal.loop-node-preserved
loop-node-preserved c =
    still_more (plain_at c.args.flat.now c.args.state.now) c.loop-node.node c.loop-node.invariant
    (sym c.next_deed.ensures ∙ none_of c.next_deed.result (sym c.is_some.ensures ∙ c.if-is_some.false))

pub returns-then-is_some : goal.returns-then-is_some
returns-then-is_some c = (
  λ no. absurd (true≢false (sym no)),
  λ still.
      sym (ap is_some (c.next_deed.ensures ∙ ap (option_map (λ step. step.0)) (still c.loop-node.node))) ∙ sym c.is_some.ensures ∙ c.if-is_some.true,
)

pub returns : goal.returns
returns c = (
  λ yields. all_still c.args.flat.now c.args.state.now c.loop-node.node
      (omega (arith, c.loop-node-test.false, c.loop-node.auto.node-end, c.len-node-end.ensures, c.args.state.now.spots.ok.0)) c.loop-node.invariant,
  λ still. refl,
)
