use Rattle.std.proofs.Common.{◌≡◌, ◌<◌, ℕ, ⊎_elim, arith, subst}
use Rattle.std.proofs.lemmas.Bool.{cases_eq}
use Rattle.lrc_why.specs.Positions.{IsRacing}
use Rattle.lrc_step.proofs.Nodes.{racing_below}
use Rattle.lrc_step.proofs.told.is_racer.Goals as goal

pub loop-node-preserved : goal.loop-node-preserved
loop-node-preserved c = λ node other less racing. ⊎_elim
    (λ (same : node ≡ c.loop-node.node). c.in_default.ensures other (subst (λ (n : ℕ). IsRacing c.args.acts.now n c.args.position other) same racing))
    (λ (apart : node ≡ c.loop-node.node → ⊥). c.loop-node.invariant node other (omega arith) racing)
    (cases_eq node c.loop-node.node)

pub returns : goal.returns
returns c = λ (node, other, racing).
    let less : node < c.args.nodes = racing_below c.args.acts.now c.args.nodes node c.args.position other c.requires.nodes racing in
    c.loop-node.invariant node other (omega arith) racing
