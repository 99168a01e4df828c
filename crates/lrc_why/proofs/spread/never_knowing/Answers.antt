use Rattle.std.proofs.Common.{inl, inr, sym, subst, arith}
use Rattle.lrc_trace.proofs.Positions.{Does-one_node}
use Rattle.lrc_why_chains.specs.Known.{IsActOf}
use Rattle.lrc_why_chains.proofs.Exactly.{below_same, below_push, below_all}
use Rattle.lrc_why.specs.Spread.{IsNeverKnowing}
use Rattle.lrc_why.proofs.spread.never_knowing.Goals as goal
use Rattle.lrc_why.proofs.spread.never_knowing.Goals.{then-is_never_knowing+in_ok-push, else-is_never_knowing}

pub loop-node-preserved : goal.loop-node-preserved
loop-node-preserved c =
    let run = c.args.acts.now in
    let n = c.loop-node.node in
    let IsSo = IsNeverKnowing run c.args.nodes c.args.acting c.args.position in
    let list = c.loop-node.never.items in
    elim c.if-is_never_knowing.branch [
      | then-is_never_knowing+in_ok-push w ↦
          let (apart, said) = w.if-is_never_knowing.ensures in
          let here : IsSo n = record {
            within = omega arith;
            other = λ e. apart (subst (λ m. IsActOf run m c.args.position) (sym e) c.requires.acting);
            never = said;
          } in
          rw w.never-is (below_push IsSo list _ n here w.in_ok-push.ensures.items c.loop-node.invariant)
      | else-is_never_knowing w ↦
          rw w.never-is (below_same IsSo list n (λ h. elim w.if-is_never_knowing.ensures [
            | inl acts ↦ let (d, there) = acts in let (e, here) = c.requires.acting in h.other (Does-one_node there here)
            | inr said ↦ said h.never
          ]) c.loop-node.invariant)
    ]

pub returns : goal.returns
returns c = below_all (IsNeverKnowing c.args.acts.now c.args.nodes c.args.acting c.args.position) c.loop-node.never.items c.loop-node.node
    (λ i h. let lt = h.within in omega arith) c.loop-node.invariant
