use Rattle.std.proofs.Common.{inl, inr, sym, subst, arith}
use Rattle.lrc_trace.proofs.Positions.{Does-one_node}
use Rattle.lrc_why_chains.specs.Known.{IsActOf}
use Rattle.lrc_why_chains.proofs.Exactly.{below_same, below_push, below_all}
use Rattle.lrc_why.specs.Known.{IsUnknownNode}
use Rattle.lrc_why.proofs.known.unknown_nodes.Goals as goal
use Rattle.lrc_why.proofs.known.unknown_nodes.Goals.{then-is_unknown+in_ok-push, else-is_unknown}

pub loop-node-preserved : goal.loop-node-preserved
loop-node-preserved c =
    let run = c.args.acts.now in
    let n = c.loop-node.node in
    let IsSo = IsUnknownNode run c.args.nodes c.args.acting c.args.position in
    let list = c.loop-node.unknown.items in
    elim c.if-is_unknown.branch [
      | then-is_unknown+in_ok-push w ↦
          let (apart, said) = w.if-is_unknown.ensures in
          let here : IsSo n = record {
            within = omega arith;
            other = λ e. apart (subst (λ m. IsActOf run m c.args.position) (sym e) c.requires.acting);
            unknown = said;
          } in
          rw w.unknown-is (below_push IsSo list _ n here w.in_ok-push.ensures.items c.loop-node.invariant)
      | else-is_unknown w ↦
          rw w.unknown-is (below_same IsSo list n (λ h. elim w.if-is_unknown.ensures [
            | inl acts ↦ let (d, there) = acts in let (e, here) = c.requires.acting in h.other (Does-one_node there here)
            | inr said ↦ said h.unknown
          ]) c.loop-node.invariant)
    ]

pub returns : goal.returns
returns c = below_all (IsUnknownNode c.args.acts.now c.args.nodes c.args.acting c.args.position) c.loop-node.unknown.items c.loop-node.node
    (λ i h. let lt = h.within in omega arith) c.loop-node.invariant
