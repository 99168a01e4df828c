use Rattle.std.proofs.Common.{◌≡◌, ◌∙◌, ap, sym, subst}
use Rattle.lrc_protocol.specs.Turn.{run_turn, done}
use Rattle.lrc_protocol.specs.Run.{run}
use Rattle.lrc_node_laws.specs.Traced.{IsTraced}
use Rattle.lrc_node_laws.proofs.Noting.{traced_turn}
use Rattle.lrc_node.specs.Node.{TracedNode, wish_of}
use Rattle.lrc_node.proofs.Outcomes.{seen_there, seen_turn, seen_wishing}
use Rattle.lrc_node.proofs.node.Node.run_quietly.Goals as goal

pub run_quietly-requires : goal.run_quietly-requires
run_quietly-requires c =
    (seen_wishing c.self.inside.failed c.self.inside.state (ap (λ (t : TracedNode). wish_of t.node) c.self.view_is ∙ c.requires)).1

pub invariant_of-self : goal.invariant_of-self
invariant_of-self c = λ e.
    subst (IsTraced c.run_quietly.new.self) (c.run_quietly.ensures.quiet c.self.inside.trace)
    (traced_turn c.self.inside.state c.self.inside.trace run c.run_quietly.result c.run_quietly.new.self (c.self.invariant e) c.run_quietly.ensures.done)

pub returns : goal.returns
returns c = λ node e.
    let fine = (seen_wishing c.self.inside.failed c.self.inside.state (ap (λ (t : TracedNode). wish_of t.node) c.self.view_is ∙ c.requires)).0 in
    let same = seen_there c.self.inside.failed c.self.inside.state node c.self.inside.trace c.args.self.now fine c.self.view_is e in (
      c.run_quietly.new.self,
      subst (λ n. run_turn n ≡ done c.run_quietly.result c.run_quietly.new.self) same c.run_quietly.ensures.done,
      seen_turn c.self.inside.failed c.self.inside.state c.run_quietly.new.self c.self.inside.trace c.self.inside.trace c.args.self.now
          c.run_quietly.result fine c.self.view_is (sym (c.run_quietly.ensures.quiet c.self.inside.trace)),
    )
