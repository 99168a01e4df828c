use Rattle.std.proofs.Common.{◌≡◌, Bool, Option, false, sym, ◌∙◌, ap, subst}
use Rattle.std.specs.Bool.{then_some}
use Rattle.lrc_trace.specs.declared.end.End.{End}
use Rattle.lrc_trace.specs.declared.end.End.TheVariants.{Unfinished}
use Rattle.lrc_protocol.specs.Node.{Node}
use Rattle.lrc_protocol.specs.Turn.{run_turn, done}
use Rattle.lrc_protocol.specs.Run.{run}
use Rattle.lrc_node_laws.specs.Traced.{IsTraced}
use Rattle.lrc_node_laws.proofs.Noting.{traced_turn}
use Rattle.lrc_node.specs.Fault.{is_final}
use Rattle.lrc_node.specs.Node.{AnswersTurn, TracedNode, seen_end, seen_node, wish_of}
use Rattle.lrc_node.proofs.Outcomes.{answers_run, may_run, none_of, none_then, same_run, seen_ended, seen_there, seen_turn}
use Rattle.lrc_node.proofs.Outcomes.{unfinished_failing, unready_goes_on}
use Rattle.lrc_node.proofs.node.Node.run_wish.Goals as goal

pub run_noting-requires-clause-wish : goal.run_noting-requires-clause-wish
run_noting-requires-clause-wish c =
    let fine = none_of c.self.inside.failed (sym c.is_some.ensures ∙ c.if-is_some.false) in
    c.requires
    ∙ sym (ap (λ (t : TracedNode). wish_of t.node) c.self.view_is)
    ∙ ap (λ (o : Option End). wish_of (seen_node o c.self.inside.state)) fine

pub invariant_of-self : goal.invariant_of-self
invariant_of-self c = λ e.
    let fine = none_of c.self.inside.failed (sym c.is_some.ensures ∙ c.if-is_some.false) in
    subst (IsTraced c.run_noting.new.self) (sym c.in-Ok.ensures.noted)
    (traced_turn c.self.inside.state c.self.inside.trace run c.in-Ok.turn c.run_noting.new.self (c.self.invariant fine) c.in-Ok.ensures.done)

pub invariant_of-self-in-Err : goal.invariant_of-self-in-Err
invariant_of-self-in-Err c = λ e.
    let fine = none_of c.self.inside.failed (sym c.is_some.ensures ∙ c.if-is_some.false) in
    let left : c.then_some-self-inside.result ≡ then_some (is_final c.in-Err.fault) Unfinished =
    c.then_some-self-inside.ensures ∙ ap (λ (b : Bool). then_some b Unfinished) c.is_final.ensures in
    let going : is_final c.in-Err.fault ≡ false = none_then (is_final c.in-Err.fault) Unfinished (sym left ∙ e) in
    subst (IsTraced c.run_noting.new.self) (sym c.in-Err.ensures.kept)
    (subst (λ (n : Node). IsTraced n c.self.inside.trace)
    (sym (same_run c.self.inside.state c.run_noting.new.self c.in-Err.ensures.refused (λ n. (c.run_noting.ensures.ready n).1) going))
    (c.self.invariant fine))

pub returns-in-Ok-clause-done : goal.returns-in-Ok-clause-done
returns-in-Ok-clause-done c = λ node e.
    let fine = none_of c.self.inside.failed (sym c.is_some.ensures ∙ c.if-is_some.false) in
    let same = seen_there c.self.inside.failed c.self.inside.state node c.self.inside.trace c.args.self.now fine c.self.view_is e in (
      c.run_noting.new.self,
      subst (λ n. run_turn n ≡ done c.in-Ok.turn c.run_noting.new.self) same c.in-Ok.ensures.done,
      seen_turn c.self.inside.failed c.self.inside.state c.run_noting.new.self c.self.inside.trace c.run_noting.new.trace c.args.self.now c.in-Ok.turn
          fine c.self.view_is c.in-Ok.ensures.noted,
    )

pub returns-in-Err-clause-refused : goal.returns-in-Err-clause-refused
returns-in-Err-clause-refused c = λ node e.
    let fine = none_of c.self.inside.failed (sym c.is_some.ensures ∙ c.if-is_some.false) in
    let left : c.then_some-self-inside.result ≡ then_some (is_final c.in-Err.fault) Unfinished =
    c.then_some-self-inside.ensures ∙ ap (λ (b : Bool). then_some b Unfinished) c.is_final.ensures in
    let same = seen_there c.self.inside.failed c.self.inside.state node c.self.inside.trace c.args.self.now fine c.self.view_is e in
    subst (λ n. AnswersTurn (run_turn n) n c.in-Err.fault (seen_node c.then_some-self-inside.result c.run_noting.new.self)) same
    (rw left (answers_run c.self.inside.state c.run_noting.new.self Unfinished c.in-Err.ensures.refused (λ n. (c.run_noting.ensures.ready n).1)))

pub returns-in-Err-clause-ended : goal.returns-in-Err-clause-ended
returns-in-Err-clause-ended c =
    let fine = none_of c.self.inside.failed (sym c.is_some.ensures ∙ c.if-is_some.false) in
    let left : c.then_some-self-inside.result ≡ then_some (is_final c.in-Err.fault) Unfinished =
    c.then_some-self-inside.ensures ∙ ap (λ (b : Bool). then_some b Unfinished) c.is_final.ensures in
    ap (λ (o : Option End). seen_end o c.run_noting.new.self) left
    ∙ seen_ended c.self.inside.failed (is_final c.in-Err.fault) Unfinished c.self.inside.state c.run_noting.new.self c.self.inside.trace c.args.self.now
    fine c.self.view_is (λ f. sym (unfinished_failing c.self.inside.state c.in-Err.fault
    (λ n. unready_goes_on c.run_noting.result c.in-Err.fault c.in-Err.is (c.run_noting.ensures.ready n).0) f))
    (same_run c.self.inside.state c.run_noting.new.self c.in-Err.ensures.refused (λ n. (c.run_noting.ensures.ready n).1))

pub returns-in-Err-clause-fault : goal.returns-in-Err-clause-fault
returns-in-Err-clause-fault c = may_run c.in-Err.ensures.refused
