use Rattle.std.proofs.Common.{◌≡◌, Bool, Option, false, sym, ◌∙◌, ap, subst}
use Rattle.std.specs.Bool.{then_some}
use Rattle.lrc_trace.specs.declared.end.End.{End}
use Rattle.lrc_protocol.specs.Node.{Node}
use Rattle.lrc_protocol.specs.Turn.{take_turn, done}
use Rattle.lrc_protocol.specs.Run.{taken}
use Rattle.lrc_node_laws.specs.Traced.{IsTraced}
use Rattle.lrc_node_laws.proofs.Noting.{traced_turn}
use Rattle.lrc_node.specs.Fault.{is_final}
use Rattle.lrc_node.specs.Node.{AnswersTurn, seen_end, seen_node}
use Rattle.lrc_node.proofs.Takes.{answers_take, may_take, same_take}
use Rattle.lrc_node.proofs.Outcomes.{none_of, none_then, seen_ended, seen_there, seen_turn}
use Rattle.lrc_node.proofs.node.Node.take.Goals as goal

pub invariant_of-self : goal.invariant_of-self
invariant_of-self c = λ e.
    let fine = none_of c.self.inside.failed (sym c.is_some.ensures ∙ c.if-is_some.false) in
    subst (IsTraced c.take_noting.new.self) (sym c.in-Ok.ensures.noted)
    (traced_turn c.self.inside.state c.self.inside.trace (taken c.args.envelope.now) c.in-Ok.turn c.take_noting.new.self (c.self.invariant fine)
    c.in-Ok.ensures.done)

pub invariant_of-self-in-Err : goal.invariant_of-self-in-Err
invariant_of-self-in-Err c = λ e.
    let fine = none_of c.self.inside.failed (sym c.is_some.ensures ∙ c.if-is_some.false) in
    let left : c.then_some-self-inside.result ≡ then_some (is_final c.in-Err.fault) c.end-end.result =
    c.then_some-self-inside.ensures ∙ ap (λ (b : Bool). then_some b c.end-end.result) c.is_final.ensures in
    let going : is_final c.in-Err.fault ≡ false = none_then (is_final c.in-Err.fault) c.end-end.result (sym left ∙ e) in
    subst (IsTraced c.take_noting.new.self) (sym c.in-Err.ensures.kept)
    (subst (λ (n : Node). IsTraced n c.self.inside.trace) (sym (same_take c.self.inside.state c.take_noting.new.self c.in-Err.ensures.refused going))
    (c.self.invariant fine))

pub returns-in-Ok-clause-done : goal.returns-in-Ok-clause-done
returns-in-Ok-clause-done c = λ node e.
    let fine = none_of c.self.inside.failed (sym c.is_some.ensures ∙ c.if-is_some.false) in
    let same = seen_there c.self.inside.failed c.self.inside.state node c.self.inside.trace c.args.self.now fine c.self.view_is e in (
      c.take_noting.new.self,
      subst (λ n. take_turn n c.args.envelope.now ≡ done c.in-Ok.turn c.take_noting.new.self) same c.in-Ok.ensures.done,
      seen_turn c.self.inside.failed c.self.inside.state c.take_noting.new.self c.self.inside.trace c.take_noting.new.trace c.args.self.now c.in-Ok.turn
          fine c.self.view_is c.in-Ok.ensures.noted,
    )

pub returns-in-Err-clause-refused : goal.returns-in-Err-clause-refused
returns-in-Err-clause-refused c = λ node e.
    let fine = none_of c.self.inside.failed (sym c.is_some.ensures ∙ c.if-is_some.false) in
    let left : c.then_some-self-inside.result ≡ then_some (is_final c.in-Err.fault) c.end-end.result =
    c.then_some-self-inside.ensures ∙ ap (λ (b : Bool). then_some b c.end-end.result) c.is_final.ensures in
    let same = seen_there c.self.inside.failed c.self.inside.state node c.self.inside.trace c.args.self.now fine c.self.view_is e in
    subst (λ n. AnswersTurn (take_turn n c.args.envelope.now) n c.in-Err.fault (seen_node c.then_some-self-inside.result c.take_noting.new.self)) same
    (rw left (answers_take c.self.inside.state c.take_noting.new.self c.end-end.result c.in-Err.ensures.refused))

pub returns-in-Err-clause-ended : goal.returns-in-Err-clause-ended
returns-in-Err-clause-ended c =
    let fine = none_of c.self.inside.failed (sym c.is_some.ensures ∙ c.if-is_some.false) in
    let left : c.then_some-self-inside.result ≡ then_some (is_final c.in-Err.fault) c.end-end.result =
    c.then_some-self-inside.ensures ∙ ap (λ (b : Bool). then_some b c.end-end.result) c.is_final.ensures in
    ap (λ (o : Option End). seen_end o c.take_noting.new.self) left
    ∙ seen_ended c.self.inside.failed (is_final c.in-Err.fault) c.end-end.result c.self.inside.state c.take_noting.new.self c.self.inside.trace c.args.self.now
    fine c.self.view_is (λ f. c.end-end.ensures)
    (same_take c.self.inside.state c.take_noting.new.self c.in-Err.ensures.refused)

pub returns-in-Err-clause-fault : goal.returns-in-Err-clause-fault
returns-in-Err-clause-fault c = may_take c.args.envelope.now c.in-Err.ensures.refused
