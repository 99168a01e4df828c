use Rattle.std.proofs.Common.{List, ◌∷◌, ◌++◌, [], length, ◌∙◌, ap}
use Rattle.std.proofs.lemmas.Result.{IfOk-from_err}
use Rattle.lrc_protocol.specs.Node.{Letter, Mail, Node}
use Rattle.lrc_protocol.specs.Turn.{letter}
use Rattle.lrc_node.specs.Seen.{node_of}
use Rattle.lrc_node.proofs.Kept.{kept_mail}
use Rattle.lrc_node.proofs.state.NodeState.letter.Goals as goal

pub invariant_of-self : goal.invariant_of-self
invariant_of-self c =
    kept_mail (node_of c.self.inside) c.letters-letters.new.self c.self.invariant
    (ap (λ (m : Mail). length m.sent) c.letters-letters.ensures.same) (ap (λ (m : Mail). length m.taken) c.letters-letters.ensures.same)

pub invariant_of-self-2 : goal.invariant_of-self-2
invariant_of-self-2 c =
    kept_mail (node_of c.self.inside) c.letters-letters.new.self c.self.invariant
    (ap (λ (m : Mail). length m.sent) c.letters-letters.ensures.same) (ap (λ (m : Mail). length m.taken) c.letters-letters.ensures.same)

pub returns-in_err-push-clause-letters : goal.returns-in_err-push-clause-letters
returns-in_err-push-clause-letters c = IfOk-from_err _ _ c.from_residual.ensures.0

pub returns-in_err-push-clause-same : goal.returns-in_err-push-clause-same
returns-in_err-push-clause-same c =
    ap (λ (m : Mail). let n : Node = record (node_of c.self.inside) { mail = m } in n) c.letters-letters.ensures.same ∙ c.self.view_is

pub returns-clause-letters : goal.returns-clause-letters
returns-clause-letters c =
    c.in_ok-push.ensures.items ∙ ap (λ (xs : List Letter). xs ++ (letter c.args.to c.args.message ∷ [])) c.letters-letters.ensures.empty

pub returns-clause-same : goal.returns-clause-same
returns-clause-same c =
    ap (λ (m : Mail). let n : Node = record (node_of c.self.inside) { mail = m } in n) c.letters-letters.ensures.same ∙ c.self.view_is
