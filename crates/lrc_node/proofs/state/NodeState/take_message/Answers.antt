use Rattle.std.proofs.Common.{◌≡◌, Some, sym, ◌∙◌, ap}
use Rattle.std.specs.Prelude.{Result, Ok, Err, IfOk}
use Rattle.lrc_envelope.specs.Records.{DepartRecord}
use Rattle.lrc_protocol.specs.Node.{Effect}
use Rattle.lrc_protocol.specs.Turn.{take_departure}
use Rattle.lrc_node.specs.Taking.{effect_of}
use Rattle.lrc_node.proofs.state.NodeState.take_message.Goals as goal

-- what is answered is made, and so there is an effect
some_made : {X E : Type 0} (r : Result X E) (effect : Effect) (seen : X → Effect) → IfOk r (λ x. effect ≡ seen x) → IfOk r (λ x. Some effect ≡ Some (seen x))
some_made (Ok x) effect seen e = ap Some e
some_made (Err x) effect seen e = tt

pub returns-in-Depart-clause-effect : goal.returns-in-Depart-clause-effect
returns-in-Depart-clause-effect c =
    let kind = ap (effect_of c.args.self.now c.args.from) c.in-Depart.is in
    let said = ap (λ (m : DepartRecord). Some (take_departure c.args.self.now m.collect m.time m.intervals)) (sym c.m.view_is) in
    rw (kind ∙ said) (some_made c.take_departure.result _ _ c.take_departure.ensures.effect)
