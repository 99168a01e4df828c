-- Inputs one after another.
use Rattle.std.proofs.Common.{◌≡◌, ℕ, ◌<◌, List, [], ◌∷◌, ◌++◌, refl, ap, ◌∙◌}
use Rattle.std.specs.Prelude.{Some}
use Rattle.std.proofs.lemmas.List.Sums.{fold-append}
use Rattle.lrc_program.specs.declared.Program.{Program}
use Rattle.lrc_protocol.specs.Node.{Node, OptionsRecord, fresh_node}
use Rattle.lrc_protocol.specs.Turn.{TurnRecord, done}
use Rattle.lrc_protocol.specs.Run.{Input, outcome_of}
use Rattle.lrc_protocol.specs.Follows.{local}
use Rattle.lrc_protocol.specs.Follows.{local_step}
use Rattle.lrc_protocol.specs.Follows.{local_after}
use Rattle.lrc_protocol.specs.Follows.{Local}
use Rattle.lrc_node_laws.specs.Reached.{LeadsTo, IsReached}

pub at_start : (program : Program) (nodes : ℕ) (options : OptionsRecord) (me : ℕ) → me < nodes
    → LeadsTo program nodes options me (record { node = fresh_node program nodes options me; turns = [] })
at_start program nodes options me lt = record { among = lt; inputs = []; made = refl }

-- one input more, if it is a turn
pub local_more : (program : Program) (nodes : ℕ) (options : OptionsRecord) (me : ℕ) (inputs : List Input) (l : Local)
    (input : Input) (turn : TurnRecord) (after : Node)
    → local program nodes options me inputs ≡ Some l → outcome_of l.node input ≡ done turn after
    → local program nodes options me (inputs ++ input ∷ []) ≡ Some (record { node = after; turns = l.turns ++ turn ∷ [] })
local_more program nodes options me inputs l input turn after made e =
    fold-append local_step (Some (record { node = fresh_node program nodes options me; turns = [] })) inputs (input ∷ [])
    ∙ ap (λ o. local_step o input) made
    ∙ ap (local_after l.turns) e

pub one_more : (program : Program) (nodes : ℕ) (options : OptionsRecord) (me : ℕ) (l : Local) (input : Input) (turn : TurnRecord) (after : Node)
    → LeadsTo program nodes options me l → outcome_of l.node input ≡ done turn after
    → LeadsTo program nodes options me (record { node = after; turns = l.turns ++ turn ∷ [] })
one_more program nodes options me l input turn after leads e = record {
  among = leads.among;
  inputs = leads.inputs ++ input ∷ [];
  made = local_more program nodes options me leads.inputs l input turn after leads.made e;
}

pub reached : (node : Node) (input : Input) (turn : TurnRecord) (after : Node) → IsReached node → outcome_of node input ≡ done turn after → IsReached after
reached node input turn after r e = record {
  program = r.program;
  nodes = r.nodes;
  options = r.options;
  me = r.me;
  turns = r.turns ++ turn ∷ [];
  leads = one_more r.program r.nodes r.options r.me (record { node = node; turns = r.turns }) input turn after r.leads e;
}
