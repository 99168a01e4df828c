-- The trace of a node, input by input.
use Rattle.std.proofs.Common.{◌≡◌, ℕ, List, [], ◌∷◌, ◌++◌, refl, sym, ap, subst, ◌∙◌}
use Rattle.std.specs.Prelude.{Option, Some, None, fold}
use Rattle.std.proofs.lemmas.List.{map-append}
use Rattle.std.proofs.lemmas.List.Sums.{fold-append}
use Rattle.lrc_program.specs.declared.Program.{Program}
use Rattle.lrc_protocol.specs.Node.{Node, OptionsRecord, fresh_node}
use Rattle.lrc_protocol.specs.Turn.{TurnRecord, Outcome, done, not_ready, unexpected, worn}
use Rattle.lrc_protocol.specs.Run.{Input, EntryRecord, Logged, outcome_of}
use Rattle.lrc_protocol.specs.Follows.{local}
use Rattle.lrc_protocol.specs.Follows.{local_step}
use Rattle.lrc_protocol.specs.Follows.{local_after}
use Rattle.lrc_protocol.specs.Follows.{Local}
use Rattle.lrc_protocol.specs.Follows.{inputs_of, turns_of}
use Rattle.lrc_protocol.specs.Traced.{Traced, untraced, traced_by, traced_step, traced, with_act, trace_of}
use Rattle.lrc_protocol.proofs.Worlds.{IsEntry}

-- where all inputs are turns, the node is that of the turns
abbrev Agrees : Option Local → Traced → Type 0
Agrees None t = Unit {0}
Agrees (Some l) t = t.node ≡ l.node

agrees_by : (turns : List TurnRecord) (t : Traced) (o : Outcome) → Agrees (local_after turns o) (traced_by t o)
agrees_by turns t (done turn node) = refl
agrees_by turns t not_ready = tt
agrees_by turns t unexpected = tt
agrees_by turns t worn = tt

agrees_step : (o : Option Local) (t : Traced) (input : Input) → Agrees o t → Agrees (local_step o input) (traced_step t input)
agrees_step None t input a = tt
agrees_step (Some l) t input a =
    subst (λ (node : Node). Agrees (local_after l.turns (outcome_of node input)) (traced_step t input)) a
    (agrees_by l.turns t (outcome_of t.node input))

agrees : (inputs : List Input) (o : Option Local) (t : Traced) → Agrees o t → Agrees (fold local_step o inputs) (fold traced_step t inputs)
agrees [] o t a = a
agrees (input ∷ inputs) o t a = agrees inputs (local_step o input) (traced_step t input) (agrees_step o t input a)

-- the inputs of a node's turns leave it as the turns do
pub traced_node : (program : Program) (nodes : ℕ) (options : OptionsRecord) (me : ℕ) (inputs : List Input) (l : Local)
    → local program nodes options me inputs ≡ Some l → (traced (fresh_node program nodes options me) inputs).node ≡ l.node
traced_node program nodes options me inputs l e =
    let start : Node = fresh_node program nodes options me in
    subst (λ o. Agrees o (traced start inputs)) e (agrees inputs (Some (record { node = start; turns = [] })) (untraced start) refl)

-- one turn more
pub traced_more : (start : Node) (inputs : List Input) (input : Input) (turn : TurnRecord) (after : Node)
    → outcome_of (traced start inputs).node input ≡ done turn after
    → traced start (inputs ++ input ∷ []) ≡ record { node = after; trace = with_act after turn.act (traced start inputs).trace }
traced_more start inputs input turn after e =
    fold-append traced_step (untraced start) inputs (input ∷ []) ∙ ap (traced_by (traced start inputs)) e

-- one entry more in the log of a node that started like this
module _ (start : Node) (l after : Logged) (input : Input) (entry : EntryRecord) (i : IsEntry l input entry after)
    (at : (traced start (inputs_of l.log)).node ≡ l.node) where
  pub traced_entry : traced start (inputs_of after.log) ≡ record { node = after.node; trace = with_act after.node entry.turn.act (trace_of start l.log) }
  traced_entry =
      ap (λ log. traced start (inputs_of log)) i.log_is
      ∙ ap (traced start) (map-append (λ (x : EntryRecord). x.input) l.log (entry ∷ []))
      ∙ ap (λ x. traced start (inputs_of l.log ++ x ∷ [])) i.input_is
      ∙ traced_more start (inputs_of l.log) input entry.turn after.node
      (subst (λ (node : Node). outcome_of node input ≡ done entry.turn after.node) (sym at) i.turn_is)

-- the same of a node of a program
pub trace_more : (program : Program) (nodes : ℕ) (options : OptionsRecord) (me : ℕ) (l after : Logged) (input : Input) (entry : EntryRecord)
    → IsEntry l input entry after
    → local program nodes options me (inputs_of l.log) ≡ Some (record { node = l.node; turns = turns_of l.log })
    → trace_of (fresh_node program nodes options me) after.log
    ≡ with_act after.node entry.turn.act (trace_of (fresh_node program nodes options me) l.log)
trace_more program nodes options me l after input entry i replayed =
    ap (λ (t : Traced). t.trace)
    (traced_entry (fresh_node program nodes options me) l after input entry i (traced_node program nodes options me (inputs_of l.log) _ replayed))
