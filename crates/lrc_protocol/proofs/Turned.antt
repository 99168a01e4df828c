-- What a turn of a node is: its text moves on by its act, and its messages go on in number.
use Rattle.std.proofs.Common.{◌≡◌, ℕ, List, Bool, true, false, refl, subst, ap}
use Rattle.std.specs.Prelude.{Option, Some, None, option_map, if◌then◌else◌}
use Rattle.lrc_trace.specs.declared.act.Deed.{Deed}
use Rattle.lrc_trace.specs.Run.{act_of}
use Rattle.lrc_exec.specs.Meaning.{Setting, Next}
use Rattle.lrc_envelope.specs.Envelope.{EnvelopeRecord}
use Rattle.lrc_protocol.specs.Node.{numbered, Node, OptionsRecord, Effect}
use Rattle.lrc_protocol.specs.Turn.{begins, run_effect, charged, takes, TurnRecord, Outcome, done, not_ready, unexpected, worn, turn_with}
use Rattle.lrc_protocol.specs.Turn.{turn_of, turn_or, turn_by, take_anew, take_turn, taking, is_addressed, is_repeat, empty_turn}
use Rattle.lrc_protocol.specs.Run.{Input, run, taken, outcome_of}
use Rattle.lrc_protocol.proofs.Keeps.{Moves, stays, Kept, KeptIf, run-keeps, take-keeps}
use Rattle.lrc_protocol.proofs.Numbers.{AreNumbered, Numbered, are_numbered, nothing_sent}

-- a turn, and the node after it
pub record Turned (node : Node) (turn : TurnRecord) (after : Node) : Type 0 where
  pub setting : after.setting ≡ node.setting
  pub options : after.options ≡ node.options
  pub deed : Option Deed
  pub act : turn.act ≡ option_map (act_of node.setting.me) deed
  pub course : Moves node.course deed after.course
  pub numbers : AreNumbered node.options.first node.mail.sent turn.out after.mail.sent

-- where an outcome is a turn, it is one of these
abbrev pub Turns : Node → Outcome → Type 0
Turns node (done turn after) = Turned node turn after
Turns node not_ready = Unit {0}
Turns node unexpected = Unit {0}
Turns node worn = Unit {0}

turned_with : (node : Node) (effect : Effect) → Kept node effect
    → (n : Option (List EnvelopeRecord × List ℕ)) → Numbered effect.node.setting.me effect.node.options.first effect.node.mail.sent n
    → Turns node (turn_with effect n)
turned_with node effect k None h = tt
turned_with node effect k (Some (out, sent)) h = record {
  setting = k.setting;
  options = k.options;
  deed = effect.deed;
  act = ap (λ (s : Setting). option_map (act_of s.me) effect.deed) k.setting;
  course = k.course;
  numbers =
      subst (λ (o : OptionsRecord). AreNumbered o.first node.mail.sent out sent) k.options
      (subst (λ before. AreNumbered effect.node.options.first before out sent) k.sent_before h);
}

turned : (node : Node) (effect : Effect) → Kept node effect → Turns node (turn_of effect)
turned node effect k =
    turned_with node effect k
    (numbered effect.node.setting.me effect.node.options.first effect.node.mail.sent effect.letters)
    (are_numbered effect.node.setting.me effect.node.options.first effect.node.mail.sent effect.letters)

turned_if : (node : Node) (o : Option Effect) → KeptIf node o → Turns node (turn_or worn o)
turned_if node None k = tt
turned_if node (Some effect) k = turned node effect k

turned_by : (node : Node) (o : Option Next) → Turns node (turn_by node o)
turned_by node None = tt
turned_by node (Some next) = turned_if node (run_effect (charged node next) next) (run-keeps (charged node next) next)

addressed_or_not : (node : Node) (b : Bool) (o : Outcome) → Turns node o → Turns node (if b then o else unexpected)
addressed_or_not node true o h = h
addressed_or_not node false o h = tt

repeated_or_not : (node : Node) (b : Bool) (o : Outcome) → Turns node o → Turns node (if b then done empty_turn node else o)
repeated_or_not node true o h = record {
  setting = refl;
  options = refl;
  deed = None;
  act = refl;
  course = stays;
  numbers = nothing_sent node.options.first node.mail.sent;
}
repeated_or_not node false o h = h

taking_turns : (node : Node) (envelope : EnvelopeRecord) (o : Option Effect) → KeptIf (taking node envelope) o → Turns node (turn_or unexpected o)
taking_turns node envelope None k = tt
taking_turns node envelope (Some effect) k = turned node effect k

taken_turns : (node : Node) (envelope : EnvelopeRecord) → Turns node (take_turn node envelope)
taken_turns node envelope =
    addressed_or_not node (is_addressed node envelope) _
    (repeated_or_not node (is_repeat node envelope) (take_anew node envelope)
    (taking_turns node envelope (takes (taking node envelope) envelope.from envelope.message)
    (take-keeps (taking node envelope) envelope.from envelope.message)))

-- each input makes such a turn, or none
pub turns : (node : Node) (input : Input) → Turns node (outcome_of node input)
turns node run = turned_by node (begins node)
turns node (taken envelope) = taken_turns node envelope
