-- Events by which the nodes make an exact run that has one of the outcomes of a program.
use Rattle.std.specs.Prelude.{◌≡◌, ℕ, List, Option, Some, None}
use Rattle.lrc_program.specs.declared.Program.{Program}
use Rattle.lrc_trace.specs.declared.act.Act.{Act}
use Rattle.lrc_protocol.specs.declared.event.Event.{Event}
use Rattle.lrc_protocol.specs.Node.{OptionsRecord}
use Rattle.lrc_events.specs.Writing.{events_text}
use Rattle.lrc_exact.specs.Rule.{Shape}
use Rattle.lrc_exact_events.specs.Drained.{MakesInTurn}
use Rattle.lrc_exact_text.specs.One.{HasFewerExactOutcomes, IsNumberedExactRun}

-- the text has a line for each of the events by which nodes with these options make the acts
pub record ShowsEvents (program : Program) (nodes : ℕ) (options : OptionsRecord) (acts : List Act) (out : List ℕ) : Type 0 where
  pub events : List Event
  pub makes : MakesInTurn program nodes options acts events
  pub is : out ≡ events_text events

-- so it does of an exact run that has the outcome of this number
pub record TellsNumberedExactEvents (program : Program) (shape : Shape) (options : OptionsRecord) (number : ℕ) (out : List ℕ) : Type 0 where
  pub acts : List Act
  pub is : IsNumberedExactRun program shape number acts
  pub shows : ShowsEvents program shape.nodes options acts out

-- such a text, where there are as many outcomes
abbrev pub TellsExactEventsOfNumber : Program → Shape → OptionsRecord → (number : ℕ) → Option (List ℕ) → Type 0
TellsExactEventsOfNumber program shape options number (Some out) = TellsNumberedExactEvents program shape options number out
TellsExactEventsOfNumber program shape options number None = HasFewerExactOutcomes program shape number
