-- Turns as the events of a run make them, and as they are told from the logs of its nodes.
use Rattle.std.specs.Prelude.{◌≡◌, ◌⊎◌, ℕ, List, map}
use Rattle.lrc_protocol.specs.Pages.{Copy, invalid, valid, written}
use Rattle.lrc_protocol.specs.Run.{Input}
use Rattle.lrc_protocol.specs.Turn.{TurnRecord}
use Rattle.lrc_replay.specs.Turns.{Turn}
use Rattle.lrc_turns_text.specs.Turns.{Made}
use Rattle.lrc_world.specs.declared.turned.Turned.{Turned}

-- what makes a turn: its node, by an input; and its act and what it sends
pub record Step : Type 0 where
  pub node : ℕ
  pub input : Input
  pub turn : TurnRecord

abbrev pub step_made : Turn → Step
step_made turn = record { node = turn.node; input = turn.input; turn = turn.made }

abbrev pub step_told : Made → Step
step_told turn = record { node = turn.node; input = turn.entry.input; turn = turn.entry.turn }

-- the nodes that make turns, one after another
abbrev pub nodes_of : List Turned → List ℕ
nodes_of turned = map (λ turn. turn.node) turned

-- a copy that was valid or written is invalid now
pub record BecomesInvalid (before after : Copy) : Type 0 where
  pub was : ((values : List ℕ) × (before ≡ valid values)) ⊎ ((values : List ℕ) × (twin : List ℕ) × (before ≡ written values twin))
  pub values : List ℕ
  pub since : List ℕ
  pub is : after ≡ invalid values since
