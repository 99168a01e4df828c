-- What the code keeps of the turns that were told.
use Rattle.std.specs.Prelude.{◌≡◌, ℕ, ◌<◌, ◌==◌, ◌&&◌, Bool, false, List, slice_index}
use Rattle.std.specs.List.{list_any}
use Rattle.lrc_protocol.specs.Run.{Input, run, taken}
use Rattle.lrc_turns_text.specs.declared.told.Told.{Told}
use Rattle.lrc_turns_text.specs.Turns.{Made, made_by}
use Rattle.lrc_turns_text.specs.TurnsText.{acts_in, has_taken}

-- one of these is this receiver, with this sender and number
abbrev pub holds_key : List (ℕ × (ℕ × ℕ)) → (node from number : ℕ) → Bool
holds_key keys node from number = list_any (λ key. (node == key.0) && ((from == key.1.0) && (number == key.1.1))) keys

-- what an input of a node takes is among them
abbrev pub holds_input : List (ℕ × (ℕ × ℕ)) → (node : ℕ) → Input → Bool
holds_input keys node run = false
holds_input keys node (taken envelope) = holds_key keys node envelope.from envelope.number

-- how many of the turns each node made, how many made an act, and what was taken in them
pub record Tells (turns : List Made) (told : Told) : Type 0 where
  pub made : (node : ℕ) → node < 256 → slice_index told.made node ≡ made_by node turns
  pub acts : told.acts ≡ acts_in turns
  pub taken : (node from number : ℕ) → holds_key told.taken.keys node from number ≡ has_taken turns node from number
