-- What the code keeps of the turns so far.
use Rattle.std.specs.Prelude.{◌≡◌, ℕ, List}
use Rattle.lrc_turns_text.specs.Told.{holds_key}
use Rattle.lrc_turns_text.specs.Turns.{Made}
use Rattle.lrc_turns_text.specs.TurnsText.{acts_in, has_taken}
use Rattle.lrc_bytes_turns.specs.declared.seen.Seen.{Seen}

-- how many of these turns made an act, and what was taken in them
pub record Sees (turns : List Made) (seen : Seen) : Type 0 where
  pub acts : seen.acts ≡ acts_in turns
  pub taken : (node from number : ℕ) → holds_key seen.taken.keys node from number ≡ has_taken turns node from number
