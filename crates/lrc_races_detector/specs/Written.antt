-- Whether a thread has written a variable.
use Rattle.std.specs.Prelude.{Bool, true, false, ◌||◌, List, [], ◌∷◌, Option, Some, None}
use Rattle.lrc_races_trace.specs.declared.event.Placed.{Placed}
use Rattle.lrc_races_detector.specs.declared.variables.Last.{Last}

abbrev pub is_written : Option Placed → Bool
is_written (Some write) = true
is_written None = false

abbrev pub any_written : List Last → Bool
any_written [] = false
any_written (last ∷ lasts) = is_written last.write || any_written lasts
