-- Which one of two is told.
use Rattle.std.specs.Prelude.{Bool, ◌&&◌, ◌||◌, ◌==◌, Option, Some, None, if◌then◌else◌, nat_lt}
use Rattle.lrc_named_limits.specs.declared.excess.Excess.{Excess}
use Rattle.lrc_named_limits.specs.Limits.{rank_of}

abbrev pub precedes : Excess → Excess → Bool
precedes first other = nat_lt first.at other.at || ((first.at == other.at) && nat_lt (rank_of first.limit) (rank_of other.limit))

abbrev pub earlier : Option Excess → Option Excess → Option Excess
earlier None other = other
earlier (Some one) None = Some one
earlier (Some one) (Some other) = if precedes other one then Some other else Some one
