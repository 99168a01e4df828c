-- The values that a read may give, as a list.
use Rattle.std.specs.Prelude.{ℕ, ◌↔◌, List, Contains}
use Rattle.std.specs.Ordering.{nat_cmp}
use Rattle.std.specs.List.Sorted.{IsStrictlySortedBy}
use Rattle.lrc_trace.specs.declared.act.Act.{Act}
use Rattle.lrc_trace.specs.Reading.{MayRead}

-- the list has exactly the values that a read of the word at position j may give, ascending, each once
pub record AreAllowed (run : List Act) (j word : ℕ) (values : List ℕ) : Type 0 where
  pub ascending : IsStrictlySortedBy nat_cmp values
  pub exact : (value : ℕ) → Contains values value ↔ MayRead run j word value
