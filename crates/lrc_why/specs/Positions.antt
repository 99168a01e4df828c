-- Acts of which something is so, and the words that they write.
use Rattle.std.specs.Prelude.{◌≡◌, ℕ, ◌<◌, ◌≤◌, ◌⊎◌, ◌↔◌, IsTrue, List, Option, Some, None, Contains}
use Rattle.std.specs.Ordering.{nat_cmp}
use Rattle.std.specs.List.Sorted.{IsStrictlySortedBy}
use Rattle.lrc_trace.specs.declared.act.Act.{Act}
use Rattle.lrc_trace.specs.declared.act.Deed.{Deed}
use Rattle.lrc_trace.specs.Run.{Does}
use Rattle.lrc_trace.specs.Order.{HappensBefore, Reaches}
use Rattle.lrc_trace.specs.Conflict.{Races}
use Rattle.lrc_trace.specs.Interval.{closes, interval_at}
use Rattle.lrc_why_chains.specs.Known.{IsActOf}
use Rattle.lrc_why_chains.specs.Writes.{IsWrite}
use Rattle.lrc_why.specs.declared.positions.Which.{Which}
use Rattle.lrc_why.specs.declared.positions.Which.TheVariants.{RacingOf, ClosingOf, BesideIn, NewOf}

-- an act of the node that races with the one at the position, earlier or later
pub record IsRacing (run : List Act) (node position k : ℕ) : Type 0 where
  pub acts : IsActOf run node k
  pub races : Races run k position ⊎ Races run position k

-- the first of them
pub record IsLeastRacing (run : List Act) (node position k : ℕ) : Type 0 where
  pub racing : IsRacing run node position k
  pub least : (m : ℕ) → IsRacing run node position m → k ≤ m

-- an act that closes an interval of the node, and is the one at the position or known at it
pub record IsClosed (run : List Act) (node position k : ℕ) : Type 0 where
  pub deed : Deed
  pub does : Does run k node deed
  pub closes : IsTrue (closes deed)
  pub reaches : Reaches run k position

-- an act of the node that acts at the position, in the same interval
pub record IsBeside (run : List Act) (position k : ℕ) : Type 0 where
  pub node : ℕ
  pub acts : IsActOf run node position
  pub beside : IsActOf run node k
  pub interval : interval_at run node k ≡ interval_at run node position

-- an act of the node that is known at the position, and at no earlier act of the acting node
pub record IsNew (run : List Act) (acting node position k : ℕ) : Type 0 where
  pub acts : IsActOf run node k
  pub known : HappensBefore run k position
  pub first : (m : ℕ) → IsActOf run acting m → m < position → ¬ HappensBefore run k m

-- not known at this position, if there is one
abbrev pub IsUnknownAt : List Act → ℕ → Option ℕ → Type 0
IsUnknownAt run k None = Unit {0}
IsUnknownAt run k (Some before) = ¬ HappensBefore run k before

-- an act of the node that is known at the position, and not at the earlier one
pub record IsNewBehind (run : List Act) (node position : ℕ) (before : Option ℕ) (k : ℕ) : Type 0 where
  pub acts : IsActOf run node k
  pub known : HappensBefore run k position
  pub unknown : IsUnknownAt run k before

-- the positions that are named are those of acts
abbrev pub IsWithin : ℕ → Which → Type 0
IsWithin count (RacingOf node position) = position < count
IsWithin count (BesideIn position) = position < count
IsWithin count _ = Unit {0}

-- the acts that are asked for
abbrev pub IsAsked : List Act → Which → ℕ → Type 0
IsAsked run (RacingOf node position) k = IsRacing run node position k
IsAsked run (ClosingOf node position) k = IsClosed run node position k
IsAsked run (BesideIn position) k = IsBeside run position k
IsAsked run (NewOf node position before) k = IsNewBehind run node position before k

-- the list has exactly the words that these acts write, ascending, each once
pub record AreWordsOf (run : List Act) (IsSo : ℕ → Type 0) (words : List ℕ) : Type 0 where
  pub ascending : IsStrictlySortedBy nat_cmp words
  pub exact : (word : ℕ) → Contains words word ↔ ((k : ℕ) × IsSo k × IsWrite run word k)
