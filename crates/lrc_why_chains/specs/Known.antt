-- What is known of a node at a position, and where a node first knows of a position.
use Rattle.std.specs.Prelude.{ℕ, ◌≤◌, List}
use Rattle.lrc_trace.specs.declared.act.Act.{Act}
use Rattle.lrc_trace.specs.declared.act.Deed.{Deed}
use Rattle.lrc_trace.specs.Run.{Does}
use Rattle.lrc_trace.specs.Order.{HappensBefore}

-- the node acts at this position
abbrev pub IsActOf : List Act → ℕ → ℕ → Type 0
IsActOf run node k = (d : Deed) × Does run k node d

-- The last act of the node that is known at a position, that is, that happens before it.
pub record IsLastKnown (run : List Act) (node position last : ℕ) : Type 0 where
  pub acts : IsActOf run node last
  pub known : HappensBefore run last position
  pub none_later : (k : ℕ) → IsActOf run node k → HappensBefore run k position → k ≤ last

-- The first act of the node at which a position is known.
pub record IsFirstKnowing (run : List Act) (node position first : ℕ) : Type 0 where
  pub acts : IsActOf run node first
  pub knows : HappensBefore run position first
  pub none_earlier : (k : ℕ) → IsActOf run node k → HappensBefore run position k → first ≤ k
