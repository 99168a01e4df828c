-- Conflicting accesses, and races.
use Rattle.std.specs.Prelude.{◌≢◌, ℕ, ◌<◌, ◌≤◌, ◌⊎◌, List}
use Rattle.lrc_trace.specs.declared.act.Act.{Act}
use Rattle.lrc_trace.specs.declared.act.Deed.TheVariants.{Read, Write}
use Rattle.lrc_trace.specs.Run.{Does}
use Rattle.lrc_trace.specs.Order.{HappensBefore}

-- at this position the node writes the word, or reads it
abbrev pub Writes : List Act → ℕ → ℕ → ℕ → Type 0
Writes run position node word = (value : ℕ) × Does run position node (Write word value)

abbrev pub Reads : List Act → ℕ → ℕ → ℕ → Type 0
Reads run position node word = (value : ℕ) × Does run position node (Read word value)

-- an access is a read or a write
abbrev pub Accesses : List Act → ℕ → ℕ → ℕ → Type 0
Accesses run position node word = Reads run position node word ⊎ Writes run position node word

-- accesses of two nodes to one word, at least one of them a write
pub record ConflictAt (run : List Act) (i p j q word : ℕ) : Type 0 where
  pub apart : p ≢ q
  pub first : Accesses run i p word
  pub second : Accesses run j q word
  pub writes : Writes run i p word ⊎ Writes run j q word

abbrev pub Conflict : List Act → ℕ → ℕ → Type 0
Conflict run i j = (p : ℕ) × (q : ℕ) × (word : ℕ) × ConflictAt run i p j q word

-- a race: two conflicting accesses, of which the earlier does not happen before the later
pub record Races (run : List Act) (i j : ℕ) : Type 0 where
  pub earlier : i < j
  pub conflict : Conflict run i j
  pub unordered : ¬ HappensBefore run i j

-- no two conflicting accesses are unordered
abbrev pub IsRaceFree : List Act → Type 0
IsRaceFree run = (i j : ℕ) → ¬ Races run i j

-- the first race: the least position that races with an earlier one
pub record IsFirstRace (run : List Act) (position : ℕ) : Type 0 where
  pub with : ℕ
  pub races : Races run with position
  pub least : (i j : ℕ) → Races run i j → position ≤ j
