-- Intervals, and the races that a run names.
use Rattle.std.specs.Prelude.{◌≡◌, ℕ, ◌+◌, ◌<◌, ◌⊎◌, Bool, true, false, List, take}
use Rattle.lrc_trace.specs.declared.act.Act.{Act}
use Rattle.lrc_trace.specs.declared.act.Deed.{Deed}
use Rattle.lrc_trace.specs.declared.act.Deed.TheVariants.{Acquire, Release, Arrive}
use Rattle.lrc_trace.specs.declared.race.Race.{Race}
use Rattle.lrc_trace.specs.Run.{count_of}
use Rattle.lrc_trace.specs.Conflict.{ConflictAt, Races}

-- whether a deed ends an interval of its node
abbrev pub closes : Deed → Bool
closes (Acquire l) = true
closes (Release l) = true
closes Arrive = true
closes _ = false

-- the interval of a node's position: one plus the number of its earlier acquires, releases and arrives
abbrev pub interval_at : List Act → ℕ → ℕ → ℕ
interval_at run node position = 1 + count_of closes node (take position run)

-- The race names two racing positions by their nodes and intervals, the lower node first.
pub record Names (run : List Act) (race : Race) (i j : ℕ) : Type 0 where
  pub ascending : race.node_a < race.node_b
  pub conflict : ConflictAt run i race.node_a j race.node_b race.word
  pub races : Races run i j ⊎ Races run j i
  pub interval_a : race.interval_a ≡ interval_at run race.node_a i
  pub interval_b : race.interval_b ≡ interval_at run race.node_b j

-- the races named: those that some pair of racing positions gives
abbrev pub IsNamedRace : List Act → Race → Type 0
IsNamedRace run race = (i : ℕ) × (j : ℕ) × Names run race i j
