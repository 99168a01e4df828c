-- What an act is about.
use Rattle.std.specs.Prelude.{ℕ, ◌+◌, ◌<◌, ◌≤◌, List, Option, MatchOption}
use Rattle.lrc_trace.specs.declared.act.Act.{Act}
use Rattle.lrc_trace.specs.declared.act.Cause.{Cause}
use Rattle.lrc_trace.specs.declared.act.Deed.{Deed}
use Rattle.lrc_trace.specs.declared.act.Deed.TheVariants.{Quiet, Print, Read, Write, Acquire, Release, Arrive, Depart, Trap, End}
use Rattle.lrc_trace.specs.Run.{IsDone, arrives_before, departs_before}
use Rattle.lrc_why.specs.declared.reasons.About.{About}
use Rattle.lrc_why.specs.declared.reasons.About.TheVariants.{Nothing, Trapped, Gives, Follows, Comes, GoesOn}
use Rattle.lrc_why.specs.declared.reasons.Gift.{Gift}
use Rattle.lrc_why.specs.Sources.{IsGift}

-- the lock is released there, before the position
abbrev pub IsEarlierRelease : List Act → ℕ → ℕ → ℕ → Type 0
IsEarlierRelease run l position k = (k < position) × IsDone run k (Release l)

-- the last release of the lock before the position, by any node
pub record IsLastRelease (run : List Act) (l position k : ℕ) : Type 0 where
  pub release : IsEarlierRelease run l position k
  pub last : (m : ℕ) → IsEarlierRelease run l position m → m ≤ k

-- What an act of the node is about, by its deed.
pub data IsAbout (run : List Act) (node position : ℕ) : Deed → About → Type 0 where
  -- a trap has its cause,
  trapped : {cause : Cause} → IsAbout run node position (Trap cause) (Trapped cause)
  -- a read gives a value,
  gives : {word value : ℕ} {gift : Gift} → IsGift run node position word value gift → IsAbout run node position (Read word value) (Gives gift)
  -- an acquire follows the last release of its lock, if there is one,
  follows : {l : ℕ} {release : Option ℕ} → MatchOption release ((k : ℕ) → ¬ IsEarlierRelease run l position k) (IsLastRelease run l position)
      → IsAbout run node position (Acquire l) (Follows release)
  -- an arrive and a depart have the number of their barrier, from 1,
  comes : IsAbout run node position Arrive (Comes (arrives_before run node position + 1))
  goes_on : IsAbout run node position Depart (GoesOn (departs_before run node position + 1))
  -- and of other deeds nothing is said.
  quiet : IsAbout run node position Quiet Nothing
  print : {value : ℕ} → IsAbout run node position (Print value) Nothing
  write : {word value : ℕ} → IsAbout run node position (Write word value) Nothing
  release : {l : ℕ} → IsAbout run node position (Release l) Nothing
  end : IsAbout run node position End Nothing
