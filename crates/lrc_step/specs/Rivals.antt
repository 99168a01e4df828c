-- The accesses that race with an act, by nodes.
use Rattle.std.specs.Prelude.{◌≡◌, ◌≢◌, ◌<◌, ℕ, List, MatchOption, Option, max, min, slice_get}
use Rattle.lrc_trace.specs.declared.act.Act.{Act}
use Rattle.lrc_explain.specs.Site.{site_of}
use Rattle.lrc_why.specs.Positions.{IsLeastRacing, IsRacing}
use Rattle.lrc_why.specs.Spread.{OfEach}
use Rattle.lrc_step.specs.declared.rivals.Rival.{Rival}

-- the rival is the node's least act that races with the act at the position, and the two are accesses of these lines
pub record IsRival (run : List Act) (lines : List ℕ) (position node : ℕ) (rival : Rival) : Type 0 where
  pub least : IsLeastRacing run node position rival.act
  pub site : rival.site ≡ site_of run lines (record { later = max position rival.act; earlier = min position rival.act })

-- the same, or none where no act of the node races with it
abbrev pub IsRivalIfAny : List Act → (lines : List ℕ) → (position node : ℕ) → Option Rival → Type 0
IsRivalIfAny run lines position node rival = MatchOption rival ((k : ℕ) → ¬ IsRacing run node position k) (IsRival run lines position node)

-- the rivals of the act at the position, by nodes
abbrev pub AreRivals : List Act → (lines : List ℕ) → (nodes position : ℕ) → List (Option Rival) → Type 0
AreRivals run lines nodes position rivals = OfEach nodes (IsRivalIfAny run lines position) rivals
