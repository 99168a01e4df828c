-- The lines of races, by the groups of the run with reasons.
use Rattle.std.specs.Prelude.{◌≡◌, ℕ, ◌+◌, Bool, List, [], ◌∷◌, ◌++◌, Some, None, filter, not}
use Rattle.std.specs.List.{list_any}
use Rattle.lrc_trace.specs.declared.act.Act.{Act}
use Rattle.lrc_judge.specs.declared.lanes.Pair.{Pair}
use Rattle.lrc_judge.specs.FirstPairs.{AreFirstPairs}
use Rattle.lrc_text.specs.Each.{each}
use Rattle.lrc_explain.specs.Groups.{is_of_site, leaders_of}
use Rattle.lrc_explain.specs.Site.{site_of}
use Rattle.lrc_step.specs.Lines.{race_line}
use Rattle.lrc_step.specs.declared.shown.Part.{Part}
use Rattle.lrc_step.specs.Shown.{AreShownPairs}

-- whether a pair is of the lines and kinds of another
abbrev pub is_beside : List Act → (lines : List ℕ) → Pair → Pair → Bool
is_beside acts lines one pair = is_of_site acts lines (site_of acts lines one) pair

-- the line of a group, with those pairs that are of it, and its two accesses
abbrev pub group_line : List Act → (lines : List ℕ) → List Pair → ℕ → Pair → List ℕ
group_line acts lines pairs place leader =
    race_line (Some (place + 1)) (Some (site_of acts lines leader)) (filter (is_beside acts lines leader) pairs)

-- whether a pair is of no group
abbrev pub is_alone : List Act → (lines : List ℕ) → (leaders : List Pair) → Pair → Bool
is_alone acts lines leaders pair = not (list_any (λ leader. is_beside acts lines leader pair) leaders)

-- the line of the pairs of no group, if there are some
abbrev pub rest_line : List Pair → List ℕ
rest_line [] = []
rest_line (pair ∷ pairs) = race_line None None (pair ∷ pairs)

-- the lines of the groups that these first pairs have, and of the pairs of no group
abbrev pub races_text : List Act → (lines : List ℕ) → (leaders pairs : List Pair) → List ℕ
races_text acts lines leaders pairs = each (group_line acts lines pairs) leaders ++ rest_line (filter (is_alone acts lines leaders) pairs)

-- The text tells the races of a part of a run: the pairs that are shown, by the groups of the first pairs of the run's races.
pub record TellsRaces (run : List Act) (lines : List ℕ) (part : Part) (text : List ℕ) : Type 0 where
  pub firsts : List Pair
  pub are_first : AreFirstPairs run firsts
  pub pairs : List Pair
  pub are_shown : AreShownPairs run part pairs
  pub whole : text ≡ races_text run lines (leaders_of run lines firsts) pairs
