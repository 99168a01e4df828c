-- The races of a run by groups: those whose first pairs are of the same lines and kinds.
use Rattle.std.specs.Prelude.{ℕ, ◌<◌, Bool, true, false, List, [], ◌∷◌, ◌++◌, Option, Some, None, codes, count_by, decimal, if◌then◌else◌, length, take}
use Rattle.std.specs.List.{list_any}
use Rattle.std.specs.Ordering.{eq_by_cmp}
use Rattle.lrc_trace.specs.declared.act.Act.{Act}
use Rattle.lrc_judge.specs.Races.{word_of}
use Rattle.lrc_judge.specs.declared.lanes.Pair.{Pair}
use Rattle.lrc_acts_text.specs.Acts.{act_at}
use Rattle.lrc_text.specs.Each.{each}
use Rattle.lrc_labels.specs.Reading.{Label}
use Rattle.lrc_labels.specs.Show.{numbered_word}
use Rattle.lrc_explain.specs.declared.site.Site.{Site}
use Rattle.lrc_explain.specs.Access.{access_text}
use Rattle.lrc_explain.specs.Site.{site_cmp, site_of}

-- whether a pair is of this site
abbrev pub is_of_site : List Act → (lines : List ℕ) → Site → Pair → Bool
is_of_site acts lines site pair = eq_by_cmp site_cmp (site_of acts lines pair) site

-- the first pair of a group at its place among these pairs: where none of those before is of its site
abbrev pub leader_at : List Act → (lines : List ℕ) → List Pair → ℕ → Pair → List Pair
leader_at acts lines pairs at pair = if list_any (is_of_site acts lines (site_of acts lines pair)) (take at pairs) then [] else pair ∷ []

-- the first pair of each group, in the order of the groups
abbrev pub leaders_of : List Act → (lines : List ℕ) → List Pair → List Pair
leaders_of acts lines pairs = each (leader_at acts lines pairs) pairs

-- both positions of a pair are those of acts
pub record IsWithin (acts : List Act) (pair : Pair) : Type 0 where
  pub earlier : pair.earlier < length acts
  pub later : pair.later < length acts

-- the kind of an access that writes, or not
abbrev pub access_kind_text : Bool → List ℕ
access_kind_text true = codes " write"
access_kind_text false = codes " read"

-- numbers with what they are of
unfoldable pub line_words : ℕ → List ℕ
line_words number = codes "race line " ++ decimal number

unfoldable pub later_line_words : ℕ → List ℕ
later_line_words number = codes ", line " ++ decimal number

unfoldable pub count_words : ℕ → List ℕ
count_words number = codes ": " ++ decimal number

-- a word by its number, and its label behind the number
unfoldable pub word_words : List Label → ℕ → List ℕ
word_words labels word = numbered_word labels (codes "  word ") word

-- the lines and kinds of a group, and how many races it has
abbrev pub site_line : Site → ℕ → List ℕ
site_line site count = line_words site.line ++ access_kind_text site.writes ++ later_line_words site.later_line ++ access_kind_text site.later_writes
    ++ count_words count ++ codes "\n"

-- the word that the two acts of a pair access, and what each did
abbrev pub pair_text : List Label → List Act → Pair → List ℕ
pair_text labels acts pair = word_words labels (word_of (act_at acts pair.later).deed) ++ codes ": " ++ access_text acts pair.earlier
    ++ codes ", " ++ access_text acts pair.later ++ codes "\n"

-- the two lines of a group of so many races, of which this is the least pair
abbrev pub group_text : List Label → List Act → (lines : List ℕ) → Pair → ℕ → List ℕ
group_text labels acts lines pair count = site_line (site_of acts lines pair) count ++ pair_text labels acts pair

-- the same, if there is such a number
abbrev pub group_if : List Label → List Act → (lines : List ℕ) → Pair → Option ℕ → List ℕ
group_if labels acts lines pair None = []
group_if labels acts lines pair (Some count) = group_text labels acts lines pair count

-- a group at the first of its pairs, where none of those before is of it
abbrev pub group_at : List Label → List Act → (lines : List ℕ) → List Pair → ℕ → Pair → List ℕ
group_at labels acts lines pairs at pair =
    let here = is_of_site acts lines (site_of acts lines pair) in
    if list_any here (take at pairs) then [] else group_text labels acts lines pair (count_by here pairs)

-- The groups of these pairs, each with its number of pairs and the first of them, in the order of the first ones.
abbrev pub groups_text : List Label → List Act → (lines : List ℕ) → List Pair → List ℕ
groups_text labels acts lines pairs = each (λ at pair. group_at labels acts lines pairs at pair) pairs
