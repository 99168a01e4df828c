-- The races of a picture: each group of a run's first pairs of races, by its least pair.
use Rattle.std.specs.Prelude.{ℕ, ◌+◌, Option, Some, List, [], ◌∷◌, ◌++◌, codes, decimal}
use Rattle.lrc_trace.specs.declared.act.Act.{Act}
use Rattle.lrc_judge.specs.Races.{word_of}
use Rattle.lrc_judge.specs.declared.lanes.Pair.{Pair}
use Rattle.lrc_acts_text.specs.Acts.{act_at}
use Rattle.lrc_text.specs.Each.{each}
use Rattle.lrc_explain.specs.Groups.{access_kind_text, leaders_of}
use Rattle.lrc_explain.specs.Site.{site_of}
use Rattle.lrc_explain.specs.declared.site.Site.{Site}
use Rattle.lrc_labels.specs.Reading.{Label}
use Rattle.lrc_labels.specs.Show.{word_label_text}
use Rattle.lrc_chart_build.specs.Course.{KnownRecord, shown_act}
use Rattle.lrc_chart_build.specs.Seen.{SeenRace}
use Rattle.lrc_chart_build.specs.declared.part.Place.{Place}

-- the lines and kinds of a group
abbrev pub label_of : Site → List ℕ
label_of site =
    codes "race line " ++ decimal site.line ++ access_kind_text site.writes ++ codes ", line " ++ decimal site.later_line ++ access_kind_text site.later_writes

-- the word of two acts, with its label, and their positions
abbrev pub hint_by : List Label → (word : ℕ) → Pair → List ℕ
hint_by labels word pair =
    codes "word " ++ decimal word ++ word_label_text labels word ++ codes ", act " ++ decimal pair.earlier ++ codes ", act " ++ decimal pair.later

abbrev pub hint_of : KnownRecord → Pair → List ℕ
hint_of known pair = hint_by known.labels (word_of (act_at known.acts pair.later).deed) pair

abbrev pub race_between : KnownRecord → (number : ℕ) → Pair → (from to : ℕ) → SeenRace
race_between known number pair from to = record {
  number = number;
  from = from;
  first = (act_at known.acts pair.earlier).node;
  to = to;
  second = (act_at known.acts pair.later).node;
  label = label_of (site_of known.acts known.lines pair);
  hint = hint_of known pair;
}

-- the same, if both acts are shown
abbrev pub race_if : KnownRecord → (number : ℕ) → Pair → (from to : Option ℕ) → List SeenRace
race_if known number pair (Some from) (Some to) = race_between known number pair from to ∷ []
race_if known number pair _ _ = []

abbrev pub race_at : KnownRecord → List Place → (number : ℕ) → Pair → List SeenRace
race_at known places number pair = race_if known number pair (shown_act places pair.earlier) (shown_act places pair.later)

-- Of each group the two acts of its least pair, where both are shown, in the order of the groups, which are numbered from 1, those too
-- that are not shown.
abbrev pub shown_races : KnownRecord → List Place → List SeenRace
shown_races known places = each (λ before pair. race_at known places (before + 1) pair) (leaders_of known.acts known.lines known.pairs)
