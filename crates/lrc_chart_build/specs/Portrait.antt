-- A run as a picture.
use Rattle.std.specs.Prelude.{◌≡◌, ℕ, Option, List, [], ◌∷◌, ◌++◌, codes, decimal, if◌then◌else◌, map}
use Rattle.std.specs.List.{flat_map, range_with_len}
use Rattle.lrc_chart_model.specs.declared.picture.Picture.{Picture}
use Rattle.lrc_chart_build.specs.Arrows.{shown_arrows, shown_lost}
use Rattle.lrc_chart_build.specs.Bands.{shown_bands}
use Rattle.lrc_chart_build.specs.Circles.{circled_nodes, deadlock_lines}
use Rattle.lrc_chart_build.specs.Course.{CourseRecord, rows_shown, shows_end}
use Rattle.lrc_chart_build.specs.Races.{shown_races}
use Rattle.lrc_chart_build.specs.Rows.{shown_rows}
use Rattle.lrc_chart_build.specs.Seen.{seen_arrow, seen_band, seen_line, seen_lost, seen_race, seen_row}
use Rattle.lrc_chart_build.specs.Source.{shown_source}
use Rattle.lrc_chart_build.specs.declared.part.Part.{Part}
use Rattle.lrc_chart_build.specs.declared.part.Place.{Place}

-- the name of a node's column
abbrev pub column_name : ℕ → List ℕ
column_name node = codes "node " ++ decimal node

-- the names of the columns of so many nodes
abbrev pub column_names : ℕ → List (List ℕ)
column_names nodes = flat_map (λ node. column_name node ∷ []) (range_with_len 0 nodes)

-- how many rows a picture has at most
abbrev pub MOST_SHOWN : ℕ
MOST_SHOWN = 2000

-- for whom nodes wait, where the end of the run is shown; else for nobody
abbrev pub waits_shown : CourseRecord → Part → List (Option ℕ)
waits_shown course part = if shows_end course part then course.waits else []

-- The picture of these rows of a run of so many nodes, which wait for others like this, under the words of a command, beside a text of
-- the program, if one is given.
pub record IsPictureOf (command : List ℕ) (nodes : ℕ) (course : CourseRecord) (waits : List (Option ℕ)) (places : List Place)
    (source : Option (List ℕ)) (picture : Picture) : Type 0 where
  pub title : picture.title.items ≡ command
  pub columns : map (λ name. name.items) picture.columns.items ≡ column_names nodes
  pub rows : map seen_row picture.rows.items ≡ shown_rows course (circled_nodes waits) places
  pub arrows : map seen_arrow picture.arrows.items ≡ shown_arrows course.turns places
  pub lost : map seen_lost picture.lost.items ≡ shown_lost course.turns places
  pub bands : map seen_band picture.bands.items ≡ shown_bands course.known.acts places
  pub races : map seen_race picture.races.items ≡ shown_races course.known places
  pub deadlocks : map (λ line. line.items) picture.deadlocks.items ≡ deadlock_lines waits
  pub beside : map seen_line picture.source.items ≡ shown_source course.known.lines places source

-- the picture of a part of a run
abbrev pub IsPortrait : (command : List ℕ) → (nodes : ℕ) → CourseRecord → Part → (source : Option (List ℕ)) → Picture → Type 0
IsPortrait command nodes course part source picture =
    IsPictureOf command nodes course (waits_shown course part) (rows_shown course part) source picture
