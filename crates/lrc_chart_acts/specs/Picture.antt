-- Acts from anywhere as a picture.
use Rattle.std.specs.Prelude.{◌≡◌, ◌<◌, ◌≤◌, ℕ, Option, Ok, Err, List, [], length, map}
use Rattle.lrc_trace.specs.declared.act.Act.{Act}
use Rattle.lrc_acts.specs.ActsText.{ReadsActs}
use Rattle.lrc_acts.specs.declared.reading.ActsFault.{ActsFault}
use Rattle.lrc_acts.specs.declared.reading.ActsFault.TheVariants as faults
use Rattle.lrc_acts.specs.declared.reading.LinedActs.{LinedActs}
use Rattle.lrc_judge.specs.FirstPairs.{AreFirstPairs}
use Rattle.lrc_judge.specs.Order.{IsOrderOf}
use Rattle.lrc_judge.specs.declared.order.Order.{Order}
use Rattle.lrc_labels.specs.Cut.{cut, divides}
use Rattle.lrc_labels.specs.declared.cut.Divider.TheVariants.{LineFeed}
use Rattle.lrc_judge_text.specs.Judgement.{CountsNodes}
use Rattle.lrc_acts_lines.specs.Named.{AreLinesTold}
use Rattle.lrc_chart_model.specs.declared.picture.Picture.{Picture}
use Rattle.lrc_chart_build.specs.Bands.{shown_bands}
use Rattle.lrc_chart_build.specs.Course.{KnownRecord}
use Rattle.lrc_chart_build.specs.Portrait.{MOST_SHOWN, column_names}
use Rattle.lrc_chart_build.specs.Races.{shown_races}
use Rattle.lrc_chart_build.specs.Seen.{seen_arrow, seen_band, seen_race, seen_row}
use Rattle.lrc_chart_build.specs.declared.part.Part.{Part}
use Rattle.lrc_chart_build.specs.declared.part.Place.{Place}
use Rattle.lrc_chart_acts.specs.Direct.{direct_arrows}
use Rattle.lrc_chart_acts.specs.Rows.{act_rows}
use Rattle.lrc_chart_acts.specs.Shown.{acts_shown}
use Rattle.lrc_chart_acts.specs.Times.{times_known}
use Rattle.lrc_chart_acts.specs.declared.fault.ActsChartFault.{ActsChartFault}
use Rattle.lrc_chart_acts.specs.declared.fault.ActsChartFault.TheVariants.{BadAct, LongActs, NoMemory, TooLong}

-- what is known of acts of which these rows are shown: they have no labels
pub record IsKnownOf (acts : List Act) (nodes : ℕ) (lines : List ℕ) (order : Order) (places : List Place) (known : KnownRecord) : Type 0 where
  pub acts_are : known.acts ≡ acts
  pub lines_are : known.lines ≡ lines
  pub times : known.times ≡ times_known order acts nodes places
  pub pairs : AreFirstPairs acts known.pairs
  pub labels : known.labels ≡ []

-- what a picture has of these rows, under the words of a command
pub record IsPictureOfActs (command : List ℕ) (nodes : ℕ) (order : Order) (known : KnownRecord) (places : List Place) (picture : Picture) : Type 0 where
  pub title : picture.title.items ≡ command
  pub columns : map (λ name. name.items) picture.columns.items ≡ column_names nodes
  pub rows : map seen_row picture.rows.items ≡ act_rows known places
  pub arrows : map seen_arrow picture.arrows.items ≡ direct_arrows order known.acts places
  pub lost : picture.lost.items ≡ []
  pub bands : map seen_band picture.bands.items ≡ shown_bands known.acts places
  pub races : map seen_race picture.races.items ≡ shown_races known places
  pub deadlocks : picture.deadlocks.items ≡ []
  pub beside : picture.source.items ≡ []

-- the picture of a part of these acts, of so many nodes, each with the line that is told of it
pub record IsPortraitOfActs (command : List ℕ) (nodes : ℕ) (acts : List Act) (lines : List ℕ) (part : Part) (picture : Picture) : Type 0 where
  pub order : Order
  pub order_is : IsOrderOf acts order
  pub known : KnownRecord
  pub known_is : IsKnownOf acts nodes lines order (acts_shown part acts) known
  pub picture_is : IsPictureOfActs command nodes order known (acts_shown part acts) picture

-- the picture of the acts that a text says, of so many nodes where that is given: no more are shown than a picture may show
pub record IsActsPortrait (command : List ℕ) (nodes : Option ℕ) (text : List ℕ) (part : Part) (picture : Picture) : Type 0 where
  pub lined : LinedActs
  pub says : ReadsActs nodes text (Ok lined)
  pub count : ℕ
  pub counted : CountsNodes nodes lined.acts.items count
  pub lines : List ℕ
  pub told : AreLinesTold (cut (divides LineFeed) text) lined.lines.items lines
  pub few : length (acts_shown part lined.acts.items) ≤ MOST_SHOWN
  pub portrait : IsPortraitOfActs command count lined.acts.items lines part picture

-- why there is no picture of the acts of a text
abbrev pub IsActsPortraitFault : Option ℕ → List ℕ → Part → ActsChartFault → Type 0
IsActsPortraitFault nodes text part LongActs = ReadsActs nodes text (Err faults.TooLong)
IsActsPortraitFault nodes text part (BadAct line) = ReadsActs nodes text (Err (faults.BadAct line))
IsActsPortraitFault nodes text part TooLong =
    (lined : LinedActs) × ReadsActs nodes text (Ok lined) × (MOST_SHOWN < length (acts_shown part lined.acts.items))
IsActsPortraitFault nodes text part NoMemory = Unit {0}

abbrev pub of_acts_fault : ActsFault → ActsChartFault
of_acts_fault faults.TooLong = LongActs
of_acts_fault (faults.BadAct line) = BadAct line
of_acts_fault faults.NoMemory = NoMemory
