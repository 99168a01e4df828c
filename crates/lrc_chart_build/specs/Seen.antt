-- A picture, with its texts as lists.
use Rattle.std.specs.Prelude.{ℕ, Bool, List}
use Rattle.lrc_chart_model.specs.declared.picture.Arrow.{Arrow}
use Rattle.lrc_chart_model.specs.declared.picture.Band.{Band}
use Rattle.lrc_chart_model.specs.declared.picture.Kind.{Kind}
use Rattle.lrc_chart_model.specs.declared.picture.Lost.{Lost}
use Rattle.lrc_chart_model.specs.declared.picture.Race.{Race}
use Rattle.lrc_chart_model.specs.declared.picture.Row.{Row}
use Rattle.lrc_chart_model.specs.declared.picture.SourceLine.{SourceLine}

pub record SeenRow : Type 0 where
  pub number : ℕ
  pub column : ℕ
  pub kind : Kind
  pub words : List ℕ
  pub time : List ℕ
  pub invalid : List ℕ
  pub place : List ℕ
  pub hint : List ℕ
  pub closes : Bool
  pub circled : Bool

abbrev pub seen_row : Row → SeenRow
seen_row row = record {
  number = row.number;
  column = row.column;
  kind = row.kind;
  words = row.words.items;
  time = row.time.items;
  invalid = row.invalid.items;
  place = row.place.items;
  hint = row.hint.items;
  closes = row.closes;
  circled = row.circled;
}

pub record SeenArrow : Type 0 where
  pub from : ℕ
  pub sender : ℕ
  pub to : ℕ
  pub receiver : ℕ
  pub again : Bool
  pub label : List ℕ
  pub hint : List ℕ

abbrev pub seen_arrow : Arrow → SeenArrow
seen_arrow arrow = record {
  from = arrow.from;
  sender = arrow.sender;
  to = arrow.to;
  receiver = arrow.receiver;
  again = arrow.again;
  label = arrow.label.items;
  hint = arrow.hint.items;
}

pub record SeenLost : Type 0 where
  pub from : ℕ
  pub sender : ℕ
  pub receiver : ℕ
  pub label : List ℕ
  pub hint : List ℕ

abbrev pub seen_lost : Lost → SeenLost
seen_lost lost = record {
  from = lost.from;
  sender = lost.sender;
  receiver = lost.receiver;
  label = lost.label.items;
  hint = lost.hint.items;
}

pub record SeenBand : Type 0 where
  pub from : ℕ
  pub to : ℕ
  pub label : List ℕ

abbrev pub seen_band : Band → SeenBand
seen_band band = record { from = band.from; to = band.to; label = band.label.items }

pub record SeenRace : Type 0 where
  pub number : ℕ
  pub from : ℕ
  pub first : ℕ
  pub to : ℕ
  pub second : ℕ
  pub label : List ℕ
  pub hint : List ℕ

abbrev pub seen_race : Race → SeenRace
seen_race race = record {
  number = race.number;
  from = race.from;
  first = race.first;
  to = race.to;
  second = race.second;
  label = race.label.items;
  hint = race.hint.items;
}

pub record SeenLine : Type 0 where
  pub words : List ℕ
  pub marked : Bool

abbrev pub seen_line : SourceLine → SeenLine
seen_line line = record { words = line.words.items; marked = line.marked }
