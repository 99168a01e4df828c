-- The rows of a picture of acts.
use Rattle.std.specs.Prelude.{ℕ, false, List, [], ◌∷◌, Some, take}
use Rattle.lrc_trace.specs.declared.act.Act.{Act}
use Rattle.lrc_acts_text.specs.Acts.{act_at}
use Rattle.lrc_text.specs.Each.{each}
use Rattle.lrc_chart_build.specs.Course.{KnownRecord}
use Rattle.lrc_chart_build.specs.Seen.{SeenRow}
use Rattle.lrc_chart_build.specs.Words.{act_closes, act_place_text, act_words, deed_kind, hint_text, new_time_text}
use Rattle.lrc_chart_build.specs.declared.part.Place.{Place}

-- the row at a place, which is of this act
abbrev pub act_row : KnownRecord → List Place → (at : ℕ) → Place → Act → SeenRow
act_row known places at place act = record {
  number = place.number;
  column = act.node;
  kind = deed_kind act.deed;
  words = act_words known place.act act.deed;
  time = new_time_text known (take at places) act.node place.act;
  invalid = [];
  place = act_place_text known act.node place.act;
  hint = hint_text known place.act;
  closes = act_closes (Some act);
  circled = false;
}

abbrev pub act_rows : KnownRecord → List Place → List SeenRow
act_rows known places = each (λ at place. act_row known places at place (act_at known.acts place.turn) ∷ []) places
