-- No line of a picture is longer than a terminal.
use Rattle.std.proofs.Common.{◌≤◌, ◌<◌, ℕ, List, [], ◌∷◌, ◌++◌, arith, length, refl}
use Rattle.std.specs.Prelude.{◌==◌, Bool, true, false, Vec, codes}
use Rattle.std.specs.declared.alloc.Global.{Global}
use Rattle.std.specs.List.{flat_map}
use Rattle.std.proofs.lemmas.Bool.{leb-true}
use Rattle.lrc_chart_model.specs.declared.picture.Band.{Band}
use Rattle.lrc_chart_model.specs.declared.picture.Picture.{Picture}
use Rattle.lrc_chart_model.specs.declared.picture.Race.{Race}
use Rattle.lrc_chart_model.specs.declared.picture.Row.{Row}
use Rattle.lrc_text.specs.Each.{each}
use Rattle.lrc_chart_text.specs.Columns.{band_margin, bars_margin, name_margin, room_of, row_margin}
use Rattle.lrc_chart_text.specs.Lines.{paragraph}
use Rattle.lrc_chart_text.specs.Phrases.{row_phrases, words_of_row}
use Rattle.lrc_chart_text.specs.Short.{AreShort, NoLineIsLonger}
use Rattle.lrc_chart_text.specs.Sketch.{all_deadlock_lines, all_race_lines, band_lines, begin_lines, deadlock_lines, end_lines, legend_lines, legend_messages, legend_others, legend_signs, lines_if}
use Rattle.lrc_chart_text.specs.Sketch.{loose_lines, name_lines, race_head, race_lines, row_lines, shape_of, title_lines, turn_lines}
use Rattle.lrc_chart_text.proofs.Lengths.{band_fits, bars_fit, headed_short, name_fits, paragraph_short, row_fits, short_both, short_each, short_flat, short_more, short_none, short_where}

loose_short : (phrases : List (List ℕ)) → AreShort 100 (loose_lines 98 phrases)
loose_short phrases = headed_short 100 98 [] (codes "  ") (paragraph 98 phrases) (omega arith) (omega arith) (paragraph_short 98 phrases)

legend_short : AreShort 100 legend_lines
legend_short =
    short_more 100 [] (legend_signs ∷ legend_messages ∷ legend_others ∷ [] ∷ []) (omega arith)
    (short_more 100 legend_signs (legend_messages ∷ legend_others ∷ [] ∷ []) (leb-true (length legend_signs) 100 refl)
    (short_more 100 legend_messages (legend_others ∷ [] ∷ []) (leb-true (length legend_messages) 100 refl)
    (short_more 100 legend_others ([] ∷ []) (leb-true (length legend_others) 100 refl) (short_more 100 [] [] (omega arith) (short_none 100)))))

if_short : (is_here : Bool) (lines : List (List ℕ)) → AreShort 100 lines → AreShort 100 (lines_if is_here lines)
if_short true lines are = are
if_short false lines are = short_none 100

races_short : (rows : List Row) (races : List Race) → AreShort 100 (all_race_lines rows races)
races_short rows [] = short_none 100
races_short rows (race ∷ races) =
    short_more 100 [] (flat_map (race_lines rows) (race ∷ races)) (omega arith)
    (short_flat 100 (race_lines rows) (race ∷ races)
    (λ one. loose_short (race_head rows one ∷ words_of_row rows one.from ∷ words_of_row rows one.to ∷ one.label.items ∷ one.hint.items ∷ [])))

deadlocks_short : (deadlocks : List (Vec ℕ Global)) → AreShort 100 (all_deadlock_lines deadlocks)
deadlocks_short [] = short_none 100
deadlocks_short (words ∷ more) =
    short_more 100 [] (flat_map deadlock_lines (words ∷ more)) (omega arith)
    (short_flat 100 deadlock_lines (words ∷ more) (λ one. loose_short (one.items ∷ [])))

module _ (picture : Picture) (few : length picture.columns.items ≤ 16) where
  abbrev columns : ℕ
  columns = length picture.columns.items

  band_short : (end : List ℕ) (band : Band) → AreShort 100 (band_lines columns end band)
  band_short end band =
      let phrases = (band.label.items ++ end) ∷ [] in
      headed_short 100 (room_of columns) (band_margin columns) (bars_margin columns) (paragraph (room_of columns) phrases) (band_fits columns few)
      (bars_fit columns few) (paragraph_short (room_of columns) phrases)

  turn_short : (number : ℕ) (row : Row) → row.number < 10000 → AreShort 100 (turn_lines picture number row)
  turn_short number row low =
      let phrases = row_phrases picture number row in
      let shape = shape_of number row picture.arrows.items in
      headed_short 100 (room_of columns) (row_margin columns row.number shape) (bars_margin columns) (paragraph (room_of columns) phrases)
      (row_fits columns few row.number shape low) (bars_fit columns few) (paragraph_short (room_of columns) phrases)

  row_short : (number : ℕ) (row : Row) → row.number < 10000 → AreShort 100 (row_lines picture number row)
  row_short number row low =
      short_both 100 (begin_lines picture number ++ turn_lines picture number row) (end_lines picture number)
      (short_both 100 (begin_lines picture number) (turn_lines picture number row)
      (short_flat 100 (λ (band : Band). lines_if (band.from == number) (band_lines columns (codes " from here") band)) picture.bands.items
      (λ band. if_short (band.from == number) (band_lines columns (codes " from here") band) (band_short (codes " from here") band))) (turn_short number row low))
      (short_flat 100 (λ (band : Band). lines_if (band.to == number) (band_lines columns (codes " to here") band)) picture.bands.items
      (λ band. if_short (band.to == number) (band_lines columns (codes " to here") band) (band_short (codes " to here") band)))

  names_short : AreShort 100 (each (name_lines columns) picture.columns.items)
  names_short =
      short_each 100 (name_lines columns) picture.columns.items (λ column name within.
      headed_short 100 (room_of columns) (name_margin columns column) (name_margin columns column) (paragraph (room_of columns) (name.items ∷ []))
      (name_fits columns few column within) (name_fits columns few column within) (paragraph_short (room_of columns) (name.items ∷ [])))

pub no_line_is_longer : NoLineIsLonger
no_line_is_longer picture few low =
    let above = title_lines picture.title.items ++ legend_lines in
    let names = each (name_lines (length picture.columns.items)) picture.columns.items in
    let rows = each (row_lines picture) picture.rows.items in
    short_both 100 (above ++ names ++ rows) (all_race_lines picture.rows.items picture.races.items ++ all_deadlock_lines picture.deadlocks.items)
    (short_both 100 (above ++ names) rows
    (short_both 100 above names
    (short_both 100 (title_lines picture.title.items) legend_lines (loose_short (picture.title.items ∷ [])) legend_short) (names_short picture few))
    (short_where 100 (λ (row : Row). row.number < 10000) (row_lines picture) picture.rows.items low (row_short picture few)))
    (short_both 100 (all_race_lines picture.rows.items picture.races.items) (all_deadlock_lines picture.deadlocks.items)
    (races_short picture.rows.items picture.races.items) (deadlocks_short picture.deadlocks.items))
