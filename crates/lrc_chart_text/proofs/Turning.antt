-- The lines of a row, from their parts.
use Rattle.std.proofs.Common.{◌≡◌, ◌∙◌, ℕ, List, ap, ap₂, length}
use Rattle.lrc_chart_model.specs.declared.picture.Picture.{Picture}
use Rattle.lrc_chart_model.specs.declared.picture.Row.{Row}
use Rattle.lrc_chart_text.specs.declared.columns.Shape.{Shape}
use Rattle.lrc_chart_text.specs.Columns.{bars_margin, room_of, row_margin}
use Rattle.lrc_chart_text.specs.Lines.{headed, paragraph}
use Rattle.lrc_chart_text.specs.Phrases.{row_phrases}
use Rattle.lrc_chart_text.specs.Sketch.{shape_of, turn_lines}

pub turn_is : (picture : Picture) (number : ℕ) (row : Row) (columns room : ℕ) (shape : Shape) (first rest : List ℕ) (phrases : List (List ℕ))
    → columns ≡ length picture.columns.items → shape ≡ shape_of number row picture.arrows.items → first ≡ row_margin columns row.number shape
    → rest ≡ bars_margin (length picture.columns.items) → room ≡ room_of columns → phrases ≡ row_phrases picture number row
    → headed first rest (paragraph room phrases) ≡ turn_lines picture number row
turn_is picture number row columns room shape first rest phrases many shape_is first_is rest_is room_is phrases_are =
    let all = length picture.columns.items in
    let margin : first ≡ row_margin all row.number (shape_of number row picture.arrows.items) =
    first_is ∙ ap₂ (λ n s. row_margin n row.number s) many shape_is in
    let size : room ≡ room_of all = room_is ∙ ap room_of many in
    ap₂ (λ f r. headed f r (paragraph room phrases)) margin rest_is
    ∙ ap₂ (λ n p. headed (row_margin all row.number (shape_of number row picture.arrows.items)) (bars_margin all) (paragraph n p)) size phrases_are
