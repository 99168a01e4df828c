-- How long the lines of a picture are.
use Rattle.std.specs.Prelude.{ℕ, ◌≤◌, ◌<◌, All, List, length}
use Rattle.lrc_chart_model.specs.declared.picture.Picture.{Picture}
use Rattle.lrc_chart_text.specs.Sketch.{sketch_lines}

-- no line has more signs
abbrev pub AreShort : (most : ℕ) → List (List ℕ) → Type 0
AreShort most lines = All (λ line. length line ≤ most) lines

abbrev pub NoLineIsLonger : Type 0
NoLineIsLonger =
    (picture : Picture) → length picture.columns.items ≤ 16 → All (λ row. row.number < 10000) picture.rows.items → AreShort 100 (sketch_lines picture)
