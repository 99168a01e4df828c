-- The lines of a text.
use Rattle.std.specs.Prelude.{◌==◌, ℕ, List}
use Rattle.std.specs.List.{slice_split}

-- what stands before, between and after the line feeds of a text
abbrev pub lines_of : List ℕ → List (List ℕ)
lines_of text = slice_split (λ byte. byte == 10) text
