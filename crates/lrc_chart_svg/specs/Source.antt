-- How the program's text stands at the right of a picture.
use Rattle.std.specs.Prelude.{ℕ, ◌+◌, ◌*◌, ◌==◌, List, [], ◌∷◌, fold, if◌then◌else◌, max}
use Rattle.lrc_chart_model.specs.declared.picture.SourceLine.{SourceLine}
use Rattle.lrc_chart_svg.specs.Flow.{letters, wide}

-- how many blanks a line begins with
abbrev pub blanks : List ℕ → ℕ
blanks [] = 0
blanks (first ∷ more) = if first == 32 then blanks more + 1 else 0

-- the most letters of a line
abbrev pub most_of_source : List SourceLine → ℕ
most_of_source lines = fold (λ most line. max most (letters line.words.items)) 0 lines

-- how wide the text is, with the numbers of its lines and a margin; without it there is none
abbrev pub source_wide : List SourceLine → ℕ
source_wide [] = 0
source_wide (first ∷ more) = wide (most_of_source (first ∷ more)) + 72

-- the foot of a line
abbrev pub source_foot : (place : ℕ) → ℕ
source_foot place = 98 + 16 * place
