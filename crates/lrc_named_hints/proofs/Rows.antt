-- The first row that applies, of the rows of several parts of the table.
use Rattle.std.proofs.Common.{◌≡◌, List, [], ◌∷◌, ◌++◌, ℕ, Option, Some, None, refl, sym, ap, ap₂, ◌∙◌}
use Rattle.std.specs.Option.{option_or}
use Rattle.lrc_named_hints.specs.declared.hint.Hint.{Hint}
use Rattle.lrc_named_hints.specs.Hint.{words_of}
use Rattle.lrc_lint_fault.specs.HintTable.{first_row}

abbrev Row : Type 0
Row = Option (List ℕ)

or_none : (r : Row) → option_or r None ≡ r
or_none None = refl
or_none (Some words) = refl

or_words : (a b : Option Hint) → words_of (option_or a b) ≡ option_or (words_of a) (words_of b)
or_words None b = refl
or_words (Some hint) b = refl

first_row-append : (xs ys : List Row) → first_row (xs ++ ys) ≡ option_or (first_row xs) (first_row ys)
first_row-append [] ys = refl
first_row-append (None ∷ xs) ys = first_row-append xs ys
first_row-append (Some words ∷ xs) ys = refl

-- one row
pub one_row : (x : Row) (a : Option Hint) → words_of a ≡ x → words_of a ≡ first_row (x ∷ [])
one_row x a e = e ∙ sym (or_none x)

-- the rows of one part, and then those of another
pub rows_more : (xs ys : List Row) (a b r : Option Hint) → r ≡ option_or a b → words_of a ≡ first_row xs → words_of b ≡ first_row ys
    → words_of r ≡ first_row (xs ++ ys)
rows_more xs ys a b r e first second = ap words_of e ∙ or_words a b ∙ ap₂ option_or first second ∙ sym (first_row-append xs ys)

-- and then one row
pub row_more : (xs : List Row) (y : Row) (a b r : Option Hint) → r ≡ option_or a b → words_of a ≡ first_row xs → words_of b ≡ y
    → words_of r ≡ first_row (xs ++ y ∷ [])
row_more xs y a b r e first second = rows_more xs (y ∷ []) a b r e first (one_row y b second)

-- two rows
pub two_rows : (x y : Row) (a b r : Option Hint) → r ≡ option_or a b → words_of a ≡ x → words_of b ≡ y → words_of r ≡ first_row (x ∷ y ∷ [])
two_rows x y a b r e first second = row_more (x ∷ []) y a b r e (one_row x a first) second
