-- Pages: lists of values, one for each word, as many as the size says.
use Rattle.std.specs.Prelude.{ℕ, List, replicate, ◌==◌}
use Rattle.std.specs.Cmp.{IsEquivalence, nat_eq_equiv}
use Rattle.std.specs.Cmp.Lexicographic.{pointwise, lists_equiv}
use Rattle.lrc_page.specs.declared.size.Size.{Size}
use Rattle.lrc_page.specs.declared.size.Size.TheVariants.{Words64, Words256}

-- how many words a page of a size has
abbrev pub words_of : Size → ℕ
words_of Words64 = 64
words_of Words256 = 256

-- the page as it is before the first write
unfoldable pub zero_page : Size → List ℕ
zero_page size = replicate (words_of size) 0

-- the test of two lists of numbers, number by number, is an equivalence
pub same_values_equiv : IsEquivalence (pointwise (λ (a b : ℕ). a == b))
same_values_equiv = lists_equiv nat_eq_equiv
