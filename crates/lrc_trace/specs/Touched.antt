-- Words by their pages.
use Rattle.std.specs.Prelude.{◌≡◌, ℕ, ◌==◌, ◌&&◌, Bool, if◌then◌else◌, List, [], ◌∷◌, All, length, map, nat_lt}
use Rattle.std.specs.List.{list_any}
use Rattle.lrc_page.specs.Pages.{IsRising}
use Rattle.lrc_page.specs.Mask.{has, no_offsets, with_offset}
use Rattle.lrc_trace.specs.declared.touched.TouchedPage.{TouchedPage}

-- the word at the offset of the page is among them
abbrev pub has_word : List TouchedPage → ℕ → ℕ → Bool
has_word pages page offset = list_any (λ touched. touched.page == page && has touched.mask offset) pages

-- a page with one word
abbrev pub one_word : ℕ → ℕ → TouchedPage
one_word page offset = record { page = page; mask = with_offset no_offsets offset }

-- the same with the word at an offset of a page
abbrev pub with_word : ℕ → ℕ → List TouchedPage → List TouchedPage
with_word page offset [] = one_word page offset ∷ []
with_word page offset (touched ∷ pages) =
    if nat_lt touched.page page then touched ∷ with_word page offset pages
    else if touched.page == page then record touched { mask = with_offset touched.mask offset } ∷ pages
    else one_word page offset ∷ touched ∷ pages

-- the numbers of the pages
abbrev pub numbers_of : List TouchedPage → List ℕ
numbers_of pages = map (λ touched. touched.page) pages

-- the pages ascend, each once and with a mask
pub record IsTouched (pages : List TouchedPage) : Type 0 where
  pub rising : IsRising (numbers_of pages)
  pub masks : All (λ touched. length touched.mask ≡ 4) pages
