-- Words by their pages.
use Rattle.std.specs.Prelude.{ℕ, ◌/◌, ◌==◌, List, [], ◌∷◌, ◌++◌, codes, decimal, if◌then◌else◌, length, nat_lt, take}
use Rattle.std.specs.List.{flat_map}
use Rattle.lrc_labels.specs.Reading.{Label}
use Rattle.lrc_why_lines.specs.Deeds.{word_text}

-- a word in front of pages of words: on the first page where it is of that one
abbrev pub on_page : (size word : ℕ) → List (List ℕ) → List (List ℕ)
on_page size word [] = (word ∷ []) ∷ []
on_page size word ([] ∷ pages) = (word ∷ []) ∷ pages
on_page size word ((first ∷ page) ∷ pages) =
    if (word / size) == (first / size) then (word ∷ first ∷ page) ∷ pages else (word ∷ []) ∷ (first ∷ page) ∷ pages

-- words that ascend, by their pages
abbrev pub pages_of : (size : ℕ) → List ℕ → List (List ℕ)
pages_of size [] = []
pages_of size (word ∷ words) = on_page size word (pages_of size words)

abbrev pub later_words : List Label → List ℕ → List ℕ
later_words labels words = flat_map (λ word. word_text labels (codes ", ") word) words

-- the words of a page behind the first, 7 at most
unfoldable pub other_words : List Label → List ℕ → List ℕ
other_words labels words = if nat_lt (length words) 8 then later_words labels words else later_words labels (take 7 words) ++ codes ", .."

-- the words of a page, 8 at most
unfoldable pub told_words : List Label → ℕ → List ℕ → List ℕ
told_words labels first [] = word_text labels (codes ": word ") first
told_words labels first (second ∷ others) = word_text labels (codes ": words ") first ++ other_words labels (second ∷ others)

-- the line of a page
unfoldable pub page_line : List Label → (size : ℕ) → List ℕ → List ℕ
page_line labels size [] = []
page_line labels size (first ∷ words) = codes "    writes page " ++ decimal (first / size) ++ told_words labels first words ++ codes "\n"

-- the lines of the pages of words
unfoldable pub pages_text : List Label → (size : ℕ) → List ℕ → List ℕ
pages_text labels size words = flat_map (page_line labels size) (pages_of size words)
