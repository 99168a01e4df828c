-- Words with their values, as objects of JSON: a value is a text, for it may be larger than a number of a browser.
use Rattle.std.specs.Prelude.{ℕ, ◌+◌, ◌*◌, ◌==◌, List, [], ◌∷◌, ◌++◌, codes, decimal, if◌then◌else◌, map}
use Rattle.lrc_text.specs.Each.{each}
use Rattle.lrc_page.specs.declared.changes.Change.{Change}
use Rattle.lrc_page.specs.declared.size.Size.{Size}
use Rattle.lrc_page.specs.Page.{words_of}
use Rattle.lrc_state_text.specs.declared.words.Word.{Word}
use Rattle.lrc_state_text.specs.Json.{listed}

-- the first word of a page
abbrev pub first_word : Size → (page : ℕ) → ℕ
first_word size page = page * words_of size

unfoldable pub word_text : Word → List ℕ
word_text word = codes "\"" ++ decimal word.number ++ codes "\":\"" ++ decimal word.value ++ codes "\""

unfoldable pub words_text : List Word → List ℕ
words_text words = codes "{" ++ listed word_text words ++ codes "}"

-- the word at this place from the first one on, unless its value is 0
abbrev pub used_word : (first place value : ℕ) → List Word
used_word first place value = if value == 0 then [] else record { number = first + place; value = value } ∷ []

-- the words that have these values, from the first one on, but those whose value is 0
abbrev pub used_words : (first : ℕ) → List ℕ → List Word
used_words first values = each (used_word first) values

-- the words that changes name, of the page that begins with this word, with what they became
abbrev pub changed_word : (first : ℕ) → Change → Word
changed_word first change = record { number = first + change.offset; value = change.value }

abbrev pub changed_words : (first : ℕ) → List Change → List Word
changed_words first changes = map (changed_word first) changes

-- the values of a page, and changes of one
abbrev pub values_text : (first : ℕ) → List ℕ → List ℕ
values_text first values = words_text (used_words first values)

abbrev pub changes_text : (first : ℕ) → List Change → List ℕ
changes_text first changes = words_text (changed_words first changes)
