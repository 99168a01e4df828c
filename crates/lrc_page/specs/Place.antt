-- Where the words of a shared memory stand: on pages of equally many words, one page after the other.
use Rattle.std.specs.Prelude.{ℕ, ◌+◌, ◌-◌, ◌/◌, ◌%◌}
use Rattle.lrc_page.specs.declared.size.Size.{Size}
use Rattle.lrc_page.specs.Page.{words_of}

-- the page that a word is on
abbrev pub page_of : ℕ → Size → ℕ
page_of word size = word / words_of size

-- the place of a word on its page
abbrev pub offset_of : ℕ → Size → ℕ
offset_of word size = word % words_of size

-- how many pages hold this many words
abbrev pub pages_of : ℕ → Size → ℕ
pages_of words size = (words + (words_of size - 1)) / words_of size
