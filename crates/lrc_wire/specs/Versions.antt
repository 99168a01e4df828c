-- What the versions of the grammar say of pages.
use Rattle.std.specs.Prelude.{ℕ, ◌==◌, Option, Some, None, if◌then◌else◌}
use Rattle.lrc_page.specs.declared.TheConstants.{MOST_PAGES, MOST_PAGE_WORDS}
use Rattle.lrc_wire.specs.declared.version.Version.{Version}
use Rattle.lrc_wire.specs.declared.version.Version.TheVariants.{One, Two}

-- the number of a version
abbrev pub version_number : Version → ℕ
version_number One = 1
version_number Two = 2

-- the version of a number
abbrev pub version_of : ℕ → Option Version
version_of n = if n == 1 then Some One else if n == 2 then Some Two else None

-- how many pages its messages can name
abbrev pub pages_in : Version → ℕ
pages_in One = 64
pages_in Two = MOST_PAGES

-- how many words of a page its messages can name
abbrev pub words_in : Version → ℕ
words_in One = 64
words_in Two = MOST_PAGE_WORDS
