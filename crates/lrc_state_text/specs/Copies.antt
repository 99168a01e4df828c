-- A node's copies of the pages.
use Rattle.std.specs.Prelude.{ℕ, ◌==◌, ◌&&◌, Bool, false, not, Option, None, Some, List, ◌++◌, codes, decimal, filter, is_none, length, map}
use Rattle.std.specs.List.{list_all, range_with_len}
use Rattle.lrc_page.specs.declared.size.Size.{Size}
use Rattle.lrc_store.specs.declared.key.Key.{Key}
use Rattle.lrc_protocol.specs.Pages.{absent, Copy, copy_at, invalid, keeper_at, Memory, missing_at, valid, values_of, written}
use Rattle.lrc_protocol.specs.Barriers.{base_at}
use Rattle.lrc_state_text.specs.declared.needs.IntervalName.{IntervalName}
use Rattle.lrc_state_text.specs.Json.{listed, numbers_text}
use Rattle.lrc_state_text.specs.Needs.{names_text}
use Rattle.lrc_state_text.specs.Words.{first_word, values_text}

unfoldable pub copy_name : Copy → List ℕ
copy_name (valid values) = codes "valid"
copy_name (written values twin) = codes "written"
copy_name (invalid values since) = codes "invalid"
copy_name absent = codes "absent"

-- of a written copy the words before the first write in the open interval
unfoldable pub twin_text : (first : ℕ) → Copy → List ℕ
twin_text first (valid values) = codes "null"
twin_text first (written values twin) = values_text first twin
twin_text first (invalid values since) = codes "null"
twin_text first absent = codes "null"

-- of an invalid copy the time that it remembers
unfoldable pub since_text : Copy → List ℕ
since_text (valid values) = codes "null"
since_text (written values twin) = codes "null"
since_text (invalid values since) = numbers_text since
since_text absent = codes "null"

abbrev pub copy_members : (first : ℕ) → Copy → List ℕ
copy_members first copy =
    codes ",\"copy\":\"" ++ copy_name copy ++ codes "\",\"words\":" ++ values_text first (values_of copy)
    ++ codes ",\"twin\":" ++ twin_text first copy ++ codes ",\"since\":" ++ since_text copy

-- the intervals of the notices that a copy lacks, in the order in which they are applied
abbrev pub lacking : List Key → List IntervalName
lacking keys = map (λ key. record { node = key.node; index = key.index }) keys

unfoldable pub base_text : (first : ℕ) → Option (List ℕ) → List ℕ
base_text first None = codes "null"
base_text first (Some values) = values_text first values

unfoldable pub page_text : Size → Memory → (page : ℕ) → List ℕ
page_text size memory page =
    codes "{\"page\":" ++ decimal page ++ copy_members (first_word size page) (copy_at memory page)
    ++ codes ",\"lacks\":" ++ names_text (lacking (missing_at memory page)) ++ codes ",\"keeper\":" ++ decimal (keeper_at memory page)
    ++ codes ",\"base\":" ++ base_text (first_word size page) (base_at memory page) ++ codes "}"

-- the copy is as at the start: valid, and all words are 0
abbrev pub is_fresh : Copy → Bool
is_fresh (valid values) = list_all (λ value. value == 0) values
is_fresh (written values twin) = false
is_fresh (invalid values since) = false
is_fresh absent = false

-- the page is as at the start: so is its copy, node 0 keeps it, and there is no base copy
abbrev pub is_at_start : Memory → (page : ℕ) → Bool
is_at_start memory page = is_fresh (copy_at memory page) && (keeper_at memory page == 0) && is_none (base_at memory page)

-- all pages but those
abbrev pub pages_shown : Memory → List ℕ
pages_shown memory = filter (λ page. not (is_at_start memory page)) (range_with_len 0 (length memory.copies))

unfoldable pub pages_member : Size → Memory → List ℕ
pages_member size memory = codes ",\"pages\":[" ++ listed (page_text size memory) (pages_shown memory) ++ codes "]"
