-- The page table of one node.
use Rattle.std.specs.Prelude.{ℕ, ◌≡◌, ◌≤◌, All, List, [], length, map, filter, replicate, slice_index_or, slice_set}
use Rattle.std.specs.List.{range_with_len}
use Rattle.lrc_page.specs.declared.TheConstants.{MOST_PAGES}
use Rattle.lrc_page.specs.declared.size.Size.{Size}
use Rattle.lrc_page.specs.Page.{zero_page}
use Rattle.lrc_page.specs.Place.{pages_of}
use Rattle.lrc_table.specs.PageCopy.{PageCopy, IsWhole, fresh, is_written}

-- the size of the pages, and the node's copies of them, in their order
pub record Table : Type 0 where
  pub size : Size
  pub copies : List PageCopy

-- the table at the start: every copy is valid, and every word zero
abbrev pub fresh_table : ℕ → Size → Table
fresh_table words size = record { size = size; copies = replicate (pages_of words size) (fresh (zero_page size)) }

-- the copy of a page
abbrev pub copy_at : Table → ℕ → PageCopy
copy_at table page = slice_index_or table.copies page (fresh [])

-- the table with another copy of one page
abbrev pub with_copy : Table → ℕ → PageCopy → Table
with_copy table page copy = record table { copies = slice_set table.copies page copy }

-- the table with each copy changed
abbrev pub with_each : Table → (PageCopy → PageCopy) → Table
with_each table change = record table { copies = map change table.copies }

-- the written pages, ascending
abbrev pub written_pages : Table → List ℕ
written_pages table =
    filter (λ page. is_written (copy_at table page).state) (range_with_len 0 (length table.copies))

-- what holds of every table beside the list of its written pages: each copy is whole, the pages are at most as many as
-- there may be, and the list is exact
abbrev pub IsSound : Table → List ℕ → Type 0
IsSound table written = record {
  whole : All (IsWhole table.size) table.copies;
  few : length table.copies ≤ MOST_PAGES;
  listed : written ≡ written_pages table;
}
