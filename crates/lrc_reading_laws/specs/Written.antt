-- What each interval of a run wrote to each word, by the acts; and the intervals that were closed, with their changes, as the
-- theory of copies takes them.
use Rattle.std.specs.Prelude.{ℕ, ◌+◌, ◌*◌, ◌==◌, ◌&&◌, Option, Some, None, is_some, unwrap_or, option_and_then, List, [], fold, if◌then◌else◌}
use Rattle.std.specs.List.{enumerate_from}
use Rattle.lrc_trace.specs.declared.act.Act.{Act}
use Rattle.lrc_trace.specs.declared.act.Deed.{Deed}
use Rattle.lrc_trace.specs.declared.act.Deed.TheVariants.{Write}
use Rattle.lrc_trace.specs.Interval.{interval_at}
use Rattle.lrc_page.specs.declared.changes.Change.{Change}
use Rattle.lrc_page.specs.declared.size.Size.{Size}
use Rattle.lrc_page.specs.Page.{words_of}
use Rattle.lrc_store.specs.declared.key.Key.{Key}
use Rattle.lrc_store.specs.Store.{StoredRecord, notice_of, stored_at}
use Rattle.lrc_copies.specs.Page.{PageHistory}
use Rattle.lrc_copies.specs.Stamps.{Stamps, stamp_index, page_of_stamps}

-- ---- what was written

-- the value that a deed writes to the word, if it writes it
abbrev pub written_to : ℕ → Deed → Option ℕ
written_to word (Write w value) = if w == word then Some value else None
written_to word _ = None

-- the value that the act at a position writes to the word, where it is the node's and in its interval with this index
abbrev pub write_in : List Act → ℕ → ℕ → ℕ → ℕ × Act → Option ℕ
write_in acts node index word at =
    if (at.1.node == node) && (interval_at acts node at.0 == index) then written_to word at.1.deed else None

-- the newer of two values, where it is there
abbrev pub newer : Option ℕ → Option ℕ → Option ℕ
newer before found = if is_some found then found else before

-- the last value that the node wrote to the word in its interval with this index
abbrev pub last_write : List Act → ℕ → ℕ → ℕ → Option ℕ
last_write acts node index word = fold (λ before at. newer before (write_in acts node index word at)) None (enumerate_from 0 acts)

-- ---- intervals as they were made

abbrev pub made_stamps : Stamps StoredRecord
made_stamps = record { node = λ x. x.node; stamp = λ x. x.stamp }

-- the changes that an interval has of a page, none where it does not name it
abbrev pub changes_on : ℕ → StoredRecord → List Change
changes_on page x = unwrap_or (option_and_then (λ notice. notice.changes) (notice_of page x)) []

-- the changes of a key, among these intervals
abbrev pub made_changes : List StoredRecord → Key → Option (List Change)
made_changes made key = option_and_then (λ notice. notice.changes) (option_and_then (notice_of key.page) (stored_at made key.node key.index))

-- the word of a page at an offset
abbrev pub word_on : Size → ℕ → ℕ → ℕ
word_on size page offset = page * words_of size + offset

-- what each interval did to a page, by these acts and its changes, and how the intervals stand to one another by their stamps
abbrev pub page_history : Size → List Act → ℕ → PageHistory StoredRecord
page_history size acts page =
    page_of_stamps made_stamps (λ x offset. last_write acts x.node (stamp_index made_stamps x) (word_on size page offset)) (changes_on page)
