-- The changes that a node knows are of words of a page.
use Rattle.std.specs.Prelude.{ℕ, ◌<◌, List, All}
use Rattle.std.specs.Option.{ForSome}
use Rattle.lrc_page.specs.declared.changes.Change.{Change}
use Rattle.lrc_store.specs.Store.{NoticeRecord, StoredRecord}

-- each offset is below the number of words on a page
abbrev pub AreInPage : ℕ → List Change → Type 0
AreInPage words changes = All (λ (change : Change). change.offset < words) changes

-- the changes that are known of a stored interval
abbrev pub IsSized : ℕ → StoredRecord → Type 0
IsSized words stored = All (λ (notice : NoticeRecord). ForSome notice.changes (AreInPage words)) stored.notices
