-- A node's own intervals in its store.
use Rattle.std.specs.Prelude.{◌≡◌, ℕ, ◌≤◌, true, is_some, All}
use Rattle.lrc_time.specs.Time.{entry}
use Rattle.lrc_store.specs.Interval.{IntervalRecord, index_of}
use Rattle.lrc_store.specs.Store.{StoredRecord, NoticeRecord, intervals_of}
use Rattle.lrc_protocol.specs.Pages.{Copy, valid, written, invalid, absent, Memory, copy_at}

-- the changes of all its pages are known
abbrev pub IsAttached : StoredRecord → Type 0
IsAttached stored = All (λ (notice : NoticeRecord). is_some notice.changes ≡ true) stored.notices

-- each stored interval of the node has its changes
abbrev pub OwnAttached : ℕ → Memory → Type 0
OwnAttached me memory = All (λ (stored : StoredRecord). stored.node ≡ me → IsAttached stored) memory.store.entries

-- a copy of a page that this interval of the node names: it is there, and where it is invalid its remembered time covers the
-- interval
abbrev pub HasOwn : ℕ → ℕ → Copy → Type 0
HasOwn me index (valid values) = Unit {0}
HasOwn me index (written values twin) = Unit {0}
HasOwn me index (invalid values since) = index ≤ entry since me
HasOwn me index absent = ⊥

-- each copy has what the stored intervals of the node wrote
abbrev pub OwnCopied : ℕ → Memory → Type 0
OwnCopied me memory =
    All (λ (i : IntervalRecord). i.node ≡ me → All (λ page. HasOwn me (index_of i) (copy_at memory page)) i.pages) (intervals_of memory.store)
