-- Intervals and their notices, each in an arena of their own: a notice has its changes once they are known.
use Rattle.std.specs.Prelude.{ℕ, ◌==◌, ◌&&◌, Bool, Option, None, List, [], ◌∷◌, length, map, take, drop}
use Rattle.lrc_time.specs.Time.{weight_of}
use Rattle.lrc_page.specs.declared.changes.Change.{Change}
use Rattle.lrc_store.specs.declared.key.Key.{Key}
use Rattle.lrc_store.specs.Interval.{IntervalRecord, index_of}
use Rattle.lrc_store.specs.Store.{NoticeRecord, StoredRecord, key_of}

-- this is the node's interval with this index
abbrev pub is_interval_at : ℕ → ℕ → IntervalRecord → Bool
is_interval_at node index interval = (interval.node == node) && (index_of interval == index)

-- a notice in its arena: the weight of its interval's stamp, its key, and the changes of its page, once they are known
pub record NotedRecord : Type 0 where
  pub weight : ℕ
  pub key : Key
  pub changes : Option (List Change)

-- an interval's notice of a page, without changes
abbrev pub fresh_in : IntervalRecord → ℕ → NotedRecord
fresh_in interval page = record { weight = weight_of interval.stamp; key = key_of page interval; changes = None }

-- its weight and its key
abbrev pub rank_of : NotedRecord → ℕ × Key
rank_of noted = (noted.weight, noted.key)

-- its page and its changes
abbrev pub notice_in : NotedRecord → NoticeRecord
notice_in noted = record { page = noted.key.page; changes = noted.changes }

-- the intervals with their notices, of which each interval has as many as pages, one interval's behind the other's
abbrev pub stored_from : List IntervalRecord → List NotedRecord → List StoredRecord
stored_from [] noted = []
stored_from (interval ∷ intervals) noted =
    record {
      node = interval.node;
      stamp = interval.stamp;
      notices = map notice_in (take (length interval.pages) noted);
    }
    ∷ stored_from intervals (drop (length interval.pages) noted)

-- the intervals with their notices, and the notices of all, both in the order of adding
pub record ArenaRecord : Type 0 where
  pub entries : List StoredRecord
  pub notices : List (ℕ × Key)
