-- The intervals that were closed, by the acts of their nodes: which pages they name, with which changes, and with which stamps.
use Rattle.std.specs.Prelude.{◌≡◌, ◌↔◌, ℕ, ◌<◌, Some, unwrap_or, List, length, slice_index, Contains}
use Rattle.lrc_trace.specs.declared.act.Act.{Act}
use Rattle.lrc_trace.specs.Interval.{interval_at}
use Rattle.lrc_clock.specs.Times.{stamp_at}
use Rattle.lrc_clock.specs.Cover.{ClosesAt}
use Rattle.lrc_page.specs.declared.size.Size.{Size}
use Rattle.lrc_page.specs.Page.{words_of}
use Rattle.lrc_page.specs.Changes.{changes_between}
use Rattle.lrc_store.specs.Store.{StoredRecord, interval_of}
use Rattle.lrc_copies.specs.Page.{PageFits, page_below}
use Rattle.lrc_copies.specs.Stamps.{stamp_index}
use Rattle.lrc_protocol.specs.Run.{World}
use Rattle.lrc_reading_laws.specs.Written.{made_stamps, last_write, word_on, changes_on, page_history}

-- by these acts the interval's node wrote some word of the page in it, this value last
pub record WritesPage (size : Size) (acts : List Act) (page : ℕ) (x : StoredRecord) : Type 0 where
  pub offset : ℕ
  pub value : ℕ
  pub within : offset < words_of size
  pub wrote : last_write acts x.node (stamp_index made_stamps x) (word_on size page offset) ≡ Some value

-- The changes that the interval has of the page are those that its node made in it by these acts:
pub record HasChanges (size : Size) (acts : List Act) (made : List StoredRecord) (page : ℕ) (x : StoredRecord) : Type 0 where
  -- there is a page as it stood before the node wrote it in the interval, and one as the node left it;
  pub twin : List ℕ
  pub copy : List ℕ
  pub twin_long : length twin ≡ words_of size
  pub copy_long : length copy ≡ words_of size
  -- each word of the first has 0, or the last value that some interval below this one wrote there, and where those that wrote it
  -- are ordered, that of the last of them;
  pub fits : PageFits (page_history size acts page) twin (page_below (page_history size acts page) made x)
  -- each word of the second has the last value that the node wrote there in the interval, or else what the first has;
  pub left : (offset : ℕ) → offset < words_of size
      → slice_index copy offset
      ≡ unwrap_or (last_write acts x.node (stamp_index made_stamps x) (word_on size page offset)) (slice_index twin offset)
  -- and the changes are the words at which the two differ, with the values of the second.
  pub changes : changes_on page x ≡ changes_between twin copy

-- The intervals have what the acts of their nodes made in them:
pub record AreOfActs (size : Size) (nodes : ℕ) (made : List StoredRecord) (world : World) : Type 0 where
  -- the stamp is the time of the node just before the act that closes the interval, with the node's own entry one greater,
  pub stamped : (x : StoredRecord) (j : ℕ) → Contains made x → ClosesAt world.acts x.node (stamp_index made_stamps x) j
      → x.stamp ≡ stamp_at nodes world.acts world.times x.node j
  -- or its time after all acts, where that act is still to come: an acquire, for which the node waits;
  pub waiting : (x : StoredRecord) → Contains made x → interval_at world.acts x.node (length world.acts) ≡ stamp_index made_stamps x
      → x.stamp ≡ stamp_at nodes world.acts world.times x.node (length world.acts)
  -- the interval names a page just where its node wrote a word of that page in it,
  pub named : (x : StoredRecord) (page : ℕ) → Contains made x → Contains (interval_of x).pages page ↔ WritesPage size world.acts page x
  -- and has the changes of each page that it names.
  pub changed : (x : StoredRecord) (page : ℕ) → Contains made x → Contains (interval_of x).pages page
      → HasChanges size world.acts made page x
