-- What the nodes know of intervals and their changes is as in one list.
use Rattle.std.specs.Prelude.{◌≡◌, ℕ, ◌<◌, Some, List, map, slice_get, All, AllPairs, Contains}
use Rattle.lrc_page.specs.declared.changes.Change.{Change}
use Rattle.lrc_store.specs.declared.key.Key.{Key}
use Rattle.lrc_store.specs.Store.{StoredRecord, NoticeRecord, interval_of, stored_at, changes_at}
use Rattle.lrc_copies.specs.Stamps.{stamp_index, IsCut, AreStamped}
use Rattle.lrc_envelope.specs.Envelope.{EnvelopeRecord}
use Rattle.lrc_envelope.specs.Records.{IndexedChangesRecord, ChangesReplyRecord}
use Rattle.lrc_envelope.specs.declared.message.Message.TheVariants.{ChangesReply}
use Rattle.lrc_protocol.specs.Pages.{invalid, copy_at}
use Rattle.lrc_protocol.specs.Run.{Logged, World}
use Rattle.lrc_protocol.specs.Follows.{pending}
use Rattle.lrc_node_laws.specs.Own.{IsAttached}
use Rattle.lrc_reading_laws.specs.Made.{AreMade, StoresJust}
use Rattle.lrc_reading_laws.specs.Written.{made_stamps, made_changes}

-- All that the nodes know of intervals and changes is as in this list:
pub record AreKnown (nodes : ℕ) (made : List StoredRecord) (world : World) : Type 0 where
  -- of each node it has an interval for each index up to the node's own entry, and those that nodes store and tell of are in it;
  pub are : AreMade (map interval_of made) world
  -- a node stores just those of them that its time covers and its collected time does not;
  pub stored : (n : ℕ) (l : Logged) → slice_get world.nodes n ≡ Some l → StoresJust (map interval_of made) l.node
  -- each has changes of all pages that it names, and names them in ascending order;
  pub attached : All IsAttached made
  pub pages : All (λ (x : StoredRecord). AllPairs (λ (a b : NoticeRecord). a.page < b.page) x.notices) made
  -- no two have the same node and index;
  pub found : (x : StoredRecord) → Contains made x → stored_at made x.node (stamp_index made_stamps x) ≡ Some x
  -- their stamps are cuts, and so are the times of the nodes, what they collected, and what they remember of invalid copies;
  pub stamped : AreStamped made_stamps nodes made
  pub time : (n : ℕ) (l : Logged) → slice_get world.nodes n ≡ Some l → IsCut made_stamps made l.node.locks.time
  pub collected : (n : ℕ) (l : Logged) → slice_get world.nodes n ≡ Some l → IsCut made_stamps made l.node.memory.collected
  pub since : (n : ℕ) (l : Logged) (page : ℕ) (values since : List ℕ) → slice_get world.nodes n ≡ Some l
      → copy_at l.node.memory page ≡ invalid values since → IsCut made_stamps made since
  -- what a node knows of changes, and what a pending reply tells of them, is what the list has.
  pub known : (n : ℕ) (l : Logged) (key : Key) (changes : List Change) → slice_get world.nodes n ≡ Some l
      → changes_at l.node.memory.store key ≡ Some changes → made_changes made key ≡ Some changes
  pub replied : (e : EnvelopeRecord) (m : ChangesReplyRecord) (part : IndexedChangesRecord) → Contains (pending world) e
      → e.message ≡ ChangesReply m → Contains m.parts part
      → made_changes made (record { node = e.from; index = part.index; page = m.page }) ≡ Some part.changes
