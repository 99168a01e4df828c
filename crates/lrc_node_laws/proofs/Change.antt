-- What turns do to a node's memory, its time and what it waits for: a second inversion of the machine, with one constructor
-- for each kind of change. A turn is some changes one after another.
use Rattle.std.proofs.Common.{◌≡◌, ℕ, ◌+◌, ◌-◌, ◌<◌, ◌≤◌, List, [], Bool, true, false, length}
use Rattle.std.specs.Prelude.{Option, Some, All, fold, map, filter, not, nat_lt, slice_set}
use Rattle.std.specs.List.{list_all, list_any, range_with_len}
use Rattle.std.proofs.lemmas.Bool.{and_parts, eqb-true, leb-true, ltb-true}
use Rattle.lrc_time.specs.Time.{entry, Covers, covers, joined}
use Rattle.lrc_time.proofs.Times.{covers-true}
use Rattle.lrc_page.specs.declared.size.Size.{Size}
use Rattle.lrc_page.specs.Page.{words_of}
use Rattle.lrc_page.specs.Place.{pages_of}
use Rattle.lrc_exec.specs.Meaning.{Setting}
use Rattle.lrc_store.specs.Interval.{IntervalRecord}
use Rattle.lrc_envelope.specs.Records.{IndexedChangesRecord, ChangesReplyRecord}
use Rattle.lrc_barrier.specs.Barrier.{ManagerRecord}
use Rattle.lrc_protocol.specs.Times.{next_time, indices_by, are_between}
use Rattle.lrc_protocol.specs.Pages.{is_readable, Memory, copy_at, with_written_word, with_interval, learned, Need, need_of, is_met, repaired}
use Rattle.lrc_protocol.specs.Pages.{awaits_changes, awaits_page, changes_came, page_came, with_part}
use Rattle.lrc_protocol.specs.Barriers.{with_keepers, kept_pages, after_collection, Collection, clean_memory}
use Rattle.lrc_protocol.specs.Node.{Wait, nothing, grant, departure, access, upkeep, discard, needs_of, Course, Node}
use Rattle.lrc_protocol.specs.Turn.{with_needs, is_page, is_interval, are_changes, is_learnable, expects_changes_reply}
use Rattle.lrc_protocol.specs.Node.{next_in}
use Rattle.lrc_node_laws.specs.Ranges.{InRange}
use Rattle.lrc_node_laws.specs.Needs.{page_next}
use Rattle.lrc_node_laws.proofs.Tests.{each_passes, in_range, same_numbers}

-- what changes, and what it depends on
pub record View : Type 0 where
  pub setting : Setting
  pub size : Size
  pub course : Course
  pub wait : Wait
  pub time : List ℕ
  pub memory : Memory
  pub taken : List (List ℕ)
  pub manager : Option ManagerRecord

abbrev pub view_of : Node → View
view_of node = record {
  setting = node.setting;
  size = node.options.size;
  course = node.course;
  wait = node.mail.wait;
  time = node.locks.time;
  memory = node.memory;
  taken = node.mail.taken;
  manager = node.barrier.manager;
}

abbrev pub pages_in : View → ℕ
pages_in v = pages_of v.setting.words v.size

-- ---- what a node makes sure of before it takes a message

pub record News (v : View) (time : List ℕ) (intervals : List IntervalRecord) : Type 0 where
  pub counted : length time ≡ v.setting.nodes
  pub each : All (InRange v.setting.nodes (pages_in v)) intervals
  pub covered : All (λ (i : IntervalRecord). Covers time i.stamp) intervals
  pub between : (q : ℕ) → q < v.setting.nodes
      → indices_by intervals q ≡ range_with_len (entry v.time q + 1) (entry time q - entry v.time q)
  pub own : entry time v.setting.me ≤ entry v.time v.setting.me

pub record Reply (v : View) (from : ℕ) (m : ChangesReplyRecord) : Type 0 where
  pub in_range : m.page < pages_in v
  pub changes : All (λ (part : IndexedChangesRecord). All (λ change. change.offset < words_of v.size) part.changes) m.parts
  pub asked : list_any (awaits_changes m.page from (map (λ (part : IndexedChangesRecord). part.index) m.parts)) (needs_of v.wait) ≡ true

pub record Sent (v : View) (from page : ℕ) (values : List ℕ) : Type 0 where
  pub in_range : page < pages_in v
  pub whole : length values ≡ words_of v.size
  pub asked : list_any (awaits_page page from) (needs_of v.wait) ≡ true

-- whether a node that waits so is at the end of an interval, or waits for nothing
abbrev pub is_settled : Wait → Bool
is_settled nothing = true
is_settled (grant lock) = true
is_settled departure = true
is_settled _ = false

-- whether news can come to a node that waits so
abbrev pub is_open : Wait → Bool
is_open (grant lock) = true
is_open departure = true
is_open _ = false

-- the pages that a node keeps after a collection, and what those need that are not readable
abbrev pub kept_in : View → List ℕ
kept_in v = kept_pages v.setting.me (with_keepers v.memory)

abbrev pub needs_in : View → List Need
needs_in v =
    map (need_of v.setting.nodes (with_keepers v.memory))
    (filter (λ page. not (is_readable (copy_at (with_keepers v.memory) page))) (kept_in v))

-- ---- the changes

pub data Change (v : View) : View → Type 0 where
  -- a message comes, and the manager of barriers takes what it says
  receives : (from : ℕ) (numbers : List ℕ) → Change v (record v { taken = slice_set v.taken from numbers })
  manages : (before manager : ManagerRecord) → v.manager ≡ Some before → length manager.last ≡ length before.last
      → Change v (record v { manager = Some manager })
  -- the text goes on
  moves : (course : Course) → needs_of v.wait ≡ [] → Change v (record v { course = course })
  -- a word is written
  puts : (word value : ℕ) → v.wait ≡ nothing → Change v (record v { memory = with_written_word v.size word value v.memory })
  -- the open interval is closed
  closes : (wait : Wait) → v.wait ≡ nothing → is_settled wait ≡ true
      → Change v
      (record v {
        wait = wait;
        time = next_time v.setting.me v.time;
        memory = with_interval v.setting.me (next_time v.setting.me v.time) v.memory;
      })
  -- news come with a grant or a departure
  learns : (time : List ℕ) (intervals : List IntervalRecord) → is_open v.wait ≡ true → News v time intervals
      → Change v (record v { time = joined v.time time; memory = learned v.time intervals v.memory })
  resumes : is_open v.wait ≡ true → Change v (record v { wait = nothing })
  -- a collection begins, its pages are clean, and it ends
  begins : (before time : List ℕ) → v.wait ≡ departure → v.time ≡ joined before time → covers time before ≡ true → length time ≡ v.setting.nodes
      → Change v (record v { wait = upkeep (record { time = time; kept = kept_in v }) (needs_in v); memory = with_keepers v.memory })
  cleans : (collection : Collection) (needs : List Need) → v.wait ≡ upkeep collection needs → list_all is_met needs ≡ true
      → Change v (record v { wait = discard collection; memory = clean_memory needs collection.kept v.memory })
  discards : (collection : Collection) → v.wait ≡ discard collection
      → Change v (record v { wait = nothing; memory = after_collection v.setting.me collection.time v.memory })
  -- an access misses, and its page is mended
  misses : (page : ℕ) → v.wait ≡ nothing → page < pages_in v → is_readable (copy_at v.memory page) ≡ false
      → page_next v.size (next_in v.course) ≡ Some page
      → Change v (record v { wait = access (need_of v.setting.nodes v.memory page) })
  mends : (need : Need) → v.wait ≡ access need → is_met need ≡ true
      → Change v (record v { wait = nothing; memory = repaired v.memory need })
  -- what pages need comes
  gets_changes : (from : ℕ) (m : ChangesReplyRecord) → Reply v from m
      → Change v
      (record v {
        wait = with_needs (changes_came m.page from) v.wait;
        memory = record v.memory { store = fold (with_part from m.page) v.memory.store m.parts };
      })
  gets_page : (from page : ℕ) (values : List ℕ) → Sent v from page values
      → Change v (record v { wait = with_needs (page_came page values) v.wait })

-- changes one after another
pub data Walk (start : View) : View → Type 0 where
  stands : Walk start start
  goes : {v after : View} → Walk start v → Change v after → Walk start after

-- ---- from the tests

interval_in : (node : Node) (i : IntervalRecord) → is_interval node i ≡ true → InRange node.setting.nodes (pages_in (view_of node)) i
interval_in node i e =
    let outer : _ = and_parts _ _ e in
    let inner : _ = and_parts _ _ outer.0 in
    record {
      node = ltb-true _ _ inner.0;
      stamp = eqb-true _ _ inner.1;
      named = each_passes (is_page node) (λ page. page < pages_in (view_of node)) (λ page b. ltb-true _ _ b) i.pages outer.1;
    }

pub news : (node : Node) (time : List ℕ) (intervals : List IntervalRecord) → is_learnable node time intervals ≡ true
    → News (view_of node) time intervals
news node time intervals e =
    let outer : _ = and_parts _ _ e in
    let inner : _ = and_parts _ _ outer.0 in
    let told : _ = and_parts _ _ inner.0 in
    let ranges : _ = and_parts _ _ told.0 in
    record {
      counted = eqb-true _ _ ranges.0;
      each = each_passes (is_interval node) (InRange node.setting.nodes (pages_in (view_of node))) (interval_in node) intervals ranges.1;
      covered = each_passes (λ i. covers time i.stamp) (λ i. Covers time i.stamp) (λ i b. covers-true time i.stamp b) intervals told.1;
      between = λ q lt. same_numbers _ _ (in_range (λ q. are_between intervals q (entry node.locks.time q) (entry time q)) node.setting.nodes inner.1 q lt);
      own = leb-true _ _ outer.1;
    }

pub reply_in : (node : Node) (from : ℕ) (m : ChangesReplyRecord) → m.page < pages_in (view_of node) → list_all (are_changes node) m.parts ≡ true
    → list_any (awaits_changes m.page from (map (λ (part : IndexedChangesRecord). part.index) m.parts)) (needs_of node.mail.wait) ≡ true
    → Reply (view_of node) from m
reply_in node from m lt all some = record {
  in_range = lt;
  changes = each_passes (are_changes node) (λ part. All (λ change. change.offset < words_of node.options.size) part.changes)
      (λ part b. each_passes (λ change. nat_lt change.offset (words_of node.options.size)) (λ change. change.offset < words_of node.options.size)
      (λ change c. ltb-true _ _ c) part.changes b) m.parts all;
  asked = some;
}

pub reply : (node : Node) (from : ℕ) (m : ChangesReplyRecord) → expects_changes_reply node from m ≡ true → Reply (view_of node) from m
reply node from m e =
    let outer : _ = and_parts _ _ e in
    let inner : _ = and_parts _ _ outer.0 in
    reply_in node from m (ltb-true _ _ inner.0) inner.1 outer.1
