-- Reading from left to right, field by field, up to the first fault: which field is looked at, and what is wrong with it.
use Rattle.std.specs.Prelude.{◌≡◌, ◌≢◌, ℕ, zero, suc, ◌+◌, ◌-◌, Bool, true, not, ◌&&◌, ◌||◌, List, [], ◌∷◌, ◌++◌, length, take, drop}
use Rattle.std.specs.Prelude.{Option, Some, None, Result, Ok, Err, ok_or, nat_lt, nat_le, ◌==◌, if◌then◌else◌}
use Rattle.std.specs.Int.{Width, w16, w32, w64, byte_len, from_be_bytes}
use Rattle.lrc_time.specs.Time.{entry}
use Rattle.std.specs.List.{flat_map}
use Rattle.lrc_page.specs.declared.TheConstants.{MOST_PAGE_WORDS}
use Rattle.lrc_page.specs.declared.changes.Change.{Change}
use Rattle.lrc_store.specs.Interval.{IntervalRecord, index_of}
use Rattle.lrc_wire.specs.declared.fault.WireFault.{WireFault}
use Rattle.lrc_wire.specs.declared.fault.WireFault.TheVariants.{Short, Long, BadVersion, BadKind, BadNode, BadCount, NotAscending, NoMemory}
use Rattle.lrc_wire.specs.declared.kind.MessageKind.{MessageKind}
use Rattle.lrc_wire.specs.declared.kind.MessageKind.TheVariants as kinds
use Rattle.lrc_wire.specs.declared.version.Version.{Version}
use Rattle.lrc_wire.specs.declared.version.Version.TheVariants.{One, Two}
use Rattle.lrc_envelope.specs.declared.limits.TheConstants.{MOST_LOCKS, MOST_NODES}
use Rattle.lrc_wire.specs.declared.limits.TheConstants.{MOST_RUNS, HEADER_BYTES, MOST_BODY_BYTES}
use Rattle.lrc_envelope.specs.declared.message.Message.{Message}
use Rattle.lrc_envelope.specs.declared.message.Message.TheVariants.{LockRequest, LockForward, LockGrant, Arrive, Depart, Clean, Discard}
use Rattle.lrc_envelope.specs.declared.message.Message.TheVariants.{ChangesRequest, ChangesReply, PageRequest, PageReply}
use Rattle.lrc_wire.specs.Versions.{version_of, pages_in, words_in}
use Rattle.lrc_envelope.specs.Records.{NewsRecord, LockRequestRecord, LockForwardRecord, LockGrantRecord, ArriveRecord, DepartRecord}
use Rattle.lrc_envelope.specs.Records.{ChangesRequestRecord, ChangesReplyRecord, PageReplyRecord, IndexedChangesRecord}
use Rattle.lrc_wire.specs.Runs.{Run, changes_in_run}
use Rattle.lrc_envelope.specs.Envelope.{EnvelopeRecord}

-- the last offset of a run
abbrev pub last_of : Run → ℕ
last_of run = run.first + (length run.values - 1)

infixl 10 ◌>>=◌
abbrev pub ◌>>=◌ : {A B : Type 0} → Result A WireFault → (A → Result B WireFault) → Result B WireFault
(Ok x) >>= f = f x
(Err fault) >>= f = Err fault

-- what a function returned, seen by view, is what reading gives, unless memory ran out
abbrev pub Gives : {X Y : Type 0} → (X → Y) → Result X WireFault → Result Y WireFault → Type 0
Gives view (Ok x) read = read ≡ Ok (view x)
Gives view (Err fault) read = fault ≢ NoMemory → read ≡ Err fault

-- a function that puts a run behind changes and returned its last offset did so with the run that reading gives,
-- unless memory ran out
abbrev pub PutsRun : Result ℕ WireFault → Result (Run × List ℕ) WireFault → List Change → List Change → List ℕ → Type 0
PutsRun (Ok last) read old new rest = (run : Run) × (read ≡ Ok (run, rest)) × (new ≡ old ++ changes_in_run run) × (last ≡ last_of run)
PutsRun (Err fault) read old new rest = fault ≢ NoMemory → read ≡ Err fault

-- the same of a function that puts values at offsets from `first` on
abbrev pub PutsValues : {X : Type 0} → Result X WireFault → Result (List ℕ × List ℕ) WireFault → ℕ → List Change → List Change → List ℕ → Type 0
PutsValues (Ok done) read first old new rest =
    (values : List ℕ) × (read ≡ Ok (values, rest)) × (new ≡ old ++ changes_in_run (record { first = first; values = values }))
PutsValues (Err fault) read first old new rest = fault ≢ NoMemory → read ≡ Err fault

-- a value and the bytes after it, or the first fault
abbrev pub Field : Type 0 → Type 0
Field A = Result (A × List ℕ) WireFault

-- ---- numbers

unfoldable pub byte_at : List ℕ → Field ℕ
byte_at [] = Err Short
byte_at (n ∷ rest) = Ok (n, rest)

unfoldable pub number_at : Width → List ℕ → Field ℕ
number_at w bytes =
    if nat_lt (length bytes) (byte_len w) then Err Short else Ok (from_be_bytes w (take (byte_len w) bytes), drop (byte_len w) bytes)

-- a field that has to pass a test, which is made once the field is read
unfoldable pub tested : {A : Type 0} → (A → Bool) → WireFault → Field A → Field A
tested test fault field = do
  x ← field
  if test x.0 then Ok x else Err fault

-- above the one before, where there is one
unfoldable pub is_after : {K : Type 0} → (K → K → Bool) → Option K → K → Bool
is_after below None key = true
is_after below (Some before) key = below before key

-- `count` elements one after the other, each read by what came before it
unfoldable pub elements_at : {S A : Type 0} → (S → List ℕ → Field A) → (S → A → S) → ℕ → S → List ℕ → Field (List A)
elements_at element next zero state bytes = Ok ([], bytes)
elements_at element next (suc count) state bytes = do
  first ← element state bytes
  others ← elements_at element next count (next state first.0) first.1
  Ok (first.0 ∷ others.0, others.1)

-- ---- parts of several kinds

unfoldable pub lock_at : List ℕ → Field ℕ
lock_at bytes = tested (λ n. nat_lt n MOST_LOCKS) BadCount (byte_at bytes)

unfoldable pub node_at : List ℕ → Field ℕ
node_at bytes = tested (λ n. nat_lt n MOST_NODES) BadNode (byte_at bytes)

unfoldable pub episode_at : List ℕ → Field ℕ
episode_at bytes = tested (λ n. nat_le 1 n) BadCount (number_at w32 bytes)

unfoldable pub page_at : Version → List ℕ → Field ℕ
page_at version bytes = tested (λ n. nat_lt n (pages_in version)) BadCount (number_at w16 bytes)

unfoldable pub flag_at : List ℕ → Field Bool
flag_at bytes = do
  n ← tested (λ n. nat_lt n 2) BadCount (byte_at bytes)
  Ok (n.0 == 1, n.1)

-- an entry of a time; that of the node whose stamp it is, is at least 1
unfoldable pub entry_at : Option ℕ → ℕ → List ℕ → Field ℕ
entry_at None node bytes = number_at w32 bytes
entry_at (Some own) node bytes = tested (λ n. not (node == own) || nat_le 1 n) BadCount (number_at w32 bytes)

-- the entries of so many nodes
unfoldable pub entries_at : Option ℕ → ℕ → List ℕ → Field (List ℕ)
entries_at own nodes bytes = elements_at (entry_at own) (λ node _. node + 1) nodes 0 bytes

unfoldable pub time_at : List ℕ → Field (List ℕ)
time_at bytes = do
  nodes ← tested (λ n. nat_le 1 n && nat_le n MOST_NODES) BadCount (byte_at bytes)
  entries_at None nodes.0 nodes.1

-- a node's stamp beside a time of so many nodes
unfoldable pub stamp_at : ℕ → ℕ → List ℕ → Field (List ℕ)
stamp_at nodes own bytes = do
  count ← tested (λ n. n == nodes) BadCount (byte_at bytes)
  entries_at (Some own) nodes count.1

-- a page after another, tested for its range first
unfoldable pub next_page_at : Version → Option ℕ → List ℕ → Field ℕ
next_page_at version before bytes = tested (is_after nat_lt before) NotAscending (page_at version bytes)

unfoldable pub pages_at : Version → List ℕ → Field (List ℕ)
pages_at version bytes = do
  count ← number_at w16 bytes
  elements_at (next_page_at version) (λ _ page. Some page) count.0 None count.1

-- a lower node, or a lower index of the same node
abbrev pub is_below : ℕ × ℕ → ℕ × ℕ → Bool
is_below a b = nat_lt a.0 b.0 || ((a.0 == b.0) && nat_lt a.1 b.1)

-- what an interval is known by
abbrev pub known_by : IntervalRecord → ℕ × ℕ
known_by interval = (interval.node, index_of interval)

-- a function that puts an interval behind others and returned what it is known by did so with the interval that reading
-- gives, unless memory ran out
abbrev pub PutsInterval : Result (ℕ × ℕ) WireFault → Field IntervalRecord → List IntervalRecord → List IntervalRecord → List ℕ → Type 0
PutsInterval (Ok key) read old new rest = (interval : IntervalRecord) × (read ≡ Ok (interval, rest)) × (new ≡ old ++ interval ∷ []) × (key ≡ known_by interval)
PutsInterval (Err fault) read old new rest = fault ≢ NoMemory → read ≡ Err fault

-- an interval after another, which it is compared with after its stamp and before its pages
unfoldable pub next_interval_at : Version → ℕ → Option (ℕ × ℕ) → List ℕ → Field IntervalRecord
next_interval_at version nodes before bytes = do
  node ← tested (λ n. nat_lt n nodes) BadNode (byte_at bytes)
  stamp ← tested (λ stamp. is_after is_below before (node.0, entry stamp node.0)) NotAscending (stamp_at nodes node.0 node.1)
  pages ← pages_at version stamp.1
  Ok (record { node = node.0; stamp = stamp.0; pages = pages.0 }, pages.1)

-- intervals beside a time of so many nodes
unfoldable pub intervals_at : Version → ℕ → List ℕ → Field (List IntervalRecord)
intervals_at version nodes bytes = do
  count ← number_at w32 bytes
  elements_at (next_interval_at version nodes) (λ _ interval. Some (known_by interval)) count.0 None count.1

unfoldable pub news_at : Version → List ℕ → Field NewsRecord
news_at version bytes = do
  time ← time_at bytes
  intervals ← intervals_at version (length time.0) time.1
  Ok (record { time = time.0; intervals = intervals.0 }, intervals.1)

-- ---- changes

-- how many follow: at least one
unfoldable pub count_at : List ℕ → Field ℕ
count_at bytes = tested (λ n. nat_le 1 n) BadCount (number_at w32 bytes)

-- an index after another, tested for its range first
unfoldable pub next_index_at : Option ℕ → List ℕ → Field ℕ
next_index_at before bytes = tested (is_after nat_lt before) NotAscending (tested (λ n. nat_le 1 n) BadCount (number_at w32 bytes))

unfoldable pub indices_at : List ℕ → Field (List ℕ)
indices_at bytes = do
  count ← count_at bytes
  elements_at next_index_at (λ _ index. Some index) count.0 None count.1

-- an offset after another, tested for its range first
unfoldable pub next_offset_at : Option ℕ → List ℕ → Field ℕ
next_offset_at before bytes = tested (is_after nat_lt before) NotAscending (tested (λ n. nat_lt n (words_in One)) BadCount (byte_at bytes))

unfoldable pub next_change_at : Option ℕ → List ℕ → Field Change
next_change_at before bytes = do
  offset ← next_offset_at before bytes
  value ← number_at w64 offset.1
  Ok (record { offset = offset.0; value = value.0 }, value.1)

-- changes one by one
unfoldable pub singly_at : List ℕ → Field (List Change)
singly_at bytes = do
  count ← tested (λ n. nat_le n (words_in One)) BadCount (byte_at bytes)
  elements_at next_change_at (λ _ change. Some change.offset) count.0 None count.1

-- at least one offset lies between
abbrev pub is_apart : ℕ → ℕ → Bool
is_apart last first = nat_lt (last + 1) first

-- so many values
unfoldable pub values_at : ℕ → List ℕ → Field (List ℕ)
values_at count bytes = elements_at (λ _ rest. number_at w64 rest) (λ state _. state) count (tt {0}) bytes

-- a run after another, which ends at the offset `before`
unfoldable pub next_run_at : Option ℕ → List ℕ → Field Run
next_run_at before bytes = do
  first ← tested (is_after is_apart before) NotAscending (byte_at bytes)
  more ← tested (λ n. nat_lt (first.0 + n) MOST_PAGE_WORDS) BadCount (byte_at first.1)
  values ← values_at (more.0 + 1) more.1
  Ok (record { first = first.0; values = values.0 }, values.1)

-- the changes of runs that were read
abbrev pub whole_runs : Field (List Run) → Field (List Change)
whole_runs read = read >>= λ runs. Ok (flat_map changes_in_run runs.0, runs.1)

unfoldable pub runs_at : List ℕ → Field (List Run)
runs_at bytes = do
  count ← tested (λ n. nat_le n MOST_RUNS) BadCount (number_at w16 bytes)
  elements_at next_run_at (λ _ run. Some (last_of run)) count.0 None count.1

unfoldable pub changes_at : Version → List ℕ → Field (List Change)
changes_at One bytes = singly_at bytes
changes_at Two bytes = whole_runs (runs_at bytes)

unfoldable pub next_part_at : Version → Option ℕ → List ℕ → Field IndexedChangesRecord
next_part_at version before bytes = do
  index ← next_index_at before bytes
  changes ← changes_at version index.1
  Ok (record { index = index.0; changes = changes.0 }, changes.1)

unfoldable pub parts_at : Version → List ℕ → Field (List IndexedChangesRecord)
parts_at version bytes = do
  count ← count_at bytes
  elements_at (next_part_at version) (λ _ part. Some part.index) count.0 None count.1

-- ---- bodies

unfoldable pub lock_request_at : List ℕ → Field LockRequestRecord
lock_request_at bytes = do
  lock ← lock_at bytes
  time ← time_at lock.1
  Ok (record { lock = lock.0; time = time.0 }, time.1)

unfoldable pub lock_forward_at : List ℕ → Field LockForwardRecord
lock_forward_at bytes = do
  lock ← lock_at bytes
  asker ← node_at lock.1
  time ← time_at asker.1
  Ok (record { lock = lock.0; asker = asker.0; time = time.0 }, time.1)

unfoldable pub lock_grant_at : Version → List ℕ → Field LockGrantRecord
lock_grant_at version bytes = do
  lock ← lock_at bytes
  news ← news_at version lock.1
  Ok (record { lock = lock.0; time = news.0.time; intervals = news.0.intervals }, news.1)

unfoldable pub arrive_at : Version → List ℕ → Field ArriveRecord
arrive_at version bytes = do
  episode ← episode_at bytes
  ask ← flag_at episode.1
  news ← news_at version ask.1
  Ok (record { episode = episode.0; ask = ask.0; time = news.0.time; intervals = news.0.intervals }, news.1)

unfoldable pub depart_at : Version → List ℕ → Field DepartRecord
depart_at version bytes = do
  episode ← episode_at bytes
  collect ← flag_at episode.1
  news ← news_at version collect.1
  Ok (record { episode = episode.0; collect = collect.0; time = news.0.time; intervals = news.0.intervals }, news.1)

unfoldable pub changes_request_at : Version → List ℕ → Field ChangesRequestRecord
changes_request_at version bytes = do
  page ← page_at version bytes
  indices ← indices_at page.1
  Ok (record { page = page.0; indices = indices.0 }, indices.1)

unfoldable pub changes_reply_at : Version → List ℕ → Field ChangesReplyRecord
changes_reply_at version bytes = do
  page ← page_at version bytes
  parts ← parts_at version page.1
  Ok (record { page = page.0; parts = parts.0 }, parts.1)

abbrev pub clean_at : List ℕ → Field ℕ
clean_at bytes = episode_at bytes

abbrev pub discard_at : List ℕ → Field ℕ
discard_at bytes = episode_at bytes

abbrev pub page_request_at : Version → List ℕ → Field ℕ
page_request_at version bytes = page_at version bytes

-- how many words a page has
unfoldable pub size_at : Version → List ℕ → Field ℕ
size_at One bytes = Ok (words_in One, bytes)
size_at Two bytes = tested (λ n. n == 64 || n == MOST_PAGE_WORDS) BadCount (number_at w16 bytes)

-- a value for each word of a page
unfoldable pub page_values_at : Version → List ℕ → Field (List ℕ)
page_values_at version bytes = do
  size ← size_at version bytes
  values_at size.0 size.1

unfoldable pub page_reply_at : Version → List ℕ → Field PageReplyRecord
page_reply_at version bytes = do
  page ← page_at version bytes
  values ← page_values_at version page.1
  Ok (record { page = page.0; values = values.0 }, values.1)

-- the kind of each number
abbrev pub kind_of : ℕ → Option MessageKind
kind_of n =
    if n == 1 then Some kinds.LockRequest
    else if n == 2 then Some kinds.LockForward
    else if n == 3 then Some kinds.LockGrant
    else if n == 4 then Some kinds.Arrive
    else if n == 5 then Some kinds.Depart
    else if n == 6 then Some kinds.Clean
    else if n == 7 then Some kinds.Discard
    else if n == 8 then Some kinds.ChangesRequest
    else if n == 9 then Some kinds.ChangesReply
    else if n == 10 then Some kinds.PageRequest
    else if n == 11 then Some kinds.PageReply
    else None

-- a field as a message
unfoldable pub as_message : {A : Type 0} → (A → Message) → Field A → Field Message
as_message make field = field >>= λ m. Ok (make m.0, m.1)

unfoldable pub body_at : Version → MessageKind → List ℕ → Field Message
body_at version kinds.LockRequest bytes = as_message (λ m. LockRequest m) (lock_request_at bytes)
body_at version kinds.LockForward bytes = as_message (λ m. LockForward m) (lock_forward_at bytes)
body_at version kinds.LockGrant bytes = as_message (λ m. LockGrant m) (lock_grant_at version bytes)
body_at version kinds.Arrive bytes = as_message (λ m. Arrive m) (arrive_at version bytes)
body_at version kinds.Depart bytes = as_message (λ m. Depart m) (depart_at version bytes)
body_at version kinds.Clean bytes = as_message (λ m. Clean m) (clean_at bytes)
body_at version kinds.Discard bytes = as_message (λ m. Discard m) (discard_at bytes)
body_at version kinds.ChangesRequest bytes = as_message (λ m. ChangesRequest m) (changes_request_at version bytes)
body_at version kinds.ChangesReply bytes = as_message (λ m. ChangesReply m) (changes_reply_at version bytes)
body_at version kinds.PageRequest bytes = as_message (λ m. PageRequest m) (page_request_at version bytes)
body_at version kinds.PageReply bytes = as_message (λ m. PageReply m) (page_reply_at version bytes)

-- ---- envelopes

unfoldable pub kind_at : List ℕ → Field MessageKind
kind_at bytes = do
  n ← byte_at bytes
  kind ← ok_or (kind_of n.0) BadKind
  Ok (kind, n.1)

unfoldable pub version_at : List ℕ → Field Version
version_at bytes = do
  n ← byte_at bytes
  version ← ok_or (version_of n.0) BadVersion
  Ok (version, n.1)

-- what a header says of the message behind it
pub record HeaderRecord : Type 0 where
  pub version : Version
  pub kind : MessageKind
  pub from : ℕ
  pub to : ℕ
  pub number : ℕ
  pub body_len : ℕ

unfoldable pub header_at : List ℕ → Field HeaderRecord
header_at bytes = do
  version ← version_at bytes
  kind ← kind_at version.1
  from ← node_at kind.1
  to ← node_at from.1
  number ← number_at w32 to.1
  body_len ← tested (λ n. nat_le n MOST_BODY_BYTES) BadCount (number_at w32 number.1)
  Ok (record { version = version.0; kind = kind.0; from = from.0; to = to.0; number = number.0; body_len = body_len.0 }, body_len.1)

-- a body of so many bytes, and no byte after it
unfoldable pub whole_body_of : Version → MessageKind → ℕ → List ℕ → Result Message WireFault
whole_body_of version kind len bytes =
    if nat_lt (length bytes) len then Err Short
    else if nat_lt len (length bytes) then Err Long
    else do
      message ← body_at version kind bytes
      if length message.1 == 0 then Ok message.0 else Err Long

-- all of the bytes
unfoldable pub envelope_of : List ℕ → Result EnvelopeRecord WireFault
envelope_of bytes =
    if nat_lt (length bytes) HEADER_BYTES then Err Short
    else do
      header ← header_at bytes
      message ← whole_body_of header.0.version header.0.kind header.0.body_len header.1
      Ok (record { from = header.0.from; to = header.0.to; number = header.0.number; message = message })
