-- The rules by which a node makes its turns, one case for each: the conditions, and then what the turn does. They are in the
-- order of the table in docs/protocol.md, and say of each turn that the machine makes how it came about.
use Rattle.std.specs.Prelude.{◌≡◌, ◌≢◌, ℕ, ◌+◌, ◌<◌, ◌≤◌, true, false, Some, List, [], ◌∷◌, length, map, flat_map}
use Rattle.std.specs.Prelude.{fold, option_map, is_some}
use Rattle.std.specs.List.{list_all, list_any, range_with_len}
use Rattle.lrc_trace.specs.Run.{act_of}
use Rattle.lrc_time.specs.Time.{covers}
use Rattle.lrc_page.specs.Page.{words_of}
use Rattle.lrc_page.specs.Place.{page_of, pages_of}
use Rattle.lrc_exec.specs.Meaning.{Thread, Next, quiet, prints, reads, writes, acquires, releases, arrives, traps, ends, next_of}
use Rattle.lrc_store.specs.Store.{notice_at}
use Rattle.lrc_envelope.specs.Envelope.{EnvelopeRecord}
use Rattle.lrc_envelope.specs.Records.{LockRequestRecord, LockForwardRecord, LockGrantRecord, ArriveRecord, DepartRecord}
use Rattle.lrc_envelope.specs.Records.{ChangesRequestRecord, ChangesReplyRecord, PageReplyRecord}
use Rattle.lrc_envelope.specs.declared.message.Message.{Message}
use Rattle.lrc_envelope.specs.declared.message.Message.TheVariants.{LockRequest, LockForward, LockGrant, Arrive, Depart, Clean, Discard}
use Rattle.lrc_envelope.specs.declared.message.Message.TheVariants.{ChangesRequest, ChangesReply, PageRequest, PageReply}
use Rattle.lrc_lock.specs.Lock.{manager_of}
use Rattle.lrc_lock.specs.Held.{lock_at, is_free, taken, asked, released, forwarded, granted, pass_of, held_after, is_taken}
use Rattle.lrc_lock.specs.Managed.{recent_asker, with_asker}
use Rattle.lrc_barrier.specs.declared.departure.Departure.{Departure}
use Rattle.lrc_barrier.specs.Barrier.{ManagerRecord, waits, departs, arrived, awaits, discards, cleaned}
use Rattle.lrc_protocol.specs.Times.{MOST_NUMBER}
use Rattle.lrc_protocol.specs.Pages.{is_readable, Memory, copy_at, Need, need_of, is_met, repaired, awaits_changes, awaits_page, changes_came}
use Rattle.lrc_protocol.specs.Pages.{page_came, with_part}
use Rattle.lrc_protocol.specs.Locks.{with_managed}
use Rattle.lrc_protocol.specs.Barriers.{arrival_in, with_keepers, kept_pages, base_at, after_collection, Collection, with_arrive, with_manager}
use Rattle.lrc_protocol.specs.Node.{nothing, grant, departure, access, upkeep, discard, needs_of, numbered, going, cost_of, Node, Effect}
use Rattle.lrc_protocol.specs.Node.{with_locks, with_barrier, with_memory, with_tokens, waiting, sends, acts, own_index}
use Rattle.lrc_protocol.specs.Turn.{request_of, forward_to, grants_of, arrival_of, departure_of, discards_to, requests_of, changes_reply_to}
use Rattle.lrc_protocol.specs.Turn.{page_reply_to, cleans, after_close, charged, is_learnable, are_arriving, are_changes, learns, needs_of_kept}
use Rattle.lrc_protocol.specs.Turn.{TurnRecord, with_sent, empty_turn, is_repeat, taking}
use Rattle.lrc_protocol.specs.Run.{Input, run, taken as taken_in}

-- ---- a node goes on by itself

-- The node waits for nothing, its thread does this next, and it has the steps to begin it.
pub record IsReadyFor (node : Node) (next : Next) : Type 0 where
  pub idle : node.mail.wait ≡ nothing
  pub thread : Thread
  pub goes : node.course ≡ going thread
  pub next_is : next_of thread ≡ next
  pub paid : cost_of next ≤ node.left

-- what accesses shared memory, and the word
pub data AccessesNext : Next → ℕ → Type 0 where
  access_read : (word : ℕ) (after : ℕ → Thread) → AccessesNext (reads word after) word
  access_write : (word value : ℕ) (after : Thread) → AccessesNext (writes word value after) word

-- what needs no other node, and changes no part of this one but its text
pub data IsOwn : Next → Type 0 where
  own_quiet : (after : Thread) → IsOwn (quiet after)
  own_print : (value : ℕ) (after : Thread) → IsOwn (prints value after)
  own_trap : (cause : _) → IsOwn (traps cause)
  own_end : IsOwn ends

-- the page of a word
abbrev pub page_at : Node → ℕ → ℕ
page_at node word = page_of word node.options.size

-- what a page needs here
abbrev pub need_at : Node → ℕ → Need
need_at node page = need_of node.setting.nodes node.memory page

-- the node once it has begun what closes its open interval
abbrev pub closed_for : Node → Next → Node
closed_for node next = after_close (charged node next)

-- the rules of a node that goes on by itself
pub data RunRule (node : Node) : Effect → Type 0 where
  -- a hit: the access
  run_hit : {next : Next} {word : ℕ} → IsReadyFor node next → AccessesNext next word
      → is_readable (copy_at node.memory (page_at node word)) ≡ true
      → RunRule node (acts [] (charged node next))
  -- a miss: it asks for what the page needs, and waits;
  run_miss : {next : Next} {word : ℕ} → IsReadyFor node next → AccessesNext next word
      → is_readable (copy_at node.memory (page_at node word)) ≡ false → is_met (need_at node (page_at node word)) ≡ false
      → RunRule node
      (sends (requests_of (need_at node (page_at node word))) (waiting (access (need_at node (page_at node word))) (charged node next)))
  -- and where nothing has to be asked it repairs the page, and makes the access
  run_repair : {next : Next} {word : ℕ} → IsReadyFor node next → AccessesNext next word
      → is_readable (copy_at node.memory (page_at node word)) ≡ false → is_met (need_at node (page_at node word)) ≡ true
      → RunRule node
      (acts (requests_of (need_at node (page_at node word)))
      (waiting nothing (with_memory (charged node next) (repaired node.memory (need_at node (page_at node word))))))
  -- an acquire, the token here and free: it closes the interval
  run_acquire : (lock : ℕ) (after : Thread) → IsReadyFor node (acquires lock after) → own_index node < MOST_NUMBER
      → is_free (lock_at node.locks.held lock) ≡ true
      → RunRule node (acts [] (with_tokens (closed_for node (acquires lock after)) (taken node.locks.held lock)))
  -- an acquire, else: it closes the interval, asks the lock's manager, and waits
  run_ask : (lock : ℕ) (after : Thread) → IsReadyFor node (acquires lock after) → own_index node < MOST_NUMBER
      → is_free (lock_at node.locks.held lock) ≡ false
      → RunRule node
      (sends (request_of (closed_for node (acquires lock after)) lock ∷ [])
      (waiting (grant lock) (with_tokens (closed_for node (acquires lock after)) (asked node.locks.held lock))))
  -- a release: it closes the interval, and keeps the time with the token, or grants the lock to the successor
  run_release : (lock : ℕ) (after : Thread) → IsReadyFor node (releases lock after) → own_index node < MOST_NUMBER
      → RunRule node
      (acts (grants_of (closed_for node (releases lock after))
      (pass_of (released node.locks.held lock (closed_for node (releases lock after)).locks.time)))
      (with_tokens (closed_for node (releases lock after))
      (held_after node.locks.held lock (released node.locks.held lock (closed_for node (releases lock after)).locks.time))))
  -- a barrier: it closes the interval, tells node 0, and waits
  run_barrier : (after : Thread) → IsReadyFor node (arrives after) → own_index node < MOST_NUMBER
      → RunRule node
      (acts (arrival_of (closed_for node (arrives after)) (node.barrier.episode + 1) ∷ [])
      (waiting departure
      (with_barrier (closed_for node (arrives after)) (with_arrive (own_index (closed_for node (arrives after))) node.barrier))))
  -- anything else
  run_other : {next : Next} → IsReadyFor node next → IsOwn next → RunRule node (acts [] (charged node next))

-- ---- a node takes a message

-- A Depart for this node: from node 0, for the episode from which it awaits to depart, with a time that covers its own,
-- and news that it can learn.
pub record IsDepartureDue (node : Node) (from : ℕ) (m : DepartRecord) : Type 0 where
  pub from_manager : from ≡ 0
  pub awaited : node.mail.wait ≡ departure
  pub episode : m.episode ≡ node.barrier.episode
  pub above : covers m.time node.locks.time ≡ true
  pub learnable : is_learnable node m.time m.intervals ≡ true

-- A reply that is awaited of its sender, in range: the memory with what came, and what is no longer needed then.
pub data Brings (node : Node) (from : ℕ) : Message → Memory → (Need → Need) → Type 0 where
  brings_changes : (m : ChangesReplyRecord) → m.page < pages_of node.setting.words node.options.size
      → list_all (are_changes node) m.parts ≡ true
      → list_any (awaits_changes m.page from (map (λ part. part.index) m.parts)) (needs_of node.mail.wait) ≡ true
      → Brings node from (ChangesReply m) (record node.memory { store = fold (with_part from m.page) node.memory.store m.parts })
      (changes_came m.page from)
  brings_base_copy : (m : PageReplyRecord) → m.page < pages_of node.setting.words node.options.size
      → length m.values ≡ words_of node.options.size → list_any (awaits_page m.page from) (needs_of node.mail.wait) ≡ true
      → Brings node from (PageReply m) node.memory (page_came m.page m.values)

-- a collection begins at a node that has learnt the news: the pages that were named have new keepers
abbrev pub keeping : Node → DepartRecord → Node
keeping node m = with_memory (learns m.time m.intervals node) (with_keepers (learns m.time m.intervals node).memory)

-- what is collected then, and what the pages need that this node keeps
abbrev pub collection_at : Node → DepartRecord → Collection
collection_at node m = record { time = m.time; kept = kept_pages node.setting.me (keeping node m).memory }

abbrev pub upkeep_at : Node → DepartRecord → List Need
upkeep_at node m = needs_of_kept (keeping node m) (collection_at node m).kept

-- the rules of a node that takes a message from another, its number taken
pub data TakeRule (node : Node) (from : ℕ) : Message → Effect → Type 0 where
  -- LockRequest, where this node manages the lock: it goes on to who asked last
  take_request : (m : LockRequestRecord) → m.lock < node.setting.locks → length m.time ≡ node.setting.nodes
      → manager_of node.setting.nodes m.lock ≡ node.setting.me
      → TakeRule node from (LockRequest m)
      (sends (forward_to (recent_asker node.locks.managed m.lock) m.lock from m.time ∷ [])
      (with_locks node (with_managed (with_asker node.locks.managed m.lock from) node.locks)))
  -- LockForward, where its sender manages the lock, the token is here or awaited, without a successor, and the asker is
  -- another node: the lock is granted, or the successor kept
  take_forward : (m : LockForwardRecord) → m.lock < node.setting.locks → m.asker < node.setting.nodes
      → length m.time ≡ node.setting.nodes → manager_of node.setting.nodes m.lock ≡ from
      → is_taken (forwarded node.locks.held m.lock m.asker m.time) ≡ true
      → TakeRule node from (LockForward m)
      (sends (grants_of node (pass_of (forwarded node.locks.held m.lock m.asker m.time)))
      (with_tokens node (held_after node.locks.held m.lock (forwarded node.locks.held m.lock m.asker m.time))))
  -- LockGrant, where that lock is awaited: the node has the token, and learns the news
  take_token : (m : LockGrantRecord) → m.lock < node.setting.locks → node.mail.wait ≡ grant m.lock
      → is_learnable node m.time m.intervals ≡ true
      → TakeRule node from (LockGrant m)
      (acts [] (waiting nothing
      (learns m.time m.intervals (with_tokens node (held_after node.locks.held m.lock (granted node.locks.held m.lock))))))
  -- Arrive, where the manager is here and accepts it: it is kept;
  take_arrive : (m : ArriveRecord) (before after : ManagerRecord) → node.barrier.manager ≡ Some before
      → are_arriving node from m.time m.intervals ≡ true → arrived before from (arrival_in m) ≡ waits after
      → TakeRule node from (Arrive m) (sends [] (with_barrier node (with_manager after node.barrier)))
  -- and with the last one each node is let go
  take_last_arrive : (m : ArriveRecord) (before after : ManagerRecord) (departures : List Departure) → node.barrier.manager ≡ Some before
      → are_arriving node from m.time m.intervals ≡ true → arrived before from (arrival_in m) ≡ departs departures after
      → TakeRule node from (Arrive m) (sends (map departure_of departures) (with_barrier node (with_manager after node.barrier)))
  -- Depart: the node learns the news;
  take_depart : (m : DepartRecord) → IsDepartureDue node from m → m.collect ≡ false
      → TakeRule node from (Depart m) (acts [] (waiting nothing (learns m.time m.intervals node)))
  -- where it collects, there are new keepers, and the node asks for what its pages need,
  take_collect : (m : DepartRecord) → IsDepartureDue node from m → m.collect ≡ true → list_all is_met (upkeep_at node m) ≡ false
      → TakeRule node from (Depart m)
      (sends (flat_map requests_of (upkeep_at node m)) (waiting (upkeep (collection_at node m) (upkeep_at node m)) (keeping node m)))
  -- or keeps its base copies and tells node 0
  take_collect_at_once : (m : DepartRecord) → IsDepartureDue node from m → m.collect ≡ true → list_all is_met (upkeep_at node m) ≡ true
      → TakeRule node from (Depart m) (cleans (keeping node m) (collection_at node m) (upkeep_at node m))
  -- a reply at a miss: it is kept;
  take_reply : {message : Message} {memory : Memory} {change : Need → Need} (need : Need) → Brings node from message memory change
      → node.mail.wait ≡ access need → is_met (change need) ≡ false
      → TakeRule node from message (sends [] (waiting (access (change need)) (with_memory node memory)))
  -- with the last one the page is repaired, and the access made
  take_last_reply : {message : Message} {memory : Memory} {change : Need → Need} (need : Need) → Brings node from message memory change
      → node.mail.wait ≡ access need → is_met (change need) ≡ true
      → TakeRule node from message (acts [] (waiting nothing (with_memory node (repaired memory (change need)))))
  -- a reply in a collection: it is kept;
  take_kept_reply : {message : Message} {memory : Memory} {change : Need → Need} (collection : Collection) (needs : List Need)
      → Brings node from message memory change → node.mail.wait ≡ upkeep collection needs
      → list_all is_met (map change needs) ≡ false
      → TakeRule node from message (sends [] (waiting (upkeep collection (map change needs)) (with_memory node memory)))
  -- with the last one the pages are repaired, base copies kept, and node 0 told
  take_last_kept_reply : {message : Message} {memory : Memory} {change : Need → Need} (collection : Collection) (needs : List Need)
      → Brings node from message memory change → node.mail.wait ≡ upkeep collection needs
      → list_all is_met (map change needs) ≡ true
      → TakeRule node from message (cleans (with_memory node memory) collection (map change needs))
  -- Clean, where the manager is here and accepts it: it is noted;
  take_clean : (episode : ℕ) (before after : ManagerRecord) → node.barrier.manager ≡ Some before
      → cleaned before from episode ≡ awaits after
      → TakeRule node from (Clean episode) (sends [] (with_barrier node (with_manager after node.barrier)))
  -- and with the last one each node is told to discard
  take_last_clean : (episode over : ℕ) (before after : ManagerRecord) → node.barrier.manager ≡ Some before
      → cleaned before from episode ≡ discards over after
      → TakeRule node from (Clean episode)
      (sends (discards_to (range_with_len 0 node.setting.nodes) over) (with_barrier node (with_manager after node.barrier)))
  -- Discard, from node 0, where the node has sent its Clean of that episode: it drops what was collected
  take_discard : (episode : ℕ) (collection : Collection) → from ≡ 0 → node.mail.wait ≡ discard collection → episode ≡ node.barrier.episode
      → TakeRule node from (Discard episode)
      (acts [] (waiting nothing (with_memory node (after_collection node.setting.me collection.time node.memory))))
  -- ChangesRequest, where each index is of a stored interval of this node that names the page: the changes go to who asks
  take_changes_request : (m : ChangesRequestRecord) → m.page < pages_of node.setting.words node.options.size
      → list_all
      (λ index. is_some (notice_at node.memory.store (record { node = node.setting.me; index = index; page = m.page })))
      m.indices ≡ true
      → TakeRule node from (ChangesRequest m) (sends (changes_reply_to node from m.page m.indices ∷ []) node)
  -- PageRequest, from another node, where a base copy of the page is kept here: it goes to who asks
  take_page_request : (page : ℕ) (values : List ℕ) → page < pages_of node.setting.words node.options.size → from ≢ node.setting.me
      → base_at node.memory page ≡ Some values
      → TakeRule node from (PageRequest page) (sends (page_reply_to from page values ∷ []) node)

-- ---- a turn

-- what an effect is once its letters have numbers
pub data IsSent (effect : Effect) : TurnRecord → Node → Type 0 where
  with_numbers : (out : List EnvelopeRecord) (sent : List ℕ)
      → numbered effect.node.setting.me effect.node.options.first effect.node.mail.sent effect.letters ≡ Some (out, sent)
      → IsSent effect (record { act = option_map (act_of effect.node.setting.me) effect.deed; out = out }) (with_sent effect.node sent)

-- the message is for this node, and from one of the nodes
pub record IsFor (node : Node) (envelope : EnvelopeRecord) : Type 0 where
  pub to_it : envelope.to ≡ node.setting.me
  pub from_one : envelope.from < node.setting.nodes

-- A node makes this turn of an input, and is this node after it.
pub data TurnRule (node : Node) : Input → TurnRecord → Node → Type 0 where
  -- it goes on by itself
  by_run : {effect : Effect} {turn : TurnRecord} {after : Node} → RunRule node effect → IsSent effect turn after
      → TurnRule node run turn after
  -- it takes a repeat: nothing
  by_repeat : (envelope : EnvelopeRecord) → IsFor node envelope → is_repeat node envelope ≡ true
      → TurnRule node (taken_in envelope) empty_turn node
  -- it takes another message that it expects
  by_message : (envelope : EnvelopeRecord) {effect : Effect} {turn : TurnRecord} {after : Node} → IsFor node envelope
      → is_repeat node envelope ≡ false → TakeRule (taking node envelope) envelope.from envelope.message effect
      → IsSent effect turn after → TurnRule node (taken_in envelope) turn after
