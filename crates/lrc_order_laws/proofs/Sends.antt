-- What a turn sends, beside what it does to what a node waits for, its clock and tokens, and its barrier. One case for each
-- kind of turn, by what came. The contents of letters on pages, and the intervals of others, are left open.
use Rattle.std.proofs.Common.{◌≡◌, ℕ, ◌+◌, ◌<◌, List, [], ◌∷◌, ◌++◌, Bool, true, false, length, refl, sym, ap, subst, ◌∙◌}
use Rattle.std.specs.Prelude.{Option, Some, None, option_map, nat_le, if◌then◌else◌, map, flat_map, slice_index, slice_set}
use Rattle.std.specs.List.{range_with_len}
use Rattle.std.proofs.lemmas.Bool.{and_parts, eqb-true}
use Rattle.lrc_time.specs.Time.{entry, covers}
use Rattle.lrc_exec.specs.Meaning.{Thread, Next, acquires, releases, arrives, next_of}
use Rattle.lrc_store.specs.Interval.{IntervalRecord}
use Rattle.lrc_envelope.specs.Envelope.{EnvelopeRecord}
use Rattle.lrc_envelope.specs.Records.{LockRequestRecord, LockForwardRecord, LockGrantRecord, ArriveRecord, DepartRecord}
use Rattle.lrc_envelope.specs.declared.message.Message.{Message}
use Rattle.lrc_envelope.specs.declared.message.Message.TheVariants.{LockRequest, LockForward, LockGrant, Arrive, Depart, Clean, Discard}
use Rattle.lrc_envelope.specs.declared.message.Message.TheVariants.{ChangesRequest, ChangesReply, PageRequest, PageReply}
use Rattle.lrc_lock.specs.declared.state.Pass.{Pass}
use Rattle.lrc_lock.specs.Lock.{manager_of}
use Rattle.lrc_lock.specs.Held.{lock_at, is_free, taken, asked, released, forwarded, granted, pass_of, held_after, is_taken}
use Rattle.lrc_barrier.specs.declared.departure.Departure.{Departure}
use Rattle.lrc_barrier.specs.Barrier.{ManagerRecord, waits, departs as all_depart, arrived, awaits, discards, cleaned}
use Rattle.lrc_protocol.specs.Times.{MOST_NUMBER, next_time}
use Rattle.lrc_protocol.specs.Pages.{Memory, Base, unneeded, due, come, Asked, Need}
use Rattle.lrc_protocol.specs.Locks.{Locks, ticked, with_joined_time, with_held, with_managed}
use Rattle.lrc_protocol.specs.Barriers.{arrival_in, Collection, Barrier, with_arrive, with_manager}
use Rattle.lrc_protocol.specs.Node.{envelope_of, numbered, Letter, Wait, nothing, grant, departure, access, upkeep, discard, Course, going}
use Rattle.lrc_protocol.specs.Node.{trapped, ended, deed_of, course_of, Node, Effect, sends, acts, acts_by, value_read}
use Rattle.lrc_protocol.specs.Turn.{letter, forward_to, grants_of, own_news, asks_for_collection, departure_of, discards_to, changes_request_of}
use Rattle.lrc_protocol.specs.Turn.{page_request_of, requests_of, are_arriving, charged, TurnRecord, Outcome, done, not_ready, unexpected, worn}
use Rattle.lrc_protocol.specs.Turn.{taking, is_repeat, empty_turn}
use Rattle.lrc_protocol.specs.Run.{Input, run, taken as taken_in, outcome_of}
use Rattle.lrc_protocol.specs.Rules.{take_request, IsReadyFor, page_at, need_at, closed_for, IsDepartureDue, Brings, brings_changes}
use Rattle.lrc_protocol.specs.Rules.{brings_base_copy, RunRule, run_hit, run_miss, run_repair, run_acquire, run_ask, run_release, run_barrier}
use Rattle.lrc_protocol.specs.Rules.{run_other, TakeRule, take_forward, take_token, take_arrive, take_last_arrive, take_depart, take_collect}
use Rattle.lrc_protocol.specs.Rules.{take_collect_at_once, collection_at, upkeep_at, take_reply, take_last_reply, take_kept_reply}
use Rattle.lrc_protocol.specs.Rules.{take_last_kept_reply, take_clean, take_last_clean, take_discard, take_changes_request, take_page_request}
use Rattle.lrc_protocol.specs.Rules.{IsSent, with_numbers, TurnRule, by_run, by_repeat, by_message}
use Rattle.lrc_protocol.proofs.Ruled.{RuledIf, ruled}
use Rattle.lrc_order_laws.specs.Shape.{HasShape}
use Rattle.lrc_order_laws.specs.Waiting.{is_access, acquiring}
use Rattle.lrc_protocol.specs.Node.{next_in}
use Rattle.lrc_order_laws.proofs.Shift.{Acted, Moved, is_plain, Part, Learnable, learnable, next-ready, access-plain, own-plain}
use Rattle.lrc_order_laws.proofs.Shift.{deed_made, deed_back, AllFrom, FromIf, numbered-from}

-- ---- letters

-- a message of pages: of no lock and of no barrier
abbrev pub is_other : Message → Bool
is_other (ChangesRequest m) = true
is_other (ChangesReply m) = true
is_other (PageRequest page) = true
is_other (PageReply m) = true
is_other _ = false

-- all of these letters are of pages
abbrev pub AreOthers : List Letter → Type 0
AreOthers [] = Unit {0}
AreOthers (l ∷ letters) = (is_other l.message ≡ true) × AreOthers letters

-- the grant of a pass, with some intervals, or nothing where there is none
abbrev pub Grants : Option Pass → List Letter → Type 0
Grants None letters = letters ≡ []
Grants (Some pass) letters =
    (intervals : List IntervalRecord)
    × (letters ≡ letter pass.to (LockGrant (record { lock = pass.lock; time = pass.upto; intervals = intervals })) ∷ [])

-- what comes to a node: nothing, and it goes on by itself; or a message from a node
pub data Came : Type 0 where
  by_itself : Came
  comes : (from : ℕ) (message : Message) → Came

-- ---- the part that synchronizes, with the number of locks and the barrier's state

pub record Site : Type 0 where
  pub me : ℕ
  pub nodes : ℕ
  pub tokens : ℕ
  pub course : Course
  pub wait : Wait
  pub locks : Locks
  pub barrier : Barrier

abbrev pub site_of : Node → Site
site_of node = record {
  me = node.setting.me;
  nodes = node.setting.nodes;
  tokens = node.setting.locks;
  course = node.course;
  wait = node.mail.wait;
  locks = node.locks;
  barrier = node.barrier;
}

-- the same without it
abbrev pub part_in : Site → Part
part_in s = record { me = s.me; nodes = s.nodes; course = s.course; wait = s.wait; locks = s.locks; episode = s.barrier.episode }

-- a Depart that a node accepts: from node 0, for the episode where it waits, with a time that covers its own
pub record Accepted (s : Site) (from : ℕ) (m : DepartRecord) : Type 0 where
  pub wait : s.wait ≡ departure
  pub from_manager : from ≡ 0
  pub episode : m.episode ≡ s.barrier.episode
  pub above : covers m.time s.locks.time ≡ true
  pub learnable : Learnable (part_in s) m.time

-- By what came: whether the text makes its next act; what the node waits for, its clock and tokens, and its barrier, after;
-- and what it sends.
pub data Sends (s : Site) : Came → Bool → Wait → Locks → Barrier → List Letter → Type 0 where
  -- by itself
  plain : (next : Next) {letters : List Letter} → s.wait ≡ nothing → next_in s.course ≡ Some next → is_plain next ≡ true → AreOthers letters
      → Sends s by_itself true nothing s.locks s.barrier letters
  misses : {need : Need} {letters : List Letter} → s.wait ≡ nothing → is_access (next_in s.course) ≡ true → AreOthers letters
      → Sends s by_itself false (access need) s.locks s.barrier letters
  takes : (lock : ℕ) → s.wait ≡ nothing → acquiring (next_in s.course) ≡ Some lock → is_free (lock_at s.locks.held lock) ≡ true
      → Sends s by_itself true nothing (with_held (taken s.locks.held lock) (ticked s.me s.locks)) s.barrier []
  asks : (lock : ℕ) → s.wait ≡ nothing → acquiring (next_in s.course) ≡ Some lock → is_free (lock_at s.locks.held lock) ≡ false
      → Sends s by_itself false (grant lock) (with_held (asked s.locks.held lock) (ticked s.me s.locks)) s.barrier
      (letter (manager_of s.nodes lock) (LockRequest (record { lock = lock; time = next_time s.me s.locks.time })) ∷ [])
  releasing : (lock : ℕ) (after : Thread) {letters : List Letter} → s.wait ≡ nothing → next_in s.course ≡ Some (releases lock after)
      → Grants (pass_of (released s.locks.held lock (next_time s.me s.locks.time))) letters
      → Sends s by_itself true nothing
      (with_held (held_after s.locks.held lock (released s.locks.held lock (next_time s.me s.locks.time))) (ticked s.me s.locks)) s.barrier letters
  arriving : (after : Thread) (ask : Bool) (intervals : List IntervalRecord) → s.wait ≡ nothing → next_in s.course ≡ Some (arrives after)
      → Sends s by_itself true departure (ticked s.me s.locks) (with_arrive (entry (next_time s.me s.locks.time) s.me) s.barrier)
      (letter 0 (Arrive (record { episode = s.barrier.episode + 1; ask = ask; time = next_time s.me s.locks.time; intervals = intervals })) ∷ [])
  -- with a message on locks: a request goes on to who asked last,
  manages : (from : ℕ) (m : LockRequestRecord) → m.lock < s.tokens → length m.time ≡ s.nodes → manager_of s.nodes m.lock ≡ s.me
      → Sends s (comes from (LockRequest m)) false s.wait
      (with_managed (record s.locks.managed { recent = slice_set s.locks.managed.recent m.lock from }) s.locks) s.barrier
      (forward_to (slice_index s.locks.managed.recent m.lock) m.lock from m.time ∷ [])
  -- a request that comes so is granted, or its asker kept as successor,
  forwarding : (from : ℕ) (m : LockForwardRecord) {letters : List Letter} → m.lock < s.tokens → m.asker < s.nodes
      → length m.time ≡ s.nodes → manager_of s.nodes m.lock ≡ from → is_taken (forwarded s.locks.held m.lock m.asker m.time) ≡ true
      → Grants (pass_of (forwarded s.locks.held m.lock m.asker m.time)) letters
      → Sends s (comes from (LockForward m)) false s.wait
      (with_held (held_after s.locks.held m.lock (forwarded s.locks.held m.lock m.asker m.time)) s.locks) s.barrier letters
  -- and a grant makes the acquire.
  grants : (from : ℕ) (m : LockGrantRecord) → m.lock < s.tokens → s.wait ≡ grant m.lock → Learnable (part_in s) m.time
      → Sends s (comes from (LockGrant m)) true nothing
      (with_joined_time m.time (with_held (held_after s.locks.held m.lock (granted s.locks.held m.lock)) s.locks)) s.barrier []
  -- With a message on barriers: the manager keeps an arrival, or with the last one lets all depart;
  gathers : (from : ℕ) (m : ArriveRecord) (before after : ManagerRecord) → s.barrier.manager ≡ Some before → length m.time ≡ s.nodes
      → arrived before from (arrival_in m) ≡ waits after → Sends s (comes from (Arrive m)) false s.wait s.locks (with_manager after s.barrier) []
  lets_depart : (from : ℕ) (m : ArriveRecord) (before after : ManagerRecord) (departures : List Departure) → s.barrier.manager ≡ Some before
      → length m.time ≡ s.nodes → arrived before from (arrival_in m) ≡ all_depart departures after
      → Sends s (comes from (Arrive m)) false s.wait s.locks (with_manager after s.barrier) (map departure_of departures)
  -- who is told departs, or first collects: it asks for what its pages need, or is clean at once;
  departing : (from : ℕ) (m : DepartRecord) → Accepted s from m → m.collect ≡ false
      → Sends s (comes from (Depart m)) true nothing (with_joined_time m.time s.locks) s.barrier []
  collecting : (from : ℕ) (m : DepartRecord) {collection : Collection} {needs : List Need} {letters : List Letter} → Accepted s from m
      → m.collect ≡ true → collection.time ≡ m.time → AreOthers letters
      → Sends s (comes from (Depart m)) false (upkeep collection needs) (with_joined_time m.time s.locks) s.barrier letters
  clean_at_once : (from : ℕ) (m : DepartRecord) {collection : Collection} → Accepted s from m → m.collect ≡ true → collection.time ≡ m.time
      → Sends s (comes from (Depart m)) false (discard collection) (with_joined_time m.time s.locks) s.barrier
      (letter 0 (Clean s.barrier.episode) ∷ [])
  -- the manager notes who is clean, or with the last one lets all discard;
  notes_clean : (from episode : ℕ) (before after : ManagerRecord) → s.barrier.manager ≡ Some before → cleaned before from episode ≡ awaits after
      → Sends s (comes from (Clean episode)) false s.wait s.locks (with_manager after s.barrier) []
  lets_discard : (from episode over : ℕ) (before after : ManagerRecord) → s.barrier.manager ≡ Some before
      → cleaned before from episode ≡ discards over after
      → Sends s (comes from (Clean episode)) false s.wait s.locks (with_manager after s.barrier) (discards_to (range_with_len 0 s.nodes) over)
  -- and who is told departs.
  discarding : (from episode : ℕ) (collection : Collection) → s.wait ≡ discard collection → from ≡ 0 → episode ≡ s.barrier.episode
      → Sends s (comes from (Discard episode)) true nothing s.locks s.barrier []
  -- With a message on pages: a request is answered;
  serves : (from : ℕ) (message : Message) {letters : List Letter} → is_other message ≡ true → AreOthers letters
      → Sends s (comes from message) false s.wait s.locks s.barrier letters
  -- with a reply all has come, and the access is made, or the node is clean; or more is still to come.
  accessing : (from : ℕ) (message : Message) (need : Need) → is_other message ≡ true → s.wait ≡ access need
      → Sends s (comes from message) true nothing s.locks s.barrier []
  still_misses : (from : ℕ) (message : Message) (before : Need) {need : Need} → is_other message ≡ true → s.wait ≡ access before
      → Sends s (comes from message) false (access need) s.locks s.barrier []
  still_collects : (from : ℕ) (message : Message) (before : Collection) (had : List Need) {collection : Collection} {needs : List Need}
      → is_other message ≡ true → s.wait ≡ upkeep before had → collection.time ≡ before.time
      → Sends s (comes from message) false (upkeep collection needs) s.locks s.barrier []
  cleaning : (from : ℕ) (message : Message) (before : Collection) (had : List Need) {collection : Collection} → is_other message ≡ true
      → s.wait ≡ upkeep before had → collection.time ≡ before.time
      → Sends s (comes from message) false (discard collection) s.locks s.barrier (letter 0 (Clean s.barrier.episode) ∷ [])

-- ---- effects

pub record EffectSends (s : Site) (came : Came) (e : Effect) : Type 0 where
  pub acts : Bool
  pub moved : Moved acts s.course e.deed e.node.course
  pub sent : Sends s came acts e.node.mail.wait e.node.locks e.node.barrier e.letters

rested : (s : Site) (came : Came) (letters : List Letter) (node : Node) → node.course ≡ s.course
    → Sends s came false node.mail.wait node.locks node.barrier letters → EffectSends s came (sends letters node)
rested s came letters node c k = record { acts = false; moved = record { deed_is = refl; course_is = c }; sent = k }

acted_by : (s : Site) (came : Came) (letters : List Letter) (node : Node) (c : Course) → node.course ≡ c → c ≡ s.course
    → Sends s came true node.mail.wait node.locks node.barrier letters → EffectSends s came (acts_by letters node c)
acted_by s came letters node (going thread) at c k = record {
  acts = true;
  moved =
      subst (λ c. Acted c (Some (deed_of (value_read node (next_of thread)) (next_of thread)))
      (course_of (value_read node (next_of thread)) (next_of thread))) c
      (record { value = value_read node (next_of thread); deed_is = refl; course_is = refl });
  sent = k;
}
acted_by s came letters node (trapped cause) at c k = record {
  acts = true;
  moved = subst (λ c. Acted c None node.course) c (record { value = 0; deed_is = refl; course_is = at });
  sent = k;
}
acted_by s came letters node ended at c k = record {
  acts = true;
  moved = subst (λ c. Acted c None node.course) c (record { value = 0; deed_is = refl; course_is = at });
  sent = k;
}

acted : (s : Site) (came : Came) (letters : List Letter) (node : Node) → node.course ≡ s.course
    → Sends s came true node.mail.wait node.locks node.barrier letters → EffectSends s came (acts letters node)
acted s came letters node c k = acted_by s came letters node node.course refl c k

-- ---- letters of pages

others-append : (xs ys : List Letter) → AreOthers xs → AreOthers ys → AreOthers (xs ++ ys)
others-append [] ys h k = k
others-append (x ∷ xs) ys h k = (h.0, others-append xs ys h.1 k)

page_request-others : (page : ℕ) (base : Base) → AreOthers (page_request_of page base)
page_request-others page unneeded = tt
page_request-others page (due keeper) = (refl, tt)
page_request-others page (come values) = tt

changes_requests-others : (page : ℕ) (asked : List Asked) → AreOthers (map (changes_request_of page) asked)
changes_requests-others page [] = tt
changes_requests-others page (a ∷ asked) = (refl, changes_requests-others page asked)

requests-others : (need : Need) → AreOthers (requests_of need)
requests-others need =
    others-append (page_request_of need.page need.base) (map (changes_request_of need.page) need.asked)
    (page_request-others need.page need.base) (changes_requests-others need.page need.asked)

all_requests-others : (needs : List Need) → AreOthers (flat_map requests_of needs)
all_requests-others [] = tt
all_requests-others (need ∷ needs) =
    others-append (requests_of need) (flat_map requests_of needs) (requests-others need) (all_requests-others needs)

grants-so : (node : Node) (pass : Option Pass) → Grants pass (grants_of node pass)
grants-so node None = refl
grants-so node (Some pass) = (_, refl)

-- ---- what a node does by itself

-- the wait was for nothing, so it is that still
idle : (s : Site) (b : Bool) (w : Wait) (locks : Locks) (barrier : Barrier) (letters : List Letter) → w ≡ nothing
    → Sends s by_itself b nothing locks barrier letters → Sends s by_itself b w locks barrier letters
idle s b w locks barrier letters e k = subst (λ w. Sends s by_itself b w locks barrier letters) (sym e) k

plain-sends : (node : Node) (next : Next) → IsReadyFor node next → is_plain next ≡ true
    → EffectSends (site_of node) by_itself (acts [] (charged node next))
plain-sends node next r is =
    acted (site_of node) by_itself [] (charged node next) refl
    (idle _ true node.mail.wait node.locks node.barrier [] r.idle (plain next r.idle (next-ready node next r) is tt))

run-sends : (node : Node) (e : Effect) → RunRule node e → EffectSends (site_of node) by_itself e
run-sends node e (run_hit {next = next} {word = word} r a here) = plain-sends node next r (access-plain next word a).0
run-sends node e (run_miss {next = next} {word = word} r a away unmet) =
    rested (site_of node) by_itself _ _ refl
    (misses r.idle (ap is_access (next-ready node next r) ∙ (access-plain next word a).1)
    (requests-others (need_at node (page_at node word))))
run-sends node e (run_repair {next = next} {word = word} r a away met) =
    acted (site_of node) by_itself _ _ refl
    (plain next r.idle (next-ready node next r) (access-plain next word a).0 (requests-others (need_at node (page_at node word))))
run-sends node e (run_acquire lock after r room free) =
    acted (site_of node) by_itself [] _ refl
    (idle _ true node.mail.wait _ node.barrier [] r.idle (takes lock r.idle (ap acquiring (next-ready node (acquires lock after) r)) free))
run-sends node e (run_ask lock after r room away) =
    rested (site_of node) by_itself _ _ refl (asks lock r.idle (ap acquiring (next-ready node (acquires lock after) r)) away)
run-sends node e (run_release lock after r room) =
    acted (site_of node) by_itself _ _ refl
    (idle _ true node.mail.wait _ node.barrier _ r.idle
    (releasing lock after r.idle (next-ready node (releases lock after) r) (grants-so (closed_for node (releases lock after)) _)))
run-sends node e (run_barrier after r room) =
    let closed : Node = closed_for node (arrives after) in
    acted (site_of node) by_itself _ _ refl
    (arriving after (asks_for_collection closed) (own_news closed) r.idle (next-ready node (arrives after) r))
run-sends node e (run_other {next = next} r own) = plain-sends node next r (own-plain next own)

-- ---- what a node does with a message

arriving-time : (node : Node) (from : ℕ) (time : List ℕ) (intervals : List IntervalRecord) → are_arriving node from time intervals ≡ true
    → length time ≡ node.setting.nodes
arriving-time node from time intervals e =
    let between : _ = and_parts _ _ e in
    let own : _ = and_parts _ _ between.0 in
    let news : _ = and_parts _ _ own.0 in
    let time_is : _ = and_parts _ _ news.0 in
    eqb-true _ _ time_is.0

accepted : (node : Node) (from : ℕ) (m : DepartRecord) → IsDepartureDue node from m → Accepted (site_of node) from m
accepted node from m d = record {
  wait = d.awaited;
  from_manager = d.from_manager;
  episode = d.episode;
  above = d.above;
  learnable = learnable node m.time m.intervals d.learnable;
}

brings-other : (node : Node) (from : ℕ) (message : Message) (memory : Memory) (change : Need → Need)
    → Brings node from message memory change → is_other message ≡ true
brings-other node from message memory change (brings_changes m lt all some) = refl
brings-other node from message memory change (brings_base_copy m lt counted some) = refl

take-sends : (node : Node) (from : ℕ) (message : Message) (e : Effect) → HasShape node.setting node.locks → TakeRule node from message e
    → EffectSends (site_of node) (comes from message) e
take-sends node from message e h (take_request m lt counted mine) =
    rested (site_of node) (comes from (LockRequest m)) _ _ refl (manages from m lt counted mine)
take-sends node from message e h (take_forward m lt asker counted managed taken) =
    rested (site_of node) (comes from (LockForward m)) _ _ refl (forwarding from m lt asker counted managed taken (grants-so node _))
take-sends node from message e h (take_token m lt at news) =
    acted (site_of node) (comes from (LockGrant m)) [] _ refl (grants from m lt at (learnable node m.time m.intervals news))
take-sends node from message e h (take_arrive m before after at news is) =
    rested (site_of node) (comes from (Arrive m)) [] _ refl
    (gathers from m before after at (arriving-time node from m.time m.intervals news) is)
take-sends node from message e h (take_last_arrive m before after departures at news is) =
    rested (site_of node) (comes from (Arrive m)) _ _ refl
    (lets_depart from m before after departures at (arriving-time node from m.time m.intervals news) is)
take-sends node from message e h (take_depart m d c) =
    acted (site_of node) (comes from (Depart m)) [] _ refl (departing from m (accepted node from m d) c)
take-sends node from message e h (take_collect m d c unmet) =
    rested (site_of node) (comes from (Depart m)) _ _ refl
    (collecting from m {collection = collection_at node m} {needs = upkeep_at node m} (accepted node from m d) c refl
    (all_requests-others (upkeep_at node m)))
take-sends node from message e h (take_collect_at_once m d c met) =
    rested (site_of node) (comes from (Depart m)) _ _ refl
    (clean_at_once from m {collection = collection_at node m} (accepted node from m d) c refl)
take-sends node from message e h (take_reply need b at unmet) =
    rested (site_of node) (comes from message) [] _ refl (still_misses from message need (brings-other node from message _ _ b) at)
take-sends node from message e h (take_last_reply need b at met) =
    acted (site_of node) (comes from message) [] _ refl (accessing from message need (brings-other node from message _ _ b) at)
take-sends node from message e h (take_kept_reply collection needs b at unmet) =
    rested (site_of node) (comes from message) [] _ refl
    (still_collects from message collection needs (brings-other node from message _ _ b) at refl)
take-sends node from message e h (take_last_kept_reply collection needs b at met) =
    rested (site_of node) (comes from message) _ _ refl
    (cleaning from message collection needs (brings-other node from message _ _ b) at refl)
take-sends node from message e h (take_clean episode before after at is) =
    rested (site_of node) (comes from (Clean episode)) [] _ refl (notes_clean from episode before after at is)
take-sends node from message e h (take_last_clean episode over before after at is) =
    rested (site_of node) (comes from (Clean episode)) _ _ refl (lets_discard from episode over before after at is)
take-sends node from message e h (take_discard episode collection f at k) =
    acted (site_of node) (comes from (Discard episode)) [] _ refl (discarding from episode collection at f k)
take-sends node from message e h (take_changes_request m lt all) =
    rested (site_of node) (comes from (ChangesRequest m)) _ node refl (serves from (ChangesRequest m) refl (refl, tt))
take-sends node from message e h (take_page_request page values lt other at) =
    rested (site_of node) (comes from (PageRequest page)) _ node refl (serves from (PageRequest page) refl (refl, tt))

-- ---- turns

-- what an envelope brings
abbrev pub letter_in : EnvelopeRecord → Letter
letter_in envelope = letter envelope.to envelope.message

-- a turn that is no repeat: what it sends are these letters, each from this node
pub record Sent (node : Node) (came : Came) (turn : TurnRecord) (after : Node) : Type 0 where
  pub acts : Bool
  pub letters : List Letter
  pub moved : Moved acts node.course (deed_made turn) after.course
  pub sent : Sends (site_of node) came acts after.mail.wait after.locks after.barrier letters
  pub out : map letter_in turn.out ≡ letters
  pub from : AllFrom after.setting.me turn.out

-- a turn by what came: by itself, a repeat, or a message that was not taken before
pub data Sending (node : Node) : Input → TurnRecord → Node → Type 0 where
  alone : {turn : TurnRecord} {after : Node} → Sent node by_itself turn after → Sending node run turn after
  repeats : (envelope : EnvelopeRecord) → is_repeat node envelope ≡ true → Sending node (taken_in envelope) empty_turn node
  anew : (envelope : EnvelopeRecord) {turn : TurnRecord} {after : Node} → envelope.to ≡ node.setting.me → envelope.from < node.setting.nodes
      → is_repeat node envelope ≡ false → Sent node (comes envelope.from envelope.message) turn after
      → Sending node (taken_in envelope) turn after

abbrev pub SendingIf : Node → Input → Outcome → Type 0
SendingIf node input (done turn after) = Sending node input turn after
SendingIf node input not_ready = Unit {0}
SendingIf node input unexpected = Unit {0}
SendingIf node input worn = Unit {0}

abbrev pub LettersIf : List Letter → Option (List EnvelopeRecord × List ℕ) → Type 0
LettersIf letters None = Unit {0}
LettersIf letters (Some (out, sent)) = map letter_in out ≡ letters

letters-one : (me number : ℕ) (l : Letter) (letters : List Letter) (o : Option (List EnvelopeRecord × List ℕ)) → LettersIf letters o
    → LettersIf (l ∷ letters) (option_map (λ more. (envelope_of me number l ∷ more.0, more.1)) o)
letters-one me number l letters None h = tt
letters-one me number l letters (Some (out, sent)) h = ap (λ ls. l ∷ ls) h

letters-room : (letters : List Letter) (b : Bool) (o : Option (List EnvelopeRecord × List ℕ)) → LettersIf letters o → LettersIf letters (if b then o else None)
letters-room letters true o h = h
letters-room letters false o h = tt

pub numbered-letters : (me first : ℕ) (sent : List ℕ) (letters : List Letter) → LettersIf letters (numbered me first sent letters)
numbered-letters me first sent [] = refl
numbered-letters me first sent (l ∷ letters) =
    let before : ℕ = slice_index sent l.to in
    let more : Option (List EnvelopeRecord × List ℕ) = numbered me first (slice_set sent l.to (before + 1)) letters in
    letters-room (l ∷ letters) (nat_le (first + before) MOST_NUMBER) (option_map (λ more. (envelope_of me (first + before) l ∷ more.0, more.1)) more)
    (letters-one me (first + before) l letters more (numbered-letters me first (slice_set sent l.to (before + 1)) letters))

-- what a turn sends are the letters of its effect, each from this node
pub sent-letters : (e : Effect) (turn : TurnRecord) (after : Node) → IsSent e turn after → map letter_in turn.out ≡ e.letters
sent-letters e turn after (with_numbers out sent is) =
    subst (LettersIf e.letters) is (numbered-letters e.node.setting.me e.node.options.first e.node.mail.sent e.letters)

pub sent-from : (e : Effect) (turn : TurnRecord) (after : Node) → IsSent e turn after → AllFrom after.setting.me turn.out
sent-from e turn after (with_numbers out sent is) =
    subst (FromIf e.node.setting.me) is (numbered-from e.node.setting.me e.node.options.first e.node.mail.sent e.letters)

sent-by : (node : Node) (came : Came) (e : Effect) (turn : TurnRecord) (after : Node) → EffectSends (site_of node) came e
    → IsSent e turn after → Sent node came turn after
sent-by node came e turn after k (with_numbers out sent is) = record {
  acts = k.acts;
  letters = e.letters;
  moved = subst (λ d. Moved k.acts node.course d e.node.course) (sym (deed_back e.node.setting.me e.deed)) k.moved;
  sent = k.sent;
  out = sent-letters e _ _ (with_numbers out sent is);
  from = sent-from e _ _ (with_numbers out sent is);
}

rule-sends : (node : Node) (input : Input) (turn : TurnRecord) (after : Node) → HasShape node.setting node.locks
    → TurnRule node input turn after → Sending node input turn after
rule-sends node input turn after shape (by_run {effect = effect} r s) =
    alone (sent-by node by_itself effect turn after (run-sends node effect r) s)
rule-sends node input turn after shape (by_repeat envelope f again) = repeats envelope again
rule-sends node input turn after shape (by_message envelope {effect = effect} f new r s) =
    anew envelope f.to_it f.from_one new
    (sent-by node (comes envelope.from envelope.message) effect turn after
    (take-sends (taking node envelope) envelope.from envelope.message effect shape r) s)

ruled-sends : (node : Node) (input : Input) (o : Outcome) → HasShape node.setting node.locks → RuledIf node input o → SendingIf node input o
ruled-sends node input (done turn after) shape r = rule-sends node input turn after shape r
ruled-sends node input not_ready shape r = tt
ruled-sends node input unexpected shape r = tt
ruled-sends node input worn shape r = tt

-- each input to a node of this shape sends so, or is no turn
pub sendings : (node : Node) (input : Input) → HasShape node.setting node.locks → SendingIf node input (outcome_of node input)
sendings node input shape = ruled-sends node input (outcome_of node input) shape (ruled node input)
