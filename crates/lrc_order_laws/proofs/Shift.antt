-- What a turn does to the part of a node that synchronizes: what it waits for, its clock and tokens, and how often it has
-- arrived. One case for each kind of turn.
use Rattle.std.proofs.Common.{◌≡◌, ℕ, ◌+◌, ◌≤◌, List, [], ◌∷◌, Bool, true, false, length, refl, sym, ap, subst, ◌∙◌}
use Rattle.std.specs.Prelude.{Option, Some, None, option_map, nat_le, if◌then◌else◌, slice_index, slice_set}
use Rattle.std.proofs.lemmas.Bool.{and_parts, eqb-true, leb-true}
use Rattle.lrc_trace.specs.declared.act.Act.{Act}
use Rattle.lrc_trace.specs.declared.act.Deed.{Deed}
use Rattle.lrc_trace.specs.Run.{act_of}
use Rattle.lrc_time.specs.Time.{entry}
use Rattle.lrc_exec.specs.Meaning.{Thread, Next, acquires, releases, arrives, departs, next_of}
use Rattle.lrc_store.specs.Interval.{IntervalRecord}
use Rattle.lrc_envelope.specs.Envelope.{EnvelopeRecord}
use Rattle.lrc_envelope.specs.declared.message.Message.{Message}
use Rattle.lrc_lock.specs.Held.{lock_at, is_free, taken, asked, released, forwarded, granted, held_after}
use Rattle.lrc_lock.specs.Managed.{with_asker}
use Rattle.lrc_protocol.specs.Times.{MOST_NUMBER, next_time}
use Rattle.lrc_protocol.specs.Pages.{Need}
use Rattle.lrc_protocol.specs.Locks.{Locks, ticked, with_joined_time, with_held, with_managed}
use Rattle.lrc_protocol.specs.Barriers.{Collection}
use Rattle.lrc_protocol.specs.Node.{envelope_of, numbered, Letter, Wait, nothing, grant, departure, access, upkeep, discard, Course, going}
use Rattle.lrc_protocol.specs.Node.{trapped, ended, deed_of, course_of, Node, Effect, sends, acts, acts_by, value_read}
use Rattle.lrc_protocol.specs.Turn.{is_learnable, charged, TurnRecord, Outcome, done, not_ready, unexpected, worn, taking}
use Rattle.lrc_protocol.specs.Run.{Input, outcome_of}
use Rattle.lrc_protocol.specs.Rules.{take_request, IsReadyFor, AccessesNext, access_read, access_write, IsOwn, own_quiet, own_print, own_trap}
use Rattle.lrc_protocol.specs.Rules.{own_end, RunRule, run_hit, run_miss, run_repair, run_acquire, run_ask, run_release, run_barrier, run_other}
use Rattle.lrc_protocol.specs.Rules.{TakeRule, take_forward, take_token, take_arrive, take_last_arrive, take_depart, take_collect}
use Rattle.lrc_protocol.specs.Rules.{take_collect_at_once, collection_at, upkeep_at, take_reply, take_last_reply, take_kept_reply}
use Rattle.lrc_protocol.specs.Rules.{take_last_kept_reply, take_clean, take_last_clean, take_discard, take_changes_request, take_page_request}
use Rattle.lrc_protocol.specs.Rules.{IsSent, with_numbers, TurnRule, by_run, by_repeat, by_message}
use Rattle.lrc_protocol.proofs.Ruled.{RuledIf, ruled}
use Rattle.lrc_order_laws.specs.Waiting.{is_access, acquiring}
use Rattle.lrc_protocol.specs.Node.{next_in}

-- ---- the text

-- the deed that a text makes next, a read giving this value, and how far it has come then
abbrev pub deed_in : ℕ → Course → Option Deed
deed_in value (going thread) = Some (deed_of value (next_of thread))
deed_in value (trapped cause) = None
deed_in value ended = None

abbrev pub course_in : ℕ → Course → Course
course_in value (going thread) = course_of value (next_of thread)
course_in value (trapped cause) = trapped cause
course_in value ended = ended

pub record Acted (before : Course) (deed : Option Deed) (after : Course) : Type 0 where
  pub value : ℕ
  pub deed_is : deed ≡ deed_in value before
  pub course_is : after ≡ course_in value before

pub record Rested (before : Course) (deed : Option Deed) (after : Course) : Type 0 where
  pub deed_is : deed ≡ None
  pub course_is : after ≡ before

-- the text makes what it does next, or rests
abbrev pub Moved : Bool → Course → Option Deed → Course → Type 0
Moved true before deed after = Acted before deed after
Moved false before deed after = Rested before deed after

-- an act that synchronizes nothing
abbrev pub is_plain : Next → Bool
is_plain (acquires lock after) = false
is_plain (releases lock after) = false
is_plain (arrives after) = false
is_plain (departs after) = false
is_plain _ = true

-- ---- the part that synchronizes

pub record Part : Type 0 where
  pub me : ℕ
  pub nodes : ℕ
  pub course : Course
  pub wait : Wait
  pub locks : Locks
  pub episode : ℕ

abbrev pub part_of : Node → Part
part_of node = record {
  me = node.setting.me;
  nodes = node.setting.nodes;
  course = node.course;
  wait = node.mail.wait;
  locks = node.locks;
  episode = node.barrier.episode;
}

-- a time that a node can learn: of this node it has no more than the node itself
pub record Learnable (p : Part) (time : List ℕ) : Type 0 where
  pub counted : length time ≡ p.nodes
  pub own : entry time p.me ≤ entry p.locks.time p.me

-- whether the text makes its next act; what the node waits for, its clock and tokens, and how often it has arrived, after
pub data Shift (p : Part) : Bool → Wait → Locks → ℕ → Type 0 where
  -- by itself
  plain : (next : Next) → p.wait ≡ nothing → next_in p.course ≡ Some next → is_plain next ≡ true
      → Shift p true nothing p.locks p.episode
  misses : {need : Need} → p.wait ≡ nothing → is_access (next_in p.course) ≡ true
      → Shift p false (access need) p.locks p.episode
  takes : (lock : ℕ) → p.wait ≡ nothing → acquiring (next_in p.course) ≡ Some lock
      → is_free (lock_at p.locks.held lock) ≡ true
      → Shift p true nothing (with_held (taken p.locks.held lock) (ticked p.me p.locks)) p.episode
  asks : {lock : ℕ} → p.wait ≡ nothing → acquiring (next_in p.course) ≡ Some lock
      → is_free (lock_at p.locks.held lock) ≡ false
      → Shift p false (grant lock) (with_held (asked p.locks.held lock) (ticked p.me p.locks)) p.episode
  releasing : (lock : ℕ) (after : Thread) → p.wait ≡ nothing → next_in p.course ≡ Some (releases lock after)
      → Shift p true nothing
      (with_held (held_after p.locks.held lock (released p.locks.held lock (next_time p.me p.locks.time))) (ticked p.me p.locks)) p.episode
  arriving : (after : Thread) → p.wait ≡ nothing → next_in p.course ≡ Some (arrives after)
      → Shift p true departure (ticked p.me p.locks) (p.episode + 1)
  -- with a message
  manages : (lock from : ℕ) → Shift p false p.wait (with_managed (with_asker p.locks.managed lock from) p.locks) p.episode
  forwarding : (lock asker : ℕ) (time : List ℕ)
      → Shift p false p.wait (with_held (held_after p.locks.held lock (forwarded p.locks.held lock asker time)) p.locks) p.episode
  grants : (lock : ℕ) (time : List ℕ) → p.wait ≡ grant lock → Learnable p time
      → Shift p true nothing (with_joined_time time (with_held (held_after p.locks.held lock (granted p.locks.held lock)) p.locks)) p.episode
  departing : (time : List ℕ) → p.wait ≡ departure → Learnable p time → Shift p true nothing (with_joined_time time p.locks) p.episode
  collecting : (time : List ℕ) {collection : Collection} {needs : List Need} → p.wait ≡ departure → Learnable p time → collection.time ≡ time
      → Shift p false (upkeep collection needs) (with_joined_time time p.locks) p.episode
  clean_at_once : (time : List ℕ) {collection : Collection} → p.wait ≡ departure → Learnable p time → collection.time ≡ time
      → Shift p false (discard collection) (with_joined_time time p.locks) p.episode
  discarding : (collection : Collection) → p.wait ≡ discard collection → Shift p true nothing p.locks p.episode
  accessing : (need : Need) → p.wait ≡ access need → Shift p true nothing p.locks p.episode
  still_misses : (before : Need) {need : Need} → p.wait ≡ access before → Shift p false (access need) p.locks p.episode
  still_collects : (before : Collection) (had : List Need) {collection : Collection} {needs : List Need}
      → p.wait ≡ upkeep before had → collection.time ≡ before.time
      → Shift p false (upkeep collection needs) p.locks p.episode
  cleaning : (before : Collection) (had : List Need) {collection : Collection} → p.wait ≡ upkeep before had → collection.time ≡ before.time
      → Shift p false (discard collection) p.locks p.episode
  rests : Shift p false p.wait p.locks p.episode

-- ---- effects

pub record Shifts (p : Part) (e : Effect) : Type 0 where
  pub acts : Bool
  pub moved : Moved acts p.course e.deed e.node.course
  pub shift : Shift p acts e.node.mail.wait e.node.locks e.node.barrier.episode

sends-shifts : (p : Part) (letters : List Letter) (node : Node) → node.course ≡ p.course
    → Shift p false node.mail.wait node.locks node.barrier.episode → Shifts p (sends letters node)
sends-shifts p letters node c s = record { acts = false; moved = record { deed_is = refl; course_is = c }; shift = s }

acts_by-shifts : (p : Part) (letters : List Letter) (node : Node) (c : Course) → node.course ≡ c → c ≡ p.course
    → Shift p true node.mail.wait node.locks node.barrier.episode → Shifts p (acts_by letters node c)
acts_by-shifts p letters node (going thread) at c s = record {
  acts = true;
  moved = subst (λ c. Acted c (Some (deed_of (value_read node (next_of thread)) (next_of thread)))
      (course_of (value_read node (next_of thread)) (next_of thread))) c
      (record { value = value_read node (next_of thread); deed_is = refl; course_is = refl });
  shift = s;
}
acts_by-shifts p letters node (trapped cause) at c s = record {
  acts = true;
  moved = subst (λ c. Acted c None node.course) c (record { value = 0; deed_is = refl; course_is = at });
  shift = s;
}
acts_by-shifts p letters node ended at c s = record {
  acts = true;
  moved = subst (λ c. Acted c None node.course) c (record { value = 0; deed_is = refl; course_is = at });
  shift = s;
}

acts-shifts : (p : Part) (letters : List Letter) (node : Node) → node.course ≡ p.course
    → Shift p true node.mail.wait node.locks node.barrier.episode → Shifts p (acts letters node)
acts-shifts p letters node c s = acts_by-shifts p letters node node.course refl c s

-- ---- what a node does by itself

-- the wait was for nothing, so it is that still
idle : (p : Part) (b : Bool) (w : Wait) (locks : Locks) (episode : ℕ) → w ≡ nothing → Shift p b nothing locks episode → Shift p b w locks episode
idle p b w locks episode e s = subst (λ w. Shift p b w locks episode) (sym e) s

pub next-ready : (node : Node) (next : Next) → IsReadyFor node next → next_in node.course ≡ Some next
next-ready node next r = ap next_in r.goes ∙ ap Some r.next_is

pub access-plain : (next : Next) (word : ℕ) → AccessesNext next word → (is_plain next ≡ true) × (is_access (Some next) ≡ true)
access-plain next word (access_read w after) = (refl, refl)
access-plain next word (access_write w value after) = (refl, refl)

pub own-plain : (next : Next) → IsOwn next → is_plain next ≡ true
own-plain next (own_quiet after) = refl
own-plain next (own_print value after) = refl
own-plain next (own_trap cause) = refl
own-plain next own_end = refl

plain-shifts : (node : Node) (next : Next) → IsReadyFor node next → is_plain next ≡ true
    → Shifts (part_of node) (acts [] (charged node next))
plain-shifts node next r is =
    acts-shifts (part_of node) [] (charged node next) refl
    (idle _ true node.mail.wait node.locks node.barrier.episode r.idle (plain next r.idle (next-ready node next r) is))

run-shifts : (node : Node) (e : Effect) → RunRule node e → Shifts (part_of node) e
run-shifts node e (run_hit {next = next} {word = word} r a here) = plain-shifts node next r (access-plain next word a).0
run-shifts node e (run_miss {next = next} {word = word} r a away unmet) =
    sends-shifts (part_of node) _ _ refl (misses r.idle (ap is_access (next-ready node next r) ∙ (access-plain next word a).1))
run-shifts node e (run_repair {next = next} {word = word} r a away met) =
    acts-shifts (part_of node) _ _ refl (plain next r.idle (next-ready node next r) (access-plain next word a).0)
run-shifts node e (run_acquire lock after r room free) =
    acts-shifts (part_of node) [] _ refl
    (idle _ true node.mail.wait _ node.barrier.episode r.idle
    (takes lock r.idle (ap acquiring (next-ready node (acquires lock after) r)) free))
run-shifts node e (run_ask lock after r room away) =
    sends-shifts (part_of node) _ _ refl (asks r.idle (ap acquiring (next-ready node (acquires lock after) r)) away)
run-shifts node e (run_release lock after r room) =
    acts-shifts (part_of node) _ _ refl
    (idle _ true node.mail.wait _ node.barrier.episode r.idle (releasing lock after r.idle (next-ready node (releases lock after) r)))
run-shifts node e (run_barrier after r room) =
    acts-shifts (part_of node) _ _ refl (arriving after r.idle (next-ready node (arrives after) r))
run-shifts node e (run_other {next = next} r own) = plain-shifts node next r (own-plain next own)

-- ---- what a node does with a message

-- what a node can learn has an entry for each node, and no more of this node than the node itself
pub learnable : (node : Node) (time : List ℕ) (intervals : List IntervalRecord) → is_learnable node time intervals ≡ true → Learnable (part_of node) time
learnable node time intervals e =
    let outer : _ = and_parts _ _ e in
    let news : _ = and_parts _ _ outer.0 in
    let time_is : _ = and_parts _ _ (and_parts _ _ news.0).0 in
    record { counted = eqb-true _ _ time_is.0; own = leb-true _ _ outer.1 }

take-shifts : (node : Node) (from : ℕ) (message : Message) (e : Effect) → TakeRule node from message e → Shifts (part_of node) e
take-shifts node from message e (take_request m lt counted mine) =
    sends-shifts (part_of node) _ _ refl (manages m.lock from)
take-shifts node from message e (take_forward m lt asker counted managed taken) =
    sends-shifts (part_of node) _ _ refl (forwarding m.lock m.asker m.time)
take-shifts node from message e (take_token m lt at news) =
    acts-shifts (part_of node) [] _ refl (grants m.lock m.time at (learnable node m.time m.intervals news))
take-shifts node from message e (take_arrive m before after at news is) = sends-shifts (part_of node) _ _ refl rests
take-shifts node from message e (take_last_arrive m before after departures at news is) = sends-shifts (part_of node) _ _ refl rests
take-shifts node from message e (take_depart m d c) =
    acts-shifts (part_of node) [] _ refl (departing m.time d.awaited (learnable node m.time m.intervals d.learnable))
take-shifts node from message e (take_collect m d c unmet) =
    sends-shifts (part_of node) _ _ refl
    (collecting m.time {collection = collection_at node m} {needs = upkeep_at node m} d.awaited
    (learnable node m.time m.intervals d.learnable) refl)
take-shifts node from message e (take_collect_at_once m d c met) =
    sends-shifts (part_of node) _ _ refl
    (clean_at_once m.time {collection = collection_at node m} d.awaited (learnable node m.time m.intervals d.learnable) refl)
take-shifts node from message e (take_reply need b at unmet) = sends-shifts (part_of node) _ _ refl (still_misses need at)
take-shifts node from message e (take_last_reply need b at met) = acts-shifts (part_of node) [] _ refl (accessing need at)
take-shifts node from message e (take_kept_reply collection needs b at unmet) =
    sends-shifts (part_of node) _ _ refl (still_collects collection needs at refl)
take-shifts node from message e (take_last_kept_reply collection needs b at met) =
    sends-shifts (part_of node) _ _ refl (cleaning collection needs at refl)
take-shifts node from message e (take_clean episode before after at is) = sends-shifts (part_of node) _ _ refl rests
take-shifts node from message e (take_last_clean episode over before after at is) = sends-shifts (part_of node) _ _ refl rests
take-shifts node from message e (take_discard episode collection f at k) =
    acts-shifts (part_of node) [] _ refl (discarding collection at)
take-shifts node from message e (take_changes_request m lt all) = sends-shifts (part_of node) _ _ refl rests
take-shifts node from message e (take_page_request page values lt other at) = sends-shifts (part_of node) _ _ refl rests

-- ---- turns

abbrev pub deed_made : TurnRecord → Option Deed
deed_made turn = option_map (λ act. act.deed) turn.act

-- each of these messages is from this node
abbrev pub AllFrom : ℕ → List EnvelopeRecord → Type 0
AllFrom me [] = Unit {0}
AllFrom me (envelope ∷ more) = (envelope.from ≡ me) × AllFrom me more

abbrev pub FromIf : ℕ → Option (List EnvelopeRecord × List ℕ) → Type 0
FromIf me None = Unit {0}
FromIf me (Some (out, sent)) = AllFrom me out

from-one : (me : ℕ) (envelope : EnvelopeRecord) → envelope.from ≡ me → (o : Option (List EnvelopeRecord × List ℕ)) → FromIf me o
    → FromIf me (option_map (λ more. (envelope ∷ more.0, more.1)) o)
from-one me envelope e None h = tt
from-one me envelope e (Some (out, sent)) h = (e, h)

from-room : (me : ℕ) (b : Bool) (o : Option (List EnvelopeRecord × List ℕ)) → FromIf me o → FromIf me (if b then o else None)
from-room me true o h = h
from-room me false o h = tt

pub numbered-from : (me first : ℕ) (sent : List ℕ) (letters : List Letter) → FromIf me (numbered me first sent letters)
numbered-from me first sent [] = tt
numbered-from me first sent (letter ∷ letters) =
    let before : ℕ = slice_index sent letter.to in
    let more : Option (List EnvelopeRecord × List ℕ) = numbered me first (slice_set sent letter.to (before + 1)) letters in
    from-room me (nat_le (first + before) MOST_NUMBER) (option_map (λ more. (envelope_of me (first + before) letter ∷ more.0, more.1)) more)
    (from-one me (envelope_of me (first + before) letter) refl more (numbered-from me first (slice_set sent letter.to (before + 1)) letters))

-- what a turn does to the part that synchronizes, and whose messages it sends
pub record Shifted (node : Node) (turn : TurnRecord) (after : Node) : Type 0 where
  pub acts : Bool
  pub moved : Moved acts node.course (deed_made turn) after.course
  pub shift : Shift (part_of node) acts after.mail.wait after.locks after.barrier.episode
  pub from : AllFrom after.setting.me turn.out

abbrev pub ShiftedIf : Node → Outcome → Type 0
ShiftedIf node (done turn after) = Shifted node turn after
ShiftedIf node not_ready = Unit {0}
ShiftedIf node unexpected = Unit {0}
ShiftedIf node worn = Unit {0}

pub deed_back : (me : ℕ) (deed : Option Deed) → option_map (λ (act : Act). act.deed) (option_map (act_of me) deed) ≡ deed
deed_back me None = refl
deed_back me (Some d) = refl

sent-shifts : (node : Node) (e : Effect) (turn : TurnRecord) (after : Node) → Shifts (part_of node) e → IsSent e turn after
    → Shifted node turn after
sent-shifts node e turn after s (with_numbers out sent is) = record {
  acts = s.acts;
  moved = subst (λ d. Moved s.acts node.course d e.node.course) (sym (deed_back e.node.setting.me e.deed)) s.moved;
  shift = s.shift;
  from = subst (FromIf e.node.setting.me) is (numbered-from e.node.setting.me e.node.options.first e.node.mail.sent e.letters);
}

rule-shifts : (node : Node) (input : Input) (turn : TurnRecord) (after : Node) → TurnRule node input turn after → Shifted node turn after
rule-shifts node input turn after (by_run {effect = effect} r s) = sent-shifts node effect turn after (run-shifts node effect r) s
rule-shifts node input turn after (by_repeat envelope f again) =
    record { acts = false; moved = record { deed_is = refl; course_is = refl }; shift = rests; from = tt }
rule-shifts node input turn after (by_message envelope {effect = effect} f new r s) =
    sent-shifts node effect turn after (take-shifts (taking node envelope) envelope.from envelope.message effect r) s

ruled-shifts : (node : Node) (input : Input) (o : Outcome) → RuledIf node input o → ShiftedIf node o
ruled-shifts node input (done turn after) r = rule-shifts node input turn after r
ruled-shifts node input not_ready r = tt
ruled-shifts node input unexpected r = tt
ruled-shifts node input worn r = tt

-- each input shifts a node so, or is no turn
pub shifts : (node : Node) (input : Input) → ShiftedIf node (outcome_of node input)
shifts node input = ruled-shifts node input (outcome_of node input) (ruled node input)
