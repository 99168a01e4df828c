-- The steps of a node pay for the intervals that it closes and for its accesses.
use Rattle.std.proofs.Common.{◌≡◌, ℕ, ◌+◌, ◌<◌, ◌≤◌, List, [], true, length, refl, sym, ap, subst, ◌∙◌, ⊎_elim, arith}
use Rattle.std.specs.Prelude.{Option, Some, None, slice_set}
use Rattle.std.proofs.lemmas.Bool.{cases_lt}
use Rattle.std.proofs.lemmas.List.{get_or_past, length-set}
use Rattle.std.proofs.lemmas.Option.{same_Some}
use Rattle.lrc_trace.specs.declared.act.Deed.{Deed}
use Rattle.lrc_trace.specs.declared.act.Deed.TheVariants.{Read, Write}
use Rattle.lrc_time.specs.Time.{entry, joined}
use Rattle.lrc_time.proofs.Times.{entry-set_same, entry-joined}
use Rattle.lrc_exec.specs.Meaning.{Thread, Next, quiet, prints, reads, writes, acquires, releases, arrives, departs, traps, ends, next_of}
use Rattle.lrc_store.specs.Interval.{IntervalRecord}
use Rattle.lrc_envelope.specs.declared.message.Message.{Message}
use Rattle.lrc_protocol.specs.Barriers.{after_collection}
use Rattle.lrc_protocol.specs.Node.{Letter, Wait, nothing, access, Course, going, trapped, ended, deed_of, cost_of, Node, Effect, value_read}
use Rattle.lrc_protocol.specs.Node.{acts, acts_by, with_memory, waiting, own_index}
use Rattle.lrc_protocol.specs.Turn.{is_learnable, after_close, charged, learns, TurnRecord, taking}
use Rattle.lrc_protocol.specs.Run.{Input}
use Rattle.lrc_protocol.specs.Rules.{take_request, AccessesNext, access_read, access_write, RunRule, run_hit, run_miss, run_repair, run_acquire}
use Rattle.lrc_protocol.specs.Rules.{run_ask, run_release, run_barrier, run_other, TakeRule, take_forward, take_token, take_arrive}
use Rattle.lrc_protocol.specs.Rules.{take_last_arrive, take_depart, take_collect, take_collect_at_once, take_reply, take_last_reply}
use Rattle.lrc_protocol.specs.Rules.{take_kept_reply, take_last_kept_reply, take_clean, take_last_clean, take_discard, take_changes_request}
use Rattle.lrc_protocol.specs.Rules.{take_page_request, IsSent, with_numbers, TurnRule, by_run, by_repeat, by_message}
use Rattle.lrc_order_laws.specs.Waiting.{is_access, is_departing, FixesNext}
use Rattle.lrc_protocol.specs.Node.{next_in}
use Rattle.lrc_order_laws.proofs.Counts.{lock_next, departure_next}
use Rattle.lrc_order_laws.proofs.Shift.{next-ready, learnable, deed_made, deed_back}

-- an access that is made, by the deed, or to be made, by what the text does next; and one that is begun
abbrev pub accesses : Option Deed → ℕ
accesses (Some (Read word value)) = 1
accesses (Some (Write word value)) = 1
accesses _ = 0

abbrev pub accesses_next : Next → ℕ
accesses_next (reads word after) = 1
accesses_next (writes word value after) = 1
accesses_next _ = 0

abbrev pub is_begun : Wait → ℕ
is_begun (access need) = 1
is_begun _ = 0

-- the intervals that are closed, the access that is begun, and the steps that are left
abbrev pub spent : Node → ℕ
spent node = own_index node + is_begun node.mail.wait + node.left

-- with one closed interval more for an access that is made, they are no more than this
abbrev pub Spends : ℕ → Effect → Type 0
Spends most e = spent e.node + accesses e.deed ≤ most

deed_accesses : (value : ℕ) (next : Next) → accesses (Some (deed_of value next)) ≡ accesses_next next
deed_accesses value (quiet after) = refl
deed_accesses value (prints printed after) = refl
deed_accesses value (reads word after) = refl
deed_accesses value (writes word written after) = refl
deed_accesses value (acquires lock after) = refl
deed_accesses value (releases lock after) = refl
deed_accesses value (arrives after) = refl
deed_accesses value (departs after) = refl
deed_accesses value (traps cause) = refl
deed_accesses value ends = refl

pub costs : (next : Next) → accesses_next next ≤ cost_of next
costs (quiet after) = omega arith
costs (prints printed after) = omega arith
costs (reads word after) = omega arith
costs (writes word written after) = omega arith
costs (acquires lock after) = omega arith
costs (releases lock after) = omega arith
costs (arrives after) = omega arith
costs (departs after) = omega arith
costs (traps cause) = omega arith
costs ends = omega arith

access_one : (o : Option Next) → is_access o ≡ true → (next : Next) × (o ≡ Some next) × (accesses_next next ≤ 1)
access_one None e = cc
access_one (Some (reads word after)) e = (reads word after, refl, omega arith)
access_one (Some (writes word value after)) e = (writes word value after, refl, omega arith)
access_one (Some (quiet after)) e = cc
access_one (Some (prints value after)) e = cc
access_one (Some (acquires lock after)) e = cc
access_one (Some (releases lock after)) e = cc
access_one (Some (arrives after)) e = cc
access_one (Some (departs after)) e = cc
access_one (Some (traps cause)) e = cc
access_one (Some ends) e = cc

access_costs : (next : Next) (word : ℕ) → AccessesNext next word → cost_of next ≡ 1
access_costs next word (access_read w after) = refl
access_costs next word (access_write w value after) = refl

-- an entry that was set
set_most : (time : List ℕ) (me k : ℕ) → entry (slice_set time me k) me ≤ k
set_most time me k =
    ⊎_elim
    (λ (within : me < length time). omega (arith, entry-set_same time me k within))
    (λ (past : length time ≤ me).
    let none : entry (slice_set time me k) me ≡ 0 = get_or_past (slice_set time me k) me 0 (omega (arith, past, length-set time me k)) in
    omega (arith, none))
    (cases_lt me (length time))

ticked : (node : Node) → own_index (after_close node) ≤ own_index node + 1
ticked node = set_most node.locks.time node.setting.me (own_index node + 1)

module _ (most : ℕ) where
  acts_by-spends : (letters : List Letter) (node : Node) (c : Course) (next : Next) → next_in c ≡ Some next → spent node + accesses_next next ≤ most
      → Spends most (acts_by letters node c)
  acts_by-spends letters node (going thread) next n h =
      let same : next_of thread ≡ next = same_Some (next_of thread) next n in
      let counted : accesses (Some (deed_of (value_read node (next_of thread)) (next_of thread))) ≡ accesses_next next =
      deed_accesses (value_read node (next_of thread)) (next_of thread) ∙ ap accesses_next same in
      omega (arith, counted, h)
  acts_by-spends letters node (trapped cause) next n h = cc
  acts_by-spends letters node ended next n h = cc

  acts-spends : (letters : List Letter) (node : Node) (next : Next) → next_in node.course ≡ Some next → spent node + accesses_next next ≤ most
      → Spends most (acts letters node)
  acts-spends letters node next n h = acts_by-spends letters node node.course next n h

  -- ---- by itself, with a step paid for what is begun

  run-spends : (node : Node) (e : Effect) → spent node ≤ most → RunRule node e → Spends most e
  run-spends node e h (run_hit {next = next} r a readable) =
      acts-spends [] (charged node next) next (next-ready node next r) (omega (arith, costs next, r.paid, h))
  run-spends node e h (run_miss {next = next} {word = word} r a away unmet) = omega (arith, access_costs next word a, r.paid, h)
  run-spends node e h (run_repair {next = next} r a away met) =
      acts-spends _ _ next (next-ready node next r) (omega (arith, costs next, r.paid, h))
  run-spends node e h (run_acquire lock after r room free) =
      acts-spends [] _ (acquires lock after) (next-ready node (acquires lock after) r) (omega (arith, r.paid, ticked node, h))
  run-spends node e h (run_ask lock after r room away) = omega (arith, r.paid, ticked node, h, ap is_begun r.idle)
  run-spends node e h (run_release lock after r room) =
      acts-spends _ _ (releases lock after) (next-ready node (releases lock after) r) (omega (arith, r.paid, ticked node, h))
  run-spends node e h (run_barrier after r room) =
      acts-spends _ _ (arrives after) (next-ready node (arrives after) r) (omega (arith, r.paid, ticked node, h))
  run-spends node e h (run_other {next = next} r own) =
      acts-spends [] (charged node next) next (next-ready node next r) (omega (arith, costs next, r.paid, h))

  -- ---- with a message

  -- the text departs
  leaves-spends : (node : Node) → is_departing (next_in node.course) ≡ true → spent node ≤ most → Spends most (acts [] node)
  leaves-spends node d h =
      let next : (x : Thread) × (next_in node.course ≡ Some (departs x)) = departure_next (next_in node.course) d in
      acts-spends [] node (departs next.0) next.1 (omega (arith, h))

  -- what is learned of this node is no news
  known : (node : Node) (time : List ℕ) (intervals : List IntervalRecord) → is_learnable node time intervals ≡ true
      → entry (joined node.locks.time time) node.setting.me ≡ own_index node
  known node time intervals news =
      omega (arith, entry-joined node.locks.time time node.setting.me, (learnable node time intervals news).own)

  take-spends : (node : Node) (from : ℕ) (message : Message) (e : Effect) → FixesNext node.mail.wait (next_in node.course) → spent node ≤ most
      → TakeRule node from message e → Spends most e
  take-spends node from message e f h (take_request m lt counted mine) = omega (arith, h)
  take-spends node from message e f h (take_forward m lt asker counted managed accepted) = omega (arith, h)
  take-spends node from message e f h (take_token m lt at news) =
      let next : (x : Thread) × (next_in node.course ≡ Some (acquires m.lock x)) =
      lock_next (next_in node.course) m.lock (subst (λ w. FixesNext w (next_in node.course)) at f) in
      acts-spends [] _ (acquires m.lock next.0) next.1 (omega (arith, h, known node m.time m.intervals news))
  take-spends node from message e f h (take_arrive m before after at news is) = omega (arith, h)
  take-spends node from message e f h (take_last_arrive m before after departures at news is) = omega (arith, h)
  take-spends node from message e f h (take_depart m d c) =
      leaves-spends (waiting nothing (learns m.time m.intervals node)) (subst (λ w. FixesNext w (next_in node.course)) d.awaited f)
      (omega (arith, h, known node m.time m.intervals d.learnable))
  take-spends node from message e f h (take_collect m d c unmet) = omega (arith, h, known node m.time m.intervals d.learnable)
  take-spends node from message e f h (take_collect_at_once m d c met) = omega (arith, h, known node m.time m.intervals d.learnable)
  take-spends node from message e f h (take_reply need b at unmet) = omega (arith, h, ap is_begun at)
  take-spends node from message e f h (take_last_reply need b at met) =
      let next : _ = access_one (next_in node.course) (subst (λ w. FixesNext w (next_in node.course)) at f) in
      acts-spends [] _ next.0 next.1 (omega (arith, h, ap is_begun at, next.2))
  take-spends node from message e f h (take_kept_reply collection needs b at unmet) = omega (arith, h)
  take-spends node from message e f h (take_last_kept_reply collection needs b at met) = omega (arith, h)
  take-spends node from message e f h (take_clean episode before after at is) = omega (arith, h)
  take-spends node from message e f h (take_last_clean episode over before after at is) = omega (arith, h)
  take-spends node from message e f h (take_discard episode collection from_manager at is) =
      leaves-spends (waiting nothing (with_memory node (after_collection node.setting.me collection.time node.memory)))
      (subst (λ w. FixesNext w (next_in node.course)) at f) (omega (arith, h))
  take-spends node from message e f h (take_changes_request m lt all) = omega (arith, h)
  take-spends node from message e f h (take_page_request page values lt other at) = omega (arith, h)

-- ---- turns

abbrev pub SpendsAfter : ℕ → TurnRecord → Node → Type 0
SpendsAfter most turn after = spent after + accesses (deed_made turn) ≤ most

sent-spends : (most : ℕ) (e : Effect) (turn : TurnRecord) (after : Node) → Spends most e → IsSent e turn after → SpendsAfter most turn after
sent-spends most e turn after h (with_numbers out sent is) =
    subst (λ d. spent e.node + accesses d ≤ most) (sym (deed_back e.node.setting.me e.deed)) h

-- each turn spends no more than there is
pub turn-spends : (most : ℕ) (node : Node) (input : Input) (turn : TurnRecord) (after : Node) → FixesNext node.mail.wait (next_in node.course)
    → spent node ≤ most → TurnRule node input turn after → SpendsAfter most turn after
turn-spends most node input turn after f h (by_run {effect = e} r s) = sent-spends most e turn after (run-spends most node e h r) s
turn-spends most node input turn after f h (by_repeat envelope addressed again) = omega (arith, h)
turn-spends most node input turn after f h (by_message envelope {effect = e} addressed new r s) =
    sent-spends most e turn after (take-spends most (taking node envelope) envelope.from envelope.message e f h r) s
