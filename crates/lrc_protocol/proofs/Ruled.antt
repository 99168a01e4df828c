-- Each turn that the machine makes is made by a rule.
use Rattle.std.proofs.Common.{◌≡◌, ℕ, ◌<◌, ◌≤◌, List, Bool, true, false, length, refl, ap, subst}
use Rattle.std.specs.Prelude.{◌==◌, ◌&&◌, ◌≢◌, Option, Some, None, IfSome, option_and_then, nat_lt, map, if◌then◌else◌}
use Rattle.std.specs.List.{list_all, list_any}
use Rattle.std.proofs.lemmas.Bool.{and_parts, eqb-true, eqb-false, ltb-true, leb-true, not-true}
use Rattle.lrc_exec.specs.Meaning.{Thread, Next, quiet, prints, reads, writes, acquires, releases, arrives, departs, traps, ends, next_of}
use Rattle.lrc_envelope.specs.Envelope.{EnvelopeRecord}
use Rattle.lrc_envelope.specs.Records.{LockForwardRecord, ArriveRecord}
use Rattle.lrc_envelope.specs.declared.message.Message.{Message}
use Rattle.lrc_envelope.specs.declared.message.Message.TheVariants.{LockRequest, LockForward, LockGrant, Arrive, Depart, Clean, Discard}
use Rattle.lrc_envelope.specs.declared.message.Message.TheVariants.{ChangesRequest, ChangesReply, PageRequest, PageReply}
use Rattle.lrc_page.specs.Place.{pages_of}
use Rattle.lrc_lock.specs.Lock.{manager_of}
use Rattle.lrc_lock.specs.Held.{LockStep, refuses, stays, passes, forwarded, is_taken, pass_of, held_after, lock_at, is_free}
use Rattle.lrc_barrier.specs.Barrier.{ManagerRecord, ArriveStep, refuses as refuses_arrival, waits, departs as all_depart, arrived, CleanStep}
use Rattle.lrc_barrier.specs.Barrier.{refuses_clean, awaits, discards, cleaned}
use Rattle.lrc_protocol.specs.Times.{MOST_NUMBER}
use Rattle.lrc_protocol.specs.Pages.{is_readable, Memory, copy_at, Need, is_met, page_came}
use Rattle.lrc_protocol.specs.Barriers.{base_at, arrival_in}
use Rattle.lrc_protocol.specs.Node.{Wait, nothing, grant, departure, access, upkeep, discard, needs_of, numbered, is_idle, awaits_grant}
use Rattle.lrc_protocol.specs.Node.{awaits_departure, collection_of, Course, going, trapped, ended, cost_of, Node, Effect, sends, with_memory}
use Rattle.lrc_protocol.specs.Node.{with_tokens, own_index}
use Rattle.lrc_protocol.specs.Turn.{may_begin, begins_of, with_needs, takes_reply, after_close, reaches, acquire_at, release_at, arrive_at}
use Rattle.lrc_protocol.specs.Turn.{run_effect, charged, grants_of, given, expects_request, expects_forward, forward_by, expects_grant, are_arriving}
use Rattle.lrc_protocol.specs.Turn.{arrive_by, expects_departure, clean_by, discard_by, expects_changes_request, expects_changes_reply, expects_page_request}
use Rattle.lrc_protocol.specs.Turn.{page_reply_by, expects_page_reply, takes, TurnRecord, Outcome, done, not_ready, unexpected, worn, turn_with}
use Rattle.lrc_protocol.specs.Turn.{turn_of, turn_or, turn_by, take_anew, take_turn, taking, is_addressed, is_repeat, empty_turn}
use Rattle.lrc_protocol.specs.Run.{Input, run, taken as taken_in, outcome_of}
use Rattle.lrc_protocol.specs.Rules.{take_request, IsReadyFor, AccessesNext, access_read, access_write, own_quiet, own_print, own_trap, own_end}
use Rattle.lrc_protocol.specs.Rules.{page_at, need_at, RunRule, run_hit, run_miss, run_repair, run_acquire, run_ask, run_release, run_barrier}
use Rattle.lrc_protocol.specs.Rules.{run_other, IsDepartureDue, Brings, brings_changes, brings_base_copy, upkeep_at, TakeRule, take_forward}
use Rattle.lrc_protocol.specs.Rules.{take_token, take_arrive, take_last_arrive, take_depart, take_collect, take_collect_at_once, take_reply}
use Rattle.lrc_protocol.specs.Rules.{take_last_reply, take_kept_reply, take_last_kept_reply, take_clean, take_last_clean, take_discard}
use Rattle.lrc_protocol.specs.Rules.{take_changes_request, take_page_request, IsSent, with_numbers, IsFor, TurnRule, by_run, by_repeat}
use Rattle.lrc_protocol.specs.Rules.{by_message}

either : (P : Effect → Type 0) (b : Bool) (x y : Effect) → (b ≡ true → P x) → (b ≡ false → P y) → P (if b then x else y)
either P true x y k l = k refl
either P false x y k l = l refl

-- ---- a node goes on by itself

abbrev pub RunRuleIf : Node → Option Effect → Type 0
RunRuleIf node None = Unit {0}
RunRuleIf node (Some e) = RunRule node e

optional : (node : Node) (b : Bool) (x : Effect) → (b ≡ true → RunRule node x) → RunRuleIf node (if b then Some x else None)
optional node true x k = k refl
optional node false x k = tt

-- what may be begun, there are the steps for
paid_for : (left : ℕ) (next : Next) → may_begin left next ≡ true → cost_of next ≤ left
paid_for left (quiet after) e = leb-true (cost_of (quiet after)) left e
paid_for left (prints value after) e = leb-true (cost_of (prints value after)) left e
paid_for left (reads word after) e = leb-true (cost_of (reads word after)) left e
paid_for left (writes word value after) e = leb-true (cost_of (writes word value after)) left e
paid_for left (acquires lock after) e = leb-true (cost_of (acquires lock after)) left e
paid_for left (releases lock after) e = leb-true (cost_of (releases lock after)) left e
paid_for left (arrives after) e = leb-true (cost_of (arrives after)) left e
paid_for left (departs after) e = cc
paid_for left (traps cause) e = leb-true (cost_of (traps cause)) left e
paid_for left ends e = leb-true (cost_of ends) left e

access-ruled : (node : Node) (next : Next) (word : ℕ) → IsReadyFor node next → AccessesNext next word
    → RunRule node (reaches (charged node next) (page_at node word))
access-ruled node next word ready a =
    either (RunRule node) (is_readable (copy_at node.memory (page_at node word))) _ _
    (λ here. run_hit ready a here)
    (λ away. either (RunRule node) (is_met (need_at node (page_at node word))) _ _
    (λ met. run_repair ready a away met)
    (λ unmet. run_miss ready a away unmet))

acquire-ruled : (node : Node) (lock : ℕ) (after : Thread) → IsReadyFor node (acquires lock after) → own_index node < MOST_NUMBER
    → RunRule node (acquire_at lock (after_close (charged node (acquires lock after))))
acquire-ruled node lock after ready room =
    either (RunRule node) (is_free (lock_at node.locks.held lock)) _ _
    (λ free. run_acquire lock after ready room free)
    (λ away. run_ask lock after ready room away)

run-ruled : (node : Node) (next : Next) → IsReadyFor node next → may_begin node.left next ≡ true
    → RunRuleIf node (run_effect (charged node next) next)
run-ruled node (quiet after) ready e = run_other ready (own_quiet after)
run-ruled node (prints value after) ready e = run_other ready (own_print value after)
run-ruled node (reads word after) ready e = access-ruled node _ word ready (access_read word after)
run-ruled node (writes word value after) ready e = access-ruled node _ word ready (access_write word value after)
run-ruled node (acquires lock after) ready e =
    optional node (nat_lt (own_index node) MOST_NUMBER) (acquire_at lock (after_close (charged node (acquires lock after))))
    (λ room. acquire-ruled node lock after ready (ltb-true _ _ room))
run-ruled node (releases lock after) ready e =
    optional node (nat_lt (own_index node) MOST_NUMBER) (release_at lock (after_close (charged node (releases lock after))))
    (λ room. run_release lock after ready (ltb-true _ _ room))
run-ruled node (arrives after) ready e =
    optional node (nat_lt (own_index node) MOST_NUMBER) (arrive_at (after_close (charged node (arrives after))))
    (λ room. run_barrier after ready (ltb-true _ _ room))
run-ruled node (departs after) ready e = cc
run-ruled node (traps cause) ready e = run_other ready (own_trap cause)
run-ruled node ends ready e = run_other ready own_end

-- ---- a node takes a message

-- the wait that a test of it shows
awaits-lock : (lock : ℕ) (w : Wait) → awaits_grant lock w ≡ true → w ≡ grant lock
awaits-lock lock (grant awaited) e = ap grant (eqb-true awaited lock e)
awaits-lock lock nothing e = cc
awaits-lock lock departure e = cc
awaits-lock lock (access need) e = cc
awaits-lock lock (upkeep collection needs) e = cc
awaits-lock lock (discard collection) e = cc

awaits-leave : (w : Wait) → awaits_departure w ≡ true → w ≡ departure
awaits-leave departure e = refl
awaits-leave nothing e = cc
awaits-leave (grant lock) e = cc
awaits-leave (access need) e = cc
awaits-leave (upkeep collection needs) e = cc
awaits-leave (discard collection) e = cc

given-ruled : (P : Effect → Type 0) (condition : Bool) (effect : Option Effect) → (condition ≡ true → IfSome effect P)
    → IfSome (given condition effect) P
given-ruled P true effect k = k refl
given-ruled P false effect k = tt

forward-ruled : (node : Node) (from : ℕ) (m : LockForwardRecord) (step : LockStep) → m.lock < node.setting.locks → m.asker < node.setting.nodes
    → length m.time ≡ node.setting.nodes → manager_of node.setting.nodes m.lock ≡ from
    → forwarded node.locks.held m.lock m.asker m.time ≡ step → IfSome (forward_by node m.lock step) (TakeRule node from (LockForward m))
forward-ruled node from m (refuses fault) lt asker counted managed e = tt
forward-ruled node from m (stays state) lt asker counted managed e =
    subst (λ (s : LockStep).
    TakeRule node from (LockForward m) (sends (grants_of node (pass_of s)) (with_tokens node (held_after node.locks.held m.lock s)))) e
    (take_forward m lt asker counted managed (ap is_taken e))
forward-ruled node from m (passes pass) lt asker counted managed e =
    subst (λ (s : LockStep).
    TakeRule node from (LockForward m) (sends (grants_of node (pass_of s)) (with_tokens node (held_after node.locks.held m.lock s)))) e
    (take_forward m lt asker counted managed (ap is_taken e))

arrive-ruled : (node : Node) (from : ℕ) (m : ArriveRecord) (before : ManagerRecord) (step : ArriveStep) → node.barrier.manager ≡ Some before
    → are_arriving node from m.time m.intervals ≡ true → arrived before from (arrival_in m) ≡ step
    → IfSome (arrive_by node step) (TakeRule node from (Arrive m))
arrive-ruled node from m before (refuses_arrival fault) at news is = tt
arrive-ruled node from m before (waits after) at news is = take_arrive m before after at news is
arrive-ruled node from m before (all_depart departures after) at news is = take_last_arrive m before after departures at news is

arrivals-ruled : (node : Node) (from : ℕ) (m : ArriveRecord) (o : Option ManagerRecord) → node.barrier.manager ≡ o
    → are_arriving node from m.time m.intervals ≡ true
    → IfSome (option_and_then (λ manager. arrive_by node (arrived manager from (arrival_in m))) o) (TakeRule node from (Arrive m))
arrivals-ruled node from m None at news = tt
arrivals-ruled node from m (Some before) at news = arrive-ruled node from m before (arrived before from (arrival_in m)) at news refl

clean-ruled : (node : Node) (from episode : ℕ) (before : ManagerRecord) (step : CleanStep) → node.barrier.manager ≡ Some before
    → cleaned before from episode ≡ step → IfSome (clean_by node step) (TakeRule node from (Clean episode))
clean-ruled node from episode before (refuses_clean fault) at is = tt
clean-ruled node from episode before (awaits after) at is = take_clean episode before after at is
clean-ruled node from episode before (discards over after) at is = take_last_clean episode over before after at is

cleans-ruled : (node : Node) (from episode : ℕ) (o : Option ManagerRecord) → node.barrier.manager ≡ o
    → IfSome (option_and_then (λ manager. clean_by node (cleaned manager from episode)) o) (TakeRule node from (Clean episode))
cleans-ruled node from episode None at = tt
cleans-ruled node from episode (Some before) at = clean-ruled node from episode before (cleaned before from episode) at refl

discard-ruled : (node : Node) (from episode : ℕ) (w : Wait) → node.mail.wait ≡ w → from ≡ 0 → episode ≡ node.barrier.episode
    → IfSome (discard_by node (collection_of w)) (TakeRule node from (Discard episode))
discard-ruled node from episode (discard collection) at f k = take_discard episode collection f at k
discard-ruled node from episode nothing at f k = tt
discard-ruled node from episode (grant lock) at f k = tt
discard-ruled node from episode departure at f k = tt
discard-ruled node from episode (access need) at f k = tt
discard-ruled node from episode (upkeep collection needs) at f k = tt

page-ruled : (node : Node) (from page : ℕ) (base : Option (List ℕ)) → base_at node.memory page ≡ base
    → page < pages_of node.setting.words node.options.size → from ≢ node.setting.me
    → IfSome (page_reply_by node from page base) (TakeRule node from (PageRequest page))
page-ruled node from page None at lt other = tt
page-ruled node from page (Some values) at lt other = take_page_request page values lt other at

-- something came for what pages need
reply-ruled : (node : Node) (from : ℕ) (message : Message) (memory : Memory) (change : Need → Need) (test : Need → Bool) (w : Wait)
    → Brings node from message memory change → node.mail.wait ≡ w → list_any test (needs_of w) ≡ true
    → TakeRule node from message (takes_reply (with_memory node memory) (with_needs change w))
reply-ruled node from message memory change test (access need) b at some =
    either (TakeRule node from message) (is_met (change need)) _ _
    (λ met. take_last_reply need b at met)
    (λ unmet. take_reply need b at unmet)
reply-ruled node from message memory change test (upkeep collection needs) b at some =
    either (TakeRule node from message) (list_all is_met (map change needs)) _ _
    (λ met. take_last_kept_reply collection needs b at met)
    (λ unmet. take_kept_reply collection needs b at unmet)
reply-ruled node from message memory change test nothing b at some = cc
reply-ruled node from message memory change test (grant lock) b at some = cc
reply-ruled node from message memory change test departure b at some = cc
reply-ruled node from message memory change test (discard collection) b at some = cc

take-ruled : (node : Node) (from : ℕ) (message : Message) → IfSome (takes node from message) (TakeRule node from message)
take-ruled node from (LockRequest m) =
    given-ruled (TakeRule node from (LockRequest m)) (expects_request node m) _
    (λ e.
    let outer : _ = and_parts _ _ e in
    let inner : _ = and_parts _ _ outer.0 in
    take_request m (ltb-true _ _ inner.0) (eqb-true _ _ inner.1) (eqb-true _ _ outer.1))
take-ruled node from (LockForward m) =
    given-ruled (TakeRule node from (LockForward m)) (expects_forward node from m) _
    (λ e.
    let managed : _ = and_parts _ _ e in
    let timed : _ = and_parts _ _ managed.0 in
    let askers : _ = and_parts _ _ timed.0 in
    forward-ruled node from m (forwarded node.locks.held m.lock m.asker m.time)
    (ltb-true _ _ askers.0) (ltb-true _ _ askers.1) (eqb-true _ _ timed.1) (eqb-true _ _ managed.1) refl)
take-ruled node from (LockGrant m) =
    given-ruled (TakeRule node from (LockGrant m)) (expects_grant node m) _
    (λ e.
    let outer : _ = and_parts _ _ e in
    let inner : _ = and_parts _ _ outer.0 in
    take_token m (ltb-true _ _ inner.0) (awaits-lock m.lock node.mail.wait inner.1) outer.1)
take-ruled node from (Arrive m) =
    given-ruled (TakeRule node from (Arrive m)) (are_arriving node from m.time m.intervals) _
    (λ news. arrivals-ruled node from m node.barrier.manager refl news)
take-ruled node from (Depart m) =
    given-ruled (TakeRule node from (Depart m)) (expects_departure node from m) _
    (λ e.
    let outer : _ = and_parts _ _ e in
    let covered : _ = and_parts _ _ outer.0 in
    let counted : _ = and_parts _ _ covered.0 in
    let waited : _ = and_parts _ _ counted.0 in
    let d : IsDepartureDue node from m = record {
      from_manager = eqb-true _ _ waited.0;
      awaited = awaits-leave node.mail.wait waited.1;
      episode = eqb-true _ _ counted.1;
      above = covered.1;
      learnable = outer.1;
    } in
    either (TakeRule node from (Depart m)) m.collect _ _
    (λ c. either (TakeRule node from (Depart m)) (list_all is_met (upkeep_at node m)) _ _
    (λ met. take_collect_at_once m d c met)
    (λ unmet. take_collect m d c unmet))
    (λ c. take_depart m d c))
take-ruled node from (Clean episode) = cleans-ruled node from episode node.barrier.manager refl
take-ruled node from (Discard episode) =
    given-ruled (TakeRule node from (Discard episode)) ((from == 0) && (episode == node.barrier.episode)) _
    (λ e.
    let both : _ = and_parts _ _ e in
    discard-ruled node from episode node.mail.wait refl (eqb-true _ _ both.0) (eqb-true _ _ both.1))
take-ruled node from (ChangesRequest m) =
    given-ruled (TakeRule node from (ChangesRequest m)) (expects_changes_request node m) _
    (λ e. let outer : _ = and_parts _ _ e in take_changes_request m (ltb-true _ _ outer.0) outer.1)
take-ruled node from (ChangesReply m) =
    given-ruled (TakeRule node from (ChangesReply m)) (expects_changes_reply node from m) _
    (λ e.
    let outer : _ = and_parts _ _ e in
    let inner : _ = and_parts _ _ outer.0 in
    reply-ruled node from (ChangesReply m) _ _ _ node.mail.wait (brings_changes m (ltb-true _ _ inner.0) inner.1 outer.1) refl outer.1)
take-ruled node from (PageRequest page) =
    given-ruled (TakeRule node from (PageRequest page)) (expects_page_request node from page) _
    (λ e.
    let both : _ = and_parts _ _ e in
    page-ruled node from page (base_at node.memory page) refl (ltb-true _ _ both.0) (eqb-false _ _ (not-true _ both.1)))
take-ruled node from (PageReply m) =
    given-ruled (TakeRule node from (PageReply m)) (expects_page_reply node from m) _
    (λ e.
    let outer : _ = and_parts _ _ e in
    let inner : _ = and_parts _ _ outer.0 in
    reply-ruled node from (PageReply m) node.memory (page_came m.page m.values) _ node.mail.wait
    (brings_base_copy m (ltb-true _ _ inner.0) (eqb-true _ _ inner.1) outer.1) refl outer.1)

-- ---- turns

-- where an outcome is a turn, a rule makes it
abbrev pub RuledIf : Node → Input → Outcome → Type 0
RuledIf node input (done turn after) = TurnRule node input turn after
RuledIf node input not_ready = Unit {0}
RuledIf node input unexpected = Unit {0}
RuledIf node input worn = Unit {0}

numbered-ruled : (node : Node) (input : Input) (e : Effect)
    → ((turn : TurnRecord) (after : Node) → IsSent e turn after → TurnRule node input turn after)
    → (n : Option (List EnvelopeRecord × List ℕ))
    → numbered e.node.setting.me e.node.options.first e.node.mail.sent e.letters ≡ n → RuledIf node input (turn_with e n)
numbered-ruled node input e k None is = tt
numbered-ruled node input e k (Some (out, sent)) is = k _ _ (with_numbers out sent is)

effect-ruled : (node : Node) (input : Input) (e : Effect)
    → ((turn : TurnRecord) (after : Node) → IsSent e turn after → TurnRule node input turn after) → RuledIf node input (turn_of e)
effect-ruled node input e k =
    numbered-ruled node input e k (numbered e.node.setting.me e.node.options.first e.node.mail.sent e.letters) refl

effect_if-ruled : (node : Node) (o : Option Effect) → RunRuleIf node o → RuledIf node run (turn_or worn o)
effect_if-ruled node None r = tt
effect_if-ruled node (Some e) r = effect-ruled node run e (λ turn after s. by_run r s)

begun-ruled : (node : Node) (thread : Thread) (next : Next) (b : Bool) → node.mail.wait ≡ nothing → node.course ≡ going thread
    → next_of thread ≡ next → may_begin node.left next ≡ b → RuledIf node run (turn_by node (if b then Some next else None))
begun-ruled node thread next true w c n e =
    let ready : IsReadyFor node next = record { idle = w; thread = thread; goes = c; next_is = n; paid = paid_for node.left next e } in
    effect_if-ruled node (run_effect (charged node next) next) (run-ruled node next ready e)
begun-ruled node thread next false w c n e = tt

course-ruled : (node : Node) (c : Course) → node.mail.wait ≡ nothing → node.course ≡ c
    → RuledIf node run (turn_by node (begins_of node.left c))
course-ruled node (going thread) w e =
    begun-ruled node thread (next_of thread) (may_begin node.left (next_of thread)) w e refl refl
course-ruled node (trapped cause) w e = tt
course-ruled node ended w e = tt

wait-ruled : (node : Node) (w : Wait) → node.mail.wait ≡ w
    → RuledIf node run (turn_by node (if is_idle w then begins_of node.left node.course else None))
wait-ruled node nothing e = course-ruled node node.course e refl
wait-ruled node (grant lock) e = tt
wait-ruled node departure e = tt
wait-ruled node (access need) e = tt
wait-ruled node (upkeep collection needs) e = tt
wait-ruled node (discard collection) e = tt

expected_or_not : (node : Node) (input : Input) (b : Bool) (o : Outcome) → (b ≡ true → RuledIf node input o)
    → RuledIf node input (if b then o else unexpected)
expected_or_not node input true o h = h refl
expected_or_not node input false o h = tt

repeated_or_not : (node : Node) (envelope : EnvelopeRecord) (b : Bool) (o : Outcome) → IsFor node envelope → is_repeat node envelope ≡ b
    → (is_repeat node envelope ≡ false → RuledIf node (taken_in envelope) o)
    → RuledIf node (taken_in envelope) (if b then done empty_turn node else o)
repeated_or_not node envelope true o f e h = by_repeat envelope f e
repeated_or_not node envelope false o f e h = h e

taking-ruled : (node : Node) (envelope : EnvelopeRecord) → IsFor node envelope → is_repeat node envelope ≡ false → (o : Option Effect)
    → IfSome o (TakeRule (taking node envelope) envelope.from envelope.message) → RuledIf node (taken_in envelope) (turn_or unexpected o)
taking-ruled node envelope f new None r = tt
taking-ruled node envelope f new (Some effect) r =
    effect-ruled node (taken_in envelope) effect (λ turn after s. by_message envelope f new r s)

anew-ruled : (node : Node) (envelope : EnvelopeRecord) → IsFor node envelope → is_repeat node envelope ≡ false
    → RuledIf node (taken_in envelope) (take_anew node envelope)
anew-ruled node envelope f new =
    taking-ruled node envelope f new (takes (taking node envelope) envelope.from envelope.message)
    (take-ruled (taking node envelope) envelope.from envelope.message)

taken-ruled : (node : Node) (envelope : EnvelopeRecord) → RuledIf node (taken_in envelope) (take_turn node envelope)
taken-ruled node envelope =
    expected_or_not node (taken_in envelope) (is_addressed node envelope) _
    (λ a. let f : IsFor node envelope = record { to_it = eqb-true _ _ (and_parts _ _ a).0; from_one = ltb-true _ _ (and_parts _ _ a).1 } in
    repeated_or_not node envelope (is_repeat node envelope) (take_anew node envelope) f refl (λ new. anew-ruled node envelope f new))

-- each input makes a turn by a rule, or none
pub ruled : (node : Node) (input : Input) → RuledIf node input (outcome_of node input)
ruled node run = wait-ruled node node.mail.wait refl
ruled node (taken_in envelope) = taken-ruled node envelope

pub by_rule : (node : Node) (input : Input) (turn : TurnRecord) (after : Node) → outcome_of node input ≡ done turn after
    → TurnRule node input turn after
by_rule node input turn after e = subst (RuledIf node input) e (ruled node input)
