-- Each turn that a rule makes, the machine makes.
use Rattle.std.proofs.Common.{◌≡◌, ℕ, [], Bool, true, false, not, refl, sym, ap, ◌∙◌}
use Rattle.std.specs.Prelude.{◌==◌, ◌&&◌, Option, Some, None, option_and_then, is_some, nat_lt, nat_le, map, if◌then◌else◌}
use Rattle.std.specs.List.{list_all}
use Rattle.std.proofs.lemmas.Bool.{and_from, eq-eqb, ne_eqb, lt-ltb, le-leb}
use Rattle.lrc_exec.specs.Meaning.{Next, acquires, releases, arrives}
use Rattle.lrc_envelope.specs.Envelope.{EnvelopeRecord}
use Rattle.lrc_envelope.specs.declared.message.Message.{Message}
use Rattle.lrc_envelope.specs.declared.message.Message.TheVariants.{Arrive, Depart, Clean}
use Rattle.lrc_envelope.specs.Records.{ArriveRecord, DepartRecord}
use Rattle.lrc_lock.specs.Held.{LockStep, refuses, stays, passes, forwarded, is_taken, pass_of, held_after, lock_at, is_free}
use Rattle.lrc_barrier.specs.Barrier.{ManagerRecord, ArriveStep, arrived, CleanStep, cleaned}
use Rattle.lrc_protocol.specs.Times.{MOST_NUMBER}
use Rattle.lrc_protocol.specs.Pages.{is_readable, Memory, copy_at, Need, is_met}
use Rattle.lrc_protocol.specs.Barriers.{arrival_in}
use Rattle.lrc_protocol.specs.Node.{Wait, is_idle, awaits_grant, awaits_departure, collection_of, cost_of, Node, Effect, sends, acts}
use Rattle.lrc_protocol.specs.Node.{with_memory, with_tokens, own_index}
use Rattle.lrc_protocol.specs.Turn.{may_begin, begins_of, with_needs, takes_reply, reaches, run_effect, charged, grants_of, expects_request}
use Rattle.lrc_protocol.specs.Turn.{expects_forward, forward_by, expects_grant, are_arriving, arrive_by, expects_departure, take_departure, clean_by}
use Rattle.lrc_protocol.specs.Turn.{discard_by, expects_changes_request, expects_changes_reply, expects_page_request, page_reply_by, expects_page_reply, takes}
use Rattle.lrc_protocol.specs.Turn.{TurnRecord, done, turn_with, turn_of, turn_or, worn, unexpected, turn_by, run_turn, is_addressed}
use Rattle.lrc_protocol.specs.Follows.{is_expected}
use Rattle.lrc_protocol.specs.Turn.{is_repeat, taking}
use Rattle.lrc_protocol.specs.Run.{Input, outcome_of}
use Rattle.lrc_protocol.specs.Rules.{take_request, IsReadyFor, AccessesNext, access_read, access_write, IsOwn, own_quiet, own_print, own_trap}
use Rattle.lrc_protocol.specs.Rules.{own_end, page_at, need_at, RunRule, run_hit, run_miss, run_repair, run_acquire, run_ask, run_release}
use Rattle.lrc_protocol.specs.Rules.{run_barrier, run_other, IsDepartureDue, Brings, brings_changes, brings_base_copy, upkeep_at, TakeRule}
use Rattle.lrc_protocol.specs.Rules.{take_forward, take_token, take_arrive, take_last_arrive, take_depart, take_collect, take_collect_at_once}
use Rattle.lrc_protocol.specs.Rules.{take_reply, take_last_reply, take_kept_reply, take_last_kept_reply, take_clean, take_last_clean}
use Rattle.lrc_protocol.specs.Rules.{take_discard, take_changes_request, take_page_request, IsSent, with_numbers, TurnRule, by_run, by_repeat}
use Rattle.lrc_protocol.specs.Rules.{by_message}
use Rattle.lrc_protocol.proofs.Expecting.{given-made as made, still_expected}

then_one : {X : Type 0} (b : Bool) (x y : X) → b ≡ true → (if b then x else y) ≡ x
then_one true x y e = refl
then_one false x y e = cc

else_one : {X : Type 0} (b : Bool) (x y : X) → b ≡ false → (if b then x else y) ≡ y
else_one true x y e = cc
else_one false x y e = refl

sent-made : (effect : Effect) (turn : TurnRecord) (after : Node) → IsSent effect turn after → turn_of effect ≡ done turn after
sent-made effect turn after (with_numbers out sent e) = ap (turn_with effect) e

-- ---- a node goes on by itself

-- what a ready node begins, and the effect of that
begun-made : (node : Node) (next : Next) (effect : Effect) → IsReadyFor node next
    → may_begin node.left next ≡ nat_le (cost_of next) node.left → run_effect (charged node next) next ≡ Some effect
    → run_turn node ≡ turn_of effect
begun-made node next effect ready may is =
    ap (λ (w : Wait). turn_by node (if is_idle w then begins_of node.left node.course else None)) ready.idle
    ∙ ap (λ c. turn_by node (begins_of node.left c)) ready.goes
    ∙ ap (λ (n : Next). turn_by node (if may_begin node.left n then Some n else None)) ready.next_is
    ∙ ap (λ (b : Bool). turn_by node (if b then Some next else None)) (may ∙ le-leb (cost_of next) node.left ready.paid)
    ∙ ap (turn_or worn) is

access-may : (left : ℕ) (next : Next) (word : ℕ) → AccessesNext next word → may_begin left next ≡ nat_le (cost_of next) left
access-may left next word (access_read w after) = refl
access-may left next word (access_write w value after) = refl

access-effect : (node : Node) (next : Next) (word : ℕ) → AccessesNext next word
    → run_effect (charged node next) next ≡ Some (reaches (charged node next) (page_at node word))
access-effect node next word (access_read w after) = refl
access-effect node next word (access_write w value after) = refl

own-may : (left : ℕ) (next : Next) → IsOwn next → may_begin left next ≡ nat_le (cost_of next) left
own-may left next (own_quiet after) = refl
own-may left next (own_print value after) = refl
own-may left next (own_trap cause) = refl
own-may left next own_end = refl

own-effect : (node : Node) (next : Next) → IsOwn next → run_effect (charged node next) next ≡ Some (acts [] (charged node next))
own-effect node next (own_quiet after) = refl
own-effect node next (own_print value after) = refl
own-effect node next (own_trap cause) = refl
own-effect node next own_end = refl

access-made : (node : Node) (next : Next) (word : ℕ) (effect : Effect) → IsReadyFor node next → AccessesNext next word
    → reaches (charged node next) (page_at node word) ≡ effect → run_turn node ≡ turn_of effect
access-made node next word effect ready a is =
    begun-made node next effect ready (access-may node.left next word a) (access-effect node next word a ∙ ap Some is)

run-made : (node : Node) (effect : Effect) → RunRule node effect → run_turn node ≡ turn_of effect
run-made node effect (run_hit {next = next} {word = word} ready a here) =
    access-made node next word effect ready a (then_one (is_readable (copy_at node.memory (page_at node word))) _ _ here)
run-made node effect (run_miss {next = next} {word = word} ready a away unmet) =
    access-made node next word effect ready a
    (else_one (is_readable (copy_at node.memory (page_at node word))) _ _ away
    ∙ else_one (is_met (need_at node (page_at node word))) _ _ unmet)
run-made node effect (run_repair {next = next} {word = word} ready a away met) =
    access-made node next word effect ready a
    (else_one (is_readable (copy_at node.memory (page_at node word))) _ _ away
    ∙ then_one (is_met (need_at node (page_at node word))) _ _ met)
run-made node effect (run_acquire lock after ready room free) =
    begun-made node (acquires lock after) effect ready refl
    (then_one (nat_lt (own_index node) MOST_NUMBER) _ _ (lt-ltb _ _ room)
    ∙ ap Some (then_one (is_free (lock_at node.locks.held lock)) _ _ free))
run-made node effect (run_ask lock after ready room away) =
    begun-made node (acquires lock after) effect ready refl
    (then_one (nat_lt (own_index node) MOST_NUMBER) _ _ (lt-ltb _ _ room)
    ∙ ap Some (else_one (is_free (lock_at node.locks.held lock)) _ _ away))
run-made node effect (run_release lock after ready room) =
    begun-made node (releases lock after) effect ready refl (then_one (nat_lt (own_index node) MOST_NUMBER) _ _ (lt-ltb _ _ room))
run-made node effect (run_barrier after ready room) =
    begun-made node (arrives after) effect ready refl (then_one (nat_lt (own_index node) MOST_NUMBER) _ _ (lt-ltb _ _ room))
run-made node effect (run_other {next = next} ready own) =
    begun-made node next effect ready (own-may node.left next own) (own-effect node next own)

-- ---- a node takes a message

forward-made : (node : Node) (lock : ℕ) (step : LockStep) → is_taken step ≡ true
    → forward_by node lock step ≡ Some (sends (grants_of node (pass_of step)) (with_tokens node (held_after node.locks.held lock step)))
forward-made node lock (refuses fault) e = cc
forward-made node lock (stays state) e = refl
forward-made node lock (passes pass) e = refl

arrive-made : (node : Node) (from : ℕ) (m : ArriveRecord) (before : ManagerRecord) (step : ArriveStep) → node.barrier.manager ≡ Some before
    → are_arriving node from m.time m.intervals ≡ true → arrived before from (arrival_in m) ≡ step
    → takes node from (Arrive m) ≡ arrive_by node step
arrive-made node from m before step at news is =
    made (are_arriving node from m.time m.intervals) _ news
    ∙ ap (λ (o : Option ManagerRecord). option_and_then (λ manager. arrive_by node (arrived manager from (arrival_in m))) o) at
    ∙ ap (arrive_by node) is

clean-made : (node : Node) (from episode : ℕ) (before : ManagerRecord) (step : CleanStep) → node.barrier.manager ≡ Some before
    → cleaned before from episode ≡ step → takes node from (Clean episode) ≡ clean_by node step
clean-made node from episode before step at is =
    ap (λ (o : Option ManagerRecord). option_and_then (λ manager. clean_by node (cleaned manager from episode)) o) at ∙ ap (clean_by node) is

depart-made : (node : Node) (from : ℕ) (m : DepartRecord) → IsDepartureDue node from m
    → takes node from (Depart m) ≡ Some (take_departure node m.collect m.time m.intervals)
depart-made node from m d =
    made (expects_departure node from m) _
    (and_from _ _
    (and_from _ _
    (and_from _ _ (and_from _ _ (eq-eqb _ _ d.from_manager) (ap awaits_departure d.awaited)) (eq-eqb _ _ d.episode))
    d.above)
    d.learnable)

reply-made : (node : Node) (from : ℕ) (message : Message) (memory : Memory) (change : Need → Need) → Brings node from message memory change
    → takes node from message ≡ Some (takes_reply (with_memory node memory) (with_needs change node.mail.wait))
reply-made node from message memory change (brings_changes m lt all some) =
    made (expects_changes_reply node from m) _ (and_from _ _ (and_from _ _ (lt-ltb _ _ lt) all) some)
reply-made node from message memory change (brings_base_copy m lt counted some) =
    made (expects_page_reply node from m) _ (and_from _ _ (and_from _ _ (lt-ltb _ _ lt) (eq-eqb _ _ counted)) some)

-- the same where this is awaited
reply-goes : (node : Node) (from : ℕ) (message : Message) (memory : Memory) (change : Need → Need) (w : Wait) (effect : Effect)
    → Brings node from message memory change → node.mail.wait ≡ w
    → takes_reply (with_memory node memory) (with_needs change w) ≡ effect → takes node from message ≡ Some effect
reply-goes node from message memory change w effect b at is =
    reply-made node from message memory change b
    ∙ ap (λ (w : Wait). Some (takes_reply (with_memory node memory) (with_needs change w))) at
    ∙ ap Some is

-- what a rule takes, the machine takes
take-made : (node : Node) (from : ℕ) (message : Message) (effect : Effect) → TakeRule node from message effect
    → takes node from message ≡ Some effect
take-made node from message effect (take_request m lt counted mine) =
    made (expects_request node m) _ (and_from _ _ (and_from _ _ (lt-ltb _ _ lt) (eq-eqb _ _ counted)) (eq-eqb _ _ mine))
take-made node from message effect (take_forward m lt asker counted managed taken) =
    made (expects_forward node from m) _
    (and_from _ _ (and_from _ _ (and_from _ _ (lt-ltb _ _ lt) (lt-ltb _ _ asker)) (eq-eqb _ _ counted)) (eq-eqb _ _ managed))
    ∙ forward-made node m.lock (forwarded node.locks.held m.lock m.asker m.time) taken
take-made node from message effect (take_token m lt at news) =
    made (expects_grant node m) _ (and_from _ _ (and_from _ _ (lt-ltb _ _ lt) (ap (awaits_grant m.lock) at ∙ eq-eqb m.lock m.lock refl)) news)
take-made node from message effect (take_arrive m before after at news is) = arrive-made node from m before _ at news is
take-made node from message effect (take_last_arrive m before after departures at news is) = arrive-made node from m before _ at news is
take-made node from message effect (take_depart m d c) = depart-made node from m d ∙ ap Some (else_one m.collect _ _ c)
take-made node from message effect (take_collect m d c unmet) =
    depart-made node from m d ∙ ap Some (then_one m.collect _ _ c ∙ else_one (list_all is_met (upkeep_at node m)) _ _ unmet)
take-made node from message effect (take_collect_at_once m d c met) =
    depart-made node from m d ∙ ap Some (then_one m.collect _ _ c ∙ then_one (list_all is_met (upkeep_at node m)) _ _ met)
take-made node from message effect (take_reply {memory = memory} {change = change} need b at unmet) =
    reply-goes node from message memory change _ effect b at (else_one (is_met (change need)) _ _ unmet)
take-made node from message effect (take_last_reply {memory = memory} {change = change} need b at met) =
    reply-goes node from message memory change _ effect b at (then_one (is_met (change need)) _ _ met)
take-made node from message effect (take_kept_reply {memory = memory} {change = change} collection needs b at unmet) =
    reply-goes node from message memory change _ effect b at (else_one (list_all is_met (map change needs)) _ _ unmet)
take-made node from message effect (take_last_kept_reply {memory = memory} {change = change} collection needs b at met) =
    reply-goes node from message memory change _ effect b at (then_one (list_all is_met (map change needs)) _ _ met)
take-made node from message effect (take_clean episode before after at is) = clean-made node from episode before _ at is
take-made node from message effect (take_last_clean episode over before after at is) = clean-made node from episode before _ at is
take-made node from message effect (take_discard episode collection f at k) =
    made ((from == 0) && (episode == node.barrier.episode)) _ (and_from _ _ (eq-eqb _ _ f) (eq-eqb _ _ k))
    ∙ ap (λ (w : Wait). discard_by node (collection_of w)) at
take-made node from message effect (take_changes_request m lt all) = made (expects_changes_request node m) _ (and_from _ _ (lt-ltb _ _ lt) all)
take-made node from message effect (take_page_request page values lt other at) =
    made (expects_page_request node from page) _ (and_from _ _ (lt-ltb _ _ lt) (ap not (ne_eqb _ _ other))) ∙ ap (page_reply_by node from page) at

-- a message that a rule takes, its number taken, was expected
pub expected_by_rule : (node : Node) (envelope : EnvelopeRecord) (effect : Effect)
    → TakeRule (taking node envelope) envelope.from envelope.message effect → is_expected node envelope.from envelope.message ≡ true
expected_by_rule node envelope effect r =
    sym (still_expected node envelope envelope.from envelope.message)
    ∙ ap is_some (take-made (taking node envelope) envelope.from envelope.message effect r)

-- ---- turns

-- each turn that a rule makes is what comes of the input
pub allowed : (node : Node) (input : Input) (turn : TurnRecord) (after : Node) → TurnRule node input turn after
    → outcome_of node input ≡ done turn after
allowed node input turn after (by_run {effect = effect} r s) = run-made node effect r ∙ sent-made effect turn after s
allowed node input turn after (by_repeat envelope f again) =
    then_one (is_addressed node envelope) _ _ (and_from _ _ (eq-eqb _ _ f.to_it) (lt-ltb _ _ f.from_one))
    ∙ then_one (is_repeat node envelope) _ _ again
allowed node input turn after (by_message envelope {effect = effect} f new r s) =
    then_one (is_addressed node envelope) _ _ (and_from _ _ (eq-eqb _ _ f.to_it) (lt-ltb _ _ f.from_one))
    ∙ else_one (is_repeat node envelope) _ _ new
    ∙ ap (turn_or unexpected) (take-made (taking node envelope) envelope.from envelope.message effect r)
    ∙ sent-made effect turn after s
