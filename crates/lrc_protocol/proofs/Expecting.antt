-- When a message is expected, as tests of its conditions.
use Rattle.std.proofs.Common.{◌≡◌, ℕ, List, Bool, true, false, refl, sym, ◌∙◌}
use Rattle.std.specs.Prelude.{◌==◌, ◌&&◌, Option, Some, None, is_some, unwrap_or, option_map, option_and_then}
use Rattle.lrc_envelope.specs.Envelope.{EnvelopeRecord}
use Rattle.lrc_envelope.specs.Records.{ArriveRecord}
use Rattle.lrc_envelope.specs.declared.message.Message.{Message}
use Rattle.lrc_envelope.specs.declared.message.Message.TheVariants.{LockRequest, LockForward, LockGrant, Arrive, Depart, Clean, Discard}
use Rattle.lrc_envelope.specs.declared.message.Message.TheVariants.{ChangesRequest, ChangesReply, PageRequest, PageReply}
use Rattle.lrc_lock.specs.Held.{LockStep, refuses, stays, passes, forwarded, is_taken}
use Rattle.lrc_barrier.specs.Barrier.{ManagerRecord, ArriveStep, refuses as refuses_arrival, waits, departs as all_depart, arrived, is_accepted}
use Rattle.lrc_barrier.specs.Barrier.{CleanStep, refuses_clean, awaits, discards, cleaned, is_clean}
use Rattle.lrc_protocol.specs.Barriers.{Collection, arrival_in, base_at}
use Rattle.lrc_protocol.specs.Node.{Node, Effect, collection_of, numbered}
use Rattle.lrc_protocol.specs.Follows.{awaits_discard}
use Rattle.lrc_protocol.specs.Turn.{given, forward_by, arrive_by, clean_by, discard_by, page_reply_by, takes, taking, expects_request}
use Rattle.lrc_protocol.specs.Follows.{is_expected}
use Rattle.lrc_protocol.specs.Turn.{expects_forward, expects_grant, are_arriving, expects_departure, expects_changes_request, expects_changes_reply, expects_page_request}
use Rattle.lrc_protocol.specs.Turn.{expects_page_reply, unexpected, turn_with, turn_or, take_anew}

-- the manager is here, and accepts the arrival
abbrev pub accepts : Node → ℕ → ArriveRecord → Bool
accepts node from m = unwrap_or (option_map is_accepted (option_map (λ manager. arrived manager from (arrival_in m)) node.barrier.manager)) false

-- the manager is here, and accepts the Clean
abbrev pub accepts_clean : Node → ℕ → ℕ → Bool
accepts_clean node from episode = unwrap_or (option_map is_clean (option_map (λ manager. cleaned manager from episode) node.barrier.manager)) false

abbrev pub expects : Node → ℕ → Message → Bool
expects node from (LockRequest m) = expects_request node m
expects node from (LockForward m) = expects_forward node from m && is_taken (forwarded node.locks.held m.lock m.asker m.time)
expects node from (LockGrant m) = expects_grant node m
expects node from (Arrive m) = accepts node from m && are_arriving node from m.time m.intervals
expects node from (Depart m) = expects_departure node from m
expects node from (Clean episode) = accepts_clean node from episode
expects node from (Discard episode) = (from == 0) && awaits_discard node.mail.wait && (episode == node.barrier.episode)
expects node from (ChangesRequest m) = expects_changes_request node m
expects node from (ChangesReply m) = expects_changes_reply node from m
expects node from (PageRequest page) = expects_page_request node from page && is_some (base_at node.memory page)
expects node from (PageReply m) = expects_page_reply node from m

pub given-made : (condition : Bool) (effect : Option Effect) → condition ≡ true → given condition effect ≡ effect
given-made true effect e = refl
given-made false effect e = cc

given-some : (condition : Bool) (effect : Effect) → is_some (given condition (Some effect)) ≡ condition
given-some true effect = refl
given-some false effect = refl

given-both : (condition : Bool) (effect : Option Effect) (test : Bool) → is_some effect ≡ test
    → is_some (given condition effect) ≡ (condition && test)
given-both true effect test e = e
given-both false effect test e = refl

swapped : (a b : Bool) → (a && b) ≡ (b && a)
swapped true true = refl
swapped true false = refl
swapped false true = refl
swapped false false = refl

last_first : (a b c : Bool) → ((a && b) && c) ≡ ((a && c) && b)
last_first true b c = swapped b c
last_first false b c = refl

forwards-some : (node : Node) (lock : ℕ) (step : LockStep) → is_some (forward_by node lock step) ≡ is_taken step
forwards-some node lock (refuses fault) = refl
forwards-some node lock (stays state) = refl
forwards-some node lock (passes pass) = refl

arrives-some : (node : Node) (step : ArriveStep) → is_some (arrive_by node step) ≡ is_accepted step
arrives-some node (refuses_arrival fault) = refl
arrives-some node (waits manager) = refl
arrives-some node (all_depart departures manager) = refl

arrival-some : (node : Node) (from : ℕ) (m : ArriveRecord) (o : Option ManagerRecord)
    → is_some (option_and_then (λ manager. arrive_by node (arrived manager from (arrival_in m))) o)
    ≡ unwrap_or (option_map is_accepted (option_map (λ manager. arrived manager from (arrival_in m)) o)) false
arrival-some node from m None = refl
arrival-some node from m (Some manager) = arrives-some node (arrived manager from (arrival_in m))

cleans-some : (node : Node) (step : CleanStep) → is_some (clean_by node step) ≡ is_clean step
cleans-some node (refuses_clean fault) = refl
cleans-some node (awaits manager) = refl
cleans-some node (discards episode manager) = refl

clean-some : (node : Node) (from episode : ℕ) (o : Option ManagerRecord)
    → is_some (option_and_then (λ manager. clean_by node (cleaned manager from episode)) o)
    ≡ unwrap_or (option_map is_clean (option_map (λ manager. cleaned manager from episode) o)) false
clean-some node from episode None = refl
clean-some node from episode (Some manager) = cleans-some node (cleaned manager from episode)

discard-some : (node : Node) (c : Option Collection) → is_some (discard_by node c) ≡ is_some c
discard-some node None = refl
discard-some node (Some collection) = refl

page-some : (node : Node) (from page : ℕ) (base : Option (_)) → is_some (page_reply_by node from page base) ≡ is_some base
page-some node from page None = refl
page-some node from page (Some values) = refl

-- a message is expected where its conditions hold
pub conditions : (node : Node) (from : ℕ) (message : Message) → is_expected node from message ≡ expects node from message
conditions node from (LockRequest m) = given-some (expects_request node m) _
conditions node from (LockForward m) = given-both (expects_forward node from m) _ _ (forwards-some node m.lock (forwarded node.locks.held m.lock m.asker m.time))
conditions node from (LockGrant m) = given-some (expects_grant node m) _
conditions node from (Arrive m) =
    given-both (are_arriving node from m.time m.intervals) _ _ (arrival-some node from m node.barrier.manager)
    ∙ swapped (are_arriving node from m.time m.intervals) (accepts node from m)
conditions node from (Depart m) = given-some (expects_departure node from m) _
conditions node from (Clean episode) = clean-some node from episode node.barrier.manager
conditions node from (Discard episode) =
    given-both ((from == 0) && (episode == node.barrier.episode)) _ _ (discard-some node (collection_of node.mail.wait))
    ∙ last_first (from == 0) (episode == node.barrier.episode) (awaits_discard node.mail.wait)
conditions node from (ChangesRequest m) = given-some (expects_changes_request node m) _
conditions node from (ChangesReply m) = given-some (expects_changes_reply node from m) _
conditions node from (PageRequest page) = given-both (expects_page_request node from page) _ _ (page-some node from page (base_at node.memory page))
conditions node from (PageReply m) = given-some (expects_page_reply node from m) _

-- what an expected message fulfills
pub fulfilled : (node : Node) (from : ℕ) (message : Message) → is_expected node from message ≡ true → expects node from message ≡ true
fulfilled node from message e = sym (conditions node from message) ∙ e

still_tested : (node : Node) (envelope : EnvelopeRecord) (from : ℕ) (message : Message)
    → expects (taking node envelope) from message ≡ expects node from message
still_tested node envelope from (LockRequest m) = refl
still_tested node envelope from (LockForward m) = refl
still_tested node envelope from (LockGrant m) = refl
still_tested node envelope from (Arrive m) = refl
still_tested node envelope from (Depart m) = refl
still_tested node envelope from (Clean episode) = refl
still_tested node envelope from (Discard episode) = refl
still_tested node envelope from (ChangesRequest m) = refl
still_tested node envelope from (ChangesReply m) = refl
still_tested node envelope from (PageRequest page) = refl
still_tested node envelope from (PageReply m) = refl

-- a message is expected all the same once its number is taken
pub still_expected : (node : Node) (envelope : EnvelopeRecord) (from : ℕ) (message : Message)
    → is_expected (taking node envelope) from message ≡ is_expected node from message
still_expected node envelope from message =
    conditions (taking node envelope) from message ∙ still_tested node envelope from message ∙ sym (conditions node from message)

-- a turn that is made is no refusal
with-letters : (effect : Effect) (sent : Option (List EnvelopeRecord × List ℕ)) → turn_with effect sent ≡ unexpected → ⊥
with-letters effect None e = cc
with-letters effect (Some sent) e = cc

pub never-unexpected : (o : Option Effect) → is_some o ≡ true → turn_or unexpected o ≡ unexpected → ⊥
never-unexpected None some e = cc
never-unexpected (Some effect) some e =
    with-letters effect (numbered effect.node.setting.me effect.node.options.first effect.node.mail.sent effect.letters) e

-- an expected message is not refused
pub taken-anew : (node : Node) (envelope : EnvelopeRecord) → is_expected node envelope.from envelope.message ≡ true
    → take_anew node envelope ≡ unexpected → ⊥
taken-anew node envelope e =
    never-unexpected (takes (taking node envelope) envelope.from envelope.message) (still_expected node envelope envelope.from envelope.message ∙ e)
