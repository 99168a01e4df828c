-- What a turn replies: a reply is sent only by a node that takes a request, and has what that node knows.
use Rattle.std.proofs.Common.{◌≡◌, ℕ, ◌+◌, List, [], ◌∷◌, true, refl, sym, subst, append-nil}
use Rattle.std.specs.Prelude.{Some, map}
use Rattle.std.specs.List.{range_with_len}
use Rattle.lrc_exec.specs.Meaning.{releases, arrives}
use Rattle.lrc_envelope.specs.Envelope.{EnvelopeRecord}
use Rattle.lrc_envelope.specs.Records.{ChangesRequestRecord}
use Rattle.lrc_envelope.specs.declared.message.Message.{Message}
use Rattle.lrc_envelope.specs.declared.message.Message.TheVariants.{ChangesRequest, PageRequest}
use Rattle.lrc_lock.specs.Held.{LockStep, released, pass_of, held_after}
use Rattle.lrc_protocol.specs.Pages.{Need}
use Rattle.lrc_protocol.specs.Barriers.{base_at}
use Rattle.lrc_protocol.specs.Node.{Letter, Node, Effect, with_tokens, acts}
use Rattle.lrc_protocol.specs.Turn.{arrival_of, grants_of, requests_of, changes_reply_to, page_reply_to, charged, TurnRecord}
use Rattle.lrc_protocol.specs.Follows.{is_expected}
use Rattle.lrc_protocol.specs.Turn.{taking}
use Rattle.lrc_protocol.specs.Run.{Input}
use Rattle.lrc_protocol.specs.Rules.{take_request, page_at, need_at, closed_for, upkeep_at, RunRule, run_hit, run_miss, run_repair, run_acquire}
use Rattle.lrc_protocol.specs.Rules.{run_ask, run_release, run_barrier, run_other, TakeRule, take_forward, take_token, take_arrive}
use Rattle.lrc_protocol.specs.Rules.{take_last_arrive, take_depart, take_collect, take_collect_at_once, take_reply, take_last_reply}
use Rattle.lrc_protocol.specs.Rules.{take_kept_reply, take_last_kept_reply, take_clean, take_last_clean, take_discard, take_changes_request}
use Rattle.lrc_protocol.specs.Rules.{take_page_request, TurnRule, by_run, by_repeat, by_message}
use Rattle.lrc_protocol.proofs.Allowed.{expected_by_rule}
use Rattle.lrc_order_laws.proofs.Sends.{letter_in, sent-letters}
use Rattle.lrc_reading_laws.proofs.Asked.Turns.{grants-calm, departs-calm, discards-calm}
use Rattle.lrc_reading_laws.proofs.Asked.Wishes.{AreCalm, AreRequests, all_requests-ask}
use Rattle.lrc_reading_laws.proofs.Closed.Stocks.{acts_by-letters}

-- what is sent brings nothing; or it is the reply to a request that was expected
pub data Replies (node : Node) : List Letter → Type 0 where
  brings_nothing : {letters : List Letter} → AreRequests letters → Replies node letters
  brings_changes : (from : ℕ) (m : ChangesRequestRecord) → is_expected node from (ChangesRequest m) ≡ true
      → Replies node (changes_reply_to node from m.page m.indices ∷ [])
  brings_page : (from page : ℕ) (values : List ℕ) → is_expected node from (PageRequest page) ≡ true → base_at node.memory page ≡ Some values
      → Replies node (page_reply_to from page values ∷ [])

-- ---- letters that bring nothing

calm-asks : (letters : List Letter) → AreCalm letters → AreRequests letters
calm-asks [] h = tt
calm-asks (l ∷ letters) h = (h.0.1, calm-asks letters h.1)

need-asks : (need : Need) → AreRequests (requests_of need)
need-asks need = subst AreRequests (append-nil (requests_of need)) (all_requests-ask (need ∷ []))

-- ---- effects

acts-ask : (letters : List Letter) (node : Node) → AreRequests letters → AreRequests (acts letters node).letters
acts-ask letters node k = subst AreRequests (sym (acts_by-letters letters node node.course)) k

run-ask : (node : Node) (e : Effect) → RunRule node e → AreRequests e.letters
run-ask node e (run_hit {next = next} r a readable) = acts-ask [] (charged node next) tt
run-ask node e (run_miss {word = word} r a away unmet) = need-asks (need_at node (page_at node word))
run-ask node e (run_repair {word = word} r a away met) = acts-ask _ _ (need-asks (need_at node (page_at node word)))
run-ask node e (run_acquire lock after r room free) = acts-ask [] _ tt
run-ask node e (run_ask lock after r room away) = (refl, tt)
run-ask node e (run_release lock after r room) =
    let closed : Node = closed_for node (releases lock after) in
    let step : LockStep = released node.locks.held lock closed.locks.time in
    acts-ask (grants_of closed (pass_of step)) (with_tokens closed (held_after node.locks.held lock step))
    (calm-asks (grants_of closed (pass_of step)) (grants-calm closed (pass_of step)))
run-ask node e (run_barrier after r room) = acts-ask (arrival_of (closed_for node (arrives after)) (node.barrier.episode + 1) ∷ []) _ (refl, tt)
run-ask node e (run_other {next = next} r own) = acts-ask [] (charged node next) tt

module _ (node : Node) (envelope : EnvelopeRecord) (from : ℕ) where
  abbrev now : Node
  now = taking node envelope

  take-replies : (message : Message) (e : Effect) → is_expected node from message ≡ true → TakeRule now from message e → Replies node e.letters
  take-replies message e x (take_request m lt counted mine) = brings_nothing (refl, tt)
  take-replies message e x (take_forward m lt asker counted managed accepted) = brings_nothing (calm-asks _ (grants-calm now _))
  take-replies message e x (take_token m lt at news) = brings_nothing (acts-ask [] _ tt)
  take-replies message e x (take_arrive m before after at news is) = brings_nothing tt
  take-replies message e x (take_last_arrive m before after departures at news is) = brings_nothing (calm-asks _ (departs-calm departures))
  take-replies message e x (take_depart m d c) = brings_nothing (acts-ask [] _ tt)
  take-replies message e x (take_collect m d c unmet) = brings_nothing (all_requests-ask (upkeep_at now m))
  take-replies message e x (take_collect_at_once m d c met) = brings_nothing (refl, tt)
  take-replies message e x (take_reply need b at unmet) = brings_nothing tt
  take-replies message e x (take_last_reply need b at met) = brings_nothing (acts-ask [] _ tt)
  take-replies message e x (take_kept_reply collection needs b at unmet) = brings_nothing tt
  take-replies message e x (take_last_kept_reply collection needs b at met) = brings_nothing (refl, tt)
  take-replies message e x (take_clean episode before after at is) = brings_nothing tt
  take-replies message e x (take_last_clean episode over before after at is) =
      brings_nothing (calm-asks _ (discards-calm (range_with_len 0 node.setting.nodes) over))
  take-replies message e x (take_discard episode collection by_manager at is) = brings_nothing (acts-ask [] _ tt)
  take-replies message e x (take_changes_request m lt all) = brings_changes from m x
  take-replies message e x (take_page_request page values lt other at) = brings_page from page values x at

-- ---- turns

pub record Told (node : Node) (turn : TurnRecord) : Type 0 where
  pub letters : List Letter
  pub out : map letter_in turn.out ≡ letters
  pub replies : Replies node letters

-- what each turn tells
pub tells : (node : Node) (input : Input) (turn : TurnRecord) (after : Node) → TurnRule node input turn after → Told node turn
tells node input turn after (by_run {effect = e} r s) =
    record { letters = e.letters; out = sent-letters e turn after s; replies = brings_nothing (run-ask node e r) }
tells node input turn after (by_repeat envelope addressed again) = record { letters = []; out = refl; replies = brings_nothing tt }
tells node input turn after (by_message envelope {effect = e} addressed new r s) = record {
  letters = e.letters;
  out = sent-letters e turn after s;
  replies = take-replies node envelope envelope.from envelope.message e (expected_by_rule node envelope e r) r;
}
