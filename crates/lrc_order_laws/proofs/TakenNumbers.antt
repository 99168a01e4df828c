-- Which numbers a node has taken, after each turn.
use Rattle.std.proofs.Common.{◌≡◌, ℕ, List, [], true, false, refl, sym, subst, ◌∙◌}
use Rattle.lrc_envelope.specs.declared.message.Message.{Message}
use Rattle.lrc_protocol.specs.Node.{Letter, Course, going, trapped, ended, Node, Effect, acts, acts_by}
use Rattle.lrc_protocol.specs.Turn.{charged, TurnRecord, Outcome, done, not_ready, unexpected, worn, taking, is_repeat}
use Rattle.lrc_envelope.specs.Envelope.{EnvelopeRecord}
use Rattle.lrc_protocol.specs.Run.{Input, run, taken, outcome_of}
use Rattle.lrc_protocol.specs.Rules.{take_request, RunRule, run_hit, run_miss, run_repair, run_acquire, run_ask, run_release, run_barrier}
use Rattle.lrc_protocol.specs.Rules.{run_other, TakeRule, take_forward, take_token, take_arrive, take_last_arrive, take_depart, take_collect}
use Rattle.lrc_protocol.specs.Rules.{take_collect_at_once, take_reply, take_last_reply, take_kept_reply, take_last_kept_reply, take_clean}
use Rattle.lrc_protocol.specs.Rules.{take_last_clean, take_discard, take_changes_request, take_page_request, IsSent, with_numbers, TurnRule}
use Rattle.lrc_protocol.specs.Rules.{by_run, by_repeat, by_message}
use Rattle.lrc_protocol.proofs.Ruled.{RuledIf, ruled}

-- the numbers taken are these
abbrev pub TakenIs : List (List ℕ) → Effect → Type 0
TakenIs t e = e.node.mail.taken ≡ t

acts_by-taken : (letters : List Letter) (node : Node) (c : Course) → TakenIs node.mail.taken (acts_by letters node c)
acts_by-taken letters node (going t) = refl
acts_by-taken letters node (trapped cause) = refl
acts_by-taken letters node ended = refl

acts-taken : (letters : List Letter) (node : Node) → TakenIs node.mail.taken (acts letters node)
acts-taken letters node = acts_by-taken letters node node.course

run-taken : (node : Node) (e : Effect) → RunRule node e → TakenIs node.mail.taken e
run-taken node e (run_hit {next = next} r a here) = acts-taken [] (charged node next)
run-taken node e (run_miss r a away unmet) = refl
run-taken node e (run_repair r a away met) = acts-taken _ _
run-taken node e (run_acquire lock after r room free) = acts-taken [] _
run-taken node e (run_ask lock after r room away) = refl
run-taken node e (run_release lock after r room) = acts-taken _ _
run-taken node e (run_barrier after r room) = acts-taken _ _
run-taken node e (run_other {next = next} r own) = acts-taken [] (charged node next)

take-taken : (node : Node) (from : ℕ) (message : Message) (e : Effect) → TakeRule node from message e → TakenIs node.mail.taken e
take-taken node from message e (take_request m lt counted mine) = refl
take-taken node from message e (take_forward m lt asker counted managed accepted) = refl
take-taken node from message e (take_token m lt at news) = acts-taken [] _
take-taken node from message e (take_arrive m before after at news is) = refl
take-taken node from message e (take_last_arrive m before after departures at news is) = refl
take-taken node from message e (take_depart m d c) = acts-taken [] _
take-taken node from message e (take_collect m d c unmet) = refl
take-taken node from message e (take_collect_at_once m d c met) = refl
take-taken node from message e (take_reply need b at unmet) = refl
take-taken node from message e (take_last_reply need b at met) = acts-taken [] _
take-taken node from message e (take_kept_reply collection needs b at unmet) = refl
take-taken node from message e (take_last_kept_reply collection needs b at met) = refl
take-taken node from message e (take_clean episode before after at is) = refl
take-taken node from message e (take_last_clean episode over before after at is) = refl
take-taken node from message e (take_discard episode collection f at k) = acts-taken [] _
take-taken node from message e (take_changes_request m lt all) = refl
take-taken node from message e (take_page_request page values lt other at) = refl

-- ---- turns

-- the numbers taken after an input: a message's number is added where it wasn't taken before
pub data Takes (node : Node) : Input → List (List ℕ) → Type 0 where
  by_itself : Takes node run node.mail.taken
  repeats : (envelope : EnvelopeRecord) → is_repeat node envelope ≡ true → Takes node (taken envelope) node.mail.taken
  anew : (envelope : EnvelopeRecord) → is_repeat node envelope ≡ false → Takes node (taken envelope) (taking node envelope).mail.taken

abbrev pub TakesIf : Node → Input → Outcome → Type 0
TakesIf node input (done turn after) = Takes node input after.mail.taken
TakesIf node input not_ready = Unit {0}
TakesIf node input unexpected = Unit {0}
TakesIf node input worn = Unit {0}

sent-taken : (e : Effect) (turn : TurnRecord) (after : Node) → IsSent e turn after → after.mail.taken ≡ e.node.mail.taken
sent-taken e turn after (with_numbers out sent is) = refl

rule-takes : (node : Node) (input : Input) (turn : TurnRecord) (after : Node) → TurnRule node input turn after
    → Takes node input after.mail.taken
rule-takes node input turn after (by_run {effect = e} r s) =
    subst (Takes node run) (sym (sent-taken e turn after s ∙ run-taken node e r)) by_itself
rule-takes node input turn after (by_repeat envelope f again) = repeats envelope again
rule-takes node input turn after (by_message envelope {effect = e} f new r s) =
    subst (Takes node (taken envelope))
    (sym (sent-taken e turn after s ∙ take-taken (taking node envelope) envelope.from envelope.message e r)) (anew envelope new)

ruled-takes : (node : Node) (input : Input) (o : Outcome) → RuledIf node input o → TakesIf node input o
ruled-takes node input (done turn after) r = rule-takes node input turn after r
ruled-takes node input not_ready r = tt
ruled-takes node input unexpected r = tt
ruled-takes node input worn r = tt

-- each input takes so
pub takes : (node : Node) (input : Input) → TakesIf node input (outcome_of node input)
takes node input = ruled-takes node input (outcome_of node input) (ruled node input)
