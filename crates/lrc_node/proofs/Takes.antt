-- What comes of a message that is taken.
use Rattle.std.proofs.Common.{◌≡◌, Bool, true, false, ◌⊎◌, ⊎_elim, Some, None, List, sym, ap, ◌∙◌, subst, ℕ, refl}
use Rattle.std.specs.Prelude.{if◌then◌else◌, Result, Ok, Err, IfErr, ◌==◌, ◌&&◌, Option, is_some, option_map, option_and_then}
use Rattle.std.specs.Bool.{then_some}
use Rattle.std.proofs.lemmas.Bool.{and_parts, and_from}
use Rattle.lrc_envelope.specs.Envelope.{EnvelopeRecord}
use Rattle.lrc_envelope.specs.declared.message.Message.{Message}
use Rattle.lrc_envelope.specs.declared.message.Message.TheVariants.{LockRequest, LockForward, LockGrant, Arrive, Depart, Clean, Discard}
use Rattle.lrc_envelope.specs.declared.message.Message.TheVariants.{ChangesRequest, ChangesReply, PageRequest, PageReply}
use Rattle.lrc_barrier.specs.Barrier.{ManagerRecord, arrived, cleaned}
use Rattle.lrc_trace.specs.declared.end.End.{End}
use Rattle.lrc_exec.specs.Ask.{ask_of}
use Rattle.lrc_exec.specs.Meaning.{Next}
use Rattle.lrc_protocol.specs.Node.{Node, Effect, numbered}
use Rattle.lrc_protocol.specs.Follows.{awaits_discard}
use Rattle.lrc_protocol.specs.Turn.{Outcome, done, unexpected, worn, empty_turn, take_turn, take_anew, taking, is_addressed}
use Rattle.lrc_protocol.specs.Turn.{begins, charged, run_effect, run_turn, turn_by, turn_of, turn_with}
use Rattle.lrc_protocol.specs.Follows.{is_expected}
use Rattle.lrc_protocol.specs.Turn.{is_repeat, expects_request, expects_forward, expects_grant, are_arriving, arrive_by, expects_departure, clean_by}
use Rattle.lrc_protocol.specs.Turn.{expects_changes_request, expects_changes_reply, expects_page_request, expects_page_reply, takes, turn_or}
use Rattle.lrc_protocol.specs.Run.{taken}
use Rattle.lrc_protocol.specs.Barriers.{arrival_in}
use Rattle.lrc_protocol.proofs.Expecting.{given-made, expects, fulfilled, still_expected}
use Rattle.lrc_node.specs.Taking.{effect_of}
use Rattle.lrc_node.specs.declared.fault.NodeFault.{NodeFault}
use Rattle.lrc_node.specs.declared.fault.NodeFault.TheVariants.{Worn, NoMemory}
use Rattle.lrc_node.specs.Fault.{MayAnswer, is_final}
use Rattle.lrc_node.specs.Taken.{RefusesTake, unawaited, too_large, without_memory}
use Rattle.lrc_node.proofs.Outcomes.{none_of}
use Rattle.lrc_node.specs.Node.{AnswersTurn, is_turn, seen_node, unawaited as answers_unawaited, too_large as answers_too_large, without_memory as answers_without_memory}

-- a node that is to take a message does not answer that it is not ready
pub may_take : {outcome : Outcome} {node after : Node} {fault : NodeFault} (envelope : EnvelopeRecord) → RefusesTake outcome node fault after
    → MayAnswer (taken envelope) fault
may_take envelope unawaited = tt
may_take envelope too_large = tt
may_take envelope without_memory = tt

-- the outcome by what is tested
pub unaddressed : (node : Node) (envelope : EnvelopeRecord) → is_addressed node envelope ≡ false → take_turn node envelope ≡ unexpected
unaddressed node envelope e =
    ap (λ (b : Bool). if b then (if is_repeat node envelope then done empty_turn node else take_anew node envelope) else unexpected) e

pub addressed : (node : Node) (envelope : EnvelopeRecord) → is_addressed node envelope ≡ true → is_repeat node envelope ≡ false
    → take_turn node envelope ≡ take_anew node envelope
addressed node envelope e new =
    ap (λ (b : Bool). if b then (if is_repeat node envelope then done empty_turn node else take_anew node envelope) else unexpected) e
    ∙ ap (λ (b : Bool). if b then done empty_turn node else take_anew node envelope) new

pub repeated : (node : Node) (envelope : EnvelopeRecord) → is_addressed node envelope ≡ true → is_repeat node envelope ≡ true
    → take_turn node envelope ≡ done empty_turn node
repeated node envelope e old =
    ap (λ (b : Bool). if b then (if is_repeat node envelope then done empty_turn node else take_anew node envelope) else unexpected) e
    ∙ ap (λ (b : Bool). if b then done empty_turn node else take_anew node envelope) old

at_manager : {X : Type 0} (step : ManagerRecord → X) (go : X → Option Effect) (o : Option ManagerRecord)
    → option_and_then (λ manager. go (step manager)) o ≡ option_and_then go (option_map step o)
at_manager step go None = refl
at_manager step go (Some manager) = refl

-- an expected message does just that
takes-made : (node : Node) (from : ℕ) (message : Message) → expects node from message ≡ true → takes node from message ≡ effect_of node from message
takes-made node from (LockRequest m) e = given-made (expects_request node m) _ e
takes-made node from (LockForward m) e = given-made (expects_forward node from m) _ (and_parts _ _ e).0
takes-made node from (LockGrant m) e = given-made (expects_grant node m) _ e
takes-made node from (Arrive m) e =
    given-made (are_arriving node from m.time m.intervals) _ (and_parts _ _ e).1
    ∙ at_manager (λ manager. arrived manager from (arrival_in m)) (arrive_by node) node.barrier.manager
takes-made node from (Depart m) e = given-made (expects_departure node from m) _ e
takes-made node from (Clean episode) e = at_manager (λ manager. cleaned manager from episode) (clean_by node) node.barrier.manager
takes-made node from (Discard episode) e =
    let outer = and_parts ((from == 0) && awaits_discard node.mail.wait) (episode == node.barrier.episode) e in
    let first = and_parts (from == 0) (awaits_discard node.mail.wait) outer.0 in
    given-made ((from == 0) && (episode == node.barrier.episode)) _
    (and_from (from == 0) (episode == node.barrier.episode) first.0 outer.1)
takes-made node from (ChangesRequest m) e = given-made (expects_changes_request node m) _ e
takes-made node from (ChangesReply m) e = given-made (expects_changes_reply node from m) _ e
takes-made node from (PageRequest page) e = given-made (expects_page_request node from page) _ (and_parts _ _ e).0
takes-made node from (PageReply m) e = given-made (expects_page_reply node from m) _ e

-- what comes of a message that is expected, and of one that is not
pub awaited : (node : Node) (envelope : EnvelopeRecord) → is_expected node envelope.from envelope.message ≡ true
    → take_anew node envelope ≡ turn_or unexpected (effect_of (taking node envelope) envelope.from envelope.message)
awaited node envelope e =
    ap (turn_or unexpected)
    (takes-made (taking node envelope) envelope.from envelope.message
    (fulfilled (taking node envelope) envelope.from envelope.message (still_expected node envelope envelope.from envelope.message ∙ e)))

pub unawaited_so : (node : Node) (envelope : EnvelopeRecord) → is_expected node envelope.from envelope.message ≡ false
    → take_anew node envelope ≡ unexpected
unawaited_so node envelope e =
    ap (turn_or unexpected)
    (none_of (takes (taking node envelope) envelope.from envelope.message) (still_expected node envelope envelope.from envelope.message ∙ e))

-- whether a message is a turn
is_turn_with : (effect : Effect) (sent : Option (List EnvelopeRecord × List ℕ)) → is_turn (turn_with effect sent) ≡ true
is_turn_with effect None = refl
is_turn_with effect (Some sent) = refl

pub is_turn_of : (effect : Effect) → is_turn (turn_of effect) ≡ true
is_turn_of effect = is_turn_with effect (numbered effect.node.setting.me effect.node.options.first effect.node.mail.sent effect.letters)

is_turn_if : (o : Option Effect) → is_turn (turn_or unexpected o) ≡ is_some o
is_turn_if None = refl
is_turn_if (Some effect) = is_turn_of effect

pub is_turn_anew : (node : Node) (envelope : EnvelopeRecord) → is_turn (take_anew node envelope) ≡ is_expected node envelope.from envelope.message
is_turn_anew node envelope =
    is_turn_if (takes (taking node envelope) envelope.from envelope.message) ∙ still_expected node envelope envelope.from envelope.message

-- and whether a node that goes on by itself makes one
is_turn_by : (node : Node) (o : Option Next) → is_turn (turn_by node o) ≡ is_some o
is_turn_by node None = refl
is_turn_by node (Some next) = is_turn_else (run_effect (charged node next) next)
  where
    is_turn_else : (o : Option Effect) → is_turn (turn_or worn o) ≡ true
    is_turn_else None = refl
    is_turn_else (Some effect) = is_turn_of effect

pub is_turn_run : (node : Node) → is_turn (run_turn node) ≡ is_some (option_map ask_of (begins node))
is_turn_run node = is_turn_by node (begins node) ∙ sym (still_some (begins node))
  where
    still_some : (o : Option Next) → is_some (option_map ask_of o) ≡ is_some o
    still_some None = refl
    still_some (Some next) = refl

-- why an expected message is not taken
pub refuses_anew : (outcome : Outcome) (node after : Node) (fault : NodeFault) → ((fault ≡ Worn) × (outcome ≡ worn)) ⊎ (fault ≡ NoMemory)
    → RefusesTake outcome node fault after
refuses_anew outcome node after fault h =
    ⊎_elim
    (λ w. subst (λ (f : NodeFault). RefusesTake outcome node f after) (sym w.0) (subst (λ (o : Outcome). RefusesTake o node Worn after) (sym w.1) too_large))
    (λ m. subst (λ (f : NodeFault). RefusesTake outcome node f after) (sym m) without_memory) h

-- with the fault that is answered the node is as it was, or it has failed
pub answers_take : {outcome : Outcome} {fault : NodeFault} (node after : Node) (end : End) → RefusesTake outcome node fault after
    → AnswersTurn outcome node fault (seen_node (then_some (is_final fault) end) after)
answers_take _ _ end unawaited = answers_unawaited
answers_take _ _ end too_large = answers_too_large
answers_take _ _ end without_memory = answers_without_memory

-- a node that goes on is as it was
pub same_take : {outcome : Outcome} {fault : NodeFault} (node after : Node) → RefusesTake outcome node fault after
    → is_final fault ≡ false → after ≡ node
same_take _ _ unawaited e = refl
same_take _ _ too_large e = cc
same_take _ _ without_memory e = cc

-- what holds of an error for a weaker reason
pub weaker : {A : Type 0} (r : Result A NodeFault) (P Q : NodeFault → Type 0) → ((fault : NodeFault) → P fault → Q fault) → IfErr r P → IfErr r Q
weaker (Ok x) P Q h p = tt
weaker (Err fault) P Q h p = h fault p
