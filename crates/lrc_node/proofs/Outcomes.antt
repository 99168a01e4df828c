-- What comes of a turn that is asked of a node.
use Rattle.std.proofs.Common.{◌≡◌, ◌∙◌, ℕ, Bool, true, false, Option, Some, None, refl, sym, ap, subst}
use Rattle.std.specs.Prelude.{Result, Ok, Err, IfErr, if◌then◌else◌, is_some, option_map}
use Rattle.std.specs.Bool.{then_some}
use Rattle.std.specs.Result.{IsErrAnd}
use Rattle.std.proofs.lemmas.Option.{same_Some}
use Rattle.lrc_trace.specs.Trace.{TraceRecord}
use Rattle.lrc_protocol.specs.Node.{Course, Node, ended, going, is_idle, trapped}
use Rattle.lrc_protocol.specs.Traced.{with_act}
use Rattle.lrc_exec.specs.declared.machine.Ask.{Ask}
use Rattle.lrc_exec.specs.Ask.{ask_of}
use Rattle.lrc_protocol.specs.Turn.{TurnRecord, Outcome, begins, begins_of, not_ready, run_turn, turn_by}
use Rattle.lrc_protocol.specs.Run.{run}
use Rattle.lrc_trace.specs.declared.end.End.{End}
use Rattle.lrc_trace.specs.declared.end.End.TheVariants.{Unfinished}
use Rattle.lrc_control.specs.Text.{end_of}
use Rattle.lrc_node.specs.declared.fault.NodeFault.{NodeFault}
use Rattle.lrc_node.specs.declared.fault.NodeFault.TheVariants.{NotReady}
use Rattle.lrc_node.specs.Fault.{MayAnswer, is_final}
use Rattle.lrc_node.specs.Effects.{RefusesRun, unready, too_large, without_memory}
use Rattle.lrc_node.specs.Node.{TracedNode, seen_end, seen_node, sound_node, wish_of, AnswersTurn, unready as answers_unready}
use Rattle.lrc_node.specs.Node.{too_large as answers_too_large, without_memory as answers_without_memory}

-- a fault that is handed up
pub fault_up : {T : Type 0} (r : Result T NodeFault) (fault : NodeFault) (P : NodeFault → Type 0) → IsErrAnd r (λ f. f ≡ fault) → P fault → IfErr r P
fault_up (Ok x) fault P is h = tt
fault_up (Err f) fault P is h = subst P (sym is) h

-- a node that is to go on by itself does not answer that a message is not expected
pub may_run : {outcome : Outcome} {fault : NodeFault} → RefusesRun outcome fault → MayAnswer run fault
may_run unready = tt
may_run too_large = tt
may_run without_memory = tt

-- with the fault that is answered the node is as it was, or it has failed
pub answers_run : {outcome : Outcome} {fault : NodeFault} (node after : Node) (end : End) → RefusesRun outcome fault
    → (outcome ≡ not_ready → after ≡ node) → AnswersTurn outcome node fault (seen_node (then_some (is_final fault) end) after)
answers_run node after end unready same = rw (same refl) answers_unready
answers_run node after end too_large same = answers_too_large
answers_run node after end without_memory same = answers_without_memory

-- a node that goes on is as it was
pub same_run : {outcome : Outcome} {fault : NodeFault} (node after : Node) → RefusesRun outcome fault
    → (outcome ≡ not_ready → after ≡ node) → is_final fault ≡ false → after ≡ node
same_run node after unready same e = same refl
same_run node after too_large same e = cc
same_run node after without_memory same e = cc

-- ---- what a caller sees

-- an option where there is none
pub none_of : {X : Type 0} (o : Option X) → is_some o ≡ false → o ≡ None
none_of None e = refl
none_of (Some x) e = cc

pub none_then : {X : Type 0} (b : Bool) (x : X) → then_some b x ≡ None → b ≡ false
none_then true x e = cc
none_then false x e = refl

-- a node that has not failed
pub seen_there : (failed : Option End) (state node : Node) (trace : TraceRecord) (now : TracedNode) → failed ≡ None
    → record { node = seen_node failed state; trace = trace; end = seen_end failed state } ≡ now → now.node ≡ Some node → state ≡ node
seen_there failed state node trace now fine view e =
    same_Some state node (sym (ap (λ (o : Option End). seen_node o state) fine) ∙ ap (λ (t : TracedNode). t.node) view ∙ e)

-- a node that has a wish has not failed, and has it itself
pub seen_wishing : {ask : Ask} (failed : Option End) (state : Node) → wish_of (seen_node failed state) ≡ Some ask
    → (failed ≡ None) × (option_map ask_of (begins state) ≡ Some ask)
seen_wishing (Some end) state e = cc
seen_wishing None state e = (refl, e)

-- after a turn, with its access noted
pub seen_turn : (failed : Option End) (state after : Node) (trace noted : TraceRecord) (now : TracedNode) (turn : TurnRecord) → failed ≡ None
    → record { node = seen_node failed state; trace = trace; end = seen_end failed state } ≡ now → noted ≡ with_act after turn.act trace
    → (let seen : TracedNode = record { node = seen_node failed after; trace = noted; end = seen_end failed after } in
    seen ≡ sound_node after (with_act after turn.act now.trace))
seen_turn failed state after trace noted now turn fine view is =
    ap (λ (o : Option End). let t : TracedNode = record { node = seen_node o after; trace = noted; end = seen_end o after } in t) fine
    ∙ ap (sound_node after) (is ∙ ap (λ (t : TracedNode). with_act after turn.act t.trace) view)

-- ---- how a node ended

-- one that has ended begins nothing
unfinished_unless : (course : Course) (left : ℕ) (idle : Bool) → ((if idle then begins_of left course else None) ≡ None → ⊥) → end_of course ≡ Unfinished
unfinished_unless (going thread) left idle ready = refl
unfinished_unless (trapped cause) left true ready = absurd (ready refl)
unfinished_unless (trapped cause) left false ready = absurd (ready refl)
unfinished_unless ended left true ready = absurd (ready refl)
unfinished_unless ended left false ready = absurd (ready refl)

-- one that is not ready does not fail
pub unready_goes_on : {T : Type 0} (r : Result T NodeFault) (fault : NodeFault) → r ≡ Err fault → r ≡ Err NotReady → is_final fault ≡ false
unready_goes_on r fault is refused = let same : fault ≡ NotReady = cc in ap is_final same

-- so one that fails as it goes on by itself has not ended
pub unfinished_failing : (node : Node) (fault : NodeFault) → (run_turn node ≡ not_ready → is_final fault ≡ false) → is_final fault ≡ true
    → end_of node.course ≡ Unfinished
unfinished_failing node fault waits final =
    unfinished_unless node.course node.left (is_idle node.mail.wait)
    (λ e. let none : true ≡ false = sym final ∙ waits (ap (turn_by node) e) in cc)

-- what a fault leaves of it: one that fails ended so before, and one that goes on is as it was
kept_by : (failing : Bool) (end : End) (state after : Node) → (failing ≡ true → end ≡ end_of state.course) → (failing ≡ false → after ≡ state)
    → seen_end (then_some failing end) after ≡ end_of state.course
kept_by true end state after so same = so refl
kept_by false end state after so same = ap (λ (n : Node). end_of n.course) (same refl)

pub seen_ended : (failed : Option End) (failing : Bool) (end : End) (state after : Node) (trace : TraceRecord) (now : TracedNode) → failed ≡ None
    → record { node = seen_node failed state; trace = trace; end = seen_end failed state } ≡ now
    → (failing ≡ true → end ≡ end_of state.course) → (failing ≡ false → after ≡ state) → seen_end (then_some failing end) after ≡ now.end
seen_ended failed failing end state after trace now fine view so same =
    kept_by failing end state after so same ∙ sym (ap (λ (o : Option End). seen_end o state) fine) ∙ ap (λ (t : TracedNode). t.end) view
