-- The trace of a node that makes its turns on a thread.
use Rattle.std.proofs.Common.{◌≡◌, ◌∙◌, ℕ, List, Bool, Result, Ok, Err, IsErrAnd, sym, ap, subst}
use Rattle.lrc_trace.specs.Trace.{TraceRecord}
use Rattle.lrc_protocol.specs.Node.{Node}
use Rattle.lrc_protocol.specs.Turn.{is_ready}
use Rattle.lrc_protocol.specs.Run.{Input, EntryRecord, Logged}
use Rattle.lrc_protocol.specs.Traced.{trace_of}
use Rattle.lrc_node.specs.Logged.{LoggedNode, TracedLog, LeadsFrom, sound, LogsTo, NotesIn}
use Rattle.lrc_node.specs.declared.fault.NodeFault.{NodeFault}
use Rattle.lrc_node.specs.declared.fault.NodeFault.TheVariants as NodeFaults
use Rattle.lrc_node.specs.declared.fault.NodeFault.TheVariants.{Failed, NotReady, Unexpected}
use Rattle.lrc_node.proofs.Leading.{leads_turn, leads_still}
use Rattle.lrc_threads.specs.declared.stop.Stop.{Stop}
use Rattle.lrc_threads.specs.declared.stop.Stop.TheVariants.{Closed, Worn, NoMemory}
use Rattle.lrc_threads.specs.Worker.{AreShort, LeadsOn, TracesTo, IsLogOf, IsPastOf, is_ready_after, made_of}

-- a node that kept the trace of its turns from its first on still does, and has not failed
abbrev pub Traces : TracedLog → TracedLog → Type 0
Traces old new = (start : Node) (l : Logged) → LeadsFrom start l old → (j : Logged) × LeadsFrom start j new

-- so does one that stays as it is
pub same_trace : (seen : TracedLog) → Traces seen seen
same_trace seen = λ start l f. (l, f)

-- so does one that makes a turn, or refuses the input
pub traces_input : (old new : TracedLog) (input : Input) (came : ℕ) (r : Result (Unit {0}) NodeFault) (made : Bool)
    → LogsTo old.logged input came new.logged r → NotesIn old new r → made_of r ≡ Ok made
    → (start : Node) (l : Logged) → LeadsFrom start l old → (j : Logged) × LeadsFrom start j new
traces_input old new input came (Ok tt) made logs notes is start l f =
    let turn = leads_turn start l old new input came f logs notes in (turn.1, turn.3)
traces_input old new input came (Err NotReady) made logs notes is start l f = (l, leads_still start l old new f (logs l f.sound_so).1 notes)
traces_input old new input came (Err Unexpected) made logs notes is start l f = (l, leads_still start l old new f (logs l f.sound_so).1 notes)
traces_input old new input came (Err NodeFaults.Worn) made logs notes is start l f = cc
traces_input old new input came (Err NodeFaults.NoMemory) made logs notes is start l f = cc
traces_input old new input came (Err Failed) made logs notes is start l f = cc

-- that says enough, whatever its thread answers
leads_any : {A : Type 0} (start : Node) (new : TracedLog) (r : Result A Stop) → ((j : Logged) × LeadsFrom start j new) → LeadsOn start new r
leads_any start new (Ok done) led = led
leads_any start new (Err Closed) led = led
leads_any start new (Err Worn) led = tt
leads_any start new (Err NoMemory) led = tt

pub traces_any : {A : Type 0} (old new : TracedLog) (r : Result A Stop) → Traces old new → TracesTo old new r
traces_any old new r traces = λ start l f. leads_any start new r (traces start l f)

-- what an answer says with which its thread goes on
pub leads_gone : {A : Type 0} (start : Node) (new : TracedLog) (x : A) (r : Result A Stop) → r ≡ Ok x → LeadsOn start new r
    → (j : Logged) × LeadsFrom start j new
leads_gone {A = A} start new x r is led = subst (LeadsOn {A = A} start new) is led

pub traces_gone : {A : Type 0} (old new : TracedLog) (x : A) (r : Result A Stop) → r ≡ Ok x → TracesTo old new r → Traces old new
traces_gone old new x r is traces = λ start l f. leads_gone start new x r is (traces start l f)

-- what one says that the post is closed
pub leads_cut : {A : Type 0} (start : Node) (new : TracedLog) (r : Result A Stop) → r ≡ Err Closed → LeadsOn start new r
    → (j : Logged) × LeadsFrom start j new
leads_cut {A = A} start new r is led = subst (LeadsOn {A = A} start new) is led

-- an answer with which a thread stops is handed on
leads_handed : {A B : Type 0} (start : Node) (new : TracedLog) (stop : Stop) (q : Result A Stop) (r : Result B Stop) → q ≡ Err stop
    → IsErrAnd r (λ f. f ≡ stop) → LeadsOn start new q → LeadsOn start new r
leads_handed start new stop q (Ok x) is err led = absurd err
leads_handed {A = A} start new stop q (Err Closed) is err led = subst (LeadsOn {A = A} start new) (is ∙ ap Err (sym err)) led
leads_handed start new stop q (Err Worn) is err led = tt
leads_handed start new stop q (Err NoMemory) is err led = tt

pub traces_handed : {A B : Type 0} (old new : TracedLog) (stop : Stop) (q : Result A Stop) (r : Result B Stop) → q ≡ Err stop
    → IsErrAnd r (λ f. f ≡ stop) → TracesTo old new q → TracesTo old new r
traces_handed old new stop q r is err traces = λ start l f. leads_handed start new stop q r is err (traces start l f)

-- what comes of more turns
pub traces_further : {A : Type 0} (old mid new : TracedLog) (r : Result A Stop) → Traces old mid → TracesTo mid new r → TracesTo old new r
traces_further old mid new r before traces = λ start l f. let led = before start l f in traces start led.0 led.1

-- what a node leaves that made its turns from its first on
pub is_past : (start : Node) (seen : TracedLog) (log : List EntryRecord) (trace : TraceRecord) (ready : Bool) → IsLogOf start seen.logged.log → AreShort seen.logged.log
    → ((j : Logged) × LeadsFrom start j seen) → log ≡ seen.logged.log → trace ≡ seen.trace
    → ((l : Logged) → seen.logged ≡ sound l → ready ≡ is_ready l.node) → IsPastOf start log trace ready
is_past start seen log trace ready its_log its_short led at_log at_trace at_ready =
    let f : LeadsFrom start led.0 seen = led.1 in
    let same : log ≡ led.0.log = at_log ∙ ap (λ (n : LoggedNode). n.log) f.sound_so in
    record {
      log_is = subst (IsLogOf start) (sym at_log) its_log;
      short = subst AreShort (sym at_log) its_short;
      trace_is = at_trace ∙ f.trace_is ∙ sym (ap (trace_of start) same);
      ready_is = at_ready led.0 f.sound_so ∙ ap is_ready (sym f.replayed) ∙ sym (ap (is_ready_after start) same);
    }
