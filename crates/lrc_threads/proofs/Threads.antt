-- The log of a thread.
use Rattle.std.proofs.Common.{◌≡◌, ℕ, Bool, List, [], Option, Some, Result, Ok, Err, refl, sym, ap, subst}
use Rattle.lrc_trace.specs.Trace.{TraceRecord}
use Rattle.lrc_post.specs.declared.parcel.Parcel.{Parcel}
use Rattle.lrc_protocol.specs.Node.{Node}
use Rattle.lrc_protocol.specs.Run.{Input, EntryRecord, Logged}
use Rattle.lrc_weave.specs.Logs.{MayCome}
use Rattle.lrc_node.specs.Logged.{LoggedNode, sound}
use Rattle.lrc_threads.specs.declared.stop.Stop.{Stop}
use Rattle.lrc_threads.specs.declared.stop.Stop.TheVariants.{Closed, Worn, NoMemory}
use Rattle.lrc_threads.specs.Worker.{AreShort, GoesThrough, Turns, Gives, nothing, message, WearsOut, outgrows, overflows, GoesTo, IsLogOf}
use Rattle.lrc_threads.specs.Worker.{IsWorn, outgrown, overflown, Leaves, no_turn_yet}
use Rattle.lrc_threads.proofs.Steps.{all_turns}
use Rattle.lrc_threads.proofs.Logs.{log_goes_on, log_short, one_goes_on, stopped_goes_on}

seen_log : (start : Node) (new : LoggedNode) (j : Logged) → new ≡ sound j → Turns (no_turn_yet start) j → IsLogOf start new.log × AreShort new.log
seen_log start new j is turns =
    subst (λ log. IsLogOf start log × AreShort log) (sym (ap (λ (n : LoggedNode). n.log) is)) (log_goes_on start j turns, log_short start j turns)

-- the log of a thread that went on to the end
pub whole_log : {S A : Type 0} (puts : S → List Parcel → S → Type 0) (takes : S → Parcel → S → Type 0) (s t : S) (start : Node) (new : LoggedNode) (x : A)
    (r : Result A Stop) → r ≡ Ok x → GoesTo puts takes s (no_turn_yet start) t new r → IsLogOf start new.log × AreShort new.log
whole_log {A = A} puts takes s t start new x r is h =
    let done : (j : Logged) × (new ≡ sound j) × GoesThrough puts takes s (no_turn_yet start) t j = subst (GoesTo {A = A} puts takes s (no_turn_yet start) t new) is h in
    seen_log start new done.0 done.1 (all_turns puts takes done.2)

-- the log of a thread that could not send its last messages
pub cut_log : {S A : Type 0} (puts : S → List Parcel → S → Type 0) (takes : S → Parcel → S → Type 0) (s t : S) (start : Node) (new : LoggedNode)
    (r : Result A Stop) → r ≡ Err Closed → GoesTo puts takes s (no_turn_yet start) t new r → IsLogOf start new.log × AreShort new.log
cut_log {A = A} puts takes s t start new r is h =
    let cut : (j : Logged) × (new ≡ sound j) × Turns (no_turn_yet start) j = subst (GoesTo {A = A} puts takes s (no_turn_yet start) t new) is h in
    seen_log start new cut.0 cut.1 cut.2

-- an input that a thread gives its node may come
may_come : {S : Type 0} (takes : S → Parcel → S → Type 0) {s : S} {input : Input} {came : ℕ} → Gives takes s input came → MayCome input came
may_come takes nothing = refl
may_come takes (message took said) = tt

-- the log of a thread that wore out
is_worn : {S : Type 0} (puts : S → List Parcel → S → Type 0) (takes : S → Parcel → S → Type 0) {s : S} (start : Node) {log : List EntryRecord}
    → WearsOut puts takes s (no_turn_yet start) log → IsLogOf start log × IsWorn start log
is_worn puts takes start (outgrows {k = k} {input = input} {came = came} through gives large) =
    let turns = all_turns puts takes through in (log_goes_on start k turns, outgrown input came turns (may_come takes gives) large)
is_worn puts takes start (overflows {k = k} {j = j} {input = input} {came = came} {entry = entry} through gives turn long) =
    let turns = all_turns puts takes through in (
      one_goes_on start k j entry input came turns (may_come takes gives) turn,
      overflown input came turns (may_come takes gives) turn long,
    )

-- what a thread leaves that stopped so before the post was closed
pub leaves_worn : {S A : Type 0} (puts : S → List Parcel → S → Type 0) (takes : S → Parcel → S → Type 0) (s t : S) (start : Node) (new : LoggedNode)
    (stop : Stop) (r : Result A Stop) → r ≡ Err stop → (stop ≡ Closed → ⊥) → GoesTo puts takes s (no_turn_yet start) t new r
    → (trace : TraceRecord) (ready : Bool) → Leaves start new.log trace ready (Some stop)
leaves_worn {A = A} puts takes s t start new Closed r is other h trace ready = absurd (other refl)
leaves_worn {A = A} puts takes s t start new Worn r is other h trace ready =
    is_worn puts takes start (subst (GoesTo {A = A} puts takes s (no_turn_yet start) t new) is h)
leaves_worn {A = A} puts takes s t start new NoMemory r is other h trace ready =
    stopped_goes_on start (subst (GoesTo {A = A} puts takes s (no_turn_yet start) t new) is h)

-- what is left of a node for which there was no memory
pub left_unborn : (start : Node) (log : List EntryRecord) (trace : TraceRecord) (ready : Bool) (stop : Option Stop) → log ≡ [] → stop ≡ Some NoMemory
    → Leaves start log trace ready stop
left_unborn start log trace ready stop none is =
    subst (Leaves start log trace ready) (sym is) (subst (IsLogOf start) (sym none) tt)
