-- The events of lines, as they are kept.
use Rattle.std.proofs.Common.{◌≡◌, ℕ, ◌+◌, ◌<◌, ◌≤◌, List, [], ◌∷◌, ◌++◌, zero, suc, length, inl, inr, sym, subst, ap, arith, append-nil}
use Rattle.std.specs.Prelude.{Result, OnOk, Some, Contains, slice_get, ◌⊎◌}
use Rattle.std.proofs.lemmas.Result.{on_ok_weaker}
use Rattle.std.proofs.lemmas.Option.{slice_get_within}
use Rattle.lrc_races_trace.specs.declared.event.Event.{Event}
use Rattle.lrc_races_trace.specs.declared.event.Operation.{Operation}
use Rattle.lrc_races_trace.specs.declared.event.Operation.TheVariants as Op
use Rattle.lrc_races_trace.specs.Trace.{Accesses}
use Rattle.lrc_races_detector.proofs.Pairs.{pairs-append}
use Rattle.lrc_races_lines.specs.Line.{Saying}
use Rattle.lrc_races_lines.specs.declared.line.Kind.{Kind}
use Rattle.lrc_races_text.specs.declared.form.Form.{Form}
use Rattle.lrc_races_text.specs.Says.{Said, Say, Says, SaysNothing, blank_line, event_line, no_line}
use Rattle.lrc_races_text.specs.Naming.{AreEvents, IsNaming, IsOperation, Naming, Numbers, acquire, arrive, depart, event_more, fork, idle, join, no_events, post, read, release, wait, write}
use Rattle.lrc_races_text.specs.Tables.{naming_of}
use Rattle.lrc_races_text.specs.declared.naming.Names.{Names}
use Rattle.lrc_races_text.specs.Session.{LineSays, says_none, says_one}
use Rattle.lrc_races_text.proofs.NamingLemmas.{events_push, keeps_events, keeps_names, naming_more, nothing_named}
use Rattle.lrc_races_text.proofs.SessionLemmas.{say_push}
use Rattle.lrc_races_front.specs.Front.{HasTaken}
use Rattle.lrc_races_witness.specs.Relations.{AreByLine}
use Rattle.lrc_races_missed.specs.Missed.{AreNumbered}
use Rattle.lrc_races_scored.specs.declared.traced.Traced.{Traced}
use Rattle.lrc_races_scored.specs.Traced.{HasTraced, IsTraceOf, TracesEvent}

pub traced_none : (form : Form) (names : Names) (events : List Event)
    → naming_of names ≡ record { threads = []; variables = []; locks = []; barriers = []; locations = [] } → events ≡ []
    → IsTraceOf form [] (naming_of names) events
traced_none form names events named none = record {
  said = [];
  says = no_line;
  trace = record {
    names = subst (λ n. IsNaming [] n) (sym named) (record {
      threads = nothing_named;
      variables = nothing_named;
      locks = nothing_named;
      barriers = nothing_named;
      locations = nothing_named;
    });
    numbered = subst (λ es. AreEvents (naming_of names) [] es) (sym none) no_events;
  };
}

pub traced_nothing : (form : Form) (line : List ℕ) (number : ℕ) (traced : Traced) → SaysNothing form line
    → HasTaken (λ sought. HasTraced) form line number traced traced
traced_nothing form line number traced says sought lines counted h = record {
  said = h.said;
  says = subst (λ s. Say form 1 (lines ++ line ∷ []) s) (append-nil h.said) (say_push 1 line h.says (says_none says));
  trace = h.trace;
}

traced_more : (form : Form) (line : List ℕ) (number : ℕ) (saying : Saying) (before after : Traced) → Says form line saying
    → TracesEvent saying number before after → HasTaken (λ sought. HasTraced) form line number before after
traced_more form line number saying before after says k sought lines counted h =
    let one : Said = record { line = number; saying = saying } in
    let number_is : number ≡ 1 + length lines = omega arith in
    let line_says : LineSays form number line (one ∷ []) = says_one says in
    record {
      said = h.said ++ one ∷ [];
      says = say_push 1 line h.says (subst (λ n. LineSays form n line (one ∷ [])) number_is line_says);
      trace = record {
        names = naming_more one h.trace.names k.mentioned;
        numbered = subst (λ es. AreEvents (naming_of after.names) (h.said ++ one ∷ []) es) (sym k.events)
            (events_push (keeps_events (keeps_names k.mentioned) h.trace.numbered) k.is);
      };
    }

pub traced_event : {E : Type 0} (form : Form) (line : List ℕ) (number : ℕ) (saying : Saying) (before after : Traced) (result : Result Unit E)
    → Says form line saying → OnOk result (TracesEvent saying number before after)
    → OnOk result (HasTaken (λ sought. HasTraced) form line number before after)
traced_event form line number saying before after result says ok =
    on_ok_weaker result (λ (k : TracesEvent saying number before after). traced_more form line number saying before after says k) ok

-- ---- the events are by their lines

only_one : (event other : Event) → Contains (event ∷ []) other → event ≡ other
only_one event other (zero, lt, is) = is
only_one event other (suc k, lt, is) = absurd (omega arith)

alone : (event : Event) → AreByLine (event ∷ [])
alone event i j d lt within = absurd (omega arith)

-- they are, and none stands before the first of the lines
record AreFrom (number : ℕ) (events : List Event) : Type 0 where
  by_line : AreByLine events
  from : (event : Event) → Contains events event → number ≤ event.line

from_more : (number : ℕ) (event : Event) (events : List Event) → event.line ≡ number
    → ((other : Event) → Contains events other → number + 1 ≤ other.line) → (other : Event) → Contains (event ∷ events) other → number ≤ other.line
from_more number event events here later other (zero, lt, is) =
    let line_is : event.line ≡ other.line = ap (λ e. e.line) is in
    omega arith
from_more number event events here later other (suc k, lt, is) =
    let above = later other (k, omega arith, is) in
    omega arith

said_by_line : {form : Form} {number : ℕ} {lines : List (List ℕ)} {said : List Said} {naming : Naming} {events : List Event} → Say form number lines said
    → AreEvents naming said events → AreFrom number events
said_by_line no_line no_events = record { by_line = λ i j d lt within. absurd (omega arith); from = λ event (k, lt, is). absurd (omega arith) }
said_by_line (blank_line says rest) are =
    let r = said_by_line rest are in
    record { by_line = r.by_line; from = λ event has. let above = r.from event has in omega arith }
said_by_line {number = number} (event_line says rest) (event_more {event = event} {events = events} is more) =
    let r = said_by_line rest more in
    let here : event.line ≡ number = is.line in
    record {
      by_line = pairs-append (λ a b. a.line < b.line) (event ∷ []) events (alone event) r.by_line (λ a b has has'.
          let same = only_one event a has in
          let line_is : event.line ≡ a.line = ap (λ e. e.line) same in
          let above = r.from b has' in
          omega arith);
      from = from_more number event events here r.from;
    }

pub traced_by_line : (form : Form) (lines : List (List ℕ)) (naming : Naming) (events : List Event) → IsTraceOf form lines naming events → AreByLine events
traced_by_line form lines naming events h = (said_by_line h.says h.trace.numbered).by_line

-- ---- the variables have names

numbered_within : (names : List (List ℕ)) (name : List ℕ) (v : ℕ) → Numbers names name v → v < length names
numbered_within names name v numbers = slice_get_within names v name numbers.at

operation_numbered : (naming : Naming) (target : List ℕ) (kind : Kind) (o : Operation) (v : ℕ) → IsOperation naming target kind o
    → (o ≡ Op.Read v) ⊎ (o ≡ Op.Write v) → v < length naming.variables
operation_numbered naming target _ _ v (read {v = w} numbers) (inl f) =
    let same : w ≡ v = cc in
    subst (λ u. u < length naming.variables) same (numbered_within naming.variables target w numbers)
operation_numbered naming target _ _ v (read numbers) (inr f) = let never : ⊥ = cc in absurd never
operation_numbered naming target _ _ v (write numbers) (inl f) = let never : ⊥ = cc in absurd never
operation_numbered naming target _ _ v (write {v = w} numbers) (inr f) =
    let same : w ≡ v = cc in
    subst (λ u. u < length naming.variables) same (numbered_within naming.variables target w numbers)
operation_numbered naming target _ _ v (acquire numbers) (inl f) = let never : ⊥ = cc in absurd never
operation_numbered naming target _ _ v (acquire numbers) (inr f) = let never : ⊥ = cc in absurd never
operation_numbered naming target _ _ v (release numbers) (inl f) = let never : ⊥ = cc in absurd never
operation_numbered naming target _ _ v (release numbers) (inr f) = let never : ⊥ = cc in absurd never
operation_numbered naming target _ _ v (post numbers) (inl f) = let never : ⊥ = cc in absurd never
operation_numbered naming target _ _ v (post numbers) (inr f) = let never : ⊥ = cc in absurd never
operation_numbered naming target _ _ v (wait numbers) (inl f) = let never : ⊥ = cc in absurd never
operation_numbered naming target _ _ v (wait numbers) (inr f) = let never : ⊥ = cc in absurd never
operation_numbered naming target _ _ v (fork numbers) (inl f) = let never : ⊥ = cc in absurd never
operation_numbered naming target _ _ v (fork numbers) (inr f) = let never : ⊥ = cc in absurd never
operation_numbered naming target _ _ v (join numbers) (inl f) = let never : ⊥ = cc in absurd never
operation_numbered naming target _ _ v (join numbers) (inr f) = let never : ⊥ = cc in absurd never
operation_numbered naming target _ _ v (arrive numbers) (inl f) = let never : ⊥ = cc in absurd never
operation_numbered naming target _ _ v (arrive numbers) (inr f) = let never : ⊥ = cc in absurd never
operation_numbered naming target _ _ v (depart numbers) (inl f) = let never : ⊥ = cc in absurd never
operation_numbered naming target _ _ v (depart numbers) (inr f) = let never : ⊥ = cc in absurd never
operation_numbered naming target _ _ v idle (inl f) = let never : ⊥ = cc in absurd never
operation_numbered naming target _ _ v idle (inr f) = let never : ⊥ = cc in absurd never

event_numbered : {naming : Naming} {said : List Said} {events : List Event} → AreEvents naming said events → (k v : ℕ) (event : Event)
    → slice_get events k ≡ Some event → Accesses event v → v < length naming.variables
event_numbered no_events k v event at accesses = let never : ⊥ = cc in absurd never
event_numbered {naming} (event_more {said = said} {event = own} is more) zero v event at accesses =
    let same : own ≡ event = cc in
    operation_numbered naming said.saying.target said.saying.kind own.operation v is.operation (subst (λ (e : Event). Accesses e v) (sym same) accesses)
event_numbered (event_more is more) (suc k) v event at accesses = event_numbered more k v event at accesses

pub traced_numbered : (form : Form) (lines : List (List ℕ)) (naming : Naming) (events : List Event) → IsTraceOf form lines naming events
    → AreNumbered naming events
traced_numbered form lines naming events h k v event at accesses = event_numbered h.trace.numbered k v event at.is accesses
