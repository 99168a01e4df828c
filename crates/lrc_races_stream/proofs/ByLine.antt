-- What is kept of lines that are good are events by their lines.
use Rattle.std.proofs.Common.{◌≡◌, ℕ, ◌+◌, ◌<◌, ◌≤◌, List, [], ◌∷◌, zero, suc, ap, arith}
use Rattle.std.specs.Prelude.{Contains}
use Rattle.lrc_races_trace.specs.declared.event.Event.{Event}
use Rattle.lrc_races_detector.proofs.Pairs.{pairs-append}
use Rattle.lrc_races_text.specs.Naming.{AreEvents, Naming, event_more, no_events}
use Rattle.lrc_races_text.specs.Says.{Said, Say, blank_line, event_line, no_line}
use Rattle.lrc_races_text.specs.declared.form.Form.{Form}
use Rattle.lrc_races_front.specs.Kept.{HasKept}
use Rattle.lrc_races_front.specs.declared.kept.Kept.{Kept}
use Rattle.lrc_races_witness.specs.Relations.{AreByLine}

only_one : (event other : Event) → Contains (event ∷ []) other → event ≡ other
only_one event other (zero, lt, is) = is
only_one event other (suc k, lt, is) = absurd (omega arith)

alone : (event : Event) → AreByLine (event ∷ [])
alone event i j d lt within = absurd (omega arith)

-- they do, and none stands before the first of the lines
record AreFrom (number : ℕ) (events : List Event) : Type 0 where
  by_line : AreByLine events
  from : (event : Event) → Contains events event → number ≤ event.line

from_more : (number : ℕ) (event : Event) (events : List Event) → event.line ≡ number
    → ((other : Event) → Contains events other → number + 1 ≤ other.line) → (other : Event) → Contains (event ∷ events) other → number ≤ other.line
from_more number event events here later other (zero, lt, is) =
    let line_is : event.line ≡ other.line = ap (λ e. e.line) is in
    omega arith
from_more number event events here later other (suc k, lt, is) =
    let above = later other (k, omega arith, is) in
    omega arith

said_by_line : {form : Form} {number : ℕ} {lines : List (List ℕ)} {said : List Said} {naming : Naming} {events : List Event} → Say form number lines said
    → AreEvents naming said events → AreFrom number events
said_by_line no_line no_events = record { by_line = λ i j d lt within. absurd (omega arith); from = λ event (k, lt, is). absurd (omega arith) }
said_by_line (blank_line says rest) are =
    let r = said_by_line rest are in
    record { by_line = r.by_line; from = λ event has. let above = r.from event has in omega arith }
said_by_line {number = number} (event_line says rest) (event_more {event = event} {events = events} is more) =
    let r = said_by_line rest more in
    let here : event.line ≡ number = is.line in
    record {
      by_line = pairs-append (λ a b. a.line < b.line) (event ∷ []) events (alone event) r.by_line (λ a b has has'.
          let same = only_one event a has in
          let line_is : event.line ≡ a.line = ap (λ e. e.line) same in
          let above = r.from b has' in
          omega arith);
      from = from_more number event events here r.from;
    }

pub kept_by_line : (form : Form) (lines : List (List ℕ)) (kept : Kept) → HasKept form lines kept → AreByLine kept.events.items
kept_by_line form lines kept h = (said_by_line h.says h.trace.numbered).by_line
