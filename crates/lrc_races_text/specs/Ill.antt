-- Events that no program would give, among those that the lines of a trace say.
use Rattle.std.specs.Prelude.{◌≡◌, ℕ, List, Option, Some, None, length}
use Rattle.lrc_races_trace.specs.declared.event.Event.{Event}
use Rattle.lrc_races_trace.specs.declared.fault.Fault.{Fault}
use Rattle.lrc_races_trace.specs.Formed.{IsFirstFault}
use Rattle.lrc_races_text.specs.declared.form.Form.{Form}
use Rattle.lrc_races_text.specs.declared.ill.Ill.{Ill}
use Rattle.lrc_races_text.specs.Naming.{IsTrace, Naming}
use Rattle.lrc_races_text.specs.Says.{Said, Say}
use Rattle.lrc_races_text.specs.Spelled.{reason_parts, together}

-- what is wrong with an event
abbrev pub reason_text : Naming → Fault → List ℕ
reason_text naming fault = together (reason_parts naming fault.event.thread fault.reason)

-- Of what is said, the first event that no program would give is on the line with this number, and this text says why.
pub record IsFirstIll (said : List Said) (number : ℕ) (text : List ℕ) : Type 0 where
  pub naming : Naming
  pub events : List Event
  pub fault : Fault
  pub trace : IsTrace said naming events
  pub first : IsFirstFault events (length events) (Some fault)
  pub on_line : number ≡ fault.event.line
  pub why : text ≡ reason_text naming fault

-- There is none: each event that is said is one that a program would give.
pub record AreWell (said : List Said) : Type 0 where
  pub naming : Naming
  pub events : List Event
  pub trace : IsTrace said naming events
  pub none : IsFirstFault events (length events) None

-- These lines are good, and this is the first event of theirs that no program would give.
pub record IsFirstIllIn (form : Form) (lines : List (List ℕ)) (number : ℕ) (text : List ℕ) : Type 0 where
  pub said : List Said
  pub says : Say form 1 lines said
  pub first : IsFirstIll said number text

-- These lines are good, and so are all their events.
pub record AreWellIn (form : Form) (lines : List (List ℕ)) : Type 0 where
  pub said : List Said
  pub says : Say form 1 lines said
  pub well : AreWell said

-- the line of the event, and what is wrong with it
abbrev pub IsIllOf : Naming → Fault → Ill → Type 0
IsIllOf naming fault ill = (ill.line ≡ fault.event.line) × (ill.why.items ≡ reason_text naming fault)

abbrev pub IsIllIfAny : Naming → Option Fault → Option Ill → Type 0
IsIllIfAny naming None None = Unit {0}
IsIllIfAny naming (Some fault) (Some ill) = IsIllOf naming fault ill
IsIllIfAny naming _ _ = ⊥

-- that of the first event of these that no program would give, or there is none
abbrev pub IsFirstIllOf : Naming → List Event → Option Ill → Type 0
IsFirstIllOf naming events ill = (fault : Option Fault) × IsFirstFault events (length events) fault × IsIllIfAny naming fault ill
