-- The events of the first lines of a trace.
use Rattle.std.specs.Prelude.{◌≡◌, ℕ, List, [], ◌∷◌, ◌++◌}
use Rattle.lrc_races_trace.specs.declared.event.Event.{Event}
use Rattle.lrc_races_lines.specs.Line.{Saying}
use Rattle.lrc_races_text.specs.declared.form.Form.{Form}
use Rattle.lrc_races_text.specs.Says.{Said, Say}
use Rattle.lrc_races_text.specs.Naming.{IsEvent, IsTrace, Naming}
use Rattle.lrc_races_text.specs.Tables.{MentionsAll, naming_of}
use Rattle.lrc_races_scored.specs.declared.traced.Traced.{Traced}

-- These lines are good, and this is the trace of what they say.
pub record IsTraceOf (form : Form) (lines : List (List ℕ)) (naming : Naming) (events : List Event) : Type 0 where
  pub said : List Said
  pub says : Say form 1 lines said
  pub trace : IsTrace said naming events

-- this is kept of the lines
abbrev pub HasTraced : Form → List (List ℕ) → Traced → Type 0
HasTraced form lines traced = IsTraceOf form lines (naming_of traced.names) traced.events.items

-- One event more is kept.
pub record TracesEvent (saying : Saying) (number : ℕ) (before after : Traced) : Type 0 where
  pub event : Event
  pub mentioned : MentionsAll saying (naming_of before.names) (naming_of after.names)
  pub is : IsEvent (naming_of after.names) (record { line = number; saying = saying }) event
  pub events : after.events.items ≡ before.events.items ++ event ∷ []
