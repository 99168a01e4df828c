-- The events of the first lines of a trace, and the text of each.
use Rattle.std.specs.Prelude.{◌≡◌, ℕ, List, [], ◌∷◌, ◌++◌, map}
use Rattle.lrc_races_trace.specs.declared.event.Event.{Event}
use Rattle.lrc_races_lines.specs.Line.{IsBody, Saying}
use Rattle.lrc_races_text.specs.declared.form.Form.{Form}
use Rattle.lrc_races_text.specs.Says.{Said, Say, Says, SaysNothing}
use Rattle.lrc_races_text.specs.Naming.{IsEvent, IsTrace, Naming}
use Rattle.lrc_races_text.specs.Tables.{MentionsAll, naming_of}
use Rattle.lrc_races_front.specs.declared.kept.Kept.{Kept}

-- The texts of the lines that say an event, in their order, each without a carriage return at its end.
pub data AreTexts (form : Form) : List (List ℕ) → List (List ℕ) → Type 0 where
  no_texts : AreTexts form [] []
  text_none : {line : List ℕ} {lines texts : List (List ℕ)} → SaysNothing form line → AreTexts form lines texts
      → AreTexts form (line ∷ lines) texts
  text_more : {line text : List ℕ} {lines texts : List (List ℕ)} (saying : Saying) → Says form line saying → IsBody line text
      → AreTexts form lines texts → AreTexts form (line ∷ lines) (text ∷ texts)

-- These lines are good; this is the trace of what they say, and these are the texts of its events.
pub record IsFront (form : Form) (lines : List (List ℕ)) (naming : Naming) (events : List Event) (texts : List (List ℕ)) : Type 0 where
  pub said : List Said
  pub says : Say form 1 lines said
  pub trace : IsTrace said naming events
  pub are_texts : AreTexts form lines texts

-- this is kept of the lines
abbrev pub texts_of : Kept → List (List ℕ)
texts_of kept = map (λ text. text.items) kept.texts.items

abbrev pub HasKept : Form → List (List ℕ) → Kept → Type 0
HasKept form lines kept = IsFront form lines (naming_of kept.names) kept.events.items (texts_of kept)

-- One event more is kept, and its text.
pub record KeepsEvent (saying : Saying) (number : ℕ) (text : List ℕ) (before after : Kept) : Type 0 where
  pub event : Event
  pub mentioned : MentionsAll saying (naming_of before.names) (naming_of after.names)
  pub is : IsEvent (naming_of after.names) (record { line = number; saying = saying }) event
  pub events : after.events.items ≡ before.events.items ++ event ∷ []
  pub texts : texts_of after ≡ texts_of before ++ text ∷ []
