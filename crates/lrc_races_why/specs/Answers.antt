-- What is said of the events on two lines.
use Rattle.std.specs.Prelude.{◌≡◌, ◌≢◌, ℕ, List, [], ◌∷◌, ◌++◌, Vec}
use Rattle.std.specs.declared.alloc.Global.{Global}
use Rattle.lrc_races_trace.specs.declared.event.Event.{Event}
use Rattle.lrc_races_trace.specs.Trace.{At}
use Rattle.lrc_races_trace.specs.Order.{Precedes, HappensBefore}
use Rattle.lrc_races_trace.specs.Races.{Races}
use Rattle.lrc_chains.specs.Chains.{IsTold}
use Rattle.lrc_races_text.specs.declared.form.Form.{Form}
use Rattle.lrc_races_text.specs.Naming.{Naming}
use Rattle.lrc_races_witness.specs.Spelled.{text_at}
use Rattle.lrc_races_why.specs.declared.answer.Outcome.{Outcome}
use Rattle.lrc_races_why.specs.declared.answer.Outcome.TheVariants.{Told, NoEvent}
use Rattle.lrc_races_why.specs.declared.link.Link.{Link}
use Rattle.lrc_races_why.specs.Held.{AreHeld}
use Rattle.lrc_races_why.specs.Links.{IsBy}
use Rattle.lrc_races_why.specs.Spelled.{event_line, step_line, one_thread_line, order_line, race_line, held_line, neither_line}

-- the text of a line
abbrev pub Line : Type 0
Line = Vec ℕ Global

-- The lines of the steps of a chain: of each, by what it comes, and the event to which it leads.
pub data AreSteps (form : Form) (naming : Naming) (events : List Event) (lines : List Line) : List ℕ → List ℕ → Type 0 where
  last_step : {j : ℕ} → AreSteps form naming events lines (j ∷ []) []
  step_more : {i j : ℕ} {chain text : List ℕ} {a b : Event} {link : Link} → At events i a → At events j b → IsBy a b link
      → AreSteps form naming events lines (j ∷ chain) text
      → AreSteps form naming events lines (i ∷ j ∷ chain) (step_line form naming link (text_at lines j) b ++ text)

-- the line of a step is added, and those of all steps
pub record IsStepAdded (form : Form) (naming : Naming) (events : List Event) (lines : List Line) (i j : ℕ) (before after : List ℕ) : Type 0 where
  pub a : Event
  pub b : Event
  pub link : Link
  pub first : At events i a
  pub second : At events j b
  pub by : IsBy a b link
  pub added : after ≡ before ++ step_line form naming link (text_at lines j) b

pub record AreStepsAdded (form : Form) (naming : Naming) (events : List Event) (lines : List Line) (chain before after : List ℕ) : Type 0 where
  pub steps : List ℕ
  pub are : AreSteps form naming events lines chain steps
  pub added : after ≡ before ++ steps

-- What is said of two events, the earlier named first:
pub data IsWhy (form : Form) (naming : Naming) (events : List Event) (lines : List Line) (i j : ℕ) (a b : Event) : List ℕ → Type 0 where
  -- they are of one thread,
  one_thread : a.thread ≡ b.thread → IsWhy form naming events lines i j a b (one_thread_line naming a.thread)
  -- or they are not, and the one happens before the other: by the least of the shortest chains,
  ordered : {chain steps : List ℕ} → a.thread ≢ b.thread → IsTold (Precedes events) i j chain → AreSteps form naming events lines chain steps
      → IsWhy form naming events lines i j a b (order_line a.line b.line ++ steps)
  -- or they race, and their threads hold these locks,
  race : {held others : List ℕ} → Races events i j → AreHeld events a.thread i held → AreHeld events b.thread j others
      → IsWhy form naming events lines i j a b (race_line form naming a ++ held_line naming a.line held b.line others)
  -- or none of these.
  neither : a.thread ≢ b.thread → (HappensBefore events i j → ⊥) → (Races events i j → ⊥) → IsWhy form naming events lines i j a b neither_line

-- it is added
pub record IsWhyAdded (form : Form) (naming : Naming) (events : List Event) (lines : List Line) (i j : ℕ) (a b : Event) (before after : List ℕ)
    : Type 0 where
  pub why : List ℕ
  pub is : IsWhy form naming events lines i j a b why
  pub added : after ≡ before ++ why

-- the event on this line stands at this position
pub record IsOn (events : List Event) (line position : ℕ) (event : Event) : Type 0 where
  pub at : At events position event
  pub on : event.line ≡ line

-- the line has no event
abbrev pub HasNoEvent : List Event → ℕ → Type 0
HasNoEvent events line = (position : ℕ) (event : Event) → ¬ IsOn events line position event

abbrev pub HasEvent : List Event → ℕ → Type 0
HasEvent events line = (position : ℕ) × (event : Event) × IsOn events line position event

-- What becomes of the text before, the lesser line named first:
pub data IsAnswered (form : Form) (naming : Naming) (events : List Event) (lines : List Line) (first second : ℕ) (before after : List ℕ)
    : Outcome → Type 0 where
  -- both lines have events: they are printed, and what is said of them,
  told : {i j : ℕ} {a b : Event} → IsOn events first i a → IsOn events second j b
      → IsWhyAdded form naming events lines i j a b
      (before ++ event_line form naming (text_at lines i) a ++ event_line form naming (text_at lines j) b) after
      → IsAnswered form naming events lines first second before after Told
  -- or the first has none, or it has one and the second has none, and nothing is printed.
  first_none : HasNoEvent events first → after ≡ before → IsAnswered form naming events lines first second before after (NoEvent first)
  second_none : HasEvent events first → HasNoEvent events second → after ≡ before
      → IsAnswered form naming events lines first second before after (NoEvent second)
