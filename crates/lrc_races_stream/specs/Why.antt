-- What comes of the question why the events on two lines of a trace are ordered, or whether they race.
use Rattle.std.specs.Prelude.{◌≡◌, ◌≢◌, ℕ, ◌≤◌, Bool, List, [], Option, Vec, codes, length, map}
use Rattle.std.specs.declared.alloc.Global.{Global}
use Rattle.std.specs.Io.KnownBytes.{Keeps}
use Rattle.std.specs.declared.io.ErrorKind.{ErrorKind}
use Rattle.lrc_races_trace.specs.declared.event.Event.{Event}
use Rattle.lrc_races_text.specs.Naming.{Naming}
use Rattle.lrc_races_text.specs.Session.{Text}
use Rattle.lrc_races_text.specs.Tables.{naming_of}
use Rattle.lrc_races_text.specs.declared.form.Form.{Form}
use Rattle.lrc_races_text.specs.declared.fault.Fault.TheVariants as faults
use Rattle.lrc_races_front.specs.Kept.{HasKept, IsFront}
use Rattle.lrc_races_front.specs.declared.kept.Kept.{Kept}
use Rattle.lrc_races_why.specs.Answers.{HasEvent, HasNoEvent, IsAnswered}
use Rattle.lrc_races_why.specs.declared.answer.Outcome.TheVariants as outcomes
use Rattle.lrc_shell_sources.specs.Known.{Held, IsCause, Known}
use Rattle.lrc_shell_sources.specs.Lines.{IsTold, read_line}
use Rattle.lrc_races_stream.specs.Answer.{IsAnswerTold}
use Rattle.lrc_races_stream.specs.Noted.{Notes}
use Rattle.lrc_races_stream.specs.Plays.{IsNamed}
use Rattle.lrc_races_stream.specs.Reach.{AreFirst, ArePermitted, ArePermittedTo, IsBehind, IsHalt}
use Rattle.lrc_races_stream.specs.declared.answer.Answer.{Answer}
use Rattle.lrc_races_stream.specs.declared.answer.Answer.TheVariants.{Answered, NoEvent, Stopped}
use Rattle.lrc_races_stream.specs.declared.answer.Stop.{Stop}
use Rattle.lrc_races_stream.specs.declared.answer.Stop.TheVariants.{Faulted}

-- These lines are good, and of the events that they say this is so.
pub record IsSaid (form : Form) (lines : List (List ℕ)) (Of : Naming → List Event → List (Vec ℕ Global) → Type 0) : Type 0 where
  pub naming : Naming
  pub events : List Event
  pub texts : List (Vec ℕ Global)
  pub front : IsFront form lines naming events (map (λ text. text.items) texts)
  pub holds : Of naming events texts

-- This is printed of the events on two of the lines, which both have one.
abbrev pub IsWhyTold : Form → List (List ℕ) → ℕ → ℕ → List ℕ → Type 0
IsWhyTold form lines first second printed =
    IsSaid form lines (λ naming events texts. IsAnswered form naming events texts first second [] printed outcomes.Told)

-- the line has no event
abbrev pub Lacks : Form → List (List ℕ) → ℕ → Type 0
Lacks form lines line = IsSaid form lines (λ naming events texts. HasNoEvent events line)

-- the first one has an event, and the second one has none
abbrev pub LacksSecond : Form → List (List ℕ) → ℕ → ℕ → Type 0
LacksSecond form lines first second = IsSaid form lines (λ naming events texts. HasEvent events first × HasNoEvent events second)

-- What comes of the question, where a trace is held so, strictly or not. The first of all faults by line is told.
pub data Reasons (strict : Bool) (form : Form) (held : Held) (first second : ℕ) : Answer → Type 0 where
  -- The second line has come, the lines up to it are good, and both have an event: what is said of these is printed.
  told : (lines : List (List ℕ)) {printed : Text} → AreFirst held lines → length lines ≡ second → ArePermitted strict form lines
      → IsWhyTold form lines first second printed.items → Reasons strict form held first second (Answered printed 0)
  -- Or the first line has come, lines up to it or further are good, and it has no event.
  first_lacks : (lines : List (List ℕ)) → AreFirst held lines → first ≤ length lines → ArePermittedTo strict form lines first
      → Lacks form lines first → Reasons strict form held first second (NoEvent first)
  -- Or the second line has come, the lines up to it are good, the first one has an event, and the second one has none.
  second_lacks : (lines : List (List ℕ)) → AreFirst held lines → length lines ≡ second → ArePermitted strict form lines
      → LacksSecond form lines first second → Reasons strict form held first second (NoEvent second)
  -- Or it has not come, for this; and if the first one was read and is good, it has an event.
  stopped : (kept : Kept) {stop : Stop} → IsHalt strict HasKept form second held kept stop
      → (IsBehind first stop → HasEvent kept.events.items first) → Reasons strict form held first second (Stopped stop)

-- what is kept of the lines up to the second one answers, or memory ran out
pub data IsExplained (form : Form) (kept : Kept) (first second : ℕ) : Answer → Type 0 where
  explained : {printed : Text} → IsAnswered form (naming_of kept.names) kept.events.items kept.texts.items first second [] printed.items outcomes.Told
      → IsExplained form kept first second (Answered printed 0)
  first_none : HasNoEvent kept.events.items first → IsExplained form kept first second (NoEvent first)
  second_none : HasEvent kept.events.items first → HasNoEvent kept.events.items second → IsExplained form kept first second (NoEvent second)
  lacking : IsExplained form kept first second (Stopped (Faulted faults.NoMemory))

-- what is answered where the second line has not come: that the first one has no event, or why
pub data IsStopAnswered (events : List Event) (first : ℕ) (stop : Stop) : Answer → Type 0 where
  none : IsBehind first stop → HasNoEvent events first → IsStopAnswered events first stop (NoEvent first)
  why : (IsBehind first stop → HasEvent events first) → IsStopAnswered events first stop (Stopped stop)

-- What comes of the question about two lines of a file, by what `out` and `err` have before and after: it cannot be opened, or it is
-- answered.
pub data IsWhyPlayed (known : Known) (path : List ℕ) (form : Form) (strict : Bool) (first second : ℕ) (out out' err err' : Option (List ℕ))
    (status : ℕ) : Type 0 where
  unopened : (kind : ErrorKind) → path ≢ codes "-" → IsCause (known.files path) kind → IsTold err err' (read_line kind) → Keeps out out'
      → status ≡ 1 → IsWhyPlayed known path form strict first second out out' err err' status
  played : (held : Held) (answer : Answer) (mid : Option (List ℕ)) → IsNamed known path held → Reasons strict form held first second answer
      → Notes form held second answer err mid → IsAnswerTold answer out out' mid err' status
      → IsWhyPlayed known path form strict first second out out' err err' status
