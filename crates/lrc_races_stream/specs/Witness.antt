-- What comes of the question whether the accesses on two lines of a trace are a sure race.
use Rattle.std.specs.Prelude.{◌≡◌, ℕ, Bool, List, [], Option, Vec, length, map}
use Rattle.std.specs.declared.alloc.Global.{Global}
use Rattle.std.specs.Io.KnownBytes.{Keeps}
use Rattle.std.specs.declared.io.ErrorKind.{ErrorKind}
use Rattle.lrc_races_trace.specs.declared.event.Event.{Event}
use Rattle.lrc_races_text.specs.Naming.{Naming}
use Rattle.lrc_races_text.specs.Session.{Text}
use Rattle.lrc_races_text.specs.Tables.{naming_of}
use Rattle.lrc_races_text.specs.declared.form.Form.{Form}
use Rattle.lrc_races_text.specs.declared.fault.Fault.TheVariants as faults
use Rattle.lrc_races_front.specs.Kept.{HasKept, IsFront}
use Rattle.lrc_races_front.specs.declared.kept.Kept.{Kept}
use Rattle.lrc_races_witness.specs.Answer.{IsAnswered as IsAnsweredOf}
use Rattle.lrc_shell_sources.specs.Known.{Held, IsCause, Known}
use Rattle.lrc_shell_sources.specs.Lines.{IsTold, read_line}
use Rattle.lrc_races_stream.specs.Answer.{IsAnswerTold}
use Rattle.lrc_races_stream.specs.Noted.{Notes}
use Rattle.lrc_races_stream.specs.Reach.{AreFirst, ArePermitted, IsHalt}
use Rattle.lrc_races_stream.specs.declared.answer.Answer.{Answer}
use Rattle.lrc_races_stream.specs.declared.answer.Answer.TheVariants.{Answered, Stopped}
use Rattle.lrc_races_stream.specs.declared.answer.Stop.{Stop}
use Rattle.lrc_races_stream.specs.declared.answer.Stop.TheVariants.{Faulted}

-- This is printed where these are the lines of the trace up to the second of the two, and this is the status.
pub record IsAnswer (form : Form) (lines : List (List ℕ)) (first second : ℕ) (printed : List ℕ) (status : ℕ) : Type 0 where
  pub naming : Naming
  pub events : List Event
  pub texts : List (Vec ℕ Global)
  pub front : IsFront form lines naming events (map (λ text. text.items) texts)
  pub answered : IsAnsweredOf naming.threads events texts first second [] printed status

-- What comes of the question, where a trace is held so, strictly or not.
pub data Witnesses (strict : Bool) (form : Form) (held : Held) (first second : ℕ) : Answer → Type 0 where
  -- The second line has come, and by the lines up to it is answered,
  told : (lines : List (List ℕ)) {printed : Text} {status : ℕ} → AreFirst held lines → length lines ≡ second → ArePermitted strict form lines
      → IsAnswer form lines first second printed.items status → Witnesses strict form held first second (Answered printed status)
  -- or it has not, for this.
  stopped : (kept : Kept) {stop : Stop} → IsHalt strict HasKept form second held kept stop → Witnesses strict form held first second (Stopped stop)

-- what is kept of the lines answers, or memory ran out
pub data IsAnswered (kept : Kept) (first second : ℕ) : Answer → Type 0 where
  answered : {printed : Text} {status : ℕ}
      → IsAnsweredOf (naming_of kept.names).threads kept.events.items kept.texts.items first second [] printed.items status
      → IsAnswered kept first second (Answered printed status)
  lacking : IsAnswered kept first second (Stopped (Faulted faults.NoMemory))

-- What comes of the question about two lines of a file, by what `out` and `err` have before and after: it cannot be opened, or it is
-- answered.
pub data IsWitnessPlayed (known : Known) (path : List ℕ) (form : Form) (strict : Bool) (first second : ℕ) (out out' err err' : Option (List ℕ))
    (status : ℕ) : Type 0 where
  unopened : (kind : ErrorKind) → IsCause (known.files path) kind → IsTold err err' (read_line kind) → Keeps out out' → status ≡ 1
      → IsWitnessPlayed known path form strict first second out out' err err' status
  played : (answer : Answer) (mid : Option (List ℕ)) → Witnesses strict form (known.files path) first second answer
      → Notes form (known.files path) second answer err mid → IsAnswerTold answer out out' mid err' status
      → IsWitnessPlayed known path form strict first second out out' err err' status
