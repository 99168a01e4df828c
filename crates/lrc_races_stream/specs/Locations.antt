-- What comes of the pairs of locations of a file that race.
use Rattle.std.specs.Prelude.{◌≡◌, ◌≢◌, ℕ, Bool, List, [], Option, codes}
use Rattle.std.specs.Io.KnownBytes.{Keeps}
use Rattle.std.specs.declared.io.ErrorKind.{ErrorKind}
use Rattle.lrc_races_text.specs.Session.{Text}
use Rattle.lrc_races_text.specs.declared.asked.Layout.{Layout}
use Rattle.lrc_races_text.specs.declared.asked.Sought.{Sought}
use Rattle.lrc_races_text.specs.declared.fault.Fault.TheVariants as faults
use Rattle.lrc_races_text.specs.declared.form.Form.{Form}
use Rattle.lrc_races_locations.specs.Lines.{HasToldAll, IsLocated, IsTold}
use Rattle.lrc_races_locations.specs.declared.located.Located.{Located}
use Rattle.lrc_shell_sources.specs.Known.{Held, IsCause, Known}
use Rattle.lrc_shell_sources.specs.Lines.{IsTold as IsSaid, read_line}
use Rattle.lrc_races_stream.specs.Answer.{IsAnswerTold}
use Rattle.lrc_races_stream.specs.Noted.{Notes}
use Rattle.lrc_races_stream.specs.Plays.{IsNamed}
use Rattle.lrc_races_stream.specs.Reach.{AreAll, ArePermitted, IsHalt, most_lines}
use Rattle.lrc_races_stream.specs.declared.answer.Answer.{Answer}
use Rattle.lrc_races_stream.specs.declared.answer.Answer.TheVariants.{Answered, Stopped}
use Rattle.lrc_races_stream.specs.declared.answer.Stop.{Stop}
use Rattle.lrc_races_stream.specs.declared.answer.Stop.TheVariants.{Faulted, IllFormed, Past, Unread}

-- a line is bad, or says an event that no program would give, or memory ran out, or the trace can be read no further
abbrev pub IsFault : Stop → Type 0
IsFault (Past line) = ⊥
IsFault (Faulted fault) = Unit {0}
IsFault (IllFormed ill) = Unit {0}
IsFault (Unread kind) = Unit {0}

-- What comes of the report, where a trace is held so, strictly or not.
pub data Reports (strict : Bool) (sought : Sought) (form : Form) (layout : Layout) (held : Held) : Answer → Type 0 where
  -- All its lines are good, and all is told of them,
  told : (lines : List (List ℕ)) {printed : Text} {status : ℕ} → AreAll held lines → ArePermitted strict form lines
      → IsTold sought form layout lines status printed.items → Reports strict sought form layout held (Answered printed status)
  -- or it was not read to its end, for this.
  stopped : (kept : Located) {stop : Stop} → IsHalt strict (IsLocated sought) form most_lines held kept stop → IsFault stop
      → Reports strict sought form layout held (Stopped stop)

-- what is kept of all lines is told, or memory ran out
pub data IsReported (form : Form) (layout : Layout) (located : Located) : Answer → Type 0 where
  reported : {printed : Text} {status : ℕ} → ((sought : Sought) (lines : List (List ℕ)) → IsLocated sought form lines located
      → HasToldAll sought form layout lines [] status printed.items) → IsReported form layout located (Answered printed status)
  lacking : IsReported form layout located (Stopped (Faulted faults.NoMemory))

-- What comes of the pairs of locations of a file, by what `out` and `err` have before and after: it cannot be opened, or they are told
-- when it has ended.
pub data IsLocationsPlayed (known : Known) (path : List ℕ) (form : Form) (strict : Bool) (sought : Sought) (layout : Layout)
    (out out' err err' : Option (List ℕ)) (status : ℕ) : Type 0 where
  unopened : (kind : ErrorKind) → path ≢ codes "-" → IsCause (known.files path) kind → IsSaid err err' (read_line kind) → Keeps out out'
      → status ≡ 1 → IsLocationsPlayed known path form strict sought layout out out' err err' status
  played : (held : Held) (answer : Answer) (mid : Option (List ℕ)) → IsNamed known path held → Reports strict sought form layout held answer
      → Notes form held most_lines answer err mid → IsAnswerTold answer out out' mid err' status
      → IsLocationsPlayed known path form strict sought layout out out' err err' status
