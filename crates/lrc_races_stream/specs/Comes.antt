-- What comes of a trace that is told as it is read.
use Rattle.std.specs.Prelude.{ℕ, List, Option}
use Rattle.std.specs.Io.KnownBytes.{Appends}
use Rattle.std.specs.declared.io.ErrorKind.{ErrorKind}
use Rattle.lrc_races_text.specs.Session.{HasRead, Text}
use Rattle.lrc_races_text.specs.Told.{Ends, Fails, Stops, Tells}
use Rattle.lrc_races_text.specs.declared.halt.Halt.TheVariants as halts
use Rattle.lrc_races_text.specs.declared.ill.Ill.{Ill}
use Rattle.lrc_races_text.specs.declared.asked.Asked.{Asked}
use Rattle.lrc_races_text.specs.declared.form.Form.{Form}
use Rattle.lrc_races_text.specs.declared.session.Session.{Session}
use Rattle.lrc_report.specs.Output.{AppendsFront}
use Rattle.lrc_shell_sources.specs.Known.{Held, IsAtEnd, IsCause, IsReadOff}
use Rattle.lrc_races_stream.specs.declared.outcome.Outcome.{Outcome}
use Rattle.lrc_races_stream.specs.declared.outcome.Outcome.TheVariants.{Ended, BadEvent, IllFormed, NoMemory, Unread, Unwritten}

-- this is told of these bytes: of a trace that goes on behind them, or ends with them, or up to the first line that is bad, or says an
-- event that no program would give
pub data IsTold (form : Form) (asked : Asked) (bytes told : List ℕ) : Type 0 where
  so_far : Tells form asked bytes told → IsTold form asked bytes told
  whole : {status : ℕ} → Ends form asked bytes status told → IsTold form asked bytes told
  broken : {line : ℕ} (why : Text) → Stops form asked bytes (halts.BadEvent line why) told → IsTold form asked bytes told
  failed : {line : ℕ} (why : Text) → Fails form asked bytes (halts.BadEvent line why) told → IsTold form asked bytes told
  ill_broken : (ill : Ill) → Stops form asked bytes (halts.IllFormed ill) told → IsTold form asked bytes told
  ill_failed : (ill : Ill) → Fails form asked bytes (halts.IllFormed ill) told → IsTold form asked bytes told

-- What comes of a trace that is held so, by what the writer has before and after. What is read are its first bytes, and all of them
-- where it ends; what is written is what is told of these.
pub data Comes (form : Form) (asked : Asked) (held : Held) (out out' : Option (List ℕ)) : Outcome → Type 0 where
  -- The trace is told to its end,
  ended : (bytes told : List ℕ) (left : Held) {status : ℕ} → IsReadOff held bytes left → IsAtEnd left → Ends form asked bytes status told
      → Appends out out' told → Comes form asked held out out' (Ended status)
  -- or up to the first line that is bad,
  stopped : (bytes told : List ℕ) (left : Held) {line : ℕ} {why : Text} → IsReadOff held bytes left → Stops form asked bytes (halts.BadEvent line why) told
      → Appends out out' told → Comes form asked held out out' (BadEvent line why)
  -- which may be the last one, without a line feed;
  cut : (bytes told : List ℕ) (left : Held) {line : ℕ} {why : Text} → IsReadOff held bytes left → IsAtEnd left
      → Fails form asked bytes (halts.BadEvent line why) told → Appends out out' told → Comes form asked held out out' (BadEvent line why)
  -- or, where strictness is asked for, up to the first event that no program would give, likewise;
  ill_stopped : (bytes told : List ℕ) (left : Held) {ill : Ill} → IsReadOff held bytes left → Stops form asked bytes (halts.IllFormed ill) told
      → Appends out out' told → Comes form asked held out out' (IllFormed ill)
  ill_cut : (bytes told : List ℕ) (left : Held) {ill : Ill} → IsReadOff held bytes left → IsAtEnd left
      → Fails form asked bytes (halts.IllFormed ill) told → Appends out out' told → Comes form asked held out out' (IllFormed ill)
  -- or memory ran out,
  exhausted : (bytes told : List ℕ) (left : Held) → IsReadOff held bytes left → Tells form asked bytes told → Appends out out' told
      → Comes form asked held out out' NoMemory
  -- or it can be read no further, for this,
  unread : (bytes told : List ℕ) (left : Held) {kind : ErrorKind} → IsReadOff held bytes left → IsCause left kind → Tells form asked bytes told
      → Appends out out' told → Comes form asked held out out' (Unread kind)
  -- or a write failed, and of what is told of the bytes a front is written, and not all.
  unwritten : (bytes told : List ℕ) (left : Held) → IsReadOff held bytes left → IsTold form asked bytes told → AppendsFront out out' told
      → Comes form asked held out out' Unwritten

-- the session has read the first bytes of what was held, what is told of them is written, and this is left
pub record IsUnderWay (form : Form) (asked : Asked) (held left : Held) (out now : Option (List ℕ)) (session : Session) : Type 0 where
  pub bytes : List ℕ
  pub told : List ℕ
  pub read : IsReadOff held bytes left
  pub said : HasRead form asked bytes told session
  pub written : Appends out now told
