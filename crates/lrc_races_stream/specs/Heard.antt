-- What is noted on standard error of a trace that is told as it is read.
use Rattle.std.specs.Prelude.{◌≡◌, ◌-◌, ◌++◌, ◌≤◌, ℕ, Bool, true, false, List, [], Option, length, take}
use Rattle.lrc_races_text.specs.declared.form.Form.{Form}
use Rattle.lrc_races_notes.specs.Noter.{HasNoted, notes_of}
use Rattle.lrc_races_notes.specs.Notes.{AreNotes}
use Rattle.lrc_races_notes.specs.declared.noter.Noter.{Noter}
use Rattle.lrc_shell_sources.specs.Known.{Held}
use Rattle.lrc_shell_sources.specs.Lines.{IsTold}
use Rattle.lrc_races_stream.specs.Noted.{HaveCome, IsOf}
use Rattle.lrc_races_stream.specs.Reach.{AreAll, IsSeeking, most_lines}
use Rattle.lrc_races_stream.specs.declared.hearing.Hearing.{Hearing}
use Rattle.lrc_races_stream.specs.declared.outcome.Outcome.{Outcome}
use Rattle.lrc_races_stream.specs.declared.outcome.Outcome.TheVariants.{Ended, BadEvent, IllFormed, NoMemory, Unread, Unwritten}

-- this is noted of so many first lines of a trace
abbrev pub IsHeardTo : Form → Held → List ℕ → ℕ → Type 0
IsHeardTo form held text count = IsOf held (λ lines. count ≤ length lines) (λ lines. AreNotes form (take count lines) text)

-- or of some
abbrev pub IsSomeHeard : Form → Held → List ℕ → Type 0
IsSomeHeard form held text = (count : ℕ) × IsHeardTo form held text count

-- This is noted of the lines of a trace that came to this: of all, or of those before the bad one, or up to the one with the event that no
-- program would give, or of those that came before no more could be read.
abbrev pub IsHeard : Form → Held → List ℕ → Outcome → Type 0
IsHeard form held text (Ended status) = IsOf held (AreAll held) (λ lines. AreNotes form lines text)
IsHeard form held text (BadEvent line why) = IsHeardTo form held text (line - 1)
IsHeard form held text (IllFormed ill) = IsHeardTo form held text ill.line
IsHeard form held text NoMemory = IsSomeHeard form held text
IsHeard form held text (Unread kind) = IsOf held (HaveCome held kind) (λ lines. AreNotes form lines text)
IsHeard form held text Unwritten = IsSomeHeard form held text

-- A text is written piece by piece. Of a piece there is only a front, where writing fails.
pub data IsWritten (start : Option (List ℕ)) : Option (List ℕ) → List ℕ → Type 0 where
  nothing : IsWritten start start []
  more : {mid now : Option (List ℕ)} {text : List ℕ} (piece : List ℕ) → IsWritten start mid text → IsTold mid now piece
      → IsWritten start now (text ++ piece)

-- what is noted of a trace that came to this is written
abbrev pub Hears : Form → Held → Option (List ℕ) → Option (List ℕ) → Outcome → Type 0
Hears form held start now outcome = (text : List ℕ) × IsHeard form held text outcome × IsWritten start now text

-- or of so many first lines of it
abbrev pub HearsTo : Form → Held → Option (List ℕ) → Option (List ℕ) → ℕ → Type 0
HearsTo form held start now count = (text : List ℕ) × IsHeardTo form held text count × IsWritten start now text

-- or of all
abbrev pub HearsAll : Form → Held → Option (List ℕ) → Option (List ℕ) → Type 0
HearsAll form held start now = (text : List ℕ) × IsOf held (AreAll held) (λ lines. AreNotes form lines text) × IsWritten start now text

-- first bytes have come, and what is to be noted of their lines is written
pub record IsHearing (form : Form) (held left : Held) (start now : Option (List ℕ)) (hearing : Hearing) : Type 0 where
  pub seeking : IsSeeking HasNoted form most_lines held left hearing.front
  pub written : IsWritten start now (notes_of hearing.told)
  pub noted : AreNotes form seeking.has_read.lines (notes_of hearing.told)

-- More is told, and with it all that is to be noted, or nothing is.
abbrev pub HasTold : Noter → Hearing → Hearing → Option (List ℕ) → Option (List ℕ) → Bool → Type 0
HasTold noter before after err err' true = (piece : List ℕ) × (notes_of noter ≡ notes_of before.told ++ piece) × IsTold err err' piece
    × (after ≡ record before { told = noter })
HasTold noter before after err err' false = err' ≡ err

-- what is to be noted of lines of which there are so many, and of all
abbrev pub KnowsTo : Form → Held → ℕ → Noter → Type 0
KnowsTo form held count noter = IsOf held (λ lines. count ≤ length lines) (λ lines. HasNoted form lines noter)

abbrev pub KnowsAll : Form → Held → Noter → Type 0
KnowsAll form held noter = IsOf held (AreAll held) (λ lines. HasNoted form lines noter)
