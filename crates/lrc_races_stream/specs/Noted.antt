-- What is noted on standard error of the lines of a trace that are read.
use Rattle.std.specs.Prelude.{◌≡◌, ◌⊎◌, ◌+◌, ◌≤◌, ℕ, List, [], Option, length, take}
use Rattle.std.specs.Io.KnownBytes.{Keeps}
use Rattle.std.specs.declared.io.ErrorKind.{ErrorKind}
use Rattle.lrc_races_text.specs.Told.{IsCut}
use Rattle.lrc_races_text.specs.declared.fault.Fault.TheVariants as faults
use Rattle.lrc_races_text.specs.declared.form.Form.{Form}
use Rattle.lrc_races_notes.specs.Noter.{HasNoted, NotesUpTo, notes_of}
use Rattle.lrc_races_notes.specs.Notes.{AreNotes}
use Rattle.lrc_races_notes.specs.declared.noter.Noter.{Noter}
use Rattle.lrc_shell_sources.specs.Known.{Held, IsCause, IsReadOff}
use Rattle.lrc_shell_sources.specs.Lines.{IsTold}
use Rattle.lrc_races_stream.specs.Reach.{AreAll, AreFirst}
use Rattle.lrc_races_stream.specs.declared.answer.Answer.{Answer}
use Rattle.lrc_races_stream.specs.declared.answer.Answer.TheVariants.{Answered, NoEvent, Stopped}
use Rattle.lrc_races_stream.specs.declared.answer.Stop.{Stop}
use Rattle.lrc_races_stream.specs.declared.answer.Stop.TheVariants.{Faulted, IllFormed, Past, Unread}

-- It is so of first lines of what is held, and these lines are the ones that are meant.
pub record IsOf (held : Held) (Meant : List (List ℕ) → Type 0) (So : List (List ℕ) → Type 0) : Type 0 where
  pub lines : List (List ℕ)
  pub first : AreFirst held lines
  pub meant : Meant lines
  pub so : So lines

-- The lines have come before no more could be read, for this.
pub record HaveCome (held : Held) (kind : ErrorKind) (lines : List (List ℕ)) : Type 0 where
  pub bytes : List ℕ
  pub left : Held
  pub rest : List ℕ
  pub read : IsReadOff held bytes left
  pub cut : IsCut bytes lines rest
  pub cause : IsCause left kind

-- It is so of the lines that were read where no more are: of all of them, or of so many first ones. Where memory ran out, this is so.
abbrev pub IsAtStop : Held → (List (List ℕ) → Type 0) → (ℕ → List (List ℕ) → Type 0) → Type 0 → Stop → Type 0
IsAtStop held So Part Lacking (Past line) = IsOf held (λ lines. AreAll held lines × (line ≡ length lines)) So
IsAtStop held So Part Lacking (Faulted (faults.BadEvent line why)) = IsOf held (λ lines. line ≡ length lines + 1) So
IsAtStop held So Part Lacking (Faulted faults.NoMemory) = Lacking
IsAtStop held So Part Lacking (IllFormed ill) = IsOf held (λ lines. ill.line ≤ length lines) (Part ill.line)
IsAtStop held So Part Lacking (Unread kind) = IsOf held (HaveCome held kind) So

-- likewise of the lines up to the last that is wanted, or of all, where these answer
abbrev pub IsAtAnswer : Held → ℕ → (List (List ℕ) → Type 0) → (ℕ → List (List ℕ) → Type 0) → Type 0 → Answer → Type 0
IsAtAnswer held last So Part Lacking (Answered printed status) = IsOf held (λ lines. (length lines ≡ last) ⊎ AreAll held lines) So
IsAtAnswer held last So Part Lacking (NoEvent line) = IsOf held (λ lines. line ≤ length lines) (Part line)
IsAtAnswer held last So Part Lacking (Stopped stop) = IsAtStop held So Part Lacking stop

-- This is noted of the lines up to the answer, or up to the fault that stands in place of it. Where memory ran out, nothing is.
abbrev pub IsNoted : Form → Held → ℕ → List ℕ → Answer → Type 0
IsNoted form held last text =
    IsAtAnswer held last (λ lines. AreNotes form lines text) (λ count lines. AreNotes form (take count lines) text) (text ≡ [])

-- this is known of what is to be noted of them
abbrev pub IsKnown : Form → Held → ℕ → Noter → Answer → Type 0
IsKnown form held last noter = IsAtAnswer held last (λ lines. HasNoted form lines noter) (λ count lines. HasNoted form lines noter) (Unit {0})

abbrev pub IsKnownAt : Form → Held → Noter → Stop → Type 0
IsKnownAt form held noter = IsAtStop held (λ lines. HasNoted form lines noter) (λ count lines. HasNoted form lines noter) (Unit {0})

-- so much of it is to be told where no more is read: all, or what is on the first lines, or nothing
abbrev pub IsPartAt : Noter → Stop → Noter → Type 0
IsPartAt noter (Past line) part = part ≡ noter
IsPartAt noter (Faulted (faults.BadEvent line why)) part = part ≡ noter
IsPartAt noter (Faulted faults.NoMemory) part = notes_of part ≡ []
IsPartAt noter (IllFormed ill) part = NotesUpTo ill.line noter part
IsPartAt noter (Unread kind) part = part ≡ noter

abbrev pub IsPartOf : Noter → Answer → Noter → Type 0
IsPartOf noter (Answered printed status) part = part ≡ noter
IsPartOf noter (NoEvent line) part = NotesUpTo line noter part
IsPartOf noter (Stopped stop) part = IsPartAt noter stop part

-- What is noted is written, and the answer stays, or memory ran out, and nothing is written.
pub data IsNotedBefore (noter : Noter) (answer : Answer) (err err' : Option (List ℕ)) : Answer → Type 0 where
  noted : (text : List ℕ) → ((form : Form) (held : Held) (last : ℕ) → IsKnown form held last noter answer → IsNoted form held last text answer)
      → IsTold err err' text → IsNotedBefore noter answer err err' answer
  lacking : Keeps err err' → IsNotedBefore noter answer err err' (Stopped (Faulted faults.NoMemory))

-- what is noted of the lines up to the answer is written
abbrev pub Notes : Form → Held → ℕ → Answer → Option (List ℕ) → Option (List ℕ) → Type 0
Notes form held last answer err err' = (text : List ℕ) × IsNoted form held last text answer × IsTold err err' text
