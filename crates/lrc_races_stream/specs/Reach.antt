-- What comes of reading a trace up to a line.
use Rattle.std.specs.Prelude.{◌≡◌, ◌⊎◌, ◌++◌, ℕ, ◌<◌, ◌≤◌, Bool, true, false, List, length}
use Rattle.std.specs.declared.io.ErrorKind.{ErrorKind}
use Rattle.lrc_races_text.specs.Ill.{AreWellIn, IsFirstIllIn}
use Rattle.lrc_races_text.specs.Told.{IsCut}
use Rattle.lrc_races_text.specs.declared.form.Form.{Form}
use Rattle.lrc_races_text.specs.declared.ill.Ill.{Ill}
use Rattle.lrc_races_text.specs.declared.fault.Fault.{Fault}
use Rattle.lrc_races_text.specs.declared.fault.Fault.TheVariants as faults
use Rattle.lrc_races_front.specs.Front.{HasRead, Keeping, all_lines}
use Rattle.lrc_races_front.specs.Kept.{HasKept}
use Rattle.lrc_races_front.specs.declared.kept.Kept.{Kept}
use Rattle.lrc_races_front.specs.Steps.{Fails, Stops}
use Rattle.lrc_races_front.specs.declared.front.Front.{Front}
use Rattle.lrc_races_notes.specs.Noting.{KeepsBoth}
use Rattle.lrc_races_notes.specs.declared.noting.Noting.{Noting}
use Rattle.lrc_shell_sources.specs.Known.{Held, IsAtEnd, IsCause, IsReadOff}
use Rattle.lrc_races_stream.specs.declared.answer.Stop.{Stop}
use Rattle.lrc_races_stream.specs.declared.answer.Stop.TheVariants.{Past, Faulted, IllFormed, Unread}

-- more lines than a trace may have
abbrev pub most_lines : ℕ
most_lines = 18446744073709551615

-- these are all lines of what is held: what stands behind its last line feed is one too, if it is not empty
pub record AreAll (held : Held) (lines : List (List ℕ)) : Type 0 where
  pub bytes : List ℕ
  pub left : Held
  pub read : IsReadOff held bytes left
  pub end : IsAtEnd left
  pub whole : List (List ℕ)
  pub rest : List ℕ
  pub cut : IsCut bytes whole rest
  pub are : lines ≡ all_lines whole rest

-- these are its first lines: each has come with its line feed, whatever follows, or they are all
pub data AreFirst (held : Held) (lines : List (List ℕ)) : Type 0 where
  some : (bytes : List ℕ) (left : Held) (more : List (List ℕ)) (rest : List ℕ) → IsReadOff held bytes left → IsCut bytes (lines ++ more) rest
      → AreFirst held lines
  all : AreAll held lines → AreFirst held lines

-- The last line that is wanted has come, all lines up to it are good, and this is kept of them.
pub record HasCome {K : Type 0} (Has : Keeping K) (form : Form) (last : ℕ) (held : Held) (kept : K) : Type 0 where
  pub lines : List (List ℕ)
  pub first : AreFirst held lines
  pub counted : length lines ≡ last
  pub has_kept : Has form lines kept

-- Why it has not. What is read are first bytes of what is held.
pub data IsStop {K : Type 0} (Has : Keeping K) (form : Form) (last : ℕ) (held : Held) (kept : K) : Stop → Type 0 where
  -- The trace ends before it, all its lines are good, and this is kept of them,
  past : (lines : List (List ℕ)) {line : ℕ} → AreAll held lines → Has form lines kept → line ≡ length lines → line < last
      → IsStop Has form last held kept (Past line)
  -- or a line is bad, and none before it, and this is kept of those,
  bad : (bytes : List ℕ) (left : Held) {fault : Fault} → IsReadOff held bytes left → Stops Has form last bytes kept fault
      → IsStop Has form last held kept (Faulted fault)
  -- which may be the last of the trace, without a line feed,
  cut : (bytes : List ℕ) (left : Held) {fault : Fault} → IsReadOff held bytes left → IsAtEnd left → Fails Has form last bytes kept fault
      → IsStop Has form last held kept (Faulted fault)
  -- or memory ran out,
  exhausted : IsStop Has form last held kept (Faulted faults.NoMemory)
  -- or the trace can be read no further, for this, and what is kept is kept of the lines that came before.
  unread : (bytes : List ℕ) (left : Held) (lines : List (List ℕ)) (rest : List ℕ) {kind : ErrorKind} → IsReadOff held bytes left
      → IsCut bytes lines rest → length lines < last → Has form lines kept → IsCause left kind → IsStop Has form last held kept (Unread kind)

-- where strictness is asked for, each event of these lines is one that a program would give
abbrev pub ArePermitted : Bool → Form → List (List ℕ) → Type 0
ArePermitted strict form lines = strict ≡ true → AreWellIn form lines

-- or one that no program would give is on a line behind this one
abbrev pub ArePermittedTo : Bool → Form → List (List ℕ) → ℕ → Type 0
ArePermittedTo strict form lines line =
    strict ≡ true → AreWellIn form lines ⊎ ((number : ℕ) × (text : List ℕ) × IsFirstIllIn form lines number text × (line < number))

-- Why the last line that is wanted has not come, strictly or not. What is read are first bytes of what is held.
pub data IsHalt {K : Type 0} (strict : Bool) (Has : Keeping K) (form : Form) (last : ℕ) (held : Held) (kept : K) : Stop → Type 0 where
  -- Strictness is asked for, and of first lines of the trace, none of them behind the last that is wanted, this is the first event that no
  -- program would give,
  ill_formed : (lines : List (List ℕ)) {ill : Ill} → strict ≡ true → AreFirst held lines → length lines ≤ last → Has form lines kept
      → IsFirstIllIn form lines ill.line ill.why.items → IsHalt strict Has form last held kept (IllFormed ill)
  -- or there is none in the lines that are kept, and no more are read, for this,
  halted : {stop : Stop} → IsStop Has form last held kept stop → ((lines : List (List ℕ)) → Has form lines kept → ArePermitted strict form lines)
      → IsHalt strict Has form last held kept stop
  -- or memory ran out.
  out_of_memory : IsHalt strict Has form last held kept (Faulted faults.NoMemory)

-- where a trace is read no further for this, the line was read, and is good
abbrev pub IsBehind : ℕ → Stop → Type 0
IsBehind line (Past end) = line ≤ end
IsBehind line (Faulted (faults.BadEvent number why)) = line < number
IsBehind line (Faulted faults.NoMemory) = ⊥
IsBehind line (IllFormed ill) = line < ill.line
IsBehind line (Unread kind) = ⊥

-- the first bytes of what was held are read, and the last line that is wanted is not among them
pub record IsSeeking {K : Type 0} (Has : Keeping K) (form : Form) (last : ℕ) (held left : Held) (front : Front K) : Type 0 where
  pub bytes : List ℕ
  pub read : IsReadOff held bytes left
  pub has_read : HasRead Has form last bytes front

-- the last line that is wanted has come, or it has not
abbrev pub GoesOn : {K : Type 0} → Keeping K → Form → ℕ → Held → Held → Front K → Bool → Type 0
GoesOn Has form last held left front true = HasCome Has form last held front.kept
GoesOn Has form last held left front false = IsSeeking Has form last held left front

-- the last line that is wanted has come, and the lines up to it may be so
abbrev pub HasComeWell : {K : Type 0} → Bool → Keeping K → Form → ℕ → Held → K → Type 0
HasComeWell strict Has form last held kept = (come : HasCome Has form last held kept) × ArePermitted strict form come.lines

-- in some form, the first bytes of what some file holds are read
abbrev pub IsBegun : ℕ → Held → Front (Noting Kept) → Type 0
IsBegun last left front = (form : Form) × (held : Held) × IsSeeking (KeepsBoth HasKept) form last held left front
