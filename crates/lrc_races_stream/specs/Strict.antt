-- What is kept of the lines of a trace tells the first event of theirs that no program would give.
use Rattle.std.specs.Prelude.{◌≡◌, Bool, true, List, ℕ, Option, None, Some}
use Rattle.lrc_races_text.specs.Ill.{AreWellIn, IsFirstIllIn}
use Rattle.lrc_races_text.specs.declared.asked.Sought.{Sought}
use Rattle.lrc_races_text.specs.declared.fault.Fault.TheVariants as faults
use Rattle.lrc_races_text.specs.declared.form.Form.{Form}
use Rattle.lrc_races_text.specs.declared.ill.Ill.{Ill}
use Rattle.lrc_races_front.specs.Front.{Keeping}
use Rattle.lrc_races_stream.specs.Reach.{ArePermitted}
use Rattle.lrc_races_stream.specs.declared.answer.Stop.{Stop}
use Rattle.lrc_races_stream.specs.declared.answer.Stop.TheVariants.{Past, Faulted, IllFormed, Unread}

-- it is this, or there is none
abbrev pub IsFirstIllAmong : Form → List (List ℕ) → Option Ill → Type 0
IsFirstIllAmong form lines None = AreWellIn form lines
IsFirstIllAmong form lines (Some ill) = IsFirstIllIn form lines ill.line ill.why.items

-- by what is kept of lines, whichever they are
abbrev pub TellsIll : {K : Type 0} → (Sought → Keeping K) → K → Option Ill → Type 0
TellsIll Has kept ill = (sought : Sought) (form : Form) (lines : List (List ℕ)) → Has sought form lines kept → IsFirstIllAmong form lines ill

-- nothing is wrong with them where strictness is asked for,
abbrev pub HasNone : {K : Type 0} → Bool → (Sought → Keeping K) → K → Type 0
HasNone strict Has kept = (sought : Sought) (form : Form) (lines : List (List ℕ)) → Has sought form lines kept → ArePermitted strict form lines

-- or it is asked for, and this is wrong, or memory ran out
abbrev pub IsIllFound : {K : Type 0} → Bool → (Sought → Keeping K) → K → Stop → Type 0
IsIllFound strict Has kept (Past line) = ⊥
IsIllFound strict Has kept (Faulted (faults.BadEvent line why)) = ⊥
IsIllFound strict Has kept (Faulted faults.NoMemory) = Unit {0}
IsIllFound strict Has kept (IllFormed ill) = (strict ≡ true)
    × ((sought : Sought) (form : Form) (lines : List (List ℕ)) → Has sought form lines kept → IsFirstIllIn form lines ill.line ill.why.items)
IsIllFound strict Has kept (Unread kind) = ⊥

-- memory ran out
abbrev pub LacksMemory : Stop → Type 0
LacksMemory (Past line) = ⊥
LacksMemory (Faulted (faults.BadEvent line why)) = ⊥
LacksMemory (Faulted faults.NoMemory) = Unit {0}
LacksMemory (IllFormed ill) = ⊥
LacksMemory (Unread kind) = ⊥
