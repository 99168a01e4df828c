-- The kinds of deeds.
use Rattle.std.specs.Prelude.{ℕ, List, [], ◌∷◌}
use Rattle.lrc_trace.specs.declared.act.Cause.TheVariants.{DivisionByZero}
use Rattle.lrc_trace.specs.declared.act.Deed.{Deed}
use Rattle.lrc_trace.specs.declared.act.Deed.TheVariants.{Quiet, Print, Read, Write, Acquire, Release, Arrive, Depart, Trap, End}
use Rattle.lrc_text.specs.ActText.{deed_name}
use Rattle.lrc_stats.specs.declared.deed_kind.DeedKind.{DeedKind}
use Rattle.lrc_stats.specs.declared.deed_kind.DeedKind.TheVariants as kinds

-- all kinds, in the order of their lines
abbrev pub deed_kinds : List DeedKind
deed_kinds = kinds.Quiet ∷ kinds.Print ∷ kinds.Read ∷ kinds.Write ∷ kinds.Acquire ∷ kinds.Release ∷ kinds.Arrive ∷ kinds.Depart ∷ kinds.Trap
    ∷ kinds.End ∷ []

-- the kind of each deed
abbrev pub kind_of : Deed → DeedKind
kind_of Quiet = kinds.Quiet
kind_of (Print value) = kinds.Print
kind_of (Read word value) = kinds.Read
kind_of (Write word value) = kinds.Write
kind_of (Acquire lock) = kinds.Acquire
kind_of (Release lock) = kinds.Release
kind_of Arrive = kinds.Arrive
kind_of Depart = kinds.Depart
kind_of (Trap cause) = kinds.Trap
kind_of End = kinds.End

-- a deed of each kind
abbrev pub deed_of : DeedKind → Deed
deed_of kinds.Quiet = Quiet
deed_of kinds.Print = Print 0
deed_of kinds.Read = Read 0 0
deed_of kinds.Write = Write 0 0
deed_of kinds.Acquire = Acquire 0
deed_of kinds.Release = Release 0
deed_of kinds.Arrive = Arrive
deed_of kinds.Depart = Depart
deed_of kinds.Trap = Trap DivisionByZero
deed_of kinds.End = End

-- the name of a kind, which is that of each deed of the kind
abbrev pub kind_name : DeedKind → List ℕ
kind_name kind = deed_name (deed_of kind)
