-- Acts in words.
use Rattle.std.specs.Prelude.{ℕ, List, ◌++◌, codes, decimal}
use Rattle.lrc_trace.specs.declared.act.Act.{Act}
use Rattle.lrc_trace.specs.declared.act.Cause.{Cause}
use Rattle.lrc_trace.specs.declared.act.Cause.TheVariants.{DivisionByZero, WordOutOfRange, LockOutOfRange, LockHeld, LockNotHeld}
use Rattle.lrc_trace.specs.declared.act.Deed.{Deed}
use Rattle.lrc_trace.specs.declared.act.Deed.TheVariants.{Quiet, Print, Read, Write, Acquire, Release, Arrive, Depart, Trap, End}

-- the number of a cause
abbrev pub cause_number : Cause → ℕ
cause_number DivisionByZero = 1
cause_number WordOutOfRange = 2
cause_number LockOutOfRange = 3
cause_number LockHeld = 4
cause_number LockNotHeld = 5

-- the name of a deed
abbrev pub deed_name : Deed → List ℕ
deed_name Quiet = codes "quiet"
deed_name (Print value) = codes "print"
deed_name (Read w value) = codes "read"
deed_name (Write w value) = codes "write"
deed_name (Acquire l) = codes "acquire"
deed_name (Release l) = codes "release"
deed_name Arrive = codes "arrive"
deed_name Depart = codes "depart"
deed_name (Trap cause) = codes "trap"
deed_name End = codes "end"

-- the words of a deed
abbrev pub deed_text : Deed → List ℕ
deed_text Quiet = codes "quiet"
deed_text (Print value) = codes "print " ++ decimal value
deed_text (Read word value) = codes "read " ++ decimal word ++ codes " " ++ decimal value
deed_text (Write word value) = codes "write " ++ decimal word ++ codes " " ++ decimal value
deed_text (Acquire l) = codes "acquire " ++ decimal l
deed_text (Release l) = codes "release " ++ decimal l
deed_text Arrive = codes "arrive"
deed_text Depart = codes "depart"
deed_text (Trap cause) = codes "trap " ++ decimal (cause_number cause)
deed_text End = codes "end"

-- an act: its node, and its deed
abbrev pub act_text : Act → List ℕ
act_text act = decimal act.node ++ codes " " ++ deed_text act.deed

-- the line of an act, with the line of the program's text that it is of
abbrev pub act_line : Act → ℕ → List ℕ
act_line act line = act_text act ++ codes " # line " ++ decimal line ++ codes "\n"
