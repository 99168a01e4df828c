-- Why a statement traps, in words. What its text says of a named program's statement goes before the words of the core.
use Rattle.std.specs.Prelude.{ℕ, List, ◌++◌, codes}
use Rattle.lrc_trace.specs.declared.act.Cause.{Cause}
use Rattle.lrc_trace.specs.declared.act.Cause.TheVariants.{DivisionByZero, WordOutOfRange, LockOutOfRange, LockHeld, LockNotHeld}
use Rattle.lrc_named_core.specs.Tree.{Trap, plain, assertion, index}

-- of the core
abbrev pub plain_words : Cause → List ℕ
plain_words DivisionByZero = codes "division by zero"
plain_words WordOutOfRange = codes "word out of range"
plain_words LockOutOfRange = codes "lock out of range"
plain_words LockHeld = codes "lock held already"
plain_words LockNotHeld = codes "lock not held"

-- an index of this item is out of range
abbrev pub index_words : (name : List ℕ) → List ℕ
index_words name = codes "index out of range of " ++ name

-- an assertion divides by zero where it does not hold, and an index that is out of range is no word and no lock
abbrev pub cause_words : Trap → Cause → List ℕ
cause_words plain cause = plain_words cause
cause_words assertion DivisionByZero = codes "assertion failed"
cause_words assertion WordOutOfRange = plain_words WordOutOfRange
cause_words assertion LockOutOfRange = plain_words LockOutOfRange
cause_words assertion LockHeld = plain_words LockHeld
cause_words assertion LockNotHeld = plain_words LockNotHeld
cause_words (index name) WordOutOfRange = index_words name
cause_words (index name) LockOutOfRange = index_words name
cause_words (index name) DivisionByZero = plain_words DivisionByZero
cause_words (index name) LockHeld = plain_words LockHeld
cause_words (index name) LockNotHeld = plain_words LockNotHeld
