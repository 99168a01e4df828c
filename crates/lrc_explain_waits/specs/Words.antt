-- What comes next of a node, and how it ended, in words. The labels of words and of locks stand behind their numbers.
use Rattle.std.specs.Prelude.{ℕ, List, [], ◌∷◌, ◌++◌, Option, Some, None, codes, decimal}
use Rattle.std.specs.List.{flat_map}
use Rattle.lrc_trace.specs.declared.act.Cause.{Cause}
use Rattle.lrc_named_core.specs.Tree.{Trap as Said}
use Rattle.lrc_trap_words.specs.Words.{cause_words}
use Rattle.lrc_text.specs.ActText.{cause_number}
use Rattle.lrc_labels.specs.Reading.{Label}
use Rattle.lrc_labels.specs.Show.{numbered_lock, numbered_word}
use Rattle.lrc_explain_waits.specs.declared.holder.Holder.{Holder}
use Rattle.lrc_explain_waits.specs.declared.missing.Missing.{Missing}
use Rattle.lrc_explain_waits.specs.declared.stand.Coming.{Coming}
use Rattle.lrc_explain_waits.specs.declared.stand.Coming.TheVariants.{StepsUsedUp, Trap, Acquire, Barrier, Read, Write, Print, Release, Quiet, End}
use Rattle.lrc_explain_waits.specs.declared.stand.Fate.{Fate}
use Rattle.lrc_explain_waits.specs.declared.stand.Fate.TheVariants.{Ended, Trapped, Unfinished}
use Rattle.lrc_explain_waits.specs.declared.stand.Stand.{Stand}
use Rattle.lrc_explain_waits.specs.Missing.{missing_nodes}

-- that a statement traps, of which the text says this, and why
abbrev pub trap_words : Said → Cause → List ℕ
trap_words trap cause = codes "trap " ++ decimal (cause_number cause) ++ codes ", " ++ cause_words trap cause

-- who holds a lock
unfoldable pub by_words : ℕ → List ℕ
by_words node = codes ", held by node " ++ decimal node

unfoldable pub since_words : ℕ → List ℕ
since_words line = codes " since line " ++ decimal line

abbrev pub held_words : Holder → List ℕ
held_words holder = by_words holder.node ++ since_words holder.line

abbrev pub holder_words : Option Holder → List ℕ
holder_words None = codes ", held by nobody"
holder_words (Some holder) = held_words holder

abbrev pub acquire_words : List Label → ℕ → Option Holder → List ℕ
acquire_words labels lock holder = numbered_lock labels (codes "acquire ") lock ++ holder_words holder

-- what is said of a node that has not come to a barrier, as it ended
abbrev pub fate_mark : Fate → List ℕ
fate_mark Ended = codes " (ended)"
fate_mark (Trapped cause) = codes " (trapped)"
fate_mark Unfinished = []

abbrev pub missing_words : Missing → List ℕ
missing_words missing = codes "node " ++ decimal missing.node ++ fate_mark missing.fate

abbrev pub others_words : List Missing → List ℕ
others_words others = flat_map (λ missing. codes ", " ++ missing_words missing) others

-- who has not come to a barrier
abbrev pub barrier_words : List Missing → List ℕ
barrier_words [] = codes ", reached by all others"
barrier_words (first ∷ others) = codes ", without " ++ missing_words first ++ others_words others

-- what comes next of node `me`; of a trap of its statement the text says this
abbrev pub coming_words : List Label → Said → List Stand → (me : ℕ) → Coming → List ℕ
coming_words labels trap stands me StepsUsedUp = codes "steps used up"
coming_words labels trap stands me (Trap cause) = trap_words trap cause
coming_words labels trap stands me (Acquire lock holder) = acquire_words labels lock holder
coming_words labels trap stands me (Barrier number) = codes "barrier " ++ decimal number ++ barrier_words (missing_nodes number me stands)
coming_words labels trap stands me (Read word) = numbered_word labels (codes "read of word ") word
coming_words labels trap stands me (Write word) = numbered_word labels (codes "write of word ") word
coming_words labels trap stands me Print = codes "print"
coming_words labels trap stands me (Release lock) = numbered_lock labels (codes "release ") lock
coming_words labels trap stands me Quiet = codes "assignment or condition"
coming_words labels trap stands me End = codes "end"
