-- How nodes ended and why, in words, with the labels of words and of locks.
use Rattle.std.specs.Prelude.{ℕ, List, [], ◌++◌, codes, decimal}
use Rattle.lrc_text.specs.ActText.{cause_number}
use Rattle.lrc_text.specs.Each.{each}
use Rattle.lrc_labels.specs.Reading.{Label}
use Rattle.lrc_explain_waits.specs.declared.stand.Fate.{Fate}
use Rattle.lrc_explain_waits.specs.declared.stand.Fate.TheVariants.{Ended, Trapped, Unfinished}
use Rattle.lrc_explain_waits.specs.declared.stand.Stand.{Stand}
use Rattle.lrc_explain_waits.specs.Circles.{deadlocks_text}
use Rattle.lrc_explain_waits.specs.Words.{coming_words}
use Rattle.lrc_explain_waits.specs.Traps.{trap_at}
use Rattle.lrc_named_core.specs.Tree.{Trap}
use Rattle.lrc_trap_words.specs.Words.{cause_words}

-- how a node ended
abbrev pub fate_words : Fate → List ℕ
fate_words Ended = codes " ended\n"
fate_words (Trapped cause) = codes " trapped " ++ decimal (cause_number cause) ++ codes "\n"
fate_words Unfinished = codes " unfinished\n"

-- why: where a node trapped, or what comes next of it; of a trap of its statement the text says this
abbrev pub reason_by : List Label → Trap → Fate → List Stand → (me : ℕ) → Stand → List ℕ
reason_by labels trap Ended stands me stand = []
reason_by labels trap (Trapped cause) stands me stand = codes "  line " ++ decimal stand.line ++ codes ": " ++ cause_words trap cause ++ codes "\n"
reason_by labels trap Unfinished stands me stand =
    codes "  next, line " ++ decimal stand.line ++ codes ": " ++ coming_words labels trap stands me stand.coming ++ codes "\n"

abbrev pub reason_text : List Label → Trap → List Stand → (me : ℕ) → Stand → List ℕ
reason_text labels trap stands me stand = reason_by labels trap stand.fate stands me stand

-- how node `me` ended, and why
abbrev pub end_text : List Label → Trap → List Stand → (me : ℕ) → Stand → List ℕ
end_text labels trap stands me stand = codes "node " ++ decimal me ++ fate_words stand.fate ++ reason_text labels trap stands me stand

-- the same of a node that is unfinished
abbrev pub stuck_as : Fate → List ℕ → List ℕ
stuck_as Unfinished text = text
stuck_as _ text = []

abbrev pub stuck_line : List Label → Trap → List Stand → (me : ℕ) → Stand → List ℕ
stuck_line labels trap stands me stand = stuck_as stand.fate (end_text labels trap stands me stand)

-- of a trap of the statement to which each node has come the text says this
abbrev pub stuck_lines : List Label → List Trap → List Stand → List ℕ
stuck_lines labels traps stands = each (λ me stand. stuck_line labels (trap_at traps me) stands me stand) stands

-- the lines of the nodes that are unfinished, and then those of the circles of waiting
abbrev pub stuck_text : List Label → List Trap → List Stand → List ℕ
stuck_text labels traps stands = stuck_lines labels traps stands ++ deadlocks_text stands
