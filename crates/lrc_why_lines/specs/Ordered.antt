-- How two acts are ordered, in words.
use Rattle.std.specs.Prelude.{ℕ, ◌+◌, ◌==◌, List, ◌++◌, codes, decimal, drop, if◌then◌else◌, length, nat_lt, slice_index}
use Rattle.lrc_text.specs.Each.{each}
use Rattle.lrc_trace.specs.Run.{departs_before}
use Rattle.lrc_trace.specs.declared.act.Deed.{Deed}
use Rattle.lrc_trace.specs.declared.act.Deed.TheVariants.{Acquire}
use Rattle.lrc_labels.specs.Reading.{Label}
use Rattle.lrc_judge.specs.Races.{word_of}
use Rattle.lrc_why.specs.declared.reasons.Parting.{Parting}
use Rattle.lrc_why.specs.declared.reasons.Relation.{Relation}
use Rattle.lrc_why.specs.declared.reasons.Relation.TheVariants.{SameNode, Before, Apart, Race}
use Rattle.lrc_why.specs.declared.reasons.Standing.{Standing}
use Rattle.lrc_why_lines.specs.declared.shown.Shown.{Shown}
use Rattle.lrc_why_lines.specs.Deeds.{lock_text, word_text}
use Rattle.lrc_why_lines.specs.Places.{act_shown, act_text, labels_shown, there_text}
use Rattle.lrc_why_lines.specs.Racing.{held_line, parting_line, remedy_line}

unfoldable pub two_text : (earlier : ℕ) → (does : List ℕ) → (later : ℕ) → List ℕ
two_text earlier does later = codes "  act " ++ decimal earlier ++ (does ++ decimal later)

unfoldable pub same_line : Shown → (earlier later : ℕ) → List ℕ
same_line shown earlier later = two_text earlier (codes " comes before act ") later
    ++ (codes " in node " ++ decimal (act_shown shown earlier).node) ++ codes "\n"

-- by what a step of a chain leads to another node: a lock, or the barrier with this number
unfoldable pub by_text : List Label → Deed → ℕ → List ℕ
by_text labels (Acquire l) number = lock_text labels (codes "    by lock ") l
by_text labels _ number = codes "    by barrier " ++ decimal number

-- the number of the barrier from which the node of an act goes on there, from 1
abbrev pub barrier_shown : Shown → ℕ → ℕ
barrier_shown shown position =
    if nat_lt position (length shown.acts.now) then departs_before shown.acts.now (act_shown shown position).node position + 1 else 1

unfoldable pub across_line : Shown → ℕ → List ℕ
across_line shown to = by_text (labels_shown shown) (act_shown shown to).deed (barrier_shown shown to) ++ codes ": " ++ act_text shown to ++ codes "\n"

unfoldable pub within_line : Shown → ℕ → List ℕ
within_line shown to = codes "    in node " ++ decimal (act_shown shown to).node ++ codes ": " ++ there_text shown to ++ codes "\n"

unfoldable pub step_line : Shown → (from to : ℕ) → List ℕ
step_line shown from to =
    if (act_shown shown from).node == (act_shown shown to).node then within_line shown to else across_line shown to

-- the steps along a chain, each from the act at one place to the next
abbrev pub steps_text : Shown → List ℕ → List ℕ
steps_text shown chain = each (λ k to. step_line shown (slice_index chain k) to) (drop 1 chain)

unfoldable pub before_text : Shown → (earlier later : ℕ) → List ℕ → List ℕ
before_text shown earlier later chain =
    two_text earlier (codes " happens before act ") later ++ codes ":\n" ++ steps_text shown chain

unfoldable pub race_line : Shown → Parting → List ℕ
race_line shown parting = word_text (labels_shown shown) (codes "  they race: both access word ") (word_of (act_shown shown parting.earlier).deed)
    ++ codes ", and neither happens before the other\n"

unfoldable pub race_text : Shown → Parting → (first second : Standing) → List ℕ
race_text shown parting first second = race_line shown parting ++ parting_line shown parting
    ++ held_line (labels_shown shown) parting first second ++ remedy_line shown parting

unfoldable pub apart_text : Shown → Parting → List ℕ
apart_text shown parting = codes "  neither happens before the other\n" ++ parting_line shown parting

unfoldable pub relation_text : Shown → (earlier later : ℕ) → Relation → List ℕ
relation_text shown earlier later SameNode = same_line shown earlier later
relation_text shown earlier later (Before chain) = before_text shown earlier later chain.items
relation_text shown earlier later (Apart parting) = apart_text shown parting
relation_text shown earlier later (Race parting first second) = race_text shown parting first second
