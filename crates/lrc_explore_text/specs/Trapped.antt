-- The lines of nodes that have trapped.
use Rattle.std.specs.Prelude.{ℕ, None, List, []}
use Rattle.lrc_program.specs.declared.Program.{Program}
use Rattle.lrc_trace.specs.declared.act.Act.{Act}
use Rattle.lrc_text.specs.Each.{each}
use Rattle.lrc_labels.specs.Reading.{Label}
use Rattle.lrc_explain_waits.specs.declared.stand.Fate.{Fate}
use Rattle.lrc_explain_waits.specs.declared.stand.Fate.TheVariants.{Trapped}
use Rattle.lrc_explain_waits.specs.declared.stand.Stand.{Stand}
use Rattle.lrc_explain_waits.specs.Stand.{stands_of}
use Rattle.lrc_explain_waits.specs.Stuck.{end_text}
use Rattle.lrc_explain_waits.specs.Traps.{Wording, trap_at, traps_told}
use Rattle.lrc_named_core.specs.Tree.{Trap}

-- how a node ended, if it has trapped
abbrev pub trapped_as : Fate → List ℕ → List ℕ
trapped_as (Trapped cause) text = text
trapped_as _ text = []

-- how node `me` ended, and why, if it has trapped; of a trap of its statement the text says this
abbrev pub trapped_line : List Label → Trap → List Stand → (me : ℕ) → Stand → List ℕ
trapped_line labels trap stands me stand = trapped_as stand.fate (end_text labels trap stands me stand)

-- the same of all nodes, ascending
abbrev pub trapped_lines : List Label → List Trap → List Stand → List ℕ
trapped_lines labels traps stands = each (λ me stand. trapped_line labels (trap_at traps me) stands me stand) stands

-- the same after acts
abbrev pub trapped_text : Wording → Program → (nodes : ℕ) → (lines : List ℕ) → List Act → List ℕ
trapped_text wording program nodes lines acts =
    trapped_lines wording.labels (traps_told wording.traps program nodes acts) (stands_of program nodes lines None acts)
