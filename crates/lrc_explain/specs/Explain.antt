-- What is printed of a run, with reasons.
use Rattle.std.specs.Prelude.{ℕ, ◌==◌, List, [], ◌++◌, Option, Some, codes, decimal, if◌then◌else◌}
use Rattle.std.specs.List.{flat_map}
use Rattle.lrc_program.specs.declared.Program.{Program}
use Rattle.lrc_trace.specs.declared.act.Act.{Act}
use Rattle.lrc_trace.specs.declared.act.Deed.{Deed}
use Rattle.lrc_trace.specs.declared.act.Deed.TheVariants.{Print}
use Rattle.lrc_lines.specs.Walks.{act_lines}
use Rattle.lrc_judge.specs.declared.lanes.Pair.{Pair}
use Rattle.lrc_text.specs.RaceText.{first_race_text}
use Rattle.lrc_text.specs.Each.{each}
use Rattle.lrc_labels.specs.Reading.{Label}
use Rattle.lrc_named_core.specs.Tree.{Trap}
use Rattle.lrc_explain_waits.specs.declared.stand.Stand.{Stand}
use Rattle.lrc_explain_waits.specs.Circles.{deadlocks_text}
use Rattle.lrc_explain_waits.specs.Stand.{stands_of}
use Rattle.lrc_explain_waits.specs.Stuck.{end_text}
use Rattle.lrc_explain_waits.specs.Traps.{trap_at}
use Rattle.lrc_explain.specs.Access.{node_words}
use Rattle.lrc_explain.specs.Groups.{groups_text}

-- a print is a line, and any other deed none
abbrev pub print_text : (node : ℕ) → Deed → List ℕ
print_text node (Print value) = node_words node ++ codes " prints " ++ decimal value ++ codes "\n"
print_text node _ = []

abbrev pub print_of : (node : ℕ) → Act → List ℕ
print_of node act = if act.node == node then print_text node act.deed else []

-- what a node printed
abbrev pub prints_text : (node : ℕ) → List Act → List ℕ
prints_text node acts = flat_map (print_of node) acts

-- what each node printed, how it ended and why; of a trap of the statement to which each has come the text says this
abbrev pub fates_text : List Label → List Trap → List Act → List Stand → List ℕ
fates_text labels traps acts stands = each (λ node stand. prints_text node acts ++ end_text labels (trap_at traps node) stands node stand) stands

-- What is printed of the acts of a program whose statements, and the text's end behind them, have these lines: the lines of the nodes,
-- those of the circles of waiting, the groups of these first pairs of races, and the first race. The labels of words and of locks
-- stand behind their numbers in what comes next of nodes and in the groups; the other lines name no word and no lock. Of a trap of the
-- statement to which each node has come the text says this.
abbrev pub explain_text : List Label → List Trap → Program → (nodes : ℕ) → (lines : List ℕ) → (steps : ℕ) → List Act → List Pair → (first : Option ℕ) → List ℕ
explain_text labels traps program nodes lines steps acts pairs first =
    let stands = stands_of program nodes lines (Some steps) acts in
    fates_text labels traps acts stands ++ deadlocks_text stands ++ groups_text labels acts (act_lines program nodes lines acts) pairs ++ first_race_text first
