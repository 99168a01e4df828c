-- What a run prints, and the status with which the program ends after it.
use Rattle.std.specs.Prelude.{◌+◌, ◌==◌, ℕ, Bool, true, false, Option, Some, None, List, [], ◌∷◌, ◌++◌, codes, decimal, if◌then◌else◌}
use Rattle.std.specs.List.{flat_map, list_all}
use Rattle.lrc_trace.specs.declared.act.Act.{Act}
use Rattle.lrc_trace.specs.declared.act.Deed.{Deed}
use Rattle.lrc_trace.specs.declared.act.Deed.TheVariants.{Print}
use Rattle.lrc_trace.specs.declared.race.Race.{Race}
use Rattle.lrc_text.specs.ActText.{cause_number}
use Rattle.lrc_text.specs.RaceText.{first_race_text, races_text}
use Rattle.lrc_trace.specs.declared.end.End.{End}
use Rattle.lrc_trace.specs.declared.end.End.TheVariants.{Ended, Trapped, Unfinished}

-- a line on a node
abbrev pub line_on : ℕ → List ℕ → List ℕ
line_on node words = codes "node " ++ decimal node ++ words ++ codes "\n"

-- a print is a line, and any other deed none
abbrev pub deed_line : ℕ → Deed → List ℕ
deed_line node (Print value) = line_on node (codes " prints " ++ decimal value)
deed_line node _ = []

-- what an act prints on the lines of this node
abbrev pub line_of_act : ℕ → Act → List ℕ
line_of_act node act = if act.node == node then deed_line node act.deed else []

-- how a node ended
abbrev pub end_words : End → List ℕ
end_words Ended = codes " ended"
end_words (Trapped cause) = codes " trapped " ++ decimal (cause_number cause)
end_words Unfinished = codes " unfinished"

-- the lines of a node: its prints in order, then how it ended
abbrev pub node_text : List Act → ℕ → End → List ℕ
node_text acts node end = flat_map (line_of_act node) acts ++ line_on node (end_words end)

-- the lines of the nodes from this one on
abbrev pub nodes_text : List Act → ℕ → List End → List ℕ
nodes_text acts node [] = []
nodes_text acts node (end ∷ ends) = node_text acts node end ++ nodes_text acts (node + 1) ends

-- the text of a run: the lines of its nodes, from node 0 on
abbrev pub report_text : List Act → List End → List ℕ
report_text acts ends = nodes_text acts 0 ends

abbrev pub is_ended : End → Bool
is_ended Ended = true
is_ended _ = false

-- the status without a race: 0 where every node came to the end of the text, and else 4
abbrev pub status_of : List End → ℕ
status_of ends = if list_all is_ended ends then 0 else 4

-- what is printed of a run: the lines of its nodes, its races, and the first of its acts that races with an earlier one
abbrev pub run_text : List Act → List End → List Race → Option ℕ → List ℕ
run_text acts ends races first_race = report_text acts ends ++ races_text races ++ first_race_text first_race

-- the status after a run: 3 where there is a race
abbrev pub run_status_of : Option ℕ → List End → ℕ
run_status_of None ends = status_of ends
run_status_of (Some position) ends = 3
