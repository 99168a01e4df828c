-- The lines of acts. A node's deeds lead its thread through the text, and with it what is still to do, each with its line.
use Rattle.std.specs.Prelude.{ℕ, ◌==◌, nat_lt, Bool, true, false, List, [], ◌∷◌, ◌++◌, fold, map, if◌then◌else◌}
use Rattle.std.specs.List.{range_with_len}
use Rattle.lrc_program.specs.declared.Program.{Program}
use Rattle.lrc_trace.specs.declared.act.Act.{Act}
use Rattle.lrc_trace.specs.declared.act.Deed.{Deed}
use Rattle.lrc_trace.specs.declared.act.Deed.TheVariants.{Read, Arrive, Trap, End}
use Rattle.lrc_exec.specs.declared.machine.Ask.{Ask}
use Rattle.lrc_exec.specs.declared.machine.Ask.TheVariants as asks
use Rattle.lrc_exec.specs.Meaning.{Thread, next_of}
use Rattle.lrc_exec.specs.Plain.{start_of}
use Rattle.lrc_exec.specs.Ask.{ask_of, answered}
use Rattle.lrc_exec.specs.Condition.{condition_holds}
use Rattle.lrc_lines.specs.Tasks.{Task, tasks, passed, next_line}

-- a node's thread, and what it has still to do
pub record Walk : Type 0 where
  pub thread : Thread
  pub todo : List Task

-- a node at the beginning of a program whose statements have these lines
abbrev pub walk_at_start : Program → (nodes : ℕ) → (lines : List ℕ) → (me : ℕ) → Walk
walk_at_start program nodes lines me = record { thread = start_of program nodes me; todo = tasks program.statements.items lines }

-- the value that a deed gives its thread
abbrev pub value_given : Deed → ℕ
value_given (Read word value) = value
value_given _ = 0

-- a thread that asks for this goes on: it has not trapped, and is not at the end of the text
abbrev pub goes_on : Ask → Bool
goes_on (asks.Trap cause) = false
goes_on asks.End = false
goes_on _ = true

-- the statement that comes next is done, where a read gets the value; a walk that has stopped stays where it is
abbrev pub onward : ℕ → Walk → Walk
onward value walk =
    if goes_on (ask_of (next_of walk.thread))
    then record { thread = answered value walk.thread; todo = passed (condition_holds walk.thread) walk.todo }
    else walk

-- A walk once its node has done a deed. From an arrive to its depart it stays at the barrier, and from a trap or the end
-- nothing leads on.
abbrev pub led : Walk → Deed → Walk
led walk Arrive = walk
led walk (Trap cause) = walk
led walk End = walk
led walk deed = onward (value_given deed) walk

-- a node's walk once an act is done: an act of another node leaves it where it is
abbrev pub led_by : (node : ℕ) → Walk → Act → Walk
led_by node walk act = if act.node == node then led walk act.deed else walk

-- where the acts so far have led a node
abbrev pub walk_behind : Program → (nodes : ℕ) → (lines : List ℕ) → List Act → (node : ℕ) → Walk
walk_behind program nodes lines acts node = fold (led_by node) (walk_at_start program nodes lines node) acts

-- the line of what a walk comes to next; `end` is the line of the text's end
abbrev pub line_at : (end : ℕ) → Walk → ℕ
line_at end walk = next_line end walk.todo

-- the line of the text's end, which comes last
abbrev pub end_line : (lines : List ℕ) → ℕ
end_line = fold (λ _ line. line) 0

-- the same, of each node of a run
abbrev pub walks_behind : Program → (nodes : ℕ) → (lines : List ℕ) → List Act → List Walk
walks_behind program nodes lines acts = map (walk_behind program nodes lines acts) (range_with_len 0 nodes)

-- the line that the acts so far have led a node to; where there is no such node, the line of the text's end
abbrev pub line_behind : Program → (nodes : ℕ) → (lines : List ℕ) → List Act → (node : ℕ) → ℕ
line_behind program nodes lines acts node =
    if nat_lt node nodes then line_at (end_line lines) (walk_behind program nodes lines acts node) else end_line lines

-- The lines of acts that come behind these ones: of each the line that its node has come to.
abbrev pub lines_behind : Program → (nodes : ℕ) → (lines : List ℕ) → (before acts : List Act) → List ℕ
lines_behind program nodes lines before [] = []
lines_behind program nodes lines before (act ∷ acts) =
    line_behind program nodes lines before act.node ∷ lines_behind program nodes lines (before ++ act ∷ []) acts

-- the lines of acts
abbrev pub act_lines : Program → (nodes : ℕ) → (lines : List ℕ) → (acts : List Act) → List ℕ
act_lines program nodes lines acts = lines_behind program nodes lines [] acts
