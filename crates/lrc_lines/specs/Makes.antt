-- What a deed is of: the statement that comes next on its node's way.
use Rattle.std.specs.Prelude.{◌≡◌, Option, List, [], ◌∷◌, map}
use Rattle.lrc_program.specs.declared.Statement.TheVariants.{Barrier}
use Rattle.lrc_trace.specs.declared.act.Deed.{Deed}
use Rattle.lrc_trace.specs.declared.act.Deed.TheVariants.{Depart, End}
use Rattle.lrc_exec.specs.Meaning.{Thread, next_of_statement}
use Rattle.lrc_exec.specs.Follows.{Goes}
use Rattle.lrc_lines.specs.Tasks.{Task}
use Rattle.lrc_lines.specs.Walks.{Walk}

-- A node that has come so far makes this deed next:
pub data MakesNext (walk : Walk) : Deed → Type 0 where
  -- the statement whose line comes next makes it, or its condition is evaluated,
  statement : {task : Task} {more : List Task} {deed : Deed} {after : Option Thread} → walk.todo ≡ task ∷ more
      → Goes (next_of_statement walk.thread task.statement (map (λ later. later.statement) more)) deed after → MakesNext walk deed
  -- or that statement is the barrier to which the node has come, and it departs,
  barrier : {task : Task} {more : List Task} → walk.todo ≡ task ∷ more → task.statement ≡ Barrier → MakesNext walk Depart
  -- or nothing is left to do, and it is at the end of the text
  end : walk.todo ≡ [] → MakesNext walk End
