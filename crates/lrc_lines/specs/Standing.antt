-- A walk and its thread agree.
use Rattle.std.specs.Prelude.{◌≡◌, false, map}
use Rattle.lrc_lines.specs.Walks.{Walk}

-- What is still to do with its lines are the statements that the thread has still to do, in their order; and the thread
-- is not behind an arrive. So what the thread does next is the act of the statement whose line comes next.
abbrev pub Agrees : Walk → Type 0
Agrees walk = (map (λ task. task.statement) walk.todo ≡ walk.thread.rest) × (walk.thread.arrived ≡ false)
