-- What the code keeps of what is still to do, as the definitions see it.
use Rattle.std.specs.Prelude.{List, [], ◌∷◌, ◌++◌, fold}
use Rattle.lrc_lines.specs.declared.way.Stretch.{Stretch}
use Rattle.lrc_lines.specs.Tasks.{Task, tasks}

-- the statements of a stretch
abbrev pub tasks_of : Stretch → List Task
tasks_of stretch = tasks (stretch.first.now ∷ stretch.others.now) stretch.lines.now

-- the innermost stretch comes last
abbrev pub todo_of : List Stretch → List Task
todo_of = fold (λ outer stretch. tasks_of stretch ++ outer) []
