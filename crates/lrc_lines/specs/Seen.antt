-- Where nodes are in the text, as the definitions see what the code keeps of it.
use Rattle.std.specs.Prelude.{List, map}
use Rattle.lrc_lines.specs.declared.walk.Walk as code
use Rattle.lrc_lines.specs.declared.walks.Walks as all
use Rattle.lrc_lines.specs.Walks.{Walk}
use Rattle.lrc_lines.specs.Ways.{todo_of}

abbrev pub walk_of : code.Walk → Walk
walk_of walk = record { thread = walk.machine; todo = todo_of walk.way.stretches.items }

-- the walks of nodes 0, 1, ..
abbrev pub walks_of : all.Walks → List Walk
walks_of walks = map walk_of walks.nodes.items
