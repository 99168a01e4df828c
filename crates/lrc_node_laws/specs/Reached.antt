-- A node that is reached: some inputs lead to it from a fresh node of a program.
use Rattle.std.specs.Prelude.{◌≡◌, ℕ, ◌<◌, List, Some}
use Rattle.lrc_program.specs.declared.Program.{Program}
use Rattle.lrc_protocol.specs.Node.{Node, OptionsRecord}
use Rattle.lrc_protocol.specs.Turn.{TurnRecord}
use Rattle.lrc_protocol.specs.Run.{Input}
use Rattle.lrc_protocol.specs.Follows.{local}
use Rattle.lrc_protocol.specs.Follows.{Local}

-- with these turns, which some inputs make
pub record LeadsTo (program : Program) (nodes : ℕ) (options : OptionsRecord) (me : ℕ) (l : Local) : Type 0 where
  pub among : me < nodes
  pub inputs : List Input
  pub made : local program nodes options me inputs ≡ Some l

-- the node is reached on a node of some program
pub record IsReached (node : Node) : Type 0 where
  pub program : Program
  pub nodes : ℕ
  pub options : OptionsRecord
  pub me : ℕ
  pub turns : List TurnRecord
  pub leads : LeadsTo program nodes options me (record { node = node; turns = turns })
