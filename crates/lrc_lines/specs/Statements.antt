-- Statements by their numbers: how many statements come before one in the order of the text, where a statement comes
-- before those of its blocks. The end of the text has as its number how many statements there are.
use Rattle.std.specs.Prelude.{ℕ, ◌+◌, List}
use Rattle.std.specs.List.{range_with_len}
use Rattle.lrc_program.specs.declared.Program.{Program}
use Rattle.lrc_program.specs.Statements.{block_of}
use Rattle.lrc_trace.specs.declared.act.Act.{Act}
use Rattle.lrc_exec.specs.Flat.{statements_in}
use Rattle.lrc_lines.specs.Walks.{act_lines}

-- the number of each statement of a program in the order of its text, and last how many there are
abbrev pub numbers_of : Program → List ℕ
numbers_of program = range_with_len 0 (statements_in (block_of program.statements.items) + 1)

-- the number of the statement that each act is of; of an end, how many statements there are
abbrev pub act_statements : Program → (nodes : ℕ) → List Act → List ℕ
act_statements program nodes acts = act_lines program nodes (numbers_of program) acts
