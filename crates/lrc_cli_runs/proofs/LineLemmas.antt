-- The lines of acts.
use Rattle.std.proofs.Common.{◌≡◌, ℕ, suc, List, [], ◌∷◌, ◌++◌, length, refl, ap}
use Rattle.lrc_program.specs.declared.Program.{Program}
use Rattle.lrc_trace.specs.declared.act.Act.{Act}
use Rattle.lrc_lines.specs.Statements.{act_statements, numbers_of}
use Rattle.lrc_lines.specs.Walks.{lines_behind}

-- there is one for each act
pub lines_count : (program : Program) (nodes : ℕ) (places : List ℕ) (before acts : List Act)
    → length (lines_behind program nodes places before acts) ≡ length acts
lines_count program nodes places before [] = refl
lines_count program nodes places before (act ∷ acts) = ap suc (lines_count program nodes places (before ++ act ∷ []) acts)

-- and a statement
pub statements_count : (program : Program) (nodes : ℕ) (acts : List Act) → length (act_statements program nodes acts) ≡ length acts
statements_count program nodes acts = lines_count program nodes (numbers_of program) [] acts
