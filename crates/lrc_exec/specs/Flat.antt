-- Flat code: which statements are still to do at each place, and what makes an instruction sound.
use Rattle.std.specs.Prelude.{◌≡◌, ℕ, ◌+◌, ◌≤◌, Some, List, [], ◌∷◌, ◌++◌, length, slice_get, slice_index_or}
use Rattle.lrc_program.specs.declared.Statement.{Statement}
use Rattle.lrc_program.specs.declared.Statement.TheVariants.{If', While'}
use Rattle.lrc_program.specs.Statements.{Statement as Tree, if_else, while_do, Block, empty, next, statement_of, block_of}
use Rattle.lrc_program.specs.Sizes.{names_in_statement, names_in}
use Rattle.lrc_exec.specs.declared.code.Instruction.{Instruction}
use Rattle.lrc_exec.specs.Laid.{IsLaid}
use Rattle.lrc_exec.specs.Meaning.{block}

-- the statements still to do at the places so far and, after them, at those of further instructions
unfoldable pub rests_from : List (List Statement) → List Instruction → List (List Statement)
rests_from rests [] = rests
rests_from rests (instruction ∷ more) =
    rests_from (rests ++ (instruction.statement.now ∷ slice_index_or rests instruction.next []) ∷ []) more

-- the statements still to do at a place: none at place 0, the end of the text; at the place of an instruction its own
-- and those at its next place
unfoldable pub rest_at : List Instruction → ℕ → List Statement
rest_at code place = slice_index_or (rests_from ([] ∷ []) code) place []

-- what is still to do where the condition of a statement holds, and `rest` comes after it
abbrev pub where_it_holds : Statement → List Statement → List Statement
where_it_holds (If' condition p first q second) rest = block first ++ rest
where_it_holds (While' condition p body) rest = block body ++ While' condition p body ∷ rest
where_it_holds statement rest = rest

-- what is still to do where it does not hold
abbrev pub where_it_fails : Statement → List Statement → List Statement
where_it_fails (If' condition p first q second) rest = block second ++ rest
where_it_fails statement rest = rest

-- the k-th instruction, from 0, leads where its statement does, and its private names are among the 32 that there are
pub record IsSoundAt (code : List Instruction) (k : ℕ) (instruction : Instruction) : Type 0 where
  pub next_below : instruction.next ≤ k
  pub then_within : instruction.then ≤ length code
  pub otherwise_within : instruction.otherwise ≤ length code
  pub then_leads : rest_at code instruction.then ≡ where_it_holds instruction.statement.now (rest_at code instruction.next)
  pub otherwise_leads : rest_at code instruction.otherwise ≡ where_it_fails instruction.statement.now (rest_at code instruction.next)
  pub names : names_in_statement (statement_of instruction.statement.now) ≤ 32

-- each instruction from the k-th on is sound
abbrev pub IsSoundFrom : ℕ → List Instruction → Type 0
IsSoundFrom from code = (k : ℕ) (instruction : Instruction) → from ≤ k → slice_get code k ≡ Some instruction → IsSoundAt code k instruction

-- how many statements stand in a statement, itself among them, and in a block
abbrev mutual
  pub statements_in_statement : Tree → ℕ
  statements_in_statement (if_else condition then otherwise) = 1 + (statements_in then + statements_in otherwise)
  statements_in_statement (while_do condition inside) = 1 + statements_in inside
  statements_in_statement _ = 1

  pub statements_in : Block → ℕ
  statements_in empty = 0
  statements_in (next first others) = statements_in_statement first + statements_in others

-- The code has grown by instructions that at `place` begin these statements, after which comes `next`. They are sound
-- where the private names of the statements are among the 32 that there are.
pub record IsGrown (old new : List Instruction) (statements : List Statement) (next place : ℕ) : Type 0 where
  pub more : List Instruction
  pub grown : new ≡ old ++ more
  pub within : place ≤ length new
  pub leads : rest_at new place ≡ statements ++ rest_at new next
  pub sound : names_in (block_of statements) ≤ 32 → IsSoundFrom (length old) new

-- it has grown so by an instruction for each statement that stands in these, and there they lie
pub record IsPut (old new : List Instruction) (statements : List Statement) (next place : ℕ) : Type 0 where
  pub grown : IsGrown old new statements next place
  pub each : length new ≡ length old + statements_in (block_of statements)
  pub laid : IsLaid new (length old) statements next place

-- the code of these statements, which lie in it from `start` on: an instruction for each statement that stands in them
pub record IsCodeOf (code : List Instruction) (start : ℕ) (statements : List Statement) : Type 0 where
  pub within : start ≤ length code
  pub leads : rest_at code start ≡ statements
  pub sound : IsSoundFrom 0 code
  pub each : length code ≡ statements_in (block_of statements)
  pub laid : IsLaid code 0 statements 0 start
