-- What stands in a statement takes no more private names than the statement.
use Rattle.std.proofs.Common.{◌≤◌, ℕ, max, List, [], ◌∷◌, ◌++◌, subst, arith}
use Rattle.std.proofs.Math.Nat.{max-le, le-max_left, le-max_right}
use Rattle.lrc_program.specs.declared.Expression.{Expression}
use Rattle.lrc_program.specs.declared.Statement.{Statement}
use Rattle.lrc_program.specs.declared.Statement.TheVariants.{If, While}
use Rattle.lrc_program.specs.Statements.{statement_of, block_of}
use Rattle.lrc_program.specs.Sizes.{names_in_statement, names_in}
use Rattle.lrc_program.proofs.Trees.{row_of_hidden}

left_of : (a b n : ℕ) → max a b ≤ n → a ≤ n
left_of a b n h = omega (arith, le-max_left a b, h)

right_of : (a b n : ℕ) → max a b ≤ n → b ≤ n
right_of a b n h = omega (arith, le-max_right a b, h)

-- the statement's private names are among the 32 that there are
abbrev pub HasFew : Statement → Type 0
HasFew s = names_in_statement (statement_of s) ≤ 32

-- and those of each of these statements
abbrev pub HaveFew : List Statement → Type 0
HaveFew statements = names_in (block_of statements) ≤ 32

-- one statement, and the statements of two lists
pub few_of_one : (s : Statement) → HaveFew (s ∷ []) → HasFew s
few_of_one s few = left_of _ _ 32 few

pub few_behind : (first rest : List Statement) → HaveFew (first ++ rest) → HaveFew rest
few_behind [] rest few = few
few_behind (s ∷ first) rest few = few_behind first rest (right_of _ _ 32 few)

pub few_front : (first rest : List Statement) → HaveFew (first ++ rest) → HaveFew first
few_front [] rest few = omega arith
few_front (s ∷ first) rest few = max-le (left_of _ _ 32 few) (few_front first rest (right_of _ _ 32 few))

-- the blocks of a choice, and of a loop
pub few_first : (e : Expression) (a b : _) → HasFew (If e a b) → HaveFew a.items
few_first e a b few = subst (λ x. names_in x ≤ 32) (row_of_hidden a) (left_of _ _ 32 (right_of _ _ 32 few))

pub few_second : (e : Expression) (a b : _) → HasFew (If e a b) → HaveFew b.items
few_second e a b few = subst (λ x. names_in x ≤ 32) (row_of_hidden b) (right_of _ _ 32 (right_of _ _ 32 few))

pub few_inside : (e : Expression) (a : _) → HasFew (While e a) → HaveFew a.items
few_inside e a few = subst (λ x. names_in x ≤ 32) (row_of_hidden a) (right_of _ _ 32 few)
