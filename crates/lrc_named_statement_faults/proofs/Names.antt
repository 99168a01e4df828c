-- The names of parts and expressions, as lists that have a piece for each.
use Rattle.std.proofs.Common.{◌≡◌, ◌≤◌, ◌+◌, Bool, true, false, cond, List, [], ◌∷◌, ◌++◌, map, length, refl, ap, arith}
use Rattle.lrc_named_tree.specs.declared.tree.Expression as code_expression
use Rattle.lrc_named_tree.specs.declared.tree.Name as code_name
use Rattle.lrc_named_tree.specs.Tree.{Named}
use Rattle.lrc_named_tree.specs.View.{expression_of, expressions_of, named_of}
use Rattle.lrc_named_expression_faults.specs.Scope.{Scope, sense_of}
use Rattle.lrc_named_statement_faults.specs.declared.parts.Part as code_part
use Rattle.lrc_named_statement_faults.specs.Parts.{part_seen}
use Rattle.lrc_named_statement_faults.specs.Statements.{is_private_sense, names_in, names_in_all, names_in_part, names_in_parts, private_names, set_in, set_names, set_without_index}
use Rattle.lrc_named_statement_faults.proofs.Growing.{IsPieced}

pub all_names_pieced : IsPieced (λ (xs : List code_expression.Expression). names_in_all (expressions_of xs)) (λ x. names_in (expression_of x))
all_names_pieced = record { nothing = refl; next = λ x xs. refl }

pub set_names_pieced : IsPieced (λ (xs : List code_part.Part). set_names (map part_seen xs)) (λ x. set_in (part_seen x))
set_names_pieced = record { nothing = refl; next = λ x xs. refl }

pub part_names_pieced : IsPieced (λ (xs : List code_part.Part). names_in_parts (map part_seen xs)) (λ x. names_in_part (part_seen x))
part_names_pieced = record { nothing = refl; next = λ x xs. refl }

one_private : (b : Bool) (x : Named) (l : List Named) → cond b (x ∷ l) l ≡ cond b (x ∷ []) [] ++ l
one_private true x l = refl
one_private false x l = refl

pub private_pieced : (scope : Scope) → IsPieced (λ (xs : List code_name.Name). private_names scope (map named_of xs)) (λ x. private_names scope (named_of x ∷ []))
private_pieced scope =
    record { nothing = refl; next = λ x xs. one_private (is_private_sense (sense_of scope (named_of x).bytes)) (named_of x) (private_names scope (map named_of xs)) }

pub private_one : (scope : Scope) (named : Named) → is_private_sense (sense_of scope named.bytes) ≡ true → private_names scope (named ∷ []) ≡ named ∷ []
private_one scope named e = ap (λ b. cond b (named ∷ []) []) e

pub private_none : (scope : Scope) (named : Named) → is_private_sense (sense_of scope named.bytes) ≡ false → private_names scope (named ∷ []) ≡ []
private_none scope named e = ap (λ b. cond b (named ∷ []) []) e

pub set_without : (xs : List code_expression.Expression) (named : Named) → length xs ≡ 0 → set_without_index named (expressions_of xs) ≡ named ∷ []
set_without [] named e = refl
set_without (x ∷ xs) named e = absurd (omega arith)

pub set_with : (xs : List code_expression.Expression) (named : Named) → 1 ≤ length xs → set_without_index named (expressions_of xs) ≡ []
set_with [] named some = absurd (omega arith)
set_with (x ∷ xs) named some = refl
