-- Lists that have a piece for each statement, and for each `else if`; and places with indices or without.
use Rattle.std.proofs.Common.{◌≡◌, ◌≤◌, List, [], ◌∷◌, ◌++◌, length, refl, sym, ap, append-nil, arith}
use Rattle.lrc_named_tree.specs.declared.tree.Arm.{Arm}
use Rattle.lrc_named_tree.specs.declared.tree.Expression as code_expression
use Rattle.lrc_named_tree.specs.declared.tree.Statement.{Statement}
use Rattle.lrc_named_tree.specs.Tree.{Arms, Named, no_arm}
use Rattle.lrc_named_tree.specs.View.{block_of, expressions_of, statement_of}
use Rattle.lrc_named_tokens.specs.Token.{Located}
use Rattle.lrc_named_names.specs.Names.{Declared}
use Rattle.lrc_named_statement_faults.specs.Parts.{arms_of, with_arm}
use Rattle.lrc_named_statement_faults.proofs.Growing.{IsPieced}
use Rattle.lrc_named_uses.specs.Deeds.{deeds_in, deeds_of, deeds_of_arms, sets, sets_bare}
use Rattle.lrc_named_uses.specs.Loops.{loops_in, loops_of, loops_of_arms}

pub deeds_pieced : IsPieced (λ (xs : List Statement). deeds_in (block_of xs)) (λ x. deeds_of (statement_of x))
deeds_pieced = record { nothing = refl; next = λ x xs. refl }

deeds_and_others : (a : Arm) (others : Arms) → deeds_of_arms (with_arm a others) ≡ deeds_of_arms (with_arm a no_arm) ++ deeds_of_arms others
deeds_and_others a others = ap (λ l. l ++ deeds_of_arms others) (sym (append-nil (deeds_in (block_of a.block.items))))

pub deeds_of_arms_pieced : IsPieced (λ (xs : List Arm). deeds_of_arms (arms_of xs)) (λ x. deeds_of_arms (with_arm x no_arm))
deeds_of_arms_pieced = record { nothing = refl; next = λ x xs. deeds_and_others x (arms_of xs) }

module _ (declared : List Declared) (tokens : List Located) where
  pub loops_pieced : IsPieced (λ (xs : List Statement). loops_in declared tokens (block_of xs)) (λ x. loops_of declared tokens (statement_of x))
  loops_pieced = record { nothing = refl; next = λ x xs. refl }

  loops_and_others : (a : Arm) (others : Arms)
      → loops_of_arms declared tokens (with_arm a others) ≡ loops_of_arms declared tokens (with_arm a no_arm) ++ loops_of_arms declared tokens others
  loops_and_others a others =
      ap (λ l. l ++ loops_of_arms declared tokens others) (sym (append-nil (loops_in declared tokens (block_of a.block.items))))

  pub loops_of_arms_pieced : IsPieced (λ (xs : List Arm). loops_of_arms declared tokens (arms_of xs)) (λ x. loops_of_arms declared tokens (with_arm x no_arm))
  loops_of_arms_pieced = record { nothing = refl; next = λ x xs. loops_and_others x (arms_of xs) }

-- a place without indices, and with some
pub bare_without : (indices : List code_expression.Expression) (named : Named) → length indices ≡ 0 → sets_bare named (expressions_of indices) ≡ sets named ∷ []
bare_without [] named none = refl
bare_without (e ∷ others) named none = absurd (omega arith)

pub bare_with : (indices : List code_expression.Expression) (named : Named) → 1 ≤ length indices → sets_bare named (expressions_of indices) ≡ []
bare_with [] named some = absurd (omega arith)
bare_with (e ∷ others) named some = refl
