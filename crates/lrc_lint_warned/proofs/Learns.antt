-- Loops that learn nothing, by tables of names.
use Rattle.std.proofs.Common.{◌≡◌, ◌∙◌, ℕ, ap, sym, refl, List, get_or, Bool, Result, Ok, Err}
use Rattle.std.specs.Prelude.{◌&&◌, ◌||◌, not, true, false, IfOk}
use Rattle.std.specs.List.{list_all, list_any}
use Rattle.lrc_program.specs.Statements.{Expression, number, private, me, nodes, binary, Statement, assign, read, write, acquire, release, barrier}
use Rattle.lrc_program.specs.Statements.{print, if_else, while_do}
use Rattle.lrc_lint_warned.specs.Blocks.{has_set, is_marked, is_set_in, is_still, is_still_by, learns_nothing, some_learns, some_marked}
use Rattle.lrc_lint_warned.specs.Inside.{nodes_in}
use Rattle.lrc_lint_warned.specs.Names.{is_name, name_of, sets}
use Rattle.lrc_lint_warned.proofs.Lists.{all_same, any_same}

module _ (set of_condition : List Bool) (statements : List Statement) (condition : Expression)
    (in_set : (k : ℕ) → get_or set k false ≡ list_any (sets k) statements)
    (in_condition : (k : ℕ) → get_or of_condition k false ≡ list_any (is_name k) (nodes_in condition)) where
  marked_is : (n : Expression) → is_marked set (name_of n) ≡ is_set_in statements n
  marked_is (number n) = refl
  marked_is (private k) = in_set k
  marked_is me = refl
  marked_is nodes = refl
  marked_is (binary left o right) = refl

  some_is : (e : Expression) → some_marked set (nodes_in e) ≡ has_set statements e
  some_is e = any_same (λ n. is_marked set (name_of n)) (is_set_in statements) marked_is (nodes_in e)

  still_is : (s : Statement) → is_still_by set of_condition s ≡ is_still statements condition s
  still_is (assign k value) = ap not (in_condition k)
  still_is (read k word) =
      ap (λ b. not b || not (some_marked set (nodes_in word))) (in_condition k)
      ∙ ap (λ b. not (list_any (is_name k) (nodes_in condition)) || not b) (some_is word)
  still_is (write word value) = refl
  still_is (acquire lock) = refl
  still_is (release lock) = refl
  still_is barrier = refl
  still_is (print value) = refl
  still_is (if_else e a b) = refl
  still_is (while_do e a) = refl

  learns_is : (holds : Bool) → some_learns statements ≡ false → some_marked set (nodes_in condition) ≡ true
      → holds ≡ list_all (is_still_by set of_condition) statements → holds ≡ learns_nothing condition statements
  learns_is holds none some is =
      is ∙ all_same (is_still_by set of_condition) (is_still statements condition) still_is statements
      ∙ ap (λ b. b && list_all (is_still statements condition) statements) (sym some ∙ some_is condition)
      ∙ ap (λ b. not b && (has_set statements condition && list_all (is_still statements condition) statements)) (sym none)

  pub learns_ok : {E : Type 0} (result : Result Bool E) → some_learns statements ≡ false → some_marked set (nodes_in condition) ≡ true
      → IfOk result (λ holds. holds ≡ list_all (is_still_by set of_condition) statements)
      → IfOk result (λ holds. holds ≡ learns_nothing condition statements)
  learns_ok (Ok holds) none some is = learns_is holds none some is
  learns_ok (Err e) none some is = tt
