-- Where the number of indices or arguments goes wrong.
use Rattle.std.proofs.Common.{◌≡◌, ◌≤◌, ◌<◌, ◌+◌, ◌-◌, ℕ, zero, suc, max, min, Some, None, List, [], ◌∷◌, length, get_or, refl, ap, ◌∙◌, arith}
use Rattle.lrc_named_tree.specs.declared.tree.Expression as code_expression
use Rattle.lrc_named_tree.specs.Tree.{Expressions, none, more}
use Rattle.lrc_named_tree.specs.Ends.{last_of}
use Rattle.lrc_named_tree.specs.View.{expression_of, expressions_of}
use Rattle.lrc_named_constants.specs.Well.{count}
use Rattle.lrc_named_expression_faults.specs.Counts.{miscalled, miscounted}

-- as many indices as sizes
pub as_many_indices : (xs : List code_expression.Expression) (sizes : List ℕ) (before : ℕ) → length xs ≡ length sizes
    → None ≡ miscounted before (expressions_of xs) sizes
as_many_indices [] [] before e = refl
as_many_indices [] (size ∷ sizes) before e = absurd (omega arith)
as_many_indices (x ∷ xs) [] before e = absurd (omega arith)
as_many_indices (x ∷ xs) (size ∷ sizes) before e = as_many_indices xs sizes (last_of (expression_of x) + 1) (omega arith)

-- no index fits
pub no_index_fits : (xs : List code_expression.Expression) (sizes : List ℕ) (before : ℕ) → (length xs ≡ length sizes → ⊥)
    → min (length xs) (length sizes) ≡ 0 → Some (before + 1) ≡ miscounted before (expressions_of xs) sizes
no_index_fits [] [] before different none_fits = absurd (different refl)
no_index_fits [] (size ∷ sizes) before different none_fits = refl
no_index_fits (x ∷ xs) [] before different none_fits = refl
no_index_fits (x ∷ xs) (size ∷ sizes) before different none_fits = absurd (omega arith)

-- so many indices fit
pub last_index_fits : (xs : List code_expression.Expression) (sizes : List ℕ) (before i : ℕ) (d : code_expression.Expression)
    → (length xs ≡ length sizes → ⊥) → min (length xs) (length sizes) ≡ suc i
    → Some (last_of (expression_of (get_or xs i d)) + 2) ≡ miscounted before (expressions_of xs) sizes
last_index_fits [] sizes before i d different fits = absurd (omega arith)
last_index_fits (x ∷ xs) [] before i d different fits = absurd (omega arith)
last_index_fits (x ∷ xs) (size ∷ sizes) before zero d different fits =
    let two : last_of (expression_of x) + 2 ≡ (last_of (expression_of x) + 1) + 1 = omega arith in
    ap (λ n. Some n) two ∙ no_index_fits xs sizes (last_of (expression_of x) + 1) (λ e. different (omega arith)) (omega arith)
last_index_fits (x ∷ xs) (size ∷ sizes) before (suc i) d different fits =
    last_index_fits xs sizes (last_of (expression_of x) + 1) i d (λ e. different (omega arith)) (omega arith)

-- as many arguments as are wanted
pub as_many_arguments : (xs : List code_expression.Expression) (close wanted : ℕ) → length xs ≡ wanted
    → None ≡ miscalled close (expressions_of xs) wanted
as_many_arguments [] close zero e = refl
as_many_arguments [] close (suc wanted) e = absurd (omega arith)
as_many_arguments (x ∷ xs) close zero e = absurd (omega arith)
as_many_arguments (x ∷ []) close (suc zero) e = refl
as_many_arguments (x ∷ []) close (suc (suc wanted)) e = absurd (omega arith)
as_many_arguments (x ∷ y ∷ xs) close (suc zero) e = absurd (omega arith)
as_many_arguments (x ∷ y ∷ xs) close (suc (suc wanted)) e = as_many_arguments (y ∷ xs) close (suc wanted) (omega arith)

-- too few arguments, or one where none is wanted
pub wrong_at_close : (xs : List code_expression.Expression) (close wanted : ℕ) → (length xs ≡ wanted → ⊥) → length xs ≤ wanted
    → Some close ≡ miscalled close (expressions_of xs) wanted
wrong_at_close [] close zero different few = absurd (different refl)
wrong_at_close [] close (suc wanted) different few = refl
wrong_at_close (x ∷ xs) close zero different few = absurd (omega arith)
wrong_at_close (x ∷ []) close (suc zero) different few = absurd (different refl)
wrong_at_close (x ∷ []) close (suc (suc wanted)) different few = refl
wrong_at_close (x ∷ y ∷ xs) close (suc zero) different few = absurd (omega arith)
wrong_at_close (x ∷ y ∷ xs) close (suc (suc wanted)) different few =
    wrong_at_close (y ∷ xs) close (suc wanted) (λ e. different (omega arith)) (omega arith)

pub one_where_none_is_wanted : (xs : List code_expression.Expression) (close wanted : ℕ) → wanted ≡ 0 → length xs ≡ 1
    → Some close ≡ miscalled close (expressions_of xs) wanted
one_where_none_is_wanted [] close wanted none_wanted one = absurd (omega arith)
one_where_none_is_wanted (x ∷ []) close zero none_wanted one = refl
one_where_none_is_wanted (x ∷ []) close (suc wanted) none_wanted one = absurd (omega arith)
one_where_none_is_wanted (x ∷ y ∷ xs) close wanted none_wanted one = absurd (omega arith)

-- too many arguments: those up to this one belong to the call
pub wrong_behind : (xs : List code_expression.Expression) (close wanted i : ℕ) (d : code_expression.Expression) → suc i < length xs
    → (suc i ≡ wanted) → Some (last_of (expression_of (get_or xs i d)) + 1) ≡ miscalled close (expressions_of xs) wanted
wrong_behind [] close wanted i d lt is = absurd (omega arith)
wrong_behind (x ∷ []) close wanted i d lt is = absurd (omega arith)
wrong_behind (x ∷ y ∷ xs) close zero i d lt is = absurd (omega arith)
wrong_behind (x ∷ y ∷ xs) close (suc zero) zero d lt is = refl
wrong_behind (x ∷ y ∷ xs) close (suc zero) (suc i) d lt is = absurd (omega arith)
wrong_behind (x ∷ y ∷ xs) close (suc (suc wanted)) zero d lt is = absurd (omega arith)
wrong_behind (x ∷ y ∷ xs) close (suc (suc wanted)) (suc i) d lt is = wrong_behind (y ∷ xs) close (suc wanted) i d (omega arith) (omega arith)

pub wrong_behind_the_first : (xs : List code_expression.Expression) (close wanted : ℕ) (d : code_expression.Expression) → 1 < length xs
    → wanted ≡ 0 → Some (last_of (expression_of (get_or xs 0 d)) + 1) ≡ miscalled close (expressions_of xs) wanted
wrong_behind_the_first [] close wanted d lt is = absurd (omega arith)
wrong_behind_the_first (x ∷ []) close wanted d lt is = absurd (omega arith)
wrong_behind_the_first (x ∷ y ∷ xs) close zero d lt is = refl
wrong_behind_the_first (x ∷ y ∷ xs) close (suc wanted) d lt is = absurd (omega arith)

-- where the number of arguments is not wrong, as many are there as are wanted
pub count_is_wanted : (es : Expressions) (close wanted : ℕ) → ((token : ℕ) → miscalled close es wanted ≡ Some token → ⊥) → count es ≡ wanted
count_is_wanted none close zero right = refl
count_is_wanted none close (suc wanted) right = absurd (right close refl)
count_is_wanted (more e none) close zero right = absurd (right close refl)
count_is_wanted (more e none) close (suc zero) right = refl
count_is_wanted (more e none) close (suc (suc wanted)) right = absurd (right close refl)
count_is_wanted (more e (more d others)) close zero right = absurd (right (last_of e + 1) refl)
count_is_wanted (more e (more d others)) close (suc zero) right = absurd (right (last_of e + 1) refl)
count_is_wanted (more e (more d others)) close (suc (suc wanted)) right =
    let h = count_is_wanted (more d others) close (suc wanted) right in omega (arith, h)

-- more arguments than fit, and no more
pub wrong_behind_fitting : (xs : List code_expression.Expression) (close wanted fitting : ℕ) (d : code_expression.Expression) → fitting ≡ max wanted 1
    → fitting < length xs → Some (last_of (expression_of (get_or xs (fitting - 1) d)) + 1) ≡ miscalled close (expressions_of xs) wanted
wrong_behind_fitting xs close zero fitting d is lt =
    let one : fitting - 1 ≡ 0 = omega arith in
    ap (λ n. Some (last_of (expression_of (get_or xs n d)) + 1)) one ∙ wrong_behind_the_first xs close zero d (omega arith) refl
wrong_behind_fitting xs close (suc wanted) fitting d is lt =
    let one : suc (fitting - 1) ≡ suc wanted = omega arith in
    let less : suc (fitting - 1) < length xs = omega arith in
    wrong_behind xs close (suc wanted) (fitting - 1) d less one

pub wrong_at_close_fitting : (xs : List code_expression.Expression) (close wanted fitting : ℕ) → fitting ≡ max wanted 1 → (length xs ≡ wanted → ⊥)
    → length xs ≤ fitting → Some close ≡ miscalled close (expressions_of xs) wanted
wrong_at_close_fitting [] close wanted fitting is different few = wrong_at_close [] close wanted different (omega arith)
wrong_at_close_fitting (x ∷ xs) close zero fitting is different few = one_where_none_is_wanted (x ∷ xs) close zero refl (omega arith)
wrong_at_close_fitting (x ∷ xs) close (suc wanted) fitting is different few = wrong_at_close (x ∷ xs) close (suc wanted) different (omega arith)
