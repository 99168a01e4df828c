-- What a parameter stands for.
use Rattle.std.proofs.Common.{◌≡◌, ℕ, zero, suc, ◌<◌, ◌≤◌, List, [], ◌∷◌, map, length, refl, sym, ap, arith, ◌∙◌}
use Rattle.std.specs.Prelude.{Some, None, option_map, slice_get}
use Rattle.lrc_named_tree.specs.Tree.{Named, Expressions}
use Rattle.lrc_named_tree.specs.Tree as tree
use Rattle.lrc_named_names.specs.Names.{Declared}
use Rattle.lrc_named_constants.specs.declared.constancy.Constancy.{Constancy}
use Rattle.lrc_named_constants.specs.declared.constancy.Known as code_known
use Rattle.lrc_named_constants.specs.Constant.{Known, known_as, parameter_of}
use Rattle.lrc_named_constants.specs.View.{known_of}
use Rattle.lrc_named_core.specs.declared.tree.Expression as code_core
use Rattle.lrc_named_core.specs.declared.tree.Statement.{Statement}
use Rattle.lrc_named_core.specs.View.{expression_of}
use Rattle.lrc_named_core.specs.Tree.{Expression, Origin}
use Rattle.lrc_named_translation.specs.Added.{IsAdded}
use Rattle.lrc_named_translation.specs.Made.{IsByRule, a_parameter}
use Rattle.lrc_named_translation.proofs.Rules.{rule_alone}

known_some : (xs : List code_known.Known) (i : ℕ) → i < length xs
    → (w : Constancy) × (option_map (λ (k : Known). k.constancy) (slice_get (map known_of xs) i) ≡ Some w)
known_some [] i lt = absurd (omega arith)
known_some (x ∷ xs) zero lt = (x.constancy, refl)
known_some (x ∷ xs) (suc i) lt = known_some xs i (omega arith)

known_none : (xs : List code_known.Known) (i : ℕ) → length xs ≤ i
    → option_map (λ (k : Known). k.constancy) (slice_get (map known_of xs) i) ≡ None
known_none [] zero le = refl
known_none [] (suc i) le = refl
known_none (x ∷ xs) zero le = absurd (omega arith)
known_none (x ∷ xs) (suc i) le = known_none xs i (omega arith)

pub rule_parameter : (declared : List Declared) (at : Origin) (known : List code_known.Known) (cores : List code_core.Expression) (name : Named)
    (indices : Expressions) (last taken place : ℕ) (p : Expression) (old : List Statement)
    → place ≡ parameter_of (map known_of known) name.bytes → place < length known
    → slice_get (map expression_of cores) place ≡ Some p
    → IsAdded (λ b. IsByRule declared at (map known_of known) (map expression_of cores) (tree.element name indices last) taken b p taken) old old
rule_parameter declared at known cores name indices last taken place p old is lt same =
    let h = known_some known place lt in
    rule_alone declared at (map known_of known) (map expression_of cores) (tree.element name indices last) taken p old
    (a_parameter (ap (λ i. option_map (λ (k : Known). k.constancy) (slice_get (map known_of known) i)) (sym is) ∙ h.1)
    (ap (λ i. slice_get (map expression_of cores) i) (sym is) ∙ same))

pub no_parameter : (known : List code_known.Known) (name : List ℕ) (place : ℕ)
    → place ≡ parameter_of (map known_of known) name → length known ≤ place → known_as (map known_of known) name ≡ None
no_parameter known name place is le =
    ap (λ i. option_map (λ (k : Known). k.constancy) (slice_get (map known_of known) i)) (sym is) ∙ known_none known place le
