-- One thing is known of an expression.
use Rattle.std.proofs.Common.{◌≡◌, ℕ, List, ◌∷◌, refl, sym, ap, subst, ◌∙◌}
use Rattle.std.specs.Prelude.{Option, Some}
use Rattle.lrc_named_tree.specs.Tree.{Named, Expression, Expressions}
use Rattle.lrc_named_names.specs.Names.{Declared, Meaning, meaning_of}
use Rattle.lrc_named_constants.specs.declared.constancy.Constancy.{Constancy}
use Rattle.lrc_named_constants.specs.declared.constancy.Constancy.TheVariants.{Value}
use Rattle.lrc_named_constants.specs.Combine.{joined, negated, both_of, either_of, called}
use Rattle.lrc_named_constants.specs.Constant.{Known, bound, IsConstancy, a_number, me, nodes, a_parameter, a_private_name, a_constant, a_shared_item}
use Rattle.lrc_named_constants.specs.Constant.{a_call, parentheses, a_negation, a_binary, both, either, AreConstancies, no_expression, one_expression}
use Rattle.lrc_named_constants.specs.Layout.{HaveSizes, no_size, one_size}

same_parameters : (m : Option Meaning) (ps qs : List Named) (one other : Expression) → m ≡ Some (Meaning.function ps one) → m ≡ Some (Meaning.function qs other) → qs ≡ ps
same_parameters m ps qs one other e f = cc

same_body : (m : Option Meaning) (ps qs : List Named) (one other : Expression) → m ≡ Some (Meaning.function ps one) → m ≡ Some (Meaning.function qs other) → other ≡ one
same_body m ps qs one other e f = cc

mutual
  pub one_constancy : {declared : List Declared} {known : List Known} {e : Expression} {v w : Constancy}
      → IsConstancy declared known e v → IsConstancy declared known e w → v ≡ w
  one_constancy a_number a_number = refl
  one_constancy me me = refl
  one_constancy nodes nodes = refl
  one_constancy (a_parameter e) (a_parameter f) = cc
  one_constancy (a_parameter e) (a_private_name f g) = cc
  one_constancy (a_parameter e) (a_constant f g) = cc
  one_constancy (a_parameter e) (a_shared_item f g) = cc
  one_constancy (a_private_name e h) (a_parameter f) = cc
  one_constancy (a_private_name e h) (a_private_name f g) = refl
  one_constancy (a_private_name e h) (a_constant f g) = cc
  one_constancy (a_private_name e h) (a_shared_item f g) = refl
  one_constancy (a_constant e h) (a_parameter f) = cc
  one_constancy (a_constant e h) (a_private_name f g) = cc
  one_constancy (a_constant e h) (a_constant f g) = cc
  one_constancy (a_constant e h) (a_shared_item f g) = cc
  one_constancy (a_shared_item e h) (a_parameter f) = cc
  one_constancy (a_shared_item e h) (a_private_name f g) = refl
  one_constancy (a_shared_item e h) (a_constant f g) = cc
  one_constancy (a_shared_item e h) (a_shared_item f g) = refl
  one_constancy {declared = d} (a_call {named = named} {parameters = ps} {body = one} {ws = vs} {w = v} e arguments inside)
      (a_call {parameters = qs} {body = other} {ws = ws} {w = w} f others body) =
      let p : qs ≡ ps = same_parameters (meaning_of d named.bytes) ps qs one other e f in
      let b : other ≡ one = same_body (meaning_of d named.bytes) ps qs one other e f in
      let l : ws ≡ vs = sym (constancies_alike arguments others) in
      let k : bound qs ws ≡ bound ps vs = ap (λ z. bound z ws) p ∙ ap (λ z. bound ps z) l in
      let same : IsConstancy d (bound ps vs) other w = subst (λ z. IsConstancy d z other w) k body in
      let whole : IsConstancy d (bound ps vs) one w = subst (λ z. IsConstancy d (bound ps vs) z w) b same in
      let last : v ≡ w = one_constancy inside whole in
      ap (λ z. called z v) (sym l) ∙ ap (λ z. called ws z) last
  one_constancy (parentheses e) (parentheses f) = one_constancy e f
  one_constancy (a_negation e) (a_negation f) = ap negated (one_constancy e f)
  one_constancy (a_binary {o = o} {wl = x} {wr = y} l r) (a_binary {wl = z} {wr = u} m s) =
      ap (λ w. joined o w y) (one_constancy l m) ∙ ap (λ w. joined o z w) (one_constancy r s)
  one_constancy (both {wl = x} {wr = y} l r) (both {wl = z} {wr = u} m s) =
      ap (λ w. both_of w y) (one_constancy l m) ∙ ap (λ w. both_of z w) (one_constancy r s)
  one_constancy (either {wl = x} {wr = y} l r) (either {wl = z} {wr = u} m s) =
      ap (λ w. either_of w y) (one_constancy l m) ∙ ap (λ w. either_of z w) (one_constancy r s)

  constancies_alike : {declared : List Declared} {known : List Known} {es : Expressions} {vs ws : List Constancy}
      → AreConstancies declared known es vs → AreConstancies declared known es ws → vs ≡ ws
  constancies_alike no_expression no_expression = refl
  constancies_alike (one_expression {w = v} {ws = vs} x xs) (one_expression {w = w} {ws = ws} y ys) =
      ap (λ z. z ∷ vs) (one_constancy x y) ∙ ap (λ l. w ∷ l) (constancies_alike xs ys)

pub value_alike : {v w : ℕ} → Value v ≡ Value w → v ≡ w
value_alike e = cc

pub one_list_of_sizes : {declared : List Declared} {es : Expressions} {ms ns : List ℕ} → HaveSizes declared es ms → HaveSizes declared es ns → ms ≡ ns
one_list_of_sizes no_size no_size = refl
one_list_of_sizes (one_size {size = m} {sizes = ms} x xs) (one_size {size = n} {sizes = ns} y ys) =
    ap (λ z. z ∷ ms) (value_alike (one_constancy x y)) ∙ ap (λ l. n ∷ l) (one_list_of_sizes xs ys)
