-- Names among parameters.
use Rattle.std.proofs.Common.{◌≡◌, ℕ, suc, ◌+◌, cond, not, ◌||◌, true, false, List, [], ◌∷◌, length, refl, sym, ap, ◌∙◌, arith}
use Rattle.std.specs.Prelude.{Option, Some, None, option_map, slice_get, is_some}
use Rattle.std.specs.Str.{bytes_eq}
use Rattle.lrc_named_tree.specs.Tree.{Named, Expressions}
use Rattle.lrc_named_names.specs.Names.{Declared, Meaning, constant, shared, lock, function, IsFunction}
use Rattle.lrc_named_constants.specs.declared.constancy.Constancy.{Constancy}
use Rattle.lrc_named_constants.specs.Constant.{Known, bound, known_as, names_of, parameter_of, AreConstancies, no_expression, one_expression}
use Rattle.lrc_named_constants.specs.Well.{Takes, bytes_of, count, is_among}

behind_first : (k : Known) (ks : List Known) (n : ℕ) → slice_get (k ∷ ks) (1 + n) ≡ slice_get ks n
behind_first k ks n = let e : 1 + n ≡ suc n = omega arith in ap (λ i. slice_get (k ∷ ks) i) e

-- a name is known as a parameter just where it is the name of one
pub is_some-known_as : (known : List Known) (name : List ℕ) → is_some (known_as known name) ≡ is_among (names_of known) name
is_some-known_as [] name = refl
is_some-known_as (k ∷ ks) name =
    elim (bytes_eq k.name name)
    as (λ b. is_some (option_map (λ (x : Known). x.constancy) (slice_get (k ∷ ks) (cond (not b) (1 + parameter_of ks name) 0))) ≡ (b || is_among (names_of ks) name)) [
      | true ↦ refl
      | false ↦ ap (λ o. is_some (option_map (λ (x : Known). x.constancy) o)) (behind_first k ks (parameter_of ks name)) ∙ is_some-known_as ks name
    ]

pub unknown_is_among_none : (known : List Known) (name : List ℕ) → known_as known name ≡ None → is_among (names_of known) name ≡ false
unknown_is_among_none known name e = sym (is_some-known_as known name) ∙ ap is_some e

-- parameters with what is known of as many arguments
pub names_of-bound : (ps : List Named) (ws : List Constancy) → length ws ≡ length ps → names_of (bound ps ws) ≡ bytes_of ps
names_of-bound [] ws e = refl
names_of-bound (p ∷ ps) [] e = absurd (omega arith)
names_of-bound (p ∷ ps) (w ∷ ws) e = ap (λ l. p.bytes ∷ l) (names_of-bound ps ws (omega arith))

pub length_of_constancies : {declared : List Declared} {known : List Known} {es : Expressions} {ws : List Constancy}
    → AreConstancies declared known es ws → length ws ≡ count es
length_of_constancies no_expression = refl
length_of_constancies (one_expression {ws = ws} first others) = let h = length_of_constancies others in omega (arith, h)

pub function_takes : (m : Option Meaning) (n : ℕ) → Takes m n → IsFunction m
function_takes None n h = h
function_takes (Some (constant v)) n h = h
function_takes (Some (shared item)) n h = h
function_takes (Some (lock item)) n h = h
function_takes (Some (function ps body)) n h = tt

pub takes_all : (m : Option Meaning) (n : ℕ) (ps : List Named) (body : _) → Takes m n → m ≡ Some (function ps body) → n ≡ length ps
takes_all m n ps body h is = subst_takes n ps body m is h
  where
    subst_takes : (n : ℕ) (ps : List Named) (body : _) (m : Option Meaning) → m ≡ Some (function ps body) → Takes m n → n ≡ length ps
    subst_takes n ps body None is h = absurd h
    subst_takes n ps body (Some (constant v)) is h = absurd h
    subst_takes n ps body (Some (shared item)) is h = absurd h
    subst_takes n ps body (Some (lock item)) is h = absurd h
    subst_takes n ps body (Some (function qs other)) is h = let e : qs ≡ ps = cc in h ∙ ap length e
