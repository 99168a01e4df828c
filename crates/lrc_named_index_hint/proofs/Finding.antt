-- Indices of which one is over its size, or none.
use Rattle.std.proofs.Common.{◌≡◌, ◌<◌, ◌+◌, ◌≤◌, ◌⊎◌, ℕ, zero, suc, List, [], ◌∷◌, ◌++◌, length, take, map, get_or, refl, sym, ap, subst, ◌∙◌, add-one, arith, inl, inr}
use Rattle.std.specs.Prelude.{Option, Some, None, slice_get}
use Rattle.std.proofs.Math.Seq.{take-suc}
use Rattle.lrc_named_tree.specs.Tree.{Expression}
use Rattle.lrc_named_constants.specs.declared.constancy.Constancy.TheVariants.{Value}
use Rattle.lrc_named_constants.specs.Constant.{IsConstancy}
use Rattle.lrc_named_constants.proofs.Unique.{one_constancy, value_alike}
use Rattle.lrc_named_expression_faults.specs.declared.fault.Fault.{Fault}
use Rattle.lrc_named_expression_faults.specs.Expressions.{IsInExpression, IsValueOf}
use Rattle.lrc_named_expression_faults.specs.Fault.{IsNone}
use Rattle.lrc_named_expression_faults.specs.Scope.{Scope, sense_of}
use Rattle.lrc_named_statement_faults.proofs.Growing.{seen_push}
use Rattle.lrc_named_index_hint.specs.declared.over.Beyond.{Beyond}
use Rattle.lrc_named_index_hint.specs.declared.spots.Spot as code_spot
use Rattle.lrc_named_index_hint.specs.Over.{IsFound, IsIndexOver, IsOneOver, IsOver, sizes_of}
use Rattle.lrc_named_index_hint.specs.Spots.{Spot, spot_seen}

-- the same, said in another way
pub found_same : (A B : ℕ → ℕ → Type 0) (found : Option Beyond) → ((v s : ℕ) → A v s → B v s) → ((v s : ℕ) → B v s → A v s) → IsFound A found → IsFound B found
found_same A B None there back h = λ v s b. h v s (back v s b)
found_same A B (Some x) there back h = there x.value x.size h

abbrev pub IsNoneOver : Scope → List Spot → Type 0
IsNoneOver scope spots = (v s : ℕ) → IsOneOver scope spots v s → ⊥

none_more : (scope : Scope) (xs : List Spot) (y : Spot) → IsNoneOver scope xs → ((v s : ℕ) → IsOver scope y v s → ⊥) → IsNoneOver scope (xs ++ y ∷ [])
none_more scope [] y none not v s h = elim h [ inl o ↦ not v s o | inr n ↦ n ]
none_more scope (x ∷ xs) y none not v s h =
    elim h [ inl o ↦ none v s (inl o) | inr n ↦ none_more scope xs y (λ w t k. none w t (inr k)) not v s n ]

pub none_step : (scope : Scope) (xs : List code_spot.Spot) (i : ℕ) (y : code_spot.Spot) → i < length xs → y ≡ get_or xs i y
    → IsNoneOver scope (map spot_seen (take i xs)) → ((v s : ℕ) → IsOver scope (spot_seen y) v s → ⊥) → IsNoneOver scope (map spot_seen (take (i + 1) xs))
none_step scope xs i y lt here none not =
    let cut : take (i + 1) xs ≡ take i xs ++ y ∷ [] = rw add-one (take-suc xs i y lt ∙ ap (λ z. take i xs ++ z ∷ []) (sym here)) in
    subst (IsNoneOver scope) (sym (seen_push spot_seen (take i xs) (take (i + 1) xs) y cut))
    (none_more scope (map spot_seen (take i xs)) (spot_seen y) none not)

pub one_here : (scope : Scope) (xs : List code_spot.Spot) (i : ℕ) (y : code_spot.Spot) (v s : ℕ) → i < length xs → y ≡ get_or xs i y
    → IsOver scope (spot_seen y) v s → IsOneOver scope (map spot_seen xs) v s
one_here scope [] i y v s lt here is = absurd (omega arith)
one_here scope (x ∷ xs) zero y v s lt here is = inl (subst (λ z. IsOver scope (spot_seen z) v s) here is)
one_here scope (x ∷ xs) (suc i) y v s lt here is = inr (one_here scope xs i y v s (omega arith) here is)

-- an index and its size
some_same : {m n : ℕ} → Some m ≡ Some n → m ≡ n
some_same e = cc

pub over_as : (scope : Scope) (spot : Spot) (size : ℕ) (found : Option Beyond) → slice_get (sizes_of (sense_of scope spot.name.bytes)) spot.number ≡ Some size
    → IsFound (λ v own. (own ≡ size) × IsIndexOver scope spot.index v own) found → IsFound (λ v s. IsOver scope spot v s) found
over_as scope spot size found sized h =
    found_same (λ v own. (own ≡ size) × IsIndexOver scope spot.index v own) (λ v s. IsOver scope spot v s) found
    (λ v s k. (sized ∙ ap Some (sym k.0), k.1)) (λ v s o. (some_same (sym o.0 ∙ sized), o.1)) h

pub not_over : (scope : Scope) (spot : Spot) → slice_get (sizes_of (sense_of scope spot.name.bytes)) spot.number ≡ None → IsFound (λ v s. IsOver scope spot v s) None
not_over scope spot none = λ v s o. let one = o.0 in absurd (cc)

-- a value that is not below a size, or is
pub value_as : (scope : Scope) (e : Expression) (size value : ℕ) (found : Option Beyond) → IsNone (λ f. IsInExpression scope e f)
    → IsConstancy scope.declared scope.known e (Value value) → IsFound (λ v own. (v ≡ value) × (own ≡ size) × (size ≤ value)) found
    → IsFound (λ v own. (own ≡ size) × IsIndexOver scope e v own) found
value_as scope e size value found clean is h =
    found_same (λ v own. (v ≡ value) × (own ≡ size) × (size ≤ value)) (λ v own. (own ≡ size) × IsIndexOver scope e v own) found
    (λ v s k.
    let a = k.0 in
    let b = k.1 in
    let c = k.2 in
    (k.1, record { clean = clean; is = subst (λ n. IsConstancy scope.declared scope.known e (Value n)) (sym k.0) is; over = omega (arith, a, b, c) }))
    (λ v s k.
    let a : v ≡ value = value_alike (one_constancy k.1.is is) in
    let b = k.0 in
    let c = k.1.over in
    (a, k.0, omega (arith, a, b, c)))
    h

pub no_value_over : (scope : Scope) (e : Expression) (size : ℕ) → IsValueOf scope e None → IsFound (λ v own. (own ≡ size) × IsIndexOver scope e v own) None
no_value_over scope e size none = λ v s k. none v k.1.is

pub faulty_over : (scope : Scope) (e : Expression) (size : ℕ) (fault : Fault) → IsInExpression scope e fault
    → IsFound (λ v own. (own ≡ size) × IsIndexOver scope e v own) None
faulty_over scope e size fault has = λ v s k. k.1.clean fault has

-- where the first is so of nothing, what the second is so of
pub either_found : (A B : ℕ → ℕ → Type 0) (found : Option Beyond) → IsFound A None → IsFound B found → IsFound (λ v s. A v s ⊎ B v s) found
either_found A B None not h = λ v s e. elim e [ inl a ↦ not v s a | inr b ↦ h v s b ]
either_found A B (Some x) not h = inr h
