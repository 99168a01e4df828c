-- Spots compare equal exactly where they are equal.
use Rattle.std.proofs.Common.{◌≡◌, ◌≢◌, ℕ, Bool, true, false, List, [], ◌∷◌, AllPairs, nat_eq, refl, sym, ◌∙◌, ap, subst}
use Rattle.std.specs.Prelude.{Some, Contains, find, cond, ◌&&◌}
use Rattle.std.specs.List.{IsDistinct, list_any}
use Rattle.std.specs.Bool.{Decides}
use Rattle.std.specs.Cmp.{IsEquivalence}
use Rattle.std.proofs.lemmas.Bool.{true≢false, eq-eqb}
use Rattle.std.proofs.lemmas.Bool.Decides.{same_from_decides}
use Rattle.std.proofs.lemmas.Map.Views.{list_any-from_Contains}
use Rattle.std.proofs.lemmas.Map.Made.{AllPairs-from_IsDistinct}
use lib.Pointwise.{pointwise}
use mathlib.Core.Bool.{beq}
use Rattle.lrc_exec.specs.declared.spot.Spot.{Spot}
use Rattle.lrc_exec.specs.contracts.spot.SpotPartialEq.TheImpl.{eq-value}
use Rattle.lrc_orders.proofs.Same.{spot_same}

both : (a b : Bool) → a ≡ true → b ≡ true → (a && b) ≡ true
both true b p q = q
both false b p q = absurd (true≢false (sym p))

pointwise_self : {A : Type 0} (E : A → A → Bool) → ((a : A) → E a a ≡ true) → (xs : List A) → pointwise E xs xs ≡ true
pointwise_self E self [] = refl
pointwise_self E self (x ∷ xs) = both (E x x) (pointwise E xs xs) (self x) (pointwise_self E self xs)

nat_self : (n : ℕ) → nat_eq n n ≡ true
nat_self n = eq-eqb n n refl

beq_self : (b : Bool) → beq b b ≡ true
beq_self true = refl
beq_self false = refl

spot_self : (s : Spot) → eq-value.it s s ≡ true
spot_self s =
    both (nat_eq s.me s.me) _ (nat_self s.me)
    (both (nat_eq s.place s.place) _ (nat_self s.place)
    (both (pointwise nat_eq s.privates s.privates) _ (pointwise_self nat_eq nat_self s.privates)
    (both (pointwise beq s.held s.held) _ (pointwise_self beq beq_self s.held)
    (both (beq s.arrived s.arrived) (beq s.stopped s.stopped) (beq_self s.arrived) (beq_self s.stopped)))))

decides : (a b : Spot) → Decides (eq-value.it a b) (a ≡ b)
decides a b = (spot_same a b, λ e. subst (λ x. eq-value.it a x ≡ true) e (spot_self a))

equivalence : IsEquivalence (λ (a b : Spot). eq-value.it a b)
equivalence = record {
  refl = spot_self;
  symm = λ x y.
      let other : Decides (eq-value.it y x) (x ≡ y) = (λ e. sym (spot_same y x e), λ e. (decides y x).1 (sym e)) in
      same_from_decides (eq-value.it x y) (eq-value.it y x) (decides x y) other;
  congr = λ x y z e. ap (λ w. eq-value.it w z) (spot_same x y e);
}

-- what no comparison finds is not there
pub not_there : (spot : Spot) (spots : List Spot) → list_any (λ other. eq-value.it spot other) spots ≡ false → Contains spots spot → ⊥
not_there spot spots none there =
    let found = list_any-from_Contains equivalence spot spots there in
    true≢false (sym found ∙ none)

-- what is found passes the test
pub found_passes : {X : Type 0} (p : X → Bool) (xs : List X) (x : X) → find p xs ≡ Some x → p x ≡ true
found_passes p [] x e = let never : ⊥ = cc in absurd never
found_passes p (y ∷ ys) x e =
    (elim (p y) as (λ b. p y ≡ b → cond b (Some y) (find p ys) ≡ Some x → p x ≡ true) [
      | true ↦ λ passes here. let same : y ≡ x = cc in ap p (sym same) ∙ passes
      | false ↦ λ fails past. found_passes p ys x past
    ]) refl e

-- the spots of a set differ
pub spots_differ : (spots : List Spot) → IsDistinct (λ (a b : Spot). eq-value.it a b) spots → AllPairs (λ x y. x ≢ y) spots
spots_differ spots h = AllPairs-from_IsDistinct decides spots h
