-- The first of faults.
use Rattle.std.specs.Prelude.{Result, Ok, Err, IfOk}
use Rattle.std.proofs.Common.{◌≡◌, ◌≤◌, ◌⊎◌, inl, inr, ℕ, Bool, true, false, Option, Some, None, if◌then◌else◌, ◌==◌, ◌&&◌, ◌||◌, nat_lt, refl, sym, subst, arith}
use Rattle.std.proofs.lemmas.Bool.Decides.{nat_tests}
use Rattle.lrc_named_expression_faults.specs.declared.fault.Fault.{Fault}
use Rattle.lrc_named_expression_faults.specs.Fault.{ComesFirst, IsFirstOf, IsNone, earlier, precedes, rank_of}

by_numbers : (a b r s : ℕ) → (nat_lt a b || ((a == b) && nat_lt r s)) ≡ true → (a ≤ b) × (b ≤ a → r ≤ s)
by_numbers a b r s e = (grind (arith, nat_tests), λ h. grind (arith, nat_tests))

by_numbers_not : (a b r s : ℕ) → (nat_lt a b || ((a == b) && nat_lt r s)) ≡ false → (b ≤ a) × (a ≤ b → s ≤ r)
by_numbers_not a b r s e = (grind (arith, nat_tests), λ h. grind (arith, nat_tests))

pub comes_first : (f g : Fault) → precedes f g ≡ true → ComesFirst f g
comes_first f g e = let h = by_numbers f.at g.at (rank_of f.kind) (rank_of g.kind) e in record { place = h.0; rank = h.1 }

pub comes_first_not : (f g : Fault) → precedes f g ≡ false → ComesFirst g f
comes_first_not f g e = let h = by_numbers_not f.at g.at (rank_of f.kind) (rank_of g.kind) e in record { place = h.0; rank = h.1 }

pub first_same : (f : Fault) → ComesFirst f f
first_same f = record { place = omega arith; rank = λ h. omega arith }

pub first_through : (f g h : Fault) → ComesFirst f g → ComesFirst g h → ComesFirst f h
first_through f g h one two =
    let a = one.place in
    let b = two.place in
    record {
      place = omega arith;
      rank = λ back. let r = one.rank (omega arith) in let s = two.rank (omega arith) in omega arith;
    }

-- no fault, one fault, and one fault where something is so
pub nothing_first : IsFirstOf (λ f. ⊥) None
nothing_first = λ f h. h

pub one_first : (x : Fault) → IsFirstOf (λ f. f ≡ x) (Some x)
one_first x = (refl, λ g e. subst (λ y. ComesFirst x y) (sym e) (first_same x))

pub when_so : (P : Type 0) (x : Fault) → P → IsFirstOf (λ f. P × (f ≡ x)) (Some x)
when_so P x p = ((p, refl), λ g h. subst (λ y. ComesFirst x y) (sym h.1) (first_same x))

pub when_not : (P : Type 0) (x : Fault) → (P → ⊥) → IsFirstOf (λ f. P × (f ≡ x)) None
when_not P x not = λ g h. not h.0

-- the same faults, said in another way
pub same_first : (A B : Fault → Type 0) (x : Option Fault) → ((f : Fault) → A f → B f) → ((f : Fault) → B f → A f) → IsFirstOf A x → IsFirstOf B x
same_first A B None there back h = λ f b. h f (back f b)
same_first A B (Some x) there back h = (there x h.0, λ f b. h.1 f (back f b))

chosen : (A B : Fault → Type 0) (f g : Fault) (b : Bool) → precedes g f ≡ b → IsFirstOf A (Some f) → IsFirstOf B (Some g)
    → IsFirstOf (λ x. A x ⊎ B x) (if b then Some g else Some f)
chosen A B f g true e one two =
    (inr two.0, λ k h. elim h [ inl a ↦ first_through g f k (comes_first g f e) (one.1 k a) | inr b ↦ two.1 k b ])
chosen A B f g false e one two =
    (inl one.0, λ k h. elim h [ inl a ↦ one.1 k a | inr b ↦ first_through f g k (comes_first_not g f e) (two.1 k b) ])

-- the first of two kinds of faults
pub earlier_first : (A B : Fault → Type 0) (x y : Option Fault) → IsFirstOf A x → IsFirstOf B y → IsFirstOf (λ f. A f ⊎ B f) (earlier x y)
earlier_first A B None None one two = λ f h. elim h [ inl a ↦ one f a | inr b ↦ two f b ]
earlier_first A B None (Some g) one two = (inr two.0, λ k h. elim h [ inl a ↦ absurd (one k a) | inr b ↦ two.1 k b ])
earlier_first A B (Some f) None one two = (inl one.0, λ k h. elim h [ inl a ↦ one.1 k a | inr b ↦ absurd (two k b) ])
earlier_first A B (Some f) (Some g) one two = chosen A B f g (precedes g f) refl one two

pub joined : (A B : Fault → Type 0) (one other found : Option Fault) → found ≡ earlier one other → IsFirstOf A one → IsFirstOf B other → IsFirstOf (λ f. A f ⊎ B f) found
joined A B one other found is a b = subst (λ r. IsFirstOf (λ f. A f ⊎ B f) r) (sym is) (earlier_first A B one other a b)

-- where there is none, nothing is first
pub none_found : (A : Fault → Type 0) (x : Option Fault) → x ≡ None → IsFirstOf A x → IsNone A
none_found A x e h = subst (λ y. IsFirstOf A y) e h

-- a fault, told as it is defined
pub told_as : (x y : Fault) → x ≡ y → IsFirstOf (λ f. f ≡ y) (Some x)
told_as x y e = subst (λ z. IsFirstOf (λ f. f ≡ y) (Some z)) (sym e) (one_first y)

-- a fault that is told just where a test holds
pub only_if_first : (b : Bool) (x y : Fault) (found : Option Fault) → found ≡ (if b then Some x else None) → x ≡ y
    → IsFirstOf (λ f. (b ≡ true) × (f ≡ y)) found
only_if_first true x y found is e =
    subst (λ r. IsFirstOf (λ f. (true ≡ true) × (f ≡ y)) r) (sym is) (subst (λ z. IsFirstOf (λ f. (true ≡ true) × (f ≡ y)) (Some z)) (sym e) (when_so (true ≡ true) y refl))
only_if_first false x y found is e =
    subst (λ r. IsFirstOf (λ f. (false ≡ true) × (f ≡ y)) r) (sym is) (when_not (false ≡ true) y (λ h. absurd (cc)))

-- the same, where the test holds just where something is so
pub where_first : (P : Type 0) (b : Bool) (x y : Fault) (found : Option Fault) → (b ≡ true → P) → (P → b ≡ true) → found ≡ (if b then Some x else None)
    → x ≡ y → IsFirstOf (λ f. P × (f ≡ y)) found
where_first P b x y found there back is e =
    same_first (λ f. (b ≡ true) × (f ≡ y)) (λ f. P × (f ≡ y)) found (λ f h. (there h.0, h.1)) (λ f h. (back h.0, h.1)) (only_if_first b x y found is e)

-- what is so of a result that went well
pub if_ok : {A E : Type 0} (P Q : A → Type 0) (r : Result A E) → ((x : A) → P x → Q x) → IfOk r P → IfOk r Q
if_ok P Q (Ok x) f h = f x h
if_ok P Q (Err e) f h = tt
