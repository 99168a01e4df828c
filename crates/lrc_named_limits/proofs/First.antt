-- The first of what is over a limit.
use Rattle.std.proofs.Common.{◌≡◌, ◌≤◌, ◌⊎◌, inl, inr, ℕ, Bool, true, false, Option, Some, None, if◌then◌else◌, ◌==◌, ◌&&◌, ◌||◌, nat_lt, refl, sym, subst, arith}
use Rattle.std.proofs.lemmas.Bool.Decides.{nat_tests}
use Rattle.lrc_named_limits.specs.declared.excess.Excess.{Excess}
use Rattle.lrc_named_limits.specs.declared.excess.Limit.{Limit}
use Rattle.lrc_named_limits.specs.Earlier.{earlier, precedes}
use Rattle.lrc_named_limits.specs.Limits.{ComesFirst, IsFirstOf, rank_of}

by_numbers : (a b r s : ℕ) → (nat_lt a b || ((a == b) && nat_lt r s)) ≡ true → (a ≤ b) × (b ≤ a → r ≤ s)
by_numbers a b r s e = (grind (arith, nat_tests), λ h. grind (arith, nat_tests))

by_numbers_not : (a b r s : ℕ) → (nat_lt a b || ((a == b) && nat_lt r s)) ≡ false → (b ≤ a) × (a ≤ b → s ≤ r)
by_numbers_not a b r s e = (grind (arith, nat_tests), λ h. grind (arith, nat_tests))

comes_first : (f g : Excess) → precedes f g ≡ true → ComesFirst f g
comes_first f g e = let h = by_numbers f.at g.at (rank_of f.limit) (rank_of g.limit) e in record { place = h.0; rank = h.1 }

comes_first_not : (f g : Excess) → precedes f g ≡ false → ComesFirst g f
comes_first_not f g e = let h = by_numbers_not f.at g.at (rank_of f.limit) (rank_of g.limit) e in record { place = h.0; rank = h.1 }

first_through : (f g h : Excess) → ComesFirst f g → ComesFirst g h → ComesFirst f h
first_through f g h one two =
    let a = one.place in
    let b = two.place in
    record {
      place = omega arith;
      rank = λ back. let r = one.rank (omega arith) in let s = two.rank (omega arith) in omega arith;
    }

-- the same, said in another way
pub same_first : (A B : Excess → Type 0) (x : Option Excess) → ((f : Excess) → A f → B f) → ((f : Excess) → B f → A f) → IsFirstOf A x → IsFirstOf B x
same_first A B None there back h = λ f b. h f (back f b)
same_first A B (Some x) there back h = (there x h.0, λ f b. h.1 f (back f b))

chosen : (A B : Excess → Type 0) (f g : Excess) (b : Bool) → precedes g f ≡ b → IsFirstOf A (Some f) → IsFirstOf B (Some g)
    → IsFirstOf (λ x. A x ⊎ B x) (if b then Some g else Some f)
chosen A B f g true e one two =
    (inr two.0, λ k h. elim h [ inl a ↦ first_through g f k (comes_first g f e) (one.1 k a) | inr b ↦ two.1 k b ])
chosen A B f g false e one two =
    (inl one.0, λ k h. elim h [ inl a ↦ one.1 k a | inr b ↦ first_through f g k (comes_first_not g f e) (two.1 k b) ])

-- the first of two kinds
earlier_first : (A B : Excess → Type 0) (x y : Option Excess) → IsFirstOf A x → IsFirstOf B y → IsFirstOf (λ f. A f ⊎ B f) (earlier x y)
earlier_first A B None None one two = λ f h. elim h [ inl a ↦ one f a | inr b ↦ two f b ]
earlier_first A B None (Some g) one two = (inr two.0, λ k h. elim h [ inl a ↦ absurd (one k a) | inr b ↦ two.1 k b ])
earlier_first A B (Some f) None one two = (inl one.0, λ k h. elim h [ inl a ↦ one.1 k a | inr b ↦ absurd (two k b) ])
earlier_first A B (Some f) (Some g) one two = chosen A B f g (precedes g f) refl one two

pub joined : (A B : Excess → Type 0) (one other found : Option Excess) → found ≡ earlier one other → IsFirstOf A one → IsFirstOf B other → IsFirstOf (λ f. A f ⊎ B f) found
joined A B one other found is a b = subst (λ r. IsFirstOf (λ f. A f ⊎ B f) r) (sym is) (earlier_first A B one other a b)

-- two kinds of one statement
pub joined_at : (at : ℕ) (A B : Limit → Type 0) (one other found : Option Excess) → found ≡ earlier one other → IsFirstOf (λ x. (x.at ≡ at) × A x.limit) one
    → IsFirstOf (λ x. (x.at ≡ at) × B x.limit) other → IsFirstOf (λ x. (x.at ≡ at) × (A x.limit ⊎ B x.limit)) found
joined_at at A B one other found is a b =
    same_first (λ x. ((x.at ≡ at) × A x.limit) ⊎ ((x.at ≡ at) × B x.limit)) (λ x. (x.at ≡ at) × (A x.limit ⊎ B x.limit)) found
    (λ x h. elim h [ inl p ↦ (p.0, inl p.1) | inr q ↦ (q.0, inr q.1) ])
    (λ x h. elim h.1 [ inl p ↦ inl (h.0, p) | inr q ↦ inr (h.0, q) ])
    (joined (λ x. (x.at ≡ at) × A x.limit) (λ x. (x.at ≡ at) × B x.limit) one other found is a b)

pub nothing_first : IsFirstOf (λ x. ⊥) None
nothing_first = λ x h. h
