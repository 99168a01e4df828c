-- Ranks, and changes of a word that come one after another.
use Rattle.std.proofs.Common.{◌≡◌, ℕ, ◌<◌, ◌&&◌, ◌||◌, ◌⊎◌, Bool, true, false, inl, inr, refl, sym, ap, ◌∙◌, arith}
use Rattle.std.specs.Prelude.{◌==◌, Option, Some, None, nat_lt}
use Rattle.std.proofs.lemmas.Bool.{cases_Bool, ltb-true, lt-ltb, eqb-true, eq-eqb, and_parts, and_from, both_ways, or_left, or_right, false_from_ne_true}
use Rattle.lrc_exact.specs.Memory.{Rank, Word, is_lower, replaces}
use Rattle.lrc_exact_known.specs.Learned.{TakesHighest, unchanged, taken}

-- ---- ranks

-- ranks are ordered by weight, and then by node
abbrev IsLower : Rank → Rank → Type 0
IsLower a b = (a.weight < b.weight) ⊎ ((a.weight ≡ b.weight) × (a.node < b.node))

lower-from : (a b : Rank) → is_lower a b ≡ true → IsLower a b
lower-from a b e =
    elim (cases_Bool (nat_lt a.weight b.weight)) [
      | inl less ↦ inl (ltb-true a.weight b.weight less)
      | inr not ↦
          elim (cases_Bool (a.weight == b.weight && nat_lt a.node b.node)) [
            | inl both ↦
                let parts = and_parts (a.weight == b.weight) (nat_lt a.node b.node) both in
                inr (eqb-true a.weight b.weight parts.0, ltb-true a.node b.node parts.1)
            | inr none ↦
                absurd (both_ways (is_lower a b) (neither (nat_lt a.weight b.weight) (a.weight == b.weight && nat_lt a.node b.node) not none) e)
          ]
    ]
  where
    neither : (x y : Bool) → x ≡ false → y ≡ false → (x || y) ≡ false
    neither true y p q = p
    neither false y p q = q

lower-to : (a b : Rank) → IsLower a b → is_lower a b ≡ true
lower-to a b (inl less) = or_left (nat_lt a.weight b.weight) (a.weight == b.weight && nat_lt a.node b.node) (lt-ltb a.weight b.weight less)
lower-to a b (inr (same, less)) =
    or_right (nat_lt a.weight b.weight) (a.weight == b.weight && nat_lt a.node b.node)
    (and_from (a.weight == b.weight) (nat_lt a.node b.node) (eq-eqb a.weight b.weight same) (lt-ltb a.node b.node less))

transitive-parts : (a b c : Rank) → IsLower a b → IsLower b c → IsLower a c
transitive-parts a b c (inl x) (inl y) = inl (omega arith)
transitive-parts a b c (inl x) (inr (e, y)) = inl (omega arith)
transitive-parts a b c (inr (e, x)) (inl y) = inl (omega arith)
transitive-parts a b c (inr (e, x)) (inr (e', y)) = inr (e ∙ e', omega arith)

lower-transitive : (a b c : Rank) → is_lower a b ≡ true → is_lower b c ≡ true → is_lower a c ≡ true
lower-transitive a b c x y = lower-to a c (transitive-parts a b c (lower-from a b x) (lower-from b c y))

-- a rank above one that takes the place of a mark does so too
replaces-above : (a b : Rank) (mark : Option Rank) → is_lower a b ≡ true → replaces a mark ≡ true → replaces b mark ≡ true
replaces-above a b None less e = refl
replaces-above a b (Some m) less e = lower-transitive m a b e less

-- ---- changes that come one after another

-- one of two lots of changes has it
abbrev pub Either : (Rank → ℕ → Type 0) → (Rank → ℕ → Type 0) → Rank → ℕ → Type 0
Either A B r v = A r v ⊎ B r v

-- the same changes by other words
pub by_other_words : (A B : Rank → ℕ → Type 0) (now after : Word) → ((r : Rank) (v : ℕ) → A r v → B r v) → ((r : Rank) (v : ℕ) → B r v → A r v)
    → TakesHighest A now after → TakesHighest B now after
by_other_words A B now after to from (unchanged is none) = unchanged is (λ r v b. none r v (from r v b))
by_other_words A B now after to from (taken rank value change above is least) =
    taken rank value (to rank value change) above is (λ r v b. least r v (from r v b))

-- two lots of changes, one after the other
pub one_after_other : (A B : Rank → ℕ → Type 0) (now mid after : Word) → TakesHighest A now mid → TakesHighest B mid after
    → TakesHighest (Either A B) now after
one_after_other A B now mid after (unchanged is none) (unchanged is' none') =
    unchanged (is' ∙ is) (λ r v x. elim x [ inl a ↦ none r v a | inr b ↦ ap (λ (w : Word). replaces r w.mark) (sym is) ∙ none' r v b ])
one_after_other A B now mid after (unchanged is none) (taken rank value change above is' least) =
    let here : replaces rank now.mark ≡ true = ap (λ (w : Word). replaces rank w.mark) (sym is) ∙ above in
    taken rank value (inr change) here is' (λ r v x.
    elim x [
      | inl a ↦
          false_from_ne_true (is_lower rank r) (λ less. both_ways (replaces r now.mark) (none r v a) (replaces-above rank r now.mark less here))
      | inr b ↦ least r v b
    ])
one_after_other A B now mid after (taken rank value change above is least) (unchanged is' none') =
    taken rank value (inl change) above (is' ∙ is) (λ r v x.
    elim x [ inl a ↦ least r v a | inr b ↦ ap (λ (w : Word). replaces r w.mark) (sym is) ∙ none' r v b ])
one_after_other A B now mid after (taken rank value change above is least) (taken rank' value' change' above' is' least') =
    let more : is_lower rank rank' ≡ true = ap (λ (w : Word). replaces rank' w.mark) (sym is) ∙ above' in
    taken rank' value' (inr change') (replaces-above rank rank' now.mark more above) is' (λ r v x.
    elim x [
      | inl a ↦
          false_from_ne_true (is_lower rank' r) (λ less. both_ways (is_lower rank r) (least r v a) (lower-transitive rank rank' r more less))
      | inr b ↦ least' r v b
    ])
