-- Lists in order that have the same elements are one.
use Rattle.std.proofs.Common.{◌≡◌, ◌↔◌, zero, suc, List, [], ◌∷◌, inl, inr, sym, subst, refl, ◌∙◌, ap₂, ◌⊎◌, arith}
use Rattle.std.specs.Prelude.{AllPairs, Contains}
use Rattle.lrc_races_trace.specs.declared.event.Event.{Event}
use Rattle.lrc_races_trace.specs.declared.event.Pair.{Pair}
use Rattle.lrc_races_trace.specs.Races.{ComesFirst, AreTold}
use Rattle.lrc_races_sure.specs.Sure.{AreSureTold}
use Rattle.lrc_races_text.specs.declared.asked.Sought.{Sought}
use Rattle.lrc_races_text.specs.declared.asked.Sought.TheVariants.{AllRaces, SureRaces}
use Rattle.lrc_races_text.specs.Sought.{AreSought}

module _ {X : Type 0} where
  pub first_or : (y x : X) (xs : List X) → Contains (y ∷ xs) x → (y ≡ x) ⊎ Contains xs x
  first_or y x xs (zero, lt, is) = inl is
  first_or y x xs (suc k, lt, is) = inr (k, omega arith, is)

  pub later : (y x : X) (xs : List X) → Contains xs x → Contains (y ∷ xs) x
  later y x xs (k, lt, is) = (suc k, omega arith, is)

  pub first : (x : X) (xs : List X) → Contains (x ∷ xs) x
  first x xs = (zero, omega arith, refl)

  pub none_in : (x : X) → Contains [] x → ⊥
  none_in x (k, lt, is) = absurd (omega arith)

  module _ (R : X → X → Type 0) where
    rest_in_order : (x : X) (xs : List X) → AllPairs R (x ∷ xs) → AllPairs R xs
    rest_in_order x xs all i j d lt within = all (suc i) (suc j) d (omega arith) (omega arith)

    first_before : (x y : X) (xs : List X) → AllPairs R (x ∷ xs) → Contains xs y → R x y
    first_before x y xs all (k, lt, is) = subst (λ z. R x z) is (all zero (suc k) y (omega arith) (omega arith))

    pub in_order_one : ((x y : X) → R x y → R y x → ⊥) → (xs ys : List X) → AllPairs R xs → AllPairs R ys
        → ((x : X) → Contains xs x ↔ Contains ys x) → xs ≡ ys
    in_order_one apart [] [] a b same = refl
    in_order_one apart [] (y ∷ ys) a b same = absurd (none_in y ((same y).1 (first y ys)))
    in_order_one apart (x ∷ xs) [] a b same = absurd (none_in x ((same x).0 (first x xs)))
    in_order_one apart (x ∷ xs) (y ∷ ys) a b same =
        let heads : x ≡ y = elim (first_or y x ys ((same x).0 (first x xs))) [
          | inl is ↦ sym is
          | inr in_ys ↦ elim (first_or x y xs ((same y).1 (first y ys))) [
            | inl is ↦ is
            | inr in_xs ↦ absurd (apart x y (first_before x y xs a in_xs) (first_before y x ys b in_ys))
          ]
        ] in
        ap₂ (λ (z : X) (zs : List X). z ∷ zs) heads (in_order_one apart xs ys (rest_in_order x xs a) (rest_in_order y ys b) (λ z. (
          λ h. elim (first_or y z ys ((same z).0 (later x z xs h))) [
            | inl is ↦ absurd (twice x xs a (subst (λ w. Contains xs w) (sym is ∙ sym heads) h))
            | inr in_ys ↦ in_ys
          ],
          λ h. elim (first_or x z xs ((same z).1 (later y z ys h))) [
            | inl is ↦ absurd (twice y ys b (subst (λ w. Contains ys w) (sym is ∙ heads) h))
            | inr in_xs ↦ in_xs
          ],
        )))
      where
        twice : (w : X) (ws : List X) → AllPairs R (w ∷ ws) → Contains ws w → ⊥
        twice w ws all h = apart w w (first_before w w ws all h) (first_before w w ws all h)

-- ---- the pairs that are told

told_apart : (p q : Pair) → ComesFirst p q → ComesFirst q p → ⊥
told_apart p q (inl a) (inl b) = omega arith
told_apart p q (inl a) (inr b) = omega arith
told_apart p q (inr a) (inl b) = omega arith
told_apart p q (inr a) (inr b) = omega arith

in_order_same : (one other : List Pair) → AllPairs ComesFirst one → AllPairs ComesFirst other → ((p : Pair) → Contains one p ↔ Contains other p)
    → one ≡ other
in_order_same one other a b same = in_order_one ComesFirst told_apart one other a b same

pub one_told : (events : List Event) (one other : List Pair) → AreTold events one → AreTold events other → one ≡ other
one_told events one other a b =
    in_order_same one other a.in_order b.in_order (λ p. (
      λ h. (b.exact p).1 ((a.exact p).0 h),
      λ h. (a.exact p).1 ((b.exact p).0 h),
    ))

pub one_sure_told : (events : List Event) (one other : List Pair) → AreSureTold events one → AreSureTold events other → one ≡ other
one_sure_told events one other a b =
    in_order_same one other a.in_order b.in_order (λ p. (
      λ h. (b.exact p).1 ((a.exact p).0 h),
      λ h. (a.exact p).1 ((b.exact p).0 h),
    ))

-- so are those of the races that are asked for
pub one_sought : (sought : Sought) (events : List Event) (one other : List Pair) → AreSought sought events one → AreSought sought events other
    → one ≡ other
one_sought AllRaces events one other a b = one_told events one other a b
one_sought SureRaces events one other a b = one_sure_told events one other a b
