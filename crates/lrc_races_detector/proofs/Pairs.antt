-- Lists in order, put together and taken apart.
use Rattle.std.proofs.Common.{◌≡◌, ℕ, ◌+◌, ◌-◌, ◌<◌, List, ◌++◌, length, get_or, inl, inr, refl, subst, ◌∙◌, arith, length-append}
use Rattle.std.specs.Prelude.{AllPairs, Contains}
use Rattle.std.proofs.lemmas.Bool.{cases_lt}
use Rattle.std.proofs.lemmas.List.{get_or_append_left, get_or-append_right, get_or-append-add, get_or_default}

pub contained_at : {X : Type 0} (pairs : List X) (k : ℕ) (d : X) → k < length pairs → Contains pairs (get_or pairs k d)
contained_at pairs k d lt = (k, lt, get_or_default pairs k (get_or pairs k d) d lt)

-- two lists in order are in order as one, where each of the first comes before each of the second
pub pairs-append : {X : Type 0} (R : X → X → Type 0) (xs ys : List X) → AllPairs R xs → AllPairs R ys
    → ((p q : X) → Contains xs p → Contains ys q → R p q) → AllPairs R (xs ++ ys)
pairs-append R xs ys f g h i j d lt within =
    let long = length-append xs ys in
    elim (cases_lt j (length xs)) [
      | inl left ↦
          let i_left : i < length xs = omega arith in
          rw (get_or_append_left xs ys d i i_left, get_or_append_left xs ys d j left) (f i j d lt left)
      | inr right ↦
          let j_in : j - length xs < length ys = omega arith in
          elim (cases_lt i (length xs)) [
            | inl i_left ↦
                rw (get_or_append_left xs ys d i i_left, get_or-append_right xs ys (length xs) j d refl right)
                (h (get_or xs i d) (get_or ys (j - length xs) d) (contained_at xs i d i_left) (contained_at ys (j - length xs) d j_in))
            | inr i_right ↦
                let less : i - length xs < j - length xs = omega arith in
                rw (get_or-append_right xs ys (length xs) i d refl i_right, get_or-append_right xs ys (length xs) j d refl right)
                (g (i - length xs) (j - length xs) d less j_in)
          ]
    ]

-- and each part is
pub pairs-left : {X : Type 0} (R : X → X → Type 0) (xs ys : List X) → AllPairs R (xs ++ ys) → AllPairs R xs
pairs-left R xs ys all i j d lt within =
    let long = length-append xs ys in
    let i_in : i < length xs = omega arith in
    rw (← get_or_append_left xs ys d i i_in, ← get_or_append_left xs ys d j within) (all i j d lt (omega arith))

pub pairs-right : {X : Type 0} (R : X → X → Type 0) (xs ys : List X) → AllPairs R (xs ++ ys) → AllPairs R ys
pairs-right R xs ys all i j d lt within =
    let long = length-append xs ys in
    let at : (k : ℕ) → get_or (xs ++ ys) (length xs + k) d ≡ get_or ys k d = λ k. get_or-append-add xs ys k d in
    rw (← at i, ← at j) (all (length xs + i) (length xs + j) d (omega arith) (omega arith))

-- and what is in the first comes before what is in the second
pub pairs-cross : {X : Type 0} (R : X → X → Type 0) (xs ys : List X) (p q : X) → AllPairs R (xs ++ ys) → Contains xs p → Contains ys q → R p q
pairs-cross R xs ys p q all (i, i_lt, i_is) (j, j_lt, j_is) =
    let long = length-append xs ys in
    let left : get_or (xs ++ ys) i p ≡ p = get_or_append_left xs ys p i i_lt ∙ i_is in
    let right : get_or (xs ++ ys) (length xs + j) p ≡ q = get_or-append-add xs ys j p ∙ get_or_default ys j p q j_lt ∙ j_is in
    subst (λ b. R p b) right (subst (λ a. R a (get_or (xs ++ ys) (length xs + j) p)) left (all i (length xs + j) p (omega arith) (omega arith)))
