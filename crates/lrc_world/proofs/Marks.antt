-- A message that is marked as delivered.
use Rattle.std.proofs.Common.{◌≡◌, ◌∙◌, ℕ, zero, suc, ◌+◌, ◌<◌, ◌≤◌, arith, List, [], ◌∷◌, Bool, true, false, cond, Some, refl, ap, map, length}
use Rattle.std.specs.Prelude.{slice_get, slice_set, ◌==◌}
use Rattle.std.specs.List.{enumerate_from}
use Rattle.std.proofs.lemmas.Bool.{eq-eqb, eqb-true}
use Rattle.lrc_protocol.specs.Run.{Flying as Sent, marked, with_mark}

-- the messages with the one at a number marked, where they are counted from another
marked_from : List Sent → ℕ → ℕ → List Sent
marked_from flight first place = map (λ (at : ℕ × Sent). cond (at.0 == place) (marked at.1) at.1) (enumerate_from first flight)

differs : (a b : ℕ) → (a ≡ b → ⊥) → (a == b) ≡ false
differs a b apart = go (a == b) refl
  where
    go : (t : Bool) → (a == b) ≡ t → t ≡ false
    go true e = absurd (apart (eqb-true a b e))
    go false e = refl

unmarked : (flight : List Sent) (first place : ℕ) → place < first → marked_from flight first place ≡ flight
unfolding marked_from
unmarked [] first place before = refl
unmarked (f ∷ flight) first place before =
    let here : cond (first == place) (marked f) f ≡ f = ap (λ t. cond t (marked f) f) (differs first place (λ e. omega (arith, before, e))) in
    let rest : marked_from flight (first + 1) place ≡ flight = unmarked flight (first + 1) place (omega (arith, before)) in
    ap (λ x. x ∷ marked_from flight (first + 1) place) here ∙ ap (λ xs. f ∷ xs) rest

past_all : (flight : List Sent) (first place : ℕ) → first + length flight ≤ place → marked_from flight first place ≡ flight
unfolding marked_from
past_all [] first place past = refl
past_all (f ∷ flight) first place past =
    let here : cond (first == place) (marked f) f ≡ f = ap (λ t. cond t (marked f) f) (differs first place (λ e. omega (arith, past, e))) in
    let rest : marked_from flight (first + 1) place ≡ flight = past_all flight (first + 1) place (omega (arith, past)) in
    ap (λ x. x ∷ marked_from flight (first + 1) place) here ∙ ap (λ xs. f ∷ xs) rest

one_marked : (flight : List Sent) (first n : ℕ) (f : Sent) → slice_get flight n ≡ Some f → marked_from flight first (first + n) ≡ slice_set flight n (marked f)
unfolding marked_from
one_marked [] first n f there = cc
one_marked (g ∷ flight) first zero f there =
    let same : g ≡ f = cc in
    let at : (first == first + 0) ≡ true = eq-eqb first (first + 0) (omega arith) in
    ap (λ t. cond t (marked g) g ∷ marked_from flight (first + 1) (first + 0)) at
    ∙ ap (λ x. marked x ∷ marked_from flight (first + 1) (first + 0)) same
    ∙ ap (λ xs. marked f ∷ xs) (unmarked flight (first + 1) (first + 0) (omega arith))
one_marked (g ∷ flight) first (suc n) f there =
    let here : cond (first == first + suc n) (marked g) g ≡ g = ap (λ t. cond t (marked g) g) (differs first (first + suc n) (λ e. omega (arith, e))) in
    let moved : first + suc n ≡ (first + 1) + n = omega arith in
    ap (λ x. x ∷ marked_from flight (first + 1) (first + suc n)) here
    ∙ ap (λ k. g ∷ marked_from flight (first + 1) k) moved
    ∙ ap (λ xs. g ∷ xs) (one_marked flight (first + 1) n f there)

-- the mark is set at the place, where a message is there
pub mark-set : (flight : List Sent) (place : ℕ) (f : Sent) → slice_get flight place ≡ Some f → with_mark flight place ≡ slice_set flight place (marked f)
unfolding marked_from
mark-set flight place f there =
    let none : place ≡ 0 + place = omega arith in ap (marked_from flight 0) none ∙ one_marked flight 0 place f there

pub mark-past : (flight : List Sent) (place : ℕ) → length flight ≤ place → with_mark flight place ≡ flight
unfolding marked_from
mark-past flight place past = past_all flight 0 place (omega (arith, past))
