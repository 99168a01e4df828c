-- The place is that of the first byte that no token has.
use Rattle.std.proofs.Common.{◌≡◌, ◌∙◌, ◌≤◌, ◌+◌, ℕ, suc, Bool, true, false, not, ltb, ltb-false, List, [], ◌∷◌, length, Option, Some, None}
use Rattle.std.proofs.Common.{refl, sym, ap, subst, cond, unwrap_or, arith, rules, tests}
use Rattle.std.specs.List.{position_or_len}
use Rattle.std.proofs.lemmas.Iterator.{YieldsList-from_slice}
use Rattle.std.proofs.lemmas.Iterator.Search.{position_from_yields_List}
use Rattle.lrc_named_held.specs.Source.{is_gap}
use Rattle.lrc_named_held.proofs.source.place_of_gap.Goals as goal

place-le : (p : ℕ → Bool) (xs : List ℕ) → position_or_len p xs ≤ length xs
place-le p [] = omega arith
place-le p (x ∷ xs) = go (p x) (position_or_len p xs) (length xs) (place-le p xs)
  where
    go : (b : Bool) (n m : ℕ) → n ≤ m → cond (not b) (1 + n) 0 ≤ suc m
    go true n m h = omega arith
    go false n m h = omega arith

found_at : (b : Bool) (n len : ℕ) → ltb n len ≡ b → n ≤ len → unwrap_or (cond b (Some n) None) len ≡ n
found_at true n len e h = refl
found_at false n len e h = omega (arith, ltb-false n len e)

place_is : (p : ℕ → Bool) (text : List ℕ) (found : Option ℕ) (place : ℕ)
    → found ≡ cond (ltb (position_or_len p text) (length text)) (Some (position_or_len p text)) None → place ≡ unwrap_or found (length text)
    → place ≡ position_or_len p text
place_is p text found place at is =
    is ∙ ap (λ f. unwrap_or f (length text)) at ∙ found_at (ltb (position_or_len p text) (length text)) _ _ refl (place-le p text)

pub returns-clause-place : goal.returns-clause-place
returns-clause-place c =
    let at = position_from_yields_List is_gap _ _ c.position.result c.position.ensures.ran (YieldsList-from_slice c.args.bytes.now cc)
    (λ x b q k. search (rules, tests)) in
    place_is is_gap c.args.bytes.now c.position.result c.unwrap_or.result at c.unwrap_or.ensures

pub returns-clause-bound : goal.returns-clause-bound
returns-clause-bound c = subst (λ n. n ≤ length c.args.bytes.now) (sym (returns-clause-place c)) (place-le is_gap c.args.bytes.now)
