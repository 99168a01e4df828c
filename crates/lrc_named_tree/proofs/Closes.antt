-- An expression ends with the last of its tokens, behind which the rest stands.
use Rattle.std.proofs.Common.{◌≡◌, ℕ, List, [], ◌∷◌, ◌++◌, refl, ap}
use Rattle.lrc_named_tree.specs.Tree.{Expression, Expressions}
use Rattle.lrc_named_tree.specs.Grammar.{Numbered, IsFactor, a_number, me, nodes, an_element, a_call, parentheses}
use Rattle.lrc_named_tree.specs.Grammar.{AreIndices, no_index, one_index, AreArguments, no_argument, some_arguments, AreSeparate, the_last, one_of}
use Rattle.lrc_named_tree.specs.Grammar.{IsTerm, term, AreFactors, no_factor, one_factor, IsSum, sum, AreTerms, no_term, one_term}
use Rattle.lrc_named_tree.specs.Grammar.{IsTest, negation, one_sum, comparison, IsBoth, both, AreTests, no_test, one_test}
use Rattle.lrc_named_tree.specs.Grammar.{IsExpression, expression, AreBoths, no_both, one_both}
use Rattle.lrc_named_tree.specs.Ends.{last_of}

-- the token of this index stands among all, and behind it the rest
data EndsAt (index : ℕ) (rest : List Numbered) : List Numbered → Type 0 where
  here : {last : Numbered} → index ≡ last.index → EndsAt index rest (last ∷ rest)
  there : {first : Numbered} {more : List Numbered} → EndsAt index rest more → EndsAt index rest (first ∷ more)

-- what ends in what stands behind ends in all
beyond : {one index : ℕ} {behind rest all : List Numbered} → EndsAt one behind all → EndsAt index rest behind → EndsAt index rest all
beyond (here is) later = there later
beyond (there inside) later = there (beyond inside later)

mutual
  factor_ends : {e : Expression} {all rest : List Numbered} → IsFactor e all rest → EndsAt (last_of e) rest all
  factor_ends a_number = here refl
  factor_ends me = here refl
  factor_ends nodes = here refl
  factor_ends (an_element indices) = indices_end indices (here refl)
  factor_ends (a_call arguments) = there (there (arguments_end arguments))
  factor_ends (parentheses inside) = there (beyond (ends inside) (here refl))

  indices_end : {indices : Expressions} {at last : ℕ} {behind rest all : List Numbered} → AreIndices indices at last behind rest
      → EndsAt at behind all → EndsAt last rest all
  indices_end no_index front = front
  indices_end (one_index inside others) front = indices_end others (beyond front (there (beyond (ends inside) (here refl))))

  arguments_end : {arguments : Expressions} {closes : ℕ} {all rest : List Numbered} → AreArguments arguments closes all rest → EndsAt closes rest all
  arguments_end no_argument = here refl
  arguments_end (some_arguments inside) = beyond (separate_end inside).1 (here refl)

  separate_end : {some : Expressions} {all rest : List Numbered} → AreSeparate some all rest → (last : ℕ) × EndsAt last rest all
  separate_end (the_last {e = e} inside) = (last_of e, ends inside)
  separate_end (one_of inside others) =
      let r = separate_end others in
      (r.0, beyond (ends inside) (there r.1))

  factors_end : {left e : Expression} {behind rest all : List Numbered} → AreFactors left e behind rest → EndsAt (last_of left) behind all
      → EndsAt (last_of e) rest all
  factors_end no_factor front = front
  factors_end (one_factor is right others) front = factors_end others (beyond front (there (factor_ends right)))

  term_ends : {e : Expression} {all rest : List Numbered} → IsTerm e all rest → EndsAt (last_of e) rest all
  term_ends (term first others) = factors_end others (factor_ends first)

  terms_end : {left e : Expression} {behind rest all : List Numbered} → AreTerms left e behind rest → EndsAt (last_of left) behind all
      → EndsAt (last_of e) rest all
  terms_end no_term front = front
  terms_end (one_term is right others) front = terms_end others (beyond front (there (term_ends right)))

  sum_ends : {e : Expression} {all rest : List Numbered} → IsSum e all rest → EndsAt (last_of e) rest all
  sum_ends (sum first others) = terms_end others (term_ends first)

  test_ends : {e : Expression} {all rest : List Numbered} → IsTest e all rest → EndsAt (last_of e) rest all
  test_ends (negation inside) = there (test_ends inside)
  test_ends (one_sum inside) = sum_ends inside
  test_ends (comparison left compares right) = beyond (sum_ends left) (there (sum_ends right))

  tests_end : {left e : Expression} {behind rest all : List Numbered} → AreTests left e behind rest → EndsAt (last_of left) behind all
      → EndsAt (last_of e) rest all
  tests_end no_test front = front
  tests_end (one_test right others) front = tests_end others (beyond front (there (test_ends right)))

  both_ends : {e : Expression} {all rest : List Numbered} → IsBoth e all rest → EndsAt (last_of e) rest all
  both_ends (both first others) = tests_end others (test_ends first)

  boths_end : {left e : Expression} {behind rest all : List Numbered} → AreBoths left e behind rest → EndsAt (last_of left) behind all
      → EndsAt (last_of e) rest all
  boths_end no_both front = front
  boths_end (one_both right others) front = boths_end others (beyond front (there (both_ends right)))

  ends : {e : Expression} {all rest : List Numbered} → IsExpression e all rest → EndsAt (last_of e) rest all
  ends (expression first others) = boths_end others (both_ends first)

Split : ℕ → List Numbered → List Numbered → Type 0
Split index rest all = (front : List Numbered) × (last : Numbered) × (all ≡ front ++ last ∷ rest) × (index ≡ last.index)

split : {index : ℕ} {rest all : List Numbered} → EndsAt index rest all → Split index rest all
unfolding Split
split (here {last = last} is) = ([], last, refl, is)
split (there {first = first} inside) =
    let r = split inside in
    (first ∷ r.0, r.1, ap (λ l. first ∷ l) r.2, r.3)

pub ends_with_last : (e : Expression) (all rest : List Numbered) → IsExpression e all rest
    → (front : List Numbered) × (last : Numbered) × (all ≡ front ++ last ∷ rest) × (last_of e ≡ last.index)
unfolding Split
ends_with_last e all rest is = split (ends is)
