-- An expression and a statement begin with the first of their tokens.
use Rattle.std.proofs.Common.{◌≡◌, ℕ, List, [], ◌∷◌, refl, ◌∙◌}
use Rattle.lrc_named_tree.specs.Tree.{Expression, Place, Statement}
use Rattle.lrc_named_tree.specs.Grammar.{Numbered, IsFactor, a_number, me, nodes, an_element, a_call, parentheses}
use Rattle.lrc_named_tree.specs.Grammar.{IsTerm, term, AreFactors, no_factor, one_factor, IsSum, sum, AreTerms, no_term, one_term}
use Rattle.lrc_named_tree.specs.Grammar.{IsTest, negation, one_sum, comparison, IsBoth, both, AreTests, no_test, one_test}
use Rattle.lrc_named_tree.specs.Grammar.{IsExpression, expression, AreBoths, no_both, one_both}
use Rattle.lrc_named_tree.specs.Grammar.{IsPlace, place, IsStatement}
use Rattle.lrc_named_tree.specs.Grammar as grammar
use Rattle.lrc_named_tree.specs.Ends.{first_of, first_of_statement}

-- these tokens begin with one of this index
BeginsAt : ℕ → List Numbered → Type 0
BeginsAt index [] = ⊥
BeginsAt index (first ∷ more) = index ≡ first.index

factor_begins : {e : Expression} {all rest : List Numbered} → IsFactor e all rest → BeginsAt (first_of e) all
unfolding BeginsAt
factor_begins a_number = refl
factor_begins me = refl
factor_begins nodes = refl
factor_begins (an_element indices) = refl
factor_begins (a_call arguments) = refl
factor_begins (parentheses inside) = refl

factors_keep : {left e : Expression} {all rest : List Numbered} → AreFactors left e all rest → first_of e ≡ first_of left
factors_keep no_factor = refl
factors_keep (one_factor is right others) = factors_keep others

moved : {one other : ℕ} (all : List Numbered) → other ≡ one → BeginsAt one all → BeginsAt other all
unfolding BeginsAt
moved [] e h = h
moved (first ∷ more) e h = e ∙ h

term_begins : {e : Expression} {all rest : List Numbered} → IsTerm e all rest → BeginsAt (first_of e) all
term_begins {all = all} (term first others) = moved all (factors_keep others) (factor_begins first)

terms_keep : {left e : Expression} {all rest : List Numbered} → AreTerms left e all rest → first_of e ≡ first_of left
terms_keep no_term = refl
terms_keep (one_term is right others) = terms_keep others

sum_begins : {e : Expression} {all rest : List Numbered} → IsSum e all rest → BeginsAt (first_of e) all
sum_begins {all = all} (sum first others) = moved all (terms_keep others) (term_begins first)

test_begins : {e : Expression} {all rest : List Numbered} → IsTest e all rest → BeginsAt (first_of e) all
unfolding BeginsAt
test_begins (negation inside) = refl
test_begins (one_sum inside) = sum_begins inside
test_begins (comparison left compares right) = sum_begins left

tests_keep : {left e : Expression} {all rest : List Numbered} → AreTests left e all rest → first_of e ≡ first_of left
tests_keep no_test = refl
tests_keep (one_test right others) = tests_keep others

both_begins : {e : Expression} {all rest : List Numbered} → IsBoth e all rest → BeginsAt (first_of e) all
both_begins {all = all} (both first others) = moved all (tests_keep others) (test_begins first)

boths_keep : {left e : Expression} {all rest : List Numbered} → AreBoths left e all rest → first_of e ≡ first_of left
boths_keep no_both = refl
boths_keep (one_both right others) = boths_keep others

begins : {e : Expression} {all rest : List Numbered} → IsExpression e all rest → BeginsAt (first_of e) all
begins {all = all} (expression first others) = moved all (boths_keep others) (both_begins first)

pub begins_with_first : (e : Expression) (first : Numbered) (more rest : List Numbered) → IsExpression e (first ∷ more) rest → first_of e ≡ first.index
unfolding BeginsAt
begins_with_first e first more rest is = begins is

place_begins : {p : Place} {all rest : List Numbered} → IsPlace p all rest → BeginsAt p.name.at all
unfolding BeginsAt
place_begins (place indices) = refl

statement_begins : {s : Statement} {all rest : List Numbered} → IsStatement s all rest → BeginsAt (first_of_statement s) all
unfolding BeginsAt
statement_begins (grammar.assign p update value) = place_begins p
statement_begins (grammar.acquire p) = refl
statement_begins (grammar.release p) = refl
statement_begins (grammar.with_do p inside) = refl
statement_begins grammar.barrier = refl
statement_begins (grammar.print values) = refl
statement_begins (grammar.assert condition) = refl
statement_begins (grammar.if_else condition then others) = refl
statement_begins (grammar.while_do condition inside) = refl
statement_begins (grammar.for_do first end inside) = refl

pub statement_begins_with_first : (s : Statement) (first : Numbered) (more rest : List Numbered) → IsStatement s (first ∷ more) rest
    → first_of_statement s ≡ first.index
unfolding BeginsAt
statement_begins_with_first s first more rest is = statement_begins is
