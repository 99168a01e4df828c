-- In expressions each name stands before its indices.
use Rattle.std.proofs.Common.{◌≡◌, ◌≤◌, ◌+◌, ℕ, List, [], ◌∷◌, arith}
use Rattle.lrc_named_tokens.specs.Token.{Token}
use Rattle.lrc_named_tree.specs.Tree.{Expression, Expressions, number, me, nodes, element, call, group, negation, binary, both, either, none, more}
use Rattle.lrc_named_tree.specs.Ends.{first_of}
use Rattle.lrc_named_tree.specs.Grammar as grammar
use Rattle.lrc_named_tree.specs.Grammar.{Numbered, numbered, on, IsFactor, AreIndices, AreArguments, AreSeparate, IsTerm, AreFactors, IsSum, AreTerms, IsTest, IsBoth}
use Rattle.lrc_named_tree.specs.Grammar.{AreTests, IsExpression, AreBoths}

-- tokens of ascending numbers, each of this one at least
abbrev pub IsFrom : ℕ → List Numbered → Type 0
IsFrom n [] = Unit {0}
IsFrom n (first ∷ others) = (n ≤ first.index) × IsFrom (first.index + 1) others

pub from_less : (m n : ℕ) (tokens : List Numbered) → m ≤ n → IsFrom n tokens → IsFrom m tokens
from_less m n [] le h = tt
from_less m n (first ∷ others) le h = let here = h.0 in (omega arith, h.1)

pub numbered_from : (n : ℕ) (tokens : List Token) → IsFrom n (numbered n tokens)
numbered_from n [] = tt
numbered_from n (t ∷ tokens) = (omega arith, numbered_from (n + 1) tokens)

-- each of these begins with this token, or behind it
abbrev pub BeginFrom : ℕ → Expressions → Type 0
BeginFrom n none = Unit {0}
BeginFrom n (more e others) = (n ≤ first_of e) × BeginFrom n others

begin_less : (m n : ℕ) (es : Expressions) → m ≤ n → BeginFrom n es → BeginFrom m es
begin_less m n none le h = tt
begin_less m n (more e others) le h = let here = h.0 in (omega arith, begin_less m n others le h.1)

-- each name in the expression stands before its indices
abbrev mutual
  pub IsOrdered : Expression → Type 0
  IsOrdered (number at n) = Unit {0}
  IsOrdered (me at) = Unit {0}
  IsOrdered (nodes at) = Unit {0}
  IsOrdered (element named indices last) = BeginFrom (named.at + 1) indices × AreOrdered indices
  IsOrdered (call named arguments close) = AreOrdered arguments
  IsOrdered (group opens e close) = IsOrdered e
  IsOrdered (negation at e) = IsOrdered e
  IsOrdered (binary left o right) = IsOrdered left × IsOrdered right
  IsOrdered (both left right) = IsOrdered left × IsOrdered right
  IsOrdered (either left right) = IsOrdered left × IsOrdered right

  pub AreOrdered : Expressions → Type 0
  AreOrdered none = Unit {0}
  AreOrdered (more e others) = IsOrdered e × AreOrdered others

-- an expression that begins there, and what stands behind it
abbrev Stands : ℕ → Expression → List Numbered → Type 0
Stands n e rest = (n ≤ first_of e) × IsOrdered e × IsFrom n rest

abbrev Stand : ℕ → Expressions → List Numbered → Type 0
Stand n es rest = BeginFrom n es × AreOrdered es × IsFrom n rest

mutual
  factor_stands : {e : Expression} {all rest : List Numbered} (n : ℕ) → IsFactor e all rest → IsFrom n all → Stands n e rest
  factor_stands n (grammar.a_number {at = at} {rest = rest}) h = let le = h.0 in (h.0, tt, from_less n (at + 1) rest (omega arith) h.1)
  factor_stands n (grammar.me {at = at} {rest = rest}) h = let le = h.0 in (h.0, tt, from_less n (at + 1) rest (omega arith) h.1)
  factor_stands n (grammar.nodes {at = at} {rest = rest}) h = let le = h.0 in (h.0, tt, from_less n (at + 1) rest (omega arith) h.1)
  factor_stands n (grammar.an_element {at = at} {rest = rest} indices) h =
      let le = h.0 in
      let i = indices_stand (at + 1) indices h.1 in
      (h.0, (i.0, i.1), from_less n (at + 1) rest (omega arith) i.2)
  factor_stands n (grammar.a_call {at = at} {opens = opens} {rest = rest} arguments) h =
      let le = h.0 in
      let next = h.1.0 in
      let a = arguments_stand (opens + 1) arguments h.1.1 in
      (h.0, a.0, from_less n (opens + 1) rest (omega arith) a.1)
  factor_stands n (grammar.parentheses {opens = opens} {closes = closes} {rest = rest} inside) h =
      let le = h.0 in
      let i = stands (opens + 1) inside h.1 in
      let behind = i.2.0 in
      (h.0, i.1, from_less n (closes + 1) rest (omega arith) i.2.1)

  pub indices_stand : {indices : Expressions} {at last : ℕ} {all rest : List Numbered} (n : ℕ) → AreIndices indices at last all rest → IsFrom n all → Stand n indices rest
  indices_stand n grammar.no_index h = (tt, tt, h)
  indices_stand n (grammar.one_index {opens = opens} {closes = closes} {others = others} {rest = rest} inside next) h =
      let le = h.0 in
      let i = stands (opens + 1) inside h.1 in
      let first = i.0 in
      let behind = i.2.0 in
      let o = indices_stand (closes + 1) next i.2.1 in
      ((omega arith, begin_less n (closes + 1) others (omega arith) o.0), (i.1, o.1), from_less n (closes + 1) rest (omega arith) o.2)

  arguments_stand : {arguments : Expressions} {closes : ℕ} {all rest : List Numbered} (n : ℕ) → AreArguments arguments closes all rest → IsFrom n all
      → AreOrdered arguments × IsFrom n rest
  arguments_stand n (grammar.no_argument {closes = closes} {rest = rest}) h = let le = h.0 in (tt, from_less n (closes + 1) rest (omega arith) h.1)
  arguments_stand n (grammar.some_arguments {closes = closes} {rest = rest} inside) h =
      let s = separate_stand n inside h in
      let le = s.1.0 in
      (s.0, from_less n (closes + 1) rest (omega arith) s.1.1)

  separate_stand : {some : Expressions} {all rest : List Numbered} (n : ℕ) → AreSeparate some all rest → IsFrom n all → AreOrdered some × IsFrom n rest
  separate_stand n (grammar.the_last inside) h = let i = stands n inside h in ((i.1, tt), i.2)
  separate_stand n (grammar.one_of {comma = comma} {rest = rest} inside others) h =
      let i = stands n inside h in
      let le = i.2.0 in
      let o = separate_stand (comma + 1) others i.2.1 in
      ((i.1, o.0), from_less n (comma + 1) rest (omega arith) o.1)

  factors_stand : {left e : Expression} {all rest : List Numbered} (n : ℕ) → AreFactors left e all rest → Stands n left all → Stands n e rest
  factors_stand n grammar.no_factor h = h
  factors_stand n (grammar.one_factor {at = at} {behind = behind} is right others) h =
      let le = h.2.0 in
      let r = factor_stands (at + 1) right h.2.1 in
      factors_stand n others (h.0, (h.1, r.1), from_less n (at + 1) behind (omega arith) r.2)

  term_stands : {e : Expression} {all rest : List Numbered} (n : ℕ) → IsTerm e all rest → IsFrom n all → Stands n e rest
  term_stands n (grammar.term first others) h = factors_stand n others (factor_stands n first h)

  terms_stand : {left e : Expression} {all rest : List Numbered} (n : ℕ) → AreTerms left e all rest → Stands n left all → Stands n e rest
  terms_stand n grammar.no_term h = h
  terms_stand n (grammar.one_term {at = at} {behind = behind} is right others) h =
      let le = h.2.0 in
      let r = term_stands (at + 1) right h.2.1 in
      terms_stand n others (h.0, (h.1, r.1), from_less n (at + 1) behind (omega arith) r.2)

  sum_stands : {e : Expression} {all rest : List Numbered} (n : ℕ) → IsSum e all rest → IsFrom n all → Stands n e rest
  sum_stands n (grammar.sum first others) h = terms_stand n others (term_stands n first h)

  test_stands : {e : Expression} {all rest : List Numbered} (n : ℕ) → IsTest e all rest → IsFrom n all → Stands n e rest
  test_stands n (grammar.negation {at = at} {rest = rest} inside) h =
      let le = h.0 in
      let i = test_stands (at + 1) inside h.1 in
      (h.0, i.1, from_less n (at + 1) rest (omega arith) i.2)
  test_stands n (grammar.one_sum inside) h = sum_stands n inside h
  test_stands n (grammar.comparison {at = at} {rest = rest} left compares right) h =
      let l = sum_stands n left h in
      let le = l.2.0 in
      let r = sum_stands (at + 1) right l.2.1 in
      (l.0, (l.1, r.1), from_less n (at + 1) rest (omega arith) r.2)

  tests_stand : {left e : Expression} {all rest : List Numbered} (n : ℕ) → AreTests left e all rest → Stands n left all → Stands n e rest
  tests_stand n grammar.no_test h = h
  tests_stand n (grammar.one_test {at = at} {behind = behind} right others) h =
      let le = h.2.0 in
      let r = test_stands (at + 1) right h.2.1 in
      tests_stand n others (h.0, (h.1, r.1), from_less n (at + 1) behind (omega arith) r.2)

  both_stands : {e : Expression} {all rest : List Numbered} (n : ℕ) → IsBoth e all rest → IsFrom n all → Stands n e rest
  both_stands n (grammar.both first others) h = tests_stand n others (test_stands n first h)

  boths_stand : {left e : Expression} {all rest : List Numbered} (n : ℕ) → AreBoths left e all rest → Stands n left all → Stands n e rest
  boths_stand n grammar.no_both h = h
  boths_stand n (grammar.one_both {at = at} {behind = behind} right others) h =
      let le = h.2.0 in
      let r = both_stands (at + 1) right h.2.1 in
      boths_stand n others (h.0, (h.1, r.1), from_less n (at + 1) behind (omega arith) r.2)

  pub stands : {e : Expression} {all rest : List Numbered} (n : ℕ) → IsExpression e all rest → IsFrom n all → Stands n e rest
  stands n (grammar.expression first others) h = boths_stand n others (both_stands n first h)
