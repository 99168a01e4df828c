-- How many tokens stand at least between the beginnings of two statements.
use Rattle.std.proofs.Common.{◌≡◌, ◌∙◌, ◌<◌, ◌≤◌, ◌+◌, ℕ, zero, suc, Some, List, [], ◌∷◌, ◌++◌, append-nil, length, sym, ap}
use Rattle.std.proofs.Common.{subst, arith}
use Rattle.std.specs.Prelude.{slice_get}
use Rattle.std.proofs.lemmas.Option.{same_Some}
use Rattle.lrc_lang.specs.Symbol.{Symbol, symbols}
use Rattle.lrc_lang.specs.Token.{Token}
use Rattle.lrc_program.specs.Tree.{Expression, Statement, Block, ProgramTree, read}
use Rattle.lrc_lang.specs.Grammar as grammar
use Rattle.lrc_lang.specs.Grammar.{IsFactor, IsTerm, IsSum, IsExpression, IsStatement, IsBlock, AreStatements, AreSymbolsOf, IsProgram}
use Rattle.lrc_lang.specs.Lines.{begins_within, begins_in_block, begins, begins_in}
use Rattle.lrc_lint_warned.specs.declared.places.Scan.TheVariants.{Statements}
use Rattle.lrc_lint_warned.specs.Derived.{place_in}
use Rattle.lrc_lint_warned.specs.Inside.{statements_in, within}
use Rattle.lrc_lint_warned.specs.Places.{places_in}
use Rattle.lrc_lint_warned.proofs.Derived.{statements_stand}
use Rattle.lrc_lint_laws.proofs.Listed.{mapped}

-- behind an expression is less
mutual
  factor_longer : {e : Expression} {all rest : List Symbol} → IsFactor e all rest → length rest < length all
  factor_longer grammar.a_number = omega arith
  factor_longer grammar.a_name = omega arith
  factor_longer grammar.me = omega arith
  factor_longer grammar.nodes = omega arith
  factor_longer (grammar.parentheses e) = let h = longer e in omega (arith, h)

  term_longer : {e : Expression} {all rest : List Symbol} → IsTerm e all rest → length rest < length all
  term_longer (grammar.factor f) = factor_longer f
  term_longer (grammar.product left is right) = let h = term_longer left in let g = factor_longer right in omega (arith, h, g)

  sum_longer : {e : Expression} {all rest : List Symbol} → IsSum e all rest → length rest < length all
  sum_longer (grammar.term t) = term_longer t
  sum_longer (grammar.sum left is right) = let h = sum_longer left in let g = term_longer right in omega (arith, h, g)

  longer : {e : Expression} {all rest : List Symbol} → IsExpression e all rest → length rest < length all
  longer (grammar.one_sum s) = sum_longer s
  longer (grammar.comparison left is right) = let h = sum_longer left in let g = sum_longer right in omega (arith, h, g)

-- a shared read has at least three tokens, any statement at least one
abbrev pub width : Statement → ℕ
width (read k word) = 3
width _ = 1

-- Statements begin one behind the other at these places; so many tokens are left at most in front of the first, and at least behind all.
data Spaced : ℕ → List Statement → List (List Symbol) → ℕ → Type 0 where
  stops : {upper lower : ℕ} → lower ≤ upper → Spaced upper [] [] lower
  begun : {upper between lower : ℕ} {s : Statement} {ss : List Statement} {all : List Symbol} {places : List (List Symbol)} → length all ≤ upper
      → between + width s ≤ length all → Spaced between ss places lower → Spaced upper (s ∷ ss) (all ∷ places) lower

from_more : {upper more lower : ℕ} {ss : List Statement} {places : List (List Symbol)} → upper ≤ more → Spaced upper ss places lower → Spaced more ss places lower
from_more le (stops h) = stops (omega (arith, le, h))
from_more le (begun h g rest) = begun (omega (arith, le, h)) g rest

to_less : {upper less lower : ℕ} {ss : List Statement} {places : List (List Symbol)} → less ≤ lower → Spaced upper ss places lower → Spaced upper ss places less
to_less le (stops h) = stops (omega (arith, le, h))
to_less le (begun h g rest) = begun h g (to_less le rest)

joined : {upper middle lower : ℕ} {ss ts : List Statement} {places others : List (List Symbol)} → Spaced upper ss places middle → Spaced middle ts others lower
    → Spaced upper (ss ++ ts) (places ++ others) lower
joined (stops h) second = from_more h second
joined (begun h g rest) second = begun h g (joined rest second)

mutual
  statement_spaced : {s : Statement} {all rest : List Symbol} (d : IsStatement s all rest) → Spaced (length all) (s ∷ within s) (all ∷ begins_within d) (length rest)
  statement_spaced {rest = rest} (grammar.assign value) = let h = longer value in begun {between = length rest} (omega arith) (omega (arith, h)) (stops (omega arith))
  statement_spaced {rest = rest} (grammar.read word) = let h = longer word in begun {between = length rest} (omega arith) (omega (arith, h)) (stops (omega arith))
  statement_spaced {rest = rest} (grammar.write word value) =
      let h = longer word in let g = longer value in begun {between = length rest} (omega arith) (omega (arith, h, g)) (stops (omega arith))
  statement_spaced {rest = rest} (grammar.acquire lock) = let h = longer lock in begun {between = length rest} (omega arith) (omega (arith, h)) (stops (omega arith))
  statement_spaced {rest = rest} (grammar.release lock) = let h = longer lock in begun {between = length rest} (omega arith) (omega (arith, h)) (stops (omega arith))
  statement_spaced {rest = rest} grammar.barrier = begun {between = length rest} (omega arith) (omega arith) (stops (omega arith))
  statement_spaced {rest = rest} (grammar.print value) = let h = longer value in begun {between = length rest} (omega arith) (omega (arith, h)) (stops (omega arith))
  statement_spaced {rest = rest} (grammar.if_alone {then = first} {body = body} condition block) =
      let h = longer condition in
      begun {between = length body} (omega arith) (omega (arith, h))
      (subst (λ places. Spaced (length body) (statements_in first ++ []) places (length rest)) (append-nil (begins_in_block block))
      (joined (block_spaced block) (stops (omega arith))))
  statement_spaced {rest = rest} (grammar.if_else {body = body} {second = second} condition block otherwise) =
      let h = longer condition in
      begun {between = length body} (omega arith) (omega (arith, h))
      (joined (to_less {less = length second} (omega arith) (block_spaced block)) (block_spaced otherwise))
  statement_spaced (grammar.while_do {body = body} condition block) =
      let h = longer condition in begun {between = length body} (omega arith) (omega (arith, h)) (block_spaced block)

  block_spaced : {b : Block} {all rest : List Symbol} (d : IsBlock b all rest) → Spaced (length all) (statements_in b) (begins_in_block d) (length rest)
  block_spaced (grammar.braces inside) = from_more (omega arith) (to_less (omega arith) (all_spaced inside))

  all_spaced : {b : Block} {all rest : List Symbol} (d : AreStatements b all rest) → Spaced (length all) (statements_in b) (begins d) (length rest)
  all_spaced grammar.none = stops (omega arith)
  all_spaced (grammar.one_more one more) = joined (statement_spaced one) (all_spaced more)

below : {upper lower : ℕ} {ss : List Statement} {places : List (List Symbol)} → Spaced upper ss places lower → (k : ℕ) (a : List Symbol)
    → slice_get places k ≡ Some a → length a ≤ upper
below (stops h) k a is = cc
below (begun {all = all} h g rest) zero a is = let same = ap length (same_Some all a is) in omega (arith, h, same)
below (begun h g rest) (suc k) a is = let more = below rest k a is in omega (arith, more, h, g)

apart : {upper lower : ℕ} {ss : List Statement} {places : List (List Symbol)} → Spaced upper ss places lower → (k l : ℕ) (s : Statement) (a b : List Symbol)
    → k < l → slice_get ss k ≡ Some s → slice_get places k ≡ Some a → slice_get places l ≡ Some b → length b + width s ≤ length a
apart (stops h) k l s a b lt there is also = cc
apart (begun h g rest) k zero s a b lt there is also = absurd (omega (arith, lt))
apart (begun {s = first} {all = all} h g rest) zero (suc l) s a b lt there is also =
    let same = ap length (same_Some all a is) in
    let one = ap width (same_Some first s there) in
    let more = below rest l b also in
    omega (arith, same, one, more, g)
apart (begun h g rest) (suc k) (suc l) s a b lt there is also = apart rest k l s a b (omega (arith, lt)) there is also

program_spaced : {p : ProgramTree} {all : List Symbol} (d : AreSymbolsOf p all) → Spaced (length all) (statements_in p.statements) (begins_in d) 1
program_spaced (grammar.program statements) = from_more (omega arith) (all_spaced statements)

-- the places of two statements
pub places_apart : (p : ProgramTree) (tokens : List Token) → IsProgram p tokens → (k l : ℕ) (s : Statement) (at next : ℕ) → k < l
    → slice_get (statements_in p.statements) k ≡ Some s → slice_get (places_in Statements tokens) k ≡ Some at
    → slice_get (places_in Statements tokens) l ≡ Some next → at + width s ≤ next
places_apart p tokens d k l s at next lt there is also =
    let all = length (symbols tokens) in
    let spaced = program_spaced d in
    let (a, a_there, a_is) = mapped (place_in (symbols tokens)) (begins_in d) k at (sym (ap (λ m. slice_get m k) (statements_stand p tokens d)) ∙ is) in
    let (b, b_there, b_is) = mapped (place_in (symbols tokens)) (begins_in d) l next (sym (ap (λ m. slice_get m l) (statements_stand p tokens d)) ∙ also) in
    let more = apart spaced k l s a b lt there a_there b_there in
    let a_below = below spaced k a a_there in
    let b_below = below spaced l b b_there in
    omega (arith, more, a_below, b_below, a_is, b_is)
