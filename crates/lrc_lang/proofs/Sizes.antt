-- A text within the limits is a program within them: its names, its depth and its operators.
use Rattle.std.proofs.Common.{◌≡◌, ◌<◌, ◌≤◌, ℕ, suc, ◌+◌, ◌-◌, max, List, [], ◌∷◌, ◌++◌, length, true, false, Bool, cond}
use Rattle.std.proofs.Common.{not, ◌||◌, if◌then◌else◌, refl, sym, subst, inr, ◌∙◌, arith, length-append}
use Rattle.std.specs.List.{list_any, position_or_len}
use Rattle.std.specs.Str.{bytes_eq}
use Rattle.std.proofs.Math.Nat.{max-le}
use Rattle.lrc_lang.specs.declared.token.Sign.{Sign}
use Rattle.lrc_lang.specs.declared.token.Sign.TheVariants as signs
use Rattle.lrc_lang.specs.declared.fault.FaultKind.TheVariants.{TooDeep, TooManyNames, OverLimit}
use Rattle.lrc_lang.specs.Token.{Token, Placed}
use Rattle.lrc_lang.specs.Symbol.{Symbol, Names, is_among, number_of, names_with, symbol_of, symbol_of_sign, symbols_after}
use Rattle.lrc_program.specs.Statements.{Expression, binary, Statement, Block}
use Rattle.lrc_program.specs.Tree.{ProgramTree}
use Rattle.lrc_program.specs.Sizes.{names_in_expression, operators_in, names_in_statement, names_in}
use Rattle.lrc_program.specs.Sizes.{depth_of_statement, depth_of, operators_in_statement, most_operators}
use Rattle.lrc_lang.specs.Counts.{names_of, open_with, open_of, operators_with, operators_of, IsTooDeep, IsNameTooMany, IsOperatorTooMany}
use Rattle.lrc_lang.specs.Grammar.{IsFactor, a_number, a_name, parentheses, IsTerm, factor, product, IsSum, term, sum, IsExpression, one_sum}
use Rattle.lrc_lang.specs.Grammar.{comparison, IsStatement, IsBlock, braces, AreStatements, none, one_more, AreSymbolsOf, program}
use Rattle.lrc_lang.specs.Grammar as grammar
use Rattle.lrc_lang.specs.Faults.{AreFaultless, IsText}
use Rattle.lrc_lang.proofs.Names.{position-le}
use Rattle.lrc_lang.proofs.Reaching.{fold-append}

-- ---- the counts of symbols

-- how many `{` and `(` are open, once this symbol has come too
abbrev open_behind : ℕ → Symbol → ℕ
open_behind count (Symbol.sign signs.OpenBrace) = count + 1
open_behind count (Symbol.sign signs.OpenParenthesis) = count + 1
open_behind count (Symbol.sign signs.CloseBrace) = count - 1
open_behind count (Symbol.sign signs.CloseParenthesis) = count - 1
open_behind count _ = count

-- what the limits allow of a symbol, where this many are open and this many operators have come
abbrev IsAllowed : ℕ → ℕ → Symbol → Type 0
IsAllowed nested operators (Symbol.name k) = k < 32
IsAllowed nested operators (Symbol.operator o) = operators < 256
IsAllowed nested operators (Symbol.sign signs.OpenBrace) = nested < 32
IsAllowed nested operators _ = Unit {0}

-- the limits allow each of these symbols
abbrev AreAllowed : ℕ → ℕ → List Symbol → Type 0
AreAllowed nested operators [] = Unit {0}
AreAllowed nested operators (symbol ∷ rest) =
    IsAllowed nested operators symbol × AreAllowed (open_behind nested symbol) (operators_with operators symbol) rest

-- ---- expressions

-- what holds behind an expression
record Expressed (nested operators : ℕ) (e : Expression) (rest : List Symbol) : Type 0 where
  allowed : AreAllowed nested (operators + operators_in e) rest
  names : names_in_expression e ≤ 32
  few : operators + operators_in e ≤ 256

no_operator : (nested operators : ℕ) (e : Expression) (rest : List Symbol) → operators_in e ≡ 0 → names_in_expression e ≤ 32 → operators ≤ 256 →
    AreAllowed nested operators rest → Expressed nested operators e rest
no_operator nested operators e rest z n few all = record {
  allowed = subst (λ count. AreAllowed nested count rest) (omega (arith, z)) all;
  names = n;
  few = omega (arith, z, few);
}

-- the right side, behind the left one and the operator
joined : (nested operators : ℕ) (left right : Expression) (o : _) (more rest : List Symbol) →
    Expressed nested operators left (Symbol.operator o ∷ more) →
    ((count : ℕ) → count ≤ 256 → AreAllowed nested count more → Expressed nested count right rest) → Expressed nested operators (binary left o right) rest
joined nested operators left right o more rest l right_of =
    let r = right_of (operators + operators_in left + 1) (omega (arith, l.allowed.0)) l.allowed.1 in
    let count : operators + operators_in left + 1 + operators_in right ≡ operators + (operators_in left + 1 + operators_in right) = omega arith in
    record {
      allowed = subst (λ n. AreAllowed nested n rest) count r.allowed;
      names = max-le l.names r.names;
      few = subst (λ n. n ≤ 256) count r.few;
    }

mutual
  factor_sizes : (nested operators : ℕ) {e : Expression} {all rest : List Symbol} → IsFactor e all rest → operators ≤ 256 →
      AreAllowed nested operators all → Expressed nested operators e rest
  factor_sizes nested operators {e} {rest = rest} a_number few all = no_operator nested operators e rest refl (omega arith) few all.1
  factor_sizes nested operators {e} {rest = rest} a_name few all = no_operator nested operators e rest refl (omega (arith, all.0)) few all.1
  factor_sizes nested operators {e} {rest = rest} grammar.me few all = no_operator nested operators e rest refl (omega arith) few all.1
  factor_sizes nested operators {e} {rest = rest} grammar.nodes few all = no_operator nested operators e rest refl (omega arith) few all.1
  factor_sizes nested operators {e} {rest = rest} (parentheses d) few all =
      let inside = expression_sizes (nested + 1) operators d few all.1 in
      let back : nested + 1 - 1 ≡ nested = omega arith in
      record {
        allowed = subst (λ n. AreAllowed n (operators + operators_in e) rest) back inside.allowed.1;
        names = inside.names;
        few = inside.few;
      }

  term_sizes : (nested operators : ℕ) {e : Expression} {all rest : List Symbol} → IsTerm e all rest → operators ≤ 256 →
      AreAllowed nested operators all → Expressed nested operators e rest
  term_sizes nested operators (factor d) few all = factor_sizes nested operators d few all
  term_sizes nested operators {rest = rest} (product {left = left} {right = right} {o = o} {more = more} l j r) few all =
      joined nested operators left right o more rest (term_sizes nested operators l few all) (λ count few all. factor_sizes nested count r few all)

  sum_sizes : (nested operators : ℕ) {e : Expression} {all rest : List Symbol} → IsSum e all rest → operators ≤ 256 →
      AreAllowed nested operators all → Expressed nested operators e rest
  sum_sizes nested operators (term d) few all = term_sizes nested operators d few all
  sum_sizes nested operators {rest = rest} (sum {left = left} {right = right} {o = o} {more = more} l j r) few all =
      joined nested operators left right o more rest (sum_sizes nested operators l few all) (λ count few all. term_sizes nested count r few all)

  expression_sizes : (nested operators : ℕ) {e : Expression} {all rest : List Symbol} → IsExpression e all rest → operators ≤ 256 →
      AreAllowed nested operators all → Expressed nested operators e rest
  expression_sizes nested operators (one_sum d) few all = sum_sizes nested operators d few all
  expression_sizes nested operators {rest = rest} (comparison {left = left} {right = right} {o = o} {more = more} l j r) few all =
      joined nested operators left right o more rest (sum_sizes nested operators l few all) (λ count few all. sum_sizes nested count r few all)

-- ---- statements

-- what holds behind a statement, and behind a block
record Stated (nested : ℕ) (s : Statement) (rest : List Symbol) : Type 0 where
  allowed : AreAllowed nested 0 rest
  names : names_in_statement s ≤ 32
  depth : nested + depth_of_statement s ≤ 32
  few : operators_in_statement s ≤ 256

record Blocked (nested : ℕ) (b : Block) (rest : List Symbol) : Type 0 where
  allowed : AreAllowed nested 0 rest
  names : names_in b ≤ 32
  depth : nested + depth_of b ≤ 32
  few : most_operators b ≤ 256

-- what holds behind a block in braces, which lies one deeper than what is around it
record Braced (nested : ℕ) (b : Block) (rest : List Symbol) : Type 0 where
  allowed : AreAllowed nested 0 rest
  names : names_in b ≤ 32
  depth : nested + 1 + depth_of b ≤ 32
  few : most_operators b ≤ 256

-- what holds behind an expression that stands behind a symbol that none has
record Valued (nested : ℕ) (e : Expression) (rest : List Symbol) : Type 0 where
  allowed : AreAllowed nested (operators_in e) rest
  names : names_in_expression e ≤ 32
  few : operators_in e ≤ 256

whole_expression : (nested : ℕ) {e : Expression} {all rest : List Symbol} → IsExpression e all rest → AreAllowed nested 0 all → Valued nested e rest
whole_expression nested {e} {rest = rest} d all =
    let x = expression_sizes nested 0 d (omega arith) all in
    let count : 0 + operators_in e ≡ operators_in e = omega arith in
    record { allowed = subst (λ n. AreAllowed nested n rest) count x.allowed; names = x.names; few = subst (λ n. n ≤ 256) count x.few }

flat : (nested : ℕ) → nested ≤ 32 → nested + 0 ≤ 32
flat nested fits = omega (arith, fits)

deeper : (nested m n : ℕ) → nested + 1 + m ≤ 32 → nested + 1 + n ≤ 32 → nested + (max m n + 1) ≤ 32
deeper nested m n h k =
    let both : max m n ≤ 31 - nested = max-le (omega (arith, h)) (omega (arith, k)) in
    omega (arith, both, h)

mutual
  statement_sizes : (nested : ℕ) {s : Statement} {all rest : List Symbol} → IsStatement s all rest → nested ≤ 32 →
      AreAllowed nested 0 all → Stated nested s rest
  statement_sizes nested (grammar.assign {k = k} d) fits all =
      let e = whole_expression nested d all.1.1 in
      record { allowed = e.allowed.1; names = max-le (omega (arith, all.0)) e.names; depth = flat nested fits; few = e.few }
  statement_sizes nested (grammar.read {k = k} d) fits all =
      let e = whole_expression nested d all.1.1.1 in
      record { allowed = e.allowed.1.1; names = max-le (omega (arith, all.0)) e.names; depth = flat nested fits; few = e.few }
  statement_sizes nested (grammar.write d q) fits all =
      let e = whole_expression nested d all.1 in
      let f = whole_expression nested q e.allowed.1.1 in
      record { allowed = f.allowed.1; names = max-le e.names f.names; depth = flat nested fits; few = max-le e.few f.few }
  statement_sizes nested (grammar.acquire d) fits all =
      let e = whole_expression nested d all.1 in
      record { allowed = e.allowed.1; names = e.names; depth = flat nested fits; few = e.few }
  statement_sizes nested (grammar.release d) fits all =
      let e = whole_expression nested d all.1 in
      record { allowed = e.allowed.1; names = e.names; depth = flat nested fits; few = e.few }
  statement_sizes nested grammar.barrier fits all =
      record { allowed = all.1.1; names = omega arith; depth = flat nested fits; few = omega arith }
  statement_sizes nested (grammar.print d) fits all =
      let e = whole_expression nested d all.1 in
      record { allowed = e.allowed.1; names = e.names; depth = flat nested fits; few = e.few }
  statement_sizes nested (grammar.if_alone {condition = c} d b) fits all =
      let e = whole_expression nested d all.1 in
      let i = block_sizes nested (operators_in c) b e.allowed in
      record {
        allowed = i.allowed;
        names = max-le e.names (max-le i.names (omega arith));
        depth = deeper nested _ 0 i.depth (omega (arith, i.depth));
        few = max-le e.few (max-le i.few (omega arith));
      }
  statement_sizes nested (grammar.if_else {condition = c} d b q) fits all =
      let e = whole_expression nested d all.1 in
      let i = block_sizes nested (operators_in c) b e.allowed in
      let j = block_sizes nested 0 q i.allowed.1 in
      record {
        allowed = j.allowed;
        names = max-le e.names (max-le i.names j.names);
        depth = deeper nested _ _ i.depth j.depth;
        few = max-le e.few (max-le i.few j.few);
      }
  statement_sizes nested (grammar.while_do {condition = c} {inside = inside} d b) fits all =
      let e = whole_expression nested d all.1 in
      let i = block_sizes nested (operators_in c) b e.allowed in
      let depth : nested + (depth_of inside + 1) ≤ 32 = omega (arith, i.depth) in
      record { allowed = i.allowed; names = max-le e.names i.names; depth = depth; few = max-le e.few i.few }

  block_sizes : (nested operators : ℕ) {b : Block} {all rest : List Symbol} → IsBlock b all rest → AreAllowed nested operators all →
      Braced nested b rest
  block_sizes nested operators {rest = rest} (braces d) all =
      let i = statements_sizes (nested + 1) d (omega (arith, all.0)) all.1 in
      let back : nested + 1 - 1 ≡ nested = omega arith in
      record { allowed = subst (λ n. AreAllowed n 0 rest) back i.allowed.1; names = i.names; depth = i.depth; few = i.few }

  statements_sizes : (nested : ℕ) {b : Block} {all rest : List Symbol} → AreStatements b all rest → nested ≤ 32 →
      AreAllowed nested 0 all → Blocked nested b rest
  statements_sizes nested none fits all = record { allowed = all; names = omega arith; depth = flat nested fits; few = omega arith }
  statements_sizes nested (one_more {first = first} {others = others} d ds) fits all =
      let s = statement_sizes nested d fits all in
      let b = statements_sizes nested ds fits s.allowed in
      let both : max (depth_of_statement first) (depth_of others) ≤ 32 - nested = max-le (omega (arith, s.depth)) (omega (arith, b.depth)) in
      record { allowed = b.allowed; names = max-le s.names b.names; depth = omega (arith, both, fits); few = max-le s.few b.few }

-- ---- tokens

-- the symbol counts as its token does, whatever names came before
sign_opens : (count : ℕ) (mark : Sign) → open_behind count (symbol_of_sign mark) ≡ open_with count (Token.sign mark)
sign_opens count = elim [
  | signs.Semicolon ↦ refl
  | signs.Assign ↦ refl
  | signs.OpenBracket ↦ refl
  | signs.CloseBracket ↦ refl
  | signs.OpenBrace ↦ refl
  | signs.CloseBrace ↦ refl
  | signs.OpenParenthesis ↦ refl
  | signs.CloseParenthesis ↦ refl
  | signs.Plus ↦ refl
  | signs.Minus ↦ refl
  | signs.Star ↦ refl
  | signs.Slash ↦ refl
  | signs.Percent ↦ refl
  | signs.Equal ↦ refl
  | signs.NotEqual ↦ refl
  | signs.Less ↦ refl
  | signs.LessOrEqual ↦ refl
  | signs.Greater ↦ refl
  | signs.GreaterOrEqual ↦ refl
]

opens : (names : Names) (count : ℕ) (t : Token) → open_behind count (symbol_of names t) ≡ open_with count t
opens names count (Token.number n) = refl
opens names count (Token.name bytes) = refl
opens names count (Token.keyword which) = refl
opens names count (Token.sign mark) = sign_opens count mark
opens names count Token.finish = refl

operates : (names : Names) (count : ℕ) (t : Token) → operators_with count (symbol_of names t) ≡ operators_with count (symbol_of [] t)
operates names count (Token.number n) = refl
operates names count (Token.name bytes) = refl
operates names count (Token.keyword which) = refl
operates names count (Token.sign mark) = refl
operates names count Token.finish = refl

less : (m n : ℕ) → (n ≤ m → ⊥) → m < n
less m n h = omega (arith, h)

-- a sign without a fault is allowed
sign_allowed : (nested operators : ℕ) (mark : Sign) → (IsTooDeep nested (Token.sign mark) → ⊥) → (IsOperatorTooMany operators (Token.sign mark) → ⊥) →
    IsAllowed nested operators (symbol_of_sign mark)
sign_allowed nested operators = elim [
  | signs.Semicolon ↦ λ deep many. tt
  | signs.Assign ↦ λ deep many. tt
  | signs.OpenBracket ↦ λ deep many. tt
  | signs.CloseBracket ↦ λ deep many. tt
  | signs.OpenBrace ↦ λ deep many. less nested 32 (λ h. deep (tt, h))
  | signs.CloseBrace ↦ λ deep many. tt
  | signs.OpenParenthesis ↦ λ deep many. tt
  | signs.CloseParenthesis ↦ λ deep many. tt
  | signs.Plus ↦ λ deep many. less operators 256 (λ h. many (tt, h))
  | signs.Minus ↦ λ deep many. less operators 256 (λ h. many (tt, h))
  | signs.Star ↦ λ deep many. less operators 256 (λ h. many (tt, h))
  | signs.Slash ↦ λ deep many. less operators 256 (λ h. many (tt, h))
  | signs.Percent ↦ λ deep many. less operators 256 (λ h. many (tt, h))
  | signs.Equal ↦ λ deep many. less operators 256 (λ h. many (tt, h))
  | signs.NotEqual ↦ λ deep many. less operators 256 (λ h. many (tt, h))
  | signs.Less ↦ λ deep many. less operators 256 (λ h. many (tt, h))
  | signs.LessOrEqual ↦ λ deep many. less operators 256 (λ h. many (tt, h))
  | signs.Greater ↦ λ deep many. less operators 256 (λ h. many (tt, h))
  | signs.GreaterOrEqual ↦ λ deep many. less operators 256 (λ h. many (tt, h))
]

-- what is found has a place
found_at : (here : Bool) (n m : ℕ) (others : Bool) → (here || others) ≡ true → (others ≡ true → n < m) → cond (not here) (1 + n) 0 < suc m
found_at true n m others e h = omega arith
found_at false n m others e h = omega (arith, h e)

found_below : {A : Type 0} (p : A → Bool) (xs : List A) → list_any p xs ≡ true → position_or_len p xs < length xs
found_below p [] e = cc
found_below p (x ∷ xs) e = found_at (p x) (position_or_len p xs) (length xs) (list_any p xs) e (found_below p xs)

-- a name without a fault has a number below 32, and leaves at most 32 names
name_cases : (names : Names) (bytes : List ℕ) (known : Bool) → is_among names bytes ≡ known → length names ≤ 32 →
    (IsNameTooMany names (Token.name bytes) → ⊥) →
    (number_of names bytes < 32) × (length (names_with names (Token.name bytes)) ≤ 32)
name_cases names bytes true e few many =
    let below = found_below (λ other. bytes_eq other bytes) names e in
    (omega (arith, below, few), subst (λ b. length (if b then names else names ++ bytes ∷ []) ≤ 32) (sym e) few)
name_cases names bytes false e few many =
    let small : length names < 32 = less (length names) 32 (λ h. many (e, h)) in
    let at_most = position-le (λ other. bytes_eq other bytes) names in
    let longer : length (names ++ bytes ∷ []) ≤ 32 = omega (arith, small, length-append names (bytes ∷ [])) in
    (omega (arith, at_most, small), subst (λ b. length (if b then names else names ++ bytes ∷ []) ≤ 32) (sym e) longer)

-- a token without a fault is allowed, and leaves at most 32 names
token_allowed : (names : Names) (nested operators : ℕ) (t : Token) → length names ≤ 32 → (IsTooDeep nested t → ⊥) →
    (IsNameTooMany names t → ⊥) → (IsOperatorTooMany operators t → ⊥) → IsAllowed nested operators (symbol_of names t) × (length (names_with names t) ≤ 32)
token_allowed names nested operators (Token.number n) few deep many over = (tt, few)
token_allowed names nested operators (Token.name bytes) few deep many over = name_cases names bytes (is_among names bytes) refl few many
token_allowed names nested operators (Token.keyword which) few deep many over = (tt, few)
token_allowed names nested operators (Token.sign mark) few deep many over = (sign_allowed nested operators mark deep over, few)
token_allowed names nested operators Token.finish few deep many over = (tt, few)

-- tokens without a fault are allowed
faultless_allowed : (before : List Token) (lexemes : List Placed) (tokens : List Token) → AreFaultless before lexemes tokens →
    length (names_of before) ≤ 32 → AreAllowed (open_of before) (operators_of before) (symbols_after (names_of before) tokens)
faultless_allowed before [] tokens are few =
    subst (λ all. AreAllowed (open_of before) (operators_of before) (symbols_after (names_of before) all)) (sym are) tt
faultless_allowed before (found ∷ others) [] are few = absurd are
faultless_allowed before (found ∷ others) (t ∷ tokens) are few =
    let names = names_of before in
    let nested = open_of before in
    let operators = operators_of before in
    let taken = token_allowed names nested operators t few (are.1 TooDeep) (are.1 TooManyNames) (λ over. are.1 OverLimit (inr over)) in
    let names_are : names_of (before ++ t ∷ []) ≡ names_with names t = fold-append _ [] before (t ∷ []) in
    let open_is : open_of (before ++ t ∷ []) ≡ open_behind nested (symbol_of names t) = fold-append _ 0 before (t ∷ []) ∙ sym (opens names nested t) in
    let operators_are : operators_of (before ++ t ∷ []) ≡ operators_with operators (symbol_of names t) =
    fold-append _ 0 before (t ∷ []) ∙ sym (operates names operators t) in
    let rest = faultless_allowed (before ++ t ∷ []) others tokens are.2 (subst (λ n. length n ≤ 32) (sym names_are) taken.1) in (
      taken.0,
      subst (λ n. AreAllowed (open_behind nested (symbol_of names t)) (operators_with operators (symbol_of names t)) (symbols_after n tokens)) names_are
          (subst (λ n. AreAllowed n (operators_with operators (symbol_of names t)) (symbols_after (names_of (before ++ t ∷ [])) tokens)) open_is
          (subst (λ n. AreAllowed (open_of (before ++ t ∷ [])) n (symbols_after (names_of (before ++ t ∷ [])) tokens)) operators_are rest)),
    )

-- ---- texts

program_sizes : (p : ProgramTree) (all : List Symbol) → AreSymbolsOf p all → AreAllowed 0 0 all →
    (names_in p.statements ≤ 32) × (depth_of p.statements ≤ 32) × (most_operators p.statements ≤ 256)
program_sizes p all (program d) allowed =
    let b = statements_sizes 0 d (omega arith) allowed.1.1.1.1.1.1 in
    let depth : depth_of p.statements ≤ 32 = omega (arith, b.depth) in
    (b.names, depth, b.few)

-- the program of a text is within the limits
pub text_sizes : (text : List ℕ) (p : ProgramTree) → IsText text p →
    (names_in p.statements ≤ 32) × (depth_of p.statements ≤ 32) × (most_operators p.statements ≤ 256)
text_sizes text p is = program_sizes p _ is.parsed (faultless_allowed [] is.lexemes is.tokens is.faultless (omega arith))

-- each of the three by itself
pub text_names : (text : List ℕ) (p : ProgramTree) → IsText text p → names_in p.statements ≤ 32
text_names text p is = (text_sizes text p is).0

pub text_depth : (text : List ℕ) (p : ProgramTree) → IsText text p → depth_of p.statements ≤ 32
text_depth text p is = (text_sizes text p is).1

pub text_operators : (text : List ℕ) (p : ProgramTree) → IsText text p → most_operators p.statements ≤ 256
text_operators text p is = (text_sizes text p is).2
