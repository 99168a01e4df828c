-- The places that the grammar gives are those of the tokens that are looked for.
use Rattle.std.proofs.Common.{◌≡◌, ◌∙◌, ◌+◌, ◌-◌, ℕ, zero, suc, ap, sym, refl, arith, List, [], ◌∷◌, ◌++◌, length, map, drop, Bool, append_assoc, append-nil}
use Rattle.std.specs.Prelude.{cond, true, false, not}
use Rattle.lrc_lang.specs.declared.token.Keyword.{Keyword}
use Rattle.lrc_lang.specs.declared.token.Keyword.TheVariants as keywords
use Rattle.lrc_lang.specs.declared.token.Sign.{Sign}
use Rattle.lrc_lang.specs.declared.token.Sign.TheVariants as signs
use Rattle.lrc_lang.specs.Token as tokens
use Rattle.lrc_lang.specs.Token.{Token}
use Rattle.lrc_lang.specs.Symbol.{Symbol, number, name, operator, keyword, sign, finish, Names, names_with, symbol_of_sign, symbol_of, symbols_after, symbols}
use Rattle.lrc_program.specs.Tree.{Expression, Statement, Block, ProgramTree}
use Rattle.lrc_lang.specs.Grammar as grammar
use Rattle.lrc_lang.specs.Grammar.{IsFactor, IsTerm, IsSum, IsExpression, IsStatement, IsBlock, AreStatements, AreSymbolsOf}
use Rattle.lrc_lang.specs.Lines.{begins_within, begins_in_block, begins, begins_in}
use Rattle.lrc_lint_warned.specs.declared.places.Scan.{Scan}
use Rattle.lrc_lint_warned.specs.declared.places.Scan.TheVariants.{Statements, Nodes}
use Rattle.lrc_lint_warned.specs.Derived.{expression_places, factor_places, nodes_begin_in, nodes_of_all, nodes_of_block, nodes_of_statement, place_in, sum_places, term_places}
use Rattle.lrc_lint_warned.specs.Places.{begins_statement, is_node, is_seam, is_wanted, places_from, places_in}

-- ---- over symbols

abbrev seam : Symbol → Bool
seam (sign signs.Semicolon) = true
seam (sign signs.OpenBrace) = true
seam (sign signs.CloseBrace) = true
seam _ = false

abbrev starts : Bool → Symbol → Bool
starts behind finish = false
starts behind (keyword keywords.Else) = false
starts behind (sign signs.CloseBrace) = false
starts behind _ = behind

abbrev node : Bool → Symbol → Bool
node behind (number n) = true
node behind (name k) = not behind
node behind (operator o) = true
node behind (keyword keywords.Me) = true
node behind (keyword keywords.Nodes) = true
node behind _ = false

abbrev wanted : Scan → Bool → Symbol → Bool
wanted Statements = starts
wanted Nodes = node

abbrev walk : Scan → Bool → List Symbol → List (List Symbol)
walk scan behind [] = []
walk scan behind (s ∷ more) = cond (wanted scan behind s) ((s ∷ more) ∷ []) [] ++ walk scan (seam s) more

-- in an expression no statement begins
mutual
  factor_quiet : {e : Expression} {all rest : List Symbol} → IsFactor e all rest → walk Statements false all ≡ walk Statements false rest
  factor_quiet grammar.a_number = refl
  factor_quiet grammar.a_name = refl
  factor_quiet grammar.me = refl
  factor_quiet grammar.nodes = refl
  factor_quiet (grammar.parentheses inside) = quiet inside

  term_quiet : {e : Expression} {all rest : List Symbol} → IsTerm e all rest → walk Statements false all ≡ walk Statements false rest
  term_quiet (grammar.factor f) = factor_quiet f
  term_quiet (grammar.product left is right) = term_quiet left ∙ factor_quiet right

  sum_quiet : {e : Expression} {all rest : List Symbol} → IsSum e all rest → walk Statements false all ≡ walk Statements false rest
  sum_quiet (grammar.term t) = term_quiet t
  sum_quiet (grammar.sum left is right) = sum_quiet left ∙ term_quiet right

  quiet : {e : Expression} {all rest : List Symbol} → IsExpression e all rest → walk Statements false all ≡ walk Statements false rest
  quiet (grammar.one_sum s) = sum_quiet s
  quiet (grammar.comparison left is right) = sum_quiet left ∙ sum_quiet right

mutual
  statement_begun : {s : Statement} {all rest : List Symbol} (d : IsStatement s all rest)
      → walk Statements true all ≡ all ∷ (begins_within d ++ walk Statements true rest)
  statement_begun {all = all} (grammar.assign value) = ap (λ l. all ∷ l) (quiet value)
  statement_begun {all = all} (grammar.read word) = ap (λ l. all ∷ l) (quiet word)
  statement_begun {all = all} (grammar.write word value) = ap (λ l. all ∷ l) (quiet word ∙ quiet value)
  statement_begun {all = all} (grammar.acquire lock) = ap (λ l. all ∷ l) (quiet lock)
  statement_begun {all = all} (grammar.release lock) = ap (λ l. all ∷ l) (quiet lock)
  statement_begun grammar.barrier = refl
  statement_begun {all = all} (grammar.print value) = ap (λ l. all ∷ l) (quiet value)
  statement_begun {all = all} (grammar.if_alone condition first) = ap (λ l. all ∷ l) (quiet condition ∙ block_begun first)
  statement_begun {all = all} {rest = rest} (grammar.if_else condition first otherwise) =
      ap (λ l. all ∷ l)
      (quiet condition ∙ block_begun first ∙ ap (λ l. begins_in_block first ++ l) (block_begun otherwise)
      ∙ sym (append_assoc (begins_in_block first) (begins_in_block otherwise) (walk Statements true rest)))
  statement_begun {all = all} (grammar.while_do condition inside) = ap (λ l. all ∷ l) (quiet condition ∙ block_begun inside)

  block_begun : {b : Block} {all rest : List Symbol} (d : IsBlock b all rest) → walk Statements false all ≡ begins_in_block d ++ walk Statements true rest
  block_begun (grammar.braces inside) = all_begun inside

  all_begun : {b : Block} {all rest : List Symbol} (d : AreStatements b all rest) → walk Statements true all ≡ begins d ++ walk Statements true rest
  all_begun grammar.none = refl
  all_begun {rest = rest} (grammar.one_more {all = all} first others) =
      statement_begun first ∙ ap (λ l. all ∷ l)
      (ap (λ l. begins_within first ++ l) (all_begun others) ∙ sym (append_assoc (begins_within first) (begins others) (walk Statements true rest)))

-- operands and operators
two : (left right rest : List (List Symbol)) (sign_place : List Symbol) → left ++ (sign_place ∷ (right ++ rest)) ≡ (left ++ sign_place ∷ right) ++ rest
two left right rest sign_place = sym (append_assoc left (sign_place ∷ right) rest)

mutual
  factor_nodes : {e : Expression} {all rest : List Symbol} (d : IsFactor e all rest) → walk Nodes false all ≡ factor_places d ++ walk Nodes false rest
  factor_nodes grammar.a_number = refl
  factor_nodes grammar.a_name = refl
  factor_nodes grammar.me = refl
  factor_nodes grammar.nodes = refl
  factor_nodes (grammar.parentheses inside) = expression_nodes inside

  term_nodes : {e : Expression} {all rest : List Symbol} (d : IsTerm e all rest) → walk Nodes false all ≡ term_places d ++ walk Nodes false rest
  term_nodes (grammar.factor f) = factor_nodes f
  term_nodes {rest = rest} (grammar.product {o = o} {more = more} left is right) =
      term_nodes left ∙ ap (λ l. term_places left ++ ((operator o ∷ more) ∷ l)) (factor_nodes right)
      ∙ two (term_places left) (factor_places right) (walk Nodes false rest) (operator o ∷ more)

  sum_nodes : {e : Expression} {all rest : List Symbol} (d : IsSum e all rest) → walk Nodes false all ≡ sum_places d ++ walk Nodes false rest
  sum_nodes (grammar.term t) = term_nodes t
  sum_nodes {rest = rest} (grammar.sum {o = o} {more = more} left is right) =
      sum_nodes left ∙ ap (λ l. sum_places left ++ ((operator o ∷ more) ∷ l)) (term_nodes right)
      ∙ two (sum_places left) (term_places right) (walk Nodes false rest) (operator o ∷ more)

  expression_nodes : {e : Expression} {all rest : List Symbol} (d : IsExpression e all rest)
      → walk Nodes false all ≡ expression_places d ++ walk Nodes false rest
  expression_nodes (grammar.one_sum s) = sum_nodes s
  expression_nodes {rest = rest} (grammar.comparison {o = o} {more = more} left is right) =
      sum_nodes left ∙ ap (λ l. sum_places left ++ ((operator o ∷ more) ∷ l)) (sum_nodes right)
      ∙ two (sum_places left) (sum_places right) (walk Nodes false rest) (operator o ∷ more)

mutual
  statement_nodes : {s : Statement} {all rest : List Symbol} (d : IsStatement s all rest)
      → walk Nodes true all ≡ nodes_of_statement d ++ walk Nodes true rest
  statement_nodes (grammar.assign value) = expression_nodes value
  statement_nodes (grammar.read word) = expression_nodes word
  statement_nodes {rest = rest} (grammar.write word value) =
      expression_nodes word ∙ ap (λ l. expression_places word ++ l) (expression_nodes value)
      ∙ sym (append_assoc (expression_places word) (expression_places value) (walk Nodes true rest))
  statement_nodes (grammar.acquire lock) = expression_nodes lock
  statement_nodes (grammar.release lock) = expression_nodes lock
  statement_nodes grammar.barrier = refl
  statement_nodes (grammar.print value) = expression_nodes value
  statement_nodes {rest = rest} (grammar.if_alone condition first) =
      expression_nodes condition ∙ ap (λ l. expression_places condition ++ l) (block_nodes first)
      ∙ sym (append_assoc (expression_places condition) (nodes_of_block first) (walk Nodes true rest))
  statement_nodes {rest = rest} (grammar.if_else condition first otherwise) =
      expression_nodes condition
      ∙ ap (λ l. expression_places condition ++ l)
      (block_nodes first ∙ ap (λ l. nodes_of_block first ++ l) (block_nodes otherwise)
      ∙ sym (append_assoc (nodes_of_block first) (nodes_of_block otherwise) (walk Nodes true rest)))
      ∙ sym (append_assoc (expression_places condition) (nodes_of_block first ++ nodes_of_block otherwise) (walk Nodes true rest))
  statement_nodes {rest = rest} (grammar.while_do condition inside) =
      expression_nodes condition ∙ ap (λ l. expression_places condition ++ l) (block_nodes inside)
      ∙ sym (append_assoc (expression_places condition) (nodes_of_block inside) (walk Nodes true rest))

  block_nodes : {b : Block} {all rest : List Symbol} (d : IsBlock b all rest) → walk Nodes false all ≡ nodes_of_block d ++ walk Nodes true rest
  block_nodes (grammar.braces inside) = all_nodes inside

  all_nodes : {b : Block} {all rest : List Symbol} (d : AreStatements b all rest) → walk Nodes true all ≡ nodes_of_all d ++ walk Nodes true rest
  all_nodes grammar.none = refl
  all_nodes {rest = rest} (grammar.one_more first others) =
      statement_nodes first ∙ ap (λ l. nodes_of_statement first ++ l) (all_nodes others)
      ∙ sym (append_assoc (nodes_of_statement first) (nodes_of_all others) (walk Nodes true rest))

program_begun : {p : ProgramTree} {all : List Symbol} (d : AreSymbolsOf p all) → walk Statements true (drop 6 all) ≡ begins_in d
program_begun (grammar.program statements) = all_begun statements ∙ append-nil (begins statements)

program_nodes : {p : ProgramTree} {all : List Symbol} (d : AreSymbolsOf p all) → walk Nodes true (drop 6 all) ≡ nodes_begin_in d
program_nodes (grammar.program statements) = all_nodes statements ∙ append-nil (nodes_of_all statements)

header_long : {p : ProgramTree} {all : List Symbol} (d : AreSymbolsOf p all) → 6 + length (drop 6 all) ≡ length all
header_long (grammar.program {more = more} statements) = omega arith

-- ---- over tokens

seam_sign : (which : Sign) → is_seam (tokens.sign which) ≡ seam (symbol_of_sign which)
seam_sign signs.Semicolon = refl
seam_sign signs.OpenBrace = refl
seam_sign signs.CloseBrace = refl
seam_sign _ = refl

seam_same : (names : Names) (t : Token) → is_seam t ≡ seam (symbol_of names t)
seam_same names (tokens.number n) = refl
seam_same names (tokens.name bytes) = refl
seam_same names (tokens.keyword which) = refl
seam_same names (tokens.sign which) = seam_sign which
seam_same names tokens.finish = refl

starts_keyword : (behind : Bool) (which : Keyword) → begins_statement behind (tokens.keyword which) ≡ starts behind (keyword which)
starts_keyword behind keywords.Else = refl
starts_keyword behind _ = refl

starts_sign : (behind : Bool) (which : Sign) → begins_statement behind (tokens.sign which) ≡ starts behind (symbol_of_sign which)
starts_sign behind signs.CloseBrace = refl
starts_sign behind _ = refl

node_keyword : (behind : Bool) (which : Keyword) → is_node behind (tokens.keyword which) ≡ node behind (keyword which)
node_keyword behind keywords.Me = refl
node_keyword behind keywords.Nodes = refl
node_keyword behind _ = refl

node_sign : (behind : Bool) (which : Sign) → is_node behind (tokens.sign which) ≡ node behind (symbol_of_sign which)
node_sign behind signs.Semicolon = refl
node_sign behind signs.Assign = refl
node_sign behind signs.OpenBracket = refl
node_sign behind signs.CloseBracket = refl
node_sign behind signs.OpenBrace = refl
node_sign behind signs.CloseBrace = refl
node_sign behind signs.OpenParenthesis = refl
node_sign behind signs.CloseParenthesis = refl
node_sign behind _ = refl

wanted_same : (scan : Scan) (behind : Bool) (names : Names) (t : Token) → is_wanted scan behind t ≡ wanted scan behind (symbol_of names t)
wanted_same Statements behind names (tokens.number n) = refl
wanted_same Statements behind names (tokens.name bytes) = refl
wanted_same Statements behind names (tokens.keyword which) = starts_keyword behind which
wanted_same Statements behind names (tokens.sign which) = starts_sign behind which
wanted_same Statements behind names tokens.finish = refl
wanted_same Nodes behind names (tokens.number n) = refl
wanted_same Nodes behind names (tokens.name bytes) = refl
wanted_same Nodes behind names (tokens.keyword which) = node_keyword behind which
wanted_same Nodes behind names (tokens.sign which) = node_sign behind which
wanted_same Nodes behind names tokens.finish = refl

length_symbols : (names : Names) (ts : List Token) → length (symbols_after names ts) ≡ length ts
length_symbols names [] = refl
length_symbols names (t ∷ ts) = ap suc (length_symbols (names_with names t) ts)

one_placed : (b : Bool) (at : ℕ) (place : List Symbol) (f : List Symbol → ℕ) (rest : List (List Symbol)) → at ≡ f place
    → cond b (at ∷ []) [] ++ map f rest ≡ map f (cond b (place ∷ []) [] ++ rest)
one_placed true at place f rest e = ap (λ n. n ∷ map f rest) e
one_placed false at place f rest e = refl

walked : (scan : Scan) (at : ℕ) (behind : Bool) (names : Names) (ts : List Token) (whole : ℕ) → at + length ts ≡ whole
    → places_from scan at behind ts ≡ map (λ rest. whole - length rest) (walk scan behind (symbols_after names ts))
walked scan at behind names [] whole long = refl
walked scan at behind names (t ∷ ts) whole long =
    let s = symbol_of names t in
    let more = symbols_after (names_with names t) ts in
    let f : List Symbol → ℕ = λ rest. whole - length rest in
    let here : at ≡ f (s ∷ more) = omega (arith, long, length_symbols (names_with names t) ts) in
    let next : at + 1 + length ts ≡ whole = omega (arith, long) in
    ap (λ b. cond b (at ∷ []) [] ++ places_from scan (at + 1) (is_seam t) ts) (wanted_same scan behind names t)
    ∙ ap (λ b. cond (wanted scan behind s) (at ∷ []) [] ++ places_from scan (at + 1) b ts) (seam_same names t)
    ∙ ap (λ l. cond (wanted scan behind s) (at ∷ []) [] ++ l) (walked scan (at + 1) (seam s) (names_with names t) ts whole next)
    ∙ one_placed (wanted scan behind s) at (s ∷ more) f (walk scan (seam s) more) here

-- the symbols of what stands behind some tokens
behind_names : ℕ → Names → List Token → Names
behind_names zero names ts = names
behind_names (suc n) names [] = names
behind_names (suc n) names (t ∷ ts) = behind_names n (names_with names t) ts

symbols_drop : (n : ℕ) (names : Names) (ts : List Token) → symbols_after (behind_names n names ts) (drop n ts) ≡ drop n (symbols_after names ts)
unfolding behind_names
symbols_drop zero names ts = refl
symbols_drop (suc n) names [] = refl
symbols_drop (suc n) names (t ∷ ts) = symbols_drop n (names_with names t) ts

walked_all : (scan : Scan) (ts : List Token) → 6 + length (drop 6 (symbols ts)) ≡ length (symbols ts)
    → places_in scan ts ≡ map (place_in (symbols ts)) (walk scan true (drop 6 (symbols ts)))
walked_all scan ts long =
    let names = behind_names 6 [] ts in
    let same : symbols_after names (drop 6 ts) ≡ drop 6 (symbols ts) = symbols_drop 6 [] ts in
    let whole : 6 + length (drop 6 ts) ≡ length (symbols ts) = omega (arith, long, length_symbols names (drop 6 ts), ap length same) in
    walked scan 6 true names (drop 6 ts) (length (symbols ts)) whole
    ∙ ap (λ l. map (place_in (symbols ts)) (walk scan true l)) same

pub statements_stand : (p : ProgramTree) (ts : List Token) (d : AreSymbolsOf p (symbols ts))
    → places_in Statements ts ≡ map (place_in (symbols ts)) (begins_in d)
statements_stand p ts d = walked_all Statements ts (header_long d) ∙ ap (map (place_in (symbols ts))) (program_begun d)

pub nodes_stand : (p : ProgramTree) (ts : List Token) (d : AreSymbolsOf p (symbols ts))
    → places_in Nodes ts ≡ map (place_in (symbols ts)) (nodes_begin_in d)
nodes_stand p ts d = walked_all Nodes ts (header_long d) ∙ ap (map (place_in (symbols ts))) (program_nodes d)
