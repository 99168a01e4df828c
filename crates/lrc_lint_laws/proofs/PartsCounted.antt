-- As many parts of expressions have places as there are.
use Rattle.std.proofs.Common.{◌≡◌, ◌∙◌, List, [], ◌∷◌, ◌++◌, append-nil, length, refl, sym, ap, arith}
use Rattle.std.specs.List.{flat_map}
use Rattle.std.proofs.lemmas.Grind.{flat_map-append}
use Rattle.std.proofs.lemmas.List.{length-append, length-map}
use Rattle.lrc_lang.specs.Symbol.{Symbol, symbols}
use Rattle.lrc_lang.specs.Token.{Token}
use Rattle.lrc_program.specs.Tree.{Expression, Statement, Block, ProgramTree}
use Rattle.lrc_lang.specs.Grammar as grammar
use Rattle.lrc_lang.specs.Grammar.{IsFactor, IsTerm, IsSum, IsExpression, IsStatement, IsBlock, AreStatements, AreSymbolsOf, IsProgram}
use Rattle.lrc_lint_warned.specs.declared.places.Scan.TheVariants.{Nodes}
use Rattle.lrc_lint_warned.specs.Derived.{expression_places, factor_places, nodes_begin_in, nodes_of_all, nodes_of_block, nodes_of_statement, place_in}
use Rattle.lrc_lint_warned.specs.Derived.{sum_places, term_places}
use Rattle.lrc_lint_warned.specs.Inside.{nodes_in, nodes_of, statements_in, within}
use Rattle.lrc_lint_warned.specs.Places.{places_in}
use Rattle.lrc_lint_warned.proofs.Derived.{nodes_stand}
use Rattle.lrc_lint_laws.proofs.Counted.{same_sum}

same_join : {A B : Type 0} (a : List A) (x : List B) (c : List A) (y : List B) (p : A) (n : B) → length a ≡ length x → length c ≡ length y
    → length (a ++ p ∷ c) ≡ length (x ++ n ∷ y)
same_join a x c y p n one other = omega (arith, one, other, length-append a (p ∷ c), length-append x (n ∷ y))

mutual
  count_factor : {e : Expression} {all rest : List Symbol} (d : IsFactor e all rest) → length (factor_places d) ≡ length (nodes_in e)
  count_factor grammar.a_number = refl
  count_factor grammar.a_name = refl
  count_factor grammar.me = refl
  count_factor grammar.nodes = refl
  count_factor (grammar.parentheses inside) = count_expression inside

  count_term : {e : Expression} {all rest : List Symbol} (d : IsTerm e all rest) → length (term_places d) ≡ length (nodes_in e)
  count_term (grammar.factor f) = count_factor f
  count_term (grammar.product {left = l} {right = r} {o = o} {more = more} left is right) =
      same_join (term_places left) (nodes_in l) (factor_places right) (nodes_in r) _ _ (count_term left) (count_factor right)

  count_sum : {e : Expression} {all rest : List Symbol} (d : IsSum e all rest) → length (sum_places d) ≡ length (nodes_in e)
  count_sum (grammar.term t) = count_term t
  count_sum (grammar.sum {left = l} {right = r} left is right) =
      same_join (sum_places left) (nodes_in l) (term_places right) (nodes_in r) _ _ (count_sum left) (count_term right)

  count_expression : {e : Expression} {all rest : List Symbol} (d : IsExpression e all rest) → length (expression_places d) ≡ length (nodes_in e)
  count_expression (grammar.one_sum s) = count_sum s
  count_expression (grammar.comparison {left = l} {right = r} left is right) =
      same_join (sum_places left) (nodes_in l) (sum_places right) (nodes_in r) _ _ (count_sum left) (count_sum right)

ends_there : (l : List (List Symbol)) (parts : List Expression) → length l ≡ length parts → length l ≡ length (parts ++ [])
ends_there l parts same = same ∙ ap length (sym (append-nil parts))

mutual
  parts_statement : {s : Statement} {all rest : List Symbol} (d : IsStatement s all rest) → length (nodes_of_statement d) ≡ length (flat_map nodes_of (s ∷ within s))
  parts_statement (grammar.assign {value = e} value) = ends_there (expression_places value) (nodes_of (Statement.assign 0 e)) (ends_there _ (nodes_in e) (count_expression value))
  parts_statement (grammar.read {word = e} word) = ends_there (expression_places word) (nodes_of (Statement.read 0 e)) (ends_there _ (nodes_in e) (count_expression word))
  parts_statement (grammar.write {word = e} {value = v} word value) =
      ends_there (expression_places word ++ expression_places value) (nodes_of (Statement.write e v))
      (same_sum (expression_places word) (expression_places value) (nodes_in e) (nodes_in v ++ []) (count_expression word)
      (ends_there (expression_places value) (nodes_in v) (count_expression value)))
  parts_statement (grammar.acquire {lock = e} lock) = ends_there (expression_places lock) (nodes_of (Statement.acquire e)) (ends_there _ (nodes_in e) (count_expression lock))
  parts_statement (grammar.release {lock = e} lock) = ends_there (expression_places lock) (nodes_of (Statement.release e)) (ends_there _ (nodes_in e) (count_expression lock))
  parts_statement grammar.barrier = refl
  parts_statement (grammar.print {value = e} value) = ends_there (expression_places value) (nodes_of (Statement.print e)) (ends_there _ (nodes_in e) (count_expression value))
  parts_statement (grammar.if_alone {condition = c} {then = then} condition first) =
      same_sum (expression_places condition) (nodes_of_block first) (nodes_of (Statement.if_else c then Block.empty)) (flat_map nodes_of (statements_in then ++ []))
      (ends_there _ (nodes_in c) (count_expression condition))
      (parts_block first ∙ ap (λ l. length (flat_map nodes_of l)) (sym (append-nil (statements_in then))))
  parts_statement (grammar.if_else {condition = c} {then = then} {otherwise = otherwise} condition first second) =
      same_sum (expression_places condition) (nodes_of_block first ++ nodes_of_block second) (nodes_of (Statement.if_else c then otherwise))
      (flat_map nodes_of (statements_in then ++ statements_in otherwise)) (ends_there _ (nodes_in c) (count_expression condition))
      (same_sum (nodes_of_block first) (nodes_of_block second) (flat_map nodes_of (statements_in then)) (flat_map nodes_of (statements_in otherwise))
      (parts_block first) (parts_block second) ∙ ap length (sym (flat_map-append nodes_of (statements_in then) (statements_in otherwise))))
  parts_statement (grammar.while_do {condition = c} {inside = inside} condition block) =
      same_sum (expression_places condition) (nodes_of_block block) (nodes_of (Statement.while_do c inside)) (flat_map nodes_of (statements_in inside))
      (ends_there _ (nodes_in c) (count_expression condition)) (parts_block block)

  parts_block : {b : Block} {all rest : List Symbol} (d : IsBlock b all rest) → length (nodes_of_block d) ≡ length (flat_map nodes_of (statements_in b))
  parts_block (grammar.braces inside) = parts_all inside

  parts_all : {b : Block} {all rest : List Symbol} (d : AreStatements b all rest) → length (nodes_of_all d) ≡ length (flat_map nodes_of (statements_in b))
  parts_all grammar.none = refl
  parts_all (grammar.one_more {first = first} {others = others} one more) =
      same_sum (nodes_of_statement one) (nodes_of_all more) (flat_map nodes_of (first ∷ within first)) (flat_map nodes_of (statements_in others))
      (parts_statement one) (parts_all more)
      ∙ ap length (sym (flat_map-append nodes_of (first ∷ within first) (statements_in others)))

parts_program : {p : ProgramTree} {all : List Symbol} (d : AreSymbolsOf p all) → length (nodes_begin_in d) ≡ length (flat_map nodes_of (statements_in p.statements))
parts_program (grammar.program statements) = parts_all statements

pub as_many_parts : (p : ProgramTree) (tokens : List Token) → IsProgram p tokens
    → length (places_in Nodes tokens) ≡ length (flat_map nodes_of (statements_in p.statements))
as_many_parts p tokens d =
    ap length (nodes_stand p tokens d) ∙ length-map (nodes_begin_in d) (place_in (symbols tokens)) ∙ parts_program d
