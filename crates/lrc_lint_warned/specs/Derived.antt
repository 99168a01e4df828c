-- Where the parts of expressions stand in a program, by the grammar. A place is what stands from there to the text's end.
use Rattle.std.specs.Prelude.{ℕ, ◌-◌, List, [], ◌∷◌, ◌++◌, length}
use Rattle.lrc_lang.specs.Symbol.{Symbol, operator}
use Rattle.lrc_program.specs.Tree.{Expression, Statement, Block, ProgramTree}
use Rattle.lrc_lang.specs.Grammar.{IsFactor, a_number, a_name, me, nodes, parentheses, IsTerm, factor, product, IsSum, term, sum, IsExpression, one_sum, comparison}
use Rattle.lrc_lang.specs.Grammar.{IsStatement, assign, read, write, acquire, release, barrier, print, if_alone, if_else, while_do}
use Rattle.lrc_lang.specs.Grammar.{IsBlock, braces, AreStatements, none, one_more, AreSymbolsOf, program}

-- the places of the operands and the operators of an expression, in the order of the text; brackets have none
abbrev mutual
  pub factor_places : {e : Expression} {all rest : List Symbol} → IsFactor e all rest → List (List Symbol)
  factor_places {all = all} a_number = all ∷ []
  factor_places {all = all} a_name = all ∷ []
  factor_places {all = all} me = all ∷ []
  factor_places {all = all} nodes = all ∷ []
  factor_places (parentheses inside) = expression_places inside

  pub term_places : {e : Expression} {all rest : List Symbol} → IsTerm e all rest → List (List Symbol)
  term_places (factor f) = factor_places f
  term_places (product {o = o} {more = more} left is right) = term_places left ++ (operator o ∷ more) ∷ factor_places right

  pub sum_places : {e : Expression} {all rest : List Symbol} → IsSum e all rest → List (List Symbol)
  sum_places (term t) = term_places t
  sum_places (sum {o = o} {more = more} left is right) = sum_places left ++ (operator o ∷ more) ∷ term_places right

  pub expression_places : {e : Expression} {all rest : List Symbol} → IsExpression e all rest → List (List Symbol)
  expression_places (one_sum s) = sum_places s
  expression_places (comparison {o = o} {more = more} left is right) = sum_places left ++ (operator o ∷ more) ∷ sum_places right

-- the same of all expressions of a statement, of a block and of a program
abbrev mutual
  pub nodes_of_statement : {s : Statement} {all rest : List Symbol} → IsStatement s all rest → List (List Symbol)
  nodes_of_statement (assign value) = expression_places value
  nodes_of_statement (read word) = expression_places word
  nodes_of_statement (write word value) = expression_places word ++ expression_places value
  nodes_of_statement (acquire lock) = expression_places lock
  nodes_of_statement (release lock) = expression_places lock
  nodes_of_statement barrier = []
  nodes_of_statement (print value) = expression_places value
  nodes_of_statement (if_alone condition first) = expression_places condition ++ nodes_of_block first
  nodes_of_statement (if_else condition first otherwise) = expression_places condition ++ (nodes_of_block first ++ nodes_of_block otherwise)
  nodes_of_statement (while_do condition inside) = expression_places condition ++ nodes_of_block inside

  pub nodes_of_block : {b : Block} {all rest : List Symbol} → IsBlock b all rest → List (List Symbol)
  nodes_of_block (braces inside) = nodes_of_all inside

  pub nodes_of_all : {b : Block} {all rest : List Symbol} → AreStatements b all rest → List (List Symbol)
  nodes_of_all none = []
  nodes_of_all (one_more first others) = nodes_of_statement first ++ nodes_of_all others

abbrev pub nodes_begin_in : {p : ProgramTree} {all : List Symbol} → AreSymbolsOf p all → List (List Symbol)
nodes_begin_in (program statements) = nodes_of_all statements

-- which token of a text that is, from 0, which begins what stands from a place to the text's end
abbrev pub place_in : List Symbol → List Symbol → ℕ
place_in all rest = length all - length rest
