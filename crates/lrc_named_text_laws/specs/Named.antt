-- The private names of a core, by their first place in its text.
use Rattle.std.specs.Prelude.{ℕ, List}
use Rattle.lrc_lang.specs.Symbol.{Names, names_with, number_of}
use Rattle.lrc_lang.specs.Token as token
use Rattle.lrc_named_core.specs.Tree.{Private, own, named, Expression, number, private, me, nodes, binary, Statement, Block, empty, next}
use Rattle.lrc_named_core.specs.Tree.{assign, read, write, acquire, release, barrier, print, if_else, while_do}
use Rattle.lrc_named_text.specs.Expressions.{private_text}
use Rattle.lrc_named_acts_laws.specs.Coded.{Numbers}

-- the names once this one has come too, those of an expression, and those of statements
abbrev pub with_name : Names → Private → Names
with_name names name = names_with names (token.name (private_text name))

abbrev pub with_expression : Names → Expression → Names
with_expression names (number n) = names
with_expression names (private name) = with_name names name
with_expression names me = names
with_expression names nodes = names
with_expression names (binary left o right) = with_expression (with_expression names left) right

abbrev mutual
  pub with_statement : Names → Statement → Names
  with_statement names (assign origin name value) = with_expression (with_name names name) value
  with_statement names (read origin name word) = with_expression (with_name names name) word
  with_statement names (write origin word value) = with_expression (with_expression names word) value
  with_statement names (acquire origin word) = with_expression names word
  with_statement names (release origin word) = with_expression names word
  with_statement names (barrier origin) = names
  with_statement names (print origin value) = with_expression names value
  with_statement names (if_else origin condition first second) = with_statements (with_statements (with_expression names condition) first) second
  with_statement names (while_do origin condition inside) = with_statements (with_expression names condition) inside

  pub with_statements : Names → Block → Names
  with_statements names empty = names
  with_statements names (next first others) = with_statements (with_statement names first) others

-- the number of a private name is how many others come before it
abbrev pub numbers_among : Names → Numbers
numbers_among names = record {
  of_named = λ bytes. number_of names bytes;
  of_own = λ k. number_of names (private_text (own k 0 0));
}
