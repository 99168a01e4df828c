-- The core of statements as statements of the language, where its private names have numbers.
use Rattle.std.specs.Prelude.{◌≢◌, ℕ, List}
use Rattle.lrc_program.specs.Statements as lang
use Rattle.lrc_named_core.specs.Tree.{Private, named, own, Expression, number, private, me, nodes, binary}
use Rattle.lrc_named_core.specs.Tree.{Statement, assign, read, write, acquire, release, barrier, print, if_else, while_do, Block, empty, next}

-- the numbers of private names: those of the program, and those of the translation's own
pub record Numbers : Type 0 where
  pub of_named : List ℕ → ℕ
  pub of_own : ℕ → ℕ

abbrev pub number_of : Numbers → Private → ℕ
number_of numbers (named bytes) = numbers.of_named bytes
number_of numbers (own k first last) = numbers.of_own k

abbrev pub coded : Numbers → Expression → lang.Expression
coded numbers (number n) = lang.number n
coded numbers (private name) = lang.private (number_of numbers name)
coded numbers me = lang.me
coded numbers nodes = lang.nodes
coded numbers (binary left o right) = lang.binary (coded numbers left) o (coded numbers right)

abbrev mutual
  pub statement_coded : Numbers → Statement → lang.Statement
  statement_coded numbers (assign origin name value) = lang.assign (number_of numbers name) (coded numbers value)
  statement_coded numbers (read origin name word) = lang.read (number_of numbers name) (coded numbers word)
  statement_coded numbers (write origin word value) = lang.write (coded numbers word) (coded numbers value)
  statement_coded numbers (acquire origin lock) = lang.acquire (coded numbers lock)
  statement_coded numbers (release origin lock) = lang.release (coded numbers lock)
  statement_coded numbers (barrier origin) = lang.barrier
  statement_coded numbers (print origin value) = lang.print (coded numbers value)
  statement_coded numbers (if_else origin condition then otherwise) =
      lang.if_else (coded numbers condition) (block_coded numbers then) (block_coded numbers otherwise)
  statement_coded numbers (while_do origin condition inside) = lang.while_do (coded numbers condition) (block_coded numbers inside)

  pub block_coded : Numbers → Block → lang.Block
  block_coded numbers empty = lang.empty
  block_coded numbers (next first others) = lang.next (statement_coded numbers first) (block_coded numbers others)

-- no statement of these, and none in their blocks, sets the private name of this number
abbrev mutual
  pub Keeps : ℕ → lang.Statement → Type 0
  Keeps k (lang.assign name value) = name ≢ k
  Keeps k (lang.read name word) = name ≢ k
  Keeps k (lang.write word value) = Unit {0}
  Keeps k (lang.acquire lock) = Unit {0}
  Keeps k (lang.release lock) = Unit {0}
  Keeps k lang.barrier = Unit {0}
  Keeps k (lang.print value) = Unit {0}
  Keeps k (lang.if_else condition then otherwise) = KeepAll k then × KeepAll k otherwise
  Keeps k (lang.while_do condition inside) = KeepAll k inside

  pub KeepAll : ℕ → lang.Block → Type 0
  KeepAll k lang.empty = Unit {0}
  KeepAll k (lang.next first others) = Keeps k first × KeepAll k others

-- each private name that a statement of these sets, or one in their blocks, is such a name
abbrev mutual
  pub Sets : (Private → Type 0) → Statement → Type 0
  Sets IsSuch (assign origin name value) = IsSuch name
  Sets IsSuch (read origin name word) = IsSuch name
  Sets IsSuch (write origin word value) = Unit {0}
  Sets IsSuch (acquire origin lock) = Unit {0}
  Sets IsSuch (release origin lock) = Unit {0}
  Sets IsSuch (barrier origin) = Unit {0}
  Sets IsSuch (print origin value) = Unit {0}
  Sets IsSuch (if_else origin condition then otherwise) = AllSet IsSuch then × AllSet IsSuch otherwise
  Sets IsSuch (while_do origin condition inside) = AllSet IsSuch inside

  pub AllSet : (Private → Type 0) → Block → Type 0
  AllSet IsSuch empty = Unit {0}
  AllSet IsSuch (next first others) = Sets IsSuch first × AllSet IsSuch others

-- it is not the name of the translation's own that has this number
abbrev pub IsNotOwn : ℕ → Private → Type 0
IsNotOwn k (named bytes) = Unit {0}
IsNotOwn k (own j first last) = j ≢ k
