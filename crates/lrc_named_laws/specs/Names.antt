-- The private names that stand in a core.
use Rattle.std.specs.Prelude.{◌≡◌}
use Rattle.lrc_named_core.specs.Tree.{Private, named, own, Expression, number, private, me, nodes, binary, Statement, Block, empty, next}
use Rattle.lrc_named_core.specs.Tree.{assign, read, write, acquire, release, barrier, print, if_else, while_do}

-- one private name: spelled alike in the named text, or with one number of the translation's own
abbrev pub AreOne : Private → Private → Type 0
AreOne (named bytes) (named other) = bytes ≡ other
AreOne (named bytes) (own k first last) = ⊥
AreOne (own j first last) (named bytes) = ⊥
AreOne (own j first last) (own k one other) = j ≡ k

-- each private name in an expression is such a name, in a statement, and in statements
abbrev pub AllIn : (Private → Type 0) → Expression → Type 0
AllIn IsSuch (number n) = Unit {0}
AllIn IsSuch (private name) = IsSuch name
AllIn IsSuch me = Unit {0}
AllIn IsSuch nodes = Unit {0}
AllIn IsSuch (binary left o right) = AllIn IsSuch left × AllIn IsSuch right

abbrev mutual
  pub AllInStatement : (Private → Type 0) → Statement → Type 0
  AllInStatement IsSuch (assign origin name value) = IsSuch name × AllIn IsSuch value
  AllInStatement IsSuch (read origin name word) = IsSuch name × AllIn IsSuch word
  AllInStatement IsSuch (write origin word value) = AllIn IsSuch word × AllIn IsSuch value
  AllInStatement IsSuch (acquire origin word) = AllIn IsSuch word
  AllInStatement IsSuch (release origin word) = AllIn IsSuch word
  AllInStatement IsSuch (barrier origin) = Unit {0}
  AllInStatement IsSuch (print origin value) = AllIn IsSuch value
  AllInStatement IsSuch (if_else origin condition first second) = AllIn IsSuch condition × AllNames IsSuch first × AllNames IsSuch second
  AllInStatement IsSuch (while_do origin condition inside) = AllIn IsSuch condition × AllNames IsSuch inside

  pub AllNames : (Private → Type 0) → Block → Type 0
  AllNames IsSuch empty = Unit {0}
  AllNames IsSuch (next first others) = AllInStatement IsSuch first × AllNames IsSuch others
