-- Cores of which each number fits, and each private name is such a name.
use Rattle.std.proofs.Common.{◌≡◌, ℕ, List, [], ◌∷◌}
use Rattle.lrc_named_core.specs.Tree.{Private, Expression, number, private, me, nodes, binary, Statement, Block, empty, next, behind}
use Rattle.lrc_named_core.specs.Tree.{assign, read, write, acquire, release, barrier, print, if_else, while_do}
use Rattle.lrc_named_text_laws.specs.Spelled.{AreSpelled, Fits, IsSpelled, IsSpelledName, IsSpelledStatement}

abbrev pub IsFit : (Private → Type 0) → Expression → Type 0
IsFit IsSuch (number n) = Fits n
IsFit IsSuch (private name) = IsSuch name
IsFit IsSuch me = Unit {0}
IsFit IsSuch nodes = Unit {0}
IsFit IsSuch (binary left o right) = IsFit IsSuch left × IsFit IsSuch right

abbrev pub AreAllFit : (Private → Type 0) → List Expression → Type 0
AreAllFit IsSuch [] = Unit {0}
AreAllFit IsSuch (p ∷ ps) = IsFit IsSuch p × AreAllFit IsSuch ps

abbrev mutual
  pub IsFitStatement : (Private → Type 0) → Statement → Type 0
  IsFitStatement IsSuch (assign origin name value) = IsSuch name × IsFit IsSuch value
  IsFitStatement IsSuch (read origin name word) = IsSuch name × IsFit IsSuch word
  IsFitStatement IsSuch (write origin word value) = IsFit IsSuch word × IsFit IsSuch value
  IsFitStatement IsSuch (acquire origin word) = IsFit IsSuch word
  IsFitStatement IsSuch (release origin word) = IsFit IsSuch word
  IsFitStatement IsSuch (barrier origin) = Unit {0}
  IsFitStatement IsSuch (print origin value) = IsFit IsSuch value
  IsFitStatement IsSuch (if_else origin condition first second) = IsFit IsSuch condition × AreFit IsSuch first × AreFit IsSuch second
  IsFitStatement IsSuch (while_do origin condition inside) = IsFit IsSuch condition × AreFit IsSuch inside

  pub AreFit : (Private → Type 0) → Block → Type 0
  AreFit IsSuch empty = Unit {0}
  AreFit IsSuch (next first others) = IsFitStatement IsSuch first × AreFit IsSuch others

-- statements behind others
pub both_fit : (IsSuch : Private → Type 0) (a b : Block) → AreFit IsSuch a → AreFit IsSuch b → AreFit IsSuch (behind a b)
both_fit IsSuch empty b one more = more
both_fit IsSuch (next s a) b one more = (one.0, both_fit IsSuch a b one.1 more)

-- where each name is spelled
module _ (IsSuch : Private → Type 0) (named : (name : Private) → IsSuch name → IsSpelledName name) where
  spelled : (e : Expression) → IsFit IsSuch e → IsSpelled e
  spelled (number n) fit = fit
  spelled (private name) fit = named name fit
  spelled me fit = tt
  spelled nodes fit = tt
  spelled (binary left o right) fit = (spelled left fit.0, spelled right fit.1)

  mutual
    statement_spelled : (s : Statement) → IsFitStatement IsSuch s → IsSpelledStatement s
    statement_spelled (assign origin name value) fit = (named name fit.0, spelled value fit.1)
    statement_spelled (read origin name word) fit = (named name fit.0, spelled word fit.1)
    statement_spelled (write origin word value) fit = (spelled word fit.0, spelled value fit.1)
    statement_spelled (acquire origin word) fit = spelled word fit
    statement_spelled (release origin word) fit = spelled word fit
    statement_spelled (barrier origin) fit = tt
    statement_spelled (print origin value) fit = spelled value fit
    statement_spelled (if_else origin condition first second) fit = (spelled condition fit.0, all_spelled first fit.1, all_spelled second fit.2)
    statement_spelled (while_do origin condition inside) fit = (spelled condition fit.0, all_spelled inside fit.1)

    pub all_spelled : (b : Block) → AreFit IsSuch b → AreSpelled b
    all_spelled empty fit = tt
    all_spelled (next first others) fit = (statement_spelled first fit.0, all_spelled others fit.1)

-- what is said of each name
module _ (IsSuch IsTold : Private → Type 0) (told : (name : Private) → IsSuch name → IsTold name) where
  value_more : (e : Expression) → IsFit IsSuch e → IsFit IsTold e
  value_more (number n) fit = fit
  value_more (private name) fit = told name fit
  value_more me fit = tt
  value_more nodes fit = tt
  value_more (binary left o right) fit = (value_more left fit.0, value_more right fit.1)

  mutual
    statement_more : (s : Statement) → IsFitStatement IsSuch s → IsFitStatement IsTold s
    statement_more (assign origin name value) fit = (told name fit.0, value_more value fit.1)
    statement_more (read origin name word) fit = (told name fit.0, value_more word fit.1)
    statement_more (write origin word value) fit = (value_more word fit.0, value_more value fit.1)
    statement_more (acquire origin word) fit = value_more word fit
    statement_more (release origin word) fit = value_more word fit
    statement_more (barrier origin) fit = tt
    statement_more (print origin value) fit = value_more value fit
    statement_more (if_else origin condition first second) fit = (value_more condition fit.0, fit_more first fit.1, fit_more second fit.2)
    statement_more (while_do origin condition inside) fit = (value_more condition fit.0, fit_more inside fit.1)

    pub fit_more : (b : Block) → AreFit IsSuch b → AreFit IsTold b
    fit_more empty fit = tt
    fit_more (next first others) fit = (statement_more first fit.0, fit_more others fit.1)
