-- The statements of the code as the definitions see them.
use Rattle.std.proofs.Common.{◌≡◌, List, [], ◌∷◌, ◌++◌, refl, ap}
use Rattle.lrc_program.specs.declared.Statement.{Statement}
use Rattle.lrc_program.specs.Tree.{next, statement_of, block_of}
use Rattle.lrc_lang.specs.Parser.Body.{push}

pub block_of-push : (statements : List Statement) (last : Statement) → block_of (statements ++ last ∷ []) ≡ push (block_of statements) (statement_of last)
block_of-push [] last = refl
block_of-push (first ∷ rest) last = ap (next (statement_of first)) (block_of-push rest last)
