use Rattle.std.proofs.lemmas.Result.{IfOk-from_err}
use Rattle.lrc_store.proofs.links.Links.new.Goals as goal

pub returns-in_err-new : goal.returns-in_err-new
returns-in_err-new c = IfOk-from_err _ _ c.from_residual.ensures.0

pub returns-in_err-new-2 : goal.returns-in_err-new-2
returns-in_err-new-2 c = IfOk-from_err _ _ c.from_residual-in_err-new-2.ensures.0
