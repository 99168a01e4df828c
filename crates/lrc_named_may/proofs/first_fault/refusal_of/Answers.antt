use Rattle.std.proofs.Common.{sym, ◌∙◌}
use Rattle.lrc_named_may.proofs.MayStand.{refused_none}
use Rattle.lrc_named_may.proofs.first_fault.refusal_of.Goals as goal

pub returns-then-takes : goal.returns-then-takes
returns-then-takes c = λ at. sym (c.takes.ensures at) ∙ c.if-takes.true

pub returns-else-takes : goal.returns-else-takes
returns-else-takes c = λ at. refused_none _ (sym (c.takes.ensures at) ∙ c.if-takes.false)
