use Rattle.std.proofs.Common.{sym, ◌∙◌}
use Rattle.lrc_lang.proofs.MayStand.{refused_none}
use Rattle.lrc_lang.proofs.first_fault.refusal_of.Goals as goal

pub returns-else-takes : goal.returns-else-takes
returns-else-takes c =
    let not_taken = rw c.symbol.ensures at (sym c.takes.ensures ∙ c.if-takes.false) in
    refused_none _ not_taken
