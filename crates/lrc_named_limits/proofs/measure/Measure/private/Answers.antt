-- A name has no operators and no parentheses.
use Rattle.std.proofs.Common.{refl, sym, ap}
use Rattle.lrc_named_core.specs.View.{private_of}
use Rattle.lrc_named_limits.specs.Limits.{own_number}
use Rattle.lrc_named_limits.proofs.Counted.{name_counted}
use Rattle.lrc_named_limits.proofs.measure.Measure.private.Goals as goal

pub returns-in-Named : goal.returns-in-Named
returns-in-Named c = name_counted (private_of c.args.name) _ refl refl refl (sym (ap (λ n. own_number (private_of n)) c.in-Named.is))

pub returns-in-Own : goal.returns-in-Own
returns-in-Own c = name_counted (private_of c.args.name) _ refl refl refl (sym (ap (λ n. own_number (private_of n)) c.in-Own.is))
