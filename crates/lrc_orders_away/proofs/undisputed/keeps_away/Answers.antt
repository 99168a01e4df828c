use Rattle.std.proofs.lemmas.Bool.{not-true}
use Rattle.lrc_orders_away.proofs.Coming.{keeps_found}
use Rattle.lrc_orders_away.proofs.undisputed.keeps_away.Goals as goal

pub returns-in-Some : goal.returns-in-Some
returns-in-Some c = λ e.
    keeps_found c.args.flat.now c.args.spot.now c.args.blocked.now c.in_ok-all.field-0 c.in-Some.all c.deref.result.now c.args.deed c.in_ok-all.ensures
    c.in-Some.is c.deref.ensures.value (c.may_conflict.ensures (not-true c.may_conflict.result e))
