use Rattle.lrc_orders_reach.proofs.ahead.with_any.Goals as goal

pub returns : goal.returns
returns c = record { range = c.any-range.result; any = c.any-range.ensures; goes_on = c.with_name.ensures }
