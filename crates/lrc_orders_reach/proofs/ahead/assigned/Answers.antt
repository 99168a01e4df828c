use Rattle.lrc_orders_reach.proofs.ahead.assigned.Goals as goal

pub returns : goal.returns
returns c = record { range = c.range_of-range.result; has = c.range_of-range.ensures; goes_on = c.with_name.ensures }
