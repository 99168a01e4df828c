use Rattle.std.proofs.Common.{rules, ◌+◌, ◌-◌, length, take, drop}
use Rattle.lrc_weave.proofs.Firsts.{no_take, take_next, whole_rest}
use Rattle.lrc_weave.proofs.history.next_take.Goals as goal

pub returns-in_err-at : goal.returns-in_err-at
returns-in_err-at c = search (rules, no_take)

pub returns : goal.returns
returns c =
    take_next c.args.history.now.now (take (length c.args.history.now.now - (c.in_ok-at.at + 1))
    (drop (c.in_ok-at.at + 1) c.args.history.now.now)) c.in_ok-at.at c.index-history-at.result c.place_taken-place.result (search rules) (search rules)
    (whole_rest c.args.history.now.now (c.in_ok-at.at + 1))
