use Rattle.std.proofs.Common.{◌≡◌, false, true, get_or, sym, subst}
use Rattle.lrc_orders_reach.proofs.ahead.is_blocked.Goals as goal

pub returns-in-Some : goal.returns-in-Some
returns-in-Some c = λ e privates value are is.
    subst (λ n. get_or c.args.follower.now.blocked.now n false ≡ true)
    (sym (c.in-Some.ensures.only value (c.range_of-range.ensures privates value are is))) e
