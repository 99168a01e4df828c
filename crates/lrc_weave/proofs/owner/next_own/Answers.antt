use Rattle.std.proofs.Common.{◌≡◌, None, rules, ◌+◌, ◌-◌, length, position, take, drop, subst, sym}
use Rattle.lrc_weave.specs.Matched.{is_own}
use Rattle.lrc_weave.specs.Compared.{IsNextOwn}
use Rattle.lrc_weave.proofs.Firsts.{whole_rest}
use Rattle.lrc_weave.proofs.Owning.{no_own, own_next}
use Rattle.lrc_weave.proofs.owner.next_own.Goals as goal

pub returns-in_err-at : goal.returns-in_err-at
returns-in_err-at c =
    let none : position (is_own c.args.owner) c.args.history.now.now ≡ None = search rules in
    let is : c.from_residual.result ≡ None = search rules in
    subst (IsNextOwn c.args.owner c.args.history.now.now c.args.history.now.now) (sym is)
    (no_own c.args.owner c.args.history.now.now c.args.history.now.now none)

pub returns : goal.returns
returns c =
    own_next c.args.owner c.args.history.now.now (take (length c.args.history.now.now - (c.in_ok-at.at + 1))
    (drop (c.in_ok-at.at + 1) c.args.history.now.now)) c.in_ok-at.at c.index-history-at.result c.is_put-is.result (search rules) (search rules)
    (whole_rest c.args.history.now.now (c.in_ok-at.at + 1))
