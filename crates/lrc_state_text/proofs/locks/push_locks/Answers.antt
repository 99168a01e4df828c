use Rattle.std.proofs.Common.{◌≡◌, ◌<◌, ℕ, List, length, subst, sym, rules}
use Rattle.std.specs.Prelude.{All}
use Rattle.lrc_state_text.specs.Tokens.{is_shown}
use Rattle.lrc_state_text.proofs.Lists.{are_below}
use Rattle.lrc_state_text.proofs.locks.push_locks.Goals as goal

pub push_listed-requires : goal.push_listed-requires
push_listed-requires c =
    let same : c.deref.result.now ≡ c.in_ok-shown.shown.items = search rules in
    subst (λ (l : List ℕ). All (λ k. k < length c.args.clock.now.held.locks) l) (sym same)
    (are_below (is_shown c.args.clock.now) c.args.count (length c.args.clock.now.held.locks) c.in_ok-shown.shown.items c.in_ok-shown.ensures c.requires)
