use Rattle.std.proofs.Common.{◌≡◌, ◌∙◌, ℕ, Some, ap, map, slice_get, subst, sym}
use Rattle.lrc_replay.proofs.Coursing.{on_ok}
use Rattle.lrc_state_text.specs.Place.{named_seen}
use Rattle.lrc_states.specs.Names.{names_behind}
use Rattle.lrc_states.proofs.Showing.{state_so}
use Rattle.lrc_states.proofs.player.Player.push_state.Goals as goal

pub returns : goal.returns
returns c plan world turns l is there =
    let node = c.args.node in
    let names : map named_seen c.deref.result.now ≡ names_behind plan world.acts node =
    ap (map named_seen) c.deref.ensures.value ∙ c.in_ok-names.ensures plan world.acts is.plan_is is.course in
    let here = subst (λ (n : ℕ). slice_get world.nodes n ≡ Some l) (sym c.from.ensures) there in
    on_ok c.push_state.result c.push_state.ensures
    (λ told. state_so plan world.acts node c.args.known.now c.in_ok-state.state.now l.node c.spot.result.line (map named_seen c.deref.result.now)
    _ _ (c.in_ok-state.ensures world l is.replay here) (ap (λ s. s.line) (c.spot.ensures plan world.acts is.course)) names told)
