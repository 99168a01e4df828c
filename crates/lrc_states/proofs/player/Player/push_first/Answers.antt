use Rattle.std.proofs.Common.{◌≡◌, ◌∙◌, ◌++◌, ℕ, [], Some, ap, codes, rules, subst, slice_get, sym}
use Rattle.lrc_messages.specs.Lists.{before}
use Rattle.lrc_replay.proofs.Coursing.{on_ok}
use Rattle.lrc_text.proofs.Fronts.{grown_by}
use Rattle.lrc_states.specs.States.{state_behind}
use Rattle.lrc_states.proofs.player.Player.push_first.Goals as goal

pub returns : goal.returns
returns c plan world turns l is there =
    let old = c.args.line.now.items in
    let now = c.push_comma.new.text.items in
    let node : c.in-Ok.node ≡ c.args.place = search rules in
    let comma : now ≡ old ++ before c.args.place (codes ",") = search rules in
    on_ok c.push_state-2.result
    (c.push_state-2.ensures plan world turns l is (subst (λ (n : ℕ). slice_get world.nodes n ≡ Some l) (sym node) there))
    (λ more. grown_by old (before c.args.place (codes ",")) (state_behind plan world.acts c.args.place [] l.node) comma
    (more ∙ ap (λ k. now ++ state_behind plan world.acts c.in-Ok.node k l.node) c.none.ensures
    ∙ ap (λ (n : ℕ). now ++ state_behind plan world.acts n [] l.node) node))
