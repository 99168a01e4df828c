use Rattle.std.proofs.Common.{◌≡◌, ◌∙◌, ap}
use Rattle.lrc_lines.specs.Walks.{walk_behind}
use Rattle.lrc_replay.specs.Acts.{Plan}
use Rattle.lrc_states.specs.Names.{names_set}
use Rattle.lrc_states.proofs.Whole.{if_ok}
use Rattle.lrc_states.proofs.player.Player.names_of.Goals as goal

pub returns-in-Some : goal.returns-in-Some
returns-in-Some c plan acts plan_is course =
    let privates = (walk_behind plan.program plan.nodes plan.lines acts c.args.node).thread.privates in
    let values : c.in-Some.values.now ≡ privates = c.in-Some.ensures.values plan acts course in
    if_ok c.names_set.result c.names_set.ensures
    (λ names told. told ∙ ap (λ (p : Plan). names_set p.names c.in-Some.values.now) plan_is ∙ ap (names_set plan.names) values)
