use Rattle.std.proofs.Common.{◌≡◌, ◌∙◌, ap, rules, map}
use Rattle.lrc_labels.specs.Reading.{label_seen}
use Rattle.lrc_protocol.specs.Run.{fresh_world, played}
use Rattle.lrc_states.specs.Players.{plan_with}
use Rattle.lrc_states.specs.States.{told_seen}
use Rattle.lrc_text.specs.Parts.{whole_text}
use Rattle.lrc_states.specs.declared.told.Told as code_told
use Rattle.lrc_states.proofs.Whole.{begins_at, goes_so, if_ok, others_so, player_so, stands_so, starts_so, states_so, unshown_so}
use Rattle.lrc_states.proofs.states.parts_of.Goals as goal

pub returns-clause-states : goal.returns-clause-states
returns-clause-states c made goes =
    let told = told_seen c.args.told.now in
    let plan = plan_with c.args.code.now c.args.told.now.nodes c.args.lines.now (map (λ name. name.now) c.args.names.now) in
    let labels = map label_seen c.args.labels.now in
    let setting = c.requires.setting in
    let range = c.args.range in
    let count = c.in_ok-skipped.skipped in
    let start = starts_so told range plan labels setting made goes count (λ run. c.in_ok-skipped.ensures.start made run) in
    let begun = begins_at told plan labels setting c.in_ok-player.player c.in_ok-player.ensures.player in
    let same : c.told.inside.0.1.1.1.0.now ≡ told.events = search rules in
    let passed = c.in_ok-pass_all.ensures.player plan (fresh_world told.program told.nodes told.options) start.1.0 0 begun
    (stands_so told range plan labels setting count start c.told.inside.0.1.1.1.0.now same) in
    let at = player_so told range plan labels setting count start c.told.inside.0.1.1.1.0.now same c.pass_all.new.self passed in
    let others = others_so told range plan labels setting count start c.told.inside.0.1.1.1.0.now same in
    let goes_on = ap (played start.1.0) others ∙ goes_so told range plan labels setting count start c.told.inside.0.1.1.1.0.now same made goes in
    let sized : c.told.inside.0.1.1.0.size ≡ told.options.size = ap (λ (t : code_told.Told). t.options.size) c.told.view_is in
    if_ok c.parts.result (c.parts.ensures.told plan start.1.0 made _ at goes_on)
    (λ parts tells.
    states_so told range plan labels setting count start c.told.inside.0.1.1.1.0.now same _ others c.args.telling c.told.inside.0.1.1.0.size sized
    (whole_text parts.items) tells)

pub returns-clause-fault : goal.returns-clause-fault
returns-clause-fault c made goes =
    let told = told_seen c.args.told.now in
    let plan = plan_with c.args.code.now c.args.told.now.nodes c.args.lines.now (map (λ name. name.now) c.args.names.now) in
    let labels = map label_seen c.args.labels.now in
    let setting = c.requires.setting in
    let range = c.args.range in
    let count = c.in_ok-skipped.skipped in
    let start = starts_so told range plan labels setting made goes count (λ run. c.in_ok-skipped.ensures.start made run) in
    let begun = begins_at told plan labels setting c.in_ok-player.player c.in_ok-player.ensures.player in
    let same : c.told.inside.0.1.1.1.0.now ≡ told.events = search rules in
    let passed = c.in_ok-pass_all.ensures.player plan (fresh_world told.program told.nodes told.options) start.1.0 0 begun
    (stands_so told range plan labels setting count start c.told.inside.0.1.1.1.0.now same) in
    let at = player_so told range plan labels setting count start c.told.inside.0.1.1.1.0.now same c.pass_all.new.self passed in
    let others = others_so told range plan labels setting count start c.told.inside.0.1.1.1.0.now same in
    let goes_on = ap (played start.1.0) others ∙ goes_so told range plan labels setting count start c.told.inside.0.1.1.1.0.now same made goes in
    unshown_so told range plan labels setting count start c.told.inside.0.1.1.1.0.now same _ others c.parts.result
    (λ fails. c.parts.ensures.fault plan start.1.0 made _ at goes_on fails)
