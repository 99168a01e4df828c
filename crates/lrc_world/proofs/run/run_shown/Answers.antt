use Rattle.std.proofs.Common.{◌≡◌, ◌∙◌, ap}
use Rattle.std.proofs.lemmas.Result.{IfOk-from_err}
use Rattle.lrc_world.specs.World.{starts_of}
use Rattle.lrc_world.proofs.Races.{kept_raceless, kept_traces}
use Rattle.lrc_world.proofs.Runs.{run_is}
use Rattle.lrc_world.proofs.Worlds.{acts_of_nodes}
use Rattle.lrc_world.proofs.run.run_shown.Goals as goal

pub run_after-requires-clause-acts : goal.run_after-requires-clause-acts
run_after-requires-clause-acts c =
    let options = c.requires.shown.0 in
    let shown = c.requires.shown.1 in
    acts_of_nodes c.args.program.now c.args.nodes options c.args.events.items (starts_of c.args.program.now c.args.nodes options c.args.keep) shown.0
    c.args.world shown.1 shown.2

pub run_after-requires-clause-traces : goal.run_after-requires-clause-traces
run_after-requires-clause-traces c =
    let options = c.requires.shown.0 in
    let shown = c.requires.shown.1 in
    kept_traces c.args.program.now c.args.nodes options c.args.events.items shown.0 shown.1 c.args.world c.args.keep shown.2

pub run_after-requires-clause-raceless : goal.run_after-requires-clause-raceless
run_after-requires-clause-raceless c =
    let options = c.requires.shown.0 in
    let shown = c.requires.shown.1 in
    kept_raceless c.args.program.now c.args.nodes options c.args.events.items shown.0 shown.1 c.args.world c.args.keep shown.2
    c.args.world.acts.items shown.2.acts

pub returns : goal.returns
returns c = λ options shown.
    let same = ap (λ v. v.items) c.in_ok-run.ensures.events in
    run_is (λ played. played ≡ c.args.events.items) c.args.program.now c.args.nodes options c.args.keep c.args.events.items
    c.in_ok-run.run' c.args.world shown.0 same same shown.1 c.requires.nodes.0 shown.2
    c.in_ok-run.ensures.over c.in_ok-run.ensures.report c.in_ok-run.ensures.races c.in_ok-run.ensures.origins
    (ap (λ v. v.items) c.in_ok-run.ensures.turned ∙ shown.3)

pub returns-in_err-run : goal.returns-in_err-run
returns-in_err-run c = IfOk-from_err c.from_residual.result _ c.from_residual.ensures.0
