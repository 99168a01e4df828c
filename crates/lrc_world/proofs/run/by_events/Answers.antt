use Rattle.std.proofs.Common.{◌≡◌, ◌∙◌, subst, sym}
use Rattle.lrc_world.specs.Runs.{ShowsRun}
use Rattle.lrc_world.proofs.Runs.{as_they_are}
use Rattle.lrc_world.proofs.run.by_events.Goals as goal

pub run_shown-requires-clause-shown : goal.run_shown-requires-clause-shown
run_shown-requires-clause-shown c = (
  c.args.options.now,
  subst (λ program. ShowsRun c.args.keep program c.args.nodes c.args.options.now c.in_ok-played.played.items c.in_ok-world.world) c.in_ok-code.ensures
      (subst (λ events. ShowsRun c.args.keep c.in_ok-code.code c.args.nodes c.args.options.now events c.in_ok-world.world)
      (sym c.in_ok-played.ensures.items) c.in_ok-world.ensures.shown),
)

pub returns-clause-run : goal.returns-clause-run
returns-clause-run c =
    as_they_are (λ played. played ≡ c.in_ok-played.played.items) (λ played. played ≡ c.args.events.now) c.args.program.now c.args.nodes c.args.options.now
    c.args.keep c.in_ok-run.run' (λ events same. same ∙ c.in_ok-played.ensures.items)
    (c.in_ok-run.ensures c.args.options.now
    (subst (λ program. ShowsRun c.args.keep program c.args.nodes c.args.options.now c.in_ok-played.played.items c.in_ok-world.world) c.in_ok-code.ensures
    (subst (λ events. ShowsRun c.args.keep c.in_ok-code.code c.args.nodes c.args.options.now events c.in_ok-world.world)
    (sym c.in_ok-played.ensures.items) c.in_ok-world.ensures.shown)))
