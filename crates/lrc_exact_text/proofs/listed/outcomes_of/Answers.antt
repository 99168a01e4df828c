use Rattle.lrc_exact_judge.specs.Shape.{shape_of}
use Rattle.lrc_exact_text.specs.Calm.{AreCalmOutcomes}
use Rattle.lrc_exact_text.specs.Listed.{by_runs}
use Rattle.lrc_exact_text.proofs.WithoutRaces.{calm_exact, calm_some}
use Rattle.lrc_exact_text.proofs.listed.outcomes_of.Goals as goal

pub returns-in-Some-clause-exact : goal.returns-in-Some-clause-exact
returns-in-Some-clause-exact c =
    let calm = calm_some c.in_ok-found.field-0 (λ set. AreCalmOutcomes c.args.program.now c.args.layout.nodes set.keys) c.in-Some.found c.in-Some.is c.in_ok-found.ensures in
    calm_exact c.args.program.now (shape_of c.args.layout) calm.calm c.in-Some.found.keys calm.exact

pub returns-in_ok-found-in-None-clause-fits : goal.returns-in_ok-found-in-None-clause-fits
returns-in_ok-found-in-None-clause-fits c = by_runs c.in_ok-found-in-None.ensures.fits
