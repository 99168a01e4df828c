-- What its thread knows says whether the earlier access is separated from the later.
use Rattle.std.proofs.Common.{subst}
use Rattle.lrc_races_detector.specs.Vectors.{entries}
use Rattle.lrc_races_text.specs.Detecting.{HasTaken}
use Rattle.lrc_races_claims.proofs.Separating.{below_separates}
use Rattle.lrc_races_claims.proofs.asking.Asker.separates.Goals as goal

pub returns-clause-separates : goal.returns-clause-separates
returns-clause-separates c = λ a b at at' of of' accesses.
    let events = c.args.events.now in
    let known = entries c.known_of-known.result in
    below_separates c.args.self.now.sought events c.args.earlier.position c.args.later.position c.args.earlier.thread a known c.is_below.result
    (c.known_of-known.ensures c.args.self.now.sought events c.args.later.position c.args.later.variable b
    (subst (λ s. HasTaken s events c.args.later.position c.reach.new.self.detector) c.reach.ensures.sought c.in_ok-reach.ensures.reached.taken) at' of' accesses)
    at c.requires.order of c.is_below.ensures
