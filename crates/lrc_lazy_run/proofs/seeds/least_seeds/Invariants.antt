-- The seeds are the least of those that were tried.
use Rattle.lrc_lazy_run.specs.Seeds.{AreLeastSeeds}
use Rattle.lrc_lazy_run.proofs.seeds.least_seeds.Given as goal

abbrev pub invariant-loop-seed : goal.invariant-loop-seed
invariant-loop-seed l = AreLeastSeeds l.program l.nodes.count l.seed l.outcomes l.seeds.items
