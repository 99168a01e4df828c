-- The seeds are the least of those that were tried.
use Rattle.lrc_node.specs.Options.{options_of}
use Rattle.lrc_exact_seeds.specs.Seeds.{AreLeastSeeds}
use Rattle.lrc_exact_seeds.proofs.seeds.least_seeds.Given as goal

abbrev pub invariant-loop-seed : goal.invariant-loop-seed
invariant-loop-seed l = AreLeastSeeds l.program l.setting.nodes.count (options_of l.setting) l.seed l.outcomes l.seeds.items
