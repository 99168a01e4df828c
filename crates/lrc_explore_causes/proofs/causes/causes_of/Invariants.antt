use Rattle.lrc_explore_causes.specs.Causes.{IsCause, Keeps}
use Rattle.lrc_explore_causes.proofs.causes.causes_of.Given as goal

-- the causes so far
abbrev pub invariant-loop-position : goal.invariant-loop-position
invariant-loop-position l = Keeps l.acts (IsCause l.acts l.first l.second) l.position l.told.items
