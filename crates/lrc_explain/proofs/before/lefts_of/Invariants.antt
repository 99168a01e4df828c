-- What was left before the acts so far, and what they leave.
use Rattle.lrc_explain.specs.Before.{AreLefts}
use Rattle.lrc_explain.proofs.Earlier.{Remembers}
use Rattle.lrc_explain.proofs.before.lefts_of.Given as goal

abbrev pub invariant-loop-position : goal.invariant-loop-position
invariant-loop-position l = record {
  lefts : AreLefts l.acts l.position l.lefts.items;
  memory : Remembers l.acts l.position l.memory;
}
