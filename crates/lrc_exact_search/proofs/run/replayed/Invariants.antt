-- The run has the acts so far.
use Rattle.std.proofs.Common.{◌≡◌, take}
use Rattle.lrc_exact_search.specs.Run.{IsAt}
use Rattle.lrc_exact_search.proofs.run.replayed.Given as goal

abbrev pub invariant-loop-act : goal.invariant-loop-act
invariant-loop-act l = record { at : IsAt l.task l.run; acts : l.run.acts.items ≡ take l.act-index l.acts }
