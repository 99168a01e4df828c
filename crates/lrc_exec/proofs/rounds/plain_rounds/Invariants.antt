-- The rounds so far, and what they can still make.
use Rattle.lrc_exec.specs.Rounds.{paced_start}
use Rattle.lrc_exec.specs.RoundsCode.{paced_of}
use Rattle.lrc_exec.specs.States.{IsStateOf}
use Rattle.lrc_exec.proofs.RoundsLaws.{HasRounded, fuel}
use Rattle.lrc_exec.proofs.rounds.plain_rounds.Given as goal

abbrev pub invariant-loop-acts : goal.invariant-loop-acts
invariant-loop-acts l = record {
  rounded : HasRounded l.nodes (paced_start l.program l.nodes l.steps) (paced_of l.flat l.pace) l.acts.items;
  state : IsStateOf l.flat l.pace.state;
}

abbrev pub decreases-loop-acts : goal.decreases-loop-acts
decreases-loop-acts l = fuel (paced_of l.flat l.pace)
