use Rattle.lrc_judge_all.specs.JudgesAll.{IsDisorder, TellsDisorder}
use Rattle.lrc_judge_all.specs.Steps.{IsMemory}
use Rattle.lrc_judge_all.proofs.Telling.{IsToldTo}
use Rattle.lrc_judge_all.proofs.disorders.tell_each.Given as goal

-- the reads so far are told, and what was written is noted
abbrev pub invariant-loop-position : goal.invariant-loop-position
invariant-loop-position l = record {
  told : IsToldTo (IsDisorder l.acts) (TellsDisorder l.acts l.lines) l.position l.initial.text.items l.text.items;
  memory : IsMemory l.acts l.position l.memory;
}
