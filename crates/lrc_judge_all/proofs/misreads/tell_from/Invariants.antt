use Rattle.std.proofs.Common.{◌≡◌, vec_len}
use Rattle.lrc_judge.specs.declared.TheConstants.{NODES}
use Rattle.lrc_judge.specs.Reading.{Misreads}
use Rattle.lrc_judge_all.specs.JudgesAll.{TellsMisread}
use Rattle.lrc_judge_all.specs.Known.{AreReaders}
use Rattle.lrc_judge_all.proofs.Telling.{IsToldTo}
use Rattle.lrc_judge_all.proofs.misreads.tell_from.Given as goal

-- the reads so far are told, and what each node has learned before them is known
abbrev pub invariant-loop-position : goal.invariant-loop-position
invariant-loop-position l = record {
  told : IsToldTo (Misreads l.acts) (TellsMisread l.acts l.lines) l.position l.initial.text.items l.text.items;
  many : vec_len l.readers ≡ NODES;
  readers : AreReaders l.acts l.position l.readers.items;
}
