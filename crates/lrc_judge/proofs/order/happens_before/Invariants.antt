use Rattle.lrc_judge.specs.Past.{IsPast}
use Rattle.lrc_judge.proofs.Rows.{AreRows}
use Rattle.lrc_judge.proofs.order.happens_before.Given as goal

-- the past and the rows are those of the positions so far
abbrev pub invariant-loop-position : goal.invariant-loop-position
invariant-loop-position l = record {
  past : IsPast l.acts l.position l.past;
  rows : AreRows l.acts l.position l.rows.items;
}
