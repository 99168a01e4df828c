use Rattle.std.proofs.Common.{List, arith, subst, sym}
use Rattle.lrc_judge_all.specs.Known.{AreReaders}
use Rattle.lrc_judge_all.specs.declared.reader.Reader.{Reader}
use Rattle.lrc_judge_all.proofs.Readers.{readers_push}
use Rattle.lrc_judge_all.proofs.misreads.readers_of.Goals as goal

pub loop-node-init : goal.loop-node-init
loop-node-init c = record {
  many = c.new-readers.ensures.len;
  readers = λ run n.
      subst (λ (l : List Reader). AreReaders run n l) (sym c.new-readers.ensures.items) (λ node d lt. absurd (omega (arith, lt)));
}

pub loop-node-preserved : goal.loop-node-preserved
loop-node-preserved c = record {
  many = omega (arith, c.in_ok-push.ensures.len);
  readers = λ run n.
      subst (λ (l : List Reader). AreReaders run n l) (sym c.in_ok-push.ensures.items)
      (readers_push run n c.loop-node.readers.items c.nothing_known.result (c.loop-node.invariant.readers run n) (c.nothing_known.ensures run));
}

pub returns-clause-many : goal.returns-clause-many
returns-clause-many c = omega arith

pub returns-clause-readers : goal.returns-clause-readers
returns-clause-readers c = c.loop-node.invariant.readers
