use Rattle.std.proofs.Common.{arith}
use Rattle.lrc_lazy_run.proofs.Keeping.{found_few, meets_more}
use Rattle.lrc_lazy_run.proofs.ways.Ways.keep.Goals as goal

pub returns-clause-ways : goal.returns-clause-ways
returns-clause-ways c = record {
  task = c.requires.ways.task;
  kept = c.in_ok-added.ensures.kept;
  few = omega (arith, c.if-len-sought.false, c.len.ensures.len);
  small = omega (arith, c.len.ensures.len, c.len.ensures.small);
}

pub returns-clause-found : goal.returns-clause-found
returns-clause-found c =
    found_few c.args.sought.now.most c.args.self.now.states.keys c.put.new.self.states.keys c.in_ok-added.added c.in_ok-added.ensures.found
    (omega (arith, c.if-len-sought.false, c.len.ensures.len))

pub returns-then-len-sought-clause-fails : goal.returns-then-len-sought-clause-fails
returns-then-len-sought-clause-fails c =
    let new = c.put.new.self in (
      λ same. cc,
      λ _. meets_more c.args.sought.now new.states.keys new.origins.items new.settled.items c.requires.ways.task c.in_ok-added.ensures.kept
          (omega (arith, c.if-len-sought.true, c.len.ensures.len)),
    )
