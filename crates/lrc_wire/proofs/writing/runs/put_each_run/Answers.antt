use Rattle.std.proofs.Common.{◌∙◌, arith}
use Rattle.std.proofs.lemmas.List.{take_all}
use Rattle.lrc_wire.proofs.Leads.{run_written}
use Rattle.lrc_wire.proofs.writing.runs.put_each_run.Goals as goal

pub loop-start-preserved : goal.loop-start-preserved
loop-start-preserved c =
    record {
      written = rw (
        c.in_ok-put_run.ensures.written,
        c.run_end-end.ensures.exact,
      )
          (run_written c.args.changes.now c.loop-start.start c.loop-start.out.items (omega (arith, c.loop-start-test.true, c.len.ensures.count))
          ∙ c.loop-start.invariant.written);
      within = c.run_end-end.ensures.within;
      bits = c.in_ok-put_run.ensures.bits;
    }

pub returns-clause-bits : goal.returns-clause-bits
returns-clause-bits c =
    rw (← take_all c.loop-start.start c.args.changes.now (omega (arith, c.loop-start-test.false, c.len.ensures.count))) c.loop-start.invariant.bits
