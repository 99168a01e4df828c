use Rattle.std.proofs.Common.{length, ap, arith}
use Rattle.lrc_page.specs.declared.TheConstants.{MOST_PAGE_WORDS}
use Rattle.lrc_wire.proofs.Along.{few_below}
use Rattle.lrc_wire.proofs.Leads.{run_at}
use Rattle.lrc_wire.proofs.writing.runs.count_runs.Goals as goal

pub loop-start-preserved : goal.loop-start-preserved
loop-start-preserved c =
    let one = ap length (run_at c.args.changes.now c.loop-start.start (omega (arith, c.loop-start-test.true, c.len.ensures.count))) in
    record {
      exact = rw c.run_end-start.ensures.exact (omega (arith, one, c.loop-start.invariant.exact));
      within = c.run_end-start.ensures.within;
      few = omega (arith, c.loop-start.invariant.few, c.run_end-start.ensures.some);
    }

pub returns-clause-small : goal.returns-clause-small
returns-clause-small c =
    few_below (λ x. x.offset) c.args.changes.now c.len.ensures.ascending MOST_PAGE_WORDS c.len.ensures.in_range
