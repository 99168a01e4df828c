use Rattle.std.proofs.Common.{◌≡◌, ◌+◌, ◌-◌, sym, ◌∙◌, arith}
use Rattle.lrc_page.specs.declared.TheConstants.{MOST_PAGE_WORDS}
use Rattle.lrc_wire.proofs.Along.{few_below}
use Rattle.lrc_wire.proofs.Leads.{lead_more_at, lead_over_at, lead_last}
use Rattle.lrc_wire.proofs.writing.runs.run_end.Goals as goal

pub returns-then-not-is_next-clause-exact : goal.returns-then-not-is_next-clause-exact
returns-then-not-is_next-clause-exact c =
    let one = lead_over_at c.args.changes.now (c.loop-end.end - 1) c.loop-end.end c.at.result c.at-in-loop-end.result
    (omega arith) c.at.ensures c.at-in-loop-end.ensures (sym c.is_next.ensures ∙ c.if-not-is_next.true) in
    omega (arith, one, c.loop-end.invariant)

pub returns-then-not-is_next-clause-few : goal.returns-then-not-is_next-clause-few
returns-then-not-is_next-clause-few c =
    few_below (λ x. x.offset) c.args.changes.now c.len-all.ensures.ascending MOST_PAGE_WORDS c.len-all.ensures.in_range

pub loop-end-preserved : goal.loop-end-preserved
loop-end-preserved c =
    let more = lead_more_at c.args.changes.now (c.loop-end.end - 1) c.loop-end.end c.at.result c.at-in-loop-end.result
    (omega arith) c.at.ensures c.at-in-loop-end.ensures (sym c.is_next.ensures ∙ c.if-not-is_next.false) in
    let same : c.loop-end.end + 1 - 1 ≡ c.loop-end.end = omega arith in
    rw same (omega (arith, more, c.loop-end.invariant))

pub returns-clause-exact : goal.returns-clause-exact
returns-clause-exact c =
    let one = lead_last c.args.changes.now (c.loop-end.end - 1) (omega (arith, c.len-all.ensures.count, c.loop-end-test.false)) in
    omega (arith, one, c.loop-end.invariant, c.len-all.ensures.count)

pub returns-clause-few : goal.returns-clause-few
returns-clause-few c =
    few_below (λ x. x.offset) c.args.changes.now c.len-all.ensures.ascending MOST_PAGE_WORDS c.len-all.ensures.in_range
