-- One more is added.
use Rattle.std.proofs.Common.{◌≡◌, arith, ◌∙◌}
use Rattle.lrc_named_program.proofs.Sums.{locks_step, locks_past}
use Rattle.lrc_named_program.proofs.layout.locks_among.Goals as goal

pub overflow_add-all : goal.overflow_add-all
overflow_add-all c =
    let s = locks_step c.args.declared.now c.loop-entry.entry-index c.entry-item.result c.loop-entry-test.true c.entry-item.is in
    omega (arith, s, c.locks_of-more.ensures, c.loop-entry.invariant, c.requires)

pub loop-entry-preserved : goal.loop-entry-preserved
loop-entry-preserved c =
    let s = locks_step c.args.declared.now c.loop-entry.entry-index c.entry-item.result c.loop-entry-test.true c.entry-item.is in
    omega (arith, s, c.locks_of-more.ensures, c.loop-entry.invariant)

pub returns : goal.returns
returns c =
    let s = locks_past c.args.declared.now c.loop-entry.entry-index (omega (arith, c.loop-entry-test.false)) in
    omega (arith, s, c.loop-entry.invariant)
