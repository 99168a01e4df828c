use Rattle.std.specs.Int.{w16}
use Rattle.std.proofs.lemmas.Result.{IfOk-from_err}
use Rattle.lrc_wire.specs.Spelling.{number}
use Rattle.lrc_wire.proofs.Written.{numbers-all, numbers-none, numbers-take_more}
use Rattle.lrc_wire.proofs.writing.intervals.put_numbers_16.Goals as goal

pub loop-number-init : goal.loop-number-init
loop-number-init c = numbers-none w16 c.args.out.now.items

pub loop-number-preserved : goal.loop-number-preserved
unfolding number
loop-number-preserved c =
    rw (
      c.in_ok-put_u16.ensures.ok,
      c.loop-number.invariant,
    ) (numbers-take_more w16 c.args.out.now.items c.args.list.now c.loop-number.number-index c.loop-number-test.true)

pub returns-in_err-put_u16 : goal.returns-in_err-put_u16
returns-in_err-put_u16 c = IfOk-from_err c.from_residual.result _ c.from_residual.ensures.0

pub returns : goal.returns
returns c =
    numbers-all w16 c.args.out.now.items c.args.list.now c.loop-number.out.items c.loop-number.number-index c.loop-number-test.false c.loop-number.invariant
