use Rattle.std.proofs.Common.{arith}
use Rattle.std.specs.Int.{w32}
use Rattle.std.proofs.lemmas.List.Elements.{All-from_get_or}
use Rattle.std.proofs.lemmas.Result.{IfOk-from_err}
use Rattle.lrc_wire.specs.Ranges.{HasBits}
use Rattle.lrc_wire.specs.Spelling.{number}
use Rattle.lrc_wire.proofs.Written.{numbers-all, numbers-none, numbers-take_more}
use Rattle.lrc_wire.proofs.writing.changes.put_numbers_32.Goals as goal

pub loop-number-init : goal.loop-number-init
loop-number-init c = numbers-none w32 c.args.out.now.items

pub loop-number-preserved : goal.loop-number-preserved
unfolding number
loop-number-preserved c =
    rw (
      c.in_ok-put_u32.ensures.ok,
      c.loop-number.invariant,
    ) (numbers-take_more w32 c.args.out.now.items c.args.list.now c.loop-number.number-index c.loop-number-test.true)

pub returns-in_err-put_u32 : goal.returns-in_err-put_u32
returns-in_err-put_u32 c = record {
  written = IfOk-from_err c.from_residual.result _ c.from_residual.ensures.0;
  bits = All-from_get_or (HasBits 32) c.args.list.now 0 (λ i _. omega (arith, c.type_inv.list i));
}

pub returns : goal.returns
returns c = record {
  written = numbers-all w32 c.args.out.now.items c.args.list.now c.loop-number.out.items c.loop-number.number-index
      c.loop-number-test.false c.loop-number.invariant;
  bits = All-from_get_or (HasBits 32) c.args.list.now 0 (λ i _. omega (arith, c.type_inv.list i));
}
