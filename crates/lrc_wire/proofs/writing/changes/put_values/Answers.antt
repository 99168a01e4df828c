use Rattle.std.proofs.Common.{arith}
use Rattle.std.specs.Int.{w64}
use Rattle.std.proofs.lemmas.List.Elements.{All-from_get_or}
use Rattle.std.proofs.lemmas.Result.{IfOk-from_err}
use Rattle.lrc_wire.specs.Ranges.{HasBits}
use Rattle.lrc_wire.specs.Spelling.{number}
use Rattle.lrc_wire.proofs.Written.{numbers-all, numbers-none, numbers-take_more}
use Rattle.lrc_wire.proofs.writing.changes.put_values.Goals as goal

pub loop-value-init : goal.loop-value-init
loop-value-init c = numbers-none w64 c.args.out.now.items

pub loop-value-preserved : goal.loop-value-preserved
unfolding number
loop-value-preserved c =
    rw (
      c.in_ok-put_u64.ensures.ok,
      c.loop-value.invariant,
    ) (numbers-take_more w64 c.args.out.now.items c.args.values.now c.loop-value.value-index c.loop-value-test.true)

pub returns-in_err-put_u64 : goal.returns-in_err-put_u64
returns-in_err-put_u64 c = record {
  written = IfOk-from_err c.from_residual.result _ c.from_residual.ensures.0;
  bits = All-from_get_or (HasBits 64) c.args.values.now 0 (λ i _. omega (arith, c.type_inv.values i));
}

pub returns : goal.returns
returns c = record {
  written = numbers-all w64 c.args.out.now.items c.args.values.now c.loop-value.out.items c.loop-value.value-index
      c.loop-value-test.false c.loop-value.invariant;
  bits = All-from_get_or (HasBits 64) c.args.values.now 0 (λ i _. omega (arith, c.type_inv.values i));
}
