use Rattle.std.proofs.Common.{◌≡◌, ◌-◌, Some, None, refl, arith}
use Rattle.std.proofs.lemmas.Result.{err_from_is_err_and}
use Rattle.lrc_wire.specs.Reading.{elements_at, next_part_at}
use Rattle.lrc_wire.proofs.Elements.{with_nothing, goes_on, ends, is_done}
use Rattle.lrc_wire.proofs.reading.parts.read_parts_of.Goals as goal

pub returns-in_err-part : goal.returns-in_err-part
returns-in_err-part c =
    let p = err_from_is_err_and c.from_residual-in_err-part.result c.from_residual-in_err-part.ensures.1 in
    rw (p.1, p.2) (ends (next_part_at c.args.version)
    (λ _ part. Some part.index) c.in_err-part.field-0.0 c.loop.parts.items c.args.count c.loop.counter c.loop.before c.loop.bytes.now _ c.loop-test.true
    c.in_err-part.ensures c.loop.invariant)

pub loop-preserved : goal.loop-preserved
loop-preserved c =
    rw (
      c.in_ok-push.ensures.ok,
      c.index_of.ensures,
    ) (goes_on (next_part_at c.args.version)
    (λ _ part. Some part.index) c.loop.parts.items c.args.count c.loop.counter c.loop.before c.loop.bytes.now c.in_ok-part.part
    c.read_next_part.new.bytes.now _ c.loop-test.true c.in_ok-part.ensures c.loop.invariant)

pub returns : goal.returns
returns c = is_done (next_part_at c.args.version)
    (λ _ part. Some part.index) c.loop.parts.items c.args.count c.loop.counter c.loop.before c.loop.bytes.now _ c.loop-test.false c.loop.invariant

pub loop-init : goal.loop-init
loop-init c =
    let none : c.args.count - 0 ≡ c.args.count = omega arith in
    rw (c.in_ok-parts.ensures.items, none)
    (with_nothing (elements_at (next_part_at c.args.version) (λ _ part. Some part.index) c.args.count None c.args.bytes.now.now))

pub returns-in_err-parts : goal.returns-in_err-parts
returns-in_err-parts c =
    let p = err_from_is_err_and c.from_residual.result c.from_residual.ensures.1 in rw (p.1, p.2) (λ other. absurd (other refl))

pub returns-in_err-push : goal.returns-in_err-push
returns-in_err-push c =
    let p = err_from_is_err_and c.from_residual-in_err-push.result c.from_residual-in_err-push.ensures.1 in
    rw (p.1, p.2) (λ other. absurd (other refl))
