use Rattle.std.proofs.Common.{◌≡◌, take, arith}
use Rattle.std.proofs.lemmas.List.{take_all}
use Rattle.std.proofs.lemmas.List.Folds.{length-flat_map-take}
use Rattle.lrc_wire.specs.declared.version.Version.TheVariants.{Two}
use Rattle.lrc_wire.specs.Runs.{runs_of}
use Rattle.lrc_wire.specs.Spelling.{part}
use Rattle.lrc_wire.proofs.Lengths.{length_parts}
use Rattle.lrc_wire.proofs.writing.sizes.parts_len.Goals as goal

pub returns-then-len-gt-MOST_BODY_BYTES-clause-over : goal.returns-then-len-gt-MOST_BODY_BYTES-clause-over
returns-then-len-gt-MOST_BODY_BYTES-clause-over c =
    let item = c.item-item.result in
    let front = length-flat_map-take (part Two runs_of) c.as_slice-item-items.result.now c.loop-item.item-index item c.loop-item-test.true in
    let here = rw (← c.item-item.is) at front in
    let whole = rw c.as_slice-item-items.ensures.all at here in
    omega (arith, whole, length_parts c.args.list.now, c.loop-item.invariant.exact)

pub returns-clause-within : goal.returns-clause-within
returns-clause-within c =
    let past = rw c.as_slice-item-items.ensures.all at c.loop-item-test.false in
    let all : take c.loop-item.item-index c.args.list.now ≡ c.args.list.now = take_all c.loop-item.item-index c.args.list.now past in
    let exact = rw all at c.loop-item.invariant.exact in
    omega (arith, exact, length_parts c.args.list.now)
