use Rattle.std.proofs.Common.{◌≡◌, ◌<◌, ◌+◌, length, ap, arith}
use Rattle.std.specs.Int.{w32}
use Rattle.std.proofs.lemmas.List.{length-append}
use Rattle.std.proofs.lemmas.List.Elements.{All-more}
use Rattle.lrc_wire.specs.Ranges.{HasBits}
use Rattle.lrc_wire.specs.Spelling.{number}
use Rattle.lrc_wire.proofs.Written.{numbers-take_more}
use Rattle.lrc_wire.proofs.writing.intervals.add_entries.Goals as goal

pub unwrap-requires : goal.unwrap-requires
unwrap-requires c =
    let four : length c.to_be_bytes-entry.result ≡ 4 = ap length c.to_be_bytes-entry.ensures in
    c.try_extend_from_slice.ensures.variant.1
    (omega (arith, four, c.loop-node.invariant.long, c.requires, c.loop-node-test.true, c.nodes-node-end.ensures.few))

pub loop-node-preserved : goal.loop-node-preserved
unfolding number
loop-node-preserved c =
    let within : c.loop-node.node < length c.args.entries.now = omega (arith, c.loop-node-test.true) in
    let fits : HasBits 32 c.at.result = omega arith in
    let four : length c.to_be_bytes-entry.result ≡ 4 = ap length c.to_be_bytes-entry.ensures in
    let added = rw c.unwrap.ensures at c.try_extend_from_slice.ensures.ok in
    let more : length c.try_extend_from_slice.new.self.items ≡ length c.loop-node.block.items + length c.to_be_bytes-entry.result =
    rw added (length-append c.loop-node.block.items c.to_be_bytes-entry.result) in
    record {
      written = rw (
        added,
        c.to_be_bytes-entry.ensures,
        c.at.ensures,
        c.loop-node.invariant.written,
      ) (numbers-take_more w32 c.args.block.now.items c.args.entries.now c.loop-node.node within);
      bits = All-more (HasBits 32) c.args.entries.now c.loop-node.node 0 within c.loop-node.invariant.bits (rw (← c.at.ensures) fits);
      long = omega (arith, more, four, c.loop-node.invariant.long);
    }
