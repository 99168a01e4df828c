use Rattle.std.proofs.Common.{◌<◌, arith}
use Rattle.lrc_orders_memory.proofs.Halving.{first_written, second_written, taken_apart}
use Rattle.lrc_orders_memory.proofs.parts.Parts.+written.Goals as goal

pub written-requires : goal.written-requires
written-requires t c =
    let q = c.requires.words in
    let more : 1 < c.args.count = omega (arith, c.requires.within, c.if-count-eq1.false) in
    let i = taken_apart c.args.self.now c.as_slice.result.now q.levels c.args.count c.args.number q.words _ c.as_slice.ensures.keys more q.long q.at in
    (omega arith, (c.requires.distinct, (record { levels = i.under; words = i.first; long = i.half; at = i.first_at }, omega arith)))

pub written-requires-2 : goal.written-requires-2
written-requires-2 t c =
    let q = c.requires.words in
    let more : 1 < c.args.count = omega (arith, c.requires.within, c.if-count-eq1.false) in
    let i = taken_apart c.args.self.now c.as_slice.result.now q.levels c.args.count c.args.number q.words _ c.as_slice.ensures.keys more q.long q.at in
    (omega arith, (c.requires.distinct, (record { levels = i.under; words = i.second; long = i.rest; at = i.second_at }, omega arith)))

pub returns-then-place-half-clause-are : goal.returns-then-place-half-clause-are
returns-then-place-half-clause-are t c levels words long at =
    let more : 1 < c.args.count = omega (arith, c.requires.within, c.if-count-eq1.false) in
    let i = taken_apart c.args.self.now c.as_slice.result.now levels c.args.count c.args.number words _ c.as_slice.ensures.keys more long at in
    first_written c.args.self.now c.written.new.self c.halves_number.new.self levels c.args.count c.args.place c.args.value words _ more long i
    c.in_ok-first.ensures.keeps c.in_ok-number.ensures.keeps _ _ c.if-place-half.true (c.in_ok-first.ensures.are i.under i.first i.half i.first_at)
    c.in_ok-number.ensures.there

pub returns-clause-are : goal.returns-clause-are
returns-clause-are t c levels words long at =
    let more : 1 < c.args.count = omega (arith, c.requires.within, c.if-count-eq1.false) in
    let i = taken_apart c.args.self.now c.as_slice.result.now levels c.args.count c.args.number words _ c.as_slice.ensures.keys more long at in
    second_written c.args.self.now c.written-2.new.self c.halves_number-2.new.self levels c.args.count c.args.place c.args.value words _ more long i
    c.in_ok-second.ensures.keeps c.in_ok-number-2.ensures.keeps _ _ c.if-place-half.false (c.in_ok-second.ensures.are i.under i.second i.rest i.second_at)
    c.in_ok-number-2.ensures.there
