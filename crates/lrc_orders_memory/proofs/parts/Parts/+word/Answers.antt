use Rattle.std.proofs.Common.{◌<◌, ◌/◌, ◌∙◌, sym, arith}
use Rattle.lrc_orders_memory.proofs.Halving.{read_first, read_second, taken_apart}
use Rattle.lrc_orders_memory.proofs.parts.Parts.+word.Goals as goal

pub word-requires : goal.word-requires
word-requires t c =
    let q = c.requires.words in
    let more : 1 < c.args.count = omega (arith, c.requires.within, c.if-count-eq1.false) in
    let i = taken_apart c.args.self.now c.as_slice-2.result.now q.levels c.args.count c.args.number q.words _ c.as_slice-2.ensures.keys more q.long q.at in
    (omega arith, (record { levels = i.under; words = i.first; long = i.half; at = i.first_at }, omega arith))

pub word-requires-2 : goal.word-requires-2
word-requires-2 t c =
    let q = c.requires.words in
    let more : 1 < c.args.count = omega (arith, c.requires.within, c.if-count-eq1.false) in
    let i = taken_apart c.args.self.now c.as_slice-2.result.now q.levels c.args.count c.args.number q.words _ c.as_slice-2.ensures.keys more q.long q.at in
    (omega arith, (record { levels = i.under; words = i.second; long = i.rest; at = i.second_at }, omega arith))

pub returns-then-place-half : goal.returns-then-place-half
returns-then-place-half t c levels words long at =
    let more : 1 < c.args.count = omega (arith, c.requires.within, c.if-count-eq1.false) in
    let i = taken_apart c.args.self.now c.as_slice-2.result.now levels c.args.count c.args.number words _ c.as_slice-2.ensures.keys more long at in
    let half = i.half in
    c.word.ensures i.under i.first i.half i.first_at
    ∙ sym (read_first words i.first i.second c.args.place i.whole (omega (arith, half, c.if-place-half.true)))

pub returns : goal.returns
returns t c levels words long at =
    let more : 1 < c.args.count = omega (arith, c.requires.within, c.if-count-eq1.false) in
    let i = taken_apart c.args.self.now c.as_slice-2.result.now levels c.args.count c.args.number words _ c.as_slice-2.ensures.keys more long at in
    c.word-2.ensures i.under i.second i.rest i.second_at
    ∙ sym (read_second words i.first i.second (c.args.count / 2) c.args.place i.whole (sym i.half) c.if-place-half.false)
