use Rattle.std.proofs.Common.{◌<◌, ◌++◌, ◌∙◌, append_assoc, sym, ap, arith}
use Rattle.lrc_orders_memory.proofs.Halving.{taken_apart}
use Rattle.lrc_orders_memory.proofs.parts.Parts.+put.Goals as goal

pub put-requires : goal.put-requires
put-requires t c =
    let q = c.requires in
    let more : 1 < c.args.count = omega (arith, c.if-count-eq0.false, c.if-count-eq1.false) in
    let i = taken_apart c.args.self.now c.as_slice-2.result.now q.levels c.args.count c.args.number q.words _ c.as_slice-2.ensures.keys more q.long q.at in
    (omega arith, record { levels = i.under; words = i.first; long = i.half; at = i.first_at })

pub put-requires-2 : goal.put-requires-2
put-requires-2 t c =
    let q = c.requires in
    let more : 1 < c.args.count = omega (arith, c.if-count-eq0.false, c.if-count-eq1.false) in
    let i = taken_apart c.args.self.now c.as_slice-2.result.now q.levels c.args.count c.args.number q.words _ c.as_slice-2.ensures.keys more q.long q.at in
    (omega arith, record { levels = i.under; words = i.second; long = i.rest; at = i.second_at })

pub returns : goal.returns
returns t c levels words long at =
    let more : 1 < c.args.count = omega (arith, c.if-count-eq0.false, c.if-count-eq1.false) in
    let i = taken_apart c.args.self.now c.as_slice-2.result.now levels c.args.count c.args.number words _ c.as_slice-2.ensures.keys more long at in
    let items = c.args.to.now.items in
    c.in_ok-put-2.ensures i.under i.second i.rest i.second_at
    ∙ ap (λ l. l ++ i.second) (c.in_ok-put.ensures i.under i.first i.half i.first_at)
    ∙ append_assoc items i.first i.second
    ∙ ap (λ l. items ++ l) (sym i.whole)
