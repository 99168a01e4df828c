use Rattle.std.proofs.Common.{◌<◌, ◌/◌, length, refl}
use Rattle.lrc_orders_memory.proofs.Halving.{both_numbered, more_than_one}
use Rattle.lrc_orders_memory.proofs.parts.Parts.+number.Goals as goal

pub returns-clause-are : goal.returns-clause-are
returns-clause-are t c levels within =
    let words = c.args.words.now in
    let more : 1 < length words = more_than_one words c.is_empty.result c.is_empty.ensures c.if-is_empty.false c.if-words-eq1.false in
    both_numbered c.number.new.self c.number-2.new.self c.halves_number.new.self levels _ _ _ (length words / 2) words c.split_at.result.0.now
    c.split_at.result.1.now more within refl c.split_at.ensures.front c.split_at.ensures.back c.in_ok-first.ensures.are c.in_ok-second.ensures.are
    c.in_ok-second.ensures.keeps c.in_ok-number.ensures.keeps c.in_ok-number.ensures.there
