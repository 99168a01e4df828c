-- Added to none, sorted, and each kept once.
use Rattle.std.proofs.Common.{eqb}
use Rattle.std.proofs.lemmas.List.Filters.{dedup_is}
use Rattle.lrc_why.proofs.Lists.{words-from}
use Rattle.lrc_why.proofs.positions.words_written.Goals as goal

pub returns : goal.returns
returns c =
    let sorted = c.sort_unstable.new.self.items in
    let unique = c.dedup.new.self.items in
    words-from c.args.acts.now c.args.positions.now c.new-words.result.items c.add_words.new.words.items sorted unique c.new-words.ensures.items
    c.in_ok-add_words.ensures c.sort_unstable.ensures.permutation c.sort_unstable.ensures.sorted (dedup_is eqb sorted unique c.dedup.ensures.filtered)
