use Rattle.std.proofs.Common.{rules, of_calls, leb}
use Rattle.std.proofs.lemmas.Fn.{always_returns_same}
use Rattle.std.proofs.lemmas.List.Sorted.{IsPartitionedBy-leb}
use Rattle.lrc_race.proofs.Parts.{front-part-words, words-rise}
use Rattle.lrc_race.proofs.spans.up_to_word.Goals as goal

pub returns : goal.returns
returns c =
    let places = c.args.places.now in
    let word = c.args.word in
    let end = c.partition_point-end.result in
    let parted =
    c.partition_point-end.ensures.partitioned (λ p. leb p.word word) (always_returns_same _ _ _ (λ a r f k. search (rules, of_calls)))
    (IsPartitionedBy-leb (λ p. p.word) places word (words-rise places c.requires)) in
    front-part-words places word end c.requires parted.1
