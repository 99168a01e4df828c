use Rattle.std.proofs.Common.{◌-◌, ◌≤◌, get_or, length, arith}
use Rattle.lrc_race.proofs.Parts.{IsOfWord, between-words, part-part}
use Rattle.lrc_race.proofs.Stretches.{nowhere}
use Rattle.lrc_race.proofs.spans.places_near.Goals as goal

pub returns : goal.returns
returns c =
    let others = c.args.others.now in
    let first = (get_or others 0 nowhere).word in
    let last = (get_or others (length others - 1) nowhere).word in
    part-part c.args.places.now c.from_word-rest.result.now c.up_to_word.result.now (λ p. first ≤ p.word) (λ p. p.word ≤ last) (IsOfWord others)
    (λ p (q, there, same).
    let between = between-words others q nowhere c.requires.others there in
    (omega (arith, between.0, same), omega (arith, between.1, same)))
    c.from_word-rest.ensures c.up_to_word.ensures
