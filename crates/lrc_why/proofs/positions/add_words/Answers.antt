use Rattle.std.proofs.Common.{get_or, arith}
use Rattle.std.proofs.lemmas.List.{get_or_default}
use Rattle.lrc_judge.proofs.Additions.{some-more, some-all}
use Rattle.lrc_why_chains.specs.Writes.{IsWrite}
use Rattle.lrc_why.proofs.positions.add_words.Goals as goal

pub loop-k-preserved : goal.loop-k-preserved
loop-k-preserved c =
    let positions = c.args.positions.now in
    let i = c.loop-k.k-index in
    some-more positions (λ k word. IsWrite c.args.acts.now word k) c.args.words.now.items c.loop-k.words.items c.add_word.new.words.items i
    (get_or positions i 0) c.loop-k-test.true (get_or_default positions i 0 (get_or positions i 0) c.loop-k-test.true) c.loop-k.invariant c.in_ok-add_word.ensures

pub returns : goal.returns
returns c = some-all c.args.positions.now (λ k word. IsWrite c.args.acts.now word k) c.args.words.now.items c.loop-k.words.items c.loop-k.k-index
    (omega arith) c.loop-k.invariant
