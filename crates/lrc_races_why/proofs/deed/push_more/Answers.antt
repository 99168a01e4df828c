-- One word more.
use Rattle.lrc_acts.specs.ActsText.{words_between}
use Rattle.lrc_races_why.proofs.Wording.{word_more, words_fewer, words_all}
use Rattle.lrc_races_why.proofs.deed.push_more.Goals as goal

pub loop-word-smaller : goal.loop-word-smaller
loop-word-smaller c = words_fewer (words_between c.loop-word.left.now) (words_between c.in-Some.behind.now) c.in-Some.word.now c.in-Some.ensures

pub loop-word-preserved : goal.loop-word-preserved
loop-word-preserved c =
    word_more _ c.loop-word.text.items _ _ (words_between c.loop-word.left.now) (words_between c.in-Some.behind.now) c.in-Some.word.now
    c.loop-word.invariant c.in-Some.ensures c.in_ok-extend_from_slice.ensures.items c.in_ok-extend_from_slice-2.ensures.items

pub returns : goal.returns
returns c = words_all _ c.loop-word.text.items (words_between c.loop-word.left.now) c.loop-word.invariant c.in_default.ensures
