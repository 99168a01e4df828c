-- The first word, and the others behind it.
use Rattle.lrc_acts.specs.ActsText.{words_between}
use Rattle.lrc_races_why.proofs.Wording.{words_none, words_some}
use Rattle.lrc_races_why.proofs.deed.push_words.Goals as goal

pub returns-in_default : goal.returns-in_default
returns-in_default c = words_none c.args.text.now.items (words_between c.args.words.now) c.in_default.ensures

pub returns : goal.returns
returns c = words_some c.args.text.now.items _ _ (words_between c.args.words.now) (words_between c.in-Some.rest.now) c.in-Some.word.now c.in-Some.ensures
    c.in_ok-extend_from_slice.ensures.items c.in_ok-push_more.ensures
