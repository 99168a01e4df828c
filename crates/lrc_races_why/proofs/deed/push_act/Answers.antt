-- The words behind the node.
use Rattle.std.proofs.Common.{◌∙◌, sym, ap}
use Rattle.lrc_acts.specs.ActsText.{words_between, words_on}
use Rattle.lrc_races_why.proofs.Wording.{words_behind, words_nowhere}
use Rattle.lrc_races_why.proofs.deed.push_act.Goals as goal

pub returns-in_default : goal.returns-in_default
returns-in_default c = words_nowhere c.args.text.now.items (words_on c.args.line.now) (sym (ap words_between c.before_comment.ensures) ∙ c.in_default.ensures)

pub returns : goal.returns
returns c = words_behind c.args.text.now.items _ (words_on c.args.line.now) (words_between c.in-Some.rest.now) c.in-Some._node.now
    (sym (ap words_between c.before_comment.ensures) ∙ c.in-Some.ensures) c.in_ok-push_words.ensures
