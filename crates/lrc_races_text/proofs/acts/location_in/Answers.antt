-- The digits behind the words, where they are not too many.
use Rattle.lrc_races_text.proofs.ActLemmas.{located, unlocated}
use Rattle.lrc_races_text.proofs.acts.location_in.Goals as goal

pub returns-then-digits-le-MOST_DIGITS : goal.returns-then-digits-le-MOST_DIGITS
returns-then-digits-le-MOST_DIGITS c = located c.args.comment.now _ _ _ c.in-Some.ensures c.split_digits.ensures.whole
    c.split_digits.ensures.digits c.split_digits.ensures.ends c.if-digits-le-MOST_DIGITS.true

pub returns-else-digits-le-MOST_DIGITS : goal.returns-else-digits-le-MOST_DIGITS
returns-else-digits-le-MOST_DIGITS c = unlocated c.args.comment.now _ _ _ c.in-Some.ensures c.split_digits.ensures.whole
    c.split_digits.ensures.digits c.split_digits.ensures.ends c.if-digits-le-MOST_DIGITS.false
