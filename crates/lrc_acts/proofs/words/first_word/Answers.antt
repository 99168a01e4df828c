use Rattle.lrc_text.proofs.Lines.{nil_of, some_of}
use Rattle.lrc_acts.proofs.WordLemmas.{none_left, one_more}
use Rattle.lrc_acts.proofs.words.first_word.Goals as goal

pub returns-then-is_empty : goal.returns-then-is_empty
returns-then-is_empty c =
    none_left c.args.text.now c.split_at.result.1.now c.place_of_word.result c.place_of_word.ensures.place c.split_at.ensures.back
    (nil_of c.split_at.result.1.now c.if-is_empty.ensures)

pub returns : goal.returns
returns c =
    one_more c.args.text.now c.split_at.result.1.now c.split_at-2.result.0.now c.split_at-2.result.1.now c.place_of_word.result c.place_of_blank.result
    c.place_of_word.ensures.place c.split_at.ensures.back (some_of c.split_at.result.1.now c.if-is_empty.ensures)
    c.place_of_blank.ensures.place c.split_at-2.ensures.front c.split_at-2.ensures.back
