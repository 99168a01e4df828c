use Rattle.std.proofs.Common.{refl}
use Rattle.std.proofs.lemmas.Result.{on_ok_weaker}
use Rattle.lrc_text.proofs.Pushed.{and_then, number_is, slice_ok, then_ok, extended_ok}
use Rattle.lrc_why_text.specs.Told.{unwritten_text}
use Rattle.lrc_why_text.proofs.about.push_unwritten.Goals as goal

pub returns : goal.returns
unfolding unwritten_text
returns c = slice_ok c.args.text.now.items _ _ _ c.in_ok-push_word.ensures c.extend_from_slice.result _ c.extend_from_slice.ensures.items
