use Rattle.lrc_exact_marks.proofs.Merged.{learned_is_merged}
use Rattle.lrc_exact_marks.proofs.laws.marks_are_of_merged_lists.Goals as goal

pub returns : goal.returns
returns c = learned_is_merged
