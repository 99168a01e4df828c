-- Line by line.
use Rattle.lrc_named_label_laws.proofs.Printed.{read_back}
use Rattle.lrc_named_label_laws.proofs.laws.the_labels_that_core_prints_are_read_back.Goals as goal

pub returns : goal.returns
returns c = record {
  labels = λ text core nodes printed. (read_back text core nodes printed).0;
  none_idle = λ text core nodes printed. (read_back text core nodes printed).1;
}
