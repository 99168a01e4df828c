-- What a label names is an element of its item.
use Rattle.std.proofs.Common.{◌≡◌, List, None, sym, subst}
use Rattle.lrc_labels.specs.Reading.{Label}
use Rattle.lrc_labels.specs.Show.{label_of_lock, label_of_word}
use Rattle.lrc_named_label_laws.proofs.Elements.{lock_unnamed, word_unnamed}
use Rattle.lrc_named_label_laws.proofs.Printed.{laid_printed, read_back}
use Rattle.lrc_named_label_laws.proofs.laws.nothing_else_has_a_name.Goals as goal

pub returns : goal.returns
returns c = record {
  words = λ text core nodes printed word none.
      let laid = laid_printed text core nodes printed in
      subst (λ (l : List Label). label_of_word l word ≡ None) (sym (read_back text core nodes printed).0)
      (word_unnamed printed.core_is.words printed.core_is.locks 0 0 printed.declared word laid.lie laid.different none);
  locks = λ text core nodes printed key none.
      let laid = laid_printed text core nodes printed in
      subst (λ (l : List Label). label_of_lock l key ≡ None) (sym (read_back text core nodes printed).0)
      (lock_unnamed printed.core_is.words printed.core_is.locks 0 0 printed.declared key laid.lie laid.different none);
}
