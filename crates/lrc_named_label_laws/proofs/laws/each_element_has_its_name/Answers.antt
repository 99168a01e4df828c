-- The items before it name other words, and other locks.
use Rattle.std.proofs.Common.{◌≡◌, ◌+◌, ◌++◌, List, sym, subst}
use Rattle.std.specs.Prelude.{Some, option_map}
use Rattle.std.specs.List.{flat_map}
use Rattle.lrc_labels.specs.Reading.{Label}
use Rattle.lrc_labels.specs.Show.{index_text, label_of_lock, label_of_word, name_of}
use Rattle.lrc_named_address_laws.specs.Elements.{element_at}
use Rattle.lrc_named_label_laws.proofs.Elements.{lock_named, word_named}
use Rattle.lrc_named_label_laws.proofs.Printed.{laid_printed, read_back}
use Rattle.lrc_named_label_laws.proofs.laws.each_element_has_its_name.Goals as goal

pub returns : goal.returns
returns c = record {
  words = λ text core nodes printed name item vs is within.
      let n = item.first + element_at item.sizes vs in
      let laid = laid_printed text core nodes printed in
      subst (λ (l : List Label). option_map (name_of n) (label_of_word l n) ≡ Some (name ++ flat_map index_text vs)) (sym (read_back text core nodes printed).0)
      (word_named printed.core_is.words printed.core_is.locks 0 0 printed.declared name item vs laid.lie is within);
  locks = λ text core nodes printed name item vs is within.
      let n = item.first + element_at item.sizes vs in
      let laid = laid_printed text core nodes printed in
      subst (λ (l : List Label). option_map (name_of n) (label_of_lock l n) ≡ Some (name ++ flat_map index_text vs)) (sym (read_back text core nodes printed).0)
      (lock_named printed.core_is.words printed.core_is.locks 0 0 printed.declared name item vs laid.lie is within);
}
