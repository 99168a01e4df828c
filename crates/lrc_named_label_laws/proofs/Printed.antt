-- The labels of what `core` prints of a named program.
use Rattle.std.proofs.Common.{◌≡◌, ◌<◌, ◌^◌, ℕ, List, [], sym, subst, arith}
use Rattle.std.specs.Prelude.{None, Option}
use Rattle.lrc_labels.specs.declared.cut.Divider.TheVariants.{LineFeed}
use Rattle.lrc_labels.specs.Cut.{cut, divides}
use Rattle.lrc_labels.specs.Reading.{idle_of, labels_of}
use Rattle.lrc_named_constants.specs.Layout.{core_words}
use Rattle.lrc_named.specs.Lines.{lines_of}
use Rattle.lrc_named.specs.Named.{IsCoreText}
use Rattle.lrc_named_label_laws.specs.Labels.{idle_read, labels_declared, labels_read}
use Rattle.lrc_named_label_laws.proofs.Laid.{IsLaid, all_laid, laid_out, nothing_laid}
use Rattle.lrc_named_label_laws.proofs.Lexed.{tokens_good}
use Rattle.lrc_named_label_laws.proofs.Parsed.{IsNamedTree, program_named}
use Rattle.lrc_named_label_laws.proofs.Shape.{AreLaidOut, ArePlain}
use Rattle.lrc_named_label_laws.proofs.Translated.{block_made, table_named}
use Rattle.lrc_named_label_laws.proofs.Whole.{core_labels}

module _ (text core : List ℕ) (nodes : Option ℕ) (printed : IsCoreText text nodes core) where
  named_tree : IsNamedTree printed.tree
  named_tree =
      let has = printed.is.parsed.are in
      program_named has.parsed (tokens_good printed.tokens has.tokens printed.is.parsed.lexed has.faultless)

  laid : IsLaid printed.declared
  laid = all_laid None [] printed.declared printed.tree.declarations printed.tree.statements nothing_laid named_tree.names printed.is.faultless printed.is.are_declared

  plain : ArePlain printed.core_is.statements
  plain = block_made (table_named printed.is.are_declared named_tree.bodies tt) printed.core_is.translated.translated named_tree.statements

  pub laid_printed : AreLaidOut printed.core_is.words printed.core_is.locks printed.declared
  laid_printed =
      let out = laid_out printed.declared laid in
      subst (λ n. AreLaidOut n printed.core_is.locks printed.declared) (sym printed.core_is.translated.words_are)
      (subst (λ n. AreLaidOut (core_words printed.declared) n printed.declared) (sym printed.core_is.translated.locks_are) out)

  small_words : printed.core_is.words < 2 ^ 64
  small_words =
      let same = printed.core_is.translated.words_are in
      let few = laid.few_words in
      omega (arith, same, few)

  small_locks : printed.core_is.locks < 2 ^ 64
  small_locks =
      let same = printed.core_is.translated.locks_are in
      let few = laid.few_locks in
      omega (arith, same, few)

  pub read_back : (labels_read printed ≡ labels_declared printed.declared) × (idle_read printed ≡ [])
  read_back =
      let words = printed.core_is.words in
      let locks = printed.core_is.locks in
      subst
      (λ (l : List ℕ). (labels_of words locks (cut (divides LineFeed) l) ≡ labels_declared printed.declared) × (idle_of words locks (cut (divides LineFeed) l) ≡ []))
      (sym printed.core_is.written)
      (core_labels words locks small_words small_locks printed.declared (lines_of printed.tokens) printed.core_is.statements laid_printed plain)
