-- The text that is printed of a named text is just its core.
use Rattle.std.proofs.Common.{◌≡◌, ◌≤◌, ◌<◌, ◌+◌, ℕ, List, [], length, sym, subst, arith, inl}
use Rattle.std.specs.Prelude.{Option, Some, max}
use Rattle.std.specs.List.{AllByRecursion}
use Rattle.lrc_lang.specs.Faults.{IsText}
use Rattle.lrc_program.specs.Tree.{ProgramTree}
use Rattle.lrc_named_tree.specs.Tree.{Block}
use Rattle.lrc_named_names.specs.Names.{Declared, Item, lock, meaning_of, shared}
use Rattle.lrc_named_constants.specs.Well.{bytes_of}
use Rattle.lrc_named_core.specs.Tree.{Private, named, own}
use Rattle.lrc_named_expression_faults.specs.Fault.{IsNone}
use Rattle.lrc_named_statement_faults.specs.Parts.{parts_of_block}
use Rattle.lrc_named_statement_faults.specs.Statements.{IsInStatements, set_names, statement_scope}
use Rattle.lrc_named_written.specs.Privates.{privates}
use Rattle.lrc_named.specs.Lines.{lines_of}
use Rattle.lrc_named.specs.Named.{IsCoreText}
use Rattle.lrc_named_address_laws.specs.Elements.{AreWithin, element_at}
use Rattle.lrc_named_acts_laws.specs.Coded.{number_of}
use Rattle.lrc_named_text_laws.specs.Named.{with_statements}
use Rattle.lrc_named_text_laws.specs.Spelled.{AreLabelled, AreSpelled, Fits}
use Rattle.lrc_named_text_laws.proofs.Faultless.{is_text}
use Rattle.lrc_named_text_laws.proofs.Reading.{read_as}
use Rattle.lrc_named_laws.specs.Names.{AllNames, AreOne}
use Rattle.lrc_named_laws.specs.Printed.{numbers_in, program_of}
use Rattle.lrc_named_laws.proofs.Apart.{IsApart, told_apart, unreserved}
use Rattle.lrc_named_laws.proofs.Cores.{AreFit, all_spelled, fit_more}
use Rattle.lrc_named_laws.proofs.Counting.{IsAllowed, allowed, few_allowed, few_names, is_allowed}
use Rattle.lrc_named_laws.proofs.Expressions.{IsOfCore}
use Rattle.lrc_named_laws.proofs.Lexed.{lines_fit, tokens_good}
use Rattle.lrc_named_laws.proofs.Limits.{all_told}
use Rattle.lrc_named_laws.proofs.Parsed.{program}
use Rattle.lrc_named_laws.proofs.Places.{AreInOrder, lock_below, lock_item, one_lock, one_word, shared_item, word_below}
use Rattle.lrc_named_laws.proofs.Statements.{cores_fit}
use Rattle.lrc_named_laws.proofs.Tables.{program_laid}

-- a name of the core, for which there is room
abbrev IsFound : List Declared → Block → Private → Type 0
IsFound declared statements name = IsOfCore declared (bytes_of (set_names (parts_of_block statements))) name × IsAllowed declared statements name

is_apart : (declared : List Declared) (statements : Block) → IsNone (λ f. IsInStatements declared statements f) → (name : Private)
    → IsFound declared statements name → IsApart name
is_apart declared statements clean (named bytes) found =
    let parts = parts_of_block statements in
    unreserved (statement_scope declared parts) parts (λ f h. clean f (inl h)) bytes found.0.1
is_apart declared statements clean (own k first last) found = found.1.0

-- what makes the text of a core a program of the language
pub record IsPrintable (text core : List ℕ) (nodes : Option ℕ) (printed : IsCoreText text nodes core) : Type 0 where
  pub some : 1 ≤ printed.core_is.words
  pub few_words : printed.core_is.words ≤ 65536
  pub few_locks : printed.core_is.locks ≤ 64
  pub labelled : AreLabelled printed.declared
  pub lines : AllByRecursion Fits (lines_of printed.tokens)
  pub apart : AreFit IsApart printed.core_is.statements
  pub words_in_order : AreInOrder shared_item 0 printed.declared
  pub locks_in_order : AreInOrder lock_item 0 printed.declared
  pub spelled : AreSpelled printed.core_is.statements
  pub few : length (with_statements [] printed.core_is.statements) ≤ 32

pub printable : (text core : List ℕ) (nodes : Option ℕ) (printed : IsCoreText text nodes core) → IsPrintable text core nodes printed
printable text core nodes printed =
    let parsed = printed.is.parsed in
    let declared = printed.declared in
    let tree = printed.tree in
    let c = printed.core_is in
    let legible = program parsed.are.parsed (tokens_good text printed.tokens parsed.are.tokens parsed.lexed parsed.are.faultless) in
    let laid = program_laid tree.declarations tree.statements printed.is.are_declared printed.is.faultless legible.0 in
    let set = bytes_of (set_names (parts_of_block tree.statements)) in
    let of_core = cores_fit declared set laid.0.bodies laid.0.sound c.translated.translated legible.1 (λ f h. laid.1 f (inl h)) in
    let found = all_told (privates declared tree.statements) (IsOfCore declared set) (IsFound declared tree.statements)
    (λ name is room. (is, is_allowed declared tree.statements laid.1 name is room)) 0 c.statements of_core c.within in
    let words_are = c.translated.words_are in
    let locks_are = c.translated.locks_are in
    let few_words = laid.0.few_words in
    let few_locks = laid.0.few_locks in
    record {
      some = omega (arith, words_are);
      few_words = omega (arith, words_are, few_words);
      few_locks = omega (arith, locks_are, few_locks);
      labelled = laid.0.labelled;
      lines = lines_fit text printed.tokens parsed.fits parsed.lexed;
      apart = fit_more (IsFound declared tree.statements) IsApart (λ name is. is_apart declared tree.statements laid.1 name is) c.statements found;
      words_in_order = laid.0.words_in_order;
      locks_in_order = laid.0.locks_in_order;
      spelled = all_spelled (IsFound declared tree.statements) (λ name is. is.1.0) c.statements found;
      few = few_names (allowed declared tree.statements) (IsFound declared tree.statements) (λ name is. is.1.1) c.statements found
          (few_allowed declared tree.statements laid.1);
    }

pub is_a_program : (text core : List ℕ) (nodes : Option ℕ) (printed : IsCoreText text nodes core) → IsText core (program_of printed)
is_a_program text core nodes printed =
    let h = printable text core nodes printed in
    let c = printed.core_is in
    subst (λ t. IsText t (program_of printed)) (sym c.written)
    (is_text c.words c.locks (privates printed.declared printed.tree.statements) printed.declared (lines_of printed.tokens) c.statements
    h.some h.few_words h.few_locks h.labelled h.lines h.spelled c.within h.few (subst (λ t. length t ≤ 65536) c.written c.fits))

pub is_no_other : (text core : List ℕ) (nodes : Option ℕ) (printed : IsCoreText text nodes core) (p : ProgramTree) → IsText core p → p ≡ program_of printed
is_no_other text core nodes printed p is =
    let h = printable text core nodes printed in
    let c = printed.core_is in
    let few_words = h.few_words in
    let few_locks = h.few_locks in
    read_as c.words c.locks printed.declared (lines_of printed.tokens) c.statements p (omega (arith, few_words)) (omega (arith, few_locks))
    h.labelled h.lines h.spelled (subst (λ t. IsText t p) c.written is)

pub are_apart : (text core : List ℕ) (nodes : Option ℕ) (printed : IsCoreText text nodes core)
    → AllNames (λ x. AllNames
    (λ y. number_of (numbers_in printed.core_is.statements) x ≡ number_of (numbers_in printed.core_is.statements) y → AreOne x y)
    printed.core_is.statements) printed.core_is.statements
are_apart text core nodes printed = told_apart printed.core_is.statements (printable text core nodes printed).apart

-- ---- elements

pub are_words : (text core : List ℕ) (nodes : Option ℕ) (printed : IsCoreText text nodes core) (name other : List ℕ) (item another : Item) (vs ws : List ℕ)
    → meaning_of printed.declared name ≡ Some (shared item) → meaning_of printed.declared other ≡ Some (shared another) → AreWithin item.sizes vs
    → AreWithin another.sizes ws → item.first + element_at item.sizes vs ≡ another.first + element_at another.sizes ws → (name ≡ other) × (vs ≡ ws)
are_words text core nodes printed name other item another vs ws means there within within_other same =
    one_word printed.declared name other item another vs ws (printable text core nodes printed).words_in_order means there within within_other same

pub are_locks : (text core : List ℕ) (nodes : Option ℕ) (printed : IsCoreText text nodes core) (name other : List ℕ) (item another : Item) (vs ws : List ℕ)
    → meaning_of printed.declared name ≡ Some (lock item) → meaning_of printed.declared other ≡ Some (lock another) → AreWithin item.sizes vs
    → AreWithin another.sizes ws → item.first + element_at item.sizes vs ≡ another.first + element_at another.sizes ws → (name ≡ other) × (vs ≡ ws)
are_locks text core nodes printed name other item another vs ws means there within within_other same =
    one_lock printed.declared name other item another vs ws (printable text core nodes printed).locks_in_order means there within within_other same

pub are_below_words : (text core : List ℕ) (nodes : Option ℕ) (printed : IsCoreText text nodes core) (name : List ℕ) (item : Item) (vs : List ℕ)
    → meaning_of printed.declared name ≡ Some (shared item) → AreWithin item.sizes vs → item.first + element_at item.sizes vs < printed.core_is.words
are_below_words text core nodes printed name item vs means within =
    let below = word_below printed.declared name item vs (printable text core nodes printed).words_in_order means within in
    let all = printed.core_is.translated.words_are in
    omega (arith, below, all)

pub are_below_locks : (text core : List ℕ) (nodes : Option ℕ) (printed : IsCoreText text nodes core) (name : List ℕ) (item : Item) (vs : List ℕ)
    → meaning_of printed.declared name ≡ Some (lock item) → AreWithin item.sizes vs → item.first + element_at item.sizes vs < printed.core_is.locks
are_below_locks text core nodes printed name item vs means within =
    let below = lock_below printed.declared name item vs (printable text core nodes printed).locks_in_order means within in
    let all = printed.core_is.translated.locks_are in
    omega (arith, below, all)
