use Rattle.std.proofs.Common.{◌≡◌, ◌∙◌, List, [], ◌∷◌, Ok, ap, fold, map, refl, subst, sym}
use Rattle.lrc_lang.specs.Faults.{IsText}
use Rattle.lrc_lang.specs.FirstFault.{placed}
use Rattle.lrc_lang.specs.Positions.{Located}
use Rattle.lrc_lang.specs.Symbol.{Names}
use Rattle.lrc_lang.specs.Token.{Placed}
use Rattle.lrc_program.specs.Tree.{ProgramTree, program_of}
use Rattle.lrc_lang.proofs.LexemesUnique.{unique}
use Rattle.lrc_lang.proofs.Located.{lexed_located}
use Rattle.lrc_lang.proofs.OneAnswer.{of_program}
use Rattle.lrc_labels.specs.declared.cut.Divider.TheVariants.{LineFeed}
use Rattle.lrc_labels.specs.Cut.{cut, divides}
use Rattle.lrc_labels.specs.Reading.{labels_of}
use Rattle.lrc_private_names.specs.Spelling.{AreNamesOf, names_through}
use Rattle.lrc_source.specs.Sources.{IsSource, SourceRecord}
use Rattle.lrc_source.specs.Telling.{AreLines, ReadText}
use Rattle.lrc_source.proofs.Lines.{lines_of_one}
use Rattle.lrc_source.proofs.laws.a_text_has_one_source.Goals as goal

one_program : (one other : SourceRecord) → IsSource one → IsSource other → one.text ≡ other.text → program_of one.program ≡ program_of other.program
one_program one other is are same =
    of_program one.text.core (Ok one.program) is.is_text tt (program_of other.program)
    (subst (λ (text : ReadText). IsText text.core (program_of other.program)) (sym same) are.is_text)

-- names are found by what stands in a text, wherever it stands
by_lexemes : (names : Names) (all : List Located)
    → fold (λ found one. names_through found one.lexeme) names all ≡ fold (λ found (one : Placed). names_through found one.lexeme) names (map placed all)
by_lexemes names [] = refl
by_lexemes names (one ∷ more) = by_lexemes (names_through names one.lexeme) more

pub returns-clause-program : goal.returns-clause-program
returns-clause-program c = one_program

pub returns-clause-lines : goal.returns-clause-lines
returns-clause-lines c = λ one other is are same.
    lines_of_one one.text.telling one.text.core one.program other.program one.lines other.lines (one_program one other is are same) is.are_lines
    (subst (λ (text : ReadText). AreLines text other.program other.lines) (sym same) are.are_lines)

pub returns-clause-labels : goal.returns-clause-labels
returns-clause-labels c = λ one other is are same.
    let trees = one_program one other is are same in
    is.labels_are
    ∙ ap (λ (tree : ProgramTree). labels_of tree.words tree.locks (cut (divides LineFeed) one.text.core)) trees
    ∙ ap (λ (text : ReadText). labels_of other.program.words other.program.locks (cut (divides LineFeed) text.core)) same
    ∙ sym are.labels_are

pub returns-clause-names : goal.returns-clause-names
returns-clause-names c = λ one other is are same.
    let mine = is.are_names in
    let theirs = subst (λ (text : ReadText). AreNamesOf text.core other.names) (sym same) are.are_names in
    mine.each ∙ by_lexemes [] mine.all
    ∙ ap (fold (λ found (one : Placed). names_through found one.lexeme) []) (unique (lexed_located mine.are) (lexed_located theirs.are))
    ∙ sym (by_lexemes [] theirs.all) ∙ sym theirs.each
