use Rattle.std.proofs.Common.{rules, ◌≡◌, ◌∙◌, ◌+◌, ℕ, List, ap, length, map, subst, sym}
use Rattle.std.specs.Prelude.{slice_index}
use Rattle.std.specs.List.{range_with_len}
use Rattle.std.proofs.lemmas.Result.{IfOk-weaker}
use Rattle.std.proofs.lemmas.List.FromFn.{length-range_with_len}
use Rattle.lrc_exec.specs.Flat.{statements_in}
use Rattle.lrc_lang.specs.Faults.{IsText}
use Rattle.lrc_program.specs.Tree.{block_of, program_of}
use Rattle.lrc_lines.specs.Statements.{numbers_of}
use Rattle.lrc_lines.proofs.Numbering.{lines_counted}
use Rattle.lrc_source.specs.Telling.{AreLines, AreLinesBy, ReadText, Telling, telling_seen}
use Rattle.lrc_source.proofs.read_text.ReadText.lines.Goals as goal

pub returns-in-Translated : goal.returns-in-Translated
returns-in-Translated c program is =
    let self = c.args.self.now in
    let named = c.in-Translated.named in
    let own = c.in_ok-own.own.items in
    let count = statements_in (block_of program.statements.items) + 1 in
    let tells : self.telling ≡ telling_seen c.self.inside.telling = sym (ap (λ (t : ReadText). t.telling) c.self.view_is) in
    let core : IsText c.self.inside.core.now (program_of program) = subst (λ (t : ReadText). IsText t.core (program_of program)) (sym c.self.view_is) is in
    let read : c.len.result ≡ length own = search rules in
    let many : c.len.result ≡ count =
    read ∙ lines_counted c.self.inside.core.now program own (c.in_ok-own.ensures (program_of program) core) ∙ length-range_with_len 0 count in
    let numbers : range_with_len 0 c.len.result ≡ numbers_of program = ap (range_with_len 0) many in
    IfOk-weaker c.lines_to.result _ (λ lines. AreLines self program lines.items)
    (λ lines e.
    subst (λ (t : Telling). AreLinesBy t self.core program lines.items) (sym (tells ∙ ap telling_seen c.in-Translated.is))
    (e ∙ ap (λ (l : List ℕ). map (λ number. slice_index named.lines.now number) l) numbers))
    c.lines_to.ensures
