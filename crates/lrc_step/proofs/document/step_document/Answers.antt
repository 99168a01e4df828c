use Rattle.std.proofs.Common.{◌≡◌, ◌∙◌, ◌++◌, ℕ, List, ap, subst}
use Rattle.std.specs.Prelude.{IfOk}
use Rattle.lrc_text.specs.Parts.{whole_text}
use Rattle.lrc_step.specs.Lines.{document}
use Rattle.lrc_step.proofs.Parts.{joined, pushed}
use Rattle.lrc_step.proofs.document.step_document.Goals as goal

pub returns : goal.returns
returns c =
    let states = c.args.states.items in
    let races = c.args.races in
    let reasons = c.args.reasons in
    let program = c.in_ok-program_part.field-0 in
    let explained = c.args.explained in
    let begun = pushed c.new-lines.result.items c.push.new.self.items program c.in_ok-push.ensures.items
    ∙ ap (λ (l : List ℕ). l ++ program.items) (ap whole_text c.new-lines.ensures.items) in
    let with_states = joined c.push.new.self.items states c.append.new.self.items c.in_ok-append.ensures.items
    ∙ ap (λ (l : List ℕ). l ++ whole_text states) begun in
    let with_run = pushed c.append.new.self.items c.push-2.new.self.items explained c.in_ok-push-2.ensures.items
    ∙ ap (λ (l : List ℕ). l ++ explained.items) with_states in
    let with_races = pushed c.push-2.new.self.items c.push-3.new.self.items races c.in_ok-push-3.ensures.items
    ∙ ap (λ (l : List ℕ). l ++ races.items) with_run in
    let all = pushed c.push-3.new.self.items c.push-4.new.self.items reasons c.in_ok-push-4.ensures.items
    ∙ ap (λ (l : List ℕ). l ++ reasons.items) with_races
    ∙ ap (λ (a : List ℕ). a ++ whole_text states ++ explained.items ++ races.items ++ reasons.items) c.in_ok-program_part.ensures in
    subst (λ (l : List ℕ). IfOk c.document_parts.result (λ parts. whole_text parts.items ≡ document l)) all c.document_parts.ensures
