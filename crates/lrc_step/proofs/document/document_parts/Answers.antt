use Rattle.std.proofs.Common.{◌∙◌, ◌++◌, ◌∷◌, [], ℕ, List, Vec, ap, ap₂, append-nil}
use Rattle.std.specs.declared.alloc.Global.{Global}
use Rattle.std.proofs.lemmas.List.Concat.{flat_map-append}
use Rattle.lrc_text.specs.Parts.{whole_text}
use Rattle.lrc_step.proofs.document.document_parts.Goals as goal

abbrev bytes_of : Vec ℕ Global → List ℕ
bytes_of part = part.items

pub returns : goal.returns
returns c =
    let opening = c.in_ok-from_slice.field-0 in
    let closing = c.in_ok-from_slice-2.field-0 in
    let first = c.push.new.self.items in
    let both = c.append.new.self.items in
    let begun = ap whole_text c.in_ok-push.ensures.items
    ∙ flat_map-append bytes_of c.new-parts.result.items (opening ∷ [])
    ∙ ap₂ ◌++◌ (ap whole_text c.new-parts.ensures.items) (append-nil opening.items ∙ c.in_ok-from_slice.ensures.items ∙ c.opening.ensures) in
    ap whole_text c.in_ok-push-2.ensures.items
    ∙ flat_map-append bytes_of both (closing ∷ [])
    ∙ ap₂ ◌++◌
    (ap whole_text c.in_ok-append.ensures.items ∙ flat_map-append bytes_of first c.args.lines.items ∙ ap (λ l. l ++ whole_text c.args.lines.items) begun)
    (append-nil closing.items ∙ c.in_ok-from_slice-2.ensures.items ∙ c.closing.ensures)
