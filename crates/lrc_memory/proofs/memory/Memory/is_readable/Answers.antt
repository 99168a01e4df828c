use Rattle.std.proofs.Common.{◌≡◌, true, false, inl, inr, ap, ◌∙◌, sym}
use Rattle.lrc_table.specs.PageCopy.{is_readable as may_read}
use Rattle.lrc_memory.proofs.Inside.{kept}
use Rattle.lrc_memory.proofs.Copies.{within-seen, readable_as}
use Rattle.lrc_memory.proofs.memory.Memory.is_readable.Goals as goal

pub state-requires : goal.state-requires
state-requires c = within-seen (kept c.self.inside) _ _ c.self.view_is c.requires

pub returns-in-Valid : goal.returns-in-Valid
returns-in-Valid c =
    let k = kept c.self.inside in
    let may : may_read c.state.result ≡ true = elim c.in-Valid.is [ inl is ↦ ap may_read is | inr is ↦ ap may_read is ] in
    sym (readable_as k _ _ c.self.view_is (within-seen k _ _ c.self.view_is c.requires) ∙ ap may_read (sym c.state.ensures) ∙ may)

pub returns-in-Invalid : goal.returns-in-Invalid
returns-in-Invalid c =
    let k = kept c.self.inside in
    let may : may_read c.state.result ≡ false = elim c.in-Invalid.is [ inl is ↦ ap may_read is | inr is ↦ ap may_read is ] in
    sym (readable_as k _ _ c.self.view_is (within-seen k _ _ c.self.view_is c.requires) ∙ ap may_read (sym c.state.ensures) ∙ may)
