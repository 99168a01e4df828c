use Rattle.std.proofs.Common.{◌≡◌, ◌∙◌, ◌<◌, get_or, ap, length, refl, subst, arith}
use Rattle.lrc_protocol.specs.Pages.{keeper_at, unknown_of}
use Rattle.lrc_memory.specs.Steps.{base_in}
use Rattle.lrc_need.specs.Seen.{seen_base}
use Rattle.lrc_memory.specs.Notes.{keepers_of}
use Rattle.lrc_memory.specs.View.{NodeMemory}
use Rattle.lrc_memory.proofs.Inside.{kept}
use Rattle.lrc_memory.proofs.Copies.{within-seen}
use Rattle.lrc_memory.proofs.Noting.{keeper-at, long-keepers}
use Rattle.lrc_memory.proofs.Attaches.{ok_then}
use Rattle.lrc_memory.proofs.Needs.{need-made}
use Rattle.lrc_memory.proofs.memory.Memory.need.Goals as goal

pub state-requires : goal.state-requires
state-requires c = within-seen (kept c.self.inside) _ _ c.self.view_is c.requires

pub index-requires : goal.index-requires
index-requires c =
    omega (
      arith,
      c.from.ensures,
      c.self.invariant.keepers,
      long-keepers c.self.inside.notes.items,
      within-seen (kept c.self.inside) _ _ c.self.view_is c.requires,
    )

pub need_of-requires-clause-page : goal.need_of-requires-clause-page
need_of-requires-clause-page c =
    omega (arith, c.size-few.ensures.few, within-seen (kept c.self.inside) _ _ c.self.view_is c.requires)

pub returns-clause-need : goal.returns-clause-need
returns-clause-need c =
    let k = kept c.self.inside in
    let n = c.args.self.now in
    let within : c.args.page < length c.self.inside.table.copies = within-seen k _ _ c.self.view_is c.requires in
    let notes = c.self.inside.notes.items in
    let keeper : c.index.result.now.keeper ≡ keeper_at n.memory c.args.page =
    keeper-at notes c.from.result c.index.result.now c.index.ensures
    (omega (arith, c.from.ensures, c.self.invariant.keepers, long-keepers notes, within))
    ∙ ap (λ p. get_or (keepers_of notes) p 0) c.from.ensures
    ∙ ap (λ (n : NodeMemory). keeper_at n.memory c.args.page) c.self.view_is in
    let nodes : c.nodes.result ≡ length n.memory.store.last =
    c.nodes.ensures.all ∙ c.self.invariant.collected ∙ ap (λ (n : NodeMemory). length n.memory.store.last) c.self.view_is in
    let unknown = unknown_of c.self.inside.store c.in_ok-missing.missing.items in
    ok_then c.need_of.result c.need_of.ensures
    (λ need is.
    need-made k n c.args.page c.nodes.result c.index.result.now.keeper c.in_ok-missing.missing.items unknown
    (seen_base c.base_due-base.result) need
    c.self.view_is within nodes keeper c.in_ok-missing.ensures.keys refl
    (c.base_due-base.ensures ∙ ap (λ s. base_in s c.index.result.now.keeper) c.state.ensures) is)

pub returns-clause-keeper : goal.returns-clause-keeper
returns-clause-keeper c =
    let k = kept c.self.inside in
    let within : c.args.page < length c.self.inside.table.copies = within-seen k _ _ c.self.view_is c.requires in
    let here : get_or (keepers_of c.self.inside.notes.items) c.args.page 0 < length c.self.inside.store.last =
    c.self.invariant.keeping c.args.page 0 (omega (arith, c.self.invariant.keepers, within)) in
    subst (λ (n : NodeMemory). get_or n.memory.keepers c.args.page 0 < length n.memory.store.last) c.self.view_is here
