-- The copy as it is seen, by its state.
use Rattle.std.proofs.Common.{◌≡◌, ◌∙◌, ◌<◌, [], ℕ, List, Option, Some, None, ap, get_or, length, sym, arith}
use Rattle.std.specs.Prelude.{unwrap_or}
use Rattle.lrc_table.specs.declared.slot.State.{State}
use Rattle.lrc_table.specs.declared.slot.State.TheVariants.{Valid, Written, Invalid, Absent}
use Rattle.lrc_table.specs.Table.{copy_at as copy_in}
use Rattle.lrc_protocol.specs.Pages.{valid, written, invalid, copy_at}
use Rattle.lrc_memory.specs.View.{Kept, NodeMemory, node_seen, seen_in}
use Rattle.lrc_memory.specs.Notes.{since_of}
use Rattle.lrc_memory.proofs.Inside.{kept}
use Rattle.lrc_memory.proofs.Copies.{copy-seen, within-seen}
use Rattle.lrc_memory.proofs.Noting.{long-since, since-at}
use Rattle.lrc_memory.proofs.memory.Memory.copy.Goals as goal

-- the copy as the protocol has it, by the state of what is kept
copy_is : (k : Kept) (n : NodeMemory) (page : ℕ) (state : State) → node_seen k ≡ n → page < length n.memory.copies → state ≡ (copy_in k.table page).state
    → seen_in state (get_or k.since page []) (copy_in k.table page) ≡ copy_at n.memory page
copy_is k n page state view within is =
    ap (λ s. seen_in s (get_or k.since page []) (copy_in k.table page)) is
    ∙ sym (copy-seen k page (within-seen k n page view within))
    ∙ ap (λ (n : NodeMemory). copy_at n.memory page) view

pub values-values-requires : goal.values-values-requires
values-values-requires c = within-seen (kept c.self.inside) _ _ c.self.view_is c.requires

pub state-requires : goal.state-requires
state-requires c = within-seen (kept c.self.inside) _ _ c.self.view_is c.requires

pub returns-in-Valid : goal.returns-in-Valid
returns-in-Valid c =
    ap (λ values. valid values) c.values-values.ensures
    ∙ copy_is (kept c.self.inside) c.args.self.now c.args.page Valid c.self.view_is c.requires (sym c.in-Valid.is ∙ c.state.ensures)

pub twin-requires : goal.twin-requires
twin-requires c = within-seen (kept c.self.inside) _ _ c.self.view_is c.requires

written_is : (k : Kept) (n : NodeMemory) (page : ℕ) (values twin : List ℕ) (kept_twin : Option (List ℕ)) → node_seen k ≡ n
    → page < length n.memory.copies → Written ≡ (copy_in k.table page).state → values ≡ (copy_in k.table page).values
    → (copy_in k.table page).twin ≡ kept_twin → unwrap_or kept_twin [] ≡ twin → written values twin ≡ copy_at n.memory page
written_is k n page values twin kept_twin view within state values_are twin_is is =
    ap (λ v. written v twin) values_are
    ∙ ap (λ t. written (copy_in k.table page).values t) (sym is ∙ ap (λ t. unwrap_or t []) (sym twin_is))
    ∙ copy_is k n page Written view within state

pub returns-in-Some : goal.returns-in-Some
returns-in-Some c =
    written_is (kept c.self.inside) c.args.self.now c.args.page _ _ (Some c.in-Some.twin.now) c.self.view_is c.requires
    (sym c.in-Written.is ∙ c.state.ensures) c.values-values.ensures c.in-Some.ensures cc

pub returns-in-None : goal.returns-in-None
returns-in-None c =
    written_is (kept c.self.inside) c.args.self.now c.args.page _ _ None c.self.view_is c.requires
    (sym c.in-Written.is ∙ c.state.ensures) c.values-values.ensures c.in-None.ensures cc

pub index-requires : goal.index-requires
index-requires c =
    omega (
      arith,
      c.from.ensures,
      c.self.invariant.since,
      long-since c.self.inside.notes.items,
      within-seen (kept c.self.inside) _ _ c.self.view_is c.requires,
    )

pub returns-in-Invalid : goal.returns-in-Invalid
returns-in-Invalid c =
    let k = kept c.self.inside in
    let notes = c.self.inside.notes.items in
    let within : c.args.page < length c.self.inside.table.copies = within-seen k _ _ c.self.view_is c.requires in
    let since : c.index.result.now.since ≡ get_or (since_of notes) c.args.page [] =
    since-at notes c.from.result c.index.result.now c.index.ensures
    (omega (arith, c.from.ensures, c.self.invariant.since, long-since notes, within))
    ∙ ap (λ p. get_or (since_of notes) p []) c.from.ensures in
    ap (λ values. invalid values c.index.result.now.since) c.values-values.ensures
    ∙ ap (λ t. invalid (copy_in k.table c.args.page).values t) since
    ∙ copy_is k c.args.self.now c.args.page Invalid c.self.view_is c.requires (sym c.in-Invalid.is ∙ c.state.ensures)

pub returns-in-Absent : goal.returns-in-Absent
returns-in-Absent c = copy_is (kept c.self.inside) c.args.self.now c.args.page Absent c.self.view_is c.requires (sym c.in-Absent.is ∙ c.state.ensures)
