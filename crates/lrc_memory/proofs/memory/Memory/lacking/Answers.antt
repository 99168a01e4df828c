use Rattle.std.proofs.Common.{◌≡◌, ◌∙◌, ◌<◌, [], get_or, ap, length, sym, subst, arith}
use Rattle.std.proofs.lemmas.List.Elements.{All-head, All-tail}
use Rattle.lrc_store.specs.Store.{missing_of}
use Rattle.lrc_need.proofs.Askable.{missing-AreAskable}
use Rattle.lrc_memory.specs.Notes.{since_of}
use Rattle.lrc_memory.specs.View.{WasLast}
use Rattle.lrc_memory.proofs.Inside.{kept}
use Rattle.lrc_memory.proofs.Copies.{within-seen}
use Rattle.lrc_memory.proofs.Noting.{long-since, since-at}
use Rattle.lrc_memory.proofs.Attaches.{ok_then}
use Rattle.lrc_memory.proofs.Needs.{lacking-invalid, lacking-absent, lacking-none}
use Rattle.lrc_memory.proofs.memory.Memory.lacking.Goals as goal
use Rattle.lrc_memory.proofs.memory.Memory.lacking.Goals.{After-index}

pub state-requires : goal.state-requires
state-requires c = within-seen (kept c.self.inside) _ _ c.self.view_is c.requires

pub index-requires : goal.index-requires
index-requires c =
    omega (
      arith,
      c.from.ensures,
      c.self.invariant.since,
      long-since c.self.inside.notes.items,
      within-seen (kept c.self.inside) _ _ c.self.view_is c.requires,
    )

within : (c : After-index) → c.args.page < length (since_of c.self.inside.notes.items)
within c = omega (arith, c.self.invariant.since, within-seen (kept c.self.inside) _ _ c.self.view_is c.requires)

-- the time that was noted of the page
since : (c : After-index) → c.index.result.now.since ≡ get_or (since_of c.self.inside.notes.items) c.args.page []
since c =
    since-at c.self.inside.notes.items c.from.result c.index.result.now c.index.ensures
    (omega (arith, c.from.ensures, long-since c.self.inside.notes.items, within c))
    ∙ ap (λ p. get_or (since_of c.self.inside.notes.items) p []) c.from.ensures

pub missing-requires-clause-since : goal.missing-requires-clause-since
missing-requires-clause-since c =
    let a = (goal.at.missing-requires-clause-since c).After-index in
    ap length (since a) ∙ c.self.invariant.times c.args.page [] (within a)

pub missing-requires-clause-in_step : goal.missing-requires-clause-in_step
missing-requires-clause-in_step c = λ step.
    let a = (goal.at.missing-requires-clause-in_step c).After-index in
    let was : WasLast c.self.inside.store c.index.result.now.since =
    subst (WasLast c.self.inside.store) (sym (since a))
    (All-tail (WasLast c.self.inside.store) c.self.inside.collected (since_of c.self.inside.notes.items) (c.self.invariant.in_step step)
    c.args.page [] (within a)) in
    was.first c.args.page

pub missing-requires-in-Absent-clause-in_step : goal.missing-requires-in-Absent-clause-in_step
missing-requires-in-Absent-clause-in_step c = λ step.
    let was : WasLast c.self.inside.store c.self.inside.collected =
    All-head (WasLast c.self.inside.store) c.self.inside.collected (since_of c.self.inside.notes.items) (c.self.invariant.in_step step) in
    was.first c.args.page

pub returns-in-Invalid-clause-keys : goal.returns-in-Invalid-clause-keys
returns-in-Invalid-clause-keys c =
    let k = kept c.self.inside in
    let within : c.args.page < length c.self.inside.table.copies = within-seen k _ _ c.self.view_is c.requires in
    let a = (goal.at.returns-in-Invalid-clause-keys c).After-index in
    ok_then c.missing.result c.missing.ensures.value
    (λ keys is. is ∙ ap (missing_of c.self.inside.store c.args.page) (since a)
    ∙ sym (lacking-invalid k _ c.args.page c.self.view_is within (sym c.state.ensures ∙ c.in-Invalid.is)))

pub returns-in-Invalid-clause-askable : goal.returns-in-Invalid-clause-askable
returns-in-Invalid-clause-askable c =
    ok_then c.missing.result c.missing.ensures.missing (λ keys is. missing-AreAskable _ _ _ _ c.self.invariant.store is)

pub returns-in-Absent-clause-keys : goal.returns-in-Absent-clause-keys
returns-in-Absent-clause-keys c =
    ok_then c.missing-in-Absent.result c.missing-in-Absent.ensures.value
    (λ keys is. is ∙ sym (lacking-absent (kept c.self.inside) _ c.args.page c.self.view_is
    (within-seen (kept c.self.inside) _ _ c.self.view_is c.requires) (sym c.state.ensures ∙ c.in-Absent.is)))

pub returns-in-Absent-clause-askable : goal.returns-in-Absent-clause-askable
returns-in-Absent-clause-askable c =
    ok_then c.missing-in-Absent.result c.missing-in-Absent.ensures.missing (λ keys is. missing-AreAskable _ _ _ _ c.self.invariant.store is)

pub returns-in_default-clause-keys : goal.returns-in_default-clause-keys
returns-in_default-clause-keys c =
    c.new.ensures.items
    ∙ sym (lacking-none (kept c.self.inside) _ c.args.page c.self.view_is (within-seen (kept c.self.inside) _ _ c.self.view_is c.requires)
    (λ is. c.in_default.not-Invalid (c.state.ensures ∙ is)) (λ is. c.in_default.not-Absent (c.state.ensures ∙ is)))
