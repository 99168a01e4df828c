use Rattle.std.proofs.Common.{◌≡◌, ℕ, ◌∙◌, Some, ap, sym, arith}
use Rattle.std.specs.List.{slice_get}
use Rattle.std.specs.Option.{option_map}
use Rattle.std.proofs.lemmas.Option.{slice_get-get_or, slice_get_past}
use Rattle.lrc_store.specs.declared.key.Key.{Key}
use Rattle.lrc_store.specs.Lists.{key_at}
use Rattle.lrc_store.specs.Store.{StoreRecord}
use Rattle.lrc_store.proofs.LinkedStores.{key_at-noted}
use Rattle.lrc_store.proofs.store.Store.key.Goals as goal
use Rattle.lrc_store.proofs.store.Store.key.Goals.{After-noted}

-- the key by the arena
noted : (c : After-noted) → option_map (λ notice. notice.1) (slice_get c.self.inside.arena.notices c.at.inside.place) ≡ key_at c.args.self.now c.args.at
noted c =
    let store : StoreRecord = record { pages = c.self.inside.pages; last = c.self.inside.last; entries = c.self.inside.arena.entries } in
    sym (key_at-noted store c.self.inside.links.by_node c.self.inside.links.by_page c.self.inside.arena.notices c.at.inside.place c.self.invariant)
    ∙ ap (key_at store) c.at.view_is
    ∙ ap (λ (s : StoreRecord). key_at s c.args.at) c.self.view_is

pub returns-then-place-noted : goal.returns-then-place-noted
returns-then-place-noted c =
    let notices = c.self.inside.arena.notices in
    ap (λ (n : ℕ × Key). Some n.1) (c.notice.ensures c.notice.result)
    ∙ ap (option_map (λ (n : ℕ × Key). n.1)) (sym (slice_get-get_or notices c.at.inside.place c.notice.result
    (omega (arith, c.if-place-noted.true, c.noted.ensures))))
    ∙ noted (goal.at.returns-then-place-noted c).After-noted

pub returns-else-place-noted : goal.returns-else-place-noted
returns-else-place-noted c =
    ap (option_map (λ (n : ℕ × Key). n.1)) (sym (slice_get_past c.self.inside.arena.notices c.at.inside.place
    (omega (arith, c.if-place-noted.false, c.noted.ensures))))
    ∙ noted (goal.at.returns-else-place-noted c).After-noted
