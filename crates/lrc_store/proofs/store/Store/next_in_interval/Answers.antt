use Rattle.std.proofs.Common.{◌≡◌, ◌<◌, ◌∙◌, ◌+◌, Some, length, sym, subst, arith}
use Rattle.std.proofs.lemmas.Option.{same_Some, slice_get_within}
use Rattle.lrc_store.specs.Lists.{key_at, notices_of}
use Rattle.lrc_store.specs.Store.{StoreRecord}
use Rattle.lrc_store.proofs.LinkedStores.{noted_long}
use Rattle.lrc_store.proofs.store.Store.next_in_interval.Goals as goal

pub overflow_add-after : goal.overflow_add-after
overflow_add-after c =
    let store : StoreRecord = record { pages = c.self.inside.pages; last = c.self.inside.last; entries = c.self.inside.arena.entries } in
    let long = noted_long store c.args.self.now c.self.inside.links.by_node c.self.inside.links.by_page c.self.inside.arena.notices c.self.invariant c.self.view_is in
    omega (arith, long, c.requires, c.at.view_is, c.len-few.ensures.few)

pub returns-then-is_of_one_with-clause-in_use : goal.returns-then-is_of_one_with-clause-in_use
returns-then-is_of_one_with-clause-in_use c = λ notice is.
    let there : key_at c.args.self.now (c.at.inside.place + 1) ≡ Some c.in_ok-key.key = sym c.key-2.ensures ∙ c.in_ok-key.was in
    subst (λ n. n < length (notices_of c.args.self.now)) (same_Some _ _ is)
    (slice_get_within (notices_of c.args.self.now) (c.at.inside.place + 1) c.in_ok-key.key there)
