use Rattle.std.proofs.Common.{◌≡◌, ◌∙◌, not, map, ap, sym, rules}
use Rattle.std.specs.List.{filter}
use Rattle.std.proofs.lemmas.Fn.{filter_same}
use Rattle.lrc_store.specs.Arena.{ArenaRecord, NotedRecord, rank_of, stored_from}
use Rattle.lrc_store.specs.Links.{ranked_of}
use Rattle.lrc_store.specs.Store.{interval_of, is_covered}
use Rattle.lrc_store.proofs.Arenas.{ranks-filter, stored-filter}
use Rattle.lrc_store.proofs.LinkedStores.{ranked_of-filter, ranked_stay, stays}
use Rattle.lrc_store.proofs.arena.Arena.discard.Goals as goal
use Rattle.lrc_store.proofs.arena.Arena.discard.Goals.{After-retain, After-retain-2}

-- the intervals that are left
intervals_after : (c : After-retain)
    → c.retain.new.self.items ≡ filter (λ interval. not (is_covered c.args.time.now interval)) c.self.inside.intervals.items
intervals_after c =
    filter_same _ (λ interval. not (is_covered c.args.time.now interval))
    _ (λ x b f' h. (search rules, search rules)) c.self.inside.intervals.items c.retain.new.self.items c.retain.ensures.filtered

-- the notices that are left
noted_after : (c : After-retain-2)
    → c.retain-2.new.self.items ≡ filter (λ noted. stays c.args.time.now (rank_of noted)) c.self.inside.notices.items
noted_after c =
    filter_same _ (λ (noted : NotedRecord). stays c.args.time.now (rank_of noted))
    _ (λ x b f' h. (search rules, search rules)) c.self.inside.notices.items c.retain-2.new.self.items c.retain-2.ensures.filtered

pub invariant_of-self : goal.invariant_of-self
invariant_of-self c =
    let a = (goal.at.invariant_of-self c).After-retain in
    let time = c.args.time.now in
    ap (map rank_of) (noted_after c)
    ∙ ranks-filter (stays time) c.self.inside.notices.items
    ∙ ap (filter (stays time)) c.self.invariant
    ∙ ranked_of-filter time c.self.inside.intervals.items
    ∙ ap ranked_of (sym (intervals_after a))

pub returns-clause-entries : goal.returns-clause-entries
returns-clause-entries c =
    let a = (goal.at.returns-clause-entries c).After-retain in
    let b = (goal.at.returns-clause-entries c).After-retain-2 in
    let time = b.args.time.now in
    ap (λ intervals. stored_from intervals b.retain-2.new.self.items) (intervals_after a)
    ∙ ap (stored_from (filter (λ interval. not (is_covered time interval)) b.self.inside.intervals.items)) (noted_after b)
    ∙ stored-filter (λ interval. not (is_covered time interval)) (stays time) (ranked_stay time)
    b.self.inside.intervals.items b.self.inside.notices.items b.self.invariant
    ∙ ap (λ (s : ArenaRecord). filter (λ stored. not (is_covered time (interval_of stored))) s.entries) b.self.view_is

pub returns-clause-notices : goal.returns-clause-notices
returns-clause-notices c =
    let b = (goal.at.returns-clause-notices c).After-retain-2 in
    let time = b.args.time.now in
    ap (map rank_of) (noted_after b)
    ∙ ranks-filter (stays time) b.self.inside.notices.items
    ∙ ap (λ (s : ArenaRecord). filter (stays time) s.notices) b.self.view_is
