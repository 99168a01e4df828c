use Rattle.std.proofs.Common.{◌≡◌, [], ◌∷◌, ◌++◌, List, map, ap, sym, ◌∙◌}
use Rattle.lrc_store.specs.Arena.{ArenaRecord, NotedRecord, fresh_in, rank_of, stored_from}
use Rattle.lrc_store.specs.Interval.{IntervalRecord}
use Rattle.lrc_store.specs.Links.{ranked_of, ranked_pages}
use Rattle.lrc_store.specs.Store.{without_changes}
use Rattle.lrc_store.proofs.Arenas.{noted-push, ranks-push, stored-push}
use Rattle.lrc_store.proofs.arena.Arena.push.Goals as goal
use Rattle.lrc_store.proofs.arena.Arena.push.Goals.{After-add_notices}

intervals_after : (c : After-add_notices) → c.push.new.self.items ≡ c.self.inside.intervals.items ++ c.args.interval.now ∷ []
intervals_after c = c.in_ok-push.ensures.items ∙ ap (λ (i : IntervalRecord). c.self.inside.intervals.items ++ i ∷ []) c.in_ok-own.ensures

noted_after : (c : After-add_notices)
    → c.add_notices.new.notices.items ≡ c.self.inside.notices.items ++ map (fresh_in c.args.interval.now) c.args.interval.now.pages
noted_after c =
    c.add_notices.ensures
    ∙ ap (λ (l : List NotedRecord). l ++ map (fresh_in c.args.interval.now) c.args.interval.now.pages) c.reserve.ensures.items

pub invariant_of-self-2 : goal.invariant_of-self-2
invariant_of-self-2 c =
    ap (map rank_of) (noted_after c)
    ∙ noted-push c.self.inside.intervals.items c.args.interval.now c.self.inside.notices.items c.self.invariant
    ∙ ap ranked_of (sym (intervals_after c))

pub returns-clause-entries : goal.returns-clause-entries
returns-clause-entries c =
    let a = (goal.at.returns-clause-entries c).After-add_notices in
    let interval = a.args.interval.now in
    ap (λ (l : List IntervalRecord). stored_from l a.add_notices.new.notices.items) (intervals_after a)
    ∙ ap (stored_from (a.self.inside.intervals.items ++ interval ∷ [])) (noted_after a)
    ∙ stored-push a.self.inside.intervals.items interval a.self.inside.notices.items a.self.invariant
    ∙ ap (λ (s : ArenaRecord). s.entries ++ without_changes interval ∷ []) a.self.view_is

pub returns-clause-notices : goal.returns-clause-notices
returns-clause-notices c =
    let a = (goal.at.returns-clause-notices c).After-add_notices in
    let interval = a.args.interval.now in
    ap (map rank_of) (noted_after a)
    ∙ ranks-push interval a.self.inside.notices.items
    ∙ ap (λ (s : ArenaRecord). s.notices ++ ranked_pages interval) a.self.view_is
