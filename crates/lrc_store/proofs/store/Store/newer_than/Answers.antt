use Rattle.std.proofs.Common.{◌≡◌, List, ◌++◌, refl, ap, subst, ◌∙◌, arith}
use Rattle.std.specs.List.{filter}
use Rattle.lrc_store.specs.Interval.{IntervalRecord}
use Rattle.lrc_store.specs.Links.{is_newer_of}
use Rattle.lrc_store.specs.Store.{StoreRecord, IsNewer, IsStore, intervals_of, newer_of}
use Rattle.lrc_store.proofs.Newer.{IsNewer-found, by_nodes-more}
use Rattle.lrc_store.proofs.Ranks.{IsNewer-newer_of, IsNewer-only}
use Rattle.lrc_store.proofs.store.Store.newer_than.Goals as goal
use Rattle.lrc_store.proofs.store.Store.newer_than.Goals.{After-from_ascending}

pub loop-node-init : goal.loop-node-init
loop-node-init c = c.in_ok-found.ensures.items

pub loop-node-preserved : goal.loop-node-preserved
loop-node-preserved c =
    let here : intervals_of (record { pages = c.self.inside.pages; last = c.self.inside.last; entries = c.self.inside.arena.entries })
    ≡ intervals_of c.args.self.now = ap intervals_of c.self.view_is in
    let newer = filter (is_newer_of c.loop-node.node c.args.since.now c.args.upto.now) in
    c.in_ok-put_newer_of_node.ensures
    ∙ ap (λ (l : List IntervalRecord). c.loop-node.found.items ++ newer l) here
    ∙ by_nodes-more c.args.since.now c.args.upto.now (intervals_of c.args.self.now) c.loop-node.node c.loop-node.found.items
    (newer (intervals_of c.args.self.now)) c.loop-node.invariant refl

pub from_ascending-requires : goal.from_ascending-requires
from_ascending-requires c =
    let store : StoreRecord = record { pages = c.self.inside.pages; last = c.self.inside.last; entries = c.self.inside.arena.entries } in
    (IsNewer-found store c.args.self.now c.self.inside.links.by_node c.self.inside.links.by_page c.self.inside.arena.notices c.args.since.now c.args.upto.now
    c.loop-node.node c.loop-node.found.items c.self.invariant c.self.view_is
    (omega (arith, c.loop-node-test.false, c.loop-node.auto, c.nodes-node-end.ensures.all)) c.loop-node.invariant).ascending

-- what is handed back is what is newer
newer : (c : After-from_ascending) → IsNewer c.args.self.now c.args.since.now c.args.upto.now c.from_ascending.result
newer c =
    let store : StoreRecord = record { pages = c.self.inside.pages; last = c.self.inside.last; entries = c.self.inside.arena.entries } in
    IsNewer-found store c.args.self.now c.self.inside.links.by_node c.self.inside.links.by_page c.self.inside.arena.notices c.args.since.now c.args.upto.now
    c.loop-node.node c.from_ascending.result c.self.invariant c.self.view_is
    (omega (arith, c.loop-node-test.false, c.loop-node.auto, c.nodes-node-end.ensures.all)) (c.from_ascending.ensures ∙ c.loop-node.invariant)

pub returns-clause-newer : goal.returns-clause-newer
returns-clause-newer c = newer (goal.at.returns-clause-newer c).After-from_ascending

pub returns-clause-value : goal.returns-clause-value
returns-clause-value c =
    let a = (goal.at.returns-clause-value c).After-from_ascending in
    IsNewer-only c.args.self.now c.args.since.now c.args.upto.now c.from_ascending.result
    (newer_of c.args.self.now c.args.since.now c.args.upto.now) (newer a)
    (IsNewer-newer_of c.args.self.now c.args.since.now c.args.upto.now
    (subst IsStore c.self.view_is c.self.invariant.sound))
