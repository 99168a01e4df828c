use Rattle.std.proofs.Common.{◌≡◌, List}
use Rattle.std.proofs.lemmas.Result.{IfOk-weaker}
use Rattle.lrc_store.specs.declared.key.Key.{Key}
use Rattle.lrc_store.specs.Store.{StoreRecord, IsMissing, missing_of}
use Rattle.lrc_store.proofs.Missing.{ArePutInOrder, IsMissing-found}
use Rattle.lrc_store.proofs.store.Store.missing.Goals as goal
use Rattle.lrc_store.proofs.store.Store.missing.Goals.{After-keys_in_order}

-- what is put in order is what is missing
found : (c : After-keys_in_order) (keys : List Key) → ArePutInOrder c.in_ok-found.found.items keys
    → IsMissing c.args.self.now c.args.page c.args.since.now keys × (keys ≡ missing_of c.args.self.now c.args.page c.args.since.now)
found c keys =
    let store : StoreRecord = record { pages = c.self.inside.pages; last = c.self.inside.last; entries = c.self.inside.arena.entries } in
    IsMissing-found store c.args.self.now c.self.inside.links.by_node c.self.inside.links.by_page c.self.inside.arena.notices c.args.page c.args.since.now
    c.in_ok-found.found.items keys c.self.invariant c.self.view_is c.in_ok-found.ensures

pub returns-clause-missing : goal.returns-clause-missing
returns-clause-missing c =
    let a = (goal.at.returns-clause-missing c).After-keys_in_order in
    IfOk-weaker a.keys_in_order.result _ _ (λ keys ordered. (found a keys.items ordered).0) a.keys_in_order.ensures

pub returns-clause-value : goal.returns-clause-value
returns-clause-value c =
    let a = (goal.at.returns-clause-value c).After-keys_in_order in
    IfOk-weaker a.keys_in_order.result _ _ (λ keys ordered. (found a keys.items ordered).1) a.keys_in_order.ensures
