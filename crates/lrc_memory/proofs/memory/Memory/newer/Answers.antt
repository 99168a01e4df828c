use Rattle.std.proofs.Common.{◌≡◌, ℕ, List, length, get_or, ap, sym, subst, ◌∙◌}
use Rattle.std.specs.Prelude.{All}
use Rattle.std.proofs.lemmas.Result.{IfOk-weaker}
use Rattle.std.proofs.lemmas.List.Elements.{All-contains, Contains-get_or}
use Rattle.lrc_store.specs.Interval.{IntervalRecord, by_node}
use Rattle.lrc_store.specs.Order.{ascending_part}
use Rattle.lrc_store.specs.Store.{StoreRecord, IsStore, IsNewer, intervals_of, is_newer, newer_of}
use Rattle.lrc_memory.specs.View.{NodeMemory, unmade}
use Rattle.lrc_memory.proofs.Inside.{kept}
use Rattle.lrc_memory.proofs.Overlays.{intervals-over}
use Rattle.lrc_memory.proofs.memory.Memory.newer.Goals as goal

stamps_of : (store : StoreRecord) (since upto : List ℕ) (found : List IntervalRecord) → IsStore store → IsNewer store since upto found
    → All (λ (i : IntervalRecord). length i.stamp ≡ length store.last) found
stamps_of store since upto found s n = λ k d within.
    All-contains (λ (i : IntervalRecord). length i.stamp ≡ length store.last) (intervals_of store) (get_or found k d) s.stamps
    ((n.exactly (get_or found k d)).0 (Contains-get_or found k d within)).0

pub returns-clause-found : goal.returns-clause-found
returns-clause-found c =
    let k = kept c.self.inside in
    let same : newer_of k.store c.args.since.now c.args.upto.now ≡ newer_of c.args.self.now.memory.store c.args.since.now c.args.upto.now =
    ap (ascending_part by_node (is_newer c.args.since.now c.args.upto.now)) (sym (intervals-over (unmade k.me k.named k.table) k.store))
    ∙ ap (λ (n : NodeMemory). newer_of n.memory.store c.args.since.now c.args.upto.now) c.self.view_is in
    rw (← same) c.newer_than.ensures.value

pub returns-clause-stamps : goal.returns-clause-stamps
returns-clause-stamps c =
    let k = kept c.self.inside in
    let nodes : length k.store.last ≡ length c.args.self.now.memory.store.last = ap (λ (n : NodeMemory). length n.memory.store.last) c.self.view_is in
    IfOk-weaker c.newer_than.result (IsNewer k.store c.args.since.now c.args.upto.now)
    (All (λ (i : IntervalRecord). length i.stamp ≡ length c.args.self.now.memory.store.last))
    (λ found n. subst (λ m. All (λ (i : IntervalRecord). length i.stamp ≡ m) found) nodes
    (stamps_of k.store c.args.since.now c.args.upto.now found c.self.invariant.store n))
    c.newer_than.ensures.newer
