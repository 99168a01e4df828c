use Rattle.std.proofs.Common.{ℕ, List, map, sym, subst}
use Rattle.std.proofs.lemmas.Result.{IfOk-weaker}
use Rattle.lrc_store.specs.declared.key.Key.{Key}
use Rattle.lrc_store.specs.Store.{IsMissing}
use Rattle.lrc_store.proofs.Ranks.{IsMissing-from_sort}
use Rattle.lrc_store.proofs.store.keys_in_order.Goals as goal

pub returns : goal.returns
returns c =
    IfOk-weaker c.keys_of.result _ _
    (λ keys same store page since sound kept.
    subst (λ (l : List Key). IsMissing store page since l) (sym same)
    (subst (λ (l : List (ℕ × Key)). IsMissing store page since (map (λ pair. pair.1) l)) (sym c.deref.ensures.value)
    (IsMissing-from_sort store page since c.args.found.items c.sort_unstable.new.self.items sound kept
    c.sort_unstable.ensures.permutation c.sort_unstable.ensures.sorted)))
    c.keys_of.ensures
