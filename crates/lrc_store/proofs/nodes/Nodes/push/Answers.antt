use Rattle.std.proofs.Common.{◌<◌, ◌∙◌, ◌++◌, ◌∷◌, [], ℕ, List, length, get_or, set, ap, sym, subst, arith}
use Rattle.std.proofs.lemmas.List.{length-append}
use Rattle.lrc_store.specs.Rows.{AreRows}
use Rattle.lrc_store.proofs.Rowed.{AreRows-push}
use Rattle.lrc_store.proofs.nodes.Nodes.push.Goals as goal

pub invariant_of-self : goal.invariant_of-self
invariant_of-self c =
    let rows = c.self.inside.rows.items in
    let node = c.args.node in (
      omega (
        arith,
        ap length c.in-Ok.ensures.items,
        length-append c.self.inside.starts.items (c.args.start ∷ []),
        ap length c.push.ensures.keys,
        length-append c.self.inside.chains.keys (node ∷ []),
        c.self.invariant.0,
      ),
      subst (λ (keys : List ℕ). AreRows (set rows c.from.result c.push-3.new.self) c.push.new.self.lists keys) (sym c.push.ensures.keys)
          (subst (λ n. AreRows (set rows c.from.result c.push-3.new.self) n (c.self.inside.chains.keys ++ node ∷ [])) (sym c.push.ensures.lists)
          (subst (λ n. AreRows (set rows n c.push-3.new.self) c.self.inside.chains.lists (c.self.inside.chains.keys ++ node ∷ [])) (sym c.from.ensures)
          (AreRows-push rows c.self.inside.chains.lists c.self.inside.chains.keys node c.len-at.result c.index_mut.result.now c.push-3.new.self
          c.self.invariant.1 (subst (λ n. node < n) (ap (λ r. r.lists) (sym c.self.view_is)) c.requires.in_range) c.len-at.ensures.count
          (c.index_mut.ensures.value ∙ ap (λ n. get_or rows n c.index_mut.result.now) c.from.ensures) c.push-3.ensures.places))),
    )
