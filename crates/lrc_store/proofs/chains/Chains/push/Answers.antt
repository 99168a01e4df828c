use Rattle.std.proofs.Common.{◌<◌, ◌∙◌, length, get_or, sym, ap, subst, arith}
use Rattle.std.proofs.lemmas.List.{length-map}
use Rattle.lrc_store.specs.declared.chains.Entry.{Entry}
use Rattle.lrc_store.specs.Chains.{ChainsRecord}
use Rattle.lrc_store.proofs.Chained.{IsLinked-push}
use Rattle.lrc_store.proofs.chains.Chains.push.Goals as goal

pub invariant_of-self : goal.invariant_of-self
invariant_of-self c =
    rw (c.in-Ok.ensures.items, c.from-2.ensures)
    (IsLinked-push c.self.inside.newest.items c.self.inside.entries.items c.args.key c.len-at.result c.index-next.result.now
    c.self.invariant (omega (
      arith,
      c.requires.few,
      ap (λ (r : ChainsRecord). length r.keys) c.self.view_is,
      length-map c.self.inside.entries.items (λ (entry : Entry). entry.key),
    ))
    (subst (λ (r : ChainsRecord). c.args.key < r.lists) (sym c.self.view_is) c.requires.in_range)
    (omega (arith, c.len-at.ensures, c.self.inside.entries.ok.0))
    (c.index-next.ensures ∙ ap (λ k. get_or c.self.inside.newest.items k c.index-next.result.now) c.from.ensures))
