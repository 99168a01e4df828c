use Rattle.std.proofs.Common.{◌≡◌, [], ap, arith, false, true, inl, inr, refl, subst, sym, ◌∙◌}
use Rattle.std.specs.Prelude.{Option, Some, None, slice_get}
use Rattle.std.proofs.lemmas.Bool.{cases_eq}
use Rattle.lrc_trace.specs.declared.act.Deed.{Deed}
use Rattle.lrc_lazy_search.proofs.Adding.{first_item, no_items}
use Rattle.lrc_lazy_run.specs.Ways.{CanMakeAt}
use Rattle.lrc_lazy_run.proofs.Keeping.{can_at_below}
use Rattle.lrc_lazy_run.proofs.ways.Ways.is_still_at.Goals as goal

pub returns-then-not-is_empty : goal.returns-then-not-is_empty
returns-then-not-is_empty c =
    let deeds = c.in_ok-deeds.deeds.items in
    let first = first_item deeds (grind (arith, c.is_empty.ensures, c.if-not-is_empty.true)) in (
      λ yes. let never : false ≡ true = yes in cc,
      λ still. absurd (still c.loop-node.node first.0 (c.in_ok-deeds.ensures.sound 0 first.0 first.1)),
    )

pub loop-node-preserved : goal.loop-node-preserved
loop-node-preserved c = λ n deed lt can.
    let flat = c.args.sought.now.flat in
    let keys = c.args.self.now.states.keys in
    let deeds = c.in_ok-deeds.deeds.items in
    let none : deeds ≡ [] = no_items deeds (grind (arith, c.is_empty.ensures, c.if-not-is_empty.false)) in
    elim (cases_eq n c.loop-node.node) [
      | inl same ↦
          let found = c.in_ok-deeds.ensures.all deed (subst (λ x. CanMakeAt flat keys c.args.place x deed) same can) in
          let never : ◌≡◌ {A = Option Deed} None (Some deed) = ap (λ l. slice_get l found.0) (sym none) ∙ found.1 in
          cc
      | inr apart ↦ c.loop-node.invariant n deed (omega (arith, lt, apart)) can
    ]

pub returns : goal.returns
returns c = (
  λ yes n deed can.
      let sought = c.args.sought.now in
      let ways = c.args.self.now in
      let below = can_at_below sought ways.states.keys ways.origins.items ways.settled.items c.args.place n deed c.requires.ways.task c.requires.ways.kept c.requires.within can in
      c.loop-node.invariant n deed (omega (arith, below, c.loop-node-test.false, c.loop-node.auto.node-end)) can,
  λ still. refl,
)
