use Rattle.std.proofs.Common.{◌∙◌, arith, inl, inr, subst, sym}
use Rattle.std.proofs.lemmas.Bool.{cases_eq}
use Rattle.lrc_exec.specs.States.{plain_at}
use Rattle.lrc_lazy.specs.Standing.{CanMake}
use Rattle.lrc_lazy_search.proofs.Making.{can_below, is_none_can, is_some_can}
use Rattle.lrc_lazy_search.proofs.state.LazyState.can_act.Goals as goal

pub returns-then-is_some-clause-can : goal.returns-then-is_some-clause-can
returns-then-is_some-clause-can c = λ yes.
    is_some_can c.args.flat.now c.args.self.now c.requires.fit c.loop-node.node c.next_deed.result c.next_deed.ensures
    (sym c.is_some.ensures ∙ c.if-is_some.true)

pub loop-node-preserved : goal.loop-node-preserved
loop-node-preserved c = λ n deed lt can.
    let flat = c.args.flat.now in
    let key = c.args.self.now in
    elim (cases_eq n c.loop-node.node) [
      | inl same ↦
          is_none_can flat key c.requires.fit c.loop-node.node c.next_deed.result c.next_deed.ensures (sym c.is_some.ensures ∙ c.if-is_some.false) deed
          (subst (λ x. CanMake flat.words (plain_at flat key.state) key.knowledge x deed) same can)
      | inr apart ↦ c.loop-node.invariant n deed (omega (arith, lt, apart)) can
    ]

pub returns-clause-still : goal.returns-clause-still
returns-clause-still c = λ no can.
    let below = can_below c.args.flat.now c.args.self.now can.node can.deed c.requires.fit can.can in
    c.loop-node.invariant can.node can.deed (omega (arith, below, c.loop-node-test.false, c.loop-node.auto.node-end)) can.can
