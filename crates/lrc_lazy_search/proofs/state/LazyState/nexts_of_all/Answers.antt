use Rattle.std.proofs.Common.{inl, inr, sym, subst, arith}
use Rattle.std.proofs.lemmas.Bool.{cases_eq}
use Rattle.lrc_exec.specs.States.{plain_at}
use Rattle.lrc_lazy.specs.Standing.{CanMake}
use Rattle.lrc_lazy_search.specs.Searching.{HasStep}
use Rattle.lrc_lazy_search.proofs.Making.{can_below}
use Rattle.lrc_lazy_search.proofs.state.LazyState.nexts_of_all.Goals as goal

pub loop-node-preserved : goal.loop-node-preserved
loop-node-preserved c =
    let flat = c.args.flat.now in
    let key = c.args.self.now in
    let e = c.in_ok-nexts_of.ensures in
    let node = c.loop-node.node in
    let new = c.nexts_of.new.all.items in
    record {
      sound = e.sound;
      done = λ n lt deed can. elim (cases_eq n node) [
        | inl same ↦
            subst (λ x. HasStep flat key x deed new) (sym same)
            (e.all deed (subst (λ x. CanMake flat.words (plain_at flat key.state) key.knowledge x deed) same can))
        | inr apart ↦ e.kept n (c.loop-node.invariant.done n (omega (arith, lt, apart))) deed can
      ];
      neat = λ here. e.neat here (c.loop-node.invariant.neat here);
      left = λ some. e.left some (c.loop-node.invariant.left some);
    }

pub returns-clause-all : goal.returns-clause-all
returns-clause-all c = λ node deed can.
    let below = can_below c.args.flat.now c.args.self.now node deed c.requires.fit can in
    let count = c.requires.fit.valid.spots in
    c.loop-node.invariant.done node
    (omega (arith, below, count, c.loop-node-test.false, c.loop-node.auto.node-end, c.len-node-end.ensures)) deed can
