use Rattle.std.proofs.Common.{sym, subst}
use Rattle.lrc_barrier.specs.Barrier.{IsManager}
use Rattle.lrc_barrier.proofs.Steps.{keeps, with_kept}
use Rattle.lrc_barrier.proofs.manager.Manager.keep.Goals as goal

pub returns : goal.returns
returns c =
    with_kept c.args.self.now c.args.from c.args.arrival c.from-place.result c.at.result c.deref_mut.result.now c.deref_mut-2.result.now
    c.self.view_is c.deref_mut.ensures.value c.deref_mut-2.ensures.value c.from-place.ensures c.at.ensures

pub invariant_of-self : goal.invariant_of-self
invariant_of-self c =
    subst IsManager (sym (returns c))
    (keeps c.args.self.now c.args.from c.args.arrival (subst IsManager c.self.view_is c.self.invariant) c.requires.from c.requires.own)
