-- The nodes so far can do nothing.
use Rattle.std.proofs.Common.{◌<◌, ℕ}
use Rattle.lrc_trace.specs.declared.act.Deed.{Deed}
use Rattle.lrc_exec.specs.States.{plain_at}
use Rattle.lrc_lazy.specs.Standing.{CanMake}
use Rattle.lrc_lazy_search.proofs.state.LazyState.can_act.Given as goal

abbrev pub invariant-loop-node : goal.invariant-loop-node
invariant-loop-node l = (n : ℕ) (deed : Deed) → n < l.node → CanMake l.flat.words (plain_at l.flat l.self.state) l.self.knowledge n deed → ⊥
