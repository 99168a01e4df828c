use Rattle.std.proofs.Common.{◌+◌, sym, subst}
use Rattle.lrc_races_trace.specs.Order.{Precedes}
use Rattle.lrc_chains.specs.Starts.{IsBest}
use Rattle.lrc_races_why.proofs.Gating.{Best-onto}
use Rattle.lrc_races_why.proofs.onward.Onward.best_from.Goals as goal

pub returns : goal.returns
returns c = λ events to n here e on.
    subst (λ b. IsBest (Precedes events) to (λ k. Precedes events n k) b) (sym c.better.ensures)
    (Best-onto events n c.args.event here to c.of_thread.result c.gated.result (c.of_thread.ensures events to (n + 1) on) (c.gated.ensures events to n e on))
