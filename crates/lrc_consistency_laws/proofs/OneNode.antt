-- A run of one node: program order is the order of the run, so what was written last is what happens before last.
use Rattle.std.proofs.Common.{◌≡◌, ℕ, List, sym, subst, ◌∙◌}
use Rattle.lrc_trace.specs.declared.act.Act.{Act}
use Rattle.lrc_trace.specs.declared.act.Deed.{Deed}
use Rattle.lrc_trace.specs.declared.act.Deed.TheVariants.{Read, Write}
use Rattle.lrc_trace.specs.Run.{Does}
use Rattle.lrc_trace.specs.Order.{base, program}
use Rattle.lrc_trace.specs.Reading.{ReadsLazily}
use Rattle.lrc_consistency_laws.specs.InOrder.{ReadsInOrder}
use Rattle.lrc_consistency_laws.proofs.InOrder.{OrdersReads, lazily_by_order}

-- whatever is done earlier happens before
one_node : (run : List Act) → ((k node : ℕ) (deed : Deed) → Does run k node deed → node ≡ 0) → OrdersReads run
one_node run alone i j p q word v u lt h k =
    base (program lt h (subst (λ n. Does run j n (Read word u)) (alone j q (Read word u) k ∙ sym (alone i p (Write word v) h)) k))

pub lazily : (run : List Act) → ((k node : ℕ) (deed : Deed) → Does run k node deed → node ≡ 0) → ReadsInOrder run → ReadsLazily run
lazily run alone = lazily_by_order run (one_node run alone)
