-- One position more, from the last one back.
use Rattle.std.proofs.Common.{◌-◌, ◌<◌, length, subst, arith, ◌∙◌, refl, length-set, inl, inr}
use Rattle.std.specs.Prelude.{None}
use Rattle.std.proofs.lemmas.Bool.{cases_eq}
use Rattle.std.proofs.lemmas.List.{get_or-set_same, get_or-set_other}
use Rattle.lrc_trace.specs.Order.{Precedes}
use Rattle.lrc_trace.proofs.HappensBefore.{Precedes-forward}
use Rattle.lrc_why_chains.specs.Starts.{IsBest}
use Rattle.lrc_why_chains.proofs.Best.{Best-last, Best-here, Best-bound}
use Rattle.lrc_why_chains.proofs.chains.starts_from.Goals as goal

pub note-requires-clause-onward : goal.note-requires-clause-onward
note-requires-clause-onward c = c.in_ok-onward.ensures.1 c.args.acts.now c.args.to

pub note-requires-clause-start : goal.note-requires-clause-start
note-requires-clause-start c = Best-last c.args.acts.now c.args.to

pub from_here-requires : goal.from_here-requires
from_here-requires c start is =
    let best = subst (λ b. IsBest c.args.acts.now c.args.to (λ m. Precedes c.args.acts.now (c.loop-position.position - 1) m) b) is c.best_from-best.ensures in
    let bound = Best-bound c.args.acts.now c.args.to _ start best in
    let after = Precedes-forward (best.sound start refl).0 in
    omega (arith, bound, after, c.requires.within)

pub note-requires-in-loop-position-clause-start : goal.note-requires-in-loop-position-clause-start
note-requires-in-loop-position-clause-start c = rw c.from_here.ensures (Best-here c.args.acts.now c.args.to (c.loop-position.position - 1)
    (omega arith) c.best_from-best.result c.best_from-best.ensures)

pub loop-position-preserved : goal.loop-position-preserved
loop-position-preserved c =
    let here = c.loop-position.position - 1 in
    let items = c.loop-position.next.items in
    let within : here < length items = omega (arith, c.loop-position.invariant.all) in
    record {
      most = c.note-in-loop-position.ensures.most;
      starts = c.note-in-loop-position.ensures.onward;
      all = length-set items here c.best_from-best.result ∙ c.loop-position.invariant.all;
      best = λ k le lt.
          elim (cases_eq k here) [
            | inl same ↦ rw (same, get_or-set_same items here c.best_from-best.result None within) c.best_from-best.ensures
            | inr other ↦ rw (get_or-set_other items here k c.best_from-best.result None other) (c.loop-position.invariant.best k (omega arith) lt)
          ];
    }
