use Rattle.std.proofs.Common.{arith, inl, inr, subst}
use Rattle.std.proofs.lemmas.Bool.{cases_eq, cases_lt}
use Rattle.lrc_trace.proofs.Positions.{Does-within}
use Rattle.lrc_why.specs.Spread.{IsTelling}
use Rattle.lrc_why.proofs.spread.first_telling.Goals as goal

pub returns-then-is_telling : goal.returns-then-is_telling
returns-then-is_telling c = record {
  telling = c.if-is_telling.ensures;
  first = λ m h. elim (cases_lt m c.loop-k.k) [ inl below ↦ absurd (c.loop-k.invariant m below h) | inr above ↦ above ];
}

pub loop-k-preserved : goal.loop-k-preserved
loop-k-preserved c m lt h =
    elim (cases_eq m c.loop-k.k) [
      | inl same ↦ c.if-is_telling.ensures (subst (λ n. IsTelling c.args.acts.now c.args.node c.args.position n) same h)
      | inr other ↦ c.loop-k.invariant m (omega arith) h
    ]

pub returns : goal.returns
returns c k h = let lt = Does-within h.does in c.loop-k.invariant k (omega arith) h
