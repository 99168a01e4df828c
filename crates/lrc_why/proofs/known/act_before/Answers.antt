use Rattle.std.proofs.Common.{◌-◌, arith, inl, inr, subst}
use Rattle.std.proofs.lemmas.Bool.{cases_eq, cases_lt}
use Rattle.lrc_why_chains.specs.Known.{IsActOf}
use Rattle.lrc_why.proofs.known.act_before.Goals as goal

pub returns-then-is_act_of : goal.returns-then-is_act_of
returns-then-is_act_of c = record {
  acts = c.if-is_act_of.ensures;
  earlier = omega arith;
  last = λ m lt a. elim (cases_lt m c.loop-k.k) [ inl below ↦ omega arith | inr above ↦ absurd (c.loop-k.invariant m above lt a) ];
}

pub loop-k-preserved : goal.loop-k-preserved
loop-k-preserved c m le lt a =
    elim (cases_eq m (c.loop-k.k - 1)) [
      | inl same ↦ c.if-is_act_of.ensures (subst (λ n. IsActOf c.args.acts.now c.args.node n) same a)
      | inr other ↦ c.loop-k.invariant m (omega arith) lt a
    ]

pub returns : goal.returns
returns c k lt a = c.loop-k.invariant k (omega arith) lt a
