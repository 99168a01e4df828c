use Rattle.std.proofs.Common.{◌-◌, arith, inl, inr, subst}
use Rattle.std.proofs.lemmas.Bool.{cases_eq, cases_lt}
use Rattle.lrc_trace.specs.declared.act.Deed.TheVariants.{Release}
use Rattle.lrc_trace.specs.Run.{IsDone}
use Rattle.lrc_why.proofs.about.last_release.Goals as goal

pub returns-then-is_release : goal.returns-then-is_release
returns-then-is_release c = record {
  release = (omega arith, c.if-is_release.ensures);
  last = λ m h. elim (cases_lt m c.loop-k.k) [ inl below ↦ omega arith | inr above ↦ absurd (c.loop-k.invariant m above h) ];
}

pub loop-k-preserved : goal.loop-k-preserved
loop-k-preserved c m le h =
    elim (cases_eq m (c.loop-k.k - 1)) [
      | inl same ↦ c.if-is_release.ensures (subst (λ n. IsDone c.args.acts.now n (Release c.args.lock)) same h.1)
      | inr other ↦ c.loop-k.invariant m (omega arith) h
    ]

pub returns : goal.returns
returns c k h = c.loop-k.invariant k (omega arith) h
