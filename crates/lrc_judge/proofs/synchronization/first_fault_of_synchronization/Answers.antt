-- One position more is unbroken, and at the end all are.
use Rattle.std.proofs.Common.{inl, inr, subst, arith}
use Rattle.std.proofs.lemmas.Bool.{cases_eq}
use Rattle.lrc_judge.specs.Synchronization.{Breaks}
use Rattle.lrc_judge.proofs.Breaking.{no_break, Breaks-within}
use Rattle.lrc_judge.proofs.synchronization.first_fault_of_synchronization.Goals as goal

pub loop-position-preserved : goal.loop-position-preserved
loop-position-preserved c = record {
  standing = c.note.ensures;
  unbroken = λ j lt b.
      elim (cases_eq j c.loop-position.position) [
        | inl here ↦ c.if-not-allows.ensures (subst (λ m. Breaks c.args.nodes c.args.acts.now m) here b)
        | inr other ↦ c.loop-position.invariant.unbroken j (omega arith) b
      ];
}

pub returns : goal.returns
returns c =
    (no_break c.args.nodes c.args.acts.now).0 (λ j b.
    let within = Breaks-within b in
    c.loop-position.invariant.unbroken j (omega arith) b)
