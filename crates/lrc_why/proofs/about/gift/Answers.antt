use Rattle.std.proofs.Common.{sym, subst}
use Rattle.std.specs.Prelude.{Contains}
use Rattle.lrc_why_chains.specs.Writes.{AreExactly, IsKnownWrite}
use Rattle.lrc_why.proofs.about.gift.Goals as goal
use Rattle.lrc_why.proofs.about.gift.Goals.{in-Some+in_ok-source-in-Some, in-None+in_ok-source-in-None}

pub returns : goal.returns
returns c =
    let run = c.args.acts.now in
    let position = c.args.position in
    let word = c.args.word in
    let value = c.args.value in
    let allowed = c.in_ok-values.ensures in
    let known = c.in_ok-writes.ensures in
    let known_here = subst (λ zs. AreExactly (IsKnownWrite run position word) zs) (sym c.deref-2.ensures.value) known in
    record {
      allowed = (
        λ t. (allowed.exact value).0 (subst (λ zs. Contains zs value) c.deref.ensures.value (c.has-allowed.ensures.0 t)),
        λ m. c.has-allowed.ensures.1 (subst (λ zs. Contains zs value) (sym c.deref.ensures.value) ((allowed.exact value).1 m)),
      );
      source = elim c.match-first_crossing.branch [
        | in-Some+in_ok-source-in-Some w ↦
            rw w.source-is (w.in_ok-source-in-Some.ensures run c.args.acting position word c.requires.order
            (subst (λ zs. AreExactly (IsKnownWrite run position word) zs) (sym w.deref-in-Some.ensures.value) known) allowed
            (w.in-Some.ensures run position word c.requires.order known_here))
        | in-None+in_ok-source-in-None w ↦
            rw w.source-is (w.in_ok-source-in-None.ensures position word c.requires.acting
            (subst (λ zs. AreExactly (IsKnownWrite run position word) zs) (sym w.deref-in-None.ensures.value) known)
            (w.in-None.ensures run position word c.requires.order known_here))
      ];
      unknown = c.last_written-unknown.ensures;
    }
