-- What a read may give, by the last write or by any.
use Rattle.std.proofs.Common.{◌≡◌, sym, ◌∙◌, inl, inr, arith}
use Rattle.std.specs.Prelude.{false, true}
use Rattle.std.proofs.lemmas.Bool.{false≢true, eqb-true, eq-eqb}
use Rattle.lrc_judge.proofs.LatestWrites.{may_unordered, may_none, may_latest}
use Rattle.lrc_judge.proofs.written.Written.allows.Goals as goal

pub returns-else-value-eq0 : goal.returns-else-value-eq0
returns-else-value-eq0 c =
    let run = c.args.acts.now in
    let off : c.args.is_ordered ≡ false = c.if-not-is_ordered.true in
    let may = may_unordered run c.args.self.now c.requires.written c.requires.nodes c.args.word c.args.position c.args.value
    (λ o. false≢true (sym off ∙ c.requires.flag.1 o)) in (
      λ h. may.0 (inr (c.has.ensures.0 h)),
      λ m. elim (may.1 m) [ inl nothing ↦ absurd (omega (arith, nothing)) | inr b ↦ c.has.ensures.1 b ],
    )

pub returns-in-Some : goal.returns-in-Some
returns-in-Some c =
    let run = c.args.acts.now in
    let on : c.args.is_ordered ≡ true = c.if-not-is_ordered.false in
    let may = may_latest run c.args.self.now c.requires.written c.requires.nodes c.args.word c.args.position c.args.value c.in-Some.latest
    c.value_at.result (c.requires.flag.0 on) c.in-Some.ensures (λ node v d. c.value_at.ensures node c.args.word v d) in
    (λ t. may.0 (eqb-true c.args.value _ t), λ m. eq-eqb c.args.value _ (may.1 m))

pub returns-in-None : goal.returns-in-None
returns-in-None c =
    let may = may_none c.args.acts.now c.args.self.now c.requires.written c.requires.nodes c.args.word c.args.position c.args.value c.in-None.ensures in
    (λ t. may.0 (eqb-true c.args.value 0 t), λ m. eq-eqb c.args.value 0 (may.1 m))
