-- A location that is empty is none.
use Rattle.std.proofs.Common.{sym, ◌∙◌}
use Rattle.std.proofs.lemmas.Bool.{false≢true, eqb-true, eq-eqb}
use Rattle.lrc_races_text.proofs.NamingLemmas.{numbers, placed, mention_none, mention_one}
use Rattle.lrc_races_text.proofs.naming.place.Goals as goal

pub returns-then-is_empty-clause-mentioned : goal.returns-then-is_empty-clause-mentioned
returns-then-is_empty-clause-mentioned c = mention_none c.args.location.now _ (eqb-true _ _ (sym c.is_empty.ensures ∙ c.if-is_empty.true))

pub returns-clause-mentioned : goal.returns-clause-mentioned
returns-clause-mentioned c = mention_one c.args.location.now
    (λ e. false≢true (sym c.if-is_empty.false ∙ c.is_empty.ensures ∙ eq-eqb _ _ e)) c.in_ok-number.ensures.numbered

pub returns-clause-located : goal.returns-clause-located
returns-clause-located c = (
  (placed c.args.location.now (λ e. false≢true (sym c.if-is_empty.false ∙ c.is_empty.ensures ∙ eq-eqb _ _ e))).1,
  numbers c.in_ok-number.ensures.numbered,
)
