-- One verdict more, and all.
use Rattle.std.proofs.Common.{◌≡◌, ◌∙◌, length, subst, sym, arith}
use Rattle.std.specs.Prelude.{Some, slice_get}
use Rattle.lrc_races_claims.proofs.JudgeLemmas.{verdict_more, verdict_none}
use Rattle.lrc_races_claims.proofs.judge_all.verdicts_of.Goals as goal

pub loop-place-init : goal.loop-place-init
loop-place-init c = record {
  stays = λ sought naming last is. is;
  long = c.new-verdicts.ensures.len;
  each = λ sought naming last is slots.
      verdict_none sought naming c.args.events.now last c.args.claims.now c.new-verdicts.result.items c.new-verdicts.ensures.items;
}

pub verdict_at-requires-clause-judge : goal.verdict_at-requires-clause-judge
verdict_at-requires-clause-judge c =
    let some = c.requires.judge in
    record {
      sought = some.sought;
      naming = some.naming;
      last = some.last;
      is = c.loop-place.invariant.stays some.sought some.naming some.last some.is;
    }

pub loop-place-preserved : goal.loop-place-preserved
loop-place-preserved c =
    let events = c.args.events.now in
    let claims = c.args.claims.now in
    let verdicts = c.loop-place.verdicts.items in
    let long : length verdicts ≡ c.loop-place.place = sym c.loop-place.verdicts.ok.0 ∙ c.loop-place.invariant.long in
    record {
      stays = λ sought naming last is. c.in_ok-verdict_at.ensures.stays sought naming last (c.loop-place.invariant.stays sought naming last is);
      long = omega (arith, c.in_ok-push.ensures.len);
      each = λ sought naming last is slots.
          verdict_more sought naming events last claims verdicts c.push.new.self.items c.in_ok-verdict_at.field-0 c.in_ok-push.ensures.items
          (λ claim at. c.in_ok-verdict_at.ensures.judged sought naming last claim (subst (λ m. slice_get claims m ≡ Some claim) long at)
          (c.loop-place.invariant.stays sought naming last is) slots) (c.loop-place.invariant.each sought naming last is slots);
    }

pub returns-clause-judged : goal.returns-clause-judged
returns-clause-judged c =
    let verdicts = c.loop-place.verdicts.items in
    let long : length verdicts ≡ c.loop-place.place = sym c.loop-place.verdicts.ok.0 ∙ c.loop-place.invariant.long in
    let done : length verdicts ≡ length c.args.claims.now = omega arith in
    λ sought naming last is slots. record { long = done; each = c.loop-place.invariant.each sought naming last is slots }
