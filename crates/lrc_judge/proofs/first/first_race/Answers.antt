-- No position so far races with an earlier one; the first that does is the answer.
use Rattle.std.proofs.Common.{inl, inr, refl, subst, arith}
use Rattle.std.proofs.lemmas.Bool.{cases_eq, cases_lt, false≢true}
use Rattle.std.proofs.lemmas.Result.{IfOk-from_err}
use Rattle.lrc_trace.specs.Conflict.{Races}
use Rattle.lrc_judge.proofs.Touching.{AreTouched-none, Races-within}
use Rattle.lrc_judge.proofs.first.first_race.Goals as goal

pub loop-position-init : goal.loop-position-init
loop-position-init c = record {
  past = c.in_ok-past.ensures c.args.acts.now;
  words = AreTouched-none c.args.acts.now c.new-words.result c.new-words.ensures.empty;
  none = λ i j lt r. absurd (omega arith);
}

pub loop-position-preserved : goal.loop-position-preserved
loop-position-preserved c = record {
  past = c.in_ok-note.ensures;
  words = c.in_ok-note-2.ensures;
  none = λ i j lt r.
      elim (cases_eq j c.loop-position.position) [
        | inl here ↦ absurd (false≢true (c.if-races.ensures.1 (i, subst (λ k. Races c.args.acts.now i k) here r)))
        | inr before ↦ c.loop-position.invariant.none i j (omega arith) r
      ];
}

pub returns-in_err-past : goal.returns-in_err-past
returns-in_err-past c = IfOk-from_err _ _ c.from_residual.ensures.0

pub returns-in_err-note : goal.returns-in_err-note
returns-in_err-note c = IfOk-from_err _ _ c.from_residual-in_err-note.ensures.0

pub returns-in_err-note-2 : goal.returns-in_err-note-2
returns-in_err-note-2 c = IfOk-from_err _ _ c.from_residual-in_err-note-2.ensures.0

pub returns-then-races : goal.returns-then-races
returns-then-races c =
    let race = c.if-races.ensures.0 refl in
    record {
      with = race.0;
      races = race.1;
      least = λ i j r.
          elim (cases_lt j c.loop-position.position) [
            | inl before ↦ absurd (c.loop-position.invariant.none i j before r)
            | inr not_before ↦ not_before
          ];
    }

pub returns : goal.returns
returns c = λ i j r.
    let within = Races-within c.args.acts.now i j r in
    c.loop-position.invariant.none i j (omega arith) r
