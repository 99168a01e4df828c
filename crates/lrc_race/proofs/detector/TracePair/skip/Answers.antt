-- One place more is behind.
use Rattle.std.proofs.Common.{◌≡◌, ◌+◌, ◌<◌, ◌≤◌, ◌∙◌, ℕ, List, Some, get_or, inl, inr, refl, ap, subst, sym, arith}
use Rattle.std.specs.Prelude.{slice_get}
use Rattle.std.proofs.lemmas.Bool.{cases_eq}
use Rattle.std.proofs.lemmas.Option.{get_or_from_slice_get}
use Rattle.lrc_race.specs.declared.places.TouchedPlace.{TouchedPlace}
use Rattle.lrc_race.specs.Pairs.{IsBehind}
use Rattle.lrc_race.proofs.detector.TracePair.skip.Goals as goal

one_more : (P : TouchedPlace → Type 0) (ys : List TouchedPlace) (from n : ℕ) (d : TouchedPlace)
    → ((k : ℕ) (y : TouchedPlace) → from ≤ k → k < n → slice_get ys k ≡ Some y → P y) → P (get_or ys n d)
    → (k : ℕ) (y : TouchedPlace) → from ≤ k → k < n + 1 → slice_get ys k ≡ Some y → P y
one_more P ys from n d old here k y low high found =
    elim (cases_eq k n) [
      | inl same ↦ subst P (ap (λ i. get_or ys i d) (sym same) ∙ get_or_from_slice_get ys k y d found) here
      | inr other ↦ old k y low (omega arith) found
    ]

pub loop-start-init : goal.loop-start-init
loop-start-init c = record { within = c.requires.within; behind = λ k y low high found. absurd (omega arith) }

pub loop-start-preserved : goal.loop-start-preserved
loop-start-preserved c = record {
  within = omega arith;
  behind = one_more (IsBehind c.args.self.now.rise c.args.self.now.a.now c.args.x c.args.self.now.b.now) c.args.ys.now c.args.from c.loop-start.start _
      c.loop-start.invariant.behind (c.if-is_behind.ensures refl);
}
