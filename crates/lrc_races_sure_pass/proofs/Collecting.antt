-- What is told of one event more.
use Rattle.std.proofs.Common.{ℕ, ◌+◌, ◌≤◌, List, [], ◌++◌, length, inl, inr, arith}
use Rattle.std.proofs.lemmas.Bool.{cases_eq}
use Rattle.std.proofs.lemmas.List.Elements.{Contains-append_left, Contains-append_right, Contains-append_cases}
use Rattle.lrc_races_trace.specs.declared.event.Event.{Event}
use Rattle.lrc_races_trace.specs.declared.event.Pair.{Pair}
use Rattle.lrc_races_trace.specs.Races.{ComesFirst}
use Rattle.lrc_races_trace.proofs.Positions.{At-within}
use Rattle.lrc_races_sure.specs.Sure.{AreSureTold, AreSureToldAt}
use Rattle.lrc_races_sure_pass.specs.Detecting.{AreSureToldBefore}
use Rattle.lrc_races_detector.proofs.Pairs.{pairs-append}

pub told-none : (events : List Event) → AreSureToldBefore events 0 []
told-none events = record {
  in_order = λ i j d lt within. absurd (omega arith);
  exact = λ p. (λ (k, lt, is). absurd (omega arith), λ (told, lt). absurd (omega arith));
}

pub told-more : (events : List Event) (n : ℕ) (xs ys : List Pair) → AreSureToldBefore events n xs → AreSureToldAt events n ys → AreSureToldBefore events (n + 1) (xs ++ ys)
told-more events n xs ys before at = record {
  in_order = pairs-append ComesFirst xs ys before.in_order at.in_order (λ p q in_xs in_ys.
      let (told, lt) = (before.exact p).0 in_xs in
      let (told', is) = (at.exact q).0 in_ys in
      inl (omega arith));
  exact = λ p. (
    λ h.
        elim (Contains-append_cases xs ys p h) [
          | inl left ↦ let (told, lt) = (before.exact p).0 left in (told, omega arith)
          | inr right ↦ let (told, is) = (at.exact p).0 right in (told, omega arith)
        ],
    λ (told, lt).
        elim (cases_eq p.later.position n) [
          | inl here ↦ Contains-append_right xs ys p ((at.exact p).1 (told, here))
          | inr other ↦ Contains-append_left xs ys p ((before.exact p).1 (told, omega arith))
        ],
  );
}

pub told-all : (events : List Event) (n : ℕ) (pairs : List Pair) → length events ≤ n → AreSureToldBefore events n pairs → AreSureTold events pairs
told-all events n pairs le before = record {
  in_order = before.in_order;
  exact = λ p. (
    λ h. ((before.exact p).0 h).0,
    λ told. let within = At-within told.second in (before.exact p).1 (told, omega arith),
  );
}
