-- One position more, from the last one back.
use Rattle.std.proofs.Common.{◌≡◌, ◌+◌, ◌-◌, ◌<◌, ℕ, length, subst, sym, arith, rules, ◌∙◌, refl, length-set, inl, inr}
use Rattle.std.specs.Prelude.{None, Option}
use Rattle.std.proofs.lemmas.Bool.{cases_eq}
use Rattle.std.proofs.lemmas.List.{get_or-set_same, get_or-set_other}
use Rattle.std.proofs.lemmas.Option.{slice_get-get_or}
use Rattle.lrc_races_trace.specs.Order.{Precedes}
use Rattle.lrc_races_trace.proofs.HappensBefore.{Precedes-forward}
use Rattle.lrc_chains.specs.declared.starts.Start.{Start}
use Rattle.lrc_chains.specs.Starts.{IsBest}
use Rattle.lrc_chains.proofs.Best.{Best-last, Best-here, Best-bound}
use Rattle.lrc_races_why.specs.Onward.{IsOnward}
use Rattle.lrc_races_why.proofs.Following.{goes_forward, number_read}
use Rattle.lrc_races_why.proofs.chain.starts_from.Goals as goal
use Rattle.lrc_races_why.proofs.chain.starts_from.Goals.{After-best_from-best}

pub loop-position-init : goal.loop-position-init
loop-position-init c =
    let events = c.args.events.now in
    let to = c.args.to in
    record {
      starts = c.in_ok-note.ensures events to to (record { is = slice_get-get_or events to _ c.requires.within })
          (number_read events c.args.numbers.now to _ _ c.requires.numbers c.requires.within)
          (Best-last (Precedes events) (goes_forward events) to) (c.new-onward.ensures events to);
      all = first_of (search rules, omega arith, omega (arith, c.in_ok-next.next.ok, c.in_ok-next.ensures.len), grind arith);
      best = λ k le lt. absurd (omega (arith, le, lt));
    }

best_here : (c : After-best_from-best) → IsBest (Precedes c.args.events.now) c.args.to (λ m. Precedes c.args.events.now (c.loop-position.position - 1) m) c.best_from-best.result
best_here c =
    let events = c.args.events.now in
    let to = c.args.to in
    let here = c.loop-position.position - 1 in
    let lt : here < length events = omega (arith, c.requires.within) in
    let again : c.loop-position.position ≡ here + 1 = omega arith in
    c.best_from-best.ensures events to here (record { is = slice_get-get_or events here _ lt })
    (number_read events c.args.numbers.now here _ _ c.requires.numbers lt)
    (subst (λ (n : ℕ). IsOnward events to n c.loop-position.onward) again c.loop-position.invariant.starts)

pub from_here-requires : goal.from_here-requires
from_here-requires c start is =
    let events = c.args.events.now in
    let b = (goal.at.from_here-requires c).After-best_from-best in
    let best = subst (λ (o : Option Start). IsBest (Precedes events) c.args.to (λ m. Precedes events (c.loop-position.position - 1) m) o) is (best_here b) in
    let bound = Best-bound (Precedes events) (goes_forward events) c.args.to _ start best in
    let after = Precedes-forward (best.sound start refl).0 in
    omega (arith, bound, after, c.requires.within)

pub loop-position-preserved : goal.loop-position-preserved
loop-position-preserved c =
    let events = c.args.events.now in
    let to = c.args.to in
    let b = (goal.at.loop-position-preserved c).After-best_from-best in
    let here = c.loop-position.position - 1 in
    let lt : here < length events = omega (arith, c.requires.within) in
    let items = c.loop-position.next.items in
    let within : here < length items = omega (arith, c.loop-position.invariant.all) in
    let again : c.loop-position.position ≡ here + 1 = omega arith in
    let start = subst (λ (o : Option Start). IsBest (Precedes events) to (λ m. m ≡ here) o) (sym c.from_here.ensures)
    (Best-here (Precedes events) (goes_forward events) to here (omega arith) c.best_from-best.result (best_here b)) in
    record {
      starts = c.in_ok-note-2.ensures events to here (record { is = slice_get-get_or events here _ lt })
          (number_read events c.args.numbers.now here _ _ c.requires.numbers lt) start
          (subst (λ (n : ℕ). IsOnward events to n c.loop-position.onward) again c.loop-position.invariant.starts);
      all = length-set items here c.best_from-best.result ∙ c.loop-position.invariant.all;
      best = λ k le lt'.
          elim (cases_eq k here) [
            | inl same ↦ rw (same, get_or-set_same items here c.best_from-best.result None within) (best_here b)
            | inr other ↦ rw (get_or-set_other items here k c.best_from-best.result None other) (c.loop-position.invariant.best k (omega arith) lt')
          ];
    }

pub returns : goal.returns
returns c = record {
  all = c.loop-position.invariant.all;
  best = λ k le lt. c.loop-position.invariant.best k (omega arith) lt;
}
