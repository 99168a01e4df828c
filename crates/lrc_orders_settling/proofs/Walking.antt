-- A thread that goes on by quiet acts and prints, and one that it was before.
use Rattle.std.proofs.Common.{◌≡◌, ℕ, ◌+◌, ◌-◌, ◌<◌, ◌≤◌, true, false, length, refl, sym, ap, ◌∙◌, subst, arith}
use Rattle.std.specs.Prelude.{Option, Some, None, IsSome, option_and_then}
use Rattle.std.proofs.lemmas.Bool.{true≢false}
use Rattle.lrc_exec.specs.declared.spot.Flat.{Flat}
use Rattle.lrc_exec.specs.declared.spot.Spot.{Spot}
use Rattle.lrc_exec.specs.Ask.{ask_of, done, answered}
use Rattle.lrc_exec.specs.Meaning.{Thread, Next, quiet, prints, reads, writes, acquires, releases, arrives, departs, traps, ends, next_of}
use Rattle.lrc_exec.specs.Spots.{thread_at}
use Rattle.lrc_orders_settling.specs.Turning.{is_quiet_ask}
use Rattle.lrc_orders_laws.specs.Free.{after_quiet, after_quiets, Turns}
use Rattle.lrc_orders_laws.proofs.Rounds.{more_quiets, turns_before, none_after, turns_round}

-- what is asked for is a quiet act or a print, or it is not
pub quiet_next : (thread : Thread) (next : Next) → is_quiet_ask (ask_of next) ≡ true → after_quiet next ≡ Some (done 0 thread next)
quiet_next thread (quiet after) e = refl
quiet_next thread (prints value after) e = refl
quiet_next thread (reads word after) e = absurd (true≢false (sym e))
quiet_next thread (writes word value after) e = absurd (true≢false (sym e))
quiet_next thread (acquires lock after) e = absurd (true≢false (sym e))
quiet_next thread (releases lock after) e = absurd (true≢false (sym e))
quiet_next thread (arrives after) e = absurd (true≢false (sym e))
quiet_next thread (departs after) e = absurd (true≢false (sym e))
quiet_next thread (traps cause) e = absurd (true≢false (sym e))
quiet_next thread ends e = absurd (true≢false (sym e))

other_next : (next : Next) → is_quiet_ask (ask_of next) ≡ false → after_quiet next ≡ None
other_next (quiet after) e = absurd (true≢false e)
other_next (prints value after) e = absurd (true≢false e)
other_next (reads word after) e = refl
other_next (writes word value after) e = refl
other_next (acquires lock after) e = refl
other_next (releases lock after) e = refl
other_next (arrives after) e = refl
other_next (departs after) e = refl
other_next (traps cause) e = refl
other_next ends e = refl

-- the walker is where so many acts lead from the spot, and some of them lead there from the earlier one
pub record Walked (flat : Flat) (spot earlier walker : Spot) (steps : ℕ) : Type 0 where
  pub first : ℕ
  pub since : ℕ
  pub to_earlier : after_quiets first (thread_at flat spot) ≡ Some (thread_at flat earlier)
  pub to_walker : after_quiets since (thread_at flat earlier) ≡ Some (thread_at flat walker)
  pub sum : first + since ≡ steps
  pub within : walker.place ≤ length flat.code.now

module _ (flat : Flat) (spot earlier walker : Spot) (steps : ℕ) (w : Walked flat spot earlier walker steps) where
  pub whole : after_quiets steps (thread_at flat spot) ≡ Some (thread_at flat walker)
  whole =
      ap (λ n. after_quiets n (thread_at flat spot)) (sym w.sum)
      ∙ more_quiets w.first w.since (thread_at flat spot) (thread_at flat earlier) w.to_earlier
      ∙ w.to_walker

  -- one act more
  one_on : (start : Thread) (count : ℕ) (after : Option Thread) → after_quiets count start ≡ Some (thread_at flat walker)
      → after_quiet (next_of (thread_at flat walker)) ≡ after → after_quiets (count + 1) start ≡ after
  one_on start count after e next =
      more_quiets count 1 start (thread_at flat walker) e ∙ ap (option_and_then (λ t. after_quiets 0 t)) next ∙ same after
    where
      same : (o : Option Thread) → option_and_then (λ t. after_quiets 0 t) o ≡ o
      same None = refl
      same (Some t) = refl

  pub walked_on : (new : Spot) → is_quiet_ask (ask_of (next_of (thread_at flat walker))) ≡ true
      → thread_at flat new ≡ answered 0 (thread_at flat walker) → new.place ≤ length flat.code.now → Walked flat spot earlier new (steps + 1)
  walked_on new is answer within = record {
    first = w.first;
    since = w.since + 1;
    to_earlier = w.to_earlier;
    to_walker =
        one_on (thread_at flat earlier) w.since (Some (thread_at flat new)) w.to_walker
        (quiet_next (thread_at flat walker) (next_of (thread_at flat walker)) is ∙ ap (λ t. Some t) (sym answer));
    sum = let e = w.sum in omega arith;
    within = within;
  }

  pub stops_here : (most : ℕ) → steps < most → is_quiet_ask (ask_of (next_of (thread_at flat walker))) ≡ false
      → after_quiets most (thread_at flat spot) ≡ None
  stops_here most lt is =
      let none = one_on (thread_at flat spot) steps None whole (other_next (next_of (thread_at flat walker)) is) in
      let sum : (steps + 1) + (most - (steps + 1)) ≡ most = omega (arith, lt) in
      ap (λ n. after_quiets n (thread_at flat spot)) (sym sum) ∙ none_after (steps + 1) (most - (steps + 1)) (thread_at flat spot) none

  pub afresh : Walked flat spot walker walker steps
  afresh = record { first = steps; since = 0; to_earlier = whole; to_walker = refl; sum = omega arith; within = w.within }

  pub comes_so_far : IsSome (after_quiets steps (thread_at flat spot))
  comes_so_far = subst IsSome (sym whole) refl

-- it comes round
pub comes_round : (flat : Flat) (spot earlier walker new : Spot) (steps : ℕ) → Walked flat spot earlier walker steps
    → is_quiet_ask (ask_of (next_of (thread_at flat walker))) ≡ true → thread_at flat new ≡ answered 0 (thread_at flat walker)
    → new.place ≤ length flat.code.now → new ≡ earlier → Turns (thread_at flat spot)
unfolding walked_on
comes_round flat spot earlier walker new steps w is answer within same =
    let t = thread_at flat earlier in
    let round : after_quiets (w.since + 1) t ≡ Some t =
    (walked_on flat spot earlier walker steps w new is answer within).to_walker ∙ ap (λ s. Some (thread_at flat s)) same in
    turns_before w.first (thread_at flat spot) t w.to_earlier (turns_round t (w.since + 1) (omega arith) round)
