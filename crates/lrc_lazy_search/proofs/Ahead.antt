-- What lies ahead of a state.
use Rattle.std.proofs.Common.{◌≡◌, ℕ, ◌+◌, ◌≤◌, List, length, map, [], inl, inr, refl, sym, ◌∙◌, ap, arith}
use Rattle.std.specs.Prelude.{Option, slice_index}
use Rattle.std.proofs.lemmas.Bool.{cases_lt}
use Rattle.std.proofs.lemmas.List.{get_or-map, get_or_past}
use Rattle.lrc_trace.specs.declared.act.Deed.{Deed}
use Rattle.lrc_trace.specs.declared.act.Deed.TheVariants.{Arrive}
use Rattle.lrc_exec.specs.declared.spot.Flat.{Flat}
use Rattle.lrc_exec.specs.declared.spot.Spot.{Spot}
use Rattle.lrc_exec.specs.Spots.{spot_thread}
use Rattle.lrc_exec.specs.Plain.{Plain}
use Rattle.lrc_exec.specs.declared.state.State.{State}
use Rattle.lrc_exec.specs.States.{plain_at, IsStateOf}
use Rattle.lrc_orders.proofs.Effects.{arrivals_after}
use Rattle.lrc_orders_laws.proofs.Parts.{stepped}
use Rattle.lrc_lazy.specs.Standing.{with_memory}
use Rattle.lrc_lazy_search.specs.declared.state.LazyState.{LazyState}
use Rattle.lrc_lazy_search.specs.declared.state.Seen.{Seen}
use Rattle.lrc_lazy_search.specs.Fit.{IsSeen}
use Rattle.lrc_lazy_search.specs.Searching.{Makes, IsFresh, IsAhead, still, onward, renewed, ComesToTurn, GoesOn, IsAgain}
use Rattle.lrc_lazy_search.proofs.Same.{same_back, same_through}

-- one way behind another
pub ahead_on : {flat : Flat} {key mid ahead : LazyState} → IsAhead flat key mid → IsAhead flat mid ahead → IsAhead flat key ahead
ahead_on first still = first
ahead_on first (renewed before fresh) = renewed (ahead_on first before) fresh
ahead_on first (onward node deed before forced steps valid) = onward node deed (ahead_on first before) forced steps valid

pub ahead_state : {flat : Flat} {key ahead : LazyState} → IsStateOf flat key.state → IsAhead flat key ahead → IsStateOf flat ahead.state
ahead_state valid still = valid
ahead_state valid (renewed before fresh) = fresh.valid
ahead_state valid (onward node deed before forced steps there) = there

-- no node arrives on the way
no_rise : (node : ℕ) (d : Deed) (xs : List ℕ) → (d ≡ Arrive → ⊥) → arrivals_after node d xs ≡ xs
no_rise node Arrive xs none = absurd (none refl)
no_rise node d xs none = refl

pub arrivals_still : (flat : Flat) (before after : State) (node : ℕ) (deed : Deed) → (deed ≡ Arrive → ⊥) → Makes flat before node deed after → (n : ℕ)
    → slice_index after.arrivals.items n ≡ slice_index before.arrivals.items n
arrivals_still flat before after node deed none m n =
    let s = stepped (with_memory (plain_at flat before) m.memory) node deed (with_memory (plain_at flat after) m.later) m.made in
    ap (λ xs. slice_index xs n) (ap (λ (p : Plain). p.arrivals) s.took.is ∙ no_rise node deed before.arrivals.items none)

-- without the barriers that are gone there are fewer arrivals
fewer : (count : ℕ) (xs : List ℕ) (n : ℕ) → slice_index xs n ≤ slice_index (map (λ c. count + c) xs) n
fewer count xs n = elim (cases_lt n (length xs)) [
  | inl lt ↦ let e = get_or-map (λ c. count + c) xs n 0 0 lt in omega (arith, e)
  | inr le ↦ let e = get_or_past xs n 0 le in omega (arith, e)
]

pub fresh_counts : {flat : Flat} {key after : LazyState} → IsFresh flat key after → (n : ℕ)
    → slice_index after.state.arrivals.items n ≤ slice_index key.state.arrivals.items n
fresh_counts {key = key} {after = after} fresh n =
    let few = fewer fresh.renewed.count after.state.arrivals.items n in
    let is = ap (λ (m : Plain). slice_index m.arrivals n) fresh.renewed.is in
    omega (arith, few, is)

pub ahead_counts : {flat : Flat} {key ahead : LazyState} → IsAhead flat key ahead → (n : ℕ)
    → slice_index ahead.state.arrivals.items n ≤ slice_index key.state.arrivals.items n
ahead_counts still n = omega arith
ahead_counts (renewed before fresh) n = let few = ahead_counts before n in let fewer_yet = fresh_counts fresh n in omega (arith, few, fewer_yet)
ahead_counts {flat} (onward {mid = mid} {after = after} node deed before forced steps valid) n =
    let few = ahead_counts before n in
    let same = arrivals_still flat mid.state after.state node deed forced.no_arrive steps.makes n in
    omega (arith, few, same)

-- ---- states that turn for ever

-- what lies further ahead
pub turns_on : {flat : Flat} {key mid : LazyState} → IsAhead flat key mid → ComesToTurn flat mid → ComesToTurn flat key
turns_on goes c = record { turning = c.turning; goes = ahead_on goes c.goes; turns = c.turns }

-- two states that are where one was
again_of : (flat : Flat) (key round : LazyState) (seen : Seen) → IsSeen key seen → IsSeen round seen → IsAgain flat key round
again_of flat key round seen a b =
    let holders : round.state.holders.items ≡ key.state.holders.items = sym b.holders ∙ a.holders in
    let arrivals : round.state.arrivals.items ≡ key.state.arrivals.items = sym b.arrivals ∙ a.arrivals in
    let spots : round.state.spots.items ≡ key.state.spots.items = sym b.spots ∙ a.spots in
    record {
      machine = ap (λ h. machine_of h round.state.arrivals.items round.state.spots.items) holders
          ∙ ap (λ n. machine_of key.state.holders.items n round.state.spots.items) arrivals
          ∙ ap (λ s. machine_of key.state.holders.items key.state.arrivals.items s) spots;
      known = λ word. same_through (b.known word) (same_back (a.known word));
    }
  where
    machine_of : List (Option ℕ) → List ℕ → List Spot → Plain
    machine_of holders arrivals spots = record { memory = []; holders = holders; arrivals = arrivals; threads = map (spot_thread flat) spots }

-- a state that is come to again
pub turned : (flat : Flat) (key mid last round : LazyState) (seen : Seen) → IsAhead flat key mid → IsSeen mid seen → IsAhead flat mid last → GoesOn flat last round
    → IsSeen round seen → ComesToTurn flat key
turned flat key mid last round seen goes before further on after = record {
  turning = mid;
  goes = goes;
  turns = record { last = last; goes = further; round = round; on = on; again = again_of flat mid round seen before after };
}

-- the state ahead of one that was seen, which lies ahead of the first
pub record Since (flat : Flat) (key now : LazyState) (seen : Seen) : Type 0 where
  pub mid : LazyState
  pub goes : IsAhead flat key mid
  pub was : IsSeen mid seen
  pub further : IsAhead flat mid now
