-- Nodes that depart, one after another.
use Rattle.std.proofs.Common.{◌≡◌, ℕ, ◌+◌, ◌-◌, ◌^◌, ◌<◌, ◌≤◌, List, [], ◌∷◌, ◌++◌, Bool, true, false, length, refl, sym, ◌∙◌, ap, arith, append_assoc, append-nil}
use Rattle.std.specs.Prelude.{Some, None, option_map, slice_index, slice_index_or, nat_le, not, ◌&&◌, if◌then◌else◌}
use Rattle.std.specs.List.{range_with_len}
use Rattle.std.proofs.lemmas.Bool.{le-leb}
use Rattle.std.proofs.lemmas.List.{get_or-map, length-map, length-set, get_or-set_other}
use Rattle.std.proofs.lemmas.List.Sums.{list_all-from_AllPass}
use Rattle.std.proofs.lemmas.Option.{some_pair_parts}
use Rattle.lrc_trace.specs.declared.act.Act.{Act}
use Rattle.lrc_trace.specs.declared.act.Deed.TheVariants.{Depart}
use Rattle.lrc_trace.specs.Run.{act_of}
use Rattle.lrc_exec.specs.declared.spot.Flat.{Flat}
use Rattle.lrc_exec.specs.declared.spot.Spot.{Spot}
use Rattle.lrc_exec.specs.Meaning.{Thread, departs, next_of, first_act}
use Rattle.lrc_exec.specs.Plain.{Plain, thread_in, plain_step, plain_from}
use Rattle.lrc_exec.specs.Spots.{spot_thread}
use Rattle.lrc_exec.proofs.PlainLaws.{plain_from-last}
use Rattle.lrc_exec.proofs.RoundsLaws.{range-last}
use Rattle.lrc_exec.specs.Follows.{departing}
use Rattle.lrc_consistency_laws.proofs.Runs.{CanDo}
use Rattle.lrc_exec.specs.declared.state.State.{State}
use Rattle.lrc_exec.specs.States.{plain_at, IsStateOf}
use Rattle.lrc_orders.proofs.Effects.{after_of}
use Rattle.lrc_orders_laws.specs.Steps.{waits_in, AllWait}
use Rattle.lrc_orders_laws.proofs.Parts.{can_step}
use Rattle.lrc_orders_laws.proofs.Aligned.{waiter}
use Rattle.lrc_orders_laws.proofs.Diamond.{true_is_false}
use Rattle.lrc_orders_settling.specs.Taking.{count_of, IsCounted, HaveDeparted}
use Rattle.lrc_orders_settling.proofs.Parts.{waits_at}

both_true : (a b : Bool) → (not a && b) ≡ true → b ≡ true
both_true true b e = true_is_false true refl (sym e)
both_true false b e = e

-- where all nodes wait, each has arrived once
pub counts_one : (flat : Flat) (state : State) → IsCounted state → AllWait (plain_at flat state) → (k d : ℕ) → k < length state.spots.items
    → slice_index_or state.arrivals.items k d ≡ 1
counts_one flat state counted all k d lt =
    let x = some_spot state.spots.items k lt in
    let within : k < length (plain_at flat state).threads = omega (arith, lt, length-map state.spots.items (spot_thread flat)) in
    let arrived = both_true _ _ (sym (waits_at flat state k x lt) ∙ all.each k within) in
    ap (λ l. slice_index_or l k d) counted ∙ get_or-map count_of state.spots.items k x d lt ∙ ap (λ b. if b then 1 else 0) arrived
  where
    some_spot : (xs : List Spot) (k : ℕ) → k < length xs → Spot
    some_spot [] k lt = absurd (omega arith)
    some_spot (x ∷ xs) k lt = x

-- the nodes before one have departed
pub record Departing (flat : Flat) (start now : State) (node : ℕ) (before after : List Act) : Type 0 where
  pub valid : IsStateOf flat now
  pub arrivals : now.arrivals.items ≡ start.arrivals.items
  pub size : length now.spots.items ≡ length start.spots.items
  pub waits : (k : ℕ) → node ≤ k → k < length start.spots.items → waits_in (thread_in (plain_at flat now) k) ≡ true
  pub departs : List Act
  pub led : plain_from (plain_at flat start) (range_with_len 0 node) ≡ Some (departs, plain_at flat now)
  pub made : after ≡ before ++ departs

pub departing_first : (flat : Flat) (start : State) (before : List Act) → IsStateOf flat start → AllWait (plain_at flat start)
    → Departing flat start start 0 before before
departing_first flat start before valid all = record {
  valid = valid;
  arrivals = refl;
  size = refl;
  waits = λ k le lt. all.each k (omega (arith, lt, length-map start.spots.items (spot_thread flat)));
  departs = [];
  led = refl;
  made = sym (append-nil before);
}

module _ (flat : Flat) (start now : State) (node : ℕ) (before after : List Act) (counted : IsCounted start) (all : AllWait (plain_at flat start))
    (so : Departing flat start now node before after) (lt : node < length start.spots.items) where
  pub record Departure : Type 0 where
    pub there : Plain
    pub step : plain_step (plain_at flat now) node ≡ Some (Depart, there)
    pub arrivals : there.arrivals ≡ now.arrivals.items
    pub size : length there.threads ≡ length now.spots.items
    pub waits : (k : ℕ) → node + 1 ≤ k → k < length start.spots.items → waits_in (thread_in there k) ≡ true

  one : (k d : ℕ) → k < length start.spots.items → slice_index_or now.arrivals.items k d ≡ 1
  one k d below = ap (λ l. slice_index_or l k d) so.arrivals ∙ counts_one flat start counted all k d below

  pub departure : Departure
  departure =
      let machine = plain_at flat now in
      let w = waiter (thread_in machine node) (so.waits node (omega arith) lt) in
      let t : Thread = w.0 in
      let gone : Thread = record t { arrived = false } in
      let next : next_of t ≡ departs gone = ap (λ x. if x then departs gone else first_act t t.rest) w.2 in
      let can : CanDo machine node Depart =
      list_all-from_AllPass (λ c. nat_le (slice_index machine.arrivals node) c) machine.arrivals (λ k d in_range.
      let its = one k d (omega (arith, in_range, so.valid.arrivals, so.valid.spots, so.size)) in
      let own = one node 0 lt in
      le-leb (slice_index machine.arrivals node) (slice_index_or machine.arrivals k d) (omega (arith, own, its))) in
      let there = after_of machine node Depart (Some gone) in
      record {
        there = there;
        step = can_step machine node t Depart w.1 next departing can;
        arrivals = refl;
        size = length-set machine.threads node (Some gone) ∙ length-map now.spots.items (spot_thread flat);
        waits = λ k le below.
            ap waits_in (get_or-set_other machine.threads node k (Some gone) None (λ e. absurd (omega (arith, le, e)))) ∙ so.waits k (omega (arith, le)) below;
      }

  pub can_depart : option_map (λ step. step.0) (plain_step (plain_at flat now) node) ≡ Some Depart
  can_depart = ap (option_map (λ step. step.0)) departure.step

  pub room : slice_index now.arrivals.items node < 2 ^ 64 - 1
  room = let e = one node 0 lt in omega (arith, e)

  pub departing_on : (new : State) (later : List Act) → IsStateOf flat new → plain_step (plain_at flat now) node ≡ Some (Depart, plain_at flat new)
      → later ≡ after ++ act_of node Depart ∷ [] → Departing flat start new (node + 1) before later
  departing_on new later valid step is =
      let d = departure in
      let same : d.there ≡ plain_at flat new = (some_pair_parts Depart Depart d.there (plain_at flat new) (sym d.step ∙ step)).1 in
      record {
        valid = valid;
        arrivals = ap (λ (m : Plain). m.arrivals) (sym same) ∙ d.arrivals ∙ so.arrivals;
        size = sym (length-map new.spots.items (spot_thread flat)) ∙ ap (λ (m : Plain). length m.threads) (sym same) ∙ d.size ∙ so.size;
        waits = λ k le below. ap (λ m. waits_in (thread_in m k)) (sym same) ∙ d.waits k le below;
        departs = so.departs ++ act_of node Depart ∷ [];
        led =
            ap (plain_from (plain_at flat start)) (range-last 0 node ∙ ap (λ n. range_with_len 0 node ++ n ∷ []) (let e : 0 + node ≡ node = omega arith in e))
            ∙ plain_from-last (plain_at flat start) (plain_at flat now) (plain_at flat new) (range_with_len 0 node) so.departs node Depart so.led step;
        made = is ∙ ap (λ l. l ++ act_of node Depart ∷ []) so.made ∙ append_assoc before so.departs (act_of node Depart ∷ []);
      }

pub have_departed : (flat : Flat) (start now : State) (node : ℕ) (before after : List Act) → Departing flat start now node before after
    → node ≡ length start.spots.items → HaveDeparted flat start now before after
have_departed flat start now node before after so is = record {
  departs = so.departs;
  led =
      ap (λ n. plain_from (plain_at flat start) (range_with_len 0 n)) (length-map start.spots.items (spot_thread flat) ∙ sym is) ∙ so.led;
  made = so.made;
}
