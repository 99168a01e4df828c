-- What nodes do next, as the plain machine has it.
use Rattle.std.proofs.Common.{◌≡◌, ℕ, ◌<◌, ◌≤◌, Bool, true, false, length, get_or, refl, sym, ◌∙◌, ap, subst, arith}
use Rattle.std.specs.Prelude.{◌&&◌, ◌↔◌, IsTrue, Some, None, if◌then◌else◌, is_none, is_some, not, nat_le, option_and_then, slice_get, slice_index, slice_index_or}
use Rattle.std.proofs.lemmas.Bool.{le-leb, leb-true, true≢false}
use Rattle.std.proofs.lemmas.List.{get_or-map, length-map}
use Rattle.std.proofs.lemmas.List.Sums.{AllPass-from_list_all, list_all-from_AllPass}
use Rattle.std.proofs.lemmas.Option.{get_or_from_slice_get, slice_get_within}
use Rattle.lrc_exec.specs.declared.machine.Ask.{Ask}
use Rattle.lrc_exec.specs.declared.machine.Ask.TheVariants as asks
use Rattle.lrc_exec.specs.declared.spot.Flat.{Flat}
use Rattle.lrc_exec.specs.declared.spot.Spot.{Spot}
use Rattle.lrc_exec.specs.declared.state.State.{State}
use Rattle.lrc_exec.specs.Ask.{ask_of}
use Rattle.lrc_exec.specs.Meaning.{Next as Act, quiet, prints, reads, writes, acquires, releases, arrives, departs, traps, ends, next_of}
use Rattle.lrc_exec.specs.Plain.{all_arrived, deed_done, plain_step, thread_in}
use Rattle.lrc_exec.specs.Spots.{spot_stopped, spot_thread, thread_at}
use Rattle.lrc_exec.specs.States.{plain_at, IsStateOf}
use Rattle.lrc_exec.proofs.NextLaws.{IsFine, next_of-fine}
use Rattle.lrc_exec.proofs.States.{going_thread, stopped_thread}
use Rattle.lrc_orders.specs.Meeting.{next_access, next_access_in}
use Rattle.lrc_orders.proofs.Accesses.{access_asked, own_access}
use Rattle.lrc_orders.proofs.Keeping.{item_at}
use Rattle.lrc_orders_laws.specs.Steps.{AllWait, waits_in}
use Rattle.lrc_orders_settling.specs.Taking.{IsCounted, count_of}
use Rattle.lrc_orders_settling.proofs.Departing.{counts_one}
use Rattle.lrc_orders_settling.proofs.Parts.{waits_at}
use Rattle.lrc_orders_table.specs.declared.next.Next.TheVariants.{Stopped, Waits}
use Rattle.lrc_orders_table.specs.Nexts.{next_by, next_in}
use Rattle.lrc_orders_table.specs.Shared.{access_by, can_act, is_stopped, is_waiting}

-- ---- a thread that asks for this

not_stopped : (ask : Ask) → is_stopped (next_by ask) ≡ false
not_stopped (asks.Read word) = refl
not_stopped (asks.Write word value) = refl
not_stopped (asks.Acquire lock) = refl
not_stopped _ = refl

not_waiting : (ask : Ask) → is_waiting (next_by ask) ≡ false
not_waiting (asks.Read word) = refl
not_waiting (asks.Write word value) = refl
not_waiting (asks.Acquire lock) = refl
not_waiting _ = refl

access_asks : (ask : Ask) → access_by (next_by ask) ≡ access_asked ask
access_asks (asks.Read word) = refl
access_asks (asks.Write word value) = refl
access_asks (asks.Acquire lock) = refl
access_asks _ = refl

stopped_by : (ask : Ask) (stopped arrived : Bool) → is_stopped (if stopped then Stopped else (if arrived then Waits else next_by ask)) ≡ stopped
stopped_by ask true arrived = refl
stopped_by ask false true = refl
stopped_by ask false false = not_stopped ask

waiting_by : (ask : Ask) (stopped arrived : Bool)
    → is_waiting (if stopped then Stopped else (if arrived then Waits else next_by ask)) ≡ (not stopped && arrived)
waiting_by ask true arrived = refl
waiting_by ask false true = refl
waiting_by ask false false = not_waiting ask

pub stopped_is : (flat : Flat) (spot : Spot) → is_stopped (next_in flat spot) ≡ spot.stopped
stopped_is flat spot = stopped_by (ask_of (next_of (thread_at flat spot))) spot.stopped spot.arrived

pub waiting_is : (flat : Flat) (spot : Spot) → is_waiting (next_in flat spot) ≡ (not spot.stopped && spot.arrived)
waiting_is flat spot = waiting_by (ask_of (next_of (thread_at flat spot))) spot.stopped spot.arrived

bool_same : (a b : Bool) → (a ≡ true → b ≡ true) → (b ≡ true → a ≡ true) → a ≡ b
bool_same true b to from = sym (to refl)
bool_same false true to from = from refl
bool_same false false to from = refl

some_if : {A : Type 0} (b : Bool) (x : A) → b ≡ is_some (if b then Some x else None)
some_if true x = refl
some_if false x = refl

one_of : (x : Spot) (arrived : Bool) → x.arrived ≡ arrived → 1 ≤ (if arrived then 1 else 0) → x.arrived ≡ true
one_of x true e le = e
one_of x false e le = absurd (omega (arith, le))

not_both : (x : Spot) (stopped : Bool) → x.stopped ≡ stopped → (x.stopped ≡ true → x ≡ spot_stopped x.me) → x.arrived ≡ true
    → (not stopped && x.arrived) ≡ true
not_both x true e blank f = absurd (true≢false (sym f ∙ ap (λ (s : Spot). s.arrived) (blank e)))
not_both x false e blank f = f

-- ---- a node of a state

module _ (flat : Flat) (state : State) (node : ℕ) (spot : Spot) (here : slice_get state.spots.items node ≡ Some spot) where
  within : node < length state.spots.items
  within = slice_get_within state.spots.items node spot here

  is : spot ≡ get_or state.spots.items node spot
  is = sym (get_or_from_slice_get state.spots.items node spot spot here)

  access_cases : (stopped arrived : Bool) → spot.stopped ≡ stopped → spot.arrived ≡ arrived
      → access_by (if stopped then Stopped else (if arrived then Waits else next_by (ask_of (next_of (thread_at flat spot)))))
      ≡ next_access (plain_at flat state) node
  access_cases true arrived e f = ap next_access_in (sym (stopped_thread flat state node spot within is e))
  access_cases false true e f = ap next_access_in (sym (going_thread flat state node spot within is true e f))
  access_cases false false e f =
      access_asks (ask_of (next_of (thread_at flat spot)))
      ∙ own_access flat state node spot within is (ask_of (next_of (thread_at flat spot))) e f refl

  pub access_is : access_by (next_in flat spot) ≡ next_access (plain_at flat state) node
  access_is = access_cases spot.stopped spot.arrived refl refl

  pub waits_is : is_waiting (next_in flat spot) ≡ waits_in (thread_in (plain_at flat state) node)
  waits_is =
      waiting_is flat spot ∙ ap (λ (s : Spot). not s.stopped && s.arrived) is ∙ sym (waits_at flat state node spot within)

  -- whether it can make an act
  act_by : (next : Act) → IsFine (thread_at flat spot) next → (departs : Bool)
      → can_act (next_by (ask_of next)) state.holders.items departs ≡ is_some (deed_done (plain_at flat state) node next)
  act_by (quiet after) fine d = refl
  act_by (prints value after) fine d = refl
  act_by (reads word after) fine d = refl
  act_by (writes word value after) fine d = refl
  act_by (acquires lock after) fine d = some_if (is_none (slice_index_or state.holders.items lock None)) _
  act_by (releases lock after) fine d = refl
  act_by (arrives after) fine d = refl
  act_by (departs after) fine d = let e : false ≡ true = fine.0 in cc
  act_by (traps cause) fine d = refl
  act_by ends fine d = refl

  module _ (valid : IsStateOf flat state) (counted : IsCounted state) (departs : Bool) (all : IsTrue departs ↔ AllWait (plain_at flat state)) where
    -- where all wait, each can depart
    arrived_all : departs ≡ true → all_arrived (plain_at flat state) node ≡ true
    arrived_all e =
        let arrivals = state.arrivals.items in
        list_all-from_AllPass (λ c. nat_le (slice_index arrivals node) c) arrivals (λ k d lt.
        let its = counts_one flat state counted (all.0 e) k d (omega (arith, lt, valid.arrivals, valid.spots)) in
        let own = counts_one flat state counted (all.0 e) node 0 within in
        le-leb (slice_index arrivals node) (slice_index_or arrivals k d) (omega (arith, its, own)))

    -- and where one can, all wait
    waits_all : all_arrived (plain_at flat state) node ≡ true → spot.arrived ≡ true → AllWait (plain_at flat state)
    waits_all can f = record {
      each = λ k lt.
          let spots = state.spots.items in
          let arrivals = state.arrivals.items in
          let below : k < length spots = omega (arith, lt, length-map spots (spot_thread flat)) in
          let (x, at) = item_at spots k below in
          let x_is : x ≡ get_or spots k x = sym (get_or_from_slice_get spots k x x at) in
          let each = AllPass-from_list_all (λ c. nat_le (slice_index arrivals node) c) arrivals can in
          let le = leb-true (slice_index arrivals node) (slice_index arrivals k) (each k 0 (omega (arith, below, valid.arrivals, valid.spots))) in
          let own : slice_index arrivals node ≡ 1 =
          ap (λ l. slice_index l node) counted ∙ get_or-map count_of spots node spot 0 within ∙ ap count_of (sym is) ∙ ap (λ b. if b then 1 else 0) f in
          let its : slice_index arrivals k ≡ count_of x =
          ap (λ l. slice_index l k) counted ∙ get_or-map count_of spots k x 0 below ∙ ap count_of (sym x_is) in
          let arrived = one_of x x.arrived refl (omega (arith, le, own, its)) in
          let blank : x.stopped ≡ true → x ≡ spot_stopped x.me =
          subst (λ (s : Spot). s.stopped ≡ true → s ≡ spot_stopped s.me) (sym x_is) (valid.blank k x below) in
          waits_at flat state k x below ∙ sym (ap (λ (s : Spot). not s.stopped && s.arrived) x_is) ∙ not_both x x.stopped refl blank arrived;
    }

    act_cases : (stopped arrived : Bool) → spot.stopped ≡ stopped → spot.arrived ≡ arrived
        → can_act (if stopped then Stopped else (if arrived then Waits else next_by (ask_of (next_of (thread_at flat spot))))) state.holders.items departs
        ≡ is_some (plain_step (plain_at flat state) node)
    act_cases true arrived e f =
        ap (λ o. is_some (option_and_then (λ t. deed_done (plain_at flat state) node (next_of t)) o))
        (sym (stopped_thread flat state node spot within is e))
    act_cases false true e f =
        bool_same departs (all_arrived (plain_at flat state) node) arrived_all (λ can. all.1 (waits_all can f))
        ∙ some_if (all_arrived (plain_at flat state) node) _
        ∙ ap (λ o. is_some (option_and_then (λ t. deed_done (plain_at flat state) node (next_of t)) o))
        (sym (going_thread flat state node spot within is true e f))
    act_cases false false e f =
        act_by (next_of (thread_at flat spot)) (next_of-fine (thread_at flat spot)) departs
        ∙ ap (λ o. is_some (option_and_then (λ t. deed_done (plain_at flat state) node (next_of t)) o))
        (sym (going_thread flat state node spot within is false e f))

    pub act_is : can_act (next_in flat spot) state.holders.items departs ≡ is_some (plain_step (plain_at flat state) node)
    act_is = act_cases spot.stopped spot.arrived refl refl
