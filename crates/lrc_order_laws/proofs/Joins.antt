-- The time of a barrier: what the manager joins, and the join of the times at the arrives.
use Rattle.std.proofs.Common.{◌≡◌, ◌⊎◌, ℕ, zero, suc, ◌+◌, ◌<◌, ◌≤◌, List, [], ◌∷◌, ◌++◌, true, false, cond, is_some}
use Rattle.std.proofs.Common.{length, map, refl, sym, ap, subst, ◌∙◌, inl, inr, arith, append-nil}
use Rattle.std.specs.Prelude.{Option, Some, None, Contains, slice_index_or}
use Rattle.std.specs.List.{filter_map, fold, list_all}
use Rattle.std.proofs.lemmas.Bool.{cases_Bool}
use Rattle.std.proofs.lemmas.List.{get_or_push, length_push}
use Rattle.lrc_trace.specs.declared.act.Act.{Act}
use Rattle.lrc_trace.specs.declared.act.Deed.{Deed}
use Rattle.lrc_trace.specs.declared.act.Deed.TheVariants.{Arrive}
use Rattle.lrc_trace.specs.Run.{act_of, Does, is_arrive, arrives_before}
use Rattle.lrc_trace.proofs.Positions.{Does-last, Does-cases, Does-one_node, Does-one_deed, arrives_before-prefix}
use Rattle.lrc_trace.proofs.Intervals.{count_of-rises, count_of-more}
use Rattle.lrc_time.specs.Time.{zeros, joined, Covers}
use Rattle.lrc_time.proofs.Times.{length-zeros, length-joined_same, covers-antisym}
use Rattle.lrc_clock.specs.Times.{time_at, arrives_at, arrived_time}
use Rattle.lrc_clock.proofs.Lasting.{join-length, join-covers, join-least}
use Rattle.lrc_clock.proofs.Passing.{arrives_at-true, arrives_at-act}
use Rattle.lrc_clock.proofs.Prefixes.{time_at-prefix, arrived_time-prefix}
use Rattle.lrc_store.proofs.Orders.{Contains-first, Contains-later, cases_Contains, none_Contains}
use Rattle.lrc_barrier.specs.declared.arrival.Arrival.{Arrival}
use Rattle.lrc_barrier.specs.Barrier.{joined_time}
use Rattle.lrc_barrier.proofs.Told.{covers_all, covered_by_all}
use Rattle.lrc_order_laws.proofs.Present.{more_acts, more_times}

-- ---- one more act

module _ (nodes : ℕ) (acts : List Act) (times : List (List ℕ)) (timed : length times ≡ length acts) (n : ℕ) (time : List ℕ) (number : ℕ) where
  -- an act that is no arrive with this number joins nothing to it
  arrived_more : (d : Deed) → (d ≡ Arrive → arrives_before acts n (length acts) ≡ number → ⊥)
      → arrived_time nodes (acts ++ act_of n d ∷ []) (times ++ time ∷ []) number (length (acts ++ act_of n d ∷ []))
      ≡ arrived_time nodes acts times number (length acts)
  arrived_more d none =
      let longer : List Act = acts ++ act_of n d ∷ [] in
      let later : List (List ℕ) = times ++ time ∷ [] in
      let size : length longer ≡ suc (length acts) = let e : length longer ≡ length acts + 1 = length_push acts (act_of n d) in omega (arith, e) in
      let fails : arrives_at longer number (length acts) ≡ false = elim (cases_Bool (arrives_at longer number (length acts))) [
        | inr no_arrive ↦ no_arrive
        | inl holds ↦
            let (p, does, same) = arrives_at-act longer (length acts) number holds in
            let own : Does longer (length acts) n d = Does-last acts (act_of n d) in
            let before : arrives_before longer n (length acts) ≡ arrives_before acts n (length acts) =
            arrives_before-prefix acts (act_of n d ∷ []) n (length acts) (omega arith) in
            absurd (none (Does-one_deed own does)
            (sym before ∙ ap (λ p. arrives_before longer p (length acts)) (Does-one_node own does) ∙ same))
      ] in
      ap (arrived_time nodes longer later number) size
      ∙ ap (λ b. cond b (joined (arrived_time nodes longer later number (length acts)) (time_at later (length acts)))
      (arrived_time nodes longer later number (length acts))) fails
      ∙ arrived_time-prefix acts (act_of n d ∷ []) times (time ∷ []) timed nodes number (length acts) (omega arith)

  pub arrived-stays : (deed : Option Deed) → (deed ≡ Some Arrive → arrives_before acts n (length acts) ≡ number → ⊥)
      → arrived_time nodes (acts ++ more_acts n deed) (times ++ more_times n time deed) number (length (acts ++ more_acts n deed))
      ≡ arrived_time nodes acts times number (length acts)
  arrived-stays None none =
      ap (λ xs. arrived_time nodes xs (times ++ []) number (length xs)) (append-nil acts)
      ∙ ap (λ ts. arrived_time nodes acts ts number (length acts)) (append-nil times)
  arrived-stays (Some d) none = arrived_more d (λ is. none (ap Some is))

-- ---- what the manager joins

length_joined : (nodes : ℕ) (time : List ℕ) (arrivals : List Arrival) → length time ≡ nodes
    → ((a : Arrival) → Contains arrivals a → length a.time ≡ nodes) → length (fold joined time (map (λ (a : Arrival). a.time) arrivals)) ≡ nodes
length_joined nodes time [] is all = is
length_joined nodes time (a ∷ arrivals) is all =
    length_joined nodes (joined time a.time) arrivals
    (length-joined_same time a.time (is ∙ sym (all a (Contains-first a arrivals))) ∙ is)
    (λ b there. all b (Contains-later a arrivals b there))

-- each position with an arrive of this number has the time of an arrival, and each arrival that of such a position
pub record AreTimes (nodes : ℕ) (acts : List Act) (times : List (List ℕ)) (number : ℕ) (arrivals : List Arrival) : Type 0 where
  pub sized : (a : Arrival) → Contains arrivals a → length a.time ≡ nodes
  pub there : (a : Arrival) → Contains arrivals a → (i node : ℕ) × (i < length acts) × Does acts i node Arrive × (arrives_before acts node i ≡ number)
      × (time_at times i ≡ a.time)
  pub back : (i node : ℕ) → Does acts i node Arrive → arrives_before acts node i ≡ number → (a : Arrival) × Contains arrivals a × (a.time ≡ time_at times i)

at_contains : {X : Type 0} (xs : List X) (k : ℕ) (d : X) → k < length xs → Contains xs (slice_index_or xs k d)
at_contains [] k d lt = absurd (omega (arith, lt))
at_contains (x ∷ xs) zero d lt = Contains-first x xs
at_contains (x ∷ xs) (suc k) d lt = Contains-later x xs (slice_index_or xs k d) (at_contains xs k d (omega (arith, lt)))

pub same_join : (nodes : ℕ) (acts : List Act) (times : List (List ℕ)) (number : ℕ) (arrivals : List Arrival) → AreTimes nodes acts times number arrivals
    → joined_time nodes arrivals ≡ arrived_time nodes acts times number (length acts)
same_join nodes acts times number arrivals h =
    let all : List ℕ = arrived_time nodes acts times number (length acts) in
    let sized : length (joined_time nodes arrivals) ≡ nodes = length_joined nodes (zeros nodes) arrivals (length-zeros nodes) h.sized in
    let sized_all : length all ≡ nodes =
    join-length nodes (arrives_at acts number) times (length acts)
    (λ i lt passes.
    let (p, does, same) = arrives_at-act acts i number passes in
    let (a, there, is) = h.back i p does same in
    ap length (sym is) ∙ h.sized a there) in
    covers-antisym (joined_time nodes arrivals) all (sized ∙ sym sized_all)
    (join-least nodes (arrives_at acts number) times (joined_time nodes arrivals) (length acts)
    (λ i lt passes.
    let (p, does, same) = arrives_at-act acts i number passes in
    let (a, there, is) = h.back i p does same in
    subst (Covers (joined_time nodes arrivals)) is (covers_all nodes arrivals a there)))
    (covered_by_all nodes arrivals all
    (λ k d lt.
    let a : Arrival = slice_index_or arrivals k d in
    let (i, p, lt_i, does, same, is) = h.there a (at_contains arrivals k d lt) in
    subst (Covers all) is (join-covers nodes (arrives_at acts number) times i (length acts) lt_i (arrives_at-true acts i p number does same))))

-- ---- places that are all taken

-- where each place has an arrival, each arrival is in its place
pub record InPlace (places : List (Option Arrival)) (m : ℕ) : Type 0 where
  pub arrival : Arrival
  pub at : slice_index_or places m None ≡ Some arrival
  pub among : Contains (filter_map (λ a. a) places) arrival

pub in_place : (places : List (Option Arrival)) (m : ℕ) → list_all is_some places ≡ true → m < length places → InPlace places m
in_place [] m all lt = absurd (omega (arith, lt))
in_place (None ∷ places) m all lt = cc
in_place (Some a ∷ places) zero all lt = record { arrival = a; at = refl; among = Contains-first a (filter_map (λ a. a) places) }
in_place (Some a ∷ places) (suc m) all lt =
    let h : InPlace places m = in_place places m all (omega (arith, lt)) in
    record { arrival = h.arrival; at = h.at; among = Contains-later a (filter_map (λ a. a) places) h.arrival h.among }

pub place_of : (places : List (Option Arrival)) (a : Arrival) → Contains (filter_map (λ a. a) places) a
    → (m : ℕ) × (m < length places) × (slice_index_or places m None ≡ Some a)
place_of [] a there = absurd (none_Contains a there)
place_of (None ∷ places) a there =
    let (m, lt, at) = place_of places a there in
    (suc m, omega (arith, lt), at)
place_of (Some b ∷ places) a there = elim (cases_Contains b (filter_map (λ a. a) places) a there) [
  | inl is ↦ (0, omega arith, ap Some is)
  | inr later ↦
      let (m, lt, at) = place_of places a later in
      (suc m, omega (arith, lt), at)
]

-- ---- the arrive of a node that waits

-- at the node's arrive that makes it so many, it had this time
abbrev pub HadTime : List Act → List (List ℕ) → ℕ → ℕ → List ℕ → Type 0
HadTime acts times m episode time = (k : ℕ) → Does acts k m Arrive → arrives_before acts m k + 1 ≡ episode → time_at times k ≡ time

module _ (acts : List Act) (times : List (List ℕ)) (timed : length times ≡ length acts) (n : ℕ) (time : List ℕ) where
  -- it stays so as others act
  had-other : (d : Deed) (m episode : ℕ) (had : List ℕ) → (n ≡ m → ⊥) → HadTime acts times m episode had
      → HadTime (acts ++ act_of n d ∷ []) (times ++ time ∷ []) m episode had
  had-other d m episode had ne h = λ k does count. elim (Does-cases does) [
    | inl (lt, does') ↦
        time_at-prefix acts (act_of n d ∷ []) times (time ∷ []) timed k lt
        ∙ h k does' (ap (λ c. c + 1) (sym (arrives_before-prefix acts (act_of n d ∷ []) m k (omega (arith, lt)))) ∙ count)
    | inr (here, own, is) ↦ absurd (ne own)
  ]

  pub had-more : (deed : Option Deed) (m episode : ℕ) (had : List ℕ) → (n ≡ m → ⊥) ⊎ (deed ≡ None) → HadTime acts times m episode had
      → HadTime (acts ++ more_acts n deed) (times ++ more_times n time deed) m episode had
  had-more None m episode had ne h =
      subst (λ acts. HadTime acts (times ++ []) m episode had) (sym (append-nil acts))
      (subst (λ times. HadTime acts times m episode had) (sym (append-nil times)) h)
  had-more (Some d) m episode had ne h = elim ne [
    | inl other ↦ had-other d m episode had other h
    | inr none ↦ absurd (some_none none)
  ]
    where
      some_none : Some d ≡ None → ⊥
      some_none e = cc

  -- and a node's newest arrive has the time just after it
  pub had-new : (episode : ℕ) → arrives_before acts n (length acts) ≡ episode
      → HadTime (acts ++ act_of n Arrive ∷ []) (times ++ time ∷ []) n (episode + 1) time
  had-new episode all = λ k does count. elim (Does-cases does) [
    | inl (lt, does') ↦
        let before : arrives_before (acts ++ act_of n Arrive ∷ []) n k ≡ arrives_before acts n k =
        arrives_before-prefix acts (act_of n Arrive ∷ []) n k (omega (arith, lt)) in
        let more : arrives_before acts n (k + 1) ≡ arrives_before acts n k + 1 = count_of-more is_arrive acts n k Arrive does' refl in
        let rises : arrives_before acts n (k + 1) ≤ arrives_before acts n (length acts) =
        count_of-rises is_arrive acts n (k + 1) (length acts) (omega (arith, lt)) in
        absurd (omega (arith, before, more, rises, all, count))
    | inr (here, own, is) ↦ ap (time_at (times ++ time ∷ [])) here ∙ get_or_push times time [] (length acts) timed
  ]
