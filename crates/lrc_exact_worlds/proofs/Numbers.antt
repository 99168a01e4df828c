-- In how many episodes of the barrier nodes have departed, and that what collections left of these stays so.
use Rattle.std.proofs.Common.{◌≡◌, ℕ, zero, suc, ◌+◌, ◌<◌, ◌≤◌, List, [], ◌∷◌, ◌++◌, true, false, length, inl, inr, refl, sym, ap, subst, ◌∙◌, arith}
use Rattle.std.specs.Prelude.{Option, Some, slice_get, if◌then◌else◌}
use Rattle.std.proofs.lemmas.Bool.{both_ways, cases_lt, false≢true}
use Rattle.std.proofs.lemmas.List.{length_push}
use Rattle.lrc_program.specs.declared.Program.{Program}
use Rattle.lrc_trace.specs.declared.act.Act.{Act}
use Rattle.lrc_trace.specs.declared.act.Deed.{Deed}
use Rattle.lrc_trace.specs.declared.act.Deed.TheVariants.{Quiet, Print, Read, Write, Acquire, Release, Arrive, Depart, Trap, End}
use Rattle.lrc_trace.specs.Run.{act_of, is_depart, arrives_before, departs_before}
use Rattle.lrc_trace.proofs.Positions.{Does-last, departs_before-prefix}
use Rattle.lrc_trace.proofs.Intervals.{count_of-more, count_of-same}
use Rattle.lrc_page.specs.declared.size.Size.{Size}
use Rattle.lrc_store.specs.Store.{StoredRecord}
use Rattle.lrc_protocol.specs.Pages.{Memory}
use Rattle.lrc_protocol.specs.Node.{Wait, nothing, grant, departure, access, upkeep, discard, OptionsRecord}
use Rattle.lrc_protocol.specs.Run.{Logged, World}
use Rattle.lrc_protocol.specs.Follows.{pending}
use Rattle.lrc_order_laws.specs.Barriers.{StandsAt as StandsInside, awaits_depart, time_in}
use Rattle.lrc_order_laws.specs.Counts.{is_inside}
use Rattle.lrc_order_laws.proofs.AllStand.{AllStand, all_stand}
use Rattle.lrc_order_laws.proofs.Departs.{Standing_at, standing_at}
use Rattle.lrc_order_laws.proofs.Reached.{IsReached}
use Rattle.lrc_order_laws.proofs.Timed.{waits as waits_so}
use Rattle.lrc_node_laws.specs.Ranges.{CollectsAt}
use Rattle.lrc_node_laws.proofs.Always.{ranged_at}
use Rattle.lrc_reading_laws.proofs.Collected.Turns.{in_collection}
use Rattle.lrc_reading_laws.proofs.Stamped.Worlds.{Placed, placed}
use Rattle.lrc_exact.specs.LocalRule.{state_before}
use Rattle.lrc_exact.specs.Rule.{Shape, Knowledge, State, exact_rule, KeepsExact, known_by_all, collects}
use Rattle.lrc_exact.proofs.LocalRules.{one_list}
use Rattle.lrc_exact_made.specs.Copies.{shape_of}
use Rattle.lrc_exact_collected.specs.Collected.{AreCollected}
use Rattle.lrc_exact_collected.proofs.Arrived.{is_there}
use Rattle.lrc_exact_collected.proofs.Theorem.{was_collected}
use Rattle.lrc_exact_collecting.specs.Left.{dropped_by, left_by, left_after}
use Rattle.lrc_exact_turns.proofs.Stands.{Stands, StandsAt, arrived_in, number_of, all_at, left_at, then_number}

-- ---- what was left depends on the arrives before

abbrev dropped_step : Shape → (ℕ → Option State) → List ℕ → List ℕ
dropped_step shape arrived gone = if collects shape arrived then (known_by_all shape.nodes shape.nodes arrived).time else gone

abbrev left_step : Shape → (ℕ → Option State) → List ℕ → (ℕ → ℕ) → ℕ → ℕ
left_step shape arrived gone before word =
    if collects shape arrived then left_after shape gone (known_by_all shape.nodes shape.nodes arrived) arrived before word else before word

pub dropped_same : (shape : Shape) (a b : ℕ → ℕ → Option State) (number : ℕ) → ((k : ℕ) → k < number → a k ≡ b k)
    → dropped_by shape a number ≡ dropped_by shape b number
dropped_same shape a b zero same = refl
dropped_same shape a b (suc number) same =
    ap (λ at. dropped_step shape at (dropped_by shape a number)) (same number (omega arith))
    ∙ ap (dropped_step shape (b number)) (dropped_same shape a b number (λ k lt. same k (omega arith)))

pub left_same : (shape : Shape) (a b : ℕ → ℕ → Option State) (number : ℕ) → ((k : ℕ) → k < number → a k ≡ b k)
    → left_by shape a number ≡ left_by shape b number
left_same shape a b zero same = refl
left_same shape a b (suc number) same =
    ap (λ at. left_step shape at (dropped_by shape a number) (left_by shape a number)) (same number (omega arith))
    ∙ ap (λ gone. left_step shape (b number) gone (left_by shape a number)) (dropped_same shape a b number (λ k lt. same k (omega arith)))
    ∙ ap (left_step shape (b number) (dropped_by shape b number)) (left_same shape a b number (λ k lt. same k (omega arith)))

-- a node stands beside what other acts say alike
module _ (size : Size) (nodes collect : ℕ) (made : List StoredRecord) (left later : ℕ → ℕ) (all : Knowledge) (left' later' : ℕ → ℕ) (all' : Knowledge) (me : ℕ)
    (time : List ℕ) (memory : Memory) (state : State) (left_is : left ≡ left') where
  to_left : (wait : Wait) → Stands size nodes collect made left later all me time wait memory state
      → Stands size nodes collect made left' later all me time wait memory state
  to_left wait h = subst (λ f. Stands size nodes collect made f later all me time wait memory state) left_is h

  stands_same : (wait : Wait) → (in_collection wait ≡ true → (later ≡ later') × (all ≡ all'))
      → Stands size nodes collect made left later all me time wait memory state → Stands size nodes collect made left' later' all' me time wait memory state
  stands_same nothing same h =
      let g = to_left nothing h in record { pages = g.pages; bases = g.bases; needs = g.needs; own = g.own }
  stands_same (grant lock) same h =
      let g = to_left (grant lock) h in record { pages = g.pages; bases = g.bases; needs = g.needs; own = g.own }
  stands_same departure same h =
      let g = to_left departure h in record { pages = g.pages; bases = g.bases; needs = g.needs; own = g.own }
  stands_same (access need) same h =
      let g = to_left (access need) h in record { pages = g.pages; bases = g.bases; needs = g.needs; own = g.own }
  stands_same (upkeep collection needs) same h =
      subst (λ f. Stands size nodes collect made left' f all' me time (upkeep collection needs) memory state) (same refl).0
      (subst (λ k. Stands size nodes collect made left' later k me time (upkeep collection needs) memory state) (same refl).1 (to_left (upkeep collection needs) h))
  stands_same (discard collection) same h =
      subst (λ f. Stands size nodes collect made left' f all' me time (discard collection) memory state) (same refl).0
      (subst (λ k. Stands size nodes collect made left' later k me time (discard collection) memory state) (same refl).1 (to_left (discard collection) h))

pub stands_moved : (size : Size) (nodes collect : ℕ) (made : List StoredRecord) (acts acts' : List Act) (states states' : List State) (number me : ℕ)
    (time : List ℕ) (wait : Wait) (memory : Memory) (state : State)
    → ((k : ℕ) → k < number → arrived_in acts states k ≡ arrived_in acts' states' k)
    → (in_collection wait ≡ true → arrived_in acts states number ≡ arrived_in acts' states' number)
    → StandsAt size nodes collect acts states made number me time wait memory state → StandsAt size nodes collect acts' states' made number me time wait memory state
stands_moved size nodes collect made acts acts' states states' number me time wait memory state same last h =
    let shape : Shape = shape_of nodes size collect in
    stands_same size nodes collect made (left_at shape acts states number) (left_at shape acts states (suc number)) (all_at nodes acts states number)
    (left_at shape acts' states' number) (left_at shape acts' states' (suc number)) (all_at nodes acts' states' number) me time memory state
    (left_same shape (arrived_in acts states) (arrived_in acts' states') number same) wait
    (λ inside. (
      left_same shape (arrived_in acts states) (arrived_in acts' states') (suc number) (λ k lt. up_to (last inside) k lt),
      ap (known_by_all nodes nodes) (last inside),
    )) h
  where
    up_to : arrived_in acts states number ≡ arrived_in acts' states' number → (k : ℕ) → k < suc number → arrived_in acts states k ≡ arrived_in acts' states' k
    up_to end k lt = elim (cases_lt k number) [
      | inl less ↦ same k less
      | inr most ↦
          let here : number ≡ k = omega arith in
          subst (λ k. arrived_in acts states k ≡ arrived_in acts' states' k) here end
    ]

-- ---- counts

module _ (acts : List Act) (n : ℕ) (d : Deed) where
  abbrev longer : List Act
  longer = acts ++ act_of n d ∷ []

  before_last : (q : ℕ) → departs_before longer q (length acts) ≡ number_of acts q
  before_last q = departs_before-prefix acts (act_of n d ∷ []) q (length acts) (omega arith)

  no_more : (q : ℕ) → (n ≡ q → is_depart d ≡ true → ⊥) → number_of longer q ≡ number_of acts q
  no_more q none =
      ap (departs_before longer q) (length_push acts (act_of n d))
      ∙ count_of-same is_depart longer q (length acts) n d (Does-last acts (act_of n d)) none
      ∙ before_last q

  pub other_number : (q : ℕ) → (n ≡ q → ⊥) → number_of longer q ≡ number_of acts q
  other_number q ne = no_more q (λ e is. ne e)

  pub same_number : (is_depart d ≡ false) → number_of longer n ≡ number_of acts n
  same_number stays = no_more n (λ e is. both_ways (is_depart d) stays is)

  one_number : is_depart d ≡ true → number_of longer n ≡ number_of acts n + 1
  one_number is =
      ap (departs_before longer n) (length_push acts (act_of n d))
      ∙ count_of-more is_depart longer n (length acts) d (Does-last acts (act_of n d)) is
      ∙ ap (λ k. k + 1) (before_last n)

pub own_number : (acts : List Act) (n : ℕ) (d : Deed) → number_of (acts ++ act_of n d ∷ []) n ≡ then_number (Some d) (number_of acts n)
own_number acts n Depart = let one = one_number acts n Depart refl in omega arith
own_number acts n Quiet = same_number acts n Quiet refl
own_number acts n (Print v) = same_number acts n (Print v) refl
own_number acts n (Read w v) = same_number acts n (Read w v) refl
own_number acts n (Write w v) = same_number acts n (Write w v) refl
own_number acts n (Acquire l) = same_number acts n (Acquire l) refl
own_number acts n (Release l) = same_number acts n (Release l) refl
own_number acts n Arrive = same_number acts n Arrive refl
own_number acts n (Trap cause) = same_number acts n (Trap cause) refl
own_number acts n End = same_number acts n End refl

-- ---- a world

its_time : (w : Wait) (time : List ℕ) → in_collection w ≡ true → CollectsAt time w → time_in w ≡ Some time
its_time nothing time e c = absurd (false≢true e)
its_time (grant lock) time e c = absurd (false≢true e)
its_time departure time e c = absurd (false≢true e)
its_time (access need) time e c = absurd (false≢true e)
its_time (upkeep collection needs) time e c = ap Some c
its_time (discard collection) time e c = ap Some c

inside_waits : (w : Wait) → in_collection w ≡ true → (is_inside w ≡ 1) × (awaits_depart w ≡ 0)
inside_waits nothing e = absurd (false≢true e)
inside_waits (grant lock) e = absurd (false≢true e)
inside_waits departure e = absurd (false≢true e)
inside_waits (access need) e = absurd (false≢true e)
inside_waits (upkeep collection needs) e = (refl, refl)
inside_waits (discard collection) e = (refl, refl)

at_most : (w : Wait) → (awaits_depart w ≤ is_inside w) × (is_inside w ≤ 1)
at_most nothing = (omega arith, omega arith)
at_most (grant lock) = (omega arith, omega arith)
at_most departure = (omega arith, omega arith)
at_most (access need) = (omega arith, omega arith)
at_most (upkeep collection needs) = (omega arith, omega arith)
at_most (discard collection) = (omega arith, omega arith)

module _ (program : Program) (nodes : ℕ) (options : OptionsRecord) (world : World) (r : IsReached program nodes options world) where
  abbrev shape : Shape
  shape = shape_of nodes options.size options.collect

  stand : AllStand program nodes options world
  stand = all_stand program nodes options r.events world r.runs

  -- how many episodes are over
  pub over : ℕ
  over = stand.manager.done

  module _ (q : ℕ) (l : Logged) (at : slice_get world.nodes q ≡ Some l) where
    st : Standing_at program nodes options world q l
    st = standing_at program nodes options world r q l at

    its : StandsInside (pending world) stand.manager q l.node.mail.wait l.node.barrier.episode
    its = stand.each q l at

    -- each node has arrived at all that are over,
    pub has_arrived : over ≤ arrives_before world.acts q (length world.acts)
    unfolding over
    has_arrived =
        let arrived = st.arrived in
        let stands = its.arrived in
        omega arith

    -- has departed from no other,
    pub has_departed : number_of world.acts q ≤ over
    unfolding over
    has_departed =
        let arrived = st.arrived in
        let departed = st.departed in
        let stands = its.arrived in
        let departs = its.departs in
        let most = at_most l.node.mail.wait in
        let least = most.0 in
        let one = most.1 in
        omega arith

    -- and from all where it is outside
    pub outside_departed : is_inside l.node.mail.wait ≡ 0 → number_of world.acts q ≡ over
    unfolding over
    outside_departed out =
        let arrived = st.arrived in
        let departed = st.departed in
        let stands = its.arrived in
        let departs = its.departs in
        let most = at_most l.node.mail.wait in
        let least = most.0 in
        omega arith

    -- or all but one
    pub all_but_one : (number_of world.acts q ≡ over → ⊥) → number_of world.acts q + 1 ≡ over
    unfolding over
    all_but_one ne =
        let arrived = st.arrived in
        let departed = st.departed in
        let stands = its.arrived in
        let departs = its.departs in
        let most = at_most l.node.mail.wait in
        let least = most.0 in
        let one = most.1 in
        elim (cases_lt (number_of world.acts q) stand.manager.done) [
          | inl less ↦ omega arith
          | inr more ↦ absurd (ne (omega arith))
        ]

    pub inside_departed : in_collection l.node.mail.wait ≡ true → number_of world.acts q + 1 ≡ over
    unfolding over
    inside_departed inside =
        let arrived = st.arrived in
        let departed = st.departed in
        let stands = its.arrived in
        let departs = its.departs in
        let w = inside_waits l.node.mail.wait inside in
        let one = w.0 in
        let none = w.1 in
        omega arith

    -- inside a barrier it arrived with the state that it has
    pub arrived_with : (states : List State) → KeepsExact shape world.acts states → is_inside l.node.mail.wait ≡ 1
        → arrived_in world.acts states (number_of world.acts q) q ≡ Some (state_before (exact_rule shape) world.acts states q (length world.acts))
    arrived_with states kept inside =
        let departed = st.departed in
        (is_there shape world.acts states kept (waits_so program nodes options r.events world r.runs) q (number_of world.acts q) (omega arith) refl).found

  -- the collections are the exact memory's
  pub collected_with : (states : List State) → KeepsExact shape world.acts states → AreCollected nodes options world states
  collected_with states kept =
      let c = was_collected program nodes options r.events world r.runs in
      subst (AreCollected nodes options world) (one_list (exact_rule shape) nodes world.acts c.0 states c.1.keeps kept) c.1

  pub collecting_now : (q : ℕ) (l : Logged) → slice_get world.nodes q ≡ Some l → (states : List State) → KeepsExact shape world.acts states
      → in_collection l.node.mail.wait ≡ true
      → (collects shape (arrived_in world.acts states (number_of world.acts q)) ≡ true)
      × ((all_at nodes world.acts states (number_of world.acts q)).time ≡ l.node.locks.time)
  collecting_now q l at states kept inside =
      let p : Placed nodes q l.node = placed program nodes options world r q l at in
      let c : AreCollected nodes options world states = collected_with states kept in
      let it = c.inside q l l.node.locks.time at (its_time l.node.mail.wait l.node.locks.time inside (ranged_at l.node p.reached).present) in
      (it.0, sym it.1)
