-- Times on a prefix of a timed run, and by one act more.
use Rattle.std.proofs.Common.{◌≡◌, ℕ, zero, suc, ◌<◌, ◌≤◌, ◌&&◌, Bool, true, cond, List, [], ◌∷◌, ◌++◌, length, inl, inr, refl, sym, subst, ◌∙◌, ap, arith}
use Rattle.std.specs.Prelude.{◌==◌, Option, Some, None, slice_get}
use Rattle.std.proofs.lemmas.List.{get_or_append_left, get_or_push, length_push}
use Rattle.lrc_trace.specs.declared.act.Act.{Act}
use Rattle.lrc_trace.specs.declared.act.Deed.{Deed}
use Rattle.lrc_trace.specs.declared.act.Deed.TheVariants.{Acquire, Release, Arrive, Depart}
use Rattle.lrc_trace.specs.Run.{Does, is_arrive, arrives_before, departs_before}
use Rattle.lrc_trace.proofs.Positions.{slice_get-front, Does-within, Does-longer, Does-last, Does-cases, arrives_before-prefix, departs_before-prefix}
use Rattle.lrc_time.specs.Time.{joined}
use Rattle.lrc_clock.specs.Times.{time_at, raised, last_time, joined_times, is_act, is_release, acts_at, releases_at}
use Rattle.lrc_clock.specs.Times.{arrives_at, time_before, stamp_at, released_time, arrived_time}
use Rattle.lrc_clock.specs.Keeping.{KeepsTime, leaves_time, next_act_time}

-- the last of the times, and their join, depend on what passes before j and the times there alone
module _ (nodes : ℕ) (passes passes' : ℕ → Bool) (times times' : List (List ℕ)) where
  pub last-same : (j : ℕ) → ((k : ℕ) → k < j → passes k ≡ passes' k) → ((k : ℕ) → k < j → time_at times k ≡ time_at times' k)
      → last_time nodes passes times j ≡ last_time nodes passes' times' j
  last-same zero tests same = refl
  last-same (suc j) tests same =
      let before : last_time nodes passes times j ≡ last_time nodes passes' times' j = last-same j (λ k lt. tests k (omega arith))
      (λ k lt. same k (omega arith)) in
      ap (λ b. cond b (time_at times j) (last_time nodes passes times j)) (tests j (omega arith))
      ∙ ap (λ t. cond (passes' j) t (last_time nodes passes times j)) (same j (omega arith))
      ∙ ap (λ t. cond (passes' j) (time_at times' j) t) before

  pub join-same : (j : ℕ) → ((k : ℕ) → k < j → passes k ≡ passes' k) → ((k : ℕ) → k < j → time_at times k ≡ time_at times' k)
      → joined_times nodes passes times j ≡ joined_times nodes passes' times' j
  join-same zero tests same = refl
  join-same (suc j) tests same =
      let before : joined_times nodes passes times j ≡ joined_times nodes passes' times' j = join-same j (λ k lt. tests k (omega arith))
      (λ k lt. same k (omega arith)) in
      ap (λ b. cond b (joined (joined_times nodes passes times j) (time_at times j)) (joined_times nodes passes times j)) (tests j (omega arith))
      ∙ ap (λ t. cond (passes' j) (joined (joined_times nodes passes times j) t) (joined_times nodes passes times j)) (same j (omega arith))
      ∙ ap (λ t. cond (passes' j) (joined t (time_at times' j)) t) before

module _ (run more : List Act) (times later : List (List ℕ)) (timed : length times ≡ length run) where
  pub time_at-prefix : (j : ℕ) → j < length run → time_at (times ++ later) j ≡ time_at times j
  time_at-prefix j lt = get_or_append_left times later [] j (omega arith)

  act-prefix : (passes : Act → Bool) (k : ℕ) → k < length run → is_act passes (slice_get (run ++ more) k) ≡ is_act passes (slice_get run k)
  act-prefix passes k lt = ap (is_act passes) (slice_get-front run more k lt)

  arrives_at-prefix : (number k : ℕ) → k < length run → arrives_at (run ++ more) number k ≡ arrives_at run number k
  arrives_at-prefix number k lt = act-prefix (λ a. is_arrive a.deed && arrives_before (run ++ more) a.node k == number) k lt ∙ go (slice_get run k)
    where
      go : (o : Option Act)
          → is_act (λ a. is_arrive a.deed && arrives_before (run ++ more) a.node k == number) o ≡ is_act (λ a. is_arrive a.deed && arrives_before run a.node
          k == number) o
      go (Some a) = ap (λ n. is_arrive a.deed && n == number) (arrives_before-prefix run more a.node k (omega arith))
      go None = refl

  pub time_before-prefix : (nodes node j : ℕ) → j ≤ length run → time_before nodes (run ++ more) (times ++ later) node j ≡ time_before nodes run times node j
  time_before-prefix nodes node j le =
      last-same nodes (acts_at (run ++ more) node) (acts_at run node) (times ++ later) times j
      (λ k lt. act-prefix (λ a. a.node == node) k (omega arith))
      (λ k lt. time_at-prefix k (omega arith))

  pub stamp_at-prefix : (nodes node j : ℕ) → j ≤ length run → stamp_at nodes (run ++ more) (times ++ later) node j ≡ stamp_at nodes run times node j
  stamp_at-prefix nodes node j le = ap (λ t. raised t node) (time_before-prefix nodes node j le)

  pub released_time-prefix : (nodes l j : ℕ) → j ≤ length run → released_time nodes (run ++ more) (times ++ later) l j ≡ released_time nodes run times l j
  released_time-prefix nodes l j le =
      last-same nodes (releases_at (run ++ more) l) (releases_at run l) (times ++ later) times j
      (λ k lt. act-prefix (λ a. is_release l a.deed) k (omega arith))
      (λ k lt. time_at-prefix k (omega arith))

  pub arrived_time-prefix : (nodes number j : ℕ) → j ≤ length run
      → arrived_time nodes (run ++ more) (times ++ later) number j ≡ arrived_time nodes run times number j
  arrived_time-prefix nodes number j le =
      join-same nodes (arrives_at (run ++ more) number) (arrives_at run number) (times ++ later) times j
      (λ k lt. arrives_at-prefix number k (omega arith))
      (λ k lt. time_at-prefix k (omega arith))

  -- the rule on a prefix
  acquired-prefix : (nodes node l j : ℕ) → j ≤ length run
      → joined (stamp_at nodes (run ++ more) (times ++ later) node j) (released_time nodes (run ++ more) (times ++ later) l j)
      ≡ joined (stamp_at nodes run times node j) (released_time nodes run times l j)
  acquired-prefix nodes node l j le =
      ap (λ t. joined t (released_time nodes (run ++ more) (times ++ later) l j)) (stamp_at-prefix nodes node j le)
      ∙ ap (λ t. joined (stamp_at nodes run times node j) t) (released_time-prefix nodes l j le)

  departed-prefix : (nodes node j : ℕ) → j ≤ length run
      → joined (time_before nodes (run ++ more) (times ++ later) node j) (arrived_time nodes (run ++ more) (times ++ later) (departs_before
      (run ++ more) node j) j)
      ≡ joined (time_before nodes run times node j) (arrived_time nodes run times (departs_before run node j) j)
  departed-prefix nodes node j le =
      ap (λ t. joined t (arrived_time nodes (run ++ more) (times ++ later) (departs_before (run ++ more) node j) j)) (time_before-prefix nodes node j le)
      ∙ ap (λ n. joined (time_before nodes run times node j) (arrived_time nodes (run ++ more) (times ++ later) n j))
      (departs_before-prefix run more node j le)
      ∙ ap (λ t. joined (time_before nodes run times node j) t) (arrived_time-prefix nodes (departs_before run node j) j le)

  pub keeps-prefix : (nodes : ℕ) → KeepsTime nodes (run ++ more) (times ++ later) → KeepsTime nodes run times
  keeps-prefix nodes keeps = record {
    timed = timed;
    in_range = λ j node d h. keeps.in_range j node d (Does-longer more h);
    others = λ j node d h still. let lt = Does-within h in
        sym (time_at-prefix j lt) ∙ keeps.others j node d (Does-longer more h) still ∙ time_before-prefix nodes node j (omega arith);
    release = λ j node l h. let lt = Does-within h in
        sym (time_at-prefix j lt) ∙ keeps.release j node l (Does-longer more h) ∙ stamp_at-prefix nodes node j (omega arith);
    arrive = λ j node h. let lt = Does-within h in
        sym (time_at-prefix j lt) ∙ keeps.arrive j node (Does-longer more h) ∙ stamp_at-prefix nodes node j (omega arith);
    acquire = λ j node l h. let lt = Does-within h in
        sym (time_at-prefix j lt) ∙ keeps.acquire j node l (Does-longer more h) ∙ acquired-prefix nodes node l j (omega arith);
    depart = λ j node h. let lt = Does-within h in
        sym (time_at-prefix j lt) ∙ keeps.depart j node (Does-longer more h) ∙ departed-prefix nodes node j (omega arith);
  }

-- the rule gives every act the next time of its node
module _ (nodes : ℕ) (run : List Act) (times : List (List ℕ)) where
  still-next : (node : ℕ) (d : Deed) → leaves_time d ≡ true → next_act_time nodes run times node d ≡ time_before nodes run times node (length run)
  still-next node (Acquire l) h = let never : ⊥ = cc in absurd never
  still-next node (Release l) h = let never : ⊥ = cc in absurd never
  still-next node Arrive h = let never : ⊥ = cc in absurd never
  still-next node Depart h = let never : ⊥ = cc in absurd never
  still-next node d h = refl

module _ (nodes : ℕ) (run : List Act) (times : List (List ℕ)) (act : Act) (time : List ℕ) (keeps : KeepsTime nodes run times) where
  abbrev more : List Act
  more = act ∷ []

  abbrev later : List (List ℕ)
  later = time ∷ []

  last-at : time_at (times ++ later) (length run) ≡ time
  last-at = get_or_push times time [] (length run) keeps.timed

  -- what holds at an earlier position and at the last holds at each
  at_each : (node j : ℕ) (d : Deed) (given : ℕ → List ℕ) → ((j < length run) → Does run j node d → time_at times j ≡ given j) → (act.node ≡ node
      → act.deed ≡ d → time ≡ given (length run)) → Does (run ++ more) j node d → time_at (times ++ later) j ≡ given j
  at_each node j d given before last h =
      elim (Does-cases h) [
        | inl (lt, h') ↦ time_at-prefix run more times later keeps.timed j lt ∙ before lt h'
        | inr (here, own, is) ↦ ap (λ k. time_at (times ++ later) k) here ∙ last-at ∙ last own is ∙ ap given (sym here)
      ]

  pub keeps-more : act.node < nodes → time ≡ next_act_time nodes run times act.node act.deed → KeepsTime nodes (run ++ more) (times ++ later)
  keeps-more in_range is = record {
    timed = let a = length_push run act in let b = length_push times time in let c = keeps.timed in omega arith;
    in_range = λ j node d h.
        elim (Does-cases h) [
          | inl (lt, h') ↦ keeps.in_range j node d h'
          | inr (here, own, same) ↦ subst (λ p. p < nodes) own in_range
        ];
    others = λ j node d h still.
        at_each node j d (λ k. time_before nodes (run ++ more) (times ++ later) node k)
        (λ lt h'. keeps.others j node d h' still ∙ sym (time_before-prefix run more times later keeps.timed nodes node j (omega arith)))
        (λ own same. given node d own same ∙ still-next nodes run times node d still
        ∙ sym (time_before-prefix run more times later keeps.timed nodes node (length run) (omega arith)))
        h;
    release = λ j node l h.
        at_each node j (Release l) (λ k. stamp_at nodes (run ++ more) (times ++ later) node k)
        (λ lt h'. keeps.release j node l h' ∙ sym (stamp_at-prefix run more times later keeps.timed nodes node j (omega arith)))
        (λ own same. given node (Release l) own same ∙ sym (stamp_at-prefix run more times later keeps.timed nodes node (length run) (omega arith)))
        h;
    arrive = λ j node h.
        at_each node j Arrive (λ k. stamp_at nodes (run ++ more) (times ++ later) node k)
        (λ lt h'. keeps.arrive j node h' ∙ sym (stamp_at-prefix run more times later keeps.timed nodes node j (omega arith)))
        (λ own same. given node Arrive own same ∙ sym (stamp_at-prefix run more times later keeps.timed nodes node (length run) (omega arith)))
        h;
    acquire = λ j node l h.
        at_each node j (Acquire l)
        (λ k. joined (stamp_at nodes (run ++ more) (times ++ later) node k) (released_time nodes (run ++ more) (times ++ later) l k))
        (λ lt h'. keeps.acquire j node l h' ∙ sym (acquired-prefix run more times later keeps.timed nodes node l j (omega arith)))
        (λ own same. given node (Acquire l) own same ∙ sym (acquired-prefix run more times later keeps.timed nodes node l (length run) (omega arith)))
        h;
    depart = λ j node h.
        at_each node j Depart
        (λ k. joined (time_before nodes (run ++ more) (times ++ later) node k) (arrived_time nodes (run ++ more) (times ++ later) (departs_before
        (run ++ more) node k) k))
        (λ lt h'. keeps.depart j node h' ∙ sym (departed-prefix run more times later keeps.timed nodes node j (omega arith)))
        (λ own same. given node Depart own same ∙ sym (departed-prefix run more times later keeps.timed nodes node (length run) (omega arith)))
        h;
  }
    where
      given : (node : ℕ) (d : Deed) → act.node ≡ node → act.deed ≡ d → time ≡ next_act_time nodes run times node d
      given node d own same = is ∙ ap (λ p. next_act_time nodes run times p act.deed) own ∙ ap (λ (x : Deed). next_act_time nodes run times node x) same

  pub keeps-last : KeepsTime nodes (run ++ more) (times ++ later) → (act.node < nodes) × (time ≡ next_act_time nodes run times act.node act.deed)
  keeps-last all = (all.in_range (length run) act.node act.deed last, sym last-at ∙ go act.deed last)
    where
      last : Does (run ++ more) (length run) act.node act.deed
      last = Does-last run act

      go : (d : Deed) → Does (run ++ more) (length run) act.node d → time_at (times ++ later) (length run) ≡ next_act_time nodes run times act.node d
      go (Acquire l) h = all.acquire (length run) act.node l h ∙ acquired-prefix run more times later keeps.timed nodes act.node l (length run) (omega arith)
      go (Release l) h = all.release (length run) act.node l h ∙ stamp_at-prefix run more times later keeps.timed nodes act.node (length run) (omega arith)
      go Arrive h = all.arrive (length run) act.node h ∙ stamp_at-prefix run more times later keeps.timed nodes act.node (length run) (omega arith)
      go Depart h = all.depart (length run) act.node h ∙ departed-prefix run more times later keeps.timed nodes act.node (length run) (omega arith)
      go d h = all.others (length run) act.node d h refl ∙ time_before-prefix run more times later keeps.timed nodes act.node (length run) (omega arith)
