-- What an act more tells to whom.
use Rattle.std.proofs.Common.{◌≡◌, ℕ, ◌+◌, ◌<◌, ◌⊎◌, List, [], ◌∷◌, ◌++◌, length, inl, inr, refl, sym, subst, ◌∙◌, ap, arith}
use Rattle.std.proofs.lemmas.Bool.{cases_lt}
use Rattle.std.proofs.lemmas.List.{length_push}
use Rattle.lrc_trace.specs.declared.act.Act.{Act}
use Rattle.lrc_trace.specs.declared.act.Deed.TheVariants.{Acquire, Release, Depart}
use Rattle.lrc_trace.specs.Run.{arrives_before, departs_before}
use Rattle.lrc_trace.specs.Order.{Precedes, program, lock, barrier, HappensBefore, base, Reaches}
use Rattle.lrc_trace.proofs.Positions.{Does-within, Does-longer, Does-shorter, Does-deed, Does-last}
use Rattle.lrc_trace.proofs.Positions.{Does-one_node, Does-one_deed, arrives_before-prefix, departs_before-prefix}
use Rattle.lrc_trace.proofs.HappensBefore.{transitive, longer, shorter, Reaches-last, Reaches-forward, Reaches-extends}
use Rattle.lrc_lazy_known.specs.Knowing.{Tells, to_node, to_lock, to_barrier, Knows}
use Rattle.lrc_lazy_known.specs.Effect.{AreOf}

module _ (nodes locks gone : ℕ) where
  told_within : {run : List Act} {p k : ℕ} → Tells nodes locks gone run p k → p < length run
  told_within (to_node d) = Does-within d
  told_within (to_lock e d) = Does-within d
  told_within (to_barrier n e c d) = Does-within d

  -- of what is known, also what happens before it
  pub knows_before : {run : List Act} {k i m : ℕ} → Knows nodes locks gone run k m → HappensBefore run i m → Knows nodes locks gone run k i
  knows_before {run} {k} {i} {m} h b = record {
    through = h.through;
    told = h.told;
    reaches = inr (elim (h.reaches) [
      | inl same ↦ subst (λ x. HappensBefore run i x) same b
      | inr after ↦ transitive b after
    ]);
  }

  -- what is known has happened
  pub knows_within : {run : List Act} {k i : ℕ} → Knows nodes locks gone run k i → i < length run
  knows_within {run} {k} {i} h =
      let within = told_within h.told in
      let least = Reaches-forward run h.reaches in
      omega arith

  module _ (run : List Act) (a : Act) where
    abbrev pub run_on : List Act
    run_on = run ++ a ∷ []

    abbrev pub here : ℕ
    here = length run

    tells_on : {p k : ℕ} → Tells nodes locks gone run p k → Tells nodes locks gone run_on p k
    tells_on (to_node d) = to_node (Does-longer (a ∷ []) d)
    tells_on (to_lock e d) = to_lock e (Does-longer (a ∷ []) d)
    tells_on {p} {k} (to_barrier {node = node} n e c d) =
        let within : p < length run = Does-within d in
        to_barrier n e (arrives_before-prefix run (a ∷ []) node p (omega arith) ∙ c) (Does-longer (a ∷ []) d)

    tells_back : {p k : ℕ} → p < length run → Tells nodes locks gone run_on p k → Tells nodes locks gone run p k
    tells_back lt (to_node d) = to_node (Does-shorter (a ∷ []) lt d)
    tells_back lt (to_lock e d) = to_lock e (Does-shorter (a ∷ []) lt d)
    tells_back {p} {k} lt (to_barrier {node = node} n e c d) =
        to_barrier n e (sym (arrives_before-prefix run (a ∷ []) node p (omega arith)) ∙ c) (Does-shorter (a ∷ []) lt d)

    reaches_on : {i p : ℕ} → Reaches run i p → Reaches run_on i p
    reaches_on (inl e) = inl e
    reaches_on (inr h) = inr (longer run (a ∷ []) h)

    reaches_back : {i p : ℕ} → p < length run → Reaches run_on i p → Reaches run i p
    reaches_back lt (inl e) = inl e
    reaches_back lt (inr h) = inr (shorter run (a ∷ []) lt h)

    pub knows_on : {k i : ℕ} → Knows nodes locks gone run k i → Knows nodes locks gone run_on k i
    knows_on h = record { through = h.through; told = tells_on h.told; reaches = reaches_on h.reaches }

    -- what is known then was known, or is told now
    pub knows_cases : {k i : ℕ} → Knows nodes locks gone run_on k i → Knows nodes locks gone run k i ⊎ (Tells nodes locks gone run_on here k × Reaches run_on i here)
    knows_cases {k} {i} h =
        let within = told_within h.told in
        let long = length_push run a in
        elim (cases_lt h.through (length run)) [
          | inl lt ↦ inl (record { through = h.through; told = tells_back lt h.told; reaches = reaches_back lt h.reaches })
          | inr le ↦
              let same : h.through ≡ length run = omega arith in
              inr (subst (λ x. Tells nodes locks gone run_on x k) same h.told, subst (λ x. Reaches run_on i x) same h.reaches)
        ]

    -- what happens before the act: what its node knew, and what the lock or the barrier that it learns of knew
    pub data Before (departed i : ℕ) : Type 0 where
      by_node : Knows nodes locks gone run a.node i → Before departed i
      by_lock : {l : ℕ} → a.deed ≡ Acquire l → Knows nodes locks gone run (nodes + l) i → Before departed i
      by_barrier : a.deed ≡ Depart → Knows nodes locks gone run (nodes + locks + departed) i → Before departed i

    precedes_cases : {departed i k : ℕ} → (a.deed ≡ Depart → departs_before run a.node here ≡ gone + departed) → Reaches run_on i k
        → Precedes run_on k here → Before departed i
    precedes_cases {departed} {i} {k} counts r (program {node = node} lt da db) =
        let same : a.node ≡ node = Does-one_node (Does-last run a) db in
        by_node (record {
          through = k;
          told = subst (λ x. Tells nodes locks gone run k x) (sym same) (to_node (Does-shorter (a ∷ []) lt da));
          reaches = reaches_back lt r;
        })
    precedes_cases {departed} {i} {k} counts r (lock {l = l} lt da db) =
        by_lock (Does-one_deed (Does-last run a) db)
        (record { through = k; told = to_lock refl (Does-shorter (a ∷ []) lt da); reaches = reaches_back lt r })
    precedes_cases {departed} {i} {k} counts r (barrier {p = p} {q = q} lt da db e) =
        let same : a.node ≡ q = Does-one_node (Does-last run a) db in
        let is : a.deed ≡ Depart = Does-one_deed (Does-last run a) db in
        let arrives = arrives_before-prefix run (a ∷ []) p k (omega arith) in
        let departs = departs_before-prefix run (a ∷ []) q here (omega arith) in
        let counted : arrives_before run p k ≡ gone + departed =
        sym arrives ∙ e ∙ departs ∙ ap (λ x. departs_before run x here) (sym same) ∙ counts is in
        by_barrier is
        (record {
          through = k;
          told = to_barrier departed refl counted (Does-shorter (a ∷ []) lt da);
          reaches = reaches_back lt r;
        })

    pub before_cases : {departed i : ℕ} → (a.deed ≡ Depart → departs_before run a.node here ≡ gone + departed) → HappensBefore run_on i here
        → Before departed i
    before_cases counts h = let found = Reaches-last run_on h in precedes_cases counts found.1 found.2

    step_to : {i k : ℕ} → Reaches run i k → Precedes run_on k here → HappensBefore run_on i here
    step_to {i} {k} r p = Reaches-extends run_on (reaches_on r) (base p)

    -- and all of that does
    module _ (are : AreOf nodes locks run) (own : a.node < nodes) where
      pub node_before : {i : ℕ} → Knows nodes locks gone run a.node i → HappensBefore run_on i here
      node_before {i} h = go h.through h.told h.reaches
        where
          go : (k : ℕ) → Tells nodes locks gone run k a.node → Reaches run i k → HappensBefore run_on i here
          go k (to_node d) r = step_to r (program (Does-within d) (Does-longer (a ∷ []) d) (Does-last run a))
          go k (to_lock e d) r = absurd (omega arith)
          go k (to_barrier n e c d) r = absurd (omega arith)

      pub lock_before : {i : ℕ} (l : ℕ) → l < locks → a.deed ≡ Acquire l → Knows nodes locks gone run (nodes + l) i → HappensBefore run_on i here
      lock_before {i} l in_locks is h = go h.through h.told h.reaches
        where
          go : (k : ℕ) → Tells nodes locks gone run k (nodes + l) → Reaches run i k → HappensBefore run_on i here
          go k (to_node d) r = let lt = are.in_nodes k (nodes + l) _ d in absurd (omega arith)
          go k (to_lock {node = q} {l = m} e d) r =
              let same : m ≡ l = omega arith in
              step_to r (lock (Does-within d) (Does-longer (a ∷ []) (Does-deed (ap (λ x. Release x) same) d)) (Does-deed is (Does-last run a)))
          go k (to_barrier n e c d) r = absurd (omega arith)

      pub barrier_before : (departed : ℕ) {i : ℕ} → a.deed ≡ Depart → departs_before run a.node here ≡ gone + departed
          → Knows nodes locks gone run (nodes + locks + departed) i → HappensBefore run_on i here
      barrier_before departed {i} is counts h = go h.through h.told h.reaches
        where
          go : (k : ℕ) → Tells nodes locks gone run k (nodes + locks + departed) → Reaches run i k → HappensBefore run_on i here
          go k (to_node d) r = let lt = are.in_nodes k _ _ d in absurd (omega arith)
          go k (to_lock {node = q} {l = m} e d) r = let lt = are.in_locks k q m d in absurd (omega arith)
          go k (to_barrier {node = q} n e c d) r =
              let within : k < length run = Does-within d in
              let same : departs_before run a.node here ≡ arrives_before run q k = omega (arith, e, c, counts) in
              let arrives = arrives_before-prefix run (a ∷ []) q k (omega arith) in
              let departs = departs_before-prefix run (a ∷ []) a.node here (omega arith) in
              step_to r (barrier within (Does-longer (a ∷ []) d) (Does-deed is (Does-last run a)) (arrives ∙ sym same ∙ sym departs))
