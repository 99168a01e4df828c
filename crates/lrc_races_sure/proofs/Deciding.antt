-- Of the events of a trace it is decided whether one happens before another, and whether one leads to another.
use Rattle.std.proofs.Common.{◌≡◌, ℕ, zero, suc, ◌<◌, ◌≤◌, ◌⊎◌, List, inl, inr, refl, sym, subst, ap, arith}
use Rattle.std.specs.Prelude.{Option, Some, None, slice_get}
use Rattle.std.proofs.lemmas.Bool.{cases_eq, cases_lt}
use Rattle.lrc_races_trace.specs.declared.event.Event.{Event}
use Rattle.lrc_races_trace.specs.declared.event.Operation.{Operation}
use Rattle.lrc_races_trace.specs.declared.event.Operation.TheVariants.{Read, Write, Acquire, Release, Post, Wait, Fork, Join, Arrive, Depart, Idle}
use Rattle.lrc_races_trace.specs.Trace.{At, Writes, given, got}
use Rattle.lrc_races_trace.specs.Cycles.{cycles_before}
use Rattle.lrc_races_trace.specs.Formed.{IsFirstBefore}
use Rattle.lrc_races_trace.specs.Order.{Precedes, program, lock, fork, join, fork_join, barrier, HappensBefore, base, further}
use Rattle.lrc_races_trace.proofs.Positions.{At-one}
use Rattle.lrc_races_trace.proofs.HappensBefore.{Precedes-forward, forward, Reaches-last}
use Rattle.lrc_races_sure.specs.Leading.{IsLastWrite, LeadsOn, ordered, read, LeadsTo, one, more, Leads, IsByWay}
use Rattle.lrc_races_sure.proofs.Leading.{on-forward}

abbrev pub Decided : Type 0 → Type 0
Decided P = P ⊎ (P → ⊥)

pub decided_both : {P Q : Type 0} → Decided P → Decided Q → Decided (P × Q)
decided_both (inl p) (inl q) = inl (p, q)
decided_both (inl p) (inr denied) = inr (λ (x, y). denied y)
decided_both (inr denied) q = inr (λ (x, y). denied x)

pub decided_either : {P Q : Type 0} → Decided P → Decided Q → Decided (P ⊎ Q)
decided_either (inl p) q = inl (inl p)
decided_either (inr denied) (inl q) = inl (inr q)
decided_either (inr denied) (inr none) = inr (λ h. elim h [ inl p ↦ denied p | inr q ↦ none q ])

pub decided_same : {P Q : Type 0} → (P → Q) → (Q → P) → Decided P → Decided Q
decided_same to from (inl p) = inl (to p)
decided_same to from (inr denied) = inr (λ q. denied (from q))

-- ---- searches

module _ (P : ℕ → Type 0) where
  pub find_below : (n : ℕ) → ((k : ℕ) → k < n → Decided (P k)) → ((k : ℕ) × (k < n) × P k) ⊎ ((k : ℕ) → k < n → P k → ⊥)
  find_below zero d = inr (λ k lt h. omega arith)
  find_below (suc n) d =
      elim (find_below n (λ k lt. d k (omega arith))) [
        | inl (k, lt, h) ↦ inl (k, omega arith, h)
        | inr none ↦
            elim (d n (omega arith)) [
              | inl h ↦ inl (n, omega arith, h)
              | inr fails ↦ inr (λ k lt h. elim (cases_eq k n) [ inl same ↦ fails (subst P same h) | inr other ↦ none k (omega arith) h ])
            ]
      ]

  pub find_first : (n : ℕ) → ((k : ℕ) → Decided (P k))
      → ((k : ℕ) × (k < n) × P k × ((m : ℕ) → m < n → P m → k ≤ m)) ⊎ ((k : ℕ) → k < n → P k → ⊥)
  find_first zero d = inr (λ k lt h. omega arith)
  find_first (suc n) d =
      elim (find_first n d) [
        | inl (k, lt, h, least) ↦ inl (k, omega arith, h, λ m below g. elim (cases_lt m n) [ inl early ↦ least m early g | inr late ↦ omega arith ])
        | inr none ↦
            elim (d n) [
              | inl h ↦ inl (n, omega arith, h, λ m below g. elim (cases_lt m n) [ inl early ↦ absurd (none m early g) | inr late ↦ late ])
              | inr fails ↦ inr (λ k lt h. elim (cases_eq k n) [ inl same ↦ fails (subst P same h) | inr other ↦ none k (omega arith) h ])
            ]
      ]

  pub find_last : (n : ℕ) → ((k : ℕ) → Decided (P k))
      → ((k : ℕ) × (k < n) × P k × ((m : ℕ) → m < n → P m → m ≤ k)) ⊎ ((k : ℕ) → k < n → P k → ⊥)
  find_last zero d = inr (λ k lt h. omega arith)
  find_last (suc n) d =
      elim (d n) [
        | inl h ↦ inl (n, omega arith, h, λ m below g. omega arith)
        | inr fails ↦
            elim (find_last n d) [
              | inl (k, lt, h, last) ↦
                  inl (
                    k,
                    omega arith,
                    h,
                    λ m below g.
                        elim (cases_eq m n) [ inl same ↦ absurd (fails (subst P same g)) | inr other ↦ last m (omega arith) g ],
                  )
              | inr none ↦ inr (λ k lt h. elim (cases_eq k n) [ inl same ↦ fails (subst P same h) | inr other ↦ none k (omega arith) h ])
            ]
      ]

-- ---- the transitive closure of steps that go forward

module _ (Step Closure : ℕ → ℕ → Type 0) (decide : (i j : ℕ) → Decided (Step i j)) (goes : (i j : ℕ) → Step i j → i < j)
    (begin : (i j : ℕ) → Step i j → Closure i j) (extend : (i j k : ℕ) → Closure i j → Step j k → Closure i k)
    (final : (i k : ℕ) → Closure i k → (j : ℕ) × ((i ≡ j) ⊎ Closure i j) × Step j k) where
  pub decide_closure : (fuel i k : ℕ) → k ≤ fuel → Decided (Closure i k)
  decide_closure zero i k le = inr (λ c. let (j, r, s) = final i k c in let lt = goes j k s in omega arith)
  decide_closure (suc fuel) i k le =
      elim (find_below (λ j. ((i ≡ j) ⊎ Closure i j) × Step j k) k
      (λ j lt. decided_both (decided_either (cases_eq i j) (decide_closure fuel i j (omega arith))) (decide j k))) [
        | inl (j, lt, (r, s)) ↦ inl (elim r [ inl same ↦ begin i k (subst (λ m. Step m k) (sym same) s) | inr c ↦ extend i j k c s ])
        | inr none ↦ inr (λ c. let (j, r, s) = final i k c in none j (goes j k s) (r, s))
      ]

-- ---- operations

pub same_option : (x y : Option ℕ) → Decided (x ≡ y)
same_option None None = inl refl
same_option None (Some y) = inr (λ e. cc)
same_option (Some x) None = inr (λ e. cc)
same_option (Some x) (Some y) = elim (cases_eq x y) [ inl same ↦ inl (ap Some same) | inr other ↦ inr (λ e. other (cc)) ]

pub same_operation : (o p : Operation) → Decided (o ≡ p)
same_operation (Read v) (Read w) = elim (cases_eq v w) [ inl same ↦ inl (ap Read same) | inr other ↦ inr (λ e. other (cc)) ]
same_operation (Read v) _ = inr (λ e. let never : ⊥ = cc in never)
same_operation (Write v) (Write w) = elim (cases_eq v w) [ inl same ↦ inl (ap Write same) | inr other ↦ inr (λ e. other (cc)) ]
same_operation (Write v) _ = inr (λ e. let never : ⊥ = cc in never)
same_operation (Acquire v) (Acquire w) = elim (cases_eq v w) [ inl same ↦ inl (ap Acquire same) | inr other ↦ inr (λ e. other (cc)) ]
same_operation (Acquire v) _ = inr (λ e. let never : ⊥ = cc in never)
same_operation (Release v) (Release w) = elim (cases_eq v w) [ inl same ↦ inl (ap Release same) | inr other ↦ inr (λ e. other (cc)) ]
same_operation (Release v) _ = inr (λ e. let never : ⊥ = cc in never)
same_operation (Post v) (Post w) = elim (cases_eq v w) [ inl same ↦ inl (ap Post same) | inr other ↦ inr (λ e. other (cc)) ]
same_operation (Post v) _ = inr (λ e. let never : ⊥ = cc in never)
same_operation (Wait v) (Wait w) = elim (cases_eq v w) [ inl same ↦ inl (ap Wait same) | inr other ↦ inr (λ e. other (cc)) ]
same_operation (Wait v) _ = inr (λ e. let never : ⊥ = cc in never)
same_operation (Fork v) (Fork w) = elim (cases_eq v w) [ inl same ↦ inl (ap Fork same) | inr other ↦ inr (λ e. other (cc)) ]
same_operation (Fork v) _ = inr (λ e. let never : ⊥ = cc in never)
same_operation (Join v) (Join w) = elim (cases_eq v w) [ inl same ↦ inl (ap Join same) | inr other ↦ inr (λ e. other (cc)) ]
same_operation (Join v) _ = inr (λ e. let never : ⊥ = cc in never)
same_operation (Arrive v) (Arrive w) = elim (cases_eq v w) [ inl same ↦ inl (ap Arrive same) | inr other ↦ inr (λ e. other (cc)) ]
same_operation (Arrive v) _ = inr (λ e. let never : ⊥ = cc in never)
same_operation (Depart v) (Depart w) = elim (cases_eq v w) [ inl same ↦ inl (ap Depart same) | inr other ↦ inr (λ e. other (cc)) ]
same_operation (Depart v) _ = inr (λ e. let never : ⊥ = cc in never)
same_operation Idle Idle = inl refl
same_operation Idle _ = inr (λ e. let never : ⊥ = cc in never)

-- ---- events

pub at_cases : (events : List Event) (k : ℕ) → ((a : Event) × At events k a) ⊎ ((a : Event) → At events k a → ⊥)
at_cases events k = at_of (slice_get events k) refl
  where
    at_of : (o : Option Event) → slice_get events k ≡ o → ((a : Event) × At events k a) ⊎ ((a : Event) → At events k a → ⊥)
    at_of (Some a) e = inl (a, record { is = e })
    at_of None e = inr (λ a h. let is = h.is in let never : ⊥ = cc in never)

module _ (events : List Event) where
  -- what is decided of an event is decided of a position
  pub decide_at : (These : Event → Type 0) → ((a : Event) → Decided (These a)) → (k : ℕ) → Decided ((a : Event) × At events k a × These a)
  decide_at These d k =
      elim (at_cases events k) [
        | inr none ↦ inr (λ (a, at, is). none a at)
        | inl (a, at) ↦
            elim (d a) [
              | inl is ↦ inl (a, at, is)
              | inr fails ↦ inr (λ (c, there, is). fails (subst These (At-one there at) is))
            ]
      ]

  pub first_before : (These : Event → Type 0) → ((a : Event) → Decided (These a)) → (n : ℕ)
      → ((a : Event) × IsFirstBefore events n These a) ⊎ ((k : ℕ) (a : Event) → k < n → At events k a → These a → ⊥)
  first_before These d n =
      elim (find_first (λ k. (a : Event) × At events k a × These a) n (decide_at These d)) [
        | inl (k, lt, (a, at, is), least) ↦
            inl (a, record { position = k; before = lt; at = at; is = is; first = λ m c below there these. least m below (c, there, these) })
        | inr none ↦ inr (λ k a lt at is. none k lt (a, at, is))
      ]

  -- the last write of a variable before a position, if there is one
  pub last_write : (v n : ℕ) → ((i : ℕ) × IsLastWrite events i n v) ⊎ ((k : ℕ) (a : Event) → k < n → At events k a → Writes a v → ⊥)
  last_write v n =
      elim (find_last (λ k. (a : Event) × At events k a × Writes a v) n (decide_at (λ a. Writes a v) (λ a. same_operation a.operation (Write v)))) [
        | inl (k, lt, (a, at, is), last) ↦
            inl (k, record { write = a; before = lt; at = at; writes = is; last = λ m c below there these. last m below (c, there, these) })
        | inr none ↦ inr (λ k a lt at is. none k lt (a, at, is))
      ]

  -- two last writes are one
  pub last_write-one : {i k j v : ℕ} → IsLastWrite events i j v → IsLastWrite events k j v → i ≡ k
  last_write-one {i} {k} a b = let le = a.last k b.write b.before b.at b.writes in let ge = b.last i a.write a.before a.at a.writes in omega arith

  -- ---- steps

  shared : (x y : Option ℕ) → Decided ((l : ℕ) × (x ≡ Some l) × (y ≡ Some l))
  shared None y = inr (λ (l, e, f). cc)
  shared (Some l) y = elim (same_option y (Some l)) [ inl same ↦ inl (l, refl, same) | inr other ↦ inr (λ (m, e, f). other (cc)) ]

  forked : (o p : Operation) → Decided ((u : ℕ) × (o ≡ Fork u) × (p ≡ Join u))
  forked (Fork u) p = elim (same_operation p (Join u)) [ inl same ↦ inl (u, refl, same) | inr other ↦ inr (λ (w, e, f). other (cc)) ]
  forked _ p = inr (λ (w, e, f). let never : ⊥ = cc in never)

  arrived : (o p : Operation) (i j t : ℕ)
      → Decided ((x : ℕ) × (o ≡ Arrive x) × (p ≡ Depart x) × ((cycles_before events x j).of t ≡ Some (cycles_before events x i).current))
  arrived (Arrive x) p i j t =
      elim (same_operation p (Depart x)) [
        | inr other ↦ inr (λ (w, e, f, g). other (cc))
        | inl same ↦
            elim (same_option ((cycles_before events x j).of t) (Some (cycles_before events x i).current)) [
              | inl is ↦ inl (x, refl, same, is)
              | inr denied ↦
                  inr (λ (w, e, f, g).
                  let one : w ≡ x = cc in
                  denied (subst (λ y. (cycles_before events y j).of t ≡ Some (cycles_before events y i).current) one g))
            ]
      ]
  arrived _ p i j t = inr (λ (w, e, f, g). let never : ⊥ = cc in never)

  -- the cases of a step, between two events
  abbrev pub Cases : ℕ → ℕ → Event → Event → Type 0
  Cases i j a b =
      (a.thread ≡ b.thread) ⊎ (((l : ℕ) × (given a.operation ≡ Some l) × (got b.operation ≡ Some l)) ⊎ ((a.operation ≡ Fork b.thread)
      ⊎ ((b.operation ≡ Join a.thread) ⊎ (((u : ℕ) × (a.operation ≡ Fork u) × (b.operation ≡ Join u))
      ⊎ ((x : ℕ) × (a.operation ≡ Arrive x) × (b.operation ≡ Depart x)
      × ((cycles_before events x j).of b.thread ≡ Some (cycles_before events x i).current))))))

  cases_precede : (i j : ℕ) (a b : Event) → i < j → At events i a → At events j b → Cases i j a b → Precedes events i j
  cases_precede i j a b lt at there (inl same) = program lt at there same
  cases_precede i j a b lt at there (inr (inl (l, e, f))) = lock lt at there e f
  cases_precede i j a b lt at there (inr (inr (inl e))) = fork lt at there e
  cases_precede i j a b lt at there (inr (inr (inr (inl e)))) = join lt at there e
  cases_precede i j a b lt at there (inr (inr (inr (inr (inl (u, e, f)))))) = fork_join lt at there e f
  cases_precede i j a b lt at there (inr (inr (inr (inr (inr (x, e, f, g)))))) = barrier lt at there e f g

  pub precede_cases : (i j : ℕ) → Precedes events i j → (a : Event) × (b : Event) × At events i a × At events j b × Cases i j a b
  precede_cases i j (program {a = a} {b = b} lt at there same) = (a, b, at, there, inl same)
  precede_cases i j (lock {l = l} {a = a} {b = b} lt at there e f) = (a, b, at, there, inr (inl (l, e, f)))
  precede_cases i j (fork {a = a} {b = b} lt at there e) = (a, b, at, there, inr (inr (inl e)))
  precede_cases i j (join {a = a} {b = b} lt at there e) = (a, b, at, there, inr (inr (inr (inl e))))
  precede_cases i j (fork_join {u = u} {a = a} {b = b} lt at there e f) = (a, b, at, there, inr (inr (inr (inr (inl (u, e, f))))))
  precede_cases i j (barrier {x = x} {a = a} {b = b} lt at there e f g) = (a, b, at, there, inr (inr (inr (inr (inr (x, e, f, g))))))

  decide_cases : (i j : ℕ) (a b : Event) → Decided (Cases i j a b)
  decide_cases i j a b =
      decided_either (cases_eq a.thread b.thread) (decided_either (shared (given a.operation) (got b.operation))
      (decided_either (same_operation a.operation (Fork b.thread)) (decided_either (same_operation b.operation (Join a.thread))
      (decided_either (forked a.operation b.operation) (arrived a.operation b.operation i j b.thread)))))

  pub decide_precedes : (i j : ℕ) → Decided (Precedes events i j)
  decide_precedes i j =
      elim (cases_lt i j) [
        | inr late ↦ inr (λ p. let lt = Precedes-forward p in omega arith)
        | inl lt ↦
            elim (at_cases events i) [
              | inr none ↦ inr (λ p. let (a, b, at, there, cases) = precede_cases i j p in none a at)
              | inl (a, at) ↦
                  elim (at_cases events j) [
                    | inr none ↦ inr (λ p. let (c, b, here, there, cases) = precede_cases i j p in none b there)
                    | inl (b, there) ↦
                        elim (decide_cases i j a b) [
                          | inl is ↦ inl (cases_precede i j a b lt at there is)
                          | inr denied ↦
                              inr (λ p.
                              let (c, d, here, next, cases) = precede_cases i j p in
                              denied (subst (λ y. Cases i j a y) (At-one next there) (subst (λ x. Cases i j x d) (At-one here at) cases)))
                        ]
                  ]
            ]
      ]

  pub decide_before : (i j : ℕ) → Decided (HappensBefore events i j)
  decide_before i j =
      decide_closure (Precedes events) (HappensBefore events) decide_precedes (λ k l p. Precedes-forward p) (λ k l p. base p)
      (λ k l m h p. further h p) (λ k l h. Reaches-last events h) j i j (omega arith)

  -- ---- steps of what was read

  reads : (o : Operation) → Decided ((v : ℕ) × (o ≡ Read v))
  reads (Read v) = inl (v, refl)
  reads _ = inr (λ (v, e). let never : ⊥ = cc in never)

  abbrev IsRead : ℕ → ℕ → Type 0
  IsRead i j = (b : Event) × At events j b × ((v : ℕ) × (b.operation ≡ Read v) × IsLastWrite events i j v)

  decide_read : (i j : ℕ) → Decided (IsRead i j)
  decide_read i j = decide_at (λ b. (v : ℕ) × (b.operation ≡ Read v) × IsLastWrite events i j v) (λ b. of b (reads b.operation)) j
    where
      of : (b : Event) → Decided ((v : ℕ) × (b.operation ≡ Read v)) → Decided ((v : ℕ) × (b.operation ≡ Read v) × IsLastWrite events i j v)
      of b (inr none) = inr (λ (v, e, last). none (v, e))
      of b (inl (v, e)) =
          elim (last_write v j) [
            | inr none ↦
                inr (λ (w, f, last).
                let same : w ≡ v = cc in
                none i last.write last.before last.at (subst (λ x. Writes last.write x) same last.writes))
            | inl (k, is) ↦
                elim (cases_eq k i) [
                  | inl same ↦ inl (v, e, subst (λ m. IsLastWrite events m j v) same is)
                  | inr other ↦
                      inr (λ (w, f, last).
                      let same : w ≡ v = cc in
                      other (last_write-one is (subst (λ x. IsLastWrite events i j x) same last)))
                ]
          ]

  pub decide_on : (i j : ℕ) → Decided (LeadsOn events i j)
  decide_on i j =
      decided_same (λ h. elim h [ inl p ↦ ordered p | inr (b, at, (v, e, last)) ↦ read at e last ]) split
      (decided_either (decide_precedes i j) (decide_read i j))
    where
      split : LeadsOn events i j → Precedes events i j ⊎ IsRead i j
      split (ordered p) = inl p
      split (read {variable = v} {b = b} at e last) = inr (b, at, (v, e, last))

  pub to-last : {i j : ℕ} → LeadsTo events i j → (k : ℕ) × Leads events i k × LeadsOn events k j
  to-last {i} (one s) = (i, inl refl, s)
  to-last (more {j = k} h s) = (k, inr h, s)

  pub decide_to : (i j : ℕ) → Decided (LeadsTo events i j)
  decide_to i j =
      decide_closure (LeadsOn events) (LeadsTo events) decide_on (λ k l s. on-forward s) (λ k l s. one s)
      (λ k l m h s. more h s) (λ k l h. to-last h) j i j (omega arith)

  pub decide_way : (i j : ℕ) → Decided (IsByWay events i j)
  decide_way i j =
      decided_same (λ (k, lt, (leads, before)). record { through = k; leads = leads; before = before })
      (λ w. (w.through, forward w.before, (w.leads, w.before)))
      (elim (find_below (λ k. Leads events i k × HappensBefore events k j) j
      (λ k lt. decided_both (decided_either (cases_eq i k) (decide_to i k)) (decide_before k j))) [
        | inl found ↦ inl found
        | inr none ↦ inr (λ (k, lt, h). none k lt h)
      ])
