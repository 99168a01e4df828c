-- The cycles of the barrier are the episodes of the acts: an arrive is of the cycle with as many of its node's arrives before it.
use Rattle.std.proofs.Common.{◌≡◌, ◌≢◌, ℕ, zero, suc, ◌+◌, ◌<◌, ◌≤◌, List, length, false, inl, inr, refl, sym, subst, ap, ◌∙◌, arith, eq-eqb}
use Rattle.std.specs.Prelude.{Some, cond, ◌==◌}
use Rattle.std.proofs.lemmas.Bool.{cases_eq, cases_Bool, eqb-true}
use Rattle.lrc_trace.specs.declared.act.Act.{Act}
use Rattle.lrc_trace.specs.declared.act.Deed.{Deed}
use Rattle.lrc_trace.specs.declared.act.Deed.TheVariants.{Arrive as Arriving, Depart as Departing}
use Rattle.lrc_trace.specs.Run.{Does, is_arrive, is_depart, arrives_before, departs_before}
use Rattle.lrc_trace.specs.Synchronization.{IsWellSynchronized, WaitsAtBarriers}
use Rattle.lrc_trace.proofs.Positions.{Does-deed}
use Rattle.lrc_trace.proofs.Intervals.{count_of-more, count_of-same, act_at}
use Rattle.lrc_races_trace.specs.declared.event.Event.{Event}
use Rattle.lrc_races_trace.specs.Cycles.{Cycles, cycles_before, no_cycles, arrived, departed, opened, after_operation}
use Rattle.lrc_races_trace.proofs.Cycles.{cycles_before-none, cycles_before-next}
use Rattle.lrc_races_laws.specs.Traces.{Numbers, operation_of, AreEvents}
use Rattle.lrc_races_laws.proofs.Operations.{view, IsElse}

pub not-eqb : (a b : ℕ) → a ≢ b → (a == b) ≡ false
not-eqb a b other = elim (cases_Bool (a == b)) [ inl equal ↦ absurd (other (eqb-true a b equal)) | inr unequal ↦ unequal ]

-- the events stand for acts of so many nodes that are well synchronized, and wait at barriers
pub record IsRun (numbers : Numbers) (nodes : ℕ) (acts : List Act) (events : List Event) : Type 0 where
  pub are : AreEvents numbers acts events
  pub node : (j p : ℕ) (d : Deed) → Does acts j p d → p < nodes
  pub synchronized : IsWellSynchronized nodes acts
  pub waits : WaitsAtBarriers acts

module _ (numbers : Numbers) (nodes : ℕ) (acts : List Act) (events : List Event) (run : IsRun numbers nodes acts events) where
  -- what the cycles say before position n
  pub record Keeps (n : ℕ) (c : Cycles) : Type 0 where
    pub low : (p : ℕ) → p < nodes → c.current ≤ arrives_before acts p n
    pub high : (p : ℕ) → arrives_before acts p n ≤ c.current + 1
    pub gone : (p : ℕ) → departs_before acts p n ≤ c.current
    pub once : (p : ℕ) → arrives_before acts p n ≤ departs_before acts p n + 1
    pub of : (p m i : ℕ) (d : Deed) → Does acts i p d → arrives_before acts p n ≡ m + 1 → c.of (numbers.thread p) ≡ Some m

  begins : Keeps 0 no_cycles
  begins = record {
    low = λ p lt. omega arith;
    high = λ p. omega arith;
    gone = λ p. omega arith;
    once = λ p. omega arith;
    of = λ p m i d does e. absurd (omega arith);
  }

  module _ (n : ℕ) (c : Cycles) (old : Keeps n c) (q : ℕ) where
    module _ (does : Does acts n q Arriving) where
      here : arrives_before acts q (n + 1) ≡ arrives_before acts q n + 1
      here = count_of-more is_arrive acts q n Arriving does refl

      others : (p : ℕ) → p ≢ q → arrives_before acts p (n + 1) ≡ arrives_before acts p n
      others p other = count_of-same is_arrive acts p n q Arriving does (λ e k. other (sym e))

      departs : (p : ℕ) → departs_before acts p (n + 1) ≡ departs_before acts p n
      departs p = count_of-same is_depart acts p n q Arriving does (λ e k. let never : ⊥ = cc in never)

      own : arrives_before acts q n ≡ c.current
      own =
          let a = run.waits.departed n q Arriving does refl in
          let b = old.gone q in
          let d = old.low q (run.node n q Arriving does) in
          omega arith

      of-own : (p m : ℕ) → p ≡ q → arrives_before acts p (n + 1) ≡ m + 1 → (arrived (numbers.thread q) c).of (numbers.thread p) ≡ Some m
      of-own p m same e =
          let at : arrives_before acts p (n + 1) ≡ arrives_before acts p n + 1 = subst (λ x. arrives_before acts x (n + 1) ≡ arrives_before acts x n + 1) (sym same) here in
          let is : arrives_before acts p n ≡ c.current = subst (λ x. arrives_before acts x n ≡ c.current) (sym same) own in
          let m_is : c.current ≡ m = omega arith in
          ap (λ b. cond b (Some c.current) (c.of (numbers.thread p))) (eq-eqb (numbers.thread p) (numbers.thread q) (ap numbers.thread same)) ∙ ap Some m_is

      pub arrives : Keeps (n + 1) (arrived (numbers.thread q) c)
      arrives = record {
        low = λ p lt.
            let a = old.low p lt in
            elim (cases_eq p q) [
              | inl same ↦ let b = subst (λ x. arrives_before acts x (n + 1) ≡ arrives_before acts x n + 1) (sym same) here in omega arith
              | inr other ↦ let b = others p other in omega arith
            ];
        high = λ p.
            let a = old.high p in
            elim (cases_eq p q) [
              | inl same ↦
                  let b : arrives_before acts p (n + 1) ≡ arrives_before acts p n + 1 = subst (λ x. arrives_before acts x (n + 1) ≡ arrives_before acts x n + 1) (sym same) here in
                  let d : arrives_before acts p n ≡ c.current = subst (λ x. arrives_before acts x n ≡ c.current) (sym same) own in
                  omega arith
              | inr other ↦ let b = others p other in omega arith
            ];
        gone = λ p. let a = old.gone p in let b = departs p in omega arith;
        once = λ p.
            let a = old.once p in
            let b = departs p in
            elim (cases_eq p q) [
              | inl same ↦
                  let d : arrives_before acts p (n + 1) ≡ arrives_before acts p n + 1 = subst (λ x. arrives_before acts x (n + 1) ≡ arrives_before acts x n + 1) (sym same) here in
                  let f : arrives_before acts p n ≤ departs_before acts p n =
                  subst (λ x. arrives_before acts x n ≤ departs_before acts x n) (sym same) (run.waits.departed n q Arriving does refl) in
                  omega arith
              | inr other ↦ let d = others p other in omega arith
            ];
        of = λ p m i d at e.
            elim (cases_eq p q) [
              | inl same ↦ of-own p m same e
              | inr other ↦
                  let was = old.of p m i d at (sym (others p other) ∙ e) in
                  elim (cases_eq (numbers.thread p) (numbers.thread q)) [
                    | inl equal ↦ absurd (other (run.are.threads i n p q d Arriving at does equal))
                    | inr apart ↦ ap (λ b. cond b (Some c.current) (c.of (numbers.thread p))) (not-eqb (numbers.thread p) (numbers.thread q) apart) ∙ was
                  ]
            ];
      }

    module _ (does : Does acts n q Departing) where
      gone-here : departs_before acts q (n + 1) ≡ departs_before acts q n + 1
      gone-here = count_of-more is_depart acts q n Departing does refl

      gone-others : (p : ℕ) → p ≢ q → departs_before acts p (n + 1) ≡ departs_before acts p n
      gone-others p other = count_of-same is_depart acts p n q Departing does (λ e k. other (sym e))

      stay : (p : ℕ) → arrives_before acts p (n + 1) ≡ arrives_before acts p n
      stay p = count_of-same is_arrive acts p n q Departing does (λ e k. let never : ⊥ = cc in never)

      all_here : (p : ℕ) → p < nodes → departs_before acts q n < arrives_before acts p n
      all_here p lt = run.synchronized.departs n q does p lt

      -- the thread's cycle has as many departs of it before it
      pub cycle : c.of (numbers.thread q) ≡ Some (departs_before acts q n)
      cycle =
          let a = all_here q (run.node n q Departing does) in
          let b = old.once q in
          old.of q (departs_before acts q n) n Departing does (omega arith)

      gone-below : (p m : ℕ) → c.current ≤ m → departs_before acts q n + 1 ≤ m → departs_before acts p (n + 1) ≤ m
      gone-below p m le own =
          let a = old.gone p in
          elim (cases_eq p q) [
            | inl same ↦ let b = subst (λ x. departs_before acts x (n + 1) ≡ departs_before acts q n + 1) (sym same) gone-here in omega arith
            | inr other ↦ let b = gone-others p other in omega arith
          ]

      gone-once : (p : ℕ) → arrives_before acts p (n + 1) ≤ departs_before acts p (n + 1) + 1
      gone-once p =
          let a = old.once p in
          let s = stay p in
          elim (cases_eq p q) [
            | inl same ↦ let b : departs_before acts p (n + 1) ≡ departs_before acts p n + 1 =
                subst (λ x. departs_before acts x (n + 1) ≡ departs_before acts x n + 1) (sym same) gone-here in omega arith
            | inr other ↦ let b = gone-others p other in omega arith
          ]

      with_current : (m : ℕ) → ((p : ℕ) → p < nodes → m ≤ arrives_before acts p n) → c.current ≤ m → departs_before acts q n + 1 ≤ m
          → Keeps (n + 1) (record { current = m; of = c.of })
      with_current m low le own = record {
        low = λ p lt. let a = low p lt in let b = stay p in omega arith;
        high = λ p. let a = old.high p in let b = stay p in omega arith;
        gone = λ p. gone-below p m le own;
        once = gone-once;
        of = λ p k i d at e. old.of p k i d at (sym (stay p) ∙ e);
      }

      pub departs-on : Keeps (n + 1) (departed (numbers.thread q) c)
      departs-on =
          let open_is : opened (c.of (numbers.thread q)) c.current ≡ cond (departs_before acts q n == c.current) (c.current + 1) c.current =
          ap (λ o. opened o c.current) cycle in
          elim (cases_eq (departs_before acts q n) c.current) [
            | inl same ↦
                let now : opened (c.of (numbers.thread q)) c.current ≡ c.current + 1 =
                open_is ∙ ap (λ b. cond b (c.current + 1) c.current) (eq-eqb (departs_before acts q n) c.current same) in
                subst (λ m. Keeps (n + 1) (record { current = m; of = c.of })) (sym now)
                (with_current (c.current + 1) (λ p lt. let a = all_here p lt in omega arith) (omega arith) (omega arith))
            | inr other ↦
                let now : opened (c.of (numbers.thread q)) c.current ≡ c.current =
                open_is ∙ ap (λ b. cond b (c.current + 1) c.current) (not-eqb (departs_before acts q n) c.current other) in
                let most = old.gone q in
                subst (λ m. Keeps (n + 1) (record { current = m; of = c.of })) (sym now) (with_current c.current (λ p lt. old.low p lt) (omega arith) (omega arith))
          ]

    kept : (d : Deed) → Does acts n q d → IsElse numbers d → Keeps (n + 1) c
    kept d does else =
        let arrives_stay : (p : ℕ) → arrives_before acts p (n + 1) ≡ arrives_before acts p n =
        λ p. count_of-same is_arrive acts p n q d does (λ e k. let no = else.no_arrive in let never : ⊥ = cc in never) in
        let departs_stay : (p : ℕ) → departs_before acts p (n + 1) ≡ departs_before acts p n =
        λ p. count_of-same is_depart acts p n q d does (λ e k. let no = else.no_depart in let never : ⊥ = cc in never) in
        record {
          low = λ p lt. let a = old.low p lt in let b = arrives_stay p in omega arith;
          high = λ p. let a = old.high p in let b = arrives_stay p in omega arith;
          gone = λ p. let a = old.gone p in let b = departs_stay p in omega arith;
          once = λ p. let a = old.once p in let b = departs_stay p in let e = arrives_stay p in omega arith;
          of = λ p m i e at is. old.of p m i e at (sym (arrives_stay p) ∙ is);
        }

  abbrev pub cycles : ℕ → Cycles
  cycles n = cycles_before events numbers.barrier n

  next : (n q : ℕ) (d : Deed) → Does acts n q d → Keeps n (cycles n) → Keeps (n + 1) (cycles (n + 1))
  next n q d does old =
      let (a, at, thread, operation) = run.are.same n q d does in
      let step : cycles (n + 1) ≡ after_operation numbers.barrier (numbers.thread q) (operation_of numbers d) (cycles n) =
      cycles_before-next events numbers.barrier n a at
      ∙ ap (λ t. after_operation numbers.barrier t a.operation (cycles n)) thread
      ∙ ap (λ o. after_operation numbers.barrier (numbers.thread q) o (cycles n)) operation in
      elim (view numbers d) [
        | inl arrives_here ↦
            let now : cycles (n + 1) ≡ arrived (numbers.thread q) (cycles n) =
            step ∙ ap (λ x. after_operation numbers.barrier (numbers.thread q) (operation_of numbers x) (cycles n)) arrives_here
            ∙ ap (λ b. cond b (arrived (numbers.thread q) (cycles n)) (cycles n)) (eq-eqb numbers.barrier numbers.barrier refl) in
            subst (Keeps (n + 1)) (sym now) (arrives n (cycles n) old q (Does-deed arrives_here does))
        | inr rest ↦ elim rest [
          | inl departs_here ↦
              let now : cycles (n + 1) ≡ departed (numbers.thread q) (cycles n) =
              step ∙ ap (λ x. after_operation numbers.barrier (numbers.thread q) (operation_of numbers x) (cycles n)) departs_here
              ∙ ap (λ b. cond b (departed (numbers.thread q) (cycles n)) (cycles n)) (eq-eqb numbers.barrier numbers.barrier refl) in
              subst (Keeps (n + 1)) (sym now) (departs-on n (cycles n) old q (Does-deed departs_here does))
          | inr else ↦ subst (Keeps (n + 1)) (sym (step ∙ else.stays numbers.barrier (numbers.thread q) (cycles n))) (kept n (cycles n) old q d does else)
        ]
      ]

  pub all_kept : (n : ℕ) → n ≤ length acts → Keeps n (cycles n)
  all_kept zero le = subst (Keeps 0) (sym (cycles_before-none events numbers.barrier)) begins
  all_kept (suc n) le =
      let (a, does) = act_at acts n (omega arith) in
      let one : n + 1 ≡ suc n = omega arith in
      subst (λ m. Keeps m (cycles m)) one (next n a.node a.deed does (all_kept n (omega arith)))

  pub arrive-cycle : (i p : ℕ) → i ≤ length acts → Does acts i p Arriving → (cycles i).current ≡ arrives_before acts p i
  arrive-cycle i p le does = sym (own i (cycles i) (all_kept i le) p does)

  pub depart-cycle : (j q : ℕ) → j ≤ length acts → Does acts j q Departing → (cycles j).of (numbers.thread q) ≡ Some (departs_before acts q j)
  depart-cycle j q le does = cycle j (cycles j) (all_kept j le) q does
