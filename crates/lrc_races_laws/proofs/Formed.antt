-- No event of a run is one that a program would not give.
use Rattle.std.proofs.Common.{◌≡◌, ℕ, zero, suc, ◌+◌, ◌<◌, ◌≤◌, List, [], ◌∷◌, length, true, false, inl, inr, refl, sym, subst, ap, ◌∙◌, arith}
use Rattle.std.proofs.lemmas.Bool.{cases_eq}
use Rattle.lrc_trace.specs.declared.act.Act.{Act}
use Rattle.lrc_trace.specs.declared.act.Deed.{Deed}
use Rattle.lrc_trace.specs.declared.act.Deed.TheVariants.{Arrive as Arriving, Depart as Departing}
use Rattle.lrc_trace.specs.Run.{Does, is_arrive, is_depart, arrives_before, departs_before}
use Rattle.lrc_trace.proofs.Positions.{Does-deed, Does-within, Does-node}
use Rattle.lrc_trace.proofs.Intervals.{count_of-more, count_of-same, act_at}
use Rattle.lrc_races_trace.specs.declared.event.Event.{Event}
use Rattle.lrc_races_trace.specs.declared.event.Operation.TheVariants.{Arrive, Depart}
use Rattle.lrc_races_trace.specs.declared.fault.Reason.TheVariants.{Joined, Waits, NotArrived, Held, NotHeld, Known}
use Rattle.lrc_races_trace.specs.Trace.{At}
use Rattle.lrc_races_trace.specs.Formed.{Holds, IsAtBarrier, WaitsAt, IsWellFormed}
use Rattle.lrc_races_trace.proofs.Positions.{At-within}
use Rattle.lrc_races_trace.proofs.Lasts.{last_kept, last_back, last_here, last_is}
use Rattle.lrc_races_laws.specs.Traces.{Numbers, operation_of}
use Rattle.lrc_races_laws.proofs.Operations.{of_arrive, of_depart, of_fork, of_join, view, IsElse}
use Rattle.lrc_races_laws.proofs.Episodes.{IsRun, all_kept}
use Rattle.lrc_races_laws.proofs.Orders.{act_of_event}
use Rattle.lrc_races_laws.proofs.Holding.{Excludes, nothing_held, nothing_not_held}

event_within : (events : List Event) (k : ℕ) → k < length events → (a : Event) × At events k a
event_within [] k lt = absurd (omega arith)
event_within (e ∷ events) zero lt = (e, record { is = refl })
event_within (e ∷ events) (suc k) lt = let (a, at) = event_within events k (omega arith) in (a, record { is = at.is })

-- where the deeds exclude one another, and none forks or joins, what is left are barriers
pub formed : (numbers : Numbers) (D : ℕ → ℕ → Deed → Type 0) (events : List Event) → Excludes numbers D events
    → ((n x line : ℕ) (e : Event) → At events n e → Holds events n e (Waits x line) → ⊥)
    → ((n x : ℕ) (e : Event) → At events n e → Holds events n e (NotArrived x) → ⊥) → IsWellFormed events
formed numbers D events is waits arrived n e (Joined line) at (join, first, same) =
    let (p, d, does, thread, operation) = is.deed first.position join first.at in
    of_join numbers d e.thread (sym operation ∙ first.is)
formed numbers D events is waits arrived n e (Waits x line) at holds = waits n x line e at holds
formed numbers D events is waits arrived n e (NotArrived x) at holds = arrived n x e at holds
formed numbers D events is waits arrived n e (Held l t line) at holds =
    let within = At-within at in
    nothing_held numbers D events is n l t line e (λ k lt. event_within events k (omega arith)) at holds
formed numbers D events is waits arrived n e (NotHeld l) at holds =
    let within = At-within at in
    nothing_not_held numbers D events is n l e (λ k lt. event_within events k (omega arith)) at holds
formed numbers D events is waits arrived n e (Known u line) at (op, known) =
    let (p, d, does, thread, operation) = is.deed n e at in
    of_fork numbers d u (sym operation ∙ op)

module _ (numbers : Numbers) (nodes : ℕ) (acts : List Act) (events : List Event) (run : IsRun numbers nodes acts events) where
  excludes : Excludes numbers (λ k p d. Does acts k p d) events
  excludes = record {
    event = run.are.same;
    deed = λ k a at.
        let x = act_of_event numbers acts events run.are k a at in
        (x.node, x.deed, x.does, x.thread, x.operation);
    threads = run.are.threads;
    locks = run.are.locks;
    acquires = λ j p l does other had.
        run.synchronized.acquires j p l does other (record { since = had.since; earlier = had.earlier; acquired = had.acquired; kept = had.kept });
    releases = λ j p l does.
        let h = run.synchronized.releases j p l does in
        record { since = h.since; earlier = h.earlier; acquired = h.acquired; kept = h.kept };
  }

  -- an act that is no deed of the node at the barrier, as an event
  apart : (n q r : ℕ) (d : Deed) (a : Event) → Does acts n r d → a.thread ≡ numbers.thread r → a.operation ≡ operation_of numbers d
      → (i : ℕ) (e : Deed) → Does acts i q e → (q ≡ r → IsElse numbers d) → IsAtBarrier (numbers.thread q) numbers.barrier a → ⊥
  apart n q r d a does thread operation i e own else (of, at) =
      let same : q ≡ r = run.are.threads i n q r e d own does (sym of ∙ thread) in
      elim at [
        | inl arrives ↦
            let (is, number) = of_arrive numbers d numbers.barrier (sym operation ∙ arrives) in
            let no = (else same).no_arrive in
            let yes_here : is_arrive d ≡ true = ap is_arrive is in
            let never : ⊥ = cc in
            never
        | inr departs ↦
            let (is, number) = of_depart numbers d numbers.barrier (sym operation ∙ departs) in
            let no = (else same).no_depart in
            let yes_here : is_depart d ≡ true = ap is_depart is in
            let never : ⊥ = cc in
            never
      ]

  module _ (q i : ℕ) (own : Deed) (acts_here : Does acts i q own) (in_nodes : q < nodes) where
    kept_counts : (n r : ℕ) (d : Deed) → Does acts n r d → (q ≡ r → IsElse numbers d)
        → (arrives_before acts q (n + 1) ≡ arrives_before acts q n) × (departs_before acts q (n + 1) ≡ departs_before acts q n)
    kept_counts n r d does else = (
      count_of-same is_arrive acts q n r d does (λ e k. let no = (else (sym e)).no_arrive in let never : ⊥ = cc in never),
      count_of-same is_depart acts q n r d does (λ e k. let no = (else (sym e)).no_depart in let never : ⊥ = cc in never),
    )

    stays_more : (n : ℕ) (a : Event) → ((a : Event) → WaitsAt events n (numbers.thread q) numbers.barrier a → departs_before acts q n < arrives_before acts q n)
        → (r : ℕ) (d : Deed) → Does acts n r d → (b : Event) → At events n b
        → b.thread ≡ numbers.thread r → b.operation ≡ operation_of numbers d → (q ≡ r → IsElse numbers d)
        → WaitsAt events (n + 1) (numbers.thread q) numbers.barrier a → departs_before acts q (n + 1) < arrives_before acts q (n + 1)
    stays_more n a ih r d does b here thread operation else at =
        let back = last_back events n b here (IsAtBarrier (numbers.thread q) numbers.barrier) a
        (apart n q r d b does thread operation i own acts_here else) at.last in
        let less = ih a (record { last = back; arrives = at.arrives }) in
        let counts = kept_counts n r d does else in
        let one = counts.0 in
        let other = counts.1 in
        omega arith

    step_more : (n : ℕ) (a : Event) → n ≤ length acts
        → ((a : Event) → WaitsAt events n (numbers.thread q) numbers.barrier a → departs_before acts q n < arrives_before acts q n) → (r : ℕ) (d : Deed) → Does acts n r d → (b : Event) → At events n b
        → b.thread ≡ numbers.thread r → b.operation ≡ operation_of numbers d
        → WaitsAt events (n + 1) (numbers.thread q) numbers.barrier a → departs_before acts q (n + 1) < arrives_before acts q (n + 1)
    step_more n a le ih r d does b here thread operation at =
        elim (cases_eq q r) [
          | inr other ↦ stays_more n a ih r d does b here thread operation (λ e. absurd (other e)) at
          | inl same ↦
              elim (view numbers d) [
                | inr rest ↦ elim rest [
                  | inr else ↦ stays_more n a ih r d does b here thread operation (λ e. else) at
                  | inl departs ↦
                      let is : a ≡ b =
                      last_is events n b here (IsAtBarrier (numbers.thread q) numbers.barrier) a
                      (thread ∙ ap numbers.thread (sym same), inr (operation ∙ ap (operation_of numbers) departs)) at.last in
                      let arrives : b.operation ≡ Arrive numbers.barrier = subst (λ (e : Event). e.operation ≡ Arrive numbers.barrier) is at.arrives in
                      let op : b.operation ≡ Depart numbers.barrier = operation ∙ ap (operation_of numbers) departs in
                      let never : ⊥ = cc in
                      absurd never
                ]
                | inl arrives ↦
                    let here_q : Does acts n q Arriving = Does-node (sym same) (Does-deed arrives does) in
                    let more = count_of-more is_arrive acts q n Arriving here_q refl in
                    let stay = count_of-same is_depart acts q n q Arriving here_q (λ e k. let never : ⊥ = cc in never) in
                    let kept = all_kept numbers nodes acts events run n le in
                    let low = kept.low q in_nodes in
                    let gone = kept.gone q in
                    omega arith
              ]
        ]

    -- a thread that waits at the barrier has arrived more often than it has departed
    waits_more : (n : ℕ) (a : Event) → n ≤ length acts → WaitsAt events n (numbers.thread q) numbers.barrier a
        → departs_before acts q n < arrives_before acts q n
    waits_more zero a le at = let lt = at.last.before in absurd (omega arith)
    waits_more (suc n) a le at =
        let (act, does) = act_at acts n (omega arith) in
        let (b, here, thread, operation) = run.are.same n act.node act.deed does in
        let one : suc n ≡ n + 1 = omega arith in
        let at_next : WaitsAt events (n + 1) (numbers.thread q) numbers.barrier a = subst (λ m. WaitsAt events m (numbers.thread q) numbers.barrier a) one at in
        let result : departs_before acts q (n + 1) < arrives_before acts q (n + 1) =
        step_more n a (omega arith) (λ x waiting. waits_more n x (omega arith) waiting) act.node act.deed does b here thread operation at_next in
        subst (λ m. departs_before acts q m < arrives_before acts q m) (sym one) result

    stays_waiting : (n : ℕ) → (departs_before acts q n < arrives_before acts q n → (a : Event) × WaitsAt events n (numbers.thread q) numbers.barrier a)
        → (r : ℕ) (d : Deed) → Does acts n r d → (b : Event) → At events n b
        → b.thread ≡ numbers.thread r → b.operation ≡ operation_of numbers d → (q ≡ r → IsElse numbers d)
        → departs_before acts q (n + 1) < arrives_before acts q (n + 1) → (a : Event) × WaitsAt events (n + 1) (numbers.thread q) numbers.barrier a
    stays_waiting n ih r d does b here thread operation else less =
        let one = count_of-same is_arrive acts q n r d does (λ e k. let no = (else (sym e)).no_arrive in let never : ⊥ = cc in never) in
        let other = count_of-same is_depart acts q n r d does (λ e k. let no = (else (sym e)).no_depart in let never : ⊥ = cc in never) in
        let (a, at) = ih (omega arith) in (
          a,
          record {
            last = last_kept events n b here (IsAtBarrier (numbers.thread q) numbers.barrier) a
                (apart n q r d b does thread operation i own acts_here else) at.last;
            arrives = at.arrives;
          },
        )

    step_waiting : (n : ℕ) → n ≤ length acts → (departs_before acts q n < arrives_before acts q n → (a : Event) × WaitsAt events n (numbers.thread q) numbers.barrier a)
        → (r : ℕ) (d : Deed) → Does acts n r d → (b : Event) → At events n b
        → b.thread ≡ numbers.thread r → b.operation ≡ operation_of numbers d
        → departs_before acts q (n + 1) < arrives_before acts q (n + 1) → (a : Event) × WaitsAt events (n + 1) (numbers.thread q) numbers.barrier a
    step_waiting n le ih r d does b here thread operation less =
        elim (cases_eq q r) [
          | inr other ↦ stays_waiting n ih r d does b here thread operation (λ e. absurd (other e)) less
          | inl same ↦
              elim (view numbers d) [
                | inr rest ↦ elim rest [
                  | inr else ↦ stays_waiting n ih r d does b here thread operation (λ e. else) less
                  | inl departs ↦
                      let here_q : Does acts n q Departing = Does-node (sym same) (Does-deed departs does) in
                      let more = count_of-more is_depart acts q n Departing here_q refl in
                      let stay = count_of-same is_arrive acts q n q Departing here_q (λ e k. let never : ⊥ = cc in never) in
                      let kept = all_kept numbers nodes acts events run n le in
                      let once = kept.once q in
                      absurd (omega arith)
                ]
                | inl arrives ↦ (
                  b,
                  record {
                    last = last_here events n b here (IsAtBarrier (numbers.thread q) numbers.barrier)
                        (thread ∙ ap numbers.thread (sym same), inl (operation ∙ ap (operation_of numbers) arrives));
                    arrives = operation ∙ ap (operation_of numbers) arrives;
                  },
                )
              ]
        ]

    -- and one that has arrived more often waits
    more_waits : (n : ℕ) → n ≤ length acts → departs_before acts q n < arrives_before acts q n
        → (a : Event) × WaitsAt events n (numbers.thread q) numbers.barrier a
    more_waits zero le less = absurd (omega arith)
    more_waits (suc n) le less =
        let (act, does) = act_at acts n (omega arith) in
        let (b, here, thread, operation) = run.are.same n act.node act.deed does in
        let one : suc n ≡ n + 1 = omega arith in
        let less_next : departs_before acts q (n + 1) < arrives_before acts q (n + 1) = subst (λ m. departs_before acts q m < arrives_before acts q m) one less in
        let (a, at) = step_waiting n (omega arith) (λ more. more_waits n (omega arith) more) act.node act.deed does b here thread operation less_next in
        (a, subst (λ m. WaitsAt events m (numbers.thread q) numbers.barrier a) (sym one) at)

  no_wait : (n x line : ℕ) (e : Event) → At events n e → Holds events n e (Waits x line) → ⊥
  no_wait n x line e at (a, waits, is, stays) =
      let y = act_of_event numbers acts events run.are n e at in
      let z = act_of_event numbers acts events run.are waits.last.position a waits.last.at in
      let (arrives, number) = of_arrive numbers z.deed x (sym z.operation ∙ waits.arrives) in
      let within = Does-within y.does in
      let there : WaitsAt events n (numbers.thread y.node) numbers.barrier a =
      subst (λ t. WaitsAt events n t numbers.barrier a) y.thread (subst (λ w. WaitsAt events n e.thread w a) (sym number) waits) in
      let less = waits_more y.node n y.deed y.does (run.node n y.node y.deed y.does) n a (omega arith) there in
      let no_depart : is_depart y.deed ≡ false = elim (view numbers y.deed) [
        | inl arriving ↦ ap is_depart arriving
        | inr rest ↦ elim rest [
          | inl departing ↦ absurd (stays (y.operation ∙ ap (operation_of numbers) departing ∙ ap Depart number))
          | inr else ↦ else.no_depart
        ]
      ] in
      let le = run.waits.departed n y.node y.deed y.does no_depart in
      omega arith

  no_absence : (n x : ℕ) (e : Event) → At events n e → Holds events n e (NotArrived x) → ⊥
  no_absence n x e at (op, none) =
      let y = act_of_event numbers acts events run.are n e at in
      let (departs, number) = of_depart numbers y.deed x (sym y.operation ∙ op) in
      let does : Does acts n y.node Departing = Does-deed departs y.does in
      let within = Does-within does in
      let in_nodes = run.node n y.node y.deed y.does in
      let less = run.synchronized.departs n y.node does y.node in_nodes in
      let (a, waits) = more_waits y.node n y.deed y.does in_nodes n (omega arith) less in
      none a (subst (λ t. WaitsAt events n t x a) (sym y.thread) (subst (λ w. WaitsAt events n (numbers.thread y.node) w a) number waits))

  pub acts_formed : IsWellFormed events
  acts_formed = formed numbers (λ k p d. Does acts k p d) events excludes no_wait no_absence
