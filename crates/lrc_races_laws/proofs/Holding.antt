-- Locks of a trace whose deeds exclude one another: nobody acquires a lock that is held, and who releases one holds it.
use Rattle.std.proofs.Common.{◌≡◌, ℕ, zero, suc, ◌+◌, ◌-◌, ◌<◌, ◌⊎◌, List, inl, inr, refl, sym, subst, ap, ◌∙◌, arith, eq-eqb}
use Rattle.std.specs.Prelude.{Option, Some, None, cond, ◌==◌}
use Rattle.std.proofs.lemmas.Bool.{cases_eq}
use Rattle.lrc_trace.specs.declared.act.Deed.{Deed}
use Rattle.lrc_trace.specs.declared.act.Deed.TheVariants.{Acquire as Acquiring, Release as Releasing}
use Rattle.lrc_races_trace.specs.declared.event.Event.{Event}
use Rattle.lrc_races_trace.specs.declared.event.Operation.{Operation}
use Rattle.lrc_races_trace.specs.declared.event.Operation.TheVariants.{Read, Write, Acquire, Release, Post, Wait, Fork, Join, Arrive, Depart, Idle}
use Rattle.lrc_races_trace.specs.declared.fault.Holder.{Holder}
use Rattle.lrc_races_trace.specs.declared.fault.Reason.TheVariants.{Held, NotHeld}
use Rattle.lrc_races_trace.specs.Trace.{At}
use Rattle.lrc_races_trace.specs.Formed.{Holds, IsHeldBy, holder_before, held_after_operation, after_acquire, after_release}
use Rattle.lrc_races_trace.proofs.Positions.{At-one}
use Rattle.lrc_races_trace.proofs.Holders.{holder_before-none, holder_before-next}
use Rattle.lrc_races_laws.specs.Traces.{Numbers, Locks, operation_of}
use Rattle.lrc_races_laws.proofs.Operations.{of_acquire, of_release}
use Rattle.lrc_races_laws.proofs.Episodes.{not-eqb}

-- before n the node acquired the lock, and has not released it since
pub record Had (D : ℕ → ℕ → Deed → Type 0) (n p l : ℕ) : Type 0 where
  pub since : ℕ
  pub earlier : since < n
  pub acquired : D since p (Acquiring l)
  pub kept : (m : ℕ) → since < m → m < n → D m p (Releasing l) → ⊥

-- Events stand for deeds that exclude one another.
pub record Excludes (numbers : Numbers) (D : ℕ → ℕ → Deed → Type 0) (events : List Event) : Type 0 where
  pub event : (k p : ℕ) (d : Deed) → D k p d → (a : Event) × At events k a × (a.thread ≡ numbers.thread p) × (a.operation ≡ operation_of numbers d)
  pub deed : (k : ℕ) (a : Event) → At events k a
      → (p : ℕ) × (d : Deed) × D k p d × (a.thread ≡ numbers.thread p) × (a.operation ≡ operation_of numbers d)
  pub threads : (i j p q : ℕ) (a b : Deed) → D i p a → D j q b → numbers.thread p ≡ numbers.thread q → p ≡ q
  pub locks : (i j p q l m : ℕ) (a b : Deed) → D i p a → D j q b → Locks a l → Locks b m → numbers.lock l ≡ numbers.lock m → l ≡ m
  pub acquires : (j p l : ℕ) → D j p (Acquiring l) → (other : ℕ) → Had D j other l → ⊥
  pub releases : (j p l : ℕ) → D j p (Releasing l) → Had D j p l

-- an operation acquires the lock, releases it, or leaves its holder
pub record Leaves (l : ℕ) (o : Operation) : Type 0 where
  pub no_acquire : o ≡ Acquire l → ⊥
  pub no_release : o ≡ Release l → ⊥
  pub stays : (e : Event) (x : Option Holder) → held_after_operation l e o x ≡ x

leaves_other : (l : ℕ) (o : Operation) → (o ≡ Acquire l → ⊥) → (o ≡ Release l → ⊥) → ((e : Event) (x : Option Holder) → held_after_operation l e o x ≡ x) → Leaves l o
leaves_other l o f g h = record { no_acquire = f; no_release = g; stays = h }

changes : (l : ℕ) (o : Operation) → (o ≡ Acquire l) ⊎ ((o ≡ Release l) ⊎ Leaves l o)
changes l (Acquire m) =
    elim (cases_eq m l) [
      | inl same ↦ inl (ap Acquire same)
      | inr other ↦ inr (inr (leaves_other l (Acquire m) (λ e. let same : m ≡ l = cc in other same) (λ e. let never : ⊥ = cc in never)
          (λ e x. ap (λ b. cond b (after_acquire e x) x) (not-eqb m l other))))
    ]
changes l (Release m) =
    elim (cases_eq m l) [
      | inl same ↦ inr (inl (ap Release same))
      | inr other ↦ inr (inr (leaves_other l (Release m) (λ e. let never : ⊥ = cc in never) (λ e. let same : m ≡ l = cc in other same)
          (λ e x. ap (λ b. cond b (after_release e x) x) (not-eqb m l other))))
    ]
changes l (Read v) = inr (inr (leaves_other l (Read v) (λ e. let never : ⊥ = cc in never) (λ e. let never : ⊥ = cc in never) (λ e x. refl)))
changes l (Write v) = inr (inr (leaves_other l (Write v) (λ e. let never : ⊥ = cc in never) (λ e. let never : ⊥ = cc in never) (λ e x. refl)))
changes l (Post v) = inr (inr (leaves_other l (Post v) (λ e. let never : ⊥ = cc in never) (λ e. let never : ⊥ = cc in never) (λ e x. refl)))
changes l (Wait v) = inr (inr (leaves_other l (Wait v) (λ e. let never : ⊥ = cc in never) (λ e. let never : ⊥ = cc in never) (λ e x. refl)))
changes l (Fork v) = inr (inr (leaves_other l (Fork v) (λ e. let never : ⊥ = cc in never) (λ e. let never : ⊥ = cc in never) (λ e x. refl)))
changes l (Join v) = inr (inr (leaves_other l (Join v) (λ e. let never : ⊥ = cc in never) (λ e. let never : ⊥ = cc in never) (λ e x. refl)))
changes l (Arrive v) = inr (inr (leaves_other l (Arrive v) (λ e. let never : ⊥ = cc in never) (λ e. let never : ⊥ = cc in never) (λ e x. refl)))
changes l (Depart v) = inr (inr (leaves_other l (Depart v) (λ e. let never : ⊥ = cc in never) (λ e. let never : ⊥ = cc in never) (λ e x. refl)))
changes l Idle = inr (inr (leaves_other l Idle (λ e. let never : ⊥ = cc in never) (λ e. let never : ⊥ = cc in never) (λ e x. refl)))

-- before n an event of the thread acquired the lock, and none has released it since
record HadIn (events : List Event) (n t l : ℕ) : Type 0 where
  since : ℕ
  event : Event
  earlier : since < n
  at : At events since event
  thread : event.thread ≡ t
  acquired : event.operation ≡ Acquire l
  kept : (m : ℕ) (a : Event) → since < m → m < n → At events m a → a.thread ≡ t → a.operation ≡ Release l → ⊥

abbrev IsHolder : List Event → ℕ → ℕ → Option Holder → Type 0
IsHolder events n l (Some h) = HadIn events n h.thread l × (h.depth ≡ 1) × ((t : ℕ) → HadIn events n t l → t ≡ h.thread)
IsHolder events n l None = (t : ℕ) → HadIn events n t l → ⊥

module _ (events : List Event) (acq : (j l : ℕ) (a : Event) → At events j a → a.operation ≡ Acquire l → (t : ℕ) → HadIn events j t l → ⊥)
    (rel : (j l : ℕ) (a : Event) → At events j a → a.operation ≡ Release l → HadIn events j a.thread l) where
  module _ (n l : ℕ) (e : Event) (here : At events n e) where
    -- what was had before the event
    before : (t : ℕ) → HadIn events (n + 1) t l → (e.operation ≡ Acquire l → ⊥) → HadIn events n t l
    before t h none =
        let lt = h.earlier in
        elim (cases_eq h.since n) [
          | inl same ↦
              let is : h.event ≡ e = At-one (subst (λ m. At events m h.event) same h.at) here in
              absurd (none (subst (λ (x : Event). x.operation ≡ Acquire l) is h.acquired))
          | inr other ↦ record {
            since = h.since;
            event = h.event;
            earlier = omega arith;
            at = h.at;
            thread = h.thread;
            acquired = h.acquired;
            kept = λ m a after lt' at of r. h.kept m a after (omega arith) at of r;
          }
        ]

    further : (t : ℕ) → HadIn events n t l → (e.operation ≡ Release l → ⊥) → HadIn events (n + 1) t l
    further t h none =
        let lt = h.earlier in
        record {
          since = h.since;
          event = h.event;
          earlier = omega arith;
          at = h.at;
          thread = h.thread;
          acquired = h.acquired;
          kept = λ m a after lt' at of r.
              elim (cases_eq m n) [
                | inl same ↦
                    let is : a ≡ e = At-one (subst (λ k. At events k a) same at) here in
                    none (subst (λ (x : Event). x.operation ≡ Release l) is r)
                | inr other ↦ h.kept m a after (omega arith) at of r
              ];
        }

    stays : Leaves l e.operation → (o : Option Holder) → IsHolder events n l o → IsHolder events (n + 1) l o
    stays leaves (Some h) (has, depth, only) = (further h.thread has leaves.no_release, depth, λ t had. only t (before t had leaves.no_acquire))
    stays leaves None none = λ t had. none t (before t had leaves.no_acquire)

    takes : e.operation ≡ Acquire l → (o : Option Holder) → IsHolder events n l o
        → IsHolder events (n + 1) l (held_after_operation l e (Acquire l) o)
    takes op (Some h) (has, depth, only) = absurd (acq n l e here op h.thread has)
    takes op None none =
        let now : Some (record { thread = e.thread; depth = 1; line = e.line }) ≡ held_after_operation l e (Acquire l) None =
        ap (λ b. cond b (after_acquire e None) None) (sym (eq-eqb l l refl)) in
        subst (IsHolder events (n + 1) l) now (
          record {
            since = n;
            event = e;
            earlier = omega arith;
            at = here;
            thread = refl;
            acquired = op;
            kept = λ m a after lt at of r. omega arith;
          },
          refl,
          λ t had.
              let lt = had.earlier in
              elim (cases_eq had.since n) [
                | inl same ↦
                    let is : had.event ≡ e = At-one (subst (λ m. At events m had.event) same had.at) here in
                    sym had.thread ∙ ap (λ (x : Event). x.thread) is
                | inr other ↦ absurd (none t (record {
                  since = had.since;
                  event = had.event;
                  earlier = omega arith;
                  at = had.at;
                  thread = had.thread;
                  acquired = had.acquired;
                  kept = λ m a after lt' at of r. had.kept m a after (omega arith) at of r;
                }))
              ],
        )

    gives : e.operation ≡ Release l → (o : Option Holder) → IsHolder events n l o
        → IsHolder events (n + 1) l (held_after_operation l e (Release l) o)
    gives op None none = absurd (none e.thread (rel n l e here op))
    gives op (Some h) (has, depth, only) =
        let own : e.thread ≡ h.thread = only e.thread (rel n l e here op) in
        let now : None ≡ held_after_operation l e (Release l) (Some h) =
        sym (ap (λ b. cond b (after_release e (Some h)) (Some h)) (eq-eqb l l refl)
        ∙ ap (λ b. cond b (cond (h.depth == 1) None (Some (record h { depth = h.depth - 1 }))) (Some h)) (eq-eqb h.thread e.thread (sym own))
        ∙ ap (λ b. cond b None (Some (record h { depth = h.depth - 1 }))) (eq-eqb h.depth 1 depth)) in
        subst (IsHolder events (n + 1) l) now (λ t had.
        let old = before t had (λ acquires. let never : ⊥ = cc in never) in
        let lt = old.earlier in
        let before_n = had.earlier in
        had.kept n e (since_below t had) (omega arith) here (own ∙ sym (only t old)) op)
      where
        since_below : (t : ℕ) (had : HadIn events (n + 1) t l) → had.since < n
        since_below t had =
            let lt = had.earlier in
            elim (cases_eq had.since n) [
              | inl same ↦
                  let is : had.event ≡ e = At-one (subst (λ m. At events m had.event) same had.at) here in
                  let acquires : e.operation ≡ Acquire l = subst (λ (x : Event). x.operation ≡ Acquire l) is had.acquired in
                  let never : ⊥ = cc in
                  absurd never
              | inr other ↦ omega arith
            ]

    next : IsHolder events n l (holder_before events l n) → IsHolder events (n + 1) l (holder_before events l (n + 1))
    next old =
        let step : held_after_operation l e e.operation (holder_before events l n) ≡ holder_before events l (n + 1) = sym (holder_before-next events l n e here) in
        elim (changes l e.operation) [
          | inl op ↦
              subst (IsHolder events (n + 1) l) (ap (λ o. held_after_operation l e o (holder_before events l n)) (sym op) ∙ step)
              (takes op (holder_before events l n) old)
          | inr rest ↦ elim rest [
            | inl op ↦
                subst (IsHolder events (n + 1) l) (ap (λ o. held_after_operation l e o (holder_before events l n)) (sym op) ∙ step)
                (gives op (holder_before events l n) old)
            | inr leaves ↦
                subst (IsHolder events (n + 1) l) (sym (leaves.stays e (holder_before events l n)) ∙ step) (stays leaves (holder_before events l n) old)
          ]
        ]

  all : (l n : ℕ) → ((k : ℕ) → k < n → (a : Event) × At events k a) → IsHolder events n l (holder_before events l n)
  all l zero here = subst (IsHolder events 0 l) (sym (holder_before-none events l)) (λ t had. let lt = had.earlier in omega arith)
  all l (suc n) here =
      let (e, at) = here n (omega arith) in
      let one : n + 1 ≡ suc n = omega arith in
      subst (λ m. IsHolder events m l (holder_before events l m)) one (next n l e at (all l n (λ k lt. here k (omega arith))))

  no_held : (n l t line : ℕ) (e : Event) → ((k : ℕ) → k < n → (a : Event) × At events k a) → At events n e → Holds events n e (Held l t line) → ⊥
  no_held n l t line e earlier here (op, apart, (h, is, of, on)) =
      let holder : IsHolder events n l (Some h) = subst (IsHolder events n l) is (all l n earlier) in
      acq n l e here op h.thread holder.0

  no_not_held : (n l : ℕ) (e : Event) → ((k : ℕ) → k < n → (a : Event) × At events k a) → At events n e → Holds events n e (NotHeld l) → ⊥
  no_not_held n l e earlier here (op, none) = none (held (holder_before events l n) (all l n earlier))
    where
      held : (o : Option Holder) → IsHolder events n l o → IsHeldBy o e.thread
      held None absent = absent e.thread (rel n l e here op)
      held (Some h) (has, depth, only) = sym (only e.thread (rel n l e here op))

module _ (numbers : Numbers) (D : ℕ → ℕ → Deed → Type 0) (events : List Event) (is : Excludes numbers D events) where
  acquires : (j l : ℕ) (a : Event) → At events j a → a.operation ≡ Acquire l → (t : ℕ) → HadIn events j t l → ⊥
  acquires j l a at op t had =
      let (p, d, does, thread, operation) = is.deed j a at in
      let (m, acquiring, number) = of_acquire numbers d l (sym operation ∙ op) in
      let here : D j p (Acquiring m) = subst (D j p) acquiring does in
      let (q, e, did, thread', operation') = is.deed had.since had.event had.at in
      let (k, acquiring', number') = of_acquire numbers e l (sym operation' ∙ had.acquired) in
      let there : D had.since q (Acquiring k) = subst (D had.since q) acquiring' did in
      let same : k ≡ m = is.locks had.since j q p k m (Acquiring k) (Acquiring m) there here refl refl (number' ∙ sym number) in
      is.acquires j p m here q (record {
        since = had.since;
        earlier = had.earlier;
        acquired = subst (λ x. D had.since q (Acquiring x)) same there;
        kept = λ i after lt released.
            let (b, at_i, of, r) = is.event i q (Releasing m) released in
            had.kept i b after lt at_i (of ∙ sym thread' ∙ had.thread) (r ∙ ap Release number);
      })

  releases : (j l : ℕ) (a : Event) → At events j a → a.operation ≡ Release l → HadIn events j a.thread l
  releases j l a at op =
      let (p, d, does, thread, operation) = is.deed j a at in
      let (m, releasing, number) = of_release numbers d l (sym operation ∙ op) in
      let here : D j p (Releasing m) = subst (D j p) releasing does in
      let had = is.releases j p m here in
      let (b, at_b, of, acquired) = is.event had.since p (Acquiring m) had.acquired in
      record {
        since = had.since;
        event = b;
        earlier = had.earlier;
        at = at_b;
        thread = of ∙ sym thread;
        acquired = acquired ∙ ap Acquire number;
        kept = λ i c after lt at_c of_c r.
            let (q, e, did, thread', operation') = is.deed i c at_c in
            let (k, releasing', number') = of_release numbers e l (sym operation' ∙ r) in
            let there : D i q (Releasing k) = subst (D i q) releasing' did in
            let same : k ≡ m = is.locks i j q p k m (Releasing k) (Releasing m) there here refl refl (number' ∙ sym number) in
            let node : q ≡ p = is.threads i j q p (Releasing k) (Releasing m) there here (sym thread' ∙ of_c ∙ thread) in
            had.kept i after lt (subst (λ x. D i x (Releasing m)) node (subst (λ x. D i q (Releasing x)) same there));
      }

  pub nothing_held : (n l t line : ℕ) (e : Event) → ((k : ℕ) → k < n → (a : Event) × At events k a) → At events n e → Holds events n e (Held l t line) → ⊥
  nothing_held = no_held events acquires releases

  pub nothing_not_held : (n l : ℕ) (e : Event) → ((k : ℕ) → k < n → (a : Event) × At events k a) → At events n e → Holds events n e (NotHeld l) → ⊥
  nothing_not_held = no_not_held events acquires releases
