-- In a well formed trace, of two events that acquire or release a lock the earlier happens before the later.
use Rattle.std.proofs.Common.{◌≡◌, ◌≢◌, ℕ, zero, suc, ◌+◌, ◌-◌, ◌<◌, ◌≤◌, ◌⊎◌, List, length, get_or, inl, inr, refl, sym, subst, ◌∙◌, ap, arith}
use Rattle.std.specs.Prelude.{Option, Some, None, true, false, ◌==◌, cond}
use Rattle.std.proofs.lemmas.Bool.{cases_eq, ne_eqb}
use Rattle.std.proofs.lemmas.Option.{slice_get-get_or}
use Rattle.lrc_races_trace.specs.declared.event.Event.{Event}
use Rattle.lrc_races_trace.specs.declared.event.Operation.{Operation}
use Rattle.lrc_races_trace.specs.declared.event.Operation.TheVariants.{Read, Write, Acquire, Release, Post, Wait, Fork, Join, Arrive, Depart, Idle}
use Rattle.lrc_races_trace.specs.declared.fault.Holder.{Holder}
use Rattle.lrc_races_trace.specs.declared.fault.Reason.TheVariants.{Held, NotHeld}
use Rattle.lrc_races_trace.specs.Trace.{At, given, got}
use Rattle.lrc_races_trace.specs.Order.{HappensBefore, base, further, program, lock}
use Rattle.lrc_races_trace.specs.Formed.{holder_before, after_acquire, after_release, held_after_operation, IsHeldBy, IsWellFormed}
use Rattle.lrc_races_trace.proofs.Positions.{At-one, At-within}
use Rattle.lrc_races_trace.proofs.HappensBefore.{transitive}
use Rattle.lrc_races_trace.proofs.Holders.{holder_before-next}
use Rattle.lrc_races_sure.proofs.Deciding.{Decided, decided_both, same_operation}

-- the operation acquires or releases the lock
abbrev pub Touches : ℕ → Operation → Type 0
Touches l o = (o ≡ Acquire l) ⊎ (o ≡ Release l)

-- ---- what an operation makes of a holder

pub held-untouched : (l : ℕ) (e : Event) (o : Operation) (h : Option Holder) → (Touches l o → ⊥) → held_after_operation l e o h ≡ h
held-untouched l e (Acquire m) h none =
    elim (cases_eq m l) [
      | inl same ↦ absurd (none (inl (ap Acquire same)))
      | inr other ↦ grind (arith, other)
    ]
held-untouched l e (Release m) h none =
    elim (cases_eq m l) [
      | inl same ↦ absurd (none (inr (ap Release same)))
      | inr other ↦ grind (arith, other)
    ]
held-untouched l e (Read v) h none = refl
held-untouched l e (Write v) h none = refl
held-untouched l e (Post v) h none = refl
held-untouched l e (Wait v) h none = refl
held-untouched l e (Fork v) h none = refl
held-untouched l e (Join v) h none = refl
held-untouched l e (Arrive v) h none = refl
held-untouched l e (Depart v) h none = refl
held-untouched l e Idle h none = refl

held-acquired : (l : ℕ) (e : Event) (h : Option Holder) → held_after_operation l e (Acquire l) h ≡ after_acquire e h
held-acquired l e h = grind arith

held-released : (l : ℕ) (e : Event) (h : Option Holder) → held_after_operation l e (Release l) h ≡ after_release e h
held-released l e h = grind arith

acquire_keeps : (e : Event) (x : Holder) (u : ℕ) → x.thread ≡ u → IsHeldBy (after_acquire e (Some x)) u
acquire_keeps e x u is = elim (x.thread == e.thread) as (λ b. (cond b (record x { depth = x.depth + 1 }) x).thread ≡ u) [ true ↦ is | false ↦ is ]

acquire_kept : (e : Event) (x : Holder) (u : ℕ) → IsHeldBy (after_acquire e (Some x)) u → x.thread ≡ u
acquire_kept e x u =
    elim (x.thread == e.thread) as (λ b. (cond b (record x { depth = x.depth + 1 }) x).thread ≡ u → x.thread ≡ u) [ true ↦ λ is. is | false ↦ λ is. is ]

release_other : (e : Event) (x : Holder) → x.thread ≢ e.thread → after_release e (Some x) ≡ Some x
release_other e x apart = let test : (x.thread == e.thread) ≡ false = ne_eqb x.thread e.thread apart in rw test refl

release_kept : (e : Event) (x : Holder) (u : ℕ) → IsHeldBy (after_release e (Some x)) u → x.thread ≡ u
release_kept e x u =
    elim (x.thread == e.thread) as (λ b. IsHeldBy (cond b (cond (x.depth == 1) None (Some (record x { depth = x.depth - 1 }))) (Some x)) u → x.thread ≡ u) [
      | true ↦
          elim (x.depth == 1) as (λ b. IsHeldBy (cond b None (Some (record x { depth = x.depth - 1 }))) u → x.thread ≡ u) [
            | true ↦ λ is. absurd is
            | false ↦ λ is. is
          ]
      | false ↦ λ is. is
    ]

pub one_holder : (h : Option Holder) (u t : ℕ) → IsHeldBy h u → IsHeldBy h t → u ≡ t
one_holder (Some x) u t a b = sym a ∙ b
one_holder None u t a b = absurd a

the_holder : (h : Option Holder) (u : ℕ) → IsHeldBy h u → (x : Holder) × (h ≡ Some x) × (x.thread ≡ u)
the_holder (Some x) u is = (x, refl, is)
the_holder None u is = absurd is

decide_held : (h : Option Holder) (u : ℕ) → Decided (IsHeldBy h u)
decide_held (Some x) u = cases_eq x.thread u
decide_held None u = inr (λ is. is)

-- a holder stays who does not release the lock
keeps : (l : ℕ) (e : Event) (h : Option Holder) (u : ℕ) → IsHeldBy h u → ((e.operation ≡ Release l) × (e.thread ≡ u) → ⊥)
    → IsHeldBy (held_after_operation l e e.operation h) u
keeps l e h u is none =
    elim (same_operation e.operation (Acquire l)) [
      | inl acquires ↦
          subst (λ o. IsHeldBy (held_after_operation l e o h) u) (sym acquires)
          (subst (λ x. IsHeldBy x u) (sym (held-acquired l e h)) (acquired h is))
      | inr denied ↦
          elim (same_operation e.operation (Release l)) [
            | inl releases ↦
                subst (λ o. IsHeldBy (held_after_operation l e o h) u) (sym releases)
                (subst (λ x. IsHeldBy x u) (sym (held-released l e h)) (released releases h is))
            | inr neither ↦
                subst (λ x. IsHeldBy x u) (sym (held-untouched l e e.operation h (λ t. elim t [ inl a ↦ denied a | inr r ↦ neither r ]))) is
          ]
    ]
  where
    acquired : (g : Option Holder) → IsHeldBy g u → IsHeldBy (after_acquire e g) u
    acquired (Some x) of = acquire_keeps e x u of
    acquired None of = absurd of

    released : e.operation ≡ Release l → (g : Option Holder) → IsHeldBy g u → IsHeldBy (after_release e g) u
    released op (Some x) of = subst (λ y. IsHeldBy y u) (sym (release_other e x (λ same. none (op, sym same ∙ of)))) of
    released op None of = absurd of

-- a holder was one before, unless it acquires the lock
was_held : (l : ℕ) (e : Event) (h : Option Holder) (u : ℕ) → IsHeldBy (held_after_operation l e e.operation h) u
    → ((e.operation ≡ Acquire l) × (e.thread ≡ u) → ⊥) → IsHeldBy h u
was_held l e h u is none =
    elim (same_operation e.operation (Acquire l)) [
      | inl acquires ↦
          acquired acquires h (subst (λ x. IsHeldBy x u) (held-acquired l e h) (subst (λ o. IsHeldBy (held_after_operation l e o h) u) acquires is))
      | inr denied ↦
          elim (same_operation e.operation (Release l)) [
            | inl releases ↦
                released h (subst (λ x. IsHeldBy x u) (held-released l e h) (subst (λ o. IsHeldBy (held_after_operation l e o h) u) releases is))
            | inr neither ↦
                subst (λ x. IsHeldBy x u) (held-untouched l e e.operation h (λ t. elim t [ inl a ↦ denied a | inr r ↦ neither r ])) is
          ]
    ]
  where
    acquired : e.operation ≡ Acquire l → (g : Option Holder) → IsHeldBy (after_acquire e g) u → IsHeldBy g u
    acquired op (Some x) of = acquire_kept e x u of
    acquired op None of = absurd (none (op, of))

    released : (g : Option Holder) → IsHeldBy (after_release e g) u → IsHeldBy g u
    released (Some x) of = release_kept e x u of
    released None of = absurd of

module _ (events : List Event) (formed : IsWellFormed events) (l : ℕ) where
  held_next : (n : ℕ) (e : Event) (u : ℕ) → At events n e → IsHeldBy (held_after_operation l e e.operation (holder_before events l n)) u
      → IsHeldBy (holder_before events l (suc n)) u
  held_next n e u at is =
      let same : n + 1 ≡ suc n = omega arith in
      subst (λ m. IsHeldBy (holder_before events l m) u) same (subst (λ x. IsHeldBy x u) (sym (holder_before-next events l n e at)) is)

  held_last : (n : ℕ) (e : Event) (u : ℕ) → At events n e → IsHeldBy (holder_before events l (suc n)) u
      → IsHeldBy (held_after_operation l e e.operation (holder_before events l n)) u
  held_last n e u at is =
      let same : suc n ≡ n + 1 = omega arith in
      subst (λ x. IsHeldBy x u) (holder_before-next events l n e at) (subst (λ m. IsHeldBy (holder_before events l m) u) same is)

  at_within : (d : Event) (n : ℕ) → n < length events → At events n (get_or events n d)
  at_within d n lt = record { is = slice_get-get_or events n d lt }

  -- the thread that acquires a lock holds it then
  acquires : (p : ℕ) (a : Event) → At events p a → a.operation ≡ Acquire l → IsHeldBy (holder_before events l (suc p)) a.thread
  acquires p a at op =
      held_next p a a.thread at (subst (λ o. IsHeldBy (held_after_operation l a o (holder_before events l p)) a.thread) (sym op)
      (subst (λ x. IsHeldBy x a.thread) (sym (held-acquired l a (holder_before events l p))) (of (holder_before events l p) refl)))
    where
      of : (h : Option Holder) → holder_before events l p ≡ h → IsHeldBy (after_acquire a h) a.thread
      of None e = refl
      of (Some x) e =
          elim (cases_eq x.thread a.thread) [
            | inl same ↦ acquire_keeps a x a.thread same
            | inr other ↦ absurd (formed p a (Held l x.thread x.line) at (op, other, (x, e, refl, refl)))
          ]

  -- until it releases it
  record Releases (p n u : ℕ) : Type 0 where
    place : ℕ
    event : Event
    above : p < place
    below : place < n
    at : At events place event
    of : event.thread ≡ u
    operation : event.operation ≡ Release l

  holds : (p : ℕ) (a : Event) → At events p a → a.operation ≡ Acquire l → (n : ℕ) → p < n → n ≤ length events
      → Releases p n a.thread ⊎ IsHeldBy (holder_before events l n) a.thread
  holds p a at op zero lt le = absurd (omega arith)
  holds p a at op (suc n) lt le =
      elim (cases_eq p n) [
        | inl same ↦ inr (subst (λ m. IsHeldBy (holder_before events l (suc m)) a.thread) same (acquires p a at op))
        | inr other ↦
            let there = at_within a n (omega arith) in
            let e : Event = get_or events n a in
            elim (holds p a at op n (omega arith) (omega arith)) [
              | inl r ↦ let below' = r.below in inl (record {
                place = r.place;
                event = r.event;
                above = r.above;
                below = omega arith;
                at = r.at;
                of = r.of;
                operation = r.operation;
              })
              | inr is ↦
                  elim (decided_both (same_operation e.operation (Release l)) (cases_eq e.thread a.thread)) [
                    | inl (releases, same) ↦ inl (record {
                      place = n;
                      event = e;
                      above = omega arith;
                      below = omega arith;
                      at = there;
                      of = same;
                      operation = releases;
                    })
                    | inr none ↦ inr (held_next n e a.thread there (keeps l e (holder_before events l n) a.thread is none))
                  ]
            ]
      ]

  -- who holds a lock that another held has acquired it
  record Acquires (r n u : ℕ) : Type 0 where
    place : ℕ
    event : Event
    above : r ≤ place
    below : place < n
    at : At events place event
    of : event.thread ≡ u
    operation : event.operation ≡ Acquire l

  taken : (d : Event) (r u t : ℕ) → u ≢ t → IsHeldBy (holder_before events l r) u → (n : ℕ) → r ≤ n → n ≤ length events
      → IsHeldBy (holder_before events l n) t → Acquires r n t
  taken d r u t apart was zero le within is =
      let same : r ≡ zero = omega arith in
      absurd (apart (one_holder (holder_before events l zero) u t (subst (λ m. IsHeldBy (holder_before events l m) u) same was) is))
  taken d r u t apart was (suc n) le within is =
      elim (cases_eq r (suc n)) [
        | inl same ↦ absurd (apart (one_holder (holder_before events l (suc n)) u t (subst (λ m. IsHeldBy (holder_before events l m) u) same was) is))
        | inr other ↦
            let there = at_within d n (omega arith) in
            let e : Event = get_or events n d in
            elim (decided_both (same_operation e.operation (Acquire l)) (cases_eq e.thread t)) [
              | inl (acquires', same) ↦ record {
                place = n;
                event = e;
                above = omega arith;
                below = omega arith;
                at = there;
                of = same;
                operation = acquires';
              }
              | inr none ↦
                  let before = taken d r u t apart was n (omega arith) (omega arith)
                  (was_held l e (holder_before events l n) t (held_last n e t there is) none) in
                  let below' = before.below in
                  record {
                    place = before.place;
                    event = before.event;
                    above = before.above;
                    below = omega arith;
                    at = before.at;
                    of = before.of;
                    operation = before.operation;
                  }
            ]
      ]

  -- who releases a lock holds it
  released_held : (p : ℕ) (a : Event) → At events p a → a.operation ≡ Release l → IsHeldBy (holder_before events l p) a.thread
  released_held p a at op =
      elim (decide_held (holder_before events l p) a.thread) [
        | inl is ↦ is
        | inr denied ↦ absurd (formed p a (NotHeld l) at (op, denied))
      ]

  released_before : (p q : ℕ) (a b : Event) → At events p a → At events q b → a.operation ≡ Release l → Touches l b.operation → p < q
      → a.thread ≢ b.thread → HappensBefore events p q
  released_before p q a b at there op (inl acquires') lt apart = base (lock lt at there (ap given op) (ap got acquires'))
  released_before p q a b at there op (inr releases) lt apart =
      let inside = At-within there in
      let s = taken a p a.thread b.thread apart (released_held p a at op) q (omega arith) (omega arith) (released_held q b there releases) in
      let above' = s.above in
      elim (cases_eq p s.place) [
        | inl same ↦ absurd (apart (ap (λ (x : Event). x.thread) (At-one (subst (λ m. At events m a) same at) s.at) ∙ s.of))
        | inr other ↦ further (base (lock (omega arith) at s.at (ap given op) (ap got s.operation))) (program s.below s.at there s.of)
      ]

  pub touched_before : (p q : ℕ) (a b : Event) → At events p a → At events q b → Touches l a.operation → Touches l b.operation → p < q
      → HappensBefore events p q
  touched_before p q a b at there touches touches' lt =
      elim (cases_eq a.thread b.thread) [
        | inl same ↦ base (program lt at there same)
        | inr apart ↦
            elim touches [
              | inr releases ↦ released_before p q a b at there releases touches' lt apart
              | inl acquires' ↦
                  let inside = At-within there in
                  elim (holds p a at acquires' q lt (omega arith)) [
                    | inl r ↦
                        transitive (base (program r.above at r.at (sym r.of)))
                        (released_before r.place q r.event b r.at there r.operation touches' r.below (λ e. apart (sym r.of ∙ e)))
                    | inr held ↦
                        elim touches' [
                          | inl acquires'' ↦
                              let (x, is, of) = the_holder (holder_before events l q) a.thread held in
                              absurd (formed q b (Held l x.thread x.line) there (acquires'', λ e. apart (sym of ∙ e), (x, is, refl, refl)))
                          | inr releases ↦
                              absurd (formed q b (NotHeld l) there (
                                releases,
                                λ own. apart (one_holder (holder_before events l q) a.thread b.thread held own),
                              ))
                        ]
                  ]
            ]
      ]
