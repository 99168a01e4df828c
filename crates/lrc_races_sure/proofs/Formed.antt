-- The reordering of a well formed trace is well formed.
use Rattle.std.proofs.Common.{◌≡◌, ℕ, zero, suc, ◌+◌, ◌<◌, ◌≤◌, List, length, get_or, inl, inr, refl, sym, subst, ◌∙◌, ap, arith}
use Rattle.std.proofs.lemmas.Bool.{cases_eq, cases_lt}
use Rattle.std.proofs.lemmas.Option.{slice_get-get_or}
use Rattle.lrc_races_trace.specs.declared.event.Event.{Event}
use Rattle.lrc_races_trace.specs.declared.event.Operation.{Operation}
use Rattle.lrc_races_trace.specs.declared.event.Operation.TheVariants.{Read, Write, Acquire, Release, Fork, Join}
use Rattle.lrc_races_trace.specs.declared.fault.Reason.{Reason}
use Rattle.lrc_races_trace.specs.declared.fault.Reason.TheVariants.{Joined, Waits, NotArrived, Held, NotHeld, Known}
use Rattle.lrc_races_trace.specs.Trace.{At, Accesses}
use Rattle.lrc_races_trace.specs.Order.{base, program, join}
use Rattle.lrc_races_trace.specs.Formed.{IsFirstBefore, IsLastBefore, IsAtBarrier, holder_before, held_after_operation}
use Rattle.lrc_races_trace.specs.Formed.{IsHeldBy, Knows, IsFirstKnown, Holds, IsWellFormed}
use Rattle.lrc_races_trace.proofs.Positions.{At-one, At-within}
use Rattle.lrc_races_trace.proofs.Holders.{holder_before-none, holder_before-next}
use Rattle.lrc_races_sure.specs.Sure.{IsSureRace}
use Rattle.lrc_races_sure.specs.Reordering.{Stands}
use Rattle.lrc_races_sure.proofs.Leading.{to-ordered}
use Rattle.lrc_races_sure.proofs.Deciding.{decided_either, same_operation, first_before, at_cases}
use Rattle.lrc_races_sure.proofs.Choosing.{rank-in, rank-out}
use Rattle.lrc_races_sure.proofs.Holding.{Touches, held-untouched, touched_before}
use Rattle.lrc_races_sure.proofs.Taking.{Taken, decide_taken, place, list, positions, taken_led, stands_front}
use Rattle.lrc_races_sure.proofs.Taking.{list_at, list_back, behind, own_behind, ahead, front_behind, taken_place}

-- what is no access is none of the two
access-other : (a b : Event) (v : ℕ) (o : Operation) → Accesses a v → b.operation ≡ o → ((w : ℕ) → o ≡ Read w → ⊥) → ((w : ℕ) → o ≡ Write w → ⊥) → a ≡ b → ⊥
access-other a b v o (inl e) op reads writes same = reads v (sym op ∙ sym (ap (λ (x : Event). x.operation) same) ∙ e)
access-other a b v o (inr e) op reads writes same = writes v (sym op ∙ sym (ap (λ (x : Event). x.operation) same) ∙ e)

module _ (events : List Event) (i j : ℕ) (r : IsSureRace events i j) (formed : IsWellFormed events) where
  abbrev takes : List ℕ
  takes = positions events i j r

  abbrev made : List Event
  made = list events i j r

  abbrev IsIn : ℕ → Type 0
  IsIn = Taken events i j r

  abbrev index : ℕ → ℕ
  index = place events i j r

  module _ (k q : ℕ) (b : Event) (stands : Stands takes k q) (at : At events q b) where
    -- ---- events of one thread

    last_in_trace : (These : Event → Type 0) → ((a : Event) → These a → a.thread ≡ b.thread) → (e : Event) → IsLastBefore made k These e
        → IsLastBefore events q These e
    last_in_trace These own e old =
        let (p, s, there) = list_back events i j r old.position e old.at in
        record {
          position = p;
          before = own_behind events i j r old.position k p q e b s stands there at (own e old.is) old.before;
          at = there;
          is = old.is;
          last = λ n c below here these.
              let (m, lower, t) = ahead events i j r k n q stands (base (program below here at (own c these))) in
              let le = old.last m c lower (list_at events i j r m n c t here) these in
              elim (cases_lt p n) [
                | inr done ↦ done
                | inl later ↦
                    elim (cases_eq m old.position) [
                      | inl same ↦
                          let one : n ≡ p = stands_same m n p t (subst (λ x. Stands takes x p) (sym same) s) in
                          absurd (omega arith)
                      | inr other ↦
                          let less = own_behind events i j r m old.position n p c e t s here there (own c these ∙ sym (own e old.is)) (omega arith) in
                          absurd (omega arith)
                    ]
              ];
        }
      where
        stands_same : (m n p : ℕ) → Stands takes m n → Stands takes m p → n ≡ p
        stands_same m n p s t = let x = s.is in let y = t.is in cc

    last_in_list : (These : Event → Type 0) → ((a : Event) → These a → a.thread ≡ b.thread) → (e : Event) → IsLastBefore events q These e
        → IsLastBefore made k These e
    last_in_list These own e old =
        let (m, lower, t) = ahead events i j r k old.position q stands (base (program old.before old.at at (own e old.is))) in
        record {
          position = m;
          before = lower;
          at = list_at events i j r m old.position e t old.at;
          is = old.is;
          last = λ n c below there these.
              let (p, s, here) = list_back events i j r n c there in
              let early = own_behind events i j r n k p q c b s stands here at (own c these) below in
              let le = old.last p c early here these in
              elim (cases_lt m n) [
                | inr done ↦ done
                | inl later ↦
                    let less = own_behind events i j r m n old.position p e c t s old.at here (own e old.is ∙ sym (own c these)) later in
                    absurd (omega arith)
              ];
        }

    own_at_barrier : (x : ℕ) (a : Event) → IsAtBarrier b.thread x a → a.thread ≡ b.thread
    own_at_barrier x a h = h.0

    -- ---- what is no access

    no_access : (o : Operation) → b.operation ≡ o → ((w : ℕ) → o ≡ Read w → ⊥) → ((w : ℕ) → o ≡ Write w → ⊥) → IsIn q × (k ≡ index q)
    no_access o op reads writes =
        taken_place events i j r k q stands
        (λ same. access-other r.a b r.conflict.variable o r.conflict.first op reads writes (At-one r.first (subst (λ m. At events m b) same at)))
        (λ same. access-other r.b b r.conflict.variable o r.conflict.second op reads writes (At-one r.second (subst (λ m. At events m b) same at)))

    -- ---- locks

    -- where all that acquired or released the lock is in the list, its holder is the same
    holder_same : (l : ℕ) → ((p : ℕ) (a : Event) → p < q → At events p a → Touches l a.operation → IsIn p) → (n : ℕ) → n ≤ q
        → holder_before made l (index n) ≡ holder_before events l n
    holder_same l all zero le = holder_before-none made l ∙ sym (holder_before-none events l)
    holder_same l all (suc n) le =
        let inside = At-within at in
        let before = holder_same l all n (omega arith) in
        let next : suc n ≡ n + 1 = omega arith in
        elim (at_cases events n) [
          | inr none ↦ absurd (none_within n none (omega arith))
          | inl (e, here) ↦
              let whole : holder_before events l (suc n) ≡ held_after_operation l e e.operation (holder_before events l n) =
              ap (λ m. holder_before events l m) next ∙ holder_before-next events l n e here in
              elim (decide_taken events i j r n) [
                | inl is ↦
                    let s = (stands_front events i j r n is).0 in
                    ap (λ m. holder_before made l m) (rank-in IsIn (decide_taken events i j r) n is)
                    ∙ holder_before-next made l (index n) e (list_at events i j r (index n) n e s here)
                    ∙ ap (λ h. held_after_operation l e e.operation h) before ∙ sym whole
                | inr denied ↦
                    ap (λ m. holder_before made l m) (rank-out IsIn (decide_taken events i j r) n denied) ∙ before
                    ∙ sym (held-untouched l e e.operation (holder_before events l n) (λ t. denied (all n e (omega arith) here t))) ∙ sym whole
              ]
        ]
      where
        none_within : (m : ℕ) → ((a : Event) → At events m a → ⊥) → m < length events → ⊥
        none_within m none lt = none (get_or events m b) (record { is = slice_get-get_or events m b lt })

    lock_same : (l : ℕ) → Touches l b.operation → IsIn q → k ≡ index q → holder_before made l k ≡ holder_before events l q
    lock_same l touches is same =
        ap (λ m. holder_before made l m) same
        ∙ holder_same l (λ p a lt here touched. taken_led events i j r (to-ordered (touched_before events formed l p q a b here at touched touches lt)) is)
        q (omega arith)

    -- ---- each reason

    joined : (join' : Event) → IsFirstBefore made k (λ a. a.operation ≡ Join b.thread) join' → ⊥
    joined join' first =
        let (p, s, there) = list_back events i j r first.position join' first.at in
        elim (behind events i j r first.position k p q s stands first.before) [
          | inr (late, unled) ↦ unled (to-ordered (base (join late at there first.is)))
          | inl early ↦
              elim (first_before events (λ a. a.operation ≡ Join b.thread) (λ a. same_operation a.operation (Join b.thread)) q) [
                | inl (a, is) ↦ formed q b (Joined a.line) at (a, is, refl)
                | inr none ↦ none p join' early there first.is
              ]
        ]

    known : (u : ℕ) → b.operation ≡ Fork u → (first : Event) → IsFirstKnown made k b u first → ⊥
    known u op first (inr (same, own, none)) =
        elim (first_before events (Knows u) (λ a. decided_either (cases_eq a.thread u) (same_operation a.operation (Fork u))) q) [
          | inl (a, is) ↦ formed q b (Known u a.line) at (op, (a, inl is, refl))
          | inr unknown ↦ formed q b (Known u b.line) at (op, (b, inr (refl, own, unknown), refl))
        ]
    known u op first (inl is) =
        let (p, s, there) = list_back events i j r is.position first is.at in
        let (taken, same) = no_access (Fork u) op (λ w e. let never : ⊥ = cc in never) (λ w e. let never : ⊥ = cc in never) in
        let early = front_behind events i j r is.position k p q s stands taken is.before in
        elim (first_before events (Knows u) (λ a. decided_either (cases_eq a.thread u) (same_operation a.operation (Fork u))) q) [
          | inl (a, is') ↦ formed q b (Known u a.line) at (op, (a, inl is', refl))
          | inr unknown ↦ unknown p first early there is.is
        ]

    pub holds_not : (reason : Reason) → Holds made k b reason → ⊥
    holds_not (Joined line) (join', first, is) = joined join' first
    holds_not (Waits x line) (arrive, waits, is, other) =
        formed q b (Waits x line) at (
          arrive,
          record { last = last_in_trace (IsAtBarrier b.thread x) (own_at_barrier x) arrive waits.last; arrives = waits.arrives },
          is,
          other,
        )
    holds_not (NotArrived x) (departs, none) =
        formed q b (NotArrived x) at (
          departs,
          λ arrive waits.
              none arrive (record {
                last = last_in_list (IsAtBarrier b.thread x) (own_at_barrier x) arrive waits.last;
                arrives = waits.arrives;
              }),
        )
    holds_not (Held l t line) (op, apart, (holder, is, of, there)) =
        let (taken, same) = no_access (Acquire l) op (λ w e. let never : ⊥ = cc in never) (λ w e. let never : ⊥ = cc in never) in
        formed q b (Held l t line) at (op, apart, (holder, sym (lock_same l (inl op) taken same) ∙ is, of, there))
    holds_not (NotHeld l) (op, unheld) =
        let (taken, same) = no_access (Release l) op (λ w e. let never : ⊥ = cc in never) (λ w e. let never : ⊥ = cc in never) in
        formed q b (NotHeld l) at (op, λ h. unheld (subst (λ o. IsHeldBy o b.thread) (sym (lock_same l (inr op) taken same)) h))
    holds_not (Known u line) (op, (first, is, there)) = known u op first is

  pub list_formed : IsWellFormed made
  list_formed k b reason at holds =
      let (q, stands, there) = list_back events i j r k b at in
      holds_not k q b stands there reason holds
