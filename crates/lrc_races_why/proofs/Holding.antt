-- How a thread holds a lock, one event further.
use Rattle.std.proofs.Common.{add-one, ◌≡◌, ℕ, zero, suc, ◌+◌, ◌-◌, ◌<◌, ◌≤◌, ◌⊎◌, List, [], ◌∷◌, ◌++◌, ◌^◌, inl, inr, refl, sym, subst, ◌∙◌, ap, arith, cond, length, get_or}
use Rattle.std.specs.Prelude.{◌≢◌, ◌==◌, true, false, Option, Some, None, MatchOption, slice_get, AllPairs, Contains}
use Rattle.std.proofs.lemmas.Bool.{cases_eq, cases_lt}
use Rattle.std.proofs.lemmas.List.Elements.{Contains-push, Contains-push_cases, Contains-append_left, Contains-get_or}
use Rattle.std.proofs.lemmas.List.Quantifiers.{all_pairs_push}
use Rattle.lrc_races_trace.specs.declared.event.Event.{Event}
use Rattle.lrc_races_trace.specs.declared.event.Operation.{Operation}
use Rattle.lrc_races_trace.specs.declared.event.Operation.TheVariants.{Read, Write, Acquire, Release, Post, Wait, Fork, Join, Arrive, Depart, Idle}
use Rattle.lrc_races_trace.specs.Trace.{At}
use Rattle.lrc_races_why.specs.declared.held.Holding.{Holding}
use Rattle.lrc_races_why.specs.Held.{after_operation, after_event, depth_before, IsSince, ComesFirst, AreHeld, holding_at, IsHoldingSet, IsHolding, AreHoldings}

pub depth-none : (events : List Event) (t l : ℕ) → depth_before events t l 0 ≡ 0
unfolding depth_before
depth-none events t l = refl

pub depth-next : (events : List Event) (t l n : ℕ) (e : Event) → At events n e
    → depth_before events t l (n + 1) ≡ after_event t l (Some e) (depth_before events t l n)
unfolding depth_before
depth-next events t l n e h = rw (add-one, h.is) refl

-- an event of another thread
other_thread : (t l d : ℕ) (e : Event) → e.thread ≢ t → after_event t l (Some e) d ≡ d
other_thread t l d e other = grind (arith, other)

own_thread : (t l d : ℕ) (e : Event) → e.thread ≡ t → after_event t l (Some e) d ≡ after_operation l e.operation d
own_thread t l d e same = grind (arith, same)

-- what holds and gives back nothing of the lock
quiet : (l d : ℕ) (o : Operation) → o ≢ Acquire l → o ≢ Release l → after_operation l o d ≡ d
quiet l d (Acquire m) f g =
    elim (cases_eq m l) [
      | inl same ↦ absurd (f (ap Acquire same))
      | inr other ↦ grind (arith, other)
    ]
quiet l d (Release m) f g =
    elim (cases_eq m l) [
      | inl same ↦ absurd (g (ap Release same))
      | inr other ↦ grind (arith, other)
    ]
quiet l d (Read v) f g = refl
quiet l d (Write v) f g = refl
quiet l d (Post v) f g = refl
quiet l d (Wait v) f g = refl
quiet l d (Fork v) f g = refl
quiet l d (Join v) f g = refl
quiet l d (Arrive v) f g = refl
quiet l d (Depart v) f g = refl
quiet l d Idle f g = refl

acquires : (l d : ℕ) → after_operation l (Acquire l) d ≡ d + 1
acquires l d = grind arith

releases : (l d : ℕ) → after_operation l (Release l) d ≡ d - 1
releases l d = grind arith

-- what makes a lock held that was free
only_acquires : (l d : ℕ) (o : Operation) → d ≡ 0 → 0 < after_operation l o d → o ≡ Acquire l
only_acquires l d (Acquire m) free more =
    elim (cases_eq m l) [
      | inl same ↦ ap Acquire same
      | inr other ↦ let e = quiet l d (Acquire m) (λ x. let y : m ≡ l = cc in other y) (λ x. cc) in absurd (omega arith)
    ]
only_acquires l d (Release m) free more =
    elim (cases_eq m l) [
      | inl same ↦ let e : after_operation l (Release m) d ≡ d - 1 = ap (λ (x : ℕ). after_operation l (Release x) d) same ∙ releases l d in absurd (omega arith)
      | inr other ↦ let e = quiet l d (Release m) (λ x. cc) (λ x. let y : m ≡ l = cc in other y) in absurd (omega arith)
    ]
only_acquires l d (Read v) free more = absurd (omega arith)
only_acquires l d (Write v) free more = absurd (omega arith)
only_acquires l d (Post v) free more = absurd (omega arith)
only_acquires l d (Wait v) free more = absurd (omega arith)
only_acquires l d (Fork v) free more = absurd (omega arith)
only_acquires l d (Join v) free more = absurd (omega arith)
only_acquires l d (Arrive v) free more = absurd (omega arith)
only_acquires l d (Depart v) free more = absurd (omega arith)
only_acquires l d Idle free more = absurd (omega arith)

grows : (l d : ℕ) (o : Operation) → after_operation l o d ≤ d + 1
grows l d (Acquire m) = elim (m == l) as (λ b. cond b (d + 1) d ≤ d + 1) [ true ↦ omega arith | false ↦ omega arith ]
grows l d (Release m) = elim (m == l) as (λ b. cond b (d - 1) d ≤ d + 1) [ true ↦ omega arith | false ↦ omega arith ]
grows l d (Read v) = omega arith
grows l d (Write v) = omega arith
grows l d (Post v) = omega arith
grows l d (Wait v) = omega arith
grows l d (Fork v) = omega arith
grows l d (Join v) = omega arith
grows l d (Arrive v) = omega arith
grows l d (Depart v) = omega arith
grows l d Idle = omega arith

event-grows : (t l d : ℕ) (e : Option Event) → after_event t l e d ≤ d + 1
event-grows t l d None = omega arith
event-grows t l d (Some e) =
    let little = grows l d e.operation in
    elim (e.thread == t) as (λ b. cond b (after_operation l e.operation d) d ≤ d + 1) [ true ↦ little | false ↦ omega arith ]

-- no more is held than there were events
pub depth-few : (events : List Event) (t l n : ℕ) → depth_before events t l n ≤ n
unfolding depth_before
depth-few events t l zero = omega arith
depth-few events t l (suc n) =
    let one = event-grows t l (depth_before events t l n) (slice_get events n) in
    let few = depth-few events t l n in
    omega arith

module _ (events : List Event) (n : ℕ) (e : Event) (here : At events n e) where
  -- what the event leaves as it was
  pub depth-same : (t l : ℕ) → (e.thread ≡ t → e.operation ≢ Acquire l) → (e.thread ≡ t → e.operation ≢ Release l)
      → depth_before events t l (n + 1) ≡ depth_before events t l n
  depth-same t l f g =
      elim (cases_eq e.thread t) [
        | inl same ↦ depth-next events t l n e here ∙ own_thread t l _ e same ∙ quiet l _ e.operation (f same) (g same)
        | inr other ↦ depth-next events t l n e here ∙ other_thread t l _ e other
      ]

  pub depth-acquired : (l : ℕ) → e.operation ≡ Acquire l → depth_before events e.thread l (n + 1) ≡ depth_before events e.thread l n + 1
  depth-acquired l is =
      depth-next events e.thread l n e here ∙ own_thread e.thread l _ e refl
      ∙ ap (λ o. after_operation l o (depth_before events e.thread l n)) is ∙ acquires l _

  pub depth-released : (l : ℕ) → e.operation ≡ Release l → depth_before events e.thread l (n + 1) ≡ depth_before events e.thread l n - 1
  depth-released l is =
      depth-next events e.thread l n e here ∙ own_thread e.thread l _ e refl
      ∙ ap (λ o. after_operation l o (depth_before events e.thread l n)) is ∙ releases l _

  -- a lock that is still held has been so since
  pub since-further : (t l p : ℕ) → 0 < depth_before events t l (n + 1) → IsSince events t l n p → IsSince events t l (n + 1) p
  since-further t l p held s =
      let lt = s.before in
      record {
        before = omega arith;
        free = s.free;
        held = λ k after le.
            elim (cases_eq k (n + 1)) [
              | inl same ↦ subst (λ (m : ℕ). 0 < depth_before events t l m) (sym same) held
              | inr other ↦ s.held k after (omega arith)
            ];
      }

  pub since-here : (t l : ℕ) → depth_before events t l n ≡ 0 → 0 < depth_before events t l (n + 1) → IsSince events t l (n + 1) n
  since-here t l free held = record {
    before = omega arith;
    free = free;
    held = λ k after le. let same : k ≡ n + 1 = omega arith in subst (λ (m : ℕ). 0 < depth_before events t l m) (sym same) held;
  }

  -- the event leaves the lock as it was
  pub holding-same : (t l : ℕ) (h : Holding) → depth_before events t l (n + 1) ≡ depth_before events t l n → IsHolding events t l n h
      → IsHolding events t l (n + 1) h
  holding-same t l h same old = record {
    depth = old.depth ∙ sym same;
    since = λ some. since-further t l h.since (let d = old.depth in omega arith) (old.since some);
  }

  pub holding-acquired : (l : ℕ) (h g : Holding) → e.operation ≡ Acquire l → g.depth ≡ h.depth + 1 → (h.depth ≡ 0 → g.since ≡ n)
      → (h.depth ≢ 0 → g.since ≡ h.since) → IsHolding events e.thread l n h → IsHolding events e.thread l (n + 1) g
  holding-acquired l h g is deeper first again old =
      let one = depth-acquired l is in
      let was = old.depth in
      record {
        depth = omega arith;
        since = λ some.
            elim (cases_eq h.depth 0) [
              | inl free ↦ subst (λ (p : ℕ). IsSince events e.thread l (n + 1) p) (sym (first free)) (since-here e.thread l (omega arith) (omega arith))
              | inr held ↦ subst (λ (p : ℕ). IsSince events e.thread l (n + 1) p) (sym (again held))
                  (since-further e.thread l h.since (omega arith) (old.since (omega arith)))
            ];
      }

  pub holding-released : (l : ℕ) (h g : Holding) → e.operation ≡ Release l → g.depth ≡ h.depth - 1 → g.since ≡ h.since
      → IsHolding events e.thread l n h → IsHolding events e.thread l (n + 1) g
  holding-released l h g is less kept old =
      let one = depth-released l is in
      let was = old.depth in
      record {
        depth = omega arith;
        since = λ some. subst (λ (p : ℕ). IsSince events e.thread l (n + 1) p) (sym kept)
            (since-further e.thread l h.since (omega arith) (old.since (omega arith)));
      }

  -- what a thread comes to hold by an event
  pub came_to_hold : (t l m : ℕ) → IsSince events t l m n → (e.thread ≡ t) × (e.operation ≡ Acquire l)
  came_to_hold t l m s =
      let lt = s.before in
      let held = s.held (n + 1) (omega arith) (omega arith) in
      let free = s.free in
      let step = depth-next events t l n e here in
      elim (cases_eq e.thread t) [
        | inr other ↦ let same = other_thread t l (depth_before events t l n) e other in absurd (omega arith)
        | inl own ↦
            let o = own_thread t l (depth_before events t l n) e own in
            (own, only_acquires l (depth_before events t l n) e.operation free (omega arith))
      ]

-- since when a lock is held is one position
pub since-one : (events : List Event) (t l n p q : ℕ) → IsSince events t l n p → IsSince events t l n q → p ≡ q
since-one events t l n p q s u =
    let lt = s.before in
    let lt' = u.before in
    elim (cases_lt p q) [
      | inl below ↦ let held = s.held q below (omega arith) in let free = u.free in absurd (omega arith)
      | inr above ↦
          elim (cases_eq p q) [
            | inl same ↦ same
            | inr other ↦ let held = u.held p (omega arith) (omega arith) in let free = s.free in absurd (omega arith)
          ]
    ]

-- the locks that the thread holds at n and came to hold before m, in the order in which it did
pub record AreHeldBelow (events : List Event) (thread n m : ℕ) (locks : List ℕ) : Type 0 where
  pub in_order : AllPairs (ComesFirst events thread n) locks
  pub sound : (lock : ℕ) → Contains locks lock → (p : ℕ) × (p < m) × IsSince events thread lock n p
  pub complete : (lock p : ℕ) → p < m → IsSince events thread lock n p → Contains locks lock

module _ (events : List Event) (t n : ℕ) where
  pub below-none : (locks : List ℕ) → locks ≡ [] → AreHeldBelow events t n 0 locks
  below-none locks none = rw none (record {
    in_order = λ i j d lt within. absurd (omega (arith, within));
    sound = λ lock (k, lt, is). absurd (omega (arith, lt));
    complete = λ lock p lt s. absurd (omega (arith, lt));
  })

  pub below-same : (m : ℕ) (locks : List ℕ) → ((lock : ℕ) → IsSince events t lock n m → ⊥) → AreHeldBelow events t n m locks
      → AreHeldBelow events t n (m + 1) locks
  below-same m locks none old = record {
    in_order = old.in_order;
    sound = λ lock there. let (p, lt, s) = old.sound lock there in (p, omega arith, s);
    complete = λ lock p lt s.
        elim (cases_eq p m) [
          | inl same ↦ absurd (none lock (subst (λ (q : ℕ). IsSince events t lock n q) same s))
          | inr other ↦ old.complete lock p (omega arith) s
        ];
  }

  pub below-push : (m l : ℕ) (locks after : List ℕ) → IsSince events t l n m → ((lock : ℕ) → IsSince events t lock n m → lock ≡ l)
      → after ≡ locks ++ l ∷ [] → AreHeldBelow events t n m locks → AreHeldBelow events t n (m + 1) after
  below-push m l locks after here one pushed old = rw pushed (record {
    in_order = all_pairs_push (ComesFirst events t n) locks l old.in_order
        (λ k d lt. let (p, below, s) = old.sound (get_or locks k d) (Contains-get_or locks k d lt) in (p, m, s, here, below));
    sound = λ lock there.
        elim (Contains-push_cases locks l lock there) [
          | inl before ↦ let (p, lt, s) = old.sound lock before in (p, omega arith, s)
          | inr same ↦ (m, omega arith, subst (λ (x : ℕ). IsSince events t x n m) same here)
        ];
    complete = λ lock p lt s.
        elim (cases_eq p m) [
          | inl same ↦
              let e = one lock (subst (λ (q : ℕ). IsSince events t lock n q) same s) in
              subst (λ (x : ℕ). Contains (locks ++ l ∷ []) x) (sym e) (Contains-push locks l)
          | inr other ↦ Contains-append_left locks (l ∷ []) lock (old.complete lock p (omega arith) s)
        ];
  })

  pub below-all : (locks : List ℕ) (kept : ℕ → Holding) → ((lock : ℕ) → IsHolding events t lock n (kept lock))
      → AreHeldBelow events t n n locks → AreHeld events t n locks
  below-all locks kept is old = record {
    in_order = old.in_order;
    exact = λ lock. (
      λ there. let (p, lt, s) = old.sound lock there in s.held n lt (omega arith),
      λ held.
          let h = is lock in
          let d = h.depth in
          let s = h.since (omega arith) in
          old.complete lock (kept lock).since s.before s,
    );
  }

-- what is kept of all locks
module _ (events : List Event) (n : ℕ) (e : Event) (here : At events n e) (holdings : List Holding) where
  pub holdings_other : (t : ℕ) → e.thread ≢ t → AreHoldings events t n holdings → AreHoldings events t (n + 1) holdings
  holdings_other t other old l =
      holding-same events n e here t l (holding_at holdings l) (depth-same events n e here t l (λ same. absurd (other same)) (λ same. absurd (other same))) (old l)

  pub holdings_kept : ((l : ℕ) → e.operation ≡ Acquire l → ⊥) → ((l : ℕ) → e.operation ≡ Release l → ⊥)
      → AreHoldings events e.thread n holdings → AreHoldings events e.thread (n + 1) holdings
  holdings_kept f g old l =
      holding-same events n e here e.thread l (holding_at holdings l) (depth-same events n e here e.thread l (λ same. f l) (λ same. g l)) (old l)

  -- a lock of which it says nothing
  untouched : (m l : ℕ) (after : List Holding) (holding : Holding) → IsHoldingSet holdings after m holding → l ≢ m
      → (e.operation ≡ Acquire m) ⊎ (e.operation ≡ Release m) → AreHoldings events e.thread n holdings
      → IsHolding events e.thread l (n + 1) (holding_at after l)
  untouched m l after holding set other is old =
      subst (λ (h : Holding). IsHolding events e.thread l (n + 1) h) (sym (set.others l other))
      (holding-same events n e here e.thread l (holding_at holdings l)
      (depth-same events n e here e.thread l (λ same. not_acquired) (λ same. not_released)) (old l))
    where
      not_acquired : e.operation ≢ Acquire l
      not_acquired f = elim is [
        | inl a ↦ let both : Acquire m ≡ Acquire l = sym a ∙ f in let one : m ≡ l = cc in other (sym one)
        | inr r ↦ let both : Release m ≡ Acquire l = sym r ∙ f in cc
      ]

      not_released : e.operation ≢ Release l
      not_released f = elim is [
        | inl a ↦ let both : Acquire m ≡ Release l = sym a ∙ f in cc
        | inr r ↦ let both : Release m ≡ Release l = sym r ∙ f in let one : m ≡ l = cc in other (sym one)
      ]

  pub holdings_acquired : (m : ℕ) → e.operation ≡ Acquire m → n + 1 < 2 ^ 64 → (after : List Holding) (was holding : Holding) → was ≡ holding_at holdings m
      → (was.depth + 1 < 2 ^ 64 → holding.depth ≡ was.depth + 1) → (was.depth ≡ 0 → holding.since ≡ n)
      → (was.depth ≢ 0 → holding.since ≡ was.since) → IsHoldingSet holdings after m holding
      → AreHoldings events e.thread n holdings → AreHoldings events e.thread (n + 1) after
  holdings_acquired m is few after was holding w deeper first again set old l =
      let kept : IsHolding events e.thread m n was = subst (λ (h : Holding). IsHolding events e.thread m n h) (sym w) (old m) in
      let little = depth-few events e.thread m n in
      let d = kept.depth in
      elim (cases_eq l m) [
        | inl same ↦
            subst (λ (k : ℕ). IsHolding events e.thread k (n + 1) (holding_at after k)) (sym same)
            (subst (λ (h : Holding). IsHolding events e.thread m (n + 1) h) (sym set.here)
            (holding-acquired events n e here m was holding is (deeper (omega arith)) first again kept))
        | inr other ↦ untouched m l after holding set other (inl is) old
      ]

  pub holdings_released : (m : ℕ) → e.operation ≡ Release m → (after : List Holding) (was holding : Holding) → was ≡ holding_at holdings m
      → holding.depth ≡ was.depth - 1 → holding.since ≡ was.since → IsHoldingSet holdings after m holding
      → AreHoldings events e.thread n holdings → AreHoldings events e.thread (n + 1) after
  holdings_released m is after was holding w less kept_since set old l =
      let kept : IsHolding events e.thread m n was = subst (λ (h : Holding). IsHolding events e.thread m n h) (sym w) (old m) in
      elim (cases_eq l m) [
        | inl same ↦
            subst (λ (k : ℕ). IsHolding events e.thread k (n + 1) (holding_at after k)) (sym same)
            (subst (λ (h : Holding). IsHolding events e.thread m (n + 1) h) (sym set.here)
            (holding-released events n e here m was holding is less kept_since kept))
        | inr other ↦ untouched m l after holding set other (inr is) old
      ]

-- before any event
pub holdings_none : (events : List Event) (t : ℕ) (holdings : List Holding) → holdings ≡ [] → AreHoldings events t 0 holdings
holdings_none events t holdings none l =
    subst (λ (h : List Holding). IsHolding events t l 0 (holding_at h l)) (sym none)
    (record { depth = sym (depth-none events t l); since = λ some. absurd (omega (arith, some)) })

-- the lock by whose acquire the thread came to hold it
module _ (events : List Event) (n position t : ℕ) (below : position < n) (e : Event) (here : At events position e) (holdings : List Holding)
    (are : AreHoldings events t n holdings) where
  pub since_other : e.thread ≢ t → (l : ℕ) → IsSince events t l n position → ⊥
  since_other other l s = other (came_to_hold events position e here t l n s).0

  pub since_no_acquire : ((l : ℕ) → e.operation ≡ Acquire l → ⊥) → (l : ℕ) → IsSince events t l n position → ⊥
  since_no_acquire none l s = none l (came_to_hold events position e here t l n s).1

  -- which says what is kept of it
  since_kept : (m l : ℕ) → e.operation ≡ Acquire m → (holding : Holding) → holding ≡ holding_at holdings m → IsSince events t l n position
      → (l ≡ m) × (0 < holding.depth) × (holding.since ≡ position)
  since_kept m l is holding w s =
      let acquired = (came_to_hold events position e here t l n s).1 in
      let both : Acquire l ≡ Acquire m = sym acquired ∙ is in
      let same : l ≡ m = cc in
      let kept : IsHolding events t l n holding =
      subst (λ (k : ℕ). IsHolding events t k n holding) (sym same) (subst (λ (h : Holding). IsHolding events t m n h) (sym w) (are m)) in
      let held = s.held n below (omega arith) in
      let d = kept.depth in
      let some : 0 < holding.depth = omega arith in
      (same, some, since-one events t l n holding.since position (kept.since some) s)

  pub since_unheld : (m : ℕ) → e.operation ≡ Acquire m → (holding : Holding) → holding ≡ holding_at holdings m → holding.depth ≡ 0
      → (l : ℕ) → IsSince events t l n position → ⊥
  since_unheld m is holding w none l s = let (same, some, at) = since_kept m l is holding w s in omega arith

  pub since_apart : (m : ℕ) → e.operation ≡ Acquire m → (holding : Holding) → holding ≡ holding_at holdings m → holding.since ≢ position
      → (l : ℕ) → IsSince events t l n position → ⊥
  since_apart m is holding w apart l s = let (same, some, at) = since_kept m l is holding w s in apart at

  pub since_found : (m : ℕ) (holding : Holding) → holding ≡ holding_at holdings m → holding.depth ≢ 0 → holding.since ≡ position
      → IsSince events t m n position
  since_found m holding w some at =
      let kept : IsHolding events t m n holding = subst (λ (h : Holding). IsHolding events t m n h) (sym w) (are m) in
      subst (λ (p : ℕ). IsSince events t m n p) at (kept.since (omega (arith, some)))

  pub since_alone : (m l : ℕ) → IsSince events t m n position → IsSince events t l n position → l ≡ m
  since_alone m l s u =
      let one = (came_to_hold events position e here t m n s).1 in
      let other = (came_to_hold events position e here t l n u).1 in
      let both : Acquire l ≡ Acquire m = sym other ∙ one in
      cc

-- an event stands at each position
at_some : (events : List Event) (m : ℕ) → m < length events → (e : Event) × At events m e
at_some [] m lt = absurd (omega (arith, lt))
at_some (e ∷ events) zero lt = (e, record { is = refl })
at_some (e ∷ events) (suc m) lt = let (d, at) = at_some events m (omega (arith, lt)) in (d, record { is = at.is })

-- one event more among the locks that are held
pub below-next : (events : List Event) (t n m : ℕ) → m < length events → m < n → (holdings : List Holding) → AreHoldings events t n holdings
    → (o : Option ℕ) → MatchOption o ((l : ℕ) → IsSince events t l n m → ⊥) (λ l. IsSince events t l n m) → (locks after : List ℕ)
    → ((l : ℕ) → o ≡ Some l → after ≡ locks ++ l ∷ []) → (o ≡ None → after ≡ locks) → AreHeldBelow events t n m locks
    → AreHeldBelow events t n (m + 1) after
below-next events t n m within lt holdings are None none locks after some kept old =
    subst (λ (ls : List ℕ). AreHeldBelow events t n (m + 1) ls) (sym (kept refl)) (below-same events t n m locks none old)
below-next events t n m within lt holdings are (Some l) is locks after some kept old =
    let (e, here) = at_some events m within in
    below-push events t n m l locks after is (λ lock s. since_alone events n m t lt e here holdings are l lock is s) (some l refl) old
