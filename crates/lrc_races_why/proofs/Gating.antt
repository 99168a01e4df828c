-- What an event comes right before, and the best starts of that.
use Rattle.std.proofs.Common.{◌≡◌, ℕ, ◌+◌, ◌<◌, ◌≤◌, ◌⊎◌, List, [], inl, inr, refl, sym, subst, ◌∙◌, ap, arith}
use Rattle.std.specs.Prelude.{◌≢◌, Option, Some, None, Vec}
use Rattle.std.specs.declared.alloc.Global.{Global}
use Rattle.std.proofs.lemmas.Bool.{cases_eq}
use Rattle.lrc_races_trace.specs.declared.event.Event.{Event}
use Rattle.lrc_races_trace.specs.declared.event.Operation.{Operation}
use Rattle.lrc_races_trace.specs.declared.event.Operation.TheVariants.{Read, Write, Acquire, Release, Post, Wait, Fork, Join, Arrive, Depart, Idle}
use Rattle.lrc_races_trace.specs.Trace.{At, given, got}
use Rattle.lrc_races_trace.specs.Cycles.{cycles_before}
use Rattle.lrc_races_trace.specs.Order.{Precedes, program, lock, fork, join, fork_join, barrier}
use Rattle.lrc_races_trace.proofs.Positions.{At-one}
use Rattle.lrc_chains.specs.declared.starts.Start.{Start}
use Rattle.lrc_chains.specs.Starts.{IsBest, better}
use Rattle.lrc_chains.specs.Table.{start_at, start_in, IsGained, IsGainedIn}
use Rattle.lrc_chains.proofs.Best.{Best-none, Best-same, Best-joined}
use Rattle.lrc_chains.proofs.Tables.{Best-past, each-same, each-next}
use Rattle.lrc_races_why.specs.declared.onward.Onward.{Onward}
use Rattle.lrc_races_why.specs.Cycles.{cycle_in}
use Rattle.lrc_races_why.specs.Onward.{ActsAs, GetsLock, JoinsThread, OfThread, DepartsIn, Gated, AreThreadStarts, AreLockStarts, AreJoinStarts, AreDepartStarts, IsOnward}
use Rattle.lrc_races_why.proofs.Following.{goes_forward}

-- where a lock is given, the events that get it are those that the operation comes right before
gated_by_lock : (events : List Event) (n k l : ℕ) (o : Operation) → given o ≡ Some l → GetsLock events l k → Gated events n o k
gated_by_lock events n k l (Release m) e h = let same : l ≡ m = cc in subst (λ (x : ℕ). GetsLock events x k) same h
gated_by_lock events n k l (Post m) e h = let same : l ≡ m = cc in subst (λ (x : ℕ). GetsLock events x k) same h
gated_by_lock events n k l (Read v) e h = let never : ⊥ = cc in absurd never
gated_by_lock events n k l (Write v) e h = let never : ⊥ = cc in absurd never
gated_by_lock events n k l (Acquire v) e h = let never : ⊥ = cc in absurd never
gated_by_lock events n k l (Wait v) e h = let never : ⊥ = cc in absurd never
gated_by_lock events n k l (Fork v) e h = let never : ⊥ = cc in absurd never
gated_by_lock events n k l (Join v) e h = let never : ⊥ = cc in absurd never
gated_by_lock events n k l (Arrive v) e h = let never : ⊥ = cc in absurd never
gated_by_lock events n k l (Depart v) e h = let never : ⊥ = cc in absurd never
gated_by_lock events n k l Idle e h = let never : ⊥ = cc in absurd never

module _ (events : List Event) (n : ℕ) (a : Event) (here : At events n a) where
  -- the event is the one that stands there
  same_event : {b : Event} → At events n b → b ≡ a
  same_event at = At-one at here

  gated : (o : Operation) → a.operation ≡ o → (k : ℕ) → Gated events n o k → Gated events n a.operation k
  gated o is k g = subst (λ p. Gated events n p k) (sym is) g

  pub onto : (k : ℕ) → Precedes events n k → (n + 1 ≤ k) × (OfThread events a.thread k ⊎ Gated events n a.operation k)
  onto k (program {b = b} lt at there e) = (omega arith, inl (inl (b, there, sym e ∙ ap (λ (x : Event). x.thread) (same_event at))))
  onto k (lock {l = l} {b = b} lt at there gives gets) =
      (omega arith, inr (gated_by_lock events n k l a.operation (ap (λ (x : Event). given x.operation) (sym (same_event at)) ∙ gives) (b, there, gets)))
  onto k (fork {b = b} lt at there e) =
      (omega arith, inr (gated (Fork b.thread) (ap (λ (x : Event). x.operation) (sym (same_event at)) ∙ e) k (inl (b, there, refl))))
  onto k (join {b = b} lt at there e) =
      (omega arith, inl (inr (b, there, e ∙ ap (λ (x : Event). Join x.thread) (same_event at))))
  onto k (fork_join {u = u} {b = b} lt at there e f) =
      (omega arith, inr (gated (Fork u) (ap (λ (x : Event). x.operation) (sym (same_event at)) ∙ e) k (inr (b, there, f))))
  onto k (barrier {x = x} {b = b} lt at there e f cycle) =
      (omega arith, inr (gated (Arrive x) (ap (λ (x : Event). x.operation) (sym (same_event at)) ∙ e) k (b, there, f, cycle)))

  from_gate : (o : Operation) → a.operation ≡ o → (k : ℕ) → n < k → Gated events n o k → Precedes events n k
  from_gate (Release l) is k lt (b, there, gets) = lock lt here there (ap given is) gets
  from_gate (Post l) is k lt (b, there, gets) = lock lt here there (ap given is) gets
  from_gate (Fork u) is k lt (inl (b, there, own)) = fork lt here there (is ∙ ap Fork (sym own))
  from_gate (Fork u) is k lt (inr (b, there, joins)) = fork_join lt here there is joins
  from_gate (Arrive x) is k lt (b, there, departs, cycle) = barrier lt here there is departs cycle
  from_gate (Read v) is k lt h = absurd h
  from_gate (Write v) is k lt h = absurd h
  from_gate (Acquire v) is k lt h = absurd h
  from_gate (Wait v) is k lt h = absurd h
  from_gate (Join v) is k lt h = absurd h
  from_gate (Depart v) is k lt h = absurd h
  from_gate Idle is k lt h = absurd h

  pub from_onto : (k : ℕ) → n + 1 ≤ k → OfThread events a.thread k ⊎ Gated events n a.operation k → Precedes events n k
  from_onto k le (inl (inl (b, there, own))) = program (omega arith) here there (sym own)
  from_onto k le (inl (inr (b, there, joins))) = join (omega arith) here there joins
  from_onto k le (inr gate) = from_gate a.operation refl k (omega arith) gate

  pub Best-onto : (to : ℕ) (own other : Option Start) → IsBest (Precedes events) to (λ k. (n + 1 ≤ k) × OfThread events a.thread k) own
      → IsBest (Precedes events) to (λ k. (n + 1 ≤ k) × Gated events n a.operation k) other
      → IsBest (Precedes events) to (λ k. Precedes events n k) (better own other)
  Best-onto to own other g h =
      Best-same (Precedes events) (goes_forward events) to
      (λ k. ((n + 1 ≤ k) × OfThread events a.thread k) ⊎ ((n + 1 ≤ k) × Gated events n a.operation k)) (λ k. Precedes events n k)
      (better own other) (λ k t.
      elim t [
        | inl (le, o) ↦ from_onto k le (inl o)
        | inr (le, o) ↦ from_onto k le (inr o)
      ]) (λ k p.
      let (le, t) = onto k p in
      elim t [
        | inl o ↦ inl (le, o)
        | inr o ↦ inr (le, o)
      ]) (Best-joined (Precedes events) (goes_forward events) to (λ k. (n + 1 ≤ k) × OfThread events a.thread k)
      (λ k. (n + 1 ≤ k) × Gated events n a.operation k) own other g h)

-- the starts of a thread's events, and of those that join it
pub Best-of_thread : (events : List Event) (to n u : ℕ) (own joins : Option Start)
    → IsBest (Precedes events) to (λ k. (n ≤ k) × ActsAs events u k) own
    → IsBest (Precedes events) to (λ k. (n ≤ k) × JoinsThread events u k) joins
    → IsBest (Precedes events) to (λ k. (n ≤ k) × OfThread events u k) (better own joins)
Best-of_thread events to n u own joins g h =
    Best-same (Precedes events) (goes_forward events) to (λ k. ((n ≤ k) × ActsAs events u k) ⊎ ((n ≤ k) × JoinsThread events u k))
    (λ k. (n ≤ k) × OfThread events u k) (better own joins) (λ k t.
    elim t [
      | inl (le, o) ↦ (le, inl o)
      | inr (le, o) ↦ (le, inr o)
    ]) (λ k (le, t).
    elim t [
      | inl o ↦ inl (le, o)
      | inr o ↦ inr (le, o)
    ]) (Best-joined (Precedes events) (goes_forward events) to (λ k. (n ≤ k) × ActsAs events u k) (λ k. (n ≤ k) × JoinsThread events u k) own joins g h)

-- an event before which nothing stands by what it does
pub Best-ungated : (events : List Event) (to n : ℕ) (o : Operation) → ((k : ℕ) → Gated events n o k → ⊥)
    → IsBest (Precedes events) to (λ k. (n + 1 ≤ k) × Gated events n o k) None
Best-ungated events to n o none = Best-none (Precedes events) (goes_forward events) to (λ k. (n + 1 ≤ k) × Gated events n o k) (λ k path (le, h) p. none k h)

pub ungated : (events : List Event) (n : ℕ) (o : Operation) → ((l : ℕ) → o ≡ Release l → ⊥) → ((l : ℕ) → o ≡ Post l → ⊥)
    → ((u : ℕ) → o ≡ Fork u → ⊥) → ((x : ℕ) → o ≡ Arrive x → ⊥) → (k : ℕ) → Gated events n o k → ⊥
ungated events n (Release l) f g h i k p = f l refl
ungated events n (Post l) f g h i k p = g l refl
ungated events n (Fork l) f g h i k p = h l refl
ungated events n (Arrive l) f g h i k p = i l refl
ungated events n (Read v) f g h i k p = p
ungated events n (Write v) f g h i k p = p
ungated events n (Acquire v) f g h i k p = p
ungated events n (Wait v) f g h i k p = p
ungated events n (Join v) f g h i k p = p
ungated events n (Depart v) f g h i k p = p
ungated events n Idle f g h i k p = p

-- where one operation stands for another
pub Best-gate : (events : List Event) (to n : ℕ) (o p : Operation) (best : Option Start) → o ≡ p
    → IsBest (Precedes events) to (λ k. (n + 1 ≤ k) × Gated events n p k) best → IsBest (Precedes events) to (λ k. (n + 1 ≤ k) × Gated events n o k) best
Best-gate events to n o p best e g = subst (λ (x : Operation). IsBest (Precedes events) to (λ k. (n + 1 ≤ k) × Gated events n x k) best) (sym e) g

-- an operation at no barrier has no cycle
pub cycle_in-none : (events : List Event) (n t : ℕ) (o : Operation) → ((x : ℕ) → o ≡ Arrive x → ⊥) → ((x : ℕ) → o ≡ Depart x → ⊥) → cycle_in events n t o ≡ None
cycle_in-none events n t (Arrive x) f g = absurd (f x refl)
cycle_in-none events n t (Depart x) f g = absurd (g x refl)
cycle_in-none events n t (Read v) f g = refl
cycle_in-none events n t (Write v) f g = refl
cycle_in-none events n t (Acquire v) f g = refl
cycle_in-none events n t (Release v) f g = refl
cycle_in-none events n t (Post v) f g = refl
cycle_in-none events n t (Wait v) f g = refl
cycle_in-none events n t (Fork v) f g = refl
cycle_in-none events n t (Join v) f g = refl
cycle_in-none events n t Idle f g = refl

-- what gets no lock
pub got-none : (o : Operation) → ((l : ℕ) → o ≡ Acquire l → ⊥) → ((l : ℕ) → o ≡ Wait l → ⊥) → (l : ℕ) → got o ≡ Some l → ⊥
got-none (Acquire m) f g l e = f m refl
got-none (Wait m) f g l e = g m refl
got-none (Read v) f g l e = cc
got-none (Write v) f g l e = cc
got-none (Release v) f g l e = cc
got-none (Post v) f g l e = cc
got-none (Fork v) f g l e = cc
got-none (Join v) f g l e = cc
got-none (Arrive v) f g l e = cc
got-none (Depart v) f g l e = cc
got-none Idle f g l e = cc

-- behind the last position
pub onward-none : (events : List Event) (to : ℕ) (onward : Onward) → onward.threads.items ≡ [] → onward.locks.items ≡ [] → onward.joins.items ≡ []
    → onward.departs.items ≡ [] → IsOnward events to (to + 1) onward
onward-none events to onward threads locks joins departs = record {
  threads = λ u. subst (λ (row : List (Option Start)). IsBest (Precedes events) to (λ k. (to + 1 ≤ k) × ActsAs events u k) (start_at row u)) (sym threads)
      (Best-past (Precedes events) (goes_forward events) to (ActsAs events u));
  locks = λ l. subst (λ (row : List (Option Start)). IsBest (Precedes events) to (λ k. (to + 1 ≤ k) × GetsLock events l k) (start_at row l)) (sym locks)
      (Best-past (Precedes events) (goes_forward events) to (GetsLock events l));
  joins = λ u. subst (λ (row : List (Option Start)). IsBest (Precedes events) to (λ k. (to + 1 ≤ k) × JoinsThread events u k) (start_at row u)) (sym joins)
      (Best-past (Precedes events) (goes_forward events) to (JoinsThread events u));
  departs = λ x cycle. subst (λ (rows : List (Vec (Option Start) Global)). IsBest (Precedes events) to (λ k. (to + 1 ≤ k) × DepartsIn events x cycle k) (start_in rows x cycle))
      (sym departs) (Best-past (Precedes events) (goes_forward events) to (DepartsIn events x cycle));
}

-- The tables, with the start at position n noted.
module _ (events : List Event) (to n : ℕ) (a : Event) (here : At events n a) (start : Option Start) (g : IsBest (Precedes events) to (λ k. k ≡ n) start) where
  same_operation : {b : Event} → At events n b → b.operation ≡ a.operation
  same_operation at = ap (λ (x : Event). x.operation) (At-one at here)

  pub threads_noted : (row after : List (Option Start)) → IsGained row after a.thread start → AreThreadStarts events to (n + 1) row
      → AreThreadStarts events to n after
  threads_noted row after gained old =
      each-next (Precedes events) (goes_forward events) to n (ActsAs events) (start_at row) (start_at after) old a.thread start gained.here gained.others
      (λ u (b, at, of). sym of ∙ ap (λ (x : Event). x.thread) (At-one at here)) (a, here, refl) g

  pub locks_noted : (l : ℕ) → got a.operation ≡ Some l → (row after : List (Option Start)) → IsGained row after l start
      → AreLockStarts events to (n + 1) row → AreLockStarts events to n after
  locks_noted l is row after gained old =
      each-next (Precedes events) (goes_forward events) to n (GetsLock events) (start_at row) (start_at after) old l start gained.here gained.others
      one (a, here, is) g
    where
      one : (m : ℕ) → GetsLock events m n → m ≡ l
      one m (b, at, gets) = let both : Some m ≡ Some l = sym gets ∙ ap got (same_operation at) ∙ is in cc

  pub locks_kept : ((l : ℕ) → got a.operation ≡ Some l → ⊥) → (row : List (Option Start)) → AreLockStarts events to (n + 1) row
      → AreLockStarts events to n row
  locks_kept none row old =
      each-same (Precedes events) (goes_forward events) to n (GetsLock events) (start_at row) (start_at row) old
      (λ l (b, at, gets). none l (ap got (sym (same_operation at)) ∙ gets))

  pub joins_noted : (u : ℕ) → a.operation ≡ Join u → (row after : List (Option Start)) → IsGained row after u start
      → AreJoinStarts events to (n + 1) row → AreJoinStarts events to n after
  joins_noted u is row after gained old =
      each-next (Precedes events) (goes_forward events) to n (JoinsThread events) (start_at row) (start_at after) old u start gained.here gained.others
      one (a, here, is) g
    where
      one : (w : ℕ) → JoinsThread events w n → w ≡ u
      one w (b, at, joins) = let both : Join w ≡ Join u = sym joins ∙ same_operation at ∙ is in cc

  pub joins_kept : ((u : ℕ) → a.operation ≡ Join u → ⊥) → (row : List (Option Start)) → AreJoinStarts events to (n + 1) row
      → AreJoinStarts events to n row
  joins_kept none row old =
      each-same (Precedes events) (goes_forward events) to n (JoinsThread events) (start_at row) (start_at row) old
      (λ u (b, at, joins). none u (sym (same_operation at) ∙ joins))

  -- the thread's cycle is that of the event
  same_cycle : {b : Event} → At events n b → (x : ℕ) → (cycles_before events x n).of b.thread ≡ (cycles_before events x n).of a.thread
  same_cycle at x = ap (λ (y : Event). (cycles_before events x n).of y.thread) (At-one at here)

  pub departs_kept : ((x cycle : ℕ) → DepartsIn events x cycle n → ⊥) → (rows : List (Vec (Option Start) Global)) → AreDepartStarts events to (n + 1) rows
      → AreDepartStarts events to n rows
  departs_kept none rows old x =
      each-same (Precedes events) (goes_forward events) to n (DepartsIn events x) (start_in rows x) (start_in rows x) (old x) (none x)

  pub departs_noted : (x c : ℕ) → a.operation ≡ Depart x → (cycles_before events x n).of a.thread ≡ Some c
      → (rows after : List (Vec (Option Start) Global)) → IsGainedIn rows after x c start → AreDepartStarts events to (n + 1) rows
      → AreDepartStarts events to n after
  departs_noted x c is of rows after gained old y cycle =
      elim (cases_eq y x) [
        | inl same ↦
            subst (λ (z : ℕ). IsBest (Precedes events) to (λ k. (n ≤ k) × DepartsIn events z cycle k) (start_in after z cycle)) (sym same)
            (each-next (Precedes events) (goes_forward events) to n (DepartsIn events x) (start_in rows x) (start_in after x) (old x) c start
            gained.here gained.others one (a, here, is, of) g cycle)
        | inr other ↦
            subst (λ (b : Option Start). IsBest (Precedes events) to (λ k. (n ≤ k) × DepartsIn events y cycle k) b) (sym (gained.rows y cycle other))
            (each-same (Precedes events) (goes_forward events) to n (DepartsIn events y) (start_in rows y) (start_in rows y) (old y) (apart other) cycle)
      ]
    where
      one : (m : ℕ) → DepartsIn events x m n → m ≡ c
      one m (b, at, departs, cycle_of) = let both : Some m ≡ Some c = sym cycle_of ∙ same_cycle at x ∙ of in cc

      apart : y ≢ x → (m : ℕ) → DepartsIn events y m n → ⊥
      apart other m (b, at, departs, cycle_of) = let both : Depart y ≡ Depart x = sym departs ∙ same_operation at ∙ is in let same : y ≡ x = cc in other same

  -- a depart of a cycle is noted there, and one of none is not
  pub depart_noted : (x : ℕ) (number : Option ℕ) → a.operation ≡ Depart x → number ≡ cycle_in events n a.thread a.operation
      → (rows after : List (Vec (Option Start) Global)) → ((c : ℕ) → number ≡ Some c → IsGainedIn rows after x c start) → (number ≡ None → after ≡ rows)
      → AreDepartStarts events to (n + 1) rows → AreDepartStarts events to n after
  depart_noted x (Some c) is e rows after some none old =
      departs_noted x c is (sym (e ∙ ap (cycle_in events n a.thread) is)) rows after (some c refl) old
  depart_noted x None is e rows after some none old =
      subst (λ (r : List (Vec (Option Start) Global)). AreDepartStarts events to n r) (sym (none refl)) (departs_kept nowhere rows old)
    where
      nowhere : (y c : ℕ) → DepartsIn events y c n → ⊥
      nowhere y c (b, at, departs, cycle_of) =
          let both : Depart y ≡ Depart x = sym departs ∙ same_operation at ∙ is in
          let same : y ≡ x = cc in
          let here_too : (cycles_before events x n).of a.thread ≡ Some c =
          ap (λ (z : ℕ). (cycles_before events z n).of a.thread) (sym same) ∙ sym (same_cycle at y) ∙ cycle_of in
          let never : None ≡ Some c = e ∙ ap (cycle_in events n a.thread) is ∙ here_too in
          cc

  pub depart_kept : ((x : ℕ) → a.operation ≡ Depart x → ⊥) → (rows : List (Vec (Option Start) Global)) → AreDepartStarts events to (n + 1) rows
      → AreDepartStarts events to n rows
  depart_kept none rows old = departs_kept (λ x c (b, at, departs, of). none x (sym (same_operation at) ∙ departs)) rows old

-- the better of two that are read of the tables
pub of_thread-best : (events : List Event) (to n u : ℕ) (threads joins : List (Option Start)) (own joined best : Option Start) → own ≡ start_at threads u
    → joined ≡ start_at joins u → best ≡ better own joined → AreThreadStarts events to n threads → AreJoinStarts events to n joins
    → IsBest (Precedes events) to (λ k. (n ≤ k) × OfThread events u k) best
of_thread-best events to n u threads joins own joined best e f is g h =
    subst (λ (b : Option Start). IsBest (Precedes events) to (λ k. (n ≤ k) × OfThread events u k) b) (sym is)
    (Best-of_thread events to n u own joined
    (subst (λ (b : Option Start). IsBest (Precedes events) to (λ k. (n ≤ k) × ActsAs events u k) b) (sym e) (g u))
    (subst (λ (b : Option Start). IsBest (Precedes events) to (λ k. (n ≤ k) × JoinsThread events u k) b) (sym f) (h u)))

pub locks-best : (events : List Event) (to n l : ℕ) (locks : List (Option Start)) (best : Option Start) → best ≡ start_at locks l
    → AreLockStarts events to n locks → IsBest (Precedes events) to (λ k. (n ≤ k) × GetsLock events l k) best
locks-best events to n l locks best e g = subst (λ (b : Option Start). IsBest (Precedes events) to (λ k. (n ≤ k) × GetsLock events l k) b) (sym e) (g l)

pub cycle-best : (events : List Event) (to n x : ℕ) (rows : List (Vec (Option Start) Global)) (best : Option Start)
    → best ≡ start_in rows x (cycles_before events x n).current → AreDepartStarts events to (n + 1) rows
    → IsBest (Precedes events) to (λ k. (n + 1 ≤ k) × DepartsIn events x (cycles_before events x n).current k) best
cycle-best events to n x rows best e g =
    subst (λ (b : Option Start). IsBest (Precedes events) to (λ k. (n + 1 ≤ k) × DepartsIn events x (cycles_before events x n).current k) b) (sym e)
    (g x (cycles_before events x n).current)
