-- What a turn does to the arrivals that the manager keeps, and whether it ends the episode.
use Rattle.std.proofs.Common.{◌≡◌, ◌⊎◌, ℕ, zero, suc, ◌+◌, List, [], ◌∷◌, Bool, true, false, map, refl, sym, ap, subst, ◌∙◌, inl, inr}
use Rattle.std.specs.Prelude.{Option, Some, None, Contains, unwrap_or, replicate, slice_index_or, slice_set}
use Rattle.std.proofs.lemmas.Option.{same_Some}
use Rattle.lrc_envelope.specs.Records.{ArriveRecord, DepartRecord}
use Rattle.lrc_envelope.specs.declared.message.Message.{Message}
use Rattle.lrc_envelope.specs.declared.message.Message.TheVariants.{Arrive, Depart}
use Rattle.lrc_exec.specs.Meaning.{Thread, arrives}
use Rattle.lrc_protocol.specs.Node.{next_in}
use Rattle.lrc_store.proofs.Orders.{cases_Contains, none_Contains}
use Rattle.lrc_barrier.specs.declared.arrival.Arrival.{Arrival}
use Rattle.lrc_barrier.specs.declared.departure.Departure.{Departure}
use Rattle.lrc_barrier.specs.Barrier.{ManagerRecord}
use Rattle.lrc_protocol.specs.Locks.{Locks}
use Rattle.lrc_protocol.specs.Barriers.{arrival_in, Barrier}
use Rattle.lrc_protocol.specs.Node.{Letter, Wait, nothing, departure}
use Rattle.lrc_protocol.specs.Turn.{letter, departure_of}
use Rattle.lrc_order_laws.specs.Barriers.{says_arrive, says_depart, time_in}
use Rattle.lrc_order_laws.proofs.Sends.{Came, comes, Site}
use Rattle.lrc_order_laws.proofs.Managers.{Gathered, gathered, LetGo, let_go}
use Rattle.lrc_order_laws.proofs.Moves.{quiet_in}
use Rattle.lrc_order_laws.proofs.Passing.{SameArrivals, same_arrivals, Passing, arrives_so, told_so, gathers_so, lets_depart_so, other_so}

-- ---- places

-- what stands at a place afterwards was put there, or stood there before
pub get_set : {X : Type 0} (xs : List (Option X)) (k m : ℕ) (y x : X) → slice_index_or (slice_set xs k (Some y)) m None ≡ Some x
    → ((k ≡ m) × (y ≡ x)) ⊎ (slice_index_or xs m None ≡ Some x)
get_set [] k m y x e = inr e
get_set (z ∷ xs) zero zero y x e = inl (refl, same_Some y x e)
get_set (z ∷ xs) zero (suc m) y x e = inr e
get_set (z ∷ xs) (suc k) zero y x e = inr e
get_set (z ∷ xs) (suc k) (suc m) y x e = elim (get_set xs k m y x e) [
  | inl here ↦ inl (ap suc here.0, here.1)
  | inr there ↦ inr there
]

no_place : (k m : ℕ) (a : Arrival) → slice_index_or (replicate k None) m None ≡ Some a → ⊥
no_place zero m a e = cc
no_place (suc k) zero a e = cc
no_place (suc k) (suc m) a e = no_place k m a e

by_keeps : (o p : Option ManagerRecord) (manager : ManagerRecord) → p ≡ o → ((x : ManagerRecord) → o ≡ Some x → x ≡ manager)
    → SameArrivals manager (unwrap_or p manager)
by_keeps o p manager e is = subst (λ p. SameArrivals manager (unwrap_or p manager)) (sym e) (same_arrivals o manager is)

module _ (s : Site) (manager : ManagerRecord) (is : (x : ManagerRecord) → s.barrier.manager ≡ Some x → x ≡ manager) where
  -- an arrival that is kept afterwards was kept before, or came
  pub kept_before : (came : Came) (acts : Bool) (wait : Wait) (locks : Locks) (barrier : Barrier) (letters : List Letter)
      → Passing s came acts wait locks barrier letters → (m : ℕ) (a : Arrival) → slice_index_or (unwrap_or barrier.manager manager).arrivals m None ≡ Some a
      → (slice_index_or manager.arrivals m None ≡ Some a) ⊎ ((r : ArriveRecord) × (came ≡ comes m (Arrive r)) × (a ≡ arrival_in r))
  kept_before _ _ _ _ barrier _ (arrives_so r after w n time same episode) m a e =
      inl (ap (λ xs. slice_index_or xs m None) (sym (by_keeps s.barrier.manager barrier.manager manager same is).arrivals) ∙ e)
  kept_before _ _ _ _ barrier _ (told_so from r w ne times quiet) m a e =
      inl (ap (λ xs. slice_index_or xs m None) (sym (by_keeps s.barrier.manager barrier.manager manager refl is).arrivals) ∙ e)
  kept_before _ _ _ _ barrier _ (gathers_so from r before after at step manager_is episode) m a e =
      let g : Gathered manager from (arrival_in r) after =
      subst (λ b. Gathered b from (arrival_in r) after) (is before at) (gathered before from (arrival_in r) after step) in
      let now : slice_index_or (slice_set manager.arrivals from (Some (arrival_in r))) m None ≡ Some a =
      ap (λ (x : ManagerRecord). slice_index_or x.arrivals m None) (sym (ap (λ o. unwrap_or o manager) manager_is ∙ g.after_is)) ∙ e in
      elim (get_set manager.arrivals from m (arrival_in r) a now) [
        | inl here ↦ inr (r, ap (λ k. comes k (Arrive r)) here.0, sym here.1)
        | inr there ↦ inl there
      ]
  kept_before _ _ _ _ barrier _ (lets_depart_so from r before after departures at sized step manager_is episode) m a e =
      let g : LetGo manager from (arrival_in r) after departures =
      subst (λ b. LetGo b from (arrival_in r) after departures) (is before at) (let_go before from (arrival_in r) after departures step) in
      absurd (no_place _ m a
      (ap (λ (x : ManagerRecord). slice_index_or x.arrivals m None) (sym (ap (λ o. unwrap_or o manager) manager_is ∙ g.after_is)) ∙ e))
  kept_before _ _ _ _ barrier _ (other_so quiet keeps episode waits time times) m a e =
      inl (ap (λ xs. slice_index_or xs m None) (sym (keeps manager is).arrivals) ∙ e)

  -- the last arrival ends the episode: all are told to depart
  pub record LetsAll (came : Came) (acts : Bool) (wait : Wait) (locks : Locks) (barrier : Barrier) (letters : List Letter) : Type 0 where
    pub from : ℕ
    pub arrive : ArriveRecord
    pub after : ManagerRecord
    pub departures : List Departure
    pub came_is : came ≡ comes from (Arrive arrive)
    pub acts_is : acts ≡ false
    pub wait_is : wait ≡ s.wait
    pub locks_is : locks ≡ s.locks
    pub manager_is : barrier.manager ≡ Some after
    pub lets : LetGo manager from (arrival_in arrive) after departures
    pub letters_is : letters ≡ map departure_of departures

  pub record GoesOn (barrier : Barrier) (letters : List Letter) : Type 0 where
    pub over : (unwrap_or barrier.manager manager).done ≡ manager.done
    pub no_departs : (l : Letter) → Contains letters l → says_depart l.message ≡ false

  one_arrive : (r : ArriveRecord) (l : Letter) → Contains (letter 0 (Arrive r) ∷ []) l → says_depart l.message ≡ false
  one_arrive r l there = elim (cases_Contains (letter 0 (Arrive r)) [] l there) [
    | inl e ↦ subst (λ (l : Letter). says_depart l.message ≡ false) e refl
    | inr none ↦ absurd (none_Contains l none)
  ]

  pub lets_or_not : (came : Came) (acts : Bool) (wait : Wait) (locks : Locks) (barrier : Barrier) (letters : List Letter)
      → Passing s came acts wait locks barrier letters → LetsAll came acts wait locks barrier letters ⊎ GoesOn barrier letters
  lets_or_not _ _ _ _ barrier _ (arrives_so r after w n time same episode) =
      inr (record { over = (by_keeps s.barrier.manager barrier.manager manager same is).done; no_departs = one_arrive r })
  lets_or_not _ _ _ _ barrier letters (told_so from r w ne times quiet) =
      inr (record { over = (by_keeps s.barrier.manager barrier.manager manager refl is).done; no_departs = λ l there. (quiet_in letters l quiet there).1 })
  lets_or_not _ _ _ _ barrier _ (gathers_so from r before after at step manager_is episode) =
      let g : Gathered manager from (arrival_in r) after =
      subst (λ b. Gathered b from (arrival_in r) after) (is before at) (gathered before from (arrival_in r) after step) in
      inr (record {
        over = ap (λ (x : ManagerRecord). x.done) (ap (λ o. unwrap_or o manager) manager_is ∙ g.after_is);
        no_departs = λ l there. absurd (none_Contains l there);
      })
  lets_or_not _ _ _ _ barrier _ (lets_depart_so from r before after departures at sized step manager_is episode) =
      inl (record {
        from = from;
        arrive = r;
        after = after;
        departures = departures;
        came_is = refl;
        acts_is = refl;
        wait_is = refl;
        locks_is = refl;
        manager_is = manager_is;
        lets = subst (λ b. LetGo b from (arrival_in r) after departures) (is before at) (let_go before from (arrival_in r) after departures step);
        letters_is = refl;
      })
  lets_or_not _ _ _ _ barrier letters (other_so quiet keeps episode waits time times) =
      inr (record { over = (keeps manager is).done; no_departs = λ l there. (quiet_in letters l quiet there).1 })

-- who waits to depart, and is told nothing, has the time that it had
pub own_time : (s : Site) (came : Came) (acts : Bool) (wait : Wait) (locks : Locks) (barrier : Barrier) (letters : List Letter)
    → Passing s came acts wait locks barrier letters → s.wait ≡ departure → ((from : ℕ) (r : DepartRecord) → came ≡ comes from (Depart r) → ⊥)
    → locks.time ≡ s.locks.time
own_time s _ _ _ _ _ _ (arrives_so r after w n time same episode) d none = absurd (not_both (sym w ∙ d))
  where
    not_both : nothing ≡ departure → ⊥
    not_both e = cc
own_time s _ _ _ _ _ _ (told_so from r w ne times quiet) d none = absurd (none from r refl)
own_time s _ _ _ _ _ _ (gathers_so from r before after at step manager_is episode) d none = refl
own_time s _ _ _ _ _ _ (lets_depart_so from r before after departures at sized step manager_is episode) d none = refl
own_time s _ _ _ _ _ _ (other_so quiet keeps episode waits time times) d none = time d

-- ---- what is sent

arrive_time : Message → Option (List ℕ)
arrive_time (Arrive r) = Some r.time
arrive_time _ = None

no_arrive : (message : Message) (m : ArriveRecord) → message ≡ Arrive m → says_arrive message ≡ false → ⊥
no_arrive message m e not_so = impossible (ap says_arrive (sym e) ∙ not_so)
  where
    impossible : true ≡ false → ⊥
    impossible e = cc

all_departs : (departures : List Departure) (l : Letter) → Contains (map departure_of departures) l → says_arrive l.message ≡ false
all_departs [] l there = absurd (none_Contains l there)
all_departs (d ∷ departures) l there = elim (cases_Contains (departure_of d) (map departure_of departures) l there) [
  | inl e ↦ subst (λ (l : Letter). says_arrive l.message ≡ false) e refl
  | inr later ↦ all_departs departures l later
]

-- an Arrive that is sent has the node's time
pub sent_time : (s : Site) (came : Came) (acts : Bool) (wait : Wait) (locks : Locks) (barrier : Barrier) (letters : List Letter)
    → Passing s came acts wait locks barrier letters → (l : Letter) (m : ArriveRecord) → Contains letters l → l.message ≡ Arrive m → m.time ≡ locks.time
unfolding arrive_time
sent_time s _ _ _ _ _ _ (arrives_so r after w n time same episode) l m there e = elim (cases_Contains (letter 0 (Arrive r)) [] l there) [
  | inl is ↦ same_Some m.time r.time (ap arrive_time (sym e) ∙ ap (λ (l : Letter). arrive_time l.message) (sym is)) ∙ time
  | inr none ↦ absurd (none_Contains l none)
]
sent_time s _ _ _ _ _ letters (told_so from r w ne times quiet) l m there e = absurd (no_arrive l.message m e (quiet_in letters l quiet there).0)
sent_time s _ _ _ _ _ _ (gathers_so from r before after at step manager_is episode) l m there e = absurd (none_Contains l there)
sent_time s _ _ _ _ _ _ (lets_depart_so from r before after departures at sized step manager_is episode) l m there e =
    absurd (no_arrive l.message m e (all_departs departures l there))
sent_time s _ _ _ _ _ letters (other_so quiet keeps episode waits time times) l m there e =
    absurd (no_arrive l.message m e (quiet_in letters l quiet there).0)

-- ---- who waits to depart, and who collects

-- who waits to depart afterwards has just arrived, or waited so before
pub record Arrives_now (s : Site) (acts : Bool) (barrier : Barrier) : Type 0 where
  pub after : Thread
  pub next : next_in s.course ≡ Some (arrives after)
  pub acts_is : acts ≡ true
  pub episode : barrier.episode ≡ s.barrier.episode + 1

pub record Waited (s : Site) (acts : Bool) (locks : Locks) (barrier : Barrier) : Type 0 where
  pub waited : s.wait ≡ departure
  pub acts_is : acts ≡ false
  pub time : locks.time ≡ s.locks.time
  pub episode : barrier.episode ≡ s.barrier.episode

pub waiting_then : (s : Site) (came : Came) (acts : Bool) (wait : Wait) (locks : Locks) (barrier : Barrier) (letters : List Letter)
    → Passing s came acts wait locks barrier letters → wait ≡ departure → Arrives_now s acts barrier ⊎ Waited s acts locks barrier
waiting_then s _ _ _ _ _ _ (arrives_so r after w n time same episode) d = inl (record { after = after; next = n; acts_is = refl; episode = episode })
waiting_then s _ _ _ _ _ _ (told_so from r w ne times quiet) d = absurd (ne d)
waiting_then s _ _ _ _ _ _ (gathers_so from r before after at step manager_is episode) d =
    inr (record { waited = d; acts_is = refl; time = refl; episode = episode })
waiting_then s _ _ _ _ _ _ (lets_depart_so from r before after departures at sized step manager_is episode) d =
    inr (record { waited = d; acts_is = refl; time = refl; episode = episode })
waiting_then s _ _ _ _ _ _ (other_so quiet keeps episode waits time times) d =
    inr (record { waited = (waits d).0; acts_is = (waits d).1; time = time (waits d).0; episode = episode })

-- who collects afterwards is told so, or collected before
pub collecting_then : (s : Site) (came : Came) (acts : Bool) (wait : Wait) (locks : Locks) (barrier : Barrier) (letters : List Letter)
    → Passing s came acts wait locks barrier letters → (t : List ℕ) → time_in wait ≡ Some t
    → ((from : ℕ) × (r : DepartRecord) × (came ≡ comes from (Depart r)) × (r.time ≡ t)) ⊎ (time_in s.wait ≡ Some t)
collecting_then s _ _ _ _ _ _ (arrives_so r after w n time same episode) t e = absurd (none_some e)
  where
    none_some : None ≡ Some t → ⊥
    none_some e = cc
collecting_then s _ _ _ _ _ _ (told_so from r w ne times quiet) t e = inl (from, r, refl, times t e)
collecting_then s _ _ _ _ _ _ (gathers_so from r before after at step manager_is episode) t e = inr e
collecting_then s _ _ _ _ _ _ (lets_depart_so from r before after departures at sized step manager_is episode) t e = inr e
collecting_then s _ _ _ _ _ _ (other_so quiet keeps episode waits time times) t e = inr (times t e)
