-- What the barrier's manager keeps, after each of its calls.
use Rattle.std.proofs.Common.{◌≡◌, ℕ, zero, suc, ◌+◌, ◌<◌, ◌≤◌, ◌&&◌, List, [], ◌∷◌, Bool, true, false, cond, not}
use Rattle.std.proofs.Common.{is_some, length, map, refl, sym, ap, subst, ◌∙◌, inl, inr, arith}
use Rattle.std.specs.Prelude.{Option, Some, None, ◌==◌, unwrap_or, option_map, count_by, replicate, slice_index_or, slice_set, if◌then◌else◌}
use Rattle.std.specs.List.{enumerate_from, list_all, range_with_len}
use Rattle.std.proofs.lemmas.Bool.{cases_eq, eqb-true, eq-eqb, ne_eqb, and_parts}
use Rattle.std.proofs.lemmas.List.{length-set, length-map, length-replicate, get_or-set_same, get_or-set_other}
use Rattle.std.proofs.lemmas.Option.{same_Some}
use Rattle.lrc_barrier.specs.declared.arrival.Arrival.{Arrival}
use Rattle.lrc_barrier.specs.declared.departure.Departure.{Departure}
use Rattle.lrc_barrier.specs.declared.fault.BarrierFault.TheVariants.{WrongEpisode, Twice}
use Rattle.lrc_barrier.specs.Barrier.{ManagerRecord, is_next, has_arrived, with_arrival, arrivals_of, asks, departure_to, departures_of}
use Rattle.lrc_barrier.specs.Barrier.{departed, ArriveStep, refuses, waits, departs, arrived, CleanStep, refuses_clean, awaits, discards}
use Rattle.lrc_barrier.specs.Barrier.{cleaned_by, cleaned}
use Rattle.lrc_barrier.proofs.Filled.{all_arrived}
use Rattle.lrc_protocol.specs.Node.{Letter}
use Rattle.lrc_protocol.specs.Turn.{letter, departure_of, discards_to}
use Rattle.lrc_envelope.specs.declared.message.Message.TheVariants.{Discard}
use Rattle.lrc_order_laws.specs.Barriers.{says_depart, says_discard, kept_of, noted_of}
use Rattle.lrc_order_laws.proofs.Flows.{count-cons}

-- ---- an arrival

-- it is for the next episode, no collection is under way, and the node had not arrived
pub record Arrives (before : ManagerRecord) (from : ℕ) (arrival : Arrival) : Type 0 where
  pub next : arrival.episode ≡ before.done + 1
  pub free : before.cleans ≡ None
  pub first : has_arrived before from ≡ false

none_some : {X : Type 0} (o : Option X) → not (is_some o) ≡ true → o ≡ None
none_some None e = refl
none_some (Some x) e = cc

arrives_so : (before : ManagerRecord) (from : ℕ) (arrival : Arrival) → is_next before arrival.episode ≡ true → has_arrived before from ≡ false
    → Arrives before from arrival
arrives_so before from arrival e first =
    let both : _ = and_parts _ _ e in
    record { next = eqb-true _ _ both.0; free = none_some before.cleans both.1; first = first }

abbrev kept_in : ArriveStep → Option ManagerRecord
kept_in (refuses fault) = None
kept_in (waits manager) = Some manager
kept_in (departs departures manager) = Some manager

abbrev told_in : ArriveStep → Option (List Departure)
told_in (refuses fault) = None
told_in (waits manager) = None
told_in (departs departures manager) = Some departures

module _ (before : ManagerRecord) (from : ℕ) (arrival : Arrival) (after : ManagerRecord) where
  pub record Gathered : Type 0 where
    pub arrives : Arrives before from arrival
    pub after_is : after ≡ with_arrival before from arrival

  gathered_by : (a b c : Bool) → is_next before arrival.episode ≡ a → has_arrived before from ≡ b
      → (if a
      then (if b
      then refuses Twice
      else (if c
      then departs (departures_of (arrivals_of (with_arrival before from arrival))) (departed (with_arrival before from arrival))
      else waits (with_arrival before from arrival)))
      else refuses WrongEpisode) ≡ waits after → Gathered
  gathered_by true false false next first e = record {
    arrives = arrives_so before from arrival next first;
    after_is = sym (same_Some (with_arrival before from arrival) after (ap kept_in e));
  }
  gathered_by true false true next first e = cc
  gathered_by true true c next first e = cc
  gathered_by false b c next first e = cc

  pub gathered : arrived before from arrival ≡ waits after → Gathered
  gathered e = gathered_by (is_next before arrival.episode) (has_arrived before from) (list_all is_some (with_arrival before from arrival).arrivals) refl refl e

  pub record LetGo (departures : List Departure) : Type 0 where
    pub arrives : Arrives before from arrival
    pub all : list_all is_some (with_arrival before from arrival).arrivals ≡ true
    pub told : departures ≡ departures_of (arrivals_of (with_arrival before from arrival))
    pub after_is : after ≡ departed (with_arrival before from arrival)

  let_go_by : (departures : List Departure) (a b c : Bool) → is_next before arrival.episode ≡ a → has_arrived before from ≡ b
      → list_all is_some (with_arrival before from arrival).arrivals ≡ c
      → (if a
      then (if b
      then refuses Twice
      else (if c
      then departs (departures_of (arrivals_of (with_arrival before from arrival))) (departed (with_arrival before from arrival))
      else waits (with_arrival before from arrival)))
      else refuses WrongEpisode) ≡ departs departures after → LetGo departures
  let_go_by departures true false true next first all e = record {
    arrives = arrives_so before from arrival next first;
    all = all;
    told = sym (same_Some (departures_of (arrivals_of (with_arrival before from arrival))) departures (ap told_in e));
    after_is = sym (same_Some (departed (with_arrival before from arrival)) after (ap kept_in e));
  }
  let_go_by departures true false false next first all e = cc
  let_go_by departures true true c next first all e = cc
  let_go_by departures false b c next first all e = cc

  pub let_go : (departures : List Departure) → arrived before from arrival ≡ departs departures after → LetGo departures
  let_go departures e =
      let_go_by departures (is_next before arrival.episode) (has_arrived before from)
      (list_all is_some (with_arrival before from arrival).arrivals) refl refl refl e

-- ---- a Clean

abbrev noting : CleanStep → Option ManagerRecord
noting (refuses_clean fault) = None
noting (awaits manager) = Some manager
noting (discards episode manager) = Some manager

abbrev over_in : CleanStep → Option ℕ
over_in (refuses_clean fault) = None
over_in (awaits manager) = None
over_in (discards episode manager) = Some episode

module _ (before : ManagerRecord) (from episode : ℕ) (after : ManagerRecord) where
  pub record Noted : Type 0 where
    pub cleans : List Bool
    pub under_way : before.cleans ≡ Some cleans
    pub episode_is : episode ≡ before.done
    pub first : slice_index_or cleans from false ≡ false
    pub after_is : after ≡ record before { cleans = Some (slice_set cleans from true) }

  pub record LetDiscard (over : ℕ) : Type 0 where
    pub cleans : List Bool
    pub under_way : before.cleans ≡ Some cleans
    pub episode_is : episode ≡ before.done
    pub first : slice_index_or cleans from false ≡ false
    pub all : list_all (λ clean. clean) (slice_set cleans from true) ≡ true
    pub over_is : over ≡ before.done
    pub after_is : after ≡ record before { cleans = None }

  noted_by : (cleans : List Bool) (a b c : Bool) → before.cleans ≡ Some cleans → (episode == before.done) ≡ a → slice_index_or cleans from false ≡ b
      → (if a
      then (if b
      then refuses_clean Twice
      else (if c then discards before.done (record before { cleans = None }) else awaits (record before { cleans = Some (slice_set cleans from true) })))
      else refuses_clean WrongEpisode) ≡ awaits after → Noted
  noted_by cleans true false false is at first e = record {
    cleans = cleans;
    under_way = is;
    episode_is = eqb-true _ _ at;
    first = first;
    after_is = sym (same_Some (record before { cleans = Some (slice_set cleans from true) }) after (ap noting e));
  }
  noted_by cleans true false true is at first e = cc
  noted_by cleans true true c is at first e = cc
  noted_by cleans false b c is at first e = cc

  noted_with : (o : Option (List Bool)) → before.cleans ≡ o → cleaned_by before from episode o ≡ awaits after → Noted
  noted_with None is e = cc
  noted_with (Some cleans) is e =
      noted_by cleans (episode == before.done) (slice_index_or cleans from false) (list_all (λ clean. clean) (slice_set cleans from true)) is refl refl e

  pub noted : cleaned before from episode ≡ awaits after → Noted
  noted e = noted_with before.cleans refl e

  let_discard_by : (over : ℕ) (cleans : List Bool) (a b c : Bool) → before.cleans ≡ Some cleans → (episode == before.done) ≡ a
      → slice_index_or cleans from false ≡ b → list_all (λ clean. clean) (slice_set cleans from true) ≡ c
      → (if a
      then (if b
      then refuses_clean Twice
      else (if c then discards before.done (record before { cleans = None }) else awaits (record before { cleans = Some (slice_set cleans from true) })))
      else refuses_clean WrongEpisode) ≡ discards over after → LetDiscard over
  let_discard_by over cleans true false true is at first all e = record {
    cleans = cleans;
    under_way = is;
    episode_is = eqb-true _ _ at;
    first = first;
    all = all;
    over_is = sym (same_Some before.done over (ap over_in e));
    after_is = sym (same_Some (record before { cleans = None }) after (ap noting e));
  }
  let_discard_by over cleans true false false is at first all e = cc
  let_discard_by over cleans true true c is at first all e = cc
  let_discard_by over cleans false b c is at first all e = cc

  let_discard_with : (over : ℕ) (o : Option (List Bool)) → before.cleans ≡ o → cleaned_by before from episode o ≡ discards over after → LetDiscard over
  let_discard_with over None is e = cc
  let_discard_with over (Some cleans) is e =
      let_discard_by over cleans (episode == before.done) (slice_index_or cleans from false)
      (list_all (λ clean. clean) (slice_set cleans from true)) is refl refl refl e

  pub let_discard : (over : ℕ) → cleaned before from episode ≡ discards over after → LetDiscard over
  let_discard over e = let_discard_with over before.cleans refl e

-- ---- places

-- there is a place for each node
pub record Places (nodes : ℕ) (manager : ManagerRecord) : Type 0 where
  pub last : length manager.last ≡ nodes
  pub arrivals : length manager.arrivals ≡ nodes
  pub cleans : (cleans : List Bool) → manager.cleans ≡ Some cleans → length cleans ≡ nodes

pub places-arrival : (nodes : ℕ) (manager : ManagerRecord) (from : ℕ) (arrival : Arrival) → Places nodes manager
    → Places nodes (with_arrival manager from arrival)
places-arrival nodes manager from arrival p = record {
  last = length-set manager.last from _ ∙ p.last;
  arrivals = length-set manager.arrivals from (Some arrival) ∙ p.arrivals;
  cleans = p.cleans;
}

cleans_by : (b : Bool) (k nodes : ℕ) (cleans : List Bool) → k ≡ nodes → (if b then Some (replicate k false) else None) ≡ Some cleans → length cleans ≡ nodes
cleans_by true k nodes cleans is e = ap length (sym (same_Some (replicate k false) cleans e)) ∙ length-replicate k false ∙ is
cleans_by false k nodes cleans is e = cc

pub places-departed : (nodes : ℕ) (manager : ManagerRecord) → Places nodes manager → Places nodes (departed manager)
places-departed nodes manager p = record {
  last = p.last;
  arrivals = length-replicate (length manager.last) None ∙ p.last;
  cleans = λ cleans e. cleans_by (asks (arrivals_of manager)) (length manager.last) nodes cleans p.last e;
}

pub places-noted : (nodes : ℕ) (manager : ManagerRecord) (cleans : List Bool) → length cleans ≡ nodes → Places nodes manager
    → Places nodes (record manager { cleans = Some cleans })
places-noted nodes manager cleans is p = record {
  last = p.last;
  arrivals = p.arrivals;
  cleans = λ others e. ap length (sym (same_Some cleans others e)) ∙ is;
}

pub places-over : (nodes : ℕ) (manager : ManagerRecord) → Places nodes manager → Places nodes (record manager { cleans = None })
places-over nodes manager p = record { last = p.last; arrivals = p.arrivals; cleans = λ others e. cc }

-- ---- counts

pub passing : (p : Bool) → p ≡ true → cond {A = ℕ} p 1 0 ≡ 1
passing true e = refl
passing false e = cc

pub failing : (p : Bool) → p ≡ false → cond {A = ℕ} p 1 0 ≡ 0
failing true e = cc
failing false e = refl

-- an arrival more
pub kept-more : (manager : ManagerRecord) (from : ℕ) (arrival : Arrival) (m : ℕ) → from < length manager.arrivals → has_arrived manager from ≡ false
    → kept_of (with_arrival manager from arrival) m ≡ kept_of manager m + cond (from == m) 1 0
kept-more manager from arrival m lt first = elim (cases_eq m from) [
  | inl e ↦
      let here : kept_of (with_arrival manager from arrival) from ≡ 1 =
      ap (λ (o : Option Arrival). cond (is_some o) 1 0) (get_or-set_same manager.arrivals from (Some arrival) None lt) in
      let none : kept_of manager from ≡ 0 = failing (has_arrived manager from) first in
      let one : cond (from == from) 1 0 ≡ 1 = passing (from == from) (eq-eqb from from refl) in
      subst (λ m. kept_of (with_arrival manager from arrival) m ≡ kept_of manager m + cond (from == m) 1 0) (sym e) (omega (arith, here, none, one))
  | inr ne ↦
      let same : kept_of (with_arrival manager from arrival) m ≡ kept_of manager m =
      ap (λ (o : Option Arrival). cond (is_some o) 1 0) (get_or-set_other manager.arrivals from m (Some arrival) None ne) in
      let zero : cond (from == m) 1 0 ≡ 0 = failing (from == m) (ne_eqb from m (λ e. ne (sym e))) in
      omega (arith, same, zero)
]

all_kept : (places : List (Option Arrival)) (m : ℕ) → list_all is_some places ≡ true → m < length places → is_some (slice_index_or places m None) ≡ true
all_kept [] m all lt = absurd (omega (arith, lt))
all_kept (place ∷ places) zero all lt = (and_parts _ _ all).0
all_kept (place ∷ places) (suc m) all lt = all_kept places m (and_parts _ _ all).1 (omega (arith, lt))

pub kept-all : (manager : ManagerRecord) (m : ℕ) → list_all is_some manager.arrivals ≡ true → m < length manager.arrivals → kept_of manager m ≡ 1
kept-all manager m all lt = passing (has_arrived manager m) (all_kept manager.arrivals m all lt)

no_arrival : Option Arrival
no_arrival = None

none_kept : (k m : ℕ) → is_some (slice_index_or (replicate k no_arrival) m no_arrival) ≡ false
unfolding no_arrival
none_kept zero m = refl
none_kept (suc k) zero = refl
none_kept (suc k) (suc m) = none_kept k m

pub kept-departed : (manager : ManagerRecord) (m : ℕ) → kept_of (departed manager) m ≡ 0
unfolding no_arrival
kept-departed manager m = failing (has_arrived (departed manager) m) (none_kept (length manager.last) m)

no_clean : (k m : ℕ) → slice_index_or (replicate k false) m false ≡ false
no_clean zero m = refl
no_clean (suc k) zero = refl
no_clean (suc k) (suc m) = no_clean k m

abbrev pub noted_in : Option (List Bool) → ℕ → ℕ
noted_in cleans m = cond (unwrap_or (option_map (λ cleans. slice_index_or cleans m false) cleans) false) 1 0

none-noted : (b : Bool) (k m : ℕ) → noted_in (if b then Some (replicate k false) else None) m ≡ 0
none-noted true k m = failing (slice_index_or (replicate k false) m false) (no_clean k m)
none-noted false k m = refl

pub noted-departed : (manager : ManagerRecord) (m : ℕ) → noted_of (departed manager) m ≡ 0
noted-departed manager m = none-noted (asks (arrivals_of manager)) (length manager.last) m

pub noted-free : (manager : ManagerRecord) (m : ℕ) → manager.cleans ≡ None → noted_of manager m ≡ 0
noted-free manager m e = ap (λ cleans. noted_in cleans m) e

-- a Clean more
pub noted-more : (manager : ManagerRecord) (cleans : List Bool) (from m : ℕ) → manager.cleans ≡ Some cleans → from < length cleans
    → slice_index_or cleans from false ≡ false → noted_in (Some (slice_set cleans from true)) m ≡ noted_of manager m + cond (from == m) 1 0
noted-more manager cleans from m is lt first = elim (cases_eq m from) [
  | inl e ↦
      let here : noted_in (Some (slice_set cleans from true)) from ≡ 1 = passing _ (get_or-set_same cleans from true false lt) in
      let none : noted_of manager from ≡ 0 = ap (λ cleans. noted_in cleans from) is ∙ failing _ first in
      let one : cond (from == from) 1 0 ≡ 1 = passing (from == from) (eq-eqb from from refl) in
      subst (λ m. noted_in (Some (slice_set cleans from true)) m ≡ noted_of manager m + cond (from == m) 1 0) (sym e) (omega (arith, here, none, one))
  | inr ne ↦
      let same : noted_in (Some (slice_set cleans from true)) m ≡ noted_of manager m =
      ap (λ b. cond b 1 0) (get_or-set_other cleans from m true false ne) ∙ sym (ap (λ cleans. noted_in cleans m) is) in
      let zero : cond (from == m) 1 0 ≡ 0 = failing (from == m) (ne_eqb from m (λ e. ne (sym e))) in
      omega (arith, same, zero)
]

all_clean : (cleans : List Bool) (m : ℕ) → list_all (λ clean. clean) cleans ≡ true → m < length cleans → slice_index_or cleans m false ≡ true
all_clean [] m all lt = absurd (omega (arith, lt))
all_clean (clean ∷ cleans) zero all lt = (and_parts _ _ all).0
all_clean (clean ∷ cleans) (suc m) all lt = all_clean cleans m (and_parts _ _ all).1 (omega (arith, lt))

pub noted-all : (cleans : List Bool) (m : ℕ) → list_all (λ clean. clean) cleans ≡ true → m < length cleans → noted_in (Some cleans) m ≡ 1
noted-all cleans m all lt = passing _ (all_clean cleans m all lt)

-- ---- what all are told

pub as_many : (last : Arrival) (manager : ManagerRecord) → list_all is_some manager.arrivals ≡ true → length (arrivals_of manager) ≡ length manager.arrivals
as_many last manager all = ap length (all_arrived last manager.arrivals all) ∙ length-map manager.arrivals (λ place. unwrap_or place last)

abbrev told_to : ℕ → Letter → Bool
told_to m l = says_depart l.message && (l.to == m)

abbrev word_to : ℕ → Letter → Bool
word_to m l = says_discard l.message && (l.to == m)

module _ (all : List Arrival) (m : ℕ) where
  told : ℕ → List Arrival → ℕ
  told k arrivals = count_by (told_to m) (map departure_of (map (departure_to all) (enumerate_from k arrivals)))

  told-cons : (k : ℕ) (a : Arrival) (arrivals : List Arrival) → told k (a ∷ arrivals) ≡ cond (k == m) 1 0 + told (k + 1) arrivals
  unfolding told
  told-cons k a arrivals =
      count-cons (told_to m) (departure_of (departure_to all (k, a))) (map departure_of (map (departure_to all) (enumerate_from (k + 1) arrivals)))

  nobody_told : (k : ℕ) (arrivals : List Arrival) → m < k → told k arrivals ≡ 0
  unfolding told
  nobody_told k [] lt = refl
  nobody_told k (a ∷ arrivals) lt =
      let one : cond {A = ℕ} (k == m) 1 0 ≡ 0 = failing (k == m) (ne_eqb k m (λ e. omega (arith, e, lt))) in
      let rest : told (k + 1) arrivals ≡ 0 = nobody_told (k + 1) arrivals (omega (arith, lt)) in
      let both : told k (a ∷ arrivals) ≡ cond (k == m) 1 0 + told (k + 1) arrivals = told-cons k a arrivals in
      omega (arith, one, rest, both)

  told_once : (k : ℕ) (arrivals : List Arrival) → k ≤ m → m < k + length arrivals → told k arrivals ≡ 1
  unfolding told
  told_once k [] le lt = absurd (omega (arith, le, lt))
  told_once k (a ∷ arrivals) le lt =
      let both : told k (a ∷ arrivals) ≡ cond (k == m) 1 0 + told (k + 1) arrivals = told-cons k a arrivals in
      elim (cases_eq k m) [
        | inl e ↦
            let one : cond {A = ℕ} (k == m) 1 0 ≡ 1 = passing (k == m) (eq-eqb k m e) in
            let rest : told (k + 1) arrivals ≡ 0 = nobody_told (k + 1) arrivals (omega (arith, e)) in
            omega (arith, one, rest, both)
        | inr ne ↦
            let one : cond {A = ℕ} (k == m) 1 0 ≡ 0 = failing (k == m) (ne_eqb k m ne) in
            let rest : told (k + 1) arrivals ≡ 1 = told_once (k + 1) arrivals (omega (arith, ne, le)) (omega (arith, lt)) in
            omega (arith, one, rest, both)
      ]

-- each node is told once to depart,
pub departs-once : (arrivals : List Arrival) (m : ℕ) → m < length arrivals
    → count_by (λ l. says_depart l.message && (l.to == m)) (map departure_of (departures_of arrivals)) ≡ 1
unfolding told
departs-once arrivals m lt = told_once arrivals m 0 arrivals (omega arith) (omega (arith, lt))

-- and nothing else
pub departs-only : (test : Letter → Bool) → ((d : Departure) → test (departure_of d) ≡ false) → (departures : List Departure)
    → count_by test (map departure_of departures) ≡ 0
departs-only test never [] = refl
departs-only test never (d ∷ departures) =
    let one : cond (test (departure_of d)) 1 0 ≡ 0 = failing (test (departure_of d)) (never d) in
    let rest : count_by test (map departure_of departures) ≡ 0 = departs-only test never departures in
    let both : count_by test (map departure_of (d ∷ departures)) ≡ cond (test (departure_of d)) 1 0 + count_by test (map departure_of departures) =
    count-cons test (departure_of d) (map departure_of departures) in
    omega (arith, one, rest, both)

module _ (episode m : ℕ) where
  words : ℕ → ℕ → ℕ
  words k n = count_by (word_to m) (discards_to (range_with_len k n) episode)

  words-cons : (k n : ℕ) → words k (suc n) ≡ cond (k == m) 1 0 + words (k + 1) n
  unfolding words
  words-cons k n = count-cons (word_to m) (letter k (Discard episode)) (discards_to (range_with_len (k + 1) n) episode)

  no_word : (k n : ℕ) → m < k → words k n ≡ 0
  unfolding words
  no_word k zero lt = refl
  no_word k (suc n) lt =
      let one : cond {A = ℕ} (k == m) 1 0 ≡ 0 = failing (k == m) (ne_eqb k m (λ e. omega (arith, e, lt))) in
      let rest : words (k + 1) n ≡ 0 = no_word (k + 1) n (omega (arith, lt)) in
      let both : words k (suc n) ≡ cond (k == m) 1 0 + words (k + 1) n = words-cons k n in
      omega (arith, one, rest, both)

  word_once : (k n : ℕ) → k ≤ m → m < k + n → words k n ≡ 1
  unfolding words
  word_once k zero le lt = absurd (omega (arith, le, lt))
  word_once k (suc n) le lt =
      let both : words k (suc n) ≡ cond (k == m) 1 0 + words (k + 1) n = words-cons k n in
      elim (cases_eq k m) [
        | inl e ↦
            let one : cond {A = ℕ} (k == m) 1 0 ≡ 1 = passing (k == m) (eq-eqb k m e) in
            let rest : words (k + 1) n ≡ 0 = no_word (k + 1) n (omega (arith, e)) in
            omega (arith, one, rest, both)
        | inr ne ↦
            let one : cond {A = ℕ} (k == m) 1 0 ≡ 0 = failing (k == m) (ne_eqb k m ne) in
            let rest : words (k + 1) n ≡ 1 = word_once (k + 1) n (omega (arith, ne, le)) (omega (arith, lt)) in
            omega (arith, one, rest, both)
      ]

-- each node has once the word to discard,
pub discards-once : (episode nodes m : ℕ) → m < nodes
    → count_by (λ l. says_discard l.message && (l.to == m)) (discards_to (range_with_len 0 nodes) episode) ≡ 1
unfolding words
discards-once episode nodes m lt = word_once episode m 0 nodes (omega arith) (omega (arith, lt))

-- and nothing else
pub discards-only : (test : Letter → Bool) (episode : ℕ) → ((to : ℕ) → test (letter to (Discard episode)) ≡ false) → (nodes : List ℕ)
    → count_by test (discards_to nodes episode) ≡ 0
discards-only test episode never [] = refl
discards-only test episode never (to ∷ nodes) =
    let one : cond (test (letter to (Discard episode))) 1 0 ≡ 0 = failing (test (letter to (Discard episode))) (never to) in
    let rest : count_by test (discards_to nodes episode) ≡ 0 = discards-only test episode never nodes in
    let both : count_by test (discards_to (to ∷ nodes) episode) ≡ cond (test (letter to (Discard episode))) 1 0 + count_by test (discards_to nodes episode) =
    count-cons test (letter to (Discard episode)) (discards_to nodes episode) in
    omega (arith, one, rest, both)
