-- The races of the events are those of the acts.
use Rattle.std.proofs.Common.{◌≡◌, ℕ, ◌≤◌, List, inl, inr, sym, subst, ap, ◌∙◌}
use Rattle.std.specs.Prelude.{Contains}
use Rattle.lrc_trace.specs.declared.act.Act.{Act}
use Rattle.lrc_trace.specs.declared.act.Deed.{Deed}
use Rattle.lrc_trace.specs.declared.act.Deed.TheVariants.{Read as Reading, Write as Writing}
use Rattle.lrc_trace.specs.Run.{Does}
use Rattle.lrc_trace.specs.Conflict.{Accesses as AccessesIn, Writes as WritesIn, Races as RacesIn}
use Rattle.lrc_trace.proofs.Positions.{Does-deed}
use Rattle.lrc_races_trace.specs.declared.event.Event.{Event}
use Rattle.lrc_races_trace.specs.declared.event.Pair.{Pair}
use Rattle.lrc_races_trace.specs.declared.event.Operation.TheVariants.{Write}
use Rattle.lrc_races_trace.specs.Trace.{At, Accesses, Writes}
use Rattle.lrc_races_trace.specs.Races.{Races, AreTold}
use Rattle.lrc_races_trace.proofs.Positions.{At-one}
use Rattle.lrc_races_trace.proofs.Told.{race_told}
use Rattle.lrc_races_laws.specs.Traces.{Numbers, AreToldOf}
use Rattle.lrc_races_laws.proofs.Operations.{of_read, of_write}
use Rattle.lrc_races_laws.proofs.Episodes.{IsRun}
use Rattle.lrc_races_laws.proofs.Orders.{IsActOf, act_of_event, ordered, ordered_back}

module _ (numbers : Numbers) (nodes : ℕ) (acts : List Act) (events : List Event) (run : IsRun numbers nodes acts events) where
  -- the event of an access is one
  record Found (i p word : ℕ) : Type 0 where
    event : Event
    at : At events i event
    thread : event.thread ≡ numbers.thread p
    accesses : Accesses event (numbers.variable word)
    writes : WritesIn acts i p word → Writes event (numbers.variable word)

  find-write : (i p word : ℕ) → WritesIn acts i p word → (a : Event) → At events i a → Writes a (numbers.variable word)
  find-write i p word (value, does) a at =
      let (b, there, thread, operation) = run.are.same i p (Writing word value) does in
      let same : b ≡ a = At-one there at in
      subst (λ (e : Event). e.operation ≡ Write (numbers.variable word)) same operation

  find : (i p word : ℕ) → AccessesIn acts i p word → Found i p word
  find i p word (inl (value, does)) =
      let (a, at, thread, operation) = run.are.same i p (Reading word value) does in
      record { event = a; at = at; thread = thread; accesses = inl operation; writes = λ w. find-write i p word w a at }
  find i p word (inr (value, does)) =
      let (a, at, thread, operation) = run.are.same i p (Writing word value) does in
      record { event = a; at = at; thread = thread; accesses = inr operation; writes = λ w. find-write i p word w a at }

  pub races_forth : (i j : ℕ) → RacesIn acts i j → Races events i j
  races_forth i j race =
      let (p, q, word, conflict) = race.conflict in
      let x = find i p word conflict.first in
      let y = find j q word conflict.second in
      record {
        a = x.event;
        b = y.event;
        earlier = race.earlier;
        first = x.at;
        second = y.at;
        conflict = record {
          variable = numbers.variable word;
          apart = λ same. conflict.apart (same_node i j p q word conflict.first conflict.second (sym x.thread ∙ same ∙ y.thread));
          first = x.accesses;
          second = y.accesses;
          writes = elim conflict.writes [ inl w ↦ inl (x.writes w) | inr w ↦ inr (y.writes w) ];
        };
        unordered = λ h. race.unordered (ordered_back numbers nodes acts events run h);
      }
    where
      same_node : (i j p q word : ℕ) → AccessesIn acts i p word → AccessesIn acts j q word → numbers.thread p ≡ numbers.thread q → p ≡ q
      same_node i j p q word (inl (v, does)) (inl (w, does')) e = run.are.threads i j p q (Reading word v) (Reading word w) does does' e
      same_node i j p q word (inl (v, does)) (inr (w, does')) e = run.are.threads i j p q (Reading word v) (Writing word w) does does' e
      same_node i j p q word (inr (v, does)) (inl (w, does')) e = run.are.threads i j p q (Writing word v) (Reading word w) does does' e
      same_node i j p q word (inr (v, does)) (inr (w, does')) e = run.are.threads i j p q (Writing word v) (Writing word w) does does' e

  -- the access of an event
  accessed : (i : ℕ) (a : Event) (x : IsActOf numbers acts i a) (v : ℕ) → Accesses a v → (word : ℕ) × AccessesIn acts i x.node word × (numbers.variable word ≡ v)
  accessed i a x v (inl reads) =
      let (word, value, is, number) = of_read numbers x.deed v (sym x.operation ∙ reads) in
      (word, inl (value, Does-deed is x.does), number)
  accessed i a x v (inr writes) =
      let (word, value, is, number) = of_write numbers x.deed v (sym x.operation ∙ writes) in
      (word, inr (value, Does-deed is x.does), number)

  written : (i : ℕ) (a : Event) (x : IsActOf numbers acts i a) (v word : ℕ) → Writes a v → AccessesIn acts i x.node word → numbers.variable word ≡ v → WritesIn acts i x.node word
  written i a x v word writes access number =
      let (other, value, is, number') = of_write numbers x.deed v (sym x.operation ∙ writes) in
      let does = Does-deed is x.does in
      let same : other ≡ word = run.are.variables i i x.node x.node other word (inr (value, does)) access (number' ∙ sym number) in
      subst (λ w. WritesIn acts i x.node w) same (value, does)

  pub races_back : (i j : ℕ) → Races events i j → RacesIn acts i j
  races_back i j race =
      let x = act_of_event numbers acts events run.are i race.a race.first in
      let y = act_of_event numbers acts events run.are j race.b race.second in
      let (word, first, number) = accessed i race.a x race.conflict.variable race.conflict.first in
      let (other, second, number') = accessed j race.b y race.conflict.variable race.conflict.second in
      let same : other ≡ word = run.are.variables j i y.node x.node other word second first (number' ∙ sym number) in
      let second_here : AccessesIn acts j y.node word = subst (λ w. AccessesIn acts j y.node w) same second in
      record {
        earlier = race.earlier;
        conflict = (
          x.node,
          y.node,
          word,
          record {
            apart = λ e. race.conflict.apart (x.thread ∙ ap numbers.thread e ∙ sym y.thread);
            first = first;
            second = second_here;
            writes = elim race.conflict.writes [
              | inl w ↦ inl (written i race.a x race.conflict.variable word w first number)
              | inr w ↦ inr (written j race.b y race.conflict.variable word w second_here number)
            ];
          },
        );
        unordered = λ h. race.unordered (ordered numbers nodes acts events run h);
      }

  module _ (pairs : List Pair) (told : AreTold events pairs) where
    told_race : (pair : Pair) → Contains pairs pair → RacesIn acts pair.earlier.position pair.later.position
    told_race pair has = races_back pair.earlier.position pair.later.position ((told.exact pair).0 has).races

    told_last : (pair : Pair) → Contains pairs pair → (k p : ℕ) (d e : Deed) → Does acts pair.earlier.position p d → Does acts k p e
        → RacesIn acts k pair.later.position → k ≤ pair.earlier.position
    told_last pair has k p d e does does' race =
        let is = (told.exact pair).0 has in
        let (a, at, thread, operation) = run.are.same pair.earlier.position p d does in
        let (b, at', thread', operation') = run.are.same k p e does' in
        let same : a ≡ pair.earlier.event = At-one at is.first in
        is.last k b at' (thread' ∙ sym thread ∙ ap (λ (x : Event). x.thread) same) (races_forth k pair.later.position race)

    each_told : (i j p : ℕ) (d : Deed) → Does acts i p d → RacesIn acts i j
        → (pair : Pair) × Contains pairs pair × (pair.later.position ≡ j) × ((e : Deed) × Does acts pair.earlier.position p e) × (i ≤ pair.earlier.position)
    each_told i j p d does race =
        let (a, at, thread, operation) = run.are.same i p d does in
        let (pair, has, is_j, of, le) = race_told events pairs told i j a at (races_forth i j race) in
        let is = (told.exact pair).0 has in
        let x = act_of_event numbers acts events run.are pair.earlier.position pair.earlier.event is.first in
        let node : x.node ≡ p = run.are.threads pair.earlier.position i x.node p x.deed d x.does does (sym x.thread ∙ of ∙ thread) in
        (pair, has, is_j, (x.deed, subst (λ n. Does acts pair.earlier.position n x.deed) node x.does), le)

    pub told_of_acts : AreToldOf acts pairs
    told_of_acts = record { races = told_race; last = told_last; each = each_told }
