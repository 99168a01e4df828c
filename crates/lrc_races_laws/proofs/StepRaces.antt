-- The races of the events of a trace in the form of RAPID are those of its acts.
use Rattle.std.proofs.Common.{◌≡◌, ◌≢◌, ℕ, zero, suc, ◌<◌, ◌≤◌, List, [], ◌∷◌, length, inl, inr, refl, sym, subst, ap, ◌∙◌, arith}
use Rattle.std.specs.Prelude.{Some, Contains, slice_get, ◌↔◌}
use Rattle.std.proofs.lemmas.Bool.{cases_lt}
use Rattle.std.proofs.lemmas.Option.{same_Some}
use Rattle.lrc_trace.specs.declared.act.Act.{Act}
use Rattle.lrc_trace.specs.declared.act.Deed.{Deed}
use Rattle.lrc_trace.specs.declared.act.Deed.TheVariants.{Read as Reading, Write as Writing, Acquire as Acquiring, Release as Releasing, Arrive as Arriving}
use Rattle.lrc_trace.specs.Run.{Does}
use Rattle.lrc_trace.specs.Order.{HappensBefore as HappensBeforeIn}
use Rattle.lrc_trace.specs.Conflict.{Accesses as AccessesIn, Writes as WritesIn, Races as RacesIn}
use Rattle.lrc_trace.proofs.Positions.{Does-one_node}
use Rattle.lrc_races_trace.specs.declared.event.Event.{Event}
use Rattle.lrc_races_trace.specs.declared.event.Pair.{Pair}
use Rattle.lrc_races_trace.specs.Trace.{At, Accesses, Writes, given, got}
use Rattle.lrc_races_trace.specs.Order.{Precedes, HappensBefore, program, lock, fork, join, fork_join, barrier, base, further}
use Rattle.lrc_races_trace.specs.Races.{Races, AreTold}
use Rattle.lrc_races_trace.proofs.Positions.{At-one, At-within}
use Rattle.lrc_races_trace.proofs.Told.{race_told}
use Rattle.lrc_acts_text.specs.Rapid.{RapidStep, rapid_step, meeting_at}
use Rattle.lrc_acts_text.specs.RapidOrder.{StepPrecedes, StepBefore, Orders, program as program_of, lock as lock_of, base as base_of, further as further_of}
use Rattle.lrc_acts_text_laws.specs.Traces.{DoesStep, KeepsAccesses}
use Rattle.lrc_races_laws.specs.Traces.{Numbers, operation_of}
use Rattle.lrc_acts_text_laws.proofs.Groups.{gave, got as gets_lock}
use Rattle.lrc_races_laws.proofs.Operations.{of_read, of_write, of_given, of_got, of_arrive, of_fork, of_join}
use Rattle.lrc_races_laws.specs.Steps.{Words, AreEventsOfSteps, HasSteps, AreToldOfSteps}

head_same : {A : Type 0} (x y : A) → x ∷ [] ≡ y ∷ [] → x ≡ y
head_same x y e = cc

step_within : (steps : List RapidStep) (k : ℕ) → k < length steps → (s : RapidStep) × (slice_get steps k ≡ Some s)
step_within [] k lt = absurd (omega arith)
step_within (s ∷ steps) zero lt = (s, refl)
step_within (s ∷ steps) (suc k) lt = step_within steps k (omega arith)

-- the step of an event
pub record IsStepOf (numbers : Numbers) (steps : List RapidStep) (k : ℕ) (a : Event) : Type 0 where
  pub step : RapidStep
  pub stands : slice_get steps k ≡ Some step
  pub deed : Deed
  pub does : DoesStep steps k step.node deed
  pub thread : a.thread ≡ numbers.thread step.node
  pub operation : a.operation ≡ operation_of numbers deed

-- what is used of the steps of acts: each does a deed, accesses are kept, and their order is happens before
pub record IsTraceOf (nodes : ℕ) (acts : List Act) (steps : List RapidStep) : Type 0 where
  pub deeds : (k : ℕ) (s : RapidStep) → slice_get steps k ≡ Some s → (d : Deed) × DoesStep steps k s.node d
  pub keeps : KeepsAccesses nodes acts steps
  pub order : (i j p q v w : ℕ) → AccessesIn acts i p v → AccessesIn acts j q w → i ≢ j → HappensBeforeIn acts i j ↔ Orders steps i j

module _ (numbers : Numbers) (steps : List RapidStep) (events : List Event) (are : AreEventsOfSteps numbers steps events)
    (deeds : (k : ℕ) (s : RapidStep) → slice_get steps k ≡ Some s → (d : Deed) × DoesStep steps k s.node d) where
  pub step_of_event : (k : ℕ) (a : Event) → At events k a → IsStepOf numbers steps k a
  step_of_event k a at =
      let within = At-within at in
      let long = are.long in
      let (s, stands) = step_within steps k (omega arith) in
      let (d, does) = deeds k s stands in
      let (b, there, thread, operation) = are.same k s.node d does in
      let same : b ≡ a = At-one there at in
      record {
        step = s;
        stands = stands;
        deed = d;
        does = does;
        thread = subst (λ (e : Event). e.thread ≡ numbers.thread s.node) same thread;
        operation = subst (λ (e : Event). e.operation ≡ operation_of numbers d) same operation;
      }

  forth : {k m : ℕ} → StepPrecedes steps k m → Precedes events k m
  forth {k} {m} (program_of {s = s} {t = t} lt first second same) =
      let (d, does) = deeds k s first in
      let (e, does') = deeds m t second in
      let (a, at, thread, operation) = are.same k s.node d does in
      let (b, at', thread', operation') = are.same m t.node e does' in
      program lt at at' (thread ∙ ap numbers.thread same ∙ sym thread')
  forth {k} {m} (lock_of {l = l} {s = s} {t = t} lt first second releases acquires) =
      let (a, at, thread, operation) = are.same k s.node (Releasing l)
      (record { step = s; stands = first; is = λ meeting. ap (λ o. rapid_step s.node s.position o ∷ []) (sym releases) }) in
      let (b, at', thread', operation') = are.same m t.node (Acquiring l)
      (record { step = t; stands = second; is = λ meeting. ap (λ o. rapid_step t.node t.position o ∷ []) (sym acquires) }) in
      lock {l = numbers.lock l} lt at at' (ap given operation) (ap got operation')

  back : {k m : ℕ} → Precedes events k m → StepPrecedes steps k m
  back {k} {m} (program {a = a} {b = b} lt at at' same) =
      let x = step_of_event k a at in
      let y = step_of_event m b at' in
      program_of lt x.stands y.stands (are.threads k m x.step.node y.step.node x.deed y.deed x.does y.does (sym x.thread ∙ same ∙ y.thread))
  back {k} {m} (lock {l = l} {a = a} {b = b} lt at at' gives gets) =
      let x = step_of_event k a at in
      let y = step_of_event m b at' in
      let (r, releases, is) = of_given numbers x.deed l (ap given (sym x.operation) ∙ gives) in
      let (q, acquires, is') = of_got numbers y.deed l (ap got (sym y.operation) ∙ gets) in
      let does : DoesStep steps k x.step.node (Releasing r) = subst (λ (d : Deed). DoesStep steps k x.step.node d) releases x.does in
      let does' : DoesStep steps m y.step.node (Acquiring q) = subst (λ (d : Deed). DoesStep steps m y.step.node d) acquires y.does in
      let same : r ≡ q = are.locks k m x.step.node y.step.node r q (Releasing r) (Acquiring q) does does' refl refl (is ∙ sym is') in
      let gave_is = head_same (gave x.step.node does.step.position r) does.step (does.is (meeting_at 0 0 [] 0 0)) in
      let got_is = head_same (gets_lock y.step.node does'.step.position q) does'.step (does'.is (meeting_at 0 0 [] 0 0)) in
      lock_of lt does.stands does'.stands (sym (ap (λ (s : RapidStep). s.operation) gave_is))
      (sym (ap (λ (s : RapidStep). s.operation) got_is) ∙ ap (λ n. (gets_lock y.step.node does'.step.position n).operation) (sym same))
  back {k} {m} (fork {a = a} {b = b} lt at at' forks) =
      let x = step_of_event k a at in
      absurd (of_fork numbers x.deed b.thread (sym x.operation ∙ forks))
  back {k} {m} (join {a = a} {b = b} lt at at' joins) =
      let y = step_of_event m b at' in
      absurd (of_join numbers y.deed a.thread (sym y.operation ∙ joins))
  back {k} {m} (fork_join {u = u} {a = a} {b = b} lt at at' forks joins) =
      let x = step_of_event k a at in
      absurd (of_fork numbers x.deed u (sym x.operation ∙ forks))
  back {k} {m} (barrier {x = z} {a = a} {b = b} lt at at' arrives departs same) =
      let x = step_of_event k a at in
      let (is, number) = of_arrive numbers x.deed z (sym x.operation ∙ arrives) in
      let does = subst (λ (d : Deed). DoesStep steps k x.step.node d) is x.does in
      absurd (no_arrive k x.step.node does)
    where
      no_arrive : (k node : ℕ) → DoesStep steps k node Arriving → ⊥
      no_arrive k node does = let two = does.is (meeting_at 0 0 [] 0 0) in let never : ⊥ = cc in never

  pub steps_ordered : {k m : ℕ} → StepBefore steps k m → HappensBefore events k m
  steps_ordered (base_of p) = base (forth p)
  steps_ordered (further_of h p) = further (steps_ordered h) (forth p)

  pub steps_ordered_back : {k m : ℕ} → HappensBefore events k m → StepBefore steps k m
  steps_ordered_back (base p) = base_of (back p)
  steps_ordered_back (further h p) = further_of (steps_ordered_back h) (back p)

module _ (numbers : Numbers) (nodes : ℕ) (acts : List Act) (steps : List RapidStep) (events : List Event)
    (are : AreEventsOfSteps numbers steps events) (trace : IsTraceOf nodes acts steps) where
  step : (k : ℕ) (a : Event) → At events k a → IsStepOf numbers steps k a
  step k a at = step_of_event numbers steps events are trace.deeds k a at

  -- the access of a step
  read_act : (k w value : ℕ) (s : RapidStep) → slice_get steps k ≡ Some s → DoesStep steps k s.node (Reading w value)
      → (v : ℕ) × Does acts s.position s.node (Reading w v)
  read_act k w value s stands does =
      let (own, h) = trace.keeps.is_read k s.node w value does in
      (own, subst (λ (z : RapidStep). Does acts z.position s.node (Reading w own)) (same_Some does.step s (sym does.stands ∙ stands)) h)

  write_act : (k w value : ℕ) (s : RapidStep) → slice_get steps k ≡ Some s → DoesStep steps k s.node (Writing w value)
      → (v : ℕ) × Does acts s.position s.node (Writing w v)
  write_act k w value s stands does =
      let (own, h) = trace.keeps.is_write k s.node w value does in
      (own, subst (λ (z : RapidStep). Does acts z.position s.node (Writing w own)) (same_Some does.step s (sym does.stands ∙ stands)) h)

  record Accessed (k : ℕ) (s : RapidStep) (v : ℕ) : Type 0 where
    word : ℕ
    deed : Deed
    does : DoesStep steps k s.node deed
    is : Words deed word
    access : AccessesIn acts s.position s.node word
    number : numbers.variable word ≡ v

  accessed : (k : ℕ) (a : Event) (x : IsStepOf numbers steps k a) (v : ℕ) → Accesses a v → Accessed k x.step v
  accessed k a x v (inl reads) =
      let (w, value, is, number) = of_read numbers x.deed v (sym x.operation ∙ reads) in
      let does : DoesStep steps k x.step.node (Reading w value) = subst (λ (d : Deed). DoesStep steps k x.step.node d) is x.does in
      record { word = w; deed = Reading w value; does = does; is = refl; access = inl (read_act k w value x.step x.stands does); number = number }
  accessed k a x v (inr writes) =
      let (w, value, is, number) = of_write numbers x.deed v (sym x.operation ∙ writes) in
      let does : DoesStep steps k x.step.node (Writing w value) = subst (λ (d : Deed). DoesStep steps k x.step.node d) is x.does in
      record { word = w; deed = Writing w value; does = does; is = refl; access = inr (write_act k w value x.step x.stands does); number = number }

  written : (k : ℕ) (a : Event) (x : IsStepOf numbers steps k a) (v : ℕ) (at : Accessed k x.step v) → Writes a v
      → WritesIn acts x.step.position x.step.node at.word
  written k a x v at writes =
      let (w, value, is, number) = of_write numbers x.deed v (sym x.operation ∙ writes) in
      let does : DoesStep steps k x.step.node (Writing w value) = subst (λ (d : Deed). DoesStep steps k x.step.node d) is x.does in
      let same : w ≡ at.word =
      are.variables k k x.step.node x.step.node w at.word (Writing w value) at.deed does at.does refl at.is (number ∙ sym at.number) in
      subst (λ n. WritesIn acts x.step.position x.step.node n) same (write_act k w value x.step x.stands does)

  node_of : (i p word : ℕ) → AccessesIn acts i p word → (d : Deed) × Does acts i p d
  node_of i p word (inl (v, does)) = (Reading word v, does)
  node_of i p word (inr (v, does)) = (Writing word v, does)

  pub step_races_back : (k m : ℕ) (s t : RapidStep) → slice_get steps k ≡ Some s → slice_get steps m ≡ Some t → Races events k m → RacesIn acts s.position t.position
  step_races_back k m s t at at' race =
      let x = step k race.a race.first in
      let y = step m race.b race.second in
      let first = accessed k race.a x race.conflict.variable race.conflict.first in
      let second = accessed m race.b y race.conflict.variable race.conflict.second in
      let same : second.word ≡ first.word =
      are.variables m k y.step.node x.step.node second.word first.word second.deed first.deed second.does first.does second.is first.is
      (second.number ∙ sym first.number) in
      let here : AccessesIn acts y.step.position y.step.node first.word = subst (λ w. AccessesIn acts y.step.position y.step.node w) same second.access in
      let apart : x.step.node ≢ y.step.node = λ e. race.conflict.apart (x.thread ∙ ap numbers.thread e ∙ sym y.thread) in
      let (d, does) = node_of x.step.position x.step.node first.word first.access in
      let (e, does') = node_of y.step.position y.step.node first.word here in
      let differ : x.step.position ≢ y.step.position = λ is. apart (Does-one_node does (subst (λ n. Does acts n y.step.node e) (sym is) does')) in
      let lt = race.earlier in
      let le = trace.keeps.order k m x.step y.step x.stands y.stands (omega arith) in
      let result : RacesIn acts x.step.position y.step.position = record {
        earlier = omega arith;
        conflict = (
          x.step.node,
          y.step.node,
          first.word,
          record {
            apart = apart;
            first = first.access;
            second = here;
            writes = elim race.conflict.writes [
              | inl w ↦ inl (written k race.a x race.conflict.variable first w)
              | inr w ↦ inr (subst (λ n. WritesIn acts y.step.position y.step.node n) same (written m race.b y race.conflict.variable second w))
            ];
          },
        );
        unordered = λ h.
            let o = (trace.order x.step.position y.step.position x.step.node y.step.node first.word first.word first.access here differ).0 h in
            let is_k : o.k ≡ k = trace.keeps.once x.step.position x.step.node first.word o.k k o.first x.step first.access o.at_k x.stands o.of_i refl in
            let is_m : o.m ≡ m = trace.keeps.once y.step.position y.step.node first.word o.m m o.second y.step here o.at_m y.stands o.of_j refl in
            race.unordered (steps_ordered numbers steps events are trace.deeds
            (subst (λ n. StepBefore steps k n) is_m (subst (λ n. StepBefore steps n o.m) is_k o.before)));
      } in
      let is_s : x.step ≡ s = same_Some x.step s (sym x.stands ∙ at) in
      let is_t : y.step ≡ t = same_Some y.step t (sym y.stands ∙ at') in
      subst (λ (z : RapidStep). RacesIn acts z.position t.position) is_s (subst (λ (z : RapidStep). RacesIn acts x.step.position z.position) is_t result)

  -- the step of an access, and its event
  record Found (i p word : ℕ) : Type 0 where
    k : ℕ
    step : RapidStep
    stands : slice_get steps k ≡ Some step
    position : step.position ≡ i
    node : step.node ≡ p
    deed : Deed
    does : DoesStep steps k p deed
    event : Event
    at : At events k event
    thread : event.thread ≡ numbers.thread p
    accesses : Accesses event (numbers.variable word)

  found_read : (i p word value : ℕ) → Does acts i p (Reading word value) → Found i p word
  found_read i p word value does =
      let h = trace.keeps.read i p word value does in
      let (a, at, thread, operation) = are.same h.k p (Reading word value) h.does in
      record {
        k = h.k;
        step = h.does.step;
        stands = h.does.stands;
        position = h.at;
        node = sym (ap (λ (s : RapidStep). s.node) (head_same _ h.does.step (h.does.is (meeting_at 0 0 [] 0 0))));
        deed = Reading word value;
        does = h.does;
        event = a;
        at = at;
        thread = thread;
        accesses = inl operation;
      }

  record FoundWrite (i p word : ℕ) : Type 0 where
    found : Found i p word
    writes : Writes found.event (numbers.variable word)

  found_write : (i p word value : ℕ) → Does acts i p (Writing word value) → FoundWrite i p word
  found_write i p word value does =
      let h = trace.keeps.write i p word value does in
      let (a, at, thread, operation) = are.same h.k p (Writing word value) h.does in
      record {
        found = record {
          k = h.k;
          step = h.does.step;
          stands = h.does.stands;
          position = h.at;
          node = sym (ap (λ (s : RapidStep). s.node) (head_same _ h.does.step (h.does.is (meeting_at 0 0 [] 0 0))));
          deed = Writing word value;
          does = h.does;
          event = a;
          at = at;
          thread = thread;
          accesses = inr operation;
        };
        writes = operation;
      }

  find : (i p word : ℕ) → AccessesIn acts i p word → Found i p word
  find i p word (inl (value, does)) = found_read i p word value does
  find i p word (inr (value, does)) = (found_write i p word value does).found

  -- where the access is a write, its event is one
  find_write : (i p word : ℕ) (access : AccessesIn acts i p word) (x : Found i p word) → WritesIn acts i p word → Writes x.event (numbers.variable word)
  find_write i p word access x (value, does) =
      let y = found_write i p word value does in
      let same : y.found.k ≡ x.k =
      trace.keeps.once i p word y.found.k x.k y.found.step x.step access y.found.stands x.stands y.found.position x.position in
      let one : y.found.event ≡ x.event = At-one (subst (λ n. At events n y.found.event) same y.found.at) x.at in
      subst (λ (a : Event). Writes a (numbers.variable word)) one y.writes

  pub record StepRace (i j : ℕ) : Type 0 where
    pub k : ℕ
    pub m : ℕ
    pub s : RapidStep
    pub t : RapidStep
    pub at_k : slice_get steps k ≡ Some s
    pub at_m : slice_get steps m ≡ Some t
    pub of_i : s.position ≡ i
    pub of_j : t.position ≡ j
    pub p : ℕ
    pub q : ℕ
    pub word : ℕ
    pub first : AccessesIn acts i p word
    pub second : AccessesIn acts j q word
    pub node : s.node ≡ p
    pub races : Races events k m

  pub step_races_forth : (i j : ℕ) → RacesIn acts i j → StepRace i j
  step_races_forth i j race =
      let (p, q, word, conflict) = race.conflict in
      let x = find i p word conflict.first in
      let y = find j q word conflict.second in
      let lt = race.earlier in
      let differ : i ≢ j = λ e. omega arith in
      record {
        k = x.k;
        m = y.k;
        s = x.step;
        t = y.step;
        at_k = x.stands;
        at_m = y.stands;
        of_i = x.position;
        of_j = y.position;
        p = p;
        q = q;
        word = word;
        first = conflict.first;
        second = conflict.second;
        node = x.node;
        races = record {
          a = x.event;
          b = y.event;
          earlier = elim (cases_lt x.k y.k) [
            | inl less ↦ less
            | inr not_less ↦
                let le = trace.keeps.order y.k x.k y.step x.step y.stands x.stands not_less in
                let at_i = x.position in
                let at_j = y.position in
                absurd (omega arith)
          ];
          first = x.at;
          second = y.at;
          conflict = record {
            variable = numbers.variable word;
            apart = λ same. conflict.apart (are.threads x.k y.k p q x.deed y.deed x.does y.does (sym x.thread ∙ same ∙ y.thread));
            first = x.accesses;
            second = y.accesses;
            writes = elim conflict.writes [
              | inl w ↦ inl (find_write i p word conflict.first x w)
              | inr w ↦ inr (find_write j q word conflict.second y w)
            ];
          };
          unordered = λ h. race.unordered ((trace.order i j p q word word conflict.first conflict.second differ).1 (record {
            k = x.k;
            m = y.k;
            first = x.step;
            second = y.step;
            at_k = x.stands;
            at_m = y.stands;
            of_i = x.position;
            of_j = y.position;
            before = steps_ordered_back numbers steps events are trace.deeds h;
          }));
        };
      }

  module _ (pairs : List Pair) (told : AreTold events pairs) where
    pub told_races : (pair : Pair) → Contains pairs pair → (s t : RapidStep) → HasSteps steps pair s t → RacesIn acts s.position t.position
    told_races pair has s t at = step_races_back pair.earlier.position pair.later.position s t at.first_at at.second_at ((told.exact pair).0 has).races

    last_of : (pair : Pair) → Contains pairs pair → (s t : RapidStep) → HasSteps steps pair s t → (i : ℕ) (e : Deed) → Does acts i s.node e
        → RacesIn acts i t.position → i ≤ s.position
    last_of pair has s t at i e does race =
        let is = (told.exact pair).0 has in
        let x = step_races_forth i t.position race in
        let same : x.m ≡ pair.later.position = trace.keeps.once t.position x.q x.word x.m pair.later.position x.t t x.second x.at_m at.second_at x.of_j refl in
        let race_here : Races events x.k pair.later.position = subst (λ n. Races events x.k n) same x.races in
        let (d, does') = node_of i x.p x.word x.first in
        let node : x.s.node ≡ s.node = x.node ∙ Does-one_node does' does in
        let y = step x.k x.races.a x.races.first in
        let z = step pair.earlier.position pair.earlier.event is.first in
        let y_is : y.step ≡ x.s = same_Some y.step x.s (sym y.stands ∙ x.at_k) in
        let z_is : z.step ≡ s = same_Some z.step s (sym z.stands ∙ at.first_at) in
        let threads : x.races.a.thread ≡ pair.earlier.event.thread =
        y.thread ∙ ap (λ (r : RapidStep). numbers.thread r.node) y_is ∙ ap numbers.thread node
        ∙ ap (λ (r : RapidStep). numbers.thread r.node) (sym z_is) ∙ sym z.thread in
        let le = is.last x.k x.races.a x.races.first threads race_here in
        let less = trace.keeps.order x.k pair.earlier.position x.s s x.at_k at.first_at le in
        let of_i = x.of_i in
        omega arith

    each_of : (i j p : ℕ) (d : Deed) → Does acts i p d → RacesIn acts i j → (pair : Pair) × Contains pairs pair
        × ((s : RapidStep) × (t : RapidStep) × HasSteps steps pair s t × (t.position ≡ j) × (s.node ≡ p) × (i ≤ s.position))
    each_of i j p d does race =
        let x = step_races_forth i j race in
        let (pair, has, is_m, of, le) = race_told events pairs told x.k x.m x.races.a x.races.first x.races in
        let is = (told.exact pair).0 has in
        let y = step x.k x.races.a x.races.first in
        let z = step pair.earlier.position pair.earlier.event is.first in
        let y_is : y.step ≡ x.s = same_Some y.step x.s (sym y.stands ∙ x.at_k) in
        let (e, does') = node_of i x.p x.word x.first in
        let node : z.step.node ≡ x.s.node =
        are.threads pair.earlier.position x.k z.step.node y.step.node z.deed y.deed z.does y.does (sym z.thread ∙ of ∙ y.thread)
        ∙ ap (λ (r : RapidStep). r.node) y_is in
        let less = trace.keeps.order x.k pair.earlier.position x.s z.step x.at_k z.stands le in
        let of_i = x.of_i in (
          pair,
          has,
          (
            z.step,
            x.t,
            record { first_at = z.stands; second_at = subst (λ n. slice_get steps n ≡ Some x.t) (sym is_m) x.at_m },
            x.of_j,
            node ∙ x.node ∙ Does-one_node does' does,
            omega arith,
          ),
        )

    pub told_of_steps : AreToldOfSteps acts steps pairs
    told_of_steps = record { races = told_races; last = last_of; each = each_of }
