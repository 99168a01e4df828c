-- In every run a collection is exclusive: while it is under way all nodes are inside the barrier and none is told to discard;
-- and else nobody is told to collect, or does.
use Rattle.std.proofs.Common.{◌≡◌, ◌⊎◌, ℕ, ◌+◌, ◌<◌, ◌≤◌, List, [], ◌∷◌, Bool, true, false, cond, is_some}
use Rattle.std.proofs.Common.{length, map, refl, sym, ap, subst, ◌∙◌, inl, inr, arith}
use Rattle.std.specs.Prelude.{Option, Some, None, ◌==◌, Contains, unwrap_or, count_by, slice_get, slice_set, slice_index_or, replicate, if◌then◌else◌}
use Rattle.std.specs.List.{range_with_len, enumerate_from}
use Rattle.std.proofs.lemmas.Bool.{cases_eq, eq-eqb, and_from}
use Rattle.std.proofs.lemmas.List.{length-set}
use Rattle.std.proofs.lemmas.Option.{same_Some, slice_get_within}
use Rattle.lrc_program.specs.declared.Program.{Program}
use Rattle.lrc_envelope.specs.Envelope.{EnvelopeRecord}
use Rattle.lrc_envelope.specs.Records.{ArriveRecord, DepartRecord}
use Rattle.lrc_envelope.specs.declared.message.Message.{Message}
use Rattle.lrc_envelope.specs.declared.message.Message.TheVariants.{Arrive, Depart, Clean, Discard}
use Rattle.lrc_store.proofs.Orders.{cases_Contains, none_Contains}
use Rattle.lrc_exec.specs.Meaning.{Setting}
use Rattle.lrc_exec.specs.Plain.{setting_of}
use Rattle.lrc_barrier.specs.declared.arrival.Arrival.{Arrival}
use Rattle.lrc_barrier.specs.declared.departure.Departure.{Departure}
use Rattle.lrc_barrier.specs.Barrier.{ManagerRecord, first_manager, with_arrival, arrivals_of, asks, departure_to}
use Rattle.lrc_protocol.specs.declared.event.Event.{Event}
use Rattle.lrc_protocol.specs.Barriers.{arrival_in, Barrier}
use Rattle.lrc_protocol.specs.Node.{Letter, Wait, nothing, grant, departure, access, upkeep, discard, OptionsRecord}
use Rattle.lrc_protocol.specs.Turn.{departure_of, discards_to}
use Rattle.lrc_protocol.specs.Run.{Input, EntryRecord, Logged, World, Flying, fresh_world, with_turn, run_of}
use Rattle.lrc_protocol.specs.Follows.{pending}
use Rattle.lrc_protocol.proofs.Worlds.{IsEntry, get_set_same, get_set_other, fresh_at}
use Rattle.lrc_protocol.proofs.Turned.{Turned, Turns, turns}
use Rattle.lrc_protocol.proofs.Induction.{Comes}
use Rattle.lrc_protocol.specs.Follows.{turns_of}
use Rattle.lrc_order_laws.specs.Counts.{is_inside}
use Rattle.lrc_order_laws.specs.Barriers.{says_depart, says_discard, arrive_from, depart_to, clean_from, discard_to}
use Rattle.lrc_order_laws.specs.Barriers.{kept_of, noted_of, awaits_depart, awaits_word, is_collecting}
use Rattle.lrc_order_laws.proofs.Shape.{NodeShape, shape_at}
use Rattle.lrc_order_laws.proofs.Sends.{Came, comes, site_of, letter_in}
use Rattle.lrc_order_laws.proofs.Flows.{IsFromNode, stepped, counts, came_count, count_of}
use Rattle.lrc_order_laws.proofs.Managers.{Gathered, gathered, LetGo, let_go, Noted, noted, LetDiscard, let_discard, as_many, departs-once, discards-once}
use Rattle.lrc_order_laws.proofs.Standing.{same_manager, arrive_test, depart_test, clean_test, discard_test}
use Rattle.lrc_order_laws.proofs.Moves.{in-now, Brought, brought, among_letters, counted_in, Moves, moves}
use Rattle.lrc_order_laws.proofs.Barring.{Barring, arrives_at, gathers_at, lets_depart_at, departs_at, collects_at}
use Rattle.lrc_order_laws.proofs.Barring.{clean_once_at, cleans_at, notes_at, lets_discard_at, discards_at, other_at}
use Rattle.lrc_order_laws.proofs.AllStand.{AllStand, its_manager}
use Rattle.lrc_order_laws.proofs.Timely.{get_within, Timely, Gate, gate, is_told, all_in, waits_for_departure}
use Rattle.lrc_order_laws.proofs.AllTimely.{manager_after, all_timely}
use Rattle.lrc_order_laws.proofs.Reached.{IsReached, KeptByReached, by_reached}

waits_for_word : (w : Wait) → awaits_word w ≡ 1 → is_collecting w ≡ 0
waits_for_word (discard collection) e = refl
waits_for_word nothing e = refl
waits_for_word (grant lock) e = refl
waits_for_word departure e = refl
waits_for_word (access need) e = refl
waits_for_word (upkeep collection needs) e = absurd (omega (arith, e))

pub one_of : (w : Wait) → awaits_depart w + awaits_word w ≤ 1
one_of departure = omega arith
one_of nothing = omega arith
one_of (grant lock) = omega arith
one_of (access need) = omega arith
one_of (upkeep collection needs) = omega arith
one_of (discard collection) = omega arith

none_some : {X Y : Type 0} (x : X) → None ≡ Some x → Y
none_some x e = let never : ⊥ = cc in absurd never

true_false : {Y : Type 0} → true ≡ false → Y
true_false e = let never : ⊥ = cc in absurd never

module _ (program : Program) (nodes : ℕ) (options : OptionsRecord) where
  pub record Exclusive (world : World) : Type 0 where
    pub timely : Timely program nodes options world
    -- with no collection under way no Clean is on its way, nobody fetches what it keeps, and nobody is told to collect
    pub free : timely.stand.manager.cleans ≡ None → (n : ℕ) (l : Logged) → slice_get world.nodes n ≡ Some l
        → (count_by (clean_from n) (pending world) ≡ 0) × (is_collecting l.node.mail.wait ≡ 0)
    pub free_departs : timely.stand.manager.cleans ≡ None → (e : EnvelopeRecord) (m : DepartRecord) (l : Logged) → Contains (pending world) e
        → e.message ≡ Depart m → slice_get world.nodes e.to ≡ Some l → m.collect ≡ false
    -- while one is under way all are inside the barrier, none has arrived anew, none is told to discard, and who is told to
    -- depart is told to collect
    pub busy : (cleans : List Bool) → timely.stand.manager.cleans ≡ Some cleans → (n : ℕ) (l : Logged) → slice_get world.nodes n ≡ Some l
        → (is_inside l.node.mail.wait ≡ 1) × (count_by (arrive_from n) (pending world) + kept_of timely.stand.manager n ≡ 0)
        × (count_by (discard_to n) (pending world) ≡ 0)
    pub busy_departs : (cleans : List Bool) → timely.stand.manager.cleans ≡ Some cleans → (e : EnvelopeRecord) (m : DepartRecord) (l : Logged)
        → Contains (pending world) e → e.message ≡ Depart m → slice_get world.nodes e.to ≡ Some l → m.collect ≡ true

  module _ (world : World) (flight : List Flying) (n : ℕ) (l after : Logged) (input : Input) (entry : EntryRecord)
      (at : slice_get world.nodes n ≡ Some l) (come : Comes world n input flight) (i : IsEntry l input entry after)
      (r : IsReached program nodes options world) (r' : IsReached program nodes options (with_turn world flight n entry after))
      (h : Exclusive world) where
    abbrev pub next : World
    next = with_turn world flight n entry after

    abbrev pub old_manager : ManagerRecord
    old_manager = h.timely.stand.manager

    pub timely : Timely program nodes options next
    timely = all_timely program nodes options r'.events next r'.runs

    abbrev pub new_manager : ManagerRecord
    new_manager = timely.stand.manager

    pub rel : unwrap_or after.node.barrier.manager old_manager ≡ new_manager
    rel = manager_after program nodes options world next h.timely.stand timely.stand n l after at refl

    pub own_shape : NodeShape (setting_of program nodes n) options (record { node = l.node; turns = turns_of l.log })
    own_shape = shape_at program nodes options r.events world n l r.runs at

    pub me_is : l.node.setting.me ≡ n
    me_is = ap (λ (s : Setting). s.me) own_shape.setting

    pub mv : Moves l.node (pending world) (pending next) nodes entry.turn after.node
    mv =
        let t : Turned l.node entry.turn after.node = subst (Turns l.node) i.turn_is (turns l.node input) in
        moves l.node (pending world) (pending next) nodes entry.turn after.node (ap (λ (s : Setting). s.nodes) own_shape.setting) t.setting
        (stepped program nodes options world flight n l after input entry at come i r)

    pub is : (x : ManagerRecord) → l.node.barrier.manager ≡ Some x → x ≡ old_manager
    is = its_manager program nodes options world h.timely.stand n l at

    -- what passes a test goes by what comes and what is sent
    pub flow : (test : ℕ → Letter → Bool) → count_of test (pending next) + came_count test l.node.setting.me mv.came
        ≡ count_of test (pending world) + count_by (test l.node.setting.me) mv.letters
    flow test = counts test l.node.setting.me mv.came mv.o (pending world) (pending next) entry.turn.out mv.letters mv.brings mv.goes mv.from mv.out

    none_sent : (test : ℕ → Letter → Bool) → count_by (test l.node.setting.me) mv.letters ≡ 0 → count_of test (pending next) ≤ count_of test (pending world)
    none_sent test none = let f : _ = flow test in omega (arith, f, none)

    -- a node after the turn, and before
    record Before (m : ℕ) (lm : Logged) : Type 0 where
      old : Logged
      was : slice_get world.nodes m ≡ Some old
      is_own : (lm.node.mail.wait ≡ after.node.mail.wait) ⊎ (lm.node.mail.wait ≡ old.node.mail.wait)

    before : (m : ℕ) (lm : Logged) → slice_get next.nodes m ≡ Some lm → Before m lm
    before m lm there = elim (cases_eq n m) [
      | inl e ↦
          let same : after ≡ lm = same_Some after lm (sym (get_set_same world.nodes n l after at) ∙ ap (slice_get (slice_set world.nodes n after)) e ∙ there) in
          record {
            old = l;
            was = subst (λ k. slice_get world.nodes k ≡ Some l) e at;
            is_own = inl (ap (λ (x : Logged). x.node.mail.wait) (sym same));
          }
      | inr ne ↦ record { old = lm; was = sym (get_set_other world.nodes n m after ne) ∙ there; is_own = inr refl }
    ]

    -- ---- the kinds of turns

    -- what a collection that is under way, or none, needs of a turn that neither begins nor ends one
    pub record Steady : Type 0 where
      pub cleans : new_manager.cleans ≡ old_manager.cleans
      pub departs : (k : ℕ) → count_by (depart_test k l.node.setting.me) mv.letters ≡ 0
      pub words : (k : ℕ) → count_by (discard_test k l.node.setting.me) mv.letters ≡ 0
      pub free : old_manager.cleans ≡ None → (is_collecting after.node.mail.wait ≡ 0) × ((k : ℕ) → count_by (clean_test k l.node.setting.me) mv.letters ≡ 0)

    pub record Calm : Type 0 where
      pub inside : is_inside after.node.mail.wait ≡ 1
      pub arrives : (k : ℕ) → count_by (arrive_test k l.node.setting.me) mv.letters ≡ 0
      pub discards : (k : ℕ) → count_by (discard_test k l.node.setting.me) mv.letters ≡ 0
      pub arrivals : new_manager.arrivals ≡ old_manager.arrivals

    pub data Kind : Type 0 where
      stays : Steady → ((cleans : List Bool) → old_manager.cleans ≡ Some cleans → Calm) → Kind
      begins : (from : ℕ) (m : ArriveRecord) (now : ManagerRecord) (departures : List Departure) → mv.came ≡ comes from (Arrive m)
          → after.node.mail.wait ≡ l.node.mail.wait → new_manager ≡ now → mv.letters ≡ map departure_of departures
          → LetGo old_manager from (arrival_in m) now departures → is_some l.node.barrier.manager ≡ true → Kind
      notes : (now : ManagerRecord) (from episode : ℕ) → new_manager ≡ now → mv.letters ≡ [] → after.node.mail.wait ≡ l.node.mail.wait
          → Noted old_manager from episode now → Kind
      ends : (now : ManagerRecord) (from episode over : ℕ) → mv.came ≡ comes from (Clean episode) → new_manager ≡ now
          → mv.letters ≡ discards_to (range_with_len 0 nodes) over
          → LetDiscard old_manager from episode now over → is_some l.node.barrier.manager ≡ true → Kind

    same_as : (barrier : Barrier) → after.node.barrier ≡ barrier → barrier.manager ≡ l.node.barrier.manager → new_manager ≡ old_manager
    same_as barrier b e =
        sym rel ∙ ap (λ (b : Barrier). unwrap_or b.manager old_manager) b ∙ ap (λ o. unwrap_or o old_manager) e
        ∙ sym (same_manager l.node.barrier.manager old_manager is)

    named_as : (barrier : Barrier) (x : ManagerRecord) → after.node.barrier ≡ barrier → barrier.manager ≡ Some x → new_manager ≡ x
    named_as barrier x b e = sym rel ∙ ap (λ (b : Barrier). unwrap_or b.manager old_manager) b ∙ ap (λ o. unwrap_or o old_manager) e

    -- with the manager as it was
    steady : (barrier : Barrier) (letters : List Letter) → after.node.barrier ≡ barrier → barrier.manager ≡ l.node.barrier.manager → mv.letters ≡ letters
        → ((k : ℕ) → count_by (depart_test k l.node.setting.me) letters ≡ 0)
        → ((k : ℕ) → count_by (discard_test k l.node.setting.me) letters ≡ 0)
        → (old_manager.cleans ≡ None → (is_collecting after.node.mail.wait ≡ 0) × ((k : ℕ) → count_by (clean_test k l.node.setting.me) letters ≡ 0))
        → Steady
    steady barrier letters b e ls departs words free = record {
      cleans = ap (λ (x : ManagerRecord). x.cleans) (same_as barrier b e);
      departs = λ k. ap (count_by (depart_test k l.node.setting.me)) ls ∙ departs k;
      words = λ k. ap (count_by (discard_test k l.node.setting.me)) ls ∙ words k;
      free = λ none. ((free none).0, λ k. ap (count_by (clean_test k l.node.setting.me)) ls ∙ (free none).1 k);
    }

    calm : (barrier : Barrier) (letters : List Letter) → after.node.barrier ≡ barrier → barrier.manager ≡ l.node.barrier.manager → mv.letters ≡ letters
        → is_inside after.node.mail.wait ≡ 1 → ((k : ℕ) → count_by (arrive_test k l.node.setting.me) letters ≡ 0)
        → ((k : ℕ) → count_by (discard_test k l.node.setting.me) letters ≡ 0) → Calm
    calm barrier letters b e ls inside arrives discards = record {
      inside = inside;
      arrives = λ k. ap (count_by (arrive_test k l.node.setting.me)) ls ∙ arrives k;
      discards = λ k. ap (count_by (discard_test k l.node.setting.me)) ls ∙ discards k;
      arrivals = ap (λ (x : ManagerRecord). x.arrivals) (same_as barrier b e);
    }

    -- what the node was told
    told_collect : (b : Bool) (from : ℕ) (m : DepartRecord) → mv.came ≡ comes from (Depart m)
        → ((e : EnvelopeRecord) (m : DepartRecord) (x : Logged) → Contains (pending world) e → e.message ≡ Depart m
        → slice_get world.nodes e.to ≡ Some x → m.collect ≡ b)
        → m.collect ≡ b
    told_collect b from m e all =
        let c : Brought l.node.setting.me from (Depart m) (pending world) =
        brought l.node.setting.me from (Depart m) mv.came mv.o (pending world) entry.turn.out (pending next) e mv.brings mv.goes in
        all c.envelope m l c.among c.message_is (ap (slice_get world.nodes) (c.to ∙ me_is) ∙ at)

    told_discard : (from episode : ℕ) → mv.came ≡ comes from (Discard episode) → 1 ≤ count_by (discard_to n) (pending world)
    told_discard from episode e =
        let c : Brought l.node.setting.me from (Discard episode) (pending world) =
        brought l.node.setting.me from (Discard episode) mv.came mv.o (pending world) entry.turn.out (pending next) e mv.brings mv.goes in
        subst (λ k. 1 ≤ count_by (discard_to k) (pending world)) (c.to ∙ me_is)
        (counted_in (discard_to c.envelope.to) (pending world) c.envelope c.among
        (and_from (says_discard c.envelope.message) (c.envelope.to == c.envelope.to) (ap says_discard c.message_is) (eq-eqb c.envelope.to c.envelope.to refl)))

    by_bars : (came : Came) (wait : Wait) (barrier : Barrier) (letters : List Letter) → Barring (site_of l.node) came wait barrier letters
        → mv.came ≡ came → after.node.mail.wait ≡ wait → after.node.barrier ≡ barrier → mv.letters ≡ letters → Kind
    by_bars _ wait barrier letters (arrives_at m w episode same) c e b ls =
        stays
        (steady barrier letters b same ls (λ k. refl) (λ k. refl) (λ none. (ap is_collecting e, λ k. refl)))
        (λ cleans some.
        let inside : is_inside l.node.mail.wait ≡ 1 = (h.busy cleans some n l at).0 in
        let outside : is_inside l.node.mail.wait ≡ 0 = ap is_inside w in
        absurd (omega (arith, inside, outside)))
    by_bars _ wait barrier letters (gathers_at from m was now at_manager step manager_is) c e b ls =
        let g : Gathered old_manager from (arrival_in m) now =
        subst (λ x. Gathered x from (arrival_in m) now) (is was at_manager) (gathered was from (arrival_in m) now step) in
        stays
        (record {
          cleans = ap (λ (x : ManagerRecord). x.cleans) (named_as barrier now b manager_is ∙ g.after_is);
          departs = λ k. ap (count_by (depart_test k l.node.setting.me)) ls;
          words = λ k. ap (count_by (discard_test k l.node.setting.me)) ls;
          free = λ none. (ap is_collecting e ∙ (h.free none n l at).1, λ k. ap (count_by (clean_test k l.node.setting.me)) ls);
        })
        (λ cleans some. none_some cleans (sym g.arrives.free ∙ some))
    by_bars _ wait barrier letters (lets_depart_at from m was now departures at_manager step manager_is) c e b ls =
        begins from m now departures c e (named_as barrier now b manager_is) ls
        (subst (λ x. LetGo x from (arrival_in m) now departures) (is was at_manager)
        (let_go was from (arrival_in m) now departures step)) (ap is_some at_manager)
    by_bars _ wait barrier letters (departs_at from m w no_collection) c e b ls =
        stays
        (steady barrier letters b refl ls (λ k. refl) (λ k. refl) (λ none. (ap is_collecting e, λ k. refl)))
        (λ cleans some. true_false (sym (told_collect true from m c (h.busy_departs cleans some)) ∙ no_collection))
    by_bars _ wait barrier letters (collects_at from m w collects silent) c e b ls =
        stays
        (steady barrier letters b refl ls (λ k. (silent k).departs) (λ k. (silent k).discards)
        (λ none. true_false (sym collects ∙ told_collect false from m c (h.free_departs none))))
        (λ cleans some. calm barrier letters b refl ls (ap is_inside e) (λ k. (silent k).arrives) (λ k. (silent k).discards))
    by_bars _ wait barrier letters (clean_once_at from m w collects) c e b ls =
        stays
        (steady barrier letters b refl ls (λ k. refl) (λ k. refl)
        (λ none. true_false (sym collects ∙ told_collect false from m c (h.free_departs none))))
        (λ cleans some. calm barrier letters b refl ls (ap is_inside e) (λ k. refl) (λ k. refl))
    by_bars _ wait barrier letters (cleans_at had needs w) c e b ls =
        stays
        (steady barrier letters b refl ls (λ k. refl) (λ k. refl)
        (λ none.
        let zero : is_collecting l.node.mail.wait ≡ 0 = (h.free none n l at).1 in
        let one : is_collecting l.node.mail.wait ≡ 1 = ap is_collecting w in
        absurd (omega (arith, zero, one))))
        (λ cleans some. calm barrier letters b refl ls (ap is_inside e) (λ k. refl) (λ k. refl))
    by_bars _ wait barrier letters (notes_at from episode was now at_manager step manager_is) c e b ls =
        notes now from episode (named_as barrier now b manager_is) ls e
        (subst (λ x. Noted x from episode now) (is was at_manager) (noted was from episode now step))
    by_bars _ wait barrier letters (lets_discard_at from episode over was now at_manager step manager_is) c e b ls =
        ends now from episode over c (named_as barrier now b manager_is)
        (ls ∙ ap (λ (s : Setting). discards_to (range_with_len 0 s.nodes) over) own_shape.setting)
        (subst (λ x. LetDiscard x from episode now over) (is was at_manager) (let_discard was from episode now over step)) (ap is_some at_manager)
    by_bars _ wait barrier letters (discards_at from episode collection w) c e b ls =
        stays
        (steady barrier letters b refl ls (λ k. refl) (λ k. refl) (λ none. (ap is_collecting e, λ k. refl)))
        (λ cleans some.
        let zero : count_by (discard_to n) (pending world) ≡ 0 = (h.busy cleans some n l at).2 in
        let one : 1 ≤ count_by (discard_to n) (pending world) = told_discard from episode c in
        absurd (omega (arith, zero, one)))
    by_bars _ wait barrier letters (other_at same inside collecting silent) c e b ls =
        stays
        (steady barrier letters b same ls (λ k. (silent k).departs) (λ k. (silent k).discards)
        (λ none. (ap is_collecting e ∙ collecting ∙ (h.free none n l at).1, λ k. (silent k).cleans)))
        (λ cleans some.
        calm barrier letters b same ls (ap is_inside e ∙ inside ∙ (h.busy cleans some n l at).0) (λ k. (silent k).arrives) (λ k. (silent k).discards))

    pub kind : Kind
    kind = by_bars mv.came after.node.mail.wait after.node.barrier mv.letters mv.bars refl refl refl refl

    collect_in : Message → Option Bool
    collect_in (Depart d) = Some d.collect
    collect_in _ = None

    -- each departure says whether somebody has asked
    all_asked : (arrivals : List Arrival) (k : ℕ) (rest : List Arrival) (x : Letter) (d : DepartRecord)
        → Contains (map departure_of (map (departure_to arrivals) (enumerate_from k rest))) x → x.message ≡ Depart d → d.collect ≡ asks arrivals
    unfolding collect_in
    all_asked arrivals k [] x d there e = absurd (none_Contains x there)
    all_asked arrivals k (a ∷ rest) x d there e =
        elim (cases_Contains (departure_of (departure_to arrivals (k, a)))
        (map departure_of (map (departure_to arrivals) (enumerate_from (k + 1) rest))) x there) [
          | inl same ↦
              same_Some d.collect (asks arrivals) (ap collect_in (sym e) ∙ ap (λ (x : Letter). collect_in x.message) (sym same))
          | inr later ↦ all_asked arrivals (k + 1) rest x d later e
        ]

    -- ---- where a collection begins

    module _ (from : ℕ) (m : ArriveRecord) (now : ManagerRecord) (departures : List Departure) (came_is : mv.came ≡ comes from (Arrive m))
        (manager_is : new_manager ≡ now) (letters_is : mv.letters ≡ map departure_of departures)
        (g : LetGo old_manager from (arrival_in m) now departures) where
      abbrev full : ManagerRecord
      full = with_arrival old_manager from (arrival_in m)

      from_node : from < nodes
      from_node = subst (IsFromNode nodes) came_is mv.sender

      gate_of : (k : ℕ) (x : Logged) → slice_get world.nodes k ≡ Some x → Gate program nodes options world h.timely.stand k x
      gate_of k x at_k =
          gate program nodes options world h.timely.stand k x at_k
          (all_in program nodes options world r h.timely l.node.setting.me from m
          (brought l.node.setting.me from (Arrive m) mv.came mv.o (pending world) entry.turn.out (pending next) came_is mv.brings mv.goes)
          from_node now departures g k (subst (λ n. k < n) h.timely.stand.count (slice_get_within world.nodes k x at_k)))

      told_once : (k : ℕ) → k < nodes → 1 ≤ count_by (depart_to k) (pending next)
      told_once k lt =
          let f : count_of (depart_test k) (pending next) + came_count (depart_test k) l.node.setting.me mv.came
          ≡ count_of (depart_test k) (pending world) + count_by (depart_test k l.node.setting.me) mv.letters = flow (depart_test k) in
          let none : came_count (depart_test k) l.node.setting.me mv.came ≡ 0 = ap (came_count (depart_test k) l.node.setting.me) came_is in
          let size : length (arrivals_of full) ≡ nodes =
          as_many (arrival_in m) full g.all ∙ length-set old_manager.arrivals from (Some (arrival_in m)) ∙ h.timely.stand.places.arrivals in
          let one : count_by (depart_test k l.node.setting.me) mv.letters ≡ 1 =
          ap (count_by (depart_test k l.node.setting.me)) (letters_is ∙ ap (map departure_of) g.told)
          ∙ departs-once (arrivals_of full) k (subst (λ n. k < n) (sym size) lt) in
          omega (arith, f, none, one)

      record Begun (k : ℕ) (lm : Logged) : Type 0 where
        waits : lm.node.mail.wait ≡ departure
        none : count_by (arrive_from k) (pending next) + kept_of new_manager k ≡ 0
        no_word : count_by (discard_to k) (pending next) ≡ 0
        no_clean : count_by (clean_from k) (pending next) ≡ 0

      begun : (k : ℕ) (lm : Logged) → slice_get next.nodes k ≡ Some lm → Begun k lm
      begun k lm at_k =
          let lt : k < nodes = subst (λ n. k < n) timely.stand.count (slice_get_within next.nodes k lm at_k) in
          let some : 1 ≤ count_by (depart_to k) (pending next) = told_once k lt in
          let departs : count_by (arrive_from k) (pending next) + kept_of new_manager k + count_by (depart_to k)
          (pending next) ≡ awaits_depart lm.node.mail.wait =
          (timely.stand.each k lm at_k).departs in
          let discards : count_by (clean_from k) (pending next) + noted_of new_manager k + count_by (discard_to k)
          (pending next) ≡ awaits_word lm.node.mail.wait =
          (timely.stand.each k lm at_k).discards in
          let most : awaits_depart lm.node.mail.wait + awaits_word lm.node.mail.wait ≤ 1 = one_of lm.node.mail.wait in
          record {
            waits = waits_for_departure lm.node.mail.wait (omega (arith, some, departs));
            none = omega (arith, some, departs, most);
            no_word = omega (arith, some, departs, discards, most);
            no_clean = omega (arith, some, departs, discards, most);
          }

      -- who was told to depart before is none
      not_told : (e : EnvelopeRecord) (d : DepartRecord) (lm : Logged) → Contains (pending world) e → e.message ≡ Depart d
          → slice_get next.nodes e.to ≡ Some lm → ⊥
      not_told e d lm there says at_to =
          let b : Before e.to lm = before e.to lm at_to in
          let some : 1 ≤ count_by (depart_to e.to) (pending world) = is_told program nodes options world e d there says in
          let none : count_by (depart_to e.to) (pending world) ≡ 0 = (gate_of e.to b.old b.was).none in
          absurd (omega (arith, some, none))

      -- and who is told now is told whether somebody asked
      told_asked : (e : EnvelopeRecord) (d : DepartRecord) → Contains entry.turn.out e → e.message ≡ Depart d → d.collect ≡ asks (arrivals_of full)
      told_asked e d there says =
          all_asked (arrivals_of full) 0 (arrivals_of full) (letter_in e) d
          (subst (λ ls. Contains ls (letter_in e)) (mv.out ∙ letters_is ∙ ap (map departure_of) g.told) (among_letters entry.turn.out e there)) says

      asked_cleans : new_manager.cleans ≡ (if asks (arrivals_of full) then Some (replicate (length full.last) false) else None)
      asked_cleans = ap (λ (x : ManagerRecord). x.cleans) (manager_is ∙ g.after_is)

    none_asks : (b : Bool) (k : ℕ) → (if b then Some (replicate k false) else None) ≡ None → b ≡ false
    none_asks true k e = none_some (replicate k false) (sym e)
    none_asks false k e = refl

    some_asks : (b : Bool) (k : ℕ) (cleans : List Bool) → (if b then Some (replicate k false) else None) ≡ Some cleans → b ≡ true
    some_asks true k cleans e = refl
    some_asks false k cleans e = none_some cleans e

    -- ---- where it ends

    record Ended (k : ℕ) (lm : Logged) : Type 0 where
      no_clean : count_by (clean_from k) (pending next) ≡ 0
      collecting : is_collecting lm.node.mail.wait ≡ 0
      no_depart : count_by (depart_to k) (pending next) ≡ 0

    ended : (from episode over : ℕ) → mv.came ≡ comes from (Clean episode) → mv.letters ≡ discards_to (range_with_len 0 nodes) over
        → (k : ℕ) (lm : Logged) → slice_get next.nodes k ≡ Some lm → Ended k lm
    ended from episode over came_is letters_is k lm at_k =
        let lt : k < nodes = subst (λ n. k < n) timely.stand.count (slice_get_within next.nodes k lm at_k) in
        let f : count_of (discard_test k) (pending next) + came_count (discard_test k) l.node.setting.me mv.came
        ≡ count_of (discard_test k) (pending world) + count_by (discard_test k l.node.setting.me) mv.letters = flow (discard_test k) in
        let none : came_count (discard_test k) l.node.setting.me mv.came ≡ 0 = ap (came_count (discard_test k) l.node.setting.me) came_is in
        let one : count_by (discard_test k l.node.setting.me) mv.letters ≡ 1 =
        ap (count_by (discard_test k l.node.setting.me)) letters_is ∙ discards-once over nodes k lt in
        let departs : count_by (arrive_from k) (pending next) + kept_of new_manager k + count_by (depart_to k)
        (pending next) ≡ awaits_depart lm.node.mail.wait =
        (timely.stand.each k lm at_k).departs in
        let discards : count_by (clean_from k) (pending next) + noted_of new_manager k + count_by (discard_to k)
        (pending next) ≡ awaits_word lm.node.mail.wait =
        (timely.stand.each k lm at_k).discards in
        let most : awaits_depart lm.node.mail.wait + awaits_word lm.node.mail.wait ≤ 1 = one_of lm.node.mail.wait in
        record {
          no_clean = omega (arith, f, none, one, discards, most);
          collecting = waits_for_word lm.node.mail.wait (omega (arith, f, none, one, discards, most));
          no_depart = omega (arith, f, none, one, departs, discards, most);
        }

    -- ---- after the turn

    -- a letter that is a Depart is counted
    pub depart_sent : (e : EnvelopeRecord) (d : DepartRecord) → Contains entry.turn.out e → e.message ≡ Depart d
        → 1 ≤ count_by (depart_test e.to l.node.setting.me) mv.letters
    depart_sent e d there says =
        counted_in (depart_test e.to l.node.setting.me) mv.letters (letter_in e)
        (subst (λ ls. Contains ls (letter_in e)) mv.out (among_letters entry.turn.out e there))
        (and_from (says_depart e.message) (e.to == e.to) (ap says_depart says) (eq-eqb e.to e.to refl))

    kept_same : new_manager.arrivals ≡ old_manager.arrivals → (m : ℕ) → kept_of new_manager m ≡ kept_of old_manager m
    kept_same e m = ap (λ (xs : List (Option Arrival)). cond {A = ℕ} (is_some (slice_index_or xs m None)) 1 0) e

    Free : ℕ → Logged → Type 0
    Free m lm = (count_by (clean_from m) (pending next) ≡ 0) × (is_collecting lm.node.mail.wait ≡ 0)

    free_by : Kind → new_manager.cleans ≡ None → (m : ℕ) (lm : Logged) → slice_get next.nodes m ≡ Some lm → Free m lm
    unfolding Free
    free_by (stays st calm_if) none m lm at_m =
        let old_none : old_manager.cleans ≡ None = sym st.cleans ∙ none in
        let b : Before m lm = before m lm at_m in
        let was : count_by (clean_from m) (pending world) ≡ 0 = (h.free old_none m b.old b.was).0 in
        let less : count_by (clean_from m) (pending next) ≤ count_by (clean_from m) (pending world) = none_sent (clean_test m) ((st.free old_none).1 m) in (
          omega (arith, was, less),
          elim b.is_own [
            | inl own ↦ ap is_collecting own ∙ (st.free old_none).0
            | inr other ↦ ap is_collecting other ∙ (h.free old_none m b.old b.was).1
          ],
        )
    free_by (begins from r now departures came_is wait_is manager_is letters_is g managed) none m lm at_m =
        let k : Begun from r now departures came_is manager_is letters_is g m lm = begun from r now departures came_is manager_is letters_is g m lm at_m in
        (k.no_clean, ap is_collecting k.waits)
    free_by (notes now from episode manager_is letters_is wait_is g) none m lm at_m =
        none_some (slice_set g.cleans from true) (sym none ∙ ap (λ (x : ManagerRecord). x.cleans) (manager_is ∙ g.after_is))
    free_by (ends now from episode over came_is manager_is letters_is g managed) none m lm at_m =
        let k : Ended m lm = ended from episode over came_is letters_is m lm at_m in
        (k.no_clean, k.collecting)

    Busy : ℕ → Logged → Type 0
    Busy m lm = (is_inside lm.node.mail.wait ≡ 1) × (count_by (arrive_from m) (pending next) + kept_of new_manager m ≡ 0)
        × (count_by (discard_to m) (pending next) ≡ 0)

    busy_by : Kind → (cleans : List Bool) → new_manager.cleans ≡ Some cleans → (m : ℕ) (lm : Logged) → slice_get next.nodes m ≡ Some lm → Busy m lm
    unfolding Busy
    busy_by (stays st calm_if) cleans some m lm at_m =
        let old_some : old_manager.cleans ≡ Some cleans = sym st.cleans ∙ some in
        let k : Calm = calm_if cleans old_some in
        let b : Before m lm = before m lm at_m in
        let was : count_by (arrive_from m) (pending world) + kept_of old_manager m ≡ 0 = (h.busy cleans old_some m b.old b.was).1 in
        let word : count_by (discard_to m) (pending world) ≡ 0 = (h.busy cleans old_some m b.old b.was).2 in
        let less : count_by (arrive_from m) (pending next) ≤ count_by (arrive_from m) (pending world) = none_sent (arrive_test m) (k.arrives m) in
        let fewer : count_by (discard_to m) (pending next) ≤ count_by (discard_to m) (pending world) = none_sent (discard_test m) (k.discards m) in
        let kept : kept_of new_manager m ≡ kept_of old_manager m = kept_same k.arrivals m in (
          elim b.is_own [
            | inl own ↦ ap is_inside own ∙ k.inside
            | inr other ↦ ap is_inside other ∙ (h.busy cleans old_some m b.old b.was).0
          ],
          omega (arith, was, less, kept),
          omega (arith, word, fewer),
        )
    busy_by (begins from r now departures came_is wait_is manager_is letters_is g managed) cleans some m lm at_m =
        let k : Begun from r now departures came_is manager_is letters_is g m lm = begun from r now departures came_is manager_is letters_is g m lm at_m in
        (ap is_inside k.waits, k.none, k.no_word)
    busy_by (notes now from episode manager_is letters_is wait_is g) cleans some m lm at_m =
        let b : Before m lm = before m lm at_m in
        let was : count_by (arrive_from m) (pending world) + kept_of old_manager m ≡ 0 = (h.busy g.cleans g.under_way m b.old b.was).1 in
        let word : count_by (discard_to m) (pending world) ≡ 0 = (h.busy g.cleans g.under_way m b.old b.was).2 in
        let less : count_by (arrive_from m) (pending next) ≤ count_by (arrive_from m) (pending world) =
        none_sent (arrive_test m) (ap (count_by (arrive_test m l.node.setting.me)) letters_is) in
        let fewer : count_by (discard_to m) (pending next) ≤ count_by (discard_to m) (pending world) =
        none_sent (discard_test m) (ap (count_by (discard_test m l.node.setting.me)) letters_is) in
        let kept : kept_of new_manager m ≡ kept_of old_manager m = kept_same (ap (λ (x : ManagerRecord). x.arrivals) (manager_is ∙ g.after_is)) m in (
          elim b.is_own [
            | inl own ↦ ap is_inside (own ∙ wait_is) ∙ (h.busy g.cleans g.under_way n l at).0
            | inr other ↦ ap is_inside other ∙ (h.busy g.cleans g.under_way m b.old b.was).0
          ],
          omega (arith, was, less, kept),
          omega (arith, word, fewer),
        )
    busy_by (ends now from episode over came_is manager_is letters_is g managed) cleans some m lm at_m =
        none_some cleans (sym (ap (λ (x : ManagerRecord). x.cleans) (manager_is ∙ g.after_is)) ∙ some)

    free_departs_by : Kind → new_manager.cleans ≡ None → (e : EnvelopeRecord) (m : DepartRecord) (lm : Logged) → Contains (pending next) e
        → e.message ≡ Depart m → slice_get next.nodes e.to ≡ Some lm → m.collect ≡ false
    free_departs_by (stays st calm_if) none e m lm there says at_to =
        elim (in-now mv.o (pending world) entry.turn.out (pending next) e mv.goes there) [
          | inl old ↦
              let b : Before e.to lm = before e.to lm at_to in
              h.free_departs (sym st.cleans ∙ none) e m b.old old says b.was
          | inr new ↦
              let some : 1 ≤ count_by (depart_test e.to l.node.setting.me) mv.letters = depart_sent e m new says in
              let zero : count_by (depart_test e.to l.node.setting.me) mv.letters ≡ 0 = st.departs e.to in
              absurd (omega (arith, some, zero))
        ]
    free_departs_by (begins from r now departures came_is wait_is manager_is letters_is g managed) none e m lm there says at_to =
        elim (in-now mv.o (pending world) entry.turn.out (pending next) e mv.goes there) [
          | inl old ↦ absurd (not_told from r now departures came_is manager_is letters_is g e m lm old says at_to)
          | inr new ↦
              told_asked from r now departures came_is manager_is letters_is g e m new says
              ∙ none_asks _ _ (sym (asked_cleans from r now departures came_is manager_is letters_is g) ∙ none)
        ]
    free_departs_by (notes now from episode manager_is letters_is wait_is g) none e m lm there says at_to =
        none_some (slice_set g.cleans from true) (sym none ∙ ap (λ (x : ManagerRecord). x.cleans) (manager_is ∙ g.after_is))
    free_departs_by (ends now from episode over came_is manager_is letters_is g managed) none e m lm there says at_to =
        let k : Ended e.to lm = ended from episode over came_is letters_is e.to lm at_to in
        let some : 1 ≤ count_by (depart_to e.to) (pending next) = is_told program nodes options next e m there says in
        let zero : count_by (depart_to e.to) (pending next) ≡ 0 = k.no_depart in
        absurd (omega (arith, some, zero))

    busy_departs_by : Kind → (cleans : List Bool) → new_manager.cleans ≡ Some cleans → (e : EnvelopeRecord) (m : DepartRecord) (lm : Logged)
        → Contains (pending next) e → e.message ≡ Depart m → slice_get next.nodes e.to ≡ Some lm → m.collect ≡ true
    busy_departs_by (stays st calm_if) cleans some_is e m lm there says at_to =
        elim (in-now mv.o (pending world) entry.turn.out (pending next) e mv.goes there) [
          | inl old ↦
              let b : Before e.to lm = before e.to lm at_to in
              h.busy_departs cleans (sym st.cleans ∙ some_is) e m b.old old says b.was
          | inr new ↦
              let some : 1 ≤ count_by (depart_test e.to l.node.setting.me) mv.letters = depart_sent e m new says in
              let zero : count_by (depart_test e.to l.node.setting.me) mv.letters ≡ 0 = st.departs e.to in
              absurd (omega (arith, some, zero))
        ]
    busy_departs_by (begins from r now departures came_is wait_is manager_is letters_is g managed) cleans some_is e m lm there says at_to =
        elim (in-now mv.o (pending world) entry.turn.out (pending next) e mv.goes there) [
          | inl old ↦ absurd (not_told from r now departures came_is manager_is letters_is g e m lm old says at_to)
          | inr new ↦
              told_asked from r now departures came_is manager_is letters_is g e m new says
              ∙ some_asks _ _ cleans (sym (asked_cleans from r now departures came_is manager_is letters_is g) ∙ some_is)
        ]
    busy_departs_by (notes now from episode manager_is letters_is wait_is g) cleans some_is e m lm there says at_to =
        elim (in-now mv.o (pending world) entry.turn.out (pending next) e mv.goes there) [
          | inl old ↦
              let b : Before e.to lm = before e.to lm at_to in
              h.busy_departs g.cleans g.under_way e m b.old old says b.was
          | inr new ↦
              let some : 1 ≤ count_by (depart_test e.to l.node.setting.me) mv.letters = depart_sent e m new says in
              let zero : count_by (depart_test e.to l.node.setting.me) mv.letters ≡ 0 = ap (count_by (depart_test e.to l.node.setting.me)) letters_is in
              absurd (omega (arith, some, zero))
        ]
    busy_departs_by (ends now from episode over came_is manager_is letters_is g managed) cleans some_is e m lm there says at_to =
        none_some cleans (sym (ap (λ (x : ManagerRecord). x.cleans) (manager_is ∙ g.after_is)) ∙ some_is)

    next-exclusive : Exclusive next
    unfolding Free Busy
    next-exclusive = record {
      timely = timely;
      free = free_by kind;
      free_departs = free_departs_by kind;
      busy = busy_by kind;
      busy_departs = busy_departs_by kind;
    }

  exclusive-kept : KeptByReached program nodes options Exclusive
  exclusive-kept world flight n l after input entry at come i r r' h = next-exclusive world flight n l after input entry at come i r r' h

  pub fresh_wait : (n : ℕ) (l : Logged) → slice_get (fresh_world program nodes options).nodes n ≡ Some l → l.node.mail.wait ≡ nothing
  fresh_wait n l at = ap (λ (x : Logged). x.node.mail.wait) (fresh_at program nodes options 0 nodes n l at)

  fresh_manager : (s : AllStand program nodes options (fresh_world program nodes options)) (n : ℕ) (l : Logged)
      → slice_get (fresh_world program nodes options).nodes n ≡ Some l → s.manager.cleans ≡ None
  fresh_manager s n l at =
      let within : n < length (fresh_world program nodes options).nodes = slice_get_within (fresh_world program nodes options).nodes n l at in
      let first : (x : Logged) × (slice_get (fresh_world program nodes options).nodes 0 ≡ Some x) =
      get_within (fresh_world program nodes options).nodes 0 (omega (arith, within)) in
      let its : first.0.node.barrier.manager ≡ Some (first_manager nodes) =
      ap (λ (x : Logged). x.node.barrier.manager) (fresh_at program nodes options 0 nodes 0 first.0 first.1) in
      ap (λ (x : ManagerRecord). x.cleans) (same_Some s.manager (first_manager nodes) (sym (s.here first.0 first.1) ∙ its))

  exclusive-fresh : Exclusive (fresh_world program nodes options)
  exclusive-fresh =
      let timely : Timely program nodes options (fresh_world program nodes options) =
      all_timely program nodes options [] (fresh_world program nodes options) refl in
      record {
        timely = timely;
        free = λ none n l at. (refl, ap is_collecting (fresh_wait n l at));
        free_departs = λ none e m l there. absurd (none_Contains e there);
        busy = λ cleans some n l at. none_some cleans (sym (fresh_manager timely.stand n l at) ∙ some);
        busy_departs = λ cleans some e m l there. absurd (none_Contains e there);
      }

  pub all_exclusive : (events : List Event) (world : World) → run_of program nodes options events ≡ Some world → Exclusive world
  all_exclusive events world e = by_reached program nodes options Exclusive exclusive-kept events world exclusive-fresh e
