-- In every run each node's time covers what every node had told by the end of the former episode, and so does each departure.
use Rattle.std.proofs.Common.{◌≡◌, ℕ, ◌+◌, ◌<◌, ◌≤◌, List, [], ◌∷◌, Bool, true, false, cond, length, map, refl, sym, ap, subst, ◌∙◌, ⊎_elim, inl, inr, arith}
use Rattle.std.specs.Prelude.{Option, Some, None, ◌==◌, Contains, count_by, is_some, slice_get, slice_set, slice_index_or, unwrap_or}
use Rattle.std.proofs.lemmas.Bool.{and_left, cases_eq, cases_lt, eqb-true, false≢true}
use Rattle.std.proofs.lemmas.List.{get_or_past}
use Rattle.std.proofs.lemmas.Option.{same_Some, slice_get_within}
use Rattle.lrc_program.specs.declared.Program.{Program}
use Rattle.lrc_exec.specs.Meaning.{Setting}
use Rattle.lrc_exec.specs.Plain.{setting_of}
use Rattle.lrc_time.specs.Time.{entry, Covers}
use Rattle.lrc_time.proofs.Times.{covers-refl, entry-zeros}
use Rattle.lrc_store.proofs.Orders.{Contains-first, Contains-later, none_Contains}
use Rattle.lrc_envelope.specs.Envelope.{EnvelopeRecord}
use Rattle.lrc_envelope.specs.Records.{ArriveRecord, DepartRecord}
use Rattle.lrc_envelope.specs.declared.message.Message.TheVariants.{LockRequest, LockForward, LockGrant, Arrive, Depart, Clean, Discard}
use Rattle.lrc_envelope.specs.declared.message.Message.TheVariants.{ChangesRequest, ChangesReply, PageRequest, PageReply}
use Rattle.lrc_barrier.specs.declared.arrival.Arrival.{Arrival}
use Rattle.lrc_barrier.specs.declared.departure.Departure.{Departure}
use Rattle.lrc_barrier.specs.Barrier.{ManagerRecord, first_manager, with_arrival, arrivals_of, departed}
use Rattle.lrc_protocol.specs.Node.{Letter, nothing, departure, OptionsRecord, fresh_node}
use Rattle.lrc_protocol.specs.Turn.{departure_of}
use Rattle.lrc_protocol.specs.Run.{Input, EntryRecord, Logged, World, Flying, fresh_world, with_turn}
use Rattle.lrc_protocol.specs.Follows.{pending}
use Rattle.lrc_protocol.specs.Follows.{turns_of}
use Rattle.lrc_protocol.proofs.Worlds.{IsEntry, get_set_same, get_set_other, fresh_at}
use Rattle.lrc_protocol.proofs.Induction.{Comes}
use Rattle.lrc_protocol.proofs.Turned.{Turned, Turns, turns}
use Rattle.lrc_protocol.specs.Barriers.{arrival_in}
use Rattle.lrc_order_laws.specs.Barriers.{says_depart, arrive_from, depart_to, kept_of}
use Rattle.lrc_order_laws.proofs.Sends.{Came, by_itself, comes, site_of, letter_in}
use Rattle.lrc_order_laws.proofs.Flows.{IsFromNode, came_count, count-cons, counts}
use Rattle.lrc_order_laws.proofs.Managers.{LetGo, kept-departed, departs-once}
use Rattle.lrc_order_laws.proofs.Arrivals.{lets_or_not}
use Rattle.lrc_order_laws.proofs.Standing.{depart_test}
use Rattle.lrc_order_laws.proofs.Moves.{in-now, Brought, brought, among_letters}
use Rattle.lrc_order_laws.proofs.AllStand.{AllStand, its_manager}
use Rattle.lrc_order_laws.proofs.Timely.{Timely, gate, get_within, is_kept, is_told}
use Rattle.lrc_order_laws.proofs.AllTimely.{manager_after, all_timely}
use Rattle.lrc_order_laws.proofs.Shape.{NodeShape, shape_at}
use Rattle.lrc_order_laws.proofs.Reached.{IsReached, KeptByReached, by_reached}
use Rattle.lrc_reading_laws.proofs.Asked.Departs.{IsOwn}
use Rattle.lrc_reading_laws.proofs.Asked.Lines.{Line, stays_so, keeps_so, lets_so}
use Rattle.lrc_reading_laws.proofs.Asked.Notes.{Notes, notes-stay, notes-keep}
use Rattle.lrc_reading_laws.proofs.Asked.Told.{ToldSo, told_so, all_counted}
use Rattle.lrc_reading_laws.proofs.Arriving.DepartSteps.{CameExpected, LineStep, line_step, expecting_at, arrives_own}
use Rattle.lrc_reading_laws.proofs.Arriving.DepartLets.{Former, size, gate_at, last-below}

-- what comes is a departure for this node, where that is counted
came_depart : (b me : ℕ) (came : Came) → 1 ≤ came_count (depart_test b) me came
    → (from : ℕ) × (m : DepartRecord) × (came ≡ comes from (Depart m)) × (me ≡ b)
came_depart b me by_itself some = absurd (omega (arith, some))
came_depart b me (comes from (Depart m)) some = (from, m, refl, by_test (me == b) refl some)
  where
    by_test : (t : Bool) → (me == b) ≡ t → 1 ≤ cond {A = ℕ} t 1 0 → me ≡ b
    by_test true e h = eqb-true me b e
    by_test false e h = absurd (omega (arith, h))
came_depart b me (comes from (LockRequest m)) some = absurd (omega (arith, some))
came_depart b me (comes from (LockForward m)) some = absurd (omega (arith, some))
came_depart b me (comes from (LockGrant m)) some = absurd (omega (arith, some))
came_depart b me (comes from (Arrive m)) some = absurd (omega (arith, some))
came_depart b me (comes from (Clean episode)) some = absurd (omega (arith, some))
came_depart b me (comes from (Discard episode)) some = absurd (omega (arith, some))
came_depart b me (comes from (ChangesRequest m)) some = absurd (omega (arith, some))
came_depart b me (comes from (ChangesReply m)) some = absurd (omega (arith, some))
came_depart b me (comes from (PageRequest page)) some = absurd (omega (arith, some))
came_depart b me (comes from (PageReply m)) some = absurd (omega (arith, some))

module _ (program : Program) (nodes : ℕ) (options : OptionsRecord) where
  module _ (world : World) (flight : List Flying) (n : ℕ) (l after : Logged) (input : Input) (entry_is : EntryRecord)
      (at : slice_get world.nodes n ≡ Some l) (come : Comes world n input flight) (i : IsEntry l input entry_is after)
      (r : IsReached program nodes options world) (r' : IsReached program nodes options (with_turn world flight n entry_is after))
      (h : Former program nodes options world) where
    abbrev pub next : World
    next = with_turn world flight n entry_is after

    pub timely' : Timely program nodes options next
    timely' = all_timely program nodes options r'.events next r'.runs

    abbrev pub manager : ManagerRecord
    manager = h.timely.stand.manager

    pub rel : unwrap_or after.node.barrier.manager h.timely.stand.manager ≡ timely'.stand.manager
    unfolding timely'
    rel = manager_after program nodes options world next h.timely.stand timely'.stand n l after at refl

    pub is : (x : ManagerRecord) → l.node.barrier.manager ≡ Some x → x ≡ manager
    is = its_manager program nodes options world h.timely.stand n l at

    set : NodeShape (setting_of program nodes n) options (record { node = l.node; turns = turns_of l.log })
    set = shape_at program nodes options r.events world n l r.runs at

    pub mine : l.node.setting.me ≡ n
    mine = ap (λ (s : Setting). s.me) set.setting

    at_me : (k : ℕ) → k ≡ l.node.setting.me → slice_get world.nodes k ≡ Some l
    at_me k e = subst (λ j. slice_get world.nodes j ≡ Some l) (sym (e ∙ mine)) at

    pub step : LineStep l.node h.timely.stand.manager nodes (pending world) (pending next) entry_is.turn after.node
    step =
        let t : Turned l.node entry_is.turn after.node = subst (Turns l.node) i.turn_is (turns l.node input) in
        line_step l.node h.timely.stand.manager nodes is (pending world) (pending next) entry_is.turn after.node
        (ap (λ (s : Setting). s.nodes) set.setting) t.setting
        (expecting_at program nodes options world flight n l after input entry_is at come i r)

    -- the node before, and its time
    record Was (b : ℕ) (lb : Logged) : Type 0 where
      old : Logged
      there : slice_get world.nodes b ≡ Some old
      above : Covers lb.node.locks.time old.node.locks.time
      own : n ≡ b → after ≡ lb

    was : (b : ℕ) (lb : Logged) → slice_get next.nodes b ≡ Some lb → Was b lb
    was b lb at_b = elim (cases_eq n b) [
      | inl e ↦
          let same : after ≡ lb = same_Some after lb (sym (get_set_same world.nodes n l after at) ∙ ap (slice_get (slice_set world.nodes n after)) e ∙ at_b) in
          record {
            old = l;
            there = subst (λ k. slice_get world.nodes k ≡ Some l) e at;
            above = subst (λ (x : Logged). Covers x.node.locks.time l.node.locks.time) same step.rises_so.above;
            own = λ e. same;
          }
      | inr ne ↦
          record {
            old = lb;
            there = sym (get_set_other world.nodes n b after ne) ∙ at_b;
            above = covers-refl lb.node.locks.time;
            own = λ e. absurd (ne e);
          }
    ]

    -- where no departure is sent
    module _ (quiet : (x : Letter) → Contains step.letters x → says_depart x.message ≡ false) where
      none_sent : (b : ℕ) (letters : List Letter) → ((x : Letter) → Contains letters x → says_depart x.message ≡ false)
          → count_by (depart_test b l.node.setting.me) letters ≡ 0
      none_sent b [] q = refl
      none_sent b (x ∷ letters) q =
          let both : count_by (depart_test b l.node.setting.me) (x ∷ letters)
          ≡ cond (depart_test b l.node.setting.me x) 1 0 + count_by (depart_test b l.node.setting.me) letters =
          count-cons (depart_test b l.node.setting.me) x letters in
          let first : cond {A = ℕ} (depart_test b l.node.setting.me x) 1 0 ≡ 0 =
          ap (λ t. cond {A = ℕ} t 1 0) (and_left (says_depart x.message) (x.to == b) (q x (Contains-first x letters))) in
          let rest : count_by (depart_test b l.node.setting.me) letters ≡ 0 =
          none_sent b letters (λ y there. q y (Contains-later x letters y there)) in
          omega (arith, both, first, rest)

      pub knows-on : (b : ℕ) (lb : Logged) → slice_get next.nodes b ≡ Some lb → count_by (depart_to b) (pending next) ≡ 0
          → (q : ℕ) → h.former q ≤ entry lb.node.locks.time q
      knows-on b lb at_b none q =
          let w : Was b lb = was b lb at_b in
          let flow : count_by (depart_to b) (pending next) + came_count (depart_test b) l.node.setting.me step.came
          ≡ count_by (depart_to b) (pending world) + count_by (depart_test b l.node.setting.me) step.letters =
          counts (depart_test b) l.node.setting.me step.came step.o (pending world)
          (pending next) entry_is.turn.out step.letters step.brings step.goes step.from
          step.out in
          let unsent : count_by (depart_test b l.node.setting.me) step.letters ≡ 0 = none_sent b step.letters quiet in
          let rise : entry w.old.node.locks.time q ≤ entry lb.node.locks.time q = w.above q in
          ⊎_elim
          (λ (some : 0 < came_count (depart_test b) l.node.setting.me step.came).
          let d : (from : ℕ) × (m : DepartRecord) × (step.came ≡ comes from (Depart m)) × (l.node.setting.me ≡ b) =
          came_depart b l.node.setting.me step.came (omega (arith, some)) in
          let c : Brought l.node.setting.me d.0 (Depart d.1) (pending world) =
          brought l.node.setting.me d.0 (Depart d.1) step.came step.o (pending world) entry_is.turn.out (pending next) d.2 step.brings step.goes in
          let had : h.former q ≤ entry d.1.time q = h.told c.envelope d.1 l c.among c.message_is (at_me c.envelope.to c.to) q in
          let now : entry d.1.time q ≤ entry after.node.locks.time q = step.rises_so.told d.0 d.1 d.2 q in
          subst (λ (x : Logged). h.former q ≤ entry x.node.locks.time q) (w.own (sym mine ∙ d.3)) (omega (arith, had, now)))
          (λ (none_came : came_count (depart_test b) l.node.setting.me step.came ≤ 0).
          let before : h.former q ≤ entry w.old.node.locks.time q = h.knows b w.old w.there (omega (arith, none, flow, unsent, none_came)) q in
          omega (arith, before, rise))
          (cases_lt 0 (came_count (depart_test b) l.node.setting.me step.came))

      pub told-on : (e : EnvelopeRecord) (m : DepartRecord) (lb : Logged) → Contains (pending next) e → e.message ≡ Depart m
          → slice_get next.nodes e.to ≡ Some lb → (q : ℕ) → h.former q ≤ entry m.time q
      told-on e m lb there says at_b q = elim (in-now step.o (pending world) entry_is.turn.out (pending next) e step.goes there) [
        | inl old ↦ h.told e m (was e.to lb at_b).old old says (was e.to lb at_b).there q
        | inr new ↦
            absurd (false≢true (sym (quiet (letter_in e) (subst (λ ls. Contains ls (letter_in e)) step.out (among_letters entry_is.turn.out e new)))
            ∙ ap says_depart says))
      ]

    -- where the manager's notes are kept and no departure is sent
    goes_on : ((x : Letter) → Contains step.letters x → says_depart x.message ≡ false) → Notes h.former timely'.stand.manager
        → Former program nodes options next
    goes_on quiet notes =
        record { timely = timely'; former = h.former; notes = notes; knows = knows-on quiet; told = told-on quiet }

    -- where all are let depart
    module _ (from : ℕ) (m : ArriveRecord) (now : ManagerRecord) (departures : List Departure) (came_is : step.came ≡ comes from (Arrive m))
        (now_is : unwrap_or after.node.barrier.manager manager ≡ now) (g : LetGo manager from (arrival_in m) now departures)
        (letters_is : step.letters ≡ map departure_of departures) where
      came_from : Brought l.node.setting.me from (Arrive m) (pending world)
      came_from = brought l.node.setting.me from (Arrive m) step.came step.o (pending world) entry_is.turn.out (pending next) came_is step.brings step.goes

      from_node : from < nodes
      from_node = subst (IsFromNode nodes) came_is step.sender

      own : IsOwn (entry manager.last) (entry m.time) from m.intervals
      own = arrives_own l.node from m manager is (subst (CameExpected l.node) came_is step.expected)

      abbrev all_in : ManagerRecord
      all_in = with_arrival manager from (arrival_in m)

      then_is : timely'.stand.manager ≡ departed all_in
      then_is = sym rel ∙ now_is ∙ g.after_is

      arrivals_size : length (arrivals_of all_in) ≡ nodes
      arrivals_size =
          all_counted all_in.arrivals g.all
          ∙ size program nodes options world r h l.node.setting.me from m came_from from_node own now departures g

      abbrev now_told : ℕ → ℕ
      now_told q = entry all_in.last q

      notes_then : Notes now_told timely'.stand.manager
      notes_then =
          subst (Notes now_told) (sym then_is)
          (record {
            free = λ q e. refl;
            kept = λ q a e.
                let one : kept_of (departed all_in) q ≡ 1 = ap (λ (o : Option Arrival). cond {A = ℕ} (is_some o) 1 0) e in
                let none : kept_of (departed all_in) q ≡ 0 = kept-departed all_in q in
                absurd (omega (arith, one, none));
          })

      none_came : (b : ℕ) → came_count (depart_test b) l.node.setting.me step.came ≡ 0
      none_came b = ap (came_count (depart_test b) l.node.setting.me) came_is

      knows_then : (b : ℕ) (lb : Logged) → slice_get next.nodes b ≡ Some lb → count_by (depart_to b) (pending next) ≡ 0
          → (q : ℕ) → now_told q ≤ entry lb.node.locks.time q
      knows_then b lb at_b none q =
          let within : b < nodes = subst (λ k. b < k) timely'.stand.count (slice_get_within next.nodes b lb at_b) in
          let flow : count_by (depart_to b) (pending next) + came_count (depart_test b) l.node.setting.me step.came
          ≡ count_by (depart_to b) (pending world) + count_by (depart_test b l.node.setting.me) step.letters =
          counts (depart_test b) l.node.setting.me step.came step.o (pending world) (pending next) entry_is.turn.out step.letters step.brings
          step.goes step.from step.out in
          let sent : count_by (depart_test b l.node.setting.me) step.letters ≡ 1 =
          ap (count_by (depart_test b l.node.setting.me)) (letters_is ∙ ap (map departure_of) g.told)
          ∙ departs-once (arrivals_of all_in) b (subst (λ k. b < k) (sym arrivals_size) within) in
          let came : came_count (depart_test b) l.node.setting.me step.came ≡ 0 = none_came b in
          absurd (omega (arith, none, flow, sent, came))

      told_then : (e : EnvelopeRecord) (d : DepartRecord) (lb : Logged) → Contains (pending next) e → e.message ≡ Depart d
          → slice_get next.nodes e.to ≡ Some lb → (q : ℕ) → now_told q ≤ entry d.time q
      told_then e d lb there says at_b q = elim (in-now step.o (pending world) entry_is.turn.out (pending next) e step.goes there) [
        | inl old ↦
            let w : Was e.to lb = was e.to lb at_b in
            let some : 1 ≤ count_by (depart_to e.to) (pending world) = is_told program nodes options world e d old says in
            let none : count_by (depart_to e.to) (pending world) ≡ 0 =
            (gate_at program nodes options world r h l.node.setting.me from m came_from from_node own now departures g e.to w.old w.there).none in
            absurd (omega (arith, some, none))
        | inr new ↦
            let t : ToldSo (arrivals_of all_in) (arrivals_of all_in) 0 (letter_in e) d =
            told_so (arrivals_of all_in) (arrivals_of all_in) 0 (letter_in e) d
            (subst (λ ls. Contains ls (letter_in e)) (step.out ∙ letters_is ∙ ap (map departure_of) g.told) (among_letters entry_is.turn.out e new)) says in
            subst (λ t. now_told q ≤ entry t q) (sym t.time_is)
            (last-below program nodes options world r h l.node.setting.me from m came_from from_node own now departures g (length t.arrival.time) q)
      ]

      all_depart : Former program nodes options next
      all_depart = record { timely = timely'; former = now_told; notes = notes_then; knows = knows_then; told = told_then }

    by_line : ((x : Letter) → Contains step.letters x → says_depart x.message ≡ false) → (came : Came) (letters : List Letter) → step.came ≡ came
        → step.letters ≡ letters → Line (site_of l.node) manager came after.node.barrier letters → Former program nodes options next
    by_line quiet _ _ came_is letters_is (stays_so last arrivals) =
        goes_on quiet
        (notes-stay h.former manager timely'.stand.manager (ap (λ (x : ManagerRecord). x.last) (sym rel) ∙ last)
        (ap (λ (x : ManagerRecord). x.arrivals) (sym rel) ∙ arrivals) h.notes)
    by_line quiet _ _ came_is letters_is (keeps_so from m now now_is g) =
        let own : IsOwn (entry manager.last) (entry m.time) from m.intervals =
        arrives_own l.node from m manager is (subst (CameExpected l.node) came_is step.expected) in
        goes_on quiet
        (subst (Notes h.former) (sym (sym rel ∙ now_is ∙ g.after_is))
        (notes-keep nodes h.former manager from (arrival_in m) h.timely.stand.places (subst (IsFromNode nodes) came_is step.sender) g.arrives.first own
        h.notes))
    by_line quiet _ _ came_is letters_is (lets_so from m now departures now_is g) = all_depart from m now departures came_is now_is g letters_is

    -- every turn
    former_next : Former program nodes options next
    former_next =
        elim (lets_or_not (site_of l.node) manager is step.came step.acts after.node.mail.wait after.node.locks after.node.barrier step.letters step.passes) [
          | inl c ↦
              all_depart c.from c.arrive c.after c.departures c.came_is (ap (λ o. unwrap_or o manager) c.manager_is) c.lets c.letters_is
          | inr g ↦ by_line g.no_departs step.came step.letters refl refl step.line_is
        ]

  former-kept : KeptByReached program nodes options (Former program nodes options)
  former-kept world flight n l after input entry_is at come i r r' h = former_next world flight n l after input entry_is at come i r r' h

  -- ---- at the start

  -- nothing is noted of any node
  none-noted : (world : World) → fresh_world program nodes options ≡ world → (stand : AllStand program nodes options world) (q : ℕ)
      → entry stand.manager.last q ≡ 0
  none-noted world is stand q =
      ⊎_elim
      (λ (lt : 0 < nodes).
      let first : (x : Logged) × (slice_get world.nodes 0 ≡ Some x) = get_within world.nodes 0 (subst (λ k. 0 < k) (sym stand.count) lt) in
      let x_is : first.0 ≡ record { node = fresh_node program nodes options (0 + 0); log = [] } =
      fresh_at program nodes options 0 nodes 0 first.0 (ap (λ (w : World). slice_get w.nodes 0) is ∙ first.1) in
      let here : first.0.node.barrier.manager ≡ Some stand.manager = stand.here first.0 first.1 in
      let manager_is : first_manager nodes ≡ stand.manager =
      same_Some (first_manager nodes) stand.manager (sym (ap (λ (x : Logged). x.node.barrier.manager) x_is) ∙ here) in
      ap (λ (x : ManagerRecord). entry x.last q) (sym manager_is) ∙ entry-zeros nodes q)
      (λ (le : nodes ≤ 0).
      let none : length stand.manager.last ≡ nodes = stand.places.last in
      get_or_past stand.manager.last q 0 (omega (arith, le, none)))
      (cases_lt 0 nodes)

  former-fresh : Former program nodes options (fresh_world program nodes options)
  former-fresh =
      let timely : Timely program nodes options (fresh_world program nodes options) =
      all_timely program nodes options [] (fresh_world program nodes options) refl in
      record {
        timely = timely;
        former = λ q. 0;
        notes = record {
          free = λ q e. none-noted (fresh_world program nodes options) refl timely.stand q;
          kept = λ q a e.
              let some : 1 ≤ count_by (arrive_from q) [] + kept_of timely.stand.manager q =
              is_kept program nodes options (fresh_world program nodes options) timely.stand q a e in
              absurd (none_arrived timely.stand q a e some);
        };
        knows = λ n l at none q. omega arith;
        told = λ e m l there. absurd (none_Contains e there);
      }
    where
      none_arrived : (stand : AllStand program nodes options (fresh_world program nodes options)) (q : ℕ) (a : Arrival)
          → slice_index_or stand.manager.arrivals q None ≡ Some a → 1 ≤ count_by (arrive_from q) [] + kept_of stand.manager q → ⊥
      none_arrived stand q a e some =
          ⊎_elim
          (λ (lt : q < nodes).
          let x : (x : Logged) × (slice_get (fresh_world program nodes options).nodes q ≡ Some x) =
          get_within (fresh_world program nodes options).nodes q (subst (λ k. q < k) (sym stand.count) lt) in
          let waits : x.0.node.mail.wait ≡ departure = (gate program nodes options (fresh_world program nodes options) stand q x.0 x.1 some).waits in
          not_departure (sym (ap (λ (x : Logged). x.node.mail.wait) (fresh_at program nodes options 0 nodes q x.0 x.1)) ∙ waits))
          (λ (le : nodes ≤ q).
          let long : length stand.manager.arrivals ≡ nodes = stand.places.arrivals in
          some_none a (sym e ∙ get_or_past stand.manager.arrivals q None (omega (arith, le, long))))
          (cases_lt q nodes)
        where
          not_departure : nothing ≡ departure → ⊥
          not_departure e = cc

          some_none : (a : Arrival) → Some a ≡ None → ⊥
          some_none a e = cc

  -- every run
  pub all_former : (world : World) → IsReached program nodes options world → Former program nodes options world
  all_former world r = by_reached program nodes options (Former program nodes options) former-kept r.events world former-fresh r.runs
