-- In every run: messages of barriers go to node 0 or come from it, and are of the episode of the node that they concern.
use Rattle.std.proofs.Common.{◌≡◌, ℕ, suc, ◌+◌, ◌≤◌, List, [], ◌∷◌, Bool, true, false, is_some, map, refl, sym, ap, subst, ◌∙◌, inl, inr, arith}
use Rattle.std.specs.Prelude.{Option, Some, None, ◌==◌, Contains, count_by, slice_get, slice_set, slice_index_or}
use Rattle.std.specs.List.{range_with_len, enumerate_from, filter_map, list_all}
use Rattle.std.proofs.lemmas.Bool.{cases_eq, eq-eqb, and_from}
use Rattle.std.proofs.lemmas.Option.{same_Some}
use Rattle.lrc_program.specs.declared.Program.{Program}
use Rattle.lrc_envelope.specs.Envelope.{EnvelopeRecord}
use Rattle.lrc_envelope.specs.Records.{ArriveRecord, DepartRecord}
use Rattle.lrc_envelope.specs.declared.message.Message.{Message}
use Rattle.lrc_envelope.specs.declared.message.Message.TheVariants.{Arrive, Depart, Clean, Discard}
use Rattle.lrc_store.proofs.Orders.{cases_Contains, none_Contains}
use Rattle.lrc_barrier.specs.declared.arrival.Arrival.{Arrival}
use Rattle.lrc_barrier.specs.Barrier.{ManagerRecord, with_arrival, arrivals_of, departure_to}
use Rattle.lrc_protocol.specs.declared.event.Event.{Event}
use Rattle.lrc_protocol.specs.Locks.{Locks}
use Rattle.lrc_protocol.specs.Barriers.{arrival_in, Barrier}
use Rattle.lrc_protocol.specs.Node.{Letter, Wait, nothing, OptionsRecord}
use Rattle.lrc_protocol.specs.Turn.{letter, departure_of, discards_to}
use Rattle.lrc_protocol.specs.Run.{Input, EntryRecord, Logged, World, Flying, fresh_world, with_turn, run_of}
use Rattle.lrc_protocol.specs.Follows.{pending}
use Rattle.lrc_protocol.proofs.Worlds.{IsEntry, get_set_same, get_set_other}
use Rattle.lrc_protocol.proofs.Induction.{Comes}
use Rattle.lrc_order_laws.specs.Barriers.{says_arrive, says_clean, says_discard, arrive_from, depart_to, clean_from}
use Rattle.lrc_order_laws.specs.Barriers.{discard_to, kept_of, noted_of, awaits_depart, awaits_word}
use Rattle.lrc_order_laws.proofs.Sends.{Came, Site, site_of, letter_in}
use Rattle.lrc_order_laws.proofs.Managers.{departs-only, discards-only}
use Rattle.lrc_order_laws.proofs.Standing.{arrive_test, depart_test, clean_test, discard_test}
use Rattle.lrc_order_laws.proofs.Moves.{in-now, Brought, brought, sent_from, among_letters, counted_in}
use Rattle.lrc_order_laws.proofs.Arrivals.{get_set, kept_before}
use Rattle.lrc_order_laws.proofs.Barring.{Barring, arrives_at, gathers_at, lets_depart_at, departs_at, collects_at}
use Rattle.lrc_order_laws.proofs.Barring.{clean_once_at, cleans_at, notes_at, lets_discard_at, discards_at, other_at}
use Rattle.lrc_order_laws.proofs.Passing.{Passing, arrives_so, told_so, gathers_so, lets_depart_so, other_so}
use Rattle.lrc_order_laws.proofs.Timely.{Timely, is_kept, is_sent, is_told}
use Rattle.lrc_order_laws.proofs.AllTimely.{manager_after}
use Rattle.lrc_order_laws.proofs.Exclusive.{Exclusive, all_exclusive, one_of, Kind, stays, begins, notes, ends}
use Rattle.lrc_order_laws.proofs.Exclusive.{kind, mv, timely, me_is, is, depart_sent, fresh_wait}
use Rattle.lrc_order_laws.proofs.Reached.{IsReached, KeptByReached, by_reached}

-- ---- what a letter says

none_such : {X : Type 0} (test : Letter → Bool) (letters : List Letter) (x : Letter) → count_by test letters ≡ 0 → Contains letters x → test x ≡ true → X
none_such test letters x none there passes =
    let some : 1 ≤ count_by test letters = counted_in test letters x there passes in
    let never : ⊥ = absurd (omega (arith, none, some)) in
    absurd never

passes_arrive : (me : ℕ) (x : Letter) (m : ArriveRecord) → x.message ≡ Arrive m → arrive_test me me x ≡ true
passes_arrive me x m e = and_from (says_arrive x.message) (me == me) (ap says_arrive e) (eq-eqb me me refl)

passes_clean : (me : ℕ) (x : Letter) (episode : ℕ) → x.message ≡ Clean episode → clean_test me me x ≡ true
passes_clean me x episode e = and_from (says_clean x.message) (me == me) (ap says_clean e) (eq-eqb me me refl)

passes_discard : (me : ℕ) (x : Letter) (episode : ℕ) → x.message ≡ Discard episode → discard_test x.to me x ≡ true
passes_discard me x episode e = and_from (says_discard x.message) (x.to == x.to) (ap says_discard e) (eq-eqb x.to x.to refl)

episode_in : Message → Option ℕ
episode_in (Arrive m) = Some m.episode
episode_in (Depart m) = Some m.episode
episode_in (Clean episode) = Some episode
episode_in (Discard episode) = Some episode
episode_in _ = None

-- an Arrive goes to node 0, with the node's episode
arrive_letter : (s : Site) (came : Came) (wait : Wait) (barrier : Barrier) (letters : List Letter) → Barring s came wait barrier letters
    → (x : Letter) (m : ArriveRecord) → Contains letters x → x.message ≡ Arrive m → (x.to ≡ 0) × (m.episode ≡ barrier.episode)
unfolding episode_in
arrive_letter s _ _ barrier letters (arrives_at r w episode same) x m there e = elim (cases_Contains (letter 0 (Arrive r)) [] x there) [
  | inl is ↦ (
    ap (λ (x : Letter). x.to) (sym is),
    same_Some m.episode r.episode (ap episode_in (sym e) ∙ ap (λ (x : Letter). episode_in x.message) (sym is)) ∙ episode,
  )
  | inr none ↦ absurd (none_Contains x none)
]
arrive_letter s _ _ _ letters (gathers_at from r before after at step manager_is) x m there e = absurd (none_Contains x there)
arrive_letter s _ _ _ letters (lets_depart_at from r before after departures at step manager_is) x m there e =
    none_such (arrive_test s.me s.me) letters x (departs-only (arrive_test s.me s.me) (λ d. refl) departures) there (passes_arrive s.me x m e)
arrive_letter s _ _ _ letters (departs_at from r w no_collection) x m there e = absurd (none_Contains x there)
arrive_letter s _ _ _ letters (collects_at from r w collects silent) x m there e =
    none_such (arrive_test s.me s.me) letters x (silent s.me).arrives there (passes_arrive s.me x m e)
arrive_letter s _ _ _ letters (clean_once_at from r w collects) x m there e =
    none_such (arrive_test s.me s.me) letters x refl there (passes_arrive s.me x m e)
arrive_letter s _ _ _ letters (cleans_at had needs w) x m there e =
    none_such (arrive_test s.me s.me) letters x refl there (passes_arrive s.me x m e)
arrive_letter s _ _ _ letters (notes_at from episode before after at step manager_is) x m there e = absurd (none_Contains x there)
arrive_letter s _ _ _ letters (lets_discard_at from episode over before after at step manager_is) x m there e =
    none_such (arrive_test s.me s.me) letters x
    (discards-only (arrive_test s.me s.me) over (λ to. refl) (range_with_len 0 s.nodes)) there (passes_arrive s.me x m e)
arrive_letter s _ _ _ letters (discards_at from episode collection w) x m there e = absurd (none_Contains x there)
arrive_letter s _ _ _ letters (other_at same inside collecting silent) x m there e =
    none_such (arrive_test s.me s.me) letters x (silent s.me).arrives there (passes_arrive s.me x m e)

-- a Clean goes to node 0, with the node's episode
clean_letter : (s : Site) (came : Came) (wait : Wait) (barrier : Barrier) (letters : List Letter) → Barring s came wait barrier letters
    → (x : Letter) (k : ℕ) → Contains letters x → x.message ≡ Clean k → (x.to ≡ 0) × (k ≡ barrier.episode)
unfolding episode_in
clean_letter s _ _ barrier letters (arrives_at r w episode same) x k there e =
    none_such (clean_test s.me s.me) letters x refl there (passes_clean s.me x k e)
clean_letter s _ _ _ letters (gathers_at from r before after at step manager_is) x k there e = absurd (none_Contains x there)
clean_letter s _ _ _ letters (lets_depart_at from r before after departures at step manager_is) x k there e =
    none_such (clean_test s.me s.me) letters x (departs-only (clean_test s.me s.me) (λ d. refl) departures) there (passes_clean s.me x k e)
clean_letter s _ _ _ letters (departs_at from r w no_collection) x k there e = absurd (none_Contains x there)
clean_letter s _ _ _ letters (collects_at from r w collects silent) x k there e =
    none_such (clean_test s.me s.me) letters x (silent s.me).cleans there (passes_clean s.me x k e)
clean_letter s _ _ barrier letters (clean_once_at from r w collects) x k there e = elim (cases_Contains (letter 0 (Clean s.barrier.episode)) [] x there) [
  | inl is ↦ (
    ap (λ (x : Letter). x.to) (sym is),
    same_Some k s.barrier.episode (ap episode_in (sym e) ∙ ap (λ (x : Letter). episode_in x.message) (sym is)),
  )
  | inr none ↦ absurd (none_Contains x none)
]
clean_letter s _ _ barrier letters (cleans_at had needs w) x k there e = elim (cases_Contains (letter 0 (Clean s.barrier.episode)) [] x there) [
  | inl is ↦ (
    ap (λ (x : Letter). x.to) (sym is),
    same_Some k s.barrier.episode (ap episode_in (sym e) ∙ ap (λ (x : Letter). episode_in x.message) (sym is)),
  )
  | inr none ↦ absurd (none_Contains x none)
]
clean_letter s _ _ _ letters (notes_at from episode before after at step manager_is) x k there e = absurd (none_Contains x there)
clean_letter s _ _ _ letters (lets_discard_at from episode over before after at step manager_is) x k there e =
    none_such (clean_test s.me s.me) letters x (discards-only (clean_test s.me s.me) over (λ to. refl) (range_with_len 0 s.nodes))
    there (passes_clean s.me x k e)
clean_letter s _ _ _ letters (discards_at from episode collection w) x k there e = absurd (none_Contains x there)
clean_letter s _ _ _ letters (other_at same inside collecting silent) x k there e =
    none_such (clean_test s.me s.me) letters x (silent s.me).cleans there (passes_clean s.me x k e)

-- a word to discard is of the episode that is over
word_letter : (nodes : List ℕ) (over : ℕ) (x : Letter) (k : ℕ) → Contains (discards_to nodes over) x → x.message ≡ Discard k → k ≡ over
unfolding episode_in
word_letter [] over x k there e = absurd (none_Contains x there)
word_letter (to ∷ nodes) over x k there e = elim (cases_Contains (letter to (Discard over)) (discards_to nodes over) x there) [
  | inl is ↦ same_Some k over (ap episode_in (sym e) ∙ ap (λ (x : Letter). episode_in x.message) (sym is))
  | inr later ↦ word_letter nodes over x k later e
]

-- a departure is of the episode of its node's arrival
depart_letter : (all : List Arrival) (first : ℕ) (places : List (Option Arrival)) (x : Letter) (m : DepartRecord) → list_all is_some places ≡ true
    → Contains (map departure_of (map (departure_to all) (enumerate_from first (filter_map (λ a. a) places)))) x → x.message ≡ Depart m
    → (k : ℕ) × (x.to ≡ first + k) × ((a : Arrival) × (slice_index_or places k None ≡ Some a) × (m.episode ≡ a.episode))
unfolding episode_in
depart_letter all first [] x m full there e = absurd (none_Contains x there)
depart_letter all first (None ∷ places) x m full there e = cc
depart_letter all first (Some a ∷ places) x m full there e =
    elim (cases_Contains (departure_of (departure_to all (first, a)))
    (map departure_of (map (departure_to all) (enumerate_from (first + 1) (filter_map (λ a. a) places)))) x there) [
      | inl is ↦ (
        0,
        (let to : x.to ≡ first = ap (λ (x : Letter). x.to) (sym is) in omega (arith, to)),
        (a, refl, same_Some m.episode a.episode (ap episode_in (sym e) ∙ ap (λ (x : Letter). episode_in x.message) (sym is))),
      )
      | inr later ↦
          let (k, to, rest) = depart_letter all (first + 1) places x m full later e in
          (suc k, omega (arith, to), rest)
    ]

-- who waits for something keeps its episode
episode_kept : (s : Site) (came : Came) (acts : Bool) (wait : Wait) (locks : Locks) (barrier : Barrier) (letters : List Letter)
    → Passing s came acts wait locks barrier letters → (s.wait ≡ nothing → ⊥) → barrier.episode ≡ s.barrier.episode
episode_kept s _ _ _ _ _ _ (arrives_so r after w n time same episode) some = absurd (some w)
episode_kept s _ _ _ _ _ _ (told_so from r w ne times quiet) some = refl
episode_kept s _ _ _ _ _ _ (gathers_so from r before after at step manager_is episode) some = episode
episode_kept s _ _ _ _ _ _ (lets_depart_so from r before after departures at sized step manager_is episode) some = episode
episode_kept s _ _ _ _ _ _ (other_so quiet keeps episode waits time times) some = episode

departs_something : (w : Wait) → 1 ≤ awaits_depart w → w ≡ nothing → ⊥
departs_something w some e = let zero : awaits_depart w ≡ 0 = ap awaits_depart e in absurd (omega (arith, some, zero))

discards_something : (w : Wait) → 1 ≤ awaits_word w → w ≡ nothing → ⊥
discards_something w some e = let zero : awaits_word w ≡ 0 = ap awaits_word e in absurd (omega (arith, some, zero))

module _ (program : Program) (nodes : ℕ) (options : OptionsRecord) where
  pub record Addressed (world : World) : Type 0 where
    pub exclusive : Exclusive program nodes options world
    pub arrive : (e : EnvelopeRecord) (m : ArriveRecord) → Contains (pending world) e → e.message ≡ Arrive m
        → (e.to ≡ 0) × ((l : Logged) → slice_get world.nodes e.from ≡ Some l → m.episode ≡ l.node.barrier.episode)
    pub kept : (n : ℕ) (a : Arrival) (l : Logged) → slice_index_or exclusive.timely.stand.manager.arrivals n None ≡ Some a
        → slice_get world.nodes n ≡ Some l → a.episode ≡ l.node.barrier.episode
    pub depart : (e : EnvelopeRecord) (m : DepartRecord) → Contains (pending world) e → e.message ≡ Depart m
        → (e.from ≡ 0) × ((l : Logged) → slice_get world.nodes e.to ≡ Some l → m.episode ≡ l.node.barrier.episode)
    pub clean : (e : EnvelopeRecord) (episode : ℕ) → Contains (pending world) e → e.message ≡ Clean episode
        → (e.to ≡ 0) × ((l : Logged) → slice_get world.nodes e.from ≡ Some l → episode ≡ l.node.barrier.episode)
    pub word : (e : EnvelopeRecord) (episode : ℕ) → Contains (pending world) e → e.message ≡ Discard episode
        → (e.from ≡ 0) × ((l : Logged) → slice_get world.nodes e.to ≡ Some l → episode ≡ l.node.barrier.episode)

  module _ (world : World) (flight : List Flying) (n : ℕ) (l after : Logged) (input : Input) (entry : EntryRecord)
      (at : slice_get world.nodes n ≡ Some l) (come : Comes world n input flight) (i : IsEntry l input entry after)
      (r : IsReached program nodes options world) (r' : IsReached program nodes options (with_turn world flight n entry after))
      (h : Addressed world) where
    abbrev next : World
    next = with_turn world flight n entry after

    abbrev old_manager : ManagerRecord
    old_manager = h.exclusive.timely.stand.manager

    exclusive : Exclusive program nodes options next
    exclusive = all_exclusive program nodes options r'.events next r'.runs

    mine : l.node.setting.me ≡ n
    mine = me_is program nodes options world flight n l after input entry at come i r r' h.exclusive

    -- a node after the turn, and before: who waited for something has the episode that it had
    record Before (m : ℕ) (lm : Logged) : Type 0 where
      old : Logged
      was : slice_get world.nodes m ≡ Some old
      episode : (old.node.mail.wait ≡ nothing → ⊥) → lm.node.barrier.episode ≡ old.node.barrier.episode

    before : (m : ℕ) (lm : Logged) → slice_get next.nodes m ≡ Some lm → Before m lm
    before m lm there = elim (cases_eq n m) [
      | inl e ↦
          let same : after ≡ lm = same_Some after lm (sym (get_set_same world.nodes n l after at) ∙ ap (slice_get (slice_set world.nodes n after)) e ∙ there) in
          let moves : _ = mv program nodes options world flight n l after input entry at come i r r' h.exclusive in
          record {
            old = l;
            was = subst (λ k. slice_get world.nodes k ≡ Some l) e at;
            episode = λ some.
                ap (λ (x : Logged). x.node.barrier.episode) (sym same)
                ∙ episode_kept (site_of l.node) moves.came moves.acts after.node.mail.wait after.node.locks after.node.barrier moves.letters moves.passes some;
          }
      | inr ne ↦ record { old = lm; was = sym (get_set_other world.nodes n m after ne) ∙ there; episode = λ some. refl }
    ]

    -- who has arrived, is told to depart, is clean or is told to discard waits for something
    gate_waits : (m : ℕ) (x : Logged) → slice_get world.nodes m ≡ Some x
        → 1 ≤ count_by (arrive_from m) (pending world) + kept_of old_manager m + count_by (depart_to m) (pending world) → x.node.mail.wait ≡ nothing → ⊥
    gate_waits m x at_m some =
        let so : count_by (arrive_from m) (pending world) + kept_of old_manager m + count_by (depart_to m) (pending world) ≡ awaits_depart x.node.mail.wait =
        (h.exclusive.timely.stand.each m x at_m).departs in
        departs_something x.node.mail.wait (omega (arith, some, so))

    word_waits : (m : ℕ) (x : Logged) → slice_get world.nodes m ≡ Some x
        → 1 ≤ count_by (clean_from m) (pending world) + noted_of old_manager m + count_by (discard_to m) (pending world) → x.node.mail.wait ≡ nothing → ⊥
    word_waits m x at_m some =
        let so : count_by (clean_from m) (pending world) + noted_of old_manager m + count_by (discard_to m) (pending world) ≡ awaits_word x.node.mail.wait =
        (h.exclusive.timely.stand.each m x at_m).discards in
        discards_something x.node.mail.wait (omega (arith, some, so))

    -- the episode of who waited for something stays
    kept_old : (m episode : ℕ) → ((x : Logged) → slice_get world.nodes m ≡ Some x → episode ≡ x.node.barrier.episode)
        → ((x : Logged) → slice_get world.nodes m ≡ Some x → x.node.mail.wait ≡ nothing → ⊥)
        → (lm : Logged) → slice_get next.nodes m ≡ Some lm → episode ≡ lm.node.barrier.episode
    kept_old m episode is waits lm at_m =
        let b : Before m lm = before m lm at_m in
        is b.old b.was ∙ sym (b.episode (waits b.old b.was))

    -- what is sent is from the node, and so is an arrival's or a Clean's node
    own_node : (e : EnvelopeRecord) → Contains entry.turn.out e → (lm : Logged) → slice_get next.nodes e.from ≡ Some lm → (e.from ≡ n) × (after ≡ lm)
    own_node e new lm at_from =
        let moves : _ = mv program nodes options world flight n l after input entry at come i r r' h.exclusive in
        let from_is : e.from ≡ n = sent_from l.node.setting.me entry.turn.out e moves.from new ∙ mine in
        (from_is, same_Some after lm (sym (get_set_same world.nodes n l after at) ∙ ap (slice_get next.nodes) (sym from_is) ∙ at_from))

    sent_letter : (e : EnvelopeRecord) → Contains entry.turn.out e
        → Contains (mv program nodes options world flight n l after input entry at come i r r' h.exclusive).letters (letter_in e)
    sent_letter e new =
        let moves : _ = mv program nodes options world flight n l after input entry at come i r r' h.exclusive in
        subst (λ ls. Contains ls (letter_in e)) moves.out (among_letters entry.turn.out e new)

    arrive-kept : (e : EnvelopeRecord) (m : ArriveRecord) → Contains (pending next) e → e.message ≡ Arrive m
        → (e.to ≡ 0) × ((lm : Logged) → slice_get next.nodes e.from ≡ Some lm → m.episode ≡ lm.node.barrier.episode)
    arrive-kept e m there says =
        let moves : _ = mv program nodes options world flight n l after input entry at come i r r' h.exclusive in
        elim (in-now moves.o (pending world) entry.turn.out (pending next) e moves.goes there) [
          | inl old ↦
              let some : 1 ≤ count_by (arrive_from e.from) (pending world) + kept_of old_manager e.from =
              is_sent program nodes options world h.exclusive.timely.stand e m old says in
              let was : _ = h.arrive e m old says in
              (was.0, kept_old e.from m.episode was.1 (λ x at_from. gate_waits e.from x at_from (omega (arith, some))))
          | inr new ↦
              let k : _ =
              arrive_letter (site_of l.node) moves.came after.node.mail.wait after.node.barrier moves.letters moves.bars
              (letter_in e) m (sent_letter e new) says in
              (k.0, λ lm at_from. k.1 ∙ ap (λ (x : Logged). x.node.barrier.episode) (own_node e new lm at_from).1)
        ]

    clean-kept : (e : EnvelopeRecord) (episode : ℕ) → Contains (pending next) e → e.message ≡ Clean episode
        → (e.to ≡ 0) × ((lm : Logged) → slice_get next.nodes e.from ≡ Some lm → episode ≡ lm.node.barrier.episode)
    clean-kept e episode there says =
        let moves : _ = mv program nodes options world flight n l after input entry at come i r r' h.exclusive in
        elim (in-now moves.o (pending world) entry.turn.out (pending next) e moves.goes there) [
          | inl old ↦
              let some : 1 ≤ count_by (clean_from e.from) (pending world) =
              counted_in (clean_from e.from) (pending world) e old
              (and_from (says_clean e.message) (e.from == e.from) (ap says_clean says) (eq-eqb e.from e.from refl)) in
              let was : _ = h.clean e episode old says in
              (was.0, kept_old e.from episode was.1 (λ x at_from. word_waits e.from x at_from (omega (arith, some))))
          | inr new ↦
              let k : _ =
              clean_letter (site_of l.node) moves.came after.node.mail.wait after.node.barrier moves.letters moves.bars
              (letter_in e) episode (sent_letter e new) says in
              (k.0, λ lm at_from. k.1 ∙ ap (λ (x : Logged). x.node.barrier.episode) (own_node e new lm at_from).1)
        ]

    kept-kept : (m : ℕ) (a : Arrival) (lm : Logged) → slice_index_or exclusive.timely.stand.manager.arrivals m None ≡ Some a
        → slice_get next.nodes m ≡ Some lm → a.episode ≡ lm.node.barrier.episode
    kept-kept m a lm there at_m =
        let moves : _ = mv program nodes options world flight n l after input entry at come i r r' h.exclusive in
        elim (kept_before (site_of l.node) old_manager (is program nodes options world flight n l after input entry at come i r r' h.exclusive)
        moves.came moves.acts after.node.mail.wait after.node.locks after.node.barrier moves.letters moves.passes m a
        (ap (λ (x : ManagerRecord). slice_index_or x.arrivals m None)
        (manager_after program nodes options world next h.exclusive.timely.stand exclusive.timely.stand n l after at refl) ∙ there)) [
          | inl old ↦
              let some : 1 ≤ count_by (arrive_from m) (pending world) + kept_of old_manager m =
              is_kept program nodes options world h.exclusive.timely.stand m a old in
              kept_old m a.episode (λ x at_x. h.kept m a x old at_x) (λ x at_x. gate_waits m x at_x (omega (arith, some))) lm at_m
          | inr new ↦
              let c : Brought l.node.setting.me m (Arrive new.0) (pending world) =
              brought l.node.setting.me m (Arrive new.0) moves.came moves.o (pending world) entry.turn.out (pending next) new.1 moves.brings moves.goes in
              let some : 1 ≤ count_by (arrive_from m) (pending world) + kept_of old_manager m =
              subst (λ k. 1 ≤ count_by (arrive_from k) (pending world) + kept_of old_manager k) c.from_is
              (is_sent program nodes options world h.exclusive.timely.stand c.envelope new.0 c.among c.message_is) in
              ap (λ (a : Arrival). a.episode) new.2
              ∙ kept_old m (arrival_in new.0).episode
              (λ x at_x. (h.arrive c.envelope new.0 c.among c.message_is).1 x (ap (slice_get world.nodes) c.from_is ∙ at_x))
              (λ x at_x. gate_waits m x at_x (omega (arith, some))) lm at_m
        ]

    zero_node : is_some l.node.barrier.manager ≡ true → n ≡ 0
    zero_node managed = elim (cases_eq n 0) [
      | inl e ↦ e
      | inr ne ↦ absurd (impossible (sym (ap is_some (h.exclusive.timely.stand.nowhere n l at ne)) ∙ managed))
    ]
      where
        impossible : false ≡ true → ⊥
        impossible e = cc

    Told : EnvelopeRecord → ℕ → Type 0
    Told e episode = (e.from ≡ 0) × ((lm : Logged) → slice_get next.nodes e.to ≡ Some lm → episode ≡ lm.node.barrier.episode)

    depart-new : (e : EnvelopeRecord) (m : DepartRecord) → Contains entry.turn.out e → e.message ≡ Depart m
        → Kind program nodes options world flight n l after input entry at come i r r' h.exclusive → Told e m.episode
    unfolding Told
    depart-new e m new says (stays st calm_if) =
        let some : _ = depart_sent program nodes options world flight n l after input entry at come i r r' h.exclusive e m new says in
        let none : _ = st.departs e.to in
        absurd (omega (arith, some, none))
    depart-new e m new says (begins from a now departures came_is wait_is manager_is letters_is g managed) =
        let moves : _ = mv program nodes options world flight n l after input entry at come i r r' h.exclusive in
        let full : ManagerRecord = with_arrival old_manager from (arrival_in a) in
        let told : (k : ℕ) × (e.to ≡ 0 + k) × ((x : Arrival) × (slice_index_or full.arrivals k None ≡ Some x) × (m.episode ≡ x.episode)) =
        depart_letter (arrivals_of full) 0 full.arrivals (letter_in e) m g.all
        (subst (λ ls. Contains ls (letter_in e)) (letters_is ∙ ap (map departure_of) g.told) (sent_letter e new)) says in
        let to_is : told.0 ≡ e.to = (let t : e.to ≡ 0 + told.0 = told.1 in omega (arith, t)) in
        let x : Arrival = told.2.0 in (
          sent_from l.node.setting.me entry.turn.out e moves.from new ∙ mine ∙ zero_node managed,
          λ lm at_to.
              told.2.2
              ∙ elim (get_set old_manager.arrivals from told.0 (arrival_in a) x told.2.1) [
                | inl here ↦
                    let c : Brought l.node.setting.me from (Arrive a) (pending world) =
                    brought l.node.setting.me from (Arrive a) moves.came moves.o (pending world) entry.turn.out
                    (pending next) came_is moves.brings moves.goes in
                    let to_from : c.envelope.from ≡ e.to = c.from_is ∙ here.0 ∙ to_is in
                    let some : 1 ≤ count_by (arrive_from e.to) (pending world) + kept_of old_manager e.to =
                    subst (λ k. 1 ≤ count_by (arrive_from k) (pending world) + kept_of old_manager k) to_from
                    (is_sent program nodes options world h.exclusive.timely.stand c.envelope a c.among c.message_is) in
                    ap (λ (a : Arrival). a.episode) (sym here.1)
                    ∙ kept_old e.to (arrival_in a).episode
                    (λ x at_x. (h.arrive c.envelope a c.among c.message_is).1 x (ap (slice_get world.nodes) to_from ∙ at_x))
                    (λ x at_x. gate_waits e.to x at_x (omega (arith, some))) lm at_to
                | inr there ↦
                    let kept : slice_index_or old_manager.arrivals e.to None ≡ Some x =
                    subst (λ k. slice_index_or old_manager.arrivals k None ≡ Some x) to_is there in
                    let some : 1 ≤ count_by (arrive_from e.to) (pending world) + kept_of old_manager e.to =
                    is_kept program nodes options world h.exclusive.timely.stand e.to x kept in
                    kept_old e.to x.episode (λ y at_y. h.kept e.to x y kept at_y) (λ y at_y. gate_waits e.to y at_y (omega (arith, some))) lm at_to
              ],
        )
    depart-new e m new says (notes now from episode manager_is letters_is wait_is g) =
        absurd (none_Contains (letter_in e) (subst (λ ls. Contains ls (letter_in e)) letters_is (sent_letter e new)))
    depart-new e m new says (ends now from episode over came_is manager_is letters_is g managed) =
        let some : _ = depart_sent program nodes options world flight n l after input entry at come i r r' h.exclusive e m new says in
        let none : _ =
        ap (count_by (depart_test e.to l.node.setting.me)) letters_is
        ∙ discards-only (depart_test e.to l.node.setting.me) over (λ to. refl) (range_with_len 0 nodes) in
        absurd (omega (arith, some, none))

    depart-kept : (e : EnvelopeRecord) (m : DepartRecord) → Contains (pending next) e → e.message ≡ Depart m → Told e m.episode
    unfolding Told
    depart-kept e m there says =
        let moves : _ = mv program nodes options world flight n l after input entry at come i r r' h.exclusive in
        elim (in-now moves.o (pending world) entry.turn.out (pending next) e moves.goes there) [
          | inl old ↦
              let some : 1 ≤ count_by (depart_to e.to) (pending world) = is_told program nodes options world e m old says in
              let was : _ = h.depart e m old says in
              (was.0, kept_old e.to m.episode was.1 (λ x at_to. gate_waits e.to x at_to (omega (arith, some))))
          | inr new ↦ depart-new e m new says (kind program nodes options world flight n l after input entry at come i r r' h.exclusive)
        ]

    word-new : (e : EnvelopeRecord) (episode : ℕ) → Contains (pending next) e → Contains entry.turn.out e → e.message ≡ Discard episode
        → Kind program nodes options world flight n l after input entry at come i r r' h.exclusive → Told e episode
    unfolding Told
    word-new e k there new says (stays st calm_if) =
        none_such (discard_test e.to l.node.setting.me) _ (letter_in e) (st.words e.to) (sent_letter e new)
        (passes_discard l.node.setting.me (letter_in e) k says)
    word-new e k there new says (begins from a now departures came_is wait_is manager_is letters_is g managed) =
        none_such (discard_test e.to l.node.setting.me) (map departure_of departures) (letter_in e)
        (departs-only (discard_test e.to l.node.setting.me) (λ d. refl) departures)
        (subst (λ ls. Contains ls (letter_in e)) letters_is (sent_letter e new)) (passes_discard l.node.setting.me (letter_in e) k says)
    word-new e k there new says (notes now from episode manager_is letters_is wait_is g) =
        absurd (none_Contains (letter_in e) (subst (λ ls. Contains ls (letter_in e)) letters_is (sent_letter e new)))
    word-new e k there new says (ends now from episode over came_is manager_is letters_is g managed) =
        let moves : _ = mv program nodes options world flight n l after input entry at come i r r' h.exclusive in
        let t : Timely program nodes options next = timely program nodes options world flight n l after input entry at come i r r' h.exclusive in
        let is_over : k ≡ over =
        word_letter (range_with_len 0 nodes) over (letter_in e) k (subst (λ ls. Contains ls (letter_in e)) letters_is (sent_letter e new)) says in
        let done_same : t.stand.manager.done ≡ old_manager.done = ap (λ (x : ManagerRecord). x.done) (manager_is ∙ g.after_is) in
        let over_is : over ≡ old_manager.done = g.over_is in (
          sent_from l.node.setting.me entry.turn.out e moves.from new ∙ mine ∙ zero_node managed,
          λ lm at_to.
              let some : 1 ≤ count_by (discard_to e.to) (pending next) =
              counted_in (discard_to e.to) (pending next) e there
              (and_from (says_discard e.message) (e.to == e.to) (ap says_discard says) (eq-eqb e.to e.to refl)) in
              let arrived : lm.node.barrier.episode ≡ t.stand.manager.done + (count_by (arrive_from e.to) (pending next) + kept_of t.stand.manager e.to) =
              (t.stand.each e.to lm at_to).arrived in
              let departs : count_by (arrive_from e.to) (pending next) + kept_of t.stand.manager e.to + count_by (depart_to e.to)
              (pending next) ≡ awaits_depart lm.node.mail.wait =
              (t.stand.each e.to lm at_to).departs in
              let discards : count_by (clean_from e.to) (pending next) + noted_of t.stand.manager e.to + count_by
              (discard_to e.to) (pending next) ≡ awaits_word lm.node.mail.wait =
              (t.stand.each e.to lm at_to).discards in
              let most : awaits_depart lm.node.mail.wait + awaits_word lm.node.mail.wait ≤ 1 = one_of lm.node.mail.wait in
              omega (arith, is_over, over_is, done_same, some, arrived, departs, discards, most),
        )

    word-kept : (e : EnvelopeRecord) (episode : ℕ) → Contains (pending next) e → e.message ≡ Discard episode → Told e episode
    unfolding Told
    word-kept e k there says =
        let moves : _ = mv program nodes options world flight n l after input entry at come i r r' h.exclusive in
        elim (in-now moves.o (pending world) entry.turn.out (pending next) e moves.goes there) [
          | inl old ↦
              let some : 1 ≤ count_by (discard_to e.to) (pending world) =
              counted_in (discard_to e.to) (pending world) e old
              (and_from (says_discard e.message) (e.to == e.to) (ap says_discard says) (eq-eqb e.to e.to refl)) in
              let was : _ = h.word e k old says in
              (was.0, kept_old e.to k was.1 (λ x at_to. word_waits e.to x at_to (omega (arith, some))))
          | inr new ↦ word-new e k there new says (kind program nodes options world flight n l after input entry at come i r r' h.exclusive)
        ]

    next-addressed : Addressed next
    unfolding Told
    next-addressed = record {
      exclusive = exclusive;
      arrive = arrive-kept;
      kept = kept-kept;
      depart = depart-kept;
      clean = clean-kept;
      word = word-kept;
    }

  addressed-kept : KeptByReached program nodes options Addressed
  addressed-kept world flight n l after input entry at come i r r' h = next-addressed world flight n l after input entry at come i r r' h

  addressed-fresh : Addressed (fresh_world program nodes options)
  addressed-fresh =
      let exclusive : Exclusive program nodes options (fresh_world program nodes options) =
      all_exclusive program nodes options [] (fresh_world program nodes options) refl in
      record {
        exclusive = exclusive;
        arrive = λ e m there. absurd (none_Contains e there);
        kept = λ n a l there at.
            let some : 1 ≤ count_by (arrive_from n) [] + kept_of exclusive.timely.stand.manager n =
            is_kept program nodes options (fresh_world program nodes options) exclusive.timely.stand n a there in
            let so : count_by (arrive_from n) [] + kept_of exclusive.timely.stand.manager n + count_by (depart_to n) [] ≡ awaits_depart l.node.mail.wait =
            (exclusive.timely.stand.each n l at).departs in
            absurd (departs_something l.node.mail.wait (omega (arith, some, so)) (fresh_wait program nodes options n l at));
        depart = λ e m there. absurd (none_Contains e there);
        clean = λ e k there. absurd (none_Contains e there);
        word = λ e k there. absurd (none_Contains e there);
      }

  pub all_addressed : (events : List Event) (world : World) → run_of program nodes options events ≡ Some world → Addressed world
  all_addressed events world e = by_reached program nodes options Addressed addressed-kept events world addressed-fresh e
