-- In every run: any two nodes, as far as they stand at the same place of a collection, have collected the same and agree on the
-- keepers.
use Rattle.std.proofs.Common.{◌≡◌, ℕ, ◌+◌, ◌<◌, ◌≤◌, List, [], Bool, true, false, is_some, length, refl, sym, ap, subst, ◌∙◌, inl, inr, arith}
use Rattle.std.specs.Prelude.{Option, Some, None, ◌==◌, Contains, count_by, slice_get}
use Rattle.std.proofs.lemmas.Bool.{and_from, cases_eq, eq-eqb}
use Rattle.std.proofs.lemmas.Option.{same_Some}
use Rattle.lrc_program.specs.declared.Program.{Program}
use Rattle.lrc_clock.specs.Times.{arrived_time}
use Rattle.lrc_envelope.specs.Envelope.{EnvelopeRecord}
use Rattle.lrc_envelope.specs.Records.{DepartRecord}
use Rattle.lrc_envelope.specs.declared.message.Message.{Message}
use Rattle.lrc_envelope.specs.declared.message.Message.TheVariants.{Depart, Discard}
use Rattle.lrc_time.specs.Time.{entry}
use Rattle.lrc_store.specs.Interval.{IntervalRecord, index_of}
use Rattle.lrc_store.specs.Store.{intervals_of}
use Rattle.lrc_protocol.specs.declared.event.Event.{Event}
use Rattle.lrc_protocol.specs.Node.{Wait, nothing, grant, departure, access, upkeep, discard, Node, OptionsRecord, fresh_node}
use Rattle.lrc_protocol.specs.Run.{Input, EntryRecord, Logged, World, Flying, fresh_world, with_turn, run_of}
use Rattle.lrc_protocol.specs.Follows.{pending}
use Rattle.lrc_protocol.proofs.Ruled.{by_rule}
use Rattle.lrc_protocol.proofs.Worlds.{IsEntry, get_set_same, get_set_other, fresh_at}
use Rattle.lrc_protocol.proofs.Induction.{Comes}
use Rattle.lrc_order_laws.specs.Barriers.{says_discard, discard_to, awaits_word, time_in, IsNewestTime}
use Rattle.lrc_order_laws.proofs.Sends.{Came, by_itself, comes}
use Rattle.lrc_order_laws.proofs.Moves.{counted_in}
use Rattle.lrc_order_laws.proofs.Exclusive.{Exclusive, all_exclusive}
use Rattle.lrc_order_laws.proofs.Reached.{IsReached, KeptByReached, by_reached}
use Rattle.lrc_node_laws.specs.Ranges.{CollectsAt}
use Rattle.lrc_node_laws.specs.Reached.{IsReached as IsNodeReached}
use Rattle.lrc_node_laws.proofs.Always.{ranged_at}
use Rattle.lrc_reading_laws.specs.Made.{StoresJust}
use Rattle.lrc_reading_laws.proofs.Closed.MadeWorlds.{Knows, knows}
use Rattle.lrc_reading_laws.proofs.Closed.Stored.{stores_just, reached}
use Rattle.lrc_reading_laws.proofs.Collected.Turns.{in_collection, Steady, Begun, Ended, Kind, steady, begun, ended, Kinds, alone, again, anew, turn_kinds}
use Rattle.lrc_reading_laws.proofs.Collected.Keepers.{keepers_same}
use Rattle.lrc_reading_laws.proofs.Collected.Flips.{cleans_in, Flips, goes_on, starts, stops, flips, same_cleans, IsTaken, is_taken}
use Rattle.lrc_reading_laws.proofs.Collected.Pairs.{inside, true_false, Fits, itself, level, steady_first, steady_second}
use Rattle.lrc_reading_laws.proofs.Collected.Pairs.{SameStored, begun_first, begun_second, ended_first, ended_second}

-- ---- what a turn is told

same_message : (from from' : ℕ) (m m' : Message) → comes from m ≡ comes from' m' → m ≡ m'
same_message from from' m m' e = cc

not_alone : {Y : Type 0} (from : ℕ) (m : Message) → by_itself ≡ comes from m → Y
not_alone from m e = let never : ⊥ = cc in absurd never

-- with no turn all stays
idle : (a : Node) → Steady a a
idle a = record {
  time = λ _. refl;
  inside = refl;
  collected = refl;
  keepers = refl;
  intervals = λ _. refl;
  copies = λ page e. e;
  bases = λ page h. h;
}

-- the time of the collection that a node is in is its own
its_time : (w : Wait) (time : List ℕ) → in_collection w ≡ true → CollectsAt time w → time_in w ≡ Some time
its_time nothing time e c = cc
its_time (grant lock) time e c = cc
its_time departure time e c = cc
its_time (access need) time e c = cc
its_time (upkeep collection needs) time e c = ap Some c
its_time (discard collection) time e c = ap Some c

pub word_inside : (w : Wait) → awaits_word w ≡ 1 → in_collection w ≡ true
word_inside (discard collection) e = refl
word_inside (upkeep collection needs) e = refl
word_inside nothing e = absurd (omega (arith, e))
word_inside (grant lock) e = absurd (omega (arith, e))
word_inside departure e = absurd (omega (arith, e))
word_inside (access need) e = absurd (omega (arith, e))

module _ (program : Program) (nodes : ℕ) (options : OptionsRecord) where
  pub node_reached : (world : World) (r : IsReached program nodes options world) (n : ℕ) (l : Logged) → slice_get world.nodes n ≡ Some l → IsNodeReached l.node
  node_reached world r n l at = reached program nodes options r.events world r.runs n l at

  -- ---- one world

  module _ (world : World) (r : IsReached program nodes options world) (h : Exclusive program nodes options world) where
    -- who is in the collection has the newest time
    newest : (n : ℕ) (l : Logged) → slice_get world.nodes n ≡ Some l → inside l.node ≡ true
        → IsNewestTime nodes world.acts world.times h.timely.stand.manager.done l.node.locks.time
    newest n l at i =
        h.timely.learned n l l.node.locks.time at
        (its_time l.node.mail.wait l.node.locks.time i (ranged_at l.node (node_reached world r n l at)).present)

    -- so all who are have the same
    pub same_time : (n m : ℕ) (l k : Logged) → slice_get world.nodes n ≡ Some l → slice_get world.nodes m ≡ Some k → inside l.node ≡ true
        → inside k.node ≡ true → l.node.locks.time ≡ k.node.locks.time
    same_time n m l k at at_m i j =
        let a : IsNewestTime nodes world.acts world.times h.timely.stand.manager.done l.node.locks.time = newest n l at i in
        let b : IsNewestTime nodes world.acts world.times h.timely.stand.manager.done k.node.locks.time = newest m k at_m j in
        let one : h.timely.stand.manager.done ≡ a.number + 1 = a.newest in
        let two : h.timely.stand.manager.done ≡ b.number + 1 = b.newest in
        let same : a.number ≡ b.number = omega (arith, one, two) in
        a.joins ∙ ap (λ number. arrived_time nodes world.acts world.times number (length world.acts)) same ∙ sym b.joins

  -- with the same collected time and the same time the same is stored
  pub stored_there : (world : World) (r : IsReached program nodes options world) (n m : ℕ) (l k : Logged) → slice_get world.nodes n ≡ Some l
      → slice_get world.nodes m ≡ Some k → l.node.memory.collected ≡ k.node.memory.collected → l.node.locks.time ≡ k.node.locks.time
      → (i : IntervalRecord) → Contains (intervals_of l.node.memory.store) i → Contains (intervals_of k.node.memory.store) i
  stored_there world r n m l k at at_m c t i there =
      let made : Knows program nodes options world = knows program nodes options r.events world r.runs in
      let a : StoresJust made.made l.node = stores_just program nodes options r.events world r.runs made.made made.are n l at in
      let b : StoresJust made.made k.node = stores_just program nodes options r.events world r.runs made.made made.are m k at_m in
      let had : Contains made.made i × (entry l.node.memory.collected i.node < index_of i) × (index_of i ≤ entry l.node.locks.time i.node) = (a i).0 there in
      (b i).1 (
        had.0,
        subst (λ time. entry time i.node < index_of i) c had.1,
        subst (λ time. index_of i ≤ entry time i.node) t had.2,
      )

  pub same_stored : (world : World) (r : IsReached program nodes options world) (n m : ℕ) (l k : Logged) → slice_get world.nodes n ≡ Some l
      → slice_get world.nodes m ≡ Some k → l.node.memory.collected ≡ k.node.memory.collected → l.node.locks.time ≡ k.node.locks.time
      → SameStored l.node k.node
  same_stored world r n m l k at at_m c t keepers =
      keepers_same (intervals_of l.node.memory.store) (intervals_of k.node.memory.store) keepers
      (stored_there world r n m l k at at_m c t) (stored_there world r m n k l at_m at (sym c) (sym t))

  -- ---- one turn

  module _ (world : World) (flight : List Flying) (n : ℕ) (l after : Logged) (input : Input) (entry_made : EntryRecord)
      (at : slice_get world.nodes n ≡ Some l) (come : Comes world n input flight) (i : IsEntry l input entry_made after)
      (r : IsReached program nodes options world) (r' : IsReached program nodes options (with_turn world flight n entry_made after))
      (h : Exclusive program nodes options world) (h' : Exclusive program nodes options (with_turn world flight n entry_made after)) where
    -- nothing for collections; a collection begins at the node, while one is under way; or it is over there, with none
    pub data Did (node : Node) : Type 0 where
      stays : Steady l.node node → Did node
      begins : Begun l.node node → is_some (cleans_in program nodes options world h) ≡ true → Did node
      ends : Ended l.node node → is_some (cleans_in program nodes options world h) ≡ false → Did node

    under_way : (o : Option (List Bool)) → cleans_in program nodes options world h ≡ o → (e : EnvelopeRecord) (m : DepartRecord)
        → Contains (pending world) e → e.message ≡ Depart m → slice_get world.nodes e.to ≡ Some l → m.collect ≡ true → is_some o ≡ true
    under_way None is e m there says here told = true_false m.collect told (h.free_departs is e m l there says here)
    under_way (Some cleans) is e m there says here told = refl

    told_word : (e : EnvelopeRecord) (episode : ℕ) → Contains (pending world) e → e.message ≡ Discard episode → 1 ≤ count_by (discard_to e.to) (pending world)
    told_word e episode there says =
        counted_in (discard_to e.to) (pending world) e there
        (and_from (says_discard e.message) (e.to == e.to) (ap says_discard says) (eq-eqb e.to e.to refl))

    over : (o : Option (List Bool)) → cleans_in program nodes options world h ≡ o → (e : EnvelopeRecord) (episode : ℕ) → Contains (pending world) e
        → e.message ≡ Discard episode → slice_get world.nodes e.to ≡ Some l → is_some o ≡ false
    over None is e episode there says here = refl
    over (Some cleans) is e episode there says here =
        let none : count_by (discard_to e.to) (pending world) ≡ 0 = (h.busy cleans is e.to l here).2 in
        let some : 1 ≤ count_by (discard_to e.to) (pending world) = told_word e episode there says in
        absurd (omega (arith, none, some))

    by_kind : (node : Node) (came : Came) → Kind l.node node came
        → ((from : ℕ) (m : DepartRecord) → came ≡ comes from (Depart m) → m.collect ≡ true → is_some (cleans_in program nodes options world h) ≡ true)
        → ((from episode : ℕ) → came ≡ comes from (Discard episode) → is_some (cleans_in program nodes options world h) ≡ false) → Did node
    by_kind node _ (steady k) d w = stays k
    by_kind node _ (begun from m told k) d w = begins k (d from m refl told)
    by_kind node _ (ended from episode k) d w = ends k (w from episode refl)

    by_kinds : (node : Node) (given : Input) → input ≡ given → Kinds l.node given node → Did node
    by_kinds node _ is (alone k) =
        by_kind node by_itself k (λ from m e told. not_alone from (Depart m) e) (λ from episode e. not_alone from (Discard episode) e)
    by_kinds _ _ is (again e repeated) = stays (idle l.node)
    by_kinds node _ is (anew e new k) =
        let t : IsTaken program nodes options world flight n l after input entry_made at come i r r' h h' e =
        is_taken program nodes options world flight n l after input entry_made at come i r r' h h' e is new in
        by_kind node (comes e.from e.message) k
        (λ from m c told.
        under_way (cleans_in program nodes options world h) refl e m t.among (same_message e.from from e.message (Depart m) c) t.here told)
        (λ from episode c.
        over (cleans_in program nodes options world h) refl e episode t.among (same_message e.from from e.message (Discard episode) c) t.here)

    pub did : Did after.node
    did = by_kinds after.node input refl (turn_kinds l.node input entry_made.turn after.node (by_rule l.node input entry_made.turn after.node i.turn_is))

  -- ---- every two nodes

  pub record Agree (world : World) : Type 0 where
    pub exclusive : Exclusive program nodes options world
    pub fit : (n m : ℕ) (l k : Logged) → slice_get world.nodes n ≡ Some l → slice_get world.nodes m ≡ Some k
        → Fits (is_some (cleans_in program nodes options world exclusive)) l.node k.node

  module _ (world : World) (flight : List Flying) (n : ℕ) (l after : Logged) (input : Input) (entry_made : EntryRecord)
      (at : slice_get world.nodes n ≡ Some l) (come : Comes world n input flight) (i : IsEntry l input entry_made after)
      (r : IsReached program nodes options world) (r' : IsReached program nodes options (with_turn world flight n entry_made after))
      (h : Agree world) where
    abbrev next : World
    next = with_turn world flight n entry_made after

    pub next_exclusive : Exclusive program nodes options next
    next_exclusive = all_exclusive program nodes options r'.events next r'.runs

    abbrev pub waited : Bool
    waited = is_some (cleans_in program nodes options world h.exclusive)

    abbrev pub waits : Bool
    waits = is_some (cleans_in program nodes options next next_exclusive)

    there : slice_get next.nodes n ≡ Some after
    there = get_set_same world.nodes n l after at

    -- as it was before the turn, whatever the manager waits for then
    relevel_by : Flips program nodes options world flight n l after input entry_made at come i r r' h.exclusive next_exclusive
        → (p q : ℕ) (x y : Logged) → slice_get world.nodes p ≡ Some x → slice_get world.nodes q ≡ Some y → Fits waits x.node y.node
    relevel_by (goes_on e) p q x y at_p at_q = subst (λ u. Fits u x.node y.node) (sym e) (h.fit p q x y at_p at_q)
    relevel_by (starts none all) p q x y at_p at_q =
        level waited waits x.node y.node (ap in_collection (all p x at_p) ∙ sym (ap in_collection (all q y at_q))) (h.fit p q x y at_p at_q)
    relevel_by (stops none all) p q x y at_p at_q =
        level waited waits x.node y.node
        (word_inside x.node.mail.wait (all p x at_p) ∙ sym (word_inside y.node.mail.wait (all q y at_q))) (h.fit p q x y at_p at_q)

    relevel : (p q : ℕ) (x y : Logged) → slice_get world.nodes p ≡ Some x → slice_get world.nodes q ≡ Some y → Fits waits x.node y.node
    relevel = relevel_by (flips program nodes options world flight n l after input entry_made at come i r r' h.exclusive next_exclusive)

    abbrev its : Node → Type 0
    its node = Did world flight n l after input entry_made at come i r r' h.exclusive next_exclusive node

    -- with the barrier as it was
    pub same_waits : after.node.barrier ≡ l.node.barrier → waits ≡ waited
    same_waits e = ap is_some (same_cleans program nodes options world flight n l after input entry_made at come i r r' h.exclusive next_exclusive e)

    -- who has a collection begun stores what others in it store
    begun_stored : (g : Begun l.node after.node) → waited ≡ true → (q : ℕ) (y : Logged) → slice_get world.nodes q ≡ Some y → slice_get next.nodes q ≡ Some y
        → inside y.node ≡ true → SameStored after.node y.node
    begun_stored g u q y at_q there_q in_y =
        let was : _ = (h.fit q n y l at_q at).before u in_y (ap in_collection g.was) in
        same_stored next r' n q after y there there_q (g.collected ∙ was.0)
        (same_time next r' next_exclusive n q after y there there_q g.inside in_y)

    -- its collected time is its time then
    ended_time : (g : Ended l.node after.node) → after.node.memory.collected ≡ l.node.locks.time
    ended_time g =
        let its_own : CollectsAt l.node.locks.time (discard g.collection) =
        subst (CollectsAt l.node.locks.time) g.was (ranged_at l.node (node_reached world r n l at)).present in
        g.collected ∙ its_own

    first_by : its after.node → (q : ℕ) (y : Logged) → slice_get world.nodes q ≡ Some y → slice_get next.nodes q ≡ Some y → Fits waits after.node y.node
    first_by (stays s) q y at_q there_q = steady_first waits l.node after.node y.node s (relevel n q l y at at_q)
    first_by (begins g u) q y at_q there_q =
        subst (λ b. Fits b after.node y.node) (sym (same_waits g.barrier ∙ u))
        (begun_first l.node after.node y.node g
        (subst (λ b. Fits b l.node y.node) u (h.fit n q l y at at_q))
        (subst (λ b. Fits b y.node l.node) u (h.fit q n y l at_q at)) (begun_stored g u q y at_q there_q))
    first_by (ends g u) q y at_q there_q =
        subst (λ b. Fits b after.node y.node) (sym (same_waits g.barrier ∙ u))
        (ended_first l.node after.node y.node g (ended_time g) (subst (λ b. Fits b l.node y.node) u (h.fit n q l y at at_q)))

    second_by : its after.node → (q : ℕ) (y : Logged) → slice_get world.nodes q ≡ Some y → slice_get next.nodes q ≡ Some y → Fits waits y.node after.node
    second_by (stays s) q y at_q there_q = steady_second waits y.node l.node after.node s (relevel q n y l at_q at)
    second_by (begins g u) q y at_q there_q =
        subst (λ b. Fits b y.node after.node) (sym (same_waits g.barrier ∙ u))
        (begun_second l.node after.node y.node g
        (subst (λ b. Fits b l.node y.node) u (h.fit n q l y at at_q))
        (subst (λ b. Fits b y.node l.node) u (h.fit q n y l at_q at)) (begun_stored g u q y at_q there_q))
    second_by (ends g u) q y at_q there_q =
        subst (λ b. Fits b y.node after.node) (sym (same_waits g.barrier ∙ u))
        (ended_second l.node after.node y.node g (ended_time g) (subst (λ b. Fits b l.node y.node) u (h.fit n q l y at at_q))
        (λ in_y. same_time world r h.exclusive n q l y at at_q (ap in_collection g.was) in_y))

    pub turned : its after.node
    turned = did world flight n l after input entry_made at come i r r' h.exclusive next_exclusive

    -- a node then: the one whose turn it is, or one that is as it was
    pub data Whose (p : ℕ) (x : Logged) : Type 0 where
      own : n ≡ p → after ≡ x → Whose p x
      other : slice_get world.nodes p ≡ Some x → Whose p x

    pub whose : (p : ℕ) (x : Logged) → slice_get next.nodes p ≡ Some x → Whose p x
    whose p x at_p = elim (cases_eq n p) [
      | inl e ↦ own e (same_Some after x (sym there ∙ ap (slice_get next.nodes) e ∙ at_p))
      | inr ne ↦ other (sym (get_set_other world.nodes n p after ne) ∙ at_p)
    ]

    fit_by : (p q : ℕ) (x y : Logged) → slice_get next.nodes p ≡ Some x → slice_get next.nodes q ≡ Some y → Whose p x → Whose q y
        → Fits waits x.node y.node
    fit_by p q x y at_p at_q (own e is) (own f same) =
        subst (λ (x : Logged). Fits waits x.node y.node) is
        (subst (λ (y : Logged). Fits waits after.node y.node) same (itself waits after.node))
    fit_by p q x y at_p at_q (own e is) (other was) =
        subst (λ (x : Logged). Fits waits x.node y.node) is (first_by turned q y was at_q)
    fit_by p q x y at_p at_q (other was) (own f same) =
        subst (λ (y : Logged). Fits waits x.node y.node) same (second_by turned p x was at_p)
    fit_by p q x y at_p at_q (other was) (other had) = relevel p q x y was had

    pub next_fit : (p q : ℕ) (x y : Logged) → slice_get next.nodes p ≡ Some x → slice_get next.nodes q ≡ Some y → Fits waits x.node y.node
    next_fit p q x y at_p at_q = fit_by p q x y at_p at_q (whose p x at_p) (whose q y at_q)

  agree-kept : KeptByReached program nodes options Agree
  agree-kept world flight n l after input entry_made at come i r r' h = record {
    exclusive = next_exclusive world flight n l after input entry_made at come i r r' h;
    fit = next_fit world flight n l after input entry_made at come i r r' h;
  }

  fresh_fit : (waits : Bool) (n m : ℕ) (l k : Logged) → slice_get (fresh_world program nodes options).nodes n ≡ Some l
      → slice_get (fresh_world program nodes options).nodes m ≡ Some k → Fits waits l.node k.node
  fresh_fit waits n m l k at at_m =
      subst (λ (l : Logged). Fits waits l.node k.node) (sym (fresh_at program nodes options 0 nodes n l at))
      (subst (λ (k : Logged). Fits waits (fresh_node program nodes options (0 + n)) k.node) (sym (fresh_at program nodes options 0 nodes m k at_m))
      (record {
        alike = λ e. (refl, refl);
        before = λ w in_n out. true_false false in_n refl;
        behind = λ w in_n out. true_false false in_n refl;
      }))

  pub all_agree : (events : List Event) (world : World) → run_of program nodes options events ≡ Some world → Agree world
  all_agree events world e =
      by_reached program nodes options Agree agree-kept events world
      (record { exclusive = all_exclusive program nodes options [] (fresh_world program nodes options) refl; fit = fresh_fit _ }) e
