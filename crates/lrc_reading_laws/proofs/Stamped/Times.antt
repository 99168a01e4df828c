-- In every history the stamps of the closed intervals, and every time that a node has, collected or remembers, are cuts of them.
use Rattle.std.proofs.Common.{◌≡◌, ℕ, zero, suc, ◌<◌, List, [], ◌++◌, true, map, refl, sym, subst, ◌∙◌, arith}
use Rattle.std.specs.Prelude.{Some, Contains, replicate, slice_get, slice_index_or}
use Rattle.std.proofs.lemmas.Bool.{and_parts}
use Rattle.lrc_program.specs.declared.Program.{Program}
use Rattle.lrc_time.specs.Time.{entry, joined}
use Rattle.lrc_page.specs.Page.{zero_page}
use Rattle.lrc_page.specs.Place.{pages_of}
use Rattle.lrc_store.specs.Interval.{IntervalRecord}
use Rattle.lrc_store.specs.Store.{StoreRecord, StoredRecord, interval_of}
use Rattle.lrc_envelope.specs.Envelope.{EnvelopeRecord}
use Rattle.lrc_envelope.specs.Records.{LockGrantRecord, DepartRecord}
use Rattle.lrc_envelope.specs.declared.message.Message.{Message}
use Rattle.lrc_envelope.specs.declared.message.Message.TheVariants.{LockGrant, Depart}
use Rattle.lrc_copies.specs.Stamps.{AreStamped}
use Rattle.lrc_copies.proofs.Members.{none_Contains}
use Rattle.lrc_protocol.specs.Pages.{Copy, valid, written, invalid, absent, Memory, copy_at}
use Rattle.lrc_protocol.specs.Node.{Node, OptionsRecord}
use Rattle.lrc_protocol.specs.Turn.{is_learnable, TurnRecord}
use Rattle.lrc_protocol.specs.Follows.{is_expected}
use Rattle.lrc_protocol.specs.Run.{Input, Logged, World, fresh_world, with_turn}
use Rattle.lrc_protocol.specs.Follows.{pending}
use Rattle.lrc_protocol.proofs.Worlds.{fresh_at}
use Rattle.lrc_protocol.proofs.Expecting.{fulfilled}
use Rattle.lrc_order_laws.proofs.Sends.{Came, by_itself, comes}
use Rattle.lrc_node_laws.proofs.Change.{News, news, view_of}
use Rattle.lrc_node_laws.proofs.Always.{ranged_at}
use Rattle.lrc_reading_laws.specs.Made.{AllMade, AllTold, intervals_in, AreMade}
use Rattle.lrc_reading_laws.specs.Written.{made_stamps}
use Rattle.lrc_reading_laws.proofs.Closed.Told.{told-there}
use Rattle.lrc_reading_laws.proofs.Closed.Stocks.{StoreChange, same, closed, granted, departing, replied, dropped}
use Rattle.lrc_reading_laws.proofs.Closed.History.{History, KeptByHistory, by_history, closed_by}
use Rattle.lrc_reading_laws.proofs.Stamped.Worlds.{Placed, placed, each_node, TurnBy, alone, again, anew, turn_at}
use Rattle.lrc_reading_laws.proofs.Stamped.Made.{AreListed, all_made, all_listed}
use Rattle.lrc_reading_laws.proofs.Stamped.Turns.{SinceIn, Timely, run-turned, took-turned}
use Rattle.lrc_reading_laws.proofs.Stamped.Cuts.{IsFull, Counted, zeros-full, IsTold, full_learned, made_with, full_still, full_closed, stamped_still, stamps_still}

-- ---- times in a memory

since-weaker : (C D : List ℕ → Type 0) → ((t : List ℕ) → C t → D t) → (copy : Copy) → SinceIn C copy → SinceIn D copy
since-weaker C D f (valid values) h = tt
since-weaker C D f (written values twin) h = tt
since-weaker C D f (invalid values since) h = f since h
since-weaker C D f absent h = tt

timely-weaker : (C D : List ℕ → Type 0) → ((t : List ℕ) → C t → D t) → (memory : Memory) → Timely C memory → Timely D memory
timely-weaker C D f memory h =
    record { collected = f memory.collected h.collected; since = λ page. since-weaker C D f (copy_at memory page) (h.since page) }

pub since-of : (C : List ℕ → Type 0) (copy : Copy) (values since : List ℕ) → copy ≡ invalid values since → SinceIn C copy → C since
since-of C copy values since e h = subst (SinceIn C) e h

-- ---- one turn

-- news that come
record NewsTold (nodes : ℕ) (made : List StoredRecord) (before : List ℕ) (came : Came) : Type 0 where
  grant : (from : ℕ) (m : LockGrantRecord) → came ≡ comes from (LockGrant m) → IsTold nodes made before m.time m.intervals
  depart : (from : ℕ) (m : DepartRecord) → came ≡ comes from (Depart m) → IsTold nodes made before m.time m.intervals

module _ (nodes n : ℕ) (node : Node) (made : List StoredRecord) (p : Placed nodes n node) (listed : AreListed nodes made)
    (counted : Counted made node.setting.me (entry node.locks.time node.setting.me)) (full : IsFull made node.locks.time)
    (stamped : AreStamped made_stamps nodes made) (stamps : (a : StoredRecord) → Contains made a → IsFull made a.stamp)
    (kept : Timely (IsFull made) node.memory) (was : List EnvelopeRecord) (told : AllTold (map interval_of made) was) where
  told_by : (time : List ℕ) (intervals : List IntervalRecord) → is_learnable node time intervals ≡ true → AllMade (map interval_of made) intervals
      → IsTold nodes made node.locks.time time intervals
  told_by time intervals e h =
      let it : News (view_of node) time intervals = news node time intervals e in
      record {
        long = it.counted ∙ p.count;
        covered = it.covered;
        between = λ q lt. it.between q (subst (λ k. q < k) (sym p.count) lt);
        told = h;
      }

  came_message : (from from' : ℕ) (m m' : Message) → comes from m ≡ comes from' m' → m ≡ m'
  came_message from from' m m' e = cc

  alone_told : NewsTold nodes made node.locks.time by_itself
  alone_told = record { grant = λ from m e. absurd cc; depart = λ from m e. absurd cc }

  message_told : (from : ℕ) (message : Message) → is_expected node from message ≡ true → AllMade (map interval_of made) (intervals_in message)
      → NewsTold nodes made node.locks.time (comes from message)
  message_told from message e h = record {
    grant = λ from' m is.
        let it : message ≡ LockGrant m = came_message from from' message (LockGrant m) is in
        let expected : is_expected node from (LockGrant m) ≡ true = subst (λ x. is_expected node from x ≡ true) it e in
        let outer : _ = and_parts _ _ (fulfilled node from (LockGrant m) expected) in
        told_by m.time m.intervals outer.1 (subst (λ x. AllMade (map interval_of made) (intervals_in x)) it h);
    depart = λ from' m is.
        let it : message ≡ Depart m = came_message from from' message (Depart m) is in
        let expected : is_expected node from (Depart m) ≡ true = subst (λ x. is_expected node from x ≡ true) it e in
        let outer : _ = and_parts _ _ (fulfilled node from (Depart m) expected) in
        told_by m.time m.intervals outer.1 (subst (λ x. AllMade (map interval_of made) (intervals_in x)) it h);
  }

  abbrev made_at : List ℕ → List StoredRecord
  made_at after = made_with nodes n node made p listed counted after

  still : (after t : List ℕ) → IsFull made t → IsFull (made_at after) t
  still after t h = full_still nodes n node made p listed counted after t h

  -- the node's time then
  by_change : (came : Came) (store : StoreRecord) (after : List ℕ) → StoreChange node.setting.me node.locks.time node.memory came store after
      → NewsTold nodes made node.locks.time came → IsFull (made_at after) after
  by_change came _ _ same t = still node.locks.time node.locks.time full
  by_change _ _ _ closed t = full_closed nodes n node made p listed counted full stamped stamps
  by_change _ _ _ (granted from m) t =
      still (joined node.locks.time m.time) (joined node.locks.time m.time)
      (full_learned nodes made node.locks.time m.time m.intervals listed full (t.grant from m refl))
  by_change _ _ _ (departing from m) t =
      still (joined node.locks.time m.time) (joined node.locks.time m.time)
      (full_learned nodes made node.locks.time m.time m.intervals listed full (t.depart from m refl))
  by_change _ _ _ (replied from m) t = still node.locks.time node.locks.time full
  by_change _ _ _ (dropped from episode upto) t = still node.locks.time node.locks.time full

  -- and the times that its memory keeps
  record TurnTimely (after : Node) : Type 0 where
    time : IsFull (made_at after.locks.time) after.locks.time
    memory : Timely (IsFull (made_at after.locks.time)) after.memory

  timely_still : (after : List ℕ) → Timely (IsFull (made_at after)) node.memory
  timely_still after = timely-weaker (IsFull made) (IsFull (made_at after)) (still after) node.memory kept

  turned : (input : Input) (turn : TurnRecord) (after : Node) (now : List EnvelopeRecord) → TurnBy node was input turn after now → TurnTimely after
  turned _ turn after now (alone o k g) = record {
    time = by_change by_itself after.memory.store after.locks.time k.change alone_told;
    memory = (run-turned (IsFull (made_at after.locks.time)) node turn after o (timely_still after.locks.time)).timely;
  }
  turned _ _ _ now (again e g) = record { time = still node.locks.time node.locks.time full; memory = timely_still node.locks.time }
  turned _ turn after now (anew e t k lost) = record {
    time = by_change (comes e.from e.message) after.memory.store after.locks.time k.change
        (message_told e.from e.message t.expected
        (told-there (map interval_of made) lost.front lost.back e (subst (AllTold (map interval_of made)) lost.before told)));
    memory = (took-turned (IsFull (made_at after.locks.time)) node e turn after t (still after.locks.time node.locks.time full)
        (ranged_at node p.reached).present (timely_still after.locks.time)).timely;
  }

-- ---- every history

pub record AreCuts (nodes : ℕ) (made : List StoredRecord) (world : World) : Type 0 where
  pub stamped : AreStamped made_stamps nodes made
  pub stamps : (a : StoredRecord) → Contains made a → IsFull made a.stamp
  pub times : (n : ℕ) (l : Logged) → slice_get world.nodes n ≡ Some l → IsFull made l.node.locks.time
  pub kept : (n : ℕ) (l : Logged) → slice_get world.nodes n ≡ Some l → Timely (IsFull made) l.node.memory

none_stamped : (nodes : ℕ) → AreStamped made_stamps nodes []
none_stamped nodes = record {
  long = λ a c. absurd (none_Contains a c);
  begun = λ a c. absurd (none_Contains a c);
  cuts = λ a c. absurd (none_Contains a c);
  forward = λ i j d less within. absurd (omega (arith, within));
}

valid-since : (C : List ℕ → Type 0) (pages : ℕ) (values : List ℕ) (page : ℕ) → SinceIn C (slice_index_or (replicate pages (valid values)) page absent)
valid-since C zero values page = tt
valid-since C (suc pages) values zero = tt
valid-since C (suc pages) values (suc page) = valid-since C pages values page

module _ (program : Program) (nodes : ℕ) (options : OptionsRecord) where
  cuts-history : KeptByHistory program nodes options (λ world made. AreCuts nodes made world)
  cuts-history world made flight n l after input log_entry at come i r r' h c =
      let p : Placed nodes n l.node = placed program nodes options world r n l at in
      let listed : AreListed nodes made = all_listed program nodes options world made h in
      let are : AreMade (map interval_of made) world = all_made program nodes options world made h in
      let counted : Counted made l.node.setting.me (entry l.node.locks.time l.node.setting.me) =
      subst (λ k. Counted made k (entry l.node.locks.time k)) (sym p.me) (are.exact n l at) in
      let full : IsFull made l.node.locks.time = c.times n l at in
      let all : List StoredRecord = made ++ closed_by l.node after.node in
      let more : (t : List ℕ) → IsFull made t → IsFull all t = λ t f. full_still nodes n l.node made p listed counted after.node.locks.time t f in
      let turn : TurnTimely nodes n l.node made p listed counted full c.stamped c.stamps (c.kept n l at) (pending world) are.told after.node =
      turned nodes n l.node made p listed counted full c.stamped c.stamps (c.kept n l at) (pending world) are.told input log_entry.turn after.node
      (pending (with_turn world flight n log_entry after)) (turn_at program nodes options world flight n l after input log_entry at come i r) in
      record {
        stamped = stamped_still nodes n l.node made p listed counted full c.stamped c.stamps after.node.locks.time;
        stamps = stamps_still nodes n l.node made p listed counted full c.stamped c.stamps after.node.locks.time;
        times =
            each_node (λ q lq. IsFull all lq.node.locks.time) world n l after at turn.time (λ q lq is. more lq.node.locks.time (c.times q lq is));
        kept =
            each_node (λ q lq. Timely (IsFull all) lq.node.memory) world n l after at turn.memory
            (λ q lq is. timely-weaker (IsFull made) (IsFull all) more lq.node.memory (c.kept q lq is));
      }

  cuts-fresh : AreCuts nodes [] (fresh_world program nodes options)
  cuts-fresh = record {
    stamped = none_stamped nodes;
    stamps = λ a c. absurd (none_Contains a c);
    times = λ q l is.
        subst (λ (x : Logged). IsFull [] x.node.locks.time) (sym (fresh_at program nodes options 0 nodes q l is)) (zeros-full nodes);
    kept = λ q l is.
        subst (λ (x : Logged). Timely (IsFull []) x.node.memory) (sym (fresh_at program nodes options 0 nodes q l is))
        (record {
          collected = zeros-full nodes;
          since = λ page. valid-since (IsFull []) (pages_of program.words options.size) (zero_page options.size) page;
        });
  }

  pub all_cuts : (world : World) (made : List StoredRecord) → History program nodes options world made → AreCuts nodes made world
  all_cuts world made h = by_history program nodes options (λ world made. AreCuts nodes made world) cuts-fresh cuts-history world made h
