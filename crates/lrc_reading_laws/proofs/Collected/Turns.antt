-- What a turn does to a node's part in collections: nothing, or a collection begins there, or it is over. By what came.
use Rattle.std.proofs.Common.{◌≡◌, ℕ, ◌+◌, ◌<◌, ◌≤◌, List, [], ◌∷◌, Bool, true, false, is_some, length, refl, sym, ap, subst, ◌∙◌}
use Rattle.std.proofs.Common.{⊎_elim, arith}
use Rattle.std.specs.Prelude.{Option, Some, None, ◌==◌, unwrap_or, fold, map, filter_map, slice_index_or, slice_set, if◌then◌else◌}
use Rattle.std.specs.List.{enumerate_from}
use Rattle.std.proofs.lemmas.Bool.{cases_eq, cases_lt, false≢true}
use Rattle.std.proofs.lemmas.List.{get_or-set_same, get_or-set_other, get_or_past, get_or-map}
use Rattle.std.proofs.lemmas.List.FromFn.{get_or-enumerate_from, length-enumerate_from}
use Rattle.lrc_page.specs.Place.{page_of, offset_of}
use Rattle.lrc_exec.specs.Meaning.{Next, writes, next_of}
use Rattle.lrc_store.specs.Interval.{IntervalRecord}
use Rattle.lrc_store.specs.Store.{intervals_of}
use Rattle.lrc_envelope.specs.Envelope.{EnvelopeRecord}
use Rattle.lrc_envelope.specs.Records.{DepartRecord}
use Rattle.lrc_envelope.specs.declared.message.Message.{Message}
use Rattle.lrc_envelope.specs.declared.message.Message.TheVariants.{Depart, Discard}
use Rattle.lrc_protocol.specs.Times.{is_named, next_time}
use Rattle.lrc_protocol.specs.Pages.{Copy, valid, written, invalid, absent, is_readable, values_of, after_write, closed, invalidated, dropped}
use Rattle.lrc_protocol.specs.Pages.{Memory, copy_at, with_interval, learned, keeper_at, Need, repaired}
use Rattle.lrc_protocol.specs.Barriers.{least, with_base, base_at, after_collection, Collection, clean_memory}
use Rattle.lrc_protocol.specs.Node.{Letter, Wait, nothing, grant, departure, access, upkeep, discard, Course, going, Node, Effect, makes, sends}
use Rattle.lrc_protocol.specs.Node.{acts, acts_by}
use Rattle.lrc_protocol.specs.Turn.{after_close, TurnRecord, taking, is_repeat}
use Rattle.lrc_protocol.specs.Run.{Input, run, taken}
use Rattle.lrc_protocol.specs.Rules.{page_at, need_at, Brings, brings_changes, brings_base_copy, keeping, collection_at, upkeep_at, RunRule}
use Rattle.lrc_protocol.specs.Rules.{run_miss, run_repair, run_acquire, run_ask, run_release, run_barrier, TakeRule, take_token, take_depart}
use Rattle.lrc_protocol.specs.Rules.{take_collect, take_collect_at_once, take_reply, take_last_reply, take_kept_reply, take_last_kept_reply}
use Rattle.lrc_protocol.specs.Rules.{take_discard, IsSent, with_numbers, TurnRule, by_run, by_repeat, by_message}
use Rattle.lrc_order_laws.proofs.Sends.{Came, by_itself, comes}
use Rattle.lrc_node_laws.proofs.Stores.{parts-same}
use Rattle.lrc_node_laws.proofs.Ranges.{SameRest, clean-same}
use Rattle.lrc_node_laws.proofs.Replies.{bases-copies}
use Rattle.lrc_node_laws.proofs.OwnCopies.{set-copy, map-copy, placed-copy}

-- whether a node is in a collection
abbrev pub in_collection : Wait → Bool
in_collection nothing = false
in_collection (grant lock) = false
in_collection departure = false
in_collection (access need) = false
in_collection (upkeep collection needs) = true
in_collection (discard collection) = true

-- who keeps the pages after a collection of these intervals
abbrev pub keepers_after : List IntervalRecord → List ℕ → List ℕ
keepers_after intervals keepers =
    map
    (λ place. unwrap_or (least (filter_map (λ i. if is_named (i ∷ []) place.0 then Some i.node else None) intervals)) place.1)
    (enumerate_from 0 keepers)

-- ---- copies that are absent, and base copies that are there

-- what is absent then was so
abbrev pub KeepsCopies : Memory → Memory → Type 0
KeepsCopies a b = (page : ℕ) → copy_at b page ≡ absent → copy_at a page ≡ absent

-- what is there stays
abbrev pub KeepsBases : Memory → Memory → Type 0
KeepsBases a b = (page : ℕ) → is_some (base_at a page) ≡ true → is_some (base_at b page) ≡ true

pub written_absent : (copy : Copy) (offset value : ℕ) → after_write copy offset value ≡ absent → copy ≡ absent
written_absent (valid values) offset value e = cc
written_absent (written values twin) offset value e = cc
written_absent (invalid values since) offset value e = cc
written_absent absent offset value e = refl

closed_absent : (copy : Copy) → closed copy ≡ absent → copy ≡ absent
closed_absent (valid values) e = cc
closed_absent (written values twin) e = cc
closed_absent (invalid values since) e = cc
closed_absent absent e = refl

invalidated_absent : (before : List ℕ) (copy : Copy) → invalidated before copy ≡ absent → copy ≡ absent
invalidated_absent before (valid values) e = cc
invalidated_absent before (written values twin) e = cc
invalidated_absent before (invalid values since) e = cc
invalidated_absent before absent e = refl

pub dropped_absent : (copy : Copy) → dropped copy ≡ absent → is_readable copy ≡ false
dropped_absent (valid values) e = cc
dropped_absent (written values twin) e = cc
dropped_absent (invalid values since) e = refl
dropped_absent absent e = refl

pub no_valid : {Y : Type 0} (values : List ℕ) → valid values ≡ absent → Y
no_valid values e = let never : ⊥ = cc in absurd never

pub mended-keeps : (memory : Memory) (need : Need) → KeepsCopies memory (repaired memory need)
mended-keeps memory need page =
    set-copy (λ copy. copy ≡ absent → copy_at memory page ≡ absent) memory.copies need.page page _ (λ r e. no_valid _ e) (λ e. e)

pub mends-keeps : (needs : List Need) (memory : Memory) → KeepsCopies memory (fold repaired memory needs)
mends-keeps [] memory page e = e
mends-keeps (need ∷ needs) memory page e = mended-keeps memory need page (mends-keeps needs (repaired memory need) page e)

pub clean-keeps : (needs : List Need) (kept : List ℕ) (memory : Memory) → KeepsCopies memory (clean_memory needs kept memory)
clean-keeps needs kept memory page e =
    mends-keeps needs memory page
    (subst (λ (copies : List Copy). slice_index_or copies page absent ≡ absent) (bases-copies kept (fold repaired memory needs)) e)

pub learned-keeps : (before : List ℕ) (intervals : List IntervalRecord) (memory : Memory) → KeepsCopies memory (learned before intervals memory)
learned-keeps before intervals memory page e =
    ⊎_elim
    (λ (lt : page < length memory.copies).
    by_test (is_named intervals page)
    (sym (placed-copy (λ (place : ℕ × Copy). if is_named intervals place.0 then invalidated before place.1 else place.1) memory.copies page lt) ∙ e))
    (λ (le : length memory.copies ≤ page). get_or_past memory.copies page absent le)
    (cases_lt page (length memory.copies))
  where
    by_test : (b : Bool) → (if b then invalidated before (copy_at memory page) else copy_at memory page) ≡ absent → copy_at memory page ≡ absent
    by_test true e = invalidated_absent before (copy_at memory page) e
    by_test false e = e

pub closes-keeps : (me : ℕ) (stamp : List ℕ) (memory : Memory) → KeepsCopies memory (with_interval me stamp memory)
closes-keeps me stamp memory page e = closed_absent (copy_at memory page) (sym (map-copy closed refl memory.copies page) ∙ e)

pub base-keeps : (memory : Memory) (at : ℕ) → KeepsBases memory (with_base memory at)
base-keeps memory at page h =
    ⊎_elim
    (λ (here : at ≡ page).
    ⊎_elim
    (λ (lt : page < length memory.bases).
    subst (λ p. is_some (slice_index_or (slice_set memory.bases p (value at)) page None) ≡ true) (sym here)
    (ap is_some (get_or-set_same memory.bases page (value at) None lt)))
    (λ (le : length memory.bases ≤ page). absurd (false≢true (sym (ap is_some (get_or_past memory.bases page None le)) ∙ h)))
    (cases_lt page (length memory.bases)))
    (λ other. ap is_some (get_or-set_other memory.bases at page (value at) None (λ e. other (sym e))) ∙ h)
    (cases_eq at page)
  where
    value : ℕ → Option (List ℕ)
    value at = Some (values_of (copy_at memory at))

pub bases-keep : (kept : List ℕ) (memory : Memory) → KeepsBases memory (fold with_base memory kept)
bases-keep [] memory page h = h
bases-keep (at ∷ kept) memory page h = bases-keep kept (with_base memory at) page (base-keeps memory at page h)

pub mends-bases : (needs : List Need) (memory : Memory) → (fold repaired memory needs).bases ≡ memory.bases
mends-bases [] memory = refl
mends-bases (need ∷ needs) memory = mends-bases needs (repaired memory need)

clean-bases : (needs : List Need) (kept : List ℕ) (memory : Memory) → KeepsBases memory (clean_memory needs kept memory)
clean-bases needs kept memory page h =
    bases-keep kept (fold repaired memory needs) page
    (ap (λ (bases : List (Option (List ℕ))). is_some (slice_index_or bases page None)) (mends-bases needs memory) ∙ h)

-- a node goes on keeping the base copies of the pages that it keeps
collected-bases : (me : ℕ) (time : List ℕ) (memory : Memory) (page : ℕ) → (keeper_at memory page == me) ≡ true
    → is_some (base_at memory page) ≡ true → is_some (base_at (after_collection me time memory) page) ≡ true
collected-bases me time memory page mine h =
    ⊎_elim
    (λ (lt : page < length memory.bases).
    let f : ℕ × Option (List ℕ) → Option (List ℕ) = λ place. if keeper_at memory place.0 == me then place.1 else None in
    let same : 0 + page ≡ page = omega arith in
    let now : base_at (after_collection me time memory) page ≡ (if keeper_at memory page == me then base_at memory page else None) =
    get_or-map f (enumerate_from 0 memory.bases) page (0, None) None (omega (arith, lt, length-enumerate_from 0 memory.bases))
    ∙ ap f (get_or-enumerate_from 0 memory.bases page (0, None) lt)
    ∙ ap (λ k. f (k, base_at memory page)) same in
    ap is_some (now ∙ ap (λ b. if b then base_at memory page else None) mine) ∙ h)
    (λ (le : length memory.bases ≤ page). absurd (false≢true (sym (ap is_some (get_or_past memory.bases page None le)) ∙ h)))
    (cases_lt page (length memory.bases))

-- ---- one memory, and another state of it

-- what collections speak of stays
record Alike (a b : Memory) : Type 0 where
  collected : b.collected ≡ a.collected
  keepers : b.keepers ≡ a.keepers
  intervals : intervals_of b.store ≡ intervals_of a.store
  copies : KeepsCopies a b
  bases : KeepsBases a b

alike : (a : Memory) → Alike a a
alike a = record { collected = refl; keepers = refl; intervals = refl; copies = λ page e. e; bases = λ page h. h }

then_alike : (a b c : Memory) → Alike a b → Alike b c → Alike a c
then_alike a b c x y = record {
  collected = y.collected ∙ x.collected;
  keepers = y.keepers ∙ x.keepers;
  intervals = y.intervals ∙ x.intervals;
  copies = λ page e. x.copies page (y.copies page e);
  bases = λ page h. y.bases page (x.bases page h);
}

mended-alike : (memory : Memory) (need : Need) → Alike memory (repaired memory need)
mended-alike memory need =
    record { collected = refl; keepers = refl; intervals = refl; copies = mended-keeps memory need; bases = λ page h. h }

clean-alike : (memory : Memory) (needs : List Need) (kept : List ℕ) → Alike memory (clean_memory needs kept memory)
clean-alike memory needs kept =
    let rest : SameRest memory (clean_memory needs kept memory) = clean-same needs kept memory in
    record {
      collected = rest.collected;
      keepers = rest.keepers;
      intervals = ap intervals_of rest.store;
      copies = clean-keeps needs kept memory;
      bases = clean-bases needs kept memory;
    }

-- ---- one node, and another state of it

-- the same, but that intervals may come, and the time go on, at who is in no collection
pub record Steady (a b : Node) : Type 0 where
  pub time : in_collection a.mail.wait ≡ true → b.locks.time ≡ a.locks.time
  pub inside : in_collection b.mail.wait ≡ in_collection a.mail.wait
  pub collected : b.memory.collected ≡ a.memory.collected
  pub keepers : b.memory.keepers ≡ a.memory.keepers
  pub intervals : in_collection a.mail.wait ≡ true → intervals_of b.memory.store ≡ intervals_of a.memory.store
  pub copies : KeepsCopies a.memory b.memory
  pub bases : KeepsBases a.memory b.memory

-- a collection begins at the node
pub record Begun (a b : Node) : Type 0 where
  pub was : a.mail.wait ≡ departure
  pub inside : in_collection b.mail.wait ≡ true
  pub barrier : b.barrier ≡ a.barrier
  pub collected : b.memory.collected ≡ a.memory.collected
  pub keepers : b.memory.keepers ≡ keepers_after (intervals_of b.memory.store) a.memory.keepers
  pub copies : KeepsCopies a.memory b.memory
  pub bases : KeepsBases a.memory b.memory

-- it is over there
pub record Ended (a b : Node) : Type 0 where
  pub collection : Collection
  pub was : a.mail.wait ≡ discard collection
  pub inside : in_collection b.mail.wait ≡ false
  pub barrier : b.barrier ≡ a.barrier
  pub collected : b.memory.collected ≡ collection.time
  pub keepers : b.memory.keepers ≡ a.memory.keepers
  pub copies : (page : ℕ) → copy_at b.memory page ≡ absent → is_readable (copy_at a.memory page) ≡ false
  pub bases : (page : ℕ) → (keeper_at a.memory page == a.setting.me) ≡ true → is_some (base_at a.memory page) ≡ true
      → is_some (base_at b.memory page) ≡ true

-- by what came
pub data Kind (a b : Node) : Came → Type 0 where
  steady : {came : Came} → Steady a b → Kind a b came
  begun : (from : ℕ) (m : DepartRecord) → m.collect ≡ true → Begun a b → Kind a b (comes from (Depart m))
  ended : (from episode : ℕ) → Ended a b → Kind a b (comes from (Discard episode))

-- all of a node's part in collections stays
record Same (a b : Node) : Type 0 where
  time : b.locks.time ≡ a.locks.time
  inside : in_collection b.mail.wait ≡ in_collection a.mail.wait
  barrier : b.barrier ≡ a.barrier
  memory : Alike a.memory b.memory

then_kind : (a b c : Node) (came : Came) → Kind a b came → Same b c → Kind a c came
then_kind a b c _ (steady k) y = steady (record {
  time = λ e. y.time ∙ k.time e;
  inside = y.inside ∙ k.inside;
  collected = y.memory.collected ∙ k.collected;
  keepers = y.memory.keepers ∙ k.keepers;
  intervals = λ e. y.memory.intervals ∙ k.intervals e;
  copies = λ page e. k.copies page (y.memory.copies page e);
  bases = λ page h. y.memory.bases page (k.bases page h);
})
then_kind a b c _ (begun from m told k) y = begun from m told (record {
  was = k.was;
  inside = y.inside ∙ k.inside;
  barrier = y.barrier ∙ k.barrier;
  collected = y.memory.collected ∙ k.collected;
  keepers = y.memory.keepers ∙ k.keepers ∙ ap (λ intervals. keepers_after intervals a.memory.keepers) (sym y.memory.intervals);
  copies = λ page e. k.copies page (y.memory.copies page e);
  bases = λ page h. y.memory.bases page (k.bases page h);
})
then_kind a b c _ (ended from episode k) y = ended from episode (record {
  collection = k.collection;
  was = k.was;
  inside = y.inside ∙ k.inside;
  barrier = y.barrier ∙ k.barrier;
  collected = y.memory.collected ∙ k.collected;
  keepers = y.memory.keepers ∙ k.keepers;
  copies = λ page e. k.copies page (y.memory.copies page e);
  bases = λ page mine h. y.memory.bases page (k.bases page mine h);
})

makes-same : (letters : List Letter) (node : Node) (next : Next) → Same node (makes letters node next).node
makes-same letters node (writes word value after) = record {
  time = refl;
  inside = refl;
  barrier = refl;
  memory = record {
    collected = refl;
    keepers = refl;
    intervals = refl;
    copies = λ page.
        set-copy (λ copy. copy ≡ absent → copy_at node.memory page ≡ absent) node.memory.copies (page_of word node.options.size) page _
        (λ r e. r (written_absent (copy_at node.memory (page_of word node.options.size)) (offset_of word node.options.size) value e)) (λ e. e);
    bases = λ page h. h;
  };
}
makes-same letters node _ = record { time = refl; inside = refl; barrier = refl; memory = alike node.memory }

acts_by-same : (letters : List Letter) (node : Node) (c : Course) → Same node (acts_by letters node c).node
acts_by-same letters node (going thread) = makes-same letters node (next_of thread)
acts_by-same letters node _ = record { time = refl; inside = refl; barrier = refl; memory = alike node.memory }

-- ---- effects

record EffectKind (node : Node) (came : Came) (e : Effect) : Type 0 where
  kind : Kind node e.node came

rested : (node : Node) (came : Came) (letters : List Letter) (x : Node) → Kind node x came → EffectKind node came (sends letters x)
rested node came letters x k = record { kind = k }

acted : (node : Node) (came : Came) (letters : List Letter) (x : Node) → Kind node x came → EffectKind node came (acts letters x)
acted node came letters x k = record { kind = then_kind node x (acts letters x).node came k (acts_by-same letters x x.course) }

-- its time and its wait stay
stays : (node x : Node) (came : Came) → x.locks.time ≡ node.locks.time → in_collection x.mail.wait ≡ in_collection node.mail.wait
    → Alike node.memory x.memory → Kind node x came
stays node x came t i m = steady (record {
  time = λ _. t;
  inside = i;
  collected = m.collected;
  keepers = m.keepers;
  intervals = λ _. m.intervals;
  copies = m.copies;
  bases = m.bases;
})

-- it is in no collection, and closes its interval or learns of intervals
outside : (node x : Node) (came : Came) → in_collection node.mail.wait ≡ false → in_collection x.mail.wait ≡ false
    → x.memory.collected ≡ node.memory.collected → x.memory.keepers ≡ node.memory.keepers → x.memory.bases ≡ node.memory.bases
    → KeepsCopies node.memory x.memory → Kind node x came
outside node x came w v c k b copies = steady (record {
  time = λ i. absurd (false≢true (sym w ∙ i));
  inside = v ∙ sym w;
  collected = c;
  keepers = k;
  intervals = λ i. absurd (false≢true (sym w ∙ i));
  copies = copies;
  bases = λ page h. subst (λ (bases : List (Option (List ℕ))). is_some (slice_index_or bases page None) ≡ true) (sym b) h;
})

-- ---- what a node does by itself

module _ (node : Node) where
  closing : (x : Node) → node.mail.wait ≡ nothing → in_collection x.mail.wait ≡ in_collection node.mail.wait
      → x.memory ≡ (after_close node).memory → Kind node x by_itself
  closing x w v m =
      outside node x by_itself (ap in_collection w) (v ∙ ap in_collection w) (ap (λ (m : Memory). m.collected) m)
      (ap (λ (m : Memory). m.keepers) m) (ap (λ (m : Memory). m.bases) m)
      (λ page e. closes-keeps node.setting.me (next_time node.setting.me node.locks.time) node.memory page
      (subst (λ (m : Memory). copy_at m page ≡ absent) m e))

  run-kind : (e : Effect) → RunRule node e → EffectKind node by_itself e
  run-kind e (run_miss r a away unmet) = rested node by_itself _ _ (stays node _ by_itself refl (sym (ap in_collection r.idle)) (alike node.memory))
  run-kind e (run_repair {word = word} r a away met) =
      acted node by_itself _ _
      (stays node _ by_itself refl (sym (ap in_collection r.idle)) (mended-alike node.memory (need_at node (page_at node word))))
  run-kind e (run_acquire lock after r room free) = acted node by_itself [] _ (closing _ r.idle refl refl)
  run-kind e (run_ask lock after r room away) = rested node by_itself _ _ (closing _ r.idle (sym (ap in_collection r.idle)) refl)
  run-kind e (run_release lock after r room) = acted node by_itself _ _ (closing _ r.idle refl refl)
  run-kind e (run_barrier after r room) = acted node by_itself _ _ (closing _ r.idle (sym (ap in_collection r.idle)) refl)
  run-kind e _ = acted node by_itself [] _ (stays node _ by_itself refl refl (alike node.memory))

-- ---- what a node does with a message, its number taken

module _ (node : Node) (envelope : EnvelopeRecord) where
  learnt : (x : Node) (came : Came) (intervals : List IntervalRecord) → in_collection node.mail.wait ≡ false
      → in_collection x.mail.wait ≡ false → x.memory ≡ learned node.locks.time intervals node.memory → Kind node x came
  learnt x came intervals w v m =
      outside node x came w v (ap (λ (m : Memory). m.collected) m) (ap (λ (m : Memory). m.keepers) m) (ap (λ (m : Memory). m.bases) m)
      (λ page e. learned-keeps node.locks.time intervals node.memory page (subst (λ (m : Memory). copy_at m page ≡ absent) m e))

  begins-at : (x : Node) (from : ℕ) (m : DepartRecord) → node.mail.wait ≡ departure → m.collect ≡ true
      → in_collection x.mail.wait ≡ true → x.barrier ≡ node.barrier → Alike (keeping node m).memory x.memory → Kind node x (comes from (Depart m))
  begins-at x from m w told i b k = begun from m told (record {
    was = w;
    inside = i;
    barrier = b;
    collected = k.collected;
    keepers = k.keepers ∙ ap (λ intervals. keepers_after intervals node.memory.keepers) (sym k.intervals);
    copies = λ page e. learned-keeps node.locks.time m.intervals node.memory page (k.copies page e);
    bases = k.bases;
  })

  brings-alike : (from : ℕ) (message : Message) (memory : Memory) (change : Need → Need)
      → Brings (taking node envelope) from message memory change → Alike node.memory memory
  brings-alike from message memory change (brings_changes m lt all some) = record {
    collected = refl;
    keepers = refl;
    intervals = (parts-same from m.page m.parts node.memory.store).intervals;
    copies = λ page e. e;
    bases = λ page h. h;
  }
  brings-alike from message memory change (brings_base_copy m lt counted some) = alike node.memory

  take-kind : (from : ℕ) (message : Message) (e : Effect) → TakeRule (taking node envelope) from message e
      → EffectKind node (comes from message) e
  take-kind from message e (take_token m lt at news) = acted node _ [] _ (learnt _ _ m.intervals (ap in_collection at) refl refl)
  take-kind from message e (take_depart m d c) = acted node _ [] _ (learnt _ _ m.intervals (ap in_collection d.awaited) refl refl)
  take-kind from message e (take_collect m d c unmet) =
      rested node _ _ _ (begins-at _ from m d.awaited c refl refl (alike (keeping node m).memory))
  take-kind from message e (take_collect_at_once m d c met) =
      rested node _ _ _
      (begins-at _ from m d.awaited c refl refl
      (clean-alike (keeping node m).memory (upkeep_at node m) (collection_at node m).kept))
  take-kind from message e (take_reply {memory = memory} {change = change} need b at unmet) =
      rested node _ [] _ (stays node _ _ refl (sym (ap in_collection at)) (brings-alike from message memory change b))
  take-kind from message e (take_last_reply {memory = memory} {change = change} need b at met) =
      acted node _ [] _
      (stays node _ _ refl (sym (ap in_collection at))
      (then_alike node.memory memory (repaired memory (change need)) (brings-alike from message memory change b) (mended-alike memory (change need))))
  take-kind from message e (take_kept_reply {memory = memory} {change = change} collection needs b at unmet) =
      rested node _ [] _ (stays node _ _ refl (sym (ap in_collection at)) (brings-alike from message memory change b))
  take-kind from message e (take_last_kept_reply {memory = memory} {change = change} collection needs b at met) =
      rested node _ _ _
      (stays node _ _ refl (sym (ap in_collection at))
      (then_alike node.memory memory (clean_memory (map change needs) collection.kept memory) (brings-alike from message memory change b)
      (clean-alike memory (map change needs) collection.kept)))
  take-kind from message e (take_discard episode collection f at k) =
      acted node _ [] _
      (ended from episode (record {
        collection = collection;
        was = at;
        inside = refl;
        barrier = refl;
        collected = refl;
        keepers = refl;
        copies = λ page h. dropped_absent (copy_at node.memory page) (sym (map-copy dropped refl node.memory.copies page) ∙ h);
        bases = λ page mine h. collected-bases node.setting.me collection.time node.memory page mine h;
      }))
  take-kind from message e _ = rested node _ _ _ (stays node _ _ refl refl (alike node.memory))

-- ---- turns

pub data Kinds (node : Node) : Input → Node → Type 0 where
  alone : {after : Node} → Kind node after by_itself → Kinds node run after
  again : (envelope : EnvelopeRecord) → is_repeat node envelope ≡ true → Kinds node (taken envelope) node
  anew : (envelope : EnvelopeRecord) {after : Node} → is_repeat node envelope ≡ false → Kind node after (comes envelope.from envelope.message)
      → Kinds node (taken envelope) after

sent-kind : (node : Node) (came : Came) (e : Effect) (turn : TurnRecord) (after : Node) → EffectKind node came e → IsSent e turn after
    → Kind node after came
sent-kind node came e turn after k (with_numbers out sent is) =
    then_kind node e.node _ came k.kind (record { time = refl; inside = refl; barrier = refl; memory = alike e.node.memory })

-- each turn does so
pub turn_kinds : (node : Node) (input : Input) (turn : TurnRecord) (after : Node) → TurnRule node input turn after → Kinds node input after
turn_kinds node input turn after (by_run {effect = effect} r s) = alone (sent-kind node by_itself effect turn after (run-kind node effect r) s)
turn_kinds node input turn after (by_repeat envelope f is) = again envelope is
turn_kinds node input turn after (by_message envelope {effect = effect} f new r s) =
    anew envelope new
    (sent-kind node (comes envelope.from envelope.message) effect turn after (take-kind node envelope envelope.from envelope.message effect r) s)
