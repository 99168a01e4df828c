-- What a turn does to the part of a node that asks for collections and drops what was collected, by its rule.
use Rattle.std.proofs.Common.{◌≡◌, ◌⊎◌, ℕ, ◌++◌, List, [], ◌∷◌, Bool, true, false, map, inl, inr, refl, sym, ap, subst, ◌∙◌}
use Rattle.std.specs.Prelude.{Option, Some, None, Contains, flat_map}
use Rattle.std.specs.List.{range_with_len}
use Rattle.std.proofs.lemmas.Bool.{false≢true}
use Rattle.std.proofs.lemmas.Option.{same_Some}
use Rattle.lrc_trace.specs.declared.act.Deed.TheVariants.{Depart as Departs}
use Rattle.lrc_store.proofs.Orders.{cases_Contains, none_Contains}
use Rattle.lrc_exec.specs.Meaning.{Next, quiet, prints, reads, writes, acquires, releases, arrives, departs, traps, ends, next_of}
use Rattle.lrc_envelope.specs.Records.{DepartRecord}
use Rattle.lrc_envelope.specs.declared.message.Message.{Message}
use Rattle.lrc_envelope.specs.declared.message.Message.TheVariants.{Arrive, Depart}
use Rattle.lrc_lock.specs.declared.state.Pass.{Pass}
use Rattle.lrc_lock.specs.Held.{granted, held_after}
use Rattle.lrc_barrier.specs.declared.departure.Departure.{Departure}
use Rattle.lrc_protocol.specs.Pages.{Memory, Base, unneeded, due, come, Asked, Need, repaired}
use Rattle.lrc_protocol.specs.Barriers.{Collection, clean_memory}
use Rattle.lrc_protocol.specs.Node.{Letter, Wait, nothing, grant, departure, access, upkeep, discard, Course, going, trapped, ended, Node, Effect}
use Rattle.lrc_protocol.specs.Node.{makes, sends, acts, acts_by, next_in, deed_of, value_read, memory_after, waiting, with_memory, with_tokens}
use Rattle.lrc_protocol.specs.Turn.{asks_for_collection, learns, requests_of, charged, page_request_of, changes_request_of, grants_of, departure_of, discards_to}
use Rattle.lrc_protocol.specs.Rules.{IsReadyFor, Brings, brings_changes, brings_base_copy, closed_for}
use Rattle.lrc_protocol.specs.Rules.{RunRule, run_hit, run_miss, run_repair, run_acquire, run_ask, run_release, run_barrier, run_other, TakeRule}
use Rattle.lrc_protocol.specs.Rules.{take_request, take_forward, take_token, take_arrive, take_last_arrive, take_depart, take_collect}
use Rattle.lrc_protocol.specs.Rules.{take_collect_at_once, take_reply, take_last_reply, take_kept_reply, take_last_kept_reply, take_clean}
use Rattle.lrc_protocol.specs.Rules.{take_last_clean, take_discard, take_changes_request, take_page_request, need_at, page_at, upkeep_at, collection_at, keeping}
use Rattle.lrc_order_laws.specs.Waiting.{is_departing, is_access, FixesNext}
use Rattle.lrc_order_laws.proofs.Counts.{lock_next, departure_next, access_next}
use Rattle.lrc_order_laws.proofs.Shift.{next-ready}
use Rattle.lrc_node_laws.proofs.Ranges.{SameRest, clean-same}
use Rattle.lrc_reading_laws.proofs.Collected.Turns.{in_collection}

-- ---- letters

-- a message that says whether its sender asks for a collection says this
abbrev pub SaysAsk : Bool → Message → Type 0
SaysAsk ask (Arrive m) = m.ask ≡ ask
SaysAsk ask _ = Unit {0}

abbrev pub AllAsk : Bool → List Letter → Type 0
AllAsk ask [] = Unit {0}
AllAsk ask (l ∷ letters) = SaysAsk ask l.message × AllAsk ask letters

pub ask_in : (ask : Bool) (letters : List Letter) → AllAsk ask letters → (l : Letter) → Contains letters l → SaysAsk ask l.message
ask_in ask [] h l there = absurd (none_Contains l there)
ask_in ask (x ∷ letters) h l there = elim (cases_Contains x letters l there) [
  | inl is ↦ subst (λ (l : Letter). SaysAsk ask l.message) is h.0
  | inr later ↦ ask_in ask letters h.1 l later
]

append-ask : (ask : Bool) (xs ys : List Letter) → AllAsk ask xs → AllAsk ask ys → AllAsk ask (xs ++ ys)
append-ask ask [] ys h k = k
append-ask ask (x ∷ xs) ys h k = (h.0, append-ask ask xs ys h.1 k)

page_request-ask : (ask : Bool) (page : ℕ) (base : Base) → AllAsk ask (page_request_of page base)
page_request-ask ask page unneeded = tt
page_request-ask ask page (due keeper) = (tt, tt)
page_request-ask ask page (come values) = tt

changes_requests-ask : (ask : Bool) (page : ℕ) (asked : List Asked) → AllAsk ask (map (changes_request_of page) asked)
changes_requests-ask ask page [] = tt
changes_requests-ask ask page (a ∷ asked) = (tt, changes_requests-ask ask page asked)

requests-ask : (ask : Bool) (need : Need) → AllAsk ask (requests_of need)
requests-ask ask need =
    append-ask ask (page_request_of need.page need.base) (map (changes_request_of need.page) need.asked)
    (page_request-ask ask need.page need.base) (changes_requests-ask ask need.page need.asked)

all_requests-ask : (ask : Bool) (needs : List Need) → AllAsk ask (flat_map requests_of needs)
all_requests-ask ask [] = tt
all_requests-ask ask (need ∷ needs) =
    append-ask ask (requests_of need) (flat_map requests_of needs) (requests-ask ask need) (all_requests-ask ask needs)

departures-ask : (ask : Bool) (departures : List Departure) → AllAsk ask (map departure_of departures)
departures-ask ask [] = tt
departures-ask ask (d ∷ departures) = (tt, departures-ask ask departures)

discards-ask : (ask : Bool) (nodes : List ℕ) (episode : ℕ) → AllAsk ask (discards_to nodes episode)
discards-ask ask [] episode = tt
discards-ask ask (n ∷ nodes) episode = (tt, discards-ask ask nodes episode)

grants-ask : (ask : Bool) (node : Node) (pass : Option Pass) → AllAsk ask (grants_of node pass)
grants-ask ask node None = tt
grants-ask ask node (Some pass) = (tt, tt)

-- ---- what an effect does

-- A node keeps what it has collected, and where it departs it was told that no collection begins; or it drops what was collected, and
-- departs.
pub data Drops (node : Node) (message : Option Message) (e : Effect) : Type 0 where
  keeps : e.node.memory.collected ≡ node.memory.collected
      → (e.deed ≡ Some Departs → (m : DepartRecord) × (message ≡ Some (Depart m)) × (m.collect ≡ false)) → Drops node message e
  leaves : (collection : Collection) → node.mail.wait ≡ discard collection → e.node.memory.collected ≡ collection.time → e.deed ≡ Some Departs
      → Drops node message e

pub record Does_so (node : Node) (message : Option Message) (e : Effect) : Type 0 where
  -- who waits to depart, and is not told to, goes on to ask, or not to;
  pub asks : node.mail.wait ≡ departure → ((m : DepartRecord) → message ≡ Some (Depart m) → ⊥) → asks_for_collection e.node ≡ asks_for_collection node
  -- an arrive says whether it does;
  pub letters : AllAsk (asks_for_collection e.node) e.letters
  -- who is in a collection then was so, or is told that one begins;
  pub inside : in_collection e.node.mail.wait ≡ true
      → (in_collection node.mail.wait ≡ true) ⊎ ((m : DepartRecord) × (message ≡ Some (Depart m)) × (m.collect ≡ true))
  pub drops : Drops node message e

acts_by-as : (P : Effect → Type 0) (letters : List Letter) (x : Node) (c : Course) (next : Next) → next_in c ≡ Some next → P (makes letters x next)
    → P (acts_by letters x c)
acts_by-as P letters x (going thread) next n p = subst (λ next. P (makes letters x next)) (sym (same_Some (next_of thread) next n)) p
acts_by-as P letters x (trapped cause) next n p = cc
acts_by-as P letters x ended next n p = cc

-- an act that is no depart
no_depart : (value : ℕ) (next : Next) → is_departing (Some next) ≡ false → Some (deed_of value next) ≡ Some Departs → ⊥
no_depart value (quiet after) n e = cc
no_depart value (prints printed after) n e = cc
no_depart value (reads word after) n e = cc
no_depart value (writes word written after) n e = cc
no_depart value (acquires lock after) n e = cc
no_depart value (releases lock after) n e = cc
no_depart value (arrives after) n e = cc
no_depart value (departs after) n e = cc
no_depart value (traps cause) n e = cc
no_depart value ends n e = cc

memory-collected : (x : Node) (next : Next) → (memory_after x next).collected ≡ x.memory.collected
memory-collected x (quiet after) = refl
memory-collected x (prints printed after) = refl
memory-collected x (reads word after) = refl
memory-collected x (writes word written after) = refl
memory-collected x (acquires lock after) = refl
memory-collected x (releases lock after) = refl
memory-collected x (arrives after) = refl
memory-collected x (departs after) = refl
memory-collected x (traps cause) = refl
memory-collected x ends = refl

not_departing : (c : Option Next) → is_access c ≡ true → is_departing c ≡ false
not_departing (Some (quiet after)) e = refl
not_departing (Some (prints printed after)) e = refl
not_departing (Some (reads word after)) e = refl
not_departing (Some (writes word written after)) e = refl
not_departing (Some (acquires lock after)) e = refl
not_departing (Some (releases lock after)) e = refl
not_departing (Some (arrives after)) e = refl
not_departing (Some (departs after)) e = cc
not_departing (Some (traps cause)) e = refl
not_departing (Some ends) e = refl
not_departing None e = refl

-- it makes an act that is no depart, and waits for nothing, or to depart
made : (node x : Node) (message : Option Message) (letters : List Letter) (next : Next) → (node.mail.wait ≡ departure → ⊥)
    → in_collection x.mail.wait ≡ false → x.memory.collected ≡ node.memory.collected → is_departing (Some next) ≡ false
    → AllAsk (asks_for_collection (makes letters x next).node) letters → Does_so node message (makes letters x next)
made node x message letters next waits out same none ask = record {
  asks = λ w told. absurd (waits w);
  letters = ask;
  inside = λ i. absurd (false≢true (sym out ∙ i));
  drops = keeps (memory-collected x next ∙ same) (λ e. absurd (no_depart (value_read x next) next none e));
}

-- it makes none
stays : (node x : Node) (message : Option Message) (letters : List Letter)
    → (node.mail.wait ≡ departure → ((m : DepartRecord) → message ≡ Some (Depart m) → ⊥) → asks_for_collection x ≡ asks_for_collection node)
    → AllAsk (asks_for_collection x) letters
    → (in_collection x.mail.wait ≡ true
    → (in_collection node.mail.wait ≡ true) ⊎ ((m : DepartRecord) × (message ≡ Some (Depart m)) × (m.collect ≡ true)))
    → x.memory.collected ≡ node.memory.collected → Does_so node message (sends letters x)
stays node x message letters asks ask inside same = record {
  asks = asks;
  letters = ask;
  inside = inside;
  drops = keeps same (λ e. absurd cc);
}

-- who waits for something else does not wait to depart
waits_not : (w other : Wait) → w ≡ other → (other ≡ departure → ⊥) → w ≡ departure → ⊥
waits_not w other e apart d = apart (sym e ∙ d)

out_of : (w other : Wait) → w ≡ other → in_collection other ≡ false → in_collection w ≡ false
out_of w other e out = ap in_collection e ∙ out

module _ (node : Node) (fits : FixesNext node.mail.wait (next_in node.course)) where
  idle-next : (next : Next) → IsReadyFor node next → is_departing (Some next) ≡ false
  idle-next next r =
      subst (λ c. is_departing c ≡ false) (next-ready node next r) (subst (λ w. FixesNext w (next_in node.course)) r.idle fits)

  idle-waits : node.mail.wait ≡ nothing → node.mail.wait ≡ departure → ⊥
  idle-waits idle d = waits_not node.mail.wait nothing idle (λ e. cc) d

  idle-out : node.mail.wait ≡ nothing → in_collection node.mail.wait ≡ false
  idle-out idle = out_of node.mail.wait nothing idle refl

  -- by itself
  runs : (letters : List Letter) (x : Node) (next : Next) → IsReadyFor node next → x.course ≡ node.course → in_collection x.mail.wait ≡ false
      → x.memory.collected ≡ node.memory.collected → AllAsk (asks_for_collection (makes letters x next).node) letters
      → Does_so node None (acts letters x)
  runs letters x next r same_course out same ask =
      acts_by-as (Does_so node None) letters x x.course next (ap next_in same_course ∙ next-ready node next r)
      (made node x None letters next (idle-waits r.idle) out same (idle-next next r) ask)

  pub run-does : (e : Effect) → RunRule node e → Does_so node None e
  run-does e (run_hit {next = next} r a readable) = runs [] (charged node next) next r refl (idle-out r.idle) refl tt
  run-does e (run_miss {next = next} {word = word} r a away unmet) =
      stays node _ None (requests_of (need_at node (page_at node word))) (λ w told. absurd (idle-waits r.idle w)) (requests-ask _ (need_at node (page_at node word)))
      (λ i. absurd (false≢true i)) refl
  run-does e (run_repair {next = next} {word = word} r a away met) =
      runs (requests_of (need_at node (page_at node word))) _ next r refl refl refl (requests-ask _ (need_at node (page_at node word)))
  run-does e (run_acquire lock after r room free) = runs [] _ (acquires lock after) r refl (idle-out r.idle) refl tt
  run-does e (run_ask lock after r room away) =
      stays node _ None _ (λ w told. absurd (idle-waits r.idle w)) (tt, tt) (λ i. absurd (false≢true i)) refl
  run-does e (run_release lock after r room) =
      runs _ _ (releases lock after) r refl (idle-out r.idle) refl (grants-ask _ (closed_for node (releases lock after)) _)
  run-does e (run_barrier after r room) = runs _ _ (arrives after) r refl refl refl (refl, tt)
  run-does e (run_other {next = next} r own) = runs [] (charged node next) next r refl (idle-out r.idle) refl tt

  -- ---- with a message

  fixed : (w : Wait) → node.mail.wait ≡ w → FixesNext w (next_in node.course)
  fixed w at = subst (λ w. FixesNext w (next_in node.course)) at fits

  -- a message that leaves the node's memory
  rests : (message : Message) (x : Node) (letters : List Letter) → x.memory ≡ node.memory → x.options ≡ node.options → x.mail.wait ≡ node.mail.wait
      → ((ask : Bool) → AllAsk ask letters) → Does_so node (Some message) (sends letters x)
  rests message x letters memory_is options_is wait_is none =
      stays node x (Some message) letters
      (λ w told.
      ap (λ memory. asks_for_collection (record x { memory = memory })) memory_is
      ∙ ap (λ options. asks_for_collection (record x { memory = node.memory; options = options })) options_is)
      (none (asks_for_collection x)) (λ i. inl (sym (ap in_collection wait_is) ∙ i)) (ap (λ (memory : Memory). memory.collected) memory_is)

  -- a reply is no departure
  brings-not : (from : ℕ) (message : Message) (memory : Memory) (change : Need → Need) → Brings node from message memory change
      → (memory.collected ≡ node.memory.collected)
  brings-not from _ _ _ (brings_changes m lt all some) = refl
  brings-not from _ _ _ (brings_base_copy m lt long some) = refl

  clean-collected : (needs : List Need) (kept : List ℕ) (memory : Memory) → memory.collected ≡ node.memory.collected
      → (clean_memory needs kept memory).collected ≡ node.memory.collected
  clean-collected needs kept memory e =
      let same : SameRest memory (clean_memory needs kept memory) = clean-same needs kept memory in
      same.collected ∙ e

  told : (m : DepartRecord) → ((d : DepartRecord) → Some (Depart m) ≡ Some (Depart d) → ⊥) → ⊥
  told m none = none m refl

  pub take-does : (from : ℕ) (message : Message) (e : Effect) → TakeRule node from message e → Does_so node (Some message) e
  take-does from message e (take_request m lt counted mine) = rests message _ _ refl refl refl (λ ask. (tt, tt))
  take-does from message e (take_forward m lt asker counted managed accepted) = rests message _ _ refl refl refl (λ ask. grants-ask ask node _)
  take-does from message e (take_token m lt at learnable) =
      let next = lock_next (next_in node.course) m.lock (fixed (grant m.lock) at) in
      let x : Node = waiting nothing (learns m.time m.intervals (with_tokens node (held_after node.locks.held m.lock (granted node.locks.held m.lock)))) in
      acts_by-as (Does_so node (Some message)) [] x node.course (acquires m.lock next.0) next.1
      (made node x (Some message) [] (acquires m.lock next.0) (waits_not node.mail.wait (grant m.lock) at (λ e. cc)) refl refl refl tt)
  take-does from message e (take_arrive m before after at learnable is) = rests message _ _ refl refl refl (λ ask. tt)
  take-does from message e (take_last_arrive m before after departures at learnable is) =
      rests message _ _ refl refl refl (λ ask. departures-ask ask departures)
  take-does from message e (take_depart m d c) =
      let next = departure_next (next_in node.course) (fixed departure d.awaited) in
      acts_by-as (Does_so node (Some message)) [] _ node.course (departs next.0) next.1 (record {
        asks = λ w none. absurd (told m none);
        letters = tt;
        inside = λ i. absurd (false≢true i);
        drops = keeps refl (λ e. (m, refl, c));
      })
  take-does from message e (take_collect m d c unmet) =
      stays node _ (Some message) _ (λ w none. absurd (told m none)) (all_requests-ask _ (upkeep_at node m)) (λ i. inr (m, refl, c)) refl
  take-does from message e (take_collect_at_once m d c met) =
      stays node _ (Some message) _ (λ w none. absurd (told m none)) (tt, tt) (λ i. inr (m, refl, c))
      (clean-collected (upkeep_at node m) (collection_at node m).kept (keeping node m).memory refl)
  take-does from message e (take_reply {memory = memory} {change = change} need b at unmet) =
      stays node _ (Some message) _ (λ w none. absurd (waits_not node.mail.wait (access need) at (λ e. cc) w)) tt (λ i. absurd (false≢true i))
      (brings-not from message memory change b)
  take-does from message e (take_last_reply {memory = memory} {change = change} need b at met) =
      let next = access_next (next_in node.course) (fixed (access need) at) in
      let x : Node = waiting nothing (with_memory node (repaired memory (change need))) in
      acts_by-as (Does_so node (Some message)) [] x node.course next.0 next.1.0
      (made node x (Some message) [] next.0 (waits_not node.mail.wait (access need) at (λ e. cc)) refl (brings-not from message memory change b)
      (subst (λ c. is_departing c ≡ false) next.1.0 (not_departing (next_in node.course) (fixed (access need) at))) tt)
  take-does from message e (take_kept_reply {memory = memory} {change = change} collection needs b at unmet) =
      stays node _ (Some message) _ (λ w none. absurd (waits_not node.mail.wait (upkeep collection needs) at (λ e. cc) w)) tt
      (λ i. inl (ap in_collection at)) (brings-not from message memory change b)
  take-does from message e (take_last_kept_reply {memory = memory} {change = change} collection needs b at met) =
      stays node _ (Some message) _ (λ w none. absurd (waits_not node.mail.wait (upkeep collection needs) at (λ e. cc) w)) (tt, tt)
      (λ i. inl (ap in_collection at)) (clean-collected (map change needs) collection.kept memory (brings-not from message memory change b))
  take-does from message e (take_clean episode before after at is) = rests message _ _ refl refl refl (λ ask. tt)
  take-does from message e (take_last_clean episode over before after at is) =
      rests message _ _ refl refl refl (λ ask. discards-ask ask (range_with_len 0 node.setting.nodes) over)
  take-does from message e (take_discard episode collection by_manager at is) =
      let next = departure_next (next_in node.course) (fixed (discard collection) at) in
      acts_by-as (Does_so node (Some message)) [] _ node.course (departs next.0) next.1 (record {
        asks = λ w none. absurd (waits_not node.mail.wait (discard collection) at (λ e. cc) w);
        letters = tt;
        inside = λ i. absurd (false≢true i);
        drops = leaves collection at refl refl;
      })
  take-does from message e (take_changes_request m lt all) = rests message _ _ refl refl refl (λ ask. (tt, tt))
  take-does from message e (take_page_request page values lt other at) = rests message _ _ refl refl refl (λ ask. (tt, tt))
