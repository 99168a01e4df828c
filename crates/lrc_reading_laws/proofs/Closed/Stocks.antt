-- What a turn does to the intervals that a node stores, and what its letters tell of them: by what came.
use Rattle.std.proofs.Common.{◌≡◌, ℕ, List, [], ◌∷◌, ◌++◌, true, false, refl, sym, subst, ◌∙◌}
use Rattle.std.specs.Prelude.{Option, Some, None, fold, map, flat_map}
use Rattle.std.specs.List.{range_with_len}
use Rattle.lrc_time.specs.Time.{joined}
use Rattle.lrc_exec.specs.Meaning.{Next, quiet, prints, reads, writes, acquires, releases, arrives, departs, traps, ends, next_of}
use Rattle.lrc_store.specs.Store.{StoreRecord, added, newer_of, discarded}
use Rattle.lrc_envelope.specs.Envelope.{EnvelopeRecord}
use Rattle.lrc_envelope.specs.Records.{IndexedChangesRecord, LockGrantRecord, DepartRecord, ChangesReplyRecord}
use Rattle.lrc_envelope.specs.declared.message.Message.{Message}
use Rattle.lrc_envelope.specs.declared.message.Message.TheVariants.{LockGrant, Arrive, Depart, Discard, ChangesReply}
use Rattle.lrc_lock.specs.declared.state.Pass.{Pass}
use Rattle.lrc_barrier.specs.declared.departure.Departure.{Departure}
use Rattle.lrc_protocol.specs.Times.{next_time}
use Rattle.lrc_protocol.specs.Pages.{Memory, with_interval, changes_or_none, Base, unneeded, due, come, Asked, Need, repaired, with_part}
use Rattle.lrc_protocol.specs.Barriers.{with_base, Collection, clean_memory}
use Rattle.lrc_protocol.specs.Node.{Letter, Course, going, trapped, ended, Node, Effect, sends, acts, acts_by, memory_after, with_memory}
use Rattle.lrc_protocol.specs.Turn.{requests_of, page_request_of, changes_request_of, grants_of, departure_of, discards_to, cleans, charged}
use Rattle.lrc_protocol.specs.Turn.{TurnRecord, taking, is_repeat, empty_turn}
use Rattle.lrc_protocol.specs.Run.{Input, run, taken}
use Rattle.lrc_protocol.specs.Rules.{take_request, Brings, brings_changes, brings_base_copy, page_at, need_at, closed_for, keeping}
use Rattle.lrc_protocol.specs.Rules.{collection_at, upkeep_at, RunRule, run_hit, run_miss, run_repair, run_acquire, run_ask, run_release}
use Rattle.lrc_protocol.specs.Rules.{run_barrier, run_other, TakeRule, take_forward, take_token, take_arrive, take_last_arrive, take_depart}
use Rattle.lrc_protocol.specs.Rules.{take_collect, take_collect_at_once, take_reply, take_last_reply, take_kept_reply, take_last_kept_reply}
use Rattle.lrc_protocol.specs.Rules.{take_clean, take_last_clean, take_discard, take_changes_request, take_page_request, IsSent, with_numbers}
use Rattle.lrc_protocol.specs.Rules.{TurnRule, by_run, by_repeat, by_message}
use Rattle.lrc_order_laws.proofs.Sends.{Came, by_itself, comes, letter_in, sent-letters}

-- ---- words

-- what becomes of the store: nothing; the open interval is closed and stored; intervals that came are added; changes that came
-- are attached; or what a time covers is dropped. And the node's time then.
pub data StoreChange (me : ℕ) (time : List ℕ) (memory : Memory) : Came → StoreRecord → List ℕ → Type 0 where
  same : {came : Came} → StoreChange me time memory came memory.store time
  closed : StoreChange me time memory by_itself (with_interval me (next_time me time) memory).store (next_time me time)
  granted : (from : ℕ) (m : LockGrantRecord)
      → StoreChange me time memory (comes from (LockGrant m)) (fold added memory.store m.intervals) (joined time m.time)
  departing : (from : ℕ) (m : DepartRecord)
      → StoreChange me time memory (comes from (Depart m)) (fold added memory.store m.intervals) (joined time m.time)
  replied : (from : ℕ) (m : ChangesReplyRecord)
      → StoreChange me time memory (comes from (ChangesReply m)) (fold (with_part from m.page) memory.store m.parts) time
  dropped : (from episode : ℕ) (upto : List ℕ) → StoreChange me time memory (comes from (Discard episode)) (discarded memory.store upto) time

abbrev pub ChangesStore : Node → Came → StoreRecord → List ℕ → Type 0
ChangesStore node came store time = StoreChange node.setting.me node.locks.time node.memory came store time

-- what a node's own interval of this index changed in a page, as it stores it
abbrev pub own_part_in : StoreRecord → ℕ → ℕ → ℕ → IndexedChangesRecord
own_part_in store me page index =
    record { index = index; changes = changes_or_none store (record { node = me; index = index; page = page }) }

-- Intervals of a grant and of an arrival are stored at the sender, and changes in a reply are those that it stores of its own.
-- (What a departure tells is the manager's.)
abbrev pub Tells : StoreRecord → ℕ → Message → Type 0
Tells store me (LockGrant m) = (since : List ℕ) × (upto : List ℕ) × (m.intervals ≡ newer_of store since upto)
Tells store me (Arrive m) = (since : List ℕ) × (upto : List ℕ) × (m.intervals ≡ newer_of store since upto)
Tells store me (ChangesReply m) = (indices : List ℕ) × (m.parts ≡ map (own_part_in store me m.page) indices)
Tells store me _ = Unit {0}

abbrev pub AllTell : StoreRecord → ℕ → List Letter → Type 0
AllTell store me [] = Unit {0}
AllTell store me (x ∷ letters) = Tells store me x.message × AllTell store me letters

-- of an effect
pub record Stocks (node : Node) (came : Came) (e : Effect) : Type 0 where
  pub change : ChangesStore node came e.node.memory.store e.node.locks.time
  pub told : AllTell e.node.memory.store node.setting.me e.letters

-- ---- letters that tell nothing

tell-append : (store : StoreRecord) (me : ℕ) (xs ys : List Letter) → AllTell store me xs → AllTell store me ys → AllTell store me (xs ++ ys)
tell-append store me [] ys h k = k
tell-append store me (x ∷ xs) ys h k = (h.0, tell-append store me xs ys h.1 k)

page_request-tell : (store : StoreRecord) (me page : ℕ) (base : Base) → AllTell store me (page_request_of page base)
page_request-tell store me page unneeded = tt
page_request-tell store me page (due keeper) = (tt, tt)
page_request-tell store me page (come values) = tt

changes_requests-tell : (store : StoreRecord) (me page : ℕ) (asked : List Asked) → AllTell store me (map (changes_request_of page) asked)
changes_requests-tell store me page [] = tt
changes_requests-tell store me page (a ∷ asked) = (tt, changes_requests-tell store me page asked)

requests-tell : (store : StoreRecord) (me : ℕ) (need : Need) → AllTell store me (requests_of need)
requests-tell store me need =
    tell-append store me (page_request_of need.page need.base) (map (changes_request_of need.page) need.asked)
    (page_request-tell store me need.page need.base) (changes_requests-tell store me need.page need.asked)

all_requests-tell : (store : StoreRecord) (me : ℕ) (needs : List Need) → AllTell store me (flat_map requests_of needs)
all_requests-tell store me [] = tt
all_requests-tell store me (need ∷ needs) =
    tell-append store me (requests_of need) (flat_map requests_of needs) (requests-tell store me need) (all_requests-tell store me needs)

departures-tell : (store : StoreRecord) (me : ℕ) (departures : List Departure) → AllTell store me (map departure_of departures)
departures-tell store me [] = tt
departures-tell store me (d ∷ departures) = (tt, departures-tell store me departures)

discards-tell : (store : StoreRecord) (me : ℕ) (nodes : List ℕ) (episode : ℕ) → AllTell store me (discards_to nodes episode)
discards-tell store me [] episode = tt
discards-tell store me (n ∷ nodes) episode = (tt, discards-tell store me nodes episode)

grants-tell : (node : Node) (me : ℕ) (pass : Option Pass) → AllTell node.memory.store me (grants_of node pass)
grants-tell node me None = tt
grants-tell node me (Some pass) = ((pass.since, pass.upto, refl), tt)

-- ---- acts and repairs leave the store

memory_after-store : (node : Node) (next : Next) → (memory_after node next).store ≡ node.memory.store
memory_after-store node (quiet t) = refl
memory_after-store node (prints v t) = refl
memory_after-store node (reads w t) = refl
memory_after-store node (writes w v t) = refl
memory_after-store node (acquires l t) = refl
memory_after-store node (releases l t) = refl
memory_after-store node (arrives t) = refl
memory_after-store node (departs t) = refl
memory_after-store node (traps c) = refl
memory_after-store node ends = refl

acts_by-store : (letters : List Letter) (node : Node) (c : Course) → (acts_by letters node c).node.memory.store ≡ node.memory.store
acts_by-store letters node (going t) = memory_after-store node (next_of t)
acts_by-store letters node (trapped cause) = refl
acts_by-store letters node ended = refl

acts_by-time : (letters : List Letter) (node : Node) (c : Course) → (acts_by letters node c).node.locks.time ≡ node.locks.time
acts_by-time letters node (going t) = refl
acts_by-time letters node (trapped cause) = refl
acts_by-time letters node ended = refl

pub acts_by-letters : (letters : List Letter) (node : Node) (c : Course) → (acts_by letters node c).letters ≡ letters
acts_by-letters letters node (going t) = refl
acts_by-letters letters node (trapped cause) = refl
acts_by-letters letters node ended = refl

bases-store : (kept : List ℕ) (memory : Memory) → (fold with_base memory kept).store ≡ memory.store
bases-store [] memory = refl
bases-store (page ∷ kept) memory = bases-store kept (with_base memory page)

mends-store : (needs : List Need) (memory : Memory) → (fold repaired memory needs).store ≡ memory.store
mends-store [] memory = refl
mends-store (need ∷ needs) memory = mends-store needs (repaired memory need)

clean-store : (needs : List Need) (kept : List ℕ) (memory : Memory) → (clean_memory needs kept memory).store ≡ memory.store
clean-store needs kept memory = bases-store kept (fold repaired memory needs) ∙ mends-store needs memory

-- ---- effects

rested : (node : Node) (came : Came) (letters : List Letter) (x : Node) → ChangesStore node came x.memory.store x.locks.time
    → AllTell x.memory.store node.setting.me letters → Stocks node came (sends letters x)
rested node came letters x c t = record { change = c; told = t }

acted : (node : Node) (came : Came) (letters : List Letter) (x : Node) → ChangesStore node came x.memory.store x.locks.time
    → AllTell x.memory.store node.setting.me letters → Stocks node came (acts letters x)
acted node came letters x c t = record {
  change =
      subst (λ time. ChangesStore node came (acts letters x).node.memory.store time) (sym (acts_by-time letters x x.course))
      (subst (λ store. ChangesStore node came store x.locks.time) (sym (acts_by-store letters x x.course)) c);
  told =
      subst (λ store. AllTell store node.setting.me (acts letters x).letters) (sym (acts_by-store letters x x.course))
      (subst (AllTell x.memory.store node.setting.me) (sym (acts_by-letters letters x x.course)) t);
}

-- ---- what a node does by itself

run-stocks : (node : Node) (e : Effect) → RunRule node e → Stocks node by_itself e
run-stocks node e (run_hit {next = next} r a readable) = acted node by_itself [] (charged node next) same tt
run-stocks node e (run_miss {word = word} r a away unmet) =
    rested node by_itself _ _ same (requests-tell node.memory.store node.setting.me (need_at node (page_at node word)))
run-stocks node e (run_repair {word = word} r a away met) =
    acted node by_itself _ _ same (requests-tell node.memory.store node.setting.me (need_at node (page_at node word)))
run-stocks node e (run_acquire lock after r room free) = acted node by_itself [] _ closed tt
run-stocks node e (run_ask lock after r room away) = rested node by_itself _ _ closed (tt, tt)
run-stocks node e (run_release lock after r room) =
    acted node by_itself _ _ closed (grants-tell (closed_for node (releases lock after)) node.setting.me _)
run-stocks node e (run_barrier after r room) = acted node by_itself _ _ closed ((_, _, refl), tt)
run-stocks node e (run_other {next = next} r own) = acted node by_itself [] (charged node next) same tt

-- ---- what a node does with a message

module _ (node : Node) (from : ℕ) where
  -- a node whose pages are clean has the same store
  cleans-stocks : (message : Message) (x : Node) (collection : Collection) (needs : List Need)
      → ChangesStore node (comes from message) x.memory.store x.locks.time → Stocks node (comes from message) (cleans x collection needs)
  cleans-stocks message x collection needs c =
      rested node (comes from message) _ _
      (subst (λ store. ChangesStore node (comes from message) store x.locks.time) (sym (clean-store needs collection.kept x.memory)) c) (tt, tt)

  brings-store : (message : Message) (memory : Memory) (change : Need → Need) → Brings node from message memory change
      → ChangesStore node (comes from message) memory.store node.locks.time
  brings-store message memory change (brings_changes m lt all some) = replied from m
  brings-store message memory change (brings_base_copy m lt counted some) = same

  take-stocks : (message : Message) (e : Effect) → TakeRule node from message e → Stocks node (comes from message) e
  take-stocks message e (take_request m lt counted mine) = rested node _ _ _ same (tt, tt)
  take-stocks message e (take_forward m lt asker counted managed accepted) = rested node _ _ _ same (grants-tell node node.setting.me _)
  take-stocks message e (take_token m lt at news) = acted node _ [] _ (granted from m) tt
  take-stocks message e (take_arrive m before after at news is) = rested node _ [] _ same tt
  take-stocks message e (take_last_arrive m before after departures at news is) =
      rested node _ _ _ same (departures-tell node.memory.store node.setting.me departures)
  take-stocks message e (take_depart m d c) = acted node _ [] _ (departing from m) tt
  take-stocks message e (take_collect m d c unmet) =
      rested node _ _ _ (departing from m) (all_requests-tell (keeping node m).memory.store node.setting.me (upkeep_at node m))
  take-stocks message e (take_collect_at_once m d c met) =
      cleans-stocks message (keeping node m) (collection_at node m) (upkeep_at node m) (departing from m)
  take-stocks message e (take_reply {memory = memory} {change = change} need b at unmet) =
      rested node _ [] _ (brings-store message memory change b) tt
  take-stocks message e (take_last_reply {memory = memory} {change = change} need b at met) =
      acted node _ [] _ (brings-store message memory change b) tt
  take-stocks message e (take_kept_reply {memory = memory} {change = change} collection needs b at unmet) =
      rested node _ [] _ (brings-store message memory change b) tt
  take-stocks message e (take_last_kept_reply {memory = memory} {change = change} collection needs b at met) =
      cleans-stocks message (with_memory node memory) collection (map change needs) (brings-store message memory change b)
  take-stocks message e (take_clean episode before after at is) = rested node _ [] _ same tt
  take-stocks message e (take_last_clean episode over before after at is) =
      rested node _ _ _ same (discards-tell node.memory.store node.setting.me (range_with_len 0 node.setting.nodes) over)
  take-stocks message e (take_discard episode collection by_manager at is) = acted node _ [] _ (dropped from episode collection.time) tt
  take-stocks message e (take_changes_request m lt all) = rested node _ _ _ same ((m.indices, refl), tt)
  take-stocks message e (take_page_request page values lt other at) = rested node _ _ _ same (tt, tt)

-- ---- turns

-- a turn that is no repeat
pub record Stocked (node : Node) (came : Came) (turn : TurnRecord) (after : Node) : Type 0 where
  pub letters : List Letter
  pub change : ChangesStore node came after.memory.store after.locks.time
  pub told : AllTell after.memory.store node.setting.me letters
  pub out : map letter_in turn.out ≡ letters

pub data Stocking (node : Node) : Input → TurnRecord → Node → Type 0 where
  alone : {turn : TurnRecord} {after : Node} → Stocked node by_itself turn after → Stocking node run turn after
  again : (envelope : EnvelopeRecord) → is_repeat node envelope ≡ true → Stocking node (taken envelope) empty_turn node
  anew : (envelope : EnvelopeRecord) {turn : TurnRecord} {after : Node} → is_repeat node envelope ≡ false
      → Stocked node (comes envelope.from envelope.message) turn after → Stocking node (taken envelope) turn after

sent-stocked : (node : Node) (came : Came) (e : Effect) (turn : TurnRecord) (after : Node)
    → ChangesStore node came e.node.memory.store e.node.locks.time → AllTell e.node.memory.store node.setting.me e.letters → IsSent e turn after
    → Stocked node came turn after
sent-stocked node came e turn after c t (with_numbers out sent is) =
    record { letters = e.letters; change = c; told = t; out = sent-letters e _ _ (with_numbers out sent is) }

-- each turn does so
pub stockings : (node : Node) (input : Input) (turn : TurnRecord) (after : Node) → TurnRule node input turn after → Stocking node input turn after
stockings node input turn after (by_run {effect = e} r s) =
    let k : Stocks node by_itself e = run-stocks node e r in
    alone (sent-stocked node by_itself e turn after k.change k.told s)
stockings node input turn after (by_repeat envelope addressed is) = again envelope is
stockings node input turn after (by_message envelope {effect = e} addressed new r s) =
    let came : Came = comes envelope.from envelope.message in
    let k : Stocks (taking node envelope) came e = take-stocks (taking node envelope) envelope.from envelope.message e r in
    anew envelope new (sent-stocked node came e turn after k.change k.told s)
