-- What a turn does to the times that a node's memory keeps, the collected one and those remembered of invalid copies: they stay, or
-- become the node's time from before the turn. And only a request of changes is answered by a reply of changes.
use Rattle.std.proofs.Common.{◌≡◌, ℕ, ◌+◌, ◌<◌, ◌≤◌, List, [], ◌∷◌, ◌++◌, Bool, true, false, length, refl, sym, subst, ⊎_elim, arith}
use Rattle.std.specs.Prelude.{Option, Some, None, fold, map, flat_map, if◌then◌else◌}
use Rattle.std.specs.List.{enumerate_from, range_with_len}
use Rattle.std.proofs.lemmas.Bool.{cases_lt}
use Rattle.std.proofs.lemmas.List.{get_or_past}
use Rattle.lrc_page.specs.Place.{page_of, offset_of}
use Rattle.lrc_exec.specs.Meaning.{Next, quiet, prints, reads, writes, acquires, releases, arrives, departs, traps, ends, next_of}
use Rattle.lrc_store.specs.Interval.{IntervalRecord}
use Rattle.lrc_envelope.specs.Envelope.{EnvelopeRecord}
use Rattle.lrc_envelope.specs.Records.{DepartRecord}
use Rattle.lrc_envelope.specs.declared.message.Message.{Message}
use Rattle.lrc_envelope.specs.declared.message.Message.TheVariants.{LockForward, LockGrant, Arrive, ChangesRequest, ChangesReply}
use Rattle.lrc_lock.specs.declared.state.Pass.{Pass}
use Rattle.lrc_lock.specs.Held.{released, forwarded, pass_of}
use Rattle.lrc_barrier.specs.declared.departure.Departure.{Departure}
use Rattle.lrc_protocol.specs.Times.{is_named, next_time}
use Rattle.lrc_protocol.specs.Pages.{Copy, valid, written, invalid, absent, after_write, closed, invalidated, dropped, Memory, copy_at}
use Rattle.lrc_protocol.specs.Pages.{with_copy, with_interval, learned, Base, unneeded, due, come, Asked, Need, repaired}
use Rattle.lrc_protocol.specs.Barriers.{with_base, after_collection, clean_memory}
use Rattle.lrc_protocol.specs.Node.{Letter, Course, going, trapped, ended, Node, Effect, acts, acts_by, memory_after}
use Rattle.lrc_protocol.specs.Turn.{requests_of, page_request_of, changes_request_of, changes_reply_to, grants_of, departure_of, discards_to}
use Rattle.lrc_protocol.specs.Turn.{arrival_of, charged, after_close, TurnRecord, done, run_turn, taking}
use Rattle.lrc_protocol.specs.Rules.{take_request, AccessesNext, access_read, access_write, IsOwn, own_quiet, own_print, own_trap, own_end, Brings}
use Rattle.lrc_protocol.specs.Rules.{brings_changes, brings_base_copy, page_at, need_at, closed_for, keeping, collection_at, upkeep_at, RunRule}
use Rattle.lrc_protocol.specs.Rules.{run_hit, run_miss, run_repair, run_acquire, run_ask, run_release, run_barrier, run_other, TakeRule}
use Rattle.lrc_protocol.specs.Rules.{take_forward, take_token, take_arrive, take_last_arrive, take_depart, take_collect, take_collect_at_once}
use Rattle.lrc_protocol.specs.Rules.{take_reply, take_last_reply, take_kept_reply, take_last_kept_reply, take_clean, take_last_clean}
use Rattle.lrc_protocol.specs.Rules.{take_discard, take_changes_request, take_page_request, IsSent, with_numbers}
use Rattle.lrc_order_laws.proofs.Shift.{AllFrom}
use Rattle.lrc_order_laws.proofs.Sends.{letter_in, sent-letters, sent-from}
use Rattle.lrc_order_laws.proofs.Pending.{Ran, ran, Took}
use Rattle.lrc_node_laws.specs.Ranges.{CollectsAt}
use Rattle.lrc_node_laws.proofs.Lists.{length-placed}
use Rattle.lrc_node_laws.proofs.OwnCopies.{set-copy, map-copy, placed-copy}
use Rattle.lrc_reading_laws.proofs.Closed.Stocks.{acts_by-letters}

-- ---- letters that tell of changes, or grant a lock, and others

abbrev pub is_changes_reply : Message → Bool
is_changes_reply (ChangesReply m) = true
is_changes_reply _ = false

abbrev pub is_lock_grant : Message → Bool
is_lock_grant (LockGrant m) = true
is_lock_grant _ = false

abbrev pub is_arrival : Message → Bool
is_arrival (Arrive m) = true
is_arrival _ = false

abbrev pub AllSilent : List Letter → Type 0
AllSilent [] = Unit {0}
AllSilent (x ∷ letters) = (is_changes_reply x.message ≡ false) × (is_lock_grant x.message ≡ false) × (is_arrival x.message ≡ false) × AllSilent letters

silent-append : (xs ys : List Letter) → AllSilent xs → AllSilent ys → AllSilent (xs ++ ys)
silent-append [] ys h k = k
silent-append (x ∷ xs) ys h k = (h.0, h.1, h.2, silent-append xs ys h.3 k)

page_request-silent : (page : ℕ) (base : Base) → AllSilent (page_request_of page base)
page_request-silent page unneeded = tt
page_request-silent page (due keeper) = (refl, refl, refl, tt)
page_request-silent page (come values) = tt

changes_requests-silent : (page : ℕ) (asked : List Asked) → AllSilent (map (changes_request_of page) asked)
changes_requests-silent page [] = tt
changes_requests-silent page (a ∷ asked) = (refl, refl, refl, changes_requests-silent page asked)

requests-silent : (need : Need) → AllSilent (requests_of need)
requests-silent need =
    silent-append (page_request_of need.page need.base) (map (changes_request_of need.page) need.asked)
    (page_request-silent need.page need.base) (changes_requests-silent need.page need.asked)

all_requests-silent : (needs : List Need) → AllSilent (flat_map requests_of needs)
all_requests-silent [] = tt
all_requests-silent (need ∷ needs) = silent-append (requests_of need) (flat_map requests_of needs) (requests-silent need) (all_requests-silent needs)

departures-silent : (departures : List Departure) → AllSilent (map departure_of departures)
departures-silent [] = tt
departures-silent (d ∷ departures) = (refl, refl, refl, departures-silent departures)

discards-silent : (nodes : List ℕ) (episode : ℕ) → AllSilent (discards_to nodes episode)
discards-silent [] episode = tt
discards-silent (n ∷ nodes) episode = (refl, refl, refl, discards-silent nodes episode)

-- none of them tells of changes
abbrev pub NoReplies : List Letter → Type 0
NoReplies [] = Unit {0}
NoReplies (x ∷ letters) = (is_changes_reply x.message ≡ false) × NoReplies letters

pub silent-replies : (letters : List Letter) → AllSilent letters → NoReplies letters
silent-replies [] h = tt
silent-replies (x ∷ letters) h = (h.0, silent-replies letters h.3)

pub grants-replies : (node : Node) (pass : Option Pass) → NoReplies (grants_of node pass)
grants-replies node None = tt
grants-replies node (Some pass) = (refl, tt)

-- ---- times in a memory

module _ (C : List ℕ → Type 0) where
  abbrev pub SinceIn : Copy → Type 0
  SinceIn (valid values) = Unit {0}
  SinceIn (written values twin) = Unit {0}
  SinceIn (invalid values since) = C since
  SinceIn absent = Unit {0}

  pub record Timely (memory : Memory) : Type 0 where
    pub collected : C memory.collected
    pub since : (page : ℕ) → SinceIn (copy_at memory page)

  copy-timely : (memory : Memory) (page : ℕ) (copy : Copy) → (SinceIn (copy_at memory page) → SinceIn copy) → Timely memory
      → Timely (with_copy memory page copy)
  copy-timely memory page copy k h =
      record { collected = h.collected; since = λ p. set-copy SinceIn memory.copies page p copy k (h.since p) }

  write-since : (copy : Copy) (offset value : ℕ) → SinceIn copy → SinceIn (after_write copy offset value)
  write-since (valid values) offset value h = tt
  write-since (written values twin) offset value h = tt
  write-since (invalid values since) offset value h = h
  write-since absent offset value h = tt

  mends-timely : (needs : List Need) (memory : Memory) → Timely memory → Timely (fold repaired memory needs)
  mends-timely [] memory h = h
  mends-timely (need ∷ needs) memory h = mends-timely needs (repaired memory need) (copy-timely memory need.page _ (λ s. tt) h)

  bases-timely : (kept : List ℕ) (memory : Memory) → Timely memory → Timely (fold with_base memory kept)
  bases-timely [] memory h = h
  bases-timely (page ∷ kept) memory h = bases-timely kept (with_base memory page) (record { collected = h.collected; since = h.since })

  clean-timely : (needs : List Need) (kept : List ℕ) (memory : Memory) → Timely memory → Timely (clean_memory needs kept memory)
  clean-timely needs kept memory h = bases-timely kept (fold repaired memory needs) (mends-timely needs memory h)

  closed-since : (copy : Copy) → SinceIn copy → SinceIn (closed copy)
  closed-since (valid values) h = tt
  closed-since (written values twin) h = tt
  closed-since (invalid values since) h = h
  closed-since absent h = tt

  interval-timely : (me : ℕ) (stamp : List ℕ) (memory : Memory) → Timely memory → Timely (with_interval me stamp memory)
  interval-timely me stamp memory h = record {
    collected = h.collected;
    since = λ page. subst SinceIn (sym (map-copy closed refl memory.copies page)) (closed-since (copy_at memory page) (h.since page));
  }

  invalidated-since : (before : List ℕ) (copy : Copy) → C before → SinceIn copy → SinceIn (invalidated before copy)
  invalidated-since before (valid values) c h = c
  invalidated-since before (written values twin) c h = tt
  invalidated-since before (invalid values since) c h = h
  invalidated-since before absent c h = tt

  abbrev placed_with : List ℕ → List IntervalRecord → ℕ × Copy → Copy
  placed_with before intervals place = if is_named intervals place.0 then invalidated before place.1 else place.1

  learned-timely : (before : List ℕ) (intervals : List IntervalRecord) (memory : Memory) → C before → Timely memory → Timely (learned before intervals memory)
  learned-timely before intervals memory c h = record { collected = h.collected; since = since }
    where
      named : (copy : Copy) (b : Bool) → SinceIn copy → SinceIn (if b then invalidated before copy else copy)
      named copy true s = invalidated-since before copy c s
      named copy false s = s

      since : (page : ℕ) → SinceIn (copy_at (learned before intervals memory) page)
      since page =
          ⊎_elim
          (λ (lt : page < length memory.copies).
          subst SinceIn (sym (placed-copy (placed_with before intervals) memory.copies page lt)) (named (copy_at memory page)
          (is_named intervals page) (h.since page)))
          (λ (le : length memory.copies ≤ page).
          subst SinceIn
          (sym (get_or_past (map (placed_with before intervals) (enumerate_from 0 memory.copies)) page absent (omega (
            arith,
            le,
            length-placed
                (placed_with before intervals) memory.copies,
          )))) tt)
          (cases_lt page (length memory.copies))

  dropped-since : (copy : Copy) → SinceIn (dropped copy)
  dropped-since (valid values) = tt
  dropped-since (written values twin) = tt
  dropped-since (invalid values since) = tt
  dropped-since absent = tt

  collected-timely : (me : ℕ) (time : List ℕ) (memory : Memory) → C time → Timely (after_collection me time memory)
  collected-timely me time memory c = record {
    collected = c;
    since = λ page. subst SinceIn (sym (map-copy dropped refl memory.copies page)) (dropped-since (copy_at memory page));
  }

  memory_after-timely : (node : Node) (next : Next) → Timely node.memory → Timely (memory_after node next)
  memory_after-timely node (writes word value after) h =
      let page : ℕ = page_of word node.options.size in
      copy-timely node.memory page _ (λ s. write-since (copy_at node.memory page) (offset_of word node.options.size) value s) h
  memory_after-timely node (quiet after) h = h
  memory_after-timely node (prints v after) h = h
  memory_after-timely node (reads w after) h = h
  memory_after-timely node (acquires l after) h = h
  memory_after-timely node (releases l after) h = h
  memory_after-timely node (arrives after) h = h
  memory_after-timely node (departs after) h = h
  memory_after-timely node (traps cause) h = h
  memory_after-timely node ends h = h

  -- the memory after an act
  acts-timely : (letters : List Letter) (x : Node) (c : Course) → Timely x.memory → Timely (acts_by letters x c).node.memory
  acts-timely letters x (going t) h = memory_after-timely x (next_of t) h
  acts-timely letters x (trapped cause) h = h
  acts-timely letters x ended h = h

  acts-silent : (letters : List Letter) (x : Node) → AllSilent letters → AllSilent (acts letters x).letters
  acts-silent letters x s = subst AllSilent (sym (acts_by-letters letters x x.course)) s

  -- ---- by itself

  closes-timely : (node : Node) (next : Next) → Timely node.memory → Timely (closed_for node next).memory
  closes-timely node next h = interval-timely node.setting.me (next_time node.setting.me node.locks.time) node.memory h

  run-timely : (node : Node) (e : Effect) → Timely node.memory → RunRule node e → Timely e.node.memory
  run-timely node e h (run_hit {next = next} r a readable) = acts-timely [] (charged node next) node.course h
  run-timely node e h (run_miss r a away unmet) = h
  run-timely node e h (run_repair {word = word} r a away met) =
      acts-timely _ _ node.course (mends-timely (need_at node (page_at node word) ∷ []) node.memory h)
  run-timely node e h (run_acquire lock after r room free) = acts-timely [] _ node.course (closes-timely node (acquires lock after) h)
  run-timely node e h (run_ask lock after r room away) = closes-timely node (acquires lock after) h
  run-timely node e h (run_release lock after r room) = acts-timely _ _ node.course (closes-timely node (releases lock after) h)
  run-timely node e h (run_barrier after r room) = acts-timely _ _ node.course (closes-timely node (arrives after) h)
  run-timely node e h (run_other {next = next} r own) = acts-timely [] (charged node next) node.course h

  -- a release may grant the lock, and an arrival is sent; whatever else is begun is silent
  abbrev pub RunSays : Node → Next → List Letter → Type 0
  RunSays node (releases lock after) letters =
      letters ≡ grants_of (after_close node) (pass_of (released node.locks.held lock (next_time node.setting.me node.locks.time)))
  RunSays node (arrives after) letters = letters ≡ arrival_of (after_close node) (node.barrier.episode + 1) ∷ []
  RunSays node _ letters = AllSilent letters

  access-says : (node : Node) (next : Next) (word : ℕ) (letters : List Letter) → AccessesNext next word → AllSilent letters → RunSays node next letters
  access-says node next word letters (access_read w after) s = s
  access-says node next word letters (access_write w value after) s = s

  own-says : (node : Node) (next : Next) (letters : List Letter) → IsOwn next → AllSilent letters → RunSays node next letters
  own-says node next letters (own_quiet after) s = s
  own-says node next letters (own_print value after) s = s
  own-says node next letters (own_trap cause) s = s
  own-says node next letters own_end s = s

  -- what a node says that goes on by itself
  abbrev pub GoesSaying : Node → List Letter → Type 0
  GoesSaying node letters = (next : Next) × RunSays node next letters

  run-says : (node : Node) (e : Effect) → RunRule node e → GoesSaying node e.letters
  run-says node e (run_hit {next = next} {word = word} r a readable) =
      (next, access-says node next word _ a (acts-silent [] (charged node next) tt))
  run-says node e (run_miss {next = next} {word = word} r a away unmet) =
      (next, access-says node next word _ a (requests-silent (need_at node (page_at node word))))
  run-says node e (run_repair {next = next} {word = word} r a away met) =
      (next, access-says node next word _ a (acts-silent _ _ (requests-silent (need_at node (page_at node word)))))
  run-says node e (run_acquire lock after r room free) = (acquires lock after, acts-silent [] _ tt)
  run-says node e (run_ask lock after r room away) = (acquires lock after, (refl, refl, refl, tt))
  run-says node e (run_release lock after r room) = (releases lock after, acts_by-letters _ _ node.course)
  run-says node e (run_barrier after r room) = (arrives after, acts_by-letters _ _ node.course)
  run-says node e (run_other {next = next} r own) = (next, own-says node next _ own (acts-silent [] (charged node next) tt))

  -- ---- with a message

  -- what is sent is silent, but to a request of changes, and to a request of a lock that is passed on
  abbrev pub Says : Node → ℕ → Message → List Letter → Type 0
  Says node from (ChangesRequest m) letters = letters ≡ changes_reply_to node from m.page m.indices ∷ []
  Says node from (LockForward m) letters = letters ≡ grants_of node (pass_of (forwarded node.locks.held m.lock m.asker m.time))
  Says node from _ letters = AllSilent letters

  module _ (node : Node) (from : ℕ) where
    -- a reply is answered by nothing, and changes no copy
    brings-says : (message : Message) (memory : Memory) (change : Need → Need) → Brings node from message memory change
        → (letters : List Letter) → AllSilent letters → Says node from message letters
    brings-says message memory change (brings_changes m lt all some) letters s = s
    brings-says message memory change (brings_base_copy m lt counted some) letters s = s

    brings-timely : (message : Message) (memory : Memory) (change : Need → Need) → Brings node from message memory change → Timely node.memory
        → Timely memory
    brings-timely message memory change (brings_changes m lt all some) h = record { collected = h.collected; since = h.since }
    brings-timely message memory change (brings_base_copy m lt counted some) h = h

    take-says : (message : Message) (e : Effect) → TakeRule node from message e → Says node from message e.letters
    take-says message e (take_request m lt counted mine) = (refl, refl, refl, tt)
    take-says message e (take_forward m lt asker counted managed accepted) = refl
    take-says message e (take_token m lt at news) = acts-silent [] _ tt
    take-says message e (take_arrive m before after at news is) = tt
    take-says message e (take_last_arrive m before after departures at news is) = departures-silent departures
    take-says message e (take_depart m d c) = acts-silent [] _ tt
    take-says message e (take_collect m d c unmet) = all_requests-silent (upkeep_at node m)
    take-says message e (take_collect_at_once m d c met) = (refl, refl, refl, tt)
    take-says message e (take_reply {memory = memory} {change = change} need b at unmet) = brings-says message memory change b [] tt
    take-says message e (take_last_reply {memory = memory} {change = change} need b at met) =
        brings-says message memory change b _ (acts-silent [] _ tt)
    take-says message e (take_kept_reply {memory = memory} {change = change} collection needs b at unmet) =
        brings-says message memory change b [] tt
    take-says message e (take_last_kept_reply {memory = memory} {change = change} collection needs b at met) =
        brings-says message memory change b _ (refl, refl, refl, tt)
    take-says message e (take_clean episode before after at is) = tt
    take-says message e (take_last_clean episode over before after at is) = discards-silent (range_with_len 0 node.setting.nodes) over
    take-says message e (take_discard episode collection by_manager at is) = acts-silent [] _ tt
    take-says message e (take_changes_request m lt all) = refl
    take-says message e (take_page_request page values lt other at) = (refl, refl, refl, tt)

  module _ (node : Node) (from : ℕ) (c : C node.locks.time) (collects : CollectsAt node.locks.time node.mail.wait) (h : Timely node.memory) where
    keeping-timely : (m : DepartRecord) → Timely (keeping node m).memory
    keeping-timely m =
        let now : Timely (learned node.locks.time m.intervals node.memory) = learned-timely node.locks.time m.intervals node.memory c h in
        record { collected = now.collected; since = now.since }

    take-timely : (message : Message) (e : Effect) → TakeRule node from message e → Timely e.node.memory
    take-timely message e (take_request m lt counted mine) = h
    take-timely message e (take_forward m lt asker counted managed accepted) = h
    take-timely message e (take_token m lt at news) =
        acts-timely [] _ node.course (learned-timely node.locks.time m.intervals node.memory c h)
    take-timely message e (take_arrive m before after at news is) = h
    take-timely message e (take_last_arrive m before after departures at news is) = h
    take-timely message e (take_depart m d is) =
        acts-timely [] _ node.course (learned-timely node.locks.time m.intervals node.memory c h)
    take-timely message e (take_collect m d is unmet) = keeping-timely m
    take-timely message e (take_collect_at_once m d is met) =
        clean-timely (upkeep_at node m) (collection_at node m).kept (keeping node m).memory (keeping-timely m)
    take-timely message e (take_reply {memory = memory} {change = change} need b at unmet) = brings-timely node from message memory change b h
    take-timely message e (take_last_reply {memory = memory} {change = change} need b at met) =
        acts-timely [] _ node.course (mends-timely (change need ∷ []) memory (brings-timely node from message memory change b h))
    take-timely message e (take_kept_reply {memory = memory} {change = change} collection needs b at unmet) =
        brings-timely node from message memory change b h
    take-timely message e (take_last_kept_reply {memory = memory} {change = change} collection needs b at met) =
        clean-timely (map change needs) collection.kept memory (brings-timely node from message memory change b h)
    take-timely message e (take_clean episode before after at is) = h
    take-timely message e (take_last_clean episode over before after at is) = h
    take-timely message e (take_discard episode collection by_manager at is) =
        acts-timely [] _ node.course
        (collected-timely node.setting.me collection.time node.memory (subst C (sym (subst (CollectsAt node.locks.time) at collects)) c))
    take-timely message e (take_changes_request m lt all) = h
    take-timely message e (take_page_request page values lt other at) = h

  -- ---- turns

  -- the memory after a turn, and what it sends, each message from its node
  pub record Turned (S : List Letter → Type 0) (turn : TurnRecord) (after : Node) : Type 0 where
    pub timely : Timely after.memory
    pub says : S (map letter_in turn.out)
    pub from : AllFrom after.setting.me turn.out

  sent-turned : (S : List Letter → Type 0) (e : Effect) (turn : TurnRecord) (after : Node) → Timely e.node.memory → S e.letters
      → IsSent e turn after → Turned S turn after
  sent-turned S e turn after h s (with_numbers out sent is) = record {
    timely = h;
    says = subst S (sym (sent-letters e _ _ (with_numbers out sent is))) s;
    from = sent-from e _ _ (with_numbers out sent is);
  }

  -- a node that goes on by itself
  pub run-turned : (node : Node) (turn : TurnRecord) (after : Node) → run_turn node ≡ done turn after → Timely node.memory
      → Turned (GoesSaying node) turn after
  run-turned node turn after is h =
      let t : Ran node turn after = ran node turn after is in
      sent-turned (GoesSaying node) t.effect turn after (run-timely node t.effect h t.rule) (run-says node t.effect t.rule) t.sent

  -- a node that takes a message
  pub took-turned : (node : Node) (e : EnvelopeRecord) (turn : TurnRecord) (after : Node) → Took node e turn after → C node.locks.time
      → CollectsAt node.locks.time node.mail.wait → Timely node.memory → Turned (Says node e.from e.message) turn after
  took-turned node e turn after t c at h =
      sent-turned (Says node e.from e.message) t.effect turn after (take-timely (taking node e) e.from c at h e.message t.effect t.rule)
      (same e.message (take-says (taking node e) e.from e.message t.effect t.rule)) t.sent
    where
      same : (message : Message) → Says (taking node e) e.from message t.effect.letters → Says node e.from message t.effect.letters
      same message s = s
