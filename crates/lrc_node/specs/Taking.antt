-- What a node has where it takes a message that it expects.
use Rattle.std.specs.Prelude.{ℕ, ◌≡◌, ◌≢◌, ◌<◌, ◌≤◌, IsTrue, Option, Some, AllPairs, false, [], ◌∷◌, length, option_map}
use Rattle.std.specs.Prelude.{option_and_then, unwrap_or, is_some}
use Rattle.lrc_time.specs.Time.{entry}
use Rattle.lrc_exec.specs.declared.machine.Ask.TheVariants.{Acquire, Barrier}
use Rattle.lrc_envelope.specs.declared.message.Message.{Message}
use Rattle.lrc_envelope.specs.declared.message.Message.TheVariants.{LockRequest, LockForward, LockGrant, Arrive, Depart, Clean, Discard}
use Rattle.lrc_envelope.specs.declared.message.Message.TheVariants.{ChangesRequest, ChangesReply, PageRequest, PageReply}
use Rattle.lrc_barrier.specs.Barrier.{IsArrival, is_accepted, is_clean}
use Rattle.lrc_lock.specs.Held.{is_awaited}
use Rattle.lrc_lock.specs.Held.{forwarded, lock_at, is_taken}
use Rattle.lrc_lock.specs.Lock.{manager_of}
use Rattle.lrc_memory.specs.Turns.{AreAwaited, CanBeAdded, NoneIsWritten}
use Rattle.lrc_protocol.specs.Pages.{changes_came, page_came}
use Rattle.lrc_protocol.specs.Barriers.{Collection, arrival_in, base_at}
use Rattle.lrc_protocol.specs.Node.{discard, needs_of, Node, Effect, collection_of, sends}
use Rattle.lrc_protocol.specs.Follows.{awaits_discard}
use Rattle.lrc_protocol.specs.Turn.{learns, with_needs, page_reply_by, take_page, passes_on, forward_by, take_grant, arrive_by, take_departure}
use Rattle.lrc_protocol.specs.Turn.{clean_by, discard_by, changes_reply_to, take_changes}
use Rattle.lrc_control.specs.Barrier.{arrive_step, clean_step}
use Rattle.lrc_node.specs.Effects.{CanGoOn, with_parts}
use Rattle.lrc_node.specs.Keeping.{CanCollect}
use Rattle.lrc_control.specs.Text.{asked_in}

-- a node that waits for the word to discard has nothing written, and collects up to a time that covers its own intervals
pub record CanDiscard (node : Node) : Type 0 where
  pub next : asked_in node.course ≡ Some Barrier
  pub waits : IsTrue (awaits_discard node.mail.wait)
  pub closed : NoneIsWritten node.memory
  pub time : (collection : Collection) → node.mail.wait ≡ discard collection
      → (length collection.time ≡ node.setting.nodes)
      × (entry node.memory.store.last node.setting.me ≤ entry collection.time node.setting.me)

abbrev pub CanTake : Node → ℕ → Message → Type 0
CanTake node from (LockRequest m) =
    (m.lock < node.setting.locks) × (manager_of node.locks.managed.nodes m.lock ≡ node.locks.managed.me)
CanTake node from (LockForward m) =
    (m.lock < node.setting.locks) × (m.asker < node.setting.nodes) × (length m.time ≡ node.setting.nodes)
    × IsTrue (is_taken (forwarded node.locks.held m.lock m.asker m.time))
CanTake node from (LockGrant m) =
    (m.lock < node.setting.locks) × IsTrue (is_awaited (lock_at node.locks.held m.lock)) × (asked_in node.course ≡ Some (Acquire m.lock))
    × (length m.time ≡ node.setting.nodes) × CanBeAdded node.memory.store m.intervals
CanTake node from (Arrive m) =
    IsTrue (unwrap_or (option_map is_accepted (arrive_step node.barrier from (arrival_in m))) false)
    × IsArrival node.setting.nodes from (arrival_in m)
CanTake node from (Depart m) =
    (asked_in node.course ≡ Some Barrier) × (length m.time ≡ node.setting.nodes) × CanBeAdded node.memory.store m.intervals
    × CanCollect (learns m.time m.intervals node)
CanTake node from (Clean episode) = IsTrue (unwrap_or (option_map is_clean (clean_step node.barrier from episode)) false)
CanTake node from (Discard episode) = CanDiscard node
CanTake node from (ChangesRequest m) = m.page < length node.memory.copies
CanTake node from (ChangesReply m) =
    AreAwaited node.options.size node.memory.store from m.page m.parts
    × CanGoOn (with_parts from m node) (with_needs (changes_came m.page from) node.mail.wait)
CanTake node from (PageRequest page) = (page < length node.memory.copies) × IsTrue (is_some (base_at node.memory page))
CanTake node from (PageReply m) =
    AllPairs (λ a b. a.page ≢ b.page) (needs_of node.mail.wait)
    × CanGoOn node (with_needs (page_came m.page m.values) node.mail.wait)

-- what a message does that the node expects
abbrev pub effect_of : Node → ℕ → Message → Option Effect
effect_of node from (LockRequest m) = Some (passes_on node from m)
effect_of node from (LockForward m) = forward_by node m.lock (forwarded node.locks.held m.lock m.asker m.time)
effect_of node from (LockGrant m) = Some (take_grant node m)
effect_of node from (Arrive m) = option_and_then (arrive_by node) (arrive_step node.barrier from (arrival_in m))
effect_of node from (Depart m) = Some (take_departure node m.collect m.time m.intervals)
effect_of node from (Clean episode) = option_and_then (clean_by node) (clean_step node.barrier from episode)
effect_of node from (Discard episode) = discard_by node (collection_of node.mail.wait)
effect_of node from (ChangesRequest m) = Some (sends (changes_reply_to node from m.page m.indices ∷ []) node)
effect_of node from (ChangesReply m) = Some (take_changes node from m)
effect_of node from (PageRequest page) = page_reply_by node from page (base_at node.memory page)
effect_of node from (PageReply m) = Some (take_page node m)
