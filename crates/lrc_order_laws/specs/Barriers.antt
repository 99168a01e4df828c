-- Where a node stands at the barrier, counted over the pending messages and what the manager keeps.
use Rattle.std.specs.Prelude.{◌≡◌, ℕ, ◌+◌, ◌==◌, ◌&&◌, Bool, true, false, cond, unwrap_or, option_map}
use Rattle.std.specs.Prelude.{Option, Some, None, List, length, count_by, slice_index_or}
use Rattle.lrc_envelope.specs.Envelope.{EnvelopeRecord}
use Rattle.lrc_envelope.specs.declared.message.Message.{Message}
use Rattle.lrc_envelope.specs.declared.message.Message.TheVariants.{Arrive, Depart, Clean, Discard}
use Rattle.lrc_envelope.specs.Records.{ArriveRecord}
use Rattle.lrc_barrier.specs.Barrier.{ManagerRecord, has_arrived, arrived, is_accepted}
use Rattle.lrc_trace.specs.declared.act.Act.{Act}
use Rattle.lrc_clock.specs.Times.{arrived_time}
use Rattle.lrc_protocol.specs.Barriers.{arrival_in}
use Rattle.lrc_protocol.specs.Node.{Node, Wait, nothing, grant, departure, access, upkeep, discard}

-- the manager is here and accepts the arrival
abbrev pub accepts_arrival : Node → ℕ → ArriveRecord → Bool
accepts_arrival node from m =
    unwrap_or (option_map is_accepted (option_map (λ manager. arrived manager from (arrival_in m)) node.barrier.manager)) false

-- ---- messages of barriers

abbrev pub says_arrive : Message → Bool
says_arrive (Arrive m) = true
says_arrive _ = false

abbrev pub says_depart : Message → Bool
says_depart (Depart m) = true
says_depart _ = false

abbrev pub says_clean : Message → Bool
says_clean (Clean episode) = true
says_clean _ = false

abbrev pub says_discard : Message → Bool
says_discard (Discard episode) = true
says_discard _ = false

-- a node's arrival; the departure of a node; its word that its copies are clean; and the word to it to discard
abbrev pub arrive_from : ℕ → EnvelopeRecord → Bool
arrive_from n e = says_arrive e.message && (e.from == n)

abbrev pub depart_to : ℕ → EnvelopeRecord → Bool
depart_to n e = says_depart e.message && (e.to == n)

abbrev pub clean_from : ℕ → EnvelopeRecord → Bool
clean_from n e = says_clean e.message && (e.from == n)

abbrev pub discard_to : ℕ → EnvelopeRecord → Bool
discard_to n e = says_discard e.message && (e.to == n)

-- ---- what the manager keeps

-- 1 where it keeps the node's arrival
abbrev pub kept_of : ManagerRecord → ℕ → ℕ
kept_of manager n = cond (has_arrived manager n) 1 0

-- 1 where it has noted that the node's copies are clean
abbrev pub noted_of : ManagerRecord → ℕ → ℕ
noted_of manager n = cond (unwrap_or (option_map (λ cleans. slice_index_or cleans n false) manager.cleans) false) 1 0

-- ---- where a node stands

-- 1 for who waits to depart, and 1 for who waits for the word to discard
abbrev pub awaits_depart : Wait → ℕ
awaits_depart departure = 1
awaits_depart _ = 0

abbrev pub awaits_word : Wait → ℕ
awaits_word (discard collection) = 1
awaits_word _ = 0

-- 1 for who fetches what the pages need that it keeps, in a collection
abbrev pub is_collecting : Wait → ℕ
is_collecting (upkeep collection needs) = 1
is_collecting _ = 0

-- A node has arrived as often as episodes are over, and once more where its arrival is on its way or kept. While it waits to
-- depart, and never else, just one of these is so: its arrival is on its way, or kept, or its departure is on its way. And
-- while it waits for the word to discard, and never else, just one of these: its word that its copies are clean is on its
-- way, or noted, or the word to discard is on its way.
pub record StandsAt (pending : List EnvelopeRecord) (manager : ManagerRecord) (n : ℕ) (wait : Wait) (episode : ℕ) : Type 0 where
  pub arrived : episode ≡ manager.done + (count_by (arrive_from n) pending + kept_of manager n)
  pub departs : count_by (arrive_from n) pending + kept_of manager n + count_by (depart_to n) pending ≡ awaits_depart wait
  pub discards : count_by (clean_from n) pending + noted_of manager n + count_by (discard_to n) pending ≡ awaits_word wait

-- ---- times

-- the time of the collection that a node is in
abbrev pub time_in : Wait → Option (List ℕ)
time_in nothing = None
time_in (grant lock) = None
time_in departure = None
time_in (access need) = None
time_in (upkeep collection needs) = Some collection.time
time_in (discard collection) = Some collection.time

-- with so many episodes over, the time is that of the newest: the join of the times at every node's arrive at it
pub record IsNewestTime (nodes : ℕ) (acts : List Act) (times : List (List ℕ)) (over : ℕ) (time : List ℕ) : Type 0 where
  pub number : ℕ
  pub newest : over ≡ number + 1
  pub joins : time ≡ arrived_time nodes acts times number (length acts)
