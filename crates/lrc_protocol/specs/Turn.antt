-- A turn: a node goes on by itself, or it takes a message. Below stands first what it does by itself (`run_effect`), then each
-- message with the condition where it is expected and what it does (`takes`), and at last how a turn is made of that: the letters of
-- an Effect get their numbers, which gives an Outcome. No effect means an interval's index too large where a node goes on by
-- itself, and "not expected" where it takes a message. A name that ends in _by goes on from what a step of a lower crate, or an
-- option, says. docs/protocol.md says it in two tables.
use Rattle.std.specs.Prelude.{[], ℕ, ◌&&◌, ◌++◌, ◌+◌, ◌-◌, ◌==◌, ◌∷◌, Bool, false, filter, flat_map, fold, if◌then◌else◌}
use Rattle.std.specs.Prelude.{is_some, length, List, map, nat_le, nat_lt, None, not, Option, option_and_then, option_map}
use Rattle.std.specs.Prelude.{slice_set, Some}
use Rattle.std.specs.Option.{option_to_list}
use Rattle.std.specs.List.{list_all, list_any, range_with_len}
use Rattle.lrc_trace.specs.Run.{act_of}
use Rattle.lrc_trace.specs.declared.act.Act.{Act}
use Rattle.lrc_time.specs.Time.{covers, entry}
use Rattle.lrc_page.specs.Page.{words_of}
use Rattle.lrc_page.specs.Place.{page_of, pages_of}
use Rattle.lrc_exec.specs.Meaning.{acquires, arrives, departs, Next, next_of, reads, releases, writes}
use Rattle.lrc_store.specs.Interval.{IntervalRecord}
use Rattle.lrc_store.specs.Store.{newer_of, notice_at}
use Rattle.lrc_envelope.specs.Envelope.{EnvelopeRecord}
use Rattle.lrc_envelope.specs.Records.{ChangesReplyRecord, ChangesRequestRecord, DepartRecord, IndexedChangesRecord}
use Rattle.lrc_envelope.specs.Records.{LockForwardRecord, LockGrantRecord, LockRequestRecord, PageReplyRecord}
use Rattle.lrc_envelope.specs.declared.message.Message.{Message}
use Rattle.lrc_envelope.specs.declared.message.Message.TheVariants.{Arrive, ChangesReply, ChangesRequest, Clean, Depart}
use Rattle.lrc_envelope.specs.declared.message.Message.TheVariants.{Discard, LockForward, LockGrant, LockRequest, PageReply}
use Rattle.lrc_envelope.specs.declared.message.Message.TheVariants.{PageRequest}
use Rattle.lrc_lock.specs.Held.{asked, forwarded, granted, held_after, is_free, is_taken, lock_at, LockStep, pass_of, released, taken}
use Rattle.lrc_lock.specs.Lock.{manager_of}
use Rattle.lrc_lock.specs.Managed.{recent_asker, with_asker}
use Rattle.lrc_lock.specs.declared.state.Pass.{Pass}
use Rattle.lrc_barrier.specs.Barrier.{arrived, ArriveStep, awaits, cleaned, CleanStep, departs as all_depart, discards}
use Rattle.lrc_barrier.specs.Barrier.{refuses as refuses_arrival, refuses_clean, waits}
use Rattle.lrc_barrier.specs.declared.departure.Departure.{Departure}
use Rattle.lrc_protocol.specs.Times.{are_between, MOST_NUMBER}
use Rattle.lrc_protocol.specs.Pages.{Asked, awaits_changes, awaits_page, Base, changes_or_none, copy_at, due, is_met, is_readable, learned}
use Rattle.lrc_protocol.specs.Pages.{repaired, Need, need_of, changes_came, with_interval, page_came, with_part}
use Rattle.lrc_protocol.specs.Locks.{ticked, with_managed, with_joined_time}
use Rattle.lrc_protocol.specs.Barriers.{arrival_in, base_at, clean_memory, after_collection, Collection, kept_pages, last_arrived, with_arrive}
use Rattle.lrc_protocol.specs.Barriers.{with_keepers, with_manager}
use Rattle.lrc_protocol.specs.Node.{access, acts, awaits_departure, awaits_grant, collection_of, cost_of, Course, departure, discard, Effect}
use Rattle.lrc_protocol.specs.Node.{ended, going, grant, is_idle, Letter, needs_of, Node, nothing, numbered, own_index, sends, trapped, upkeep}
use Rattle.lrc_protocol.specs.Node.{Wait, waiting, was_taken, with_barrier, with_locks, with_memory, with_taken, with_tokens}

-- ---- what comes of a turn

-- the act of a turn if it makes one, and what it sends, in order
pub record TurnRecord : Type 0 where
  pub act : Option Act
  pub out : List EnvelopeRecord

-- What comes of a turn: it is done; the node isn't ready to go on; it doesn't expect the message; or a number would be too
-- large.
pub data Outcome : Type 0 where
  done : TurnRecord → Node → Outcome
  not_ready : Outcome
  unexpected : Outcome
  worn : Outcome

-- ---- going on by itself

-- whether a node with so many steps left may begin this: the end of the text always, a departure never by itself
abbrev pub may_begin : ℕ → Next → Bool
may_begin left (departs after) = false
may_begin left next = nat_le (cost_of next) left

-- what a text that is at this begins, with so many steps left; none where it has stopped, or its steps are used
abbrev pub begins_of : ℕ → Course → Option Next
begins_of left (going thread) = if may_begin left (next_of thread) then Some (next_of thread) else None
begins_of left (trapped cause) = None
begins_of left ended = None

-- what the node begins if a Run names it; none where it waits, too
abbrev pub begins : Node → Option Next
begins node = if is_idle node.mail.wait then begins_of node.left node.course else None

-- the node with the steps fewer that it costs to begin this
abbrev pub charged : Node → Next → Node
charged node next = record node { left = node.left - cost_of next }

-- the node once its open interval is closed: its clock ticks, and the interval is stored with the new time as its stamp
abbrev pub after_close : Node → Node
after_close node =
    let locks = ticked node.setting.me node.locks in
    record node { locks = locks; memory = with_interval node.setting.me locks.time node.memory }

-- closes the open interval and goes on; none where its index would be too large
abbrev pub closing : Node → (Node → Effect) → Option Effect
closing node go = if nat_lt (own_index node) MOST_NUMBER then Some (go (after_close node)) else None

-- ---- an access: a hit, or a miss

-- a letter
abbrev pub letter : ℕ → Message → Letter
letter to message = record { to = to; message = message }

-- what is asked of makers
abbrev pub changes_request_of : ℕ → Asked → Letter
changes_request_of page asked = letter asked.maker (ChangesRequest (record { page = page; indices = asked.indices }))

-- what is asked of a keeper
abbrev pub page_request_of : ℕ → Base → List Letter
page_request_of page (due keeper) = letter keeper (PageRequest page) ∷ []
page_request_of page _ = []

-- the requests for a page: its keeper's first, then one for each maker, makers ascending
abbrev pub requests_of : Need → List Letter
requests_of need = page_request_of need.page need.base ++ map (changes_request_of need.page) need.asked

-- A miss: the letters go out, and the node waits for what the page needs; where all has come, and so no letter goes out, the page is
-- repaired and the access is made.
abbrev pub fetches : List Letter → Node → Need → Effect
fetches letters node need =
    if is_met need
    then acts letters (waiting nothing (with_memory node (repaired node.memory need)))
    else sends letters (waiting (access need) node)

-- a hit makes the access at once; a miss asks for what the page needs
abbrev pub reaches : Node → ℕ → Effect
reaches node page =
    if is_readable (copy_at node.memory page)
    then acts [] node
    else (let need = need_of node.setting.nodes node.memory page in fetches (requests_of need) node need)

-- ---- an acquire, a release, a barrier, and anything else

-- the request of a lock goes to its manager, with the node's time
abbrev pub request_of : Node → ℕ → Letter
request_of node lock =
    letter (manager_of node.setting.nodes lock) (LockRequest (record { lock = lock; time = node.locks.time }))

-- a grant carries the time of the last release here, and the intervals that it covers and the asker's time doesn't
abbrev pub grant_of : Node → Pass → Letter
grant_of node pass =
    letter pass.to (LockGrant (record { lock = pass.lock; time = pass.upto; intervals = newer_of node.memory.store pass.since pass.upto }))

-- the grant of a pass, if there is one
abbrev pub grants_of : Node → Option Pass → List Letter
grants_of node pass = map (grant_of node) (option_to_list pass)

-- a free token here is taken with no message; else the node asks the manager and waits
abbrev pub acquire_at : ℕ → Node → Effect
acquire_at lock node =
    if is_free (lock_at node.locks.held lock)
    then acts [] (with_tokens node (taken node.locks.held lock))
    else sends (request_of node lock ∷ []) (waiting (grant lock) (with_tokens node (asked node.locks.held lock)))

-- a release keeps the time with the token, or grants the lock to the successor
abbrev pub release_at : ℕ → Node → Effect
release_at lock node =
    let step = released node.locks.held lock node.locks.time in
    acts (grants_of node (pass_of step)) (with_tokens node (held_after node.locks.held lock step))

-- a node asks for a collection where so many intervals are stored as the options say
abbrev pub asks_for_collection : Node → Bool
asks_for_collection node =
    nat_le 1 node.options.collect && nat_le node.options.collect (length node.memory.store.entries)

-- the node's own intervals that it has not sent with an arrival
abbrev pub own_news : Node → List IntervalRecord
own_news node =
    newer_of node.memory.store (slice_set node.locks.time node.setting.me node.barrier.sent) node.locks.time

-- the arrival at the node's next episode goes to node 0, with the node's time and its own intervals since the one before
abbrev pub arrival_of : Node → ℕ → Letter
arrival_of node episode =
    letter 0 (Arrive (record { episode = episode; ask = asks_for_collection node; time = node.locks.time; intervals = own_news node }))

-- an arrival tells the manager, and waits for the departure
abbrev pub arrive_at : Node → Effect
arrive_at node =
    acts (arrival_of node (node.barrier.episode + 1) ∷ [])
    (waiting departure (with_barrier node (with_arrive (own_index node) node.barrier)))

-- the effect of what a thread does next; none where its interval's index would be too large. A trap closes nothing.
abbrev pub run_effect : Node → Next → Option Effect
run_effect node (reads word after) = Some (reaches node (page_of word node.options.size))
run_effect node (writes word value after) = Some (reaches node (page_of word node.options.size))
run_effect node (acquires lock after) = closing node (acquire_at lock)
run_effect node (releases lock after) = closing node (release_at lock)
run_effect node (arrives after) = closing node arrive_at
run_effect node _ = Some (acts [] node)

-- ---- a message in range, and news

-- a time has an entry for each node
abbrev pub is_time : Node → List ℕ → Bool
is_time node time = length time == node.setting.nodes

-- one of the nodes, one of the locks, one of the pages
abbrev pub is_node : Node → ℕ → Bool
is_node node other = nat_lt other node.setting.nodes

abbrev pub is_lock : Node → ℕ → Bool
is_lock node lock = nat_lt lock node.setting.locks

abbrev pub is_page : Node → ℕ → Bool
is_page node page = nat_lt page (pages_of node.setting.words node.options.size)

-- an interval of one of the nodes, with a stamp of as many entries, that names such pages
abbrev pub is_interval : Node → IntervalRecord → Bool
is_interval node i = is_node node i.node && is_time node i.stamp && list_all (is_page node) i.pages

-- changes of words of a page
abbrev pub are_changes : Node → IndexedChangesRecord → Bool
are_changes node part = list_all (λ change. nat_lt change.offset (words_of node.options.size)) part.changes

-- a time and intervals in range, where the time covers each stamp
abbrev pub is_news_in_range : Node → List ℕ → List IntervalRecord → Bool
is_news_in_range node time intervals =
    is_time node time && list_all (is_interval node) intervals && list_all (λ i. covers time i.stamp) intervals

-- news that a node can learn: for each node the intervals are exactly those above this node's time and up to the time
-- that comes, which has no more of this node than the node itself
abbrev pub is_learnable : Node → List ℕ → List IntervalRecord → Bool
is_learnable node time intervals =
    is_news_in_range node time intervals
    && list_all (λ q. are_between intervals q (entry node.locks.time q) (entry time q)) (range_with_len 0 node.setting.nodes)
    && nat_le (entry time node.setting.me) (entry node.locks.time node.setting.me)

-- the node learns news: intervals are stored, the pages that they name become invalid, and the times are joined
abbrev pub learns : List ℕ → List IntervalRecord → Node → Node
learns time intervals node = record node {
  locks = with_joined_time time node.locks;
  memory = learned node.locks.time intervals node.memory;
}

-- an effect where a condition holds; else there is none: what came is not expected
abbrev pub given : Bool → Option Effect → Option Effect
given condition effect = if condition then effect else None

-- ---- LockRequest, LockForward, LockGrant

-- the manager passes a request on
abbrev pub forward_to : ℕ → ℕ → ℕ → List ℕ → Letter
forward_to to lock asker time = letter to (LockForward (record { lock = lock; asker = asker; time = time }))

-- LockRequest is expected where this node manages the lock,
abbrev pub expects_request : Node → LockRequestRecord → Bool
expects_request node m = is_lock node m.lock && is_time node m.time && (manager_of node.setting.nodes m.lock == node.setting.me)

-- and goes on to who asked last (`requested` of the crate of locks, the manager being here)
abbrev pub passes_on : Node → ℕ → LockRequestRecord → Effect
passes_on node from m =
    sends (forward_to (recent_asker node.locks.managed m.lock) m.lock from m.time ∷ [])
    (with_locks node (with_managed (with_asker node.locks.managed m.lock from) node.locks))

-- LockForward is expected where its sender manages the lock,
abbrev pub expects_forward : Node → ℕ → LockForwardRecord → Bool
expects_forward node from m =
    is_lock node m.lock && is_node node m.asker && is_time node m.time && (manager_of node.setting.nodes m.lock == from)

-- the token is here or awaited, without a successor, and the asker is another node: the lock is granted at once, with the time of
-- the last release here, or the asker is kept as successor
abbrev pub forward_by : Node → ℕ → LockStep → Option Effect
forward_by node lock step =
    given (is_taken step) (Some (sends (grants_of node (pass_of step)) (with_tokens node (held_after node.locks.held lock step))))

-- LockGrant is expected where this node awaits that lock, and can learn the news;
abbrev pub expects_grant : Node → LockGrantRecord → Bool
expects_grant node m = is_lock node m.lock && awaits_grant m.lock node.mail.wait && is_learnable node m.time m.intervals

-- it brings the token and news, and the acquire is made (who awaits a lock's grant has asked for its token, so that
-- `granted` is no refusal here)
abbrev pub take_grant : Node → LockGrantRecord → Effect
take_grant node m =
    acts []
    (waiting nothing
    (learns m.time m.intervals (with_tokens node (held_after node.locks.held m.lock (granted node.locks.held m.lock)))))

-- ---- Arrive, Depart

-- Arrive is expected where its intervals are the sender's own, exactly from one past the last that the manager has of it,
abbrev pub are_arriving : Node → ℕ → List ℕ → List IntervalRecord → Bool
are_arriving node from time intervals =
    is_news_in_range node time intervals
    && list_all (λ interval. interval.node == from) intervals
    && are_between intervals from (last_arrived node.barrier from) (entry time from)

-- what a departure says to its node
abbrev pub departure_of : Departure → Letter
departure_of d =
    letter d.to (Depart (record { episode = d.episode; collect = d.collect; time = d.time; intervals = d.intervals }))

-- and the manager accepts it: it is kept, and with the last one each node is told to depart
abbrev pub arrive_by : Node → ArriveStep → Option Effect
arrive_by node (refuses_arrival fault) = None
arrive_by node (waits manager) = Some (sends [] (with_barrier node (with_manager manager node.barrier)))
arrive_by node (all_depart departures manager) =
    Some (sends (map departure_of departures) (with_barrier node (with_manager manager node.barrier)))

-- Depart is expected from node 0, for the episode from which this node awaits to depart, where its time covers the node's and
-- the node can learn the news
abbrev pub expects_departure : Node → ℕ → DepartRecord → Bool
expects_departure node from m =
    (from == 0) && awaits_departure node.mail.wait && (m.episode == node.barrier.episode)
    && covers m.time node.locks.time && is_learnable node m.time m.intervals

-- what the pages need that a node keeps, where their copies are not readable
abbrev pub needs_of_kept : Node → List ℕ → List Need
needs_of_kept node kept =
    map (need_of node.setting.nodes node.memory) (filter (λ page. not (is_readable (copy_at node.memory page))) kept)

-- all has come: the pages that the node keeps are repaired, it keeps base copies of them, tells node 0, and waits for the word to
-- discard
abbrev pub cleans : Node → Collection → List Need → Effect
cleans node collection needs =
    sends (letter 0 (Clean node.barrier.episode) ∷ [])
    (waiting (discard collection) (with_memory node (clean_memory needs collection.kept node.memory)))

-- Upkeep in a collection: the letters go out, and the node waits for what the pages need that it keeps; where all has come it
-- cleans.
abbrev pub keeps_up : List Letter → Node → Collection → List Need → Effect
keeps_up letters node collection needs =
    if list_all is_met needs
    then cleans node collection needs
    else sends letters (waiting (upkeep collection needs) node)

-- a collection begins at a node: pages that were named get new keepers, and each node fetches what those that it keeps lack
abbrev pub collects : List ℕ → Node → Effect
collects time node =
    let keeping = with_memory node (with_keepers node.memory) in
    let kept = kept_pages node.setting.me keeping.memory in
    let needs = needs_of_kept keeping kept in
    keeps_up (flat_map requests_of needs) keeping (record { time = time; kept = kept }) needs

-- the departure brings news, and the depart is made, or first a collection
abbrev pub take_departure : Node → Bool → List ℕ → List IntervalRecord → Effect
take_departure node collect time intervals =
    let knowing = learns time intervals node in
    if collect then collects time knowing else acts [] (waiting nothing knowing)

-- ---- Clean, Discard

-- one word to discard for each of these nodes
abbrev pub discards_to : List ℕ → ℕ → List Letter
discards_to nodes episode = map (λ to. letter to (Discard episode)) nodes

-- Clean is expected where the manager accepts it: it is noted, and with the last one each node is told to discard
abbrev pub clean_by : Node → CleanStep → Option Effect
clean_by node (refuses_clean fault) = None
clean_by node (awaits manager) = Some (sends [] (with_barrier node (with_manager manager node.barrier)))
clean_by node (discards episode manager) =
    Some (sends (discards_to (range_with_len 0 node.setting.nodes) episode) (with_barrier node (with_manager manager node.barrier)))

-- Discard is expected from node 0, for the episode of the collection for which this node has sent its Clean: the node drops
-- what was collected, and the depart is made
abbrev pub discard_by : Node → Option Collection → Option Effect
discard_by node None = None
discard_by node (Some collection) =
    Some (acts [] (waiting nothing (with_memory node (after_collection node.setting.me collection.time node.memory))))

-- ---- ChangesRequest, ChangesReply

-- ChangesRequest is expected where each index is of a stored interval of this node that names the page,
abbrev pub expects_changes_request : Node → ChangesRequestRecord → Bool
expects_changes_request node m =
    is_page node m.page
    && list_all (λ index. is_some (notice_at node.memory.store (record { node = node.setting.me; index = index; page = m.page }))) m.indices

-- what the node's own interval of this index changed in a page
abbrev pub own_part : Node → ℕ → ℕ → IndexedChangesRecord
own_part node page index = record {
  index = index;
  changes = changes_or_none node.memory.store (record { node = node.setting.me; index = index; page = page });
}

-- and these go to who asks
abbrev pub changes_reply_to : Node → ℕ → ℕ → List ℕ → Letter
changes_reply_to node to page indices =
    letter to (ChangesReply (record {
      page = page;
      parts = map (own_part node page) indices;
    }))

-- what is awaited, once something came for what pages need
abbrev pub with_needs : (Need → Need) → Wait → Wait
with_needs change (access need) = access (change need)
with_needs change (upkeep collection needs) = upkeep collection (map change needs)
with_needs change wait = wait

-- A reply: the node that waits for it goes on, or waits for what is still to come. The wait is the node's own, with what came noted in
-- it; no reply is expected in another wait than these two.
abbrev pub takes_reply : Node → Wait → Effect
takes_reply node (access need) = fetches [] node need
takes_reply node (upkeep collection needs) = keeps_up [] node collection needs
takes_reply node wait = sends [] (waiting wait node)

-- ChangesReply is expected where just these changes of that page are awaited from its sender, of offsets on a page:
abbrev pub expects_changes_reply : Node → ℕ → ChangesReplyRecord → Bool
expects_changes_reply node from m =
    is_page node m.page
    && list_all (are_changes node) m.parts
    && list_any (awaits_changes m.page from (map (λ part. part.index) m.parts)) (needs_of node.mail.wait)

-- they are stored with their notices
abbrev pub take_changes : Node → ℕ → ChangesReplyRecord → Effect
take_changes node from m =
    let memory = record node.memory { store = fold (with_part from m.page) node.memory.store m.parts } in
    takes_reply (with_memory node memory) (with_needs (changes_came m.page from) node.mail.wait)

-- ---- PageRequest, PageReply

-- PageRequest is expected from another node,
abbrev pub expects_page_request : Node → ℕ → ℕ → Bool
expects_page_request node from page = is_page node page && not (from == node.setting.me)

-- the reply to a request of a base copy
abbrev pub page_reply_to : ℕ → ℕ → List ℕ → Letter
page_reply_to to page values = letter to (PageReply (record { page = page; values = values }))

-- where a base copy of the page is kept here, which goes to who asks
abbrev pub page_reply_by : Node → ℕ → ℕ → Option (List ℕ) → Option Effect
page_reply_by node from page None = None
page_reply_by node from page (Some values) = Some (sends (page_reply_to from page values ∷ []) node)

-- PageReply is expected where that page is awaited from its sender, and it has a value for each word:
abbrev pub expects_page_reply : Node → ℕ → PageReplyRecord → Bool
expects_page_reply node from m =
    is_page node m.page && (length m.values == words_of node.options.size)
    && list_any (awaits_page m.page from) (needs_of node.mail.wait)

-- it is kept until the page is repaired
abbrev pub take_page : Node → PageReplyRecord → Effect
take_page node m = takes_reply node (with_needs (page_came m.page m.values) node.mail.wait)

-- ---- each kind of message

-- what a node does with a message from a node, also from itself; none where it does not expect it
abbrev pub takes : Node → ℕ → Message → Option Effect
takes node from (LockRequest m) = given (expects_request node m) (Some (passes_on node from m))
takes node from (LockForward m) = given (expects_forward node from m) (forward_by node m.lock (forwarded node.locks.held m.lock m.asker m.time))
takes node from (LockGrant m) = given (expects_grant node m) (Some (take_grant node m))
takes node from (Arrive m) =
    given (are_arriving node from m.time m.intervals)
    (option_and_then (λ manager. arrive_by node (arrived manager from (arrival_in m))) node.barrier.manager)
takes node from (Depart m) = given (expects_departure node from m) (Some (take_departure node m.collect m.time m.intervals))
takes node from (Clean episode) = option_and_then (λ manager. clean_by node (cleaned manager from episode)) node.barrier.manager
takes node from (Discard episode) =
    given ((from == 0) && (episode == node.barrier.episode)) (discard_by node (collection_of node.mail.wait))
takes node from (ChangesRequest m) = given (expects_changes_request node m) (Some (sends (changes_reply_to node from m.page m.indices ∷ []) node))
takes node from (ChangesReply m) = given (expects_changes_reply node from m) (Some (take_changes node from m))
takes node from (PageRequest page) = given (expects_page_request node from page) (page_reply_by node from page (base_at node.memory page))
takes node from (PageReply m) = given (expects_page_reply node from m) (Some (take_page node m))

-- ---- turns

-- the node once so many messages were sent
abbrev pub with_sent : Node → List ℕ → Node
with_sent node sent = record node { mail = record node.mail { sent = sent } }

-- the turn of an effect whose letters have numbers
abbrev pub turn_with : Effect → Option (List EnvelopeRecord × List ℕ) → Outcome
turn_with effect None = worn
turn_with effect (Some (envelopes, sent)) =
    done
    (record { act = option_map (act_of effect.node.setting.me) effect.deed; out = envelopes })
    (with_sent effect.node sent)

-- the turn of an effect
abbrev pub turn_of : Effect → Outcome
turn_of effect =
    let node = effect.node in
    turn_with effect (numbered node.setting.me node.options.first node.mail.sent effect.letters)

-- the turn of an effect, and this where there is none
abbrev pub turn_or : Outcome → Option Effect → Outcome
turn_or otherwise None = otherwise
turn_or otherwise (Some effect) = turn_of effect

-- the turn of a node that begins this; there is no effect where an index would be too large
abbrev pub turn_by : Node → Option Next → Outcome
turn_by node None = not_ready
turn_by node (Some next) = turn_or worn (run_effect (charged node next) next)

-- the node goes on by itself
abbrev pub run_turn : Node → Outcome
run_turn node = turn_by node (begins node)

-- whether the node would go on if a Run named it
abbrev pub is_ready : Node → Bool
is_ready node = is_some (begins node)

-- the empty turn
abbrev pub empty_turn : TurnRecord
empty_turn = record { act = None; out = [] }

-- the message is for this node, and from one of the nodes
abbrev pub is_addressed : Node → EnvelopeRecord → Bool
is_addressed node envelope = (envelope.to == node.setting.me) && nat_lt envelope.from node.setting.nodes

-- the message was taken here before: its sender's number was
abbrev pub is_repeat : Node → EnvelopeRecord → Bool
is_repeat node envelope = was_taken node.mail envelope.from envelope.number

-- the node with the number of a message taken
abbrev pub taking : Node → EnvelopeRecord → Node
taking node envelope = record node { mail = with_taken envelope.from envelope.number node.mail }

-- the node takes a message that it hasn't taken before; where there is no effect it does not expect it
abbrev pub take_anew : Node → EnvelopeRecord → Outcome
take_anew node envelope = turn_or unexpected (takes (taking node envelope) envelope.from envelope.message)

-- the node takes a message; a repeat is an empty turn
abbrev pub take_turn : Node → EnvelopeRecord → Outcome
take_turn node envelope =
    if is_addressed node envelope
    then (if is_repeat node envelope then done empty_turn node else take_anew node envelope)
    else unexpected
