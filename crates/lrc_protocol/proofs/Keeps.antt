-- What every effect leaves as it was: the setting, the options, the counts of messages sent, and a text that moves on by
-- its own next deed, or not at all.
use Rattle.std.proofs.Common.{◌≡◌, ℕ, List, [], Bool, true, false, refl, sym, subst}
use Rattle.std.specs.Prelude.{◌==◌, ◌&&◌, Option, Some, None, option_and_then, nat_lt, if◌then◌else◌, flat_map, fold}
use Rattle.std.specs.List.{list_all}
use Rattle.lrc_trace.specs.declared.act.Deed.{Deed}
use Rattle.lrc_exec.specs.Meaning.{Setting, Thread, Next, quiet, prints, reads, writes, acquires, releases, arrives, departs, traps, ends, next_of}
use Rattle.lrc_envelope.specs.declared.message.Message.{Message}
use Rattle.lrc_envelope.specs.declared.message.Message.TheVariants.{LockRequest, LockForward, LockGrant, Arrive, Depart, Clean, Discard}
use Rattle.lrc_envelope.specs.declared.message.Message.TheVariants.{ChangesRequest, ChangesReply, PageRequest, PageReply}
use Rattle.lrc_lock.specs.Held.{LockStep, refuses, stays as stays_here, passes, forwarded, lock_at, is_free}
use Rattle.lrc_barrier.specs.Barrier.{ManagerRecord, ArriveStep, refuses as refuses_arrival, waits, departs as all_depart, arrived, CleanStep}
use Rattle.lrc_barrier.specs.Barrier.{refuses_clean, awaits, discards, cleaned}
use Rattle.lrc_exec.specs.Follows.{Goes, quietly, printing, reading, writing, acquiring, releasing, arriving, departing, trapping, ending}
use Rattle.lrc_protocol.specs.Times.{MOST_NUMBER}
use Rattle.lrc_protocol.specs.Pages.{is_readable, copy_at, Need, need_of, is_met, changes_came, page_came, with_part}
use Rattle.lrc_protocol.specs.Barriers.{arrival_in, kept_pages, with_keepers, base_at, Collection}
use Rattle.lrc_protocol.specs.Node.{Letter, Wait, nothing, grant, departure, access, upkeep, discard, collection_of, Course, going, trapped}
use Rattle.lrc_protocol.specs.Node.{ended, deed_of, course_of, Node, OptionsRecord, Effect, sends, acts, acts_by, value_read}
use Rattle.lrc_protocol.specs.Follows.{thread_of}
use Rattle.lrc_protocol.specs.Node.{with_memory, waiting, own_index}
use Rattle.lrc_protocol.specs.Turn.{requests_of, fetches, keeps_up, takes_reply, with_needs, after_close, closing, reaches, acquire_at, release_at, arrive_at}
use Rattle.lrc_protocol.specs.Turn.{run_effect, learns, given, expects_request, expects_forward, forward_by, expects_grant, are_arriving, arrive_by}
use Rattle.lrc_protocol.specs.Turn.{expects_departure, needs_of_kept, collects, clean_by, discard_by, expects_changes_request, expects_changes_reply}
use Rattle.lrc_protocol.specs.Turn.{expects_page_request, page_reply_by, expects_page_reply, takes}
use Rattle.lrc_page.specs.Place.{page_of}

-- a text stays where it is, or moves on by its next deed
pub data Moves : Course → Option Deed → Course → Type 0 where
  stays : {c : Course} → Moves c None c
  goes : {t : Thread} {d : Deed} {c : Course} → Goes (next_of t) d (thread_of c) → Moves (going t) (Some d) c

pub record Keeps (s : Setting) (o : OptionsRecord) (sent : List ℕ) (c : Course) (e : Effect) : Type 0 where
  pub setting : e.node.setting ≡ s
  pub options : e.node.options ≡ o
  pub sent_before : e.node.mail.sent ≡ sent
  pub course : Moves c e.deed e.node.course

abbrev pub Kept : Node → Effect → Type 0
Kept node e = Keeps node.setting node.options node.mail.sent node.course e

abbrev pub KeptIf : Node → Option Effect → Type 0
KeptIf node None = Unit {0}
KeptIf node (Some e) = Kept node e

-- what a thread does next is its deed
goes_on : (v : ℕ) (next : Next) → Goes next (deed_of v next) (thread_of (course_of v next))
goes_on v (quiet after) = quietly
goes_on v (prints printed after) = printing
goes_on v (reads word after) = reading
goes_on v (writes word written after) = writing
goes_on v (acquires lock after) = acquiring
goes_on v (releases lock after) = releasing
goes_on v (arrives after) = arriving
goes_on v (departs after) = departing
goes_on v (traps cause) = trapping
goes_on v ends = ending

sends-keeps : (letters : List Letter) (node : Node) → Kept node (sends letters node)
sends-keeps letters node = record { setting = refl; options = refl; sent_before = refl; course = stays }

acts_by-keeps : (letters : List Letter) (node : Node) (c : Course) → node.course ≡ c → Kept node (acts_by letters node c)
acts_by-keeps letters node (going t) e =
    let v = value_read node (next_of t) in
    record {
      setting = refl;
      options = refl;
      sent_before = refl;
      course = subst (λ c. Moves c (Some (deed_of v (next_of t))) (course_of v (next_of t))) (sym e) (goes (goes_on v (next_of t)));
    }
acts_by-keeps letters node (trapped cause) e = sends-keeps letters node
acts_by-keeps letters node ended e = sends-keeps letters node

acts-keeps : (letters : List Letter) (node : Node) → Kept node (acts letters node)
acts-keeps letters node = acts_by-keeps letters node node.course refl

either : (node : Node) (b : Bool) (x y : Effect) → Kept node x → Kept node y → Kept node (if b then x else y)
either node true x y k l = k
either node false x y k l = l

optional : (node : Node) (b : Bool) (x : Effect) → Kept node x → KeptIf node (if b then Some x else None)
optional node true x k = k
optional node false x k = tt

fetches-keeps : (letters : List Letter) (node : Node) (need : Need) → Kept node (fetches letters node need)
fetches-keeps letters node need = either node (is_met need) _ _ (acts-keeps letters _) (sends-keeps letters _)

keeps_up-keeps : (letters : List Letter) (node : Node) (collection : Collection) (needs : List Need)
    → Kept node (keeps_up letters node collection needs)
keeps_up-keeps letters node collection needs = either node (list_all is_met needs) _ _ (sends-keeps _ _) (sends-keeps letters _)

takes_reply-keeps : (node : Node) (wait : Wait) → Kept node (takes_reply node wait)
takes_reply-keeps node (access need) = fetches-keeps [] node need
takes_reply-keeps node (upkeep collection needs) = keeps_up-keeps [] node collection needs
takes_reply-keeps node nothing = sends-keeps [] _
takes_reply-keeps node (grant lock) = sends-keeps [] _
takes_reply-keeps node departure = sends-keeps [] _
takes_reply-keeps node (discard collection) = sends-keeps [] _

-- ---- what a node does by itself

closing-keeps : (node : Node) (go : Node → Effect) → ((m : Node) → Kept m (go m)) → KeptIf node (closing node go)
closing-keeps node go k = optional node (nat_lt (own_index node) MOST_NUMBER) (go (after_close node)) (k (after_close node))

reaches-keeps : (node : Node) (page : ℕ) → Kept node (reaches node page)
reaches-keeps node page =
    let need : Need = need_of node.setting.nodes node.memory page in
    either node (is_readable (copy_at node.memory page)) _ _ (acts-keeps [] node) (fetches-keeps (requests_of need) node need)

acquire-keeps : (lock : ℕ) (node : Node) → Kept node (acquire_at lock node)
acquire-keeps lock node = either node (is_free (lock_at node.locks.held lock)) _ _ (acts-keeps [] _) (sends-keeps _ _)

pub run-keeps : (node : Node) (next : Next) → KeptIf node (run_effect node next)
run-keeps node (quiet after) = acts-keeps [] node
run-keeps node (prints value after) = acts-keeps [] node
run-keeps node (reads word after) = reaches-keeps node (page_of word node.options.size)
run-keeps node (writes word value after) = reaches-keeps node (page_of word node.options.size)
run-keeps node (acquires lock after) = closing-keeps node (acquire_at lock) (acquire-keeps lock)
run-keeps node (releases lock after) = closing-keeps node (release_at lock) (λ m. acts-keeps _ _)
run-keeps node (arrives after) = closing-keeps node arrive_at (λ m. acts-keeps _ _)
run-keeps node (departs after) = acts-keeps [] node
run-keeps node (traps cause) = acts-keeps [] node
run-keeps node ends = acts-keeps [] node

-- ---- what a node does with a message

forward-keeps : (node : Node) (lock : ℕ) (step : LockStep) → KeptIf node (forward_by node lock step)
forward-keeps node lock (refuses fault) = tt
forward-keeps node lock (stays_here state) = sends-keeps [] _
forward-keeps node lock (passes pass) = sends-keeps _ _

arrive-keeps : (node : Node) (step : ArriveStep) → KeptIf node (arrive_by node step)
arrive-keeps node (refuses_arrival fault) = tt
arrive-keeps node (waits manager) = sends-keeps [] _
arrive-keeps node (all_depart departures manager) = sends-keeps _ _

clean-keeps : (node : Node) (step : CleanStep) → KeptIf node (clean_by node step)
clean-keeps node (refuses_clean fault) = tt
clean-keeps node (awaits manager) = sends-keeps [] _
clean-keeps node (discards episode manager) = sends-keeps _ _

at_manager-keeps : (node : Node) (step : ManagerRecord → Option Effect) → ((manager : ManagerRecord) → KeptIf node (step manager))
    → (o : Option ManagerRecord) → KeptIf node (option_and_then step o)
at_manager-keeps node step k None = tt
at_manager-keeps node step k (Some manager) = k manager

discard-keeps : (node : Node) (c : Option Collection) → KeptIf node (discard_by node c)
discard-keeps node None = tt
discard-keeps node (Some collection) = acts-keeps [] _

reply-keeps : (node : Node) (from page : ℕ) (base : Option (List ℕ)) → KeptIf node (page_reply_by node from page base)
reply-keeps node from page None = tt
reply-keeps node from page (Some values) = sends-keeps _ node

given-keeps : (node : Node) (condition : Bool) (o : Option Effect) → KeptIf node o → KeptIf node (given condition o)
given-keeps node true o k = k
given-keeps node false o k = tt

collects-keeps : (time : List ℕ) (node : Node) → Kept node (collects time node)
collects-keeps time node =
    let keeping : Node = with_memory node (with_keepers node.memory) in
    let kept : List ℕ = kept_pages node.setting.me keeping.memory in
    let needs : List Need = needs_of_kept keeping kept in
    keeps_up-keeps (flat_map requests_of needs) keeping (record { time = time; kept = kept }) needs

pub take-keeps : (node : Node) (from : ℕ) (message : Message) → KeptIf node (takes node from message)
take-keeps node from (LockRequest m) = given-keeps node (expects_request node m) _ (sends-keeps _ _)
take-keeps node from (LockForward m) =
    given-keeps node (expects_forward node from m) _ (forward-keeps node m.lock (forwarded node.locks.held m.lock m.asker m.time))
take-keeps node from (LockGrant m) = given-keeps node (expects_grant node m) _ (acts-keeps [] _)
take-keeps node from (Arrive m) =
    given-keeps node (are_arriving node from m.time m.intervals) _
    (at_manager-keeps node _ (λ manager. arrive-keeps node (arrived manager from (arrival_in m))) node.barrier.manager)
take-keeps node from (Depart m) =
    let knowing : Node = learns m.time m.intervals node in
    given-keeps node (expects_departure node from m) _
    (either node m.collect _ _ (collects-keeps m.time knowing) (acts-keeps [] (waiting nothing knowing)))
take-keeps node from (Clean episode) =
    at_manager-keeps node _ (λ manager. clean-keeps node (cleaned manager from episode)) node.barrier.manager
take-keeps node from (Discard episode) =
    given-keeps node ((from == 0) && (episode == node.barrier.episode)) _ (discard-keeps node (collection_of node.mail.wait))
take-keeps node from (ChangesRequest m) = given-keeps node (expects_changes_request node m) _ (sends-keeps _ node)
take-keeps node from (ChangesReply m) =
    given-keeps node (expects_changes_reply node from m) _
    (takes_reply-keeps
    (with_memory node (record node.memory { store = fold (with_part from m.page) node.memory.store m.parts }))
    (with_needs (changes_came m.page from) node.mail.wait))
take-keeps node from (PageRequest page) = given-keeps node (expects_page_request node from page) _ (reply-keeps node from page (base_at node.memory page))
take-keeps node from (PageReply m) =
    given-keeps node (expects_page_reply node from m) _ (takes_reply-keeps node (with_needs (page_came m.page m.values) node.mail.wait))
