-- What a turn does to a node's memory, its time and what it waits for, in two parts: first what comes of the input, with what
-- came of which message; then pages are mended or clean, the text goes on, and a word may be written.
use Rattle.std.proofs.Common.{◌≡◌, ℕ, ◌<◌, List, [], true, false, length, refl, sym, ap, subst}
use Rattle.std.specs.Prelude.{Some, fold, map}
use Rattle.std.specs.List.{list_all}
use Rattle.std.proofs.lemmas.Option.{same_Some}
use Rattle.lrc_time.specs.Time.{covers, joined}
use Rattle.lrc_exec.specs.Meaning.{Thread, Next, quiet, prints, reads, writes, acquires, releases, arrives, departs, traps, ends, next_of}
use Rattle.lrc_store.specs.Interval.{IntervalRecord}
use Rattle.lrc_envelope.specs.Envelope.{EnvelopeRecord}
use Rattle.lrc_envelope.specs.Records.{DepartRecord, ChangesReplyRecord, PageReplyRecord}
use Rattle.lrc_envelope.specs.declared.message.Message.{Message}
use Rattle.lrc_envelope.specs.declared.message.Message.TheVariants.{LockGrant, Depart, PageReply}
use Rattle.lrc_barrier.specs.Barrier.{ManagerRecord}
use Rattle.lrc_protocol.specs.Times.{next_time}
use Rattle.lrc_protocol.specs.Pages.{is_readable, Memory, copy_at, with_written_word, with_interval, learned, Need, need_of, is_met, repaired}
use Rattle.lrc_protocol.specs.Pages.{changes_came, page_came, with_part}
use Rattle.lrc_protocol.specs.Barriers.{with_keepers, after_collection, Collection, clean_memory, arrival_in}
use Rattle.lrc_protocol.specs.Node.{Letter, Wait, nothing, grant, departure, access, upkeep, discard, needs_of, Course, going, trapped, ended}
use Rattle.lrc_protocol.specs.Node.{Node, Effect, makes, acts, acts_by, with_memory, waiting}
use Rattle.lrc_protocol.specs.Turn.{with_needs, charged, TurnRecord, Outcome, done, not_ready, unexpected, worn, taking, is_repeat}
use Rattle.lrc_protocol.specs.Follows.{is_expected}
use Rattle.lrc_protocol.specs.Run.{Input, run, taken as taken_in, outcome_of}
use Rattle.lrc_protocol.specs.Rules.{take_request, IsReadyFor, AccessesNext, IsDepartureDue, Brings as Replies, brings_changes, brings_base_copy}
use Rattle.lrc_protocol.specs.Rules.{page_at, need_at, keeping, collection_at, upkeep_at, RunRule, run_hit, run_miss, run_repair, run_acquire}
use Rattle.lrc_protocol.specs.Rules.{run_ask, run_release, run_barrier, run_other, TakeRule, take_forward, take_token, take_arrive}
use Rattle.lrc_protocol.specs.Rules.{take_last_arrive, take_depart, take_collect, take_collect_at_once, take_reply, take_last_reply}
use Rattle.lrc_protocol.specs.Rules.{take_kept_reply, take_last_kept_reply, take_clean, take_last_clean, take_discard, take_changes_request}
use Rattle.lrc_protocol.specs.Rules.{take_page_request, IsSent, with_numbers, TurnRule, by_run, by_repeat, by_message}
use Rattle.lrc_protocol.proofs.Ruled.{RuledIf, ruled}
use Rattle.lrc_protocol.proofs.Allowed.{expected_by_rule}
use Rattle.lrc_protocol.specs.Node.{next_in}
use Rattle.lrc_order_laws.proofs.TextHolds.{TextIs}
use Rattle.lrc_order_laws.proofs.Sends.{Came, by_itself, comes}
use Rattle.lrc_order_laws.proofs.Shift.{next-ready}
use Rattle.lrc_node_laws.specs.Needs.{page_next}
use Rattle.lrc_node_laws.proofs.ByRules.{access-in_range, access-reaches}
use Rattle.lrc_node_laws.proofs.Managers.{arrival-many, clean-many}
use Rattle.lrc_node_laws.proofs.Change.{View, Walk, goes, News, Reply, Sent, view_of, pages_in, kept_in, needs_in, is_settled, is_open, news, reply_in}
use Rattle.lrc_node_laws.proofs.Change.{manages as manages_change, moves as moves_change, puts as puts_change, closes as closes_change}
use Rattle.lrc_node_laws.proofs.Change.{learns as learns_change, resumes as resumes_change, begins as begins_change, cleans as cleans_change}
use Rattle.lrc_node_laws.proofs.Change.{discards as discards_change, misses as misses_change, mends as mends_change, gets_changes as gets_changes_change}
use Rattle.lrc_node_laws.proofs.Change.{gets_page as gets_page_change}

-- ---- words

-- the intervals that a node learns with a message
abbrev pub news_in : Message → List IntervalRecord
news_in (LockGrant m) = m.intervals
news_in (Depart m) = m.intervals
news_in _ = []

-- a message came that tells of these intervals
pub record Brings (came : Came) (intervals : List IntervalRecord) : Type 0 where
  pub from : ℕ
  pub message : Message
  pub came_is : came ≡ comes from message
  pub told : news_in message ≡ intervals

-- a node that learned news
abbrev pub knowing : View → List ℕ → List IntervalRecord → View
knowing v time intervals = record v { time = joined v.time time; memory = learned v.time intervals v.memory }

-- what comes of an input: nothing for pages; the open interval is closed; news are learned, and a collection may begin; a
-- collection ends; an access misses; or what pages need comes
pub data First (came : Came) (v : View) : View → Type 0 where
  rests : First came v v
  manages : (before manager : ManagerRecord) → v.manager ≡ Some before → length manager.last ≡ length before.last
      → First came v (record v { manager = Some manager })
  closes : (wait : Wait) → v.wait ≡ nothing → is_settled wait ≡ true
      → First came v
      (record v {
        wait = wait;
        time = next_time v.setting.me v.time;
        memory = with_interval v.setting.me (next_time v.setting.me v.time) v.memory;
      })
  learns : (time : List ℕ) (intervals : List IntervalRecord) → is_open v.wait ≡ true → News v time intervals → Brings came intervals
      → First came v (record (knowing v time intervals) { wait = nothing })
  begins : (time : List ℕ) (intervals : List IntervalRecord) → v.wait ≡ departure → covers time v.time ≡ true → News v time intervals
      → Brings came intervals
      → First came v
      (record (knowing v time intervals) {
        wait = upkeep (record { time = time; kept = kept_in (knowing v time intervals) }) (needs_in (knowing v time intervals));
        memory = with_keepers (knowing v time intervals).memory;
      })
  discards : (collection : Collection) → v.wait ≡ discard collection
      → First came v (record v { wait = nothing; memory = after_collection v.setting.me collection.time v.memory })
  misses : (page : ℕ) → v.wait ≡ nothing → page < pages_in v → is_readable (copy_at v.memory page) ≡ false
      → page_next v.size (next_in v.course) ≡ Some page
      → First came v (record v { wait = access (need_of v.setting.nodes v.memory page) })
  gets_changes : (from : ℕ) (m : ChangesReplyRecord) → Reply v from m
      → First came v
      (record v {
        wait = with_needs (changes_came m.page from) v.wait;
        memory = record v.memory { store = fold (with_part from m.page) v.memory.store m.parts };
      })
  gets_page : (from : ℕ) (m : PageReplyRecord) → came ≡ comes from (PageReply m) → Sent v from m.page m.values
      → First came v (record v { wait = with_needs (page_came m.page m.values) v.wait })

-- what may follow in the same turn
pub data Later (v : View) : View → Type 0 where
  moves : (course : Course) → needs_of v.wait ≡ [] → Later v (record v { course = course })
  puts : (word value : ℕ) → v.wait ≡ nothing → Later v (record v { memory = with_written_word v.size word value v.memory })
  cleans : (collection : Collection) (needs : List Need) → v.wait ≡ upkeep collection needs → list_all is_met needs ≡ true
      → Later v (record v { wait = discard collection; memory = clean_memory needs collection.kept v.memory })
  mends : (need : Need) → v.wait ≡ access need → is_met need ≡ true
      → Later v (record v { wait = nothing; memory = repaired v.memory need })

pub data Played (came : Came) (v : View) : View → Type 0 where
  begun : {after : View} → First came v after → Played came v after
  goes_on : {w after : View} → Played came v w → Later w after → Played came v after

-- these are changes, one after another
pub first-walk : (came : Came) (start v after : View) → First came v after → Walk start v → Walk start after
first-walk came start v _ rests w = w
first-walk came start v _ (manages before manager e many) w = goes w (manages_change before manager e many)
first-walk came start v _ (closes wait e s) w = goes w (closes_change wait e s)
first-walk came start v _ (learns time intervals o n b) w = goes (goes w (learns_change time intervals o n)) (resumes_change o)
first-walk came start v _ (begins time intervals e c n b) w =
    goes (goes w (learns_change time intervals (ap is_open e) n)) (begins_change v.time time e refl c n.counted)
first-walk came start v _ (discards collection e) w = goes w (discards_change collection e)
first-walk came start v _ (misses page e lt b n) w = goes w (misses_change page e lt b n)
first-walk came start v _ (gets_changes from m r) w = goes w (gets_changes_change from m r)
first-walk came start v _ (gets_page from m is s) w = goes w (gets_page_change from m.page m.values s)

pub later-walk : (start v after : View) → Later v after → Walk start v → Walk start after
later-walk start v _ (moves course e) w = goes w (moves_change course e)
later-walk start v _ (puts word value e) w = goes w (puts_change word value e)
later-walk start v _ (cleans collection needs e met) w = goes w (cleans_change collection needs e met)
later-walk start v _ (mends need e met) w = goes w (mends_change need e met)

pub played-walk : (came : Came) (start v after : View) → Played came v after → Walk start v → Walk start after
played-walk came start v after (begun f) w = first-walk came start v after f w
played-walk came start v after (goes_on {w = u} p l) w = later-walk start u after l (played-walk came start v u p w)

-- ---- every turn

module _ (came : Came) (node : Node) where
  abbrev pub At : Node → Type 0
  At after = Played came (view_of node) (view_of after)

  -- ---- acts

  makes-at : (letters : List Letter) (x : Node) (next : Next) → x.mail.wait ≡ nothing → At x → At (makes letters x next).node
  makes-at letters x (quiet after) w at = goes_on at (moves _ (ap needs_of w))
  makes-at letters x (prints value after) w at = goes_on at (moves _ (ap needs_of w))
  makes-at letters x (reads word after) w at = goes_on at (moves _ (ap needs_of w))
  makes-at letters x (writes word value after) w at = goes_on (goes_on at (moves _ (ap needs_of w))) (puts word value w)
  makes-at letters x (acquires lock after) w at = goes_on at (moves _ (ap needs_of w))
  makes-at letters x (releases lock after) w at = goes_on at (moves _ (ap needs_of w))
  makes-at letters x (arrives after) w at = goes_on at (moves _ (ap needs_of w))
  makes-at letters x (departs after) w at = goes_on at (moves _ (ap needs_of w))
  makes-at letters x (traps cause) w at = goes_on at (moves _ (ap needs_of w))
  makes-at letters x ends w at = goes_on at (moves _ (ap needs_of w))

  acts_by-at : (letters : List Letter) (x : Node) (c : Course) → x.mail.wait ≡ nothing → At x → At (acts_by letters x c).node
  acts_by-at letters x (going thread) w at = makes-at letters x (next_of thread) w at
  acts_by-at letters x (trapped cause) w at = at
  acts_by-at letters x ended w at = at

  acts-at : (letters : List Letter) (x : Node) → x.mail.wait ≡ nothing → At x → At (acts letters x).node
  acts-at letters x w at = acts_by-at letters x x.course w at

  -- an arrival makes its act while it waits already
  arrives-at : (letters : List Letter) (x : Node) (c : Course) (after : Thread) → next_in c ≡ Some (arrives after)
      → needs_of x.mail.wait ≡ [] → At x → At (acts_by letters x c).node
  arrives-at letters x (going thread) after n w at =
      subst (λ next. At (makes letters x next).node) (sym (same_Some (next_of thread) (arrives after) n)) (goes_on at (moves _ w))
  arrives-at letters x (trapped cause) after n w at = at
  arrives-at letters x ended after n w at = at

  sent-at : (e : Effect) (turn : TurnRecord) (after : Node) → At e.node → IsSent e turn after → At after
  sent-at e turn after at (with_numbers out sent is) = at

  -- ---- by itself

  misses-at : (next : Next) (word : ℕ) → TextIs node.setting node.course → IsReadyFor node next → AccessesNext next word
      → is_readable (copy_at node.memory (page_at node word)) ≡ false
      → First came (view_of node) (view_of (waiting (access (need_at node (page_at node word))) node))
  misses-at next word text r a away =
      misses (page_at node word) r.idle (access-in_range node next word text r a) away (access-reaches node next word r a)

  run-at : (e : Effect) → TextIs node.setting node.course → RunRule node e → At e.node
  run-at e text (run_hit {next = next} r a readable) = acts-at [] (charged node next) r.idle (begun rests)
  run-at e text (run_miss {next = next} {word = word} r a away unmet) = begun (misses-at next word text r a away)
  run-at e text (run_repair {next = next} {word = word} r a away met) =
      acts-at _ _ refl (goes_on (begun (misses-at next word text r a away)) (mends (need_at node (page_at node word)) refl met))
  run-at e text (run_acquire lock after r room free) = acts-at [] _ r.idle (begun (closes node.mail.wait r.idle (ap is_settled r.idle)))
  run-at e text (run_ask lock after r room away) = begun (closes (grant lock) r.idle refl)
  run-at e text (run_release lock after r room) = acts-at _ _ r.idle (begun (closes node.mail.wait r.idle (ap is_settled r.idle)))
  run-at e text (run_barrier after r room) =
      arrives-at _ _ node.course after (next-ready node (arrives after) r) refl (begun (closes departure r.idle refl))
  run-at e text (run_other {next = next} r own) = acts-at [] (charged node next) r.idle (begun rests)

-- ---- with a message

module _ (node : Node) (from : ℕ) where
  -- what pages need came
  gets-at : (message : Message) (memory : Memory) (change : Need → Need) (wait : Wait) → Replies node from message memory change
      → node.mail.wait ≡ wait → First (comes from message) (view_of node) (view_of (waiting (with_needs change wait) (with_memory node memory)))
  gets-at message memory change wait b at =
      subst (λ w. First (comes from message) (view_of node) (view_of (waiting (with_needs change w) (with_memory node memory)))) at
      (gets message memory change b)
    where
      gets : (message : Message) (memory : Memory) (change : Need → Need) → Replies node from message memory change
          → First (comes from message) (view_of node) (view_of (waiting (with_needs change node.mail.wait) (with_memory node memory)))
      gets message memory change (brings_changes m lt all some) = gets_changes from m (reply_in node from m lt all some)
      gets message memory change (brings_base_copy m lt counted some) =
          gets_page from m refl (record { in_range = lt; whole = counted; asked = some })

  begins-at : (m : DepartRecord) → IsDepartureDue node from m
      → First (comes from (Depart m)) (view_of node) (view_of (waiting (upkeep (collection_at node m) (upkeep_at node m)) (keeping node m)))
  begins-at m d =
      begins m.time m.intervals d.awaited d.above (news node m.time m.intervals d.learnable)
      (record { from = from; message = Depart m; came_is = refl; told = refl })

  take-at : (message : Message) (e : Effect) → TakeRule node from message e → At (comes from message) node e.node
  take-at message e (take_request m lt counted mine) = begun rests
  take-at message e (take_forward m lt asker counted managed accepted) = begun rests
  take-at message e (take_token m lt at told) =
      acts-at _ node [] _ refl
      (begun (learns m.time m.intervals (ap is_open at) (news node m.time m.intervals told)
      (record { from = from; message = LockGrant m; came_is = refl; told = refl })))
  take-at message e (take_arrive m before after at told is) = begun (manages before after at (arrival-many before from (arrival_in m) _ is))
  take-at message e (take_last_arrive m before after departures at told is) =
      begun (manages before after at (arrival-many before from (arrival_in m) _ is))
  take-at message e (take_depart m d c) =
      acts-at _ node [] _ refl
      (begun (learns m.time m.intervals (ap is_open d.awaited) (news node m.time m.intervals d.learnable)
      (record { from = from; message = Depart m; came_is = refl; told = refl })))
  take-at message e (take_collect m d c unmet) = begun (begins-at m d)
  take-at message e (take_collect_at_once m d c met) = goes_on (begun (begins-at m d)) (cleans (collection_at node m) (upkeep_at node m) refl met)
  take-at message e (take_reply {memory = memory} {change = change} need b at unmet) = begun (gets-at message memory change _ b at)
  take-at message e (take_last_reply {memory = memory} {change = change} need b at met) =
      acts-at _ node [] _ refl (goes_on (begun (gets-at message memory change _ b at)) (mends (change need) refl met))
  take-at message e (take_kept_reply {memory = memory} {change = change} collection needs b at unmet) =
      begun (gets-at message memory change _ b at)
  take-at message e (take_last_kept_reply {memory = memory} {change = change} collection needs b at met) =
      goes_on (begun (gets-at message memory change _ b at)) (cleans collection (map change needs) refl met)
  take-at message e (take_clean episode before after at is) = begun (manages before after at (clean-many before from episode _ is))
  take-at message e (take_last_clean episode over before after at is) =
      begun (manages before after at (clean-many before from episode _ is))
  take-at message e (take_discard episode collection by_manager at is) = acts-at _ node [] _ refl (begun (discards collection at))
  take-at message e (take_changes_request m lt all) = begun rests
  take-at message e (take_page_request page values lt other at) = begun rests

-- ---- turns

-- what a turn does with an input: nothing with a repeat; and with a message taken anew, whose number is noted first
pub data Turning (node : Node) : Input → Node → Type 0 where
  alone : {after : Node} → Played by_itself (view_of node) (view_of after) → Turning node run after
  again : (e : EnvelopeRecord) → is_repeat node e ≡ true → Turning node (taken_in e) node
  anew : (e : EnvelopeRecord) {after : Node} → is_repeat node e ≡ false → is_expected node e.from e.message ≡ true
      → Played (comes e.from e.message) (view_of (taking node e)) (view_of after) → Turning node (taken_in e) after

abbrev pub TurningIf : Node → Input → Outcome → Type 0
TurningIf node input (done turn after) = Turning node input after
TurningIf node input not_ready = Unit {0}
TurningIf node input unexpected = Unit {0}
TurningIf node input worn = Unit {0}

rule-turns : (node : Node) (input : Input) (turn : TurnRecord) (after : Node) → TextIs node.setting node.course → TurnRule node input turn after
    → Turning node input after
rule-turns node input turn after text (by_run {effect = e} r s) = alone (sent-at by_itself node e turn after (run-at by_itself node e text r) s)
rule-turns node input turn after text (by_repeat envelope addressed is) = again envelope is
rule-turns node input turn after text (by_message envelope {effect = e} addressed new r s) =
    anew envelope new (expected_by_rule node envelope e r)
    (sent-at _ (taking node envelope) e turn after (take-at (taking node envelope) envelope.from envelope.message e r) s)

ruled-turns : (node : Node) (input : Input) (o : Outcome) → TextIs node.setting node.course → RuledIf node input o → TurningIf node input o
ruled-turns node input (done turn after) text r = rule-turns node input turn after text r
ruled-turns node input not_ready text r = tt
ruled-turns node input unexpected text r = tt
ruled-turns node input worn text r = tt

-- every turn is such
pub turning : (node : Node) (input : Input) → TextIs node.setting node.course → TurningIf node input (outcome_of node input)
turning node input text = ruled-turns node input (outcome_of node input) text (ruled node input)
