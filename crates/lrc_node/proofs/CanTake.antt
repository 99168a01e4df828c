-- A node that is reached can take what it expects.
use Rattle.std.proofs.Common.{◌≡◌, ℕ, ◌<◌, true, List, [], length, refl, sym, ◌∙◌, ap, subst, arith}
use Rattle.std.specs.Prelude.{Option, Some, None, option_map, ◌==◌}
use Rattle.std.proofs.lemmas.Bool.{and_parts, ltb-true, eqb-true}
use Rattle.std.proofs.lemmas.Option.{same_Some}
use Rattle.lrc_time.specs.Time.{entry}
use Rattle.lrc_exec.specs.declared.machine.Ask.TheVariants.{Acquire, Barrier}
use Rattle.lrc_exec.specs.Ask.{ask_of}
use Rattle.lrc_exec.specs.Meaning.{Next, quiet, prints, reads, writes, acquires, releases, arrives, departs, traps, ends}
use Rattle.lrc_store.specs.Interval.{IntervalRecord}
use Rattle.lrc_protocol.specs.Node.{Wait, nothing, grant, departure, access, upkeep, discard, awaits_grant, awaits_departure}
use Rattle.lrc_protocol.specs.Follows.{awaits_discard}
use Rattle.lrc_protocol.specs.Node.{Node, with_taken, needs_of}
use Rattle.lrc_protocol.specs.Turn.{is_learnable, is_page, is_interval, are_arriving, learns, with_needs}
use Rattle.lrc_protocol.specs.Follows.{is_expected}
use Rattle.lrc_order_laws.specs.Waiting.{acquiring, is_departing, FixesNext}
use Rattle.lrc_protocol.specs.Node.{next_in}
use Rattle.lrc_node_laws.specs.Reached.{IsReached}
use Rattle.lrc_node_laws.specs.Ranges.{CollectsAt}
use Rattle.lrc_node_laws.specs.Waits.{IsQuiet}
use Rattle.lrc_node_laws.proofs.Tokened.{awaited_here, come_to, is_shaped}
use Rattle.lrc_node_laws.proofs.Always.{can_be_added, ranged_at, exact_at, quiet_at}
use Rattle.lrc_memory.specs.Turns.{CanBeAdded}
use Rattle.lrc_control.specs.Text.{asked_in}
use Rattle.lrc_lock.specs.Lock.{manager_of}
use Rattle.lrc_node.specs.Taking.{CanDiscard, CanTake}
use Rattle.std.specs.Prelude.{map}
use Rattle.lrc_envelope.specs.Records.{ArriveRecord}
use Rattle.lrc_envelope.specs.declared.message.Message.{Message}
use Rattle.lrc_envelope.specs.declared.message.Message.TheVariants.{LockRequest, LockForward, LockGrant, Arrive, Depart, Clean, Discard}
use Rattle.lrc_envelope.specs.declared.message.Message.TheVariants.{ChangesRequest, ChangesReply, PageRequest, PageReply}
use Rattle.lrc_barrier.specs.Barrier.{IsArrival}
use Rattle.lrc_protocol.specs.Pages.{Need, Memory, learned, changes_came, page_came}
use Rattle.lrc_node_laws.proofs.Tests.{each_passes}
use Rattle.lrc_node_laws.proofs.Awaited.{ascends-pairs}
use Rattle.lrc_node_laws.proofs.Always.{awaited_at, needed_at}
use Rattle.lrc_node.proofs.Keeping.{apart_pairs}
use Rattle.lrc_node.specs.Keeping.{CanCollect}
use Rattle.lrc_time.specs.Time.{joined}
use Rattle.lrc_order_laws.specs.Counts.{is_inside}
use Rattle.lrc_node_laws.specs.Waits.{NoneWritten}
use Rattle.lrc_node_laws.proofs.Change.{View, view_of, Change, news, is_open, learns as learns_change}
use Rattle.lrc_node_laws.proofs.Ranges.{Ranged, ranged-kept}
use Rattle.lrc_node_laws.proofs.Quiet.{quiet-kept}
use Rattle.lrc_node_laws.proofs.Always.{entered_at}
use Rattle.lrc_node.proofs.Replied.{changes_go_on, page_goes_on, whatever_mail}
use Rattle.lrc_protocol.specs.Barriers.{arrival_in}
use Rattle.lrc_protocol.proofs.Expecting.{fulfilled}
use Rattle.lrc_node.specs.Effects.{with_parts}

-- ---- what is awaited, and what the text asks for then

fits_next : (node : Node) → IsReached node → FixesNext node.mail.wait (next_in node.course)
fits_next node r = (come_to node r).tokened.fits

acquires_asked : (o : Option Next) (lock : ℕ) → acquiring o ≡ Some lock → option_map ask_of o ≡ Some (Acquire lock)
acquires_asked None lock e = cc
acquires_asked (Some (quiet after)) lock e = cc
acquires_asked (Some (prints value after)) lock e = cc
acquires_asked (Some (reads word after)) lock e = cc
acquires_asked (Some (writes word value after)) lock e = cc
acquires_asked (Some (acquires other after)) lock e = let same : other ≡ lock = same_Some _ _ e in ap (λ l. Some (Acquire l)) same
acquires_asked (Some (releases other after)) lock e = cc
acquires_asked (Some (arrives after)) lock e = cc
acquires_asked (Some (departs after)) lock e = cc
acquires_asked (Some (traps cause)) lock e = cc
acquires_asked (Some ends) lock e = cc

departs_asked : (o : Option Next) → is_departing o ≡ true → option_map ask_of o ≡ Some Barrier
departs_asked None e = cc
departs_asked (Some (quiet after)) e = cc
departs_asked (Some (prints value after)) e = cc
departs_asked (Some (reads word after)) e = cc
departs_asked (Some (writes word value after)) e = cc
departs_asked (Some (acquires lock after)) e = cc
departs_asked (Some (releases lock after)) e = cc
departs_asked (Some (arrives after)) e = cc
departs_asked (Some (departs after)) e = refl
departs_asked (Some (traps cause)) e = cc
departs_asked (Some ends) e = cc

grant_wait : (wait : Wait) (lock : ℕ) → awaits_grant lock wait ≡ true → wait ≡ grant lock
grant_wait nothing lock e = cc
grant_wait (grant other) lock e = ap grant (eqb-true other lock e)
grant_wait departure lock e = cc
grant_wait (access need) lock e = cc
grant_wait (upkeep collection needs) lock e = cc
grant_wait (discard collection) lock e = cc

grant_next : (wait : Wait) (o : Option Next) (lock : ℕ) → awaits_grant lock wait ≡ true → FixesNext wait o → option_map ask_of o ≡ Some (Acquire lock)
grant_next nothing o lock e f = cc
grant_next (grant other) o lock e f = acquires_asked o lock (f ∙ ap Some (eqb-true other lock e))
grant_next departure o lock e f = cc
grant_next (access need) o lock e f = cc
grant_next (upkeep collection needs) o lock e f = cc
grant_next (discard collection) o lock e f = cc

pub granted_asked : (node : Node) → IsReached node → (lock : ℕ) → awaits_grant lock node.mail.wait ≡ true → asked_in node.course ≡ Some (Acquire lock)
granted_asked node r lock e = grant_next node.mail.wait (next_in node.course) lock e (fits_next node r)

departure_next : (wait : Wait) (o : Option Next) → awaits_departure wait ≡ true → FixesNext wait o → option_map ask_of o ≡ Some Barrier
departure_next nothing o e f = cc
departure_next (grant other) o e f = cc
departure_next departure o e f = departs_asked o f
departure_next (access need) o e f = cc
departure_next (upkeep collection needs) o e f = cc
departure_next (discard collection) o e f = cc

pub departing_asked : (node : Node) → IsReached node → awaits_departure node.mail.wait ≡ true → asked_in node.course ≡ Some Barrier
departing_asked node r e = departure_next node.mail.wait (next_in node.course) e (fits_next node r)

discard_next : (wait : Wait) (o : Option Next) → awaits_discard wait ≡ true → FixesNext wait o → option_map ask_of o ≡ Some Barrier
discard_next nothing o e f = cc
discard_next (grant other) o e f = cc
discard_next departure o e f = cc
discard_next (access need) o e f = cc
discard_next (upkeep collection needs) o e f = cc
discard_next (discard collection) o e f = departs_asked o f

-- ---- news

pub learnable_added : (node : Node) → IsReached node → (time : List ℕ) (intervals : List IntervalRecord) → is_learnable node time intervals ≡ true
    → CanBeAdded node.memory.store intervals
learnable_added node r time intervals e =
    let added = can_be_added node time intervals r e in
    let ranges = (ranged_at node r).memory in
    record {
      in_range = λ k d within.
          let it = added.0 k d within in
          record {
            node = rw ranges.store_nodes it.node;
            stamp = it.stamp ∙ sym ranges.store_nodes;
            pages = rw ranges.store_pages it.named;
          };
      next = added.1;
    }

-- ---- the word to discard

closed_at : (node : Node) → (wait : Wait) → awaits_discard wait ≡ true → IsQuiet wait node.memory
    → IsQuiet (discard (record { time = []; kept = [] })) node.memory
closed_at node nothing e q = cc
closed_at node (grant lock) e q = cc
closed_at node departure e q = cc
closed_at node (access need) e q = cc
closed_at node (upkeep collection needs) e q = cc
closed_at node (discard collection) e q = q

pub can_discard : (node : Node) → IsReached node → awaits_discard node.mail.wait ≡ true → CanDiscard node
can_discard node r e = record {
  next = discard_next node.mail.wait (next_in node.course) e (fits_next node r);
  waits = e;
  closed = closed_at node node.mail.wait e (quiet_at node r);
  time = λ collection at.
      let present : collection.time ≡ node.locks.time = subst (CollectsAt node.locks.time) at (ranged_at node r).present in (
        ap length present ∙ (ranged_at node r).time,
        let same : entry node.memory.store.last node.setting.me ≡ entry collection.time node.setting.me =
            ap (λ t. entry t node.setting.me) ((exact_at node r).last ∙ sym present) in
            omega arith,
      );
}

-- ---- by kind

news_time : (node : Node) (time : List ℕ) (intervals : List IntervalRecord) → is_learnable node time intervals ≡ true → length time ≡ node.setting.nodes
news_time node time intervals e = eqb-true _ _ (and_parts _ _ (and_parts _ _ (and_parts _ _ (and_parts _ _ e).0).0).0).0

arriving : (node : Node) (from : ℕ) (m : ArriveRecord) → are_arriving node from m.time m.intervals ≡ true → IsArrival node.setting.nodes from (arrival_in m)
arriving node from m e =
    let own = and_parts _ _ (and_parts _ _ e).0 in
    let news = and_parts _ _ (and_parts _ _ own.0).0 in
    record {
      counted = eqb-true _ _ news.0;
      own = each_passes (λ (i : IntervalRecord). i.node == from) (λ (i : IntervalRecord). i.node ≡ from) (λ i t. eqb-true i.node from t) m.intervals own.1;
      stamps = each_passes (is_interval node) (λ (i : IntervalRecord). length i.stamp ≡ node.setting.nodes)
          (λ i t. eqb-true _ _ (and_parts _ _ (and_parts _ _ t).0).1) m.intervals news.1;
    }

below_copies : (node : Node) → IsReached node → (page : ℕ) → is_page node page ≡ true → page < length node.memory.copies
below_copies node r page e = subst (λ n. page < n) (sym (ranged_at node r).memory.copies) (ltb-true page _ e)

departs_open : (wait : Wait) → awaits_departure wait ≡ true → (is_open wait ≡ true)
    × ((memory : Memory) → IsQuiet wait memory ≡ NoneWritten memory) × (is_inside wait ≡ 1)
departs_open nothing e = cc
departs_open (grant lock) e = cc
departs_open departure e = (refl, λ memory. refl, refl)
departs_open (access need) e = cc
departs_open (upkeep collection needs) e = cc
departs_open (discard collection) e = cc

-- a node that learns what a departure brings can begin a collection then
can_collect : (node : Node) → IsReached node → (sender number : ℕ) (time : List ℕ) (intervals : List IntervalRecord) → awaits_departure node.mail.wait ≡ true
    → is_learnable node time intervals ≡ true → CanCollect (learns time intervals (record node { mail = with_taken sender number node.mail }))
can_collect node r sender number time intervals waits e =
    let is = departs_open node.mail.wait waits in
    let v : View = view_of node in
    let after : View = record v { time = joined v.time time; memory = learned v.time intervals v.memory } in
    let change : Change v after = learns_change time intervals is.0 (news node time intervals e) in
    let ranged : Ranged after = ranged-kept v after change (ranged_at node r) in
    let quiet : IsQuiet node.mail.wait after.memory = quiet-kept v after change (quiet_at node r) in
    record {
      arrived = omega (arith, entered_at node r, is.2);
      ranges = ranged.memory;
      closed = subst (λ (t : Type 0). t) (is.1 after.memory) quiet;
    }

-- a node that is reached can take what it expects
pub can_take : (node : Node) → IsReached node → (from sender number : ℕ) (message : Message) → is_expected node from message ≡ true
    → CanTake (record node { mail = with_taken sender number node.mail }) from message
can_take node r from sender number (LockRequest m) e =
    let a = and_parts _ _ (fulfilled node from (LockRequest m) e) in
    let shape = is_shaped node r in (
      ltb-true _ _ (and_parts _ _ a.0).0,
      ap (λ n. manager_of n m.lock) shape.managed_nodes ∙ eqb-true _ _ a.1 ∙ sym shape.manager,
    )
can_take node r from sender number (LockForward m) e =
    let whole = and_parts _ _ (fulfilled node from (LockForward m) e) in
    let a = and_parts _ _ (and_parts _ _ whole.0).0 in
    let b = and_parts _ _ a.0 in
    (ltb-true _ _ b.0, ltb-true _ _ b.1, eqb-true _ _ a.1, whole.1)
can_take node r from sender number (LockGrant m) e =
    let a = and_parts _ _ (fulfilled node from (LockGrant m) e) in
    let b = and_parts _ _ a.0 in
    let waits = grant_wait node.mail.wait m.lock b.1 in (
      ltb-true _ _ b.0,
      awaited_here node r m.lock waits,
      granted_asked node r m.lock b.1,
      news_time node m.time m.intervals a.1,
      learnable_added node r m.time m.intervals a.1,
    )
can_take node r from sender number (Arrive m) e =
    let a = and_parts _ _ (fulfilled node from (Arrive m) e) in
    (a.0, arriving node from m a.1)
can_take node r from sender number (Depart m) e =
    let a = and_parts _ _ (fulfilled node from (Depart m) e) in
    let waits = (and_parts _ _ (and_parts _ _ (and_parts _ _ a.0).0).0).1 in (
      departing_asked node r waits,
      news_time node m.time m.intervals a.1,
      learnable_added node r m.time m.intervals a.1,
      can_collect node r sender number m.time m.intervals waits a.1,
    )
can_take node r from sender number (Clean episode) e = fulfilled node from (Clean episode) e
can_take node r from sender number (Discard episode) e =
    let d = can_discard node r (and_parts _ _ (and_parts _ _ (fulfilled node from (Discard episode) e)).0).1 in
    record { next = d.next; waits = d.waits; closed = d.closed; time = d.time }
can_take node r from sender number (ChangesRequest m) e = below_copies node r m.page (and_parts _ _ (fulfilled node from (ChangesRequest m) e)).0
can_take node r from sender number (ChangesReply m) e = (
  awaited_at node r from m (fulfilled node from (ChangesReply m) e),
  whatever_mail (with_parts from m node) (with_taken sender number node.mail)
      (with_needs (changes_came m.page from) node.mail.wait) (changes_go_on node r from m (fulfilled node from (ChangesReply m) e)),
)
can_take node r from sender number (PageRequest page) e =
    let a = and_parts _ _ (fulfilled node from (PageRequest page) e) in
    (below_copies node r page (and_parts _ _ a.0).0, a.1)
can_take node r from sender number (PageReply m) e =
    let a = and_parts _ _ (fulfilled node from (PageReply m) e) in (
      apart_pairs (needs_of node.mail.wait) (ascends-pairs (map (λ (need : Need). need.page) (needs_of node.mail.wait)) (needed_at node r).apart),
      whatever_mail node (with_taken sender number node.mail) (with_needs (page_came m.page m.values) node.mail.wait)
          (page_goes_on node r from m.page m.values (eqb-true _ _ (and_parts _ _ a.0).1) a.1),
    )

-- a node that has just taken the number of a message that it expected can take the message
pub taking_can : (before node : Node) (from sender number : ℕ) (message : Message) → IsReached before → is_expected before from message ≡ true
    → node ≡ record before { mail = with_taken sender number before.mail } → CanTake node from message
taking_can before node from sender number message r e is = subst (λ n. CanTake n from message) (sym is) (can_take before r from sender number message e)
