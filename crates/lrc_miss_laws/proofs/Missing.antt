-- What a node asks for is all that is missing: at a miss, and at the start of a collection.
use Rattle.std.proofs.Common.{◌≡◌, ℕ, List, [], true, refl, ap}
use Rattle.std.specs.Prelude.{All, not, filter, slice_index_or}
use Rattle.std.proofs.lemmas.Bool.{and_parts}
use Rattle.std.proofs.lemmas.List.Elements.{All-map}
use Rattle.lrc_time.specs.Time.{joined}
use Rattle.lrc_envelope.specs.Records.{DepartRecord}
use Rattle.lrc_protocol.specs.Pages.{is_readable, copy_at, learned, missing_at, unknown_of, asked_of, Need, need_of}
use Rattle.lrc_protocol.specs.Node.{Node, Wait, nothing, grant, departure, access, upkeep, discard, awaits_departure, needs_of}
use Rattle.lrc_protocol.specs.Rules.{keeping, collection_at, need_at, upkeep_at}
use Rattle.lrc_protocol.specs.Turn.{expects_departure}
use Rattle.lrc_node_laws.specs.Reached.{IsReached}
use Rattle.lrc_node_laws.proofs.Change.{View, view_of, Walk, goes, learns, news, is_open}
use Rattle.lrc_node_laws.proofs.Reach.{first_view}
use Rattle.lrc_node_laws.proofs.Tokened.{come_to}
use Rattle.lrc_node_laws.proofs.Needs.{open-needs}
use Rattle.lrc_node_laws.proofs.Always.{copied_at, copied_own}
use Rattle.lrc_miss_laws.proofs.Unfetched.{unfetched-still, all-unknown}
use Rattle.lrc_miss_laws.proofs.Kept.{unfetched-all, unfetched}

-- ---- where nothing is needed

pub none-known : (node : Node) (page : ℕ) → IsReached node → needs_of node.mail.wait ≡ []
    → unknown_of node.memory.store (missing_at node.memory page) ≡ missing_at node.memory page
none-known node page r none =
    all-unknown node.setting.me page node.memory (copied_at node r)
    (unfetched-all (view_of node) none (unfetched r.program r.nodes r.options r.me r.leads.among (view_of node) (come_to node r).walked) page)

pub all-asked : (node : Node) (page : ℕ) → IsReached node → node.mail.wait ≡ nothing
    → (need_at node page).asked ≡ asked_of node.setting.nodes (need_at node page).missing
all-asked node page r idle = ap (asked_of node.setting.nodes) (none-known node page r (ap needs_of idle))

-- ---- with the news of a departure

departing-open : (w : Wait) → awaits_departure w ≡ true → is_open w ≡ true
departing-open nothing e = cc
departing-open (grant lock) e = cc
departing-open departure e = e
departing-open (access need) e = cc
departing-open (upkeep collection needs) e = cc
departing-open (discard collection) e = cc

module _ (node : Node) (from : ℕ) (m : DepartRecord) (r : IsReached node) (e : expects_departure node from m ≡ true) where
  abbrev knowing : View
  knowing = record (view_of node) {
    time = joined node.locks.time m.time;
    memory = learned node.locks.time m.intervals node.memory;
  }

  waits_open : is_open node.mail.wait ≡ true
  waits_open = departing-open node.mail.wait (and_parts _ _ (and_parts _ _ (and_parts _ _ (and_parts _ _ e).0).0).0).1

  walked : Walk (first_view r.program r.nodes r.options r.me r.leads.among) knowing
  walked = goes (come_to node r).walked (learns m.time m.intervals waits_open (news node m.time m.intervals (and_parts _ _ e).1))

  pub none-known_then : (page : ℕ) → unknown_of (keeping node m).memory.store (missing_at (keeping node m).memory page) ≡ missing_at (keeping node m).memory page
  none-known_then page =
      all-unknown node.setting.me page (keeping node m).memory (copied_own r.program r.nodes r.options r.me r.leads.among knowing walked)
      (unfetched-still node.setting.me page knowing.memory (keeping node m).memory (copy_at knowing.memory page) refl (λ since u. u)
      (unfetched-all knowing (open-needs node.mail.wait waits_open) (unfetched r.program r.nodes r.options r.me r.leads.among knowing walked) page))

  pub all-asked_then : All (λ (need : Need). need.asked ≡ asked_of node.setting.nodes need.missing) (upkeep_at node m)
  all-asked_then =
      let unreadable : List ℕ = filter (λ page. not (is_readable (copy_at (keeping node m).memory page))) (collection_at node m).kept in
      All-map (λ (need : Need). need.asked ≡ asked_of node.setting.nodes need.missing) (need_of node.setting.nodes (keeping node m).memory) unreadable
      (λ k d within. ap (asked_of node.setting.nodes) (none-known_then (slice_index_or unreadable k d)))
