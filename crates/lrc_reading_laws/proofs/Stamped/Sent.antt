-- In every run a node inside a barrier has sent all its intervals with its arrivals, and what a node collected of its own it sent.
use Rattle.std.proofs.Common.{◌≡◌, ◌⊎◌, ℕ, ◌+◌, ◌≤◌, List, refl, sym, ap, subst, ◌∙◌, inl, inr, ⊎_elim, arith}
use Rattle.std.specs.Prelude.{Some, slice_get}
use Rattle.lrc_program.specs.declared.Program.{Program}
use Rattle.lrc_time.specs.Time.{entry, zeros, Covers}
use Rattle.lrc_time.proofs.Times.{entry-zeros, entry-set_same}
use Rattle.lrc_envelope.specs.Envelope.{EnvelopeRecord}
use Rattle.lrc_protocol.specs.Times.{next_time}
use Rattle.lrc_protocol.specs.Locks.{Locks}
use Rattle.lrc_protocol.specs.Barriers.{Collection}
use Rattle.lrc_protocol.specs.Node.{Wait, nothing, discard, Node, OptionsRecord}
use Rattle.lrc_protocol.specs.Turn.{TurnRecord}
use Rattle.lrc_protocol.specs.Run.{Input, Logged, World, fresh_world, with_turn}
use Rattle.lrc_protocol.specs.Follows.{pending}
use Rattle.lrc_protocol.proofs.Ruled.{by_rule}
use Rattle.lrc_protocol.proofs.Worlds.{fresh_at}
use Rattle.lrc_order_laws.specs.Counts.{is_inside}
use Rattle.lrc_order_laws.proofs.Sends.{Came, site_of, Sent}
use Rattle.lrc_order_laws.proofs.Flows.{Stepped, again as stepped_again, once, stepped}
use Rattle.lrc_order_laws.proofs.Reached.{IsReached, KeptByReached, by_reached}
use Rattle.lrc_node_laws.specs.Ranges.{CollectsAt}
use Rattle.lrc_node_laws.proofs.Always.{exact_at, ranged_at}
use Rattle.lrc_reading_laws.proofs.Collected.Turns.{Kind, steady, begun, ended, Kinds, alone as kind_alone}
use Rattle.lrc_reading_laws.proofs.Collected.Turns.{again as kind_again, anew as kind_anew, turn_kinds}
use Rattle.lrc_reading_laws.proofs.Stamped.Worlds.{Placed, placed, each_node}
use Rattle.lrc_reading_laws.proofs.Stamped.Bars.{Bars, calm, arrives, takes_one, turn_bars}

-- what is collected stays, or a collection is over
Collects : Node → Node → Type 0
Collects a b =
    (b.memory.collected ≡ a.memory.collected)
    ⊎ ((collection : Collection) × (a.mail.wait ≡ discard collection) × (b.memory.collected ≡ collection.time))

kind-collects : (a b : Node) (came : Came) → Kind a b came → Collects a b
unfolding Collects
kind-collects a b _ (steady s) = inl s.collected
kind-collects a b _ (begun from m c s) = inl s.collected
kind-collects a b _ (ended from episode s) = inr (s.collection, s.was, s.collected)

kinds-collects : (a : Node) (input : Input) (b : Node) → Kinds a input b → Collects a b
unfolding Collects
kinds-collects a _ b (kind_alone k) = kind-collects a b _ k
kinds-collects a _ _ (kind_again e is) = inl refl
kinds-collects a _ b (kind_anew e is k) = kind-collects a b _ k

-- who is inside a barrier has sent all its intervals; and what it collected of its own it sent
pub record SentSo (n : ℕ) (node : Node) : Type 0 where
  pub inside : is_inside node.mail.wait ≡ 1 → node.barrier.sent ≡ entry node.locks.time n
  pub collected : entry node.memory.collected n ≤ node.barrier.sent

module _ (nodes n : ℕ) (node after : Node) (p : Placed nodes n node) (collects : Collects node after) (h : SentSo n node) where
  within : Covers node.locks.time node.memory.collected
  within = (exact_at node p.reached).below

  -- where as much was sent as before
  same_sent : after.barrier.sent ≡ node.barrier.sent → entry after.memory.collected n ≤ after.barrier.sent
  unfolding Collects
  same_sent sent =
      ⊎_elim
      (λ (stays : after.memory.collected ≡ node.memory.collected).
      let had : entry node.memory.collected n ≤ node.barrier.sent = h.collected in
      let is : entry after.memory.collected n ≡ entry node.memory.collected n = ap (λ t. entry t n) stays in
      omega (arith, had, is, sent))
      (λ over.
      let time_is : over.0.time ≡ node.locks.time =
      subst (CollectsAt node.locks.time) over.1 (ranged_at node p.reached).present in
      let all : node.barrier.sent ≡ entry node.locks.time n = h.inside (ap is_inside over.1) in
      let is : entry after.memory.collected n ≡ entry node.locks.time n = ap (λ t. entry t n) (over.2 ∙ time_is) in
      omega (arith, all, is, sent))
      collects

  nothing_discards : (collection : Collection) → node.mail.wait ≡ nothing → node.mail.wait ≡ discard collection → ⊥
  nothing_discards collection e d = let is : nothing ≡ discard collection = sym e ∙ d in cc

  new_sent : node.mail.wait ≡ nothing → after.barrier.sent ≡ entry node.locks.time n + 1 → entry after.memory.collected n ≤ after.barrier.sent
  unfolding Collects
  new_sent idle sent =
      ⊎_elim
      (λ (stays : after.memory.collected ≡ node.memory.collected).
      let had : entry node.memory.collected n ≤ entry node.locks.time n = within n in
      let is : entry after.memory.collected n ≡ entry node.memory.collected n = ap (λ t. entry t n) stays in
      omega (arith, had, is, sent))
      (λ over. absurd (nothing_discards over.0 idle over.1))
      collects

  by_bars : (came : Came) (turn : TurnRecord) → Sent node came turn after → SentSo n after
  by_bars came turn sent =
      at_bars came after.mail.wait refl
      (turn_bars (site_of node) came sent.acts after.mail.wait after.locks after.barrier sent.letters sent.sent)
    where
      at_me : (t : List ℕ) → entry t node.setting.me ≡ entry t n
      at_me t = ap (entry t) p.me

      raised : entry (next_time node.setting.me node.locks.time) node.setting.me ≡ entry node.locks.time node.setting.me + 1
      raised = entry-set_same node.locks.time node.setting.me (entry node.locks.time node.setting.me + 1) (omega (arith, p.me, p.within, p.long))

      at_bars : (came : Came) (wait : Wait) → wait ≡ after.mail.wait → Bars (site_of node) came wait after.locks after.barrier sent.letters → SentSo n after
      at_bars _ wait w (calm other none same_s last kept own) = record {
        inside = λ i.
            let was : (is_inside node.mail.wait ≡ 1) × (entry after.locks.time node.setting.me ≡ entry node.locks.time node.setting.me) =
            own (ap is_inside w ∙ i) in
            same_s ∙ h.inside was.0 ∙ sym (at_me node.locks.time) ∙ sym was.1 ∙ at_me after.locks.time;
        collected = same_sent same_s;
      }
      at_bars _ wait w (arrives idle time new manager) = record {
        inside = λ i. new ∙ at_me (next_time node.setting.me node.locks.time) ∙ ap (λ t. entry t n) (sym time);
        collected = new_sent idle (new ∙ raised ∙ ap (λ k. k + 1) (at_me node.locks.time));
      }
      at_bars _ wait w (takes_one from m none same_s last kept locks same_w) = record {
        inside = λ i. same_s ∙ h.inside (ap is_inside (sym same_w ∙ w) ∙ i) ∙ ap (λ (x : Locks). entry x.time n) (sym locks);
        collected = same_sent same_s;
      }

sent_stepped : (nodes n : ℕ) (node after : Node) (p : Placed nodes n node) (collects : Collects node after) (h : SentSo n node) (was now : List EnvelopeRecord)
    (turn : TurnRecord) → Stepped node was now turn after → SentSo n after
sent_stepped nodes n node _ p collects h was now _ (stepped_again g) = h
sent_stepped nodes n node after p collects h was now turn (once came o brought within_nodes sent g) = by_bars nodes n node after p collects h came turn sent

module _ (program : Program) (nodes : ℕ) (options : OptionsRecord) where
  abbrev pub AllSent : World → Type 0
  AllSent world = (n : ℕ) (l : Logged) → slice_get world.nodes n ≡ Some l → SentSo n l.node

  sent-kept : KeptByReached program nodes options AllSent
  sent-kept world flight n l after input log_entry at come i r r' h =
      let collects : Collects l.node after.node =
      kinds-collects l.node input after.node (turn_kinds l.node input log_entry.turn after.node (by_rule l.node input log_entry.turn after.node i.turn_is)) in
      each_node (λ q lq. SentSo q lq.node) world n l after at
      (sent_stepped nodes n l.node after.node (placed program nodes options world r n l at) collects (h n l at) (pending world)
      (pending (with_turn world flight n log_entry after)) log_entry.turn
      (stepped program nodes options world flight n l after input log_entry at come i r))
      h

  sent-fresh : AllSent (fresh_world program nodes options)
  sent-fresh n l at =
      subst (λ (x : Logged). SentSo n x.node) (sym (fresh_at program nodes options 0 nodes n l at))
      (let none : entry (zeros nodes) n ≡ 0 = entry-zeros nodes n in
      record { inside = λ i. absurd (omega (arith, i)); collected = omega (arith, none) })

  pub all_sent : (world : World) → IsReached program nodes options world → AllSent world
  all_sent world r = by_reached program nodes options AllSent sent-kept r.events world sent-fresh r.runs
