-- What a node tells with an arrival: its own intervals, all that it has not told with the arrivals before.
use Rattle.std.proofs.Common.{◌≡◌, ℕ, ◌+◌, ◌-◌, ◌<◌, ◌≤◌, List, [], ◌∷◌, false, length, map, refl, sym, ap, subst, ◌∙◌, ⊎_elim, arith}
use Rattle.std.specs.Prelude.{Option, Some, None, Contains, slice_set}
use Rattle.std.specs.List.{range_with_len}
use Rattle.std.proofs.lemmas.Bool.{false≢true}
use Rattle.std.proofs.lemmas.List.{length-set}
use Rattle.lrc_exec.specs.Meaning.{Next, quiet, prints, reads, writes, acquires, releases, arrives, departs, traps, ends}
use Rattle.lrc_time.specs.Time.{entry}
use Rattle.lrc_time.proofs.Times.{entry-set_same, entry-set_other}
use Rattle.lrc_store.specs.Interval.{IntervalRecord}
use Rattle.lrc_envelope.specs.Envelope.{EnvelopeRecord}
use Rattle.lrc_envelope.specs.Records.{ArriveRecord}
use Rattle.lrc_envelope.specs.declared.message.Message.{Message}
use Rattle.lrc_envelope.specs.declared.message.Message.TheVariants.{LockRequest, LockForward, LockGrant, Arrive, Depart, Clean, Discard}
use Rattle.lrc_envelope.specs.declared.message.Message.TheVariants.{ChangesRequest, ChangesReply, PageRequest, PageReply}
use Rattle.lrc_lock.specs.declared.state.Pass.{Pass}
use Rattle.lrc_copies.proofs.Members.{cases_Contains, none_Contains}
use Rattle.lrc_protocol.specs.Times.{next_time}
use Rattle.lrc_protocol.specs.Pages.{copy_at}
use Rattle.lrc_protocol.specs.Node.{Letter, Node}
use Rattle.lrc_protocol.specs.Turn.{grant_of, grants_of, changes_reply_to, arrival_of, own_news, after_close, TurnRecord}
use Rattle.lrc_protocol.specs.Run.{Input}
use Rattle.lrc_order_laws.proofs.Sends.{letter_in}
use Rattle.lrc_node_laws.specs.Stored.{StoresExactly}
use Rattle.lrc_node_laws.proofs.Exact.{closes-exact}
use Rattle.lrc_node_laws.proofs.Always.{exact_at, ranged_at}
use Rattle.lrc_reading_laws.proofs.Closed.Known.{letter_out, only_letter}
use Rattle.lrc_reading_laws.proofs.Asked.Departs.{IsOwn}
use Rattle.lrc_reading_laws.proofs.Stamped.Newer.{newer-indices}
use Rattle.lrc_reading_laws.proofs.Stamped.Sent.{SentSo}
use Rattle.lrc_reading_laws.proofs.Stamped.Turns.{is_arrival, AllSilent, Timely, Turned, Says as SaysTo, RunSays, GoesSaying, run-turned, took-turned}
use Rattle.lrc_reading_laws.proofs.Stamped.Worlds.{Placed, TurnBy, alone, again, anew}
use Rattle.lrc_reading_laws.proofs.Stamped.Grants.{unbound_since}

-- ---- the intervals

module _ (nodes n : ℕ) (node : Node) (p : Placed nodes n node) (s : SentSo n node) where
  abbrev now : List ℕ
  now = next_time node.setting.me node.locks.time

  abbrev since : List ℕ
  since = slice_set now node.setting.me node.barrier.sent

  exact : StoresExactly now (after_close node).memory
  exact =
      closes-exact nodes 0 node.setting.me node.locks.time node.memory (subst (λ k. k < nodes) (sym p.me) p.within) p.long (exact_at node p.reached)

  within : n < length now
  within =
      let long : length now ≡ nodes = length-set node.locks.time node.setting.me (entry node.locks.time node.setting.me + 1) ∙ p.long in
      omega (arith, p.within, long)

  own_since : entry since n ≡ node.barrier.sent
  own_since = subst (λ k. entry (slice_set now k node.barrier.sent) n ≡ node.barrier.sent) (sym p.me) (entry-set_same now n node.barrier.sent within)

  pub news_own : IsOwn (λ q. node.barrier.sent) (entry now) n (own_news (after_close node))
  news_own = record {
    own =
        newer-indices now (after_close node).memory since now n exact (subst (λ k. entry node.memory.collected n ≤ k) (sym own_since) s.collected) (omega arith)
        ∙ ap (λ k. range_with_len (k + 1) (entry now n - k)) own_since;
    only = λ q other.
        let same : entry since q ≡ entry now q =
        subst (λ k. entry (slice_set now k node.barrier.sent) q ≡ entry now q) (sym p.me) (entry-set_other now n node.barrier.sent q (λ e. other (sym e))) in
        let none : entry now q - entry since q ≡ 0 = omega (arith, same) in
        newer-indices now (after_close node).memory since now q exact
        (subst (λ k. entry node.memory.collected q ≤ k) (sym same) (exact.below q)) (omega (arith, same))
        ∙ ap (range_with_len (entry since q + 1)) none;
  }

-- ---- the letter

-- what an arrival says, that the node sends now
pub record ToldNow (node : Node) (m : ArriveRecord) : Type 0 where
  pub time : next_time node.setting.me node.locks.time ≡ m.time
  pub intervals : own_news (after_close node) ≡ m.intervals

silent_arrivals : (out : List EnvelopeRecord) → AllSilent (map letter_in out) → (e : EnvelopeRecord) → Contains out e → is_arrival e.message ≡ false
silent_arrivals [] s e c = absurd (none_Contains e c)
silent_arrivals (x ∷ out) s e c =
    ⊎_elim
    (λ (first : x ≡ e). subst (λ (y : EnvelopeRecord). is_arrival y.message ≡ false) first s.2)
    (λ (later : Contains out e). silent_arrivals out s.3 e later)
    (cases_Contains x out e c)

abbrev Unbound : List ℕ → Type 0
Unbound t = Unit {0}

unbound : (node : Node) → Timely Unbound node.memory
unbound node = record { collected = tt; since = λ page. unbound_since (copy_at node.memory page) }

time_in : Message → List ℕ
time_in (Arrive m) = m.time
time_in _ = []

intervals_in : Message → List IntervalRecord
intervals_in (Arrive m) = m.intervals
intervals_in _ = []

module _ (node : Node) (turn : TurnRecord) (e : EnvelopeRecord) (m : ArriveRecord) (c : Contains turn.out e) (is : e.message ≡ Arrive m) where
  abbrev Told : Type 0
  Told = ToldNow node m

  silent_told : AllSilent (map letter_in turn.out) → Told
  silent_told s = absurd (false≢true (sym (silent_arrivals turn.out s e c) ∙ ap is_arrival is))

  one_told : (x : Letter) → is_arrival x.message ≡ false → map letter_in turn.out ≡ x ∷ [] → Told
  one_told x none letters =
      let one : x ≡ letter_in e = only_letter x (letter_in e) (subst (λ ls. Contains ls (letter_in e)) letters (letter_out turn.out e c)) in
      absurd (false≢true (sym none ∙ ap (λ (x : Letter). is_arrival x.message) one ∙ ap is_arrival is))

  grants_told : (x : Node) (pass : Option Pass) → map letter_in turn.out ≡ grants_of x pass → Told
  grants_told x None letters = absurd (none_Contains (letter_in e) (subst (λ ls. Contains ls (letter_in e)) letters (letter_out turn.out e c)))
  grants_told x (Some pass) letters = one_told (grant_of x pass) refl letters

  arrival_told : map letter_in turn.out ≡ arrival_of (after_close node) (node.barrier.episode + 1) ∷ [] → Told
  unfolding time_in intervals_in
  arrival_told letters =
      let sent : Letter = arrival_of (after_close node) (node.barrier.episode + 1) in
      let one : sent ≡ letter_in e = only_letter sent (letter_in e) (subst (λ ls. Contains ls (letter_in e)) letters (letter_out turn.out e c)) in
      let message_is : sent.message ≡ Arrive m = ap (λ (x : Letter). x.message) one ∙ is in
      record { time = ap time_in message_is; intervals = ap intervals_in message_is }

  run_told : (step : Next) → RunSays Unbound node step (map letter_in turn.out) → Told
  run_told (releases lock rest) s = grants_told (after_close node) _ s
  run_told (arrives rest) s = arrival_told s
  run_told (quiet rest) s = silent_told s
  run_told (prints value rest) s = silent_told s
  run_told (reads word rest) s = silent_told s
  run_told (writes word value rest) s = silent_told s
  run_told (acquires lock rest) s = silent_told s
  run_told (departs rest) s = silent_told s
  run_told (traps cause) s = silent_told s
  run_told ends s = silent_told s

  message_told : (from : ℕ) (message : Message) → SaysTo Unbound node from message (map letter_in turn.out) → Told
  message_told from (LockForward f) s = grants_told node _ s
  message_told from (ChangesRequest q) s = one_told (changes_reply_to node from q.page q.indices) refl s
  message_told from (LockRequest q) s = silent_told s
  message_told from (LockGrant q) s = silent_told s
  message_told from (Arrive q) s = silent_told s
  message_told from (Depart q) s = silent_told s
  message_told from (Clean episode) s = silent_told s
  message_told from (Discard episode) s = silent_told s
  message_told from (ChangesReply q) s = silent_told s
  message_told from (PageRequest page) s = silent_told s
  message_told from (PageReply q) s = silent_told s

-- each arrival that is sent says so
pub told_now : (nodes n : ℕ) (node : Node) (p : Placed nodes n node) (was : List EnvelopeRecord) (input : Input) (turn : TurnRecord) (after : Node)
    (now : List EnvelopeRecord) → TurnBy node was input turn after now → (e : EnvelopeRecord) (m : ArriveRecord) → Contains turn.out e
    → e.message ≡ Arrive m → ToldNow node m
told_now nodes n node p was _ turn after later (alone o k g) e m c is =
    let went : Turned Unbound (GoesSaying Unbound node) turn after = run-turned Unbound node turn after o (unbound node) in
    run_told node turn e m c is went.says.0 went.says.1
told_now nodes n node p was _ _ _ later (again e0 g) e m c is = absurd (none_Contains e c)
told_now nodes n node p was _ turn after later (anew e0 t k lost) e m c is =
    let told : Turned Unbound (SaysTo Unbound node e0.from e0.message) turn after =
    took-turned Unbound node e0 turn after t tt (ranged_at node p.reached).present (unbound node) in
    message_told node turn e m c is e0.from e0.message told.says
