-- In every history the intervals of a pending grant are just those between its receiver's time and its own: the receiver can learn it.
use Rattle.std.proofs.Common.{◌≡◌, ◌⊎◌, ℕ, zero, suc, ◌+◌, ◌-◌, ◌<◌, List, [], ◌∷◌, ◌++◌, Bool, true, false}
use Rattle.std.proofs.Common.{length, map, refl, sym, ap, subst, ◌∙◌, inl, inr, ⊎_elim, arith}
use Rattle.std.specs.Prelude.{Option, Some, None, Contains, ◌==◌, slice_get, slice_index_or, if◌then◌else◌}
use Rattle.std.specs.List.{range_with_len}
use Rattle.std.proofs.lemmas.Bool.{cases_eq, and_from, eq-eqb, lt-ltb, false≢true}
use Rattle.std.proofs.lemmas.List.Elements.{Contains-append_left, Contains-append_right, Contains-append_cases}
use Rattle.std.proofs.lemmas.Option.{same_Some}
use Rattle.lrc_program.specs.declared.Program.{Program}
use Rattle.lrc_exec.specs.Meaning.{Setting, Next, quiet, prints, reads, writes, acquires, releases, arrives, departs, traps, ends}
use Rattle.lrc_exec.specs.Plain.{setting_of}
use Rattle.lrc_time.specs.Time.{entry, zeros, Covers}
use Rattle.lrc_time.proofs.Times.{length-zeros, covers-refl, covers-trans, covers-raised, covers-joined_first}
use Rattle.lrc_store.specs.Interval.{IntervalRecord}
use Rattle.lrc_store.specs.Store.{StoreRecord, StoredRecord, interval_of, newer_of}
use Rattle.lrc_envelope.specs.Envelope.{EnvelopeRecord}
use Rattle.lrc_envelope.specs.Records.{LockForwardRecord, LockGrantRecord}
use Rattle.lrc_envelope.specs.declared.message.Message.{Message}
use Rattle.lrc_envelope.specs.declared.message.Message.TheVariants.{LockRequest, LockForward, LockGrant, Arrive, Depart, Clean, Discard}
use Rattle.lrc_envelope.specs.declared.message.Message.TheVariants.{ChangesRequest, ChangesReply, PageRequest, PageReply}
use Rattle.lrc_lock.specs.declared.fault.LockFault.TheVariants.{NotMine}
use Rattle.lrc_lock.specs.declared.state.Pass.{Pass}
use Rattle.lrc_lock.specs.declared.state.Waiter.{Waiter}
use Rattle.lrc_lock.specs.declared.state.LockState.{LockState}
use Rattle.lrc_lock.specs.declared.state.LockState.TheVariants.{Away, Awaited, Free, Held}
use Rattle.lrc_lock.specs.Lock.{manager_of}
use Rattle.lrc_lock.specs.Held.{refuses, lock_at, first_state, released, released_at, forwarded, forwarded_at, pass_of, pass_to}
use Rattle.lrc_copies.proofs.Members.{Contains-first, Contains-later, cases_Contains, none_Contains}
use Rattle.lrc_protocol.specs.Times.{indices_by, next_time}
use Rattle.lrc_protocol.specs.Pages.{Copy, valid, written, invalid, absent, Memory, copy_at}
use Rattle.lrc_protocol.specs.Node.{Letter, Wait, nothing, grant, departure, access, upkeep, discard, is_idle, awaits_grant, Node}
use Rattle.lrc_protocol.specs.Node.{OptionsRecord}
use Rattle.lrc_protocol.specs.Turn.{is_learnable, grant_of, grants_of, changes_reply_to, arrival_of, begins_of, after_close, TurnRecord}
use Rattle.lrc_protocol.specs.Follows.{is_expected}
use Rattle.lrc_protocol.specs.Turn.{done, run_turn, turn_by}
use Rattle.lrc_protocol.specs.Run.{Input, run, EntryRecord, Logged, World, Flying, fresh_world, with_turn, run_of}
use Rattle.lrc_protocol.specs.Follows.{pending}
use Rattle.lrc_protocol.specs.declared.event.Event.{Event}
use Rattle.lrc_protocol.specs.Follows.{turns_of}
use Rattle.lrc_protocol.proofs.Worlds.{IsEntry, get_set_same, get_set_other, fresh_at}
use Rattle.lrc_protocol.proofs.Induction.{Comes}
use Rattle.lrc_protocol.proofs.Expecting.{conditions}
use Rattle.lrc_order_laws.specs.Shape.{HasShape}
use Rattle.lrc_order_laws.proofs.Shape.{NodeShape, shape_at}
use Rattle.lrc_order_laws.proofs.Sends.{Came, by_itself, comes, letter_in, site_of, Sent, Sending, SendingIf, sendings, alone as sent_alone}
use Rattle.lrc_order_laws.proofs.Flows.{Stepped, again as stepped_again, once, stepped}
use Rattle.lrc_order_laws.proofs.LockExpected.{grant_awaited}
use Rattle.lrc_order_laws.proofs.Reached.{IsReached}
use Rattle.lrc_node_laws.specs.Stored.{StoresExactly}
use Rattle.lrc_node_laws.proofs.Exact.{closes-exact}
use Rattle.lrc_node_laws.proofs.Always.{exact_at, ranged_at}
use Rattle.lrc_reading_laws.specs.Made.{AllMade, AllTold, intervals_in}
use Rattle.lrc_reading_laws.proofs.Closed.History.{History, one_more, KeptByHistory, by_history, history_of, closed_by}
use Rattle.lrc_reading_laws.proofs.Closed.Stocks.{StoreChange, same, closed, granted as learned_grant, departing as learned_depart, replied, dropped}
use Rattle.lrc_reading_laws.proofs.Collected.Covers.{collected_covered}
use Rattle.lrc_reading_laws.proofs.Stamped.Worlds.{Placed, placed, each_node, TurnBy, alone, again, anew, turn_at}
use Rattle.lrc_reading_laws.proofs.Stamped.Made.{AreListed, all_made, all_listed}
use Rattle.lrc_reading_laws.proofs.Stamped.Turns.{is_lock_grant, AllSilent, SinceIn, Timely, Turned, Says as SaysTo, RunSays, GoesSaying, run-turned, took-turned}
use Rattle.lrc_reading_laws.proofs.Stamped.Cuts.{IsFull, Counted, zeros-full, full_still}
use Rattle.lrc_reading_laws.proofs.Stamped.Times.{all_cuts}
use Rattle.lrc_reading_laws.proofs.Stamped.Newer.{newer-indices}
use Rattle.lrc_reading_laws.proofs.Stamped.Asks.{waiter_in, is_granting, turn_asks}
use Rattle.lrc_reading_laws.proofs.Stamped.Frees.{free_in, Frees, turn_frees, released_then}
use Rattle.lrc_reading_laws.proofs.Stamped.Askers.{Says, by_forward, by_waiter, asks_granting, grant_granting, all_ask_so}
use Rattle.lrc_reading_laws.proofs.Stamped.Learn.{learnable_from}
use Rattle.lrc_reading_laws.proofs.Closed.Known.{letter_out, only_letter}

-- ---- one turn, as the store sees it

change-grows : (me : ℕ) (time : List ℕ) (memory : Memory) (came : Came) (store : StoreRecord) (after : List ℕ)
    → StoreChange me time memory came store after → Covers after time
change-grows me time memory came _ _ same = covers-refl time
change-grows me time memory _ _ _ closed = covers-raised time me (entry time me + 1) (omega arith)
change-grows me time memory _ _ _ (learned_grant from m) = covers-joined_first time m.time
change-grows me time memory _ _ _ (learned_depart from m) = covers-joined_first time m.time
change-grows me time memory _ _ _ (replied from m) = covers-refl time
change-grows me time memory _ _ _ (dropped from episode upto) = covers-refl time

turn-grows : (node : Node) (was : List EnvelopeRecord) (input : Input) (turn : TurnRecord) (after : Node) (now : List EnvelopeRecord)
    → TurnBy node was input turn after now → Covers after.locks.time node.locks.time
turn-grows node was _ turn after now (alone o k g) =
    change-grows node.setting.me node.locks.time node.memory by_itself after.memory.store after.locks.time k.change
turn-grows node was _ _ _ now (again e g) = covers-refl node.locks.time
turn-grows node was _ turn after now (anew e t k lost) =
    change-grows node.setting.me node.locks.time node.memory (comes e.from e.message) after.memory.store after.locks.time k.change

-- who begins something waits for nothing
runs-idle : (node : Node) (w : Wait) (turn : TurnRecord) (after : Node)
    → turn_by node (if is_idle w then begins_of node.left node.course else None) ≡ done turn after
    → is_granting w ≡ false
runs-idle node nothing turn after e = refl
runs-idle node (grant lock) turn after e = absurd cc
runs-idle node departure turn after e = refl
runs-idle node (access need) turn after e = refl
runs-idle node (upkeep collection needs) turn after e = refl
runs-idle node (discard collection) turn after e = refl

pub told_in : (all : List IntervalRecord) (es : List EnvelopeRecord) (e : EnvelopeRecord) → AllTold all es → Contains es e
    → AllMade all (intervals_in e.message)
told_in all [] e t c = absurd (none_Contains e c)
told_in all (x ∷ es) e t c =
    ⊎_elim
    (λ (first : x ≡ e). subst (λ (y : EnvelopeRecord). AllMade all (intervals_in y.message)) first t.0)
    (λ (later : Contains es e). told_in all es e t.1 later)
    (cases_Contains x es e c)

-- ---- what is granted

silent_out : (out : List EnvelopeRecord) → AllSilent (map letter_in out) → (e : EnvelopeRecord) → Contains out e → is_lock_grant e.message ≡ false
silent_out [] s e c = absurd (none_Contains e c)
silent_out (x ∷ out) s e c =
    ⊎_elim
    (λ (first : x ≡ e). subst (λ (y : EnvelopeRecord). is_lock_grant y.message ≡ false) first s.1)
    (λ (later : Contains out e). silent_out out s.3 e later)
    (cases_Contains x out e c)

silent-none : (Y : Type 0) (out : List EnvelopeRecord) → AllSilent (map letter_in out) → (e : EnvelopeRecord) (m : LockGrantRecord) → Contains out e
    → e.message ≡ LockGrant m → Y
silent-none Y out s e m c is = absurd (false≢true (sym (silent_out out s e c) ∙ ap is_lock_grant is))

-- a grant among these letters is of this pass
record IsPassed (node : Node) (pass : Option Pass) (e : EnvelopeRecord) (m : LockGrantRecord) : Type 0 where
  p : Pass
  pass_is : pass ≡ Some p
  to_is : e.to ≡ p.to
  grant_is : record { lock = p.lock; time = p.upto; intervals = newer_of node.memory.store p.since p.upto } ≡ m

passed : (node : Node) (pass : Option Pass) (out : List EnvelopeRecord) (e : EnvelopeRecord) (m : LockGrantRecord) → map letter_in out ≡ grants_of node pass
    → Contains out e → e.message ≡ LockGrant m → IsPassed node pass e m
passed node None out e m is c says = absurd (none_Contains (letter_in e) (subst (λ ls. Contains ls (letter_in e)) is (letter_out out e c)))
passed node (Some p) out e m is c says =
    let one : grant_of node p ≡ letter_in e =
    only_letter (grant_of node p) (letter_in e) (subst (λ ls. Contains ls (letter_in e)) is (letter_out out e c)) in
    let sent : LockGrantRecord = record { lock = p.lock; time = p.upto; intervals = newer_of node.memory.store p.since p.upto } in
    let message_is : LockGrant sent ≡ LockGrant m = ap (λ (x : Letter). x.message) one ∙ says in
    let grant_same : sent ≡ m = cc in
    record { p = p; pass_is = refl; to_is = sym (ap (λ (x : Letter). x.to) one); grant_is = grant_same }

released_pass : (lock : ℕ) (now : List ℕ) (x : LockState) (p : Pass) → pass_of (released_at lock now x) ≡ Some p
    → (w : Waiter) × (waiter_in x ≡ Some w) × (pass_to lock w now ≡ p)
released_pass lock now Away p e = absurd cc
released_pass lock now (Awaited successor) p e = absurd cc
released_pass lock now (Free kept) p e = absurd cc
released_pass lock now (Held None) p e = absurd cc
released_pass lock now (Held (Some w)) p e = (w, refl, same_Some (pass_to lock w now) p e)

forwarded_at_pass : (lock : ℕ) (w : Waiter) (x : LockState) (p : Pass) → pass_of (forwarded_at lock w x) ≡ Some p
    → (kept : List ℕ) × (free_in x ≡ Some kept) × (pass_to lock w kept ≡ p)
forwarded_at_pass lock w Away p e = absurd cc
forwarded_at_pass lock w (Awaited None) p e = absurd cc
forwarded_at_pass lock w (Awaited (Some first)) p e = absurd cc
forwarded_at_pass lock w (Free kept) p e = (kept, refl, same_Some (pass_to lock w kept) p e)
forwarded_at_pass lock w (Held None) p e = absurd cc
forwarded_at_pass lock w (Held (Some first)) p e = absurd cc

forwarded_pass : (lock : ℕ) (w : Waiter) (x : LockState) (p : Pass) (b : Bool) → pass_of (if b then refuses NotMine else forwarded_at lock w x) ≡ Some p
    → (b ≡ false) × (kept : List ℕ) × (free_in x ≡ Some kept) × (pass_to lock w kept ≡ p)
forwarded_pass lock w x p true e = absurd cc
forwarded_pass lock w x p false e = let it : _ = forwarded_at_pass lock w x p e in (refl, it.0, it.1, it.2)

-- ---- times that were, and news for a node

-- so long, covering only what was closed, and covered by the node's time
record IsPast (nodes : ℕ) (made : List StoredRecord) (time kept : List ℕ) : Type 0 where
  long : length kept ≡ nodes
  full : IsFull made kept
  below : Covers time kept

-- so long, covering only what was closed, and with just the intervals above this time
pub record IsNewsFor (nodes : ℕ) (made : List StoredRecord) (before : List ℕ) (m : LockGrantRecord) : Type 0 where
  pub long : length m.time ≡ nodes
  pub full : IsFull made m.time
  pub between : (q : ℕ) → q < nodes → indices_by m.intervals q ≡ range_with_len (entry before q + 1) (entry m.time q - entry before q)

-- what a store tells between two times is news for a node with the first
told_news : (nodes : ℕ) (made : List StoredRecord) (time : List ℕ) (memory : Memory) (lock : ℕ) (since upto : List ℕ) → StoresExactly time memory
    → Covers since memory.collected → Covers time upto → length upto ≡ nodes → IsFull made upto
    → IsNewsFor nodes made since (record { lock = lock; time = upto; intervals = newer_of memory.store since upto })
told_news nodes made time memory lock since upto exact low high long full = record {
  long = long;
  full = full;
  between = λ q lt. newer-indices time memory since upto q exact (low q) (high q);
}

pub unbound_since : (copy : Copy) → SinceIn (λ t. Unit {0}) copy
unbound_since (valid values) = tt
unbound_since (written values twin) = tt
unbound_since (invalid values since) = tt
unbound_since absent = tt

module _ (program : Program) (nodes : ℕ) (options : OptionsRecord) where
  abbrev KeepsPast : World → List StoredRecord → Type 0
  KeepsPast world made = (n k : ℕ) (l : Logged) (kept : List ℕ) → slice_get world.nodes n ≡ Some l → free_in (lock_at l.node.locks.held k) ≡ Some kept
      → IsPast nodes made l.node.locks.time kept

  abbrev pub GrantsNews : World → List StoredRecord → Type 0
  GrantsNews world made = (e : EnvelopeRecord) (m : LockGrantRecord) (l : Logged) → Contains (pending world) e → e.message ≡ LockGrant m
      → slice_get world.nodes e.to ≡ Some l → IsNewsFor nodes made l.node.locks.time m

  -- ---- one turn

  module _ (world : World) (made : List StoredRecord) (flight : List Flying) (n : ℕ) (l after : Logged) (input : Input) (log_entry : EntryRecord)
      (at : slice_get world.nodes n ≡ Some l) (come : Comes world n input flight) (i : IsEntry l input log_entry after)
      (r : IsReached program nodes options world) (r' : IsReached program nodes options (with_turn world flight n log_entry after))
      (h : History program nodes options world made) where
    abbrev next : World
    next = with_turn world flight n log_entry after

    abbrev now_made : List StoredRecord
    now_made = made ++ closed_by l.node after.node

    abbrev node : Node
    node = l.node

    p : Placed nodes n l.node
    p = placed program nodes options world r n l at

    there : slice_get next.nodes n ≡ Some after
    there = get_set_same world.nodes n l after at

    p' : Placed nodes n after.node
    p' = placed program nodes options next r' n after there

    listed : AreListed nodes made
    listed = all_listed program nodes options world made h

    counted : Counted made l.node.setting.me (entry l.node.locks.time l.node.setting.me)
    counted = subst (λ k. Counted made k (entry l.node.locks.time k)) (sym p.me) ((all_made program nodes options world made h).exact n l at)

    still_full : (t : List ℕ) → IsFull made t → IsFull now_made t
    still_full t f = full_still nodes n l.node made p listed counted after.node.locks.time t f

    -- the node's time then
    time_full : IsFull now_made after.node.locks.time
    time_full =
        (all_cuts program nodes options next now_made (one_more world made flight n l after input log_entry at come i r r' h)).times n after there

    turned : TurnBy l.node (pending world) input log_entry.turn after.node (pending next)
    turned = turn_at program nodes options world flight n l after input log_entry at come i r

    -- ---- kept times

    frees_of : (turn : TurnRecord) (x : Node) → x ≡ after.node → Stepped l.node (pending world) (pending next) turn x → Frees (site_of l.node) after.node.locks
    frees_of _ _ e (stepped_again g) = λ k kept is. inl (ap (λ (y : Node). free_in (lock_at y.locks.held k)) e ∙ is)
    frees_of turn x e (once came o brought within sent g) =
        let here : Sent l.node came turn after.node = subst (Sent l.node came turn) e sent in
        turn_frees (site_of l.node) came here.acts after.node.mail.wait after.node.locks after.node.barrier here.letters here.sent

    keeps_past : KeepsPast world made → KeepsPast next now_made
    keeps_past past q k lq kept at_q is =
        each_node (λ q (lq : Logged). (k : ℕ) (kept : List ℕ) → free_in (lock_at lq.node.locks.held k) ≡ Some kept
        → IsPast nodes now_made lq.node.locks.time kept)
        world n l after at own
        (λ q lq at_q k kept is.
        let was : IsPast nodes made lq.node.locks.time kept = past q k lq kept at_q is in
        record { long = was.long; full = still_full kept was.full; below = was.below })
        q lq at_q k kept is
      where
        own : (k : ℕ) (kept : List ℕ) → free_in (lock_at after.node.locks.held k) ≡ Some kept → IsPast nodes now_made after.node.locks.time kept
        own k kept is =
            ⊎_elim
            (λ (old : free_in (lock_at l.node.locks.held k) ≡ Some kept).
            let was : IsPast nodes made l.node.locks.time kept = past n k l kept at old in
            record {
              long = was.long;
              full = still_full kept was.full;
              below = covers-trans after.node.locks.time l.node.locks.time kept
                  (turn-grows l.node (pending world) input log_entry.turn after.node (pending next) turned) was.below;
            })
            (λ (new : after.node.locks.time ≡ kept).
            subst (IsPast nodes now_made after.node.locks.time) new
            (record { long = p'.long; full = time_full; below = covers-refl after.node.locks.time }))
            (frees_of log_entry.turn after.node refl (stepped program nodes options world flight n l after input log_entry at come i r) k kept is)

    -- ---- grants that were pending

    grant-still : GrantsNews world made → (e : EnvelopeRecord) (m : LockGrantRecord) (lb : Logged) → Contains (pending world) e → Contains (pending next) e
        → e.message ≡ LockGrant m → slice_get next.nodes e.to ≡ Some lb → IsNewsFor nodes now_made lb.node.locks.time m
    grant-still news e m lb c c' is at_b = elim (cases_eq n e.to) [
      | inl to ↦
          let lb_is : after ≡ lb = same_Some after lb (sym there ∙ ap (slice_get next.nodes) to ∙ at_b) in
          let at_l : slice_get world.nodes e.to ≡ Some l = ap (slice_get world.nodes) (sym to) ∙ at in
          let was : IsNewsFor nodes made l.node.locks.time m = news e m l c is at_l in
          let time_is : l.node.locks.time ≡ after.node.locks.time =
          ⊎_elim
          (λ (unmoved : after.node.locks.time ≡ l.node.locks.time). sym unmoved)
          (λ waits. ⊎_elim
          (λ (idle : is_granting l.node.mail.wait ≡ false). absurd (false≢true (sym idle ∙ grant_granting program nodes options world r e m l c is at_l)))
          (λ (idle : is_granting after.node.mail.wait ≡ false).
          absurd (false≢true (sym idle ∙ grant_granting program nodes options next r' e m after c' is (ap (slice_get next.nodes) (sym to) ∙ there))))
          waits)
          (waits_of log_entry.turn after.node refl (stepped program nodes options world flight n l after input log_entry at come i r)) in
          subst (λ (x : Logged). IsNewsFor nodes now_made x.node.locks.time m) lb_is
          (subst (λ t. IsNewsFor nodes now_made t m) time_is (record { long = was.long; full = still_full m.time was.full; between = was.between }))
      | inr ne ↦
          let was : IsNewsFor nodes made lb.node.locks.time m = news e m lb c is (sym (get_set_other world.nodes n e.to after ne) ∙ at_b) in
          record { long = was.long; full = still_full m.time was.full; between = was.between }
    ]
      where
        waits_of : (turn : TurnRecord) (x : Node) → x ≡ after.node → Stepped l.node (pending world) (pending next) turn x
            → (after.node.locks.time ≡ l.node.locks.time) ⊎ ((is_granting l.node.mail.wait ≡ false) ⊎ (is_granting after.node.mail.wait ≡ false))
        waits_of _ _ e (stepped_again g) = inl (ap (λ (y : Node). y.locks.time) (sym e))
        waits_of turn x e (once came o brought within sent g) =
            let here : Sent l.node came turn after.node = subst (Sent l.node came turn) e sent in
            (turn_asks (site_of l.node) came here.acts after.node.mail.wait after.node.locks after.node.barrier here.letters here.sent).times

    -- ---- grants that are sent

    -- to another node, whose time is said
    granted_to_other : (q : ℕ) (lb : Logged) (time : List ℕ) (memory : Memory) (pass : Pass) (m : LockGrantRecord) → (n ≡ q → ⊥)
        → slice_get next.nodes q ≡ Some lb → Says (pending world) world.nodes q pass.since → StoresExactly time memory
        → memory.collected ≡ l.node.memory.collected → Covers time pass.upto → length pass.upto ≡ nodes → IsFull now_made pass.upto
        → record { lock = pass.lock; time = pass.upto; intervals = newer_of memory.store pass.since pass.upto } ≡ m
        → IsNewsFor nodes now_made lb.node.locks.time m
    granted_to_other q lb time memory pass m ne at_b says exact collected high long full is =
        let before : slice_get world.nodes q ≡ Some lb = sym (get_set_other world.nodes n q after ne) ∙ at_b in
        let time_is : lb.node.locks.time ≡ pass.since = all_ask_so program nodes options world r q lb pass.since before says in
        let covered : Covers lb.node.locks.time l.node.memory.collected =
        collected_covered program nodes options world r n q l lb at before in
        subst (IsNewsFor nodes now_made lb.node.locks.time) is
        (subst (λ t. IsNewsFor nodes now_made t (record { lock = pass.lock; time = pass.upto; intervals = newer_of memory.store pass.since pass.upto }))
        (sym time_is)
        (told_news nodes now_made time memory pass.lock pass.since pass.upto exact
        (subst (λ t. Covers t memory.collected) time_is (subst (Covers lb.node.locks.time) (sym collected) covered)) high long full))

    abbrev Unbound : List ℕ → Type 0
    Unbound t = Unit {0}

    any_timely : Timely Unbound l.node.memory
    any_timely = record { collected = tt; since = λ page. unbound_since (copy_at l.node.memory page) }

    abbrev News : EnvelopeRecord → LockGrantRecord → Logged → Type 0
    News e m lb = IsNewsFor nodes now_made lb.node.locks.time m

    -- with a release
    by_release : (lock : ℕ) (turn : TurnRecord) (e : EnvelopeRecord) (m : LockGrantRecord) (lb : Logged) → run_turn l.node ≡ done turn after.node
        → map letter_in turn.out ≡ grants_of (after_close l.node) (pass_of (released l.node.locks.held lock (next_time l.node.setting.me l.node.locks.time)))
        → Contains turn.out e → e.message ≡ LockGrant m → slice_get next.nodes e.to ≡ Some lb → News e m lb
    by_release lock turn e m lb o letters c is at_b =
        let now : List ℕ = next_time l.node.setting.me l.node.locks.time in
        let it : IsPassed (after_close l.node) (pass_of (released l.node.locks.held lock now)) e m =
        passed (after_close l.node) (pass_of (released l.node.locks.held lock now)) turn.out e m letters c is in
        let w : (w : Waiter) × (waiter_in (lock_at l.node.locks.held lock) ≡ Some w) × (pass_to lock w now ≡ it.p) =
        released_pass lock now (lock_at l.node.locks.held lock) it.p it.pass_is in
        let says : Says (pending world) world.nodes e.to it.p.since =
        by_waiter n lock l w.0 at w.1 (ap (λ (x : Pass). x.to) w.2 ∙ sym it.to_is) (ap (λ (x : Pass). x.since) w.2) in
        let idle : is_granting l.node.mail.wait ≡ false = runs-idle l.node l.node.mail.wait turn after.node o in
        let other : n ≡ e.to → ⊥ = λ to.
        false≢true (sym idle ∙ asks_granting program nodes options world r e.to l it.p.since (ap (slice_get world.nodes) (sym to) ∙ at) says) in
        let shape : NodeShape (setting_of program nodes n) options (record { node = l.node; turns = turns_of l.log }) =
        shape_at program nodes options r.events world n l r.runs at in
        let own_shape : HasShape l.node.setting l.node.locks = subst (λ (s : Setting). HasShape s l.node.locks) (sym shape.setting) shape.shape in
        let sent : Sent l.node by_itself turn after.node = sent_of turn (subst (SendingIf l.node run) o (sendings l.node run own_shape)) in
        let then_time : after.node.locks.time ≡ now =
        released_then (site_of l.node) sent.acts after.node.mail.wait after.node.locks after.node.barrier sent.letters sent.sent (letter_in e)
        (subst (λ ls. Contains ls (letter_in e)) sent.out (letter_out turn.out e c)) (ap is_lock_grant is) in
        let upto_is : now ≡ it.p.upto = ap (λ (x : Pass). x.upto) w.2 in
        granted_to_other e.to lb now (after_close l.node).memory it.p m other at_b says
        (closes-exact nodes 0 l.node.setting.me l.node.locks.time l.node.memory (subst (λ k. k < nodes) (sym p.me) p.within) p.long (exact_at l.node p.reached))
        refl (subst (Covers now) upto_is (covers-refl now))
        (subst (λ t. length t ≡ nodes) upto_is (subst (λ t. length t ≡ nodes) then_time p'.long))
        (subst (IsFull now_made) (then_time ∙ upto_is) time_full) it.grant_is
      where
        sent_of : (turn : TurnRecord) → Sending l.node run turn after.node → Sent l.node by_itself turn after.node
        sent_of turn (sent_alone k) = k

    -- with a request that is passed on
    by_passing : KeepsPast world made → (e0 : EnvelopeRecord) (f : LockForwardRecord) (turn : TurnRecord) (e : EnvelopeRecord) (m : LockGrantRecord)
        (lb : Logged)
        → Contains (pending world) e0 → e0.message ≡ LockForward f
        → map letter_in turn.out ≡ grants_of l.node (pass_of (forwarded l.node.locks.held f.lock f.asker f.time))
        → Contains turn.out e → e.message ≡ LockGrant m → slice_get next.nodes e.to ≡ Some lb → News e m lb
    by_passing past e0 f turn e m lb c0 is0 letters c is at_b =
        let waiter : Waiter = record { node = f.asker; time = f.time } in
        let it : IsPassed l.node (pass_of (forwarded l.node.locks.held f.lock f.asker f.time)) e m =
        passed l.node (pass_of (forwarded l.node.locks.held f.lock f.asker f.time)) turn.out e m letters c is in
        let k : _ = forwarded_pass f.lock waiter (lock_at l.node.locks.held f.lock) it.p (f.asker == l.node.locks.held.me) it.pass_is in
        let kept : List ℕ = k.1 in
        let was : IsPast nodes made l.node.locks.time kept = past n f.lock l kept at k.2 in
        let upto_is : kept ≡ it.p.upto = ap (λ (x : Pass). x.upto) k.3 in
        let to_is : f.asker ≡ e.to = ap (λ (x : Pass). x.to) k.3 ∙ sym it.to_is in
        let says : Says (pending world) world.nodes e.to it.p.since =
        by_forward e0 f c0 is0 to_is (ap (λ (x : Pass). x.since) k.3) in
        let shape : NodeShape (setting_of program nodes n) options (record { node = l.node; turns = turns_of l.log }) =
        shape_at program nodes options r.events world n l r.runs at in
        let other : n ≡ e.to → ⊥ = λ to.
        false≢true (sym k.0 ∙ eq-eqb f.asker l.node.locks.held.me (to_is ∙ sym to ∙ sym shape.shape.holder)) in
        granted_to_other e.to lb l.node.locks.time l.node.memory it.p m other at_b says (exact_at l.node p.reached) refl
        (subst (Covers l.node.locks.time) upto_is was.below) (subst (λ t. length t ≡ nodes) upto_is was.long)
        (subst (IsFull now_made) upto_is (still_full kept was.full)) it.grant_is

    by_run : (turn : TurnRecord) (e : EnvelopeRecord) (m : LockGrantRecord) (lb : Logged) → run_turn l.node ≡ done turn after.node
        → (step : Next) → RunSays Unbound l.node step (map letter_in turn.out)
        → Contains turn.out e → e.message ≡ LockGrant m → slice_get next.nodes e.to ≡ Some lb → News e m lb
    by_run turn e m lb o (releases lock rest) s c is at_b = by_release lock turn e m lb o s c is at_b
    by_run turn e m lb o (quiet rest) s c is at_b = silent-none (News e m lb) turn.out s e m c is
    by_run turn e m lb o (prints value rest) s c is at_b = silent-none (News e m lb) turn.out s e m c is
    by_run turn e m lb o (reads word rest) s c is at_b = silent-none (News e m lb) turn.out s e m c is
    by_run turn e m lb o (writes word value rest) s c is at_b = silent-none (News e m lb) turn.out s e m c is
    by_run turn e m lb o (acquires lock rest) s c is at_b = silent-none (News e m lb) turn.out s e m c is
    by_run turn e m lb o (arrives rest) s c is at_b =
        let arrival : Letter = arrival_of (after_close l.node) (l.node.barrier.episode + 1) in
        let one : arrival ≡ letter_in e = only_letter arrival (letter_in e) (subst (λ ls. Contains ls (letter_in e)) s (letter_out turn.out e c)) in
        absurd (false≢true (ap (λ (x : Letter). is_lock_grant x.message) one ∙ ap is_lock_grant is))
    by_run turn e m lb o (departs rest) s c is at_b = silent-none (News e m lb) turn.out s e m c is
    by_run turn e m lb o (traps cause) s c is at_b = silent-none (News e m lb) turn.out s e m c is
    by_run turn e m lb o ends s c is at_b = silent-none (News e m lb) turn.out s e m c is

    by_message : KeepsPast world made → (e0 : EnvelopeRecord) (message : Message) (turn : TurnRecord) (e : EnvelopeRecord) (m : LockGrantRecord) (lb : Logged)
        → Contains (pending world) e0 → e0.message ≡ message → SaysTo Unbound l.node e0.from message (map letter_in turn.out)
        → Contains turn.out e → e.message ≡ LockGrant m → slice_get next.nodes e.to ≡ Some lb → News e m lb
    by_message past e0 (LockForward f) turn e m lb c0 is0 s c is at_b = by_passing past e0 f turn e m lb c0 is0 s c is at_b
    by_message past e0 (ChangesRequest q) turn e m lb c0 is0 s c is at_b =
        let one : changes_reply_to l.node e0.from q.page q.indices ≡ letter_in e =
        only_letter (changes_reply_to l.node e0.from q.page q.indices) (letter_in e)
        (subst (λ ls. Contains ls (letter_in e)) s (letter_out turn.out e c)) in
        absurd (false≢true (ap (λ (x : Letter). is_lock_grant x.message) one ∙ ap is_lock_grant is))
    by_message past e0 (LockRequest q) turn e m lb c0 is0 s c is at_b = silent-none (News e m lb) turn.out s e m c is
    by_message past e0 (LockGrant q) turn e m lb c0 is0 s c is at_b = silent-none (News e m lb) turn.out s e m c is
    by_message past e0 (Arrive q) turn e m lb c0 is0 s c is at_b = silent-none (News e m lb) turn.out s e m c is
    by_message past e0 (Depart q) turn e m lb c0 is0 s c is at_b = silent-none (News e m lb) turn.out s e m c is
    by_message past e0 (Clean episode) turn e m lb c0 is0 s c is at_b = silent-none (News e m lb) turn.out s e m c is
    by_message past e0 (Discard episode) turn e m lb c0 is0 s c is at_b = silent-none (News e m lb) turn.out s e m c is
    by_message past e0 (ChangesReply q) turn e m lb c0 is0 s c is at_b = silent-none (News e m lb) turn.out s e m c is
    by_message past e0 (PageRequest page) turn e m lb c0 is0 s c is at_b = silent-none (News e m lb) turn.out s e m c is
    by_message past e0 (PageReply q) turn e m lb c0 is0 s c is at_b = silent-none (News e m lb) turn.out s e m c is

    grants_by : KeepsPast world made → GrantsNews world made → (input' : Input) (turn : TurnRecord) (x : Node) → x ≡ after.node
        → TurnBy l.node (pending world) input' turn x (pending next) → GrantsNews next now_made
    grants_by past news _ turn x same_x (alone o k g) e m lb c is at_b =
        ⊎_elim
        (λ (old : Contains (pending world) e). grant-still news e m lb old c is at_b)
        (λ (new : Contains turn.out e).
        let went : Turned Unbound (GoesSaying Unbound l.node) turn x = run-turned Unbound l.node turn x o any_timely in
        by_run turn e m lb (subst (λ y. run_turn l.node ≡ done turn y) same_x o) went.says.0 went.says.1 new is at_b)
        (Contains-append_cases (pending world) turn.out e (subst (λ es. Contains es e) g c))
    grants_by past news _ _ _ same_x (again e0 g) e m lb c is at_b = grant-still news e m lb (subst (λ es. Contains es e) g c) c is at_b
    grants_by past news _ turn x same_x (anew e0 t k lost) e m lb c is at_b =
        ⊎_elim
        (λ (left : Contains (lost.front ++ lost.back) e).
        grant-still news e m lb
        (subst (λ es. Contains es e) (sym lost.before)
        (⊎_elim (λ (front : Contains lost.front e). Contains-append_left lost.front (e0 ∷ lost.back) e front)
        (λ (back : Contains lost.back e). Contains-append_right lost.front (e0 ∷ lost.back) e (Contains-later e0 lost.back e back))
        (Contains-append_cases lost.front lost.back e left)))
        c is at_b)
        (λ (new : Contains turn.out e).
        let told : Turned Unbound (SaysTo Unbound l.node e0.from e0.message) turn x =
        took-turned Unbound l.node e0 turn x t tt (ranged_at l.node p.reached).present any_timely in
        by_message past e0 e0.message turn e m lb
        (subst (λ es. Contains es e0) (sym lost.before) (Contains-append_right lost.front (e0 ∷ lost.back) e0 (Contains-first e0 lost.back)))
        refl told.says new is at_b)
        (Contains-append_cases (lost.front ++ lost.back) turn.out e (subst (λ es. Contains es e) lost.after c))

  -- ---- every history

  past-history : KeptByHistory program nodes options (λ world made. KeepsPast world made)
  past-history world made flight n l after input log_entry at come i r r' h past =
      keeps_past world made flight n l after input log_entry at come i r r' h past

  free-first : (me count : ℕ) (locks : List ℕ) (k : ℕ) (kept : List ℕ) → free_in (slice_index_or (map (first_state me count) locks) k Away) ≡ Some kept
      → zeros count ≡ kept
  free-first me count [] k kept e = absurd cc
  free-first me count (lock ∷ locks) zero kept e = by_test (manager_of count lock == me) e
    where
      by_test : (b : Bool) → free_in (if b then Free (zeros count) else Away) ≡ Some kept → zeros count ≡ kept
      by_test true e = same_Some (zeros count) kept e
      by_test false e = absurd cc
  free-first me count (lock ∷ locks) (suc k) kept e = free-first me count locks k kept e

  past-fresh : KeepsPast (fresh_world program nodes options) []
  past-fresh n k l kept at e =
      let is : l ≡ _ = fresh_at program nodes options 0 nodes n l at in
      let zero_is : zeros nodes ≡ kept =
      free-first (0 + n) nodes (range_with_len 0 program.locks) k kept (ap (λ (x : Logged). free_in (lock_at x.node.locks.held k)) (sym is) ∙ e) in
      subst (λ (x : Logged). IsPast nodes [] x.node.locks.time kept) (sym is)
      (subst (IsPast nodes [] (zeros nodes)) zero_is
      (record { long = length-zeros nodes; full = zeros-full nodes; below = covers-refl (zeros nodes) }))

  all_past : (world : World) (made : List StoredRecord) → History program nodes options world made → KeepsPast world made
  all_past world made h = by_history program nodes options (λ world made. KeepsPast world made) past-fresh past-history world made h

  grants-history : KeptByHistory program nodes options (λ world made. GrantsNews world made)
  grants-history world made flight n l after input log_entry at come i r r' h news =
      grants_by world made flight n l after input log_entry at come i r r' h (all_past world made h) news input log_entry.turn after.node refl
      (turned world made flight n l after input log_entry at come i r r' h)

  pub all_grants : (world : World) (made : List StoredRecord) → History program nodes options world made → GrantsNews world made
  all_grants world made h =
      by_history program nodes options (λ world made. GrantsNews world made) (λ e m l c is at. absurd (none_Contains e c)) grants-history world made h

  -- so its receiver can learn it
  pub grant_learnable : (world : World) (made : List StoredRecord) → History program nodes options world made → (e : EnvelopeRecord) (m : LockGrantRecord)
      (l : Logged) → Contains (pending world) e → e.message ≡ LockGrant m → slice_get world.nodes e.to ≡ Some l → is_learnable l.node m.time m.intervals ≡ true
  grant_learnable world made h e m l c is at =
      let news : IsNewsFor nodes made l.node.locks.time m = all_grants world made h e m l c is at in
      learnable_from program nodes options world made h e.to l at m.time m.intervals news.long news.full
      (subst (λ x. AllMade (map interval_of made) (intervals_in x)) is (told_in (map interval_of made) (pending world) e
      (all_made program nodes options world made h).told c))
      news.between

  -- and would accept it now
  pub get_there : {X : Type 0} (xs : List X) (x : X) → Contains xs x → (k : ℕ) × (slice_get xs k ≡ Some x)
  get_there [] x c = absurd (none_Contains x c)
  get_there (y ∷ xs) x c =
      ⊎_elim
      (λ (first : y ≡ x). (0, ap Some first))
      (λ (later : Contains xs x). let rest : (k : ℕ) × (slice_get xs k ≡ Some x) = get_there xs x later in (suc rest.0, rest.1))
      (cases_Contains y xs x c)

  pub grant_expected : (events : List Event) (world : World) (e : EnvelopeRecord) (m : LockGrantRecord) (l : Logged)
      → run_of program nodes options events ≡ Some world → Contains (pending world) e → e.message ≡ LockGrant m → slice_get world.nodes e.to ≡ Some l
      → is_expected l.node e.from e.message ≡ true
  grant_expected events world e m l runs c is at =
      let h : (made : List StoredRecord) × History program nodes options world made = history_of program nodes options events world runs in
      let place : (k : ℕ) × (slice_get (pending world) k ≡ Some e) = get_there (pending world) e c in
      let awaited : (m.lock < program.locks) × (awaits_grant m.lock l.node.mail.wait ≡ true) =
      grant_awaited program nodes options events world runs place.0 e place.1 l at m is in
      let shape : NodeShape (setting_of program nodes e.to) options (record { node = l.node; turns = turns_of l.log }) =
      shape_at program nodes options events world e.to l runs at in
      ap (is_expected l.node e.from) is
      ∙ conditions l.node e.from (LockGrant m)
      ∙ and_from _ _
      (and_from _ _ (lt-ltb m.lock l.node.setting.locks (subst (λ (s : Setting). m.lock < s.locks) (sym shape.setting) awaited.0)) awaited.1)
      (grant_learnable world h.0 h.1 e m l c is at)
