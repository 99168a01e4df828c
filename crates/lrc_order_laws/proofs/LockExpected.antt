-- In every run each pending message of locks is expected by its receiver.
use Rattle.std.proofs.Common.{◌≡◌, ◌⊎◌, ℕ, ◌<◌, List, Bool, true, false, cond, length, refl, sym, ap, subst, ◌∙◌, inl, inr, arith}
use Rattle.std.specs.Prelude.{Option, Some, None, ◌==◌, ◌&&◌, nat_lt, count_by, slice_get, if◌then◌else◌}
use Rattle.std.proofs.lemmas.Bool.{eq-eqb, ne_eqb, lt-ltb, and_from}
use Rattle.lrc_program.specs.declared.Program.{Program}
use Rattle.lrc_exec.specs.Meaning.{Setting}
use Rattle.lrc_exec.specs.Plain.{setting_of}
use Rattle.lrc_envelope.specs.Envelope.{EnvelopeRecord}
use Rattle.lrc_envelope.specs.Records.{LockRequestRecord, LockForwardRecord, LockGrantRecord}
use Rattle.lrc_envelope.specs.declared.message.Message.{Message}
use Rattle.lrc_envelope.specs.declared.message.Message.TheVariants.{LockRequest, LockForward, LockGrant, Arrive, Depart, Clean, Discard}
use Rattle.lrc_envelope.specs.declared.message.Message.TheVariants.{ChangesRequest, ChangesReply, PageRequest, PageReply}
use Rattle.lrc_lock.specs.declared.fault.LockFault.TheVariants.{NotMine}
use Rattle.lrc_lock.specs.declared.state.LockState.{LockState}
use Rattle.lrc_lock.specs.declared.state.LockState.TheVariants.{Away, Awaited, Free, Held}
use Rattle.lrc_lock.specs.Lock.{manager_of}
use Rattle.lrc_lock.specs.Held.{refuses, lock_at, forwarded_at, is_taken}
use Rattle.lrc_protocol.specs.declared.event.Event.{Event}
use Rattle.lrc_protocol.specs.Node.{awaits_grant, Node, OptionsRecord}
use Rattle.lrc_protocol.specs.Turn.{TurnRecord}
use Rattle.lrc_protocol.specs.Follows.{is_expected}
use Rattle.lrc_protocol.specs.Run.{Logged, World, with_turn, run_of}
use Rattle.lrc_protocol.specs.Follows.{pending}
use Rattle.lrc_protocol.specs.Follows.{turns_of}
use Rattle.lrc_protocol.proofs.Worlds.{get_set_same}
use Rattle.lrc_protocol.proofs.Expecting.{conditions}
use Rattle.lrc_order_laws.specs.Shape.{HasShape}
use Rattle.lrc_lock.specs.Held.{is_awaited}
use Rattle.lrc_order_laws.proofs.Shift.{AllFrom}
use Rattle.lrc_order_laws.proofs.Shape.{shape_at}
use Rattle.lrc_order_laws.proofs.Calls.{let_go}
use Rattle.lrc_order_laws.proofs.Pending.{Goes}
use Rattle.lrc_order_laws.proofs.TextHolds.{acquired_below}
use Rattle.lrc_order_laws.proofs.Held.{Tokened, tokened_at}
use Rattle.lrc_order_laws.proofs.Sends.{Came, by_itself, comes, site_of, Sent}
use Rattle.lrc_order_laws.proofs.Flows.{AllOf, Brings, IsFromNode, Stepped, again, once, stepped}
use Rattle.lrc_order_laws.proofs.Reached.{IsReached, KeptByReached, by_reached}
use Rattle.lrc_order_laws.proofs.LockMoves.{held_within}
use Rattle.lrc_order_laws.proofs.LockMessages.{request, forward, grant, saying, asks, onto, granted_to, said}
use Rattle.lrc_order_laws.proofs.LockPasses.{recent_in}
use Rattle.lrc_order_laws.proofs.LockBalance.{awaits, is_node, Balanced, takes_on, granted_awaits, asker_is_another}
use Rattle.lrc_order_laws.proofs.LockStands.{AllBalanced, last_asker, numbers_of, recent_at, all_balanced, saying_so}
use Rattle.lrc_order_laws.proofs.LockContents.{IsSound, SoundMessage, FromNode, AsksAnew, sends_sound, sound-sent, all-goes, all-at, counted-at, counted-in}
use Rattle.lrc_order_laws.proofs.TokenWorlds.{state_in, some_node}

module _ (program : Program) (nodes : ℕ) (options : OptionsRecord) where
  abbrev AllSound : World → Type 0
  AllSound world = AllOf (SoundMessage nodes program.locks) (pending world)

  module _ (world : World) (a : ℕ) (l : Logged) (at : slice_get world.nodes a ≡ Some l) (reached : IsReached program nodes options world) where
    known : Tokened (setting_of program nodes a) options (record { node = l.node; turns = turns_of l.log })
    known = tokened_at program nodes options reached.events world a l reached.runs at

    setting : l.node.setting ≡ setting_of program nodes a
    setting = known.shape.setting

    shape : HasShape l.node.setting l.node.locks
    shape = subst (λ (s : Setting). HasShape s l.node.locks) (sym setting) known.shape.shape

    -- who asks is not who asked last, as its request was pending
    anew_by : (o : Option EnvelopeRecord) (out now : List EnvelopeRecord) (from : ℕ) (message : Message) → Brings l.node.setting.me (comes from message) o
        → Goes o (pending world) out now → AsksAnew (site_of l.node) (comes from message)
    anew_by None out now from message b g = absurd b
    anew_by (Some e) out now from (LockRequest m) b g = λ lt mine last.
        let k : ℕ = m.lock in
        let locks_are : l.node.setting.locks ≡ program.locks = ap (λ (s : Setting). s.locks) setting in
        let within : k < program.locks = subst (λ j. k < j) locks_are lt in
        let manages : manager_of nodes k ≡ a = subst (λ (s : Setting). manager_of s.nodes k ≡ s.me) setting mine in
        let all : AllBalanced nodes k (pending world) world.nodes =
        (all_balanced program nodes options reached.events world reached.runs).each k within
        (some_node program nodes options reached.events world a l reached.runs at) in
        let test : EnvelopeRecord → Bool = λ e. asks from e.from e.to (saying k e.message) in
        let is : test e ≡ true =
        ap (λ message. asks from e.from e.to (saying k message)) b.2 ∙ ap (asks from e.from e.to) (said k k request refl) ∙ eq-eqb e.from from b.1 in
        let some : 0 < saying_so k (asks from) (pending world) = subst (λ es. 0 < count_by test es) (sym g.before) (counted-in test g.front g.back e is) in
        let other : is_node (last_asker nodes k world.nodes) from ≡ 0 =
        asker_is_another from (last_asker nodes k world.nodes) (numbers_of k from (pending world) world.nodes) (state_in k (slice_get world.nodes from))
        (all from) some in
        let recent : last_asker nodes k world.nodes ≡ recent_in l.node.locks k =
        ap (λ m. recent_at k (slice_get world.nodes m)) manages ∙ ap (recent_at k) at in
        let one : is_node (last_asker nodes k world.nodes) from ≡ 1 = ap (λ b. cond b 1 0) (eq-eqb (last_asker nodes k world.nodes) from (recent ∙ sym last)) in
        absurd (omega (arith, other, one))
    anew_by (Some e) out now from (LockForward m) b g = tt
    anew_by (Some e) out now from (LockGrant m) b g = tt
    anew_by (Some e) out now from (Arrive m) b g = tt
    anew_by (Some e) out now from (Depart m) b g = tt
    anew_by (Some e) out now from (Clean episode) b g = tt
    anew_by (Some e) out now from (Discard episode) b g = tt
    anew_by (Some e) out now from (ChangesRequest m) b g = tt
    anew_by (Some e) out now from (ChangesReply m) b g = tt
    anew_by (Some e) out now from (PageRequest page) b g = tt
    anew_by (Some e) out now from (PageReply m) b g = tt

    anew : (came : Came) (o : Option EnvelopeRecord) (out now : List EnvelopeRecord) → Brings l.node.setting.me came o → Goes o (pending world) out now
        → AsksAnew (site_of l.node) came
    anew by_itself o out now b g = tt
    anew (comes from message) o out now b g = anew_by o out now from message b g

    from_node : (came : Came) → IsFromNode l.node.setting.nodes came → FromNode l.node.setting.nodes came
    from_node by_itself f = tt
    from_node (comes from message) f = f

    sent_sound : (came : Came) (o : Option EnvelopeRecord) (turn : TurnRecord) (after : Node) (now : List EnvelopeRecord) → Brings l.node.setting.me came o
        → IsFromNode l.node.setting.nodes came → Goes o (pending world) turn.out now → (sent : Sent l.node came turn after) → AllFrom l.node.setting.me turn.out
        → AllOf (SoundMessage nodes program.locks) turn.out
    sent_sound came o turn after now b within g sent from =
        subst (λ (s : Setting). AllOf (SoundMessage s.nodes s.locks) turn.out) setting
        (sound-sent l.node.setting.nodes l.node.setting.locks l.node.setting.me turn.out sent.letters from sent.out
        (sends_sound (site_of l.node)
        (λ lock next. subst (λ (s : Setting). lock < s.locks) (sym setting) (acquired_below (setting_of program nodes a) l.node.course known.text lock next))
        (λ lock t next. subst (λ k. lock < k) shape.tokens (held_within l.node.locks.held.locks lock
        (let_go l.node.course l.node.locks.held lock t known.holding next)))
        shape.times came sent.acts after.mail.wait after.locks after.barrier sent.letters (from_node came within) (anew came o turn.out now b g) sent.sent))

    by_step : (now : List EnvelopeRecord) (turn : TurnRecord) (after : Node) → Stepped l.node (pending world) now turn after → after.setting ≡ l.node.setting
        → AllSound world → AllOf (SoundMessage nodes program.locks) now
    by_step now _ _ (again is) e h = subst (AllOf (SoundMessage nodes program.locks)) (sym is) h
    by_step now turn after (once came o brought within sent goes) e h =
        all-goes (SoundMessage nodes program.locks) o (pending world) turn.out now goes h
        (sent_sound came o turn after now brought within goes sent (subst (λ (s : Setting). AllFrom s.me turn.out) e sent.from))

  sound-kept : KeptByReached program nodes options AllSound
  sound-kept world flight n l after input entry at come i reached reached' h =
      let own : l.node.setting ≡ setting_of program nodes n = (shape_at program nodes options reached.events world n l reached.runs at).setting in
      let own' : after.node.setting ≡ setting_of program nodes n =
      (shape_at program nodes options reached'.events (with_turn world flight n entry after) n after reached'.runs
      (get_set_same world.nodes n l after at)).setting in
      by_step world n l at reached (pending (with_turn world flight n entry after)) entry.turn after.node
      (stepped program nodes options world flight n l after input entry at come i reached) (own' ∙ sym own) h

  pub all_sound : (events : List Event) (world : World) → run_of program nodes options events ≡ Some world → AllSound world
  all_sound events world e = by_reached program nodes options AllSound sound-kept events world tt e

-- ---- what is expected

own_or_not : (b : Bool) (x : _) → b ≡ false → is_taken x ≡ true → is_taken (if b then refuses NotMine else x) ≡ true
own_or_not true x e t = cc
own_or_not false x e t = t

taken_at : (lock asker : ℕ) (time : List ℕ) (x : LockState) → (x ≡ Awaited None) ⊎ (x ≡ Held None) ⊎ ((kept : List ℕ) × (x ≡ Free kept))
    → is_taken (forwarded_at lock (record { node = asker; time = time }) x) ≡ true
taken_at lock asker time x (inl e) = ap (λ x. is_taken (forwarded_at lock (record { node = asker; time = time }) x)) e
taken_at lock asker time x (inr (inl e)) = ap (λ x. is_taken (forwarded_at lock (record { node = asker; time = time }) x)) e
taken_at lock asker time x (inr (inr (kept, e))) = ap (λ x. is_taken (forwarded_at lock (record { node = asker; time = time }) x)) e

awaited_by : (x : LockState) → awaits x ≡ 1 → is_awaited x ≡ true
awaited_by (Awaited next) e = refl
awaited_by Away e = absurd (omega (arith, e))
awaited_by (Free kept) e = absurd (omega (arith, e))
awaited_by (Held next) e = absurd (omega (arith, e))

module _ (program : Program) (nodes : ℕ) (options : OptionsRecord) (events : List Event) (world : World)
    (runs : run_of program nodes options events ≡ Some world)
    (place : ℕ) (e : EnvelopeRecord) (is : slice_get (pending world) place ≡ Some e) (l : Logged) (at : slice_get world.nodes e.to ≡ Some l) where
  sound : SoundMessage nodes program.locks e
  sound = all-at (SoundMessage nodes program.locks) (pending world) place e (all_sound program nodes options events world runs) is

  own : Tokened (setting_of program nodes e.to) options (record { node = l.node; turns = turns_of l.log })
  own = tokened_at program nodes options events world e.to l runs at

  own_setting : l.node.setting ≡ setting_of program nodes e.to
  own_setting = own.shape.setting

  balance : (k : ℕ) → k < program.locks → Balanced e.to (last_asker nodes k world.nodes) (numbers_of k e.to (pending world) world.nodes)
      (lock_at l.node.locks.held k)
  balance k lt =
      subst (λ o. Balanced e.to (last_asker nodes k world.nodes) (numbers_of k e.to (pending world) world.nodes) (state_in k o)) at
      ((all_balanced program nodes options events world runs).each k lt (some_node program nodes options events world e.to l runs at) e.to)

  pub request_expected : (m : LockRequestRecord) → e.message ≡ LockRequest m → is_expected l.node e.from e.message ≡ true
  request_expected m says =
      let s : IsSound nodes program.locks e.from e.to (LockRequest m) = subst (IsSound nodes program.locks e.from e.to) says sound in
      ap (is_expected l.node e.from) says
      ∙ conditions l.node e.from (LockRequest m)
      ∙ subst (λ (x : Setting). (nat_lt m.lock x.locks && (length m.time == x.nodes) && (manager_of x.nodes m.lock == x.me)) ≡ true) (sym own_setting)
      (and_from _ _ (and_from _ _ (lt-ltb m.lock program.locks s.0) (eq-eqb (length m.time) nodes s.1)) (eq-eqb (manager_of nodes m.lock) e.to s.2))

  pub forward_expected : (m : LockForwardRecord) → e.message ≡ LockForward m → is_expected l.node e.from e.message ≡ true
  forward_expected m says =
      let s : IsSound nodes program.locks e.from e.to (LockForward m) = subst (IsSound nodes program.locks e.from e.to) says sound in
      let test : EnvelopeRecord → Bool = λ x. onto e.to x.from x.to (saying m.lock x.message) in
      let counted : test e ≡ true =
      ap (λ message. onto e.to e.from e.to (saying m.lock message)) says ∙ ap (onto e.to e.from e.to) (said m.lock m.lock (forward m.asker) refl)
      ∙ eq-eqb e.to e.to refl in
      let some : 0 < saying_so m.lock (onto e.to) (pending world) = counted-at test (pending world) place e is counted in
      let takes : is_taken (forwarded_at m.lock (record { node = m.asker; time = m.time }) (lock_at l.node.locks.held m.lock)) ≡ true =
      taken_at m.lock m.asker m.time (lock_at l.node.locks.held m.lock)
      (takes_on e.to (last_asker nodes m.lock world.nodes) (numbers_of m.lock e.to (pending world) world.nodes) (lock_at l.node.locks.held m.lock)
      (balance m.lock s.0) some) in
      let mine : l.node.locks.held.me ≡ e.to = own.shape.shape.holder in
      let another : (m.asker == l.node.locks.held.me) ≡ false = ne_eqb m.asker l.node.locks.held.me (λ same. s.4 (same ∙ mine)) in
      ap (is_expected l.node e.from) says
      ∙ conditions l.node e.from (LockForward m)
      ∙ and_from _ _
      (subst (λ (x : Setting). (nat_lt m.lock x.locks && nat_lt m.asker x.nodes && (length m.time == x.nodes) &&
      (manager_of x.nodes m.lock == e.from)) ≡ true) (sym own_setting)
      (and_from _ _ (and_from _ _ (and_from _ _ (lt-ltb m.lock program.locks s.0) (lt-ltb m.asker nodes s.1)) (eq-eqb (length m.time) nodes s.2))
      (eq-eqb (manager_of nodes m.lock) e.from s.3)))
      (own_or_not (m.asker == l.node.locks.held.me) (forwarded_at m.lock (record { node = m.asker; time = m.time })
      (lock_at l.node.locks.held m.lock)) another takes)

  pub grant_awaited : (m : LockGrantRecord) → e.message ≡ LockGrant m → (m.lock < program.locks) × (awaits_grant m.lock l.node.mail.wait ≡ true)
  grant_awaited m says =
      let lt : m.lock < program.locks = subst (IsSound nodes program.locks e.from e.to) says sound in
      let test : EnvelopeRecord → Bool = λ x. granted_to e.to x.from x.to (saying m.lock x.message) in
      let counted : test e ≡ true =
      ap (λ message. granted_to e.to e.from e.to (saying m.lock message)) says ∙ ap (granted_to e.to e.from e.to) (said m.lock m.lock grant refl)
      ∙ eq-eqb e.to e.to refl in
      let some : 0 < saying_so m.lock (granted_to e.to) (pending world) = counted-at test (pending world) place e is counted in
      let awaited : is_awaited (lock_at l.node.locks.held m.lock) ≡ true =
      awaited_by (lock_at l.node.locks.held m.lock)
      (granted_awaits e.to (last_asker nodes m.lock world.nodes) (numbers_of m.lock e.to (pending world) world.nodes) (lock_at l.node.locks.held m.lock)
      (balance m.lock lt) some) in
      (lt, sym (own.waits m.lock) ∙ awaited)
