-- In every run whoever is said to ask for a lock, by a request, by one that is passed on, or as a successor, waits for a grant and has
-- the time that is said of it.
use Rattle.std.proofs.Common.{◌≡◌, ◌⊎◌, ℕ, zero, suc, ◌+◌, ◌<◌, ◌≤◌, List, [], ◌∷◌, ◌++◌, Bool, true, false, cond}
use Rattle.std.proofs.Common.{length, refl, sym, ap, subst, ◌∙◌, inl, inr, ⊎_elim, arith}
use Rattle.std.specs.Prelude.{Option, Some, None, Contains, count_by, sum_by, slice_get, slice_set}
use Rattle.std.specs.List.{range_with_len}
use Rattle.std.proofs.lemmas.Bool.{cases_eq, cases_lt, eq-eqb, false≢true}
use Rattle.std.proofs.lemmas.List.{get_or_past}
use Rattle.std.proofs.lemmas.List.Sums.{sum_by-cons}
use Rattle.std.proofs.lemmas.List.Elements.{Contains-append_left, Contains-append_right, Contains-append_cases}
use Rattle.std.proofs.lemmas.Option.{same_Some}
use Rattle.lrc_program.specs.declared.Program.{Program}
use Rattle.lrc_exec.specs.Plain.{setting_of}
use Rattle.lrc_envelope.specs.Envelope.{EnvelopeRecord}
use Rattle.lrc_envelope.specs.Records.{LockRequestRecord, LockForwardRecord, LockGrantRecord}
use Rattle.lrc_envelope.specs.declared.message.Message.{Message}
use Rattle.lrc_envelope.specs.declared.message.Message.TheVariants.{LockRequest, LockForward, LockGrant}
use Rattle.lrc_lock.specs.declared.state.Waiter.{Waiter}
use Rattle.lrc_lock.specs.declared.state.LockState.{LockState}
use Rattle.lrc_lock.specs.declared.state.LockState.TheVariants.{Away, Awaited, Free, Held}
use Rattle.lrc_lock.specs.Held.{lock_at}
use Rattle.lrc_copies.proofs.Members.{Contains-first, Contains-later, cases_Contains, none_Contains}
use Rattle.lrc_protocol.specs.Node.{Wait, nothing, grant, departure, access, upkeep, discard, awaits_grant, Node, OptionsRecord}
use Rattle.lrc_protocol.specs.Turn.{TurnRecord}
use Rattle.lrc_protocol.specs.Run.{Logged, World, fresh_world, with_turn}
use Rattle.lrc_protocol.specs.Follows.{pending}
use Rattle.lrc_protocol.specs.Follows.{turns_of}
use Rattle.lrc_protocol.proofs.Worlds.{get_set_same, get_set_other, fresh_at}
use Rattle.lrc_lock.specs.Held.{is_awaited}
use Rattle.lrc_order_laws.proofs.Held.{Tokened, tokened_at}
use Rattle.lrc_order_laws.proofs.TokenWorlds.{state_in, some_node}
use Rattle.lrc_order_laws.proofs.Sends.{Came, by_itself, comes, letter_in, Sent, site_of}
use Rattle.lrc_order_laws.proofs.Pending.{Goes}
use Rattle.lrc_order_laws.proofs.Flows.{AllOf, Brings, Stepped, again, once, stepped, count-cons}
use Rattle.lrc_order_laws.proofs.LockMessages.{request, forward, grant as says_grant, saying, asks, about, granted_to, said}
use Rattle.lrc_order_laws.proofs.LockBalance.{awaits, is_waiter, leads_to, Numbers, Balanced}
use Rattle.lrc_order_laws.proofs.LockStands.{saying_so, last_asker, numbers_of, all_balanced}
use Rattle.lrc_order_laws.proofs.LockContents.{IsSound, SoundMessage}
use Rattle.lrc_order_laws.proofs.LockExpected.{all_sound}
use Rattle.lrc_order_laws.proofs.Reached.{IsReached, KeptByReached, by_reached}
use Rattle.lrc_reading_laws.proofs.Stamped.Worlds.{placed}
use Rattle.lrc_reading_laws.proofs.Stamped.Asks.{waiter_in, no_waiters, is_granting, TurnAsks, turn_asks}
use Rattle.lrc_reading_laws.proofs.Closed.Known.{from_out, letter_out}

-- this time is said of a node that asks
pub data Says (es : List EnvelopeRecord) (all : List Logged) (b : ℕ) (time : List ℕ) : Type 0 where
  by_request : (e : EnvelopeRecord) (m : LockRequestRecord) → Contains es e → e.message ≡ LockRequest m → e.from ≡ b → m.time ≡ time → Says es all b time
  by_forward : (e : EnvelopeRecord) (m : LockForwardRecord) → Contains es e → e.message ≡ LockForward m → m.asker ≡ b → m.time ≡ time → Says es all b time
  by_waiter : (n k : ℕ) (x : Logged) (w : Waiter) → slice_get all n ≡ Some x → waiter_in (lock_at x.node.locks.held k) ≡ Some w → w.node ≡ b
      → w.time ≡ time → Says es all b time

-- ---- counting

pub counted_there : (p : EnvelopeRecord → Bool) (es : List EnvelopeRecord) (e : EnvelopeRecord) → Contains es e → p e ≡ true → 0 < count_by p es
counted_there p [] e c is = absurd (none_Contains e c)
counted_there p (x ∷ es) e c is =
    let all : count_by p (x ∷ es) ≡ cond (p x) 1 0 + count_by p es = count-cons p x es in
    ⊎_elim
    (λ (first : x ≡ e).
    let one : cond {A = ℕ} (p x) 1 0 ≡ 1 = ap (λ b. cond b 1 0) (ap p first ∙ is) in
    omega (arith, all, one))
    (λ (later : Contains es e).
    let rest : 0 < count_by p es = counted_there p es e later is in
    omega (arith, all, rest))
    (cases_Contains x es e c)

summed_there : (f : Logged → ℕ) (xs : List Logged) (n : ℕ) (x : Logged) → slice_get xs n ≡ Some x → f x ≤ sum_by f xs
summed_there f [] n x at = absurd cc
summed_there f (y ∷ xs) zero x at =
    let all : sum_by f (y ∷ xs) ≡ f y + sum_by f xs = sum_by-cons f y xs in
    let same : f y ≡ f x = ap f (same_Some y x at) in
    omega (arith, all, same)
summed_there f (y ∷ xs) (suc n) x at =
    let all : sum_by f (y ∷ xs) ≡ f y + sum_by f xs = sum_by-cons f y xs in
    let rest : f x ≤ sum_by f xs = summed_there f xs n x at in
    omega (arith, all, rest)

all_there : (P : EnvelopeRecord → Type 0) (es : List EnvelopeRecord) (e : EnvelopeRecord) → AllOf P es → Contains es e → P e
all_there P [] e h c = absurd (none_Contains e c)
all_there P (x ∷ es) e h c =
    ⊎_elim (λ (first : x ≡ e). subst P first h.0) (λ (later : Contains es e). all_there P es e h.1 later) (cases_Contains x es e c)

-- who asks, is passed on, or is pointed to, awaits the token
asked_awaits : (n recent : ℕ) (k : Numbers) (s : LockState) → Balanced n recent k s → 0 < k.asked → 0 < awaits s
asked_awaits n recent k s b some = let stands = b.stands in omega (arith, stands, some)

passed_awaits : (n recent : ℕ) (k : Numbers) (s : LockState) → Balanced n recent k s → 0 < k.passed → 0 < awaits s
passed_awaits n recent k s b some = let stands = b.stands in omega (arith, stands, some)

pointed_awaits : (n recent : ℕ) (k : Numbers) (s : LockState) → Balanced n recent k s → 0 < k.pointed → 0 < awaits s
pointed_awaits n recent k s b some = let stands = b.stands in omega (arith, stands, some)

granted_awaits : (n recent : ℕ) (k : Numbers) (s : LockState) → Balanced n recent k s → 0 < k.granted → 0 < awaits s
granted_awaits n recent k s b some = let stands = b.stands in omega (arith, stands, some)

awaited_so : (s : LockState) → 0 < awaits s → is_awaited s ≡ true
awaited_so (Awaited next) some = refl
awaited_so Away some = absurd (omega (arith, some))
awaited_so (Free kept) some = absurd (omega (arith, some))
awaited_so (Held next) some = absurd (omega (arith, some))

granting_so : (lock : ℕ) (w : Wait) → awaits_grant lock w ≡ true → is_granting w ≡ true
granting_so lock (grant awaited) e = refl
granting_so lock nothing e = absurd cc
granting_so lock departure e = absurd cc
granting_so lock (access need) e = absurd cc
granting_so lock (upkeep collection needs) e = absurd cc
granting_so lock (discard collection) e = absurd cc

leads_there : (b : ℕ) (s : LockState) (w : Waiter) → waiter_in s ≡ Some w → w.node ≡ b → leads_to b s ≡ 1
leads_there b (Awaited next) w e n = ap (is_waiter b) e ∙ ap (λ t. cond t 1 0) (eq-eqb w.node b n)
leads_there b (Held next) w e n = ap (is_waiter b) e ∙ ap (λ t. cond t 1 0) (eq-eqb w.node b n)
leads_there b Away w e n = absurd cc
leads_there b (Free kept) w e n = absurd cc

module _ (program : Program) (nodes : ℕ) (options : OptionsRecord) where
  -- ---- one world

  module _ (world : World) (r : IsReached program nodes options world) where
    own_tokens : (n : ℕ) (l : Logged) → slice_get world.nodes n ≡ Some l
        → Tokened (setting_of program nodes n) options (record { node = l.node; turns = turns_of l.log })
    own_tokens n l at = tokened_at program nodes options r.events world n l r.runs at

    balance : (n : ℕ) (l : Logged) → slice_get world.nodes n ≡ Some l → (k : ℕ) → k < program.locks
        → Balanced n (last_asker nodes k world.nodes) (numbers_of k n (pending world) world.nodes) (lock_at l.node.locks.held k)
    balance n l at k lt =
        subst (λ o. Balanced n (last_asker nodes k world.nodes) (numbers_of k n (pending world) world.nodes) (state_in k o)) at
        ((all_balanced program nodes options r.events world r.runs).each k lt (some_node program nodes options r.events world n l r.runs at) n)

    granting_at : (n : ℕ) (l : Logged) → slice_get world.nodes n ≡ Some l → (k : ℕ) → 0 < awaits (lock_at l.node.locks.held k)
        → is_granting l.node.mail.wait ≡ true
    granting_at n l at k some =
        granting_so k l.node.mail.wait (sym ((own_tokens n l at).waits k) ∙ awaited_so (lock_at l.node.locks.held k) some)

    lock_within : (n k : ℕ) (x : Logged) (w : Waiter) → slice_get world.nodes n ≡ Some x → waiter_in (lock_at x.node.locks.held k) ≡ Some w
        → k < program.locks
    lock_within n k x w at e =
        ⊎_elim
        (λ (lt : k < length x.node.locks.held.locks). subst (λ c. k < c) (own_tokens n x at).shape.shape.tokens lt)
        (λ (le : length x.node.locks.held.locks ≤ k).
        let none : None ≡ Some w = sym (ap waiter_in (get_or_past x.node.locks.held.locks k Away le)) ∙ e in
        absurd cc)
        (cases_lt k (length x.node.locks.held.locks))

    -- who is said to ask waits for a grant
    pub asks_granting : (b : ℕ) (l : Logged) (time : List ℕ) → slice_get world.nodes b ≡ Some l → Says (pending world) world.nodes b time
        → is_granting l.node.mail.wait ≡ true
    asks_granting b l time at (by_request e m c is from t) =
        let sound : SoundMessage nodes program.locks e =
        all_there (SoundMessage nodes program.locks) (pending world) e (all_sound program nodes options r.events world r.runs) c in
        let s : IsSound nodes program.locks e.from e.to (LockRequest m) = subst (IsSound nodes program.locks e.from e.to) is sound in
        let test : EnvelopeRecord → Bool = λ x. asks b x.from x.to (saying m.lock x.message) in
        let counted : test e ≡ true =
        ap (λ message. asks b e.from e.to (saying m.lock message)) is ∙ ap (asks b e.from e.to) (said m.lock m.lock request refl) ∙ eq-eqb e.from b from in
        let some : 0 < saying_so m.lock (asks b) (pending world) = counted_there test (pending world) e c counted in
        granting_at b l at m.lock
        (asked_awaits b (last_asker nodes m.lock world.nodes) (numbers_of m.lock b (pending world) world.nodes) (lock_at l.node.locks.held m.lock)
        (balance b l at m.lock s.0) some)
    asks_granting b l time at (by_forward e m c is asker t) =
        let sound : SoundMessage nodes program.locks e =
        all_there (SoundMessage nodes program.locks) (pending world) e (all_sound program nodes options r.events world r.runs) c in
        let s : IsSound nodes program.locks e.from e.to (LockForward m) = subst (IsSound nodes program.locks e.from e.to) is sound in
        let test : EnvelopeRecord → Bool = λ x. about b x.from x.to (saying m.lock x.message) in
        let counted : test e ≡ true =
        ap (λ message. about b e.from e.to (saying m.lock message)) is ∙ ap (about b e.from e.to) (said m.lock m.lock (forward m.asker) refl)
        ∙ eq-eqb m.asker b asker in
        let some : 0 < saying_so m.lock (about b) (pending world) = counted_there test (pending world) e c counted in
        granting_at b l at m.lock
        (passed_awaits b (last_asker nodes m.lock world.nodes) (numbers_of m.lock b (pending world) world.nodes) (lock_at l.node.locks.held m.lock)
        (balance b l at m.lock s.0) some)
    asks_granting b l time at (by_waiter n k x w there is node t) =
        let one : leads_to b (lock_at x.node.locks.held k) ≡ 1 = leads_there b (lock_at x.node.locks.held k) w is node in
        let sum : leads_to b (lock_at x.node.locks.held k) ≤ sum_by (λ (y : Logged). leads_to b (lock_at y.node.locks.held k)) world.nodes =
        summed_there (λ (y : Logged). leads_to b (lock_at y.node.locks.held k)) world.nodes n x there in
        granting_at b l at k
        (pointed_awaits b (last_asker nodes k world.nodes) (numbers_of k b (pending world) world.nodes) (lock_at l.node.locks.held k)
        (balance b l at k (lock_within n k x w there is)) (omega (arith, one, sum)))

    -- and so does who is granted one
    pub grant_granting : (e : EnvelopeRecord) (m : LockGrantRecord) (l : Logged) → Contains (pending world) e → e.message ≡ LockGrant m
        → slice_get world.nodes e.to ≡ Some l → is_granting l.node.mail.wait ≡ true
    grant_granting e m l c is at =
        let sound : SoundMessage nodes program.locks e =
        all_there (SoundMessage nodes program.locks) (pending world) e (all_sound program nodes options r.events world r.runs) c in
        let lt : m.lock < program.locks = subst (IsSound nodes program.locks e.from e.to) is sound in
        let test : EnvelopeRecord → Bool = λ x. granted_to e.to x.from x.to (saying m.lock x.message) in
        let counted : test e ≡ true =
        ap (λ message. granted_to e.to e.from e.to (saying m.lock message)) is ∙ ap (granted_to e.to e.from e.to) (said m.lock m.lock says_grant refl)
        ∙ eq-eqb e.to e.to refl in
        let some : 0 < saying_so m.lock (granted_to e.to) (pending world) = counted_there test (pending world) e c counted in
        granting_at e.to l at m.lock
        (granted_awaits e.to (last_asker nodes m.lock world.nodes) (numbers_of m.lock e.to (pending world) world.nodes) (lock_at l.node.locks.held m.lock)
        (balance e.to l at m.lock lt) some)

  -- ---- one turn

  -- a message that came was pending
  came_there : (me : ℕ) (was out now : List EnvelopeRecord) (came : Came) (o : Option EnvelopeRecord) → Brings me came o → Goes o was out now
      → (from : ℕ) (message : Message) → came ≡ comes from message → (e : EnvelopeRecord) × Contains was e × (e.from ≡ from) × (e.message ≡ message)
  came_there me was out now by_itself None b g from message is = absurd cc
  came_there me was out now by_itself (Some e) b g from message is = absurd b
  came_there me was out now (comes sender text) None b g from message is = absurd b
  came_there me was out now (comes sender text) (Some e) b g from message is =
      let sender_is : sender ≡ from = cc in
      let text_is : text ≡ message = cc in
      (e, subst (λ es. Contains es e) (sym g.before) (Contains-append_right g.front (e ∷ g.back) e (Contains-first e g.back)), b.1 ∙ sender_is, b.2 ∙ text_is)

  pending_or_sent : (was out now : List EnvelopeRecord) (o : Option EnvelopeRecord) → Goes o was out now → (e : EnvelopeRecord) → Contains now e
      → Contains was e ⊎ Contains out e
  pending_or_sent was out now None g e c = Contains-append_cases was out e (subst (λ es. Contains es e) g c)
  pending_or_sent was out now (Some x) g e c =
      ⊎_elim
      (λ (left : Contains (g.front ++ g.back) e).
      inl (subst (λ es. Contains es e) (sym g.before)
      (⊎_elim (λ (front : Contains g.front e). Contains-append_left g.front (x ∷ g.back) e front)
      (λ (back : Contains g.back e). Contains-append_right g.front (x ∷ g.back) e (Contains-later x g.back e back))
      (Contains-append_cases g.front g.back e left))))
      (λ (sent : Contains out e). inr sent)
      (Contains-append_cases (g.front ++ g.back) out e (subst (λ es. Contains es e) g.after c))

  module _ (all : List Logged) (n : ℕ) (l after : Logged) (at : slice_get all n ≡ Some l) (me_is : after.node.setting.me ≡ n)
      (was now : List EnvelopeRecord) where
    -- it was said before, or the node asks now
    abbrev SaidBefore : ℕ → List ℕ → Type 0
    SaidBefore b time = Says was all b time ⊎ ((n ≡ b) × (after.node.locks.time ≡ time))

    said_again : now ≡ was → after.node ≡ l.node → (b : ℕ) (time : List ℕ) → Says now (slice_set all n after) b time → SaidBefore b time
    said_again g same b time (by_request e m c is from t) = inl (by_request e m (subst (λ es. Contains es e) g c) is from t)
    said_again g same b time (by_forward e m c is asker t) = inl (by_forward e m (subst (λ es. Contains es e) g c) is asker t)
    said_again g same b time (by_waiter q k x w there is node t) = elim (cases_eq n q) [
      | inl e ↦
          let x_is : after ≡ x = same_Some after x (sym (get_set_same all n l after at) ∙ ap (slice_get (slice_set all n after)) e ∙ there) in
          inl (by_waiter n k l w at
          (ap (λ (y : Node). waiter_in (lock_at y.locks.held k)) (sym same) ∙ ap (λ (y : Logged). waiter_in (lock_at y.node.locks.held k)) x_is ∙ is) node t)
      | inr ne ↦ inl (by_waiter q k x w (sym (get_set_other all n q after ne) ∙ there) is node t)
    ]

    said_once : (came : Came) (o : Option EnvelopeRecord) (turn : TurnRecord) → Brings l.node.setting.me came o → Sent l.node came turn after.node
        → Goes o was turn.out now → (b : ℕ) (time : List ℕ) → Says now (slice_set all n after) b time → SaidBefore b time
    said_once came o turn brought sent g b time (by_request e m c is from t) =
        let asked : TurnAsks (site_of l.node) came after.node.mail.wait after.node.locks sent.letters =
        turn_asks (site_of l.node) came sent.acts after.node.mail.wait after.node.locks after.node.barrier sent.letters sent.sent in
        ⊎_elim
        (λ (old : Contains was e). inl (by_request e m old is from t))
        (λ (new : Contains turn.out e).
        inr (
          sym me_is ∙ sym (from_out after.node.setting.me turn.out sent.from e new) ∙ from,
          sym (asked.requests (letter_in e) m (subst (λ ls. Contains ls (letter_in e)) sent.out (letter_out turn.out e new)) is) ∙ t,
        ))
        (pending_or_sent was turn.out now o g e c)
    said_once came o turn brought sent g b time (by_forward e m c is asker t) =
        let asked : TurnAsks (site_of l.node) came after.node.mail.wait after.node.locks sent.letters =
        turn_asks (site_of l.node) came sent.acts after.node.mail.wait after.node.locks after.node.barrier sent.letters sent.sent in
        ⊎_elim
        (λ (old : Contains was e). inl (by_forward e m old is asker t))
        (λ (new : Contains turn.out e).
        let it : _ = asked.forwards (letter_in e) m (subst (λ ls. Contains ls (letter_in e)) sent.out (letter_out turn.out e new)) is in
        let r : LockRequestRecord = it.1 in
        let there : _ = came_there l.node.setting.me was turn.out now came o brought g it.0 (LockRequest r) it.2 in
        inl (by_request there.0 r there.1 there.3 (there.2 ∙ sym it.3 ∙ asker) (sym it.4 ∙ t)))
        (pending_or_sent was turn.out now o g e c)
    said_once came o turn brought sent g b time (by_waiter q k x w there is node t) = elim (cases_eq n q) [
      | inl e ↦
          let asked : TurnAsks (site_of l.node) came after.node.mail.wait after.node.locks sent.letters =
          turn_asks (site_of l.node) came sent.acts after.node.mail.wait after.node.locks after.node.barrier sent.letters sent.sent in
          let x_is : after ≡ x = same_Some after x (sym (get_set_same all n l after at) ∙ ap (slice_get (slice_set all n after)) e ∙ there) in
          let here : waiter_in (lock_at after.node.locks.held k) ≡ Some w = ap (λ (y : Logged). waiter_in (lock_at y.node.locks.held k)) x_is ∙ is in
          ⊎_elim
          (λ (old : waiter_in (lock_at l.node.locks.held k) ≡ Some w). inl (by_waiter n k l w at old node t))
          (λ new.
          let m : LockForwardRecord = new.1 in
          let came_so : _ = came_there l.node.setting.me was turn.out now came o brought g new.0 (LockForward m) new.2 in
          inl (by_forward came_so.0 m came_so.1 came_so.3 (ap (λ (y : Waiter). y.node) (sym new.3) ∙ node) (ap (λ (y : Waiter). y.time) (sym new.3) ∙ t)))
          (asked.waiters k w here)
      | inr ne ↦ inl (by_waiter q k x w (sym (get_set_other all n q after ne) ∙ there) is node t)
    ]

    -- where the node's time changes it waits for no grant, before or then
    abbrev Waits : Type 0
    Waits = (after.node.locks.time ≡ l.node.locks.time) ⊎ ((is_granting l.node.mail.wait ≡ false) ⊎ (is_granting after.node.mail.wait ≡ false))

    record SaidSo : Type 0 where
      before : (b : ℕ) (time : List ℕ) → Says now (slice_set all n after) b time → SaidBefore b time
      waits : Waits

    said_so : (turn : TurnRecord) (x : Node) → x ≡ after.node → Stepped l.node was now turn x → SaidSo
    said_so _ _ e (again g) = record { before = said_again g (sym e); waits = inl (ap (λ (y : Node). y.locks.time) (sym e)) }
    said_so turn x e (once came o brought within sent g) =
        let here : Sent l.node came turn after.node = subst (Sent l.node came turn) e sent in
        record {
          before = said_once came o turn brought here g;
          waits = (turn_asks (site_of l.node) came here.acts after.node.mail.wait after.node.locks after.node.barrier here.letters here.sent).times;
        }

  -- ---- every run

  abbrev pub AsksSo : World → Type 0
  AsksSo world = (b : ℕ) (l : Logged) (time : List ℕ) → slice_get world.nodes b ≡ Some l → Says (pending world) world.nodes b time → l.node.locks.time ≡ time

  asks-kept : KeptByReached program nodes options AsksSo
  asks-kept world flight n l after input log_entry at come i r r' h b lb time at_b says =
      let next : World = with_turn world flight n log_entry after in
      let there : slice_get next.nodes n ≡ Some after = get_set_same world.nodes n l after at in
      let me_is : after.node.setting.me ≡ n = (placed program nodes options next r' n after there).me in
      let so : SaidSo world.nodes n l after at me_is (pending world) (pending next) =
      said_so world.nodes n l after at me_is (pending world) (pending next) log_entry.turn after.node refl
      (stepped program nodes options world flight n l after input log_entry at come i r) in
      elim (cases_eq n b) [
        | inl e ↦
            let is : after ≡ lb = same_Some after lb (sym there ∙ ap (slice_get next.nodes) e ∙ at_b) in
            let at_l : slice_get world.nodes b ≡ Some l = ap (slice_get world.nodes) (sym e) ∙ at in
            ap (λ (x : Logged). x.node.locks.time) (sym is)
            ∙ ⊎_elim
            (λ (old : Says (pending world) world.nodes b time).
            ⊎_elim
            (λ (same : after.node.locks.time ≡ l.node.locks.time). same ∙ h b l time at_l old)
            (λ waits. ⊎_elim
            (λ (idle : is_granting l.node.mail.wait ≡ false). absurd (false≢true (sym idle ∙ asks_granting world r b l time at_l old)))
            (λ (idle : is_granting after.node.mail.wait ≡ false).
            absurd (false≢true (sym idle ∙ asks_granting next r' b after time (ap (slice_get next.nodes) (sym e) ∙ there) says)))
            waits)
            so.waits)
            (λ (new : (n ≡ b) × (after.node.locks.time ≡ time)). new.1)
            (so.before b time says)
        | inr ne ↦
            ⊎_elim
            (λ (old : Says (pending world) world.nodes b time). h b lb time (sym (get_set_other world.nodes n b after ne) ∙ at_b) old)
            (λ (new : (n ≡ b) × (after.node.locks.time ≡ time)). absurd (ne new.0))
            (so.before b time says)
      ]

  asks-fresh : AsksSo (fresh_world program nodes options)
  asks-fresh b l time at (by_request e m c is from t) = absurd (none_Contains e c)
  asks-fresh b l time at (by_forward e m c is asker t) = absurd (none_Contains e c)
  asks-fresh b l time at (by_waiter n k x w there is node t) =
      let none : None ≡ Some w =
      sym (no_waiters (0 + n) nodes (range_with_len 0 program.locks) k)
      ∙ ap (λ (y : Logged). waiter_in (lock_at y.node.locks.held k)) (sym (fresh_at program nodes options 0 nodes n x there)) ∙ is in
      absurd cc

  -- it has the time that is said
  pub all_ask_so : (world : World) → IsReached program nodes options world → AsksSo world
  all_ask_so world r = by_reached program nodes options AsksSo asks-kept r.events world asks-fresh r.runs
