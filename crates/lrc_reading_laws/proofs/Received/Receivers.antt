-- What a turn sends goes to nodes: where who asked last for each lock, each successor and each keeper is one of the nodes.
use Rattle.std.proofs.Common.{◌≡◌, ◌⊎◌, ℕ, zero, suc, ◌+◌, ◌<◌, ◌≤◌, List, [], ◌∷◌, ◌++◌, Bool, true, false, ◌&&◌, cond}
use Rattle.std.proofs.Common.{length, map, refl, sym, ap, subst, ◌∙◌, inl, inr, ⊎_elim, arith}
use Rattle.std.specs.Prelude.{Option, Some, None, All, Contains, ◌==◌, count_by, flat_map, slice_index, slice_set, if◌then◌else◌}
use Rattle.std.specs.List.{range_with_len, enumerate_from}
use Rattle.std.proofs.lemmas.Bool.{and_left, and_right, cases_lt, ne_eqb}
use Rattle.std.proofs.lemmas.List.{length-set}
use Rattle.std.proofs.lemmas.List.Elements.{All-head, All-tail}
use Rattle.std.proofs.lemmas.Option.{same_Some}
use Rattle.lrc_page.specs.Page.{words_of}
use Rattle.lrc_envelope.specs.Records.{LockForwardRecord}
use Rattle.lrc_envelope.specs.declared.message.Message.{Message}
use Rattle.lrc_envelope.specs.declared.message.Message.TheVariants.{LockRequest, LockForward, LockGrant, Arrive, Depart, Clean, Discard}
use Rattle.lrc_envelope.specs.declared.message.Message.TheVariants.{ChangesRequest, ChangesReply, PageRequest, PageReply}
use Rattle.lrc_lock.specs.declared.fault.LockFault.TheVariants.{NotMine}
use Rattle.lrc_lock.specs.declared.state.Pass.{Pass}
use Rattle.lrc_lock.specs.declared.state.Waiter.{Waiter}
use Rattle.lrc_lock.specs.declared.state.LockState.{LockState}
use Rattle.lrc_lock.specs.declared.state.LockState.TheVariants.{Away, Awaited, Free, Held}
use Rattle.lrc_lock.specs.Held.{refuses, lock_at, released, released_at, forwarded, forwarded_at, pass_of, pass_to}
use Rattle.lrc_barrier.specs.declared.arrival.Arrival.{Arrival}
use Rattle.lrc_barrier.specs.Barrier.{ManagerRecord, with_arrival, arrivals_of, departure_to}
use Rattle.lrc_protocol.specs.Times.{next_time}
use Rattle.lrc_protocol.specs.Pages.{Copy, valid, written, invalid, absent, copy_at, Base, unneeded, due, come, Asked, Need}
use Rattle.lrc_protocol.specs.Locks.{Locks}
use Rattle.lrc_protocol.specs.Barriers.{arrival_in, Barrier}
use Rattle.lrc_protocol.specs.Node.{Letter, Wait, needs_of, Node}
use Rattle.lrc_protocol.specs.Turn.{letter, departure_of, discards_to, changes_request_of, page_request_of, requests_of}
use Rattle.lrc_order_laws.proofs.Flows.{IsFromNode, came_count, count-cons}
use Rattle.lrc_order_laws.proofs.Managers.{LetGo, let_go, as_many, failing}
use Rattle.lrc_order_laws.proofs.Moves.{counted_in}
use Rattle.lrc_order_laws.proofs.Sends.{is_other, AreOthers, Grants, Came, by_itself, comes, Site, Sends, plain, misses, takes, asks}
use Rattle.lrc_order_laws.proofs.Sends.{releasing, arriving, manages, forwarding, grants, gathers, lets_depart, departing, collecting}
use Rattle.lrc_order_laws.proofs.Sends.{clean_at_once, notes_clean, lets_discard, discarding, serves, accessing, still_misses, still_collects}
use Rattle.lrc_order_laws.proofs.Sends.{cleaning}
use Rattle.lrc_copies.proofs.Members.{cases_Contains, none_Contains}
use Rattle.lrc_node_laws.specs.Needs.{FitsBase, FitsNeed}
use Rattle.lrc_node_laws.specs.Reached.{IsReached as IsReachedNode}
use Rattle.lrc_node_laws.proofs.Always.{needed_at, others_asked}
use Rattle.lrc_node_laws.proofs.Change.{view_of, pages_in}
use Rattle.lrc_reading_laws.specs.Requested.{Wish, wish_in, told_in, is_wish}
use Rattle.lrc_reading_laws.proofs.Asked.Laws.{passes}
use Rattle.lrc_reading_laws.proofs.Asked.Wishes.{wanted_test, request_test, reply_test, awaited, Steady}
use Rattle.lrc_reading_laws.proofs.Stamped.Asks.{waiter_in, TurnAsks, turn_asks}

-- ---- what a node knows

-- who asked last for a lock, and each successor, is one of so many nodes
pub record KnowsNodes (nodes : ℕ) (locks : Locks) : Type 0 where
  pub recent : (k : ℕ) → slice_index locks.managed.recent k < nodes
  pub waiters : (k : ℕ) (w : Waiter) → waiter_in (lock_at locks.held k) ≡ Some w → w.node < nodes

-- the manager of barriers, where it is here, has a place for each node
abbrev pub HasPlaces : ℕ → Barrier → Type 0
HasPlaces nodes barrier = (manager : ManagerRecord) → barrier.manager ≡ Some manager → length manager.arrivals ≡ nodes

-- ---- letters of locks and barriers

-- a letter of pages, or one for a node
abbrev pub IsPlaced : ℕ → Letter → Type 0
IsPlaced nodes x = (is_other x.message ≡ true) ⊎ (x.to < nodes)

abbrev pub ArePlaced : ℕ → List Letter → Type 0
ArePlaced nodes [] = Unit {0}
ArePlaced nodes (x ∷ letters) = IsPlaced nodes x × ArePlaced nodes letters

placed-at : (nodes : ℕ) (letters : List Letter) (x : Letter) → ArePlaced nodes letters → Contains letters x → IsPlaced nodes x
placed-at nodes [] x h there = absurd (none_Contains x there)
placed-at nodes (y ∷ letters) x h there =
    ⊎_elim
    (λ (first : y ≡ x). subst (IsPlaced nodes) first h.0)
    (λ (later : Contains letters x). placed-at nodes letters x h.1 later)
    (cases_Contains y letters x there)

others-placed : (nodes : ℕ) (letters : List Letter) → AreOthers letters → ArePlaced nodes letters
others-placed nodes [] h = tt
others-placed nodes (x ∷ letters) h = (inl h.0, others-placed nodes letters h.1)

grants-placed : (nodes : ℕ) (pass : Option Pass) (letters : List Letter) → ((p : Pass) → pass ≡ Some p → p.to < nodes) → Grants pass letters
    → ArePlaced nodes letters
grants-placed nodes None letters below g = subst (ArePlaced nodes) (sym g) tt
grants-placed nodes (Some p) letters below g = subst (ArePlaced nodes) (sym g.1) (inr (below p refl), tt)

departures-placed : (nodes : ℕ) (all : List Arrival) (first : ℕ) (arrivals : List Arrival) → first + length arrivals ≤ nodes
    → ArePlaced nodes (map departure_of (map (departure_to all) (enumerate_from first arrivals)))
departures-placed nodes all first [] le = tt
departures-placed nodes all first (a ∷ arrivals) le =
    (inr (omega (arith, le)), departures-placed nodes all (first + 1) arrivals (omega (arith, le)))

discards-placed : (nodes first count episode : ℕ) → first + count ≤ nodes → ArePlaced nodes (discards_to (range_with_len first count) episode)
discards-placed nodes first zero episode le = tt
discards-placed nodes first (suc count) episode le =
    (inr (omega (arith, le)), discards-placed nodes (first + 1) count episode (omega (arith, le)))

-- ---- who is granted a lock

released_to : (lock : ℕ) (now : List ℕ) (x : LockState) (p : Pass) → pass_of (released_at lock now x) ≡ Some p
    → (w : Waiter) × (waiter_in x ≡ Some w) × (p.to ≡ w.node)
released_to lock now (Held (Some w)) p e = (w, refl, ap (λ (p : Pass). p.to) (sym (same_Some (pass_to lock w now) p e)))
released_to lock now (Held None) p e = cc
released_to lock now Away p e = cc
released_to lock now (Awaited next) p e = cc
released_to lock now (Free kept) p e = cc

forwarded_to : (lock : ℕ) (w : Waiter) (x : LockState) (b : Bool) (p : Pass) → pass_of (if b then refuses NotMine else forwarded_at lock w x) ≡ Some p
    → p.to ≡ w.node
forwarded_to lock w (Free kept) false p e = ap (λ (p : Pass). p.to) (sym (same_Some (pass_to lock w kept) p e))
forwarded_to lock w x true p e = cc
forwarded_to lock w Away false p e = cc
forwarded_to lock w (Awaited None) false p e = cc
forwarded_to lock w (Awaited (Some first)) false p e = cc
forwarded_to lock w (Held None) false p e = cc
forwarded_to lock w (Held (Some first)) false p e = cc

-- ---- one turn

-- who asks by a request that is passed on is one of so many nodes
abbrev AskerAmong : ℕ → Came → Type 0
AskerAmong nodes (comes from (LockForward m)) = m.asker < nodes
AskerAmong nodes _ = Unit {0}

other-asker : (nodes from : ℕ) (message : Message) → is_other message ≡ true → AskerAmong nodes (comes from message)
other-asker nodes from (ChangesRequest m) e = tt
other-asker nodes from (ChangesReply m) e = tt
other-asker nodes from (PageRequest page) e = tt
other-asker nodes from (PageReply m) e = tt
other-asker nodes from (LockRequest m) e = tt
other-asker nodes from (LockForward m) e = cc
other-asker nodes from (LockGrant m) e = tt
other-asker nodes from (Arrive m) e = tt
other-asker nodes from (Depart m) e = tt
other-asker nodes from (Clean episode) e = tt
other-asker nodes from (Discard episode) e = tt

set_below : (xs : List ℕ) (i x nodes : ℕ) → x < nodes → ((k : ℕ) → slice_index xs k < nodes) → (k : ℕ) → slice_index (slice_set xs i x) k < nodes
set_below [] i x nodes lt h k = h k
set_below (y ∷ xs) zero x nodes lt h zero = lt
set_below (y ∷ xs) zero x nodes lt h (suc k) = h (suc k)
set_below (y ∷ xs) (suc i) x nodes lt h zero = h zero
set_below (y ∷ xs) (suc i) x nodes lt h (suc k) = set_below xs i x nodes lt (λ j. h (suc j)) k

module _ (s : Site) (here : s.me < s.nodes) (knows : KnowsNodes s.nodes s.locks) where
  -- the letters of locks and barriers go to nodes
  pub letters-placed : (places : HasPlaces s.nodes s.barrier) (came : Came) (acts : Bool) (wait : Wait) (locks : Locks) (barrier : Barrier)
      (letters : List Letter) → Sends s came acts wait locks barrier letters → ArePlaced s.nodes letters
  letters-placed places _ _ _ _ _ letters (plain next w n is o) = others-placed s.nodes letters o
  letters-placed places _ _ _ _ _ letters (misses w n o) = others-placed s.nodes letters o
  letters-placed places _ _ _ _ _ _ (takes lock w n free) = tt
  letters-placed places _ _ _ _ _ _ (asks lock w n away) = (inr (omega (arith, here)), tt)
  letters-placed places _ _ _ _ _ letters (releasing lock t w n g) =
      grants-placed s.nodes (pass_of (released s.locks.held lock (next_time s.me s.locks.time))) letters
      (λ p e.
      let it : _ = released_to lock (next_time s.me s.locks.time) (lock_at s.locks.held lock) p e in
      subst (λ k. k < s.nodes) (sym it.2) (knows.waiters lock it.0 it.1)) g
  letters-placed places _ _ _ _ _ _ (arriving t ask intervals w n) = (inr (omega (arith, here)), tt)
  letters-placed places _ _ _ _ _ _ (manages from m lt long mine) = (inr (knows.recent m.lock), tt)
  letters-placed places _ _ _ _ _ letters (forwarding from m lt asker long mine t g) =
      grants-placed s.nodes (pass_of (forwarded s.locks.held m.lock m.asker m.time)) letters
      (λ p e.
      let to : p.to ≡ m.asker =
      forwarded_to m.lock (record { node = m.asker; time = m.time }) (lock_at s.locks.held m.lock) (m.asker == s.locks.held.me) p e in
      subst (λ k. k < s.nodes) (sym to) asker) g
  letters-placed places _ _ _ _ _ _ (grants from m lt w l) = tt
  letters-placed places _ _ _ _ _ _ (gathers from a before manager at long is) = tt
  letters-placed places _ _ _ _ _ _ (lets_depart from a before manager departures at long is) =
      let full : ManagerRecord = with_arrival before from (arrival_in a) in
      let g : LetGo before from (arrival_in a) manager departures = let_go before from (arrival_in a) manager departures is in
      let all : length (arrivals_of full) ≡ length full.arrivals = as_many (arrival_in a) full g.all in
      let each : length full.arrivals ≡ s.nodes = length-set before.arrivals from (Some (arrival_in a)) ∙ places before at in
      subst (λ ds. ArePlaced s.nodes (map departure_of ds)) (sym g.told)
      (departures-placed s.nodes (arrivals_of full) 0 (arrivals_of full) (omega (arith, all, each)))
  letters-placed places _ _ _ _ _ _ (departing from d l c) = tt
  letters-placed places _ _ _ _ _ letters (collecting from d l c t o) = others-placed s.nodes letters o
  letters-placed places _ _ _ _ _ _ (clean_at_once from d l c t) = (inr (omega (arith, here)), tt)
  letters-placed places _ _ _ _ _ _ (notes_clean from episode before manager at is) = tt
  letters-placed places _ _ _ _ _ _ (lets_discard from episode over before manager at is) = discards-placed s.nodes 0 s.nodes over (omega arith)
  letters-placed places _ _ _ _ _ _ (discarding from episode collection w z e) = tt
  letters-placed places _ _ _ _ _ letters (serves from message o h) = others-placed s.nodes letters h
  letters-placed places _ _ _ _ _ _ (accessing from message need o w) = tt
  letters-placed places _ _ _ _ _ _ (still_misses from message before o w) = tt
  letters-placed places _ _ _ _ _ _ (still_collects from message before had o w t) = tt
  letters-placed places _ _ _ _ _ _ (cleaning from message before had o w t) = (inr (omega (arith, here)), tt)

  asker-among : (came : Came) (acts : Bool) (wait : Wait) (locks : Locks) (barrier : Barrier) (letters : List Letter)
      → Sends s came acts wait locks barrier letters → AskerAmong s.nodes came
  asker-among _ _ _ _ _ _ (forwarding from m lt asker long mine t g) = asker
  asker-among _ _ _ _ _ _ (serves from message o h) = other-asker s.nodes from message o
  asker-among _ _ _ _ _ _ (accessing from message need o w) = other-asker s.nodes from message o
  asker-among _ _ _ _ _ _ (still_misses from message before o w) = other-asker s.nodes from message o
  asker-among _ _ _ _ _ _ (still_collects from message before had o w t) = other-asker s.nodes from message o
  asker-among _ _ _ _ _ _ (cleaning from message before had o w t) = other-asker s.nodes from message o
  asker-among _ _ _ _ _ _ _ = tt

  recent-among : (came : Came) (acts : Bool) (wait : Wait) (locks : Locks) (barrier : Barrier) (letters : List Letter) → IsFromNode s.nodes came
      → Sends s came acts wait locks barrier letters → (k : ℕ) → slice_index locks.managed.recent k < s.nodes
  recent-among _ _ _ _ _ _ f (manages from m lt long mine) k = set_below s.locks.managed.recent m.lock from s.nodes f knows.recent k
  recent-among _ _ _ _ _ _ f _ k = knows.recent k

  -- and the node knows none but nodes then
  pub still-knows : (came : Came) (acts : Bool) (wait : Wait) (locks : Locks) (barrier : Barrier) (letters : List Letter) → IsFromNode s.nodes came
      → Sends s came acts wait locks barrier letters → KnowsNodes s.nodes locks
  still-knows came acts wait locks barrier letters f k =
      let asked : TurnAsks s came wait locks letters = turn_asks s came acts wait locks barrier letters k in
      record {
        recent = recent-among came acts wait locks barrier letters f k;
        waiters = λ lock w e. ⊎_elim
            (λ (old : waiter_in (lock_at s.locks.held lock) ≡ Some w). knows.waiters lock w old)
            (λ new.
            let m : LockForwardRecord = new.1 in
            let lt : m.asker < s.nodes = subst (AskerAmong s.nodes) new.2 (asker-among came acts wait locks barrier letters k) in
            subst (λ k. k < s.nodes) (ap (λ (w : Waiter). w.node) (sym new.3)) lt)
            (asked.waiters lock w e);
      }

-- ---- letters of pages

abbrev pub AreTo : ℕ → List Letter → Type 0
AreTo nodes [] = Unit {0}
AreTo nodes (x ∷ letters) = (x.to < nodes) × AreTo nodes letters

to-append : (nodes : ℕ) (xs ys : List Letter) → AreTo nodes xs → AreTo nodes ys → AreTo nodes (xs ++ ys)
to-append nodes [] ys h k = k
to-append nodes (x ∷ xs) ys h k = (h.0, to-append nodes xs ys h.1 k)

base-to : (nodes words page : ℕ) (copy : Copy) (base : Base) → FitsBase nodes words copy base → AreTo nodes (page_request_of page base)
base-to nodes words page absent (due keeper) h = (h, tt)
base-to nodes words page (invalid values since) (due keeper) h = absurd h
base-to nodes words page (valid values) (due keeper) h = absurd h
base-to nodes words page (written values twin) (due keeper) h = absurd h
base-to nodes words page copy unneeded h = tt
base-to nodes words page copy (come values) h = tt

-- a maker is a node other than this one
abbrev IsMaker : ℕ → ℕ → Asked → Type 0
IsMaker nodes me asked = (asked.maker < nodes) × (asked.maker ≡ me → ⊥)

makers-to : (nodes me page : ℕ) (asked : List Asked) → All (IsMaker nodes me) asked → AreTo nodes (map (changes_request_of page) asked)
makers-to nodes me page [] h = tt
makers-to nodes me page (a ∷ asked) h =
    let first : IsMaker nodes me a = All-head (IsMaker nodes me) a asked h in
    (first.0, makers-to nodes me page asked (All-tail (IsMaker nodes me) a asked h))

-- what a node awaits of pages is asked of nodes
module _ (node : Node) (reached : IsReachedNode node) where
  abbrev Fits : Need → Type 0
  Fits = FitsNeed node.setting.nodes (pages_in (view_of node)) (words_of node.options.size) node.memory

  abbrev AskNodes : Need → Type 0
  AskNodes need = All (IsMaker node.setting.nodes node.setting.me) need.asked

  needs-to : (needs : List Need) → All Fits needs → All AskNodes needs → AreTo node.setting.nodes (flat_map requests_of needs)
  needs-to [] f a = tt
  needs-to (need ∷ needs) f a =
      let fits : Fits need = All-head Fits need needs f in
      to-append node.setting.nodes (requests_of need) (flat_map requests_of needs)
      (to-append node.setting.nodes (page_request_of need.page need.base) (map (changes_request_of need.page) need.asked)
      (base-to node.setting.nodes (words_of node.options.size) need.page (copy_at node.memory need.page) need.base fits.base)
      (makers-to node.setting.nodes node.setting.me need.page need.asked (All-head AskNodes need needs a)))
      (needs-to needs (All-tail Fits need needs f) (All-tail AskNodes need needs a))

  pub awaited-to : AreTo node.setting.nodes (awaited node.mail.wait)
  awaited-to = needs-to (needs_of node.mail.wait) (needed_at node reached).each (others_asked node reached)

none_wanted : (nodes q : ℕ) (w : Wish) (letters : List Letter) → AreTo nodes letters → nodes ≤ q → count_by (wanted_test q w) letters ≡ 0
none_wanted nodes q w [] h le = refl
none_wanted nodes q w (x ∷ letters) h le =
    let lt : x.to < nodes = h.0 in
    let apart : (x.to == q) ≡ false = ne_eqb x.to q (λ e. omega (arith, lt, le, e)) in
    let one : cond {A = ℕ} (wanted_test q w x) 1 0 ≡ 0 =
    failing (wanted_test q w x) (and_right (is_wish w (wish_in x.message)) (x.to == q) apart) in
    let rest : count_by (wanted_test q w) letters ≡ 0 = none_wanted nodes q w letters h.1 le in
    let both : count_by (wanted_test q w) (x ∷ letters) ≡ cond (wanted_test q w x) 1 0 + count_by (wanted_test q w) letters =
    count-cons (wanted_test q w) x letters in
    omega (arith, both, one, rest)

-- by the balance of a turn a request goes to who is awaited, or to who made the reply that came, or to the node itself; and a reply
-- to who made the request that came, or to the node itself
module _ (me nodes : ℕ) (here : me < nodes) (came : Came) (f : IsFromNode nodes came) (letters before after : List Letter)
    (s : Steady me came letters before after) (asked : AreTo nodes after) where
  none_comes : (q n : ℕ) (w : Wish) → nodes ≤ q → nodes ≤ n
      → (came_count (request_test me q w) me came ≡ 0) × (came_count (reply_test me q w) me came ≡ 0)
      × (came_count (request_test n me w) me came ≡ 0) × (came_count (reply_test n me w) me came ≡ 0)
  none_comes q n w le_q le_n = by_came came f
    where
      by_came : (came : Came) → IsFromNode nodes came
          → (came_count (request_test me q w) me came ≡ 0) × (came_count (reply_test me q w) me came ≡ 0)
          × (came_count (request_test n me w) me came ≡ 0) × (came_count (reply_test n me w) me came ≡ 0)
      by_came by_itself f = (refl, refl, refl, refl)
      by_came (comes from message) f =
          let lt : from < nodes = f in
          let me_q : (me == q) ≡ false = ne_eqb me q (λ e. omega (arith, here, le_q, e)) in
          let from_q : (from == q) ≡ false = ne_eqb from q (λ e. omega (arith, lt, le_q, e)) in
          let from_n : (from == n) ≡ false = ne_eqb from n (λ e. omega (arith, lt, le_n, e)) in
          let me_n : (me == n) ≡ false = ne_eqb me n (λ e. omega (arith, here, le_n, e)) in (
            failing (request_test me q w from (letter me message))
                (and_left (is_wish w (wish_in message) && (me == q)) (from == me) (and_right (is_wish w (wish_in message)) (me == q) me_q)),
            failing (reply_test me q w from (letter me message))
                (and_left (is_wish w (told_in message) && (from == q)) (me == me) (and_right (is_wish w (told_in message)) (from == q) from_q)),
            failing (request_test n me w from (letter me message)) (and_right (is_wish w (wish_in message) && (me == me)) (from == n) from_n),
            failing (reply_test n me w from (letter me message)) (and_right (is_wish w (told_in message) && (from == me)) (me == n) me_n),
          )

  request-to : (x : Letter) (w : Wish) → Contains letters x → wish_in x.message ≡ Some w → x.to < nodes
  request-to x w there is = ⊎_elim
      (λ (lt : x.to < nodes). lt)
      (λ (le : nodes ≤ x.to).
      let some : 1 ≤ count_by (request_test me x.to w me) letters =
      counted_in (request_test me x.to w me) letters x there (passes w (wish_in x.message) x.to me is) in
      let wanted : count_by (wanted_test x.to w) after ≡ 0 = none_wanted nodes x.to w after asked le in
      let none : _ = none_comes x.to x.to w le le in
      let a : came_count (request_test me x.to w) me came ≡ 0 = none.0 in
      let b : came_count (reply_test me x.to w) me came ≡ 0 = none.1 in
      let all : count_by (wanted_test x.to w) after + came_count (request_test me x.to w) me came + came_count (reply_test me x.to w) me came
      ≡ count_by (wanted_test x.to w) before + count_by (request_test me x.to w me) letters + count_by (reply_test me x.to w me) letters = s.own x.to w in
      absurd (omega (arith, some, wanted, a, b, all)))
      (cases_lt x.to nodes)

  reply-to : (x : Letter) (w : Wish) → Contains letters x → told_in x.message ≡ Some w → x.to < nodes
  reply-to x w there is = ⊎_elim
      (λ (lt : x.to < nodes). lt)
      (λ (le : nodes ≤ x.to).
      let some : 1 ≤ count_by (reply_test x.to me w me) letters =
      counted_in (reply_test x.to me w me) letters x there (passes w (told_in x.message) me x.to is) in
      let none : _ = none_comes x.to x.to w le le in
      let a : came_count (request_test x.to me w) me came ≡ 0 = none.2 in
      let b : came_count (reply_test x.to me w) me came ≡ 0 = none.3 in
      let all : came_count (request_test x.to me w) me came + came_count (reply_test x.to me w) me came
      ≡ count_by (request_test x.to me w me) letters + count_by (reply_test x.to me w me) letters = s.other x.to me w (λ e. omega (arith, here, le, e)) in
      absurd (omega (arith, some, a, b, all)))
      (cases_lt x.to nodes)

  -- so each letter of pages goes to a node
  other-to : (x : Letter) → Contains letters x → is_other x.message ≡ true → x.to < nodes
  other-to x there is = by_message x.message refl is
    where
      by_message : (message : Message) → x.message ≡ message → is_other message ≡ true → x.to < nodes
      by_message (ChangesRequest m) e o = request-to x _ there (ap wish_in e)
      by_message (PageRequest page) e o = request-to x _ there (ap wish_in e)
      by_message (ChangesReply m) e o = reply-to x _ there (ap told_in e)
      by_message (PageReply m) e o = reply-to x _ there (ap told_in e)
      by_message (LockRequest m) e o = cc
      by_message (LockForward m) e o = cc
      by_message (LockGrant m) e o = cc
      by_message (Arrive m) e o = cc
      by_message (Depart m) e o = cc
      by_message (Clean episode) e o = cc
      by_message (Discard episode) e o = cc

  -- and with those of locks and barriers each letter does
  pub each-to : ArePlaced nodes letters → (x : Letter) → Contains letters x → x.to < nodes
  each-to h x there = ⊎_elim (λ is. other-to x there is) (λ (lt : x.to < nodes). lt) (placed-at nodes letters x h there)
