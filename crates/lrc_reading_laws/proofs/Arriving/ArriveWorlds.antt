-- In every run the manager's note of each node's newest arrival is what the node told with it, once no arrival of the node is on its
-- way; and an arrival on its way tells of just the node's own intervals above the note and up to its time.
use Rattle.std.proofs.Common.{◌≡◌, ℕ, ◌+◌, ◌-◌, ◌<◌, ◌≤◌, List, [], ◌∷◌, false, cond, length, refl, sym, ap, subst, ◌∙◌, ⊎_elim, inl, inr, arith}
use Rattle.std.specs.Prelude.{Some, ◌==◌, Contains, count_by, slice_get, slice_set, unwrap_or}
use Rattle.std.proofs.lemmas.Bool.{and_left, cases_eq, eq-eqb, ne_eqb, false≢true}
use Rattle.std.specs.List.{range_with_len}
use Rattle.std.proofs.lemmas.Option.{same_Some, slice_get_within}
use Rattle.lrc_program.specs.declared.Program.{Program}
use Rattle.lrc_time.specs.Time.{entry}
use Rattle.lrc_time.proofs.Times.{entry-zeros, entry-set_same, entry-set_other}
use Rattle.lrc_envelope.specs.Envelope.{EnvelopeRecord}
use Rattle.lrc_envelope.specs.Records.{ArriveRecord}
use Rattle.lrc_envelope.specs.declared.message.Message.{Message}
use Rattle.lrc_envelope.specs.declared.message.Message.TheVariants.{LockRequest, LockForward, LockGrant, Arrive, Depart, Clean, Discard}
use Rattle.lrc_envelope.specs.declared.message.Message.TheVariants.{ChangesRequest, ChangesReply, PageRequest, PageReply}
use Rattle.lrc_copies.proofs.Members.{cases_Contains, none_Contains}
use Rattle.lrc_barrier.specs.Barrier.{ManagerRecord, first_manager}
use Rattle.lrc_protocol.specs.Node.{Letter, nothing, OptionsRecord}
use Rattle.lrc_protocol.specs.Turn.{own_news, after_close}
use Rattle.lrc_protocol.specs.Run.{Input, EntryRecord, Logged, World, Flying, fresh_world, with_turn}
use Rattle.lrc_protocol.specs.Follows.{pending}
use Rattle.lrc_protocol.proofs.Worlds.{IsEntry, get_set_same, get_set_other, fresh_at}
use Rattle.lrc_protocol.proofs.Induction.{Comes}
use Rattle.lrc_protocol.proofs.Turned.{Turned, Turns, turns}
use Rattle.lrc_order_laws.specs.Barriers.{says_arrive, arrive_from, kept_of, depart_to, awaits_depart}
use Rattle.lrc_order_laws.specs.Counts.{is_inside}
use Rattle.lrc_order_laws.proofs.Sends.{Came, by_itself, comes, site_of, letter_in}
use Rattle.lrc_order_laws.proofs.Flows.{IsFromNode, came_count, count-cons, counts, stepped}
use Rattle.lrc_order_laws.proofs.Standing.{arrive_test}
use Rattle.lrc_order_laws.proofs.Moves.{in-now, Brought, brought, among_letters, counted_in, sent_from}
use Rattle.lrc_order_laws.proofs.AllStand.{AllStand, its_manager, all_stand}
use Rattle.lrc_order_laws.proofs.AllTimely.{manager_after, all_timely}
use Rattle.lrc_order_laws.proofs.Timely.{Gate, gate, get_within, is_arrive_from, is_sent}
use Rattle.lrc_order_laws.proofs.Reached.{IsReached, KeptByReached, by_reached}
use Rattle.lrc_reading_laws.proofs.Arriving.ArriveNews.{ToldNow, told_now, news_own}
use Rattle.lrc_reading_laws.proofs.Arriving.ArriveTurns.{Arriving, calm, arrives, notes_one, ArriveStep, arrive_step}
use Rattle.lrc_reading_laws.proofs.Asked.Departs.{IsOwn}
use Rattle.lrc_reading_laws.proofs.Stamped.Bars.{is_arrive, NoArrives, NotArrive}
use Rattle.lrc_reading_laws.proofs.Stamped.Sent.{all_sent}
use Rattle.lrc_reading_laws.proofs.Stamped.Worlds.{Placed, placed, turn_at}

-- ---- counts

none_come : (b me : ℕ) (came : Came) → NotArrive came → came_count (arrive_test b) me came ≡ 0
none_come b me by_itself h = refl
none_come b me (comes from (LockRequest m)) h = refl
none_come b me (comes from (LockForward m)) h = refl
none_come b me (comes from (LockGrant m)) h = refl
none_come b me (comes from (Arrive m)) h = absurd h
none_come b me (comes from (Depart m)) h = refl
none_come b me (comes from (Clean episode)) h = refl
none_come b me (comes from (Discard episode)) h = refl
none_come b me (comes from (ChangesRequest m)) h = refl
none_come b me (comes from (ChangesReply m)) h = refl
none_come b me (comes from (PageRequest page)) h = refl
none_come b me (comes from (PageReply m)) h = refl

says_no : (message : Message) → is_arrive message ≡ false → says_arrive message ≡ false
says_no message e = e

none_sent : (b me : ℕ) (letters : List Letter) → NoArrives letters → count_by (arrive_test b me) letters ≡ 0
none_sent b me [] h = refl
none_sent b me (x ∷ letters) h =
    let both : count_by (arrive_test b me) (x ∷ letters) ≡ cond (arrive_test b me x) 1 0 + count_by (arrive_test b me) letters =
    count-cons (arrive_test b me) x letters in
    let first : cond {A = ℕ} (arrive_test b me x) 1 0 ≡ 0 = ap (λ t. cond {A = ℕ} t 1 0) (and_left (says_arrive x.message) (me == b) (says_no x.message h.0)) in
    let rest : count_by (arrive_test b me) letters ≡ 0 = none_sent b me letters h.1 in
    omega (arith, both, first, rest)

no_letter : (letters : List Letter) (x : Letter) → NoArrives letters → Contains letters x → is_arrive x.message ≡ false
no_letter [] x h c = absurd (none_Contains x c)
no_letter (y ∷ letters) x h c =
    ⊎_elim
    (λ (first : y ≡ x). subst (λ (z : Letter). is_arrive z.message ≡ false) first h.0)
    (λ (later : Contains letters x). no_letter letters x h.1 later)
    (cases_Contains y letters x c)

module _ (program : Program) (nodes : ℕ) (options : OptionsRecord) where
  -- with no arrival of a node on its way, what the manager notes of it is what it told; and what is on its way is its own, above
  -- the note and up to its time
  pub record ArrivesSo (world : World) : Type 0 where
    pub stand : AllStand program nodes options world
    pub noted : (n : ℕ) (l : Logged) → slice_get world.nodes n ≡ Some l → count_by (arrive_from n) (pending world) ≡ 0
        → entry stand.manager.last n ≡ l.node.barrier.sent
    pub own : (e : EnvelopeRecord) (m : ArriveRecord) → Contains (pending world) e → e.message ≡ Arrive m
        → IsOwn (entry stand.manager.last) (entry m.time) e.from m.intervals

  module _ (world : World) (flight : List Flying) (n : ℕ) (l after : Logged) (input : Input) (entry_is : EntryRecord)
      (at : slice_get world.nodes n ≡ Some l) (come : Comes world n input flight) (i : IsEntry l input entry_is after)
      (r : IsReached program nodes options world) (r' : IsReached program nodes options (with_turn world flight n entry_is after))
      (h : ArrivesSo world) where
    abbrev next : World
    next = with_turn world flight n entry_is after

    abbrev me : ℕ
    me = l.node.setting.me

    abbrev before : ManagerRecord
    before = h.stand.manager

    stand' : AllStand program nodes options next
    stand' = all_stand program nodes options r'.events next r'.runs

    -- what the manager notes then
    last_is : (last : List ℕ) → (unwrap_or after.node.barrier.manager before).last ≡ last → stand'.manager.last ≡ last
    unfolding stand'
    last_is last e =
        ap (λ (x : ManagerRecord). x.last) (sym (manager_after program nodes options world next h.stand stand' n l after at refl)) ∙ e

    p : Placed nodes n l.node
    p = placed program nodes options world r n l at

    step : ArriveStep l.node before (pending world) (pending next) entry_is.turn after.node
    step =
        let t : Turned l.node entry_is.turn after.node = subst (Turns l.node) i.turn_is (turns l.node input) in
        arrive_step l.node before (its_manager program nodes options world h.stand n l at) (pending world) (pending next) entry_is.turn after.node
        t.setting (stepped program nodes options world flight n l after input entry_is at come i r)

    flow : (b : ℕ) → count_by (arrive_from b) (pending next) + came_count (arrive_test b) me step.came
        ≡ count_by (arrive_from b) (pending world) + count_by (arrive_test b me) step.letters
    flow b =
        counts (arrive_test b) me step.came step.o (pending world) (pending next) entry_is.turn.out step.letters step.brings step.goes step.from step.out

    -- the node before
    record Was (b : ℕ) (lb : Logged) : Type 0 where
      old : Logged
      there : slice_get world.nodes b ≡ Some old
      sent : after.node.barrier.sent ≡ l.node.barrier.sent → lb.node.barrier.sent ≡ old.node.barrier.sent
      other : (n ≡ b → ⊥) → lb ≡ old

    was : (b : ℕ) (lb : Logged) → slice_get next.nodes b ≡ Some lb → Was b lb
    was b lb at_b = elim (cases_eq n b) [
      | inl e ↦
          let same : after ≡ lb = same_Some after lb (sym (get_set_same world.nodes n l after at) ∙ ap (slice_get (slice_set world.nodes n after)) e ∙ at_b) in
          record {
            old = l;
            there = subst (λ k. slice_get world.nodes k ≡ Some l) e at;
            sent = λ kept. ap (λ (x : Logged). x.node.barrier.sent) (sym same) ∙ kept;
            other = λ ne. absurd (ne e);
          }
      | inr ne ↦
          record {
            old = lb;
            there = sym (get_set_other world.nodes n b after ne) ∙ at_b;
            sent = λ kept. refl;
            other = λ ne. refl;
          }
    ]

    -- where no arrival is sent, each was on its way before
    old_one : NoArrives step.letters → (e : EnvelopeRecord) (m : ArriveRecord) → Contains (pending next) e → e.message ≡ Arrive m
        → Contains (pending world) e
    old_one quiet e m there says = elim (in-now step.o (pending world) entry_is.turn.out (pending next) e step.goes there) [
      | inl old ↦ old
      | inr new ↦
          absurd (false≢true (sym (no_letter step.letters (letter_in e) quiet (subst (λ ls. Contains ls (letter_in e)) step.out (among_letters entry_is.turn.out
          e new))) ∙ ap is_arrive says))
    ]

    -- with nothing of arrivals
    calm_next : NotArrive step.came → NoArrives step.letters → after.node.barrier.sent ≡ l.node.barrier.sent
        → (unwrap_or after.node.barrier.manager before).last ≡ before.last → ArrivesSo next
    calm_next other quiet sent last = record {
      stand = stand';
      noted = λ b lb at_b none.
          let w : Was b lb = was b lb at_b in
          let f : count_by (arrive_from b) (pending next) + came_count (arrive_test b) me step.came
          ≡ count_by (arrive_from b) (pending world) + count_by (arrive_test b me) step.letters = flow b in
          ap (λ last. entry last b) (last_is before.last last) ∙ h.noted b w.old w.there (omega (arith, none, f, none_come b me step.came other))
          ∙ sym (w.sent sent);
      own = λ e m there says.
          subst (λ last. IsOwn (entry last) (entry m.time) e.from m.intervals) (sym (last_is before.last last)) (h.own e m
          (old_one quiet e m there says) says);
    }

    -- the node arrives
    module _ (x : ArriveRecord) (to : ℕ) (idle : l.node.mail.wait ≡ nothing) (last : (unwrap_or after.node.barrier.manager before).last ≡ before.last)
        (came : step.came ≡ by_itself) (letters : step.letters ≡ (record { to = to; message = Arrive x }) ∷ []) where
      none_yet : count_by (arrive_from n) (pending world) ≡ 0
      none_yet =
          let so : count_by (arrive_from n) (pending world) + kept_of before n + count_by (depart_to n) (pending world) ≡ awaits_depart l.node.mail.wait =
          (h.stand.each n l at).departs in
          let idle_is : awaits_depart l.node.mail.wait ≡ 0 = ap awaits_depart idle in
          omega (arith, so, idle_is)

      on_its_way : 1 ≤ count_by (arrive_from n) (pending next)
      on_its_way =
          let f : count_by (arrive_from n) (pending next) + came_count (arrive_test n) me step.came
          ≡ count_by (arrive_from n) (pending world) + count_by (arrive_test n me) step.letters = flow n in
          let c : came_count (arrive_test n) me step.came ≡ 0 = ap (came_count (arrive_test n) me) came in
          let s : count_by (arrive_test n me) step.letters ≡ cond {A = ℕ} (me == n) 1 0 =
          ap (count_by (arrive_test n me)) letters ∙ count-cons (arrive_test n me) (record { to = to; message = Arrive x }) []
          ∙ omega arith in
          let one : cond {A = ℕ} (me == n) 1 0 ≡ 1 = ap (λ b. cond {A = ℕ} b 1 0) (eq-eqb me n p.me) in
          omega (arith, f, c, s, one)

      own_now : (e : EnvelopeRecord) (m : ArriveRecord) → Contains entry_is.turn.out e → e.message ≡ Arrive m
          → IsOwn (entry stand'.manager.last) (entry m.time) e.from m.intervals
      own_now e m new says =
          let told : ToldNow l.node m =
          told_now nodes n l.node p (pending world) input entry_is.turn after.node (pending next)
          (turn_at program nodes options world flight n l after input entry_is at come i r) e m new says in
          let it : IsOwn (λ q. l.node.barrier.sent) (entry m.time) n m.intervals =
          subst (λ intervals. IsOwn (λ q. l.node.barrier.sent) (entry m.time) n intervals) told.intervals
          (subst (λ t. IsOwn (λ q. l.node.barrier.sent) (entry t) n (own_news (after_close l.node))) told.time
          (news_own nodes n l.node p (all_sent program nodes options world r n l at))) in
          let note : l.node.barrier.sent ≡ entry stand'.manager.last n =
          sym (ap (λ last. entry last n) (last_is before.last last) ∙ h.noted n l at none_yet) in
          subst (λ k. IsOwn (entry stand'.manager.last) (entry m.time) k m.intervals) (sym p.me ∙ sym (sent_from me entry_is.turn.out e step.from new))
          (record { own = it.own ∙ ap (λ k. range_with_len (k + 1) (entry m.time n - k)) note; only = it.only })

      arrives_next : ArrivesSo next
      arrives_next = record {
        stand = stand';
        noted = λ b lb at_b none. elim (cases_eq n b) [
          | inl e ↦
              let some : 1 ≤ count_by (arrive_from b) (pending next) = subst (λ k. 1 ≤ count_by (arrive_from k) (pending next)) e on_its_way in
              absurd (omega (arith, some, none))
          | inr ne ↦
              let w : Was b lb = was b lb at_b in
              let f : count_by (arrive_from b) (pending next) + came_count (arrive_test b) me step.came
              ≡ count_by (arrive_from b) (pending world) + count_by (arrive_test b me) step.letters = flow b in
              let c : came_count (arrive_test b) me step.came ≡ 0 = ap (came_count (arrive_test b) me) came in
              ap (λ last. entry last b) (last_is before.last last) ∙ h.noted b w.old w.there (omega (arith, none, f, c))
              ∙ ap (λ (x : Logged). x.node.barrier.sent) (sym (w.other ne))
        ];
        own = λ e m there says. elim (in-now step.o (pending world) entry_is.turn.out (pending next) e step.goes there) [
          | inl old ↦
              subst (λ last. IsOwn (entry last) (entry m.time) e.from m.intervals) (sym (last_is before.last last)) (h.own e m old says)
          | inr new ↦ own_now e m new says
        ];
      }

    -- the manager notes an arrival
    module _ (from : ℕ) (x : ArriveRecord) (quiet : NoArrives step.letters) (sent : after.node.barrier.sent ≡ l.node.barrier.sent)
        (last : (unwrap_or after.node.barrier.manager before).last ≡ slice_set before.last from (entry x.time from))
        (came : step.came ≡ comes from (Arrive x)) where
      c : Brought me from (Arrive x) (pending world)
      c = brought me from (Arrive x) step.came step.o (pending world) entry_is.turn.out (pending next) came step.brings step.goes

      lt : from < nodes
      lt = subst (λ k. from < k) p.count (subst (IsFromNode l.node.setting.nodes) came step.sender)

      sender : (s : Logged) × (slice_get world.nodes from ≡ Some s)
      sender = get_within world.nodes from (subst (λ k. from < k) (sym h.stand.count) lt)

      g : Gate program nodes options world h.stand from sender.0
      g =
          gate program nodes options world h.stand from sender.0 sender.1
          (subst (λ k. 1 ≤ count_by (arrive_from k) (pending world) + kept_of before k) c.from_is
          (is_sent program nodes options world h.stand c.envelope x c.among c.message_is))

      -- it is all that the node told
      all_told : entry x.time from ≡ sender.0.node.barrier.sent
      all_told =
          let time_is : x.time ≡ sender.0.node.locks.time =
          (all_timely program nodes options r.events world r.runs).sent c.envelope x sender.0 c.among c.message_is
          (ap (slice_get world.nodes) c.from_is ∙ sender.1) in
          ap (λ t. entry t from) time_is ∙ sym ((all_sent program nodes options world r from sender.0 sender.1).inside (ap is_inside g.waits))

      count_of_came : (b : ℕ) → came_count (arrive_test b) me step.came ≡ cond {A = ℕ} (from == b) 1 0
      count_of_came b = ap (came_count (arrive_test b) me) came

      flows : (b : ℕ) → count_by (arrive_from b) (pending next) + cond {A = ℕ} (from == b) 1 0 ≡ count_by (arrive_from b) (pending world)
      flows b =
          let f : count_by (arrive_from b) (pending next) + came_count (arrive_test b) me step.came
          ≡ count_by (arrive_from b) (pending world) + count_by (arrive_test b me) step.letters = flow b in
          omega (arith, f, count_of_came b, none_sent b me step.letters quiet)

      no_other : count_by (arrive_from from) (pending next) ≡ 0
      no_other =
          let one : count_by (arrive_from from) (pending world) + kept_of before from ≡ 1 = g.one in
          let this : cond {A = ℕ} (from == from) 1 0 ≡ 1 = ap (λ b. cond {A = ℕ} b 1 0) (eq-eqb from from refl) in
          omega (arith, one, this, flows from)

      elsewhere : (b : ℕ) → (from ≡ b → ⊥) → entry stand'.manager.last b ≡ entry before.last b
      elsewhere b ne =
          ap (λ last. entry last b) (last_is (slice_set before.last from (entry x.time from)) last)
          ∙ entry-set_other before.last from (entry x.time from) b (λ e. ne (sym e))

      notes_next : ArrivesSo next
      notes_next = record {
        stand = stand';
        noted = λ b lb at_b none.
            let w : Was b lb = was b lb at_b in
            elim (cases_eq from b) [
              | inl e ↦
                  let same : sender.0 ≡ w.old = same_Some sender.0 w.old (sym sender.1 ∙ ap (slice_get world.nodes) e ∙ w.there) in
                  ap (entry stand'.manager.last) (sym e)
                  ∙ ap (λ last. entry last from) (last_is (slice_set before.last from (entry x.time from)) last)
                  ∙ entry-set_same before.last from (entry x.time from) (subst (λ k. from < k) (sym h.stand.places.last) lt)
                  ∙ all_told
                  ∙ ap (λ (s : Logged). s.node.barrier.sent) same
                  ∙ sym (w.sent sent)
              | inr ne ↦
                  let other : cond {A = ℕ} (from == b) 1 0 ≡ 0 = ap (λ t. cond {A = ℕ} t 1 0) (ne_eqb from b ne) in
                  elsewhere b ne ∙ h.noted b w.old w.there (omega (arith, none, other, flows b)) ∙ sym (w.sent sent)
            ];
        own = λ e m there says. elim (cases_eq from e.from) [
          | inl same ↦
              let some : 1 ≤ count_by (arrive_from e.from) (pending next) =
              counted_in (arrive_from e.from) (pending next) e there (is_arrive_from e m says) in
              let none : count_by (arrive_from e.from) (pending next) ≡ 0 = subst (λ k. count_by (arrive_from k) (pending next) ≡ 0) same no_other in
              absurd (omega (arith, some, none))
          | inr ne ↦
              let had : IsOwn (entry before.last) (entry m.time) e.from m.intervals = h.own e m (old_one quiet e m there says) says in
              record {
                own = had.own ∙ ap (λ k. range_with_len (k + 1) (entry m.time e.from - k)) (sym (elsewhere e.from ne));
                only = had.only;
              }
        ];
      }

    by_arriving : (came : Came) (letters : List Letter) → step.came ≡ came → step.letters ≡ letters
        → Arriving (site_of l.node) before came after.node.barrier letters → ArrivesSo next
    by_arriving came letters c s (calm other quiet sent last) =
        calm_next (subst NotArrive (sym c) other) (subst NoArrives (sym s) quiet) sent last
    by_arriving _ _ c s (arrives m to idle last) = arrives_next m to idle last c s
    by_arriving _ letters c s (notes_one from m quiet sent last) = notes_next from m (subst NoArrives (sym s) quiet) sent last c

    arrives_then : ArrivesSo next
    arrives_then = by_arriving step.came step.letters refl refl step.arriving_is

  arrives-kept : KeptByReached program nodes options ArrivesSo
  arrives-kept world flight n l after input entry_is at come i r r' h = arrives_then world flight n l after input entry_is at come i r r' h

  arrives-fresh : ArrivesSo (fresh_world program nodes options)
  arrives-fresh =
      let world : World = fresh_world program nodes options in
      let stand : AllStand program nodes options world = all_stand program nodes options [] world refl in
      record {
        stand = stand;
        noted = λ n l at none.
            let within : n < length world.nodes = slice_get_within world.nodes n l at in
            let first : (x : Logged) × (slice_get world.nodes 0 ≡ Some x) = get_within world.nodes 0 (omega (arith, within)) in
            let here : first.0.node.barrier.manager ≡ Some (first_manager nodes) =
            ap (λ (x : Logged). x.node.barrier.manager) (fresh_at program nodes options 0 nodes 0 first.0 first.1) in
            let manager_is : stand.manager ≡ first_manager nodes =
            same_Some stand.manager (first_manager nodes) (sym (stand.here first.0 first.1) ∙ here) in
            ap (λ (x : ManagerRecord). entry x.last n) manager_is ∙ entry-zeros nodes n
            ∙ sym (ap (λ (x : Logged). x.node.barrier.sent) (fresh_at program nodes options 0 nodes n l at));
        own = λ e m there. absurd (none_Contains e there);
      }

  pub all_arrive : (world : World) → IsReached program nodes options world → ArrivesSo world
  all_arrive world r = by_reached program nodes options ArrivesSo arrives-kept r.events world arrives-fresh r.runs
