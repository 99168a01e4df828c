-- In every run the times that go by barriers are those of the nodes that arrive, and their join: every turn keeps it.
use Rattle.std.proofs.Common.{◌≡◌, ◌⊎◌, ℕ, ◌+◌, ◌<◌, ◌≤◌, List, [], ◌∷◌, ◌++◌, true, false, length, map, refl, sym, ap, subst, ◌∙◌, inl, inr, arith}
use Rattle.std.specs.Prelude.{Option, Some, None, Contains, unwrap_or, option_map, count_by, slice_get, slice_set, slice_index_or}
use Rattle.std.specs.Option.{option_to_list}
use Rattle.std.proofs.lemmas.Bool.{cases_eq}
use Rattle.std.proofs.lemmas.Option.{same_Some, slice_get_within}
use Rattle.lrc_program.specs.declared.Program.{Program}
use Rattle.lrc_trace.specs.declared.act.Act.{Act}
use Rattle.lrc_trace.specs.declared.act.Deed.{Deed}
use Rattle.lrc_trace.specs.declared.act.Deed.TheVariants.{Arrive as Arrives}
use Rattle.lrc_trace.specs.Run.{act_of, arrives_before}
use Rattle.lrc_clock.specs.Times.{arrived_time}
use Rattle.lrc_envelope.specs.Envelope.{EnvelopeRecord}
use Rattle.lrc_envelope.specs.Records.{ArriveRecord, DepartRecord}
use Rattle.lrc_envelope.specs.declared.message.Message.TheVariants.{Arrive, Depart}
use Rattle.lrc_store.proofs.Orders.{none_Contains}
use Rattle.lrc_exec.specs.Meaning.{Setting, arrives}
use Rattle.lrc_exec.specs.Plain.{setting_of}
use Rattle.lrc_barrier.specs.declared.arrival.Arrival.{Arrival}
use Rattle.lrc_barrier.specs.Barrier.{ManagerRecord}
use Rattle.lrc_protocol.specs.declared.event.Event.{Event}
use Rattle.lrc_protocol.specs.Node.{nothing, departure, OptionsRecord}
use Rattle.lrc_protocol.specs.Run.{Input, EntryRecord, Logged, World, Flying, fresh_world, with_turn, run_of}
use Rattle.lrc_protocol.specs.Follows.{pending}
use Rattle.lrc_protocol.specs.Follows.{turns_of}
use Rattle.lrc_protocol.proofs.Worlds.{IsEntry, get_set_same, get_set_other, fresh_at}
use Rattle.lrc_protocol.proofs.Turned.{Turned, Turns, turns}
use Rattle.lrc_protocol.proofs.Induction.{Comes}
use Rattle.lrc_order_laws.specs.Barriers.{says_depart, arrive_from, depart_to, kept_of, time_in, IsNewestTime}
use Rattle.lrc_order_laws.proofs.Shift.{Acted, Rested, Moved, deed_made}
use Rattle.lrc_order_laws.proofs.Counts.{deed_next}
use Rattle.lrc_order_laws.proofs.Present.{more_acts, more_times}
use Rattle.lrc_order_laws.proofs.PresentTimes.{all_present, deed_back}
use Rattle.lrc_order_laws.proofs.Shape.{NodeShape, shape_at}
use Rattle.lrc_order_laws.proofs.Sends.{comes, site_of, letter_in}
use Rattle.lrc_order_laws.proofs.Flows.{IsFromNode, stepped}
use Rattle.lrc_order_laws.proofs.Moves.{in-now, Brought, brought, sent_from, among_letters, Moves, moves}
use Rattle.lrc_order_laws.proofs.Arrivals.{kept_before, LetsAll, GoesOn, lets_or_not, own_time, sent_time, waiting_then, collecting_then}
use Rattle.lrc_order_laws.proofs.Joins.{arrived-stays, HadTime, had-more, had-new}
use Rattle.lrc_order_laws.proofs.AllStand.{AllStand, all_stand, its_manager}
use Rattle.lrc_order_laws.proofs.Departs.{standing_at}
use Rattle.lrc_order_laws.proofs.Timely.{Timely, Gate, gate, is_kept, is_sent, is_told, get_within, all_in, told_time}
use Rattle.lrc_order_laws.proofs.Reached.{IsReached, KeptByReached, by_reached}

-- the acts and times of a world after a turn, by its deed
pub record Made (world : World) (n : ℕ) (turn_deed : Option Deed) (time : List ℕ) (after : World) : Type 0 where
  pub deed : Option Deed
  pub acts_are : after.acts ≡ world.acts ++ more_acts n deed
  pub times_are : after.times ≡ world.times ++ more_times n time deed
  pub deed_is : turn_deed ≡ deed

true_false : {X : Type 0} → true ≡ false → X
true_false e = let never : ⊥ = cc in absurd never

module _ (program : Program) (nodes : ℕ) (options : OptionsRecord) where
  pub made_so : (world : World) (flight : List Flying) (n : ℕ) (l after : Logged) (input : Input) (entry : EntryRecord)
      → slice_get world.nodes n ≡ Some l → IsEntry l input entry after → IsReached program nodes options world
      → Made world n (deed_made entry.turn) after.node.locks.time (with_turn world flight n entry after)
  made_so world flight n l after input entry at i r =
      let t : Turned l.node entry.turn after.node = subst (Turns l.node) i.turn_is (turns l.node input) in
      let own : NodeShape (setting_of program nodes n) options _ = shape_at program nodes options r.events world n l r.runs at in
      let act_is : entry.turn.act ≡ option_map (act_of n) t.deed = t.act ∙ ap (λ (s : Setting). option_map (act_of s.me) t.deed) own.setting in
      record {
        deed = t.deed;
        acts_are = ap (λ act. world.acts ++ option_to_list act) act_is;
        times_are = ap (λ act. world.times ++ map (λ (a : Act). after.node.locks.time) (option_to_list act)) act_is;
        deed_is = ap (option_map (λ (a : Act). a.deed)) act_is ∙ deed_back program nodes options n t.deed;
      }

  -- the manager that a world after a turn speaks of
  pub manager_after : (world world' : World) (s : AllStand program nodes options world) (s' : AllStand program nodes options world') (n : ℕ) (l after : Logged)
      → slice_get world.nodes n ≡ Some l → world'.nodes ≡ slice_set world.nodes n after → unwrap_or after.node.barrier.manager s.manager ≡ s'.manager
  manager_after world world' s s' n l after at nodes_are =
      let here : slice_get world'.nodes n ≡ Some after = ap (λ ls. slice_get ls n) nodes_are ∙ get_set_same world.nodes n l after at in
      elim (cases_eq n 0) [
        | inl e ↦
            ap (λ o. unwrap_or o s.manager) (s'.here after (subst (λ n. slice_get world'.nodes n ≡ Some after) e here))
        | inr ne ↦
            let within : n < length world.nodes = slice_get_within world.nodes n l at in
            let first : (x : Logged) × (slice_get world.nodes 0 ≡ Some x) = get_within world.nodes 0 (omega (arith, within)) in
            let still : slice_get world'.nodes 0 ≡ Some first.0 = ap (λ ls. slice_get ls 0) nodes_are ∙ get_set_other world.nodes n 0 after ne ∙ first.1 in
            ap (λ o. unwrap_or o s.manager) (s'.nowhere n after here ne)
            ∙ same_Some s.manager s'.manager (sym (s.here first.0 first.1) ∙ s'.here first.0 still)
      ]

  module _ (world : World) (flight : List Flying) (n : ℕ) (l after : Logged) (input : Input) (entry : EntryRecord)
      (at : slice_get world.nodes n ≡ Some l) (come : Comes world n input flight) (i : IsEntry l input entry after)
      (r : IsReached program nodes options world) (r' : IsReached program nodes options (with_turn world flight n entry after))
      (h : Timely program nodes options world) where
    abbrev next : World
    next = with_turn world flight n entry after

    stand : AllStand program nodes options next
    stand = all_stand program nodes options r'.events next r'.runs

    rel : unwrap_or after.node.barrier.manager h.stand.manager ≡ stand.manager
    rel = manager_after world next h.stand stand n l after at refl

    own_shape : NodeShape (setting_of program nodes n) options (record { node = l.node; turns = turns_of l.log })
    own_shape = shape_at program nodes options r.events world n l r.runs at

    me_is : l.node.setting.me ≡ n
    me_is = ap (λ (s : Setting). s.me) own_shape.setting

    mv : Moves l.node (pending world) (pending next) nodes entry.turn after.node
    mv =
        let t : Turned l.node entry.turn after.node = subst (Turns l.node) i.turn_is (turns l.node input) in
        moves l.node (pending world) (pending next) nodes entry.turn after.node (ap (λ (s : Setting). s.nodes) own_shape.setting) t.setting
        (stepped program nodes options world flight n l after input entry at come i r)

    is : (x : ManagerRecord) → l.node.barrier.manager ≡ Some x → x ≡ h.stand.manager
    is = its_manager program nodes options world h.stand n l at

    made : Made world n (deed_made entry.turn) after.node.locks.time next
    made = made_so world flight n l after input entry at i r

    timed : length world.times ≡ length world.acts
    timed = (all_present program nodes options r.events world r.runs).timed

    -- a node after the turn is one before it; while its arrival is on its way or kept its time stands still
    record Before (m : ℕ) (lm : Logged) : Type 0 where
      old : Logged
      was : slice_get world.nodes m ≡ Some old
      time : 1 ≤ count_by (arrive_from m) (pending world) + kept_of h.stand.manager m → lm.node.locks.time ≡ old.node.locks.time
      is_own : ((n ≡ m) × (after ≡ lm)) ⊎ ((n ≡ m → ⊥) × (old ≡ lm))

    told_nothing : Gate program nodes options world h.stand n l → (from : ℕ) (d : DepartRecord) → mv.came ≡ comes from (Depart d) → ⊥
    told_nothing g from d e =
        let b : Brought l.node.setting.me from (Depart d) (pending world) =
        brought l.node.setting.me from (Depart d) mv.came mv.o (pending world) entry.turn.out (pending next) e mv.brings mv.goes in
        let some : 1 ≤ count_by (depart_to b.envelope.to) (pending world) = is_told program nodes options world b.envelope d b.among b.message_is in
        let one : 1 ≤ count_by (depart_to n) (pending world) = subst (λ k. 1 ≤ count_by (depart_to k) (pending world)) (b.to ∙ me_is) some in
        let none : count_by (depart_to n) (pending world) ≡ 0 = g.none in
        omega (arith, one, none)

    before : (m : ℕ) (lm : Logged) → slice_get next.nodes m ≡ Some lm → Before m lm
    before m lm there = elim (cases_eq n m) [
      | inl e ↦
          let same : after ≡ lm = same_Some after lm (sym (get_set_same world.nodes n l after at) ∙ ap (slice_get (slice_set world.nodes n after)) e ∙ there) in
          record {
            old = l;
            was = subst (λ k. slice_get world.nodes k ≡ Some l) e at;
            time = λ some.
                let g : Gate program nodes options world h.stand n l =
                gate program nodes options world h.stand n l at
                (subst (λ k. 1 ≤ count_by (arrive_from k) (pending world) + kept_of h.stand.manager k) (sym e) some) in
                ap (λ (x : Logged). x.node.locks.time) (sym same)
                ∙ own_time (site_of l.node) mv.came mv.acts after.node.mail.wait after.node.locks after.node.barrier mv.letters
                mv.passes g.waits (told_nothing g);
            is_own = inl (e, same);
          }
      | inr ne ↦ record {
        old = lm;
        was = sym (get_set_other world.nodes n m after ne) ∙ there;
        time = λ some. refl;
        is_own = inr (ne, refl);
      }
    ]

    sent-kept : (e : EnvelopeRecord) (m : ArriveRecord) (lm : Logged) → Contains (pending next) e → e.message ≡ Arrive m → slice_get next.nodes e.from ≡ Some lm
        → m.time ≡ lm.node.locks.time
    sent-kept e m lm there says at_from = elim (in-now mv.o (pending world) entry.turn.out (pending next) e mv.goes there) [
      | inl old ↦
          let b : Before e.from lm = before e.from lm at_from in
          h.sent e m b.old old says b.was ∙ sym (b.time (is_sent program nodes options world h.stand e m old says))
      | inr new ↦
          let from_is : e.from ≡ n = sent_from l.node.setting.me entry.turn.out e mv.from new ∙ me_is in
          let same : after ≡ lm =
          same_Some after lm (sym (get_set_same world.nodes n l after at) ∙ ap (slice_get next.nodes) (sym from_is) ∙ at_from) in
          sent_time (site_of l.node) mv.came mv.acts after.node.mail.wait after.node.locks after.node.barrier mv.letters mv.passes (letter_in e) m
          (subst (λ ls. Contains ls (letter_in e)) mv.out (among_letters entry.turn.out e new)) says
          ∙ ap (λ (x : Logged). x.node.locks.time) same
    ]

    kept-kept : (m : ℕ) (a : Arrival) (lm : Logged) → slice_index_or stand.manager.arrivals m None ≡ Some a → slice_get next.nodes m ≡ Some lm
        → a.time ≡ lm.node.locks.time
    kept-kept m a lm there at_m =
        let b : Before m lm = before m lm at_m in
        elim (kept_before (site_of l.node) h.stand.manager is mv.came mv.acts after.node.mail.wait after.node.locks after.node.barrier mv.letters mv.passes m a
        (ap (λ (x : ManagerRecord). slice_index_or x.arrivals m None) rel ∙ there)) [
          | inl old ↦ h.kept m a b.old old b.was ∙ sym (b.time (is_kept program nodes options world h.stand m a old))
          | inr new ↦
              let c : Brought l.node.setting.me m (Arrive new.0) (pending world) =
              brought l.node.setting.me m (Arrive new.0) mv.came mv.o (pending world) entry.turn.out (pending next) new.1 mv.brings mv.goes in
              ap (λ (a : Arrival). a.time) new.2
              ∙ h.sent c.envelope new.0 b.old c.among c.message_is (ap (slice_get world.nodes) c.from_is ∙ b.was)
              ∙ sym (b.time (subst (λ k. 1 ≤ count_by (arrive_from k) (pending world) + kept_of h.stand.manager k) c.from_is
              (is_sent program nodes options world h.stand c.envelope new.0 c.among c.message_is)))
        ]

    -- a turn that makes no act has no deed
    no_deed : mv.acts ≡ false → made.deed ≡ None
    no_deed e =
        let rested : Rested l.node.course (deed_made entry.turn) after.node.course =
        subst (λ b. Moved b l.node.course (deed_made entry.turn) after.node.course) e mv.moved in
        sym made.deed_is ∙ rested.deed_is

    -- the join of the times at the arrives with a number, where no arrive with it is made
    join_stays : (number : ℕ) → (made.deed ≡ Some Arrives → arrives_before world.acts n (length world.acts) ≡ number → ⊥)
        → arrived_time nodes next.acts next.times number (length next.acts) ≡ arrived_time nodes world.acts world.times number (length world.acts)
    join_stays number none =
        ap (λ acts. arrived_time nodes acts next.times number (length acts)) made.acts_are
        ∙ ap (λ times. arrived_time nodes (world.acts ++ more_acts n made.deed) times number (length (world.acts ++ more_acts n made.deed))) made.times_are
        ∙ arrived-stays nodes world.acts world.times timed n after.node.locks.time number made.deed none

    -- what is the time of the newest episode stays so while the episode goes on
    newest-stays : GoesOn (site_of l.node) h.stand.manager is after.node.barrier mv.letters → (t : List ℕ)
        → IsNewestTime nodes world.acts world.times h.stand.manager.done t → IsNewestTime nodes next.acts next.times stand.manager.done t
    newest-stays g t k =
        let over : stand.manager.done ≡ h.stand.manager.done = ap (λ (x : ManagerRecord). x.done) (sym rel) ∙ g.over in
        let newest : h.stand.manager.done ≡ k.number + 1 = k.newest in
        let arrived : arrives_before world.acts n (length world.acts) ≡ l.node.barrier.episode = (standing_at program nodes options world r n l at).arrived in
        let episode : l.node.barrier.episode ≡ h.stand.manager.done + (count_by (arrive_from n) (pending world) + kept_of h.stand.manager n) =
        (h.stand.each n l at).arrived in
        record {
          number = k.number;
          newest = over ∙ newest;
          joins = k.joins ∙ sym (join_stays k.number (λ made_it same. omega (arith, newest, arrived, episode, same)));
        }

    -- the last arrival has come
    module _ (c : LetsAll (site_of l.node) h.stand.manager is mv.came mv.acts after.node.mail.wait after.node.locks after.node.barrier mv.letters) where
      came_from : Brought l.node.setting.me c.from (Arrive c.arrive) (pending world)
      came_from =
          brought l.node.setting.me c.from (Arrive c.arrive) mv.came mv.o (pending world) entry.turn.out (pending next) c.came_is mv.brings mv.goes

      from_node : c.from < nodes
      from_node = subst (IsFromNode nodes) c.came_is mv.sender

      gate_of : (k : ℕ) (x : Logged) → slice_get world.nodes k ≡ Some x → Gate program nodes options world h.stand k x
      gate_of k x at_k =
          gate program nodes options world h.stand k x at_k
          (all_in program nodes options world r h l.node.setting.me c.from c.arrive came_from from_node c.after c.departures c.lets k
          (subst (λ n. k < n) h.stand.count (slice_get_within world.nodes k x at_k)))

      newest-new : (t : List ℕ) → t ≡ arrived_time nodes world.acts world.times h.stand.manager.done (length world.acts)
          → IsNewestTime nodes next.acts next.times stand.manager.done t
      newest-new t e = record {
        number = h.stand.manager.done;
        newest = ap (λ (x : ManagerRecord). x.done) (sym rel ∙ ap (λ o. unwrap_or o h.stand.manager) c.manager_is ∙ c.lets.after_is);
        joins = e ∙ sym (join_stays h.stand.manager.done (λ made_it same. some_none (sym made_it ∙ no_deed c.acts_is)));
      }
        where
          some_none : Some Arrives ≡ None → ⊥
          some_none e = cc

      told-new : (e : EnvelopeRecord) (m : DepartRecord) (lm : Logged) → Contains (pending next) e → e.message ≡ Depart m → slice_get next.nodes e.to ≡ Some lm
          → IsNewestTime nodes next.acts next.times stand.manager.done m.time
      told-new e m lm there says at_to = elim (in-now mv.o (pending world) entry.turn.out (pending next) e mv.goes there) [
        | inl old ↦
            let b : Before e.to lm = before e.to lm at_to in
            let some : 1 ≤ count_by (depart_to e.to) (pending world) = is_told program nodes options world e m old says in
            let none : count_by (depart_to e.to) (pending world) ≡ 0 = (gate_of e.to b.old b.was).none in
            absurd (omega (arith, some, none))
        | inr new ↦
            newest-new m.time
            (told_time program nodes options world r h l.node.setting.me c.from c.arrive came_from from_node c.after c.departures c.lets (letter_in e) m
            (subst (λ ls. Contains ls (letter_in e)) (mv.out ∙ c.letters_is) (among_letters entry.turn.out e new)) says)
      ]

      learned-new : (m : ℕ) (lm : Logged) (t : List ℕ) → slice_get next.nodes m ≡ Some lm → time_in lm.node.mail.wait ≡ Some t → ⊥
      learned-new m lm t at_m e =
          let b : Before m lm = before m lm at_m in
          let wait_is : lm.node.mail.wait ≡ b.old.node.mail.wait = elim b.is_own [
            | inl own ↦
                let old_is : l ≡ b.old = same_Some l b.old (sym at ∙ ap (slice_get world.nodes) own.0 ∙ b.was) in
                ap (λ (x : Logged). x.node.mail.wait) (sym own.1) ∙ c.wait_is ∙ ap (λ (x : Logged). x.node.mail.wait) old_is
            | inr other ↦ ap (λ (x : Logged). x.node.mail.wait) (sym other.1)
          ] in
          none_some (sym (ap time_in (wait_is ∙ (gate_of m b.old b.was).waits)) ∙ e)
        where
          none_some : None ≡ Some t → ⊥
          none_some e = cc

    told-kept : (e : EnvelopeRecord) (m : DepartRecord) (lm : Logged) → Contains (pending next) e → e.message ≡ Depart m → slice_get next.nodes e.to ≡ Some lm
        → IsNewestTime nodes next.acts next.times stand.manager.done m.time
    told-kept e m lm there says at_to =
        elim (lets_or_not (site_of l.node) h.stand.manager is mv.came mv.acts after.node.mail.wait after.node.locks after.node.barrier mv.letters mv.passes) [
          | inl c ↦ told-new c e m lm there says at_to
          | inr g ↦ elim (in-now mv.o (pending world) entry.turn.out (pending next) e mv.goes there) [
            | inl old ↦
                let b : Before e.to lm = before e.to lm at_to in
                newest-stays g m.time (h.told e m b.old old says b.was)
            | inr new ↦
                true_false (ap says_depart (sym says)
                ∙ g.no_departs (letter_in e) (subst (λ ls. Contains ls (letter_in e)) mv.out (among_letters entry.turn.out e new)))
          ]
        ]

    learned-kept : (m : ℕ) (lm : Logged) (t : List ℕ) → slice_get next.nodes m ≡ Some lm → time_in lm.node.mail.wait ≡ Some t
        → IsNewestTime nodes next.acts next.times stand.manager.done t
    learned-kept m lm t at_m e =
        elim (lets_or_not (site_of l.node) h.stand.manager is mv.came mv.acts after.node.mail.wait after.node.locks after.node.barrier mv.letters mv.passes) [
          | inl c ↦ absurd (learned-new c m lm t at_m e)
          | inr g ↦
              let b : Before m lm = before m lm at_m in
              elim b.is_own [
                | inl own ↦
                    elim (collecting_then (site_of l.node) mv.came mv.acts after.node.mail.wait after.node.locks after.node.barrier mv.letters mv.passes t
                    (ap (λ (x : Logged). time_in x.node.mail.wait) own.1 ∙ e)) [
                      | inl told ↦
                          let c : Brought l.node.setting.me told.0 (Depart told.1) (pending world) =
                          brought l.node.setting.me told.0 (Depart told.1) mv.came mv.o (pending world) entry.turn.out
                          (pending next) told.2 mv.brings mv.goes in
                          newest-stays g t
                          (subst (IsNewestTime nodes world.acts world.times h.stand.manager.done) told.3
                          (h.told c.envelope told.1 l c.among c.message_is (ap (slice_get world.nodes) (c.to ∙ me_is) ∙ at)))
                      | inr old ↦ newest-stays g t (h.learned n l t at old)
                    ]
                | inr other ↦
                    newest-stays g t (h.learned m b.old t b.was (ap (λ (x : Logged). time_in x.node.mail.wait) other.1 ∙ e))
              ]
        ]

    -- along the acts and times of the world after the turn
    had-next : (m episode : ℕ) (time : List ℕ) (deed : Option Deed) → made.deed ≡ deed
        → HadTime (world.acts ++ more_acts n deed) (world.times ++ more_times n after.node.locks.time deed) m episode time
        → HadTime next.acts next.times m episode time
    had-next m episode time deed e k =
        subst (λ acts. HadTime acts next.times m episode time) (sym (made.acts_are ∙ ap (λ d. world.acts ++ more_acts n d) e))
        (subst (λ times. HadTime (world.acts ++ more_acts n deed) times m episode time)
        (sym (made.times_are ∙ ap (λ d. world.times ++ more_times n after.node.locks.time d) e)) k)

    had-own : after.node.mail.wait ≡ departure → HadTime next.acts next.times n after.node.barrier.episode after.node.locks.time
    had-own d =
        elim (waiting_then (site_of l.node) mv.came mv.acts after.node.mail.wait after.node.locks after.node.barrier mv.letters mv.passes d) [
          | inl a ↦
              let moved : Acted l.node.course (deed_made entry.turn) after.node.course =
              subst (λ b. Moved b l.node.course (deed_made entry.turn) after.node.course) a.acts_is mv.moved in
              let deed_is : made.deed ≡ Some Arrives =
              sym made.deed_is ∙ moved.deed_is ∙ deed_next moved.value l.node.course (arrives a.after) a.next in
              let arrived : arrives_before world.acts n (length world.acts) ≡ l.node.barrier.episode =
              (standing_at program nodes options world r n l at).arrived in
              had-next n after.node.barrier.episode after.node.locks.time (Some Arrives) deed_is
              (subst (λ k. HadTime (world.acts ++ act_of n Arrives ∷ []) (world.times ++ after.node.locks.time ∷ []) n k after.node.locks.time) (sym a.episode)
              (had-new world.acts world.times timed n after.node.locks.time l.node.barrier.episode arrived))
          | inr w ↦
              subst (λ k. HadTime next.acts next.times n k after.node.locks.time) (sym w.episode)
              (subst (HadTime next.acts next.times n l.node.barrier.episode) (sym w.time)
              (had-next n l.node.barrier.episode l.node.locks.time made.deed refl
              (had-more world.acts world.times timed n after.node.locks.time made.deed n l.node.barrier.episode l.node.locks.time
              (inr (no_deed w.acts_is)) (h.had n l at w.waited))))
        ]

    had-kept : (m : ℕ) (lm : Logged) → slice_get next.nodes m ≡ Some lm → lm.node.mail.wait ≡ departure
        → HadTime next.acts next.times m lm.node.barrier.episode lm.node.locks.time
    had-kept m lm at_m d =
        let b : Before m lm = before m lm at_m in
        elim b.is_own [
          | inl own ↦
              subst (λ k. HadTime next.acts next.times k lm.node.barrier.episode lm.node.locks.time) own.0
              (subst (λ (x : Logged). HadTime next.acts next.times n x.node.barrier.episode x.node.locks.time) own.1
              (had-own (ap (λ (x : Logged). x.node.mail.wait) own.1 ∙ d)))
          | inr other ↦
              subst (λ (x : Logged). HadTime next.acts next.times m x.node.barrier.episode x.node.locks.time) other.1
              (had-next m b.old.node.barrier.episode b.old.node.locks.time made.deed refl
              (had-more world.acts world.times timed n after.node.locks.time made.deed m b.old.node.barrier.episode b.old.node.locks.time (inl other.0)
              (h.had m b.old b.was (ap (λ (x : Logged). x.node.mail.wait) other.1 ∙ d))))
        ]

    next-timely : Timely program nodes options next
    next-timely = record {
      stand = stand;
      sent = sent-kept;
      kept = kept-kept;
      told = told-kept;
      learned = learned-kept;
      had = had-kept;
    }

  timely-kept : KeptByReached program nodes options (Timely program nodes options)
  timely-kept world flight n l after input entry at come i r r' h = next-timely world flight n l after input entry at come i r r' h

  timely-fresh : Timely program nodes options (fresh_world program nodes options)
  timely-fresh =
      let stand : AllStand program nodes options (fresh_world program nodes options) =
      all_stand program nodes options [] (fresh_world program nodes options) refl in
      record {
        stand = stand;
        sent = λ e m l there. absurd (none_Contains e there);
        kept = λ n a l there at.
            let some : 1 ≤ count_by (arrive_from n) [] + kept_of stand.manager n =
            is_kept program nodes options (fresh_world program nodes options) stand n a there in
            let g : Gate program nodes options (fresh_world program nodes options) stand n l =
            gate program nodes options (fresh_world program nodes options) stand n l at some in
            absurd (not_waiting n l at g.waits);
        told = λ e m l there. absurd (none_Contains e there);
        learned = λ n l t at e. absurd (not_collecting n l t at e);
        had = λ n l at d. absurd (not_waiting n l at d);
      }
    where
      fresh_wait : (n : ℕ) (l : Logged) → slice_get (fresh_world program nodes options).nodes n ≡ Some l → l.node.mail.wait ≡ nothing
      fresh_wait n l at = ap (λ (x : Logged). x.node.mail.wait) (fresh_at program nodes options 0 nodes n l at)

      not_departure : nothing ≡ departure → ⊥
      not_departure e = cc

      not_waiting : (n : ℕ) (l : Logged) → slice_get (fresh_world program nodes options).nodes n ≡ Some l → l.node.mail.wait ≡ departure → ⊥
      not_waiting n l at d = not_departure (sym (fresh_wait n l at) ∙ d)

      none_some : (t : List ℕ) → None ≡ Some t → ⊥
      none_some t e = cc

      not_collecting : (n : ℕ) (l : Logged) (t : List ℕ) → slice_get (fresh_world program nodes options).nodes n ≡ Some l
          → time_in l.node.mail.wait ≡ Some t → ⊥
      not_collecting n l t at e = none_some t (sym (ap time_in (fresh_wait n l at)) ∙ e)

  pub all_timely : (events : List Event) (world : World) → run_of program nodes options events ≡ Some world → Timely program nodes options world
  all_timely events world e = by_reached program nodes options (Timely program nodes options) timely-kept events world timely-fresh e
