-- When a collection begins and when all are told that it is over: by the manager's note of who is clean, which is there as long
-- as some node has not told that its copies are clean.
use Rattle.std.proofs.Common.{◌≡◌, ℕ, ◌+◌, ◌<◌, ◌≤◌, List, ◌∷◌, Bool, true, false, cond, is_some, length, refl, sym, ap, subst, ◌∙◌, inl, inr, arith}
use Rattle.std.specs.Prelude.{Option, Some, None, ◌==◌, Contains, count_by, unwrap_or, slice_get, slice_set, if◌then◌else◌}
use Rattle.std.proofs.lemmas.Bool.{and_from, cases_eq, eq-eqb, ne_eqb}
use Rattle.std.proofs.lemmas.Option.{same_Some, slice_get_within}
use Rattle.std.proofs.lemmas.List.{length-set}
use Rattle.std.proofs.lemmas.List.Elements.{Contains-append_right}
use Rattle.lrc_program.specs.declared.Program.{Program}
use Rattle.lrc_envelope.specs.Envelope.{EnvelopeRecord}
use Rattle.lrc_envelope.specs.declared.message.Message.TheVariants.{Arrive, Clean}
use Rattle.lrc_store.proofs.Orders.{Contains-first}
use Rattle.lrc_barrier.specs.Barrier.{ManagerRecord}
use Rattle.lrc_protocol.specs.Barriers.{Barrier}
use Rattle.lrc_protocol.specs.Node.{departure, OptionsRecord}
use Rattle.lrc_protocol.specs.Turn.{done, is_repeat}
use Rattle.lrc_protocol.specs.Run.{Input, taken, outcome_of, EntryRecord, Logged, World, Flying, with_turn}
use Rattle.lrc_protocol.specs.Follows.{pending}
use Rattle.lrc_protocol.proofs.Worlds.{IsEntry, get_set_same}
use Rattle.lrc_protocol.proofs.Induction.{Comes}
use Rattle.lrc_order_laws.specs.Barriers.{says_clean, clean_from, discard_to, noted_of, awaits_depart, awaits_word}
use Rattle.lrc_order_laws.proofs.Sends.{comes}
use Rattle.lrc_order_laws.proofs.Flows.{IsFromNode}
use Rattle.lrc_order_laws.proofs.Managers.{failing, LetDiscard, noted_in, noted-more, noted-all}
use Rattle.lrc_order_laws.proofs.Standing.{same_manager}
use Rattle.lrc_order_laws.proofs.Moves.{Moves, Brought, brought, counted_in}
use Rattle.lrc_order_laws.proofs.Pending.{get_within, all_pending, pending-goes, Lost, Goes, new_of, Took, took}
use Rattle.lrc_order_laws.proofs.AllStand.{AllStand, its_manager}
use Rattle.lrc_order_laws.proofs.Timely.{gate, all_in}
use Rattle.lrc_order_laws.proofs.Exclusive.{Exclusive, Kind, stays, begins, notes, ends, kind, mv, me_is, new_manager, timely, one_of}
use Rattle.lrc_order_laws.proofs.AllTimely.{manager_after}
use Rattle.lrc_order_laws.proofs.Reached.{IsReached}

fresh : (e : EnvelopeRecord) (was out now : List EnvelopeRecord) (b : Bool) → b ≡ false → Goes (if b then None else Some e) was out now → Lost e was out now
fresh e was out now true is g = cc
fresh e was out now false is g = g

module _ (program : Program) (nodes : ℕ) (options : OptionsRecord) where
  -- a world has one manager
  one_manager : (world : World) (s s' : AllStand program nodes options world) (n : ℕ) (l : Logged) → slice_get world.nodes n ≡ Some l
      → s.manager ≡ s'.manager
  one_manager world s s' n l at =
      let within : n < length world.nodes = slice_get_within world.nodes n l at in
      let first : (x : Logged) × (slice_get world.nodes 0 ≡ Some x) = get_within world.nodes 0 (omega (arith, within)) in
      same_Some s.manager s'.manager (sym (s.here first.0 first.1) ∙ s'.here first.0 first.1)

  -- who is clean, as the manager notes it while a collection is under way
  abbrev pub cleans_in : (world : World) → Exclusive program nodes options world → Option (List Bool)
  cleans_in world x = x.timely.stand.manager.cleans

  module _ (world : World) (flight : List Flying) (n : ℕ) (l after : Logged) (input : Input) (entry : EntryRecord)
      (at : slice_get world.nodes n ≡ Some l) (come : Comes world n input flight) (i : IsEntry l input entry after)
      (r : IsReached program nodes options world) (r' : IsReached program nodes options (with_turn world flight n entry after))
      (h : Exclusive program nodes options world) (h' : Exclusive program nodes options (with_turn world flight n entry after)) where
    abbrev next : World
    next = with_turn world flight n entry after

    there : slice_get next.nodes n ≡ Some after
    there = get_set_same world.nodes n l after at

    -- what a turn does to it
    pub data Flips : Type 0 where
      goes_on : is_some (cleans_in next h') ≡ is_some (cleans_in world h) → Flips
      starts : cleans_in world h ≡ None → ((k : ℕ) (x : Logged) → slice_get world.nodes k ≡ Some x → x.node.mail.wait ≡ departure) → Flips
      stops : cleans_in next h' ≡ None → ((k : ℕ) (x : Logged) → slice_get world.nodes k ≡ Some x → awaits_word x.node.mail.wait ≡ 1) → Flips

    -- with the barrier as it was it stays
    pub same_cleans : after.node.barrier ≡ l.node.barrier → cleans_in next h' ≡ cleans_in world h
    same_cleans e =
        let rel : unwrap_or after.node.barrier.manager h.timely.stand.manager ≡ h'.timely.stand.manager =
        manager_after program nodes options world next h.timely.stand h'.timely.stand n l after at refl in
        ap (λ (m : ManagerRecord). m.cleans)
        (sym rel ∙ ap (λ (b : Barrier). unwrap_or b.manager h.timely.stand.manager) e
        ∙ sym (same_manager l.node.barrier.manager h.timely.stand.manager (its_manager program nodes options world h.timely.stand n l at)))

    abbrev was : ManagerRecord
    was = h.timely.stand.manager

    abbrev its : ManagerRecord
    its = new_manager program nodes options world flight n l after input entry at come i r r' h

    its_is : its ≡ h'.timely.stand.manager
    its_is =
        one_manager next (timely program nodes options world flight n l after input entry at come i r r' h).stand h'.timely.stand n after there

    abbrev move : Moves l.node (pending world) (pending next) nodes entry.turn after.node
    move = mv program nodes options world flight n l after input entry at come i r r' h

    is_node : (k : ℕ) (x : Logged) → slice_get world.nodes k ≡ Some x → k < nodes
    is_node k x at_k = subst (λ m. k < m) h.timely.stand.count (slice_get_within world.nodes k x at_k)

    abbrev its_kind : Type 0
    its_kind = Kind program nodes options world flight n l after input entry at come i r r' h

    -- with the last word that copies are clean every node has sent its own
    all_clean : (now : ManagerRecord) (from episode over : ℕ) → move.came ≡ comes from (Clean episode) → LetDiscard was from episode now over
        → (k : ℕ) (x : Logged) → slice_get world.nodes k ≡ Some x → awaits_word x.node.mail.wait ≡ 1
    all_clean now from episode over came_is g k x at_k =
        let lt : k < nodes = is_node k x at_k in
        let size : length g.cleans ≡ nodes = h.timely.stand.places.cleans g.cleans g.under_way in
        let lt_from : from < nodes = subst (IsFromNode nodes) came_is move.sender in
        let stand : count_by (clean_from k) (pending world) + noted_of was k + count_by (discard_to k) (pending world) ≡ awaits_word x.node.mail.wait =
        (h.timely.stand.each k x at_k).discards in
        let most : awaits_depart x.node.mail.wait + awaits_word x.node.mail.wait ≤ 1 = one_of x.node.mail.wait in
        let all : noted_in (Some (slice_set g.cleans from true)) k ≡ 1 =
        noted-all (slice_set g.cleans from true) k g.all (omega (arith, lt, size, length-set g.cleans from true)) in
        let more : noted_in (Some (slice_set g.cleans from true)) k ≡ noted_of was k + cond {A = ℕ} (from == k) 1 0 =
        noted-more was g.cleans from k g.under_way (omega (arith, lt_from, size)) g.first in
        elim (cases_eq from k) [
          | inl e ↦
              let c : Brought l.node.setting.me from (Clean episode) (pending world) =
              brought l.node.setting.me from (Clean episode) move.came move.o (pending world) entry.turn.out (pending next) came_is move.brings move.goes in
              let some : 1 ≤ count_by (clean_from k) (pending world) =
              subst (λ m. 1 ≤ count_by (clean_from m) (pending world)) (c.from_is ∙ e)
              (counted_in (clean_from c.envelope.from) (pending world) c.envelope c.among
              (and_from (says_clean c.envelope.message) (c.envelope.from == c.envelope.from) (ap says_clean c.message_is)
              (eq-eqb c.envelope.from c.envelope.from refl))) in
              omega (arith, stand, most, some)
          | inr ne ↦
              let zero : cond {A = ℕ} (from == k) 1 0 ≡ 0 = failing (from == k) (ne_eqb from k ne) in
              omega (arith, stand, most, all, more, zero)
        ]

    by_kind : its_kind → Flips
    by_kind (stays st calm_if) = goes_on (ap (λ (m : ManagerRecord). is_some m.cleans) (sym its_is) ∙ ap is_some st.cleans)
    by_kind (begins from m now departures came_is wait_is manager_is letters_is g managed) =
        starts g.arrives.free
        (λ k x at_k.
        (gate program nodes options world h.timely.stand k x at_k
        (all_in program nodes options world r h.timely l.node.setting.me from m
        (brought l.node.setting.me from (Arrive m) move.came move.o (pending world) entry.turn.out (pending next) came_is move.brings move.goes)
        (subst (IsFromNode nodes) came_is move.sender) now departures g k (is_node k x at_k))).waits)
    by_kind (notes now from episode manager_is letters_is wait_is g) =
        goes_on
        (ap (λ (m : ManagerRecord). is_some m.cleans) (sym its_is ∙ manager_is ∙ g.after_is) ∙ sym (ap is_some g.under_way))
    by_kind (ends now from episode over came_is manager_is letters_is g managed) =
        stops (ap (λ (m : ManagerRecord). m.cleans) (sym its_is ∙ manager_is ∙ g.after_is)) (all_clean now from episode over came_is g)

    pub flips : Flips
    flips = by_kind (kind program nodes options world flight n l after input entry at come i r r' h)

    -- ---- what is taken was on its way

    pub record IsTaken (e : EnvelopeRecord) : Type 0 where
      pub among : Contains (pending world) e
      pub here : slice_get world.nodes e.to ≡ Some l

    pub is_taken : (e : EnvelopeRecord) → input ≡ taken e → is_repeat l.node e ≡ false → IsTaken e
    is_taken e input_is anew =
        let goes : Goes (new_of l.node input) (pending world) entry.turn.out (pending next) =
        pending-goes program nodes options world flight n l after input entry at come i (all_pending program nodes options r.events world r.runs) in
        let lost : Lost e (pending world) entry.turn.out (pending next) =
        fresh e (pending world) entry.turn.out (pending next) (is_repeat l.node e) anew
        (subst (λ x. Goes (new_of l.node x) (pending world) entry.turn.out (pending next)) input_is goes) in
        let t : Took l.node e entry.turn after.node =
        took l.node e entry.turn after.node anew (subst (λ x. outcome_of l.node x ≡ done entry.turn after.node) input_is i.turn_is) in
        let to : e.to ≡ l.node.setting.me = t.addressed.to_it in
        record {
          among = subst (λ es. Contains es e) (sym lost.before) (Contains-append_right lost.front (e ∷ lost.back) e (Contains-first e lost.back));
          here = ap (slice_get world.nodes) (to ∙ me_is program nodes options world flight n l after input entry at come i r r' h) ∙ at;
        }
