-- All nodes depart, one after another.
use Rattle.std.proofs.Common.{◌≡◌, ℕ, zero, suc, ◌<◌, ◌≤◌, Bool, true, false, List, [], ◌∷◌, ◌++◌, add-one, inl, inr, length, get_or, map, refl, sym, ◌∙◌, ap, subst, arith}
use Rattle.std.specs.Prelude.{Option, Some, None, ◌||◌, if◌then◌else◌, is_some, option_and_then, option_map, slice_get, slice_index_or, slice_set}
use Rattle.std.specs.Vec.{with_item}
use Rattle.std.proofs.lemmas.Bool.{cases_eq}
use Rattle.std.proofs.lemmas.List.{get_or-set_other, get_or-set_same, length-map, map-set}
use Rattle.std.proofs.lemmas.Option.{get_or_from_slice_get, same_Some}
use Rattle.lrc_trace.specs.declared.act.Act.{Act}
use Rattle.lrc_trace.specs.declared.act.Deed.{Deed}
use Rattle.lrc_trace.specs.declared.act.Deed.TheVariants.{Depart}
use Rattle.lrc_trace.specs.Run.{act_of}
use Rattle.lrc_exec.specs.declared.spot.Flat.{Flat}
use Rattle.lrc_exec.specs.declared.spot.Spot.{Spot}
use Rattle.lrc_exec.specs.declared.state.State.{State}
use Rattle.lrc_exec.specs.Ask.{thread_departed}
use Rattle.lrc_exec.specs.Meaning.{Thread, departs, first_act, next_of}
use Rattle.lrc_exec.specs.Plain.{Plain, all_arrived, deed_done, plain_step, thread_in, with_thread}
use Rattle.lrc_exec.specs.Spots.{spot_thread, thread_at}
use Rattle.lrc_exec.specs.States.{plain_at, IsStateOf}
use Rattle.lrc_exec.proofs.Spots.{goes_blank, left, runs_on, state_set}
use Rattle.lrc_orders.specs.Traps.{has_trap}
use Rattle.lrc_orders.proofs.Keeping.{item_at}
use Rattle.lrc_orders_laws.specs.Steps.{AllWait}
use Rattle.lrc_orders_laws.proofs.Aligned.{waiter}
use Rattle.lrc_orders_settling.specs.Taking.{IsCounted}
use Rattle.lrc_orders_settling.proofs.Departing.{Departing, can_depart, departing_first, departing_on}
use Rattle.lrc_orders_table.specs.Nexts.{notes_on}
use Rattle.lrc_orders_table.proofs.Gone.{item_other}
use Rattle.lrc_orders_table.proofs.Noting.{notes_again, traps_again}

-- the nodes before one have departed
pub record Departed (flat : Flat) (start : State) (node : ℕ) : Type 0 where
  pub now : State
  pub acts : List Act
  pub so : Departing flat start now node [] acts
  pub unnoted : (notes : List Act) → notes_on notes acts ≡ notes
  pub no_trap : has_trap acts ≡ false
  pub memory : now.memory.items ≡ start.memory.items
  pub holders : now.holders.items ≡ start.holders.items
  pub before : (k : ℕ) (spot : Spot) → k < node → slice_get start.spots.items k ≡ Some spot → thread_in (plain_at flat now) k ≡ Some (thread_at flat spot)
  pub rest : (k : ℕ) → node ≤ k → slice_get now.spots.items k ≡ slice_get start.spots.items k

took : (b : Bool) (m : Plain) → option_map (λ (s : Deed × Plain). s.0) (if◌then◌else◌ {A = Option (Deed × Plain)} b (Some (Depart, m)) None) ≡ Some Depart
    → if◌then◌else◌ {A = Option (Deed × Plain)} b (Some (Depart, m)) None ≡ Some (Depart, m)
took true m e = refl
took false m e = absurd (let f : None ≡ Some Depart = e in cc)

module _ (flat : Flat) (start : State) (valid : IsStateOf flat start) (counted : IsCounted start) (all : AllWait (plain_at flat start)) where
  departed_first : Departed flat start 0
  departed_first = record {
    now = start;
    acts = [];
    so = departing_first flat start [] valid all;
    unnoted = λ notes. refl;
    no_trap = refl;
    memory = refl;
    holders = refl;
    before = λ k spot lt here. absurd (omega (arith, lt));
    rest = λ k le. refl;
  }

  module _ (node : ℕ) (d : Departed flat start node) (lt : node < length start.spots.items) where
    departed_on : Departed flat start (suc node)
    departed_on =
        let now = d.now in
        let machine = plain_at flat now in
        let (spot, here) = item_at start.spots.items node lt in
        let there : slice_get now.spots.items node ≡ Some spot = d.rest node (omega arith) ∙ here in
        let is : spot ≡ get_or now.spots.items node spot = sym (get_or_from_slice_get now.spots.items node spot spot there) in
        let within : node < length now.spots.items = let size = d.so.size in omega (arith, lt, size) in
        let w = waiter (thread_in machine node) (d.so.waits node (omega arith) lt) in
        let t : Thread = w.0 in
        let gone : Thread = record t { arrived = false } in
        let next : next_of t ≡ departs gone = ap (λ x. if x then departs gone else first_act t t.rest) w.2 in
        let made : plain_step machine node ≡ if◌then◌else◌ {A = Option (Deed × Plain)} (all_arrived machine node) (Some (Depart, with_thread machine node (Some gone))) None =
        ap (option_and_then (λ u. deed_done machine node (next_of u))) w.1 ∙ ap (deed_done machine node) next in
        let can = can_depart flat start now node [] d.acts counted all d.so lt in
        let step = made ∙ took (all_arrived machine node) (with_thread machine node (Some gone)) (ap (option_map (λ s. s.0)) (sym made) ∙ can) in
        let some = ap is_some w.1 in
        let on : spot.stopped ≡ false = runs_on flat now node spot is some in
        let x : Spot = record spot { arrived = false } in
        let new : State = record now { spots = with_item now.spots node x } in
        let plain : plain_at flat new ≡ with_thread machine node (Some gone) =
        left flat now node spot is some ∙ ap (λ o. with_thread machine node (option_map thread_departed o)) w.1 in
        let fine = state_set flat now node spot x is d.so.valid refl
        (subst (λ (s : Spot). s.place ≤ length flat.code.now) (sym is) (d.so.valid.within node spot within)) (goes_blank x on) in
        let more = departing_on flat start now node [] d.acts counted all d.so lt new (d.acts ++ act_of node Depart ∷ []) fine
        (step ∙ ap (λ m. Some (Depart, m)) (sym plain)) refl in
        let threads : map (spot_thread flat) new.spots.items ≡ slice_set (map (spot_thread flat) now.spots.items) node (spot_thread flat x) =
        map-set (spot_thread flat) now.spots.items node x in
        record {
          now = new;
          acts = d.acts ++ act_of node Depart ∷ [];
          so = subst (λ n. Departing flat start new n [] (d.acts ++ act_of node Depart ∷ [])) (add-one node) more;
          unnoted = λ notes. notes_again notes d.acts (act_of node Depart ∷ []) ∙ d.unnoted notes;
          no_trap = traps_again d.acts (act_of node Depart ∷ []) ∙ ap (λ b. b || has_trap (act_of node Depart ∷ [])) d.no_trap;
          memory = d.memory;
          holders = d.holders;
          before = λ k s less at. elim (cases_eq k node) [
            | inl same ↦
                let one : s ≡ spot = same_Some s spot (sym at ∙ ap (slice_get start.spots.items) same ∙ here) in
                ap (λ l. slice_index_or l k None) threads
                ∙ ap (λ n. slice_index_or (slice_set (map (spot_thread flat) now.spots.items) node (spot_thread flat x)) n None) same
                ∙ get_or-set_same (map (spot_thread flat) now.spots.items) node (spot_thread flat x) None
                (omega (arith, within, length-map now.spots.items (spot_thread flat)))
                ∙ ap (λ b. if b then None else Some (thread_at flat spot)) on ∙ ap (λ (y : Spot). Some (thread_at flat y)) (sym one)
            | inr apart ↦
                ap (λ l. slice_index_or l k None) threads
                ∙ get_or-set_other (map (spot_thread flat) now.spots.items) node k (spot_thread flat x) None apart
                ∙ d.before k s (omega (arith, less, apart)) at
          ];
          rest = λ k le. item_other now.spots.items node k x (λ e. omega (arith, le, e)) ∙ d.rest k (omega (arith, le));
        }

  pub departed : (node : ℕ) → node ≤ length start.spots.items → Departed flat start node
  departed zero le = departed_first
  departed (suc node) le = departed_on node (departed node (omega (arith, le))) (omega (arith, le))
