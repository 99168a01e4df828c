-- The step of one node, where it is known to what its thread settles then.
use Rattle.std.proofs.Common.{◌≡◌, ℕ, ◌<◌, ◌∷◌, true, false, length, map, refl, sym, ap, ◌∙◌, subst, arith}
use Rattle.std.specs.Prelude.{Some, None, slice_get, slice_set, if◌then◌else◌}
use Rattle.std.proofs.lemmas.Bool.{true≢false}
use Rattle.std.proofs.lemmas.List.{get_or-set_same, length-map, map-set, set-set}
use Rattle.std.proofs.lemmas.Option.{get_or_from_slice_get, slice_get_within}
use Rattle.lrc_trace.specs.declared.act.Deed.{Deed}
use Rattle.lrc_trace.specs.declared.act.Deed.TheVariants as deeds
use Rattle.lrc_trace.specs.Run.{act_of}
use Rattle.lrc_exec.specs.declared.spot.Flat.{Flat}
use Rattle.lrc_exec.specs.declared.spot.Spot.{Spot}
use Rattle.lrc_exec.specs.Ask.{answered, ask_of, deed_asked, done}
use Rattle.lrc_exec.specs.Meaning.{Thread, Next, quiet, prints, reads, writes, acquires, releases, arrives, departs, traps, ends, next_of}
use Rattle.lrc_exec.specs.Plain.{Plain, plain_step, thread_in}
use Rattle.lrc_exec.specs.Spots.{spot_thread, thread_at}
use Rattle.lrc_exec.proofs.NextLaws.{IsFine, next_of-fine}
use Rattle.lrc_exec.specs.Follows.{Goes, reading, writing, acquiring}
use Rattle.lrc_consistency_laws.proofs.Runs.{CanDo}
use Rattle.lrc_exec.specs.declared.state.State.{State}
use Rattle.lrc_exec.specs.States.{plain_at}
use Rattle.lrc_orders.proofs.Effects.{after_of, holders_after, memory_after}
use Rattle.lrc_exec.proofs.Spots.{thread_there}
use Rattle.lrc_orders_laws.specs.Free.{is_contended}
use Rattle.lrc_orders_laws.specs.Settling.{IsSettled}
use Rattle.lrc_orders_laws.specs.Threads.{ThreadSettles}
use Rattle.lrc_orders_laws.proofs.Parts.{can_step}
use Rattle.lrc_orders_settling.proofs.Freely.{at_thread}
use Rattle.lrc_orders_settling.specs.declared.step.Step.TheVariants.{Alone}
use Rattle.lrc_orders_settling.specs.Gone.{acts_by, freed}
use Rattle.lrc_orders_settling.specs.Taking.{TakesTo}
use Rattle.lrc_orders_settling.proofs.Parts.{kept_thread}
use Rattle.lrc_orders_table.specs.declared.next.Settled.{Settled}
use Rattle.lrc_orders_table.specs.Nexts.{SettlesSo, thread_then}
use Rattle.lrc_orders_table.proofs.SeenNext.{freed_seen}
use Rattle.lrc_orders_table.proofs.Stepping.{one_settles}

-- ---- the act itself

flagged : (after : Thread) → after.arrived ≡ false → after ≡ record after { arrived = false }
flagged after e = ap (λ f. record after { arrived = f }) e

-- a read, a write or an acquire of a thread at no barrier, a read giving this value
goes_contended : (value : ℕ) (thread : Thread) → thread.arrived ≡ false → (next : Next) → IsFine thread next
    → is_contended (deed_asked value (ask_of next)) ≡ true
    → Goes next (deed_asked value (ask_of next)) (Some (record (done value thread next) { arrived = false }))
goes_contended value thread at (reads word after) fine e =
    subst (λ t. Goes (reads word after) (deeds.Read word value) (Some t)) (flagged (after value) (fine.1 value).1.arrived) reading
goes_contended value thread at (writes word written after) fine e =
    subst (λ t. Goes (writes word written after) (deeds.Write word written) (Some t)) (flagged after fine.1.1.arrived) writing
goes_contended value thread at (acquires lock after) fine e =
    subst (λ t. Goes (acquires lock after) (deeds.Acquire lock) (Some t)) (flagged after fine.3.arrived) acquiring
goes_contended value thread at (quiet after) fine e = absurd (true≢false (sym e))
goes_contended value thread at (prints printed after) fine e = absurd (true≢false (sym e))
goes_contended value thread at (releases lock after) fine e = absurd (true≢false (sym e))
goes_contended value thread at (arrives after) fine e = absurd (true≢false (sym e))
goes_contended value thread at (departs after) fine e = absurd (true≢false (sym e))
goes_contended value thread at (traps cause) fine e = absurd (true≢false (sym e))
goes_contended value thread at ends fine e = absurd (true≢false (sym e))

-- ---- the step

abbrev pub deed_of_spot : Flat → Spot → (value : ℕ) → Deed
deed_of_spot flat spot value = deed_asked value (ask_of (next_of (thread_at flat spot)))

module _ (flat : Flat) (old : State) (node value : ℕ) (spot : Spot) (at : slice_get old.spots.items node ≡ Some spot)
    (on : spot.stopped ≡ false) (here : spot.arrived ≡ false) (kind : is_contended (deed_of_spot flat spot value) ≡ true)
    (can : CanDo (plain_at flat old) node (deed_of_spot flat spot value)) where
  abbrev deed : Deed
  deed = deed_of_spot flat spot value

  abbrev machine : Plain
  machine = plain_at flat old

  abbrev onward : Thread
  onward = record (answered value (thread_at flat spot)) { arrived = false }

  -- the state after the act
  abbrev pub acted : Plain
  acted = after_of (plain_at flat old) node (deed_of_spot flat spot value) (Some (record (answered value (thread_at flat spot)) { arrived = false }))

  within : node < length old.spots.items
  within = slice_get_within old.spots.items node spot at

  thread_here : thread_in machine node ≡ Some (thread_at flat spot)
  thread_here =
      thread_there flat old node spot within
      ∙ ap (spot_thread flat) (get_or_from_slice_get old.spots.items node spot spot at)
      ∙ at_thread flat spot on here

  pub step_made : plain_step (plain_at flat old) node ≡ Some (deed_of_spot flat spot value, acted)
  step_made =
      let thread = thread_at flat spot in
      can_step machine node thread deed thread_here refl (goes_contended value thread refl (next_of thread) (next_of-fine thread) kind) can

  pub thread_acted : thread_in acted node ≡ Some (thread_then flat spot value)
  thread_acted =
      get_or-set_same machine.threads node (Some onward) None (omega (arith, within, length-map old.spots.items (spot_thread flat)))
      ∙ ap (λ b. Some (if b then thread_at flat spot else onward)) (sym here)

  -- the step is that of the plain machine, and the node settles
  module _ (new : State) (settled : Settled) (so : SettlesSo flat spot value settled)
      (memory : new.memory.items ≡ memory_after (deed_of_spot flat spot value) old.memory.items)
      (holders : new.holders.items ≡ freed settled.deeds.items (holders_after node (deed_of_spot flat spot value) old.holders.items))
      (spots : new.spots.items ≡ slice_set old.spots.items node settled.spot) where
    pub step_alone : IsSettled (plain_at flat old)
        → TakesTo (plain_at flat old) (Alone node) (act_of node (deed_of_spot flat spot value) ∷ acts_by node so.deeds) (plain_at flat new)
    step_alone is =
        let settles : ThreadSettles (thread_in acted node) so.deeds (spot_thread flat so.there) =
        subst (λ o. ThreadSettles o so.deeds (spot_thread flat so.there)) (sym thread_acted) so.settles in
        let taken = one_settles machine acted node deed so.deeds (spot_thread flat so.there) is kind step_made settles in
        let kept : spot_thread flat settled.spot ≡ spot_thread flat so.there = ap (spot_thread flat) so.is ∙ kept_thread flat so.there spot.me in
        record {
          there = taken.there;
          takes = taken.takes;
          alike = record {
            memory = taken.alike.memory ∙ sym memory;
            holders =
                taken.alike.holders
                ∙ sym (freed_seen so.deeds (holders_after node deed old.holders.items))
                ∙ ap (λ ds. freed ds (holders_after node deed old.holders.items)) (sym so.seen)
                ∙ sym holders;
            threads =
                taken.alike.threads
                ∙ set-set machine.threads node (Some onward) (spot_thread flat so.there)
                ∙ ap (slice_set machine.threads node) (sym kept)
                ∙ sym (map-set (spot_thread flat) old.spots.items node settled.spot)
                ∙ ap (map (spot_thread flat)) (sym spots);
          };
        }
