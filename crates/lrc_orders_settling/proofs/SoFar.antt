-- Settling a thread, act by act.
use Rattle.std.proofs.Common.{◌≡◌, ℕ, ◌+◌, ◌-◌, ◌<◌, ◌≤◌, Bool, true, false, length, refl, sym, ap, ◌∙◌, subst, arith}
use Rattle.std.specs.Prelude.{Option, Some, None, IsSome, List, [], ◌∷◌, ◌++◌, ◌||◌, zero, suc, option_and_then, if◌then◌else◌}
use Rattle.std.proofs.lemmas.Bool.{true≢false}
use Rattle.std.proofs.lemmas.List.{append_assoc, append-nil}
use Rattle.lrc_trace.specs.declared.act.Deed.{Deed}
use Rattle.lrc_trace.specs.declared.act.Deed.TheVariants.{Quiet, Print}
use Rattle.lrc_exec.specs.declared.spot.Flat.{Flat}
use Rattle.lrc_exec.specs.declared.spot.Spot.{Spot}
use Rattle.lrc_exec.specs.Meaning.{Thread, Next, quiet, prints, reads, writes, acquires, releases, arrives, departs, traps, ends, next_of}
use Rattle.lrc_exec.specs.Spots.{thread_at, spot_thread}
use Rattle.lrc_exec.specs.Follows.{Goes, quietly, printing, reading, writing, acquiring, releasing, arriving, departing, trapping, ending}
use Rattle.lrc_orders_laws.specs.Free.{is_free, is_free_in, after_quiet, after_quiets, Turns, TurnsIn}
use Rattle.lrc_orders_laws.specs.Threads.{ThreadSettles, stopped, waits, turns, goes}
use Rattle.lrc_orders_laws.proofs.Rounds.{turns_before}
use Rattle.lrc_orders_laws.proofs.Turning.{no_some}
use Rattle.lrc_orders_settling.specs.Settling.{is_quiet_deed, MakesFree, none_more, one_more}

-- From the start the thread makes these deeds and comes to this spot: it settles by them and by what it settles by from there. Of
-- free acts so many came.
pub record SoFar (flat : Flat) (start : Option Thread) (spot : Spot) (deeds : List Deed) (stops : Bool) (steps : ℕ) : Type 0 where
  pub within : spot.place ≤ length flat.code.now
  pub settles : (more : List Deed) (there : Option Thread) → ThreadSettles (spot_thread flat spot) more there → ThreadSettles start (deeds ++ more) there
  pub frees : (count : ℕ) → MakesFree count (spot_thread flat spot) → MakesFree (steps + count) start
  pub no_turns : stops ≡ true → ¬ TurnsIn (spot_thread flat spot)

-- a thread at a barrier, or none, is settled
out_settled : (thread : Thread) (gone arrived : Bool) → (gone || arrived) ≡ true
    → let there : Option Thread = if gone then None else Some (record thread { arrived = arrived }) in
    ThreadSettles there [] there × (is_free_in there ≡ false)
out_settled thread true arrived e = (stopped, refl)
out_settled thread false true e = (waits _ refl, refl)
out_settled thread false false e = absurd (true≢false (sym e))

-- and one that is at none has not stopped
in_parts : (gone arrived : Bool) → (gone || arrived) ≡ false → (gone ≡ false) × (arrived ≡ false)
in_parts true arrived e = absurd (true≢false e)
in_parts false true e = absurd (true≢false e)
in_parts false false e = (refl, refl)

pub not_stopped : (spot : Spot) → (spot.stopped || spot.arrived) ≡ false → spot.stopped ≡ false
not_stopped spot e = (in_parts spot.stopped spot.arrived e).0

pub not_arrived : (spot : Spot) → (spot.stopped || spot.arrived) ≡ false → spot.arrived ≡ false
not_arrived spot e = (in_parts spot.stopped spot.arrived e).1

in_thread : (flat : Flat) (spot : Spot) → (spot.stopped || spot.arrived) ≡ false → spot_thread flat spot ≡ Some (thread_at flat spot)
in_thread flat spot e =
    ap (λ g. spot_thread flat (record spot { stopped = g })) (not_stopped spot e)
    ∙ ap (λ a. Some (record (thread_at flat spot) { arrived = a })) (not_arrived spot e)

-- quiet acts and prints are free acts
quiet_makes : (count : ℕ) (next : Next) (thread : Thread) → next_of thread ≡ next
    → ((after : Thread) → IsSome (after_quiets count after) → MakesFree count (Some after))
    → IsSome (option_and_then (λ after. after_quiets count after) (after_quiet next)) → MakesFree (suc count) (Some thread)
quiet_makes count (quiet after) thread is more some =
    one_more count thread Quiet (Some after) (ap is_free is) (subst (λ n. Goes n Quiet (Some after)) (sym is) quietly) (more after some)
quiet_makes count (prints value after) thread is more some =
    one_more count thread (Print value) (Some after) (ap is_free is) (subst (λ n. Goes n (Print value) (Some after)) (sym is) printing)
    (more after some)
quiet_makes count (reads word after) thread is more some = no_some some
quiet_makes count (writes word value after) thread is more some = no_some some
quiet_makes count (acquires lock after) thread is more some = no_some some
quiet_makes count (releases lock after) thread is more some = no_some some
quiet_makes count (arrives after) thread is more some = no_some some
quiet_makes count (departs after) thread is more some = no_some some
quiet_makes count (traps cause) thread is more some = no_some some
quiet_makes count ends thread is more some = no_some some

quiets_make : (count : ℕ) (thread : Thread) → IsSome (after_quiets count thread) → MakesFree count (Some thread)
quiets_make zero thread some = none_more (Some thread)
quiets_make (suc count) thread some = quiet_makes count (next_of thread) thread refl (quiets_make count) some

-- where a thread turns for ever after a quiet act or a print, it did before
quiet_on : {next : Next} {deed : Deed} {after : Option Thread} → Goes next deed after → is_quiet_deed deed ≡ true → TurnsIn after
    → (there : Thread) × (after_quiet next ≡ Some there) × Turns there
quiet_on (quietly {t}) e turning = (t, refl, turning)
quiet_on (printing {t} {v}) e turning = (t, refl, turning)
quiet_on reading e turning = absurd (true≢false (sym e))
quiet_on writing e turning = absurd (true≢false (sym e))
quiet_on acquiring e turning = absurd (true≢false (sym e))
quiet_on releasing e turning = absurd (true≢false (sym e))
quiet_on arriving e turning = absurd (true≢false (sym e))
quiet_on departing e turning = absurd (true≢false (sym e))
quiet_on trapping e turning = absurd (true≢false (sym e))
quiet_on ending e turning = absurd (true≢false (sym e))

turned_before : (thread : Thread) (deed : Deed) (after : Option Thread) → Goes (next_of thread) deed after → is_quiet_deed deed ≡ true → TurnsIn after
    → Turns thread
turned_before thread deed after go e turning =
    let q = quiet_on go e turning in
    turns_before 1 thread q.0 (ap (option_and_then (λ t. after_quiets 0 t)) q.1) q.2

module _ (flat : Flat) (start : Option Thread) (spot : Spot) (deeds : List Deed) (stops : Bool) (steps : ℕ) (so : SoFar flat start spot deeds stops steps) where
  here : ThreadSettles (spot_thread flat spot) [] (spot_thread flat spot) → ThreadSettles start deeds (spot_thread flat spot)
  here s = subst (λ d. ThreadSettles start d (spot_thread flat spot)) (append-nil deeds) (so.settles [] (spot_thread flat spot) s)

  pub waits_out : (spot.stopped || spot.arrived) ≡ true → ThreadSettles start deeds (spot_thread flat spot) × (is_free_in (spot_thread flat spot) ≡ false)
  waits_out e =
      let o = out_settled (thread_at flat spot) spot.stopped spot.arrived e in
      (here o.0, o.1)

  module _ (inside : (spot.stopped || spot.arrived) ≡ false) where
    pub waits_here : is_free (next_of (thread_at flat spot)) ≡ false → (new : Spot) → new ≡ spot
        → ThreadSettles start deeds (spot_thread flat new) × (is_free_in (spot_thread flat new) ≡ false)
    waits_here free new same =
        let t = thread_at flat spot in
        let i = sym (in_thread flat spot inside) in (
          subst (λ n. ThreadSettles start deeds (spot_thread flat n)) (sym same) (here (subst (λ o. ThreadSettles o [] o) i (waits t free))),
          subst (λ n. is_free_in (spot_thread flat n) ≡ false) (sym same) (subst (λ o. is_free_in o ≡ false) i free),
        )

    pub turns_here : Turns (thread_at flat spot) → ThreadSettles start deeds (spot_thread flat spot) × TurnsIn (spot_thread flat spot)
    turns_here turning =
        let t = thread_at flat spot in
        let i = sym (in_thread flat spot inside) in
        (here (subst (λ o. ThreadSettles o [] o) i (turns t turning)), subst TurnsIn i turning)

    pub open_here : (most : ℕ) → steps < most → IsSome (after_quiets (most - steps) (thread_at flat spot)) → MakesFree most start
    open_here most lt some =
        let e : steps + (most - steps) ≡ most = omega (arith, lt) in
        let m : MakesFree (most - steps) (spot_thread flat spot) =
        subst (λ o. MakesFree (most - steps) o) (sym (in_thread flat spot inside)) (quiets_make (most - steps) (thread_at flat spot) some) in
        subst (λ n. MakesFree n start) e (so.frees (most - steps) m)

    pub known_no_turns : stops ≡ true → ¬ Turns (thread_at flat spot)
    known_no_turns e turning = so.no_turns e (subst TurnsIn (sym (in_thread flat spot inside)) turning)

    pub one_on : (new : Spot) (deed : Deed) (stops_now : Bool) → ¬ Turns (thread_at flat spot) → is_free (next_of (thread_at flat spot)) ≡ true
        → Goes (next_of (thread_at flat spot)) deed (spot_thread flat new) → stops_now ≡ is_quiet_deed deed → new.place ≤ length flat.code.now
        → SoFar flat start new (deeds ++ (deed ∷ [])) stops_now (steps + 1)
    one_on new deed stops_now never free go is within =
        let t = thread_at flat spot in
        let i = sym (in_thread flat spot inside) in record {
          within = within;
          settles = λ more there s.
              let g : ThreadSettles (spot_thread flat spot) (deed ∷ more) there =
              subst (λ o. ThreadSettles o (deed ∷ more) there) i (goes t deed (spot_thread flat new) there more go free never s) in
              subst (λ d. ThreadSettles start d there) (sym (append_assoc deeds (deed ∷ []) more)) (so.settles (deed ∷ more) there g);
          frees = λ count m.
              let e : steps + suc count ≡ (steps + 1) + count = omega arith in
              let f : MakesFree (suc count) (spot_thread flat spot) =
              subst (λ o. MakesFree (suc count) o) i (one_more count t deed (spot_thread flat new) free go m) in
              subst (λ n. MakesFree n start) e (so.frees (suc count) f);
          no_turns = λ e turning. never (turned_before t deed (spot_thread flat new) go (sym is ∙ e) turning);
        }

  pub all_made : (most : ℕ) → steps ≡ most → MakesFree most start
  all_made most e =
      let same : steps + 0 ≡ most = omega (arith, e) in
      subst (λ n. MakesFree n start) same (so.frees 0 (none_more (spot_thread flat spot)))

pub none_stops : (count : ℕ) (thread : Thread) → after_quiets count thread ≡ None → ¬ Turns thread
none_stops count thread e turning = no_some (subst IsSome e (turning.on count))
