-- The next act of a thread at no barrier, where that is free.
use Rattle.std.proofs.Common.{◌≡◌, Bool, true, false, refl, sym, ap, ◌∙◌, subst}
use Rattle.std.specs.Prelude.{Option, Some, None}
use Rattle.std.proofs.lemmas.Bool.{true≢false}
use Rattle.lrc_trace.specs.declared.act.Deed.TheVariants as deeds
use Rattle.lrc_exec.specs.declared.spot.Flat.{Flat}
use Rattle.lrc_exec.specs.declared.spot.Spot.{Spot}
use Rattle.lrc_exec.specs.Ask.{ask_of, deed_asked, done, answered}
use Rattle.lrc_exec.specs.Meaning.{Thread, Next, quiet, prints, reads, writes, acquires, releases, arrives, departs, traps, ends, next_of}
use Rattle.lrc_exec.specs.Spots.{thread_at, spot_thread}
use Rattle.lrc_exec.proofs.NextLaws.{IsFine, next_of-fine}
use Rattle.lrc_exec.specs.Follows.{Goes, quietly, printing, releasing, arriving, trapping, ending}
use Rattle.lrc_orders_laws.specs.Free.{is_free}
use Rattle.lrc_orders_settling.specs.Settling.{is_free_ask, is_last_ask, is_barrier_ask}

-- it is free exactly where what is asked for is
pub free_asked : (thread : Thread) → thread.arrived ≡ false → (next : Next) → IsFine thread next → is_free next ≡ is_free_ask (ask_of next)
free_asked thread at (quiet after) fine = refl
free_asked thread at (prints value after) fine = refl
free_asked thread at (reads word after) fine = refl
free_asked thread at (writes word value after) fine = refl
free_asked thread at (acquires lock after) fine = refl
free_asked thread at (releases lock after) fine = refl
free_asked thread at (arrives after) fine = refl
free_asked thread at (departs after) fine = absurd (true≢false (sym fine.0 ∙ at))
free_asked thread at (traps cause) fine = refl
free_asked thread at ends fine = refl

-- the last act
goes_last : (next : Next) → is_last_ask (ask_of next) ≡ true → Goes next (deed_asked 0 (ask_of next)) None
goes_last (traps cause) e = trapping
goes_last ends e = ending
goes_last (quiet after) e = absurd (true≢false (sym e))
goes_last (prints value after) e = absurd (true≢false (sym e))
goes_last (reads word after) e = absurd (true≢false (sym e))
goes_last (writes word value after) e = absurd (true≢false (sym e))
goes_last (acquires lock after) e = absurd (true≢false (sym e))
goes_last (releases lock after) e = absurd (true≢false (sym e))
goes_last (arrives after) e = absurd (true≢false (sym e))
goes_last (departs after) e = absurd (true≢false (sym e))

-- a thread with this flag is itself where that is its own
flagged : (after : Thread) (flag : Bool) → after.arrived ≡ flag → after ≡ record after { arrived = flag }
flagged after flag e = ap (λ f. record after { arrived = f }) e

-- another act, after which the thread is at a barrier exactly where it came to one
goes_more : (thread : Thread) → thread.arrived ≡ false → (next : Next) → IsFine thread next → is_free_ask (ask_of next) ≡ true
    → is_last_ask (ask_of next) ≡ false
    → Goes next (deed_asked 0 (ask_of next)) (Some (record (done 0 thread next) { arrived = is_barrier_ask (ask_of next) }))
goes_more thread at (quiet after) fine free more =
    subst (λ t. Goes (quiet after) deeds.Quiet (Some t)) (flagged after false fine.1.arrived) quietly
goes_more thread at (prints value after) fine free more =
    subst (λ t. Goes (prints value after) (deeds.Print value) (Some t)) (flagged after false fine.1.arrived) printing
goes_more thread at (releases lock after) fine free more =
    subst (λ t. Goes (releases lock after) (deeds.Release lock) (Some t)) (flagged after false fine.3.arrived) releasing
goes_more thread at (arrives after) fine free more =
    subst (λ t. Goes (arrives after) deeds.Arrive (Some t)) (flagged after true fine.1.arrived) arriving
goes_more thread at (departs after) fine free more = absurd (true≢false (sym fine.0 ∙ at))
goes_more thread at (reads word after) fine free more = absurd (true≢false (sym free))
goes_more thread at (writes word value after) fine free more = absurd (true≢false (sym free))
goes_more thread at (acquires lock after) fine free more = absurd (true≢false (sym free))
goes_more thread at (traps cause) fine free more = absurd (true≢false more)
goes_more thread at ends fine free more = absurd (true≢false more)

-- the thread of a spot that has not stopped
going_on : (flat : Flat) (spot : Spot) (arrived : Bool) → spot.stopped ≡ false → spot.arrived ≡ arrived
    → spot_thread flat spot ≡ Some (record (thread_at flat spot) { arrived = arrived })
going_on flat spot arrived stopped is =
    ap (λ s. spot_thread flat (record spot { stopped = s })) stopped ∙ ap (λ a. Some (record (thread_at flat spot) { arrived = a })) is

pub at_thread : (flat : Flat) (spot : Spot) → spot.stopped ≡ false → spot.arrived ≡ false → spot_thread flat spot ≡ Some (thread_at flat spot)
at_thread flat spot stopped arrived = going_on flat spot false stopped arrived

stopped_at : (flat : Flat) (spot : Spot) → spot.stopped ≡ true → spot_thread flat spot ≡ None
stopped_at flat spot stopped = ap (λ s. spot_thread flat (record spot { stopped = s })) stopped

pub frees : (flat : Flat) (spot : Spot) (free : Bool) → is_free_ask (ask_of (next_of (thread_at flat spot))) ≡ free
    → is_free (next_of (thread_at flat spot)) ≡ free
frees flat spot free is =
    let thread = thread_at flat spot in
    free_asked thread refl (next_of thread) (next_of-fine thread) ∙ is

pub stops_for_good : (flat : Flat) (spot new : Spot) → is_last_ask (ask_of (next_of (thread_at flat spot))) ≡ true → new.stopped ≡ true
    → Goes (next_of (thread_at flat spot)) (deed_asked 0 (ask_of (next_of (thread_at flat spot)))) (spot_thread flat new)
stops_for_good flat spot new last stopped =
    let next = next_of (thread_at flat spot) in
    subst (λ t. Goes next (deed_asked 0 (ask_of next)) t) (sym (stopped_at flat new stopped)) (goes_last next last)

pub goes_on : (flat : Flat) (spot new : Spot) → is_free_ask (ask_of (next_of (thread_at flat spot))) ≡ true
    → is_last_ask (ask_of (next_of (thread_at flat spot))) ≡ false → thread_at flat new ≡ answered 0 (thread_at flat spot) → new.stopped ≡ false
    → new.arrived ≡ is_barrier_ask (ask_of (next_of (thread_at flat spot)))
    → Goes (next_of (thread_at flat spot)) (deed_asked 0 (ask_of (next_of (thread_at flat spot)))) (spot_thread flat new)
goes_on flat spot new free more answer stopped arrived =
    let thread = thread_at flat spot in
    let next = next_of thread in
    let barrier = is_barrier_ask (ask_of next) in
    let flagged_so : Thread → Option Thread = λ t. Some (record t { arrived = barrier }) in
    let same : spot_thread flat new ≡ flagged_so (answered 0 thread) =
    going_on flat new barrier stopped arrived ∙ ap flagged_so answer in
    subst (λ t. Goes next (deed_asked 0 (ask_of next)) t) (sym same) (goes_more thread refl next (next_of-fine thread) free more)
