-- Where every other node stays clear of what a node does next, its act is undisputed.
use Rattle.std.proofs.Common.{◌≡◌, ◌<◌, ◌∙◌, ℕ, Bool, true, false, length, get_or, refl, sym, ap, subst}
use Rattle.std.specs.Prelude.{Option, [], if◌then◌else◌}
use Rattle.std.proofs.lemmas.Bool.{true≢false}
use Rattle.std.proofs.lemmas.Option.{slice_get-get_or}
use Rattle.lrc_trace.specs.declared.act.Deed.{Deed}
use Rattle.lrc_trace.specs.declared.act.Deed.TheVariants as deeds
use Rattle.lrc_exec.specs.declared.spot.Flat.{Flat}
use Rattle.lrc_exec.specs.declared.spot.Spot.{Spot}
use Rattle.lrc_exec.specs.declared.state.State.{State}
use Rattle.lrc_exec.specs.Ask.{ask_of}
use Rattle.lrc_exec.specs.Meaning.{Thread, Next, quiet, prints, reads, writes, acquires, releases, arrives, departs, traps, ends, next_of}
use Rattle.lrc_exec.specs.Plain.{thread_in}
use Rattle.lrc_exec.specs.Spots.{thread_at}
use Rattle.lrc_exec.specs.States.{plain_at}
use Rattle.lrc_exec.proofs.Spots.{node_within, stands_at, thread_there}
use Rattle.lrc_exec.specs.Follows.{Goes, quietly, printing, reading, writing, acquiring, releasing, arriving, departing, trapping, ending}
use Rattle.lrc_orders_laws.specs.Alike.{DoAlike}
use Rattle.lrc_orders_laws.specs.Alike as alike
use Rattle.lrc_orders_laws.specs.Free.{is_contended}
use Rattle.lrc_orders_laws.specs.Names.{AgreeWhereItMatters}
use Rattle.lrc_orders_laws.proofs.Mattering.{go_on}
use Rattle.lrc_orders_laws.proofs.Parts.{stepped}
use Rattle.lrc_orders_live.proofs.Like.{partner}
use Rattle.lrc_orders_undisputed.specs.Undisputed.{Conflicts, read_and_written}
use Rattle.lrc_orders_reach.proofs.Afterwards.{next_waiting}
use Rattle.lrc_orders_table.specs.declared.next.Next.TheVariants.{Stopped, Waits}
use Rattle.lrc_orders_table.specs.Nexts.{next_by, next_in}
use Rattle.lrc_orders_away.proofs.Coming.{undisputed_at}
use Rattle.lrc_orders_less.specs.Clash.{clash_by}
use Rattle.lrc_orders_less.specs.Reaches.{IsAlwaysUndisputed, StaysClear}

-- what comes next, as a deed that conflicts with the same
abbrev clash : Next → Deed
clash (reads word after) = deeds.Read word 0
clash (writes word value after) = deeds.Write word value
clash (acquires lock after) = deeds.Acquire lock
clash (quiet after) = deeds.Quiet
clash (prints value after) = deeds.Quiet
clash (releases lock after) = deeds.Quiet
clash (arrives after) = deeds.Quiet
clash (departs after) = deeds.Quiet
clash (traps cause) = deeds.Quiet
clash ends = deeds.Quiet

clash_asked : (next : Next) → clash next ≡ clash_by (next_by (ask_of next))
clash_asked (reads word after) = refl
clash_asked (writes word value after) = refl
clash_asked (acquires lock after) = refl
clash_asked (quiet after) = refl
clash_asked (prints value after) = refl
clash_asked (releases lock after) = refl
clash_asked (arrives after) = refl
clash_asked (departs after) = refl
clash_asked (traps cause) = refl
clash_asked ends = refl

read_any : {w v x : ℕ} {next : Next} → Conflicts (deeds.Read w v) next → Conflicts (deeds.Read w x) next
read_any read_and_written = read_and_written

-- a deed that a thread like this one makes conflicts with no more
clashes : {n m other : Next} {deed : Deed} {new : Option Thread} → DoAlike AgreeWhereItMatters n m → Goes n deed new → is_contended deed ≡ true
    → Conflicts deed other → Conflicts (clash m) other
clashes (alike.reads r) reading kind c = read_any c
clashes (alike.writes r) writing kind c = c
clashes (alike.acquires r) acquiring kind c = c
clashes (alike.quiet r) quietly kind c = absurd (true≢false (sym kind))
clashes (alike.prints r) printing kind c = absurd (true≢false (sym kind))
clashes (alike.releases r) releasing kind c = absurd (true≢false (sym kind))
clashes (alike.arrives r) arriving kind c = absurd (true≢false (sym kind))
clashes (alike.departs r) departing kind c = absurd (true≢false (sym kind))
clashes alike.traps trapping kind c = absurd (true≢false (sym kind))
clashes alike.ends ending kind c = absurd (true≢false (sym kind))

-- a spot that goes on does this next
clash_going : (flat : Flat) (spot : Spot) (thread : Thread) (arrived : Bool) → spot.stopped ≡ false → spot.arrived ≡ arrived
    → record (thread_at flat spot) { arrived = spot.arrived } ≡ thread → clash (next_of thread) ≡ clash_by (next_in flat spot)
clash_going flat spot thread true on waits is =
    ap clash (next_waiting thread (sym (ap (λ (t : Thread). t.arrived) is) ∙ waits))
    ∙ ap (λ b. clash_by (if b then Waits else next_by (ask_of (next_of (thread_at flat spot))))) (sym waits)
    ∙ ap (λ b. clash_by (if b then Stopped else (if spot.arrived then Waits else next_by (ask_of (next_of (thread_at flat spot)))))) (sym on)
clash_going flat spot thread false on goes is =
    ap (λ t. clash (next_of t)) (sym is ∙ ap (λ b. record (thread_at flat spot) { arrived = b }) goes)
    ∙ clash_asked (next_of (thread_at flat spot))
    ∙ ap (λ b. clash_by (if b then Waits else next_by (ask_of (next_of (thread_at flat spot))))) (sym goes)
    ∙ ap (λ b. clash_by (if b then Stopped else (if spot.arrived then Waits else next_by (ask_of (next_of (thread_at flat spot)))))) (sym on)

pub clear_state : (flat : Flat) (state : State) (node : ℕ) → node < length state.spots.items
    → ((k : ℕ) → k < length state.spots.items → StaysClear flat state node k) → IsAlwaysUndisputed flat state node
clear_state flat state node within clear deed program nodes acts machine after settled likes step kind =
    let none : Spot = record { me = 0; place = 0; privates = []; held = []; arrived = false; stopped = false } in
    let own = get_or state.spots.items node none in
    let s = stepped machine node deed after step in
    let p = partner (thread_in machine node) (thread_in (plain_at flat state) node) (likes.threads node) s.thread s.there in
    let stands = stands_at flat state node none p.thread p.is in
    let same : clash (next_of p.thread) ≡ clash_by (next_in flat own) = clash_going flat own p.thread own.arrived stands.running refl stands.thread_is in
    undisputed_at program nodes acts machine (plain_at flat state) after node deed own.held settled likes step kind
    (λ first at. sym (ap (λ (t : Thread). t.held) (stands_at flat state node none first at).thread_is))
    (λ other first thread apart at comes conflicts.
    let inside : other < length state.spots.items = node_within flat state other none first at in
    clear other inside own (get_or state.spots.items other none) apart (slice_get-get_or state.spots.items node none within)
    (slice_get-get_or state.spots.items other none inside) first thread (sym (thread_there flat state other none inside) ∙ at) comes
    (subst (λ d. Conflicts d (next_of thread)) same (clashes (go_on.each s.thread p.thread p.agree) s.took.goes kind conflicts)))
