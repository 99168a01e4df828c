-- Where every order of the other nodes leads them.
use Rattle.std.proofs.Common.{◌≡◌, ◌<◌, ◌∙◌, ℕ, List, [], inl, inr, Bool, true, false, length, get_or, refl, sym, ap, subst}
use Rattle.std.specs.Prelude.{Option, Some, IfSome, Vec}
use Rattle.std.specs.declared.alloc.Global.{Global}
use Rattle.std.proofs.lemmas.Option.{get_or_from_slice_get, same_Some, slice_get-get_or}
use Rattle.lrc_program.specs.declared.Program.{Program}
use Rattle.lrc_trace.specs.declared.act.Act.{Act}
use Rattle.lrc_trace.specs.declared.act.Deed.{Deed}
use Rattle.lrc_trace.specs.declared.act.Deed.TheVariants.{Quiet, Print, Read, Write, Acquire, Release, Arrive, Depart, Trap, End}
use Rattle.lrc_exec.specs.declared.spot.Flat.{Flat}
use Rattle.lrc_exec.specs.declared.spot.Spot.{Spot}
use Rattle.lrc_exec.specs.declared.state.State.{State}
use Rattle.lrc_exec.specs.Meaning.{Thread, Next, next_of}
use Rattle.lrc_exec.specs.Plain.{Plain, plain_step, thread_in}
use Rattle.lrc_exec.specs.States.{plain_at}
use Rattle.lrc_exec.proofs.Spots.{node_within, stands_at, thread_there}
use Rattle.lrc_exec.specs.Follows.{Goes, quietly, printing, reading, writing, acquiring, releasing, arriving, departing, trapping, ending}
use Rattle.lrc_orders_laws.specs.Alike.{DoAlike, quiet, prints, reads, writes, acquires, releases, arrives, departs, traps, ends}
use Rattle.lrc_orders_laws.specs.Free.{is_contended}
use Rattle.lrc_orders_laws.specs.Names.{AgreeWhereItMatters}
use Rattle.lrc_orders_laws.specs.Steps.{IsSettledState}
use Rattle.lrc_orders_laws.proofs.Mattering.{go_on}
use Rattle.lrc_orders_laws.proofs.Parts.{stepped}
use Rattle.lrc_orders_live.specs.Like.{AreLike}
use Rattle.lrc_orders_live.proofs.Like.{partner}
use Rattle.lrc_orders_undisputed.specs.Undisputed.{Conflicts, read_and_written, written_and_read, written_twice, acquired_twice, IsUndisputed}
use Rattle.lrc_orders_disputes.proofs.Following.{Possible, undisputed_by}
use Rattle.lrc_orders_reach.specs.declared.standing.Standing.{Standing}
use Rattle.lrc_orders_reach.specs.Standing.{ComesTo, there, IsOpen, IsReachOf, StandsIn}
use Rattle.lrc_orders_reach.proofs.Coming.{comes_on}
use Rattle.lrc_orders_away.specs.Undisputed.{IsUndisputedAt, KeepsAway, StaysAway}
use Rattle.lrc_orders_away.proofs.Conflicting.{waits_away}

-- a node whose text was followed to standings that are about to make no act that conflicts keeps away
pub keeps_away : (flat : Flat) (spot : Spot) (blocked : List Bool) (all : List Standing) (deed : Deed) → IsReachOf flat spot.me blocked spot all
    → ((thread : Thread) → StandsIn flat spot.me all thread → Conflicts deed (next_of thread) → ⊥) → KeepsAway flat spot blocked deed
keeps_away flat spot blocked all deed reach away first thread begins comes conflicts = elim (reach first thread begins comes) [
  | inl waits ↦ waits_away deed thread waits conflicts
  | inr stands ↦ away thread stands conflicts
]

pub keeps_found : (flat : Flat) (spot : Spot) (blocked : List Bool) (found : Option (Vec Standing Global)) (all : Vec Standing Global) (list : List Standing)
    (deed : Deed) → IfSome found (λ v. IsReachOf flat spot.me blocked spot v.items) → found ≡ Some all → list ≡ all.items
    → ((thread : Thread) → StandsIn flat spot.me list thread → Conflicts deed (next_of thread) → ⊥) → KeepsAway flat spot blocked deed
keeps_found flat spot blocked found all list deed reach is items away =
    keeps_away flat spot blocked list deed
    (subst (λ l. IsReachOf flat spot.me blocked spot l) (sym items)
    (subst (λ (o : Option (Vec Standing Global)). IfSome o (λ v. IsReachOf flat spot.me blocked spot v.items)) is reach)) away

-- the two spots of a state are those that are read
pub stays_by : (flat : Flat) (state : State) (node other : ℕ) (deed : Deed) (own spot : Spot) → own ≡ get_or state.spots.items node own
    → spot ≡ get_or state.spots.items other spot → KeepsAway flat spot own.held deed → StaysAway flat state node deed other
stays_by flat state node other deed own spot own_is spot_is keeps own_too spot_too apart at at_other =
    let first : own ≡ own_too = own_is ∙ get_or_from_slice_get state.spots.items node own_too own at in
    let second : spot ≡ spot_too = spot_is ∙ get_or_from_slice_get state.spots.items other spot_too spot at_other in
    subst (λ (x : Spot). KeepsAway flat x own_too.held deed) second (subst (λ (x : Spot). KeepsAway flat spot x.held deed) first keeps)

-- what other nodes can do where a node holds these locks
is_open : (thread : Thread) (blocked : List Bool) (deed : Deed) → thread.held ≡ blocked → Possible thread (λ w v. Unit {0}) deed → IsOpen blocked deed
is_open thread blocked (Acquire lock) held may = subst (λ b. get_or b lock false ≡ false) held may
is_open thread blocked Depart held may = may
is_open thread blocked Quiet held may = tt
is_open thread blocked (Print v) held may = tt
is_open thread blocked (Read w v) held may = tt
is_open thread blocked (Write w v) held may = tt
is_open thread blocked (Release l) held may = tt
is_open thread blocked Arrive held may = tt
is_open thread blocked (Trap c) held may = tt
is_open thread blocked End held may = tt

-- a thread that is like another does the same, and is like it again
record GoesToo (next : Next) (deed : Deed) (after : Thread) : Type 0 where
  twin : Thread
  goes : Goes next deed (Some twin)
  agree : AgreeWhereItMatters after twin

renamed : (t after u : Thread) → ◌≡◌ {A = Option Thread} (Some t) (Some after) → AgreeWhereItMatters t u → AgreeWhereItMatters after u
renamed t after u e agree = subst (λ x. AgreeWhereItMatters x u) (same_Some t after e) agree

goes_too : {n m : Next} {deed : Deed} {new : Option Thread} → DoAlike AgreeWhereItMatters n m → Goes n deed new → (after : Thread) → new ≡ Some after
    → GoesToo m deed after
goes_too (quiet {t = t} {u = u} r) quietly after e = record { twin = u; goes = quietly; agree = renamed t after u e r }
goes_too (prints {t = t} {u = u} r) printing after e = record { twin = u; goes = printing; agree = renamed t after u e r }
goes_too (reads {t = t} {u = u} r) (reading {v = v}) after e = record { twin = u v; goes = reading; agree = renamed (t v) after (u v) e (r v) }
goes_too (writes {t = t} {u = u} r) writing after e = record { twin = u; goes = writing; agree = renamed t after u e r }
goes_too (acquires {t = t} {u = u} r) acquiring after e = record { twin = u; goes = acquiring; agree = renamed t after u e r }
goes_too (releases {t = t} {u = u} r) releasing after e = record { twin = u; goes = releasing; agree = renamed t after u e r }
goes_too (arrives {t = t} {u = u} r) arriving after e = record { twin = u; goes = arriving; agree = renamed t after u e r }
goes_too (departs {t = t} {u = u} r) departing after e = record { twin = u; goes = departing; agree = renamed t after u e r }
goes_too traps trapping after e = cc
goes_too ends ending after e = cc

conflicts_too : {n m : Next} {deed : Deed} → DoAlike AgreeWhereItMatters n m → Conflicts deed n → Conflicts deed m
conflicts_too (reads r) written_and_read = written_and_read
conflicts_too (writes r) read_and_written = read_and_written
conflicts_too (writes r) written_twice = written_twice
conflicts_too (acquires r) acquired_twice = acquired_twice
conflicts_too (quiet r) c = elim c [ ]
conflicts_too (prints r) c = elim c [ ]
conflicts_too (releases r) c = elim c [ ]
conflicts_too (arrives r) c = elim c [ ]
conflicts_too (departs r) c = elim c [ ]
conflicts_too traps c = elim c [ ]
conflicts_too ends c = elim c [ ]

-- a thread like one that another node comes to
record Comes (like : Plain) (blocked : List Bool) (other : ℕ) (t : Thread) : Type 0 where
  first : Thread
  at : thread_in like other ≡ Some first
  twin : Thread
  comes : ComesTo blocked first twin
  agree : AgreeWhereItMatters t twin

-- if every other node keeps away, an act is undisputed
pub undisputed_at : (program : Program) (nodes : ℕ) (acts : List Act) (machine like after : Plain) (node : ℕ) (deed : Deed) (blocked : List Bool)
    → IsSettledState program nodes acts machine → AreLike machine like → plain_step machine node ≡ Some (deed, after) → is_contended deed ≡ true
    → ((first : Thread) → thread_in like node ≡ Some first → first.held ≡ blocked)
    → ((other : ℕ) (first thread : Thread) → (other ≡ node → ⊥) → thread_in like other ≡ Some first → ComesTo blocked first thread
    → Conflicts deed (next_of thread) → ⊥) → IsUndisputed machine node deed after
undisputed_at program nodes acts machine like after node deed blocked state alike step kind held away =
    let s = stepped machine node deed after step in
    let own = partner (thread_in machine node) (thread_in like node) (alike.threads node) s.thread s.there in
    let locks : s.thread.held ≡ blocked = own.agree.held ∙ held own.thread own.is in
    undisputed_by program nodes acts machine after node deed s.thread (λ w v. Unit {0}) (Comes like blocked) state s.there step kind
    (record {
      held_now = λ word. tt;
      written = λ other before later word value apart among goes. tt;
      begun = λ other first apart at.
          let p = partner (thread_in machine other) (thread_in like other) (alike.threads other) first at in
          record { first = p.thread; at = p.is; twin = p.thread; comes = there p.thread; agree = p.agree };
      goes_on = λ other before later d apart among goes may.
          let too = goes_too (go_on.each before among.twin among.agree) goes later refl in
          record {
            first = among.first;
            at = among.at;
            twin = too.twin;
            comes = comes_on blocked among.first among.twin too.twin d among.comes too.goes (is_open s.thread blocked d locks may);
            agree = too.agree;
          };
    })
    (λ other before apart among conflicts.
    away other among.first among.twin apart among.at among.comes (conflicts_too (go_on.each before among.twin among.agree) conflicts))

-- so it is of a state's spots
pub undisputed_state : (flat : Flat) (state : State) (node : ℕ) (deed : Deed) → node < length state.spots.items
    → ((k : ℕ) → k < length state.spots.items → StaysAway flat state node deed k) → IsUndisputedAt flat state node deed
undisputed_state flat state node deed within away program nodes acts machine after settled alike step kind =
    let none : Spot = record { me = 0; place = 0; privates = []; held = []; arrived = false; stopped = false } in
    let own = get_or state.spots.items node none in
    undisputed_at program nodes acts machine (plain_at flat state) after node deed own.held settled alike step kind
    (λ first at. sym (ap (λ (t : Thread). t.held) (stands_at flat state node none first at).thread_is))
    (λ other first thread apart at comes conflicts.
    let inside : other < length state.spots.items = node_within flat state other none first at in
    away other inside own (get_or state.spots.items other none) apart (slice_get-get_or state.spots.items node none within)
    (slice_get-get_or state.spots.items other none inside) first thread (sym (thread_there flat state other none inside) ∙ at) comes conflicts)
