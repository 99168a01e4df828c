-- One step of a thread is one step along its text.
use Rattle.std.proofs.Common.{◌≡◌, ℕ, zero, suc, List, [], ◌∷◌, ◌++◌, ◌⊎◌, inl, inr, Bool, true, false, refl, sym, ap, ◌∙◌, subst}
use Rattle.std.specs.Prelude.{Option, Some, None, if◌then◌else◌, nat_lt}
use Rattle.lrc_program.specs.declared.Program.{Program}
use Rattle.lrc_program.specs.declared.Statement.{Statement}
use Rattle.lrc_program.specs.declared.Statement.TheVariants.{Assign, Read, Write, Acquire, Release, Barrier, Print, If', While'}
use Rattle.lrc_trace.specs.declared.act.Act.{Act}
use Rattle.lrc_trace.specs.declared.act.Cause.{Cause}
use Rattle.lrc_trace.specs.declared.act.Deed.{Deed}
use Rattle.lrc_exec.specs.Flat.{where_it_holds, where_it_fails}
use Rattle.lrc_exec.specs.Meaning.{Thread, Next, quiet, prints, reads, writes, acquires, releases, arrives, departs, traps, ends, next_of}
use Rattle.lrc_exec.specs.Meaning.{block, chosen, or_trap, value_in, if_below, holds, first_act, next_of_statement}
use Rattle.lrc_exec.specs.Plain.{Plain, thread_in, plain_step}
use Rattle.lrc_exec.specs.Follows.{Goes, quietly, printing, reading, writing, acquiring, releasing, arriving, departing, trapping, ending}
use Rattle.lrc_orders_laws.specs.Free.{is_contended}
use Rattle.lrc_orders_laws.specs.Steps.{IsSettledState}
use Rattle.lrc_orders_laws.proofs.Parts.{stepped}
use Rattle.lrc_orders_undisputed.specs.Undisputed.{Conflicts, read_and_written, written_and_read, written_twice, acquired_twice, IsUndisputed}
use Rattle.lrc_orders_disputes.specs.Places.{ArePlacesFollowed, NoPlaceConflicts}
use Rattle.lrc_orders_disputes.proofs.Following.{Possible, undisputed_by}

-- what holds of the thread after, whichever that is
abbrev AllAfter : (Thread → Type 0) → Next → Type 0
AllAfter R (quiet t) = R t
AllAfter R (prints v t) = R t
AllAfter R (reads w t) = (v : ℕ) → R (t v)
AllAfter R (writes w v t) = R t
AllAfter R (acquires l t) = R t
AllAfter R (releases l t) = R t
AllAfter R (arrives t) = R t
AllAfter R (departs t) = R t
AllAfter R (traps c) = Unit {0}
AllAfter R ends = Unit {0}

of_some : (R : Thread → Type 0) (t u : Thread) → ◌≡◌ {A = Option Thread} (Some t) (Some u) → R t → R u
of_some R t u e r = let same : t ≡ u = cc in subst R same r

all_after : (R : Thread → Type 0) {next : Next} {deed : Deed} {new : Option Thread} → Goes next deed new → AllAfter R next → (after : Thread)
    → new ≡ Some after → R after
all_after R (quietly {t = t}) all after e = of_some R t after e all
all_after R (printing {t = t}) all after e = of_some R t after e all
all_after R (reading {t = t} {v = v}) all after e = of_some R (t v) after e (all v)
all_after R (writing {t = t}) all after e = of_some R t after e all
all_after R (acquiring {t = t}) all after e = of_some R t after e all
all_after R (releasing {t = t}) all after e = of_some R t after e all
all_after R (arriving {t = t}) all after e = of_some R t after e all
all_after R (departing {t = t}) all after e = of_some R t after e all
all_after R trapping all after e = cc
all_after R ending all after e = cc

-- the thread after stands behind the statement, or waits at a barrier
record IsBehind (thread : Thread) (statement : Statement) (rest : List Statement) (after : Thread) : Type 0 where
  setting : after.setting ≡ thread.setting
  place : (after.arrived ≡ true)
      ⊎ ((statement ≡ Barrier → ⊥) × ((after.rest ≡ where_it_holds statement rest) ⊎ (after.rest ≡ where_it_fails statement rest)))

module _ (R : Thread → Type 0) where
  or_trap_all : (o : Option ℕ) (go : ℕ → Next) → ((v : ℕ) → AllAfter R (go v)) → AllAfter R (or_trap o go)
  or_trap_all None go all = tt
  or_trap_all (Some v) go all = all v

  then_all : (test : Bool) (next : Next) (cause : Cause) → AllAfter R next → AllAfter R (if test then next else traps cause)
  then_all true next cause all = all
  then_all false next cause all = tt

  else_all : (test : Bool) (next : Next) (cause : Cause) → AllAfter R next → AllAfter R (if test then traps cause else next)
  else_all true next cause all = tt
  else_all false next cause all = all

  below_all : (n limit : ℕ) (cause : Cause) (next : Next) → AllAfter R next → AllAfter R (if_below n limit cause next)
  below_all n limit cause next all = then_all (nat_lt n limit) next cause all

chosen_one : (v : ℕ) (a b : List Statement) → (chosen v a b ≡ a) ⊎ (chosen v a b ≡ b)
chosen_one zero a b = inr refl
chosen_one (suc n) a b = inl refl

behind : (thread : Thread) (statement : Statement) (rest : List Statement) → AllAfter (IsBehind thread statement rest) (next_of_statement thread statement rest)
behind thread (Assign name e) rest =
    or_trap_all _ (value_in thread e) _ (λ v. record { setting = refl; place = inr (λ e'. cc, inl refl) })
behind thread (Read name e) rest =
    or_trap_all _ (value_in thread e) _ (λ w. below_all _ w _ _ _ (λ v. record { setting = refl; place = inr (λ e'. cc, inl refl) }))
behind thread (Write word e) rest =
    or_trap_all _ (value_in thread word) _ (λ w. or_trap_all _ (value_in thread e) _ (λ v.
    below_all _ w _ _ _ (record { setting = refl; place = inr (λ e'. cc, inl refl) })))
behind thread (Acquire e) rest =
    or_trap_all _ (value_in thread e) _ (λ l. below_all _ l _ _ _
    (else_all _ (holds thread l) _ _ (record { setting = refl; place = inr (λ e'. cc, inl refl) })))
behind thread (Release e) rest =
    or_trap_all _ (value_in thread e) _ (λ l. below_all _ l _ _ _
    (then_all _ (holds thread l) _ _ (record { setting = refl; place = inr (λ e'. cc, inl refl) })))
behind thread Barrier rest = record { setting = refl; place = inl refl }
behind thread (Print e) rest =
    or_trap_all _ (value_in thread e) _ (λ v. record { setting = refl; place = inr (λ e'. cc, inl refl) })
behind thread (If' e p a q b) rest =
    or_trap_all _ (value_in thread e) _ (λ v. record {
      setting = refl;
      place = inr (λ e'. cc, chosen_one v (block a ++ rest) (block b ++ rest));
    })
behind thread (While' e p a) rest =
    or_trap_all _ (value_in thread e) _ (λ v. record {
      setting = refl;
      place = inr (λ e'. cc, chosen_one v (block a ++ While' e p a ∷ rest) rest);
    })

no_act_after : {deed : Deed} {new : Option Thread} → {next : Next} → Goes next deed new → next ≡ ends → (after : Thread) → new ≡ Some after → ⊥
no_act_after ending is after e = cc
no_act_after quietly is after e = cc
no_act_after printing is after e = cc
no_act_after reading is after e = cc
no_act_after writing is after e = cc
no_act_after acquiring is after e = cc
no_act_after releasing is after e = cc
no_act_after arriving is after e = cc
no_act_after departing is after e = cc
no_act_after trapping is after e = cc

departs_only : {next : Next} {deed : Deed} → Conflicts deed next → (gone : Thread) → next ≡ departs gone → ⊥
departs_only read_and_written gone e = cc
departs_only written_and_read gone e = cc
departs_only written_twice gone e = cc
departs_only acquired_twice gone e = cc

is_depart : {next : Next} {deed : Deed} {new : Option Thread} → Goes next deed new → (gone : Thread) → next ≡ departs gone → (thread : Thread)
    → (Value : ℕ → ℕ → Type 0) → Possible thread Value deed → ⊥
is_depart departing gone e thread Value may = may
is_depart quietly gone e thread Value may = cc
is_depart printing gone e thread Value may = cc
is_depart reading gone e thread Value may = cc
is_depart writing gone e thread Value may = cc
is_depart acquiring gone e thread Value may = cc
is_depart releasing gone e thread Value may = cc
is_depart arriving gone e thread Value may = cc
is_depart trapping gone e thread Value may = cc
is_depart ending gone e thread Value may = cc

next_waiting : (thread : Thread) → thread.arrived ≡ true → next_of thread ≡ departs (record thread { arrived = false })
next_waiting thread e = ap (λ x. if x then departs (record thread { arrived = false }) else first_act thread thread.rest) e

next_going : (thread : Thread) → thread.arrived ≡ false → next_of thread ≡ first_act thread thread.rest
next_going thread e = ap (λ x. if x then departs (record thread { arrived = false }) else first_act thread thread.rest) e

module _ (machine : Plain) (node : ℕ) (places : ℕ → List Statement → Bool) (followed : ArePlacesFollowed machine node places) where
  -- a thread with its node's setting that waits at a barrier, or stands at one of the places
  record Stands (other : ℕ) (t : Thread) : Type 0 where
    setting : (first : Thread) → thread_in machine other ≡ Some first → t.setting ≡ first.setting
    there : (first : Thread) × (thread_in machine other ≡ Some first)
    place : (t.arrived ≡ true) ⊎ ((t.arrived ≡ false) × (places other t.rest ≡ true))

  -- where the thread stands, by whether it has arrived
  at_place : (other : ℕ) (t : Thread) → (t.arrived ≡ true) ⊎ (places other t.rest ≡ true)
      → (t.arrived ≡ true) ⊎ ((t.arrived ≡ false) × (places other t.rest ≡ true))
  at_place other t either = by_test t.arrived refl
    where
      by_test : (b : Bool) → t.arrived ≡ b → (t.arrived ≡ true) ⊎ ((t.arrived ≡ false) × (places other t.rest ≡ true))
      by_test true e = inl e
      by_test false e = elim either [
        | inl waits ↦ inl waits
        | inr among ↦ inr (e, among)
      ]

  onward : (other : ℕ) (t after : Thread) (deed : Deed) → (other ≡ node → ⊥) → t.arrived ≡ false → (rest : List Statement) → t.rest ≡ rest
      → places other rest ≡ true → Goes (first_act t rest) deed (Some after)
      → (after.setting ≡ t.setting) × ((after.arrived ≡ true) ⊎ (places other after.rest ≡ true))
  onward other t after deed apart going [] is among goes = absurd (no_act_after goes refl after refl)
  onward other t after deed apart going (statement ∷ rest) is among goes =
      let b = all_after (IsBehind t statement rest) goes (behind t statement rest) after refl in (
        b.setting,
        elim b.place [
          | inl waits ↦ inl waits
          | inr on ↦ elim on.1 [
            | inl met ↦
                inr (subst (λ l. places other l ≡ true) (sym met) (followed.holds_on other statement rest apart among on.0))
            | inr unmet ↦
                inr (subst (λ l. places other l ≡ true) (sym unmet) (followed.fails_on other statement rest apart among on.0))
          ]
        ],
      )

  stands_on : (thread : Thread) (other : ℕ) (before after : Thread) (deed : Deed) → (other ≡ node → ⊥) → Stands other before
      → Goes (next_of before) deed (Some after) → Possible thread (λ w v. Unit {0}) deed → Stands other after
  stands_on thread other before after deed apart stands goes may = elim stands.place [
    | inl waits ↦ absurd (is_depart goes (record before { arrived = false }) (next_waiting before waits) thread (λ w v. Unit {0}) may)
    | inr going ↦
        let on = onward other before after deed apart going.0 before.rest refl going.1
        (subst (λ n. Goes n deed (Some after)) (next_going before going.0) goes) in
        record {
          setting = λ first at. on.0 ∙ stands.setting first at;
          there = stands.there;
          place = at_place other after on.1;
        }
  ]

  begins : (other : ℕ) (first : Thread) → (other ≡ node → ⊥) → thread_in machine other ≡ Some first → Stands other first
  begins other first apart at = record {
    setting = λ again at'. ap (λ (t : Thread). t.setting) (let same : first ≡ again = same_first first again (sym at ∙ at') in same);
    there = (first, at);
    place = by_test first.arrived refl;
  }
    where
      same_first : (a b : Thread) → ◌≡◌ {A = Option Thread} (Some a) (Some b) → a ≡ b
      same_first a b e = cc

      by_test : (b : Bool) → first.arrived ≡ b → (first.arrived ≡ true) ⊎ ((first.arrived ≡ false) × (places other first.rest ≡ true))
      by_test true e = inl e
      by_test false e = inr (e, followed.begun other first apart at e)

pub undisputed_at_places : (program : Program) (nodes : ℕ) (acts : List Act) (machine after : Plain) (node : ℕ) (deed : Deed)
    (places : ℕ → List Statement → Bool) → IsSettledState program nodes acts machine → plain_step machine node ≡ Some (deed, after)
    → is_contended deed ≡ true → ArePlacesFollowed machine node places → NoPlaceConflicts machine node deed places
    → IsUndisputed machine node deed after
undisputed_at_places program nodes acts machine after node deed places state step kind followed none =
    let s = stepped machine node deed after step in
    undisputed_by program nodes acts machine after node deed s.thread (λ w v. Unit {0}) (Stands machine node places followed) state s.there step kind
    (record {
      held_now = λ word. tt;
      written = λ other before later word value apart stands goes. tt;
      begun = λ other first apart at. begins machine node places followed other first apart at;
      goes_on = λ other before later d apart stands goes may. stands_on machine node places followed s.thread other before later d apart stands goes may;
    })
    (λ other before apart stands conflicts. elim stands.place [
      | inl waits ↦ departs_only conflicts (record before { arrived = false }) (next_waiting before waits)
      | inr going ↦ none other stands.there.0 before apart stands.there.1 (stands.setting stands.there.0 stands.there.1) going.0 going.1 conflicts
    ])
