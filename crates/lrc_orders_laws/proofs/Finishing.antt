-- Settling one node comes to its end: the node has finitely many free acts to come, or it turns for ever.
use Rattle.std.proofs.Common.{◌≡◌, ℕ, zero, suc, ◌+◌, ◌<◌, ◌≤◌, List, [], ◌∷◌, inl, inr, Bool, true, false, length, refl, sym, ap, ◌∙◌, subst, arith}
use Rattle.std.specs.Prelude.{Option, Some, None, IsSome, option_and_then, if◌then◌else◌, slice_index_or, slice_set}
use Rattle.std.proofs.lemmas.Bool.{cases_eq, cases_lt}
use Rattle.std.proofs.lemmas.List.{get_or_past}
use Rattle.std.proofs.lemmas.Option.{some_pair_parts}
use Rattle.lrc_trace.specs.declared.act.Act.{Act}
use Rattle.lrc_trace.specs.declared.act.Deed.{Deed}
use Rattle.lrc_trace.specs.declared.act.Deed.TheVariants.{Quiet, Print, Release, Arrive, Trap, End}
use Rattle.lrc_exec.specs.Meaning.{Thread, Next, quiet, prints, reads, writes, acquires, releases, arrives, departs, traps, ends, next_of, first_act}
use Rattle.lrc_exec.specs.Plain.{Plain, thread_in, plain_from}
use Rattle.lrc_exec.proofs.NextLaws.{IsFine, next_of-fine}
use Rattle.lrc_exec.specs.Follows.{Goes, quietly, printing, reading, writing, acquiring, releasing, arriving, departing, trapping, ending}
use Rattle.lrc_consistency_laws.proofs.Runs.{CanDo}
use Rattle.lrc_consistency_laws.proofs.Plainly.{stepwise}
use Rattle.lrc_orders.proofs.Effects.{after_of}
use Rattle.lrc_orders.specs.Stuck.{IsAtRest}
use Rattle.lrc_orders_laws.specs.Free.{is_free, is_contended, after_quiet, after_quiets, Turns, TurnsIn}
use Rattle.lrc_orders_laws.proofs.Parts.{stepped, can_step}
use Rattle.lrc_orders_laws.proofs.Turning.{no_some, turns_still, at_rest_none_turns}

-- what a node's free acts come to
pub data Finishes : Option Thread → Type 0 where
  over : Finishes None
  waits : (thread : Thread) → is_free (next_of thread) ≡ false → Finishes (Some thread)
  turning : (thread : Thread) → Turns thread → Finishes (Some thread)
  goes : (thread : Thread) (deed : Deed) (after : Option Thread) → Goes (next_of thread) deed after → is_free (next_of thread) ≡ true
      → (Turns thread → ⊥) → Finishes after → Finishes (Some thread)

pub record AllFinish (machine : Plain) : Type 0 where
  pub each : (node : ℕ) → Finishes (thread_in machine node)

-- a free act can always be made
pub free_can : (machine : Plain) (node : ℕ) {next : Next} {deed : Deed} {new : Option Thread} → Goes next deed new → is_free next ≡ true
    → CanDo machine node deed
free_can machine node quietly e = tt
free_can machine node printing e = tt
free_can machine node reading e = cc
free_can machine node writing e = cc
free_can machine node acquiring e = cc
free_can machine node releasing e = tt
free_can machine node arriving e = tt
free_can machine node departing e = cc
free_can machine node trapping e = tt
free_can machine node ending e = tt

pub free_steady : {next : Next} {deed : Deed} {new : Option Thread} → Goes next deed new → is_free next ≡ true → is_contended deed ≡ false
free_steady quietly e = refl
free_steady printing e = refl
free_steady reading e = cc
free_steady writing e = cc
free_steady acquiring e = cc
free_steady releasing e = refl
free_steady arriving e = refl
free_steady departing e = cc
free_steady trapping e = refl
free_steady ending e = refl

-- ---- by a run to where no node can act

-- what a thread does where that is free
pub record FreeDeed (next : Next) : Type 0 where
  pub deed : Deed
  pub after : Option Thread
  pub goes : Goes next deed after

pub free_deed : (next : Next) → is_free next ≡ true → FreeDeed next
free_deed (quiet t) e = record { deed = Quiet; after = Some t; goes = quietly }
free_deed (prints v t) e = record { deed = Print v; after = Some t; goes = printing }
free_deed (reads w t) e = cc
free_deed (writes w v t) e = cc
free_deed (acquires l t) e = cc
free_deed (releases l t) e = record { deed = Release l; after = Some t; goes = releasing }
free_deed (arrives t) e = record { deed = Arrive; after = Some t; goes = arriving }
free_deed (departs t) e = cc
free_deed (traps c) e = record { deed = Trap c; after = None; goes = trapping }
free_deed ends e = record { deed = End; after = None; goes = ending }

by_free : (thread : Thread) (b : Bool) → is_free (next_of thread) ≡ b → (is_free (next_of thread) ≡ true → Finishes (Some thread)) → Finishes (Some thread)
by_free thread true e goes_so = goes_so e
by_free thread false e goes_so = waits thread e

finishes_at_rest : (machine : Plain) (node : ℕ) → IsAtRest machine → (o : Option Thread) → thread_in machine node ≡ o → Finishes o
finishes_at_rest machine node still None at = over
finishes_at_rest machine node still (Some thread) at = by_free thread (is_free (next_of thread)) refl (λ e.
    let d = free_deed (next_of thread) e in
    let step = can_step machine node thread d.deed at refl d.goes (free_can machine node d.goes e) in
    let never : None ≡ Some (d.deed, after_of machine node d.deed d.after) = sym (still node) ∙ step in
    cc)

pub finishes_by_rest : (order : List ℕ) (machine final : Plain) (acts : List Act) → plain_from machine order ≡ Some (acts, final) → IsAtRest final
    → (node : ℕ) → Finishes (thread_in machine node)
finishes_by_rest [] machine final acts e still node =
    finishes_at_rest machine node (subst IsAtRest (sym (some_pair_parts [] acts machine final e).1) still) (thread_in machine node) refl
finishes_by_rest (x ∷ order) machine final acts e still node =
    let s = stepwise machine x order acts final e in
    let st = stepped machine x s.deed s.after s.first in
    let more = finishes_by_rest order s.after final s.more s.rest still node in
    elim (cases_eq node x) [
      | inl same ↦
          let later : Finishes st.took.goes_on_as = subst Finishes (ap (thread_in s.after) same ∙ st.own) more in
          let never : Turns st.thread → ⊥ = λ turns.
          at_rest_none_turns final x still (turns_still (x ∷ order) machine final acts x e (subst TurnsIn (sym st.there) turns)) in
          subst Finishes (sym (ap (thread_in machine) same ∙ st.there))
          (by_free st.thread (is_free (next_of st.thread)) refl (λ free. goes st.thread s.deed st.took.goes_on_as st.took.goes free never later))
      | inr apart ↦ subst Finishes (st.others node apart) more
    ]

-- ---- in general, where absurdity is to be shown

-- how many locks are held
abbrev held_count : List Bool → ℕ
held_count [] = 0
held_count (true ∷ held) = held_count held + 1
held_count (false ∷ held) = held_count held

fewer_held : (held : List Bool) (lock : ℕ) → slice_index_or held lock false ≡ true → held_count (slice_set held lock false) + 1 ≡ held_count held
fewer_held [] lock e = cc
fewer_held (true ∷ held) zero e = refl
fewer_held (false ∷ held) zero e = cc
fewer_held (true ∷ held) (suc lock) e = ap (λ n. n + 1) (fewer_held held lock e)
fewer_held (false ∷ held) (suc lock) e = fewer_held held lock e

some_where_not_none : (o : Option Thread) → (o ≡ None → ⊥) → IsSome o
some_where_not_none None not = absurd (not refl)
some_where_not_none (Some t) not = refl

turns_or_stops : (thread : Thread) → (Turns thread → ⊥) → ((count : ℕ) → after_quiets count thread ≡ None → ⊥) → ⊥
turns_or_stops thread not_turns not_stops =
    not_turns (record { on = λ count. some_where_not_none (after_quiets count thread) (not_stops count) })

stops : (thread : Thread) (count : ℕ) → after_quiets count thread ≡ None → Turns thread → ⊥
stops thread count e turns = no_some (subst IsSome e (turns.on count))

waiting : (thread : Thread) → thread.arrived ≡ true → is_free (next_of thread) ≡ false
waiting thread e = ap (λ b. is_free (if b then departs (record thread { arrived = false }) else first_act thread thread.rest)) e

-- not unlikely to finish
abbrev May : Thread → Type 0
May thread = (Finishes (Some thread) → ⊥) → ⊥

-- the same by what comes next
may_by : (most count : ℕ) → ((after : Thread) → held_count after.held < most → May after)
    → ((after : Thread) → after_quiets count after ≡ None → held_count after.held ≤ most → May after)
    → (thread : Thread) → held_count thread.held ≤ most → (Turns thread → ⊥) → (next : Next) → next_of thread ≡ next → IsFine thread next
    → option_and_then (λ after. after_quiets count after) (after_quiet next) ≡ None → May thread
may_by most count outer inner thread le stop (quiet t) is fine none never_so =
    inner t none (omega (arith, ap held_count fine.1.held)) (λ f.
    never_so (goes thread Quiet (Some t) (subst (λ n. Goes n Quiet (Some t)) (sym is) quietly) (ap is_free is) stop f))
may_by most count outer inner thread le stop (prints v t) is fine none never_so =
    inner t none (omega (arith, ap held_count fine.1.held)) (λ f.
    never_so (goes thread (Print v) (Some t) (subst (λ n. Goes n (Print v) (Some t)) (sym is) printing) (ap is_free is) stop f))
may_by most count outer inner thread le stop (reads w t) is fine none never_so = never_so (waits thread (ap is_free is))
may_by most count outer inner thread le stop (writes w v t) is fine none never_so = never_so (waits thread (ap is_free is))
may_by most count outer inner thread le stop (acquires l t) is fine none never_so = never_so (waits thread (ap is_free is))
may_by most count outer inner thread le stop (releases l t) is fine none never_so =
    outer t (omega (arith, ap held_count fine.3.held, fewer_held thread.held l fine.1)) (λ f.
    never_so (goes thread (Release l) (Some t) (subst (λ n. Goes n (Release l) (Some t)) (sym is) releasing) (ap is_free is) stop f))
may_by most count outer inner thread le stop (arrives t) is fine none never_so =
    never_so (goes thread Arrive (Some t) (subst (λ n. Goes n Arrive (Some t)) (sym is) arriving) (ap is_free is) stop (waits t (waiting t fine.1.arrived)))
may_by most count outer inner thread le stop (departs t) is fine none never_so = never_so (waits thread (ap is_free is))
may_by most count outer inner thread le stop (traps c) is fine none never_so =
    never_so (goes thread (Trap c) None (subst (λ n. Goes n (Trap c) None) (sym is) trapping) (ap is_free is) stop over)
may_by most count outer inner thread le stop ends is fine none never_so =
    never_so (goes thread End None (subst (λ n. Goes n End None) (sym is) ending) (ap is_free is) stop over)

may_stop : (most : ℕ) → ((after : Thread) → held_count after.held < most → May after) → (count : ℕ) (thread : Thread) → after_quiets count thread ≡ None
    → held_count thread.held ≤ most → May thread
may_stop most outer zero thread none le never_so = cc
may_stop most outer (suc count) thread none le never_so =
    may_by most count outer (may_stop most outer count) thread le (stops thread (suc count) none) (next_of thread) refl (next_of-fine thread) none never_so

may_below : (most : ℕ) (thread : Thread) → held_count thread.held < most → May thread
may_below zero thread lt never_so = absurd (omega arith)
may_below (suc most) thread lt never_so =
    turns_or_stops thread (λ turns. never_so (turning thread turns)) (λ count none. may_stop most (may_below most) count thread none (omega arith) never_so)

may : (thread : Thread) → May thread
may thread = may_below (held_count thread.held + 1) thread (omega arith)

may_one : (o : Option Thread) → (Finishes o → ⊥) → ⊥
may_one None never_so = never_so over
may_one (Some thread) never_so = may thread never_so

every : (P : ℕ → Type 0) → ((n : ℕ) → (P n → ⊥) → ⊥) → (count : ℕ) → (((n : ℕ) → n < count → P n) → ⊥) → ⊥
every P each zero never_so = never_so (λ n lt. absurd (omega (arith, lt)))
every P each (suc count) never_so =
    every P each count (λ below. each count (λ here. never_so (λ n lt. elim (cases_eq n count) [
      | inl same ↦ subst P (sym same) here
      | inr apart ↦ below n (omega (arith, lt, apart))
    ])))

pub all_may_finish : (machine : Plain) → (AllFinish machine → ⊥) → ⊥
all_may_finish machine never_so =
    every (λ n. Finishes (thread_in machine n)) (λ n. may_one (thread_in machine n)) (length machine.threads) (λ within.
    never_so (record {
      each = λ n. elim (cases_lt n (length machine.threads)) [
        | inl lt ↦ within n lt
        | inr le ↦ subst Finishes (sym (get_or_past machine.threads n None le)) over
      ];
    }))
