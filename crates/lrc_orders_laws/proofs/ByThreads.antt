-- Settling a state is settling each thread by itself; and after one node's step the others are settled already.
use Rattle.std.proofs.Common.{◌≡◌, ℕ, ◌<◌, ◌≤◌, Bool, true, false, List, [], ◌∷◌, inl, inr, refl, sym, ap, ◌∙◌, subst, arith}
use Rattle.std.specs.Prelude.{Option, Some, None}
use Rattle.std.proofs.lemmas.Bool.{cases_eq, cases_lt}
use Rattle.lrc_trace.specs.declared.act.Act.{Act}
use Rattle.lrc_trace.specs.declared.act.Deed.{Deed}
use Rattle.lrc_trace.specs.Run.{act_of}
use Rattle.lrc_exec.specs.Meaning.{Thread, next_of}
use Rattle.lrc_exec.specs.Plain.{Plain, thread_in, plain_step}
use Rattle.lrc_exec.specs.Follows.{deeds_of}
use Rattle.lrc_consistency_laws.proofs.Runs.{deeds_of-own, deeds_of-other}
use Rattle.lrc_orders_laws.specs.Free.{is_free, is_free_in, Turns, TurnsIn}
use Rattle.lrc_orders_laws.specs.Settling.{IsSettledAt, IsSettled, Settles, settled, settling}
use Rattle.lrc_orders_laws.specs.Threads.{ThreadSettles, stopped, waits, turns, goes, AreAscending, SettlesByThreads}
use Rattle.lrc_orders_laws.proofs.Parts.{stepped}
use Rattle.lrc_orders_laws.proofs.Diamond.{memory_still}
use Rattle.lrc_orders_laws.proofs.Finishing.{free_steady}
use Rattle.lrc_orders_laws.proofs.Settle.{settling_free}

-- a settled thread stays
by_freedom : (thread : Thread) (b : Bool) → is_free (next_of thread) ≡ b → (is_free (next_of thread) ≡ true → Turns thread)
    → ThreadSettles (Some thread) [] (Some thread)
by_freedom thread true e turning = turns thread (turning e)
by_freedom thread false e turning = waits thread e

pub settled_thread : (o : Option Thread) → (is_free_in o ≡ true → TurnsIn o) → ThreadSettles o [] o
settled_thread None is = stopped
settled_thread (Some thread) is = by_freedom thread (is_free (next_of thread)) refl is

-- the acts do not begin before a node where all nodes before it are settled
ascending_from : {machine final : Plain} {acts : List Act} → Settles machine acts final → (node : ℕ)
    → ((other : ℕ) → other < node → IsSettledAt machine other) → AreAscending node acts
ascending_from (settled machine is) node lower = tt
ascending_from (settling machine after final at deed acts next step more) node lower =
    let s = stepped machine at deed after step in
    let above : node ≤ at = elim (cases_lt at node) [
      | inl lt ↦ absurd (next.stops (lower at lt next.free))
      | inr le ↦ le
    ] in (
      above,
      ascending_from more at (λ other lt.
          subst (λ o. is_free_in o ≡ true → TurnsIn o) (sym (s.others other (λ e. absurd (omega (arith, lt, e))))) (next.lowest other lt)),
    )

threads_settle : {machine final : Plain} {acts : List Act} → Settles machine acts final → (node : ℕ)
    → ThreadSettles (thread_in machine node) (deeds_of node acts) (thread_in final node)
threads_settle (settled machine is) node = settled_thread (thread_in machine node) (is.each node)
threads_settle (settling machine after final at deed acts next step more) node =
    let s = stepped machine at deed after step in
    let act = act_of at deed in
    let rest = threads_settle more node in
    elim (cases_eq node at) [
      | inl same ↦
          let free = settling_free next s in
          let rest' : ThreadSettles s.took.goes_on_as (deeds_of at acts) (thread_in final at) =
          subst (λ o. ThreadSettles o (deeds_of at acts) (thread_in final at)) s.own
          (subst (λ n. ThreadSettles (thread_in after n) (deeds_of n acts) (thread_in final n)) same rest) in
          let all : ThreadSettles (Some s.thread) (deed ∷ deeds_of at acts) (thread_in final at) =
          goes s.thread deed s.took.goes_on_as (thread_in final at) (deeds_of at acts) s.took.goes free
          (λ turning. next.stops (subst TurnsIn (sym s.there) turning)) rest' in
          let here : ThreadSettles (thread_in machine at) (deeds_of at (act ∷ acts)) (thread_in final at) =
          subst (λ ds. ThreadSettles (thread_in machine at) ds (thread_in final at)) (sym (deeds_of-own act acts))
          (subst (λ o. ThreadSettles o (deed ∷ deeds_of at acts) (thread_in final at)) (sym s.there) all) in
          subst (λ n. ThreadSettles (thread_in machine n) (deeds_of n (act ∷ acts)) (thread_in final n)) (sym same) here
      | inr apart ↦
          subst (λ ds. ThreadSettles (thread_in machine node) ds (thread_in final node)) (sym (deeds_of-other act acts node (λ e. apart (sym e))))
          (subst (λ o. ThreadSettles o (deeds_of node acts) (thread_in final node)) (s.others node apart) rest)
    ]

memory_settles : {machine final : Plain} {acts : List Act} → Settles machine acts final → final.memory ≡ machine.memory
memory_settles (settled machine is) = refl
memory_settles (settling machine after final at deed acts next step more) =
    let s = stepped machine at deed after step in
    memory_settles more ∙ ap (λ (m : Plain). m.memory) s.took.is ∙ memory_still deed machine.memory (free_steady s.took.goes (settling_free next s))

pub by_threads : {machine final : Plain} {acts : List Act} → Settles machine acts final → SettlesByThreads machine acts final
by_threads settles = record {
  threads = threads_settle settles;
  ascending = ascending_from settles 0 (λ other lt. absurd (omega (arith, lt)));
  memory = memory_settles settles;
}

-- what a settled thread comes to is itself
pub stays_itself : {o there : Option Thread} {deeds : List Deed} → ThreadSettles o deeds there → (is_free_in o ≡ true → TurnsIn o)
    → (there ≡ o) × (deeds ≡ [])
stays_itself stopped is = (refl, refl)
stays_itself (waits thread e) is = (refl, refl)
stays_itself (turns thread e) is = (refl, refl)
stays_itself (goes thread deed after there deeds g free never more) is = absurd (never (is free))

pub others_stay : (machine mid final : Plain) (node : ℕ) (deed : Deed) (acts : List Act) → IsSettled machine → plain_step machine node ≡ Some (deed, mid)
    → Settles mid acts final → (other : ℕ) → (other ≡ node → ⊥) → (thread_in final other ≡ thread_in machine other) × (deeds_of other acts ≡ [])
others_stay machine mid final node deed acts is step settles other apart =
    let s = stepped machine node deed mid step in
    let still = s.others other apart in
    let calm : is_free_in (thread_in mid other) ≡ true → TurnsIn (thread_in mid other) =
    subst (λ o. is_free_in o ≡ true → TurnsIn o) (sym still) (is.each other) in
    let both = stays_itself (threads_settle settles other) calm in
    (both.0 ∙ still, both.1)
