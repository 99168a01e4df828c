-- A run leads from where settled states are reached to where settled states are reached.
use Rattle.std.proofs.Common.{◌≡◌, ℕ, ◌+◌, List, [], ◌∷◌, ◌++◌, inl, inr, Bool, true, false, length, refl, ap, ◌∙◌, subst, arith}
use Rattle.std.specs.Prelude.{Some}
use Rattle.std.specs.List.{range_with_len}
use Rattle.std.proofs.lemmas.Option.{some_pair_parts}
use Rattle.lrc_trace.specs.declared.act.Act.{Act}
use Rattle.lrc_trace.specs.declared.act.Deed.{Deed}
use Rattle.lrc_trace.specs.declared.act.Deed.TheVariants.{Depart}
use Rattle.lrc_trace.specs.Run.{act_of}
use Rattle.lrc_exec.specs.Plain.{Plain, thread_in, plain_step, plain_from}
use Rattle.lrc_consistency_laws.proofs.Plainly.{stepwise}
use Rattle.lrc_orders.specs.Stuck.{IsAtRest}
use Rattle.lrc_orders_laws.specs.Free.{is_contended, is_free_in, TurnsAt, TurnsIn}
use Rattle.lrc_orders_laws.specs.Settling.{IsSettled}
use Rattle.lrc_orders_laws.specs.Steps as steps
use Rattle.lrc_orders_laws.specs.Steps.{AllWait, Leads}
use Rattle.lrc_orders_laws.proofs.Parts.{stepped}
use Rattle.lrc_orders_laws.proofs.Held.{Held, held_after}
use Rattle.lrc_orders_laws.proofs.Turning.{at_rest_none_turns, turns_still}
use Rattle.lrc_orders_laws.proofs.Settle.{SettlesTo}
use Rattle.lrc_orders_laws.proofs.Aligned.{all_wait, at_barrier}
use Rattle.lrc_orders_laws.proofs.Onward.{Fine}
use Rattle.lrc_orders_ends.proofs.Steadily.{Steadily, StillToCome, aside, all_depart, free_or_depart, nobody_departs, settles_steadily, steadily_on}

-- a step begins: a read, a write or an acquire of one node, or the departs of all
pub data Begins : Plain → Plain → Type 0 where
  alone : (machine mid : Plain) (node : ℕ) (deed : Deed) → is_contended deed ≡ true → plain_step machine node ≡ Some (deed, mid) → Begins machine mid
  together : (machine mid : Plain) (departs : List Act) → AllWait machine
      → plain_from machine (range_with_len 0 (length machine.threads)) ≡ Some (departs, mid) → Begins machine mid

-- settled states, with all to which steps lead from them. That a state settles may be known only for what is to be shown
pub record AreClosed (Goal : Type 0) (In : Plain → Type 0) : Type 0 where
  pub fine : (machine : Plain) → In machine → Fine machine
  pub is_settled : (machine : Plain) → In machine → IsSettled machine
  pub onward : (machine after : Plain) (acts : List Act) → In machine → Leads machine acts after → In after
  pub settles : (machine mid : Plain) → In machine → Begins machine mid → (SettlesTo mid → Goal) → Goal

-- from this state one of them is reached, by acts that are no read, write or acquire
pub record IsBehind (In : Plain → Type 0) (machine : Plain) : Type 0 where
  pub there : Plain
  pub is : In there
  pub steadily : Steadily machine there

-- a node that acts on the way to a final state does not turn for ever at a state with its thread
abbrev pub NoneTurns : (In : Plain → Type 0) → (final : Plain) → Type 0
NoneTurns In final =
    (machine there : Plain) (node : ℕ) (order : List ℕ) (acts : List Act) → plain_from machine (node ∷ order) ≡ Some (acts, final) → In there
    → thread_in there node ≡ thread_in machine node → TurnsAt there node → ⊥

pub none_turns_at_rest : (In : Plain → Type 0) (final : Plain) → IsAtRest final → NoneTurns In final
none_turns_at_rest In final still machine there node order acts run is own turns =
    at_rest_none_turns final node still (turns_still (node ∷ order) machine final acts node run (subst TurnsIn own turns))

module _ (Goal : Type 0) (In : Plain → Type 0) (closed : AreClosed Goal In) where
  -- the departs of all, where one of them is made
  departing : (machine after : Plain) (node : ℕ) (deed : Deed) (q : IsBehind In machine) → StillToCome machine after q.there node deed
      → is_contended deed ≡ false → deed ≡ Depart → (IsBehind In after → Goal) → Goal
  departing machine after node deed q a steady is go =
      let s = q.there in
      let fine = closed.fine s q.is in
      let long = length s.threads in
      let count = fine.aligned.episode + 1 in
      let b = at_barrier s fine.held fine.aligned node a.there deed (stepped s node deed a.there a.step) is in
      let d = all_depart long 0 long count (omega arith) s b in
      closed.settles s d.there q.is (together s d.there d.departs (all_wait s count b) d.led) (λ t.
      elim (aside d.steadily fine.held node deed a.there a.step) [
        | inl over ↦ go (record {
          there = t.final;
          is = closed.onward s t.final (d.departs ++ t.acts) q.is
              (steps.together s d.there t.final d.departs t.acts (all_wait s count b) d.led t.settles);
          steadily = steadily_on a.steadily (steadily_on over (settles_steadily t.settles));
        })
        | inr past ↦ absurd (nobody_departs d.there past.there node long count deed d.barrier past.step is)
      ])

  -- a step that is still to come at the settled state
  by_kind : (machine after : Plain) (node : ℕ) (deed : Deed) (q : IsBehind In machine) → StillToCome machine after q.there node deed
      → (TurnsAt q.there node → thread_in q.there node ≡ thread_in machine node → ⊥) → (IsBehind In after → Goal) → (b : Bool)
      → is_contended deed ≡ b → Goal
  by_kind machine after node deed q a stops go true kind =
      closed.settles q.there a.there q.is (alone q.there a.there node deed kind a.step) (λ t.
      go (record {
        there = t.final;
        is = closed.onward q.there t.final (act_of node deed ∷ t.acts) q.is (steps.alone q.there a.there t.final node deed t.acts kind a.step t.settles);
        steadily = steadily_on a.steadily (settles_steadily t.settles);
      }))
  by_kind machine after node deed q a stops go false kind =
      let s = stepped q.there node deed a.there a.step in
      elim (free_or_depart s.took.goes kind) [
        | inl free ↦ absurd (stops ((closed.is_settled q.there q.is).each node (ap is_free_in s.there ∙ free)) a.own)
        | inr is ↦ departing machine after node deed q a kind is go
      ]

  step_on : (machine after : Plain) (node : ℕ) (deed : Deed) → Held machine → (q : IsBehind In machine) → plain_step machine node ≡ Some (deed, after)
      → (TurnsAt q.there node → thread_in q.there node ≡ thread_in machine node → ⊥) → (IsBehind In after → Goal) → Goal
  step_on machine after node deed held q step stops go = elim (aside q.steadily held node deed after step) [
    | inl over ↦ go (record { there = q.there; is = q.is; steadily = over })
    | inr a ↦ by_kind machine after node deed q a stops go (is_contended deed) refl
  ]

  pub run_on : (order : List ℕ) (machine final : Plain) (acts : List Act) → Held machine → IsBehind In machine
      → plain_from machine order ≡ Some (acts, final) → NoneTurns In final → (IsBehind In final → Goal) → Goal
  run_on [] machine final acts held q run stops go = go (subst (IsBehind In) (some_pair_parts [] acts machine final run).1 q)
  run_on (node ∷ order) machine final acts held q run stops go =
      let s = stepwise machine node order acts final run in
      step_on machine s.after node s.deed held q s.first (λ turns own. stops machine q.there node order acts run q.is own turns) (λ next.
      run_on order s.after final s.more (held_after machine held node s.deed s.after (stepped machine node s.deed s.after s.first)) next s.rest stops go)
