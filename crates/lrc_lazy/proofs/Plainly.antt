-- Lazy runs without a race are those of the plain machine, and end where it does.
use Rattle.std.proofs.Common.{◌≡◌, ℕ, ◌++◌, ◌∷◌, [], ◌⊎◌, List, inl, inr, refl, ◌∙◌, ap}
use Rattle.std.specs.Prelude.{Option, Some, None, option_map}
use Rattle.std.proofs.lemmas.Option.{same_Some}
use Rattle.lrc_program.specs.declared.Program.{Program}
use Rattle.lrc_trace.specs.declared.act.Act.{Act}
use Rattle.lrc_trace.specs.declared.act.Deed.{Deed}
use Rattle.lrc_trace.specs.Run.{act_of}
use Rattle.lrc_trace.proofs.Prefixes.{MayGoOn-last}
use Rattle.lrc_exec.specs.Plain.{Plain, plain_step, plain_start, plain_from, plain}
use Rattle.lrc_exec.proofs.PlainLaws.{then_from, plain_from-append}
use Rattle.lrc_exec.specs.Follows.{nodes_of_acts}
use Rattle.lrc_consistency_laws.specs.Racing.{HasNoRace}
use Rattle.lrc_consistency_laws.proofs.InOrder.{lazily_without_race}
use Rattle.lrc_consistency_laws.proofs.Plainly.{facts, one_more, plain_from-joined}
use Rattle.lrc_consistency_laws.proofs.Racing.{race_free}
use Rattle.lrc_consistency_laws.proofs.UpToRace.{without_race}
use Rattle.lrc_orders.specs.Stuck.{IsAtRest}
use Rattle.lrc_lazy.specs.Lazy.{IsLazyRun, IsOver}
use Rattle.lrc_lazy.proofs.Onward.{goes_on}

-- a run is over exactly where it does not go on lazily
pub over_stops : (program : Program) (nodes : ℕ) (acts : List Act) → IsOver program nodes acts → (act : Act) → ¬ IsLazyRun program nodes (acts ++ act ∷ [])
over_stops program nodes acts over act run = over act (record { follows = run.follows; may = MayGoOn-last acts act nodes run.synchronized })

pub stops_over : (program : Program) (nodes : ℕ) (acts : List Act) → IsLazyRun program nodes acts
    → ((act : Act) → ¬ IsLazyRun program nodes (acts ++ act ∷ [])) → IsOver program nodes acts
stops_over program nodes acts run none act next =
    let on = goes_on program nodes acts act.node act.deed run next in none (act_of act.node on.other) on.run

-- an option has a value or none
some_or_none : {A : Type 0} → (o : Option A) → (o ≡ None) ⊎ ((x : A) × (o ≡ Some x))
some_or_none None = inl refl
some_or_none (Some x) = inr (x, refl)

-- the machine after the acts that it makes
pub machine_of : {A B : Type 0} → (o : Option (A × B)) (a : A) → option_map (λ (r : A × B). r.0) o ≡ Some a → (b : B) × (o ≡ Some (a, b))
machine_of None a e = cc
machine_of (Some (a', b)) a e = (b, ap (λ x. Some (x, b)) (same_Some a' a e))

module _ (program : Program) (nodes : ℕ) (machine : Plain) (order : List ℕ) (acts : List Act)
    (led : plain_from (plain_start program nodes) order ≡ Some (acts, machine)) where
  -- one step more
  step_more : (node : ℕ) (deed : Deed) (after : Plain) → plain_step machine node ≡ Some (deed, after)
      → plain program nodes (order ++ node ∷ []) ≡ Some (acts ++ act_of node deed ∷ [])
  step_more node deed after first =
      ap (option_map (λ (r : List Act × Plain). r.0))
      (plain_from-joined order (node ∷ []) (plain_start program nodes) machine after acts (act_of node deed ∷ []) led
      (one_more machine after after node deed [] [] first refl))

  -- where a node cannot step, no order goes on with it
  pub no_more : (node : ℕ) → plain_step machine node ≡ None → plain program nodes (order ++ node ∷ []) ≡ None
  no_more node none =
      ap (option_map (λ (r : List Act × Plain). r.0))
      (plain_from-append (plain_start program nodes) order (node ∷ []) ∙ ap (λ run. then_from run (node ∷ [])) led ∙ stands)
    where
      stands : then_from (Some (acts, machine)) (node ∷ []) ≡ None
      stands = rw none

  -- where no node can act after the run, none can step
  pub rests : IsOver program nodes acts → IsAtRest machine
  rests over node = elim (some_or_none (plain_step machine node)) [
    | inl none ↦ none
    | inr (step, is) ↦
        let more = step_more node step.0 step.1 is in
        let f = facts program nodes (order ++ node ∷ []) (acts ++ act_of node step.0 ∷ []) more in
        absurd (over (act_of node step.0) (record {
          follows = f.follows;
          may = MayGoOn-last acts (act_of node step.0) nodes f.synchronized;
        }))
  ]

module _ (program : Program) (nodes : ℕ) (none : HasNoRace program nodes) where
  pub to_plain : (acts : List Act) → IsLazyRun program nodes acts → plain program nodes (nodes_of_acts acts) ≡ Some acts
  to_plain acts run =
      without_race program nodes acts run.follows run.synchronized run.lazily
      (race_free program nodes acts run.follows run.synchronized run.lazily none)

  pub from_plain : (order : List ℕ) (acts : List Act) → plain program nodes order ≡ Some acts → IsLazyRun program nodes acts
  from_plain order acts made =
      let f = facts program nodes order acts made in
      record { follows = f.follows; synchronized = f.synchronized; lazily = lazily_without_race acts (none order acts made) f.in_order }
