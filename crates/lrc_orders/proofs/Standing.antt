-- States at which no node can make an act, and states at which all nodes have stopped.
use Rattle.std.proofs.Common.{◌≡◌, ℕ, ◌+◌, ◌<◌, Bool, true, false, inl, inr, length, get_or, refl, sym, subst, ◌∙◌, ap, arith}
use Rattle.std.specs.Prelude.{Option, Some, None, IsSome, is_some, option_map, if◌then◌else◌}
use Rattle.std.proofs.lemmas.Bool.{cases_eq, cases_lt}
use Rattle.std.proofs.lemmas.List.{length-map, get_or_past}
use Rattle.std.proofs.lemmas.Option.{option_and_then_some}
use Rattle.lrc_trace.specs.declared.act.Deed.{Deed}
use Rattle.lrc_exec.specs.declared.spot.Flat.{Flat}
use Rattle.lrc_exec.specs.declared.spot.Spot.{Spot}
use Rattle.lrc_exec.specs.Meaning.{Thread, next_of}
use Rattle.lrc_exec.specs.Plain.{Plain, deed_done, thread_in, plain_step}
use Rattle.lrc_exec.specs.Spots.{thread_at, spot_thread}
use Rattle.lrc_exec.proofs.PlainParts.{thread_within}
use Rattle.lrc_exec.specs.declared.state.State.{State}
use Rattle.lrc_exec.specs.States.{plain_at}
use Rattle.lrc_orders.specs.Stuck.{IsAtRest, IsUnfinished}
use Rattle.lrc_exec.proofs.Spots.{thread_there}

-- no node below the bound can make an act
abbrev pub StillBelow : Plain → ℕ → Type 0
StillBelow machine bound = (node : ℕ) → node < bound → plain_step machine node ≡ None

-- every node below the bound has stopped
abbrev pub StoppedBelow : Plain → ℕ → Type 0
StoppedBelow machine bound = (node : ℕ) → node < bound → thread_in machine node ≡ None

-- a node that makes an act is one of the nodes
pub step_within : (machine : Plain) (node : ℕ) (x : Deed × Plain) → plain_step machine node ≡ Some x → node < length machine.threads
step_within machine node x e =
    option_and_then_some (λ t. deed_done machine node (next_of t)) (thread_in machine node) x e (λ t at is. thread_within machine node t at)

unmapped : {A B : Type 0} (f : A → B) (o : Option A) → option_map f o ≡ None → o ≡ None
unmapped f None e = refl
unmapped f (Some x) e = cc

none_or : (o : Option (Deed × Plain)) → ((x : Deed × Plain) → o ≡ Some x → ⊥) → o ≡ None
none_or None never = refl
none_or (Some x) never = absurd (never x refl)

-- one node more that can make none
pub still_more : (machine : Plain) (bound : ℕ) → StillBelow machine bound → option_map (λ step. step.0) (plain_step machine bound) ≡ None
    → StillBelow machine (bound + 1)
still_more machine bound still none node lt = elim (cases_eq node bound) [
  | inl same ↦ ap (plain_step machine) same ∙ unmapped (λ step. step.0) (plain_step machine bound) none
  | inr before ↦ still node (omega arith)
]

pub all_still : (flat : Flat) (state : State) (bound : ℕ) → length state.spots.items ≡ bound → StillBelow (plain_at flat state) bound
    → IsAtRest (plain_at flat state)
all_still flat state bound long still node =
    let machine = plain_at flat state in
    none_or (plain_step machine node) (λ x e.
    let within = step_within machine node x e in
    let none = still node (omega (arith, length-map state.spots.items (spot_thread flat))) in
    let no : None ≡ Some x = sym none ∙ e in cc)

runs_there : (flat : Flat) (s : Spot) (stopped : Bool) → s.stopped ≡ stopped → stopped ≡ false → IsSome (spot_thread flat s)
runs_there flat s false e is = ap (λ b. is_some (if b then None else Some (record (thread_at flat s) { arrived = s.arrived }))) e
runs_there flat s true e is = cc

pub unfinished : (flat : Flat) (state : State) (node : ℕ) (d : Spot) → node < length state.spots.items
    → (get_or state.spots.items node d).stopped ≡ false → IsUnfinished (plain_at flat state)
unfinished flat state node d within is = (
  node,
  subst IsSome (sym (thread_there flat state node d within))
      (runs_there flat (get_or state.spots.items node d) (get_or state.spots.items node d).stopped refl is),
)

some_thread : (o : Option Thread) → IsSome o → o ≡ None → ⊥
some_thread None some e = cc
some_thread (Some t) some e = cc

pub all_stopped : (flat : Flat) (state : State) (bound : ℕ) → length state.spots.items ≡ bound → StoppedBelow (plain_at flat state) bound
    → IsUnfinished (plain_at flat state) → ⊥
all_stopped flat state bound long stopped unfinished =
    let machine = plain_at flat state in
    let node = unfinished.0 in
    elim (cases_lt node bound) [
      | inl lt ↦ some_thread (thread_in machine node) unfinished.1 (stopped node lt)
      | inr le ↦
          some_thread (thread_in machine node) unfinished.1
          (get_or_past machine.threads node None (omega (arith, length-map state.spots.items (spot_thread flat))))
    ]
