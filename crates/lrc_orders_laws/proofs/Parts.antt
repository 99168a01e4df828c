-- A step of the plain machine, taken apart and put together.
use Rattle.std.proofs.Common.{◌≡◌, ℕ, ◌<◌, Bool, true, false, Option, Some, None, length, refl, ap, ◌∙◌, subst}
use Rattle.std.specs.Prelude.{if◌then◌else◌, option_and_then, slice_index, slice_set}
use Rattle.std.proofs.lemmas.Option.{some_pair_parts, option_and_then_some}
use Rattle.lrc_trace.specs.declared.act.Deed.{Deed}
use Rattle.lrc_exec.specs.Meaning.{Thread, Next, quiet, prints, reads, writes, acquires, releases, arrives, departs, traps, ends, next_of}
use Rattle.lrc_exec.specs.Plain.{Plain, nobody_holds, all_arrived, deed_done, thread_in, plain_step}
use Rattle.lrc_exec.proofs.PlainParts.{thread_within}
use Rattle.lrc_exec.specs.Follows.{Goes, quietly, printing, reading, writing, acquiring, releasing, arriving, departing, trapping, ending}
use Rattle.lrc_consistency_laws.proofs.Runs.{CanDo, thread_after, other_after}
use Rattle.lrc_orders.proofs.Effects.{after_of, goes_on}

-- what was done: what the thread does next, what the machine allows, and what becomes of it
pub record Took (machine : Plain) (node : ℕ) (next : Next) (deed : Deed) (after : Plain) : Type 0 where
  pub goes_on_as : Option Thread
  pub goes : Goes next deed goes_on_as
  pub can : CanDo machine node deed
  pub is : after ≡ after_of machine node deed goes_on_as

module _ (machine : Plain) (node : ℕ) where
  as_made : (n : Next) (d₀ d : Deed) (m₀ m : Plain) → ◌≡◌ {A = Option (Deed × Plain)} (Some (d₀, m₀)) (Some (d, m)) → Took machine node n d₀ m₀
      → Took machine node n d m
  as_made n d₀ d m₀ m e u =
      let parts = some_pair_parts d₀ d m₀ m e in
      subst (λ x. Took machine node n x m) parts.0 (subst (λ x. Took machine node n d₀ x) parts.1 u)

  as_made_if : (b : Bool) (n : Next) (d₀ d : Deed) (m₀ m : Plain) → ◌≡◌ {A = Option (Deed × Plain)} (if b then Some (d₀, m₀) else None) (Some (d, m))
      → (b ≡ true → Took machine node n d₀ m₀) → Took machine node n d m
  as_made_if true n d₀ d m₀ m e u = as_made n d₀ d m₀ m e (u refl)
  as_made_if false n d₀ d m₀ m e u = cc

  pub took : (n : Next) (d : Deed) (m : Plain) → deed_done machine node n ≡ Some (d, m) → Took machine node n d m
  took (quiet t) d m e = as_made (quiet t) _ d _ m e (record { goes_on_as = Some t; goes = quietly; can = tt; is = refl })
  took (prints v t) d m e = as_made (prints v t) _ d _ m e (record { goes_on_as = Some t; goes = printing; can = tt; is = refl })
  took (reads w t) d m e =
      as_made (reads w t) _ d _ m e (record { goes_on_as = Some (t (slice_index machine.memory w)); goes = reading; can = refl; is = refl })
  took (writes w v t) d m e = as_made (writes w v t) _ d _ m e (record { goes_on_as = Some t; goes = writing; can = tt; is = refl })
  took (acquires l t) d m e =
      as_made_if (nobody_holds machine l) (acquires l t) _ d _ m e (λ b. record { goes_on_as = Some t; goes = acquiring; can = b; is = refl })
  took (releases l t) d m e = as_made (releases l t) _ d _ m e (record { goes_on_as = Some t; goes = releasing; can = tt; is = refl })
  took (arrives t) d m e = as_made (arrives t) _ d _ m e (record { goes_on_as = Some t; goes = arriving; can = tt; is = refl })
  took (departs t) d m e =
      as_made_if (all_arrived machine node) (departs t) _ d _ m e (λ b. record { goes_on_as = Some t; goes = departing; can = b; is = refl })
  took (traps c) d m e = as_made (traps c) _ d _ m e (record { goes_on_as = None; goes = trapping; can = tt; is = refl })
  took ends d m e = as_made ends _ d _ m e (record { goes_on_as = None; goes = ending; can = tt; is = refl })

-- the step of a node: its thread, and what was done
pub record Stepped (machine : Plain) (node : ℕ) (deed : Deed) (after : Plain) : Type 0 where
  pub thread : Thread
  pub there : thread_in machine node ≡ Some thread
  pub took : Took machine node (next_of thread) deed after
  pub within : node < length machine.threads
  pub own : thread_in after node ≡ took.goes_on_as
  pub others : (other : ℕ) → (other ≡ node → ⊥) → thread_in after other ≡ thread_in machine other

pub stepped : (machine : Plain) (node : ℕ) (deed : Deed) (after : Plain) → plain_step machine node ≡ Some (deed, after) → Stepped machine node deed after
stepped machine node deed after e =
    option_and_then_some (λ t. deed_done machine node (next_of t)) (thread_in machine node) (deed, after) e (λ t at is.
    let u = took machine node (next_of t) deed after is in
    let within = thread_within machine node t at in
    let threads : after.threads ≡ slice_set machine.threads node u.goes_on_as = ap (λ (m : Plain). m.threads) u.is in
    record {
      thread = t;
      there = at;
      took = u;
      within = within;
      own = thread_after machine after node u.goes_on_as threads within;
      others = λ other apart. other_after machine after node other u.goes_on_as threads apart;
    })

-- what the thread does next and the machine allows is a step
pub can_step : (machine : Plain) (node : ℕ) (thread : Thread) {next : Next} (deed : Deed) {after : Option Thread} → thread_in machine node ≡ Some thread
    → next_of thread ≡ next → Goes next deed after → CanDo machine node deed → plain_step machine node ≡ Some (deed, after_of machine node deed after)
can_step machine node thread deed there is goes can =
    ap (option_and_then (λ t. deed_done machine node (next_of t))) there ∙ ap (deed_done machine node) is ∙ goes_on machine node goes can
