-- What is so of one run in the random order of a seed is so of each.
use Rattle.std.proofs.Common.{◌≡◌, ℕ, List, sym, subst, ◌∙◌, ap}
use Rattle.std.specs.Prelude.{Option, Some, None}
use Rattle.std.proofs.lemmas.Option.{same_Some}
use Rattle.lrc_program.specs.declared.Program.{Program}
use Rattle.lrc_trace.specs.declared.act.Act.{Act}
use Rattle.lrc_orders.specs.Notes.{notes_of}
use Rattle.lrc_lazy.specs.Lazy.{IsLazyRun, IsOver}
use Rattle.lrc_lazy_laws.proofs.Runs.{lazy_run}
use Rattle.lrc_protocol.specs.Node.{OptionsRecord}
use Rattle.lrc_world.specs.declared.keep.Keep.{Keep}
use Rattle.lrc_world.specs.declared.run.Order.TheVariants.{Random}
use Rattle.lrc_world.specs.declared.run.Run.{Run}
use Rattle.lrc_world.specs.Random.{WanderingWearsOut}
use Rattle.lrc_world.specs.Runs.{IsRunIn}
use Rattle.lrc_world_laws.specs.Ended.{IsEnded}
use Rattle.lrc_world_laws.proofs.OfWandering.{wandering_determined, wandering_never_worn}
use Rattle.lrc_world_laws.proofs.Reports.{says_the_same}
use Rattle.lrc_exact_seeds.specs.Seeds.{AreNotesIfOver, IsAllOfSeed, IsOutcomeOfSeed}

no_notes : (notes : List Act) → ◌≡◌ {A = Option (List Act)} None (Some notes) → ⊥
no_notes notes same = cc

module _ (program : Program) (nodes : ℕ) (options : OptionsRecord) (seed : ℕ) where
  abbrev IsRunOfSeed : Keep → Run → Type 0
  IsRunOfSeed keep run = IsRunIn (Random seed) program nodes options keep run

  ended : (keep : Keep) (run : Run) → IsRunOfSeed keep run → IsEnded program nodes options run.events.items
  ended keep run made = record { few = made.events.few; over = made.events.over }

  pub is_lazy : (keep : Keep) (run : Run) → IsRunOfSeed keep run → IsLazyRun program nodes run.report.acts.items
  is_lazy keep run made =
      subst (IsLazyRun program nodes) (sym made.report.acts)
      (lazy_run program nodes options run.events.items made.made made.makes)

  -- two runs have the same acts
  same_acts : (keep other : Keep) (run again : Run) → IsRunOfSeed keep run → IsRunOfSeed other again → again.report.acts.items ≡ run.report.acts.items
  same_acts keep other run again made made_again =
      let events = wandering_determined program nodes options seed again.events.items run.events.items made_again.events.led (ended other again made_again)
      made.events.led (ended keep run made) in
      (says_the_same program nodes options (Random seed) (Random seed) keep other run again made made_again events).acts

  run_notes : (keep : Keep) (run : Run) (other : List Act) → IsRunOfSeed keep run → IsOutcomeOfSeed program nodes options seed other
      → notes_of nodes run.report.acts.items ≡ other
  run_notes keep run other made o = ap (λ acts. notes_of nodes acts) (sym (same_acts keep o.keep run o.run made o.made)) ∙ o.are

  run_over : (keep : Keep) (run : Run) (other : List Act) → IsRunOfSeed keep run → IsOutcomeOfSeed program nodes options seed other
      → IsOver program nodes run.report.acts.items
  run_over keep run other made o = subst (λ acts. IsOver program nodes acts) (same_acts keep o.keep run o.run made o.made) o.over

  run_has : (keep : Keep) (run : Run) (notes : List Act) → IsRunOfSeed keep run → IsOver program nodes run.report.acts.items
      → notes_of nodes run.report.acts.items ≡ notes → IsOutcomeOfSeed program nodes options seed notes
  run_has keep run notes made over are = record { run = run; keep = keep; made = made; over = over; are = are }

  pub all_of_run : (keep : Keep) (run : Run) → IsRunOfSeed keep run → (found : Option (List Act)) → AreNotesIfOver program nodes run.report.acts.items found
      → IsAllOfSeed program nodes options seed found
  all_of_run keep run made (Some notes) ends other = (
    λ o. ap Some (ends.1 ∙ run_notes keep run other made o),
    λ same. run_has keep run other made ends.0 (sym ends.1 ∙ same_Some notes other same),
  )
  all_of_run keep run made None never other = (
    λ o. absurd (never (run_over keep run other made o)),
    λ same. absurd (no_notes other same),
  )

  -- where the run answers a fault there is none
  pub none_of_worn : WanderingWearsOut program nodes options seed → IsAllOfSeed program nodes options seed None
  none_of_worn worn other = (
    λ o.
        let never = wandering_never_worn program nodes options seed o.run.events.items o.made.made o.made.events.led (ended o.keep o.run o.made)
        o.made.makes (o.made.kept.short o.made.made o.made.makes) in
        absurd (never worn),
    λ same. absurd (no_notes other same),
  )
