-- The generator leaves no choice, and gives no event where nothing is left to do.
use Rattle.std.proofs.Common.{◌≡◌, ◌∙◌, ℕ, ◌^◌, List, [], ◌∷◌, ◌++◌, Bool, false, Some, refl, sym, ap, length, map}
use Rattle.std.specs.Prelude.{filter, min}
use Rattle.std.specs.List.{range_with_len}
use Rattle.std.proofs.lemmas.Option.{same_Some}
use Rattle.lrc_program.specs.declared.Program.{Program}
use Rattle.lrc_protocol.specs.declared.event.Event.{Event}
use Rattle.lrc_protocol.specs.declared.event.Event.TheVariants as events
use Rattle.lrc_protocol.specs.Node.{OptionsRecord}
use Rattle.lrc_protocol.specs.Run.{World as Run, fresh_world, run_of}
use Rattle.lrc_world.specs.Report.{IsOver}
use Rattle.lrc_world.specs.Random.{choices_of, drawn_event, drawn_number, picked, wandering, IsWandering, WanderingWearsOut}
use Rattle.lrc_world.specs.World.{sends_long}
use Rattle.lrc_world.specs.Rounds.{ready_at}
use Rattle.lrc_world_laws.specs.Ended.{IsEnded}
use Rattle.lrc_world_laws.proofs.Determined.{IsDeterministic, Stops, determined}
use Rattle.lrc_world_laws.proofs.Worn.{never_worn}
use Rattle.lrc_world_laws.proofs.OfRounds.{idle}

deterministic : (nodes seed : ℕ) → IsDeterministic (wandering nodes seed)
deterministic nodes seed = record {
  one_due = λ run at a b x y first second.
      let same : x ≡ y = first.0 ∙ sym second.0 in
      (same_Some a b (sym first.1 ∙ ap (λ after. drawn_event nodes (drawn_number after) run) same ∙ second.1), same);
  one_pass = λ run at x y first second. absurd first;
  apart = λ run at a x y due passes. passes;
}

none_passes : (p : ℕ → Bool) → ((n : ℕ) → p n ≡ false) → (xs : List ℕ) → filter p xs ≡ []
none_passes p fails [] = refl
none_passes p fails (x ∷ xs) = rw (fails x) (none_passes p fails xs)

-- nothing may happen next where nothing is left to do
none_left : (nodes : ℕ) (run : Run) → IsOver run → choices_of nodes run ≡ []
none_left nodes run over =
    ap (λ ready. map events.Run ready ++ map events.Deliver (range_with_len 0 (min (length run.flight) (2 ^ 32))))
    (none_passes (ready_at run) (λ n. idle run n over) (range_with_len 0 nodes))
    ∙ ap (λ flight. map events.Deliver (range_with_len 0 (min (length flight) (2 ^ 32)))) over.taken

stops : (nodes seed : ℕ) (start : Run) → Stops (wandering nodes seed) start
stops nodes seed start = record {
  Holds = λ run at. Unit {0};
  first = tt;
  played = λ run next at after event h due e. tt;
  passed = λ run at after h passes. tt;
  none_due = λ run at after event h over due.
      let none : picked (drawn_number after) [] ≡ Some event =
      ap (picked (drawn_number after)) (sym (none_left nodes run over)) ∙ due.1 in
      cc;
}

pub wandering_never_worn : (program : Program) (nodes : ℕ) (options : OptionsRecord) (seed : ℕ) (events : List Event) (run : Run)
    → IsWandering program nodes options seed events → IsEnded program nodes options events → run_of program nodes options events ≡ Some run
    → sends_long run ≡ false → ¬ WanderingWearsOut program nodes options seed
wandering_never_worn program nodes options seed events run led ended runs short worn =
    never_worn (wandering nodes seed) (deterministic nodes seed) program nodes options
    (stops nodes seed (fresh_world program nodes options)) events led ended run runs short worn

pub wandering_determined : (program : Program) (nodes : ℕ) (options : OptionsRecord) (seed : ℕ) (events others : List Event)
    → IsWandering program nodes options seed events → IsEnded program nodes options events
    → IsWandering program nodes options seed others → IsEnded program nodes options others → events ≡ others
wandering_determined program nodes options seed events others =
    determined (wandering nodes seed) program nodes options (stops nodes seed (fresh_world program nodes options))
    (deterministic nodes seed) events others
