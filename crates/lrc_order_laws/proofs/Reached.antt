-- Induction over runs, where each step may use all that holds of every run, of the world before it and of that after it.
use Rattle.std.proofs.Common.{◌≡◌, ℕ, List, [], ◌∷◌, ◌++◌, refl, ap, subst, ◌∙◌}
use Rattle.std.specs.Prelude.{Option, Some, None, remove, fold, slice_get}
use Rattle.std.proofs.lemmas.Grind.{fold-append}
use Rattle.lrc_program.specs.declared.Program.{Program}
use Rattle.lrc_protocol.specs.declared.event.Event.{Event}
use Rattle.lrc_protocol.specs.declared.event.Event.TheVariants.{Run, Deliver, Repeat}
use Rattle.lrc_protocol.specs.Node.{OptionsRecord}
use Rattle.lrc_protocol.specs.Run.{Input, run, taken, EntryRecord, Logged, Logging, logged, refused, too_large, logs, World, Flying}
use Rattle.lrc_protocol.specs.Run.{fresh_world, with_turn, with_mark, after_input, input_to, delivers, event_on, step_of, run_of}
use Rattle.lrc_protocol.proofs.Worlds.{IsEntry, Entries, logs-entries}
use Rattle.lrc_protocol.proofs.Induction.{Comes, named, delivered, repeated}

module _ (program : Program) (nodes : ℕ) (options : OptionsRecord) where
  -- some events lead to this world
  pub record IsReached (world : World) : Type 0 where
    pub events : List Event
    pub runs : run_of program nodes options events ≡ Some world

  -- every turn keeps what holds of a world, in every run
  abbrev pub KeptByReached : (World → Type 0) → Type 0
  KeptByReached P =
      (world : World) (flight : List Flying) (n : ℕ) (l after : Logged) (input : Input) (entry : EntryRecord)
      → slice_get world.nodes n ≡ Some l → Comes world n input flight → IsEntry l input entry after
      → IsReached world → IsReached (with_turn world flight n entry after)
      → P world → P (with_turn world flight n entry after)

  more_events : (events : List Event) (event : Event) (world : World) → run_of program nodes options events ≡ Some world
      → run_of program nodes options (events ++ event ∷ []) ≡ event_on world event
  more_events events event world e =
      fold-append step_of (Some (fresh_world program nodes options)) events (event ∷ []) ∙ ap (λ o. step_of o event) e

  module _ (P : World → Type 0) (kept : KeptByReached P) where
    pub record Both (world : World) : Type 0 where
      pub reached : IsReached world
      pub holds : P world

    BothIf : Option World → Type 0
    BothIf None = Unit {0}
    BothIf (Some world) = Both world

    by_entry : (world : World) (event : Event) (flight : List Flying) (n : ℕ) (l : Logged) (input : Input) (r : Logging)
        → event_on world event ≡ after_input world flight n r
        → slice_get world.nodes n ≡ Some l → Comes world n input flight → Entries l input r → Both world
        → BothIf (after_input world flight n r)
    unfolding BothIf
    by_entry world event flight n l input (logged entry after) is at comes i b =
        let reached : IsReached (with_turn world flight n entry after) =
        record { events = b.reached.events ++ event ∷ []; runs = more_events b.reached.events event world b.reached.runs ∙ is } in
        record { reached = reached; holds = kept world flight n l after input entry at comes i b.reached reached b.holds }
    by_entry world event flight n l input refused is at comes i b = b
    by_entry world event flight n l input too_large is at comes i b = tt

    by_input : (world : World) (event : Event) (flight : List Flying) (n : ℕ) (input : Input) (stamp : ℕ) (o : Option Logged)
        → event_on world event ≡ input_to world flight n input stamp o
        → slice_get world.nodes n ≡ o → Comes world n input flight → Both world → BothIf (input_to world flight n input stamp o)
    unfolding BothIf
    by_input world event flight n input stamp None is at comes b = b
    by_input world event flight n input stamp (Some l) is at comes b =
        by_entry world event flight n l input (logs l input stamp) is at comes (logs-entries l input stamp) b

    by_delivery : (world : World) (event : Event) (flight : List Flying) (o : Option Flying) → event_on world event ≡ delivers world flight o
        → ((flying : Flying) → o ≡ Some flying → Comes world flying.envelope.to (taken flying.envelope) flight)
        → Both world → BothIf (delivers world flight o)
    unfolding BothIf
    by_delivery world event flight None is comes b = b
    by_delivery world event flight (Some flying) is comes b =
        by_input world event flight flying.envelope.to (taken flying.envelope) flying.stamp (slice_get world.nodes flying.envelope.to) is refl
        (comes flying refl) b

    by_event : (world : World) (event : Event) → Both world → BothIf (event_on world event)
    by_event world (Run n) b = by_input world (Run n) world.flight n run 0 (slice_get world.nodes n) refl refl named b
    by_event world (Deliver place) b =
        by_delivery world (Deliver place) (remove world.flight place) (slice_get world.flight place) refl (λ flying at. delivered place at) b
    by_event world (Repeat place) b =
        by_delivery world (Repeat place) (with_mark world.flight place) (slice_get world.flight place) refl (λ flying at. repeated place at) b

    by_step : (o : Option World) (event : Event) → BothIf o → BothIf (step_of o event)
    unfolding BothIf
    by_step None event b = tt
    by_step (Some world) event b = by_event world event b

    by_events : (events : List Event) (o : Option World) → BothIf o → BothIf (fold step_of o events)
    by_events [] o b = b
    by_events (event ∷ events) o b = by_events events (step_of o event) (by_step o event b)

    -- what holds at the start and is kept by every turn of every run holds of every run
    pub by_reached : (events : List Event) (world : World) → P (fresh_world program nodes options) → run_of program nodes options events ≡ Some world → P world
    unfolding BothIf
    by_reached events world start e =
        (subst BothIf e (by_events events (Some (fresh_world program nodes options))
        (record { reached = record { events = []; runs = refl }; holds = start }))).holds
