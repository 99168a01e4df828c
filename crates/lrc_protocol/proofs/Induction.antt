-- Induction over runs: what holds at the start, and is kept by every turn, holds of every run.
use Rattle.std.proofs.Common.{◌≡◌, ℕ, List, [], ◌∷◌, refl, subst}
use Rattle.std.specs.Prelude.{Option, Some, None, remove, fold, slice_get}
use Rattle.lrc_program.specs.declared.Program.{Program}
use Rattle.lrc_protocol.specs.declared.event.Event.{Event}
use Rattle.lrc_protocol.specs.declared.event.Event.TheVariants.{Run, Deliver, Repeat}
use Rattle.lrc_protocol.specs.Node.{OptionsRecord}
use Rattle.lrc_protocol.specs.Run.{Input, run, taken, EntryRecord, Logged, Logging, logged, refused, too_large, logs, World, Flying}
use Rattle.lrc_protocol.specs.Run.{fresh_world, with_turn, with_mark, after_input, input_to, delivers, event_on, step_of, run_of}
use Rattle.lrc_protocol.proofs.Worlds.{IsEntry, Entries, logs-entries}

-- an input that may come to a node, with the messages that are in flight once it has come
pub data Comes (world : World) : ℕ → Input → List Flying → Type 0 where
  named : {n : ℕ} → Comes world n run world.flight
  delivered : (place : ℕ) {flying : Flying} → slice_get world.flight place ≡ Some flying
      → Comes world flying.envelope.to (taken flying.envelope) (remove world.flight place)
  repeated : (place : ℕ) {flying : Flying} → slice_get world.flight place ≡ Some flying
      → Comes world flying.envelope.to (taken flying.envelope) (with_mark world.flight place)

-- every turn keeps what holds of a world
abbrev pub KeptByTurns : (World → Type 0) → Type 0
KeptByTurns P =
    (world : World) (flight : List Flying) (n : ℕ) (l after : Logged) (input : Input) (entry : EntryRecord)
    → slice_get world.nodes n ≡ Some l → Comes world n input flight → IsEntry l input entry after
    → P world → P (with_turn world flight n entry after)

module _ (P : World → Type 0) (kept : KeptByTurns P) where
  HoldsIf : Option World → Type 0
  HoldsIf None = Unit {0}
  HoldsIf (Some world) = P world

  by_entry : (world : World) (flight : List Flying) (n : ℕ) (l : Logged) (input : Input) (r : Logging)
      → slice_get world.nodes n ≡ Some l → Comes world n input flight → Entries l input r → P world
      → HoldsIf (after_input world flight n r)
  unfolding HoldsIf
  by_entry world flight n l input (logged entry after) at comes i p = kept world flight n l after input entry at comes i p
  by_entry world flight n l input refused at comes i p = p
  by_entry world flight n l input too_large at comes i p = tt

  by_input : (world : World) (flight : List Flying) (n : ℕ) (input : Input) (stamp : ℕ) (o : Option Logged)
      → slice_get world.nodes n ≡ o → Comes world n input flight → P world → HoldsIf (input_to world flight n input stamp o)
  unfolding HoldsIf
  by_input world flight n input stamp None at comes p = p
  by_input world flight n input stamp (Some l) at comes p =
      by_entry world flight n l input (logs l input stamp) at comes (logs-entries l input stamp) p

  by_delivery : (world : World) (flight : List Flying) (o : Option Flying)
      → ((flying : Flying) → o ≡ Some flying → Comes world flying.envelope.to (taken flying.envelope) flight)
      → P world → HoldsIf (delivers world flight o)
  unfolding HoldsIf
  by_delivery world flight None comes p = p
  by_delivery world flight (Some flying) comes p =
      by_input world flight flying.envelope.to (taken flying.envelope) flying.stamp (slice_get world.nodes flying.envelope.to) refl (comes flying refl) p

  by_event : (world : World) (event : Event) → P world → HoldsIf (event_on world event)
  by_event world (Run n) p = by_input world world.flight n run 0 (slice_get world.nodes n) refl named p
  by_event world (Deliver place) p = by_delivery world (remove world.flight place) (slice_get world.flight place) (λ flying at. delivered place at) p
  by_event world (Repeat place) p = by_delivery world (with_mark world.flight place) (slice_get world.flight place) (λ flying at. repeated place at) p

  by_step : (o : Option World) (event : Event) → HoldsIf o → HoldsIf (step_of o event)
  unfolding HoldsIf
  by_step None event p = tt
  by_step (Some world) event p = by_event world event p

  by_events : (events : List Event) (o : Option World) → HoldsIf o → HoldsIf (fold step_of o events)
  by_events [] o p = p
  by_events (event ∷ events) o p = by_events events (step_of o event) (by_step o event p)

  -- what holds at the start and is kept by every turn holds of every run
  pub by_turns : (program : Program) (nodes : ℕ) (options : OptionsRecord) (events : List Event) (world : World)
      → P (fresh_world program nodes options) → run_of program nodes options events ≡ Some world → P world
  unfolding HoldsIf
  by_turns program nodes options events world start e =
      subst HoldsIf e (by_events events (Some (fresh_world program nodes options)) start)
