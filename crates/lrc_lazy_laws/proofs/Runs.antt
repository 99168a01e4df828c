-- A run of the protocol machine is a lazy run.
use Rattle.std.proofs.Common.{◌≡◌, ℕ, List, refl}
use Rattle.std.specs.Prelude.{Some}
use Rattle.lrc_program.specs.declared.Program.{Program}
use Rattle.lrc_orders.specs.Notes.{notes_of}
use Rattle.lrc_lazy.specs.Lazy.{IsLazyRun, IsOver, IsLazyOutcome}
use Rattle.lrc_protocol.specs.declared.event.Event.{Event}
use Rattle.lrc_protocol.specs.Node.{OptionsRecord}
use Rattle.lrc_protocol.specs.Run.{World, run_of}
use Rattle.lrc_protocol.proofs.Texts.{text}
use Rattle.lrc_order_laws.proofs.Departs.{all_departed}
use Rattle.lrc_order_laws.proofs.Joining.{is_synchronized}
use Rattle.lrc_reading_laws.proofs.Whole.{reads}

module _ (program : Program) (nodes : ℕ) (options : OptionsRecord) (events : List Event) (world : World)
    (runs : run_of program nodes options events ≡ Some world) where
  pub lazy_run : IsLazyRun program nodes world.acts
  lazy_run = record {
    follows = text program nodes options events world runs;
    synchronized = is_synchronized program nodes options events world runs (all_departed program nodes options events world runs);
    lazily = reads program nodes options world (record { events = events; runs = runs });
  }

  pub lazy_outcome : IsOver program nodes world.acts → IsLazyOutcome program nodes (notes_of nodes world.acts)
  lazy_outcome over = record { acts = world.acts; run = lazy_run; over = over; are = refl }
