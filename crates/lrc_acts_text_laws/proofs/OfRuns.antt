-- Every run meets the premises of the law on the order in the form of RAPID.
use Rattle.std.proofs.Common.{◌≡◌, ℕ, List}
use Rattle.std.specs.Prelude.{Some, ◌≢◌, ◌↔◌}
use Rattle.lrc_program.specs.declared.Program.{Program}
use Rattle.lrc_trace.specs.Conflict.{Accesses}
use Rattle.lrc_trace.specs.Order.{HappensBefore}
use Rattle.lrc_protocol.specs.declared.event.Event.{Event}
use Rattle.lrc_protocol.specs.Node.{OptionsRecord}
use Rattle.lrc_protocol.specs.Run.{World, run_of}
use Rattle.lrc_protocol.proofs.Texts.{text}
use Rattle.lrc_order_laws.proofs.Timed.{synchronized, waits}
use Rattle.lrc_acts_text.specs.Rapid.{rapid_of}
use Rattle.lrc_acts_text.specs.RapidOrder.{IsOf, Orders}
use Rattle.lrc_acts_text.proofs.RapidOrders.{both_ways}
use Rattle.lrc_acts_text_laws.proofs.OfText.{is_of}

module _ (program : Program) (nodes : ℕ) (options : OptionsRecord) (events : List Event) (world : World)
    (e : run_of program nodes options events ≡ Some world) where
  pub run_is_of : IsOf program.locks nodes world.acts
  run_is_of = is_of program nodes world.acts (text program nodes options events world e)

  pub order_is : (i j p q v w : ℕ) → Accesses world.acts i p v → Accesses world.acts j q w → i ≢ j
      → HappensBefore world.acts i j ↔ Orders (rapid_of program.locks nodes world.acts) i j
  order_is = both_ways program.locks nodes world.acts run_is_of (synchronized program nodes options events world e)
      (waits program nodes options events world e)
