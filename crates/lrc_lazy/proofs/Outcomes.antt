-- Without a race the lazy outcomes are those of the orders.
use Rattle.std.proofs.Common.{ℕ, List, ap}
use Rattle.std.specs.Prelude.{option_map}
use Rattle.lrc_program.specs.declared.Program.{Program}
use Rattle.lrc_trace.specs.declared.act.Act.{Act}
use Rattle.lrc_exec.specs.Plain.{Plain, plain_start, plain_from}
use Rattle.lrc_exec.specs.Follows.{nodes_of_acts}
use Rattle.lrc_consistency_laws.specs.Racing.{HasNoRace}
use Rattle.lrc_orders.specs.Outcome.{IsOutcome}
use Rattle.lrc_lazy.specs.Lazy.{IsLazyOutcome}
use Rattle.lrc_lazy.proofs.Plainly.{machine_of, to_plain, from_plain}
use Rattle.lrc_lazy.proofs.Resting.{over_to_rest, rest_to_over}

module _ (program : Program) (nodes : ℕ) (none : HasNoRace program nodes) (notes : List Act) where
  pub to_outcome : IsLazyOutcome program nodes notes → IsOutcome program nodes notes
  to_outcome o =
      let (machine, led) = machine_of (plain_from (plain_start program nodes) (nodes_of_acts o.acts)) o.acts (to_plain program nodes none o.acts o.run) in
      record {
        order = nodes_of_acts o.acts;
        acts = o.acts;
        machine = machine;
        led = led;
        still = over_to_rest program nodes (nodes_of_acts o.acts) o.acts machine led o.over;
        are = o.are;
      }

  pub from_outcome : IsOutcome program nodes notes → IsLazyOutcome program nodes notes
  from_outcome o = record {
    acts = o.acts;
    run = from_plain program nodes none o.order o.acts (ap (option_map (λ (r : List Act × Plain). r.0)) o.led);
    over = rest_to_over program nodes o.order o.acts o.machine o.led o.still;
    are = o.are;
  }
