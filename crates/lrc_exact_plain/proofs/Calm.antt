-- Without a race, to read exactly and to read lazily are one.
use Rattle.std.proofs.Common.{◌≡◌, ℕ, List, sym, ◌∙◌}
use Rattle.std.specs.Prelude.{Some}
use Rattle.lrc_program.specs.declared.Program.{Program}
use Rattle.lrc_trace.specs.declared.act.Act.{Act}
use Rattle.lrc_trace.specs.Conflict.{IsRaceFree}
use Rattle.lrc_exec.specs.Plain.{plain}
use Rattle.lrc_exec.specs.Follows.{nodes_of_acts}
use Rattle.lrc_consistency_laws.specs.Racing.{HasNoRace}
use Rattle.lrc_consistency_laws.proofs.UpToRace.{in_range}
use Rattle.lrc_consistency_laws.proofs.Waiting.{waits_at_barriers}
use Rattle.lrc_orders.specs.Outcome.{IsOutcome}
use Rattle.lrc_lazy.specs.Lazy.{IsLazyOutcome, IsLazyRun}
use Rattle.lrc_lazy.proofs.Outcomes.{from_outcome, to_outcome}
use Rattle.lrc_lazy.proofs.Plainly.{from_plain, to_plain}
use Rattle.lrc_exact.specs.Rule.{Shape, exact_rule, exact_value}
use Rattle.lrc_exact.proofs.LocalRules.{states_exist}
use Rattle.lrc_exact_laws.specs.Laws.{IsExactRun}
use Rattle.lrc_exact_reading.proofs.Calm.{last_is_read}
use Rattle.lrc_exact_reading.proofs.Giving.{given, reads_lazily}
use Rattle.lrc_exact_outcomes.specs.Outcome.{IsExactOutcome}

module _ (program : Program) (shape : Shape) where
  -- acts that read exactly read lazily
  pub lazy_run : (acts : List Act) → IsExactRun program shape acts → IsLazyRun program shape.nodes acts
  lazy_run acts run = record {
    follows = run.follows;
    synchronized = run.synchronized;
    lazily = reads_lazily shape acts run.synchronized (waits_at_barriers program shape.nodes acts run.follows) run.exact;
  }

  module _ (none : HasNoRace program shape.nodes) where
    -- a lazy run has no race, so each read gives the value of the last write before, as the exact memory does
    pub exact_run : (acts : List Act) → IsLazyRun program shape.nodes acts → IsExactRun program shape acts
    exact_run acts run =
        let calm : IsRaceFree acts = none (nodes_of_acts acts) acts (to_plain program shape.nodes none acts run) in
        let found = states_exist (exact_rule shape) shape.nodes acts (λ j node deed does. in_range run.follows j node deed does) in
        record {
          follows = run.follows;
          synchronized = run.synchronized;
          exact = record {
            states = found.0;
            keeps = found.1;
            reads = λ j node word value does.
                last_is_read acts calm j node word value value does (run.lazily j word value (node, does))
                ∙ sym (last_is_read acts calm j node word value (exact_value shape acts found.0 node j word) does
                (given shape acts found.0 found.1 run.synchronized (waits_at_barriers program shape.nodes acts run.follows) j node word value does).may);
          };
        }

    pub exact_to_plain : (acts : List Act) → IsExactRun program shape acts → plain program shape.nodes (nodes_of_acts acts) ≡ Some acts
    exact_to_plain acts run = to_plain program shape.nodes none acts (lazy_run acts run)

    pub exact_from_plain : (order : List ℕ) (acts : List Act) → plain program shape.nodes order ≡ Some acts → IsExactRun program shape acts
    exact_from_plain order acts made = exact_run acts (from_plain program shape.nodes none order acts made)

    pub exact_to_outcome : (notes : List Act) → IsExactOutcome program shape notes → IsOutcome program shape.nodes notes
    exact_to_outcome notes o =
        to_outcome program shape.nodes none notes (record { acts = o.acts; run = lazy_run o.acts o.run; over = o.over; are = o.are })

    pub exact_from_outcome : (notes : List Act) → IsOutcome program shape.nodes notes → IsExactOutcome program shape notes
    exact_from_outcome notes o =
        let l = from_outcome program shape.nodes none notes o in
        record { acts = l.acts; run = exact_run l.acts l.run; over = l.over; are = l.are }
