-- States that have the settled start, and all that a step leads to from one of them, have every settled state.
use Rattle.std.proofs.Common.{ℕ, List}
use Rattle.std.specs.Prelude.{Contains}
use Rattle.lrc_program.specs.declared.Program.{Program}
use Rattle.lrc_trace.specs.declared.act.Act.{Act}
use Rattle.lrc_exec.specs.Plain.{Plain}
use Rattle.lrc_consistency_laws.specs.Racing.{HasNoRace}
use Rattle.lrc_orders.proofs.Meetings.{no_race}
use Rattle.lrc_orders_laws.specs.Steps.{IsSettledState, beginning, onward, IsSettledCertificate}
use Rattle.lrc_orders_laws.proofs.Settled.{never_settled}

pub has_all : {program : Program} {nodes : ℕ} {states : List Plain} {acts : List Act} {machine : Plain} → IsSettledCertificate program nodes states
    → IsSettledState program nodes acts machine → Contains states machine
has_all c (beginning acts machine settles) = c.start acts machine settles
has_all c (onward acts more before after state leads) = c.closed before after more (has_all c state) leads

pub certified : (program : Program) (nodes : ℕ) (states : List Plain) → IsSettledCertificate program nodes states → HasNoRace program nodes
certified program nodes states c =
    no_race program nodes (never_settled program nodes (λ acts machine state. c.calm machine (has_all c state)))
