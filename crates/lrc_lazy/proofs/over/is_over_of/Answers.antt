use Rattle.std.proofs.Common.{subst, sym}
use Rattle.lrc_program.specs.declared.Program.{Program}
use Rattle.lrc_lazy.specs.Following.{IsFlatOf}
use Rattle.lrc_lazy.proofs.Flats.{flat_begun}
use Rattle.lrc_lazy.proofs.over.is_over_of.Goals as goal

pub is_over_in-requires-clause-flat : goal.is_over_in-requires-clause-flat
is_over_in-requires-clause-flat c =
    let flat = c.of-start.result.0 in
    subst (λ (p : Program). IsFlatOf p flat.nodes flat c.of-start.result.1) (sym c.program.ensures)
    (flat_begun c.args.code.now c.args.nodes flat c.of-start.result.1 c.of-start.ensures.flat c.of-start.ensures.program)
