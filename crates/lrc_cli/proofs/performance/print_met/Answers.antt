use Rattle.std.proofs.Common.{◌⊎◌, List, ℕ, Option, Some, None, inl, inr, refl}
use Rattle.std.specs.Io.KnownBytes.{Keeps}
use Rattle.lrc_cli.proofs.performance.print_met.Goals as goal

same : (held : Option (List ℕ)) → Keeps held held
same None = tt
same (Some bytes) = refl

pub returns-in-Ok : goal.returns-in-Ok
returns-in-Ok g c = inl (c.in-Ok.ensures.ok, c.complain.ensures)

pub returns-in-Err : goal.returns-in-Err
returns-in-Err g c = inr (c.in-Err.ensures.err, same (g.E.Write.contents c.args.err.now), refl)
