-- The flat code of a program begins where the plain machine does.
use Rattle.std.proofs.Common.{ℕ, refl}
use Rattle.lrc_program.specs.declared.Program.{Program}
use Rattle.lrc_exec.specs.declared.spot.Flat.{Flat}
use Rattle.lrc_exec.specs.Spots as spots
use Rattle.lrc_exec.proofs.Beginning.{begun_is}
use Rattle.lrc_lazy.specs.Following.{IsFlatOf}

pub flat_begun : (program : Program) (nodes : ℕ) (flat : Flat) (start : ℕ) → spots.IsFlat flat → spots.IsFlatOf program nodes flat start
    → IsFlatOf program flat.nodes flat start
flat_begun program nodes flat start sound of = record {
  sound = sound;
  placed = of.code.within;
  words = of.words;
  locks = of.locks;
  count = refl;
  begun = begun_is program flat start of.words of.locks of.code.leads;
}
