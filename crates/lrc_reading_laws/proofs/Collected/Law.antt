-- The law of base copies, and that who is asked for one has it.
use Rattle.std.proofs.Common.{◌≡◌, ℕ, true}
use Rattle.std.specs.Prelude.{Some, is_some, slice_get}
use Rattle.lrc_program.specs.declared.Program.{Program}
use Rattle.lrc_protocol.specs.Barriers.{base_at}
use Rattle.lrc_protocol.specs.Node.{OptionsRecord}
use Rattle.lrc_protocol.specs.Run.{Logged, World}
use Rattle.lrc_order_laws.proofs.Reached.{IsReached}
use Rattle.lrc_reading_laws.proofs.Laws.{AwaitsBase, BasesLaw}
use Rattle.lrc_reading_laws.proofs.Stamped.Law.{stamps_law}
use Rattle.lrc_reading_laws.proofs.Collected.Bases.{bases_law as bases_by}
use Rattle.lrc_reading_laws.proofs.Collected.Held.{asked_has_base}

pub bases_law : (program : Program) (nodes : ℕ) (options : OptionsRecord) → BasesLaw program nodes options
bases_law program nodes options = bases_by program nodes options (stamps_law program nodes options)

pub asked_have_bases : (program : Program) (nodes : ℕ) (options : OptionsRecord) (world : World) → IsReached program nodes options world
    → (n keeper page : ℕ) (l kept : Logged) → slice_get world.nodes n ≡ Some l → slice_get world.nodes keeper ≡ Some kept
    → AwaitsBase l.node page keeper → is_some (base_at kept.node.memory page) ≡ true
asked_have_bases program nodes options world r n keeper page l kept at at_keeper a =
    asked_has_base program nodes options world r n keeper page l kept at a at_keeper
