-- The laws of all groups together: every run reads lazily, and the closed intervals are what the acts made.
use Rattle.std.proofs.Common.{ℕ, List}
use Rattle.lrc_program.specs.declared.Program.{Program}
use Rattle.lrc_store.specs.Store.{StoredRecord}
use Rattle.lrc_protocol.specs.Node.{OptionsRecord}
use Rattle.lrc_protocol.specs.Run.{World}
use Rattle.lrc_reading_laws.specs.Acted.{AreOfActs}
use Rattle.lrc_reading_laws.proofs.Closed.History.{History}
use Rattle.lrc_reading_laws.proofs.Laws.{StampsLaw, BasesLaw, CopiesLaw, ReadsLaw}
use Rattle.lrc_reading_laws.proofs.Stamped.Law.{stamps_law}
use Rattle.lrc_reading_laws.proofs.Written.Laws.{writes_law, turns_law}
use Rattle.lrc_reading_laws.proofs.Asked.Laws.{requests_law}
use Rattle.lrc_reading_laws.proofs.Collected.Law.{bases_law}
use Rattle.lrc_reading_laws.proofs.Fitting.Law.{copies_law}
use Rattle.lrc_reading_laws.proofs.Acted.Law.{acts_law}
use Rattle.lrc_reading_laws.proofs.Lazy.Reads.{reads_law}

module _ (program : Program) (nodes : ℕ) (options : OptionsRecord) where
  pub stamps : StampsLaw program nodes options
  stamps = stamps_law program nodes options

  bases : BasesLaw program nodes options
  bases = bases_law program nodes options

  copies : CopiesLaw program nodes options
  copies =
      copies_law program nodes options stamps (writes_law program nodes options) (turns_law program nodes options)
      (requests_law program nodes options) bases

  pub reads : ReadsLaw program nodes options
  reads = reads_law program nodes options stamps copies

  -- what the closed intervals have to do with the acts
  pub of_acts : (world : World) (made : List StoredRecord) → History program nodes options world made → AreOfActs options.size nodes made world
  of_acts =
      acts_law program nodes options stamps (writes_law program nodes options) (turns_law program nodes options) (requests_law program nodes options)
      bases
