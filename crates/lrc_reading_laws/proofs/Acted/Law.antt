-- In every history the closed intervals have what the acts of their nodes made in them.
use Rattle.std.proofs.Common.{ℕ, List}
use Rattle.lrc_program.specs.declared.Program.{Program}
use Rattle.lrc_store.specs.Store.{StoredRecord}
use Rattle.lrc_protocol.specs.Node.{OptionsRecord}
use Rattle.lrc_protocol.specs.Run.{World}
use Rattle.lrc_reading_laws.specs.Acted.{AreOfActs}
use Rattle.lrc_reading_laws.proofs.Laws.{StampsLaw, WritesLaw, TurnsLaw, RequestsLaw, BasesLaw}
use Rattle.lrc_reading_laws.proofs.Closed.History.{History}
use Rattle.lrc_reading_laws.proofs.Acted.Stamps.{stamped_by, waiting_by}
use Rattle.lrc_reading_laws.proofs.Acted.Changes.{named_by, changed_by}

module _ (program : Program) (nodes : ℕ) (options : OptionsRecord) (stamps : StampsLaw program nodes options) (writes : WritesLaw program nodes options)
    (turns : TurnsLaw program nodes options) (requests : RequestsLaw program nodes options) (bases : BasesLaw program nodes options) where
  pub acts_law : (world : World) (made : List StoredRecord) → History program nodes options world made → AreOfActs options.size nodes made world
  acts_law world made hist = record {
    stamped = stamped_by program nodes options stamps world made hist;
    waiting = waiting_by program nodes options stamps world made hist;
    named = named_by program nodes options stamps writes turns requests bases world made hist;
    changed = changed_by program nodes options stamps writes turns requests bases world made hist;
  }
