-- In every history the nodes know the closed intervals as they are: the law of stamps and changes.
use Rattle.std.proofs.Common.{◌≡◌, ℕ, map}
use Rattle.std.specs.Prelude.{Some}
use Rattle.std.proofs.lemmas.List.Elements.{All-contains}
use Rattle.lrc_program.specs.declared.Program.{Program}
use Rattle.lrc_store.specs.Store.{interval_of}
use Rattle.lrc_envelope.specs.Records.{IndexedChangesRecord}
use Rattle.lrc_protocol.specs.Pages.{copy_at}
use Rattle.lrc_protocol.specs.Node.{OptionsRecord}
use Rattle.lrc_order_laws.proofs.Reached.{IsReached}
use Rattle.lrc_reading_laws.specs.Made.{AreMade}
use Rattle.lrc_reading_laws.specs.Written.{made_changes}
use Rattle.lrc_reading_laws.proofs.Closed.Stored.{stores_just}
use Rattle.lrc_reading_laws.proofs.Closed.History.{reached_by}
use Rattle.lrc_reading_laws.proofs.Laws.{StampsLaw}
use Rattle.lrc_reading_laws.proofs.Stamped.Made.{AreListed, all_made, all_listed}
use Rattle.lrc_reading_laws.proofs.Stamped.Times.{AreCuts, all_cuts, since-of}
use Rattle.lrc_reading_laws.proofs.Stamped.Cuts.{IsFull}
use Rattle.lrc_reading_laws.proofs.Closed.KnownStores.{known-of}
use Rattle.lrc_reading_laws.proofs.Closed.Known.{AreTold, all_told}

pub stamps_law : (program : Program) (nodes : ℕ) (options : OptionsRecord) → StampsLaw program nodes options
stamps_law program nodes options world made h =
    let r : IsReached program nodes options world = reached_by program nodes options world made h in
    let are : AreMade (map interval_of made) world = all_made program nodes options world made h in
    let listed : AreListed nodes made = all_listed program nodes options world made h in
    let cuts : AreCuts nodes made world = all_cuts program nodes options world made h in
    let told : AreTold made world = all_told program nodes options world made h in
    record {
      are = are;
      stored = λ n l at. stores_just program nodes options r.events world r.runs (map interval_of made) are n l at;
      attached = listed.attached;
      pages = listed.rising;
      found = listed.found;
      stamped = cuts.stamped;
      time = λ n l at. (cuts.times n l at).cut;
      collected = λ n l at. (cuts.kept n l at).collected.cut;
      since = λ n l page values since at e.
          let full : IsFull made since = since-of (IsFull made) (copy_at l.node.memory page) values since e ((cuts.kept n l at).since page) in
          full.cut;
      known = λ n l key changes at e. known-of made listed.found listed.rising l.node.memory.store key changes (told.known n l at) e;
      replied = λ e m part c is in_parts.
          All-contains
          (λ (part : IndexedChangesRecord). made_changes made (record { node = e.from; index = part.index; page = m.page }) ≡ Some part.changes)
          m.parts part (told.replied e c m is) in_parts;
    }
