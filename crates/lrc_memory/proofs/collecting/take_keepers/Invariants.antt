use Rattle.std.proofs.Common.{◌≡◌, length}
use Rattle.lrc_memory.specs.Notes.{keepers_of, named_of, since_of}
use Rattle.lrc_memory.proofs.Renewed.{IsRenewed}
use Rattle.lrc_memory.proofs.collecting.take_keepers.Given as goal

abbrev pub invariant-loop-page : goal.invariant-loop-page
invariant-loop-page l = record {
  keepers : IsRenewed l.store (keepers_of l.initial.notes.items) (keepers_of l.notes.items) l.page;
  since : since_of l.notes.items ≡ since_of l.initial.notes.items;
  named : named_of l.notes.items ≡ named_of l.initial.notes.items;
  long : length l.notes.items ≡ length l.initial.notes.items;
}
