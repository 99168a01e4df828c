use Rattle.std.proofs.Common.{◌≡◌, length, take}
use Rattle.std.specs.Prelude.{fold}
use Rattle.lrc_memory.specs.Notes.{keepers_of, named_of, since_of}
use Rattle.lrc_memory.proofs.Closes.{named_with}
use Rattle.lrc_memory.proofs.memory.name_pages.Given as goal

abbrev pub invariant-loop-page : goal.invariant-loop-page
invariant-loop-page l = record {
  named : named_of l.notes.items ≡ fold (named_with l.index) (named_of l.initial.notes.items) (take l.page-index l.pages);
  since : since_of l.notes.items ≡ since_of l.initial.notes.items;
  keepers : keepers_of l.notes.items ≡ keepers_of l.initial.notes.items;
  long : length l.notes.items ≡ length l.initial.notes.items;
}
