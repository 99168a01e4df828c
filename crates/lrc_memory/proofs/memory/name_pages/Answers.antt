use Rattle.std.proofs.Common.{◌∙◌, refl, length-set}
use Rattle.lrc_memory.specs.declared.memory.PageNote.{PageNote}
use Rattle.lrc_memory.proofs.Noting.{keepers-stay, named_more, since-stays}
use Rattle.lrc_memory.proofs.memory.name_pages.Goals as goal

pub loop-page-preserved : goal.loop-page-preserved
loop-page-preserved c =
    let notes = c.loop-page.notes.items in
    let page = c.from.result in
    let note = c.index_mut.result.now in
    let is = c.index_mut.ensures.value in
    let new : PageNote = record note { named = c.args.index } in
    let so_far = c.loop-page.invariant in record {
      named = named_more c.args.index c.args.notes.now.items notes c.args.pages.now c.loop-page.page-index page note c.loop-page-test.true c.from.ensures
          so_far.named;
      since = since-stays notes page note is new refl ∙ so_far.since;
      keepers = keepers-stay notes page note is new refl ∙ so_far.keepers;
      long = length-set notes page new ∙ so_far.long;
    }
