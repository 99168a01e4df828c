use Rattle.lrc_page.proofs.PageLists.{take-whole}
use Rattle.lrc_page.proofs.page.Page.with_words.Goals as goal

pub returns : goal.returns
returns c = take-whole _ c.copy_from_slice.new.self c.args.words.now _ c.copy_from_slice.ensures.after c.requires
