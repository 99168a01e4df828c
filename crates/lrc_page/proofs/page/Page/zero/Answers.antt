use Rattle.lrc_page.specs.Page.{zero_page}
use Rattle.lrc_page.proofs.PageLists.{take-zeros}
use Rattle.lrc_page.proofs.page.Page.zero.Goals as goal

pub returns : goal.returns
unfolding zero_page
returns c = take-zeros c.args.size
