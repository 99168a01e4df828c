use Rattle.std.proofs.Common.{ap, ◌∙◌, replicate}
use Rattle.lrc_page.specs.Page.{zero_page}
use Rattle.lrc_table.specs.PageCopy.{fresh}
use Rattle.lrc_table.proofs.slot.Slot.zero.Goals as goal

pub returns : goal.returns
unfolding zero_page
returns c =
    let items = c.in_ok-vec.ensures.items_if_clones_equal (λ y e. e) in
    ap fresh (items ∙ ap (λ n. replicate n 0) (c.from.ensures ∙ c.words.ensures))
