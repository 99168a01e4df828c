use Rattle.std.proofs.Common.{map, ◌∙◌, ap, sym, subst}
use Rattle.std.specs.List.Sorted.{IsStrictlyIncreasing}
use Rattle.std.proofs.lemmas.List.{take_all}
use Rattle.lrc_node.specs.Requests.{part_in}
use Rattle.lrc_node.proofs.Requests.{parts_ascend}
use Rattle.lrc_node.proofs.pages.requests.parts_of.Goals as goal

pub from_short-requires : goal.from_short-requires
from_short-requires c =
    let whole = take_all c.loop-index.index-index c.as_slice-asked.result.now c.loop-index-test.false in
    parts_ascend c.args.memory.now c.args.page c.as_slice-asked.result.now c.loop-index.parts.items
    (c.loop-index.invariant.parts ∙ ap (map (part_in c.args.memory.now c.args.page)) whole)
    (subst IsStrictlyIncreasing (sym c.as_slice-asked.ensures.all) c.as_slice-asked.ensures.are.ascending)
