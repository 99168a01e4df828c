use Rattle.lrc_explore_text.proofs.Listed.{sorted_lines}
use Rattle.lrc_explore_text.proofs.outcomes.sorted_lines.Goals as goal

pub returns : goal.returns
returns c =
    sorted_lines c.args.nodes c.args.outcomes.now c.in_ok-lines.lines.items c.sort_unstable.new.self.items c.in_ok-lines.ensures
    c.sort_unstable.ensures.permutation c.sort_unstable.ensures.sorted
