use Rattle.std.proofs.Common.{rules}
use Rattle.lrc_why.proofs.known.count_closed.Goals as goal

pub returns : goal.returns
returns c = (c.in_ok-closed.closed.items, c.in_ok-closed.ensures, search rules)
