-- What was added so far.
use Rattle.std.proofs.Common.{◌≡◌, ◌++◌, take}
use Rattle.lrc_why_text.specs.Knowing.{news_lines}
use Rattle.lrc_why_text.proofs.known.push_news_lines.Given as goal

abbrev pub invariant-loop-node : goal.invariant-loop-node
invariant-loop-node l = l.text.items ≡ l.fn.text.items ++ news_lines l.shown l.size (take l.node l.news)
