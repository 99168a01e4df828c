use Rattle.std.proofs.Common.{arith}
use Rattle.lrc_wire.proofs.Lengths.{length_page_values}
use Rattle.lrc_wire.proofs.writing.sizes.page_len.Goals as goal

pub returns-clause-exact : goal.returns-clause-exact
returns-clause-exact c = omega (arith, length_page_values c.args.page.now, c.size.ensures, c.words.ensures)
