use Rattle.std.proofs.Common.{ap, ◌∙◌}
use Rattle.lrc_memory.specs.View.{NodeMemory}
use Rattle.lrc_memory.proofs.Inside.{kept}
use Rattle.lrc_memory.proofs.Copies.{word-seen, read-seen, read_as}
use Rattle.lrc_memory.proofs.memory.Memory.read.Goals as goal

pub read-requires-clause-on_a_page : goal.read-requires-clause-on_a_page
read-requires-clause-on_a_page c = word-seen (kept c.self.inside) _ _ c.self.view_is c.requires.on_a_page

pub returns : goal.returns
returns c =
    c.read.ensures
    ∙ read-seen (kept c.self.inside) c.args.word (word-seen (kept c.self.inside) _ _ c.self.view_is c.requires.on_a_page)
    ∙ ap (λ (n : NodeMemory). read_as n c.args.word) c.self.view_is
