use Rattle.lrc_exact_pages.proofs.Accessing.{repairs_dropped}
use Rattle.lrc_exact_pages.proofs.laws.what_was_dropped_is_repaired_exactly.Goals as goal

pub returns : goal.returns
returns c = λ size made fixed time memory state page base h within e k long base_is offset lt.
    repairs_dropped size 0 0 made fixed time memory state h page base within e k long base_is offset lt
