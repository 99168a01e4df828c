use Rattle.std.proofs.Common.{◌∙◌, ap, replicate}
use Rattle.lrc_memory.proofs.Noting.{keepers-first, named-first, since-first}
use Rattle.lrc_memory.proofs.Starts.{seen-new, kept-new}
use Rattle.lrc_memory.proofs.memory.Memory.new.Goals as goal

pub returns : goal.returns
returns c =
    let counted = ap (λ n. replicate n 0) c.from-count.ensures in
    seen-new c.args.me c.args.nodes c.args.words c.pages_of-pages.result c.args.size _ _ _ _ _ _
    c.in_ok-new.ensures c.in_ok-new-2.ensures (keepers-first _ c.from-count.result c.new-start.result c.in_ok-first_notes.ensures ∙ counted)
    c.new-start.ensures c.pages_of-pages.ensures.pages

pub invariant_of-result : goal.invariant_of-result
invariant_of-result c =
    let counted = ap (λ n. replicate n 0) c.from-count.ensures in
    let are = c.in_ok-first_notes.ensures in
    kept-new c.args.me c.args.nodes c.args.words c.pages_of-pages.result c.args.size _ _ _ _ _ _
    c.in_ok-new.ensures c.in_ok-new-2.ensures
    (since-first _ c.from-count.result c.new-start.result are ∙ ap (λ n. replicate n c.new-start.result) c.from-count.ensures
    ∙ ap (replicate c.pages_of-pages.result) c.new-start.ensures)
    (named-first _ c.from-count.result c.new-start.result are ∙ counted)
    (keepers-first _ c.from-count.result c.new-start.result are ∙ counted)
    c.new-start.ensures c.pages_of-pages.ensures.pages c.requires.counted
