-- One walk more.
use Rattle.std.proofs.Common.{◌∷◌, [], ◌++◌, ◌∙◌, map, sym, ap, ap₂, arith}
use Rattle.std.proofs.lemmas.List.{map-append}
use Rattle.std.proofs.lemmas.List.FromFn.{map-range_with_len_more}
use Rattle.lrc_lines.specs.Seen.{walk_of}
use Rattle.lrc_lines.specs.Walks.{walk_at_start}
use Rattle.lrc_lines.proofs.walks.Walks.start.Goals as goal

pub loop-me-preserved : goal.loop-me-preserved
loop-me-preserved c =
    let me = c.loop-me.me in
    ap (map walk_of) c.in_ok-push.ensures.items ∙ map-append walk_of c.loop-me.walks.items (c.in_ok-start.field-0 ∷ [])
    ∙ ap₂ (λ walks walk. walks ++ walk ∷ []) c.loop-me.invariant c.in_ok-start.ensures
    ∙ sym (map-range_with_len_more (walk_at_start c.args.code.now c.args.nodes c.args.lines.now) 0 me me (omega arith))
