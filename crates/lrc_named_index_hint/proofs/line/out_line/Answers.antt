use Rattle.std.proofs.Common.{◌++◌, ap, ◌∙◌}
use Rattle.lrc_named_tree.specs.View.{program_of}
use Rattle.lrc_named_index_hint.specs.Line.{line_of}
use Rattle.lrc_named_index_hint.proofs.Lines.{told}
use Rattle.lrc_named_index_hint.proofs.line.out_line.Goals as goal

pub returns : goal.returns
returns c =
    told (program_of c.args.program) c.args.at c.in_ok-found.found c.push_found.new.line.items c.requires c.in_ok-found.ensures
    (c.in_ok-push_found.ensures ∙ ap (λ l. l ++ line_of c.in_ok-found.found) c.new-line.ensures.items)
