use Rattle.std.proofs.Common.{rules, tests, ◌∙◌}
use Rattle.std.proofs.lemmas.Iterator.{YieldsList-from_slice}
use Rattle.std.proofs.lemmas.Iterator.Search.{any_from_yields_List}
use Rattle.lrc_lint_warned.proofs.Lists.{any_seen}
use Rattle.lrc_named_warnings.specs.declared.lines.Line as code
use Rattle.lrc_named_warnings.specs.Lines.{is_same}
use Rattle.lrc_named_warnings.specs.Seen.{line_seen}
use Rattle.lrc_named_warnings.proofs.lines.is_among.Goals as goal

pub returns : goal.returns
returns c =
    any_from_yields_List (λ (x : code.Line). is_same (line_seen c.args.line.now) (line_seen x)) _ _ c.any.result c.any.ensures.ran
    (YieldsList-from_slice c.args.lines.now cc) (λ x b q k. search (rules, tests))
    ∙ any_seen line_seen (is_same (line_seen c.args.line.now)) c.args.lines.now
