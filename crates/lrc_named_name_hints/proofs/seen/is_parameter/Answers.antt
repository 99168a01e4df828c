use Rattle.std.proofs.Common.{sym, ap, ◌∙◌}
use Rattle.std.specs.List.{list_any}
use Rattle.lrc_named_tree.specs.View.{named_of}
use Rattle.lrc_named_name_hints.specs.Hints.{is_name}
use Rattle.lrc_named_name_hints.proofs.Searching.{any_more, any_there, at_end}
use Rattle.lrc_named_name_hints.proofs.seen.is_parameter.Goals as goal

pub loop-parameter-preserved : goal.loop-parameter-preserved
loop-parameter-preserved c =
    any_more named_of (is_name c.args.name.now) c.args.seen.now.parameters.now c.loop-parameter.parameter-index _ c.loop-parameter-test.true c.loop-parameter.invariant
    (sym c.is_name.ensures ∙ c.if-is_name.false)

pub returns-then-is_name : goal.returns-then-is_name
returns-then-is_name c =
    sym (any_there named_of (is_name c.args.name.now) c.args.seen.now.parameters.now c.loop-parameter.parameter-index _ c.loop-parameter-test.true c.loop-parameter.invariant
    (sym c.is_name.ensures ∙ c.if-is_name.true))

pub returns : goal.returns
returns c =
    sym (ap (list_any (is_name c.args.name.now)) (sym (at_end named_of (is_name c.args.name.now) c.args.seen.now.parameters.now c.loop-parameter.parameter-index c.loop-parameter-test.false)) ∙ c.loop-parameter.invariant)
