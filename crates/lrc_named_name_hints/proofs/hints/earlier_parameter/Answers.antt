use Rattle.std.proofs.Common.{sym, ap, ◌∙◌}
use Rattle.std.specs.List.{find}
use Rattle.std.specs.Option.{option_map}
use Rattle.lrc_named_tree.specs.Tree.{Named}
use Rattle.lrc_named_tree.specs.View.{named_of}
use Rattle.lrc_named_name_hints.specs.Hints.{stood}
use Rattle.lrc_named_name_hints.proofs.Searching.{at_end, found_there, none_more}
use Rattle.lrc_named_name_hints.proofs.hints.earlier_parameter.Goals as goal

pub loop-parameter-preserved : goal.loop-parameter-preserved
loop-parameter-preserved c =
    none_more named_of (stood c.args.seen.now.at c.args.name.now) c.args.seen.now.parameters.now c.loop-parameter.parameter-index _ c.loop-parameter-test.true c.loop-parameter.invariant
    (sym c.stood.ensures ∙ c.if-stood.false)

pub returns-then-stood : goal.returns-then-stood
returns-then-stood c =
    let there = found_there named_of (stood c.args.seen.now.at c.args.name.now) c.args.seen.now.parameters.now c.loop-parameter.parameter-index _ c.loop-parameter-test.true c.loop-parameter.invariant
    (sym c.stood.ensures ∙ c.if-stood.true) in
    sym (ap (option_map (λ (n : Named). n.at)) there)

pub returns : goal.returns
returns c =
    let none = ap (find (stood c.args.seen.now.at c.args.name.now)) (sym (at_end named_of (stood c.args.seen.now.at c.args.name.now) c.args.seen.now.parameters.now c.loop-parameter.parameter-index c.loop-parameter-test.false)) ∙ c.loop-parameter.invariant in
    sym (ap (option_map (λ (n : Named). n.at)) none)
