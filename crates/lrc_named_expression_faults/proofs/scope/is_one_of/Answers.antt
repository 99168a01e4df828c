-- One of the names is this one, or none is.
use Rattle.std.proofs.Common.{map, sym, ◌∙◌}
use Rattle.lrc_named_tree.specs.View.{named_of}
use Rattle.lrc_named_constants.specs.Well.{bytes_of, is_among}
use Rattle.lrc_named_expression_faults.proofs.Senses.{among_here, among_none, among_on}
use Rattle.lrc_named_expression_faults.proofs.scope.is_one_of.Goals as goal

pub loop-one-preserved : goal.loop-one-preserved
loop-one-preserved c =
    among_on c.args.names.now c.loop-one.one-index _ c.args.name.now (is_among (bytes_of (map named_of c.args.names.now)) c.args.name.now) c.loop-one-test.true
    (sym c.is_named.ensures ∙ c.if-is_named.false) c.loop-one.invariant

pub returns-then-is_named : goal.returns-then-is_named
returns-then-is_named c =
    among_here c.args.names.now c.loop-one.one-index _ c.args.name.now (is_among (bytes_of (map named_of c.args.names.now)) c.args.name.now) c.loop-one-test.true
    (sym c.is_named.ensures ∙ c.if-is_named.true) c.loop-one.invariant

pub returns : goal.returns
returns c =
    among_none c.args.names.now c.loop-one.one-index c.args.name.now (is_among (bytes_of (map named_of c.args.names.now)) c.args.name.now) c.loop-one-test.false
    c.loop-one.invariant
