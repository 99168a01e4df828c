use Rattle.std.proofs.Common.{◌∙◌, arith, ap, map}
use Rattle.std.proofs.lemmas.List.{length-map, take_all}
use Rattle.lrc_states.specs.Names.{names_set}
use Rattle.lrc_states.proofs.Naming.{named_next}
use Rattle.lrc_states.proofs.names.names_set.Goals as goal

pub loop-number-preserved : goal.loop-number-preserved
loop-number-preserved c =
    named_next (λ name. name.now) c.args.names.now c.args.values.now c.loop-number.number _ c.value_of.result _ _
    c.loop-number-test.true c.value_of.ensures c.loop-number.invariant c.in_ok-keep_set.ensures

pub returns : goal.returns
returns c =
    c.loop-number.invariant
    ∙ ap (λ l. names_set l c.args.values.now)
    (take_all c.loop-number.number (map (λ name. name.now) c.args.names.now) (omega (arith, c.loop-number-test.false, length-map c.args.names.now (λ name. name.now))))
