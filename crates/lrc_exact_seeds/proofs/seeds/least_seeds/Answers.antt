use Rattle.std.proofs.Common.{◌∙◌, ap, arith, rules, sym}
use Rattle.std.specs.List.{list_all}
use Rattle.std.specs.Option.{is_some}
use Rattle.lrc_node.specs.Options.{options_of}
use Rattle.lrc_exact_seeds.proofs.Marking.{all_later, none_tried}
use Rattle.lrc_exact_seeds.proofs.seeds.least_seeds.Goals as goal

pub loop-seed-init : goal.loop-seed-init
loop-seed-init c =
    none_tried c.args.program.now c.args.setting.now.nodes.count (options_of c.args.setting.now) c.args.outcomes.now c.in_ok-seeds.seeds.items
    (search rules)

pub returns-then-are_all_found : goal.returns-then-are_all_found
returns-then-are_all_found c =
    all_later c.args.program.now c.args.setting.now.nodes.count (options_of c.args.setting.now) c.loop-seed.seed c.args.tries c.args.outcomes.now c.loop-seed.seeds.items
    (omega (arith, c.loop-seed-test.true)) (ap (list_all is_some) (sym c.deref.ensures.value) ∙ sym c.are_all_found.ensures ∙ c.if-are_all_found.true)
    c.loop-seed.invariant
