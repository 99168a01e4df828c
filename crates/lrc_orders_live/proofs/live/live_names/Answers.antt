use Rattle.std.proofs.Common.{◌≡◌, ◌∙◌, [], ◌∷◌, ◌++◌, List, Bool, Some, sym, ap, arith}
use Rattle.std.specs.Prelude.{false, replicate, slice_get}
use Rattle.std.proofs.lemmas.Option.{slice_get-get_or}
use Rattle.lrc_orders_live.proofs.Tables.{first_table, next_below, next_table}
use Rattle.lrc_orders_live.proofs.live.live_names.Goals as goal

pub loop-instruction-init : goal.loop-instruction-init
loop-instruction-init c =
    let none : List Bool = replicate 32 false in
    let items : c.push.new.self.items ≡ none ∷ [] = c.in_ok-push.ensures.items ∙ ap (λ l. l ++ none ∷ []) c.new-table.ensures.items in
    first_table c.args.code.now c.push.new.self.items items

pub index-requires : goal.index-requires
index-requires c =
    let k = c.loop-instruction.instruction-index in
    let i = c.instruction-item.result in
    let at : slice_get c.args.code.now k ≡ Some i = slice_get-get_or c.args.code.now k i c.loop-instruction-test.true ∙ ap Some (sym c.instruction-item.is) in
    let below = next_below c.args.code.now c.requires c.loop-instruction.table.items k i at c.loop-instruction.invariant.0 in
    omega (arith, below, c.loop-instruction.table.ok.0)

pub loop-instruction-preserved : goal.loop-instruction-preserved
loop-instruction-preserved c =
    let k = c.loop-instruction.instruction-index in
    let i = c.instruction-item.result in
    let at : slice_get c.args.code.now k ≡ Some i = slice_get-get_or c.args.code.now k i c.loop-instruction-test.true ∙ ap Some (sym c.instruction-item.is) in
    next_table c.args.code.now c.requires c.loop-instruction.table.items c.push-in-loop-instruction.new.self.items k i at c.loop-instruction.invariant.0
    c.loop-instruction.invariant.1 c.loop-instruction.invariant.2 c.index.result.now c.index.ensures c.add_before.new.names c.add_before.array_long
    c.add_before.ensures c.in_ok-push-2.ensures.items
