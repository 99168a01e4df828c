use Rattle.std.proofs.Common.{◌≡◌, ◌≢◌, subst, ◌∙◌, ap, sym, map, length, get_or, arith, refl}
use Rattle.std.proofs.lemmas.List.Edits.{map_over_more}
use Rattle.std.specs.Prelude.{All}
use Rattle.lrc_table.specs.declared.slot.State.TheVariants.{Written}
use Rattle.lrc_table.specs.PageCopy.{without_twin}
use Rattle.lrc_table.specs.Table.{Table, with_each}
use Rattle.lrc_table.proofs.Tables.{same_table, written_back, over_all, sound-is, sound-with_each, whole-without_twin, unwritten}
use Rattle.lrc_table.proofs.table.PageTable.drop_twins.Goals as goal

pub invariant_of-self : goal.invariant_of-self
invariant_of-self c =
    let table : Table = record { size = c.self.inside.size; copies = c.self.inside.slots.items } in
    let P : Table → Type 0 = λ t. All (λ copy. copy.state ≢ Written) t.copies in
    let unwritten_all : P table = subst P (sym c.self.view_is) c.requires in
    let same : length c.loop-slot.slot-items ≡ length c.self.inside.slots.items =
    omega (arith, c.loop-slot.auto.slot-items, ap length c.deref_mut-slot-items.ensures.value) in
    sound-is (with_each table without_twin) (record { size = c.self.inside.size; copies = _ }) c.self.inside.written
    (same_table table.size table.size _ _ refl
    (written_back c.self.inside.slots.len c.loop-slot.slot-items c.self.inside.slots.items (map without_twin c.self.inside.slots.items) same
    (omega (arith, c.deref_mut-slot-items.ensures.len, ap length c.deref_mut-slot-items.ensures.value))
    (over_all without_twin c.deref_mut-slot-items.result.now c.self.inside.slots.items c.loop-slot.slot-items c.loop-slot.slot-index c.loop-slot.invariant
    c.loop-slot-test.false c.deref_mut-slot-items.ensures.value)))
    (sound-with_each table c.self.inside.written without_twin c.self.invariant
    (λ k d within.
    whole-without_twin table.size (get_or table.copies k d) (c.self.invariant.whole k d within)
    (unwritten (get_or table.copies k d).state (unwritten_all k d within)))
    (λ copy. refl))

pub loop-slot-preserved : goal.loop-slot-preserved
loop-slot-preserved c =
    let copies = c.loop-slot.slot-items in
    let i = c.loop-slot.slot-index in
    rw (c.drop_twin.ensures ∙ ap without_twin (sym c.slot-item.is))
    (map_over_more without_twin c.deref_mut-slot-items.result.now copies i c.slot-item.result c.loop-slot-test.true c.loop-slot.invariant c.slot-item.is)
