use Rattle.std.proofs.Common.{ℕ, List, [], ◌∷◌, length, map, sym, ap, ap₂, ◌∙◌}
use Rattle.lrc_named_tree.specs.View.{expressions_of, named_of, place_of}
use Rattle.lrc_named_entries.specs.Entry.{Entry, item_entry, last_behind}
use Rattle.lrc_named_entries.specs.View.{entry_seen}
use Rattle.lrc_named_entries.proofs.Growing.{added, counted}
use Rattle.lrc_named_entries.proofs.entry.push_item.Goals as goal

pub returns : goal.returns
returns c =
    let item = c.args.item.now in
    let made : ℕ → ℕ → List Entry = λ n m. record { name = named_of item.name; sort = c.args.sort; count = n; last = m } ∷ [] in
    let last = c.last_behind-last.ensures ∙ ap (λ l. last_behind item.name.at (expressions_of l)) c.as_slice-sizes.ensures.value in
    let many = ap length c.as_slice-sizes.ensures.value ∙ counted item.indices.items in
    added c.push_entry.result (map entry_seen c.args.entries.now.items) (map entry_seen c.push_entry.new.entries.items)
    (made (length c.as_slice-sizes.result.now) c.last_behind-last.result) (item_entry c.args.sort (place_of item) ∷ [])
    (sym (ap₂ made many last)) c.push_entry.ensures
