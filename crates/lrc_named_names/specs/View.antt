-- The code's table as the definitions see it.
use Rattle.std.specs.Prelude.{List, map}
use Rattle.lrc_named_tree.specs.View.{named_of, expression_of}
use Rattle.lrc_named_names.specs.declared.item.Item as code_item
use Rattle.lrc_named_names.specs.declared.names.Meaning as code_meaning
use Rattle.lrc_named_names.specs.declared.names.Meaning.TheVariants.{Constant, Shared, Lock, Function}
use Rattle.lrc_named_names.specs.declared.names.Declared as code_declared
use Rattle.lrc_named_names.specs.declared.names.Names as code_names
use Rattle.lrc_named_names.specs.Names.{Item, Meaning, constant, shared, lock, function, Declared}

abbrev pub item_of : code_item.Item → Item
item_of i = record { first = i.first; sizes = i.sizes.items }

abbrev pub meaning_seen : code_meaning.Meaning → Meaning
meaning_seen (Constant n) = constant n
meaning_seen (Shared i) = shared (item_of i)
meaning_seen (Lock i) = lock (item_of i)
meaning_seen (Function parameters body) = function (map named_of parameters.now) (expression_of body.now)

abbrev pub entry_of : code_declared.Declared → Declared
entry_of d = record { name = d.name.now; meaning = meaning_seen d.meaning }

abbrev pub declared_of : code_names.Names → List Declared
declared_of names = map entry_of names.declared.items
