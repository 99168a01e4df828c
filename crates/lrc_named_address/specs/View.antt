-- The code's indices as the definitions see them.
use Rattle.lrc_named_core.specs.View.{expression_of}
use Rattle.lrc_named_address.specs.declared.element.Index as code_index
use Rattle.lrc_named_address.specs.Address.{Index}

abbrev pub index_of : code_index.Index → Index
index_of i = record { core = expression_of i.core.now; size = i.size; stride = i.stride }
