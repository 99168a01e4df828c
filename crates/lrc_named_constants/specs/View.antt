-- The code's parameters as the definitions see them.
use Rattle.lrc_named_constants.specs.declared.constancy.Known as code_known
use Rattle.lrc_named_constants.specs.Constant.{Known}

abbrev pub known_of : code_known.Known → Known
known_of k = record { name = k.name.now; constancy = k.constancy }
