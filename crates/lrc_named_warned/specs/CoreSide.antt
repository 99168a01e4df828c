-- What the core has to say, as the definitions see it.
use Rattle.std.specs.Prelude.{map}
use Rattle.lrc_labels.specs.Reading.{label_seen}
use Rattle.lrc_named_warned.specs.declared.core_side.CoreSide as code
pub use Rattle.lrc_named_warned.specs.Side.{IsCoreSide}
use Rattle.lrc_named_warned.specs.Side.{Side}

abbrev pub side_seen : code.CoreSide → Side
side_seen s = record {
  warned = s.warned.items;
  begins = s.begins.items;
  names = map (λ name. name.now) s.names.items;
  labels = map label_seen s.labels.said.items;
}
