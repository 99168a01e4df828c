use Rattle.std.proofs.Common.{◌≡◌, ◌++◌, take}
use Rattle.lrc_svg.specs.Texts.{attributes_text}
use Rattle.lrc_svg.proofs.text.push_attributes.Given as goal

abbrev pub invariant-loop-attribute : goal.invariant-loop-attribute
invariant-loop-attribute l = l.text.items ≡ l.initial.text.items ++ attributes_text (take l.attribute-index l.attributes)
