use Rattle.std.proofs.Common.{◌≡◌, ◌++◌, take}
use Rattle.std.specs.List.{flat_map}
use Rattle.lrc_svg.specs.Texts.{content_text}
use Rattle.lrc_svg.proofs.text.+push.Given as goal

abbrev pub invariant-push_contents-loop-content : goal.invariant-push_contents-loop-content
invariant-push_contents-loop-content l = l.text.items ≡ l.initial.text.items ++ flat_map content_text (take l.content-index l.contents)
