use Rattle.std.proofs.Common.{◌≡◌, ◌++◌, take}
use Rattle.std.specs.Prelude.{◌==◌}
use Rattle.std.specs.List.{flat_map}
use Rattle.lrc_text.specs.Parts.{texts_of}
use Rattle.lrc_chart_text.specs.Phrases.{only_if, lost_phrase}
use Rattle.lrc_chart_text.proofs.phrases.push_all_lost.Given as goal

abbrev pub invariant-loop-lost : goal.invariant-loop-lost
invariant-loop-lost l =
    texts_of l.phrases.items ≡ texts_of l.initial.phrases.items
    ++ flat_map (λ lost. only_if (lost.from == l.number) (lost_phrase l.picture.columns.items lost)) (take l.lost-index l.picture.lost.items)
