use Rattle.std.proofs.Common.{◌≡◌, ◌++◌, take}
use Rattle.std.specs.Prelude.{◌==◌}
use Rattle.lrc_text.specs.Each.{each}
use Rattle.lrc_text.specs.Parts.{texts_of}
use Rattle.lrc_chart_text.specs.Phrases.{only_if, sent_phrase}
use Rattle.lrc_chart_text.proofs.phrases.push_all_sent.Given as goal

abbrev pub invariant-loop-position : goal.invariant-loop-position
invariant-loop-position l =
    texts_of l.phrases.items ≡ texts_of l.initial.phrases.items
    ++ each (λ position arrow. only_if (arrow.from == l.number) (sent_phrase l.picture.columns.items position arrow)) (take l.position l.picture.arrows.items)
