use Rattle.std.proofs.Common.{◌≡◌, ◌++◌, take}
use Rattle.std.specs.Prelude.{◌==◌, ◌||◌}
use Rattle.std.specs.List.{flat_map}
use Rattle.lrc_text.specs.Parts.{texts_of}
use Rattle.lrc_chart_text.specs.Phrases.{only_if, race_name}
use Rattle.lrc_chart_text.proofs.phrases.push_all_races.Given as goal

abbrev pub invariant-loop-race : goal.invariant-loop-race
invariant-loop-race l =
    texts_of l.phrases.items ≡ texts_of l.initial.phrases.items
    ++ flat_map (λ race. only_if ((race.from == l.number) || (race.to == l.number)) (race_name race.number)) (take l.race-index l.picture.races.items)
