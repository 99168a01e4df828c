use Rattle.std.proofs.Common.{◌≡◌, ◌++◌, map, take}
use Rattle.std.specs.List.{flat_map}
use Rattle.lrc_named_expected.specs.Expected.{single_phrase}
use Rattle.lrc_named_expected.proofs.expected.add_singles.Given as goal

-- the phrases of the kinds so far
abbrev pub invariant-loop-kind : goal.invariant-loop-kind
invariant-loop-kind l =
    map (λ phrase. phrase.now) l.phrases.items
    ≡ map (λ phrase. phrase.now) l.fn.phrases.items ++ flat_map (single_phrase l.kinds) (take l.kind-index l.all)
