use Rattle.std.proofs.Common.{◌≡◌, ◌++◌, map, take}
use Rattle.std.specs.List.{flat_map}
use Rattle.std.specs.Prelude.{codes}
use Rattle.lrc_lint_lines.proofs.expected.push_others.Given as goal

-- the phrases so far
abbrev pub invariant-loop-phrase : goal.invariant-loop-phrase
invariant-loop-phrase l =
    l.out.items ≡ l.fn.out.items ++ flat_map (λ phrase. codes ", " ++ phrase) (take l.phrase-index (map (λ phrase. phrase.now) l.phrases))
