use Rattle.std.proofs.Common.{ℕ, List, ◌++◌}
use Rattle.std.specs.Prelude.{codes}
use Rattle.lrc_lint_lines.proofs.Grown.{seen_more}
use Rattle.lrc_lint_lines.proofs.expected.push_others.Goals as goal

pub loop-phrase-preserved : goal.loop-phrase-preserved
loop-phrase-preserved c =
    seen_more (λ (phrase : List ℕ). codes ", " ++ phrase) (λ phrase. phrase.now) _ c.loop-phrase.phrase-index _ _ _ _ c.loop-phrase-test.true
    c.loop-phrase.invariant c.in_ok-push_other.ensures
