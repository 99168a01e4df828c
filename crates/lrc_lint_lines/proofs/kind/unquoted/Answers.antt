-- What stands in backquotes has two bytes less.
use Rattle.std.proofs.Common.{◌≡◌, ◌+◌, ℕ, List, [], ◌∷◌, ap, arith, drop, length, length-append, take, ◌∙◌}
use Rattle.std.specs.Prelude.{◌-◌}
use Rattle.std.proofs.lemmas.List.{take_at}
use Rattle.lrc_lint_lines.specs.Kind.{quoted}
use Rattle.lrc_lint_lines.proofs.kind.unquoted.Goals as goal

long : (text : List ℕ) → length (quoted text) ≡ length text + 2
long text = let h = length-append text (96 ∷ []) in omega (arith, h)

inside : (text : List ℕ) → take (length (quoted text) - 1 - 1) (drop 1 (quoted text)) ≡ text
inside text = take_at text (96 ∷ []) (length (quoted text) - 1 - 1) (let h = long text in omega (arith, h))

pub returns-then-phrase-lt2 : goal.returns-then-phrase-lt2
returns-then-phrase-lt2 c = λ text is. let h = long text in let same = ap length is in absurd (omega (arith, h, same))

pub returns-else-phrase-lt2 : goal.returns-else-phrase-lt2
returns-else-phrase-lt2 c = λ text is. ap (λ (p : List ℕ). take (length p - 1 - 1) (drop 1 p)) is ∙ inside text
