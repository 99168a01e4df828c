-- Brackets that are open, looked for from the last token on.
use Rattle.std.proofs.Common.{ℕ, List, [], take}
use Rattle.std.specs.Prelude.{fold}
use Rattle.lrc_named_tokens.specs.declared.token.Located as code_located
use Rattle.lrc_named_tokens.specs.View.{located_of}
use Rattle.lrc_lint_fault.specs.declared.brackets.Brackets.{Brackets}
use Rattle.lrc_lint_fault.specs.HintTable.{Opened}
use Rattle.lrc_named_hints.specs.HintTable.{with_token}

-- the brackets that are open behind so many tokens
abbrev pub open_at : Brackets → List code_located.Located → ℕ → List Opened
open_at brackets before place = fold (λ opened it. with_token brackets opened (located_of it)) [] (take place before)
