-- The words that the statements so far write are marked.
use Rattle.std.proofs.Common.{◌≡◌, ◌<◌, ◌||◌, ℕ, length, map, take, get_or}
use Rattle.std.specs.Prelude.{false}
use Rattle.std.specs.List.{list_any}
use Rattle.lrc_lint_warned.specs.Constant.{is_value}
use Rattle.lrc_lint_warned.specs.Found.{StatementAt, statement_seen}
use Rattle.lrc_lint_warned.specs.Words.{word_written}
use Rattle.lrc_lint_warned.proofs.words.mark_writes.Given as goal

abbrev pub invariant-loop-s : goal.invariant-loop-s
invariant-loop-s l = (k : ℕ) → k < length l.fn.known → get_or l.known k false
    ≡ (get_or l.fn.known k false || list_any (λ (s : StatementAt). is_value (word_written s.statement) k) (map statement_seen (take l.s-index l.statements)))
