-- What is known of the statements so far is marked, and what is not was added.
use Rattle.std.proofs.Common.{◌≡◌, ◌<◌, ◌++◌, ℕ, length, map, take, get_or}
use Rattle.std.specs.Prelude.{false}
use Rattle.lrc_text.specs.Each.{each}
use Rattle.lrc_lint_warned.specs.Found.{statement_seen}
use Rattle.lrc_lint_warned.specs.Words.{is_known, never_written_at}
use Rattle.lrc_lint_warned.proofs.words.push_unknown_reads.Given as goal

abbrev pub invariant-loop-s : goal.invariant-loop-s
invariant-loop-s l =
    (length l.known ≡ length l.fn.known)
    × ((k : ℕ) → k < length l.fn.known → get_or l.known k false ≡ is_known (map statement_seen l.statements) l.s-index k)
    × (l.out.items ≡ l.fn.out.items
    ++ each (never_written_at (length l.fn.known) (map statement_seen l.statements)) (take l.s-index (map statement_seen l.statements)))
