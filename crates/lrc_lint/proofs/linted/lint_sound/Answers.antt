-- A text that has no fault has no first one.
use Rattle.std.proofs.Common.{inl, inr}
use Rattle.lrc_lint.proofs.linted.lint_sound.Goals as goal

pub unreachable-requires : goal.unreachable-requires
unreachable-requires c = elim c.in-Err.ensures.fault [
  | inl memory ↦ c.in_default.not-NoMemory memory.0
  | inr has ↦ c.requires _ _ has
]
