-- A text that has no fault has no first one.
use Rattle.std.proofs.Common.{inl, inr}
use Rattle.lrc_named_linted.proofs.linted.lint_parsed.Goals as goal

pub unreachable-requires : goal.unreachable-requires
unreachable-requires c = elim c.in-Err.ensures.fault [
  | inl memory ↦ c.in_default.not-NoMemory memory
  | inr has ↦ c.requires _ _ has
]
