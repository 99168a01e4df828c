-- The core is a program, so reading it fails only for want of memory.
use Rattle.lrc_named_warned.proofs.warned.lint_core.Goals as goal

pub unreachable-requires : goal.unreachable-requires
unreachable-requires c = c.in_default.not-NoMemory (c.in-Err.ensures.of_program c.requires.0 c.requires.1).0
