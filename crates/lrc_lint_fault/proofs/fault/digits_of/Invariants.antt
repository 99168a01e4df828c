use Rattle.std.proofs.Common.{◌≡◌, ◌++◌, take, drop}
use Rattle.lrc_lint_fault.specs.Spelled.{digits_of}
use Rattle.lrc_lint_fault.proofs.fault.digits_of.Given as goal

abbrev pub invariant-loop-place : goal.invariant-loop-place
invariant-loop-place l = digits_of l.text ≡ take l.place l.text ++ digits_of (drop l.place l.text)
