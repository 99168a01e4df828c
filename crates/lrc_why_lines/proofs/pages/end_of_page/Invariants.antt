-- The words so far are on the page.
use Rattle.std.proofs.Common.{◌≡◌, ◌/◌, ◌<◌, ◌≤◌, ℕ}
use Rattle.std.specs.Prelude.{slice_index}
use Rattle.lrc_why_lines.proofs.pages.end_of_page.Given as goal

abbrev pub invariant-loop-end : goal.invariant-loop-end
invariant-loop-end l = (k : ℕ) → l.start ≤ k → k < l.end → slice_index l.words k / l.size ≡ slice_index l.words l.start / l.size
