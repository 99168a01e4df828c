use Rattle.std.proofs.Common.{◌≡◌, ◌≤◌, length}
use Rattle.std.specs.Prelude.{All}
use Rattle.lrc_protocol.specs.Pages.{asked_of}
use Rattle.lrc_need.proofs.asked.ask.Given as goal

abbrev pub invariant-loop-maker : goal.invariant-loop-maker
invariant-loop-maker l = (l.all.items ≡ asked_of l.maker l.keys) × All (λ a. 1 ≤ length a.indices) l.all.items
