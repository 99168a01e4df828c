-- Each step from each of the states so far is known.
use Rattle.std.proofs.Common.{◌-◌, ◌^◌}
use Rattle.lrc_explore_ends.proofs.Linking.{Linking}
use Rattle.lrc_explore_ends.proofs.states.States.link_all.Given as goal

abbrev pub invariant-loop-place : goal.invariant-loop-place
invariant-loop-place l = Linking l.task l.fn.self l.self l.place

abbrev pub decreases-loop-place : goal.decreases-loop-place
decreases-loop-place l = 2 ^ 63 - l.place
