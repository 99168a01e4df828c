use Rattle.std.proofs.Common.{◌≡◌, ◌++◌, map}
use Rattle.std.specs.Prelude.{take, drop}
use Rattle.lrc_protocol.specs.Pages.{changes_came}
use Rattle.lrc_need.proofs.wait.take_changes_of_all.Given as goal

abbrev pub invariant-loop-need : goal.invariant-loop-need
invariant-loop-need l =
    l.needs ≡ map (changes_came l.page l.maker) (take l.need-index l.initial.needs) ++ drop l.need-index l.initial.needs
