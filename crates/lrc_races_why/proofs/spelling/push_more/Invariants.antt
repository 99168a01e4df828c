-- The locks so far are added.
use Rattle.std.proofs.Common.{◌≡◌, ◌++◌, take}
use Rattle.std.specs.Prelude.{flat_map}
use Rattle.lrc_races_text.specs.Tables.{naming_of}
use Rattle.lrc_races_why.specs.Spelled.{another_lock}
use Rattle.lrc_races_why.proofs.spelling.push_more.Given as goal

abbrev pub invariant-loop-lock : goal.invariant-loop-lock
invariant-loop-lock l = l.text.items ≡ l.initial.text.items ++ flat_map (another_lock (naming_of l.names)) (take l.lock-index l.locks)
