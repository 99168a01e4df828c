use Rattle.std.proofs.Common.{◌≡◌, ◌++◌, ◌∷◌, [], None, rules}
use Rattle.lrc_replay.proofs.Coursing.{none_more}
use Rattle.lrc_replay.proofs.notes.Notes.none.Goals as goal

pub loop-word-preserved : goal.loop-word-preserved
loop-word-preserved c =
    let items : c.push.new.self.items ≡ c.loop-word.last.items ++ None ∷ [] = search rules in
    none_more c.loop-word.last.items c.push.new.self.items c.loop-word._word c.loop-word.invariant items
