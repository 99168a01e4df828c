use Rattle.std.proofs.Common.{List, ℕ, take, ◌++◌}
use Rattle.std.specs.Prelude.{Contains}
use Rattle.lrc_judge_all.specs.Known.{AreKept, IsNewTo}
use Rattle.lrc_judge_all.proofs.kept.note_all.Given as goal

-- the positions so far are noted
abbrev pub invariant-loop-position : goal.invariant-loop-position
invariant-loop-position l =
    (known : List ℕ) → ((k : ℕ) → Contains l.positions k → IsNewTo l.acts known k) → AreKept l.acts known l.initial.words
    → AreKept l.acts (known ++ take l.position-index l.positions) l.words
