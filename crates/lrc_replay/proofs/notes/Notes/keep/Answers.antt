use Rattle.std.proofs.Common.{arith}
use Rattle.lrc_replay.proofs.Coursing.{note_kept, note_past}
use Rattle.lrc_replay.proofs.notes.Notes.keep.Goals as goal

pub returns-then-place-len : goal.returns-then-place-len
returns-then-place-len c words all are = note_kept words all c.args.note c.args.self.now are

pub returns-else-place-len : goal.returns-else-place-len
returns-else-place-len c words all are = note_past words all c.args.note c.args.self.now are (omega arith)
