-- What is done of the block.
use Rattle.std.proofs.Common.{ℕ, List, length}
use Rattle.lrc_races_text.specs.declared.asked.Asked.{Asked}
use Rattle.lrc_races_text.specs.declared.form.Form.{Form}
use Rattle.lrc_races_text.specs.Session.{HasLines, HasDone}
use Rattle.lrc_races_text.proofs.session.Session.take.Given as goal

abbrev pub invariant-loop-part : goal.invariant-loop-part
invariant-loop-part l = (form : Form) (asked : Asked) (bytes told : List ℕ) → HasLines form asked bytes told l.initial.self
    → HasDone form asked bytes told l.block l.left l.initial.out.items l.out.items l.self

abbrev pub decreases-loop-part : goal.decreases-loop-part
decreases-loop-part l = length l.left
