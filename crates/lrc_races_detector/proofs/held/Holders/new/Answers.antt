-- Before any event nobody holds a lock.
use Rattle.std.proofs.Common.{sym, ◌∙◌, ap}
use Rattle.std.specs.Prelude.{slice_get}
use Rattle.lrc_races_trace.proofs.Holders.{holder_before-none}
use Rattle.lrc_races_detector.specs.Held.{holder_at}
use Rattle.lrc_races_detector.proofs.held.Holders.new.Goals as goal

pub returns : goal.returns
returns c = λ events lock. ap (λ holders. holder_at (slice_get holders lock)) c.new.ensures.items ∙ sym (holder_before-none events lock)
