use Rattle.std.proofs.Common.{◌≡◌, ◌≢◌, ℕ, ◌<◌}
use Rattle.std.specs.Prelude.{slice_index_or}
use Rattle.lrc_protocol.specs.Pages.{Need}
use Rattle.lrc_need.proofs.wait.take_page_of_all.Given as goal

abbrev pub invariant-loop-need : goal.invariant-loop-need
invariant-loop-need l =
    (l.needs ≡ l.initial.needs) × ((k : ℕ) (d : Need) → k < l.need-index → (slice_index_or l.initial.needs k d).page ≢ l.page)
