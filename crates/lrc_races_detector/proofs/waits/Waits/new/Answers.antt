-- Before any event no thread waits.
use Rattle.std.proofs.Common.{◌≡◌, ℕ, [], List, sym, subst, ap, arith}
use Rattle.std.specs.Prelude.{Option, None, slice_get}
use Rattle.lrc_races_trace.specs.declared.event.Event.{Event}
use Rattle.lrc_races_detector.specs.declared.waits.Waiting.{Waiting}
use Rattle.lrc_races_detector.specs.declared.waits.Waits.{Waits}
use Rattle.lrc_races_detector.specs.Waits.{waiting_at, waiting_of, IsWait}
use Rattle.lrc_races_detector.proofs.waits.Waits.new.Goals as goal

no_wait : (events : List Event) (waits : Waits) → waits.threads.items ≡ [] → (u : ℕ) → IsWait events 0 u (waiting_of waits u)
no_wait events waits e u =
    let none : waiting_of waits u ≡ None = ap (λ xs. waiting_at (slice_get xs u)) e in
    subst (λ (o : Option Waiting). IsWait events 0 u o) (sym none) (λ x a at. let lt = at.last.before in omega arith)

pub returns : goal.returns
returns c = λ events u. no_wait events (record { threads = c.new.result }) c.new.ensures.items u
