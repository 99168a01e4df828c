-- Before any event no thread is joined, and none is known.
use Rattle.std.proofs.Common.{◌≡◌, ℕ, [], List, sym, subst, ap, arith}
use Rattle.std.specs.Prelude.{None, slice_get}
use Rattle.lrc_races_trace.specs.declared.event.Event.{Event}
use Rattle.lrc_races_detector.specs.declared.threads.Lines.{Lines}
use Rattle.lrc_races_detector.specs.Threads.{line_at, line_of, IsFirstLine}
use Rattle.lrc_races_detector.proofs.threads.Threads.new.Goals as goal

no_line : (events : List Event) (These : Event → Type 0) (lines : Lines) → lines.lines.items ≡ [] → (u : ℕ) → IsFirstLine events 0 These (line_of lines u)
no_line events These lines e u =
    let none : line_of lines u ≡ None = ap (λ xs. line_at (slice_get xs u)) e in
    subst (IsFirstLine events 0 These) (sym none) (λ k a lt at these. omega arith)

pub returns : goal.returns
returns c = λ events. record {
  joined = λ u. no_line events _ c.new.result c.new.ensures u;
  known = λ u. no_line events _ c.new-2.result c.new-2.ensures u;
}
