-- Before any event nothing is known, and nothing is told.
use Rattle.std.proofs.Common.{◌≡◌, ℕ, [], List, refl, sym, subst, ap, arith}
use Rattle.std.specs.Prelude.{Option, None, slice_get}
use Rattle.lrc_races_trace.specs.declared.event.Event.{Event}
use Rattle.lrc_races_trace.proofs.Cycles.{cycles_before-none}
use Rattle.lrc_races_trace.specs.Cycles.{Cycles}
use Rattle.lrc_races_detector.specs.declared.clocks.Clocks.{Clocks}
use Rattle.lrc_races_detector.specs.declared.barriers.Barriers.{Barriers}
use Rattle.lrc_races_detector.specs.declared.barriers.Barrier.{Barrier}
use Rattle.lrc_races_detector.specs.declared.variables.Variables.{Variables}
use Rattle.lrc_races_detector.specs.declared.covers.Cover.{Cover}
use Rattle.lrc_races_detector.specs.declared.covers.Covers.{Covers}
use Rattle.lrc_races_detector.specs.Covers.{cover_at}
use Rattle.lrc_races_detector.specs.Clocks.{row}
use Rattle.lrc_races_detector.specs.Within.{entries_of}
use Rattle.lrc_races_detector.specs.Variables.{lasts_of, items_of}
use Rattle.lrc_races_detector.specs.Knowing.{Before, AreVariables, IsRow, ArrivesIn}
use Rattle.lrc_races_sure.specs.Leading.{IsLastWrite}
use Rattle.lrc_races_sure_pass.specs.Covers.{IsCover, AreCovers}
use Rattle.lrc_races_sure_pass.specs.Knowing.{Gathers, IsBarrier, AreBarriers, AreWrites}
use Rattle.lrc_races_sure_pass.proofs.Gathering.{Gathers-none}
use Rattle.lrc_races_sure_pass.proofs.detector.SureDetector.new.Goals as goal

none_known : (events : List Event) (P : ℕ → Type 0) (clocks : Clocks) → clocks.rows.items ≡ [] → (u : ℕ) → Gathers events (Before 0 P) (row clocks u)
none_known events P clocks e u =
    let empty : row clocks u ≡ [] = ap (λ rows. entries_of (slice_get rows u)) e in
    subst (λ r. Gathers events (Before 0 P) r) (sym empty) (Gathers-none events (Before 0 P) (λ k (lt, h). omega arith))

no_barrier : (events : List Event) (x : ℕ) → IsBarrier events 0 x None
no_barrier events x = record {
  current = sym (ap (λ (c : Cycles). c.current) (cycles_before-none events x));
  of = λ t. sym (ap (λ (c : Cycles). c.of t) (cycles_before-none events x));
  arrived = Gathers-none events (Before 0 (ArrivesIn events x 0)) (λ k (lt, h). omega arith);
  closed = λ t cycle of apart. Gathers-none events (Before 0 (ArrivesIn events x cycle)) (λ k (lt, h). omega arith);
}

no_barriers : (events : List Event) (barriers : Barriers) → barriers.barriers.items ≡ [] → AreBarriers events 0 barriers
no_barriers events barriers e x =
    let none : slice_get barriers.barriers.items x ≡ None = ap (λ xs. slice_get xs x) e in
    subst (λ (o : Option Barrier). IsBarrier events 0 x o) (sym none) (no_barrier events x)

no_variables : (events : List Event) (variables : Variables) → variables.rows.items ≡ [] → AreVariables events 0 variables
no_variables events variables e v =
    let empty : lasts_of variables v ≡ [] = ap (λ rows. items_of (slice_get rows v)) e in
    subst (λ r. IsRow events 0 v r) (sym empty) (record {
      ascending = λ i j d lt within. absurd (omega arith);
      sound = λ last (k, lt, is). absurd (omega arith);
      complete = λ u k lt h. absurd (omega arith);
    })

no_writes : (events : List Event) (writes : Clocks) → writes.rows.items ≡ [] → AreWrites events 0 writes
no_writes events writes e v =
    let empty : row writes v ≡ [] = ap (λ rows. entries_of (slice_get rows v)) e in
    subst (λ r. Gathers events (λ k. IsLastWrite events k 0 v) r) (sym empty)
    (Gathers-none events (λ k. IsLastWrite events k 0 v) (λ k last. let lt = last.before in omega arith))

no_covers : (events : List Event) (covers : Covers) → covers.covers.items ≡ [] → AreCovers events 0 covers
no_covers events covers e v =
    subst (λ (o : Option Cover). IsCover events 0 v o) (sym (ap (λ xs. cover_at (slice_get xs v)) e)) tt

pub returns : goal.returns
returns c = λ events. record {
  position = refl;
  threads = λ u. none_known events _ c.new.result c.new.ensures u;
  locks = λ l. none_known events _ c.new-2.result c.new-2.ensures l;
  barriers = no_barriers events c.new-3.result c.new-3.ensures;
  variables = no_variables events c.new-4.result c.new-4.ensures;
  writes = no_writes events c.new-5.result c.new-5.ensures;
  covers = no_covers events c.new-6.result c.new-6.ensures;
}
