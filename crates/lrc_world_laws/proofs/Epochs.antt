-- The epoch of a segment counts the departs before each access in its interval.
use Rattle.std.proofs.Common.{◌≡◌, ◌∙◌, ℕ, ◌<◌, arith, List, Some, sym, ap, inl, inr, length, get_or}
use Rattle.std.specs.Prelude.{Contains, slice_get}
use Rattle.std.proofs.lemmas.Bool.{cases_lt}
use Rattle.std.proofs.lemmas.List.{get_or_default, get_or-map, length-map}
use Rattle.lrc_program.specs.declared.Program.{Program}
use Rattle.lrc_trace.specs.Conflict.{Accesses}
use Rattle.lrc_trace.specs.Interval.{interval_at}
use Rattle.lrc_trace.specs.Run.{departs_before}
use Rattle.lrc_trace.specs.Segments.{AreSegments, intervals_of}
use Rattle.lrc_trace.specs.declared.trace.Segment.{Segment}
use Rattle.lrc_protocol.specs.declared.event.Event.{Event}
use Rattle.lrc_protocol.specs.Node.{OptionsRecord, fresh_node}
use Rattle.lrc_protocol.specs.Run.{Logged, World as Run, run_of}
use Rattle.lrc_protocol.specs.Traced.{trace_of}
use Rattle.lrc_reading_laws.proofs.Traced.Worlds.{all_traced}
use Rattle.lrc_world.specs.Epochs.{IsOfAccess}
use Rattle.lrc_world.proofs.Epochs.{of_access}

module _ (segments : List Segment) (are : AreSegments segments) where
  -- a segment further on is of a later interval
  later : (i j : ℕ) (a b : Segment) → i < j → j < length segments → get_or segments i a ≡ a → get_or segments j b ≡ b
      → a.interval < b.interval
  later i j a b before within is_a is_b =
      let long : length (intervals_of segments) ≡ length segments = length-map segments (λ s. s.interval) in
      let less : get_or (intervals_of segments) i 0 < get_or (intervals_of segments) j 0 =
      are.rising i j 0 before (omega (arith, within, long)) in
      let first : get_or (intervals_of segments) i 0 ≡ a.interval =
      get_or-map (λ s. s.interval) segments i a 0 (omega (arith, before, within)) ∙ ap (λ (s : Segment). s.interval) is_a in
      let second : get_or (intervals_of segments) j 0 ≡ b.interval =
      get_or-map (λ s. s.interval) segments j b 0 within ∙ ap (λ (s : Segment). s.interval) is_b in
      omega (arith, less, first, second)

  pub one_of_interval : (a b : Segment) → Contains segments a → Contains segments b → a.interval ≡ b.interval → a ≡ b
  one_of_interval a b has other same =
      elim (cases_lt has.0 other.0) [
        | inl before ↦ let less = later has.0 other.0 a b before other.1 has.2 other.2 in absurd (omega (arith, less, same))
        | inr not_before ↦ elim (cases_lt other.0 has.0) [
          | inl behind ↦ let less = later other.0 has.0 b a behind has.1 other.2 has.2 in absurd (omega (arith, less, same))
          | inr not_behind ↦
              let place : has.0 ≡ other.0 = omega (arith, not_before, not_behind) in
              sym has.2 ∙ ap (λ k. get_or segments k a) place ∙ get_or_default segments other.0 a b other.1 ∙ other.2
        ]
      ]

module _ (program : Program) (nodes : ℕ) (options : OptionsRecord) (events : List Event) (run : Run) (n : ℕ) (l : Logged)
    (runs : run_of program nodes options events ≡ Some run) (there : slice_get run.nodes n ≡ Some l) where
  -- the segments of the node's trace
  abbrev segments_here : List Segment
  segments_here = (trace_of (fresh_node program nodes options n) l.log).segments

  pub one_here : (segment other : Segment) → Contains segments_here segment → Contains segments_here other
      → segment.interval ≡ other.interval → segment ≡ other
  one_here =
      one_of_interval segments_here
      ((all_traced program nodes options run (record { events = events; runs = runs })).each n l there).segments

  pub epoch_at : (segment : Segment) (position word : ℕ) → Contains segments_here segment → Accesses run.acts position n word
      → segment.interval ≡ interval_at run.acts n position → segment.epoch ≡ departs_before run.acts n position
  epoch_at segment position word has accesses within =
      let of : (other : Segment) × Contains segments_here other × IsOfAccess run.acts n position other =
      of_access program nodes options events run runs n l there position word accesses in
      ap (λ (s : Segment). s.epoch) (one_here segment of.0 has of.1 (within ∙ sym of.2.interval)) ∙ of.2.epoch
