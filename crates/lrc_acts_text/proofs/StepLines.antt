-- The lines of the steps of one act are all of the act's line.
use Rattle.std.proofs.Common.{◌≡◌, ◌∙◌, ℕ, refl, sym, ap, ap₂, List, [], ◌∷◌, ◌++◌}
use Rattle.std.specs.Prelude.{slice_index}
use Rattle.std.specs.List.{flat_map, range_with_len}
use Rattle.std.proofs.lemmas.List.Concat.{flat_map-append, flat_map-cons}
use Rattle.lrc_trace.specs.declared.act.Deed.{Deed}
use Rattle.lrc_trace.specs.declared.act.Deed.TheVariants.{Quiet, Print, Read, Write, Acquire, Release, Arrive, Depart, Trap, End}
use Rattle.lrc_acts_text.specs.declared.rapid.Meeting.{Meeting}
use Rattle.lrc_acts_text.specs.Rapid.{RapidStep, lock_of_arrival, passes, rapid_steps, step_line}

module _ (lines : List ℕ) (meeting : Meeting) (position node : ℕ) where
  abbrev of_own : RapidStep → List ℕ
  of_own s = step_line (slice_index lines s.position) s

  abbrev of_act : RapidStep → List ℕ
  of_act s = step_line (slice_index lines position) s

  depart_lines : (nodes : List ℕ) (lock_of : ℕ → ℕ)
      → flat_map of_own (flat_map (λ q. passes node position (lock_of q)) nodes)
      ≡ flat_map of_act (flat_map (λ q. passes node position (lock_of q)) nodes)
  depart_lines [] lock_of = refl
  depart_lines (q ∷ nodes) lock_of =
      let of : ℕ → List RapidStep = λ q. passes node position (lock_of q) in
      let same : flat_map of_own (of q) ≡ flat_map of_act (of q) = refl in
      ap (flat_map of_own) (flat_map-cons of q nodes) ∙ flat_map-append of_own (of q) (flat_map of nodes)
      ∙ ap₂ ◌++◌ same (depart_lines nodes lock_of)
      ∙ sym (ap (flat_map of_act) (flat_map-cons of q nodes) ∙ flat_map-append of_act (of q) (flat_map of nodes))

  pub steps_lines : (deed : Deed) → flat_map of_own (rapid_steps meeting position node deed) ≡ flat_map of_act (rapid_steps meeting position node deed)
  steps_lines (Read w value) = refl
  steps_lines (Write w value) = refl
  steps_lines (Acquire l) = refl
  steps_lines (Release l) = refl
  steps_lines Arrive = refl
  steps_lines Depart = depart_lines (range_with_len 0 meeting.nodes) (λ q. lock_of_arrival meeting meeting.departed q)
  steps_lines Quiet = refl
  steps_lines (Print value) = refl
  steps_lines (Trap cause) = refl
  steps_lines End = refl
