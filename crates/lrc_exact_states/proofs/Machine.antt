-- What a key has of threads, locks and barriers is what the plain machine has.
use Rattle.std.proofs.Common.{◌≡◌, ℕ, ◌<◌, Bool, true, false, List, length, inl, inr, refl, sym, subst, ap, ◌∙◌, arith}
use Rattle.std.specs.Prelude.{◌-◌, Option, Some, None, if◌then◌else◌, slice_index, slice_index_or}
use Rattle.std.proofs.lemmas.Bool.{cases_Bool, cases_eq, eq-eqb, ne_eqb}
use Rattle.lrc_program.specs.declared.Program.{Program}
use Rattle.lrc_trace.specs.declared.act.Act.{Act}
use Rattle.lrc_trace.specs.Run.{arrives_before, departs_before}
use Rattle.lrc_trace.specs.Synchronization.{Holds}
use Rattle.lrc_exec.specs.Meaning.{Thread}
use Rattle.lrc_exec.specs.Plain.{Plain, start_of, thread_in}
use Rattle.lrc_exec.specs.Follows.{deeds_of}
use Rattle.lrc_consistency_laws.specs.Matching.{IsPaired}
use Rattle.lrc_lazy.specs.Standing.{departures_of, is_waiting}
use Rattle.lrc_exact.specs.Rule.{Shape, State}
use Rattle.lrc_exact_states.specs.Runs.{Base}
use Rattle.lrc_exact_states.specs.Key.{arrived_since, departed_since, each_from, is_held, key_of, thread_after}
use Rattle.lrc_exact_states.specs.Machine.{HasPartOfKey, is_holder, IsMadeBy}
use Rattle.lrc_exact_states.proofs.Held.{holds_is}
use Rattle.lrc_exact_states.proofs.Listed.{each_agree}
use Rattle.lrc_exact_states.proofs.Texts.{comes_is}

module _ (program : Program) (nodes : ℕ) (run : List Act) (machine : Plain) (made : IsMadeBy program nodes run machine) where
  held_is : (q l : ℕ) → is_held run q l (length run) ≡ is_holder q (slice_index_or machine.holders l None)
  held_is q l = by_holder (slice_index_or machine.holders l None) refl
    where
      says : (Holds run (length run) q l → is_held run q l (length run) ≡ true) × (is_held run q l (length run) ≡ true → Holds run (length run) q l)
      says = holds_is run q l (length run) (omega arith)

      never : (Holds run (length run) q l → ⊥) → is_held run q l (length run) ≡ false
      never none = elim (cases_Bool (is_held run q l (length run))) [ inl holds ↦ absurd (none (says.1 holds)) | inr fails ↦ fails ]

      by_holder : (o : Option ℕ) → slice_index_or machine.holders l None ≡ o → is_held run q l (length run) ≡ is_holder q o
      by_holder None free = never (λ h. made.matches.free l free q h)
      by_holder (Some holder) taken =
          let both = made.matches.held l holder taken in
          elim (cases_eq holder q) [
            | inl own ↦ says.0 (subst (λ n. Holds run (length run) n l) own both.0) ∙ sym (eq-eqb holder q own)
            | inr other ↦ never (λ h. other (sym (both.1 q h))) ∙ sym (ne_eqb holder q other)
          ]

  arrivals_are : (q : ℕ) → q < nodes → arrives_before run q (length run) ≡ slice_index machine.arrivals q
  arrivals_are q lt = let size = made.size in sym (made.matches.arrivals q (omega (arith, size, lt)))

  departures_are : (q : ℕ) → q < nodes → departs_before run q (length run) ≡ departures_of machine q
  departures_are q lt = by_thread (thread_in machine q) refl
    where
      arrived : arrives_before run q (length run) ≡ slice_index machine.arrivals q
      arrived = arrivals_are q lt

      by_wait : (b : Bool) → IsPaired b (arrives_before run q (length run)) (departs_before run q (length run))
          → departs_before run q (length run) ≡ slice_index machine.arrivals q - (if b then 1 else 0)
      by_wait true paired = omega (arith, arrived, paired)
      by_wait false paired = omega (arith, arrived, paired)

      by_thread : (o : Option Thread) → thread_in machine q ≡ o → departs_before run q (length run) ≡ departures_of machine q
      by_thread None is =
          let stopped = made.stopped q lt is in
          by_wait false (let e : arrives_before run q (length run) ≡ departs_before run q (length run) = omega (arith, stopped) in e)
          ∙ ap (λ (o : Option Thread). slice_index machine.arrivals q - (if is_waiting o then 1 else 0)) (sym is)
      by_thread (Some t) is =
          by_wait t.arrived (made.matches.threads q t is).paired
          ∙ ap (λ (o : Option Thread). slice_index machine.arrivals q - (if is_waiting o then 1 else 0)) (sym is)

  thread_is : (q : ℕ) → q < nodes → thread_after (deeds_of q run) (Some (start_of program nodes q)) ≡ thread_in machine q
  thread_is q lt = comes_is (deeds_of q run) (Some (start_of program nodes q)) (thread_in machine q) (made.leads q lt)

pub machine_has_part : (program : Program) (shape : Shape) (cap : ℕ) (base : Base) (run : List Act) (states : List State) (machine : Plain)
    → IsMadeBy program shape.nodes run machine → HasPartOfKey shape.nodes program.locks base.first machine (key_of program shape cap base run states)
machine_has_part program shape cap base run states machine made = record {
  threads = each_agree (λ (q : ℕ). thread_after (deeds_of q run) (Some (start_of program shape.nodes q))) (thread_in machine) 0 shape.nodes
      (λ q low high. thread_is program shape.nodes run machine made q (omega (arith, high)));
  held = each_agree (λ (q : ℕ). each_from 0 program.locks (λ (l : ℕ). is_held run q l (length run)))
      (λ (q : ℕ). each_from 0 program.locks (λ (l : ℕ). is_holder q (slice_index_or machine.holders l None))) 0 shape.nodes
      (λ q low high.
      each_agree (λ (l : ℕ). is_held run q l (length run)) (λ (l : ℕ). is_holder q (slice_index_or machine.holders l None)) 0 program.locks
      (λ l low' high'. held_is program shape.nodes run machine made q l));
  arrived = each_agree (arrived_since base run) (λ (q : ℕ). slice_index machine.arrivals q - base.first) 0 shape.nodes
      (λ q low high. ap (λ n. n - base.first) (arrivals_are program shape.nodes run machine made q (omega (arith, high))));
  departed = each_agree (departed_since base run) (λ (q : ℕ). departures_of machine q - base.first) 0 shape.nodes
      (λ q low high. ap (λ n. n - base.first) (departures_are program shape.nodes run machine made q (omega (arith, high))));
}
