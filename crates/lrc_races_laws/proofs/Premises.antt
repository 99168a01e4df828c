-- What every run on at most 16 nodes has of its numbers.
use Rattle.std.proofs.Common.{◌≡◌, ℕ, ◌+◌, ◌*◌, ◌^◌, ◌<◌, ◌≤◌, List, [], ◌∷◌, suc, length, take, sym, subst, refl, arith, All}
use Rattle.std.specs.Prelude.{◌==◌, ◌&&◌, Bool, Some, slice_get, slice_index}
use Rattle.std.proofs.Math.Nat.{mul-le-mul_left}
use Rattle.std.proofs.lemmas.List.{length-take}
use Rattle.std.proofs.lemmas.List.Sums.{count_by-le-length}
use Rattle.lrc_program.specs.declared.Program.{Program}
use Rattle.lrc_program.specs.Tree.{program_of}
use Rattle.lrc_lang.proofs.Shared.{text_shared}
use Rattle.lrc_trace.specs.declared.act.Act.{Act}
use Rattle.lrc_trace.specs.declared.act.Deed.{Deed}
use Rattle.lrc_trace.specs.declared.act.Deed.TheVariants as deeds
use Rattle.lrc_trace.specs.Run.{act_of, count_of, is_arrive, is_depart, arrives_before, departs_before}
use Rattle.lrc_protocol.proofs.Texts.{text}
use Rattle.lrc_reading_laws.proofs.Whole.{reads}
use Rattle.lrc_acts.specs.Printed.{IsRanged}
use Rattle.lrc_acts_text.specs.Rapid.{RapidStep, rapid_of, meeting_at}
use Rattle.lrc_acts_text.proofs.Steps.{Comes, reading, writing, acquiring, releasing, arriving, arrived, departing, departed, act_of_step}
use Rattle.lrc_acts_text_laws.proofs.Printing.{text_ranged}
use Rattle.lrc_acts_text_laws.proofs.PlacesFit.{places_few, act_lines_few}
use Rattle.lrc_races_laws.specs.Runs.{IsLinedRun}
use Rattle.lrc_races_laws.proofs.ActEvents.{ranged_at}
use Rattle.lrc_races_laws.proofs.ActLines.{AreLow}
use Rattle.lrc_races_laws.proofs.StepLines.{IsDone, AreDone, none_done, more_done, AreFew}

module _ (program : Program) (nodes : ℕ) (acts : List Act) (lines : List ℕ) (is : IsLinedRun program nodes acts lines) where
  pub ranged : All IsRanged acts
  ranged =
      subst (All IsRanged) (sym is.are_acts)
      (text_ranged is.text program nodes is.world.acts is.is_text is.few (text program nodes is.options is.steps is.world is.runs)
      (reads program nodes is.options is.world (record { events = is.steps; runs = is.runs })))

  pub low : AreLow lines
  low =
      subst AreLow (sym is.are_lines)
      (act_lines_few program nodes 65537 is.places (places_few is.text (program_of program) is.places is.is_text.fits is.are_places) acts)

  pub few : AreFew lines
  few k = let here : slice_index lines k ≤ 65537 = low k in omega arith

  module _ (length_few : length acts < 2 ^ 64) where
    counted : (kind : Deed → Bool) (node place : ℕ) → count_of kind node (take place acts) < 2 ^ 64
    counted kind node place =
        let a = count_by-le-length (λ (act : Act). act.node == node && kind act.deed) (take place acts) in
        let b = length-take place acts in
        omega arith

    lock_few : (locks number node : ℕ) → locks ≤ 64 → number < 2 ^ 64 → node ≤ 16 → locks + number * nodes + node < 10 ^ 64
    lock_few locks number node l n m =
        let le : number * nodes ≤ number * 16 = mul-le-mul_left number is.few in
        omega arith

    locks_few : program.locks ≤ 64
    locks_few = (text_shared is.text (program_of program) is.is_text).2

    node_few : (act : Act) → IsRanged act → act.node < 10 ^ 64
    node_few act r = let n = r.node in omega arith

    -- the step is that of an act
    one_done : (place node : ℕ) (deed : Deed) (s : RapidStep) → IsRanged (act_of node deed)
        → Comes (meeting_at program.locks nodes acts node place) place node deed s → (act : Act) × IsDone s act
    one_done place node deed s r (reading {w = w} {value = value}) =
        let h = r.deed in
        (act_of node (deeds.Read w value), record { is = refl; one = tt; node = node_few _ r; number = omega (arith, h.0) })
    one_done place node deed s r (writing {w = w} {value = value}) =
        let h = r.deed in
        (act_of node (deeds.Write w value), record { is = refl; one = tt; node = node_few _ r; number = omega (arith, h.0) })
    one_done place node deed s r (acquiring {l = l}) =
        let h = r.deed in
        (act_of node (deeds.Acquire l), record { is = refl; one = tt; node = node_few _ r; number = omega (arith, h) })
    one_done place node deed s r (releasing {l = l}) =
        let h = r.deed in
        (act_of node (deeds.Release l), record { is = refl; one = tt; node = node_few _ r; number = omega (arith, h) })
    one_done place node deed s r arriving =
        let n = r.node in
        let few = lock_few program.locks (arrives_before acts node place) node locks_few (counted is_arrive node place) (omega arith) in
        (act_of node (deeds.Acquire (program.locks + arrives_before acts node place * nodes + node)), record { is = refl; one = tt; node = node_few _ r; number = few })
    one_done place node deed s r arrived =
        let n = r.node in
        let few = lock_few program.locks (arrives_before acts node place) node locks_few (counted is_arrive node place) (omega arith) in
        (act_of node (deeds.Release (program.locks + arrives_before acts node place * nodes + node)), record { is = refl; one = tt; node = node_few _ r; number = few })
    one_done place node deed s r (departing {q = q} lt) =
        let m = is.few in
        let few = lock_few program.locks (departs_before acts node place) q locks_few (counted is_depart node place) (omega arith) in
        (act_of node (deeds.Acquire (program.locks + departs_before acts node place * nodes + q)), record { is = refl; one = tt; node = node_few _ r; number = few })
    one_done place node deed s r (departed {q = q} lt) =
        let m = is.few in
        let few = lock_few program.locks (departs_before acts node place) q locks_few (counted is_depart node place) (omega arith) in
        (act_of node (deeds.Release (program.locks + departs_before acts node place * nodes + q)), record { is = refl; one = tt; node = node_few _ r; number = few })

    done_at : (k : ℕ) (s : RapidStep) → slice_get (rapid_of program.locks nodes acts) k ≡ Some s → (act : Act) × IsDone s act
    done_at k s e =
        let a = act_of_step program.locks nodes acts k s e in
        let does = a.does in
        one_done a.place a.node a.deed s (ranged_at acts ranged a.place (act_of a.node a.deed) does.stands) a.comes

    all_done : (steps : List RapidStep) → ((k : ℕ) (s : RapidStep) → slice_get steps k ≡ Some s → (act : Act) × IsDone s act)
        → (done : List Act) × AreDone steps done
    all_done [] each = ([], none_done)
    all_done (s ∷ steps) each =
        let (act, one) = each 0 s refl in
        let (others, rest) = all_done steps (λ k t e. each (suc k) t e) in
        (act ∷ others, more_done one rest)

    pub steps_done : (done : List Act) × AreDone (rapid_of program.locks nodes acts) done
    steps_done = all_done (rapid_of program.locks nodes acts) done_at
