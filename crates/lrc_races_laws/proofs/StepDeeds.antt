-- Each step of a trace in the form of RAPID does one deed.
use Rattle.std.proofs.Common.{◌≡◌, ℕ, List, refl}
use Rattle.std.specs.Prelude.{Some, slice_get}
use Rattle.lrc_trace.specs.declared.act.Act.{Act}
use Rattle.lrc_trace.specs.declared.act.Deed.{Deed}
use Rattle.lrc_trace.specs.declared.act.Deed.TheVariants.{Read, Write, Acquire, Release}
use Rattle.lrc_acts_text.specs.Rapid.{RapidStep, rapid_of, lock_of_arrival}
use Rattle.lrc_acts_text.proofs.Steps.{Comes, reading, writing, acquiring, releasing, arriving, arrived, departing, departed, act_of_step}
use Rattle.lrc_acts_text_laws.specs.Traces.{DoesStep}

module _ (steps : List RapidStep) (k : ℕ) where
  deed_of : {meeting : _} {position node : ℕ} {deed : Deed} {s : RapidStep} → Comes meeting position node deed s → slice_get steps k ≡ Some s
      → (d : Deed) × DoesStep steps k s.node d
  deed_of {s = s} (reading {w = w} {value = v}) at = (Read w v, record { step = s; stands = at; is = λ m. refl })
  deed_of {s = s} (writing {w = w} {value = v}) at = (Write w v, record { step = s; stands = at; is = λ m. refl })
  deed_of {s = s} (acquiring {l = l}) at = (Acquire l, record { step = s; stands = at; is = λ m. refl })
  deed_of {s = s} (releasing {l = l}) at = (Release l, record { step = s; stands = at; is = λ m. refl })
  deed_of {meeting = m} {node = node} {s = s} arriving at =
      (Acquire (lock_of_arrival m m.arrived node), record { step = s; stands = at; is = λ n. refl })
  deed_of {meeting = m} {node = node} {s = s} arrived at =
      (Release (lock_of_arrival m m.arrived node), record { step = s; stands = at; is = λ n. refl })
  deed_of {meeting = m} {s = s} (departing {q = q} lt) at = (Acquire (lock_of_arrival m m.departed q), record { step = s; stands = at; is = λ n. refl })
  deed_of {meeting = m} {s = s} (departed {q = q} lt) at = (Release (lock_of_arrival m m.departed q), record { step = s; stands = at; is = λ n. refl })

pub deeds_of_steps : (locks nodes : ℕ) (acts : List Act) (k : ℕ) (s : RapidStep) → slice_get (rapid_of locks nodes acts) k ≡ Some s
    → (d : Deed) × DoesStep (rapid_of locks nodes acts) k s.node d
deeds_of_steps locks nodes acts k s at = deed_of (rapid_of locks nodes acts) k (act_of_step locks nodes acts k s at).comes at
