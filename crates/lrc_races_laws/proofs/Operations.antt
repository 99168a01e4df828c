-- Which deed an operation stands for.
use Rattle.std.proofs.Common.{◌≡◌, ℕ, false, inl, inr, refl}
use Rattle.std.specs.Prelude.{Some, ◌⊎◌}
use Rattle.lrc_trace.specs.declared.act.Deed.{Deed}
use Rattle.lrc_trace.specs.declared.act.Deed.TheVariants.{Quiet, Print, Trap, End, Read as Reading}
use Rattle.lrc_trace.specs.declared.act.Deed.TheVariants.{Write as Writing, Acquire as Acquiring, Release as Releasing, Arrive as Arriving, Depart as Departing}
use Rattle.lrc_trace.specs.Run.{is_arrive, is_depart}
use Rattle.lrc_races_trace.specs.declared.event.Operation.TheVariants.{Read, Write, Acquire, Release, Arrive, Depart, Fork, Join}
use Rattle.lrc_races_trace.specs.Trace.{given, got}
use Rattle.lrc_races_trace.specs.Cycles.{Cycles, after_operation}
use Rattle.lrc_races_laws.specs.Traces.{Numbers, operation_of}

pub of_read : (numbers : Numbers) (d : Deed) (x : ℕ) → operation_of numbers d ≡ Read x → (w : ℕ) × (v : ℕ) × (d ≡ Reading w v) × (numbers.variable w ≡ x)
of_read numbers Quiet x e = let never : ⊥ = cc in absurd never
of_read numbers (Print v) x e = let never : ⊥ = cc in absurd never
of_read numbers (Reading w v) x e = (w, v, refl, cc)
of_read numbers (Writing w v) x e = let never : ⊥ = cc in absurd never
of_read numbers (Acquiring l) x e = let never : ⊥ = cc in absurd never
of_read numbers (Releasing l) x e = let never : ⊥ = cc in absurd never
of_read numbers Arriving x e = let never : ⊥ = cc in absurd never
of_read numbers Departing x e = let never : ⊥ = cc in absurd never
of_read numbers (Trap cause) x e = let never : ⊥ = cc in absurd never
of_read numbers End x e = let never : ⊥ = cc in absurd never

pub of_write : (numbers : Numbers) (d : Deed) (x : ℕ) → operation_of numbers d ≡ Write x → (w : ℕ) × (v : ℕ) × (d ≡ Writing w v) × (numbers.variable w ≡ x)
of_write numbers Quiet x e = let never : ⊥ = cc in absurd never
of_write numbers (Print v) x e = let never : ⊥ = cc in absurd never
of_write numbers (Reading w v) x e = let never : ⊥ = cc in absurd never
of_write numbers (Writing w v) x e = (w, v, refl, cc)
of_write numbers (Acquiring l) x e = let never : ⊥ = cc in absurd never
of_write numbers (Releasing l) x e = let never : ⊥ = cc in absurd never
of_write numbers Arriving x e = let never : ⊥ = cc in absurd never
of_write numbers Departing x e = let never : ⊥ = cc in absurd never
of_write numbers (Trap cause) x e = let never : ⊥ = cc in absurd never
of_write numbers End x e = let never : ⊥ = cc in absurd never

pub of_acquire : (numbers : Numbers) (d : Deed) (x : ℕ) → operation_of numbers d ≡ Acquire x → (l : ℕ) × (d ≡ Acquiring l) × (numbers.lock l ≡ x)
of_acquire numbers Quiet x e = let never : ⊥ = cc in absurd never
of_acquire numbers (Print v) x e = let never : ⊥ = cc in absurd never
of_acquire numbers (Reading w v) x e = let never : ⊥ = cc in absurd never
of_acquire numbers (Writing w v) x e = let never : ⊥ = cc in absurd never
of_acquire numbers (Acquiring l) x e = (l, refl, cc)
of_acquire numbers (Releasing l) x e = let never : ⊥ = cc in absurd never
of_acquire numbers Arriving x e = let never : ⊥ = cc in absurd never
of_acquire numbers Departing x e = let never : ⊥ = cc in absurd never
of_acquire numbers (Trap cause) x e = let never : ⊥ = cc in absurd never
of_acquire numbers End x e = let never : ⊥ = cc in absurd never

pub of_release : (numbers : Numbers) (d : Deed) (x : ℕ) → operation_of numbers d ≡ Release x → (l : ℕ) × (d ≡ Releasing l) × (numbers.lock l ≡ x)
of_release numbers Quiet x e = let never : ⊥ = cc in absurd never
of_release numbers (Print v) x e = let never : ⊥ = cc in absurd never
of_release numbers (Reading w v) x e = let never : ⊥ = cc in absurd never
of_release numbers (Writing w v) x e = let never : ⊥ = cc in absurd never
of_release numbers (Acquiring l) x e = let never : ⊥ = cc in absurd never
of_release numbers (Releasing l) x e = (l, refl, cc)
of_release numbers Arriving x e = let never : ⊥ = cc in absurd never
of_release numbers Departing x e = let never : ⊥ = cc in absurd never
of_release numbers (Trap cause) x e = let never : ⊥ = cc in absurd never
of_release numbers End x e = let never : ⊥ = cc in absurd never

pub of_given : (numbers : Numbers) (d : Deed) (x : ℕ) → given (operation_of numbers d) ≡ Some x → (l : ℕ) × (d ≡ Releasing l) × (numbers.lock l ≡ x)
of_given numbers Quiet x e = let never : ⊥ = cc in absurd never
of_given numbers (Print v) x e = let never : ⊥ = cc in absurd never
of_given numbers (Reading w v) x e = let never : ⊥ = cc in absurd never
of_given numbers (Writing w v) x e = let never : ⊥ = cc in absurd never
of_given numbers (Acquiring l) x e = let never : ⊥ = cc in absurd never
of_given numbers (Releasing l) x e = (l, refl, cc)
of_given numbers Arriving x e = let never : ⊥ = cc in absurd never
of_given numbers Departing x e = let never : ⊥ = cc in absurd never
of_given numbers (Trap cause) x e = let never : ⊥ = cc in absurd never
of_given numbers End x e = let never : ⊥ = cc in absurd never

pub of_got : (numbers : Numbers) (d : Deed) (x : ℕ) → got (operation_of numbers d) ≡ Some x → (l : ℕ) × (d ≡ Acquiring l) × (numbers.lock l ≡ x)
of_got numbers Quiet x e = let never : ⊥ = cc in absurd never
of_got numbers (Print v) x e = let never : ⊥ = cc in absurd never
of_got numbers (Reading w v) x e = let never : ⊥ = cc in absurd never
of_got numbers (Writing w v) x e = let never : ⊥ = cc in absurd never
of_got numbers (Acquiring l) x e = (l, refl, cc)
of_got numbers (Releasing l) x e = let never : ⊥ = cc in absurd never
of_got numbers Arriving x e = let never : ⊥ = cc in absurd never
of_got numbers Departing x e = let never : ⊥ = cc in absurd never
of_got numbers (Trap cause) x e = let never : ⊥ = cc in absurd never
of_got numbers End x e = let never : ⊥ = cc in absurd never

pub of_arrive : (numbers : Numbers) (d : Deed) (x : ℕ) → operation_of numbers d ≡ Arrive x → (d ≡ Arriving) × (numbers.barrier ≡ x)
of_arrive numbers Quiet x e = let never : ⊥ = cc in absurd never
of_arrive numbers (Print v) x e = let never : ⊥ = cc in absurd never
of_arrive numbers (Reading w v) x e = let never : ⊥ = cc in absurd never
of_arrive numbers (Writing w v) x e = let never : ⊥ = cc in absurd never
of_arrive numbers (Acquiring l) x e = let never : ⊥ = cc in absurd never
of_arrive numbers (Releasing l) x e = let never : ⊥ = cc in absurd never
of_arrive numbers Arriving x e = (refl, cc)
of_arrive numbers Departing x e = let never : ⊥ = cc in absurd never
of_arrive numbers (Trap cause) x e = let never : ⊥ = cc in absurd never
of_arrive numbers End x e = let never : ⊥ = cc in absurd never

pub of_depart : (numbers : Numbers) (d : Deed) (x : ℕ) → operation_of numbers d ≡ Depart x → (d ≡ Departing) × (numbers.barrier ≡ x)
of_depart numbers Quiet x e = let never : ⊥ = cc in absurd never
of_depart numbers (Print v) x e = let never : ⊥ = cc in absurd never
of_depart numbers (Reading w v) x e = let never : ⊥ = cc in absurd never
of_depart numbers (Writing w v) x e = let never : ⊥ = cc in absurd never
of_depart numbers (Acquiring l) x e = let never : ⊥ = cc in absurd never
of_depart numbers (Releasing l) x e = let never : ⊥ = cc in absurd never
of_depart numbers Arriving x e = let never : ⊥ = cc in absurd never
of_depart numbers Departing x e = (refl, cc)
of_depart numbers (Trap cause) x e = let never : ⊥ = cc in absurd never
of_depart numbers End x e = let never : ⊥ = cc in absurd never

pub of_fork : (numbers : Numbers) (d : Deed) (x : ℕ) → operation_of numbers d ≡ Fork x → ⊥
of_fork numbers Quiet x e = let never : ⊥ = cc in never
of_fork numbers (Print v) x e = let never : ⊥ = cc in never
of_fork numbers (Reading w v) x e = let never : ⊥ = cc in never
of_fork numbers (Writing w v) x e = let never : ⊥ = cc in never
of_fork numbers (Acquiring l) x e = let never : ⊥ = cc in never
of_fork numbers (Releasing l) x e = let never : ⊥ = cc in never
of_fork numbers Arriving x e = let never : ⊥ = cc in never
of_fork numbers Departing x e = let never : ⊥ = cc in never
of_fork numbers (Trap cause) x e = let never : ⊥ = cc in never
of_fork numbers End x e = let never : ⊥ = cc in never

pub of_join : (numbers : Numbers) (d : Deed) (x : ℕ) → operation_of numbers d ≡ Join x → ⊥
of_join numbers Quiet x e = let never : ⊥ = cc in never
of_join numbers (Print v) x e = let never : ⊥ = cc in never
of_join numbers (Reading w v) x e = let never : ⊥ = cc in never
of_join numbers (Writing w v) x e = let never : ⊥ = cc in never
of_join numbers (Acquiring l) x e = let never : ⊥ = cc in never
of_join numbers (Releasing l) x e = let never : ⊥ = cc in never
of_join numbers Arriving x e = let never : ⊥ = cc in never
of_join numbers Departing x e = let never : ⊥ = cc in never
of_join numbers (Trap cause) x e = let never : ⊥ = cc in never
of_join numbers End x e = let never : ⊥ = cc in never

-- a deed arrives, departs, or has nothing to do with a barrier
pub record IsElse (numbers : Numbers) (d : Deed) : Type 0 where
  pub no_arrive : is_arrive d ≡ false
  pub no_depart : is_depart d ≡ false
  pub stays : (x t : ℕ) (c : Cycles) → after_operation x t (operation_of numbers d) c ≡ c

pub view : (numbers : Numbers) (d : Deed) → (d ≡ Arriving) ⊎ ((d ≡ Departing) ⊎ IsElse numbers d)
view numbers Quiet = inr (inr (record { no_arrive = refl; no_depart = refl; stays = λ x t c. refl }))
view numbers (Print v) = inr (inr (record { no_arrive = refl; no_depart = refl; stays = λ x t c. refl }))
view numbers (Reading w v) = inr (inr (record { no_arrive = refl; no_depart = refl; stays = λ x t c. refl }))
view numbers (Writing w v) = inr (inr (record { no_arrive = refl; no_depart = refl; stays = λ x t c. refl }))
view numbers (Acquiring l) = inr (inr (record { no_arrive = refl; no_depart = refl; stays = λ x t c. refl }))
view numbers (Releasing l) = inr (inr (record { no_arrive = refl; no_depart = refl; stays = λ x t c. refl }))
view numbers Arriving = inl refl
view numbers Departing = inr (inl refl)
view numbers (Trap cause) = inr (inr (record { no_arrive = refl; no_depart = refl; stays = λ x t c. refl }))
view numbers End = inr (inr (record { no_arrive = refl; no_depart = refl; stays = λ x t c. refl }))
