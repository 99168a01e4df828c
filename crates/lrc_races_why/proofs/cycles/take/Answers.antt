-- The cycles of each barrier, one event further.
use Rattle.std.proofs.Common.{◌≡◌, ◌+◌, sym, subst, arith, inl, inr}
use Rattle.std.specs.Prelude.{Option, slice_get}
use Rattle.std.proofs.lemmas.Bool.{cases_eq}
use Rattle.lrc_races_trace.proofs.Cycles.{cycles_before-few}
use Rattle.lrc_races_detector.specs.declared.barriers.Barrier.{Barrier}
use Rattle.lrc_races_why.specs.Cycles.{IsCycles}
use Rattle.lrc_races_why.proofs.Cycling.{Cycles-kept, Cycles-same, Cycles-arrived, Cycles-departed}
use Rattle.lrc_races_why.proofs.cycles.take.Goals as goal

pub returns-in_default : goal.returns-in_default
returns-in_default c = λ events n few here old x.
    Cycles-kept events n c.args.event here x (c.in_default.not-Arrive x) (c.in_default.not-Depart x) (slice_get c.args.barriers.now.items x) (old x)

-- an arrive or a depart at one barrier says nothing of another
pub returns-in_ok-arrive-in-Arrive : goal.returns-in_ok-arrive-in-Arrive
returns-in_ok-arrive-in-Arrive c = λ events n few here old x.
    let old_x = slice_get c.args.barriers.now.items x in
    let new_x = slice_get c.arrive.new.barriers.items x in
    let y = c.in-Arrive.barrier in
    elim (cases_eq x y) [
      | inl here_too ↦
          subst (λ z. IsCycles events (n + 1) z (slice_get c.arrive.new.barriers.items z)) (sym here_too)
          (Cycles-arrived events n c.args.event here y c.in-Arrive.is (slice_get c.args.barriers.now.items y)
          (slice_get c.arrive.new.barriers.items y) _ c.in_ok-arrive-in-Arrive.ensures.here (old y))
      | inr other ↦
          Cycles-kept events n c.args.event here x
          (λ e. let one : x ≡ y = cc in other one) (λ e. let never : ⊥ = cc in never) new_x
          (Cycles-same events n c.args.event here x n old_x new_x (c.in_ok-arrive-in-Arrive.ensures.others x other) (old x))
    ]

pub returns-in_ok-depart-in-Depart : goal.returns-in_ok-depart-in-Depart
returns-in_ok-depart-in-Depart c = λ events n few here old x.
    let old_x = slice_get c.args.barriers.now.items x in
    let new_x = slice_get c.depart.new.barriers.items x in
    let y = c.in-Depart.barrier in
    elim (cases_eq x y) [
      | inl here_too ↦
          let below = cycles_before-few events y n in
          let current = (old y).current in
          subst (λ z. IsCycles events (n + 1) z (slice_get c.depart.new.barriers.items z)) (sym here_too)
          (Cycles-departed events n c.args.event here y c.in-Depart.is (slice_get c.args.barriers.now.items y)
          (slice_get c.depart.new.barriers.items y) (c.in_ok-depart-in-Depart.ensures.here (omega arith)) (old y))
      | inr other ↦
          Cycles-kept events n c.args.event here x
          (λ e. let never : ⊥ = cc in never) (λ e. let one : x ≡ y = cc in other one) new_x
          (subst (λ (o : Option Barrier). IsCycles events n x o) (sym (c.in_ok-depart-in-Depart.ensures.others x other)) (old x))
    ]
