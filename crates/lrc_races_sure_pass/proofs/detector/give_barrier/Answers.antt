-- What barriers keep, one event further.
use Rattle.std.proofs.Common.{◌≡◌, ◌+◌, refl, sym, subst, arith, inl, inr}
use Rattle.std.specs.Prelude.{Option, slice_get}
use Rattle.std.proofs.lemmas.Bool.{cases_eq}
use Rattle.lrc_races_trace.proofs.Cycles.{cycles_before-few}
use Rattle.lrc_races_detector.specs.declared.barriers.Barrier.{Barrier}
use Rattle.lrc_races_detector.specs.Barriers.{SameBarrier}
use Rattle.lrc_races_sure_pass.specs.Knowing.{IsBarrier}
use Rattle.lrc_races_sure_pass.proofs.Giving.{barrier_kept, barrier_arrived, barrier_departed}
use Rattle.lrc_races_detector.specs.Vectors.{entries}
use Rattle.lrc_races_sure_pass.proofs.detector.give_barrier.Goals as goal

same : (o : Option Barrier) → SameBarrier o o
same o = record { current = refl; arrived = refl; of = λ t. refl; closed = λ t. refl }

pub returns-in_default : goal.returns-in_default
returns-in_default c = λ events n few here g old x.
    let o = slice_get c.args.barriers.now.barriers.items x in
    barrier_kept events n c.args.event here x (c.in_default.not-Arrive x) (c.in_default.not-Depart x) o o (same o) (old x)

-- an arrive or a depart at one barrier says nothing of another
pub returns-in_ok-arrive-in-Arrive : goal.returns-in_ok-arrive-in-Arrive
returns-in_ok-arrive-in-Arrive c = λ events n few here g old x.
    let old_x = slice_get c.args.barriers.now.barriers.items x in
    let new_x = slice_get c.arrive.new.self.barriers.items x in
    let y = c.in-Arrive.barrier in
    elim (cases_eq x y) [
      | inl here_too ↦
          subst (λ z. IsBarrier events (n + 1) z (slice_get c.arrive.new.self.barriers.items z)) (sym here_too)
          (barrier_arrived events n c.args.event here y c.in-Arrive.is (slice_get c.args.barriers.now.barriers.items y)
          (slice_get c.arrive.new.self.barriers.items y) (entries c.args.known) g c.in_ok-arrive-in-Arrive.ensures.here (old y))
      | inr other ↦
          barrier_kept events n c.args.event here x
          (λ e. let one : x ≡ y = cc in other one) (λ e. let never : ⊥ = cc in never) old_x new_x
          (c.in_ok-arrive-in-Arrive.ensures.others x other) (old x)
    ]

pub returns-in_ok-depart-in-Depart : goal.returns-in_ok-depart-in-Depart
returns-in_ok-depart-in-Depart c = λ events n few here g old x.
    let old_x = slice_get c.args.barriers.now.barriers.items x in
    let new_x = slice_get c.depart.new.self.barriers.items x in
    let y = c.in-Depart.barrier in
    elim (cases_eq x y) [
      | inl here_too ↦
          let below = cycles_before-few events y n in
          let current = (old y).current in
          subst (λ z. IsBarrier events (n + 1) z (slice_get c.depart.new.self.barriers.items z)) (sym here_too)
          (barrier_departed events n c.args.event here y c.in-Depart.is (slice_get c.args.barriers.now.barriers.items y)
          (slice_get c.depart.new.self.barriers.items y) (c.in_ok-depart-in-Depart.ensures.here (omega arith)) (old y))
      | inr other ↦
          barrier_kept events n c.args.event here x
          (λ e. let never : ⊥ = cc in never) (λ e. let one : x ≡ y = cc in other one) old_x new_x
          (subst (λ (o : Option Barrier). SameBarrier o old_x) (sym (c.in_ok-depart-in-Depart.ensures.others x other)) (same old_x)) (old x)
    ]
