-- Who holds each lock, one event further.
use Rattle.std.proofs.Common.{◌≡◌, ◌≢◌, ℕ, ◌+◌, ◌<◌, ◌≤◌, ◌^◌, List, inl, inr, refl, sym, subst, ◌∙◌, arith}
use Rattle.std.specs.Prelude.{Option, Some, None, IfSome}
use Rattle.std.proofs.lemmas.Bool.{cases_eq}
use Rattle.lrc_races_trace.specs.declared.event.Event.{Event}
use Rattle.lrc_races_trace.specs.declared.event.Operation.{Operation}
use Rattle.lrc_races_trace.specs.declared.event.Operation.TheVariants.{Read, Write, Acquire, Release, Post, Wait, Fork, Join, Arrive, Depart, Idle}
use Rattle.lrc_races_trace.specs.declared.fault.Holder.{Holder}
use Rattle.lrc_races_trace.specs.Trace.{At}
use Rattle.lrc_races_trace.specs.Formed.{holder_before, held_after_operation, after_acquire, after_release}
use Rattle.lrc_races_trace.proofs.Holders.{holder_before-next, depth_of}
use Rattle.lrc_races_detector.specs.declared.held.Holders.{Holders}
use Rattle.lrc_races_detector.specs.Held.{holder_of, IsHolderSet, AreHolders}

-- one more acquire can be counted
pub fits : (holder : Option Holder) (n : ℕ) → depth_of holder ≤ n → n + 1 < 2 ^ 64 → IfSome holder (λ h. h.depth + 1 < 2 ^ 64)
fits None n little few = tt
fits (Some holder) n little few = omega arith

pub acquired : (e : Event) (l : ℕ) (x : Option Holder) → held_after_operation l e (Acquire l) x ≡ after_acquire e x
acquired e l x = grind arith

pub acquired_other : (e : Event) (l m : ℕ) (x : Option Holder) → m ≢ l → held_after_operation l e (Acquire m) x ≡ x
acquired_other e l m x other = grind (arith, other)

pub released : (e : Event) (l : ℕ) (x : Option Holder) → held_after_operation l e (Release l) x ≡ after_release e x
released e l x = grind arith

pub released_other : (e : Event) (l m : ℕ) (x : Option Holder) → m ≢ l → held_after_operation l e (Release m) x ≡ x
released_other e l m x other = grind (arith, other)

-- what is no acquire and no release changes nothing
unheld : (e : Event) (l : ℕ) (o : Operation) (x : Option Holder) → ((m : ℕ) → o ≡ Acquire m → ⊥) → ((m : ℕ) → o ≡ Release m → ⊥)
    → held_after_operation l e o x ≡ x
unheld e l (Acquire m) x f g = absurd (f m refl)
unheld e l (Release m) x f g = absurd (g m refl)
unheld e l (Read v) x f g = refl
unheld e l (Write v) x f g = refl
unheld e l (Post v) x f g = refl
unheld e l (Wait v) x f g = refl
unheld e l (Fork v) x f g = refl
unheld e l (Join v) x f g = refl
unheld e l (Arrive v) x f g = refl
unheld e l (Depart v) x f g = refl
unheld e l Idle x f g = refl

module _ (events : List Event) (n : ℕ) (e : Event) (here : At events n e) where
  pub holders_kept : (holders : Holders) → ((m : ℕ) → e.operation ≡ Acquire m → ⊥) → ((m : ℕ) → e.operation ≡ Release m → ⊥)
      → AreHolders events n holders → AreHolders events (n + 1) holders
  holders_kept holders f g old l = old l ∙ sym (unheld e l e.operation (holder_before events l n) f g) ∙ sym (holder_before-next events l n e here)

  pub holders_set : (m : ℕ) (holders after : Holders) (holder : Option Holder) → IsHolderSet holders after m holder
      → held_after_operation m e e.operation (holder_before events m n) ≡ holder
      → ((l : ℕ) → l ≢ m → held_after_operation l e e.operation (holder_before events l n) ≡ holder_before events l n)
      → AreHolders events n holders → AreHolders events (n + 1) after
  holders_set m holders after holder set is apart old l =
      elim (cases_eq l m) [
        | inl same ↦ subst (λ k. holder_of after k ≡ holder_before events k (n + 1)) (sym same)
            (set.here ∙ sym is ∙ sym (holder_before-next events m n e here))
        | inr other ↦ set.others l other ∙ old l ∙ sym (apart l other) ∙ sym (holder_before-next events l n e here)
      ]
