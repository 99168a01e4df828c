-- By what one event comes right before another, whatever the rest of the trace.
use Rattle.std.proofs.Common.{◌≡◌, ℕ, ◌⊎◌, List, inl, inr, sym, subst, ◌∙◌, ap}
use Rattle.std.specs.Prelude.{◌≢◌, ◌↔◌, IsTrue, Bool, true, false, Some, None}
use Rattle.std.proofs.lemmas.Bool.{true≢false}
use Rattle.lrc_races_trace.specs.declared.event.Event.{Event}
use Rattle.lrc_races_trace.specs.declared.event.Operation.{Operation}
use Rattle.lrc_races_trace.specs.declared.event.Operation.TheVariants as Op
use Rattle.lrc_races_trace.specs.Trace.{At, given, got}
use Rattle.lrc_races_trace.specs.Order.{Precedes, program, lock, fork, join, fork_join, barrier}
use Rattle.lrc_races_trace.proofs.Positions.{At-one}
use Rattle.lrc_races_why.specs.declared.link.Link.TheVariants.{Lock, Fork, Join, Barrier}
use Rattle.lrc_races_why.specs.Links as by
use Rattle.lrc_races_why.specs.Links.{IsBy}

-- what two events are to each other where the one comes right before the other
pub data Stands (a b : Event) : Type 0 where
  by_thread : a.thread ≡ b.thread → Stands a b
  by_lock : {l : ℕ} → given a.operation ≡ Some l → got b.operation ≡ Some l → Stands a b
  by_fork : a.operation ≡ Op.Fork b.thread → Stands a b
  by_join : {u : ℕ} → b.operation ≡ Op.Join u → (a.thread ≡ u) ⊎ (a.operation ≡ Op.Fork u) → Stands a b
  by_barrier : {x : ℕ} → a.operation ≡ Op.Arrive x → b.operation ≡ Op.Depart x → Stands a b

module _ (events : List Event) (i j : ℕ) (a b : Event) (first : At events i a) (second : At events j b) where
  operation_a : {c : Event} {o : Operation} → At events i c → c.operation ≡ o → a.operation ≡ o
  operation_a at e = ap (λ (x : Event). x.operation) (At-one first at) ∙ e

  operation_b : {c : Event} {o : Operation} → At events j c → c.operation ≡ o → b.operation ≡ o
  operation_b at e = ap (λ (x : Event). x.operation) (At-one second at) ∙ e

  pub stands : Precedes events i j → Stands a b
  stands (program lt at there e) =
      by_thread (ap (λ (x : Event). x.thread) (At-one first at) ∙ e ∙ ap (λ (x : Event). x.thread) (At-one there second))
  stands (lock lt at there gives gets) =
      by_lock (ap (λ (x : Event). given x.operation) (At-one first at) ∙ gives) (ap (λ (x : Event). got x.operation) (At-one second there) ∙ gets)
  stands (fork lt at there e) = by_fork (operation_a at e ∙ ap (λ (x : Event). Op.Fork x.thread) (At-one there second))
  stands (join {a = c} lt at there e) = by_join (operation_b there e) (inl (ap (λ (x : Event). x.thread) (At-one first at)))
  stands (fork_join lt at there e f) = by_join (operation_b there f) (inr (operation_a at e))
  stands (barrier lt at there e f g) = by_barrier (operation_a at e) (operation_b there f)

-- events of different threads
module _ (a b : Event) (apart : a.thread ≢ b.thread) where
  pub joined : (u : ℕ) → b.operation ≡ Op.Join u → a.operation ≢ Op.Fork b.thread → Stands a b → IsBy a b (Join u)
  joined u is not (by_thread e) = absurd (apart e)
  joined u is not (by_lock {l = l} gives gets) =
      let never : got (Op.Join u) ≡ Some l = ap got (sym is) ∙ gets in let no : ⊥ = cc in absurd no
  joined u is not (by_fork e) = absurd (not e)
  joined u is not (by_join {u = w} e t) =
      let both : Op.Join w ≡ Op.Join u = sym e ∙ is in
      let same : w ≡ u = cc in
      by.join apart not is (subst (λ (x : ℕ). (a.thread ≡ x) ⊎ (a.operation ≡ Op.Fork x)) same t)
  joined u is not (by_barrier e f) = let both : Op.Join u ≡ Op.Depart _ = sym is ∙ f in let no : ⊥ = cc in absurd no

  module _ (unjoined : (u : ℕ) → b.operation ≢ Op.Join u) where
    pub locked : (l : ℕ) → given a.operation ≡ Some l → Stands a b → IsBy a b (Lock l)
    locked l gave (by_thread e) = absurd (apart e)
    locked l gave (by_lock {l = m} gives gets) =
        let both : Some m ≡ Some l = sym gives ∙ gave in
        let same : m ≡ l = cc in
        by.lock apart gave (subst (λ (x : ℕ). got b.operation ≡ Some x) same gets)
    locked l gave (by_fork e) = let never : given (Op.Fork b.thread) ≡ Some l = ap given (sym e) ∙ gave in let no : ⊥ = cc in absurd no
    locked l gave (by_join {u = u} e t) = absurd (unjoined u e)
    locked l gave (by_barrier {x = x} e f) = let never : given (Op.Arrive x) ≡ Some l = ap given (sym e) ∙ gave in let no : ⊥ = cc in absurd no

    pub barred : (x : ℕ) → a.operation ≡ Op.Arrive x → Stands a b → IsBy a b (Barrier x)
    barred x is (by_thread e) = absurd (apart e)
    barred x is (by_lock {l = l} gives gets) = let never : given (Op.Arrive x) ≡ Some l = ap given (sym is) ∙ gives in let no : ⊥ = cc in absurd no
    barred x is (by_fork e) = let both : Op.Arrive x ≡ Op.Fork b.thread = sym is ∙ e in let no : ⊥ = cc in absurd no
    barred x is (by_join {u = u} e t) = absurd (unjoined u e)
    barred x is (by_barrier {x = y} e f) =
        let both : Op.Arrive y ≡ Op.Arrive x = sym e ∙ is in
        let same : y ≡ x = cc in
        by.barrier apart is (f ∙ ap Op.Depart same)

    pub forked : given a.operation ≡ None → ((x : ℕ) → a.operation ≢ Op.Arrive x) → Stands a b → IsBy a b (Fork b.thread)
    forked none h (by_thread e) = absurd (apart e)
    forked none h (by_lock {l = l} gives gets) = let never : None ≡ Some l = sym none ∙ gives in let no : ⊥ = cc in absurd no
    forked none h (by_fork e) = by.fork apart e
    forked none h (by_join {u = u} e t) = absurd (unjoined u e)
    forked none h (by_barrier {x = x} e k) = absurd (h x e)

-- what a test says
pub is_true : (r : Bool) (P : Type 0) → (IsTrue r ↔ P) → r ≡ true → P
is_true r P says set = says.0 set

pub is_false : (r : Bool) (P : Type 0) → (IsTrue r ↔ P) → r ≡ false → P → ⊥
is_false r P says unset h = true≢false (sym (says.1 h) ∙ unset)
