-- A thread that comes round turns for ever; and settling leads to one state.
use Rattle.std.proofs.Common.{◌≡◌, ℕ, zero, suc, ◌+◌, ◌-◌, ◌<◌, ◌≤◌, List, ◌∷◌, inl, inr, refl, sym, ap, ◌∙◌, subst, arith, zero-add, suc-add}
use Rattle.std.specs.Prelude.{Option, Some, None, IsSome, option_and_then}
use Rattle.std.proofs.lemmas.Bool.{cases_eq, cases_lt}
use Rattle.std.proofs.lemmas.Option.{same_Some, some_pair_parts, option_and_then_some}
use Rattle.lrc_trace.specs.declared.act.Act.{Act}
use Rattle.lrc_trace.specs.Run.{act_of}
use Rattle.lrc_exec.specs.Meaning.{Thread, next_of}
use Rattle.lrc_exec.specs.Plain.{Plain, plain_step}
use Rattle.lrc_orders_laws.specs.Free.{after_quiet, after_quiets, Turns}
use Rattle.lrc_orders_laws.specs.Settling.{IsNextToSettle, Settles, settled, settling}
use Rattle.lrc_orders_laws.proofs.Turning.{no_some}

-- so many quiet acts and prints, and then more
pub more_quiets : (a b : ℕ) (thread mid : Thread) → after_quiets a thread ≡ Some mid → after_quiets (a + b) thread ≡ after_quiets b mid
more_quiets zero b thread mid e =
    ap (λ n. after_quiets n thread) (zero-add b) ∙ ap (after_quiets b) (same_Some thread mid e)
more_quiets (suc a) b thread mid e =
    option_and_then_some (λ after. after_quiets a after) (after_quiet (next_of thread)) mid e (λ next is more.
    ap (λ n. after_quiets n thread) (suc-add a b)
    ∙ ap (option_and_then (λ after. after_quiets (a + b) after)) is
    ∙ more_quiets a b next mid more)

fewer_by : (a b : ℕ) → ((thread : Thread) → IsSome (after_quiets (a + b) thread) → IsSome (after_quiets a thread)) → (o : Option Thread)
    → IsSome (option_and_then (λ after. after_quiets (a + b) after) o) → IsSome (option_and_then (λ after. after_quiets a after) o)
fewer_by a b less None some = no_some some
fewer_by a b less (Some after) some = less after some

pub fewer_quiets : (a b : ℕ) (thread : Thread) → IsSome (after_quiets (a + b) thread) → IsSome (after_quiets a thread)
fewer_quiets zero b thread some = refl
fewer_quiets (suc a) b thread some =
    fewer_by a b (fewer_quiets a b) (after_quiet (next_of thread)) (subst (λ n. IsSome (after_quiets n thread)) (suc-add a b) some)

-- a thread that comes to one that turns does so itself
pub turns_before : (a : ℕ) (thread mid : Thread) → after_quiets a thread ≡ Some mid → Turns mid → Turns thread
turns_before a thread mid e turns = record {
  on = λ n.
      let there : IsSome (after_quiets (a + n) thread) = subst IsSome (sym (more_quiets a n thread mid e)) (turns.on n) in
      fewer_quiets n a thread (subst (λ k. IsSome (after_quiets k thread)) (let sum : a + n ≡ n + a = omega arith in sum) there);
}

none_or_some : (o : Option Thread) → (IsSome o → ⊥) → o ≡ None
none_or_some None never = refl
none_or_some (Some thread) never = absurd (never refl)

-- where so many quiet acts and prints do not come, more do not
pub none_after : (a b : ℕ) (thread : Thread) → after_quiets a thread ≡ None → after_quiets (a + b) thread ≡ None
none_after a b thread e =
    none_or_some (after_quiets (a + b) thread) (λ some. no_some (subst IsSome e (fewer_quiets a b thread some)))

module _ (thread : Thread) (count : ℕ) (some : 0 < count) (round : after_quiets count thread ≡ Some thread) where
  goes_round : (most n : ℕ) → n ≤ most → IsSome (after_quiets n thread)
  goes_round zero n le = subst (λ k. IsSome (after_quiets k thread)) (let e : 0 ≡ n = omega (arith, le) in e) refl
  goes_round (suc most) n le = elim (cases_lt n count) [
    | inl lt ↦
        let sum : count ≡ n + (count - n) = omega (arith, lt) in
        let all : IsSome (after_quiets count thread) = subst IsSome (sym round) refl in
        fewer_quiets n (count - n) thread (subst (λ k. IsSome (after_quiets k thread)) sum all)
    | inr ge ↦
        let sum : count + (n - count) ≡ n = omega (arith, ge) in
        let rest : IsSome (after_quiets (n - count) thread) = goes_round most (n - count) (omega (arith, ge, le, some)) in
        subst (λ k. IsSome (after_quiets k thread)) sum (subst IsSome (sym (more_quiets count (n - count) thread thread round)) rest)
  ]

  pub turns_round : Turns thread
  turns_round = record { on = λ n. goes_round n n (omega arith) }

-- the node that settles next is one
one_next : (machine : Plain) (a b : ℕ) → IsNextToSettle machine a → IsNextToSettle machine b → a ≡ b
one_next machine a b x y = elim (cases_eq a b) [
  | inl same ↦ same
  | inr apart ↦ elim (cases_lt a b) [
    | inl lt ↦ absurd (x.stops (y.lowest a lt x.free))
    | inr le ↦ absurd (y.stops (x.lowest b (omega (arith, le, apart)) y.free))
  ]
]

pub one_settling : {machine there other : Plain} {acts others : List Act} → Settles machine acts there → Settles machine others other
    → (acts ≡ others) × (there ≡ other)
one_settling (settled machine is) (settled _ is') = (refl, refl)
one_settling (settled machine is) (settling _ after there node deed acts next step more) = absurd (next.stops (is.each node next.free))
one_settling (settling machine after there node deed acts next step more) (settled _ is) = absurd (next.stops (is.each node next.free))
one_settling (settling machine after there node deed acts next step more) (settling _ after' there' node' deed' acts' next' step' more') =
    let same = one_next machine node node' next next' in
    let both = some_pair_parts deed deed' after after' (sym step ∙ ap (plain_step machine) same ∙ step') in
    let rest = one_settling more (subst (λ m. Settles m acts' there') (sym both.1) more') in (
      ap (λ k. act_of k deed ∷ acts) same ∙ ap (λ d. act_of node' d ∷ acts) both.0 ∙ ap (λ l. act_of node' deed' ∷ l) rest.0,
      rest.1,
    )
