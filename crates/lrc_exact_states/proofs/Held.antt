-- A node holds a lock where the key says so.
use Rattle.std.proofs.Common.{◌≡◌, ℕ, zero, suc, ◌+◌, ◌≤◌, Bool, true, false, List, length, inl, inr, refl, sym, subst, ap, ◌∙◌, arith}
use Rattle.std.specs.Prelude.{◌==◌, Option, slice_get}
use Rattle.std.proofs.lemmas.Bool.{both_ways, cases_eq, cond-true, cond-false, eq-eqb, ne_eqb}
use Rattle.lrc_trace.specs.declared.act.Act.{Act}
use Rattle.lrc_trace.specs.declared.act.Deed.{Deed}
use Rattle.lrc_trace.specs.declared.act.Deed.TheVariants.{Acquire, Release}
use Rattle.lrc_trace.specs.Run.{Does}
use Rattle.lrc_trace.specs.Synchronization.{Holds}
use Rattle.lrc_trace.proofs.Holding.{Holds-acquired, Holds-cases, Holds-kept, Holds-start}
use Rattle.lrc_trace.proofs.Intervals.{act_at}
use Rattle.lrc_trace.proofs.Positions.{Does-deed}
use Rattle.lrc_exact_states.specs.Key.{held_by_act, held_by_deed, is_held}

-- what a deed does to a lock
data Uses (l : ℕ) (d : Deed) : Type 0 where
  acquires : d ≡ Acquire l → ((held : Bool) → held_by_deed l d held ≡ true) → Uses l d
  releases : d ≡ Release l → ((held : Bool) → held_by_deed l d held ≡ false) → Uses l d
  neither : (d ≡ Acquire l → ⊥) → (d ≡ Release l → ⊥) → ((held : Bool) → held_by_deed l d held ≡ held) → Uses l d

uses : (l : ℕ) (d : Deed) → Uses l d
uses l (Acquire m) =
    elim (cases_eq m l) [
      | inl same ↦ acquires (ap (λ x. Acquire x) same) (λ held. cond-true (m == l) true held (eq-eqb m l same))
      | inr other ↦
          neither (λ e. let same : m ≡ l = cc in other same) (λ e. let never : ⊥ = cc in never) (λ held. cond-false (m == l) true held (ne_eqb m l other))
    ]
uses l (Release m) =
    elim (cases_eq m l) [
      | inl same ↦ releases (ap (λ x. Release x) same) (λ held. cond-true (m == l) false held (eq-eqb m l same))
      | inr other ↦
          neither (λ e. let never : ⊥ = cc in never) (λ e. let same : m ≡ l = cc in other same) (λ held. cond-false (m == l) false held (ne_eqb m l other))
    ]
uses l d = neither (λ e. let never : ⊥ = cc in never) (λ e. let never : ⊥ = cc in never) (λ held. refl)

-- a node holds a lock, and that is said of it
abbrev Agrees : List Act → (q l n : ℕ) → Bool → Type 0
Agrees run q l n held = (Holds run n q l → held ≡ true) × (held ≡ true → Holds run n q l)

module _ (run : List Act) (q l n : ℕ) (act : Act) (here : Does run n act.node act.deed) (held : Bool) (before : Agrees run q l n held) where
  not_own : (q ≡ act.node → ⊥) → Agrees run q l (n + 1) held
  not_own other = (
    λ h. elim (Holds-cases run n act.node act.deed here q l h) [ inl (e, a) ↦ absurd (other e) | inr (was, r) ↦ before.0 was ],
    λ e. Holds-kept run n act.node act.deed here q l (λ own r. other own) (before.1 e),
  )

  own : q ≡ act.node → Agrees run q l (n + 1) (held_by_deed l act.deed held)
  own same = elim (uses l act.deed) [
    | acquires a is ↦ (λ h. is held, λ e. subst (λ m. Holds run (n + 1) m l) (sym same) (Holds-acquired (Does-deed a here)))
    | releases r is ↦ (
      λ h. elim (Holds-cases run n act.node act.deed here q l h) [
        | inl (e, a) ↦ let clash : Acquire l ≡ Release l = sym a ∙ r in let never : ⊥ = cc in absurd never
        | inr (was, other) ↦ absurd (other same r)
      ],
      λ e. absurd (both_ways (held_by_deed l act.deed held) (is held) e),
    )
    | neither a r is ↦ (
      λ h. elim (Holds-cases run n act.node act.deed here q l h) [ inl (e, acquired) ↦ absurd (a acquired) | inr (was, other) ↦ is held ∙ before.0 was ],
      λ e. Holds-kept run n act.node act.deed here q l (λ own. r) (before.1 (sym (is held) ∙ e)),
    )
  ]

  one_more : Agrees run q l (n + 1) (held_by_act q l (slice_get run n) held)
  one_more =
      subst (λ (o : Option Act). Agrees run q l (n + 1) (held_by_act q l o held)) (sym here.stands)
      (elim (cases_eq act.node q) [
        | inl same ↦
            subst (Agrees run q l (n + 1)) (sym (cond-true (act.node == q) (held_by_deed l act.deed held) held (eq-eqb act.node q same))) (own (sym same))
        | inr other ↦
            subst (Agrees run q l (n + 1)) (sym (cond-false (act.node == q) (held_by_deed l act.deed held) held (ne_eqb act.node q other)))
            (not_own (λ e. other (sym e)))
      ])

pub holds_is : (run : List Act) (q l n : ℕ) → n ≤ length run → Agrees run q l n (is_held run q l n)
holds_is run q l zero le = (λ h. absurd (Holds-start h), λ e. let never : ⊥ = cc in absurd never)
holds_is run q l (suc n) le =
    let (act, here) = act_at run n (omega (arith, le)) in
    subst (λ k. Agrees run q l k (is_held run q l (suc n))) (omega arith)
    (one_more run q l n act here (is_held run q l n) (holds_is run q l n (omega (arith, le))))
