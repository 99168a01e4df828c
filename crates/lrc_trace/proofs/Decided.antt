-- Happens before is decided.
use Rattle.std.proofs.Common.{◌≡◌, ℕ, zero, suc, ◌+◌, ◌<◌, ◌⊎◌, List, length, inl, inr, refl, sym, subst, ◌∙◌, ap, arith}
use Rattle.std.proofs.lemmas.Bool.{cases_eq, cases_lt}
use Rattle.lrc_trace.specs.declared.act.Act.{Act}
use Rattle.lrc_trace.specs.declared.act.Deed.{Deed}
use Rattle.lrc_trace.specs.declared.act.Deed.TheVariants.{Acquire, Release, Arrive, Depart}
use Rattle.lrc_trace.specs.Run.{Does, arrives_before, departs_before}
use Rattle.lrc_trace.specs.Order.{Precedes, program, lock, barrier, HappensBefore, base, further}
use Rattle.lrc_trace.proofs.Positions.{Does-one_node, Does-one_deed}
use Rattle.lrc_trace.proofs.HappensBefore.{within, Precedes-forward}
use Rattle.lrc_trace.proofs.Intervals.{act_at}

-- a fact holds at some number below n, or at none, where it is decided at each
pub search_below : (P : ℕ → Type 0) (n : ℕ) → ((k : ℕ) → k < n → P k ⊎ (P k → ⊥)) → ((k : ℕ) × (k < n) × P k) ⊎ ((k : ℕ) → k < n → P k → ⊥)
search_below P zero decided = inr (λ k lt. absurd (omega arith))
search_below P (suc n) decided =
    elim (decided n (omega arith)) [
      | inl here ↦ inl (n, omega arith, here)
      | inr not_here ↦
          elim (search_below P n (λ k lt. decided k (omega arith))) [
            | inl (k, lt, found) ↦ inl (k, omega arith, found)
            | inr none ↦
                inr (λ k lt h.
                elim (cases_eq k n) [
                  | inl same ↦ not_here (subst P same h)
                  | inr other ↦ none k (omega arith) h
                ])
          ]
    ]

-- what the base order says of two acts
Links : List Act → ℕ → ℕ → Deed → ℕ → ℕ → Deed → Type 0
Links run k p d j q e = (p ≡ q) ⊎ (((l : ℕ) × (d ≡ Release l) × (e ≡ Acquire l)) ⊎ ((d ≡ Arrive) × (e ≡ Depart) ×
    (arrives_before run p k ≡ departs_before run q j)))

module _ {run : List Act} {k j p q : ℕ} {d e : Deed} (first : Does run k p d) (second : Does run j q e) where
  Links-from : Precedes run k j → Links run k p d j q e
  unfolding Links
  Links-from (program lt a b) = inl (Does-one_node first a ∙ Does-one_node b second)
  Links-from (lock {l = l} lt a b) = inr (inl (l, Does-one_deed first a, Does-one_deed second b))
  Links-from (barrier lt a b number) = inr (inr (
    Does-one_deed first a,
    Does-one_deed second b,
    ap (λ m. arrives_before run m k) (Does-one_node first a)
        ∙ number ∙ ap (λ m. departs_before run m j) (Does-one_node b second),
  ))

  from_Links : k < j → Links run k p d j q e → Precedes run k j
  unfolding Links
  from_Links lt (inl same) = program lt first (subst (λ m. Does run j m e) (sym same) second)
  from_Links lt (inr (inl (l, a, b))) = lock lt (subst (λ (x : Deed). Does run k p x) a first) (subst (λ (x : Deed). Does run j q x) b second)
  from_Links lt (inr (inr (a, b, number))) = barrier lt (subst (λ (x : Deed). Does run k p x) a first) (subst (λ (x : Deed). Does run j q x) b second) number

-- whether acts of two nodes are linked
linked : (run : List Act) (k p : ℕ) (d : Deed) (j q : ℕ) (e : Deed) → (p ≡ q → ⊥) → Links run k p d j q e ⊎ (Links run k p d j q e → ⊥)
unfolding Links
linked run k p (Release l) j q (Acquire m) apart =
    elim (cases_eq l m) [
      | inl same ↦ inl (inr (inl (l, refl, ap (λ x. Acquire x) (sym same))))
      | inr other ↦
          inr (λ h.
          elim h [
            | inl same ↦ apart same
            | inr (inl (x, a, b)) ↦ let same : l ≡ m = cc in other same
            | inr (inr (a, b, n)) ↦ let never : ⊥ = cc in never
          ])
    ]
linked run k p Arrive j q Depart apart =
    elim (cases_eq (arrives_before run p k) (departs_before run q j)) [
      | inl same ↦ inl (inr (inr (refl, refl, same)))
      | inr other ↦
          inr (λ h.
          elim h [
            | inl same ↦ apart same
            | inr (inl (x, a, b)) ↦ let never : ⊥ = cc in never
            | inr (inr (a, b, n)) ↦ other n
          ])
    ]
linked run k p d j q e apart = inr
    (λ h. elim h [ inl same ↦ apart same | inr (inl (x, a, b)) ↦ let never : ⊥ = cc in never | inr (inr (a, b, n)) ↦ let never : ⊥ = cc in never ])

pub Precedes-decided : (run : List Act) (k j : ℕ) → Precedes run k j ⊎ (Precedes run k j → ⊥)
Precedes-decided run k j =
    elim (cases_lt k j) [
      | inr le ↦ inr (λ h. let lt = Precedes-forward h in omega arith)
      | inl lt ↦
          elim (cases_lt j (length run)) [
            | inr past ↦ inr (λ h. let inside = within (base h) in omega arith)
            | inl inside ↦
                let (a, first) = act_at run k (omega arith) in
                let (b, second) = act_at run j inside in
                elim (cases_eq a.node b.node) [
                  | inl same ↦ inl (program lt first (subst (λ m. Does run j m b.deed) (sym same) second))
                  | inr apart ↦
                      elim (linked run k a.node a.deed j b.node b.deed apart) [
                        | inl h ↦ inl (from_Links first second lt h)
                        | inr not ↦ inr (λ h. not (Links-from first second h))
                      ]
                ]
          ]
    ]

module _ (run : List Act) (i : ℕ) where
  -- position k is i, or i happens before it
  abbrev Reached : ℕ → Type 0
  Reached k = (i ≡ k) ⊎ HappensBefore run i k

  last_step : {j : ℕ} → HappensBefore run i j → (k : ℕ) × Reached k × Precedes run k j
  last_step (base p) = (i, inl refl, p)
  last_step (further {j = k} h p) = (k, inr h, p)

  extended : {k j : ℕ} → Reached k → Precedes run k j → HappensBefore run i j
  extended {j = j} (inl same) p = base (subst (λ m. Precedes run m j) (sym same) p)
  extended (inr h) p = further h p

  decided_below : (n j : ℕ) → j < n → HappensBefore run i j ⊎ (HappensBefore run i j → ⊥)
  decided_below zero j lt = absurd (omega arith)
  decided_below (suc n) j lt =
      elim (cases_lt j n) [
        | inl below ↦ decided_below n j below
        | inr le ↦
            elim (search_below (λ k. Reached k × Precedes run k j) j (λ k before. step k (decided_below n k (omega arith)))) [
              | inl (k, before, both) ↦ inl (extended both.0 both.1)
              | inr none ↦ inr (λ h. let (k, reached, p) = last_step h in none k (Precedes-forward p) (reached, p))
            ]
      ]
    where
      step : (k : ℕ) → HappensBefore run i k ⊎ (HappensBefore run i k → ⊥) → (Reached k × Precedes run k j) ⊎ (Reached k × Precedes run k j → ⊥)
      step k decided =
          elim (Precedes-decided run k j) [
            | inr not ↦ inr (λ h. not h.1)
            | inl p ↦
                elim (cases_eq i k) [
                  | inl same ↦ inl (inl same, p)
                  | inr other ↦
                      elim decided [
                        | inl h ↦ inl (inr h, p)
                        | inr not ↦ inr (λ h. elim h.0 [ inl same ↦ other same | inr before ↦ not before ])
                      ]
                ]
          ]

pub HappensBefore-decided : (run : List Act) (i j : ℕ) → HappensBefore run i j ⊎ (HappensBefore run i j → ⊥)
HappensBefore-decided run i j = decided_below run i (j + 1) j (omega arith)
