-- Whether an act breaks well-synchronization, from what the tables say.
use Rattle.std.proofs.Common.{◌≡◌, ℕ, zero, suc, ◌<◌, ◌≤◌, ◌⊎◌, List, [], ◌∷◌, length, get_or, inl, inr, refl, sym, subst, ◌∙◌, ap, arith}
use Rattle.std.specs.Prelude.{◌↔◌, Option, Some, None, Bool, true, false, not, is_some, IsTrue, MatchBool, All, nat_eq}
use Rattle.std.specs.Option.{option_eq}
use Rattle.std.proofs.lemmas.Bool.{cases_lt, false≢true, true≢false, eqb-true, eqb-false}
use Rattle.std.proofs.lemmas.List.Elements.{All-nil, All-cons}
use Rattle.std.proofs.lemmas.Option.{same_Some, none-some}
use Rattle.lrc_trace.specs.declared.act.Act.{Act}
use Rattle.lrc_trace.specs.declared.act.Deed.{Deed}
use Rattle.lrc_trace.specs.declared.act.Deed.TheVariants.{Acquire, Release, Depart}
use Rattle.lrc_trace.specs.Run.{Does, arrives_before, departs_before}
use Rattle.lrc_trace.specs.Synchronization.{Holds, IsWellSynchronized}
use Rattle.lrc_trace.proofs.Positions.{Does-deed, Does-one_node, Does-one_deed, Does-within}
use Rattle.lrc_trace.proofs.Holding.{Holds-decided}
use Rattle.lrc_judge.specs.Synchronization.{Breaks, acquire, release, depart}
use Rattle.lrc_trace.proofs.Locks.{AreHolders}

-- each count is above the bound, or one isn't
above_or_one : (bound : ℕ) (counts : List ℕ) → All (λ c. bound < c) counts ⊎ ((q : ℕ) × (q < length counts) × (get_or counts q 0 ≤ bound))
above_or_one bound [] = inl (All-nil (λ c. bound < c))
above_or_one bound (c ∷ counts) =
    elim (cases_lt bound c) [
      | inr le ↦ inr (zero, omega arith, le)
      | inl lt ↦
          elim (above_or_one bound counts) [
            | inl all ↦ inl (All-cons (λ x. bound < x) c counts lt all)
            | inr (q, within, le) ↦ inr (suc q, omega arith, le)
          ]
    ]

module _ (nodes : ℕ) (run : List Act) (n node : ℕ) (deed : Deed) (here : Does run n node deed) where
  -- what breaks it is what the act does there
  Breaks-cases : Breaks nodes run n → ((l : ℕ) × (deed ≡ Acquire l) × ((other : ℕ) × Holds run n other l))
      ⊎ (((l : ℕ) × (deed ≡ Release l) × (Holds run n node l → ⊥))
      ⊎ ((deed ≡ Depart) × ((other : ℕ) × (other < nodes) × (arrives_before run other n ≤ departs_before run node n))))
  Breaks-cases (acquire {other = other} {l = l} d h) = inl (l, Does-one_deed here d, (other, h))
  Breaks-cases (release {node = p} {l = l} d h) = inr (inl (l, Does-one_deed here d, λ mine. h (subst (λ m. Holds run n m l) (Does-one_node here d) mine)))
  Breaks-cases (depart {node = p} {other = other} d lt le) =
      inr (inr (Does-one_deed here d, (other, lt, subst (λ m. arrives_before run other n ≤ departs_before run m n) (Does-one_node d here) le)))

  -- no other deed breaks it
  pub others_go_on : ((l : ℕ) → deed ≡ Acquire l → ⊥) → ((l : ℕ) → deed ≡ Release l → ⊥) → (deed ≡ Depart → ⊥) → Breaks nodes run n → ⊥
  others_go_on not_acquire not_release not_depart b =
      elim (Breaks-cases b) [
        | inl (l, e, _) ↦ not_acquire l e
        | inr (inl (l, e, _)) ↦ not_release l e
        | inr (inr (e, _)) ↦ not_depart e
      ]

  module _ (table : List (Option ℕ)) (all : AreHolders run n table) where
    pub decides_acquire : (l : ℕ) → deed ≡ Acquire l → l < length table → (o : Option ℕ) → get_or table l None ≡ o → (r : Bool)
        → is_some o ≡ not r → MatchBool r (Breaks nodes run n → ⊥) (Breaks nodes run n)
    decides_acquire l is within None e true t = λ b.
        elim (Breaks-cases b) [
          | inl (m, e', (other, h)) ↦
              let same : m ≡ l = cc in
              let holder = (all l other within).1 (subst (λ x. Holds run n other x) same h) in
              none-some other (sym e ∙ holder)
          | inr (inl (m, e', _)) ↦ let never : ⊥ = cc in never
          | inr (inr (e', _)) ↦ let never : ⊥ = cc in never
        ]
    decides_acquire l is within (Some q) e false t = acquire (Does-deed is here) ((all l q within).0 e)
    decides_acquire l is within None e false t = absurd (false≢true t)
    decides_acquire l is within (Some q) e true t = absurd (true≢false t)

    pub decides_release : (l : ℕ) → deed ≡ Release l → l < length table → (o : Option ℕ) → get_or table l None ≡ o → (r : Bool)
        → r ≡ option_eq nat_eq o (Some node) → MatchBool r (Breaks nodes run n → ⊥) (Breaks nodes run n)
    decides_release l is within (Some p) e true t = λ b.
        elim (Breaks-cases b) [
          | inl (m, e', _) ↦ let never : ⊥ = cc in never
          | inr (inl (m, e', other)) ↦
              let same : l ≡ m = cc in
              let mine = (all l node within).0 (e ∙ ap (λ x. Some x) (eqb-true p node (sym t))) in
              other (subst (λ x. Holds run n node x) same mine)
          | inr (inr (e', _)) ↦ let never : ⊥ = cc in never
        ]
    decides_release l is within (Some p) e false t = release (Does-deed is here)
        (λ h. eqb-false p node (sym t) (same_Some p node (sym e ∙ (all l node within).1 h)))
    decides_release l is within None e false t = release (Does-deed is here) (λ h. none-some node (sym e ∙ (all l node within).1 h))
    decides_release l is within None e true t = absurd (true≢false t)

  pub decides_depart : deed ≡ Depart → (counts : List ℕ) (bound : ℕ) → length counts ≡ nodes
      → ((q : ℕ) → q < nodes → get_or counts q 0 ≡ arrives_before run q n) → bound ≡ departs_before run node n → (r : Bool)
      → IsTrue r ↔ All (λ c. bound < c) counts → MatchBool r (Breaks nodes run n → ⊥) (Breaks nodes run n)
  decides_depart is counts bound long arrives departs true t = λ b.
      elim (Breaks-cases b) [
        | inl (m, e', _) ↦ let never : ⊥ = cc in never
        | inr (inl (m, e', _)) ↦ let never : ⊥ = cc in never
        | inr (inr (_, (other, lt, le))) ↦
            let above = t.0 refl other 0 (omega arith) in
            let count = arrives other lt in
            omega arith
      ]
  decides_depart is counts bound long arrives departs false t =
      elim (above_or_one bound counts) [
        | inl all ↦ absurd (false≢true (t.1 all))
        | inr (q, within, le) ↦
            let count = arrives q (omega arith) in
            depart {other = q} (Does-deed is here) (omega arith) (omega arith)
      ]

-- no position breaks it exactly where the run is well synchronized
pub no_break : (nodes : ℕ) (run : List Act) → ((j : ℕ) → Breaks nodes run j → ⊥) ↔ IsWellSynchronized nodes run
no_break nodes run = (
  λ none. record {
    acquires = λ j node l d other h. none j (acquire d h);
    releases = λ j node l d. elim (Holds-decided run j node l) [ inl h ↦ h | inr not ↦ absurd (none j (release d not)) ];
    departs = λ j node d other lt.
        elim (cases_lt (departs_before run node j) (arrives_before run other j)) [
          | inl above ↦ above
          | inr le ↦ absurd (none j (depart d lt le))
        ];
  },
  λ well j b. unbroken well b,
)
  where
    unbroken : {j : ℕ} → IsWellSynchronized nodes run → Breaks nodes run j → ⊥
    unbroken {j} well (acquire {node = p} {other = q} {l = l} d h) = well.acquires j p l d q h
    unbroken {j} well (release {node = p} {l = l} d h) = h (well.releases j p l d)
    unbroken {j} well (depart {node = p} {other = q} d lt le) = let above = well.departs j p d q lt in omega arith

-- nothing breaks it past the end of the run
pub Breaks-within : {nodes : ℕ} {run : List Act} {j : ℕ} → Breaks nodes run j → j < length run
Breaks-within (acquire d h) = Does-within d
Breaks-within (release d h) = Does-within d
Breaks-within (depart d lt le) = Does-within d
