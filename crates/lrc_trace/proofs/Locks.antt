-- What a table of holders says of who holds a lock, from one position to the next.
use Rattle.std.proofs.Common.{◌≡◌, ℕ, ◌+◌, ◌<◌, ◌⊎◌, List, length, get_or, set, inl, inr, refl, sym, subst, ◌∙◌, ap, length-set}
use Rattle.std.specs.Prelude.{◌↔◌, Option, Some, None}
use Rattle.std.proofs.lemmas.Bool.{cases_eq}
use Rattle.std.proofs.lemmas.List.{get_or-set_same, get_or-set_other}
use Rattle.std.proofs.lemmas.Option.{same_Some, none-some}
use Rattle.lrc_trace.specs.declared.act.Act.{Act}
use Rattle.lrc_trace.specs.declared.act.Deed.{Deed}
use Rattle.lrc_trace.specs.declared.act.Deed.TheVariants.{Acquire, Release}
use Rattle.lrc_trace.specs.Run.{Does}
use Rattle.lrc_trace.specs.Synchronization.{Holds}
use Rattle.lrc_trace.proofs.Positions.{Does-deed}
use Rattle.lrc_trace.proofs.Holding.{Holds-acquired, Holds-kept, Holds-cases}

-- the table has the one holder of each lock
abbrev pub AreHolders : List Act → ℕ → List (Option ℕ) → Type 0
AreHolders run n table = (l q : ℕ) → l < length table → (get_or table l None ≡ Some q) ↔ Holds run n q l

module _ (run : List Act) (n : ℕ) (table : List (Option ℕ)) (all : AreHolders run n table) where
  -- the table decides whether a node holds a lock
  pub held : (q l : ℕ) → l < length table → Holds run n q l ⊎ (Holds run n q l → ⊥)
  held q l within = go (get_or table l None) refl
    where
      go : (o : Option ℕ) → get_or table l None ≡ o → Holds run n q l ⊎ (Holds run n q l → ⊥)
      go None e = inr (λ h. let is = (all l q within).1 h in none-some q (sym e ∙ is))
      go (Some p) e =
          elim (cases_eq p q) [
            | inl same ↦ inl ((all l q within).0 (e ∙ ap (λ x. Some x) same))
            | inr other ↦ inr (λ h. let is = (all l q within).1 h in other (same_Some p q (sym e ∙ is)))
          ]

  module _ (node : ℕ) (deed : Deed) (here : Does run n node deed) where
    -- no entry changes but at an acquire or a release
    pub holders_same : ((l : ℕ) → deed ≡ Acquire l → ⊥) → ((l : ℕ) → deed ≡ Release l → ⊥) → AreHolders run (n + 1) table
    holders_same not_acquire not_release l q within = (
      λ e. Holds-kept run n node deed here q l (λ _ r. not_release l r) ((all l q within).0 e),
      λ h.
          elim (Holds-cases run n node deed here q l h) [
            | inl (_, a) ↦ absurd (not_acquire l a)
            | inr (before, _) ↦ (all l q within).1 before
          ],
    )

    -- an acquire of a lock that nobody holds puts its node in
    pub holders_acquire : (m : ℕ) → deed ≡ Acquire m → ((q : ℕ) → Holds run n q m → ⊥) → AreHolders run (n + 1) (set table m (Some node))
    holders_acquire m is free l q h =
        let within : l < length table = rw (← length-set table m (Some node)) h in
        elim (cases_eq l m) [
          | inl same ↦
              let long : m < length table = subst (λ x. x < length table) same within in
              rw (same, get_or-set_same table m (Some node) None long) (
                λ e. subst (λ x. Holds run (n + 1) x m) (same_Some node q e) (Holds-acquired (Does-deed is here)),
                λ h.
                    elim (Holds-cases run n node deed here q m h) [
                      | inl (e, _) ↦ ap (λ x. Some x) (sym e)
                      | inr (before, _) ↦ absurd (free q before)
                    ],
              )
          | inr other ↦
              rw (get_or-set_other table m l (Some node) None other) (
                λ e. Holds-kept run n node deed here q l (λ _ r. let never : ⊥ = cc in never) ((all l q within).0 e),
                λ h.
                    elim (Holds-cases run n node deed here q l h) [
                      | inl (_, a) ↦ let same : l ≡ m = cc in absurd (other same)
                      | inr (before, _) ↦ (all l q within).1 before
                    ],
              )
        ]

    -- a release by the holder takes it out
    pub holders_release : (m : ℕ) → deed ≡ Release m → Holds run n node m → AreHolders run (n + 1) (set table m None)
    holders_release m is mine l q h =
        let within : l < length table = rw (← length-set table m None) h in
        elim (cases_eq l m) [
          | inl same ↦
              let long : m < length table = subst (λ x. x < length table) same within in
              rw (same, get_or-set_same table m None None long) (
                λ e. absurd (none-some q e),
                λ h.
                    elim (Holds-cases run n node deed here q m h) [
                      | inl (_, a) ↦ let never : ⊥ = cc in absurd never
                      | inr (before, mine_still) ↦
                          let his = (all m q long).1 before in
                          let own = (all m node long).1 mine in
                          absurd (mine_still (same_Some q node (sym his ∙ own)) is)
                    ],
              )
          | inr other ↦
              rw (get_or-set_other table m l None None other) (
                λ e. Holds-kept run n node deed here q l (λ _ r. let same : l ≡ m = cc in other same) ((all l q within).0 e),
                λ h.
                    elim (Holds-cases run n node deed here q l h) [
                      | inl (_, a) ↦ let never : ⊥ = cc in absurd never
                      | inr (before, _) ↦ (all l q within).1 before
                    ],
              )
        ]
