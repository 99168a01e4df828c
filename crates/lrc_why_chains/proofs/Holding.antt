-- The locks that a node holds, one act further.
use Rattle.std.proofs.Common.{◌≡◌, ℕ, ◌+◌, ◌<◌, List, length, get_or, set, inl, inr, refl, sym, ◌∙◌, ap, arith, length-set, replicate}
use Rattle.std.specs.Prelude.{Bool, true, false}
use Rattle.std.proofs.lemmas.Bool.{cases_eq}
use Rattle.std.proofs.lemmas.List.{get_or-set_same, get_or-set_other, length-replicate, get_or-replicate}
use Rattle.lrc_trace.specs.declared.act.Act.{Act}
use Rattle.lrc_trace.specs.declared.act.Deed.{Deed}
use Rattle.lrc_trace.specs.declared.act.Deed.TheVariants.{Acquire, Release}
use Rattle.lrc_trace.specs.Run.{Does}
use Rattle.lrc_trace.specs.Synchronization.{Holds}
use Rattle.lrc_trace.proofs.Positions.{Does-deed, Does-node}
use Rattle.lrc_trace.proofs.Holding.{Holds-start, Holds-acquired, Holds-kept, Holds-cases, Holds-released}
use Rattle.lrc_why_chains.specs.Held.{AreHeld}

pub held-none : (run : List Act) (node : ℕ) (held : List Bool) → held ≡ replicate 256 false → AreHeld run node 0 held
held-none run node held e = record {
  all = ap length e ∙ length-replicate 256 false;
  exact = λ l lt.
      let at : get_or held l false ≡ false = rw (e, get_or-replicate {A = Bool} 256 l false false lt) in
      (λ yes. let never : ⊥ = cc in absurd never, λ h. absurd (Holds-start h));
}

module _ (run : List Act) (n other : ℕ) (deed : Deed) (here : Does run n other deed) (node : ℕ) (held : List Bool) (old : AreHeld run node n held) where
  same : (l : ℕ) → (other ≡ node → deed ≡ Acquire l → ⊥) → (other ≡ node → deed ≡ Release l → ⊥) → (Holds run n node l → Holds run (n + 1) node l) × (Holds run (n + 1) node l → Holds run n node l)
  same l acquires releases = (
    λ h. Holds-kept run n other deed here node l (λ e r. releases (sym e) r) h,
    λ h. elim (Holds-cases run n other deed here node l h) [ inl (e, a) ↦ absurd (acquires (sym e) a) | inr (h', r) ↦ h' ],
  )

  pub held-same : ((l : ℕ) → other ≡ node → deed ≡ Acquire l → ⊥) → ((l : ℕ) → other ≡ node → deed ≡ Release l → ⊥) → AreHeld run node (n + 1) held
  held-same acquires releases = record {
    all = old.all;
    exact = λ l lt. let e = old.exact l lt in let s = same l (acquires l) (releases l) in (λ yes. s.0 (e.0 yes), λ h. e.1 (s.1 h));
  }

  pub held-acquire : (m : ℕ) → other ≡ node → deed ≡ Acquire m → m < 256 → AreHeld run node (n + 1) (set held m true)
  held-acquire m is e within = record {
    all = length-set held m true ∙ old.all;
    exact = λ l lt.
        elim (cases_eq l m) [
          | inl at ↦
              let inside : m < length held = omega (arith, old.all) in
              rw (at, get_or-set_same held m true false inside)
              (λ yes. Holds-acquired (Does-node is (Does-deed e here)), λ h. refl)
          | inr apart ↦
              let x = old.exact l lt in
              let s = same l (λ _ a. apart (let both : m ≡ l = cc in sym both)) (λ _ r. let never : ⊥ = cc in never) in
              rw (get_or-set_other held m l true false apart) (λ yes. s.0 (x.0 yes), λ h. x.1 (s.1 h))
        ];
  }

  pub held-release : (m : ℕ) → other ≡ node → deed ≡ Release m → m < 256 → AreHeld run node (n + 1) (set held m false)
  held-release m is e within = record {
    all = length-set held m false ∙ old.all;
    exact = λ l lt.
        elim (cases_eq l m) [
          | inl at ↦
              let inside : m < length held = omega (arith, old.all) in
              rw (at, get_or-set_same held m false false inside)
              (λ yes. let never : ⊥ = cc in absurd never, λ h. absurd (Holds-released (Does-node is (Does-deed e here)) h))
          | inr apart ↦
              let x = old.exact l lt in
              let s = same l (λ _ a. let never : ⊥ = cc in never) (λ _ r. apart (let both : m ≡ l = cc in sym both)) in
              rw (get_or-set_other held m l false false apart) (λ yes. s.0 (x.0 yes), λ h. x.1 (s.1 h))
        ];
  }
