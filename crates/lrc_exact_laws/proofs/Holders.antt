-- Where a lock is free, each node has released it as often as it has acquired it, and who released it last acquired it last.
use Rattle.std.proofs.Common.{◌≡◌, ℕ, zero, suc, ◌+◌, ◌<◌, ◌≤◌, Bool, true, false, List, [], ◌∷◌, ◌++◌, length, take, inl, inr, refl, sym, subst, ap}
use Rattle.std.proofs.Common.{◌∙◌, arith, add-one}
use Rattle.std.proofs.lemmas.Bool.{cases_Bool, cases_eq, cases_lt, eq-eqb, eqb-true, false≢true}
use Rattle.lrc_trace.specs.declared.act.Act.{Act}
use Rattle.lrc_trace.specs.declared.act.Deed.{Deed}
use Rattle.lrc_trace.specs.declared.act.Deed.TheVariants.{Acquire, Release}
use Rattle.lrc_trace.specs.Run.{Does, count_of}
use Rattle.lrc_trace.specs.Synchronization.{Holds, IsWellSynchronized}
use Rattle.lrc_trace.proofs.Positions.{Does-node, Does-deed, Does-one_deed, Does-within}
use Rattle.lrc_trace.proofs.Intervals.{act_at, count_of-more, count_of-same}
use Rattle.lrc_trace.proofs.Holding.{Holds-start, Holds-acquired, Holds-kept, Holds-cases, Holds-released}
use Rattle.lrc_clock.specs.Times.{is_release}
use Rattle.lrc_exact_laws.specs.Order.{is_acquire, acquirers}
use Rattle.lrc_exact_laws.proofs.Deeds.{steady, acquirers-here, acquirers-not_here}

pub is_acquire-deed : (l : ℕ) (d : Deed) → is_acquire l d ≡ true → d ≡ Acquire l
is_acquire-deed l (Acquire m) h = ap (λ x. Acquire x) (eqb-true m l h)
is_acquire-deed l _ h = absurd (false≢true h)

pub is_release-deed : (l : ℕ) (d : Deed) → is_release l d ≡ true → d ≡ Release l
is_release-deed l (Release m) h = ap (λ x. Release x) (eqb-true m l h)
is_release-deed l _ h = absurd (false≢true h)

is_acquire-own : (l : ℕ) → is_acquire l (Acquire l) ≡ true
is_acquire-own l = eq-eqb l l refl

pub is_release-own : (l : ℕ) → is_release l (Release l) ≡ true
is_release-own l = eq-eqb l l refl

module _ (nodes : ℕ) (run : List Act) (sync : IsWellSynchronized nodes run) (l : ℕ) where
  module _ (m : ℕ) where
    abbrev acquired : ℕ → ℕ
    acquired n = count_of (is_acquire l) m (take n run)

    abbrev released : ℕ → ℕ
    released n = count_of (is_release l) m (take n run)

    record Balance (n : ℕ) : Type 0 where
      held : Holds run n m l → acquired n ≡ released n + 1
      free : (Holds run n m l → ⊥) → acquired n ≡ released n

    -- an act that is neither an acquire nor a release of the lock by the node
    neutral : (n node : ℕ) (deed : Deed) → Does run n node deed → (node ≡ m → is_acquire l deed ≡ true → ⊥) → (node ≡ m → is_release l deed ≡ true → ⊥)
        → Balance n → Balance (n + 1)
    neutral n node deed does no_acquire no_release before =
        let a = count_of-same (is_acquire l) run m n node deed does no_acquire in
        let r = count_of-same (is_release l) run m n node deed does no_release in
        record {
          held = λ h.
              elim (Holds-cases run n node deed does m l h) [
                | inl (own, is) ↦ absurd (no_acquire (sym own) (ap (is_acquire l) is ∙ is_acquire-own l))
                | inr (still, _) ↦ let e = before.held still in omega arith
              ];
          free = λ none.
              let e = before.free (λ h. none (Holds-kept run n node deed does m l (λ own is.
              no_release (sym own) (ap (is_release l) is ∙ is_release-own l)) h)) in
              omega arith;
        }

    acquiring : (n : ℕ) → Does run n m (Acquire l) → Balance n → Balance (n + 1)
    acquiring n does before =
        let e = before.free (λ h. sync.acquires n m l does m h) in
        let a = count_of-more (is_acquire l) run m n (Acquire l) does (is_acquire-own l) in
        let r = count_of-same (is_release l) run m n m (Acquire l) does (λ own is. false≢true is) in
        record { held = λ h. omega arith; free = λ none. absurd (none (Holds-acquired does)) }

    releasing : (n : ℕ) → Does run n m (Release l) → Balance n → Balance (n + 1)
    releasing n does before =
        let e = before.held (sync.releases n m l does) in
        let a = count_of-same (is_acquire l) run m n m (Release l) does (λ own is. false≢true is) in
        let r = count_of-more (is_release l) run m n (Release l) does (is_release-own l) in
        record { held = λ h. absurd (Holds-released does h); free = λ none. omega arith }

    balance : (n : ℕ) → n ≤ length run → Balance n
    balance zero le = record { held = λ h. absurd (Holds-start h); free = λ none. refl }
    balance (suc n) le =
        let before = balance n (omega arith) in
        let (act, does) = act_at run n (omega arith) in
        subst Balance (add-one n) (
        elim (cases_eq act.node m) [
          | inr other ↦ neutral n act.node act.deed does (λ own is. other own) (λ own is. other own) before
          | inl own ↦
              let does' : Does run n m act.deed = Does-node own does in
              elim (cases_Bool (is_acquire l act.deed)) [
                | inl is ↦ acquiring n (Does-deed (is_acquire-deed l act.deed is) does') before
                | inr not_acquire ↦
                    elim (cases_Bool (is_release l act.deed)) [
                      | inl is ↦ releasing n (Does-deed (is_release-deed l act.deed is) does') before
                      | inr not_release ↦
                          neutral n act.node act.deed does (λ _. both_ways_of not_acquire) (λ _. both_ways_of not_release) before
                    ]
              ]
        ]
        )
      where
        both_ways_of : {b : Bool} → b ≡ false → b ≡ true → ⊥
        both_ways_of fails passes = false≢true (sym fails ∙ passes)

  -- at an acquire of the lock
  module _ (j node : ℕ) (does : Does run j node (Acquire l)) where
    pub released_as_often : (m : ℕ) → count_of (is_acquire l) m (take j run) ≡ count_of (is_release l) m (take j run)
    released_as_often m = let within = Does-within does in (balance m j (omega arith)).free (λ h. sync.acquires j node l does m h)

    pub last_acquirer : (q m : ℕ) → q < j → Does run q m (Release l) → ((k p : ℕ) → q < k → k < j → Does run k p (Release l) → ⊥)
        → (before : List ℕ) × (acquirers l (take j run) ≡ before ++ m ∷ [])
    last_acquirer q m lt release none =
        let holds = sync.releases q m l release in
        let since = holds.since in
        let earlier = holds.earlier in
        let within = Does-within does in (
          acquirers l (take since run),
          steady (acquirers l) run (since + 1) j (omega arith) (λ k least most.
              let (act, acts) = act_at run k (omega arith) in
              elim (cases_Bool (is_acquire l act.deed)) [
                | inr not ↦ acquirers-not_here run k act.node l act.deed acts not
                | inl is ↦
                    let acquires : Does run k act.node (Acquire l) = Does-deed (is_acquire-deed l act.deed is) acts in
                    absurd (no_other since q m earlier holds.acquired holds.kept lt release none k act.node least most acquires)
              ]) ∙ acquirers-here run since m l holds.acquired,
        )
      where
        no_other : (since : ℕ) → (q m : ℕ) → since < q → Does run since m (Acquire l) → ((k : ℕ) → since < k → k < q → Does run k m (Release l) → ⊥)
            → q < j → Does run q m (Release l) → ((k p : ℕ) → q < k → k < j → Does run k p (Release l) → ⊥)
            → (k other : ℕ) → since + 1 ≤ k → k < j → Does run k other (Acquire l) → ⊥
        no_other since q m earlier acquired kept lt release none k other least most acquires =
            elim (cases_eq k q) [
              | inl same ↦
                  let there : Does run q other (Acquire l) = subst (λ n. Does run n other (Acquire l)) same acquires in
                  let never = Does-one_deed there release in
                  let impossible : ⊥ = cc in
                  impossible
              | inr apart ↦
                  elim (cases_lt k q) [
                    | inl before ↦
                        sync.acquires k other l acquires m
                        record { since = since; earlier = omega arith; acquired = acquired; kept = λ x after until r. kept x after (omega arith) r }
                    | inr behind ↦
                        sync.acquires j node l does other
                        record { since = k; earlier = most; acquired = acquires; kept = λ x after until r. none x other (omega arith) until r }
                  ]
            ]
