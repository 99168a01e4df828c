-- What the acts say of the locks, by one act more or none.
use Rattle.std.proofs.Common.{◌≡◌, ℕ, ◌≤◌, List, [], ◌∷◌, ◌++◌, length, sym, ap, subst, ◌∙◌, inl, inr, arith, append-nil}
use Rattle.std.specs.Prelude.{Option, Some, None}
use Rattle.std.proofs.lemmas.List.{get_or_push}
use Rattle.lrc_trace.specs.declared.act.Act.{Act}
use Rattle.lrc_trace.specs.declared.act.Deed.{Deed}
use Rattle.lrc_trace.specs.declared.act.Deed.TheVariants.{Acquire, Release}
use Rattle.lrc_trace.specs.Run.{Does, act_of}
use Rattle.lrc_trace.specs.Synchronization.{Holds}
use Rattle.lrc_trace.proofs.Positions.{Does-cases}
use Rattle.lrc_trace.proofs.Prefixes.{Holds-longer, Holds-shorter}
use Rattle.lrc_time.specs.Time.{joined}
use Rattle.lrc_clock.specs.Times.{time_at, stamp_at, released_time}
use Rattle.lrc_clock.proofs.Prefixes.{time_at-prefix, stamp_at-prefix, released_time-prefix}
use Rattle.lrc_order_laws.specs.LockLines.{KeepsLocks}
use Rattle.lrc_order_laws.proofs.Present.{more_acts, more_times}
use Rattle.lrc_order_laws.proofs.LockActs.{HeldNow, NobodyHolds}

none_done : {j node : ℕ} {d : Deed} → Does [] j node d → ⊥
none_done h = no_act h.stands
  where
    no_act : {a : Act} → None ≡ Some a → ⊥
    no_act e = cc

pub lines-first : (nodes : ℕ) → KeepsLocks nodes [] []
lines-first nodes = record {
  acquires = λ j node l d other h. none_done d;
  releases = λ j node l d. absurd (none_done d);
  learns = λ j node l d. absurd (none_done d);
}

module _ (nodes : ℕ) (acts : List Act) (times : List (List ℕ)) (timed : length times ≡ length acts) (n : ℕ) (time : List ℕ)
    (k : KeepsLocks nodes acts times) where
  -- what an acquire learns, at each position before
  learned-prefix : (more : List Act) (later : List (List ℕ)) (node l j : ℕ) → j ≤ length acts
      → joined (stamp_at nodes (acts ++ more) (times ++ later) node j) (released_time nodes (acts ++ more) (times ++ later) l j)
      ≡ joined (stamp_at nodes acts times node j) (released_time nodes acts times l j)
  learned-prefix more later node l j le =
      ap (λ t. joined t (released_time nodes (acts ++ more) (times ++ later) l j)) (stamp_at-prefix acts more times later timed nodes node j le)
      ∙ ap (joined (stamp_at nodes acts times node j)) (released_time-prefix acts more times later timed nodes l j le)

  module _ (d : Deed) (takes : (l : ℕ) → d ≡ Acquire l → NobodyHolds acts l
      × (time ≡ joined (stamp_at nodes acts times n (length acts)) (released_time nodes acts times l (length acts))))
      (lets : (l : ℕ) → d ≡ Release l → HeldNow acts n l) where
    abbrev more : List Act
    more = act_of n d ∷ []

    abbrev later : List (List ℕ)
    later = time ∷ []

    lines-one : KeepsLocks nodes (acts ++ more) (times ++ later)
    lines-one = record {
      acquires = λ j node l does other h. elim (Does-cases does) [
        | inl (lt, does') ↦ k.acquires j node l does' other (Holds-shorter acts more (omega (arith, lt)) h)
        | inr (here, own, is) ↦
            (takes l is).0 other (Holds-shorter acts more (omega arith) (subst (λ i. Holds (acts ++ more) i other l) here h))
      ];
      releases = λ j node l does. elim (Does-cases does) [
        | inl (lt, does') ↦ Holds-longer acts more (omega (arith, lt)) (k.releases j node l does')
        | inr (here, own, is) ↦
            subst (λ i. Holds (acts ++ more) i node l) (sym here)
            (subst (λ p. Holds (acts ++ more) (length acts) p l) own (Holds-longer acts more (omega arith) (lets l is)))
      ];
      learns = λ j node l does. elim (Does-cases does) [
        | inl (lt, does') ↦
            time_at-prefix acts more times later timed j lt ∙ k.learns j node l does' ∙ sym (learned-prefix more later node l j (omega (arith, lt)))
        | inr (here, own, is) ↦
            ap (λ i. time_at (times ++ later) i) here
            ∙ get_or_push times time [] (length acts) timed
            ∙ (takes l is).1
            ∙ ap (λ p. joined (stamp_at nodes acts times p (length acts)) (released_time nodes acts times l (length acts))) own
            ∙ sym (learned-prefix more later node l (length acts) (omega arith))
            ∙ ap (λ i. joined (stamp_at nodes (acts ++ more) (times ++ later) node i) (released_time nodes (acts ++ more) (times ++ later) l i)) (sym here)
      ];
    }

  pub lines-more : (deed : Option Deed)
      → ((l : ℕ) → deed ≡ Some (Acquire l) → NobodyHolds acts l
      × (time ≡ joined (stamp_at nodes acts times n (length acts)) (released_time nodes acts times l (length acts))))
      → ((l : ℕ) → deed ≡ Some (Release l) → HeldNow acts n l) → KeepsLocks nodes (acts ++ more_acts n deed) (times ++ more_times n time deed)
  lines-more None takes lets =
      subst (λ acts. KeepsLocks nodes acts (times ++ [])) (sym (append-nil acts)) (subst (KeepsLocks nodes acts) (sym (append-nil times)) k)
  lines-more (Some d) takes lets =
      lines-one d (λ l e. takes l (ap (λ (x : Deed). Some x) e)) (λ l e. lets l (ap (λ (x : Deed). Some x) e))
