-- Who is said to hold a lock holds it.
use Rattle.std.proofs.Common.{◌≡◌, ◌∙◌, ℕ, zero, suc, ◌+◌, ◌<◌, ◌≤◌, ◌⊎◌, inl, inr, List, Option, Some, None, length, take, get_or, refl, sym, subst, ap, arith, take_all}
use Rattle.std.specs.Prelude.{if◌then◌else◌}
use Rattle.std.proofs.lemmas.Bool.{cases_eq, eq-eqb, ne_eqb}
use Rattle.std.proofs.lemmas.Option.{same_Some}
use Rattle.lrc_trace.specs.declared.act.Act.{Act}
use Rattle.lrc_trace.specs.declared.act.Deed.{Deed}
use Rattle.lrc_trace.specs.declared.act.Deed.TheVariants.{Quiet, Print, Read, Write, Acquire, Release, Arrive, Depart, Trap, End}
use Rattle.lrc_trace.specs.Run.{Does}
use Rattle.lrc_trace.specs.Synchronization.{Holds, IsWellSynchronized}
use Rattle.lrc_trace.proofs.Holding.{Holds-start, Holds-acquired, Holds-kept, one_holder}
use Rattle.lrc_trace.proofs.Positions.{Does-deed, Does-one_deed, Does-one_node, Does-read}
use Rattle.lrc_explain_waits.specs.declared.holder.Holder.{Holder}
use Rattle.lrc_explain_waits.specs.Holder.{held_by, holder_of}
use Rattle.lrc_explain_waits.proofs.Holding.{holder_more}
use Rattle.lrc_explain.specs.Held.{holder_since}

-- a deed acquires the lock, or releases it, or leaves its holder as it is
abbrev Turns : ℕ → Holder → Option Holder → Deed → Type 0
Turns lock taker held deed =
    ((deed ≡ Acquire lock) × (held_by lock taker held deed ≡ Some taker))
    ⊎ (((deed ≡ Release lock) × (held_by lock taker held deed ≡ None))
    ⊎ ((deed ≡ Acquire lock → ⊥) × (deed ≡ Release lock → ⊥) × (held_by lock taker held deed ≡ held)))

turns : (lock : ℕ) (taker : Holder) (held : Option Holder) (deed : Deed) → Turns lock taker held deed
turns lock taker held (Acquire l) =
    elim (cases_eq l lock) [
      | inl same ↦ inl (ap (λ x. Acquire x) same, ap (λ b. if b then Some taker else held) (eq-eqb l lock same))
      | inr other ↦ inr (inr (
        λ e. let same : l ≡ lock = cc in other same,
        λ e. let never : ⊥ = cc in never,
        ap (λ b. if b then Some taker else held) (ne_eqb l lock other),
      ))
    ]
turns lock taker held (Release l) =
    elim (cases_eq l lock) [
      | inl same ↦ inr (inl (ap (λ x. Release x) same, ap (λ b. if b then None else held) (eq-eqb l lock same)))
      | inr other ↦ inr (inr (
        λ e. let never : ⊥ = cc in never,
        λ e. let same : l ≡ lock = cc in other same,
        ap (λ b. if b then None else held) (ne_eqb l lock other),
      ))
    ]
turns lock taker held Quiet = inr (inr (λ e. let never : ⊥ = cc in never, λ e. let never : ⊥ = cc in never, refl))
turns lock taker held (Print v) = inr (inr (λ e. let never : ⊥ = cc in never, λ e. let never : ⊥ = cc in never, refl))
turns lock taker held (Read w v) = inr (inr (λ e. let never : ⊥ = cc in never, λ e. let never : ⊥ = cc in never, refl))
turns lock taker held (Write w v) = inr (inr (λ e. let never : ⊥ = cc in never, λ e. let never : ⊥ = cc in never, refl))
turns lock taker held Arrive = inr (inr (λ e. let never : ⊥ = cc in never, λ e. let never : ⊥ = cc in never, refl))
turns lock taker held Depart = inr (inr (λ e. let never : ⊥ = cc in never, λ e. let never : ⊥ = cc in never, refl))
turns lock taker held (Trap cause) = inr (inr (λ e. let never : ⊥ = cc in never, λ e. let never : ⊥ = cc in never, refl))
turns lock taker held End = inr (inr (λ e. let never : ⊥ = cc in never, λ e. let never : ⊥ = cc in never, refl))

abbrev quiet : Act
quiet = record { node = 0; deed = Quiet }

next : (n : ℕ) → n + 1 ≡ suc n
next n = omega arith

module _ (nodes : ℕ) (run : List Act) (lines : List ℕ) (lock : ℕ) (synchronized : IsWellSynchronized nodes run) where
  -- so far: the holder holds the lock, and who holds it is the holder
  abbrev HoldsAt : ℕ → Type 0
  HoldsAt n = (holder : Holder) → holder_of lock (take n run) lines ≡ Some holder → Holds run n holder.node lock

  abbrev ToldAt : ℕ → Type 0
  ToldAt n = (node : ℕ) (held : Holds run n node lock) → holder_of lock (take n run) lines ≡ Some (holder_since lines node held.since)

  holds_next : (n : ℕ) → n < length run → HoldsAt n → HoldsAt (n + 1)
  holds_next n lt before holder is =
      let act = get_or run n quiet in
      let here : Does run n act.node act.deed = Does-read run n quiet lt in
      let held = holder_of lock (take n run) lines in
      let taker = holder_since lines act.node n in
      let now : held_by lock taker held act.deed ≡ Some holder = sym (holder_more lock lines run n quiet lt) ∙ is in
      elim (turns lock taker held act.deed) [
        | inl (acquires, taken) ↦
            let same : taker ≡ holder = same_Some taker holder (sym taken ∙ now) in
            subst (λ (h : Holder). Holds run (n + 1) h.node lock) same (Holds-acquired (Does-deed acquires here))
        | inr (inl (releases, given)) ↦ let none : None ≡ Some holder = sym given ∙ now in let never : ⊥ = cc in absurd never
        | inr (inr (no_acquire, no_release, kept)) ↦
            Holds-kept run n act.node act.deed here holder.node lock (λ _ r. no_release r) (before holder (sym kept ∙ now))
      ]

  told_next : (n : ℕ) → n < length run → ToldAt n → ToldAt (n + 1)
  told_next n lt before node held =
      let act = get_or run n quiet in
      let here : Does run n act.node act.deed = Does-read run n quiet lt in
      let was = holder_of lock (take n run) lines in
      let taker = holder_since lines act.node n in
      let step = holder_more lock lines run n quiet lt in
      let up = held.earlier in
      elim (cases_eq held.since n) [
        | inl there ↦
            let acquired : Does run n node (Acquire lock) = subst (λ m. Does run m node (Acquire lock)) there held.acquired in
            let deed_is : act.deed ≡ Acquire lock = Does-one_deed here acquired in
            let node_is : act.node ≡ node = Does-one_node here acquired in
            step ∙ ap (held_by lock taker was) deed_is ∙ ap (λ b. if b then Some taker else was) (eq-eqb lock lock refl)
            ∙ ap (λ k. Some (holder_since lines k n)) node_is ∙ ap (λ m. Some (holder_since lines node m)) (sym there)
        | inr apart ↦
            let old : Holds run n node lock = record {
              since = held.since;
              earlier = omega arith;
              acquired = held.acquired;
              kept = λ k after lower. held.kept k after (omega arith);
            } in
            let old_is : was ≡ Some (holder_since lines node held.since) = before node old in
            elim (turns lock taker was act.deed) [
              | inl (acquires, taken) ↦ absurd (synchronized.acquires n act.node lock (Does-deed acquires here) node old)
              | inr (inl (releases, given)) ↦
                  let own = synchronized.releases n act.node lock (Does-deed releases here) in
                  let same : act.node ≡ node = one_holder synchronized n act.node node lock own old in
                  absurd (held.kept n (omega arith) (omega arith) (subst (λ k. Does run n k (Release lock)) same (Does-deed releases here)))
              | inr (inr (no_acquire, no_release, kept)) ↦ step ∙ kept ∙ old_is
            ]
      ]

  holds_to : (n : ℕ) → n ≤ length run → HoldsAt n
  holds_to zero le = λ holder is. let none : None ≡ Some holder = is in let never : ⊥ = cc in absurd never
  holds_to (suc n) le = subst (λ m. HoldsAt m) (next n) (holds_next n (omega arith) (holds_to n (omega arith)))

  told_to : (n : ℕ) → n ≤ length run → ToldAt n
  told_to zero le = λ node held. absurd (Holds-start held)
  told_to (suc n) le = subst (λ m. ToldAt m) (next n) (told_next n (omega arith) (told_to n (omega arith)))

pub holds_whole : (nodes : ℕ) (run : List Act) (lines : List ℕ) (lock : ℕ) (holder : Holder) → IsWellSynchronized nodes run
    → holder_of lock run lines ≡ Some holder → Holds run (length run) holder.node lock
holds_whole nodes run lines lock holder synchronized is =
    holds_to nodes run lines lock synchronized (length run) (omega arith) holder
    (ap (λ acts. holder_of lock acts lines) (take_all (length run) run (omega arith)) ∙ is)

pub told_whole : (nodes : ℕ) (run : List Act) (lines : List ℕ) (lock node : ℕ) → IsWellSynchronized nodes run
    → (held : Holds run (length run) node lock) → holder_of lock run lines ≡ Some (holder_since lines node held.since)
told_whole nodes run lines lock node synchronized held =
    sym (ap (λ acts. holder_of lock acts lines) (take_all (length run) run (omega arith)))
    ∙ told_to nodes run lines lock synchronized (length run) (omega arith) node held
