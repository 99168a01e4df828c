-- A trace has one first event that no program would give, for one reason.
use Rattle.std.proofs.Common.{◌≡◌, ℕ, ◌<◌, List, inl, inr, sym, subst, refl, ◌∙◌, ap, ap₂, arith}
use Rattle.std.specs.Prelude.{Option, Some, None}
use Rattle.std.proofs.lemmas.Bool.{cases_lt}
use Rattle.std.proofs.lemmas.Option.{same_Some}
use Rattle.lrc_races_trace.specs.declared.event.Event.{Event}
use Rattle.lrc_races_trace.specs.declared.event.Operation.TheVariants.{Arrive, Depart}
use Rattle.lrc_races_trace.specs.declared.fault.Fault.{Fault}
use Rattle.lrc_races_trace.specs.declared.fault.Holder.{Holder}
use Rattle.lrc_races_trace.specs.declared.fault.Reason.{Reason}
use Rattle.lrc_races_trace.specs.declared.fault.Reason.TheVariants.{Joined, Waits, NotArrived, Held, NotHeld, Known}
use Rattle.lrc_races_trace.specs.Trace.{At}
use Rattle.lrc_races_trace.specs.Formed.{IsFirstBefore, IsLastBefore, WaitsAt, IsFirstKnown, Knows, Holds, rank, IsIllFormed, IsFirstFault, holder_before}
use Rattle.lrc_races_trace.proofs.Positions.{At-one}

module _ (events : List Event) where
  one_first : (n : ℕ) (These : Event → Type 0) (a b : Event) → IsFirstBefore events n These a → IsFirstBefore events n These b → a ≡ b
  one_first n These a b h k =
      let le = h.first k.position b k.before k.at k.is in
      let ge = k.first h.position a h.before h.at h.is in
      let same : h.position ≡ k.position = omega arith in
      At-one (subst (λ m. At events m a) same h.at) k.at

  one_last : (n : ℕ) (These : Event → Type 0) (a b : Event) → IsLastBefore events n These a → IsLastBefore events n These b → a ≡ b
  one_last n These a b h k =
      let le = h.last k.position b k.before k.at k.is in
      let ge = k.last h.position a h.before h.at h.is in
      let same : h.position ≡ k.position = omega arith in
      At-one (subst (λ m. At events m a) same h.at) k.at

  module _ (n : ℕ) (none : (k : ℕ) (a : Event) (other : Reason) → k < n → At events k a → ¬ Holds events k a other) where
    -- the thread that has come to one barrier, and waits there, comes to no other
    not_after : (thread x y : ℕ) (a b : Event) (h : WaitsAt events n thread x a) (k : WaitsAt events n thread y b)
        → (x ≡ y → ⊥) → h.last.position < k.last.position → ⊥
    not_after thread x y a b h k apart lt =
        let old = h.last in
        let new = k.last in
        let of : b.thread ≡ thread = new.is.0 in
        let waits : WaitsAt events new.position b.thread x a = record {
          last = record {
            position = old.position;
            before = lt;
            at = old.at;
            is = (old.is.0 ∙ sym of, old.is.1);
            last = λ m c less there is. old.last m c (let within = new.before in omega arith) there (is.0 ∙ of, is.1);
          };
          arrives = h.arrives;
        } in
        none new.position b (Waits x a.line) new.before new.at (
          a,
          waits,
          refl,
          λ departs.
              let never : Arrive y ≡ Depart x = sym k.arrives ∙ departs in cc,
        )

    one_wait : (thread x y : ℕ) (a b : Event) → WaitsAt events n thread x a → WaitsAt events n thread y b → x ≡ y
    one_wait thread x y a b h k =
        elim (cases_lt h.last.position k.last.position) [
          | inl lt ↦ by_cases (λ apart. not_after thread x y a b h k apart lt)
          | inr le ↦ elim (cases_lt k.last.position h.last.position) [
            | inl lt ↦ by_cases (λ apart. not_after thread y x b a k h (λ e. apart (sym e)) lt)
            | inr ge ↦
                let same : h.last.position ≡ k.last.position = omega arith in
                let one = At-one (subst (λ m. At events m a) same h.last.at) k.last.at in
                let barriers : Arrive x ≡ Arrive y = sym h.arrives ∙ ap (λ (e : Event). e.operation) one ∙ k.arrives in
                cc
          ]
        ]
      where
        by_cases : ((x ≡ y → ⊥) → ⊥) → x ≡ y
        by_cases not = elim (cases_lt x y) [
          | inl lt ↦ absurd (not (λ e. omega arith))
          | inr le ↦ elim (cases_lt y x) [ inl lt ↦ absurd (not (λ e. omega arith)) | inr ge ↦ omega arith ]
        ]

    one_known : (fork : Event) (thread : ℕ) (a b : Event) → IsFirstKnown events n fork thread a → IsFirstKnown events n fork thread b → a ≡ b
    one_known fork thread a b (inl h) (inl k) = one_first n (Knows thread) a b h k
    one_known fork thread a b (inl h) (inr k) = absurd (k.2 h.position a h.before h.at h.is)
    one_known fork thread a b (inr h) (inl k) = absurd (h.2 k.position b k.before k.at k.is)
    one_known fork thread a b (inr h) (inr k) = h.0 ∙ sym k.0

    one_reason : (event : Event) (r s : Reason) → Holds events n event r → Holds events n event s → rank r ≡ rank s → r ≡ s
    one_reason event (Joined l) (Joined m) (a, h, e) (b, k, f) same =
        ap Joined (sym e ∙ ap (λ (x : Event). x.line) (one_first n _ a b h k) ∙ f)
    one_reason event (Waits x l) (Waits y m) (a, h, e, d) (b, k, f, g) same =
        let barriers = one_wait event.thread x y a b h k in
        let there = subst (λ z. WaitsAt events n event.thread z a) barriers h in
        ap₂ (λ (z o : ℕ). Waits z o) barriers (sym e ∙ ap (λ (z : Event). z.line) (one_last n _ a b there.last k.last) ∙ f)
    one_reason event (NotArrived x) (NotArrived y) (d, h) (f, k) same =
        let e : Depart x ≡ Depart y = sym d ∙ f in let barriers : x ≡ y = cc in ap NotArrived barriers
    one_reason event (Held x t l) (Held y u m) (d, h, (p, is, of, at)) (f, k, (q, also, by, on)) same =
        let locks : x ≡ y = cc (d, f) in
        let holders : p ≡ q = same_Some p q (sym is ∙ ap (λ z. holder_before events z n) locks ∙ also) in
        ap₂ (λ (z w : ℕ). Held z w l) locks (sym of ∙ ap (λ (z : Holder). z.thread) holders ∙ by)
        ∙ ap (λ (o : ℕ). Held y u o) (sym at ∙ ap (λ (z : Holder). z.line) holders ∙ on)
    one_reason event (NotHeld x) (NotHeld y) (d, h) (f, k) same =
        let locks : x ≡ y = cc (d, f) in ap NotHeld locks
    one_reason event (Known t l) (Known u m) (d, (a, h, e)) (f, (b, k, g)) same =
        let threads : t ≡ u = cc (d, f) in
        let there = subst (λ z. IsFirstKnown events n event z a) threads h in
        ap₂ (λ (z o : ℕ). Known z o) threads (sym e ∙ ap (λ (z : Event). z.line) (one_known event u a b there k) ∙ g)
    one_reason event (Joined l) s h k same = absurd (omega arith)
    one_reason event (Waits x l) s h k same = absurd (omega arith)
    one_reason event (NotArrived x) s h k same = absurd (omega arith)
    one_reason event (Held x t l) s h k same = absurd (omega arith)
    one_reason event (NotHeld x) s h k same = absurd (omega arith)
    one_reason event (Known t l) s h k same = absurd (omega arith)

  ill_reason : (n : ℕ) (r s : Reason) → IsIllFormed events n r → IsIllFormed events n s → r ≡ s
  ill_reason n r s a b =
      let same = At-one a.at b.at in
      let here = subst (λ e. Holds events n e r) same a.holds in
      let le = a.first s (subst (λ e. Holds events n e s) (sym same) b.holds) in
      let ge = b.first r here in
      one_reason n b.earlier b.event r s here b.holds (omega arith)

  -- nothing is wrong with what stands before it
  not_earlier : (k m : ℕ) (r s : Reason) → IsIllFormed events k r → IsIllFormed events m s → k < m → ⊥
  not_earlier k m r s a b lt = b.earlier k a.event r lt a.at a.holds

  same_fault : (f g : Fault) → f.event ≡ g.event → f.reason ≡ g.reason → f ≡ g
  same_fault f g e r =
      ap (λ (x : Event). let fault : Fault = record { event = x; reason = f.reason } in fault) e
      ∙ ap (λ (x : Reason). let fault : Fault = record { event = g.event; reason = x } in fault) r

  pub one_fault : (n : ℕ) (one other : Option Fault) → IsFirstFault events n one → IsFirstFault events n other → one ≡ other
  one_fault n None None a b = refl
  one_fault n (Some f) None (k, lt, at, ill) none = absurd (none k ill.event f.reason lt ill.at ill.holds)
  one_fault n None (Some g) none (k, lt, at, ill) = absurd (none k ill.event g.reason lt ill.at ill.holds)
  one_fault n (Some f) (Some g) (k, lt, at, ill) (m, less, there, bad) =
      let same : k ≡ m = elim (cases_lt k m) [
        | inl before ↦ absurd (not_earlier k m f.reason g.reason ill bad before)
        | inr le ↦ elim (cases_lt m k) [
          | inl before ↦ absurd (not_earlier m k g.reason f.reason bad ill before)
          | inr ge ↦ omega arith
        ]
      ] in
      ap Some (same_fault f g (At-one (subst (λ x. At events x f.event) same at) there)
      (ill_reason m f.reason g.reason (subst (λ x. IsIllFormed events x f.reason) same ill) bad))
