-- Where no race comes earlier, a read that reads lazily gives the value of the last write before it.
use Rattle.std.proofs.Common.{◌≡◌, ℕ, ◌<◌, ◌≤◌, List, inl, inr, sym, subst, ◌∙◌, arith}
use Rattle.std.proofs.lemmas.Bool.{cases_eq, cases_lt}
use Rattle.lrc_trace.specs.declared.act.Act.{Act}
use Rattle.lrc_trace.specs.declared.act.Deed.{Deed}
use Rattle.lrc_trace.specs.declared.act.Deed.TheVariants.{Read, Write}
use Rattle.lrc_trace.specs.Run.{Does}
use Rattle.lrc_trace.specs.Order.{HappensBefore, base, program}
use Rattle.lrc_trace.specs.Conflict.{Accesses, ConflictAt, Races}
use Rattle.lrc_trace.specs.Reading.{AreOrdered, IsLastWrite, IsLatest, MayRead}
use Rattle.lrc_trace.proofs.Decided.{HappensBefore-decided}
use Rattle.lrc_trace.proofs.Positions.{Does-within}
use Rattle.lrc_trace.proofs.HappensBefore.{forward}
use Rattle.lrc_consistency_laws.specs.InOrder.{last_value}
use Rattle.lrc_consistency_laws.proofs.LastValue.{Written, Found, found}

module _ (run : List Act) (j : ℕ) (calm : (i k : ℕ) → k ≤ j → Races run i k → ⊥) where
  -- a write happens before a later access
  before_access : (i k p q word v : ℕ) → i < k → k ≤ j → Does run i p (Write word v) → (d : Deed) → Does run k q d → Accesses run k q word
      → HappensBefore run i k
  before_access i k p q word v lt le w d there access = elim (HappensBefore-decided run i k) [
    | inl order ↦ order
    | inr no_order ↦ elim (cases_eq p q) [
      | inl same ↦ base (program lt w (subst (λ n. Does run k n d) (sym same) there))
      | inr apart ↦
          let c : ConflictAt run i p k q word = record { apart = apart; first = inr (v, w); second = access; writes = inl (v, w) } in
          absurd (calm i k le (record { earlier = lt; conflict = (p, q, word, c); unordered = no_order }))
    ]
  ]

  -- any two writes that happen before j are ordered
  all_ordered : (word : ℕ) → AreOrdered run j word
  all_ordered word i k u v a b lt =
      let below = forward b.before in
      before_access i k a.write.0 b.write.0 word u lt (omega arith) a.write.1 (Write word v) b.write.1 (inr (v, b.write.1))

  -- the last write before j in the run is the last that happens before it
  is_last : (node word value i : ℕ) → Does run j node (Read word value) → (w : Written run j word i) → HappensBefore run i j → IsLastWrite run j word i w.value
  is_last node word value i here w order = record {
    written = record { write = w.write; before = order };
    last = λ k v x. elim (cases_lt i k) [ inl later ↦ absurd (w.last k v later (forward x.before) x.write) | inr le ↦ le ];
  }

  reads_found : (node word value : ℕ) → Does run j node (Read word value) → IsLatest run j word value → Found run j word → value ≡ last_value run j word
  reads_found node word value here latest (inl u) = latest.none (λ i v w. u.none i v (forward w.before) w.write) ∙ sym u.zero
  reads_found node word value here latest (inr (i, w)) =
      let order = before_access i j w.write.0 node word w.value w.earlier (omega arith) w.write.1 (Read word value) here (inl (value, here)) in
      latest.last i w.value (is_last node word value i here w order) ∙ sym w.is_value

  pub reads_last : (node word value : ℕ) → Does run j node (Read word value) → MayRead run j word value → value ≡ last_value run j word
  reads_last node word value here may =
      let within = Does-within here in
      reads_found node word value here (may.strong (all_ordered word)) (found run word j (omega arith))
