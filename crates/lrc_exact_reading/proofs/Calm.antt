-- Where acts have no race, what may be read lazily is the value of the last write before.
use Rattle.std.proofs.Common.{◌≡◌, ℕ, ◌<◌, ◌≤◌, List, inl, inr, sym, subst, ◌∙◌, arith}
use Rattle.std.proofs.lemmas.Bool.{cases_eq, cases_lt}
use Rattle.lrc_trace.specs.declared.act.Act.{Act}
use Rattle.lrc_trace.specs.declared.act.Deed.{Deed}
use Rattle.lrc_trace.specs.declared.act.Deed.TheVariants.{Read, Write}
use Rattle.lrc_trace.specs.Run.{Does}
use Rattle.lrc_trace.specs.Order.{HappensBefore, base, program}
use Rattle.lrc_trace.specs.Conflict.{Accesses, ConflictAt, Races, IsRaceFree}
use Rattle.lrc_trace.specs.Reading.{AreOrdered, IsLastWrite, IsLatest, MayRead}
use Rattle.lrc_trace.proofs.Decided.{HappensBefore-decided}
use Rattle.lrc_trace.proofs.Positions.{Does-node, Does-within}
use Rattle.lrc_trace.proofs.HappensBefore.{forward}
use Rattle.lrc_consistency_laws.specs.InOrder.{last_value}
use Rattle.lrc_consistency_laws.proofs.LastValue.{Written, Found, found}

module _ (run : List Act) (calm : IsRaceFree run) where
  -- a write happens before each later access of its word
  before_access : (i k p q word v : ℕ) (d : Deed) → i < k → Does run i p (Write word v) → Does run k q d → Accesses run k q word → HappensBefore run i k
  before_access i k p q word v d less write there access =
      elim (HappensBefore-decided run i k) [
        | inl order ↦ order
        | inr unordered ↦
            elim (cases_eq p q) [
              | inl same ↦ base (program less write (Does-node (sym same) there))
              | inr apart ↦
                  let conflict : ConflictAt run i p k q word =
                  record { apart = apart; first = inr (v, write); second = access; writes = inl (v, write) } in
                  absurd (calm i k record { earlier = less; conflict = (p, q, word, conflict); unordered = unordered })
            ]
      ]

  pub last_is_read : (j node word read v : ℕ) → Does run j node (Read word read) → MayRead run j word v → v ≡ last_value run j word
  last_is_read j node word read v here may = go (found run word j (let inside = Does-within here in omega arith))
    where
      ordered : AreOrdered run j word
      ordered i k u x a b less = before_access i k a.write.0 b.write.0 word u (Write word x) less a.write.1 b.write.1 (inr (x, b.write.1))

      latest : IsLatest run j word v
      latest = may.strong ordered

      go : Found run j word → v ≡ last_value run j word
      go (inl none) = latest.none (λ i u w. none.none i u (forward w.before) w.write) ∙ sym none.zero
      go (inr (i, w)) =
          let order = before_access i j w.write.0 node word w.value (Read word read) w.earlier w.write.1 here (inl (read, here)) in
          let last : IsLastWrite run j word i w.value = record {
            written = record { write = w.write; before = order };
            last = λ k u x.
                elim (cases_lt i k) [
                  | inl later ↦ absurd (w.last k u later (forward x.before) x.write)
                  | inr le ↦ le
                ];
          } in
          latest.last i w.value last ∙ sym w.is_value
