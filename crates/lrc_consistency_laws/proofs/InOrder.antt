-- Where every write to a word that comes earlier happens before the read, what was written last is what happens before last.
-- It is so in a run without a race.
use Rattle.std.proofs.Common.{◌≡◌, ℕ, ◌<◌, List, inl, inr, sym, subst, ◌∙◌, arith}
use Rattle.std.proofs.lemmas.Bool.{cases_eq, cases_order}
use Rattle.lrc_trace.specs.declared.act.Act.{Act}
use Rattle.lrc_trace.specs.declared.act.Deed.TheVariants.{Read, Write}
use Rattle.lrc_trace.specs.Run.{Does}
use Rattle.lrc_trace.specs.Order.{HappensBefore, base, program}
use Rattle.lrc_trace.specs.Conflict.{ConflictAt, IsRaceFree}
use Rattle.lrc_trace.specs.Reading.{WrittenBefore, MayRead, ReadsLazily}
use Rattle.lrc_trace.proofs.Positions.{Does-one_deed, Does-within}
use Rattle.lrc_trace.proofs.HappensBefore.{forward}
use Rattle.lrc_trace.proofs.Decided.{HappensBefore-decided}
use Rattle.lrc_consistency_laws.specs.InOrder.{last_value, ReadsInOrder}
use Rattle.lrc_consistency_laws.proofs.LastValue.{Written, Found, found}

-- every write happens before the later reads of its word
abbrev pub OrdersReads : List Act → Type 0
OrdersReads run = (i j p q word v u : ℕ) → i < j → Does run i p (Write word v) → Does run j q (Read word u) → HappensBefore run i j

module _ (run : List Act) (before : OrdersReads run) where
  written_before : (j q word value i : ℕ) → Does run j q (Read word value) → (w : Written run j word i) → WrittenBefore run j word i w.value
  written_before j q word value i here w = record { write = w.write; before = before i j w.write.0 q word w.value value w.earlier w.write.1 here }

  may_read : (j q word value : ℕ) → Does run j q (Read word value) → value ≡ last_value run j word → Found run j word → MayRead run j word value
  may_read j q word value here e (inl u) = record {
    weak = inl (e ∙ u.zero);
    strong = λ ordered. record {
      none = λ nothing. e ∙ u.zero;
      last = λ i v l. absurd (u.none i v (forward l.written.before) l.written.write);
    };
  }
  may_read j q word value here e (inr (i, w)) =
      let mine = written_before j q word value i here w in
      record {
        weak = inr (i, subst (λ v. WrittenBefore run j word i v) (sym (e ∙ w.is_value)) mine);
        strong = λ ordered. record {
          none = λ nothing. absurd (nothing i w.value mine);
          last = λ k v l. elim (cases_order i k) [
            | inl same ↦
                let there = subst (λ m. Does run m l.written.write.0 (Write word v)) (sym same) l.written.write.1 in
                let same_write : Write word w.value ≡ Write word v = Does-one_deed w.write.1 there in
                let same_value : w.value ≡ v = cc in
                e ∙ w.is_value ∙ same_value
            | inr (inl earlier) ↦ absurd (w.last k v earlier (forward l.written.before) l.written.write)
            | inr (inr later) ↦ let le = l.last i w.value mine in absurd (omega arith)
          ];
        };
      }

  pub lazily_by_order : ReadsInOrder run → ReadsLazily run
  lazily_by_order in_order j word value (q, here) = let within = Does-within here in
      may_read j q word value here (in_order j word value (q, here)) (found run word j (omega arith))

-- without a race, a write is of the reader's own node, or in order with the read
race_free : (run : List Act) → IsRaceFree run → OrdersReads run
race_free run free i j p q word v u lt h k = elim (HappensBefore-decided run i j) [
  | inl order ↦ order
  | inr no_order ↦
      elim (cases_eq p q) [
        | inl same ↦ base (program lt h (subst (λ n. Does run j n (Read word u)) (sym same) k))
        | inr apart ↦
            let c : ConflictAt run i p j q word = record { apart = apart; first = inr (v, h); second = inl (u, k); writes = inl (v, h) } in
            absurd (free i j (record { earlier = lt; conflict = (p, q, word, c); unordered = no_order }))
      ]
]

pub lazily_without_race : (run : List Act) → IsRaceFree run → ReadsInOrder run → ReadsLazily run
lazily_without_race run free = lazily_by_order run (race_free run free)
