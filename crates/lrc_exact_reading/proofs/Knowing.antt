-- Which writes a time knows, and how they stand to one another.
use Rattle.std.proofs.Common.{◌≡◌, ◌≢◌, ℕ, zero, suc, ◌+◌, ◌<◌, ◌≤◌, ◌&&◌, Bool, true, false, List, length, inl, inr, refl, sym, subst, ap, ◌∙◌, arith}
use Rattle.std.specs.Prelude.{◌==◌, Option, Some, None, nat_le, nat_lt, slice_get}
use Rattle.std.proofs.lemmas.Bool.{cases_eq, cases_lt, and_parts, and_from, both_ways, eqb-true, eq-eqb, leb-true, le-leb, false≢true, false_from_ne_true}
use Rattle.std.proofs.lemmas.Bool.{lt-ltb, or_left}
use Rattle.lrc_trace.specs.declared.act.Act.{Act}
use Rattle.lrc_trace.specs.declared.act.Deed.{Deed}
use Rattle.lrc_trace.specs.declared.act.Deed.TheVariants.{Write, Acquire, Release, Arrive}
use Rattle.lrc_trace.specs.Run.{Does, act_of}
use Rattle.lrc_trace.specs.Order.{HappensBefore}
use Rattle.lrc_trace.specs.Interval.{closes, interval_at}
use Rattle.lrc_trace.specs.Synchronization.{IsWellSynchronized, WaitsAtBarriers}
use Rattle.lrc_trace.proofs.Positions.{Does-node, Does-one_node, Does-one_deed, Does-within}
use Rattle.lrc_trace.proofs.HappensBefore.{forward}
use Rattle.lrc_trace.proofs.Intervals.{count_of-more, never_fall}
use Rattle.lrc_time.specs.Time.{zeros, entry, Covers, weight_of}
use Rattle.lrc_time.proofs.Times.{entry-zeros, covers-trans, covers-raised, weight-covers_strictly}
use Rattle.lrc_clock.specs.Times.{is_act, time_at, raised, time_before, stamp_at}
use Rattle.lrc_clock.specs.Keeping.{KeepsTime, leaves_time}
use Rattle.lrc_clock.specs.Cover.{ClosesAt}
use Rattle.lrc_clock.proofs.Passing.{at_act, act_of_passing}
use Rattle.lrc_clock.proofs.Rules.{long, stamp-covers}
use Rattle.lrc_clock.proofs.Covering.{rises}
use Rattle.lrc_clock.proofs.Ordering.{order_to_cover}
use Rattle.lrc_clock.proofs.Stamps.{cut_before, cut_stamp}
use Rattle.lrc_clock.proofs.Intervals.{interval_of_other, interval_between}
use Rattle.lrc_clock.proofs.Epochs.{same_before}
use Rattle.lrc_exact.specs.Memory.{Rank, is_lower}
use Rattle.lrc_exact_reading.specs.Steady.{AreInOneInterval}

-- whether a deed writes the word, and the value that it writes
abbrev pub writes_word : ℕ → Deed → Bool
writes_word word (Write w v) = w == word
writes_word word _ = false

abbrev pub written_value : Option Act → ℕ
written_value (Some act) = deed_value act.deed
  where
    deed_value : Deed → ℕ
    deed_value (Write w v) = v
    deed_value _ = 0
written_value None = 0

writes-is : (word : ℕ) (d : Deed) → writes_word word d ≡ true → (v : ℕ) × (d ≡ Write word v)
writes-is word (Write w v) e = (v, ap (λ x. Write x v) (eqb-true w word e))
writes-is word _ e = absurd (false≢true e)

pub closes-changes_time : (d : Deed) → closes d ≡ true → leaves_time d ≡ true → ⊥
closes-changes_time (Acquire l) a b = false≢true b
closes-changes_time (Release l) a b = false≢true b
closes-changes_time Arrive a b = false≢true b
closes-changes_time _ a b = false≢true a

pub leaves-not_closes : (d : Deed) → leaves_time d ≡ true → closes d ≡ false
leaves-not_closes d still = false_from_ne_true (closes d) (λ closing. closes-changes_time d closing still)

-- the value that is written at a position, and the rank of what its node does there, by its time
abbrev pub value_at : List Act → ℕ → ℕ
value_at run k = written_value (slice_get run k)

pub value_at-is : (run : List Act) (k node word v : ℕ) → Does run k node (Write word v) → value_at run k ≡ v
value_at-is run k node word v does = ap written_value does.stands

-- whether a write of the word stands at a position, in an interval that the time knows
abbrev pub is_known : List Act → ℕ → List ℕ → ℕ → Bool
is_known run word time k = is_act (λ a. writes_word word a.deed && nat_le (interval_at run a.node k) (entry time a.node)) (slice_get run k)

module _ (run : List Act) (word : ℕ) where
  -- it is a write in a known interval
  pub record IsKnown (time : List ℕ) (k : ℕ) : Type 0 where
    pub node : ℕ
    pub value : ℕ
    pub write : Does run k node (Write word value)
    pub inside : interval_at run node k ≤ entry time node

  pub known-from : (time : List ℕ) (k : ℕ) → is_known run word time k ≡ true → IsKnown time k
  known-from time k e =
      let (act, does, passes) = act_of_passing run (λ a. writes_word word a.deed && nat_le (interval_at run a.node k) (entry time a.node)) k e in
      let both = and_parts (writes_word word act.deed) (nat_le (interval_at run act.node k) (entry time act.node)) passes in
      let (v, is) = writes-is word act.deed both.0 in
      record {
        node = act.node;
        value = v;
        write = subst (λ (d : Deed). Does run k act.node d) is does;
        inside = leb-true (interval_at run act.node k) (entry time act.node) both.1;
      }

  pub known-to : (time : List ℕ) (k node v : ℕ) → Does run k node (Write word v) → interval_at run node k ≤ entry time node
      → is_known run word time k ≡ true
  known-to time k node v does inside =
      at_act run (λ a. writes_word word a.deed && nat_le (interval_at run a.node k) (entry time a.node)) k node (Write word v) does
      ∙ and_from (word == word) (nat_le (interval_at run node k) (entry time node)) (eq-eqb word word refl)
      (le-leb (interval_at run node k) (entry time node) inside)

  pub known-not : (time : List ℕ) (k node v : ℕ) → Does run k node (Write word v) → is_known run word time k ≡ false
      → entry time node < interval_at run node k
  known-not time k node v does out =
      elim (cases_lt (entry time node) (interval_at run node k)) [
        | inl less ↦ less
        | inr most ↦ absurd (both_ways (is_known run word time k) out (known-to time k node v does most))
      ]

  pub known-out : (time : List ℕ) (k node v : ℕ) → Does run k node (Write word v) → entry time node < interval_at run node k
      → is_known run word time k ≡ false
  known-out time k node v does less =
      false_from_ne_true (is_known run word time k) (λ in_it.
      let known = known-from time k in_it in
      let own = Does-one_node known.write does in
      let inside : interval_at run node k ≤ entry time node = subst (λ p. interval_at run p k ≤ entry time p) own known.inside in
      omega arith)

  -- a later time knows them too
  pub known-rises : (time later : List ℕ) (k : ℕ) → Covers later time → is_known run word time k ≡ true → is_known run word later k ≡ true
  known-rises time later k above e =
      let known = known-from time k e in
      let more = above known.node in
      let inside = known.inside in
      known-to later k known.node known.value known.write (omega arith)

  -- whole intervals are known
  pub known-whole : (time any : List ℕ) (c k : ℕ) → is_known run word time c ≡ true → is_known run word any k ≡ true → AreInOneInterval run k c
      → is_known run word time k ≡ true
  known-whole time any c k is write one =
      let known = known-from time c is in
      let there = known-from any k write in
      let same : known.node ≡ one.node = Does-one_node known.write one.second in
      let own : there.node ≡ one.node = Does-one_node there.write one.first in
      let inside : interval_at run one.node c ≤ entry time one.node = subst (λ p. interval_at run p c ≤ entry time p) same known.inside in
      let index = one.same in
      known-to time k one.node there.value (Does-node own there.write) (omega arith)

  pub turned : (i k : ℕ) → AreInOneInterval run i k → AreInOneInterval run k i
  turned i k one = record {
    node = one.node;
    deed = one.other;
    first = one.second;
    other = one.deed;
    second = one.first;
    same = sym one.same;
  }

-- an act that closes nothing stands before the one that closes its interval
pub before_closing : (run : List Act) (k q i : ℕ) (e : Deed) → Does run k q e → leaves_time e ≡ true → ClosesAt run q (interval_at run q k) i → k < i
before_closing run k q i e does still closing =
    elim (cases_lt k i) [
      | inl less ↦ less
      | inr least ↦
          elim (cases_eq k i) [
            | inl here ↦
                let same = Does-one_deed (subst (λ m. Does run m q e) here does) closing.does in
                absurd (closes-changes_time e (ap closes same ∙ closing.closing) still)
            | inr apart ↦
                let more = count_of-more closes run q i closing.deed closing.does closing.closing in
                let rise = never_fall run q (i + 1) k (omega arith) in
                let index = closing.interval in
                absurd (omega arith)
          ]
    ]

-- ---- times that know all that happens before what they know

-- the time covers the time at each act in an interval that it knows, but for those that learn
abbrev pub IsDown : List Act → List (List ℕ) → List ℕ → Type 0
IsDown run times time = (k q : ℕ) (e : Deed) → Does run k q e → leaves_time e ≡ true → interval_at run q k ≤ entry time q → Covers time (time_at times k)

-- the rank of the interval that a node is in at a position, by its time there
abbrev pub rank_of : List (List ℕ) → ℕ → ℕ → Rank
rank_of times node k = record { weight = weight_of (time_at times k) + 1; node = node }

module _ {nodes : ℕ} {run : List Act} {times : List (List ℕ)} (ws : IsWellSynchronized nodes run) (waits : WaitsAtBarriers run)
    (keeps : KeepsTime nodes run times) where
  pub down-zeros : IsDown run times (zeros nodes)
  down-zeros k q e does still inside = let none = entry-zeros nodes q in absurd (omega arith)

  -- the stamp of an interval covers the time at each act in it
  stamp_of : (k q i : ℕ) (e : Deed) → Does run k q e → leaves_time e ≡ true → k < i → interval_at run q k ≡ interval_at run q i
      → Covers (stamp_at nodes run times q i) (time_at times k)
  stamp_of k q i e does still less index =
      subst (λ t. Covers (stamp_at nodes run times q i) t) (same_before ws waits keeps k i q e does still less index) (stamp-covers keeps q i)

  through_stamp : (time : List ℕ) (k q i : ℕ) (e : Deed) → Does run k q e → leaves_time e ≡ true → ClosesAt run q (interval_at run q k) i
      → Covers time (stamp_at nodes run times q i) → Covers time (time_at times k)
  through_stamp time k q i e does still closing above =
      covers-trans time (stamp_at nodes run times q i) (time_at times k) above
      (stamp_of k q i e does still (before_closing run k q i e does still closing) (sym closing.interval))

  pub down-before : (j node : ℕ) → IsDown run times (time_before nodes run times node j)
  down-before j node k q e does still inside =
      let (i, closing, less, above) = cut_before keeps ws j node q (interval_at run q k) (omega arith) inside in
      through_stamp (time_before nodes run times node j) k q i e does still closing above

  pub down-stamp : (j node : ℕ) (d : Deed) → Does run j node d → closes d ≡ true → IsDown run times (stamp_at nodes run times node j)
  down-stamp j node d does closing k q e there still inside =
      let within = Does-within does in
      elim (cut_stamp keeps ws j node q (interval_at run q k) (omega arith) (keeps.in_range j node d does) (omega arith) inside) [
        | inl (i, closes', less, above) ↦ through_stamp (stamp_at nodes run times node j) k q i e there still closes' above
        | inr (own, index) ↦
            let there' : Does run k node e = Does-node own there in
            let same : interval_at run node k ≡ interval_at run node j = subst (λ p. interval_at run p k ≡ interval_at run node j) own index in
            let closing' : ClosesAt run node (interval_at run node k) j = record { deed = d; does = does; closing = closing; interval = sym same } in
            stamp_of k node j e there' still (before_closing run k node j e there' still closing') same
      ]

  -- what happens before a known write is known
  pub down : (word : ℕ) (time any : List ℕ) (i k : ℕ) → IsDown run times time → is_known run word time k ≡ true → is_known run word any i ≡ true
      → HappensBefore run i k → is_known run word time i ≡ true
  down word time any i k low is write before =
      let known = known-from run word time k is in
      let there = known-from run word any i write in
      let p = there.node in
      let q = known.node in
      let inside = known.inside in
      let above = low k q (Write word known.value) known.write refl inside p in
      known-to run word time i p there.value there.write (
      elim (cases_eq p q) [
        | inl own ↦
            let less = forward before in
            let rise = never_fall run q i k (omega arith) in
            subst (λ m. interval_at run m i ≤ entry time m) (sym own) (omega arith)
        | inr apart ↦
            let cover = order_to_cover keeps ws i k p q (Write word there.value) (Write word known.value) apart there.write known.write before in
            omega arith
      ])

  -- what happens before in another interval is of a lower rank
  pub heavier : (i k p q : ℕ) (d e : Deed) → Does run i p d → leaves_time d ≡ true → Does run k q e → leaves_time e ≡ true → HappensBefore run i k
      → (AreInOneInterval run i k → ⊥) → is_lower (rank_of times p i) (rank_of times q k) ≡ true
  heavier i k p q d e first still second still' before apart =
      or_left (nat_lt (weight_of (time_at times i) + 1) (weight_of (time_at times k) + 1))
      ((weight_of (time_at times i) + 1 == weight_of (time_at times k) + 1) && nat_lt p q)
      (lt-ltb (weight_of (time_at times i) + 1) (weight_of (time_at times k) + 1) (omega (arith, lighter)))
    where
      differ : time_at times k ≡ time_at times i → ⊥
      differ same =
          let first_index = interval_of_other keeps i p d first (leaves-not_closes d still) in
          let second_index = interval_of_other keeps k q e second (leaves-not_closes e still') in
          let entries : entry (time_at times k) p ≡ entry (time_at times i) p = ap (λ t. entry t p) same in
          elim (cases_eq p q) [
            | inl own ↦
                let later : entry (time_at times k) p + 1 ≡ interval_at run p k =
                subst (λ m. entry (time_at times k) m + 1 ≡ interval_at run m k) (sym own) (sym second_index) in
                apart record { node = p; deed = d; first = first; other = e; second = Does-node (sym own) second; same = omega arith }
            | inr other ↦ let cover = order_to_cover keeps ws i k p q d e other first second before in omega arith
          ]

      lighter : weight_of (time_at times i) < weight_of (time_at times k)
      lighter =
          weight-covers_strictly (time_at times k) (time_at times i) (long keeps k q e second ∙ sym (long keeps i p d first)) (rises keeps ws before) differ

  -- what a node knows in an interval, for one of its acts there
  module _ (y q i : ℕ) (e : Deed) (does : Does run y q e) (still : leaves_time e ≡ true) (less : y < i)
      (index : interval_at run q y ≡ interval_at run q i) where
    pub same_inside : time_before nodes run times q i ≡ time_at times y
    same_inside = same_before ws waits keeps y i q e does still less index

    pub earlier_than : (word k : ℕ) → is_known run word (time_before nodes run times q i) k ≡ true → k < y
    earlier_than word k is =
        let known = known-from run word (time_before nodes run times q i) k is in
        let time : time_before nodes run times q i ≡ time_before nodes run times q y = same_inside ∙ keeps.others y q e does still in
        let inside : interval_at run known.node k ≤ entry (time_before nodes run times q y) known.node =
        subst (λ t. interval_at run known.node k ≤ entry t known.node) time known.inside in
        let (c, closing, before, above) = cut_before keeps ws y q known.node (interval_at run known.node k) (omega arith) inside in
        let first = before_closing run k known.node c (Write word known.value) known.write refl closing in
        omega arith

    pub complete_below : (word k : ℕ) (any : List ℕ) → is_known run word any k ≡ true → HappensBefore run k y → (AreInOneInterval run k y → ⊥)
        → is_known run word (time_before nodes run times q i) k ≡ true
    complete_below word k any is before apart =
        let known = known-from run word any k is in
        let p = known.node in
        let write = known.write in
        known-to run word (time_before nodes run times q i) k p known.value write (
        subst (λ t. interval_at run p k ≤ entry t p) (sym same_inside) (
        elim (cases_eq p q) [
          | inl own ↦
              let rise = never_fall run q k y (let lt = forward before in omega arith) in
              let here = interval_of_other keeps y q e does (leaves-not_closes e still) in
              let other : interval_at run q k ≢ interval_at run q y = λ same.
              apart record { node = q; deed = Write word known.value; first = Does-node own write; other = e; second = does; same = same } in
              subst (λ m. interval_at run m k ≤ entry (time_at times y) m) (sym own) (omega arith)
          | inr other ↦ order_to_cover keeps ws k y p q (Write word known.value) e other write does before
        ]))
