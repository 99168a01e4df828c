-- A run by hand: what its reader's time covers, and that it may read what the repair made.
use Rattle.std.proofs.Common.{◌≡◌, ℕ, zero, suc, ◌<◌, ◌≤◌, ◌⊎◌, ◌∙◌, IsTrue, List, [], ◌∷◌, Some, None, ap, sym, subst, refl, inl, inr, ⊎_elim, arith}
use Rattle.std.specs.Prelude.{Contains, nat_le}
use Rattle.std.proofs.lemmas.Bool.{leb-true}
use Rattle.lrc_time.specs.Time.{entry}
use Rattle.lrc_trace.specs.declared.act.Deed.{Deed}
use Rattle.lrc_trace.specs.declared.act.Deed.TheVariants.{Read, Write, Acquire, Release}
use Rattle.lrc_trace.specs.Run.{Does}
use Rattle.lrc_trace.specs.Order.{HappensBefore, base, further, program, lock}
use Rattle.lrc_trace.specs.Interval.{interval_at}
use Rattle.lrc_trace.proofs.Positions.{Does-one_node, Does-one_deed}
use Rattle.lrc_trace.proofs.HappensBefore.{forward, transitive}
use Rattle.lrc_copies.specs.Stamps.{stamp_index, stamps_covered}
use Rattle.lrc_copies.specs.Reading.{IsLastWriteIn, ListsWrites}
use Rattle.test_parts.specs.Copies.{four, four_stamps, four_wrote, four_run}
use Rattle.test_parts.proofs.RepairByHand.{each_of_four}

-- the reader's time
abbrev reads_at : List ℕ
reads_at = 4 ∷ 2 ∷ 1 ∷ []

here_0 : Does four_run 0 0 (Write 0 5)
here_0 = record { stands = refl }

here_1 : Does four_run 1 0 (Acquire 0)
here_1 = record { stands = refl }

here_2 : Does four_run 2 0 (Release 0)
here_2 = record { stands = refl }

here_3 : Does four_run 3 1 (Acquire 0)
here_3 = record { stands = refl }

here_4 : Does four_run 4 1 (Write 0 9)
here_4 = record { stands = refl }

here_5 : Does four_run 5 1 (Release 0)
here_5 = record { stands = refl }

here_6 : Does four_run 6 0 (Acquire 0)
here_6 = record { stands = refl }

here_7 : Does four_run 7 0 (Write 0 9)
here_7 = record { stands = refl }

here_8 : Does four_run 8 0 (Release 0)
here_8 = record { stands = refl }

here_9 : Does four_run 9 2 (Write 1 7)
here_9 = record { stands = refl }

here_10 : Does four_run 10 2 (Acquire 0)
here_10 = record { stands = refl }

here_11 : Does four_run 11 2 (Read 0 9)
here_11 = record { stands = refl }

-- ---- the writes to the first word

abbrev IsWrite : ℕ → ℕ → ℕ → Type 0
IsWrite i node v =
    ((i ≡ 0) × (node ≡ 0) × (v ≡ 5)) ⊎ (((i ≡ 4) × (node ≡ 1) × (v ≡ 9)) ⊎ ((i ≡ 7) × (node ≡ 0) × (v ≡ 9)))

same_write : {u v : ℕ} → Write 0 u ≡ Write 0 v → u ≡ v
same_write e = cc

writes : (i node v : ℕ) → Does four_run i node (Write 0 v) → IsWrite i node v
writes zero node v h = inl (refl, Does-one_node h here_0, same_write (Does-one_deed h here_0))
writes (suc zero) node v h = let e : Write 0 v ≡ Acquire 0 = Does-one_deed h here_1 in absurd (cc)
writes (suc (suc zero)) node v h = let e : Write 0 v ≡ Release 0 = Does-one_deed h here_2 in absurd (cc)
writes (suc (suc (suc zero))) node v h = let e : Write 0 v ≡ Acquire 0 = Does-one_deed h here_3 in absurd (cc)
writes (suc (suc (suc (suc zero)))) node v h = inr (inl (refl, Does-one_node h here_4, same_write (Does-one_deed h here_4)))
writes (suc (suc (suc (suc (suc zero))))) node v h = let e : Write 0 v ≡ Release 0 = Does-one_deed h here_5 in absurd (cc)
writes (suc (suc (suc (suc (suc (suc zero)))))) node v h = let e : Write 0 v ≡ Acquire 0 = Does-one_deed h here_6 in absurd (cc)
writes (suc (suc (suc (suc (suc (suc (suc zero))))))) node v h = inr (inr (refl, Does-one_node h here_7, same_write (Does-one_deed h here_7)))
writes (suc (suc (suc (suc (suc (suc (suc (suc zero)))))))) node v h = let e : Write 0 v ≡ Release 0 = Does-one_deed h here_8 in absurd (cc)
writes (suc (suc (suc (suc (suc (suc (suc (suc (suc zero))))))))) node v h = let e : Write 0 v ≡ Write 1 7 = Does-one_deed h here_9 in absurd (cc)
writes (suc (suc (suc (suc (suc (suc (suc (suc (suc (suc zero)))))))))) node v h = let e : Write 0 v ≡ Acquire 0 = Does-one_deed h here_10 in absurd (cc)
writes (suc (suc (suc (suc (suc (suc (suc (suc (suc (suc (suc zero))))))))))) node v h = let e : Write 0 v ≡ Read 0 9 = Does-one_deed h here_11 in absurd (cc)
writes (suc (suc (suc (suc (suc (suc (suc (suc (suc (suc (suc (suc i)))))))))))) node v h = let e = h.stands in absurd (cc)

-- ---- all other nodes' acts happen before the read

from_8 : HappensBefore four_run 8 11
from_8 = further (base (lock (omega arith) here_8 here_10)) (program (omega arith) here_10 here_11)

from_5 : HappensBefore four_run 5 11
from_5 = further (base (lock (omega arith) here_5 here_10)) (program (omega arith) here_10 here_11)

abbrev IsSeen : ℕ → ℕ → Type 0
IsSeen i node = HappensBefore four_run i 11 × (interval_at four_run node i ≤ entry reads_at node)

by_8 : {i : ℕ} {d : Deed} → i < 8 → Does four_run i 0 d → HappensBefore four_run i 11
by_8 before does = transitive (base (program before does here_8)) from_8

by_5 : {i : ℕ} {d : Deed} → i < 5 → Does four_run i 1 d → HappensBefore four_run i 11
by_5 before does = transitive (base (program before does here_5)) from_5

also_of : {i n node : ℕ} {d e : Deed} → Does four_run i n d → Does four_run i node e → IsSeen i n → IsSeen i node
also_of {i} here does here_seen = subst (IsSeen i) (Does-one_node here does) here_seen

known : (i node : ℕ) → IsTrue (nat_le (interval_at four_run node i) (entry reads_at node))
    → interval_at four_run node i ≤ entry reads_at node
known i node holds = leb-true (interval_at four_run node i) (entry reads_at node) holds

seen : (i node : ℕ) (d : Deed) → (node ≡ 2 → ⊥) → Does four_run i node d → IsSeen i node
seen zero node d other h = also_of here_0 h (by_8 (omega arith) here_0, known 0 0 refl)
seen (suc zero) node d other h = also_of here_1 h (by_8 (omega arith) here_1, known 1 0 refl)
seen (suc (suc zero)) node d other h = also_of here_2 h (by_8 (omega arith) here_2, known 2 0 refl)
seen (suc (suc (suc zero))) node d other h = also_of here_3 h (by_5 (omega arith) here_3, known 3 1 refl)
seen (suc (suc (suc (suc zero)))) node d other h = also_of here_4 h (by_5 (omega arith) here_4, known 4 1 refl)
seen (suc (suc (suc (suc (suc zero))))) node d other h = also_of here_5 h (from_5, known 5 1 refl)
seen (suc (suc (suc (suc (suc (suc zero)))))) node d other h = also_of here_6 h (by_8 (omega arith) here_6, known 6 0 refl)
seen (suc (suc (suc (suc (suc (suc (suc zero))))))) node d other h = also_of here_7 h (by_8 (omega arith) here_7, known 7 0 refl)
seen (suc (suc (suc (suc (suc (suc (suc (suc zero)))))))) node d other h = also_of here_8 h (from_8, known 8 0 refl)
seen (suc (suc (suc (suc (suc (suc (suc (suc (suc zero))))))))) node d other h = absurd (other (Does-one_node h here_9))
seen (suc (suc (suc (suc (suc (suc (suc (suc (suc (suc zero)))))))))) node d other h = absurd (other (Does-one_node h here_10))
seen (suc (suc (suc (suc (suc (suc (suc (suc (suc (suc (suc zero))))))))))) node d other h = absurd (other (Does-one_node h here_11))
seen (suc (suc (suc (suc (suc (suc (suc (suc (suc (suc (suc (suc i)))))))))))) node d other h = let e = h.stands in absurd (cc)

-- ---- the members of the list

only_one : (a b : ℕ) → Contains four a → Contains four b → four_stamps.node a ≡ four_stamps.node b
    → stamp_index four_stamps a ≡ stamp_index four_stamps b → a ≡ b
only_one a b a_in b_in =
    each_of_four (λ c. four_stamps.node c ≡ four_stamps.node b → stamp_index four_stamps c ≡ stamp_index four_stamps b → c ≡ b)
    (each_of_four (λ c. four_stamps.node 0 ≡ four_stamps.node c → stamp_index four_stamps 0 ≡ stamp_index four_stamps c → 0 ≡ c)
    (λ e f. refl)
    (λ (e : 0 ≡ 2) (f : 1 ≡ 1). absurd (omega arith))
    (λ (e : 0 ≡ 1) (f : 1 ≡ 2). absurd (omega arith))
    (λ (e : 0 ≡ 0) (f : 1 ≡ 4). absurd (omega arith))
    b b_in)
    (each_of_four (λ c. four_stamps.node 1 ≡ four_stamps.node c → stamp_index four_stamps 1 ≡ stamp_index four_stamps c → 1 ≡ c)
    (λ (e : 2 ≡ 0) (f : 1 ≡ 1). absurd (omega arith))
    (λ e f. refl)
    (λ (e : 2 ≡ 1) (f : 1 ≡ 2). absurd (omega arith))
    (λ (e : 2 ≡ 0) (f : 1 ≡ 4). absurd (omega arith))
    b b_in)
    (each_of_four (λ c. four_stamps.node 2 ≡ four_stamps.node c → stamp_index four_stamps 2 ≡ stamp_index four_stamps c → 2 ≡ c)
    (λ (e : 1 ≡ 0) (f : 2 ≡ 1). absurd (omega arith))
    (λ (e : 1 ≡ 2) (f : 2 ≡ 1). absurd (omega arith))
    (λ e f. refl)
    (λ (e : 1 ≡ 0) (f : 2 ≡ 4). absurd (omega arith))
    b b_in)
    (each_of_four (λ c. four_stamps.node 3 ≡ four_stamps.node c → stamp_index four_stamps 3 ≡ stamp_index four_stamps c → 3 ≡ c)
    (λ (e : 0 ≡ 0) (f : 4 ≡ 1). absurd (omega arith))
    (λ (e : 0 ≡ 2) (f : 4 ≡ 1). absurd (omega arith))
    (λ (e : 0 ≡ 1) (f : 4 ≡ 2). absurd (omega arith))
    (λ e f. refl)
    b b_in)
    a a_in

-- a write to the word in a member
abbrev IsIn : ℕ → ℕ → Type 0
IsIn i a = ((i ≡ 0) × (a ≡ 0)) ⊎ (((i ≡ 4) × (a ≡ 2)) ⊎ ((i ≡ 7) × (a ≡ 3)))

is_in : (i a v : ℕ) → Contains four a → Does four_run i (four_stamps.node a) (Write 0 v)
    → interval_at four_run (four_stamps.node a) i ≡ stamp_index four_stamps a → IsIn i a
is_in i a v a_in does inside =
    let place : (node k : ℕ) → i ≡ k → four_stamps.node a ≡ node → stamp_index four_stamps a ≡ interval_at four_run node k =
    λ node k at same. sym inside ∙ ap (λ m. interval_at four_run m i) same ∙ ap (interval_at four_run node) at in
    ⊎_elim
    (λ (first : (i ≡ 0) × (four_stamps.node a ≡ 0) × (v ≡ 5)).
    inl (first.0, only_one a 0 a_in (0, omega arith, refl) first.1 (place 0 0 first.0 first.1)))
    (λ (later : ((i ≡ 4) × (four_stamps.node a ≡ 1) × (v ≡ 9)) ⊎ ((i ≡ 7) × (four_stamps.node a ≡ 0) × (v ≡ 9))).
    inr (⊎_elim
    (λ (second : (i ≡ 4) × (four_stamps.node a ≡ 1) × (v ≡ 9)).
    inl (second.0, only_one a 2 a_in (2, omega arith, refl) second.1 (place 1 4 second.0 second.1)))
    (λ (third : (i ≡ 7) × (four_stamps.node a ≡ 0) × (v ≡ 9)).
    inr (third.0, only_one a 3 a_in (3, omega arith, refl) third.1 (place 0 7 third.0 third.1)))
    later))
    (writes i (four_stamps.node a) v does)

last_in_0 : IsLastWriteIn four_run 11 0 0 1 0 5
last_in_0 = record {
  write = here_0;
  earlier = omega arith;
  inside = refl;
  last = λ k v below does inside. ⊎_elim
      (λ (first : (k ≡ 0) × (0 ≡ 0) × (v ≡ 5)). let e = first.0 in omega arith)
      (λ (later : ((k ≡ 4) × (0 ≡ 1) × (v ≡ 9)) ⊎ ((k ≡ 7) × (0 ≡ 0) × (v ≡ 9))). ⊎_elim
      (λ (second : (k ≡ 4) × (0 ≡ 1) × (v ≡ 9)). let e = second.1 in absurd (omega arith))
      (λ (third : (k ≡ 7) × (0 ≡ 0) × (v ≡ 9)).
      let e : 4 ≡ 1 = sym (ap (interval_at four_run 0) third.0) ∙ inside in absurd (omega arith))
      later)
      (writes k 0 v does);
}

last_in_2 : IsLastWriteIn four_run 11 0 1 2 4 9
last_in_2 = record {
  write = here_4;
  earlier = omega arith;
  inside = refl;
  last = λ k v below does inside. ⊎_elim
      (λ (first : (k ≡ 0) × (1 ≡ 0) × (v ≡ 5)). let e = first.0 in omega arith)
      (λ (later : ((k ≡ 4) × (1 ≡ 1) × (v ≡ 9)) ⊎ ((k ≡ 7) × (1 ≡ 0) × (v ≡ 9))). ⊎_elim
      (λ (second : (k ≡ 4) × (1 ≡ 1) × (v ≡ 9)). let e = second.0 in omega arith)
      (λ (third : (k ≡ 7) × (1 ≡ 0) × (v ≡ 9)). let e = third.1 in absurd (omega arith))
      later)
      (writes k 1 v does);
}

last_in_3 : IsLastWriteIn four_run 11 0 0 4 7 9
last_in_3 = record {
  write = here_7;
  earlier = omega arith;
  inside = refl;
  last = λ k v below does inside. ⊎_elim
      (λ (first : (k ≡ 0) × (0 ≡ 0) × (v ≡ 5)). let e = first.0 in omega arith)
      (λ (later : ((k ≡ 4) × (0 ≡ 1) × (v ≡ 9)) ⊎ ((k ≡ 7) × (0 ≡ 0) × (v ≡ 9))). ⊎_elim
      (λ (second : (k ≡ 4) × (0 ≡ 1) × (v ≡ 9)). let e = second.0 in omega arith)
      (λ (third : (k ≡ 7) × (0 ≡ 0) × (v ≡ 9)). let e = third.0 in omega arith)
      later)
      (writes k 0 v does);
}

pub lists : ListsWrites four_run 11 2 0 four_stamps (λ a. four_wrote a 0) reads_at four
lists = record {
  deed = Read 0 9;
  acts = here_11;
  cover = λ i other d apart does. (λ order. (seen i other d apart does).1, λ known. (seen i other d apart does).0);
  listed = λ i other value below does reached.
      let number : (node k : ℕ) → i ≡ k → other ≡ node → interval_at four_run node k ≡ interval_at four_run other i =
      λ node k at same. sym (ap (λ m. interval_at four_run m i) same ∙ ap (interval_at four_run node) at) in
      ⊎_elim
      (λ (first : (i ≡ 0) × (other ≡ 0) × (value ≡ 5)).
      (0, (0, omega arith, refl), sym first.1, number 0 0 first.0 first.1))
      (λ (later : ((i ≡ 4) × (other ≡ 1) × (value ≡ 9)) ⊎ ((i ≡ 7) × (other ≡ 0) × (value ≡ 9))). ⊎_elim
      (λ (second : (i ≡ 4) × (other ≡ 1) × (value ≡ 9)).
      (2, (2, omega arith, refl), sym second.1, number 1 4 second.0 second.1))
      (λ (third : (i ≡ 7) × (other ≡ 0) × (value ≡ 9)).
      (3, (3, omega arith, refl), sym third.1, number 0 7 third.0 third.1))
      later)
      (writes i other value does);
  known = each_of_four (λ a. (four_stamps.node a ≡ 2) ⊎ IsTrue (stamps_covered four_stamps reads_at a)) (inr refl) (inl refl) (inr refl) (inr refl);
  one = only_one;
  wrote_last = λ a v a_in.
      each_of_four (λ b. four_wrote b 0 ≡ Some v
      → (i : ℕ) × IsLastWriteIn four_run 11 0 (four_stamps.node b) (stamp_index four_stamps b) i v)
      (λ wrote. let value : 5 ≡ v = cc in (0, subst (IsLastWriteIn four_run 11 0 0 1 0) value last_in_0))
      (λ wrote. absurd (cc))
      (λ wrote. let value : 9 ≡ v = cc in (4, subst (IsLastWriteIn four_run 11 0 1 2 4) value last_in_2))
      (λ wrote. let value : 9 ≡ v = cc in (7, subst (IsLastWriteIn four_run 11 0 0 4 7) value last_in_3))
      a a_in;
  wrote_none = λ a a_in none i value below does inside. ⊎_elim
      (λ (first : (i ≡ 0) × (a ≡ 0)). let e : four_wrote 0 0 ≡ None = ap (λ b. four_wrote b 0) (sym first.1) ∙ none in absurd (cc))
      (λ (later : ((i ≡ 4) × (a ≡ 2)) ⊎ ((i ≡ 7) × (a ≡ 3))). ⊎_elim
      (λ (second : (i ≡ 4) × (a ≡ 2)). let e : four_wrote 2 0 ≡ None = ap (λ b. four_wrote b 0) (sym second.1) ∙ none in absurd (cc))
      (λ (third : (i ≡ 7) × (a ≡ 3)). let e : four_wrote 3 0 ≡ None = ap (λ b. four_wrote b 0) (sym third.1) ∙ none in absurd (cc))
      later)
      (is_in i a value a_in does inside);
  stamped = λ a b i k u v a_in b_in apart first in_first second in_second order.
      ordered a b i k apart (forward order) (is_in i a u a_in first in_first) (is_in k b v b_in second in_second);
}
  where
    ordered : (a b i k : ℕ) → (four_stamps.node a ≡ four_stamps.node b → ⊥) → i < k → IsIn i a → IsIn k b
        → IsTrue (stamps_covered four_stamps (four_stamps.stamp b) a)
    ordered a b i k apart before (inl p) (inl q) = let e = p.0 in let f = q.0 in absurd (omega arith)
    ordered a b i k apart before (inl p) (inr (inl q)) =
        subst (λ c. IsTrue (stamps_covered four_stamps (four_stamps.stamp c) a)) (sym q.1)
        (subst (λ c. IsTrue (stamps_covered four_stamps (four_stamps.stamp 2) c)) (sym p.1) refl)
    ordered a b i k apart before (inl p) (inr (inr q)) =
        absurd (apart (ap four_stamps.node p.1 ∙ sym (ap four_stamps.node q.1)))
    ordered a b i k apart before (inr (inl p)) (inl q) = let e = p.0 in let f = q.0 in absurd (omega arith)
    ordered a b i k apart before (inr (inl p)) (inr (inl q)) = let e = p.0 in let f = q.0 in absurd (omega arith)
    ordered a b i k apart before (inr (inl p)) (inr (inr q)) =
        subst (λ c. IsTrue (stamps_covered four_stamps (four_stamps.stamp c) a)) (sym q.1)
        (subst (λ c. IsTrue (stamps_covered four_stamps (four_stamps.stamp 3) c)) (sym p.1) refl)
    ordered a b i k apart before (inr (inr p)) (inl q) = let e = p.0 in let f = q.0 in absurd (omega arith)
    ordered a b i k apart before (inr (inr p)) (inr (inl q)) = let e = p.0 in let f = q.0 in absurd (omega arith)
    ordered a b i k apart before (inr (inr p)) (inr (inr q)) = let e = p.0 in let f = q.0 in absurd (omega arith)
