-- Causes as they are found, and the race that comes first.
use Rattle.std.proofs.Common.{◌≡◌, ℕ, zero, suc, ◌+◌, ◌<◌, ◌≤◌, List, [], ◌∷◌, ◌++◌, Bool, true, false, ◌⊎◌, inl, inr, length, get_or, sym, subst, ◌∙◌, ap, ap₂, refl, arith}
use Rattle.std.specs.Prelude.{◌||◌, Option, Some, slice_get}
use Rattle.std.specs.Ordering.{nat_cmp, ordering_then}
use Rattle.std.specs.Cmp.{nat_cmp_is}
use Rattle.std.specs.List.{AllByRecursion}
use Rattle.std.specs.List.Sorted.{IsStrictlySortedBy}
use Rattle.std.specs.declared.cmp.Ordering.TheVariants.{Less, Equal, Greater}
use Rattle.std.proofs.lemmas.Bool.{cases_lt, cases_order, false≢true}
use Rattle.lrc_trace.specs.declared.act.Act.{Act}
use Rattle.lrc_trace.specs.declared.act.Deed.{Deed}
use Rattle.lrc_trace.specs.declared.act.Deed.TheVariants.{Read, Write}
use Rattle.lrc_trace.specs.Run.{Does}
use Rattle.lrc_trace.specs.Conflict.{Accesses, Races}
use Rattle.lrc_trace.proofs.Positions.{Does-within}
use Rattle.lrc_judge.specs.declared.order.Order.{Order}
use Rattle.lrc_judge.specs.Order.{IsOrderOf, is_before}
use Rattle.lrc_judge.specs.declared.lanes.Pair.{Pair}
use Rattle.lrc_judge.specs.Pairs.{AreRacingPairs, pair_cmp}
use Rattle.lrc_program.specs.declared.Program.{Program}
use Rattle.lrc_exec.specs.Plain.{plain}
use Rattle.lrc_exec.specs.Follows.{nodes_of_acts}
use Rattle.lrc_explore_causes.specs.Causes.{AreCauses, IsCause, Keeps, kept, left}
use Rattle.lrc_explore_causes.specs.Told.{IsEarliestRace, TellsRace}
use Rattle.lrc_explore_causes.proofs.Down.{down}

-- ---- one position more

module _ (run : List Act) (order : Order) (of : IsOrderOf run order) (i j n : ℕ) where
  cause : (a b : Bool) → is_before order n i ≡ a → is_before order n j ≡ b → (a || b) ≡ true → IsCause run i j n
  cause true b first second is = inl ((of n i).0 first)
  cause false b first second is = inr ((of n j).0 (second ∙ is))

  no_cause : (a b : Bool) → is_before order n i ≡ a → is_before order n j ≡ b → (a || b) ≡ false → IsCause run i j n → ⊥
  no_cause true b first second is h = false≢true (sym is)
  no_cause false b first second is (inl h) = false≢true (sym first ∙ (of n i).1 h)
  no_cause false b first second is (inr h) = false≢true (sym is ∙ sym second ∙ (of n j).1 h)

  next : {told : List Act} → Keeps run (IsCause run i j) (suc n) told → Keeps run (IsCause run i j) (n + 1) told
  next {told} keeps = let is : suc n ≡ n + 1 = omega arith in subst (λ y. Keeps run (IsCause run i j) y told) is keeps

  pub one_kept : (told : List Act) (act : Act) → (is_before order n i || is_before order n j) ≡ true → slice_get run n ≡ Some act
      → Keeps run (IsCause run i j) n told → Keeps run (IsCause run i j) (n + 1) (told ++ act ∷ [])
  one_kept told act is get keeps = next (kept keeps get (cause (is_before order n i) (is_before order n j) refl refl is))

  pub one_left : (told : List Act) → (is_before order n i || is_before order n j) ≡ false → Keeps run (IsCause run i j) n told
      → Keeps run (IsCause run i j) (n + 1) told
  one_left told is keeps = next (left keeps (no_cause (is_before order n i) (is_before order n j) refl refl is))

-- ---- the earliest race

-- a pair is not later than another one
abbrev IsNotLater : Pair → Pair → Type 0
IsNotLater p q = (p.later < q.later) ⊎ ((p.later ≡ q.later) × (p.earlier ≤ q.earlier))

ordered : (p q : Pair) → pair_cmp p q ≡ Less → IsNotLater p q
ordered p q e = elim (cases_order p.later q.later) [
  | inl same ↦ elim (cases_lt q.earlier p.earlier) [
    | inl lower ↦
        let equal : nat_cmp p.later q.later ≡ Equal = sym (nat_cmp_is p.later q.later Equal same) in
        let over : nat_cmp p.earlier q.earlier ≡ Greater = sym (nat_cmp_is p.earlier q.earlier Greater lower) in
        let is : pair_cmp p q ≡ Greater = ap (λ o. ordering_then o (nat_cmp p.earlier q.earlier)) equal ∙ over in
        absurd (not_both (sym e ∙ is))
    | inr le ↦ inr (same, le)
  ]
  | inr (inl lower) ↦ inl lower
  | inr (inr upper) ↦
      let over : nat_cmp p.later q.later ≡ Greater = sym (nat_cmp_is p.later q.later Greater upper) in
      let is : pair_cmp p q ≡ Greater = ap (λ o. ordering_then o (nat_cmp p.earlier q.earlier)) over in
      absurd (not_both (sym e ∙ is))
]
  where
    not_both : Less ≡ Greater → ⊥
    not_both h = cc

all_at : (P : Pair → Type 0) (pairs : List Pair) → AllByRecursion P pairs → (q : Pair) (k : ℕ) → k < length pairs → get_or pairs k q ≡ q → P q
all_at P [] all q k lt e = absurd (omega (arith, lt))
all_at P (p ∷ pairs) all q zero lt e = subst P e all.0
all_at P (p ∷ pairs) all q (suc k) lt e = all_at P pairs all.1 q k (omega (arith, lt)) e

first_of : (p : Pair) (pairs : List Pair) → IsStrictlySortedBy pair_cmp (p ∷ pairs) → (q : Pair) (k : ℕ) → k < suc (length pairs)
    → get_or (p ∷ pairs) k q ≡ q → IsNotLater p q
unfolding IsStrictlySortedBy
first_of p pairs sorted q zero lt e = inr (ap (λ (x : Pair). x.later) e, let same = ap (λ (x : Pair). x.earlier) e in omega (arith, same))
first_of p pairs sorted q (suc k) lt e =
    ordered p q (all_at (λ x. pair_cmp p x ≡ Less) pairs sorted.0 q k (omega (arith, lt)) e)

not_later : (p : Pair) (pairs : List Pair) (run : List Act) → AreRacingPairs run (p ∷ pairs) → (i j : ℕ) → Races run i j
    → IsNotLater p (record { later = j; earlier = i })
not_later p pairs run are i j race =
    let (k, lt, e) = (are.exact (record { later = j; earlier = i })).1 race in
    first_of p pairs are.ascending (record { later = j; earlier = i }) k lt e

later_le : (p q : Pair) → IsNotLater p q → p.later ≤ q.later
later_le p q (inl lt) = omega (arith, lt)
later_le p q (inr (same, le)) = omega (arith, same)

earlier_le : (p q : Pair) → IsNotLater p q → p.later ≡ q.later → p.earlier ≤ q.earlier
earlier_le p q (inl lt) is = absurd (omega (arith, lt, is))
earlier_le p q (inr (same, le)) is = le

pub earliest : (run : List Act) (pairs : List Pair) (d : Pair) → AreRacingPairs run pairs → 0 < length pairs
    → IsEarliestRace run (get_or pairs 0 d).earlier (get_or pairs 0 d).later
earliest run [] d are some = absurd (omega (arith, some))
earliest run (p ∷ pairs) d are some = record {
  races = (are.exact p).0 (0, omega arith, refl);
  earliest = λ i j race. later_le p (record { later = j; earlier = i }) (not_later p pairs run are i j race);
  least = λ i race. earlier_le p (record { later = p.later; earlier = i }) (not_later p pairs run are i p.later race) refl;
}

pub some_pair : (run : List Act) (pairs : List Pair) (i j : ℕ) → AreRacingPairs run pairs → Races run i j → 0 < length pairs
some_pair run pairs i j are race = let (k, lt, e) = (are.exact (record { later = j; earlier = i })).1 race in omega (arith, lt)

-- ---- what it comes of

access_done : {run : List Act} {i p word : ℕ} → Accesses run i p word → (d : Deed) × Does run i p d
access_done {word = word} (inl (v, does)) = (Read word v, does)
access_done {word = word} (inr (v, does)) = (Write word v, does)

pub first_within : (run : List Act) (i j : ℕ) → IsEarliestRace run i j → i < length run
first_within run i j race = Does-within (access_done race.races.conflict.3.first).1

pub second_within : (run : List Act) (i j : ℕ) → IsEarliestRace run i j → j < length run
second_within run i j race = Does-within (access_done race.races.conflict.3.second).1

-- what the plain machine answers to the order of the causes
pub record TellsFound (prog : Program) (nodes : ℕ) (run : List Act) (answer : Option (List Act)) : Type 0 where
  pub told : List Act
  pub is : answer ≡ Some told
  pub tells : TellsRace prog nodes run told

-- the node of a position
abbrev pub IsNodeAt : List Act → (position node : ℕ) → Type 0
IsNodeAt run position node = (other : ℕ) (d : Deed) → Does run position other d → node ≡ other

pub tells_found : (prog : Program) (nodes : ℕ) (order : List ℕ) (run : List Act) → plain prog nodes order ≡ Some run → (i j : ℕ) → IsEarliestRace run i j
    → (before : List Act) → AreCauses run i j before → (one other : ℕ) → IsNodeAt run i one → IsNodeAt run j other → (led : List ℕ)
    → led ≡ nodes_of_acts before ++ one ∷ other ∷ [] → (answer : Option (List Act)) → answer ≡ plain prog nodes led → TellsFound prog nodes run answer
tells_found prog nodes order run made i j race before causes one other one_is other_is led is answer answers =
    let first = access_done race.races.conflict.3.first in
    let second = access_done race.races.conflict.3.second in
    let p = race.races.conflict.0 in
    let q = race.races.conflict.1 in
    let d = down prog nodes order run made i j race before causes p q first.0 second.0 first.1 second.1 in
    let nodes_are : one ∷ other ∷ [] ≡ p ∷ q ∷ [] =
    ap₂ (λ (x y : ℕ). x ∷ y ∷ []) (one_is p first.0 first.1) (other_is q second.0 second.1) in
    record {
      told = d.told;
      is = answers ∙ ap (plain prog nodes) (is ∙ ap (λ l. nodes_of_acts before ++ l) nodes_are) ∙ d.made;
      tells = d.tells;
    }
