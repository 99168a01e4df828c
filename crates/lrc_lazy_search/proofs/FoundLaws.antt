-- Rows to which others are added: each stays where it is, and stands for one state, and no two stand for equal ones.
use Rattle.std.proofs.Common.{◌≡◌, ℕ, zero, suc, ◌+◌, ◌<◌, List, [], ◌∷◌, Bool, true, false, inl, inr, length, refl, sym, subst, ◌∙◌, ap, arith}
use Rattle.std.specs.Prelude.{Option, Some, None, nat_eq, slice_get, slice_index}
use Rattle.std.specs.List.{IsDistinct, AllByRecursion}
use Rattle.std.specs.Option.{option_eq}
use Rattle.std.proofs.lemmas.Bool.{and_parts, cases_lt, eqb-true}
use Rattle.std.proofs.lemmas.List.{ext_get_or}
use Rattle.std.proofs.lemmas.Option.{same_Some, slice_get_within}
use lib.Pointwise.{pointwise}
use mathlib.Core.Bool.{beq}
use Rattle.lrc_trace.specs.declared.act.Act.{Act}
use Rattle.lrc_trace.specs.declared.act.Cause.{Cause}
use Rattle.lrc_trace.specs.declared.act.Cause.TheVariants.{DivisionByZero, WordOutOfRange, LockOutOfRange, LockHeld, LockNotHeld}
use Rattle.lrc_trace.specs.declared.act.Deed.{Deed}
use Rattle.lrc_trace.specs.declared.act.Deed.TheVariants.{Quiet, Print, Read, Write, Acquire, Release, Arrive, Depart, Trap, End}
use Rattle.lrc_trace.specs.contracts.act.CausePartialEq.TheImpl.{eq-value as cause_eq}
use Rattle.lrc_trace.specs.contracts.act.DeedPartialEq.TheImpl.{eq-value as deed_eq}
use Rattle.lrc_trace.specs.contracts.act.ActPartialEq.TheImpl.{eq-value as act_eq}
use Rattle.lrc_exec.specs.declared.spot.Flat.{Flat}
use Rattle.lrc_exec.specs.declared.spot.Spot.{Spot}
use Rattle.lrc_exec.specs.contracts.spot.SpotPartialEq.TheImpl.{eq-value as spot_eq}
use Rattle.lrc_exec.specs.contracts.state.StatePartialEq.TheImpl.{eq-value as state_eq}
use Rattle.lrc_orders.specs.Kept.{Grows}
use Rattle.lrc_orders.proofs.Alike.{acts_same}
use Rattle.lrc_orders.proofs.Keeping.{item_at, stands_on}
use Rattle.lrc_orders.proofs.KeptAlike.{both_true, equal_items, nat_itself, one_place}
use Rattle.lrc_orders.proofs.Same.{option_same, pointwise_same, spot_same}
use Rattle.lrc_orders.proofs.Widening.{apart_in, not_true}
use Rattle.lrc_lazy_known.specs.declared.known.Last.{Last}
use Rattle.lrc_lazy_known.specs.declared.known.Last.TheVariants.{Nothing, Value, Unordered}
use Rattle.lrc_lazy_known.specs.declared.known.Known.{Known}
use Rattle.lrc_lazy_known.specs.declared.known.KnownWord.{KnownWord}
use Rattle.lrc_lazy_known.specs.declared.known.Knowledge.{Knowledge}
use Rattle.lrc_lazy_known.specs.contracts.known.LastPartialEq.TheImpl.{eq-value as last_eq}
use Rattle.lrc_lazy_known.specs.contracts.known.KnownPartialEq.TheImpl.{eq-value as known_eq}
use Rattle.lrc_lazy_known.specs.contracts.known.KnownWordPartialEq.TheImpl.{eq-value as word_eq}
use Rattle.lrc_lazy_known.specs.contracts.known.KnowledgePartialEq.TheImpl.{eq-value as knowledge_eq}
use Rattle.lrc_lazy_search.specs.declared.state.LazyState.{LazyState}
use Rattle.lrc_lazy_search.specs.declared.parts.Common.{Common}
use Rattle.lrc_lazy_search.specs.declared.parts.Notes.{Notes}
use Rattle.lrc_lazy_search.specs.declared.found.Found.{Found}
use Rattle.lrc_lazy_search.specs.declared.found.Row.{Row}
use Rattle.lrc_lazy_search.specs.contracts.parts.CommonPartialEq.TheImpl.{eq-value as common_eq}
use Rattle.lrc_lazy_search.specs.contracts.parts.NotesPartialEq.TheImpl.{eq-value as notes_eq}
use Rattle.lrc_lazy_search.specs.contracts.found.RowPartialEq.TheImpl.{eq-value as row_eq}
use Rattle.lrc_lazy_search.specs.contracts.state.LazyStatePartialEq.TheImpl.{eq-value}
use Rattle.lrc_lazy_search.specs.Found.{AreDistinct, AreFound, IsFoundAt, StandsFor, Widens, found_count}
use Rattle.lrc_lazy_search.specs.Parts.{AreThreadsAt, IsAlikeAt, IsCommonAt}
use Rattle.lrc_lazy_search.proofs.Same.{known_same}

-- ---- growth

threads_grown : {old new : List Spot} {nodes : ℕ} {numbers : List ℕ} {spots : List Spot} → Grows old new → AreThreadsAt old nodes numbers spots
    → AreThreadsAt new nodes numbers spots
threads_grown {numbers = numbers} {spots = spots} g t = record {
  long = t.long;
  count = t.count;
  each = λ node lt.
      let (x, at) = item_at spots node (let e = t.count in omega (arith, lt, e)) in
      stands_on (slice_index numbers node) x g (t.each node lt ∙ at) ∙ sym at;
  past = t.past;
}

stands_grown : (flat : Flat) (old new : Found) (row : Row) (key : LazyState) → Widens old new → StandsFor flat old row key → StandsFor flat new row key
stands_grown flat old new row key w s = record {
  threads = threads_grown w.threads s.threads;
  common = record {
    common = s.common.common;
    there = stands_on row.common s.common.common w.commons s.common.there;
    holders = s.common.holders;
    arrivals = s.common.arrivals;
    known = s.common.known;
  };
  notes = record { notes = s.notes.notes; there = stands_on row.notes s.notes.notes w.notes s.notes.there; acts_are = s.notes.acts_are };
  neat = s.neat;
}

-- a state stays where it is
pub found_grown : (flat : Flat) (old new : Found) (k : ℕ) (key : LazyState) → Widens old new → IsFoundAt flat old k key → IsFoundAt flat new k key
found_grown flat old new k key w at = record {
  row = at.row;
  there = stands_on k at.row w.rows at.there;
  stands = stands_grown flat old new at.row key w at.stands;
}

pub found_within : (flat : Flat) (all : Found) (k : ℕ) (key : LazyState) → IsFoundAt flat all k key → k < found_count all
found_within flat all k key at = slice_get_within all.rows.keys k at.row at.there

-- ---- what compares equal, and the other way round

option_itself : (x : Option ℕ) → option_eq nat_eq x x ≡ true
option_itself None = refl
option_itself (Some n) = nat_itself n

beq_itself : (b : Bool) → beq b b ≡ true
beq_itself true = refl
beq_itself false = refl

spot_itself : (s : Spot) → spot_eq.it s s ≡ true
spot_itself s =
    both_true _ _ (nat_itself s.me) (both_true _ _ (nat_itself s.place) (both_true _ _ (equal_items nat_eq nat_itself s.privates s.privates refl)
    (both_true _ _ (equal_items beq beq_itself s.held s.held refl) (both_true _ _ (beq_itself s.arrived) (beq_itself s.stopped)))))

cause_itself : (a : Cause) → cause_eq.it a a ≡ true
cause_itself DivisionByZero = refl
cause_itself WordOutOfRange = refl
cause_itself LockOutOfRange = refl
cause_itself LockHeld = refl
cause_itself LockNotHeld = refl

deed_itself : (d : Deed) → deed_eq.it d d ≡ true
deed_itself Quiet = refl
deed_itself (Print v) = nat_itself v
deed_itself (Read w v) = both_true _ _ (nat_itself w) (nat_itself v)
deed_itself (Write w v) = both_true _ _ (nat_itself w) (nat_itself v)
deed_itself (Acquire l) = nat_itself l
deed_itself (Release l) = nat_itself l
deed_itself Arrive = refl
deed_itself Depart = refl
deed_itself (Trap c) = cause_itself c
deed_itself End = refl

act_itself : (a : Act) → act_eq.it a a ≡ true
act_itself a = both_true _ _ (nat_itself a.node) (deed_itself a.deed)

acts_alike : (a b : List Act) → a ≡ b → pointwise act_eq.it a b ≡ true
acts_alike a b e = equal_items act_eq.it act_itself a b e

row_alike : (a b : Row) → a.threads ≡ b.threads → a.common ≡ b.common → a.notes ≡ b.notes → row_eq.it a b ≡ true
row_alike a b t s n =
    both_true _ _ (equal_items nat_eq nat_itself a.threads b.threads t)
    (both_true _ _ (subst (λ k. nat_eq a.common k ≡ true) s (nat_itself a.common)) (subst (λ k. nat_eq a.notes k ≡ true) n (nat_itself a.notes)))

record CommonSame (a b : Common) : Type 0 where
  holders : a.holders.items ≡ b.holders.items
  arrivals : a.arrivals.items ≡ b.arrivals.items
  knowledge : knowledge_eq.it a.knowledge b.knowledge ≡ true

common_same : (a b : Common) → common_eq.it a b ≡ true → CommonSame a b
common_same a b e =
    let p = and_parts (pointwise (option_eq nat_eq) a.holders.items b.holders.items) _ e in
    let q = and_parts (pointwise nat_eq a.arrivals.items b.arrivals.items) (knowledge_eq.it a.knowledge b.knowledge) p.1 in
    record {
      holders = pointwise_same (option_eq nat_eq) option_same a.holders.items b.holders.items p.0;
      arrivals = pointwise_same nat_eq (λ x y h. eqb-true x y h) a.arrivals.items b.arrivals.items q.0;
      knowledge = q.1;
    }

common_alike : (a b : Common) → a.holders.items ≡ b.holders.items → a.arrivals.items ≡ b.arrivals.items → knowledge_eq.it a.knowledge b.knowledge ≡ true
    → common_eq.it a b ≡ true
common_alike a b h n k =
    both_true _ _ (equal_items (option_eq nat_eq) option_itself a.holders.items b.holders.items h)
    (both_true _ _ (equal_items nat_eq nat_itself a.arrivals.items b.arrivals.items n) k)

-- ---- knowledge that compares equal to one compares equal to the other

pointwise_back : {A : Type 0} (E : A → A → Bool) → ((a b : A) → E a b ≡ true → E b a ≡ true) → (xs ys : List A) → pointwise E xs ys ≡ true
    → pointwise E ys xs ≡ true
pointwise_back E back [] [] e = refl
pointwise_back E back [] (y ∷ ys) e = cc
pointwise_back E back (x ∷ xs) [] e = cc
pointwise_back E back (x ∷ xs) (y ∷ ys) e =
    let p = and_parts (E x y) (pointwise E xs ys) e in both_true (E y x) (pointwise E ys xs) (back x y p.0) (pointwise_back E back xs ys p.1)

pointwise_through : {A : Type 0} (E : A → A → Bool) → ((a b c : A) → E a b ≡ true → E b c ≡ true → E a c ≡ true) → (xs ys zs : List A)
    → pointwise E xs ys ≡ true → pointwise E ys zs ≡ true → pointwise E xs zs ≡ true
pointwise_through E through [] [] zs e f = f
pointwise_through E through [] (y ∷ ys) zs e f = cc
pointwise_through E through (x ∷ xs) [] zs e f = cc
pointwise_through E through (x ∷ xs) (y ∷ ys) [] e f = cc
pointwise_through E through (x ∷ xs) (y ∷ ys) (z ∷ zs) e f =
    let p = and_parts (E x y) (pointwise E xs ys) e in
    let q = and_parts (E y z) (pointwise E ys zs) f in
    both_true (E x z) (pointwise E xs zs) (through x y z p.0 q.0) (pointwise_through E through xs ys zs p.1 q.1)

last_itself : (a : Last) → last_eq.it a a ≡ true
last_itself Nothing = refl
last_itself (Value v) = nat_itself v
last_itself Unordered = refl

known_alike : (a b : Known) → a.last ≡ b.last → a.values.value.items ≡ b.values.value.items → a.above.items ≡ b.above.items → known_eq.it a b ≡ true
known_alike a b l v r =
    both_true _ _ (subst (λ x. last_eq.it a.last x ≡ true) l (last_itself a.last))
    (both_true _ _ (equal_items nat_eq nat_itself a.values.value.items b.values.value.items v) (equal_items beq beq_itself a.above.items b.above.items r))

known_back : (a b : Known) → known_eq.it a b ≡ true → known_eq.it b a ≡ true
known_back a b e = let s = known_same a b e in known_alike b a (sym s.last) (sym s.values) (sym s.above)

known_through : (a b c : Known) → known_eq.it a b ≡ true → known_eq.it b c ≡ true → known_eq.it a c ≡ true
known_through a b c e f =
    let s = known_same a b e in
    let t = known_same b c f in
    known_alike a c (s.last ∙ t.last) (s.values ∙ t.values) (s.above ∙ t.above)

word_back : (a b : KnownWord) → word_eq.it a b ≡ true → word_eq.it b a ≡ true
word_back a b e = pointwise_back known_eq.it known_back a.knowers.items b.knowers.items e

word_through : (a b c : KnownWord) → word_eq.it a b ≡ true → word_eq.it b c ≡ true → word_eq.it a c ≡ true
word_through a b c e f = pointwise_through known_eq.it known_through a.knowers.items b.knowers.items c.knowers.items e f

pub knowledge_back : (a b : Knowledge) → knowledge_eq.it a b ≡ true → knowledge_eq.it b a ≡ true
knowledge_back a b e = pointwise_back word_eq.it word_back a.words.items b.words.items e

pub knowledge_through : (a b c : Knowledge) → knowledge_eq.it a b ≡ true → knowledge_eq.it b c ≡ true → knowledge_eq.it a c ≡ true
knowledge_through a b c e f = pointwise_through word_eq.it word_through a.words.items b.words.items c.words.items e f

-- ---- a state whose row is added

-- what compares equal to what the nodes of a state share is what they share
pub common_there : (keys : List Common) (number : ℕ) (common : Common) (key : LazyState) → IsAlikeAt keys number common
    → common.holders.items ≡ key.state.holders.items → common.arrivals.items ≡ key.state.arrivals.items
    → knowledge_eq.it key.knowledge common.knowledge ≡ true → IsCommonAt keys number key
common_there keys number common key at holders arrivals known =
    let same = common_same common at.0 at.2 in
    record {
      common = at.0;
      there = at.1;
      holders = sym same.holders ∙ holders;
      arrivals = sym same.arrivals ∙ arrivals;
      known = knowledge_through key.knowledge common.knowledge at.0.knowledge known same.knowledge;
    }

-- ---- what a row stands for is one state

-- lists that have the same item at each place are the same
same_items : {A : Type 0} (xs ys : List A) → length xs ≡ length ys → ((k : ℕ) → k < length xs → slice_get xs k ≡ slice_get ys k) → xs ≡ ys
same_items [] [] long each = refl
same_items [] (y ∷ ys) long each = absurd (omega (arith, long))
same_items (x ∷ xs) [] long each = absurd (omega (arith, long))
same_items (x ∷ xs) (y ∷ ys) long each =
    let first = same_Some x y (each zero (omega arith)) in
    let rest = same_items xs ys (omega (arith, long)) (λ k lt. each (suc k) (omega (arith, lt))) in
    cc

spots_same : (keys : List Spot) (nodes : ℕ) (numbers : List ℕ) (xs ys : List Spot) → AreThreadsAt keys nodes numbers xs → AreThreadsAt keys nodes numbers ys
    → xs ≡ ys
spots_same keys nodes numbers xs ys s t =
    same_items xs ys (s.count ∙ sym t.count)
    (λ k lt. let e = s.count in let less : k < nodes = omega (arith, lt, e) in sym (s.each k less) ∙ t.each k less)

stands_alike : (flat : Flat) (all : Found) (row : Row) (x y : LazyState) → StandsFor flat all row x → StandsFor flat all row y → eq-value.it x y ≡ true
stands_alike flat all row x y s t =
    let spots = spots_same all.threads.keys flat.nodes row.threads x.state.spots.items y.state.spots.items s.threads t.threads in
    let common : s.common.common ≡ t.common.common = same_Some s.common.common t.common.common (sym s.common.there ∙ t.common.there) in
    let notes : s.notes.notes ≡ t.notes.notes = same_Some s.notes.notes t.notes.notes (sym s.notes.there ∙ t.notes.there) in
    let memory : x.state.memory.items ≡ y.state.memory.items = s.neat.blank ∙ sym t.neat.blank in
    let holders : x.state.holders.items ≡ y.state.holders.items =
    sym s.common.holders ∙ ap (λ (c : Common). c.holders.items) common ∙ t.common.holders in
    let arrivals : x.state.arrivals.items ≡ y.state.arrivals.items =
    sym s.common.arrivals ∙ ap (λ (c : Common). c.arrivals.items) common ∙ t.common.arrivals in
    let known : knowledge_eq.it x.knowledge t.common.common.knowledge ≡ true =
    subst (λ (c : Common). knowledge_eq.it x.knowledge c.knowledge ≡ true) common s.common.known in
    let acts : x.notes.items ≡ y.notes.items = sym s.notes.acts_are ∙ ap (λ (n : Notes). n.acts.items) notes ∙ t.notes.acts_are in
    both_true (state_eq.it x.state y.state) _
    (both_true _ _ (equal_items nat_eq nat_itself x.state.memory.items y.state.memory.items memory)
    (both_true _ _ (equal_items (option_eq nat_eq) option_itself x.state.holders.items y.state.holders.items holders)
    (both_true _ _ (equal_items nat_eq nat_itself x.state.arrivals.items y.state.arrivals.items arrivals)
    (equal_items spot_eq.it spot_itself x.state.spots.items y.state.spots.items spots))))
    (both_true (knowledge_eq.it x.knowledge y.knowledge) _
    (knowledge_through x.knowledge t.common.common.knowledge y.knowledge known
    (knowledge_back y.knowledge t.common.common.knowledge t.common.known)) (acts_alike x.notes.items y.notes.items acts))

pub found_alike : (flat : Flat) (all : Found) (k : ℕ) (x y : LazyState) → IsFoundAt flat all k x → IsFoundAt flat all k y → eq-value.it x y ≡ true
found_alike flat all k x y at there =
    let same : at.row ≡ there.row = same_Some at.row there.row (sym at.there ∙ there.there) in
    stands_alike flat all there.row x y (subst (λ r. StandsFor flat all r x) same at.stands) there.stands

-- ---- no two rows stand for equal states

-- threads at distinct numbers have these alone
threads_one : (keys : List Spot) (nodes : ℕ) (a b : List ℕ) (xs ys : List Spot) → ((i j : ℕ) (z : Spot) → slice_get keys i ≡ Some z → slice_get keys j ≡ Some z → i ≡ j)
    → AreThreadsAt keys nodes a xs → AreThreadsAt keys nodes b ys → xs ≡ ys → a ≡ b
threads_one keys nodes a b xs ys one s t e =
    ext_get_or 0 a b (s.long ∙ sym t.long) (λ k lt. elim (cases_lt k nodes) [
      | inl less ↦
          let count = s.count in
          let (z, at) = item_at xs k (omega (arith, less, count)) in
          one (slice_index a k) (slice_index b k) z (s.each k less ∙ at) (t.each k less ∙ ap (λ l. slice_get l k) (sym e) ∙ at)
      | inr past ↦ s.past k past ∙ sym (t.past k past)
    ])

module _ (flat : Flat) (all : Found) (distinct : AreDistinct all) where
  rows_one : (a b : Row) (x y : LazyState) → StandsFor flat all a x → StandsFor flat all b y → eq-value.it x y ≡ true → row_eq.it a b ≡ true
  rows_one a b x y s t e =
      let p = and_parts (state_eq.it x.state y.state) _ e in
      let k = and_parts (knowledge_eq.it x.knowledge y.knowledge) (pointwise act_eq.it x.notes.items y.notes.items) p.1 in
      let q = and_parts (pointwise nat_eq x.state.memory.items y.state.memory.items) _ p.0 in
      let r = and_parts (pointwise (option_eq nat_eq) x.state.holders.items y.state.holders.items) _ q.1 in
      let u = and_parts (pointwise nat_eq x.state.arrivals.items y.state.arrivals.items) _ r.1 in
      let holders = pointwise_same (option_eq nat_eq) option_same x.state.holders.items y.state.holders.items r.0 in
      let arrivals = pointwise_same nat_eq (λ m n h. eqb-true m n h) x.state.arrivals.items y.state.arrivals.items u.0 in
      let spots = pointwise_same spot_eq.it spot_same x.state.spots.items y.state.spots.items u.1 in
      let acts : x.notes.items ≡ y.notes.items = acts_same x.notes.items y.notes.items k.1 in
      let c = s.common.common in
      let d = t.common.common in
      let h = s.common.holders ∙ holders ∙ sym t.common.holders in
      let m = s.common.arrivals ∙ arrivals ∙ sym t.common.arrivals in
      let known = knowledge_through c.knowledge x.knowledge d.knowledge (knowledge_back x.knowledge c.knowledge s.common.known)
      (knowledge_through x.knowledge y.knowledge d.knowledge k.0 t.common.known) in
      let n : s.notes.notes.acts.items ≡ t.notes.notes.acts.items = s.notes.acts_are ∙ acts ∙ sym t.notes.acts_are in
      let common : a.common ≡ b.common =
      one_place common_eq.it all.commons.keys distinct.commons a.common b.common c d s.common.there t.common.there
      (common_alike c d h m known) (common_alike d c (sym h) (sym m) (knowledge_back c.knowledge d.knowledge known)) in
      let notes : a.notes ≡ b.notes =
      one_place notes_eq.it all.notes.keys distinct.notes a.notes b.notes s.notes.notes t.notes.notes s.notes.there t.notes.there
      (acts_alike s.notes.notes.acts.items t.notes.notes.acts.items n) (acts_alike t.notes.notes.acts.items s.notes.notes.acts.items (sym n)) in
      let threads : a.threads ≡ b.threads =
      threads_one all.threads.keys flat.nodes a.threads b.threads x.state.spots.items y.state.spots.items
      (λ i j z at there. one_place spot_eq.it all.threads.keys distinct.threads i j z z at there (spot_itself z) (spot_itself z)) s.threads t.threads spots in
      row_alike a b threads common notes

  -- no two of them are equal
  found_apart : (i j : ℕ) (x y : LazyState) → IsFoundAt flat all i x → IsFoundAt flat all j y → i < j → eq-value.it x y ≡ false
  found_apart i j x y at there lt =
      not_true (row_eq.it at.row there.row) (eq-value.it x y)
      (apart_in row_eq.it all.rows.keys i j at.row there.row distinct.rows at.there there.there lt) (rows_one at.row there.row x y at.stands there.stands)

  each_apart : (x : LazyState) (list : List LazyState) → ((k : ℕ) (y : LazyState) → slice_get list k ≡ Some y → eq-value.it x y ≡ false)
      → AllByRecursion (λ y. eq-value.it x y ≡ false) list
  each_apart x [] each = tt
  each_apart x (y ∷ list) each = (each 0 y refl, each_apart x list (λ k z at. each (suc k) z at))

  distinct_from : (first : ℕ) (list : List LazyState) → ((k : ℕ) (x : LazyState) → slice_get list k ≡ Some x → IsFoundAt flat all (first + k) x)
      → IsDistinct eq-value.it list
  unfolding IsDistinct
  distinct_from first [] from = tt
  distinct_from first (x ∷ list) from =
      let here : IsFoundAt flat all first x = subst (λ n. IsFoundAt flat all n x) (omega arith) (from 0 x refl) in
      let rest : (k : ℕ) (y : LazyState) → slice_get list k ≡ Some y → IsFoundAt flat all (first + 1 + k) y =
      λ k y there. subst (λ n. IsFoundAt flat all n y) (omega arith) (from (suc k) y there) in (
        each_apart x list (λ k y there. found_apart first (first + 1 + k) x y here (rest k y there) (omega arith)),
        distinct_from (first + 1) list rest,
      )

  pub found_distinct : (keys : List LazyState) → AreFound flat all keys → IsDistinct eq-value.it keys
  found_distinct keys are = distinct_from 0 keys (λ k x at. subst (λ n. IsFoundAt flat all n x) (omega arith) (are.each k x at))
