-- Arrows by the table of what happens before what.
use Rattle.std.proofs.Common.{◌≡◌, ◌∙◌, ◌<◌, ◌≤◌, ◌↔◌, ◌⊎◌, ◌==◌, ◌&&◌, ◌||◌, ◌+◌, ℕ, zero, suc, add-one, ap, arith, eqb-true, get_or, inl, inr, length, refl, subst, sym, List, Bool, true, false, cond}
use Rattle.std.proofs.lemmas.Bool.{and_parts, cases_lt, cases_order, eq-eqb, false_from_ne_true, le-ltb, lt-ltb, ltb-true, ne_eqb, true≢false}
use Rattle.std.specs.Prelude.{Some, None, IsTrue, nat_lt, not, slice_get}
use Rattle.std.proofs.lemmas.List.{get_or_past}
use Rattle.std.proofs.lemmas.Option.{get_or_from_slice_get, slice_get_cases}
use Rattle.lrc_trace.specs.declared.act.Act.{Act}
use Rattle.lrc_trace.specs.declared.act.Deed.{Deed}
use Rattle.lrc_trace.specs.declared.act.Deed.TheVariants.{Acquire, Arrive, Depart, End, Print, Quiet, Read, Release, Trap, Write}
use Rattle.lrc_trace.specs.Run.{Does, act_of}
use Rattle.lrc_trace.proofs.HappensBefore.{forward}
use Rattle.lrc_acts_text.specs.Acts.{act_at}
use Rattle.lrc_judge.specs.Order.{IsOrderOf, is_before, is_reached}
use Rattle.lrc_judge.specs.declared.order.Order.{Order}
use Rattle.lrc_chart_acts.specs.Direct.{IsDirect, acquired_lock, direct_lock, goes_over, lock_between, lock_unless, passed_lock}

abbrev pub no_act : Act
no_act = record { node = 0; deed = Quiet }

-- ---- acts between

module _ (order : Order) (i j : ℕ) where
  abbrev Between : ℕ → Type 0
  Between k = IsTrue (is_before order i k) × IsTrue (is_before order k j)

  found : (m : ℕ) → goes_over order i j m ≡ true → (k : ℕ) × Between k
  found zero is = absurd cc
  found (suc m) is = by (found m) (is_before order i m) (is_before order m j) refl refl is
    where
      by : (goes_over order i j m ≡ true → (k : ℕ) × Between k) → (a b : Bool) → is_before order i m ≡ a → is_before order m j ≡ b
          → ((a && b) || goes_over order i j m) ≡ true → (k : ℕ) × Between k
      by lower true true a_is b_is whole = (m, (a_is, b_is))
      by lower true false a_is b_is whole = lower whole
      by lower false b a_is b_is whole = lower whole

  or_true : (b : Bool) → (b || true) ≡ true
  or_true true = refl
  or_true false = refl

  -- no act up to the earlier one follows it
  pub none_before : (m : ℕ) → m ≤ i → goes_over order i j m ≡ false
  none_before zero inside = refl
  none_before (suc m) inside =
      let late : nat_lt i m ≡ false = le-ltb i m (omega (arith, inside)) in
      let lower : goes_over order i j m ≡ false = none_before m (omega (arith, inside)) in
      ap (λ (b : Bool). ((b && is_reached i (slice_get order.rows.items i) (slice_get order.rows.items m)) && is_before order m j) || goes_over order i j m) late
      ∙ lower

  -- one act more that is not between
  pub none_more : (m : ℕ) → goes_over order i j m ≡ false → false ≡ (is_before order i m && is_before order m j) → goes_over order i j (m + 1) ≡ false
  none_more m before is =
      subst (λ n. goes_over order i j n ≡ false) (sym (add-one m)) (ap (λ (b : Bool). b || goes_over order i j m) (sym is) ∙ before)

  kept : (m k : ℕ) → k < m → Between k → goes_over order i j m ≡ true
  kept zero k inside is = absurd (omega (arith, inside))
  kept (suc m) k inside is = by (λ less. kept m k less is) (cases_order k m)
    where
      by : (k < m → goes_over order i j m ≡ true) → (k ≡ m) ⊎ ((k < m) ⊎ (m < k)) → goes_over order i j (suc m) ≡ true
      by lower (inl at) =
          let one : is_before order i m ≡ true = subst (λ n. IsTrue (is_before order i n)) at is.0 in
          let two : is_before order m j ≡ true = subst (λ n. IsTrue (is_before order n j)) at is.1 in
          ap (λ b. (b && is_before order m j) || goes_over order i j m) one ∙ ap (λ b. b || goes_over order i j m) two
      by lower (inr (inl less)) =
          ap (λ b. (is_before order i m && is_before order m j) || b) (lower less) ∙ or_true (is_before order i m && is_before order m j)
      by lower (inr (inr more)) = absurd (omega (arith, inside, more))

  -- an act that is between
  pub some_here : (m k : ℕ) → k < m → true ≡ (is_before order i k && is_before order k j) → true ≡ goes_over order i j m
  some_here m k inside is = sym (kept m k inside (and_parts (is_before order i k) (is_before order k j) (sym is)))

  -- once all acts up to the later one are passed
  pub none_all : (k : ℕ) → goes_over order i j k ≡ false → j ≤ k → (i ≤ j → k ≤ j) → false ≡ goes_over order i j j
  none_all k is past end =
      elim (cases_lt j i) [
        | inl less ↦ sym (none_before j (omega (arith, less)))
        | inr le ↦ let low = end le in let same : k ≡ j = omega (arith, past, low) in sym (subst (λ n. goes_over order i j n ≡ false) same is)
      ]

-- ---- the lock that goes from one act to another

-- a deed that releases a lock and one that acquires it
pub record Passes (l : ℕ) (earlier later : Deed) : Type 0 where
  pub releases : earlier ≡ Release l
  pub acquires : later ≡ Acquire l

acquired : (l lock : ℕ) (later : Deed) → acquired_lock l later ≡ Some lock → (later ≡ Acquire lock) × (l ≡ lock)
acquired l lock (Acquire m) is = by (l == m) refl is
  where
    by : (b : Bool) → (l == m) ≡ b → cond b (Some l) None ≡ Some lock → (Acquire m ≡ Acquire lock) × (l ≡ lock)
    by true same whole = let at : l ≡ m = eqb-true l m same in let lock_is : l ≡ lock = cc in (ap Acquire (sym at ∙ lock_is), lock_is)
    by false same whole = absurd cc
acquired l lock Quiet is = absurd cc
acquired l lock (Read w v) is = absurd cc
acquired l lock (Write w v) is = absurd cc
acquired l lock (Release m) is = absurd cc
acquired l lock Arrive is = absurd cc
acquired l lock Depart is = absurd cc
acquired l lock (Print v) is = absurd cc
acquired l lock (Trap cause) is = absurd cc
acquired l lock End is = absurd cc

passed : (lock : ℕ) (earlier later : Deed) → passed_lock earlier later ≡ Some lock → Passes lock earlier later
passed lock (Release l) later is =
    let both = acquired l lock later is in
    record { releases = ap Release both.1; acquires = both.0 }
passed lock Quiet later is = absurd cc
passed lock (Read w v) later is = absurd cc
passed lock (Write w v) later is = absurd cc
passed lock (Acquire l) later is = absurd cc
passed lock Arrive later is = absurd cc
passed lock Depart later is = absurd cc
passed lock (Print v) later is = absurd cc
passed lock (Trap cause) later is = absurd cc
passed lock End later is = absurd cc

passes_some : (l : ℕ) → passed_lock (Release l) (Acquire l) ≡ Some l
passes_some l = ap (λ (b : Bool). cond b (Some l) None) (eq-eqb l l refl)

-- ---- acts that are there

-- an act that is not quiet stands where it is found
stands : (run : List Act) (k : ℕ) (deed : Deed) → (act_at run k).deed ≡ deed → (Quiet ≡ deed → ⊥) → Does run k (act_at run k).node deed
stands run k deed is loud = by (slice_get_cases run k).1
  where
    by : ((x : Act) × (k < length run) × (slice_get run k ≡ Some x) × (get_or run k x ≡ x)) ⊎ ((length run ≤ k) × (slice_get run k ≡ None))
        → Does run k (act_at run k).node deed
    by (inl (x, inside, there, same)) =
        let act_is : act_at run k ≡ x = get_or_from_slice_get run k x no_act there in
        let made : x ≡ act_of (act_at run k).node deed = sym act_is ∙ ap (act_of (act_at run k).node) is in
        record { stands = there ∙ ap Some made }
    by (inr (past, none)) = absurd (loud (ap (λ (a : Act). a.deed) (sym (get_or_past run k no_act past)) ∙ is))

does_at : (run : List Act) (k node : ℕ) (deed : Deed) → Does run k node deed → act_at run k ≡ act_of node deed
does_at run k node deed does = get_or_from_slice_get run k (act_of node deed) no_act does.stands

-- ---- both ways

module _ (run : List Act) (order : Order) (i j : ℕ) (is_order : IsOrderOf run order) where
  abbrev pub Told : Type 0
  Told = (lock : ℕ) × (direct_lock order run i j ≡ Some lock)

  told_of : IsDirect run i j → Told
  told_of direct =
      let one = does_at run i direct.from (Release direct.lock) direct.releases in
      let two = does_at run j direct.to (Acquire direct.lock) direct.acquires in
      let apart : (direct.from == direct.to) ≡ false = ne_eqb direct.from direct.to direct.apart in
      let between : lock_between (act_at run i) (act_at run j) ≡ Some direct.lock =
      ap (λ (a : Act). lock_between a (act_at run j)) one ∙ ap (lock_between (act_of direct.from (Release direct.lock))) two
      ∙ ap (λ (b : Bool). cond b None (passed_lock (Release direct.lock) (Acquire direct.lock))) apart ∙ passes_some direct.lock in
      let less : nat_lt i j ≡ true = lt-ltb i j direct.later in
      let over : goes_over order i j j ≡ false =
      false_from_ne_true (goes_over order i j j) (λ yes.
      let k = found order i j j yes in
      direct.alone k.0 ((is_order i k.0).0 k.1.0) ((is_order k.0 j).0 k.1.1)) in (
        direct.lock,
        ap (λ (b : Bool). lock_unless (not b || goes_over order i j j) (lock_between (act_at run i) (act_at run j))) less
            ∙ ap (λ (b : Bool). lock_unless b (lock_between (act_at run i) (act_at run j))) over ∙ between,
      )

  of_parts : (lock : ℕ) (less over same : Bool) → nat_lt i j ≡ less → goes_over order i j j ≡ over
      → ((act_at run i).node == (act_at run j).node) ≡ same
      → lock_unless (not less || over) (cond same None (passed_lock (act_at run i).deed (act_at run j).deed)) ≡ Some lock → IsDirect run i j
  of_parts lock true false false less_is over_is same_is is =
      let passes = passed lock (act_at run i).deed (act_at run j).deed is in
      record {
        from = (act_at run i).node;
        to = (act_at run j).node;
        lock = lock;
        apart = λ same. true≢false (sym (eq-eqb (act_at run i).node (act_at run j).node same) ∙ same_is);
        later = ltb-true i j less_is;
        releases = stands run i (Release lock) passes.releases (λ e. absurd cc);
        acquires = stands run j (Acquire lock) passes.acquires (λ e. absurd cc);
        alone = λ k first second.
            true≢false (sym (kept order i j j k (forward second) ((is_order i k).1 first, (is_order k j).1 second)) ∙ over_is);
      }
  of_parts lock true false true less_is over_is same_is is = absurd cc
  of_parts lock true true same less_is over_is same_is is = absurd cc
  of_parts lock false over same less_is over_is same_is is = absurd cc

  direct_of : Told → IsDirect run i j
  direct_of told =
      of_parts told.0 (nat_lt i j) (goes_over order i j j) ((act_at run i).node == (act_at run j).node) refl refl refl told.1

  pub told_exactly : Told ↔ IsDirect run i j
  told_exactly = (direct_of, told_of)
