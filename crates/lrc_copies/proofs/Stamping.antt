-- Stamped intervals: below, cuts, and what a time covers.
use Rattle.std.proofs.Common.{◌≡◌, ◌≢◌, ℕ, ◌+◌, ◌<◌, ◌≤◌, ◌⊎◌, ◌∙◌, Bool, true, false, not, eqb, IsTrue, List, []}
use Rattle.std.proofs.Common.{◌∷◌, ◌++◌, length, set, ap, sym, subst, refl, inl, inr, ⊎_elim, arith}
use Rattle.std.specs.Prelude.{Contains, AllPairs}
use Rattle.std.proofs.lemmas.Bool.{cases_eq, cases_lt, leb-true, le-leb, eqb-true, eq-eqb, and_parts, and_from, not-true, false≢true}
use Rattle.std.proofs.lemmas.List.{length-set}
use Rattle.std.proofs.lemmas.List.Elements.{Contains-append_left, Contains-push, Contains-push_cases, Contains-get_or}
use Rattle.std.proofs.lemmas.List.Quantifiers.{all_pairs_push}
use Rattle.lrc_time.specs.Time.{entry, zeros, joined, Covers, weight_of}
use Rattle.lrc_time.proofs.Times.{covers-refl, covers-trans, covers-joined_first, covers-joined_second, entry-zeros, entry-joined}
use Rattle.lrc_time.proofs.Times.{covers-raised, entry-set_same, entry-set_other, weight-covers, weight-covers_strictly, weight-raised}
use Rattle.lrc_copies.specs.Sound.{IsAddedLast}
use Rattle.lrc_copies.specs.Stamps.{Stamps, stamp_index, stamp_weight, stamps_covered, covered, is_same, stamps_below, IsCut, AreStamped, IsClosedAt}
use Rattle.lrc_copies.proofs.Members.{Contains-first, Contains-later, cases_Contains, none_Contains}
use Rattle.lrc_copies.proofs.Members.{Contains-filter, Contains-from_filter, AllPairs-first, AllPairs-rest}

-- of two members one comes first, or they are the same
pub pairs_of : {X : Type 0} (R : X → X → Type 0) (xs : List X) (a b : X) → AllPairs R xs → Contains xs a → Contains xs b
    → (a ≡ b) ⊎ (R a b ⊎ R b a)
pairs_of R [] a b pairs a_in b_in = absurd (none_Contains a a_in)
pairs_of {X} R (x ∷ xs) a b pairs a_in b_in =
    ⊎_elim
    (λ (a_first : x ≡ a). ⊎_elim
    (λ (b_first : x ≡ b). inl (sym a_first ∙ b_first))
    (λ (b_later : Contains xs b). inr (inl (subst (λ (y : X). R y b) a_first (AllPairs-first R x xs b pairs b_later))))
    (cases_Contains x xs b b_in))
    (λ (a_later : Contains xs a). ⊎_elim
    (λ (b_first : x ≡ b). inr (inr (subst (λ (y : X). R y a) b_first (AllPairs-first R x xs a pairs a_later))))
    (λ (b_later : Contains xs b). pairs_of R xs a b (AllPairs-rest R x xs pairs) a_later b_later)
    (cases_Contains x xs b b_in))
    (cases_Contains x xs a a_in)

-- a test holds, or it does not
pub test_cases : (b : Bool) → (b ≡ true) ⊎ (b ≡ true → ⊥)
test_cases true = inl refl
test_cases false = inr false≢true

-- what does not hold fails
pub not_from : (b : Bool) → (b ≡ true → ⊥) → not b ≡ true
not_from true never = absurd (never refl)
not_from false never = refl

module _ {A : Type 0} (s : Stamps A) where
  pub covered-le : (time : List ℕ) (a : A) → IsTrue (stamps_covered s time a) → stamp_index s a ≤ entry time (s.node a)
  covered-le time a h = leb-true (stamp_index s a) (entry time (s.node a)) h

  pub le-covered : (time : List ℕ) (a : A) → stamp_index s a ≤ entry time (s.node a) → IsTrue (stamps_covered s time a)
  le-covered time a h = le-leb (stamp_index s a) (entry time (s.node a)) h

  -- an interval's stamp covers it
  pub covers_itself : (a : A) → IsTrue (stamps_covered s (s.stamp a) a)
  covers_itself a = le-covered (s.stamp a) a (omega arith)

  -- what a time covers, a time that covers it does too
  pub covered-up : (low high : List ℕ) (a : A) → Covers high low → IsTrue (stamps_covered s low a) → IsTrue (stamps_covered s high a)
  covered-up low high a above h =
      let known = covered-le low a h in
      let more = above (s.node a) in
      le-covered high a (omega arith)

  -- an interval is the same as itself
  pub same_self : (a : A) → is_same s a a ≡ true
  same_self a = and_from _ _ (eq-eqb (s.node a) (s.node a) refl) (eq-eqb (stamp_index s a) (stamp_index s a) refl)

  -- what is the same is covered alike
  same_covered : (time : List ℕ) (a b : A) → is_same s a b ≡ true → IsTrue (stamps_covered s time a) → IsTrue (stamps_covered s time b)
  same_covered time a b same h =
      let parts = and_parts (eqb (s.node a) (s.node b)) (eqb (stamp_index s a) (stamp_index s b)) same in
      let nodes : s.node a ≡ s.node b = eqb-true (s.node a) (s.node b) parts.0 in
      let numbers : stamp_index s a ≡ stamp_index s b = eqb-true (stamp_index s a) (stamp_index s b) parts.1 in
      let known = covered-le time a h in
      let entries : entry time (s.node a) ≡ entry time (s.node b) = ap (entry time) nodes in
      le-covered time b (omega arith)

  pub below-covered : (a b : A) → IsTrue (stamps_below s a b) → IsTrue (stamps_covered s (s.stamp b) a)
  below-covered a b h = (and_parts (stamps_covered s (s.stamp b) a) (not (is_same s a b)) h).0

  pub below-other : (a b : A) → IsTrue (stamps_below s a b) → is_same s a b ≡ true → ⊥
  below-other a b h same =
      let apart = not-true (is_same s a b) (and_parts (stamps_covered s (s.stamp b) a) (not (is_same s a b)) h).1 in
      false≢true (sym apart ∙ same)

  pub below-from : (a b : A) → IsTrue (stamps_covered s (s.stamp b) a) → (is_same s a b ≡ true → ⊥) → IsTrue (stamps_below s a b)
  below-from a b known apart = and_from _ _ known (not_from (is_same s a b) apart)

  -- no interval is below itself
  pub not_below_itself : (a : A) → IsTrue (stamps_below s a a) → ⊥
  not_below_itself a h = below-other a a h (same_self a)

  -- ---- below is lighter

  pub lighter_below : (nodes : ℕ) (all : List A) → AreStamped s nodes all → (a b : A) → Contains all a → Contains all b
      → IsTrue (stamps_below s a b) → stamp_weight s a < stamp_weight s b
  lighter_below nodes all stamped a b a_in b_in under =
      let known = below-covered a b under in
      let above : Covers (s.stamp b) (s.stamp a) = stamped.cuts b b_in a a_in known in
      weight-covers_strictly (s.stamp b) (s.stamp a) (stamped.long b b_in ∙ sym (stamped.long a a_in)) above
      (λ equal.
      let back : IsTrue (stamps_covered s (s.stamp a) b) = subst (λ t. IsTrue (stamps_covered s t b)) equal (covers_itself b) in
      ⊎_elim
      (λ (same : a ≡ b). not_below_itself b (subst (λ c. IsTrue (stamps_below s c b)) same under))
      (λ (either : (IsTrue (stamps_covered s (s.stamp a) b) → ⊥) ⊎ (IsTrue (stamps_covered s (s.stamp b) a) → ⊥)).
      ⊎_elim (λ never. never back) (λ never. never known) either)
      (pairs_of (λ c d. IsTrue (stamps_covered s (s.stamp c) d) → ⊥) all a b stamped.forward a_in b_in))

  -- ---- closing

  -- a cut stays one where it does not cover what is added
  pub cut_longer : (all : List A) (time : List ℕ) (x : A) → IsCut s all time → (IsTrue (stamps_covered s time x) → ⊥)
      → IsCut s (all ++ x ∷ []) time
  cut_longer all time x cut unknown a a_in known =
      ⊎_elim
      (λ (old : Contains all a). cut a old known)
      (λ (same : x ≡ a). absurd (unknown (subst (λ c. IsTrue (stamps_covered s time c)) (sym same) known)))
      (Contains-push_cases all x a a_in)

  module _ (nodes : ℕ) (all : List A) (time : List ℕ) (x : A) (closed : IsClosedAt s nodes all time x) where
    raised_same : entry (s.stamp x) (s.node x) ≡ entry time (s.node x) + 1
    raised_same =
        let long = closed.long in
        let counted = closed.counted in
        ap (λ t. entry t (s.node x)) closed.stamped
        ∙ entry-set_same time (s.node x) (entry time (s.node x) + 1) (omega arith)

    raised_other : (node : ℕ) → node ≢ s.node x → entry (s.stamp x) node ≡ entry time node
    raised_other node differ =
        ap (λ t. entry t node) closed.stamped ∙ entry-set_other time (s.node x) (entry time (s.node x) + 1) node differ

    pub raised_covers : Covers (s.stamp x) time
    raised_covers =
        subst (λ t. Covers t time) (sym closed.stamped) (covers-raised time (s.node x) (entry time (s.node x) + 1) (omega arith))

    -- of what was closed before, the stamp covers what the time covers
    pub known_before : (a : A) → Contains all a → IsTrue (stamps_covered s (s.stamp x) a) → IsTrue (stamps_covered s time a)
    known_before a a_in known =
        ⊎_elim
        (λ (own : s.node a ≡ s.node x). closed.own a a_in own)
        (λ (other : s.node a ≡ s.node x → ⊥).
        let least = covered-le (s.stamp x) a known in
        let entries = raised_other (s.node a) other in
        le-covered time a (omega arith))
        (cases_eq (s.node a) (s.node x))

    pub known_after : (a : A) → IsTrue (stamps_covered s time a) → IsTrue (stamps_covered s (s.stamp x) a)
    known_after a known = covered-up time (s.stamp x) a raised_covers known

    stamp_cut : (a : A) → Contains all a → IsTrue (stamps_covered s (s.stamp x) a) → Covers (s.stamp x) (s.stamp a)
    stamp_cut a a_in known =
        covers-trans (s.stamp x) time (s.stamp a) raised_covers (closed.cut a a_in (known_before a a_in known))

    weight_more : stamp_weight s x ≡ weight_of time + 1
    weight_more =
        let long = closed.long in
        let counted = closed.counted in
        let sums = weight-raised time (s.node x) (entry time (s.node x) + 1) (omega arith) in
        let e : stamp_weight s x ≡ weight_of (set time (s.node x) (entry time (s.node x) + 1)) = ap weight_of closed.stamped in
        omega arith

    pub below_none : (a : A) → Contains all a → IsTrue (stamps_below s x a) → ⊥
    below_none a a_in under = closed.unknown a a_in (below-covered x a under)

    pub added_last : IsAddedLast (stamp_weight s) (stamps_below s) all x
    added_last = record {
      lighter = λ a a_in under.
          let known : IsTrue (stamps_covered s time a) = known_before a a_in (below-covered a x under) in
          let most = weight-covers time (s.stamp a) (closed.cut a a_in known) in
          let e = weight_more in
          omega arith;
      newest = λ a a_in under. ⊎_elim
          (λ (old : Contains all a). below_none a old under)
          (λ (same : x ≡ a). not_below_itself x (subst (λ c. IsTrue (stamps_below s x c)) (sym same) under))
          (Contains-push_cases all x a a_in);
    }

    new_cuts : AreStamped s nodes all → (a : A) → Contains (all ++ x ∷ []) a → IsCut s (all ++ x ∷ []) (s.stamp a)
    new_cuts stamped a a_in =
        ⊎_elim
        (λ (old : Contains all a). cut_longer all (s.stamp a) x (stamped.cuts a old) (closed.unknown a old))
        (λ (same : x ≡ a). subst (λ c. IsCut s (all ++ x ∷ []) (s.stamp c)) same
        (λ b b_in known. ⊎_elim
        (λ (old : Contains all b). stamp_cut b old known)
        (λ (last : x ≡ b). subst (λ c. Covers (s.stamp x) (s.stamp c)) last (covers-refl (s.stamp x)))
        (Contains-push_cases all x b b_in)))
        (Contains-push_cases all x a a_in)

    pub stamped_longer : AreStamped s nodes all → AreStamped s nodes (all ++ x ∷ [])
    stamped_longer stamped = record {
      long = λ a a_in. ⊎_elim
          (λ (old : Contains all a). stamped.long a old)
          (λ (same : x ≡ a).
          ap (λ c. length (s.stamp c)) (sym same) ∙ ap length closed.stamped
          ∙ length-set time (s.node x) (entry time (s.node x) + 1) ∙ closed.long)
          (Contains-push_cases all x a a_in);
      begun = λ a a_in. ⊎_elim
          (λ (old : Contains all a). stamped.begun a old)
          (λ (same : x ≡ a).
          let least : 1 ≤ stamp_index s x = let e = raised_same in omega arith in
          subst (λ c. 1 ≤ stamp_index s c) same least)
          (Contains-push_cases all x a a_in);
      cuts = new_cuts stamped;
      forward = all_pairs_push (λ a b. IsTrue (stamps_covered s (s.stamp a) b) → ⊥) all x stamped.forward
          (λ k d within. closed.unknown _ (Contains-get_or all k d within));
    }

    -- what the stamp covers is what the time covers, and the interval itself
    pub into_stamp : (a : A) → Contains (x ∷ covered s time all) a → Contains (covered s (s.stamp x) (all ++ x ∷ [])) a
    into_stamp a a_in =
        ⊎_elim
        (λ (same : x ≡ a). subst (Contains (covered s (s.stamp x) (all ++ x ∷ []))) same
        (Contains-filter (stamps_covered s (s.stamp x)) (all ++ x ∷ []) x (Contains-push all x) (covers_itself x)))
        (λ (old : Contains (covered s time all) a).
        let parts = Contains-from_filter (stamps_covered s time) all a old in
        Contains-filter (stamps_covered s (s.stamp x)) (all ++ x ∷ []) a (Contains-append_left all (x ∷ []) a parts.0)
        (known_after a parts.1))
        (cases_Contains x (covered s time all) a a_in)

    pub from_stamp : (a : A) → Contains (covered s (s.stamp x) (all ++ x ∷ [])) a → Contains (x ∷ covered s time all) a
    from_stamp a a_in =
        let parts = Contains-from_filter (stamps_covered s (s.stamp x)) (all ++ x ∷ []) a a_in in
        ⊎_elim
        (λ (old : Contains all a). Contains-later x (covered s time all) a
        (Contains-filter (stamps_covered s time) all a old (known_before a old parts.1)))
        (λ (same : x ≡ a). subst (Contains (x ∷ covered s time all)) same (Contains-first x (covered s time all)))
        (Contains-push_cases all x a parts.0)

    -- what is below it is what the time covers
    pub covered_below : (a : A) → Contains all a → IsTrue (stamps_covered s time a) → IsTrue (stamps_below s a x)
    covered_below a a_in known =
        below-from a x (known_after a known)
        (λ same. closed.unknown a a_in (same_covered (s.stamp a) a x same (covers_itself a)))

    pub below_covered : (a : A) → Contains all a → IsTrue (stamps_below s a x) → IsTrue (stamps_covered s time a)
    below_covered a a_in under = known_before a a_in (below-covered a x under)

  -- ---- cuts

  -- the time that covers nothing is a cut
  pub zeros_cut : (nodes count : ℕ) (all : List A) → AreStamped s nodes all → IsCut s all (zeros count)
  zeros_cut nodes count all stamped a a_in known =
      let least = stamped.begun a a_in in
      let most = covered-le (zeros count) a known in
      let none = entry-zeros count (s.node a) in
      absurd (omega arith)

  -- the join of two cuts is a cut
  pub joined_cut : (all : List A) (t u : List ℕ) → IsCut s all t → IsCut s all u → IsCut s all (joined t u)
  joined_cut all t u t_cut u_cut a a_in known =
      let most = covered-le (joined t u) a known in
      let join = entry-joined t u (s.node a) in
      ⊎_elim
      (λ (first : stamp_index s a ≤ entry t (s.node a)).
      covers-trans (joined t u) t (s.stamp a) (covers-joined_first t u) (t_cut a a_in (le-covered t a first)))
      (λ (not_first : entry t (s.node a) < stamp_index s a).
      let second : stamp_index s a ≤ entry u (s.node a) = omega arith in
      covers-trans (joined t u) u (s.stamp a) (covers-joined_second t u) (u_cut a a_in (le-covered u a second)))
      (⊎_elim inr inl (cases_lt (entry t (s.node a)) (stamp_index s a)))

  -- a join covers what one of the two does
  pub joined_knows : (t u : List ℕ) (a : A) → IsTrue (stamps_covered s (joined t u) a)
      → IsTrue (stamps_covered s t a) ⊎ IsTrue (stamps_covered s u a)
  joined_knows t u a known =
      let most = covered-le (joined t u) a known in
      let join = entry-joined t u (s.node a) in
      ⊎_elim
      (λ (lacks : entry t (s.node a) < stamp_index s a). inr (le-covered u a (omega arith)))
      (λ (first : stamp_index s a ≤ entry t (s.node a)). inl (le-covered t a first))
      (cases_lt (entry t (s.node a)) (stamp_index s a))
