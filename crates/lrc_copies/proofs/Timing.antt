-- Copies by times.
use Rattle.std.proofs.Common.{◌≡◌, ℕ, ◌∙◌, ◌↔◌, ◌&&◌, Bool, not, ◌<◌, ◌≤◌, ◌⊎◌, true, eqb, ltb, IsTrue, Option, List}
use Rattle.std.proofs.Common.{[], ◌∷◌, ◌++◌, length, map, sym, subst, inl, inr, ⊎_elim, arith}
use Rattle.std.specs.Prelude.{Contains, AllPairs, fold}
use Rattle.std.proofs.lemmas.Bool.{ltb-true, eqb-true, and_parts, and_from, not-true, false≢true, or_cases}
use Rattle.std.proofs.lemmas.List.Elements.{Contains-append_left, Contains-append_right, Contains-append_cases, Contains-push_cases}
use Rattle.lrc_time.specs.Time.{Covers}
use Rattle.lrc_page.specs.declared.changes.Change.{Change}
use Rattle.lrc_page.specs.Changes.{applied}
use Rattle.lrc_page.proofs.ChangeLists.{length-fold-applied}
use Rattle.lrc_copies.specs.Page.{PageHistory, PageFits, IsPageSound, IsUntouchedBy, IsMoreUntouched, IsClosedWith, page_below, ArePageNext}
use Rattle.lrc_copies.specs.Stamps.{Stamps, stamp_weight, stamps_covered, covered, stamps_below, comes_before}
use Rattle.lrc_copies.specs.Stamps.{page_of_stamps, IsCut, AreStamped, IsClosedAt, StandsBetween, AreLacking}
use Rattle.lrc_copies.proofs.Members.{Contains-later, cases_Contains, Contains-filter, Contains-from_filter}
use Rattle.lrc_copies.proofs.Paging.{page_fits_more, page_closed, page_open, page_repaired}
use Rattle.lrc_copies.proofs.Stamping.{test_cases, not_from, covered-up, below-covered, added_last, below_none}
use Rattle.lrc_copies.proofs.Stamping.{into_stamp, from_stamp, covered_below, below_covered}

-- what comes before weighs no more
before-lighter : {A : Type 0} (s : Stamps A) (a b : A) → IsTrue (comes_before s a b) → stamp_weight s a ≤ stamp_weight s b
before-lighter s a b before =
    ⊎_elim
    (λ (less : ltb (stamp_weight s a) (stamp_weight s b) ≡ true).
    let lt : stamp_weight s a < stamp_weight s b = ltb-true (stamp_weight s a) (stamp_weight s b) less in omega arith)
    (λ also.
    let parts = and_parts (eqb (stamp_weight s a) (stamp_weight s b)) _ also in
    let same : stamp_weight s a ≡ stamp_weight s b = eqb-true (stamp_weight s a) (stamp_weight s b) parts.0 in
    omega arith)
    (or_cases (ltb (stamp_weight s a) (stamp_weight s b)) _ before)

module _ {A : Type 0} (s : Stamps A) (wrote : A → ℕ → Option ℕ) (changes : A → List Change) where
  abbrev h : PageHistory A
  h = page_of_stamps s wrote changes

  -- lists with the same members
  same_fits : (copy : List ℕ) (xs ys : List A) → ((a : A) → Contains xs a → Contains ys a)
      → ((a : A) → Contains ys a → Contains xs a) → PageFits h copy xs → PageFits h copy ys
  same_fits copy xs ys into from = page_fits_more h copy xs ys (record { kept = into; more = λ a a_in. inl (from a a_in) })

  -- ---- closing

  module _ (nodes : ℕ) (all : List A) (time : List ℕ) (x : A) (closed : IsClosedAt s nodes all time x) where
    pub open_fits_closed : (copy : List ℕ) → PageFits h copy (x ∷ covered s time all)
        → PageFits h copy (covered s (s.stamp x) (all ++ x ∷ []))
    open_fits_closed copy fits =
        same_fits copy _ _ (into_stamp s nodes all time x closed) (from_stamp s nodes all time x closed) fits

    pub untouched_fits_closed : (copy : List ℕ) → IsUntouchedBy h (length copy) x → PageFits h copy (covered s time all)
        → PageFits h copy (covered s (s.stamp x) (all ++ x ∷ []))
    untouched_fits_closed copy untouched fits =
        open_fits_closed copy (page_fits_more h copy (covered s time all) (x ∷ covered s time all)
        (record {
          kept = λ a a_in. Contains-later x (covered s time all) a a_in;
          more = λ a a_in. ⊎_elim (λ (same : x ≡ a). inr (subst (IsUntouchedBy h (length copy)) same untouched)) inl
              (cases_Contains x (covered s time all) a a_in);
        }) fits)

    pub closed_fits : (twin copy : List ℕ) → IsClosedWith h x twin copy → PageFits h twin (covered s time all)
        → PageFits h copy (covered s (s.stamp x) (all ++ x ∷ []))
    closed_fits twin copy with_twin fits =
        open_fits_closed copy (page_open h twin copy x (covered s time all) with_twin.made
        (λ a a_in under. below_none s nodes all time x closed a (Contains-from_filter (stamps_covered s time) all a a_in).0 under)
        fits)

    pub closed_sound : (twin copy : List ℕ) → IsPageSound h (length copy) all → IsClosedWith h x twin copy
        → PageFits h twin (covered s time all) → IsPageSound h (length copy) (all ++ x ∷ [])
    closed_sound twin copy sound with_twin fits =
        page_closed h all x twin copy sound (added_last s nodes all time x closed) with_twin
        (same_fits twin (covered s time all) (page_below h all x)
        (λ a a_in.
        let parts = Contains-from_filter (stamps_covered s time) all a a_in in
        Contains-filter (λ b. stamps_below s b x) all a parts.0 (covered_below s nodes all time x closed a parts.0 parts.1))
        (λ a a_in.
        let parts = Contains-from_filter (λ b. stamps_below s b x) all a a_in in
        Contains-filter (stamps_covered s time) all a parts.0 (below_covered s nodes all time x closed a parts.0 parts.1))
        fits)

  -- ---- what a time does not cover

  pub uncovered_fits : (all : List A) (time : List ℕ) (x : A) (copy : List ℕ) → (IsTrue (stamps_covered s time x) → ⊥)
      → PageFits h copy (covered s time all) → PageFits h copy (covered s time (all ++ x ∷ []))
  uncovered_fits all time x copy unknown fits =
      same_fits copy (covered s time all) (covered s time (all ++ x ∷ []))
      (λ a a_in.
      let parts = Contains-from_filter (stamps_covered s time) all a a_in in
      Contains-filter (stamps_covered s time) (all ++ x ∷ []) a (Contains-append_left all (x ∷ []) a parts.0) parts.1)
      (λ a a_in.
      let parts = Contains-from_filter (stamps_covered s time) (all ++ x ∷ []) a a_in in
      ⊎_elim
      (λ (old : Contains all a). Contains-filter (stamps_covered s time) all a old parts.1)
      (λ (same : x ≡ a). absurd (unknown (subst (λ c. IsTrue (stamps_covered s time c)) (sym same) parts.1)))
      (Contains-push_cases all x a parts.0))
      fits

  -- ---- between two times

  module _ (all : List A) (since upto : List ℕ) (rises : Covers upto since) where
    -- what the earlier covers the later does
    covered_later : (a : A) → Contains (covered s since all) a → Contains (covered s upto all) a
    covered_later a a_in =
        let parts = Contains-from_filter (stamps_covered s since) all a a_in in
        Contains-filter (stamps_covered s upto) all a parts.0 (covered-up s since upto a rises parts.1)

    -- what the later covers the earlier does, or it stands between
    since_or_between : (a : A) → Contains (covered s upto all) a → Contains (covered s since all) a ⊎ StandsBetween s all since upto a
    since_or_between a a_in =
        let parts = Contains-from_filter (stamps_covered s upto) all a a_in in
        ⊎_elim
        (λ (known : IsTrue (stamps_covered s since a)). inl (Contains-filter (stamps_covered s since) all a parts.0 known))
        (λ (unknown : IsTrue (stamps_covered s since a) → ⊥). inr (record { member = parts.0; later = unknown; known = parts.1 }))
        (test_cases (stamps_covered s since a))

    pub untouched_fits : (copy : List ℕ) → ((a : A) → StandsBetween s all since upto a → IsUntouchedBy h (length copy) a)
        → PageFits h copy (covered s since all) → PageFits h copy (covered s upto all)
    untouched_fits copy untouched fits =
        page_fits_more h copy (covered s since all) (covered s upto all)
        (record {
          kept = covered_later;
          more = λ a a_in. ⊎_elim inl (λ (between : StandsBetween s all since upto a). inr (untouched a between)) (since_or_between a a_in);
        }) fits

    module _ (nodes : ℕ) (stamped : AreStamped s nodes all) (since_cut : IsCut s all since) (upto_cut : IsCut s all upto)
        (words : ℕ) (missing : List A) (lacking : AreLacking s wrote words all since upto missing) where
      -- they can be applied one after another
      lacking_next : ArePageNext h words all (covered s since all) missing
      lacking_next = record {
        members = λ x x_in. (lacking.members x x_in).member;
        complete = λ x a x_in a_in under.
            let x_between = lacking.members x x_in in
            let known : IsTrue (stamps_covered s upto a) =
            covered-up s (s.stamp x) upto a (upto_cut x x_between.member x_between.known) (below-covered s a x under) in
            ⊎_elim inl
            (λ (between : StandsBetween s all since upto a). inr (lacking.complete a between))
            (since_or_between a (Contains-filter (stamps_covered s upto) all a a_in known));
        newer = λ x a x_in a_in under.
            let parts = Contains-from_filter (stamps_covered s since) all a a_in in
            (lacking.members x x_in).later
            (covered-up s (s.stamp a) since x (since_cut a parts.0 parts.1) (below-covered s x a under));
        rising = λ i j d before within. before-lighter s _ _ (lacking.ascending i j d before within);
      }

      -- with those that the earlier time covers they are what the later one covers, but for some that did not write
      lacking_all : IsMoreUntouched h words (covered s since all ++ missing) (covered s upto all)
      lacking_all = record {
        kept = λ a a_in. ⊎_elim (covered_later a)
            (λ (late : Contains missing a).
            let between = lacking.members a late in
            Contains-filter (stamps_covered s upto) all a between.member between.known)
            (Contains-append_cases (covered s since all) missing a a_in);
        more = λ a a_in. ⊎_elim
            (λ (early : Contains (covered s since all) a). inl (Contains-append_left (covered s since all) missing a early))
            (λ (between : StandsBetween s all since upto a). ⊎_elim
            (λ (late : Contains missing a). inl (Contains-append_right (covered s since all) missing a late))
            inr
            (lacking.complete a between))
            (since_or_between a a_in);
      }

      pub repaired_fits : (copy : List ℕ) → words ≡ length copy → IsPageSound h (length copy) all
          → PageFits h copy (covered s since all) → PageFits h (fold applied copy (map changes missing)) (covered s upto all)
      repaired_fits copy long sound fits =
          page_fits_more h (fold applied copy (map changes missing)) (covered s since all ++ missing) (covered s upto all)
          (subst (λ n. IsMoreUntouched h n (covered s since all ++ missing) (covered s upto all))
          (long ∙ sym (length-fold-applied copy (map changes missing))) lacking_all)
          (page_repaired h all (covered s since all) missing copy sound
          (λ a a_in. (Contains-from_filter (stamps_covered s since) all a a_in).0)
          (subst (λ n. ArePageNext h n all (covered s since all) missing) long lacking_next) fits)

  -- what a store that has the intervals up to a time says is missing
  pub parts_lacking : (words : ℕ) (all stored : List A) (since upto : List ℕ) (names : A → Bool) (part : List A)
      → ((a : A) → StandsBetween s all since upto a → Contains stored a)
      → ((a : A) → Contains stored a → Contains all a × IsTrue (stamps_covered s upto a))
      → ((a : A) → Contains all a → (IsTrue (names a) → ⊥) → IsUntouchedBy h words a)
      → ((a : A) → Contains part a ↔ (Contains stored a × IsTrue (names a && not (stamps_covered s since a))))
      → AllPairs (λ a b. IsTrue (comes_before s a b)) part → AreLacking s wrote words all since upto part
  parts_lacking words all stored since upto names part into_store from_store unnamed exactly ascending = record {
    members = λ a a_in.
        let found = (exactly a).0 a_in in
        let known = from_store a found.0 in
        let parts = and_parts (names a) (not (stamps_covered s since a)) found.1 in
        record {
          member = known.0;
          later = λ covers. false≢true (sym (not-true (stamps_covered s since a) parts.1) ∙ covers);
          known = known.1;
        };
    complete = λ a between. ⊎_elim
        (λ (named : IsTrue (names a)).
        inl ((exactly a).1 (
          into_store a between,
          and_from (names a) (not (stamps_covered s since a)) named
              (not_from (stamps_covered s since a) between.later),
        )))
        (λ (other : IsTrue (names a) → ⊥). inr (unnamed a between.member other))
        (test_cases (names a));
    ascending = ascending;
  }
