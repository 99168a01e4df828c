-- Applying the changes of intervals keeps the fit.
use Rattle.std.proofs.Common.{◌≡◌, ℕ, ◌<◌, ◌≤◌, ◌⊎◌, ◌∙◌, IsTrue, List, [], ◌∷◌, ◌++◌, Some, None, ap, sym, subst, inl, inr, ⊎_elim, arith}
use Rattle.std.specs.Prelude.{Contains, unwrap_or}
use Rattle.std.proofs.lemmas.List.Elements.{Contains-append_left, Contains-append_right, Contains-append_cases}
use Rattle.lrc_copies.specs.Word.{WordHistory, IsWriter, IsUnwritten, AreWritersOrdered, IsLastWriter, IsLastValue, Fits}
use Rattle.lrc_copies.specs.Sound.{those_below, IsLighterBelow, IsSoundList, IsAddable, AreAddable, repaired_value}
use Rattle.lrc_copies.proofs.Members.{Contains-first, Contains-later, cases_Contains, none_Contains}
use Rattle.lrc_copies.proofs.Members.{Contains-filter, Contains-from_filter, AllPairs-first, AllPairs-rest}
use Rattle.lrc_copies.proofs.Fitting.{option_cases, writer_in, ordered_in, fits_writers, same_members, fits_silent, newest_fits}
use Rattle.lrc_copies.proofs.Heaviest.{found_last}

module _ {A : Type 0} (w : WordHistory A) (all xs : List A) (x : A) (sound : IsSoundList w all)
    (within : (a : A) → Contains xs a → Contains all a) (next : IsAddable w all xs x) where
  -- the members of the list that are below a member of all
  lighter_in : IsLighterBelow w xs
  lighter_in a b a_in b_in = sound.lighter a b (within a a_in) (within b b_in)

  -- a writer below x is in
  below_in : {a : A} {u : ℕ} → IsWriter w (those_below w all x) a u → IsWriter w xs a u
  below_in {a} {u} h =
      let parts = Contains-from_filter (λ b. w.below b x) all a h.member in
      writer_in w xs h (next.complete a u (writer_in w all h parts.0) parts.1)

  -- a writer that is in and below x is one of those below it
  in_below : {a : A} {u : ℕ} → IsWriter w xs a u → IsTrue (w.below a x) → IsWriter w (those_below w all x) a u
  in_below {a} h under = writer_in w _ h (Contains-filter (λ b. w.below b x) all a (within a h.member) under)

  -- A silent write leaves the value, and the value was what was written.
  silent_value : (v u : ℕ) → Fits w v xs → w.wrote x ≡ Some u → Fits w u (those_below w all x)
      → AreWritersOrdered w (x ∷ xs) → v ≡ u
  silent_value v u fits wrote fits_below ordered =
      let ordered_xs : AreWritersOrdered w xs = ordered_in w (λ a s h. Contains-later x xs a h.member) ordered in
      let ordered_below : AreWritersOrdered w (those_below w all x) = ordered_in w (λ a s h. (below_in h).member) ordered_xs in
      let latest = fits.strong ordered_xs in
      let latest_below = fits_below.strong ordered_below in
      ⊎_elim
      (λ (none : IsUnwritten w xs). latest.none none ∙ sym (latest_below.none (λ a s h. none a s (below_in h))))
      (λ (found : (a : A) × (s : ℕ) × IsLastWriter w xs a s).
      let here : IsWriter w (x ∷ xs) x u = record { member = Contains-first x xs; wrote = wrote } in
      let last = found.2 in
      let there : IsWriter w (x ∷ xs) found.0 found.1 = writer_in w (x ∷ xs) last.writer (Contains-later x xs found.0 last.writer.member) in
      let now : v ≡ found.1 = latest.last found.0 found.1 last in
      ⊎_elim
      (λ (same : x ≡ found.0).
      let e : w.wrote found.0 ≡ Some found.1 = last.writer.wrote in
      let f : w.wrote x ≡ w.wrote found.0 = ap w.wrote same in
      cc)
      (λ (either : IsTrue (w.below x found.0) ⊎ IsTrue (w.below found.0 x)). ⊎_elim
      (λ (above : IsTrue (w.below x found.0)). absurd (next.newer found.0 found.1 last.writer above))
      (λ (under : IsTrue (w.below found.0 x)).
      let last_below : IsLastWriter w (those_below w all x) found.0 found.1 = record {
        writer = in_below last.writer under;
        last = λ b s h. last.last b s (below_in h);
      } in
      now ∙ sym (latest_below.last found.0 found.1 last_below))
      either)
      (ordered x found.0 u found.1 here there))
      (found_last w xs lighter_in ordered_xs)

  fits_silent_write : (v u : ℕ) → Fits w v xs → w.wrote x ≡ Some u → Fits w u (those_below w all x) → Fits w v (x ∷ xs)
  fits_silent_write v u fits wrote fits_below =
      let newest : Fits w u (x ∷ xs) = newest_fits w u x xs wrote next.newer in record {
        weak = ⊎_elim inl
            (λ (h : (a : A) × IsWriter w xs a v). inr (h.0, writer_in w (x ∷ xs) h.1 (Contains-later x xs h.0 h.1.member)))
            fits.weak;
        strong = λ ordered.
            subst (IsLastValue w (x ∷ xs)) (sym (silent_value v u fits wrote fits_below ordered)) (newest.strong ordered);
      }

  pub fits_next : (v : ℕ) → Fits w v xs → Fits w (unwrap_or (w.change x) v) (x ∷ xs)
  fits_next v fits =
      ⊎_elim
      (λ (none : w.change x ≡ None). rw none (⊎_elim
      (λ (unwritten : w.wrote x ≡ None). fits_silent w v x xs unwritten fits)
      (λ (wrote : (u : ℕ) × (w.wrote x ≡ Some u)).
      fits_silent_write v wrote.0 fits wrote.1 (sound.silent x wrote.0 next.member wrote.1 none))
      (option_cases (w.wrote x))))
      (λ (given : (u : ℕ) × (w.change x ≡ Some u)).
      rw given.1 (newest_fits w given.0 x xs (sound.change x given.0 next.member given.1) next.newer))
      (option_cases (w.change x))

-- ---- several

module _ {A : Type 0} (w : WordHistory A) (all : List A) (sound : IsSoundList w all) where
  first_next : (xs : List A) (x : A) (more : List A) → AreAddable w all xs (x ∷ more) → IsAddable w all xs x
  first_next xs x more next = record {
    member = next.members x (Contains-first x more);
    complete = λ a v h under.
        let x_in = next.members x (Contains-first x more) in
        let less : w.weight a < w.weight x = sound.lighter a x h.member x_in under in
        ⊎_elim (λ (before : Contains xs a). before)
        (λ (among : Contains (x ∷ more) a). ⊎_elim
        (λ (same : x ≡ a). let e : w.weight x ≡ w.weight a = ap w.weight same in absurd (omega arith))
        (λ (later : Contains more a).
        let rises : w.weight x ≤ w.weight a = AllPairs-first (λ b c. w.weight b ≤ w.weight c) x more a next.rising later in
        absurd (omega arith))
        (cases_Contains x more a among))
        (next.complete x a v (Contains-first x more) h under);
    newer = next.newer x (Contains-first x more);
  }

  rest_next : (xs : List A) (x : A) (more : List A) → AreAddable w all xs (x ∷ more) → AreAddable w all (x ∷ xs) more
  rest_next xs x more next = record {
    members = λ a h. next.members a (Contains-later x more a h);
    complete = λ y a v h g under. ⊎_elim
        (λ (before : Contains xs a). inl (Contains-later x xs a before))
        (λ (among : Contains (x ∷ more) a). ⊎_elim
        (λ (same : x ≡ a). inl (subst (Contains (x ∷ xs)) same (Contains-first x xs)))
        (λ (later : Contains more a). inr later)
        (cases_Contains x more a among))
        (next.complete y a v (Contains-later x more y h) g under);
    newer = λ y h a v g under. ⊎_elim
        (λ (same : x ≡ a).
        let y_in = next.members y (Contains-later x more y h) in
        let x_in = next.members x (Contains-first x more) in
        let less : w.weight y < w.weight x = sound.lighter y x y_in x_in (ap (λ c. w.below y c) same ∙ under) in
        let rises : w.weight x ≤ w.weight y = AllPairs-first (λ b c. w.weight b ≤ w.weight c) x more y next.rising h in
        omega arith)
        (λ (deeper : Contains xs a). next.newer y (Contains-later x more y h) a v (writer_in w xs g deeper) under)
        (cases_Contains x xs a g.member);
    rising = AllPairs-rest (λ b c. w.weight b ≤ w.weight c) x more next.rising;
  }

  within_more : (xs : List A) (x : A) → Contains all x → ((a : A) → Contains xs a → Contains all a)
      → (a : A) → Contains (x ∷ xs) a → Contains all a
  within_more xs x x_in within a h =
      ⊎_elim (λ (same : x ≡ a). subst (Contains all) same x_in) (λ deeper. within a deeper) (cases_Contains x xs a h)

  -- an element between two lists, put first
  put_first : (xs : List A) (x : A) (more : List A) (a : A) → Contains ((x ∷ xs) ++ more) a → Contains (xs ++ x ∷ more) a
  put_first xs x more a h =
      ⊎_elim
      (λ (front : Contains (x ∷ xs) a). ⊎_elim
      (λ (same : x ≡ a). Contains-append_right xs (x ∷ more) a (subst (Contains (x ∷ more)) same (Contains-first x more)))
      (λ (deeper : Contains xs a). Contains-append_left xs (x ∷ more) a deeper)
      (cases_Contains x xs a front))
      (λ (back : Contains more a). Contains-append_right xs (x ∷ more) a (Contains-later x more a back))
      (Contains-append_cases (x ∷ xs) more a h)

  put_back : (xs : List A) (x : A) (more : List A) (a : A) → Contains (xs ++ x ∷ more) a → Contains ((x ∷ xs) ++ more) a
  put_back xs x more a h =
      ⊎_elim
      (λ (front : Contains xs a). Contains-append_left (x ∷ xs) more a (Contains-later x xs a front))
      (λ (back : Contains (x ∷ more) a). ⊎_elim
      (λ (same : x ≡ a). Contains-append_left (x ∷ xs) more a (subst (Contains (x ∷ xs)) same (Contains-first x xs)))
      (λ (deeper : Contains more a). Contains-append_right (x ∷ xs) more a deeper)
      (cases_Contains x more a back))
      (Contains-append_cases xs (x ∷ more) a h)

  none_more : (xs : List A) (a : A) → Contains xs a → Contains (xs ++ []) a
  none_more xs a h = Contains-append_left xs [] a h

  none_less : (xs : List A) (a : A) → Contains (xs ++ []) a → Contains xs a
  none_less xs a h = ⊎_elim (λ front. front) (λ back. absurd (none_Contains a back)) (Contains-append_cases xs [] a h)

  pub fits_all_next : (xs more : List A) (v : ℕ) → ((a : A) → Contains xs a → Contains all a) → AreAddable w all xs more
      → Fits w v xs → Fits w (repaired_value w v more) (xs ++ more)
  fits_all_next xs [] v within next fits =
      fits_writers w v xs (xs ++ []) (same_members w xs (xs ++ []) (none_more xs) (none_less xs)) fits
  fits_all_next xs (x ∷ more) v within next fits =
      let one = first_next xs x more next in
      fits_writers w (repaired_value w v (x ∷ more)) ((x ∷ xs) ++ more) (xs ++ x ∷ more)
      (same_members w _ _ (put_first xs x more) (put_back xs x more))
      (fits_all_next (x ∷ xs) more (unwrap_or (w.change x) v) (within_more xs x one.member within)
      (rest_next xs x more next) (fits_next w all xs x sound within one v fits))
