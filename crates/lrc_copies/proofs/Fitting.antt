-- What a copy that fits goes on to fit.
use Rattle.std.proofs.Common.{◌≡◌, ℕ, ◌⊎◌, ◌∙◌, IsTrue, List, [], ◌∷◌, Option, Some, None, refl, ap, sym, inl, inr, ⊎_elim}
use Rattle.std.specs.Prelude.{unwrap_or, Contains}
use Rattle.lrc_copies.specs.Word.{WordHistory, IsWriter, IsUnwritten, AreWritersOrdered, Fits, HaveSameWriters, AgreeOn, IsBelowNone}
use Rattle.lrc_copies.proofs.Members.{Contains-first, Contains-later, cases_Contains, none_Contains}

pub option_cases : (o : Option ℕ) → (o ≡ None) ⊎ ((v : ℕ) × (o ≡ Some v))
option_cases None = inl refl
option_cases (Some v) = inr (v, refl)

module _ {A : Type 0} (w : WordHistory A) where
  -- a writer of a list is one of any list that it is in
  pub writer_in : {xs : List A} (ys : List A) {a : A} {value : ℕ} → IsWriter w xs a value → Contains ys a → IsWriter w ys a value
  writer_in ys h there = record { member = there; wrote = h.wrote }

  pub zero_fits : Fits w 0 []
  zero_fits = record {
    weak = inl refl;
    strong = λ ordered. record {
      none = λ none. refl;
      last = λ a v h. absurd (none_Contains a h.writer.member);
    };
  }

  pub unwritten_zero : (value : ℕ) (xs : List A) → IsUnwritten w xs → Fits w value xs → value ≡ 0
  unwritten_zero value xs none fits =
      ⊎_elim (λ (zero : value ≡ 0). zero) (λ (h : (a : A) × IsWriter w xs a value). absurd (none h.0 value h.1)) fits.weak

  -- ---- only writers count

  pub ordered_in : {xs ys : List A} → ((a : A) (value : ℕ) → IsWriter w ys a value → Contains xs a)
      → AreWritersOrdered w xs → AreWritersOrdered w ys
  ordered_in {xs} {ys} into ordered a b u v g h =
      ordered a b u v (writer_in xs g (into a u g)) (writer_in xs h (into b v h))

  pub fits_writers : (value : ℕ) (xs ys : List A) → HaveSameWriters w xs ys → Fits w value xs → Fits w value ys
  fits_writers value xs ys same fits = record {
    weak = ⊎_elim inl (λ (h : (a : A) × IsWriter w xs a value). inr (h.0, writer_in ys h.1 ((same h.0 value).0 h.1))) fits.weak;
    strong = λ ordered.
        let latest = fits.strong (ordered_in (λ a v. (same a v).0) ordered) in record {
          none = λ none. latest.none (λ a v h. none a v (writer_in ys h ((same a v).0 h)));
          last = λ a v h. latest.last a v (record {
            writer = writer_in xs h.writer ((same a v).1 h.writer);
            last = λ b u g. h.last b u (writer_in ys g ((same b u).0 g));
          });
        };
  }

  -- lists with the same members
  pub same_members : (xs ys : List A) → ((a : A) → Contains xs a → Contains ys a) → ((a : A) → Contains ys a → Contains xs a)
      → HaveSameWriters w xs ys
  same_members xs ys into from a value = (λ h. into a h.member, λ h. from a h.member)

  -- an interval more that did not write
  pub fits_silent : (value : ℕ) (x : A) (xs : List A) → w.wrote x ≡ None → Fits w value xs → Fits w value (x ∷ xs)
  fits_silent value x xs unwritten fits =
      fits_writers value xs (x ∷ xs)
      (λ a v. (
        λ h. Contains-later x xs a h.member,
        λ h. ⊎_elim
            (λ (same : x ≡ a). let e : w.wrote x ≡ Some v = ap w.wrote same ∙ h.wrote in absurd (cc))
            (λ deeper. deeper)
            (cases_Contains x xs a h.member),
      )) fits

  -- ---- the newest writer

  -- A writer that is below no other, of a list with it: what it wrote last fits.
  pub newest_fits : (value : ℕ) (x : A) (xs : List A) → w.wrote x ≡ Some value
      → IsBelowNone w x xs → Fits w value (x ∷ xs)
  newest_fits value x xs wrote newer =
      let here : IsWriter w (x ∷ xs) x value = record { member = Contains-first x xs; wrote = wrote } in record {
        weak = inr (x, here);
        strong = λ ordered. record {
          none = λ none. absurd (none x value here);
          last = λ a v h. ⊎_elim
              (λ (same : x ≡ a). let e : w.wrote x ≡ Some v = ap w.wrote same ∙ h.writer.wrote in cc)
              (λ (under : IsTrue (w.below x a)). ⊎_elim
              (λ (same : x ≡ a). let e : w.wrote x ≡ Some v = ap w.wrote same ∙ h.writer.wrote in cc)
              (λ (deeper : Contains xs a). absurd (newer a v (writer_in xs h.writer deeper) under))
              (cases_Contains x xs a h.writer.member))
              (h.last x value here);
        };
      }

  -- What an interval that is below none makes of a copy: its last value, or what the copy had.
  pub fits_open : (value : ℕ) (x : A) (xs : List A) → IsBelowNone w x xs → Fits w value xs
      → Fits w (unwrap_or (w.wrote x) value) (x ∷ xs)
  fits_open value x xs newest fits =
      ⊎_elim
      (λ (unwritten : w.wrote x ≡ None). rw unwritten (fits_silent value x xs unwritten fits))
      (λ (wrote : (v : ℕ) × (w.wrote x ≡ Some v)). rw wrote.1 (newest_fits wrote.0 x xs wrote.1 newest))
      (option_cases (w.wrote x))

-- ---- only what the members did counts

module _ {A : Type 0} (w w' : WordHistory A) (xs : List A) (agree : AgreeOn xs w w') where
  there : {a : A} {v : ℕ} → IsWriter w xs a v → IsWriter w' xs a v
  there {a} h = record { member = h.member; wrote = sym (agree.wrote a h.member) ∙ h.wrote }

  back : {a : A} {v : ℕ} → IsWriter w' xs a v → IsWriter w xs a v
  back {a} h = record { member = h.member; wrote = agree.wrote a h.member ∙ h.wrote }

  ordered_back : AreWritersOrdered w' xs → AreWritersOrdered w xs
  ordered_back ordered a b u v g h =
      ⊎_elim inl
      (λ (either : IsTrue (w'.below a b) ⊎ IsTrue (w'.below b a)). ⊎_elim
      (λ (under : IsTrue (w'.below a b)). inr (inl (agree.below a b g.member h.member ∙ under)))
      (λ (under : IsTrue (w'.below b a)). inr (inr (agree.below b a h.member g.member ∙ under)))
      either)
      (ordered a b u v (there g) (there h))

  pub fits_agreed : (value : ℕ) → Fits w value xs → Fits w' value xs
  fits_agreed value fits = record {
    weak = ⊎_elim inl (λ (h : (a : A) × IsWriter w xs a value). inr (h.0, there h.1)) fits.weak;
    strong = λ ordered.
        let latest = fits.strong (ordered_back ordered) in record {
          none = λ none. latest.none (λ a v h. none a v (there h));
          last = λ a v h. latest.last a v (record {
            writer = back h.writer;
            last = λ b u g. ⊎_elim inl (λ (under : IsTrue (w'.below b a)). inr (agree.below b a g.member h.writer.member ∙ under)) (h.last b u (there g));
          });
        };
  }
