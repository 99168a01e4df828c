-- The last writer of a list whose writers are ordered is the heaviest, which can be found.
use Rattle.std.proofs.Common.{◌≡◌, ℕ, ◌<◌, ◌≤◌, ◌⊎◌, ◌∙◌, IsTrue, List, [], ◌∷◌, Some, None, ap, inl, inr, ⊎_elim, arith}
use Rattle.std.specs.Prelude.{Contains}
use Rattle.std.proofs.lemmas.Bool.{cases_lt}
use Rattle.lrc_copies.specs.Word.{WordHistory, IsWriter, IsUnwritten, AreWritersOrdered, IsLastWriter}
use Rattle.lrc_copies.specs.Sound.{IsLighterBelow}
use Rattle.lrc_copies.proofs.Members.{Contains-first, Contains-later, cases_Contains, none_Contains}
use Rattle.lrc_copies.proofs.Fitting.{option_cases, writer_in}

module _ {A : Type 0} (w : WordHistory A) where
  -- a writer of the list that no other outweighs
  pub record IsHeaviest (xs : List A) (a : A) (value : ℕ) : Type 0 where
    pub writer : IsWriter w xs a value
    pub heaviest : (b : A) (v : ℕ) → IsWriter w xs b v → w.weight b ≤ w.weight a

  abbrev pub Found : List A → Type 0
  Found xs = IsUnwritten w xs ⊎ ((a : A) × (value : ℕ) × IsHeaviest xs a value)

  -- where the first did not write, it counts for nothing
  unwritten_first : (x : A) (xs : List A) → w.wrote x ≡ None → {b : A} {v : ℕ} → IsWriter w (x ∷ xs) b v → IsWriter w xs b v
  unwritten_first x xs none {b} {v} h =
      ⊎_elim
      (λ (same : x ≡ b). let e : w.wrote x ≡ Some v = ap w.wrote same ∙ h.wrote in absurd (cc))
      (λ (deeper : Contains xs b). writer_in w xs h deeper)
      (cases_Contains x xs b h.member)

  without_first : (x : A) (xs : List A) → w.wrote x ≡ None → Found xs → Found (x ∷ xs)
  without_first x xs silent (inl none) = inl (λ a v h. none a v (unwritten_first x xs silent h))
  without_first x xs silent (inr (a, value, h)) = inr (
    a,
    value,
    record {
      writer = writer_in w (x ∷ xs) h.writer (Contains-later x xs a h.writer.member);
      heaviest = λ b v g. h.heaviest b v (unwritten_first x xs silent g);
    },
  )

  -- a writer that none of the others outweighs is the heaviest, before them
  first_is : (x : A) (xs : List A) (value : ℕ) → w.wrote x ≡ Some value
      → ((b : A) (v : ℕ) → IsWriter w xs b v → w.weight b ≤ w.weight x) → IsHeaviest (x ∷ xs) x value
  first_is x xs value wrote others = record {
    writer = record { member = Contains-first x xs; wrote = wrote };
    heaviest = λ b v g. ⊎_elim
        (λ (same : x ≡ b). let e : w.weight x ≡ w.weight b = ap w.weight same in omega arith)
        (λ (deeper : Contains xs b). others b v (writer_in w xs g deeper))
        (cases_Contains x xs b g.member);
  }

  with_first : (x : A) (xs : List A) (value : ℕ) → w.wrote x ≡ Some value → Found xs → Found (x ∷ xs)
  with_first x xs value wrote (inl none) = inr (x, value, first_is x xs value wrote (λ b v g. absurd (none b v g)))
  with_first x xs value wrote (inr (a, u, h)) =
      ⊎_elim
      (λ (lighter : w.weight x < w.weight a). inr (
        a,
        u,
        record {
          writer = writer_in w (x ∷ xs) h.writer (Contains-later x xs a h.writer.member);
          heaviest = λ b v g. ⊎_elim
              (λ (same : x ≡ b). let e : w.weight x ≡ w.weight b = ap w.weight same in omega arith)
              (λ (deeper : Contains xs b). h.heaviest b v (writer_in w xs g deeper))
              (cases_Contains x xs b g.member);
        },
      ))
      (λ (at_least : w.weight a ≤ w.weight x).
      inr (x, value, first_is x xs value wrote (λ b v g. let less = h.heaviest b v g in omega arith)))
      (cases_lt (w.weight x) (w.weight a))

  pub found_heaviest : (xs : List A) → Found xs
  found_heaviest [] = inl (λ a v h. none_Contains a h.member)
  found_heaviest (x ∷ xs) =
      ⊎_elim
      (λ (silent : w.wrote x ≡ None). without_first x xs silent (found_heaviest xs))
      (λ (wrote : (v : ℕ) × (w.wrote x ≡ Some v)). with_first x xs wrote.0 wrote.1 (found_heaviest xs))
      (option_cases (w.wrote x))

  -- where the writers are ordered, the heaviest is the last
  pub heaviest_is_last : (xs : List A) → IsLighterBelow w xs → AreWritersOrdered w xs → (a : A) (value : ℕ)
      → IsHeaviest xs a value → IsLastWriter w xs a value
  heaviest_is_last xs lighter ordered a value h = record {
    writer = h.writer;
    last = λ b v g. ⊎_elim inl
        (λ (either : IsTrue (w.below b a) ⊎ IsTrue (w.below a b)). ⊎_elim inr
        (λ (above : IsTrue (w.below a b)).
        let less = lighter a b h.writer.member g.member above in
        let most = h.heaviest b v g in
        absurd (omega arith))
        either)
        (ordered b a v value g h.writer);
  }

  pub found_last : (xs : List A) → IsLighterBelow w xs → AreWritersOrdered w xs
      → IsUnwritten w xs ⊎ ((a : A) × (value : ℕ) × IsLastWriter w xs a value)
  found_last xs lighter ordered =
      ⊎_elim inl
      (λ (h : (a : A) × (value : ℕ) × IsHeaviest xs a value). inr (h.0, h.1, heaviest_is_last xs lighter ordered h.0 h.1 h.2))
      (found_heaviest xs)
