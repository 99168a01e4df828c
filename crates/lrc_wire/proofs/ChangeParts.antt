-- The readers of parts and of the values of a page agree with how these are spelled.
use Rattle.std.proofs.Common.{◌≡◌, ℕ, ◌<◌, ◌≤◌, ◌||◌, true, eqb, ltb, List, length, Option, Some}
use Rattle.std.proofs.Common.{None, refl, arith, inl, inr}
use Rattle.std.specs.Prelude.{All}
use Rattle.std.specs.Int.{w16, w64}
use Rattle.std.specs.List.{flat_map}
use Rattle.std.proofs.lemmas.Bool.{ltb-true, lt-ltb, eqb-true, eq-eqb, or_cases, or_left, or_right}
use Rattle.std.proofs.lemmas.List.Elements.{All-weaker}
use Rattle.lrc_page.specs.declared.TheConstants.{MOST_PAGE_WORDS}
use Rattle.lrc_page.specs.declared.changes.Change.{Change}
use Rattle.lrc_page.specs.Changes.{IsAscending}
use Rattle.lrc_wire.specs.declared.fault.WireFault.TheVariants.{BadCount}
use Rattle.lrc_wire.specs.declared.version.Version.{Version}
use Rattle.lrc_wire.specs.declared.version.Version.TheVariants.{One, Two}
use Rattle.lrc_wire.specs.Versions.{words_in}
use Rattle.lrc_envelope.specs.Records.{IndexedChangesRecord, AreParts}
use Rattle.lrc_wire.specs.Ranges.{HasBits, FitPart, FitParts, IsSize, FitValues}
use Rattle.lrc_wire.specs.Runs.{runs_of}
use Rattle.lrc_wire.specs.Spelling.{number, numbers, changes, part, parts, page_values}
use Rattle.lrc_wire.specs.Reading.{number_at, tested, is_after, elements_at}
use Rattle.lrc_wire.specs.Reading.{changes_at, next_part_at, parts_at, size_at, page_values_at}
use Rattle.lrc_wire.proofs.Along.{Ascends, Follow, All-from_follow, AllPairs-from_follow, follow_from_pairs, lt-trans}
use Rattle.lrc_wire.proofs.Sequences.{whole, then_fields, last_field, Agrees-counted}
use Rattle.lrc_wire.proofs.Agrees.{Agrees, Agrees-as, Agrees-tested, number16_agrees, elements_agree}
use Rattle.lrc_wire.proofs.Listed.{IsIndex, count_agrees, next_index_agrees}
use Rattle.lrc_wire.proofs.Singly.{singly_agree}
use Rattle.lrc_wire.proofs.Cuts.{values_agree, in_runs_agree}

-- ---- changes of either version

pub words_in-le : (v : Version) → words_in v ≤ MOST_PAGE_WORDS
words_in-le One = omega arith
words_in-le Two = omega arith

-- changes that a version can spell
abbrev pub FitChanges : Version → List Change → Type 0
FitChanges v cs = All (λ c. (c.offset < words_in v) × HasBits 64 c.value) cs × IsAscending cs

changes_agree : (v : Version) → Agrees (changes_at v) (changes v runs_of) (FitChanges v)
unfolding changes_at
changes_agree One = singly_agree
changes_agree Two = in_runs_agree

-- ---- what intervals changed

abbrev IsPart : Version → IndexedChangesRecord → Type 0
IsPart v p = IsIndex p.index × FitChanges v p.changes

fit_part : (v : Version) (p : IndexedChangesRecord) → IsPart v p → FitPart v p
fit_part v p q = record {
  is = record {
    begun = q.0.begun;
    ascending = q.1.1;
    in_range =
        All-weaker (λ c. (c.offset < words_in v)
        × HasBits 64 c.value) (λ c. c.offset < MOST_PAGE_WORDS) (λ c r. omega (arith, r.0, words_in-le v)) p.changes q.1.0;
  };
  bits = q.0.bits;
  offsets = All-weaker (λ c. (c.offset < words_in v) × HasBits 64 c.value) (λ c. c.offset < words_in v) (λ c r. r.0) p.changes q.1.0;
  values = All-weaker (λ c. (c.offset < words_in v) × HasBits 64 c.value) (λ c. HasBits 64 c.value) (λ c r. r.1) p.changes q.1.0;
}

part_from : (v : Version) (p : IndexedChangesRecord) → FitPart v p → IsPart v p
part_from v p h = (record { begun = h.is.begun; bits = h.bits }, ((λ k d within. (h.offsets k d within, h.values k d within)), h.is.ascending))

module _ (v : Version) where
  next_part_agrees : (before : Option ℕ) → Agrees (next_part_at v before) (part v runs_of) (Ascends ltb (λ p. p.index) (IsPart v) before)
  unfolding next_part_at part
  next_part_agrees before =
      Agrees-as _ _ (λ p. (IsIndex p.index × (is_after ltb before p.index ≡ true)) × FitChanges v p.changes) (Ascends ltb (λ p. p.index) (IsPart v) before)
      (λ p h. ((h.0.0, h.1), h.0.1)) (λ p h. ((h.0.0, h.1), h.0.1))
      (whole (λ (p : IndexedChangesRecord). (p.index, p.changes)) (λ r _. refl) (λ p. refl)
      (then_fields (next_index_agrees before) (λ index _. last_field (λ cs. record { index = index; changes = cs }) (changes_agree v))))

  elements_of_parts : (count : ℕ)
      → Agrees (elements_at (next_part_at v) (λ _ p. Some p.index) count None) (flat_map (part v runs_of)) (λ ps. (length ps ≡ count)
      × (All (IsPart v) ps × AreParts ps))
  unfolding is_after
  elements_of_parts count =
      Agrees-as _ (flat_map (part v runs_of)) (λ ps. (length ps ≡ count) × Follow ltb (λ p. p.index) (IsPart v) None ps) (λ ps. (length ps ≡ count)
      × (All (IsPart v) ps × AreParts ps))
      (λ ps h. (
        h.0,
        (
          All-from_follow ltb (λ p. p.index) (IsPart v) None ps h.1,
          λ i j d lt within. ltb-true _ _ (AllPairs-from_follow ltb (λ p. p.index) (IsPart v) lt-trans None ps h.1 i j d lt within),
        ),
      ))
      (λ ps h. (
        h.0,
        follow_from_pairs ltb (λ p. p.index) (IsPart v) None ps h.1.0 (λ i j d lt within. lt-ltb _ _ (h.1.1 i j d lt within)) (λ k d within. refl),
      ))
      (elements_agree (next_part_at v) (λ _ p. Some p.index) (part v runs_of) (Ascends ltb (λ p. p.index) (IsPart v)) next_part_agrees count None)

  pub parts_agree : Agrees (parts_at v) (parts v runs_of) (FitParts v)
  unfolding parts_at parts
  parts_agree =
      Agrees-as _ _ (λ ps. (HasBits 32 (length ps) × (1 ≤ length ps)) × (All (IsPart v) ps × AreParts ps)) (FitParts v)
      (λ ps h. record { some = h.0.1; count = h.0.0; each = All-weaker (IsPart v) (FitPart v) (fit_part v) ps h.1.0; are = h.1.1 })
      (λ ps h. ((h.count, h.some), (All-weaker (FitPart v) (IsPart v) (part_from v) ps h.each, h.are)))
      (Agrees-counted count_agrees (λ count _. elements_of_parts count))

-- ---- values of a page

counted_agrees : Agrees (λ bytes. tested (λ n. eqb n 64 || eqb n MOST_PAGE_WORDS) BadCount (number_at w16 bytes)) (number w16) (λ n. HasBits 16 n
    × ((eqb n 64 || eqb n MOST_PAGE_WORDS) ≡ true))
counted_agrees = Agrees-tested (number_at w16) (number w16) (HasBits 16) (λ n. eqb n 64 || eqb n MOST_PAGE_WORDS) BadCount number16_agrees

is_size : (n : ℕ) → (eqb n 64 || eqb n MOST_PAGE_WORDS) ≡ true → IsSize Two n
is_size n e =
    elim (or_cases (eqb n 64) (eqb n MOST_PAGE_WORDS) e) [ inl p ↦ inl (eqb-true n 64 p) | inr q ↦ inr (eqb-true n MOST_PAGE_WORDS q) ]

size_passes : (n : ℕ) → IsSize Two n → (eqb n 64 || eqb n MOST_PAGE_WORDS) ≡ true
size_passes n (inl p) = or_left (eqb n 64) (eqb n MOST_PAGE_WORDS) (eq-eqb n 64 p)
size_passes n (inr q) = or_right (eqb n 64) (eqb n MOST_PAGE_WORDS) (eq-eqb n MOST_PAGE_WORDS q)

size_small : (n : ℕ) → IsSize Two n → HasBits 16 n
size_small n (inl p) = omega (arith, p)
size_small n (inr q) = omega (arith, q)

pub page_values_agree : (v : Version) → Agrees (page_values_at v) (page_values v) (FitValues v)
unfolding page_values_at size_at
page_values_agree One =
    Agrees-as _ (numbers w64) (λ vs. (length vs ≡ words_in One) × All (HasBits 64) vs) (FitValues One)
    (λ vs h. record { all = h.0; bits = h.1 }) (λ vs h. (h.all, h.bits)) (values_agree (words_in One))
page_values_agree Two =
    Agrees-as _ _ (λ vs. (HasBits 16 (length vs) × ((eqb (length vs) 64 || eqb (length vs) MOST_PAGE_WORDS) ≡ true)) × All (HasBits 64) vs) (FitValues Two)
    (λ vs h. record { all = is_size (length vs) h.0.1; bits = h.1 })
    (λ vs h. ((size_small (length vs) h.all, size_passes (length vs) h.all), h.bits))
    (Agrees-counted counted_agrees (λ count _. values_agree count))
