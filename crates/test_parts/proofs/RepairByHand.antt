-- A repair of a page of two words, by hand.
use Rattle.std.proofs.Common.{◌≡◌, ℕ, zero, suc, IsTrue, List, [], ◌∷◌, Some, None, subst, refl, inl, ⊎_elim, arith, rules}
use Rattle.std.specs.Prelude.{Contains, AllPairs}
use Rattle.std.proofs.lemmas.Bool.{false≢true}
use Rattle.lrc_copies.specs.Word.{Fits}
use Rattle.lrc_copies.specs.Sound.{those_below, IsSoundList}
use Rattle.lrc_copies.specs.Page.{at_word, IsPageSound, PageFits}
use Rattle.lrc_time.specs.Time.{Covers}
use Rattle.lrc_copies.specs.Stamps.{comes_before, IsCut, AreStamped, StandsBetween, AreLacking, covered}
use Rattle.lrc_copies.proofs.Timing.{repaired_fits}
use Rattle.lrc_copies.proofs.Members.{cases_Contains, none_Contains}
use Rattle.lrc_copies.proofs.Deciding.{fits_true}
use Rattle.lrc_copies.proofs.Stamping.{lighter_below}
use Rattle.test_parts.specs.Copies.{four_changes, four, four_stamps, four_wrote, four_page}

-- what holds of each of four holds of every member of their list
pub each_of_four : (P : ℕ → Type 0) → P 0 → P 1 → P 2 → P 3 → (a : ℕ) → Contains four a → P a
each_of_four P first second third last a there =
    ⊎_elim (λ (same : 0 ≡ a). subst P same first)
    (λ (after : Contains (1 ∷ 2 ∷ 3 ∷ []) a). ⊎_elim (λ (same : 1 ≡ a). subst P same second)
    (λ (after : Contains (2 ∷ 3 ∷ []) a). ⊎_elim (λ (same : 2 ≡ a). subst P same third)
    (λ (after : Contains (3 ∷ []) a). ⊎_elim (λ (same : 3 ≡ a). subst P same last)
    (λ (after : Contains [] a). absurd (none_Contains a after))
    (cases_Contains 3 [] a after))
    (cases_Contains 2 (3 ∷ []) a after))
    (cases_Contains 1 (2 ∷ 3 ∷ []) a after))
    (cases_Contains 0 (1 ∷ 2 ∷ 3 ∷ []) a there)

pub fits_before : PageFits four_page (0 ∷ 7 ∷ []) (1 ∷ [])
fits_before zero within = fits_true (at_word four_page 0) (1 ∷ []) 0 refl
fits_before (suc zero) within = fits_true (at_word four_page 1) (1 ∷ []) 7 refl
fits_before (suc (suc offset)) within = absurd (omega arith)

module _ (stamped : AreStamped four_stamps 3 four) where
  first_sound : IsSoundList (at_word four_page 0) four
  first_sound = record {
    lighter = λ a b. lighter_below four_stamps 3 four stamped a b;
    change = λ a v a_in.
        each_of_four (λ b. (at_word four_page 0).change b ≡ Some v → four_wrote b 0 ≡ Some v)
        (λ given. given) (λ given. given) (λ given. given) (λ given. absurd (cc)) a a_in;
    silent = λ a v a_in.
        each_of_four (λ b. four_wrote b 0 ≡ Some v → (at_word four_page 0).change b ≡ None
        → Fits (at_word four_page 0) v (those_below (at_word four_page 0) four b))
        (λ wrote none. absurd (cc)) (λ wrote none. absurd (cc)) (λ wrote none. absurd (cc))
        (λ wrote none.
        let value : 9 ≡ v = cc in
        subst (λ u. Fits (at_word four_page 0) u (those_below (at_word four_page 0) four 3)) value
        (fits_true (at_word four_page 0) (those_below (at_word four_page 0) four 3) 9 refl))
        a a_in;
  }

  second_sound : IsSoundList (at_word four_page 1) four
  second_sound = record {
    lighter = λ a b. lighter_below four_stamps 3 four stamped a b;
    change = λ a v a_in.
        each_of_four (λ b. (at_word four_page 1).change b ≡ Some v → four_wrote b 1 ≡ Some v)
        (λ given. given) (λ given. given) (λ given. given) (λ given. given) a a_in;
    silent = λ a v a_in.
        each_of_four (λ b. four_wrote b 1 ≡ Some v → (at_word four_page 1).change b ≡ None
        → Fits (at_word four_page 1) v (those_below (at_word four_page 1) four b))
        (λ wrote none. absurd (cc)) (λ wrote none. absurd (cc)) (λ wrote none. absurd (cc)) (λ wrote none. absurd (cc)) a a_in;
  }

  pub four_sound : IsPageSound four_page 2 four
  four_sound zero within = first_sound
  four_sound (suc zero) within = second_sound
  four_sound (suc (suc offset)) within = absurd (omega arith)

-- the three that node 2 lacks
abbrev lacking_list : List ℕ
lacking_list = 0 ∷ 2 ∷ 3 ∷ []

abbrev IsBetweenThem : ℕ → Type 0
IsBetweenThem a = StandsBetween four_stamps four (0 ∷ 0 ∷ 1 ∷ []) (4 ∷ 2 ∷ 1 ∷ []) a

between_0 : IsBetweenThem 0
between_0 = record { member = (0, omega arith, refl); later = false≢true; known = refl }

between_2 : IsBetweenThem 2
between_2 = record { member = (2, omega arith, refl); later = false≢true; known = refl }

between_3 : IsBetweenThem 3
between_3 = record { member = (3, omega arith, refl); later = false≢true; known = refl }

between : (a : ℕ) → Contains lacking_list a → IsBetweenThem a
between a there =
    ⊎_elim (λ (same : 0 ≡ a). subst IsBetweenThem same between_0)
    (λ (after : Contains (2 ∷ 3 ∷ []) a). ⊎_elim (λ (same : 2 ≡ a). subst IsBetweenThem same between_2)
    (λ (after : Contains (3 ∷ []) a). ⊎_elim (λ (same : 3 ≡ a). subst IsBetweenThem same between_3)
    (λ (after : Contains [] a). absurd (none_Contains a after))
    (cases_Contains 3 [] a after))
    (cases_Contains 2 (3 ∷ []) a after))
    (cases_Contains 0 (2 ∷ 3 ∷ []) a there)

pub among : (a : ℕ) → StandsBetween four_stamps four (0 ∷ 0 ∷ 1 ∷ []) (4 ∷ 2 ∷ 1 ∷ []) a → Contains lacking_list a
among a h =
    each_of_four (λ b. StandsBetween four_stamps four (0 ∷ 0 ∷ 1 ∷ []) (4 ∷ 2 ∷ 1 ∷ []) b → Contains lacking_list b)
    (λ g. (0, omega arith, refl)) (λ g. absurd (g.later refl)) (λ g. (1, omega arith, refl)) (λ g. (2, omega arith, refl))
    a h.member h

-- ---- the repair

pub stamped : AreStamped four_stamps 3 four
stamped = search rules

since_cut : IsCut four_stamps four (0 ∷ 0 ∷ 1 ∷ [])
since_cut = search rules

upto_cut : IsCut four_stamps four (4 ∷ 2 ∷ 1 ∷ [])
upto_cut = search rules

later : Covers (4 ∷ 2 ∷ 1 ∷ []) (0 ∷ 0 ∷ 1 ∷ [])
later = search rules

in_order : AllPairs (λ a b. IsTrue (comes_before four_stamps a b)) lacking_list
in_order = search rules

pub lacking : AreLacking four_stamps four_wrote 2 four (0 ∷ 0 ∷ 1 ∷ []) (4 ∷ 2 ∷ 1 ∷ []) lacking_list
lacking = record {
  members = between;
  complete = λ a h. inl (among a h);
  ascending = in_order;
}

pub repaired_by_hand : PageFits four_page (9 ∷ 7 ∷ []) (covered four_stamps (4 ∷ 2 ∷ 1 ∷ []) four)
repaired_by_hand =
    repaired_fits four_stamps four_wrote four_changes four (0 ∷ 0 ∷ 1 ∷ []) (4 ∷ 2 ∷ 1 ∷ []) later 3 stamped since_cut upto_cut 2
    lacking_list lacking (0 ∷ 7 ∷ []) refl (four_sound stamped) fits_before
