-- What is known of lines, line after line, and of the first of them.
use Rattle.std.proofs.Common.{◌≡◌, ℕ, zero, suc, ◌+◌, ◌<◌, ◌≤◌, Bool, true, false, List, [], ◌∷◌, ◌++◌, length, take, sym, subst, refl, ◌∙◌, ap, arith, append_assoc, append-nil}
use Rattle.std.specs.Bool.{OnTrue}
use Rattle.std.specs.Prelude.{◌≢◌, ◌↔◌, IsTrue, Option, None, Some}
use Rattle.lrc_races_text.specs.declared.form.Form.{Form}
use Rattle.lrc_races_notes.specs.Signs.{IsBlankIn, IsMarkedIn}
use Rattle.lrc_races_notes.specs.Notes.{AreNotes, HasNoBlank, IsBlankNote, IsFirstBlank, IsMarkNote, IsMarkedFirst, first_blank, first_marked, none_blank, not_marked}
use Rattle.lrc_races_notes.specs.Noter.{HasNoted, IsBlankOf, IsMarkOf, TellsBlank, TellsMark, blank_part, mark_part, more_blank, more_mark, more_notes, notes_of}
use Rattle.lrc_races_notes.specs.declared.noter.Noter.{Noter}

-- ---- one line more

pub mark_first : (form : Form) (line : List ℕ) (number : ℕ) (before after : Bool) → number ≡ 1 → (IsTrue after ↔ IsMarkedIn form line)
    → (lines : List (List ℕ)) → number ≡ length lines + 1 → IsMarkOf form lines before → IsMarkOf form (lines ++ line ∷ []) after
mark_first form line number before after one is [] counted h = is
mark_first form line number before after one is (l ∷ ls) counted h = absurd (omega arith)

pub mark_later : (form : Form) (line : List ℕ) (number : ℕ) (before : Bool) → number ≢ 1
    → (lines : List (List ℕ)) → number ≡ length lines + 1 → IsMarkOf form lines before → IsMarkOf form (lines ++ line ∷ []) before
mark_later form line number before not [] counted h = absurd (not (omega arith))
mark_later form line number before not (l ∷ ls) counted h = h

pub blank_kept : (form : Form) (lines : List (List ℕ)) (line : List ℕ) (number : ℕ) → IsFirstBlank form lines number
    → IsFirstBlank form (lines ++ line ∷ []) number
blank_kept form lines line number h = record {
  before = h.before;
  line = h.line;
  after = h.after ++ line ∷ [];
  whole = ap (λ ls. ls ++ line ∷ []) h.whole ∙ append_assoc h.before (h.line ∷ h.after) (line ∷ []);
  counted = h.counted;
  none = h.none;
  blank = h.blank;
}

pub blank_here : (form : Form) (lines : List (List ℕ)) (line : List ℕ) (number : ℕ) → number ≡ length lines + 1 → HasNoBlank form lines
    → IsBlankIn form line → IsFirstBlank form (lines ++ line ∷ []) number
blank_here form lines line number counted none is =
    record { before = lines; line = line; after = []; whole = refl; counted = counted; none = none; blank = is }

pub none_more : (form : Form) (lines : List (List ℕ)) (line : List ℕ) → HasNoBlank form lines → (IsBlankIn form line → ⊥)
    → HasNoBlank form (lines ++ line ∷ [])
none_more form [] line none not = (not, tt)
none_more form (l ∷ ls) line none not = (none.0, none_more form ls line none.1 not)

-- ---- the first lines alone

pub mark_none : (form : Form) (lines : List (List ℕ)) (count : ℕ) → count ≡ 0 → IsMarkOf form (take count lines) false
mark_none form lines zero is = ((λ e. let never : ⊥ = cc in never), (λ m. absurd m))
mark_none form lines (suc n) is = absurd (omega arith)

pub mark_some : (form : Form) (lines : List (List ℕ)) (count : ℕ) (is : Bool) → count ≢ 0 → IsMarkOf form lines is → IsMarkOf form (take count lines) is
mark_some form lines zero is not h = absurd (not refl)
mark_some form [] (suc n) is not h = h
mark_some form (l ∷ ls) (suc n) is not h = h

take_past : (n : ℕ) (before : List (List ℕ)) (line : List ℕ) (after : List (List ℕ)) → length before < n
    → (rest : List (List ℕ)) × (take n (before ++ line ∷ after) ≡ before ++ line ∷ rest)
take_past zero before line after many = absurd (omega arith)
take_past (suc n) [] line after many = (take n after, refl)
take_past (suc n) (b ∷ bs) line after many =
    let r = take_past n bs line after (omega arith) in
    (r.0, ap (λ ls. b ∷ ls) r.1)

pub blank_within : (form : Form) (lines : List (List ℕ)) (count number : ℕ) → number ≤ count → IsFirstBlank form lines number
    → IsFirstBlank form (take count lines) number
blank_within form lines count number within h =
    let counted = h.counted in
    let r = take_past count h.before h.line h.after (omega arith) in
    record {
      before = h.before;
      line = h.line;
      after = r.0;
      whole = ap (λ ls. take count ls) h.whole ∙ r.1;
      counted = h.counted;
      none = h.none;
      blank = h.blank;
    }

none_front : (form : Form) (n : ℕ) (before : List (List ℕ)) (more : List (List ℕ)) → n ≤ length before → HasNoBlank form before
    → HasNoBlank form (take n (before ++ more))
none_front form zero before more few none = tt
none_front form (suc n) [] more few none = absurd (omega arith)
none_front form (suc n) (b ∷ bs) more few none = (none.0, none_front form n bs more (omega arith) none.1)

pub blank_beyond : (form : Form) (lines : List (List ℕ)) (count number : ℕ) → count < number → IsFirstBlank form lines number
    → HasNoBlank form (take count lines)
blank_beyond form lines count number beyond h =
    let counted = h.counted in
    subst (λ ls. HasNoBlank form (take count ls)) (sym h.whole) (none_front form count h.before (h.line ∷ h.after) (omega arith) h.none)

pub none_take : (form : Form) (n : ℕ) (lines : List (List ℕ)) → HasNoBlank form lines → HasNoBlank form (take n lines)
none_take form zero lines none = tt
none_take form (suc n) [] none = tt
none_take form (suc n) (l ∷ ls) none = (none.0, none_take form n ls none.1)

-- ---- the text

mark_is : (form : Form) (lines : List (List ℕ)) (is : Bool) → IsMarkOf form lines is → IsMarkNote form lines (mark_part is)
mark_is form lines true h = first_marked (h.0 refl)
mark_is form lines false h = not_marked (λ m. let e = h.1 m in let never : ⊥ = cc in never)

blank_is : (form : Form) (lines : List (List ℕ)) (is : Option ℕ) → IsBlankOf form lines is → IsBlankNote form lines (blank_part is)
blank_is form lines None h = none_blank h
blank_is form lines (Some number) h = first_blank h

pub notes_are : (form : Form) (lines : List (List ℕ)) (noter : Noter) → HasNoted form lines noter → AreNotes form lines (notes_of noter)
notes_are form lines noter h = record {
  mark = mark_part noter.marked;
  blank = blank_part noter.blank;
  of_mark = mark_is form lines noter.marked h.mark;
  of_blank = blank_is form lines noter.blank h.blank;
  whole = refl;
}

-- ---- the text of what is known more

spelled_more : (m n : Bool) (b c : Option ℕ) → (m ≡ true → n ≡ true) → ((number : ℕ) → b ≡ Some number → c ≡ Some number)
    → (m ≡ false → n ≡ true → b ≡ None)
    → mark_part n ++ blank_part c ≡ (mark_part m ++ blank_part b) ++ (more_mark m n ++ more_blank b c)
spelled_more true false b c stays kept first = let e = stays refl in let never : ⊥ = cc in absurd never
spelled_more true true None c stays kept first = ap (λ t. t ++ blank_part c) (sym (append-nil (mark_part true)))
spelled_more true true (Some number) c stays kept first =
    ap (λ (o : Option ℕ). mark_part true ++ blank_part o) (kept number refl) ∙ sym (append-nil (mark_part true ++ blank_part (Some number)))
spelled_more false true None c stays kept first = refl
spelled_more false true (Some number) c stays kept first = let e = first refl refl in let never : ⊥ = cc in absurd never
spelled_more false false None c stays kept first = refl
spelled_more false false (Some number) c stays kept first =
    ap (λ (o : Option ℕ). blank_part o) (kept number refl) ∙ sym (append-nil (blank_part (Some number)))

pub told_more : (told noter : Noter) → TellsMark told noter.marked → TellsBlank told.blank noter.blank
    → notes_of noter ≡ notes_of told ++ more_notes told noter
told_more told noter mark blank_is = spelled_more told.marked noter.marked told.blank noter.blank mark.0 blank_is mark.1

pub mark_told : (told : Noter) (marked : Bool) → told.marked ≡ true → OnTrue marked (TellsMark told marked)
mark_told told true was = ((λ _. refl), (λ not. let never : ⊥ = cc in absurd never))
mark_told told false was = tt

pub mark_untold : (told : Noter) (marked none : Bool) → told.marked ≡ false → (IsTrue none → told.blank ≡ None) → OnTrue none (TellsMark told marked)
mark_untold told marked true was is = ((λ e. let never : ⊥ = cc in absurd never), (λ _ _. is refl))
mark_untold told marked false was is = tt

pub mark_none_told : (told : Noter) (marked : Bool) → told.marked ≡ false → marked ≡ false → TellsMark told marked
mark_none_told told marked was not = ((λ e. let never : ⊥ = cc in absurd never), (λ _ e. let never : ⊥ = cc in absurd never))
