-- No two labels name one thing.
use Rattle.std.proofs.Common.{◌≡◌, ◌<◌, ◌+◌, ◌⊎◌, ℕ, suc, zero, Bool, true, false, cond, arith, sym, refl, subst}
use Rattle.std.proofs.Common.{List, [], ◌∷◌, ◌++◌, length, get_or, ⊎_elim, append-nil, length-append, Result, Ok, Err, Option, Some, None}
use Rattle.std.specs.Prelude.{AllPairs, fold, ◌||◌}
use Rattle.std.proofs.Math.Seq.{get_or-append_seam}
use Rattle.std.proofs.lemmas.List.{get_or_append_left}
use Rattle.lrc_labels.specs.declared.label.Reason.TheVariants.{NameTaken}
use Rattle.std.specs.List.{list_any}
use Rattle.std.specs.Str.{bytes_eq}
use Rattle.std.proofs.lemmas.Bool.Decides.{nat_tests}
use Rattle.std.proofs.lemmas.Slice.Eq.{bytes_eq-Decides}
use Rattle.lrc_labels.specs.declared.label.Target.{Target}
use Rattle.lrc_labels.specs.declared.label.Target.TheVariants.{Word, Words, Lock, Locks}
use Rattle.lrc_labels.specs.declared.label.Reason.{Reason}
use Rattle.lrc_labels.specs.Apart.{AreApart}
use Rattle.lrc_labels.specs.Line.{LabelLine, fields_of, label_line_in}
use Rattle.lrc_labels.specs.Reading.{Label, labels_by, labels_in, labels_of, labels_with, meets, reading_of, taken, unless_taken}
use Rattle.lrc_labels.specs.Show.{names_lock, names_word}

-- targets with a word in common meet, and so do those with a lock in common
word_meets : (one other : Target) (word : ℕ) → names_word one word ≡ true → names_word other word ≡ true → meets one other ≡ true
word_meets (Word a) (Word b) word h k = grind (arith, nat_tests)
word_meets (Word a) (Words c d) word h k = grind (arith, nat_tests)
word_meets (Word a) (Lock l) word h k = absurd (cc)
word_meets (Word a) (Locks l m) word h k = absurd (cc)
word_meets (Words a b) (Word c) word h k = grind (arith, nat_tests)
word_meets (Words a b) (Words c d) word h k = grind (arith, nat_tests)
word_meets (Words a b) (Lock l) word h k = absurd (cc)
word_meets (Words a b) (Locks l m) word h k = absurd (cc)
word_meets (Lock l) other word h k = absurd (cc)
word_meets (Locks l m) other word h k = absurd (cc)

lock_meets : (one other : Target) (lock : ℕ) → names_lock one lock ≡ true → names_lock other lock ≡ true → meets one other ≡ true
lock_meets (Lock a) (Lock b) lock h k = grind (arith, nat_tests)
lock_meets (Lock a) (Locks b c) lock h k = grind (arith, nat_tests)
lock_meets (Lock a) (Word b) lock h k = absurd (cc)
lock_meets (Lock a) (Words b c) lock h k = absurd (cc)
lock_meets (Locks a b) (Lock c) lock h k = grind (arith, nat_tests)
lock_meets (Locks a b) (Locks c d) lock h k = grind (arith, nat_tests)
lock_meets (Locks a b) (Word c) lock h k = absurd (cc)
lock_meets (Locks a b) (Words c d) lock h k = absurd (cc)
lock_meets (Word a) other lock h k = absurd (cc)
lock_meets (Words a b) other lock h k = absurd (cc)

apart : (one other : Label) → meets one.target other.target ≡ false → bytes_eq one.name other.name ≡ false → AreApart one other
apart one other far differ = record {
  words = λ word h k. let e = word_meets one.target other.target word h k in cc;
  locks = λ lock h k. let e = lock_meets one.target other.target lock h k in cc;
  names = λ same. let e = (bytes_eq-Decides one.name other.name).1 same in cc;
}

-- a test that no item passes fails at each
none_passes : {A : Type 0} (test : A → Bool) (items : List A) → list_any test items ≡ false → (i : ℕ) (d : A) → i < length items
    → test (get_or items i d) ≡ false
none_passes test [] h i d lt = absurd (omega arith)
none_passes {A} test (item ∷ others) h i d lt = first (none_passes test others) (test item) refl h i d lt
  where
    first : (list_any test others ≡ false → (i : ℕ) (d : A) → i < length others → test (get_or others i d) ≡ false)
        → (b : Bool) → test item ≡ b → (b || list_any test others) ≡ false → (i : ℕ) (d : A) → i < suc (length others)
        → test (get_or (item ∷ others) i d) ≡ false
    first more true is k i d below = absurd (cc)
    first more false is k zero d below = is
    first more false is k (suc i) d below = more k i d (omega arith)

abbrev AllApart : List Label → Type 0
AllApart = AllPairs AreApart

one_more : (earlier : List Label) (label : Label) → AllApart earlier
    → list_any (λ other. meets other.target label.target) earlier ≡ false → list_any (λ other. bytes_eq other.name label.name) earlier ≡ false
    → AllApart (earlier ++ label ∷ [])
one_more earlier label all far differ i j d below within =
    let many : length (earlier ++ label ∷ []) ≡ length earlier + 1 = length-append earlier (label ∷ []) in
    let at_i : get_or (earlier ++ label ∷ []) i d ≡ get_or earlier i d = get_or_append_left earlier (label ∷ []) d i (omega arith) in
    let places : (j < length earlier) ⊎ (length earlier ≡ j) = grind arith in
    subst (λ (one : Label). AreApart one (get_or (earlier ++ label ∷ []) j d)) (sym at_i)
    (⊎_elim
    (λ (inside : j < length earlier).
    subst (λ (other : Label). AreApart (get_or earlier i d) other) (sym (get_or_append_left earlier (label ∷ []) d j inside)) (all i j d below inside))
    (λ (last : length earlier ≡ j).
    subst (λ (n : ℕ). AreApart (get_or earlier i d) (get_or (earlier ++ label ∷ []) n d)) last
    (subst (λ (other : Label). AreApart (get_or earlier i d) other) (sym (get_or-append_seam earlier label [] d))
    (apart (get_or earlier i d) label
    (none_passes (λ other. meets other.target label.target) earlier far i d (omega arith))
    (none_passes (λ other. bytes_eq other.name label.name) earlier differ i d (omega arith)))))
    places)

said_apart : (earlier : List Label) (reading : Result Label Reason) → AllApart earlier → AllApart (earlier ++ labels_by (unless_taken earlier reading))
said_apart earlier (Err reason) all = subst AllApart (sym (append-nil earlier)) all
said_apart earlier (Ok label) all =
    tested (list_any (λ other. meets other.target label.target) earlier) (list_any (λ other. bytes_eq other.name label.name) earlier) refl refl
  where
    tested : (b c : Bool) → list_any (λ other. meets other.target label.target) earlier ≡ b
        → list_any (λ other. bytes_eq other.name label.name) earlier ≡ c
        → AllApart (earlier ++ labels_by (cond b (Err (taken label.target)) (cond c (Err NameTaken) (Ok label))))
    tested true c h k = subst AllApart (sym (append-nil earlier)) all
    tested false true h k = subst AllApart (sym (append-nil earlier)) all
    tested false false h k = one_more earlier label all h k

line_apart : (words locks : ℕ) (earlier : List Label) (found : Option LabelLine) → AllApart earlier → AllApart (earlier ++ labels_in words locks earlier found)
line_apart words locks earlier None all = subst AllApart (sym (append-nil earlier)) all
line_apart words locks earlier (Some found) all = said_apart earlier (reading_of words locks (fields_of found.body)) all

lines_apart : (words locks : ℕ) (earlier : List Label) (lines : List (List ℕ)) → AllApart earlier → AllApart (fold (labels_with words locks) earlier lines)
lines_apart words locks earlier [] all = all
lines_apart words locks earlier (line ∷ lines) all =
    lines_apart words locks (labels_with words locks earlier line) lines (line_apart words locks earlier (label_line_in line) all)

pub labels_apart : (words locks : ℕ) (lines : List (List ℕ)) → AllApart (labels_of words locks lines)
labels_apart words locks lines = lines_apart words locks [] lines (λ i j d below within. absurd (omega arith))
