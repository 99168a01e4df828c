-- What is printed of acts is read as these acts.
use Rattle.std.proofs.Common.{◌≡◌, ◌∙◌, ◌<◌, ◌≤◌, ◌+◌, ◌==◌, ◌&&◌, ◌||◌, ℕ, Bool, true, false, not, List, [], ◌∷◌, ◌++◌, None, length}
use Rattle.std.proofs.Common.{refl, sym, ap, subst, arith, rules, tests, append_assoc}
use Rattle.std.specs.Prelude.{codes, decimal, filter}
use Rattle.std.specs.List.{before_first, list_all, slice_split}
use Rattle.std.specs.Str.Parse.{AllDigits}
use Rattle.std.proofs.lemmas.Fmt.{decimal_is_IsNumeral}
use Rattle.std.proofs.lemmas.Str.Parse.{tells_digits}
use Rattle.lrc_trace.specs.declared.act.Act.{Act}
use Rattle.lrc_trace.specs.declared.act.Cause.{Cause}
use Rattle.lrc_trace.specs.declared.act.Cause.TheVariants.{DivisionByZero, WordOutOfRange, LockOutOfRange, LockHeld, LockNotHeld}
use Rattle.lrc_trace.specs.declared.act.Deed.{Deed}
use Rattle.lrc_trace.specs.declared.act.Deed.TheVariants.{Quiet, Print, Read, Write, Acquire, Release, Arrive, Depart, Trap, End}
use Rattle.lrc_text.specs.ActText.{act_line, act_text, cause_number, deed_text}
use Rattle.lrc_text.specs.Lines.{lines_of}
use Rattle.lrc_text.proofs.Numbers.{decimal_is_number}
use Rattle.lrc_acts.specs.ActsText.{SayActs, SaysAct, SaysDeed, empty, more, none, is_blank, words_between, words_on}
use Rattle.lrc_acts.proofs.WordLemmas.{is_some_word, some_word, take_one}
use Rattle.lrc_acts.specs.Printed.{IsPrinted, nothing, line_more, IsRanged, IsRangedDeed, IsValue, numbers_from}

-- no byte of the list passes the test
abbrev IsFree : (ℕ → Bool) → List ℕ → Type 0
IsFree p [] = Unit {0}
IsFree p (x ∷ xs) = (p x ≡ false) × IsFree p xs

free_of : (p : ℕ → Bool) (xs : List ℕ) → list_all (λ x. not (p x)) xs ≡ true → IsFree p xs
free_of p [] e = tt
free_of p (x ∷ xs) e = go (p x) refl (free_of p xs) e
  where
    go : (b : Bool) → p x ≡ b → (list_all (λ x. not (p x)) xs ≡ true → IsFree p xs) → (not b && list_all (λ x. not (p x)) xs) ≡ true → IsFree p (x ∷ xs)
    go true q later e = absurd cc
    go false q later e = (q, later e)

free_append : (p : ℕ → Bool) (xs ys : List ℕ) → IsFree p xs → IsFree p ys → IsFree p (xs ++ ys)
free_append p [] ys h k = k
free_append p (x ∷ xs) ys h k = (h.0, free_append p xs ys h.1 k)

free_mono : (p q : ℕ → Bool) → ((b : ℕ) → p b ≡ false → q b ≡ false) → (xs : List ℕ) → IsFree p xs → IsFree q xs
free_mono p q h [] k = tt
free_mono p q h (x ∷ xs) k = (h x k.0, free_mono p q h xs k.1)

first_part : (p : ℕ → Bool) (w : List ℕ) (y : ℕ) (ys : List ℕ) → IsFree p w → p y ≡ true → slice_split p (w ++ y ∷ ys) ≡ w ∷ slice_split p ys
first_part p [] y ys f e = rw e refl
first_part p (x ∷ w) y ys f e = rw f.0 (rw (first_part p w y ys f.1 e) refl)

kept : (p : ℕ → Bool) (w : List ℕ) (y : ℕ) (ys : List ℕ) → IsFree p w → p y ≡ true → before_first p (w ++ y ∷ ys) ≡ w
kept p [] y ys f e = rw e refl
kept p (x ∷ w) y ys f e = rw f.0 (take_one _ x (w ++ y ∷ ys) ∙ ap (λ (r : List ℕ). x ∷ r) (kept p w y ys f.1 e))

word_first : (w rest : List ℕ) → IsFree is_blank w → is_some_word w ≡ true → words_between (w ++ 32 ∷ rest) ≡ w ∷ words_between rest
word_first w rest f k = ap (filter is_some_word) (first_part is_blank w 32 rest f refl) ∙ rw k refl

-- ---- numbers

free_digits : (p : ℕ → Bool) → ((b : ℕ) → 48 ≤ b → b ≤ 57 → p b ≡ false) → (ds : List ℕ) → AllDigits 10 ds → IsFree p ds
free_digits p h [] d = tt
free_digits p h (c ∷ cs) d = let k = tells_digits.parts c cs d in (h c k.0.0 k.0.1, free_digits p h cs k.1)

other : (b c : ℕ) → c < b → (b == c) ≡ false
other b c h = search (rules, tests, h)

digit_no_blank : (b : ℕ) → 48 ≤ b → b ≤ 57 → is_blank b ≡ false
digit_no_blank b l h = rw (other b 32 (omega (arith, l))) (rw (other b 9 (omega (arith, l))) (rw (other b 13 (omega (arith, l))) refl))

-- whether a byte ends a line or begins a comment
abbrev is_sign : ℕ → Bool
is_sign byte = byte == 10 || byte == 35

digit_no_sign : (b : ℕ) → 48 ≤ b → b ≤ 57 → is_sign b ≡ false
digit_no_sign b l h = rw (other b 10 (omega (arith, l))) (rw (other b 35 (omega (arith, l))) refl)

spelled : (n : ℕ) → IsValue n → (0 < length (decimal n)) × AllDigits 10 (decimal n)
spelled n h = (decimal_is_IsNumeral n (omega (arith, h))).0

number_some : (n : ℕ) → IsValue n → is_some_word (decimal n) ≡ true
number_some n h = some_word (decimal n) (spelled n h).0

free_number : (n : ℕ) → IsValue n → IsFree is_blank (decimal n)
free_number n h = free_digits is_blank digit_no_blank (decimal n) (spelled n h).1

signless_number : (n : ℕ) → IsValue n → IsFree is_sign (decimal n)
signless_number n h = free_digits is_sign digit_no_sign (decimal n) (spelled n h).1

-- ---- deeds

-- a space, as bytes
space : codes " " ≡ 32 ∷ []
space = refl

-- a name with a space behind it, and a number
one_number : (name spaced : List ℕ) → spaced ≡ name ++ 32 ∷ [] → IsFree is_blank name → is_some_word name ≡ true → (v : ℕ) → IsValue v
    → words_between ((spaced ++ decimal v) ++ 32 ∷ []) ≡ name ∷ decimal v ∷ []
one_number name spaced e f h v k =
    ap (λ (s : List ℕ). words_between ((s ++ decimal v) ++ 32 ∷ [])) e
    ∙ ap (λ (t : List ℕ). words_between (t ++ 32 ∷ [])) (append_assoc name (32 ∷ []) (decimal v))
    ∙ ap words_between (append_assoc name (32 ∷ decimal v) (32 ∷ []))
    ∙ word_first name (decimal v ++ 32 ∷ []) f h
    ∙ ap (λ (t : List (List ℕ)). name ∷ t) (word_first (decimal v) [] (free_number v k) (number_some v k))

-- a name with a space behind it, and two numbers
two_numbers : (name spaced : List ℕ) → spaced ≡ name ++ 32 ∷ [] → IsFree is_blank name → is_some_word name ≡ true → (v w : ℕ) → IsValue v → IsValue w
    → words_between ((spaced ++ decimal v ++ codes " " ++ decimal w) ++ 32 ∷ []) ≡ name ∷ decimal v ∷ decimal w ∷ []
two_numbers name spaced e f h v w k l =
    let front = name ++ 32 ∷ [] ++ decimal v in
    let behind = 32 ∷ (decimal w ++ 32 ∷ []) in
    ap (λ (s : List ℕ). words_between (s ++ decimal v ++ codes " " ++ decimal w ++ 32 ∷ [])) e
    ∙ ap (λ (s : List ℕ). words_between (front ++ s ++ decimal w ++ 32 ∷ [])) space
    ∙ ap (λ (t : List ℕ). words_between (t ++ 32 ∷ [])) (append_assoc front (32 ∷ []) (decimal w))
    ∙ ap words_between (append_assoc front (32 ∷ decimal w) (32 ∷ []))
    ∙ ap (λ (t : List ℕ). words_between (t ++ behind)) (append_assoc name (32 ∷ []) (decimal v))
    ∙ ap words_between (append_assoc name (32 ∷ decimal v) behind)
    ∙ word_first name (decimal v ++ behind) f h
    ∙ ap (λ (t : List (List ℕ)). name ∷ t) (
    word_first (decimal v) (decimal w ++ 32 ∷ []) (free_number v k) (number_some v k)
    ∙ ap (λ (t : List (List ℕ)). decimal v ∷ t) (word_first (decimal w) [] (free_number w l) (number_some w l))
    )

cause_value : (cause : Cause) → cause_number cause ≤ 5
cause_value DivisionByZero = omega arith
cause_value WordOutOfRange = omega arith
cause_value LockOutOfRange = omega arith
cause_value LockHeld = omega arith
cause_value LockNotHeld = omega arith

deed_said : (deed : Deed) → IsRangedDeed deed → SaysDeed (words_between (deed_text deed ++ 32 ∷ [])) deed
deed_said Quiet h = word_first (codes "quiet") [] (free_of is_blank (codes "quiet") refl) refl
deed_said (Print v) h = record {
  digits = decimal v;
  whole = one_number (codes "print") (codes "print ") refl (free_of is_blank (codes "print") refl) refl v h;
  says = decimal_is_number v 18446744073709551615 h (omega arith);
}
deed_said (Read w v) h = record {
  word_digits = decimal w;
  value_digits = decimal v;
  whole = two_numbers (codes "read") (codes "read ") refl (free_of is_blank (codes "read") refl) refl w v (omega (arith, h.0)) h.1;
  says_word = decimal_is_number w 4294967295 h.0 (omega arith);
  says_value = decimal_is_number v 18446744073709551615 h.1 (omega arith);
}
deed_said (Write w v) h = record {
  word_digits = decimal w;
  value_digits = decimal v;
  whole = two_numbers (codes "write") (codes "write ") refl (free_of is_blank (codes "write") refl) refl w v (omega (arith, h.0)) h.1;
  says_word = decimal_is_number w 4294967295 h.0 (omega arith);
  says_value = decimal_is_number v 18446744073709551615 h.1 (omega arith);
}
deed_said (Acquire l) h = record {
  digits = decimal l;
  whole = one_number (codes "acquire") (codes "acquire ") refl (free_of is_blank (codes "acquire") refl) refl l (omega (arith, h));
  says = decimal_is_number l 255 h (omega arith);
}
deed_said (Release l) h = record {
  digits = decimal l;
  whole = one_number (codes "release") (codes "release ") refl (free_of is_blank (codes "release") refl) refl l (omega (arith, h));
  says = decimal_is_number l 255 h (omega arith);
}
deed_said Arrive h = word_first (codes "arrive") [] (free_of is_blank (codes "arrive") refl) refl
deed_said Depart h = word_first (codes "depart") [] (free_of is_blank (codes "depart") refl) refl
deed_said (Trap cause) h = record {
  digits = decimal (cause_number cause);
  whole = one_number (codes "trap") (codes "trap ") refl (free_of is_blank (codes "trap") refl) refl (cause_number cause) (omega (arith, cause_value cause));
  says = decimal_is_number (cause_number cause) 5 (cause_value cause) (omega arith);
}
deed_said End h = word_first (codes "end") [] (free_of is_blank (codes "end") refl) refl

-- a name, and two numbers
two_signless : (name : List ℕ) → IsFree is_sign name → (v w : ℕ) → IsValue v → IsValue w → IsFree is_sign (name ++ decimal v ++ codes " " ++ decimal w)
two_signless name f v w k l =
    free_append is_sign (name ++ decimal v ++ codes " ") (decimal w)
    (free_append is_sign (name ++ decimal v) (codes " ") (free_append is_sign name (decimal v) f (signless_number v k)) (free_of is_sign (codes " ") refl))
    (signless_number w l)

deed_signless : (deed : Deed) → IsRangedDeed deed → IsFree is_sign (deed_text deed)
deed_signless Quiet h = free_of is_sign (codes "quiet") refl
deed_signless (Print v) h = free_append is_sign (codes "print ") (decimal v) (free_of is_sign (codes "print ") refl) (signless_number v h)
deed_signless (Read w v) h = two_signless (codes "read ") (free_of is_sign (codes "read ") refl) w v (omega (arith, h.0)) h.1
deed_signless (Write w v) h = two_signless (codes "write ") (free_of is_sign (codes "write ") refl) w v (omega (arith, h.0)) h.1
deed_signless (Acquire l) h = free_append is_sign (codes "acquire ") (decimal l) (free_of is_sign (codes "acquire ") refl)
    (signless_number l (omega (arith, h)))
deed_signless (Release l) h = free_append is_sign (codes "release ") (decimal l) (free_of is_sign (codes "release ") refl)
    (signless_number l (omega (arith, h)))
deed_signless Arrive h = free_of is_sign (codes "arrive") refl
deed_signless Depart h = free_of is_sign (codes "depart") refl
deed_signless (Trap cause) h = free_append is_sign (codes "trap ") (decimal (cause_number cause)) (free_of is_sign (codes "trap ") refl)
    (signless_number (cause_number cause) (omega (arith, cause_value cause)))
deed_signless End h = free_of is_sign (codes "end") refl

-- ---- acts

act_signless : (act : Act) → IsRanged act → IsFree is_sign (act_text act)
act_signless act h =
    free_append is_sign (decimal act.node ++ codes " ") (deed_text act.deed)
    (free_append is_sign (decimal act.node) (codes " ") (signless_number act.node (omega (arith, h.node))) (free_of is_sign (codes " ") refl))
    (deed_signless act.deed h.deed)

no_feed : (b : ℕ) → is_sign b ≡ false → (b == 10) ≡ false
no_feed b e = go (b == 10) e
  where
    go : (x : Bool) → (x || b == 35) ≡ false → x ≡ false
    go true e = absurd cc
    go false e = refl

no_comment : (b : ℕ) → is_sign b ≡ false → (b == 35) ≡ false
no_comment b e = go (b == 10) e
  where
    go : (x : Bool) → (x || b == 35) ≡ false → (b == 35) ≡ false
    go true e = absurd cc
    go false e = e

-- the line of an act without its line feed
abbrev line_body : Act → ℕ → List ℕ
line_body act line = act_text act ++ codes " # line " ++ decimal line

-- what stands between an act and its line
abbrev after_sign : List ℕ
after_sign = 32 ∷ 108 ∷ 105 ∷ 110 ∷ 101 ∷ 32 ∷ []

between : codes " # line " ≡ 32 ∷ 35 ∷ after_sign
between = refl

words_said : (act : Act) (line : ℕ) → IsRanged act → words_on (line_body act line) ≡ decimal act.node ∷ words_between (deed_text act.deed ++ 32 ∷ [])
words_said act line h =
    let front = act_text act ++ 32 ∷ [] in
    let rest = after_sign ++ decimal line in
    let whole : line_body act line ≡ front ++ 35 ∷ rest = ap (λ (s : List ℕ). act_text act ++ s ++ decimal line) between
    ∙ append_assoc (act_text act) (32 ∷ 35 ∷ after_sign) (decimal line)
    ∙ sym (append_assoc (act_text act) (32 ∷ []) (35 ∷ rest)) in
    let signless = free_append is_sign (act_text act) (32 ∷ []) (act_signless act h) (free_of is_sign (32 ∷ []) refl) in
    let uncommented = kept (λ byte. byte == 35) front 35 rest (free_mono is_sign (λ byte. byte == 35) no_comment front signless) refl in
    ap words_on whole ∙ ap words_between uncommented
    ∙ ap (λ (s : List ℕ). words_between (decimal act.node ++ s ++ deed_text act.deed ++ 32 ∷ [])) space
    ∙ ap (λ (t : List ℕ). words_between (t ++ 32 ∷ [])) (append_assoc (decimal act.node) (32 ∷ []) (deed_text act.deed))
    ∙ ap words_between (append_assoc (decimal act.node) (32 ∷ deed_text act.deed) (32 ∷ []))
    ∙ word_first (decimal act.node) (deed_text act.deed ++ 32 ∷ []) (free_number act.node (omega (arith, h.node)))
    (number_some act.node (omega (arith, h.node)))

act_said : (act : Act) (line : ℕ) → IsRanged act → SaysAct None (words_on (line_body act line)) act
act_said act line h = record {
  digits = decimal act.node;
  rest = words_between (deed_text act.deed ++ 32 ∷ []);
  whole = words_said act line h;
  node = decimal_is_number act.node 15 h.node (omega arith);
  among = tt;
  deed = deed_said act.deed h.deed;
}

-- the first line of a text that begins with the line of an act
first_line : (act : Act) (line : ℕ) (text : List ℕ) → IsRanged act → IsValue line
    → lines_of (act_line act line ++ text) ≡ line_body act line ∷ lines_of text
first_line act line text h k =
    let body = line_body act line in
    let feed : codes "\n" ≡ 10 ∷ [] = refl in
    let front_free = free_of (λ byte. byte == 10) (codes " # line ") refl in
    let free = free_append (λ byte. byte == 10) (act_text act ++ codes " # line ") (decimal line)
    (free_append (λ byte. byte == 10) (act_text act) (codes " # line ")
    (free_mono is_sign (λ byte. byte == 10) no_feed (act_text act) (act_signless act h)) front_free)
    (free_mono is_sign (λ byte. byte == 10) no_feed (decimal line) (signless_number line k)) in
    ap (λ (n : List ℕ). lines_of (body ++ n ++ text)) feed
    ∙ ap lines_of (append_assoc body (10 ∷ []) text)
    ∙ first_part (λ byte. byte == 10) body 10 text free refl

with_line : (start : ℕ) (act : Act) (line : ℕ) (acts : List Act) (text : List ℕ) → IsValue line → IsRanged act
    → SayActs None (start + 1) (lines_of text) acts (numbers_from (start + 1) acts)
    → SayActs None start (lines_of (act_line act line ++ text)) (act ∷ acts) (numbers_from start (act ∷ acts))
with_line start act line acts text k h rest =
    subst (λ (lines : List (List ℕ)). SayActs None start lines (act ∷ acts) (start ∷ numbers_from (start + 1) acts))
    (sym (first_line act line text h k))
    (more (act_said act line h) rest)

pub printed_from : (start : ℕ) {acts : List Act} {text : List ℕ} → IsPrinted acts text → SayActs None start (lines_of text) acts (numbers_from start acts)
printed_from start nothing = empty refl none
printed_from start (line_more act line k h rest) = with_line start act line _ _ k h (printed_from (start + 1) rest)
