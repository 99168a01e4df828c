-- What the label line of an item says.
use Rattle.std.proofs.Common.{◌≡◌, ◌∙◌, ℕ, zero, suc, ◌+◌, ◌-◌, ◌*◌, ◌%◌, ◌<◌, ◌≤◌, ◌^◌, Bool, true, false, cond, not, ◌||◌, ◌==◌, List, [], ◌∷◌, ◌++◌, length, map, refl, sym, ap, arith}
use Rattle.std.proofs.Common.{append_assoc, append-nil, le-leb, lt-ltb, leb-true, eq-eqb}
use Rattle.std.specs.Prelude.{codes, decimal, Ok, Err, Some, Result}
use Rattle.std.specs.List.{AllByRecursion, list_all}
use Rattle.std.specs.Cmp.Derive.{both_true}
use Rattle.std.specs.Str.Parse.{digits_value}
use Rattle.std.proofs.lemmas.Bool.{and_parts}
use Rattle.std.proofs.lemmas.Fmt.{decimal_is_IsNumeral}
use Rattle.std.proofs.lemmas.List.Folds.{list_all-append}
use Rattle.std.proofs.lemmas.Nat.{mod-mul-add}
use Rattle.lrc_labels.specs.declared.cut.Divider.TheVariants.{Blank, LineFeed}
use Rattle.lrc_labels.specs.declared.label.Reason.TheVariants.{AnotherForm, NoSuchLock, NoSuchWord}
use Rattle.lrc_labels.specs.declared.label.Reason.{Reason}
use Rattle.lrc_labels.specs.declared.label.Target.TheVariants.{Word, Words, Lock, Locks}
use Rattle.lrc_labels.specs.Cut.{cut, divides}
use Rattle.lrc_labels.specs.Line.{LabelLine, has_bytes, fields_of, label_line_in}
use Rattle.lrc_labels.specs.Name.{is_name, is_numeral}
use Rattle.lrc_labels.specs.Reading.{Label, reading_of, several_label, single_label}
use Rattle.lrc_labels.specs.Sizes.{fills, is_size, product, sizes_of}
use Rattle.lrc_labels.proofs.Names.{numeral_is}
use Rattle.lrc_labels.proofs.Words.{name_is}
use Rattle.lrc_named_names.specs.Elements.{elements}
use Rattle.lrc_named_text.specs.Labels.{item_text, sizes_text}
use Rattle.lrc_named_label_laws.specs.Labels.{label_of_locks, label_of_words}
use Rattle.lrc_named_label_laws.proofs.Shape.{AreSizes}
use Rattle.lrc_named_label_laws.proofs.Cutting.{IsField, Whole, commented, cut_piece, fields_joined, joined}
use Rattle.lrc_named_label_laws.proofs.Quiet.{High, decimal_high, differs, high_such, is_high, word_high}

-- ---- fields

no_blank : (byte : ℕ) → 48 ≤ byte → not (divides Blank byte) ≡ true
no_blank byte high = by (byte == 32) (byte == 9) (byte == 13) (differs byte 32 (omega arith) high) (differs byte 9 (omega arith) high) (differs byte 13 (omega arith) high)
  where
    by : (a b c : Bool) → not a ≡ true → not b ≡ true → not c ≡ true → not (a || b || c) ≡ true
    by false false false p q r = refl
    by true b c p q r = p
    by false true c p q r = q
    by false false true p q r = r

field : (text : List ℕ) → High text → has_bytes text ≡ true → IsField text
field text high some = record { whole = high_such (λ b. not (divides Blank b)) no_blank text high; some = some }

some_bytes : (text : List ℕ) → 0 < length text → has_bytes text ≡ true
some_bytes [] h = absurd (omega (arith, h))
some_bytes (b ∷ text) h = refl

pub number_field : (n : ℕ) → n < 2 ^ 64 → IsField (decimal n)
number_field n small = field (decimal n) (decimal_high n) (some_bytes (decimal n) (decimal_is_IsNumeral n small).0.0)

name_some : (name : List ℕ) → is_name name ≡ true → has_bytes name ≡ true
name_some [] is = absurd (cc)
name_some (b ∷ name) is = refl

pub name_high : (name : List ℕ) → is_name name ≡ true → High name
name_high name is = word_high name (name_is name is).0.span.each

pub name_field : (name : List ℕ) → is_name name ≡ true → IsField name
name_field name is = field name (name_high name is) (name_some name is)

-- ---- lines without line feeds

no_feed : (byte : ℕ) → 48 ≤ byte → not (divides LineFeed byte) ≡ true
no_feed byte high = differs byte 10 (omega arith) high

feed_joined : (piece : List ℕ) (others : List (List ℕ)) → High piece → AllByRecursion High others → Whole (divides LineFeed) (joined piece others)
feed_joined piece [] high all = high_such (λ b. not (divides LineFeed b)) no_feed piece high
feed_joined piece (other ∷ others) high all = behind piece (joined other others) high (feed_joined other others all.0 all.1)
  where
    behind : (front text : List ℕ) → High front → Whole (divides LineFeed) text → Whole (divides LineFeed) (front ++ 32 ∷ text)
    behind [] text h k = k
    behind (b ∷ front) text h k =
        let parts = and_parts (is_high b) (list_all is_high front) h in
        both_true (no_feed b (leb-true 48 b parts.0)) (behind front text parts.1 k)

-- ---- numbers and sizes

pub numeral : (n : ℕ) → n < 2 ^ 64 → is_numeral (decimal n) ≡ true
numeral n small = numeral_is (decimal n) (decimal_is_IsNumeral n small).0

pub value : (n : ℕ) → n < 2 ^ 64 → digits_value 10 (decimal n) ≡ n
value n small = (decimal_is_IsNumeral n small).1

sizes_are : (sizes : List ℕ) → AreSizes sizes → list_all is_size (map decimal sizes) ≡ true
sizes_are [] all = refl
sizes_are (size ∷ sizes) all =
    let small : size < 2 ^ 64 = omega (arith, all.0.1) in
    let number = value size small in
    both_true
    (both_true (numeral size small)
    (both_true (le-leb 1 (digits_value 10 (decimal size)) (omega (arith, number, all.0.0))) (le-leb (digits_value 10 (decimal size)) 65536 (omega (arith, number, all.0.1)))))
    (sizes_are sizes all.1)

sizes_back : (sizes : List ℕ) → AreSizes sizes → sizes_of (map decimal sizes) ≡ sizes
sizes_back [] all = refl
sizes_back (size ∷ sizes) all =
    let small : size < 2 ^ 64 = omega (arith, all.0.1) in
    ap (λ n. n ∷ sizes_of (map decimal sizes)) (value size small) ∙ ap (λ l. size ∷ l) (sizes_back sizes all.1)

sizes_high : (sizes : List ℕ) → AllByRecursion High (map decimal sizes)
sizes_high [] = tt
sizes_high (size ∷ sizes) = (decimal_high size, sizes_high sizes)

sizes_fields : (sizes : List ℕ) → AreSizes sizes → AllByRecursion IsField (map decimal sizes)
sizes_fields [] all = tt
sizes_fields (size ∷ sizes) all = (number_field size (omega (arith, all.0.1)), sizes_fields sizes all.1)

pub sizes_joined : (piece : List ℕ) (sizes : List ℕ) → joined piece (map decimal sizes) ≡ piece ++ sizes_text sizes
sizes_joined piece [] = sym (append-nil piece)
sizes_joined piece (size ∷ sizes) = ap (λ l. piece ++ 32 ∷ l) (sizes_joined (decimal size) sizes)

product_is : (sizes : List ℕ) → product sizes ≡ elements sizes
product_is [] = refl
product_is (size ∷ sizes) = ap (λ n. size * n) (product_is sizes)

pub elements_some : (sizes : List ℕ) → AreSizes sizes → 1 ≤ elements sizes
elements_some [] all = omega arith
elements_some (zero ∷ sizes) all = absurd (omega (arith, all.0.0))
elements_some (suc size ∷ sizes) all = let more = elements_some sizes all.1 in omega (arith, more)

whole_rows : (size many : ℕ) → 1 ≤ many → size * many % many ≡ 0
whole_rows size many some =
    let all : size * many ≡ size * many + 0 = omega arith in
    ap (λ n. n % many) all ∙ mod-mul-add size many 0 (omega (arith, some))

pub filled : (first size : ℕ) (sizes : List ℕ) → AreSizes (size ∷ sizes)
    → fills (first + (elements (size ∷ sizes) - 1) + 1 - first) sizes ≡ true
filled first size sizes all =
    let some = elements_some (size ∷ sizes) all in
    let count : first + (elements (size ∷ sizes) - 1) + 1 - first ≡ size * elements sizes = omega (arith, some) in
    ap (λ n. n % product sizes == 0) count ∙ ap (λ n. size * elements sizes % n == 0) (product_is sizes)
    ∙ eq-eqb (size * elements sizes % elements sizes) 0 (whole_rows size (elements sizes) (elements_some sizes all.1))

-- ---- readings

module _ (words locks : ℕ) (small_words : words < 2 ^ 64) (small_locks : locks < 2 ^ 64) (name : List ℕ) (named : is_name name ≡ true) where
  -- `KIND W NAME`
  single_read : (kind : List ℕ) (first : ℕ) → first < 2 ^ 64
      → reading_of words locks (kind ∷ decimal first ∷ name ∷ []) ≡ single_label words locks kind first name
  single_read kind first small =
      ap (λ b. cond b (single_label words locks kind (digits_value 10 (decimal first)) name) (Err AnotherForm)) (both_true (numeral first small) named)
      ∙ ap (λ n. single_label words locks kind n name) (value first small)

  -- `KIND W V NAME ..`
  several_read : (kind : List ℕ) (first last : ℕ) (sizes : List ℕ) → first < 2 ^ 64 → last < 2 ^ 64 → AreSizes sizes
      → reading_of words locks (kind ∷ decimal first ∷ decimal last ∷ name ∷ map decimal sizes) ≡ several_label words locks kind first last name sizes
  several_read kind first last sizes small below all =
      ap (λ b. cond b
      (several_label words locks kind (digits_value 10 (decimal first)) (digits_value 10 (decimal last)) name (sizes_of (map decimal sizes)))
      (Err AnotherForm))
      (both_true (numeral first small) (both_true (numeral last below) (both_true named (sizes_are sizes all))))
      ∙ ap (λ n. several_label words locks kind n (digits_value 10 (decimal last)) name (sizes_of (map decimal sizes))) (value first small)
      ∙ ap (λ n. several_label words locks kind first n name (sizes_of (map decimal sizes))) (value last below)
      ∙ ap (several_label words locks kind first last name) (sizes_back sizes all)

  pub word_read : (first : ℕ) → first < words → reading_of words locks (codes "word" ∷ decimal first ∷ name ∷ []) ≡ Ok (label_of_words name first [])
  word_read first below =
      single_read (codes "word") first (omega (arith, below, small_words))
      ∙ ap (λ b. cond b (Ok (record { target = Word first; name = name; sizes = [] })) (Err NoSuchWord)) (lt-ltb first words below)

  pub lock_read : (first : ℕ) → first < locks → reading_of words locks (codes "lock" ∷ decimal first ∷ name ∷ []) ≡ Ok (label_of_locks name first [])
  lock_read first below =
      single_read (codes "lock") first (omega (arith, below, small_locks))
      ∙ ap (λ b. cond b (Ok (record { target = Lock first; name = name; sizes = [] })) (Err NoSuchLock)) (lt-ltb first locks below)

  pub words_read : (first size : ℕ) (sizes : List ℕ) → AreSizes (size ∷ sizes) → first + elements (size ∷ sizes) ≤ words
      → reading_of words locks (codes "words" ∷ decimal first ∷ decimal (first + (elements (size ∷ sizes) - 1)) ∷ name ∷ map decimal sizes)
      ≡ Ok (label_of_words name first (size ∷ sizes))
  words_read first size sizes all below =
      let some = elements_some (size ∷ sizes) all in
      let last = first + (elements (size ∷ sizes) - 1) in
      let within : last < words = omega (arith, below, some) in
      let rising : first ≤ last = omega (arith, some) in
      let found : Result Label Reason = Ok (record { target = Words first last; name = name; sizes = sizes }) in
      several_read (codes "words") first last sizes (omega (arith, rising, within, small_words)) (omega (arith, within, small_words)) all.1
      ∙ ap (λ b. cond b (cond (fills (last + 1 - first) sizes) found (Err AnotherForm)) (Err NoSuchWord)) (both_true (lt-ltb last words within) (le-leb first last rising))
      ∙ ap (λ b. cond b found (Err AnotherForm)) (filled first size sizes all)

  pub locks_read : (first size : ℕ) (sizes : List ℕ) → AreSizes (size ∷ sizes) → first + elements (size ∷ sizes) ≤ locks
      → reading_of words locks (codes "locks" ∷ decimal first ∷ decimal (first + (elements (size ∷ sizes) - 1)) ∷ name ∷ map decimal sizes)
      ≡ Ok (label_of_locks name first (size ∷ sizes))
  locks_read first size sizes all below =
      let some = elements_some (size ∷ sizes) all in
      let last = first + (elements (size ∷ sizes) - 1) in
      let within : last < locks = omega (arith, below, some) in
      let rising : first ≤ last = omega (arith, some) in
      let found : Result Label Reason = Ok (record { target = Locks first last; name = name; sizes = sizes }) in
      several_read (codes "locks") first last sizes (omega (arith, rising, within, small_locks)) (omega (arith, within, small_locks)) all.1
      ∙ ap (λ b. cond b (cond (fills (last + 1 - first) sizes) found (Err AnotherForm)) (Err NoSuchLock)) (both_true (lt-ltb last locks within) (le-leb first last rising))
      ∙ ap (λ b. cond b found (Err AnotherForm)) (filled first size sizes all)

-- ---- lines

-- a label line with these fields
abbrev pub label_line : List ℕ → List (List ℕ) → List ℕ
label_line kind others = codes "#: " ++ joined kind others

pub label_line_is : (kind : List ℕ) (others : List (List ℕ))
    → label_line_in (label_line kind others) ≡ Some (record { column = 1; body = 32 ∷ joined kind others })
label_line_is kind others = commented [] (58 ∷ 32 ∷ joined kind others) refl

pub label_line_cut : (kind : List ℕ) (others : List (List ℕ)) (rest : List ℕ) → High kind → AllByRecursion High others
    → cut (divides LineFeed) (label_line kind others ++ 10 ∷ rest) ≡ label_line kind others ∷ cut (divides LineFeed) rest
label_line_cut kind others rest high all =
    cut_piece (divides LineFeed) (label_line kind others) 10 rest (feed_joined kind others high all) refl

-- the fields of a label
abbrev pub single_fields : ℕ → List ℕ → List (List ℕ)
single_fields first name = decimal first ∷ name ∷ []

abbrev pub several_fields : ℕ → ℕ → List ℕ → List ℕ → List (List ℕ)
several_fields first last name sizes = decimal first ∷ decimal last ∷ name ∷ map decimal sizes

-- the text of an item is such a line
single_tail : (d name rest : List ℕ) → codes " " ++ d ++ codes " " ++ name ++ codes "\n" ++ rest ≡ 32 ∷ (d ++ 32 ∷ (name ++ 10 ∷ rest))
single_tail d name rest =
    append_assoc (codes " " ++ d ++ codes " " ++ name) (codes "\n") rest ∙ append_assoc (codes " " ++ d ++ codes " ") name (10 ∷ rest)
    ∙ append_assoc (codes " " ++ d) (codes " ") (name ++ 10 ∷ rest)

single_text : (k : List ℕ) (first : ℕ) (name rest : List ℕ)
    → item_text (codes "#: " ++ k) name first [] ++ rest ≡ label_line k (single_fields first name) ++ 10 ∷ rest
single_text k first name rest =
    let d = decimal first in
    append_assoc (codes "#: " ++ k) (codes " " ++ d ++ codes " " ++ name ++ codes "\n") rest
    ∙ ap (λ l. codes "#: " ++ k ++ l) (single_tail d name rest)
    ∙ sym (ap (λ l. codes "#: " ++ l)
    (append_assoc k (32 ∷ (d ++ 32 ∷ name)) (10 ∷ rest) ∙ ap (λ l. k ++ 32 ∷ l) (append_assoc d (32 ∷ name) (10 ∷ rest))))

several_tail : (d e name s rest : List ℕ)
    → codes "s " ++ d ++ codes " " ++ e ++ (codes " " ++ name) ++ s ++ codes "\n" ++ rest ≡ codes "s " ++ (d ++ 32 ∷ (e ++ 32 ∷ (name ++ (s ++ 10 ∷ rest))))
several_tail d e name s rest =
    let ends = codes "s " ++ d ++ codes " " ++ e in
    append_assoc (ends ++ (codes " " ++ name) ++ s) (codes "\n") rest ∙ append_assoc (ends ++ (codes " " ++ name)) s (10 ∷ rest)
    ∙ append_assoc ends (codes " " ++ name) (s ++ 10 ∷ rest)
    ∙ append_assoc (codes "s " ++ d ++ codes " ") e (32 ∷ (name ++ (s ++ 10 ∷ rest)))
    ∙ append_assoc (codes "s " ++ d) (codes " ") (e ++ 32 ∷ (name ++ (s ++ 10 ∷ rest)))

several_joined : (k : List ℕ) (first last : ℕ) (sizes name rest : List ℕ)
    → joined (k ++ codes "s") (several_fields first last name sizes) ++ 10 ∷ rest
    ≡ k ++ (codes "s " ++ (decimal first ++ 32 ∷ (decimal last ++ 32 ∷ (name ++ (sizes_text sizes ++ 10 ∷ rest)))))
several_joined k first last sizes name rest =
    let d = decimal first in
    let e = decimal last in
    let s = sizes_text sizes in
    ap (λ l. k ++ codes "s" ++ 32 ∷ (d ++ 32 ∷ (e ++ 32 ∷ l)) ++ 10 ∷ rest) (sizes_joined name sizes)
    ∙ append_assoc (k ++ codes "s") (32 ∷ (d ++ 32 ∷ (e ++ 32 ∷ (name ++ s)))) (10 ∷ rest)
    ∙ append_assoc k (codes "s") (32 ∷ (d ++ 32 ∷ (e ++ 32 ∷ (name ++ s)) ++ 10 ∷ rest))
    ∙ ap (λ l. k ++ (codes "s " ++ l))
    (append_assoc d (32 ∷ (e ++ 32 ∷ (name ++ s))) (10 ∷ rest)
    ∙ ap (λ l. d ++ 32 ∷ l) (append_assoc e (32 ∷ (name ++ s)) (10 ∷ rest) ∙ ap (λ l. e ++ 32 ∷ l) (append_assoc name s (10 ∷ rest))))

several_text : (k : List ℕ) (first size : ℕ) (sizes name rest : List ℕ)
    → item_text (codes "#: " ++ k) name first (size ∷ sizes) ++ rest
    ≡ label_line (k ++ codes "s") (several_fields first (first + (elements (size ∷ sizes) - 1)) name sizes) ++ 10 ∷ rest
several_text k first size sizes name rest =
    let last = first + (elements (size ∷ sizes) - 1) in
    let d = decimal first in
    let e = decimal last in
    let s = sizes_text sizes in
    append_assoc (codes "#: " ++ k) (codes "s " ++ d ++ codes " " ++ e ++ (codes " " ++ name) ++ s ++ codes "\n") rest
    ∙ ap (λ l. codes "#: " ++ k ++ l) (several_tail d e name s rest)
    ∙ sym (ap (λ l. codes "#: " ++ l) (several_joined k first last sizes name rest))

-- the line of an item, and its label
abbrev pub item_line : List ℕ → List ℕ → (first : ℕ) → (sizes : List ℕ) → List ℕ
item_line k name first [] = label_line k (single_fields first name)
item_line k name first (size ∷ sizes) = label_line (k ++ codes "s") (several_fields first (first + (elements (size ∷ sizes) - 1)) name sizes)

pub item_cut : (k name : List ℕ) (first : ℕ) (sizes rest : List ℕ) → High k → is_name name ≡ true
    → cut (divides LineFeed) (item_text (codes "#: " ++ k) name first sizes ++ rest) ≡ item_line k name first sizes ∷ cut (divides LineFeed) rest
item_cut k name first [] rest high named =
    ap (cut (divides LineFeed)) (single_text k first name rest)
    ∙ label_line_cut k (single_fields first name) rest high (decimal_high first, (name_high name named, tt))
item_cut k name first (size ∷ sizes) rest high named =
    let last = first + (elements (size ∷ sizes) - 1) in
    ap (cut (divides LineFeed)) (several_text k first size sizes name rest)
    ∙ label_line_cut (k ++ codes "s") (several_fields first last name sizes) rest (list_all-append is_high k (codes "s") ∙ both_true high refl)
    (decimal_high first, (decimal_high last, (name_high name named, sizes_high sizes)))

-- ---- what it says

pub record Says (words locks : ℕ) (line : List ℕ) (label : Label) : Type 0 where
  pub found : LabelLine
  pub stands : label_line_in line ≡ Some found
  pub reads : reading_of words locks (fields_of found.body) ≡ Ok label

says : (words locks : ℕ) (kind : List ℕ) (others : List (List ℕ)) (label : Label) → IsField kind → AllByRecursion IsField others
    → reading_of words locks (kind ∷ others) ≡ Ok label → Says words locks (label_line kind others) label
says words locks kind others label is all read = record {
  found = record { column = 1; body = 32 ∷ joined kind others };
  stands = label_line_is kind others;
  reads = ap (reading_of words locks) (fields_joined kind others is all) ∙ read;
}

last_below : (first many limit : ℕ) → 1 ≤ many → first + many ≤ limit → limit < 2 ^ 64 → first + (many - 1) < 2 ^ 64
last_below first many limit some within small = omega (arith, some, within, small)

module _ (words locks : ℕ) (small_words : words < 2 ^ 64) (small_locks : locks < 2 ^ 64) (name : List ℕ) (named : is_name name ≡ true) (first : ℕ) where
  pub word_says : (sizes : List ℕ) → AreSizes sizes → first + elements sizes ≤ words
      → Says words locks (item_line (codes "word") name first sizes) (label_of_words name first sizes)
  word_says [] all within =
      says words locks (codes "word") (single_fields first name) (label_of_words name first []) (record { whole = refl; some = refl })
      (number_field first (omega (arith, within, small_words)), (name_field name named, tt)) (word_read words locks small_words small_locks name named first (omega (arith, within)))
  word_says (size ∷ sizes) all within =
      let some = elements_some (size ∷ sizes) all in
      let last = first + (elements (size ∷ sizes) - 1) in
      says words locks (codes "words") (several_fields first last name sizes) (label_of_words name first (size ∷ sizes)) (record { whole = refl; some = refl })
      (number_field first (omega (arith, within, small_words)), (number_field last (last_below first (elements (size ∷ sizes)) words some within small_words), (name_field name named, sizes_fields sizes all.1)))
      (words_read words locks small_words small_locks name named first size sizes all within)

  pub lock_says : (sizes : List ℕ) → AreSizes sizes → first + elements sizes ≤ locks
      → Says words locks (item_line (codes "lock") name first sizes) (label_of_locks name first sizes)
  lock_says [] all within =
      says words locks (codes "lock") (single_fields first name) (label_of_locks name first []) (record { whole = refl; some = refl })
      (number_field first (omega (arith, within, small_locks)), (name_field name named, tt)) (lock_read words locks small_words small_locks name named first (omega (arith, within)))
  lock_says (size ∷ sizes) all within =
      let some = elements_some (size ∷ sizes) all in
      let last = first + (elements (size ∷ sizes) - 1) in
      says words locks (codes "locks") (several_fields first last name sizes) (label_of_locks name first (size ∷ sizes)) (record { whole = refl; some = refl })
      (number_field first (omega (arith, within, small_locks)), (number_field last (last_below first (elements (size ∷ sizes)) locks some within small_locks), (name_field name named, sizes_fields sizes all.1)))
      (locks_read words locks small_words small_locks name named first size sizes all within)
