-- The labels of the text of a core.
use Rattle.std.proofs.Common.{◌≡◌, ◌≢◌, ◌∙◌, ℕ, ◌+◌, ◌-◌, ◌<◌, ◌≤◌, ◌^◌, Bool, true, false, List, [], ◌∷◌, ◌++◌, refl, sym, ap, subst, arith, append_assoc, append-nil, leb-true}
use Rattle.std.specs.Prelude.{codes, decimal, nat_le}
use Rattle.std.specs.List.{AllByRecursion, flat_map, list_any}
use Rattle.std.specs.Str.{bytes_eq}
use Rattle.std.proofs.lemmas.Bool.{false_from_ne_true, and_right, or_from}
use Rattle.std.proofs.lemmas.Slice.Eq.{bytes_eq-Decides}
use Rattle.lrc_labels.specs.declared.cut.Divider.TheVariants.{LineFeed}
use Rattle.lrc_labels.specs.declared.label.Target.{Target}
use Rattle.lrc_labels.specs.declared.label.Target.TheVariants.{Word, Words, Lock, Locks}
use Rattle.lrc_labels.specs.Cut.{cut, divides}
use Rattle.lrc_labels.specs.Name.{is_name}
use Rattle.lrc_labels.specs.Reading.{Label, idle_of, labels_of, meets}
use Rattle.lrc_named_core.specs.Tree.{Block}
use Rattle.lrc_named_names.specs.Elements.{elements}
use Rattle.lrc_named_names.specs.Names.{Declared, Meaning, constant, function, lock, shared}
use Rattle.lrc_named_text.specs.Labels.{label_text, labels_text}
use Rattle.lrc_named_text.specs.Statements.{block_text, core_text}
use Rattle.lrc_named_label_laws.specs.Labels.{label_of_locks, label_of_words, labels_as, labels_declared}
use Rattle.lrc_named_label_laws.proofs.Shape.{AreDifferent, AreLaidOut, ArePlain, AreSizes, BeginsAt, LieBelow, lock_behind, word_behind}
use Rattle.lrc_named_label_laws.proofs.Collecting.{Reads, all_read, reads_label, reads_none, reads_silent}
use Rattle.lrc_named_label_laws.proofs.Items.{elements_some, item_cut, item_line, lock_says, word_says}
use Rattle.lrc_named_label_laws.proofs.Lines.{Unlabelled, block_lines, quiet_line}
use Rattle.lrc_named_label_laws.proofs.Quiet.{decimal_quiet, quiet_both}

-- ---- which words and locks are named so far

abbrev IsBelow : (word key : ℕ) → Target → Type 0
IsBelow word key (Word w) = w < word
IsBelow word key (Words first last) = last < word
IsBelow word key (Lock k) = k < key
IsBelow word key (Locks first last) = last < key

-- each of these labels names words below this one, or locks below this one, and has another name than all of these
record AreEarlier (word key : ℕ) (declared : List Declared) (label : Label) : Type 0 where
  below : IsBelow word key label.target
  others : AllByRecursion (λ (d : Declared). label.name ≢ d.name) declared

abbrev Earlier : (word key : ℕ) → List Declared → List Label → Type 0
Earlier word key declared labels = AllByRecursion (AreEarlier word key declared) labels

not_le : (a b : ℕ) → b < a → nat_le a b ≡ false
not_le a b lt = false_from_ne_true (nat_le a b) (λ e. omega (arith, leb-true a b e, lt))

higher : (word more key above : ℕ) (target : Target) → word ≤ more → key ≤ above → IsBelow word key target → IsBelow more above target
higher word more key above (Word w) le ke h = omega (arith, le, h)
higher word more key above (Words first last) le ke h = omega (arith, le, h)
higher word more key above (Lock k) le ke h = omega (arith, ke, h)
higher word more key above (Locks first last) le ke h = omega (arith, ke, h)

word_apart : (word key first last : ℕ) (other : Target) → word ≤ first → IsBelow word key other
    → (meets other (Word first) ≡ false) × (meets other (Words first last) ≡ false)
word_apart word key first last (Word w) le h =
    let far = not_le first w (omega (arith, le, h)) in
    (and_right (nat_le w first) (nat_le first w) far, and_right (nat_le w last) (nat_le first w) far)
word_apart word key first last (Words one end) le h =
    let far = not_le first end (omega (arith, le, h)) in
    (and_right (nat_le one first) (nat_le first end) far, and_right (nat_le one last) (nat_le first end) far)
word_apart word key first last (Lock k) le h = (refl, refl)
word_apart word key first last (Locks one end) le h = (refl, refl)

lock_apart : (word key first last : ℕ) (other : Target) → key ≤ first → IsBelow word key other
    → (meets other (Lock first) ≡ false) × (meets other (Locks first last) ≡ false)
lock_apart word key first last (Word w) le h = (refl, refl)
lock_apart word key first last (Words one end) le h = (refl, refl)
lock_apart word key first last (Lock k) le h =
    let far = not_le first k (omega (arith, le, h)) in
    (and_right (nat_le k first) (nat_le first k) far, and_right (nat_le k last) (nat_le first k) far)
lock_apart word key first last (Locks one end) le h =
    let far = not_le first end (omega (arith, le, h)) in
    (and_right (nat_le one first) (nat_le first end) far, and_right (nat_le one last) (nat_le first end) far)

-- a test that fails at each
none_of : (P : Label → Type 0) (test : Label → Bool) → ((label : Label) → P label → test label ≡ false) → (labels : List Label) → AllByRecursion P labels
    → list_any test labels ≡ false
none_of P test fails [] all = refl
none_of P test fails (label ∷ labels) all = or_from (test label) (list_any test labels) (fails label all.0) (none_of P test fails labels all.1)

mapped : (P Q : Label → Type 0) → ((label : Label) → P label → Q label) → (labels : List Label) → AllByRecursion P labels → AllByRecursion Q labels
mapped P Q f [] all = tt
mapped P Q f (label ∷ labels) all = (f label all.0, mapped P Q f labels all.1)

each_both : (P : Label → Type 0) (one other : List Label) → AllByRecursion P one → AllByRecursion P other → AllByRecursion P (one ++ other)
each_both P [] other h k = k
each_both P (label ∷ one) other h k = (h.0, each_both P one other h.1 k)

no_name : (word key : ℕ) (d : Declared) (declared : List Declared) (labels : List Label) → Earlier word key (d ∷ declared) labels
    → list_any (λ (other : Label). bytes_eq other.name d.name) labels ≡ false
no_name word key d declared labels all =
    none_of (AreEarlier word key (d ∷ declared)) (λ (other : Label). bytes_eq other.name d.name)
    (λ label is. false_from_ne_true (bytes_eq label.name d.name) (λ e. is.others.0 ((bytes_eq-Decides label.name d.name).0 e)))
    labels all

goes_on : (word more key above : ℕ) (d : Declared) (declared : List Declared) (labels : List Label) → word ≤ more → key ≤ above
    → Earlier word key (d ∷ declared) labels → Earlier more above declared labels
goes_on word more key above d declared labels le ke all =
    mapped (AreEarlier word key (d ∷ declared)) (AreEarlier more above declared)
    (λ label is. record { below = higher word more key above label.target le ke is.below; others = is.others.1 }) labels all

-- ---- label lines

abbrev line_of : List ℕ → Meaning → List (List ℕ)
line_of name (constant n) = []
line_of name (shared item) = item_line (codes "word") name item.first item.sizes ∷ []
line_of name (lock item) = item_line (codes "lock") name item.first item.sizes ∷ []
line_of name (function parameters body) = []

abbrev lines_of : List Declared → List (List ℕ)
lines_of declared = flat_map (λ (d : Declared). line_of d.name d.meaning) declared

line_cut : (name : List ℕ) (m : Meaning) (rest : List ℕ) → is_name name ≡ true
    → cut (divides LineFeed) (label_text name m ++ rest) ≡ line_of name m ++ cut (divides LineFeed) rest
line_cut name (constant n) rest named = refl
line_cut name (shared item) rest named = item_cut (codes "word") name item.first item.sizes rest refl named
line_cut name (lock item) rest named = item_cut (codes "lock") name item.first item.sizes rest refl named
line_cut name (function parameters body) rest named = refl

lines_cut : (declared : List Declared) (rest : List ℕ) → AllByRecursion (λ (d : Declared). is_name d.name ≡ true) declared
    → cut (divides LineFeed) (labels_text declared ++ rest) ≡ lines_of declared ++ cut (divides LineFeed) rest
lines_cut [] rest named = refl
lines_cut (d ∷ declared) rest named =
    ap (cut (divides LineFeed)) (append_assoc (label_text d.name d.meaning) (labels_text declared) rest)
    ∙ line_cut d.name d.meaning (labels_text declared ++ rest) named.0
    ∙ ap (λ l. line_of d.name d.meaning ++ l) (lines_cut declared rest named.1)
    ∙ sym (append_assoc (line_of d.name d.meaning) (lines_of declared) (cut (divides LineFeed) rest))

-- items come to an end within the words and the locks
pub rising : (word key : ℕ) (m : Meaning) → BeginsAt word key m → (word ≤ word_behind word m) × (key ≤ lock_behind key m)
rising word key (constant n) h = (omega arith, omega arith)
rising word key (shared item) h = (omega (arith, h.0), omega arith)
rising word key (lock item) h = (omega arith, omega (arith, h.0))
rising word key (function parameters body) h = (omega arith, omega arith)

ends_within : (words locks word key : ℕ) (declared : List Declared) → LieBelow words locks word key declared → (word ≤ words) × (key ≤ locks)
ends_within words locks word key [] lie = lie
ends_within words locks word key (d ∷ declared) lie =
    let later = ends_within words locks (word_behind word d.meaning) (lock_behind key d.meaning) declared lie.1 in
    let risen = rising word key d.meaning lie.0 in
    (omega (arith, risen.0, later.0), omega (arith, risen.1, later.1))

words_below : (word key first : ℕ) (name sizes : List ℕ) → AreSizes sizes → IsBelow (first + elements sizes) key (label_of_words name first sizes).target
words_below word key first name [] all = omega arith
words_below word key first name (size ∷ sizes) all = let some = elements_some (size ∷ sizes) all in omega (arith, some)

locks_below : (word key first : ℕ) (name sizes : List ℕ) → AreSizes sizes → IsBelow word (first + elements sizes) (label_of_locks name first sizes).target
locks_below word key first name [] all = omega arith
locks_below word key first name (size ∷ sizes) all = let some = elements_some (size ∷ sizes) all in omega (arith, some)

words_named : (first : ℕ) (name sizes : List ℕ) → (label_of_words name first sizes).name ≡ name
words_named first name [] = refl
words_named first name (size ∷ sizes) = refl

locks_named : (first : ℕ) (name sizes : List ℕ) → (label_of_locks name first sizes).name ≡ name
locks_named first name [] = refl
locks_named first name (size ∷ sizes) = refl

words_apart : (word key first : ℕ) (name sizes : List ℕ) (other : Target) → word ≤ first → IsBelow word key other
    → meets other (label_of_words name first sizes).target ≡ false
words_apart word key first name [] other le h = (word_apart word key first first other le h).0
words_apart word key first name (size ∷ sizes) other le h = (word_apart word key first (first + (elements (size ∷ sizes) - 1)) other le h).1

locks_apart : (word key first : ℕ) (name sizes : List ℕ) (other : Target) → key ≤ first → IsBelow word key other
    → meets other (label_of_locks name first sizes).target ≡ false
locks_apart word key first name [] other le h = (lock_apart word key first first other le h).0
locks_apart word key first name (size ∷ sizes) other le h = (lock_apart word key first (first + (elements (size ∷ sizes) - 1)) other le h).1

-- ---- the labels of what is declared

as_declared : (name : List ℕ) (m : Meaning) (word key : ℕ) (declared : List Declared) → BeginsAt word key m
    → AllByRecursion (λ (other : Declared). name ≢ other.name) declared → Earlier (word_behind word m) (lock_behind key m) declared (labels_as name m)
as_declared name (constant n) word key declared h differ = tt
as_declared name (shared item) word key declared h differ = (
  record {
    below = words_below word key item.first name item.sizes h.1;
    others = subst (λ n. AllByRecursion (λ (other : Declared). n ≢ other.name) declared) (sym (words_named item.first name item.sizes)) differ;
  },
  tt,
)
as_declared name (lock item) word key declared h differ = (
  record {
    below = locks_below word key item.first name item.sizes h.1;
    others = subst (λ n. AllByRecursion (λ (other : Declared). n ≢ other.name) declared) (sym (locks_named item.first name item.sizes)) differ;
  },
  tt,
)
as_declared name (function parameters body) word key declared h differ = tt

module _ (words locks : ℕ) (small_words : words < 2 ^ 64) (small_locks : locks < 2 ^ 64) where
  -- the label line of one name that is declared
  reads_one : (d : Declared) (m : Meaning) (word key : ℕ) (declared : List Declared) (earlier : List Label) (lines : List (List ℕ)) (all : List Label)
      → is_name d.name ≡ true → BeginsAt word key m → word_behind word m ≤ words → lock_behind key m ≤ locks → Earlier word key (d ∷ declared) earlier
      → Reads words locks (earlier ++ labels_as d.name m) lines all → Reads words locks earlier (line_of d.name m ++ lines) all
  reads_one d (constant n) word key declared earlier lines all named lies few_words few_locks before h =
      subst (λ l. Reads words locks l lines all) (append-nil earlier) h
  reads_one d (shared item) word key declared earlier lines all named lies few_words few_locks before h =
      let label = label_of_words d.name item.first item.sizes in
      reads_label words locks earlier (item_line (codes "word") d.name item.first item.sizes) label lines all
      (word_says words locks small_words small_locks d.name named item.first item.sizes lies.1 few_words)
      (none_of (AreEarlier word key (d ∷ declared)) (λ (other : Label). meets other.target label.target)
      (λ other is. words_apart word key item.first d.name item.sizes other.target lies.0 is.below) earlier before)
      (subst (λ n. list_any (λ (other : Label). bytes_eq other.name n) earlier ≡ false) (sym (words_named item.first d.name item.sizes))
      (no_name word key d declared earlier before)) h
  reads_one d (lock item) word key declared earlier lines all named lies few_words few_locks before h =
      let label = label_of_locks d.name item.first item.sizes in
      reads_label words locks earlier (item_line (codes "lock") d.name item.first item.sizes) label lines all
      (lock_says words locks small_words small_locks d.name named item.first item.sizes lies.1 few_locks)
      (none_of (AreEarlier word key (d ∷ declared)) (λ (other : Label). meets other.target label.target)
      (λ other is. locks_apart word key item.first d.name item.sizes other.target lies.0 is.below) earlier before)
      (subst (λ n. list_any (λ (other : Label). bytes_eq other.name n) earlier ≡ false) (sym (locks_named item.first d.name item.sizes))
      (no_name word key d declared earlier before)) h
  reads_one d (function parameters body) word key declared earlier lines all named lies few_words few_locks before h =
      subst (λ l. Reads words locks l lines all) (append-nil earlier) h

  reads_items : (declared : List Declared) (word key : ℕ) (earlier : List Label) (lines : List (List ℕ)) (all : List Label)
      → AllByRecursion (λ (d : Declared). is_name d.name ≡ true) declared → AreDifferent declared → LieBelow words locks word key declared
      → Earlier word key declared earlier → Reads words locks (earlier ++ labels_declared declared) lines all
      → Reads words locks earlier (lines_of declared ++ lines) all
  reads_items [] word key earlier lines all named differ lie before h = subst (λ l. Reads words locks l lines all) (append-nil earlier) h
  reads_items (d ∷ declared) word key earlier lines all named differ lie before h =
      let more = word_behind word d.meaning in
      let above = lock_behind key d.meaning in
      let now = labels_as d.name d.meaning in
      let later = ends_within words locks more above declared lie.1 in
      let risen = rising word key d.meaning lie.0 in
      let next : Earlier more above declared (earlier ++ now) =
      each_both (AreEarlier more above declared) earlier now (goes_on word more key above d declared earlier risen.0 risen.1 before)
      (as_declared d.name d.meaning word key declared lie.0 differ.0) in
      let others = reads_items declared more above (earlier ++ now) lines all named.1 differ.1 lie.1 next
      (subst (λ l. Reads words locks l lines all) (sym (append_assoc earlier now (labels_declared declared))) h) in
      subst (λ l. Reads words locks earlier l all) (sym (append_assoc (line_of d.name d.meaning) (lines_of declared) lines))
      (reads_one d d.meaning word key declared earlier (lines_of declared ++ lines) all named.0 lie.0 later.0 later.1 before others)

  -- ---- the whole text

  head_is : (a b c d e f g : List ℕ) → a ++ b ++ c ++ d ++ e ++ f ++ g ≡ (a ++ b ++ c ++ d ++ e) ++ (f ++ (g ++ []))
  head_is a b c d e f g =
      append_assoc (a ++ b ++ c ++ d ++ e) f g ∙ ap (λ l. (a ++ b ++ c ++ d ++ e) ++ (f ++ l)) (sym (append-nil g))

  header : Unlabelled (codes "words " ++ decimal words ++ codes "; locks " ++ decimal locks ++ codes ";\n")
  header =
      quiet_line (codes "words " ++ decimal words ++ codes "; locks " ++ decimal locks) (codes ";")
      (quiet_both (codes "words " ++ decimal words ++ codes "; locks ") (decimal locks)
      (quiet_both (codes "words " ++ decimal words) (codes "; locks ") (quiet_both (codes "words ") (decimal words) refl (decimal_quiet words)) refl) (decimal_quiet locks)) refl

  pub core_labels : (declared : List Declared) (lines : List ℕ) (statements : Block) → AreLaidOut words locks declared → ArePlain statements
      → (labels_of words locks (cut (divides LineFeed) (core_text words locks declared lines statements)) ≡ labels_declared declared)
      × (idle_of words locks (cut (divides LineFeed) (core_text words locks declared lines statements)) ≡ [])
  core_labels declared lines statements laid plain =
      let body = block_lines lines [] statements refl plain in
      let text = block_text lines [] statements in
      let pieces = header.lines ++ (lines_of declared ++ (body.lines ++ cut (divides LineFeed) [])) in
      let is : cut (divides LineFeed) (core_text words locks declared lines statements) ≡ pieces =
      ap (cut (divides LineFeed)) (head_is (codes "words ") (decimal words) (codes "; locks ") (decimal locks) (codes ";\n") (labels_text declared) text)
      ∙ header.cut_is (labels_text declared ++ (text ++ []))
      ∙ ap (λ l. header.lines ++ l) (lines_cut declared (text ++ []) laid.names ∙ ap (λ l. lines_of declared ++ l) (body.cut_is [])) in
      let all = labels_declared declared in
      let ends = reads_silent words locks all body.lines ([] ∷ []) all body.silent (reads_silent words locks all ([] ∷ []) [] all (refl, tt) (reads_none words locks all)) in
      let items = reads_items declared 0 0 [] (body.lines ++ [] ∷ []) all laid.names laid.different laid.lie tt ends in
      let read = reads_silent words locks [] header.lines (lines_of declared ++ (body.lines ++ [] ∷ [])) all header.silent items in
      subst (λ (l : List (List ℕ)). (labels_of words locks l ≡ all) × (idle_of words locks l ≡ [])) (sym is) (all_read words locks pieces all read)
