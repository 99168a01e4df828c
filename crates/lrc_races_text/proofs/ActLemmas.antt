-- What the words of a line of acts say.
use Rattle.std.proofs.Common.{◌≡◌, ℕ, suc, ◌^◌, ◌<◌, ◌≤◌, ◌⊎◌, List, [], ◌∷◌, ◌++◌, length, get_or, drop, inl, inr, sym, subst, refl, ◌∙◌, ap, arith}
use Rattle.std.specs.Prelude.{Option, Some, None, MatchOption, codes, decimal, All, Bool, true, false, ◌==◌, ◌&&◌}
use Rattle.std.specs.Str.Parse.{IsNumeral, AllDigits, digits_value}
use Rattle.std.proofs.lemmas.Str.Parse.{IsNumeralModel, numerals_by_value, tells_digits}
use Rattle.std.proofs.lemmas.Fmt.{decimal-digits_value}
use Rattle.std.proofs.lemmas.Bool.{false≢true}
use Rattle.std.proofs.lemmas.Bool.{cases_lt}
use Rattle.std.proofs.lemmas.List.{nil_from_length}
use Rattle.std.specs.List.{before_first}
use Rattle.lrc_races_lines.specs.declared.line.Kind.{Kind}
use Rattle.lrc_races_lines.specs.declared.line.Kind.TheVariants.{Read, Write, Acquire, Release, Post, Wait, Fork, Join, Arrive, Depart, Idle}
use Rattle.lrc_text.specs.Digits.{IsNumber}
use Rattle.lrc_acts.specs.ActsText.{words_between, words_on}
use Rattle.lrc_races_lines.specs.Line.{Saying}
use Rattle.lrc_races_lines.specs.declared.line.Line.TheVariants.{Bad}
use Rattle.lrc_races_text.specs.Acts.{IsNamed, IsAccessed, IsIdle, quiet, ends, prints, traps, SaysOperation, IsDigit, EndsDigits, SaysLine, IsLocation, SaysNoAct, SaysAct, ReadsAct}

own : IsNumeralModel (AllDigits 10) (digits_value 10)
own = numerals_by_value (AllDigits 10) tells_digits

-- what is left of digits without leading zeros is the name
pub named : (digits left : List ℕ) (number : ℕ) → IsNumber digits 4294967295 number → digits_value 10 left ≡ digits_value 10 digits
    → (IsNumeral 10 digits → IsNumeral 10 left) → (get_or left 0 0 ≡ 48 → length left ≡ 1) → IsNamed digits left
named digits left number says same keeps first =
    let numeral = keeps says.numeral in
    let small : digits_value 10 left < 2 ^ 64 = omega (arith, says.value, says.small, same) in
    record {
      number = number;
      says = says;
      is = sym (decimal-digits_value own left numeral.1 numeral.0 first small) ∙ ap decimal (same ∙ sym says.value);
    }

-- the bytes of two words, as a test
pub same_bytes : List ℕ → List ℕ → Bool
same_bytes [] [] = true
same_bytes (x ∷ xs) (y ∷ ys) = x == y && same_bytes xs ys
same_bytes [] (y ∷ ys) = false
same_bytes (x ∷ xs) [] = false

-- words that differ
pub differ : (word one other : List ℕ) → same_bytes one one ≡ true → same_bytes one other ≡ false → word ≡ one → word ≡ other → ⊥
differ word one other self apart e f = false≢true (sym apart ∙ ap (same_bytes one) (sym f ∙ e) ∙ self)

module _ (word digits : List ℕ) where
  -- an operation of one word and one number
  pub one_number : (kind : Kind) (target : List ℕ) → SaysOperation (word ∷ digits ∷ []) kind target
      → ((word ≡ codes "acquire") × (kind ≡ Acquire) × IsNamed digits target)
      ⊎ ((word ≡ codes "release") × (kind ≡ Release) × IsNamed digits target)
      ⊎ ((word ≡ codes "print") × ((number : ℕ) × IsNumber digits 18446744073709551615 number))
      ⊎ ((word ≡ codes "trap") × ((number : ℕ) × (1 ≤ number) × IsNumber digits 5 number))
  one_number Read target s = let never : ⊥ = cc (s.whole) in absurd never
  one_number Write target s = let never : ⊥ = cc (s.whole) in absurd never
  one_number Acquire target s =
      let same : digits ≡ s.digits = cc (s.whole) in
      let is : word ≡ codes "acquire" = cc (s.whole) in
      inl (is, refl, subst (λ d. IsNamed d target) (sym same) s.says)
  one_number Release target s =
      let same : digits ≡ s.digits = cc (s.whole) in
      let is : word ≡ codes "release" = cc (s.whole) in
      inr (inl (is, refl, subst (λ d. IsNamed d target) (sym same) s.says))
  one_number Post target s = absurd s
  one_number Wait target s = absurd s
  one_number Fork target s = absurd s
  one_number Join target s = absurd s
  one_number Arrive target (s, _) = let never : ⊥ = cc in absurd never
  one_number Depart target (s, _) = let never : ⊥ = cc in absurd never
  one_number Idle target (quiet e, _) = let never : ⊥ = cc in absurd never
  one_number Idle target (ends e, _) = let never : ⊥ = cc in absurd never
  one_number Idle target (prints {value = value} h, _) =
      let same : digits ≡ h.digits = cc (h.whole) in
      let is : word ≡ codes "print" = cc (h.whole) in
      inr (inr (inl (is, (value, subst (λ d. IsNumber d 18446744073709551615 value) (sym same) h.says))))
  one_number Idle target (traps {cause = cause} some h, _) =
      let same : digits ≡ h.digits = cc (h.whole) in
      let is : word ≡ codes "trap" = cc (h.whole) in
      inr (inr (inr (is, (cause, some, subst (λ d. IsNumber d 5 cause) (sym same) h.says))))

  module _ {X : Type 0} (kind_of : X → Kind) (target_of : X → List ℕ) where
    abbrev pub AnswersOne : Option X → Type 0
    AnswersOne r = MatchOption r ((kind : Kind) (target : List ℕ) → ¬ SaysOperation (word ∷ digits ∷ []) kind target)
        (λ f. SaysOperation (word ∷ digits ∷ []) (kind_of f) (target_of f))

    abbrev pub FindsLock : Kind → Option X → Type 0
    FindsLock kind r = MatchOption r ((name : List ℕ) → ¬ IsNamed digits name) (λ f. (kind_of f ≡ kind) × IsNamed digits (target_of f))

    abbrev pub FindsIdle : ℕ → ℕ → Option X → Type 0
    FindsIdle least greatest r = MatchOption r ((number : ℕ) → least ≤ number → ¬ IsNumber digits greatest number)
        (λ f. (kind_of f ≡ Idle) × (target_of f ≡ []) × ((number : ℕ) × (least ≤ number) × IsNumber digits greatest number))

    pub acquired : word ≡ codes "acquire" → (r : Option X) → FindsLock Acquire r → AnswersOne r
    unfolding same_bytes
    acquired is None none = λ kind target s. elim (one_number kind target s) [
      | inl x ↦ none target x.2
      | inr rest ↦ elim rest [
        | inl x ↦ differ word (codes "acquire") (codes "release") refl refl is x.0
        | inr more ↦ elim more [
          | inl x ↦ differ word (codes "acquire") (codes "print") refl refl is x.0
          | inr x ↦ differ word (codes "acquire") (codes "trap") refl refl is x.0
        ]
      ]
    ]
    acquired is (Some f) (k, n) =
        let says : SaysOperation (word ∷ digits ∷ []) Acquire (target_of f) = record { digits = digits; whole = ap (λ w. w ∷ digits ∷ []) is; says = n } in
        subst (λ kind. SaysOperation (word ∷ digits ∷ []) kind (target_of f)) (sym k) says

    pub released : word ≡ codes "release" → (r : Option X) → FindsLock Release r → AnswersOne r
    unfolding same_bytes
    released is None none = λ kind target s. elim (one_number kind target s) [
      | inl x ↦ differ word (codes "release") (codes "acquire") refl refl is x.0
      | inr rest ↦ elim rest [
        | inl x ↦ none target x.2
        | inr more ↦ elim more [
          | inl x ↦ differ word (codes "release") (codes "print") refl refl is x.0
          | inr x ↦ differ word (codes "release") (codes "trap") refl refl is x.0
        ]
      ]
    ]
    released is (Some f) (k, n) =
        let says : SaysOperation (word ∷ digits ∷ []) Release (target_of f) = record { digits = digits; whole = ap (λ w. w ∷ digits ∷ []) is; says = n } in
        subst (λ kind. SaysOperation (word ∷ digits ∷ []) kind (target_of f)) (sym k) says

    idles : (f : X) → kind_of f ≡ Idle → target_of f ≡ [] → IsIdle (word ∷ digits ∷ []) → SaysOperation (word ∷ digits ∷ []) (kind_of f) (target_of f)
    idles f k t is =
        let says : SaysOperation (word ∷ digits ∷ []) Idle (target_of f) = (is, t) in
        subst (λ kind. SaysOperation (word ∷ digits ∷ []) kind (target_of f)) (sym k) says

    pub printed : word ≡ codes "print" → (r : Option X) → FindsIdle 0 18446744073709551615 r → AnswersOne r
    unfolding same_bytes
    printed is None none = λ kind target s. elim (one_number kind target s) [
      | inl x ↦ differ word (codes "print") (codes "acquire") refl refl is x.0
      | inr rest ↦ elim rest [
        | inl x ↦ differ word (codes "print") (codes "release") refl refl is x.0
        | inr more ↦ elim more [
          | inl x ↦ none x.1.0 (omega arith) x.1.1
          | inr x ↦ differ word (codes "print") (codes "trap") refl refl is x.0
        ]
      ]
    ]
    printed is (Some f) (k, t, n) =
        idles f k t (prints {value = n.0} (record { digits = digits; whole = ap (λ w. w ∷ digits ∷ []) is; says = n.2 }))

    pub trapped : word ≡ codes "trap" → (r : Option X) → FindsIdle 1 5 r → AnswersOne r
    unfolding same_bytes
    trapped is None none = λ kind target s. elim (one_number kind target s) [
      | inl x ↦ differ word (codes "trap") (codes "acquire") refl refl is x.0
      | inr rest ↦ elim rest [
        | inl x ↦ differ word (codes "trap") (codes "release") refl refl is x.0
        | inr more ↦ elim more [
          | inl x ↦ differ word (codes "trap") (codes "print") refl refl is x.0
          | inr x ↦ none x.1.0 x.1.1 x.1.2
        ]
      ]
    ]
    trapped is (Some f) (k, t, n) =
        idles f k t (traps {cause = n.0} n.1 (record { digits = digits; whole = ap (λ w. w ∷ digits ∷ []) is; says = n.2 }))

module _ (word digits value : List ℕ) where
  -- an operation of one word and two numbers
  pub two_numbers : (kind : Kind) (target : List ℕ) → SaysOperation (word ∷ digits ∷ value ∷ []) kind target
      → ((word ≡ codes "read") × (kind ≡ Read) × IsAccessed digits value target)
      ⊎ ((word ≡ codes "write") × (kind ≡ Write) × IsAccessed digits value target)
  two_numbers Read target s =
      let same : digits ≡ s.digits = cc (s.whole) in
      let also : value ≡ s.value_digits = cc (s.whole) in
      let is : word ≡ codes "read" = cc (s.whole) in
      inl (is, refl, rw (same, also) s.accessed)
  two_numbers Write target s =
      let same : digits ≡ s.digits = cc (s.whole) in
      let also : value ≡ s.value_digits = cc (s.whole) in
      let is : word ≡ codes "write" = cc (s.whole) in
      inr (is, refl, rw (same, also) s.accessed)
  two_numbers Acquire target s = let never : ⊥ = cc (s.whole) in absurd never
  two_numbers Release target s = let never : ⊥ = cc (s.whole) in absurd never
  two_numbers Post target s = absurd s
  two_numbers Wait target s = absurd s
  two_numbers Fork target s = absurd s
  two_numbers Join target s = absurd s
  two_numbers Arrive target (s, _) = let never : ⊥ = cc in absurd never
  two_numbers Depart target (s, _) = let never : ⊥ = cc in absurd never
  two_numbers Idle target (quiet e, _) = let never : ⊥ = cc in absurd never
  two_numbers Idle target (ends e, _) = let never : ⊥ = cc in absurd never
  two_numbers Idle target (prints h, _) = let never : ⊥ = cc (h.whole) in absurd never
  two_numbers Idle target (traps some h, _) = let never : ⊥ = cc (h.whole) in absurd never

  module _ {X : Type 0} (kind_of : X → Kind) (target_of : X → List ℕ) where
    abbrev pub AnswersTwo : Option X → Type 0
    AnswersTwo r = MatchOption r ((kind : Kind) (target : List ℕ) → ¬ SaysOperation (word ∷ digits ∷ value ∷ []) kind target)
        (λ f. SaysOperation (word ∷ digits ∷ value ∷ []) (kind_of f) (target_of f))

    abbrev pub FindsAccess : Kind → Option X → Type 0
    FindsAccess kind r = MatchOption r ((name : List ℕ) → ¬ IsAccessed digits value name) (λ f. (kind_of f ≡ kind) × IsAccessed digits value (target_of f))

    pub reads : word ≡ codes "read" → (r : Option X) → FindsAccess Read r → AnswersTwo r
    unfolding same_bytes
    reads is None none = λ kind target s. elim (two_numbers kind target s) [
      | inl x ↦ none target x.2
      | inr x ↦ differ word (codes "read") (codes "write") refl refl is x.0
    ]
    reads is (Some f) (k, n) =
        let says : SaysOperation (word ∷ digits ∷ value ∷ []) Read (target_of f)
        = record { digits = digits; value_digits = value; whole = ap (λ w. w ∷ digits ∷ value ∷ []) is; accessed = n } in
        subst (λ kind. SaysOperation (word ∷ digits ∷ value ∷ []) kind (target_of f)) (sym k) says

    pub writes : word ≡ codes "write" → (r : Option X) → FindsAccess Write r → AnswersTwo r
    unfolding same_bytes
    writes is None none = λ kind target s. elim (two_numbers kind target s) [
      | inl x ↦ differ word (codes "write") (codes "read") refl refl is x.0
      | inr x ↦ none target x.2
    ]
    writes is (Some f) (k, n) =
        let says : SaysOperation (word ∷ digits ∷ value ∷ []) Write (target_of f)
        = record { digits = digits; value_digits = value; whole = ap (λ w. w ∷ digits ∷ value ∷ []) is; accessed = n } in
        subst (λ kind. SaysOperation (word ∷ digits ∷ value ∷ []) kind (target_of f)) (sym k) says

-- ---- locations

tail_all : (x : ℕ) (xs : List ℕ) → All IsDigit (x ∷ xs) → All IsDigit xs
tail_all x xs all k d lt = all (suc k) d (omega arith)

head_all : (x : ℕ) (xs : List ℕ) → All IsDigit (x ∷ xs) → IsDigit x
head_all x xs all = all 0 0 (omega arith)

-- the digits that a text begins with are some, and no others
digits_unique : (a b c d : List ℕ) → All IsDigit a → EndsDigits b → All IsDigit c → EndsDigits d → a ++ b ≡ c ++ d → a ≡ c
digits_unique [] b [] d l m p q e = refl
digits_unique [] b (z ∷ c) d l m p q e = absurd (subst EndsDigits e m (head_all z c p))
digits_unique (x ∷ a) b [] d l m p q e = absurd (subst EndsDigits (sym e) q (head_all x a l))
digits_unique (x ∷ a) b (z ∷ c) d l m p q e =
    let heads : x ≡ z = cc in
    let tails : a ++ b ≡ c ++ d = cc in
    let rest = digits_unique a b c d (tail_all x a l) m (tail_all z c p) q tails in
    cc

cut_front : (a b : List ℕ) → codes "# line " ++ a ≡ codes "# line " ++ b → a ≡ b
cut_front a b e = cc

module _ (comment rest digits behind : List ℕ) (line : comment ≡ codes "# line " ++ rest) (whole : rest ≡ digits ++ behind)
    (all : All IsDigit digits) (over : EndsDigits behind) where
  same : (other : List ℕ) → SaysLine comment other → digits ≡ other
  same other says =
      let e : rest ≡ other ++ says.rest = cut_front rest (other ++ says.rest) (sym line ∙ says.whole) in
      digits_unique digits behind other says.rest all over says.all says.ends (sym whole ∙ e)

  pub located : length digits ≤ 10 → IsLocation comment digits
  located few =
      elim (cases_lt 0 (length digits)) [
        | inl some ↦ inl (record {
          rest = behind;
          whole = line ∙ ap (λ r. codes "# line " ++ r) whole;
          some = some;
          few = few;
          all = all;
          ends = over;
        })
        | inr none ↦ inr (
          nil_from_length digits (omega arith),
          λ other says.
              let is = same other says in let some = says.some in omega (arith, ap length is),
        )
      ]

  pub unlocated : 10 < length digits → IsLocation comment []
  unlocated many = inr (refl, λ other says. let is = same other says in let few = says.few in omega (arith, ap length is))

-- ---- lines

module _ (line text digits after : List ℕ) (before : text ≡ before_first (λ byte. byte == 35) line)
    (first : words_between text ≡ digits ∷ words_between after) where
  words : words_on line ≡ digits ∷ words_between after
  words = ap words_between (sym before) ∙ first

  no_blank : ¬ SaysNoAct line
  no_blank none = let a = none.wordless in let b = words in let never : ⊥ = cc in absurd never

  pub unnamed : ((name : List ℕ) → ¬ IsNamed digits name) → ReadsAct line Bad
  unnamed none = (
    no_blank,
    λ saying says.
        let a = says.whole in let b = words in
        let is : says.digits ≡ digits = cc in
        none saying.thread (subst (λ d. IsNamed d saying.thread) is says.thread),
  )

  pub unsaid : ((kind : Kind) (target : List ℕ) → ¬ SaysOperation (words_between after) kind target) → ReadsAct line Bad
  unsaid none = (
    no_blank,
    λ saying says.
        let a = says.whole in let b = words in
        let is : says.rest ≡ words_between after = cc in
        none saying.kind saying.target (subst (λ w. SaysOperation w saying.kind saying.target) is says.operation),
  )

  pub said : length line ≤ 4096 → (saying : Saying) → IsNamed digits saying.thread → SaysOperation (words_between after) saying.kind saying.target
      → (comment : List ℕ) → comment ≡ drop (length text) line → IsLocation comment saying.location → SaysAct line saying
  said short saying name operation comment is location = record {
    short = short;
    digits = digits;
    rest = words_between after;
    whole = words;
    thread = name;
    operation = operation;
    location = subst (λ c. IsLocation c saying.location) (is ∙ ap (λ t. drop (length t) line) before) location;
  }
