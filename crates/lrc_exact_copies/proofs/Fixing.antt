-- What a copy is of, when a collection takes pages.
use Rattle.std.proofs.Common.{◌≡◌, ℕ, ◌+◌, ◌-◌, ◌*◌, ◌/◌, ◌<◌, ◌≤◌, ◌⊎◌, ◌&&◌, Bool, true, false, cond, List, []}
use Rattle.std.proofs.Common.{inl, inr, refl, sym, ap, ◌∙◌, arith}
use Rattle.std.specs.Prelude.{◌==◌, nat_le, nat_lt, slice_index, Some, None}
use Rattle.std.proofs.lemmas.Bool.{cases_eq, cases_lt, both_ways, cond-true, cond-false, eq-eqb, ne_eqb, le-leb, lt-leb, lt-ltb, le-ltb}
use Rattle.std.proofs.lemmas.Bool.{and_from, and_left, and_right}
use Rattle.std.proofs.Math.Nat.{div-mul-le_self, lt-div-mul-add}
use Rattle.std.proofs.lemmas.Nat.{div-mul-add}
use Rattle.lrc_time.specs.Time.{entry}
use Rattle.lrc_exact.specs.Rule.{Shape, State, page_of}
use Rattle.lrc_exact_copies.specs.declared.copy.Word.{Word}
use Rattle.lrc_exact_copies.specs.declared.copy.Look.{Look}
use Rattle.lrc_exact_copies.specs.Copies.{word_of, IsCopyOf, Puts, with_fixed_word, with_fixed_words, with_fresh_page, with_fixed_page}
use Rattle.lrc_exact_copies.proofs.Copying.{put-here, put-other, put-keeps, a_word, same-view, unmarked}

module _ {shape : Shape} {node a l : ℕ} {words : ℕ → Word} {looks : ℕ → Look} {ow op nm time : List ℕ} {s : State}
    (old : IsCopyOf shape node a l words looks ow op nm time s) where
  -- a word is fixed
  pub after-fix : (word value : ℕ) (held : Word) (words' : ℕ → Word) → Puts words word held words' → held.value ≡ value → held.learned ≡ 0
      → held.written ≡ (words word).written → held.before ≡ (words word).before
      → IsCopyOf shape node a l words' looks ow op nm time (with_fixed_word word value s)
  after-fix word value held words' puts sets never written_same before_same = record {
    words_are = λ w.
        elim (cases_eq w word) [
          | inl here ↦
              let look = looks (page_of shape w) in
              let low : held.learned ≤ look.accessed = omega arith in
              cond-true (w == word) (a_word value None) (s.words w) (eq-eqb w word here)
              ∙ ap (λ n. a_word n None) (sym sets)
              ∙ sym (ap (λ k. word_of look k) (put-here words word held words' puts w here) ∙ unmarked look held low)
          | inr other ↦
              cond-false (w == word) (a_word value None) (s.words w) (ne_eqb w word other)
              ∙ old.words_are w
              ∙ ap (λ k. word_of (looks (page_of shape w)) k) (sym (put-other words word held words' puts w other))
        ];
    before_is = λ w.
        old.before_is w
        ∙ ap (λ (n : ℕ). cond (n == entry time node + 1) (Some (words w).before) None) (sym (written-kept w))
        ∙ ap (λ (n : ℕ). cond ((words' w).written == entry time node + 1) (Some n) None) (sym (before-kept w));
    written_is = old.written_is;
    stale_is = old.stale_is;
    time_is = old.time_is;
    learned_by = λ w.
        elim (cases_eq w word) [
          | inl here ↦ let is = ap (λ (k : Word). k.learned) (put-here words word held words' puts w here) in omega arith
          | inr other ↦
              let is = ap (λ (k : Word). k.learned) (put-other words word held words' puts w other) in
              let h = old.learned_by w in
              omega arith
        ];
    accessed_by = old.accessed_by;
    word_by = λ w. let kept = written-kept w in let h = old.word_by w in omega arith;
    page_by = old.page_by;
    opened = λ w is. old.opened w (sym (written-kept w) ∙ is);
    opened_page = old.opened_page;
    all_named = old.all_named;
  }
    where
      written-kept : (w : ℕ) → (words' w).written ≡ (words w).written
      written-kept w = put-keeps words word held words' puts (λ (k : Word). k.written) written_same w

      before-kept : (w : ℕ) → (words' w).before ≡ (words w).before
      before-kept w = put-keeps words word held words' puts (λ (k : Word). k.before) before_same w

  -- a page is stale no more
  pub after-freshen : (page : ℕ) (look : Look) (looks' : ℕ → Look) → Puts looks page look looks' → look.accessed ≡ (looks page).accessed
      → look.written ≡ (looks page).written → look.stale ≡ false
      → IsCopyOf shape node a l words looks' ow op nm time (with_fresh_page page s)
  after-freshen page look looks' puts accessed_same written_same fresh = record {
    words_are = λ w.
        old.words_are w
        ∙ ap (λ (n : ℕ). a_word (words w).value (cond (nat_lt n (words w).learned) (Some (record { weight = (words w).weight; node = (words w).from })) None))
        (sym (accessed-kept (page_of shape w)));
    before_is = old.before_is;
    written_is = λ p. old.written_is p ∙ ap (λ n. n == entry time node + 1) (sym (written-kept p));
    stale_is = λ p.
        elim (cases_eq p page) [
          | inl here ↦
              cond-true (p == page) false (s.stale p) (eq-eqb p page here)
              ∙ sym (ap (λ (k : Look). k.stale) (put-here looks page look looks' puts p here) ∙ fresh)
          | inr other ↦
              cond-false (p == page) false (s.stale p) (ne_eqb p page other) ∙ old.stale_is p
              ∙ ap (λ (k : Look). k.stale) (sym (put-other looks page look looks' puts p other))
        ];
    time_is = old.time_is;
    learned_by = old.learned_by;
    accessed_by = λ p. let kept = accessed-kept p in let h = old.accessed_by p in omega arith;
    word_by = old.word_by;
    page_by = λ p. let kept = written-kept p in let h = old.page_by p in omega arith;
    opened = old.opened;
    opened_page = λ p. old.opened_page p ∙ ap (λ n. n == entry time node + 1) (sym (written-kept p));
    all_named = λ p stale.
        elim (cases_eq p page) [
          | inl here ↦
              absurd (both_ways (looks' p).stale (ap (λ (k : Look). k.stale) (put-here looks page look looks' puts p here) ∙ fresh) stale)
          | inr other ↦ old.all_named p (ap (λ (k : Look). k.stale) (sym (put-other looks page look looks' puts p other)) ∙ stale)
        ];
  }
    where
      accessed-kept : (p : ℕ) → (looks' p).accessed ≡ (looks p).accessed
      accessed-kept p = put-keeps looks page look looks' puts (λ (k : Look). k.accessed) accessed_same p

      written-kept : (p : ℕ) → (looks' p).written ≡ (looks p).written
      written-kept p = put-keeps looks page look looks' puts (λ (k : Look). k.written) written_same p

  -- no page is stale
  pub after-clear : ((p : ℕ) → s.stale p ≡ false) → IsCopyOf shape node a l words looks ow op [] time s
  after-clear none = record {
    words_are = old.words_are;
    before_is = old.before_is;
    written_is = old.written_is;
    stale_is = old.stale_is;
    time_is = old.time_is;
    learned_by = old.learned_by;
    accessed_by = old.accessed_by;
    word_by = old.word_by;
    page_by = old.page_by;
    opened = old.opened;
    opened_page = old.opened_page;
    all_named = λ p stale. absurd (both_ways (looks p).stale (sym (old.stale_is p) ∙ none p) stale);
  }

-- whether a word is one of so many from the first on
abbrev is_among : ℕ → ℕ → ℕ → Bool
is_among first count w = nat_le first w && nat_lt w (first + count)

among-holds : (first count w : ℕ) → first ≤ w → w < first + count → is_among first count w ≡ true
among-holds first count w le lt = and_from (nat_le first w) (nat_lt w (first + count)) (le-leb first w le) (lt-ltb w (first + count) lt)

among-fails : (first count w : ℕ) → (w < first) ⊎ (first + count ≤ w) → is_among first count w ≡ false
among-fails first count w (inl lt) = and_left (nat_le first w) (nat_lt w (first + count)) (lt-leb first w lt)
among-fails first count w (inr le) = and_right (nat_le first w) (nat_lt w (first + count)) (le-ltb w (first + count) le)

among-cases : (first count w : ℕ) → ((first ≤ w) × (w < first + count)) ⊎ ((w < first) ⊎ (first + count ≤ w))
among-cases first count w =
    elim (cases_lt w first) [
      | inl lt ↦ inr (inl lt)
      | inr le ↦
          elim (cases_lt w (first + count)) [
            | inl lt ↦ inl (le, lt)
            | inr more ↦ inr (inr more)
          ]
    ]

further : (first i w : ℕ) → (w ≡ first + i → ⊥) → (w < first) ⊎ (first + i ≤ w) → (w < first) ⊎ (first + (i + 1) ≤ w)
further first i w other (inl lt) = inl lt
further first i w other (inr le) =
    elim (cases_lt (first + i) w) [
      | inl lt ↦ inr (omega arith)
      | inr least ↦ absurd (other (omega arith))
    ]

-- the words of a page are those from its first on
pub on_page : (size w page : ℕ) → 1 ≤ size → w / size ≡ page → (page * size ≤ w) × (w < page * size + size)
on_page size w page some here =
    let low = div-mul-le_self w size in
    let high = lt-div-mul-add {a = w} {b = size} some in
    let e : w / size * size ≡ page * size = ap (λ n. n * size) here in
    (omega arith, omega arith)

off_page : (size w page : ℕ) → (w / size ≡ page → ⊥) → (w < page * size) ⊎ (page * size + size ≤ w)
off_page size w page other =
    elim (among-cases (page * size) size w) [
      | inl (le, lt) ↦
          let e : w ≡ page * size + (w - page * size) = omega arith in
          absurd (other (ap (λ n. n / size) e ∙ div-mul-add page size (w - page * size) (omega arith)))
      | inr out ↦ out
    ]

module _ {shape : Shape} {node a l : ℕ} {words : ℕ → Word} {looks : ℕ → Look} {ow op nm time : List ℕ} where
  -- none of the words
  pub fixed-none : (first : ℕ) (values : List ℕ) (s : State) → IsCopyOf shape node a l words looks ow op nm time s
      → IsCopyOf shape node a l words looks ow op nm time (with_fixed_words first 0 values s)
  fixed-none first values s h =
      same-view h (with_fixed_words first 0 values s)
      (λ w. cond-false (is_among first 0 w) (a_word (slice_index values (w - first)) None) (s.words w) (among-fails first 0 w (apart w)))
      (λ w. refl) (λ p. refl) (λ p. refl) refl
    where
      apart : (w : ℕ) → (w < first) ⊎ (first + 0 ≤ w)
      apart w =
          elim (cases_lt w first) [
            | inl lt ↦ inl lt
            | inr le ↦ inr (omega arith)
          ]

  -- one more
  pub fixed-more : (first i : ℕ) (values : List ℕ) (s : State)
      → IsCopyOf shape node a l words looks ow op nm time (with_fixed_word (first + i) (slice_index values i) (with_fixed_words first i values s))
      → IsCopyOf shape node a l words looks ow op nm time (with_fixed_words first (i + 1) values s)
  fixed-more first i values s h =
      same-view h (with_fixed_words first (i + 1) values s) same (λ w. refl) (λ p. refl) (λ p. refl) refl
    where
      same : (w : ℕ) → (with_fixed_words first (i + 1) values s).words w
          ≡ (with_fixed_word (first + i) (slice_index values i) (with_fixed_words first i values s)).words w
      same w =
          elim (cases_eq w (first + i)) [
            | inl here ↦
                let at : w - first ≡ i = omega arith in
                cond-true (is_among first (i + 1) w) (a_word (slice_index values (w - first)) None) (s.words w)
                (among-holds first (i + 1) w (omega arith) (omega arith))
                ∙ ap (λ n. a_word (slice_index values n) None) at
                ∙ sym (cond-true (w == first + i) (a_word (slice_index values i) None) ((with_fixed_words first i values s).words w)
                (eq-eqb w (first + i) here))
            | inr other ↦
                elim (among-cases first i w) [
                  | inl (le, lt) ↦
                      cond-true (is_among first (i + 1) w) (a_word (slice_index values (w - first)) None) (s.words w)
                      (among-holds first (i + 1) w le (omega arith))
                      ∙ sym (cond-false (w == first + i) (a_word (slice_index values i) None) ((with_fixed_words first i values s).words w)
                      (ne_eqb w (first + i) other)
                      ∙ cond-true (is_among first i w) (a_word (slice_index values (w - first)) None) (s.words w) (among-holds first i w le lt))
                  | inr out ↦
                      cond-false (is_among first (i + 1) w) (a_word (slice_index values (w - first)) None) (s.words w)
                      (among-fails first (i + 1) w (further first i w other out))
                      ∙ sym (cond-false (w == first + i) (a_word (slice_index values i) None) ((with_fixed_words first i values s).words w)
                      (ne_eqb w (first + i) other)
                      ∙ cond-false (is_among first i w) (a_word (slice_index values (w - first)) None) (s.words w) (among-fails first i w out))
                ]
          ]

  -- a whole page
  pub fixed-page : (page : ℕ) (values : List ℕ) (s : State) → 1 ≤ shape.size
      → IsCopyOf shape node a l words looks ow op nm time (with_fresh_page page (with_fixed_words (page * shape.size) shape.size values s))
      → IsCopyOf shape node a l words looks ow op nm time (with_fixed_page shape page (λ w. slice_index values (w - page * shape.size)) s)
  fixed-page page values s some h =
      same-view h (with_fixed_page shape page (λ w. slice_index values (w - page * shape.size)) s) same (λ w. refl) (λ p. refl) (λ p. refl) refl
    where
      same : (w : ℕ) → (with_fixed_page shape page (λ w. slice_index values (w - page * shape.size)) s).words w
          ≡ (with_fixed_words (page * shape.size) shape.size values s).words w
      same w =
          elim (cases_eq (page_of shape w) page) [
            | inl here ↦
                let held = on_page shape.size w page some here in
                cond-true (page_of shape w == page) (a_word (slice_index values (w - page * shape.size)) None) (s.words w)
                (eq-eqb (page_of shape w) page here)
                ∙ sym (cond-true (is_among (page * shape.size) shape.size w) (a_word (slice_index values (w - page * shape.size)) None) (s.words w)
                (among-holds (page * shape.size) shape.size w held.0 held.1))
            | inr other ↦
                cond-false (page_of shape w == page) (a_word (slice_index values (w - page * shape.size)) None) (s.words w)
                (ne_eqb (page_of shape w) page other)
                ∙ sym (cond-false (is_among (page * shape.size) shape.size w) (a_word (slice_index values (w - page * shape.size)) None) (s.words w)
                (among-fails (page * shape.size) shape.size w (off_page shape.size w page other)))
          ]
