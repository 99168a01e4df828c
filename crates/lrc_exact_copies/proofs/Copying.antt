-- What a copy is of, when its node looks, writes and closes.
use Rattle.std.proofs.Common.{◌≡◌, ℕ, ◌+◌, ◌<◌, ◌≤◌, ◌||◌, Bool, true, false, cond, List, [], ◌∷◌, ◌++◌, length}
use Rattle.std.proofs.Common.{inl, inr, refl, sym, ap, ◌∙◌, arith}
use Rattle.std.specs.Prelude.{◌==◌, nat_lt, Option, Some, None, unwrap_or, slice_set}
use Rattle.std.proofs.lemmas.Bool.{cases_eq, cases_Bool, both_ways, cond-true, cond-false, eq-eqb, ne_eqb, le-ltb, or_left, or_right}
use Rattle.std.proofs.lemmas.List.Folds.{list_any-append}
use Rattle.lrc_time.specs.Time.{entry, weight_of}
use Rattle.lrc_time.proofs.Times.{entry-set_same, weight-raised}
use Rattle.lrc_clock.specs.Times.{raised}
use Rattle.lrc_exact.specs.Memory as memory
use Rattle.lrc_exact.specs.Memory.{Rank, Interval}
use Rattle.lrc_exact.specs.Rule.{Shape, State, page_of, accessed, with_write, change_of, open_interval, closed}
use Rattle.lrc_exact.proofs.LocalRules.{same_function}
use Rattle.lrc_exact_copies.specs.declared.copy.Word.{Word}
use Rattle.lrc_exact_copies.specs.declared.copy.Look.{Look}
use Rattle.lrc_exact_copies.specs.declared.made.Made.{Made}
use Rattle.lrc_exact_copies.specs.Copies.{word_of, before_of, IsCopyOf, Puts, with_page, with_value}
use Rattle.lrc_exact_copies.specs.Made.{has, change_in, interval_of}

-- ---- one place of a function

module _ {V : Type 0} (old : ℕ → V) (place : ℕ) (value : V) (new : ℕ → V) (puts : Puts old place value new) where
  pub put-here : (q : ℕ) → q ≡ place → new q ≡ value
  put-here q same = puts q ∙ cond-true (q == place) value (old q) (eq-eqb q place same)

  pub put-other : (q : ℕ) → (q ≡ place → ⊥) → new q ≡ old q
  put-other q other = puts q ∙ cond-false (q == place) value (old q) (ne_eqb q place other)

  -- what the new value has of the old one stays everywhere
  pub put-keeps : {B : Type 0} (f : V → B) → f value ≡ f (old place) → (q : ℕ) → f (new q) ≡ f (old q)
  put-keeps f same q =
      elim (cases_eq q place) [
        | inl here ↦ ap f (put-here q here) ∙ same ∙ ap (λ k. f (old k)) (sym here)
        | inr other ↦ ap f (put-other q other)
      ]

-- ---- lists of numbers

pub or-none : (b : Bool) → (b || false) ≡ b
or-none true = refl
or-none false = refl

pub has-push_other : (xs : List ℕ) (x q : ℕ) → (q ≡ x → ⊥) → has (xs ++ x ∷ []) q ≡ has xs q
has-push_other xs x q other =
    list_any-append (λ y. y == q) xs (x ∷ [])
    ∙ ap (λ b. has xs q || (b || false)) (ne_eqb x q (λ e. other (sym e)))
    ∙ or-none (has xs q)

pub has-push_here : (xs : List ℕ) (x q : ℕ) → q ≡ x → has (xs ++ x ∷ []) q ≡ true
has-push_here xs x q same =
    list_any-append (λ y. y == q) xs (x ∷ [])
    ∙ or_right (has xs q) ((x == q) || false) (or_left (x == q) false (eq-eqb x q (sym same)))

pub has-push : (xs : List ℕ) (x q : ℕ) → has xs q ≡ true → has (xs ++ x ∷ []) q ≡ true
has-push xs x q old = list_any-append (λ y. y == q) xs (x ∷ []) ∙ or_left (has xs q) ((x == q) || false) old

-- ---- words

abbrev pub a_word : ℕ → Option Rank → memory.Word
a_word value mark = record { value = value; mark = mark }

pub unmarked : (look : Look) (word : Word) → word.learned ≤ look.accessed → word_of look word ≡ a_word word.value None
unmarked look word le =
    ap (a_word word.value)
    (cond-false (nat_lt look.accessed word.learned) (Some (record { weight = word.weight; node = word.from })) None (le-ltb look.accessed word.learned le))

-- ---- copies

module _ {shape : Shape} {node a l : ℕ} {words : ℕ → Word} {looks : ℕ → Look} {ow op nm time : List ℕ} {s : State}
    (old : IsCopyOf shape node a l words looks ow op nm time s) where
  -- later is as good
  pub weaker : (a' l' : ℕ) → a ≤ a' → l ≤ l' → IsCopyOf shape node a' l' words looks ow op nm time s
  weaker a' l' le le' = record {
    words_are = old.words_are;
    before_is = old.before_is;
    written_is = old.written_is;
    stale_is = old.stale_is;
    time_is = old.time_is;
    learned_by = λ w. let h = old.learned_by w in omega arith;
    accessed_by = λ p. let h = old.accessed_by p in omega arith;
    word_by = old.word_by;
    page_by = old.page_by;
    opened = old.opened;
    opened_page = old.opened_page;
    all_named = old.all_named;
  }

  -- it is of each state that looks the same
  pub same-view : (t : State) → ((w : ℕ) → t.words w ≡ s.words w) → ((w : ℕ) → t.before w ≡ s.before w) → ((p : ℕ) → t.written p ≡ s.written p)
      → ((p : ℕ) → t.stale p ≡ s.stale p) → t.knows.time ≡ s.knows.time → IsCopyOf shape node a l words looks ow op nm time t
  same-view t words_same before_same written_same stale_same time_same = record {
    words_are = λ w. words_same w ∙ old.words_are w;
    before_is = λ w. before_same w ∙ old.before_is w;
    written_is = λ p. written_same p ∙ old.written_is p;
    stale_is = λ p. stale_same p ∙ old.stale_is p;
    time_is = time_same ∙ old.time_is;
    learned_by = old.learned_by;
    accessed_by = old.accessed_by;
    word_by = old.word_by;
    page_by = old.page_by;
    opened = old.opened;
    opened_page = old.opened_page;
    all_named = old.all_named;
  }

  abbrev index : ℕ
  index = entry time node + 1

  -- a look at a page, which may say that the page is written
  module _ (page now : ℕ) (look : Look) (looks' : ℕ → Look) (puts : Puts looks page look looks') (at_now : look.accessed ≡ now)
      (fresh : look.stale ≡ false) (le : a ≤ now) (lt : l < now) (op' : List ℕ) (t : State)
      (t_words : (w : ℕ) → t.words w ≡ (accessed shape page s).words w) (t_before : (w : ℕ) → t.before w ≡ s.before w)
      (t_stale : (p : ℕ) → t.stale p ≡ (accessed shape page s).stale p) (t_time : t.knows.time ≡ s.knows.time)
      (t_written : (p : ℕ) → t.written p ≡ ((looks' p).written == entry time node + 1))
      (written_by : (p : ℕ) → (looks' p).written ≤ entry time node + 1)
      (opened' : (p : ℕ) → has op' p ≡ ((looks' p).written == entry time node + 1)) where
    words-seen : (w : ℕ) → t.words w ≡ word_of (looks' (page_of shape w)) (words w)
    words-seen w =
        elim (cases_eq (page_of shape w) page) [
          | inl here ↦
              let is : looks' (page_of shape w) ≡ look = put-here looks page look looks' puts (page_of shape w) here in
              let learned = old.learned_by w in
              let below : (words w).learned ≤ look.accessed = omega arith in
              t_words w
              ∙ cond-true (page_of shape w == page) (a_word (s.words w).value None) (s.words w) (eq-eqb (page_of shape w) page here)
              ∙ ap (λ (x : memory.Word). a_word x.value None) (old.words_are w)
              ∙ sym (unmarked look (words w) below)
              ∙ ap (λ k. word_of k (words w)) (sym is)
          | inr other ↦
              t_words w
              ∙ cond-false (page_of shape w == page) (a_word (s.words w).value None) (s.words w) (ne_eqb (page_of shape w) page other)
              ∙ old.words_are w
              ∙ ap (λ k. word_of k (words w)) (sym (put-other looks page look looks' puts (page_of shape w) other))
        ]

    stale-seen : (p : ℕ) → t.stale p ≡ (looks' p).stale
    stale-seen p =
        elim (cases_eq p page) [
          | inl here ↦
              t_stale p ∙ cond-true (p == page) false (s.stale p) (eq-eqb p page here)
              ∙ sym (ap (λ (k : Look). k.stale) (put-here looks page look looks' puts p here) ∙ fresh)
          | inr other ↦
              t_stale p ∙ cond-false (p == page) false (s.stale p) (ne_eqb p page other)
              ∙ old.stale_is p
              ∙ ap (λ (k : Look). k.stale) (sym (put-other looks page look looks' puts p other))
        ]

    pub after-look : IsCopyOf shape node now l words looks' ow op' nm time t
    after-look = record {
      words_are = words-seen;
      before_is = λ w. t_before w ∙ old.before_is w;
      written_is = t_written;
      stale_is = stale-seen;
      time_is = t_time ∙ old.time_is;
      learned_by = old.learned_by;
      accessed_by = λ p.
          elim (cases_eq p page) [
            | inl here ↦ let is = ap (λ (k : Look). k.accessed) (put-here looks page look looks' puts p here) in omega arith
            | inr other ↦
                let is = ap (λ (k : Look). k.accessed) (put-other looks page look looks' puts p other) in
                let h = old.accessed_by p in
                omega arith
          ];
      word_by = old.word_by;
      page_by = written_by;
      opened = old.opened;
      opened_page = opened';
      all_named = λ p is.
          elim (cases_eq p page) [
            | inl here ↦
                let not = ap (λ (k : Look). k.stale) (put-here looks page look looks' puts p here) ∙ fresh in
                absurd (both_ways (looks' p).stale not is)
            | inr other ↦ old.all_named p (ap (λ (k : Look). k.stale) (sym (put-other looks page look looks' puts p other)) ∙ is)
          ];
    }

  -- the node reads
  pub after-access : (page now : ℕ) (look : Look) (looks' : ℕ → Look) → Puts looks page look looks' → look.accessed ≡ now → look.stale ≡ false
      → look.written ≡ (looks page).written → a ≤ now → l < now → IsCopyOf shape node now l words looks' ow op nm time (accessed shape page s)
  after-access page now look looks' puts at_now fresh same le lt =
      let kept = put-keeps looks page look looks' puts (λ (k : Look). k.written) same in
      after-look page now look looks' puts at_now fresh le lt op (accessed shape page s) (λ w. refl) (λ w. refl) (λ p. refl) refl
      (λ p. old.written_is p ∙ ap (λ n. n == index) (sym (kept p)))
      (λ p. let k = kept p in let h = old.page_by p in omega arith)
      (λ p. old.opened_page p ∙ ap (λ n. n == index) (sym (kept p)))

  -- the node looks at a page to write it
  module _ (page now : ℕ) (look : Look) (looks' : ℕ → Look) (puts : Puts looks page look looks') (at_now : look.accessed ≡ now)
      (fresh : look.stale ≡ false) (is_open : look.written ≡ entry time node + 1) (le : a ≤ now) (lt : l < now) where
    open-here : (p : ℕ) → p ≡ page → ((looks' p).written == index) ≡ true
    open-here p here = eq-eqb (looks' p).written index (ap (λ (k : Look). k.written) (put-here looks page look looks' puts p here) ∙ is_open)

    open-other : (p : ℕ) → (p ≡ page → ⊥) → ((looks' p).written == index) ≡ ((looks p).written == index)
    open-other p other = ap (λ (k : Look). k.written == index) (put-other looks page look looks' puts p other)

    written-now : (p : ℕ) → ((p == page) || s.written p) ≡ ((looks' p).written == index)
    written-now p =
        elim (cases_eq p page) [
          | inl here ↦ or_left (p == page) (s.written p) (eq-eqb p page here) ∙ sym (open-here p here)
          | inr other ↦ ap (λ b. b || s.written p) (ne_eqb p page other) ∙ old.written_is p ∙ sym (open-other p other)
        ]

    bound-now : (p : ℕ) → (looks' p).written ≤ index
    bound-now p =
        elim (cases_eq p page) [
          | inl here ↦ let is = ap (λ (k : Look). k.written) (put-here looks page look looks' puts p here) in omega arith
          | inr other ↦
              let is = ap (λ (k : Look). k.written) (put-other looks page look looks' puts p other) in
              let h = old.page_by p in
              omega arith
        ]

    pub after-write_page : (op' : List ℕ) → ((p : ℕ) → has op' p ≡ ((looks' p).written == index))
        → IsCopyOf shape node now l words looks' ow op' nm time (with_page page (accessed shape page s))
    after-write_page op' opened' =
        after-look page now look looks' puts at_now fresh le lt op' (with_page page (accessed shape page s)) (λ w. refl) (λ w. refl) (λ p. refl) refl
        written-now bound-now opened'

    -- it was written before in the interval,
    pub opened-again : (looks page).written ≡ index → (p : ℕ) → has op p ≡ ((looks' p).written == index)
    opened-again was p =
        elim (cases_eq p page) [
          | inl here ↦
              old.opened_page p ∙ eq-eqb (looks p).written index (ap (λ q. (looks q).written) here ∙ was) ∙ sym (open-here p here)
          | inr other ↦ old.opened_page p ∙ sym (open-other p other)
        ]

    -- or not
    pub opened-first : (p : ℕ) → has (op ++ page ∷ []) p ≡ ((looks' p).written == index)
    opened-first p =
        elim (cases_eq p page) [
          | inl here ↦ has-push_here op page p here ∙ sym (open-here p here)
          | inr other ↦ has-push_other op page p other ∙ old.opened_page p ∙ sym (open-other p other)
        ]

  -- the node writes a word
  module _ (word value : ℕ) (held : Word) (words' : ℕ → Word) (puts : Puts words word held words') (sets : held.value ≡ value)
      (is_open : held.written ≡ entry time node + 1) (learned_same : held.learned ≡ (words word).learned)
      (weight_same : held.weight ≡ (words word).weight) (from_same : held.from ≡ (words word).from)
      (keeps : held.before ≡ cond ((words word).written == (entry time node + 1)) (words word).before (words word).value) where
    abbrev mark_of : Look → ℕ → ℕ → ℕ → Option Rank
    mark_of look learned weight from = cond (nat_lt look.accessed learned) (Some (record { weight = weight; node = from })) None

    value-seen : (w : ℕ) → (with_value word value s).words w ≡ word_of (looks (page_of shape w)) (words' w)
    value-seen w =
        elim (cases_eq w word) [
          | inl here ↦
              let look = looks (page_of shape w) in
              cond-true (w == word) (record (s.words w) { value = value }) (s.words w) (eq-eqb w word here)
              ∙ ap (λ (x : memory.Word). record x { value = value }) (old.words_are w)
              ∙ ap (λ k. record (word_of look (words k)) { value = value }) here
              ∙ ap (λ v. a_word v (mark_of look (words word).learned (words word).weight (words word).from)) (sym sets)
              ∙ ap (λ n. a_word held.value (mark_of look n (words word).weight (words word).from)) (sym learned_same)
              ∙ ap (λ n. a_word held.value (mark_of look held.learned n (words word).from)) (sym weight_same)
              ∙ ap (λ n. a_word held.value (mark_of look held.learned held.weight n)) (sym from_same)
              ∙ ap (λ k. word_of look k) (sym (put-here words word held words' puts w here))
          | inr other ↦
              cond-false (w == word) (record (s.words w) { value = value }) (s.words w) (ne_eqb w word other)
              ∙ old.words_are w
              ∙ ap (λ k. word_of (looks (page_of shape w)) k) (sym (put-other words word held words' puts w other))
        ]

    first-before : unwrap_or (before_of index (words word)) (words word).value ≡ held.before
    first-before =
        elim (cases_Bool ((words word).written == index)) [
          | inl again ↦
              ap (λ o. unwrap_or o (words word).value) (cond-true ((words word).written == index) (Some (words word).before) None again)
              ∙ sym (keeps ∙ cond-true ((words word).written == index) (words word).before (words word).value again)
          | inr first ↦
              ap (λ o. unwrap_or o (words word).value) (cond-false ((words word).written == index) (Some (words word).before) None first)
              ∙ sym (keeps ∙ cond-false ((words word).written == index) (words word).before (words word).value first)
        ]

    before-seen : (w : ℕ) → (with_value word value s).before w ≡ before_of index (words' w)
    before-seen w =
        elim (cases_eq w word) [
          | inl here ↦
              cond-true (w == word) (Some (unwrap_or (s.before w) (s.words w).value)) (s.before w) (eq-eqb w word here)
              ∙ ap (λ o. Some (unwrap_or o (s.words w).value)) (old.before_is w)
              ∙ ap (λ (x : memory.Word). Some (unwrap_or (before_of index (words w)) x.value)) (old.words_are w)
              ∙ ap (λ k. Some (unwrap_or (before_of index (words k)) (words k).value)) here
              ∙ ap (λ n. Some n) first-before
              ∙ sym (cond-true (held.written == index) (Some held.before) None (eq-eqb held.written index is_open))
              ∙ ap (λ k. before_of index k) (sym (put-here words word held words' puts w here))
          | inr other ↦
              cond-false (w == word) (Some (unwrap_or (s.before w) (s.words w).value)) (s.before w) (ne_eqb w word other)
              ∙ old.before_is w
              ∙ ap (λ k. before_of index k) (sym (put-other words word held words' puts w other))
        ]

    pub after-write_word : (ow' : List ℕ) → ((w : ℕ) → has ow w ≡ true → has ow' w ≡ true) → has ow' word ≡ true
        → IsCopyOf shape node a l words' looks ow' op nm time (with_value word value s)
    after-write_word ow' more here' = record {
      words_are = value-seen;
      before_is = before-seen;
      written_is = old.written_is;
      stale_is = old.stale_is;
      time_is = old.time_is;
      learned_by = λ w.
          let kept = put-keeps words word held words' puts (λ (k : Word). k.learned) learned_same w in
          let h = old.learned_by w in
          omega arith;
      accessed_by = old.accessed_by;
      word_by = λ w.
          elim (cases_eq w word) [
            | inl here ↦ let is = ap (λ (k : Word). k.written) (put-here words word held words' puts w here) in omega arith
            | inr other ↦
                let is = ap (λ (k : Word). k.written) (put-other words word held words' puts w other) in
                let h = old.word_by w in
                omega arith
          ];
      page_by = old.page_by;
      opened = λ w is.
          elim (cases_eq w word) [
            | inl here ↦ ap (has ow') here ∙ here'
            | inr other ↦ more w (old.opened w (ap (λ (k : Word). k.written) (sym (put-other words word held words' puts w other)) ∙ is))
          ];
      opened_page = old.opened_page;
      all_named = old.all_named;
    }

  -- ---- closing

  module _ (within : node < length time) where
    abbrev later : List ℕ
    later = slice_set time node index

    later-is : entry later node ≡ index
    later-is = entry-set_same time node index within

    never : (n : ℕ) → n ≤ index → (n == entry later node + 1) ≡ false
    never n le = ne_eqb n (entry later node + 1) (λ e. let is = later-is in absurd (omega arith))

    pub after-close : IsCopyOf shape node a l words looks [] [] nm later (closed node s)
    after-close = record {
      words_are = old.words_are;
      before_is = λ w.
          sym (cond-false ((words w).written == entry later node + 1) (Some (words w).before) None (never (words w).written (old.word_by w)));
      written_is = λ p. sym (never (looks p).written (old.page_by p));
      stale_is = old.stale_is;
      time_is = ap (λ t. raised t node) old.time_is;
      learned_by = old.learned_by;
      accessed_by = old.accessed_by;
      word_by = λ w. let is = later-is in let h = old.word_by w in omega arith;
      page_by = λ p. let is = later-is in let h = old.page_by p in omega arith;
      opened = λ w is. let e = later-is in let h = old.word_by w in absurd (omega arith);
      opened_page = λ p. sym (never (looks p).written (old.page_by p));
      all_named = old.all_named;
    }

    -- what the interval did
    same-interval : (x y : Interval) → x.weight ≡ y.weight → x.changed ≡ y.changed → x.names ≡ y.names → x ≡ y
    same-interval x y e f g = λ i. record { weight = e i; changed = f i; names = g i }

    pub interval-is : (made : Made) → made.weight ≡ weight_of later
        → ((w : ℕ) → change_in made.changes.items w ≡ cond (has ow w) (change_of (before_of index (words w)) (words w).value) None)
        → made.pages.items ≡ op → interval_of made ≡ open_interval s
    interval-is made weight changes pages =
        let rises = weight-raised time node index within in
        let heavy : made.weight ≡ weight_of time + 1 = omega arith in
        same-interval (interval_of made) (open_interval s)
        (heavy ∙ ap (λ t. weight_of t + 1) (sym old.time_is))
        (same_function changed)
        (same_function (λ p. ap (λ xs. has xs p) pages ∙ old.opened_page p ∙ sym (old.written_is p)))
      where
        seen : (w : ℕ) → change_of (s.before w) (s.words w).value ≡ change_of (before_of index (words w)) (words w).value
        seen w =
            ap (λ o. change_of o (s.words w).value) (old.before_is w)
            ∙ ap (λ (x : memory.Word). change_of (before_of index (words w)) x.value) (old.words_are w)

        changed : (w : ℕ) → change_in made.changes.items w ≡ change_of (s.before w) (s.words w).value
        changed w =
            elim (cases_Bool (has ow w)) [
              | inl there ↦
                  changes w ∙ cond-true (has ow w) (change_of (before_of index (words w)) (words w).value) None there ∙ sym (seen w)
              | inr absent ↦
                  let other : (words w).written ≡ index → ⊥ = λ e. both_ways (has ow w) absent (old.opened w e) in
                  changes w ∙ cond-false (has ow w) (change_of (before_of index (words w)) (words w).value) None absent
                  ∙ ap (λ o. change_of o (words w).value)
                  (sym (cond-false ((words w).written == index) (Some (words w).before) None (ne_eqb (words w).written index other)))
                  ∙ sym (seen w)
            ]

-- a write is a look at the page, and a new value
pub writes-page : {shape : Shape} {node a l : ℕ} {words : ℕ → Word} {looks : ℕ → Look} {ow op nm time : List ℕ} (word value page : ℕ)
    → page ≡ page_of shape word → (s : State)
    → IsCopyOf shape node a l words looks ow op nm time (with_value word value (with_page page (accessed shape page s)))
    → IsCopyOf shape node a l words looks ow op nm time (with_write shape word value (accessed shape page s))
writes-page {shape} word value page on s h =
    same-view h (with_write shape word value (accessed shape page s)) same (λ w. refl)
    (λ p. ap (λ q. (p == q) || s.written p) (sym on)) (λ p. refl) refl
  where
    same : (w : ℕ) → (with_write shape word value (accessed shape page s)).words w ≡ (with_value word value (with_page page (accessed shape page s))).words w
    same w =
        elim (cases_eq w word) [
          | inl here ↦
              let there : page_of shape w ≡ page = ap (page_of shape) here ∙ sym on in
              cond-true (w == word) (a_word value None) ((accessed shape page s).words w) (eq-eqb w word here)
              ∙ ap (λ (x : memory.Word). record x { value = value })
              (sym (cond-true (page_of shape w == page) (a_word (s.words w).value None) (s.words w) (eq-eqb (page_of shape w) page there)))
              ∙ sym (cond-true (w == word) (record ((accessed shape page s).words w) { value = value }) ((accessed shape page s).words w) (eq-eqb w word here))
          | inr other ↦
              cond-false (w == word) (a_word value None) ((accessed shape page s).words w) (ne_eqb w word other)
              ∙ sym (cond-false (w == word) (record ((accessed shape page s).words w) { value = value }) ((accessed shape page s).words w) (ne_eqb w word other))
        ]
