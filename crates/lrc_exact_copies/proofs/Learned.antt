-- What a copy is of, when its node learns.
use Rattle.std.proofs.Common.{◌≡◌, ℕ, ◌+◌, ◌<◌, ◌||◌, ◌&&◌, Bool, true, false, cond, List, [], ◌∷◌, ◌++◌}
use Rattle.std.proofs.Common.{inl, inr, refl, sym, ap, ◌∙◌, arith}
use Rattle.std.specs.Prelude.{◌==◌, nat_lt, Option, Some, None}
use Rattle.std.proofs.lemmas.Bool.{cases_eq, cases_Bool, cond-true, cond-false, eq-eqb, ne_eqb, lt-ltb, le-ltb, or_left, or_right}
use Rattle.lrc_time.specs.Time.{entry}
use Rattle.lrc_exact.specs.Memory as memory
use Rattle.lrc_exact.specs.Memory.{Rank, Interval, is_lower, replaces}
use Rattle.lrc_exact.specs.Rule.{Shape, State, page_of, with_change}
use Rattle.lrc_exact_copies.specs.declared.copy.Word.{Word}
use Rattle.lrc_exact_copies.specs.declared.copy.Look.{Look}
use Rattle.lrc_exact_copies.specs.declared.made.Change.{Change}
use Rattle.lrc_exact_copies.specs.Copies.{word_of, IsCopyOf, Puts, with_one_change, with_one_page, with_all_changes, with_all_pages}
use Rattle.lrc_exact_copies.specs.Made.{has, change_in}
use Rattle.lrc_exact_copies.proofs.Copying.{put-here, put-other, put-keeps, a_word, same-view, has-push, has-push_here, has-push_other}

-- a change of no word
abbrev pub no_change : Change
no_change = record { word = 0; value = 0 }

abbrev pub rank_of : ℕ → ℕ → Rank
rank_of weight from = record { weight = weight; node = from }

-- no rank is lower than itself
is_lower-itself : (r : Rank) → is_lower r r ≡ false
is_lower-itself r =
    ap (λ b. b || ((r.weight == r.weight) && nat_lt r.node r.node)) (le-ltb r.weight r.weight (omega arith))
    ∙ ap (λ b. false || ((r.weight == r.weight) && b)) (le-ltb r.node r.node (omega arith))
    ∙ none (r.weight == r.weight)
  where
    none : (b : Bool) → (false || (b && false)) ≡ false
    none true = refl
    none false = refl

-- a change takes the place of a word, or doesn't
change-taken : (rank : Rank) (value : ℕ) (x : memory.Word) → replaces rank x.mark ≡ true → with_change rank (Some value) x ≡ a_word value (Some rank)
change-taken rank value x is = cond-true (replaces rank x.mark) (a_word value (Some rank)) x is

change-left : (rank : Rank) (value : ℕ) (x : memory.Word) → replaces rank x.mark ≡ false → with_change rank (Some value) x ≡ x
change-left rank value x is = cond-false (replaces rank x.mark) (a_word value (Some rank)) x is

-- the second change of one interval to a word makes no difference
change-again : (rank : Rank) (value other : ℕ) (x : memory.Word)
    → with_change rank (Some other) (with_change rank (Some value) x) ≡ with_change rank (Some value) x
change-again rank value other x =
    elim (cases_Bool (replaces rank x.mark)) [
      | inl is ↦
          ap (with_change rank (Some other)) (change-taken rank value x is)
          ∙ change-left rank other (a_word value (Some rank)) (is_lower-itself rank)
          ∙ sym (change-taken rank value x is)
      | inr stays ↦
          ap (with_change rank (Some other)) (change-left rank value x stays)
          ∙ change-left rank other x stays
          ∙ sym (change-left rank value x stays)
    ]

-- ---- one change more in a list

pub change-other : (xs : List Change) (c : Change) (w : ℕ) → (c.word ≡ w → ⊥) → change_in (xs ++ c ∷ []) w ≡ change_in xs w
change-other [] c w other = cond-false (c.word == w) (Some c.value) None (ne_eqb c.word w other)
change-other (x ∷ xs) c w other = ap (λ o. cond (x.word == w) (Some x.value) o) (change-other xs c w other)

pub change-had : (xs : List Change) (c : Change) (w v : ℕ) → change_in xs w ≡ Some v → change_in (xs ++ c ∷ []) w ≡ Some v
change-had [] c w v e = let impossible : ⊥ = cc in absurd impossible
change-had (x ∷ xs) c w v e =
    elim (cases_Bool (x.word == w)) [
      | inl here ↦
          cond-true (x.word == w) (Some x.value) (change_in (xs ++ c ∷ []) w) here
          ∙ sym (cond-true (x.word == w) (Some x.value) (change_in xs w) here) ∙ e
      | inr there ↦
          cond-false (x.word == w) (Some x.value) (change_in (xs ++ c ∷ []) w) there
          ∙ change-had xs c w v (sym (cond-false (x.word == w) (Some x.value) (change_in xs w) there) ∙ e)
    ]

pub change-new : (xs : List Change) (c : Change) (w : ℕ) → c.word ≡ w → change_in xs w ≡ None → change_in (xs ++ c ∷ []) w ≡ Some c.value
change-new [] c w same e = cond-true (c.word == w) (Some c.value) None (eq-eqb c.word w same)
change-new (x ∷ xs) c w same e =
    elim (cases_Bool (x.word == w)) [
      | inl here ↦
          let is : Some x.value ≡ None = sym (cond-true (x.word == w) (Some x.value) (change_in xs w) here) ∙ e in
          let impossible : ⊥ = cc in
          absurd impossible
      | inr there ↦
          cond-false (x.word == w) (Some x.value) (change_in (xs ++ c ∷ []) w) there
          ∙ change-new xs c w same (sym (cond-false (x.word == w) (Some x.value) (change_in xs w) there) ∙ e)
    ]

-- so it is learned after the others
change-more : (rank : Rank) (xs : List Change) (c : Change) (w : ℕ) (x : memory.Word)
    → with_change rank (change_in (xs ++ c ∷ []) w) x
    ≡ cond (w == c.word) (with_change rank (Some c.value) (with_change rank (change_in xs w) x)) (with_change rank (change_in xs w) x)
change-more rank xs c w x =
    elim (cases_eq w c.word) [
      | inr other ↦
          ap (λ o. with_change rank o x) (change-other xs c w (λ e. other (sym e)))
          ∙ sym (cond-false (w == c.word) (with_change rank (Some c.value) (with_change rank (change_in xs w) x)) (with_change rank (change_in xs w) x)
          (ne_eqb w c.word other))
      | inl same ↦
          go (change_in xs w) refl same
          ∙ sym (cond-true (w == c.word) (with_change rank (Some c.value) (with_change rank (change_in xs w) x)) (with_change rank (change_in xs w) x)
          (eq-eqb w c.word same))
    ]
  where
    go : (o : Option ℕ) → change_in xs w ≡ o → w ≡ c.word
        → with_change rank (change_in (xs ++ c ∷ []) w) x ≡ with_change rank (Some c.value) (with_change rank (change_in xs w) x)
    go None e same =
        ap (λ p. with_change rank p x) (change-new xs c w (sym same) e)
        ∙ ap (λ p. with_change rank (Some c.value) (with_change rank p x)) (sym e)
    go (Some v) e same =
        ap (λ p. with_change rank p x) (change-had xs c w v e)
        ∙ sym (change-again rank v c.value x)
        ∙ ap (λ p. with_change rank (Some c.value) (with_change rank p x)) (sym e)

-- ---- copies

module _ {shape : Shape} {node a l : ℕ} {words : ℕ → Word} {looks : ℕ → Look} {ow op nm time : List ℕ} {s : State}
    (old : IsCopyOf shape node a l words looks ow op nm time s) where
  -- the mark of a word
  mark-is : (w : ℕ) → (s.words w).mark
      ≡ cond (nat_lt (looks (page_of shape w)).accessed (words w).learned) (Some (rank_of (words w).weight (words w).from)) None
  mark-is w = ap (λ (x : memory.Word). x.mark) (old.words_are w)

  module _ (word value weight from : ℕ) where
    abbrev learned : State
    learned = with_one_change (rank_of weight from) word value s

    learned-here : (w : ℕ) → w ≡ word → learned.words w ≡ with_change (rank_of weight from) (Some value) (s.words w)
    learned-here w same = cond-true (w == word) (with_change (rank_of weight from) (Some value) (s.words w)) (s.words w) (eq-eqb w word same)

    learned-other : (w : ℕ) → (w ≡ word → ⊥) → learned.words w ≡ s.words w
    learned-other w other = cond-false (w == word) (with_change (rank_of weight from) (Some value) (s.words w)) (s.words w) (ne_eqb w word other)

    -- the word has a mark that is not lower
    pub after-change_left : nat_lt (looks (page_of shape word)).accessed (words word).learned ≡ true
        → is_lower (rank_of (words word).weight (words word).from) (rank_of weight from) ≡ false
        → IsCopyOf shape node a l words looks ow op nm time learned
    after-change_left marked higher = same-view old learned same (λ w. refl) (λ p. refl) (λ p. refl) refl
      where
        stays : replaces (rank_of weight from) (s.words word).mark ≡ false
        stays =
            ap (replaces (rank_of weight from)) (mark-is word)
            ∙ ap (replaces (rank_of weight from))
            (cond-true (nat_lt (looks (page_of shape word)).accessed (words word).learned) (Some (rank_of (words word).weight (words word).from)) None marked)
            ∙ higher

        same : (w : ℕ) → learned.words w ≡ s.words w
        same w =
            elim (cases_eq w word) [
              | inl here ↦
                  learned-here w here
                  ∙ change-left (rank_of weight from) value (s.words w) (ap (λ k. replaces (rank_of weight from) (s.words k).mark) here ∙ stays)
              | inr other ↦ learned-other w other
            ]

    -- the word has no mark, or a lower one
    module _ (held : Word) (words' : ℕ → Word) (puts : Puts words word held words') (sets : held.value ≡ value) (weighs : held.weight ≡ weight)
        (is_from : held.from ≡ from) (written_same : held.written ≡ (words word).written) (before_same : held.before ≡ (words word).before)
        (lt : a < l) (now : held.learned ≡ l) where
      seen-here : (w : ℕ) → w ≡ word → word_of (looks (page_of shape w)) (words' w) ≡ a_word value (Some (rank_of weight from))
      seen-here w here =
          let look = looks (page_of shape w) in
          let by = old.accessed_by (page_of shape w) in
          let less : look.accessed < held.learned = omega arith in
          ap (λ k. word_of look k) (put-here words word held words' puts w here)
          ∙ ap (a_word held.value) (cond-true (nat_lt look.accessed held.learned) (Some (rank_of held.weight held.from)) None (lt-ltb look.accessed held.learned less))
          ∙ ap (λ v. a_word v (Some (rank_of held.weight held.from))) sets
          ∙ ap (λ n. a_word value (Some (rank_of n held.from))) weighs
          ∙ ap (λ n. a_word value (Some (rank_of weight n))) is_from

      pub after-change_taken : replaces (rank_of weight from) (s.words word).mark ≡ true → IsCopyOf shape node a l words' looks ow op nm time learned
      after-change_taken taken = record {
        words_are = λ w.
            elim (cases_eq w word) [
              | inl here ↦
                  learned-here w here
                  ∙ change-taken (rank_of weight from) value (s.words w) (ap (λ k. replaces (rank_of weight from) (s.words k).mark) here ∙ taken)
                  ∙ sym (seen-here w here)
              | inr other ↦
                  learned-other w other ∙ old.words_are w
                  ∙ ap (λ k. word_of (looks (page_of shape w)) k) (sym (put-other words word held words' puts w other))
            ];
        before_is = λ w.
            old.before_is w
            ∙ ap (λ (n : ℕ). cond (n == entry time node + 1) (Some (words w).before) None) (sym (written-kept w))
            ∙ ap (λ (n : ℕ). cond ((words' w).written == entry time node + 1) (Some n) None) (sym (put-keeps words word held words' puts (λ (k : Word). k.before) before_same w));
        written_is = old.written_is;
        stale_is = old.stale_is;
        time_is = old.time_is;
        learned_by = λ w.
            elim (cases_eq w word) [
              | inl here ↦ let is = ap (λ (k : Word). k.learned) (put-here words word held words' puts w here) in omega arith
              | inr other ↦
                  let is = ap (λ (k : Word). k.learned) (put-other words word held words' puts w other) in
                  let h = old.learned_by w in
                  omega arith
            ];
        accessed_by = old.accessed_by;
        word_by = λ w. let kept = written-kept w in let h = old.word_by w in omega arith;
        page_by = old.page_by;
        opened = λ w is. old.opened w (sym (written-kept w) ∙ is);
        opened_page = old.opened_page;
        all_named = old.all_named;
      }
        where
          written-kept : (w : ℕ) → (words' w).written ≡ (words w).written
          written-kept w = put-keeps words word held words' puts (λ (k : Word). k.written) written_same w

    -- the word is not marked
    pub taken-unmarked : nat_lt (looks (page_of shape word)).accessed (words word).learned ≡ false → replaces (rank_of weight from) (s.words word).mark ≡ true
    taken-unmarked unmarked =
        ap (replaces (rank_of weight from)) (mark-is word)
        ∙ ap (replaces (rank_of weight from))
        (cond-false (nat_lt (looks (page_of shape word)).accessed (words word).learned) (Some (rank_of (words word).weight (words word).from)) None unmarked)

    -- its mark is lower
    pub taken-lower : is_lower (rank_of (words word).weight (words word).from) (rank_of weight from) ≡ true
        → replaces (rank_of weight from) (s.words word).mark ≡ true
    taken-lower lower =
        elim (cases_Bool (nat_lt (looks (page_of shape word)).accessed (words word).learned)) [
          | inr unmarked ↦ taken-unmarked unmarked
          | inl marked ↦
              ap (replaces (rank_of weight from)) (mark-is word)
              ∙ ap (replaces (rank_of weight from))
              (cond-true (nat_lt (looks (page_of shape word)).accessed (words word).learned) (Some (rank_of (words word).weight (words word).from)) None marked)
              ∙ lower
        ]

  -- a page is named that is stale already,
  pub after-name_again : (page : ℕ) → (looks page).stale ≡ true → IsCopyOf shape node a l words looks ow op nm time (with_one_page page s)
  after-name_again page was = same-view old (with_one_page page s) (λ w. refl) (λ w. refl) (λ p. refl) same refl
    where
      same : (p : ℕ) → ((p == page) || s.stale p) ≡ s.stale p
      same p =
          elim (cases_eq p page) [
            | inl here ↦
                or_left (p == page) (s.stale p) (eq-eqb p page here)
                ∙ sym (old.stale_is p ∙ ap (λ q. (looks q).stale) here ∙ was)
            | inr other ↦ ap (λ b. b || s.stale p) (ne_eqb p page other)
          ]

  -- or was not
  pub after-name : (page : ℕ) (look : Look) (looks' : ℕ → Look) → Puts looks page look looks' → look.accessed ≡ (looks page).accessed
      → look.written ≡ (looks page).written → look.stale ≡ true
      → IsCopyOf shape node a l words looks' ow op (nm ++ page ∷ []) time (with_one_page page s)
  after-name page look looks' puts accessed_same written_same is = record {
    words_are = λ w.
        old.words_are w
        ∙ ap (λ (n : ℕ). a_word (words w).value (cond (nat_lt n (words w).learned) (Some (rank_of (words w).weight (words w).from)) None))
        (sym (accessed-kept (page_of shape w)));
    before_is = old.before_is;
    written_is = λ p. old.written_is p ∙ ap (λ n. n == entry time node + 1) (sym (written-kept p));
    stale_is = λ p.
        elim (cases_eq p page) [
          | inl here ↦
              or_left (p == page) (s.stale p) (eq-eqb p page here)
              ∙ sym (ap (λ (k : Look). k.stale) (put-here looks page look looks' puts p here) ∙ is)
          | inr other ↦
              ap (λ b. b || s.stale p) (ne_eqb p page other) ∙ old.stale_is p
              ∙ ap (λ (k : Look). k.stale) (sym (put-other looks page look looks' puts p other))
        ];
    time_is = old.time_is;
    learned_by = old.learned_by;
    accessed_by = λ p. let kept = accessed-kept p in let h = old.accessed_by p in omega arith;
    word_by = old.word_by;
    page_by = λ p. let kept = written-kept p in let h = old.page_by p in omega arith;
    opened = old.opened;
    opened_page = λ p. old.opened_page p ∙ ap (λ n. n == entry time node + 1) (sym (written-kept p));
    all_named = λ p stale.
        elim (cases_eq p page) [
          | inl here ↦ has-push_here nm page p here
          | inr other ↦
              has-push nm page p (old.all_named p (ap (λ (k : Look). k.stale) (sym (put-other looks page look looks' puts p other)) ∙ stale))
        ];
  }
    where
      accessed-kept : (p : ℕ) → (looks' p).accessed ≡ (looks p).accessed
      accessed-kept p = put-keeps looks page look looks' puts (λ (k : Look). k.accessed) accessed_same p

      written-kept : (p : ℕ) → (looks' p).written ≡ (looks p).written
      written-kept p = put-keeps looks page look looks' puts (λ (k : Look). k.written) written_same p

-- ---- one thing more of a list

module _ {shape : Shape} {node a l : ℕ} {words : ℕ → Word} {looks : ℕ → Look} {ow op nm time : List ℕ} where
  pub changes-more : (rank : Rank) (xs : List Change) (c : Change) (s : State)
      → IsCopyOf shape node a l words looks ow op nm time (with_one_change rank c.word c.value (with_all_changes rank xs s))
      → IsCopyOf shape node a l words looks ow op nm time (with_all_changes rank (xs ++ c ∷ []) s)
  changes-more rank xs c s h =
      same-view h (with_all_changes rank (xs ++ c ∷ []) s) (λ w. change-more rank xs c w (s.words w)) (λ w. refl) (λ p. refl) (λ p. refl) refl

  pub pages-more : (xs : List ℕ) (page : ℕ) (s : State)
      → IsCopyOf shape node a l words looks ow op nm time (with_one_page page (with_all_pages xs s))
      → IsCopyOf shape node a l words looks ow op nm time (with_all_pages (xs ++ page ∷ []) s)
  pages-more xs page s h = same-view h (with_all_pages (xs ++ page ∷ []) s) (λ w. refl) (λ w. refl) (λ p. refl) same refl
    where
      same : (p : ℕ) → (s.stale p || has (xs ++ page ∷ []) p) ≡ ((p == page) || (s.stale p || has xs p))
      same p =
          elim (cases_eq p page) [
            | inl here ↦
                or_right (s.stale p) (has (xs ++ page ∷ []) p) (has-push_here xs page p here)
                ∙ sym (or_left (p == page) (s.stale p || has xs p) (eq-eqb p page here))
            | inr other ↦
                ap (λ b. s.stale p || b) (has-push_other xs page p other)
                ∙ sym (ap (λ b. b || (s.stale p || has xs p)) (ne_eqb p page other))
          ]
