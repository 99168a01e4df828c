-- What a copy is of, once its node has learned intervals of one node, and of all.
use Rattle.std.proofs.Common.{◌≡◌, ℕ, zero, suc, ◌+◌, ◌<◌, ◌≤◌, ◌||◌, ◌&&◌, Bool, true, false, cond, List}
use Rattle.std.proofs.Common.{refl, sym, ap, ◌∙◌, arith}
use Rattle.std.specs.Prelude.{◌==◌, nat_le}
use Rattle.std.proofs.lemmas.Bool.{cond-true, cond-false, le-leb, lt-leb}
use Rattle.lrc_time.specs.Time.{entry, joined}
use Rattle.lrc_time.proofs.Times.{entry-joined}
use Rattle.lrc_exact.specs.Memory as memory
use Rattle.lrc_exact.specs.Memory.{Interval}
use Rattle.lrc_exact.specs.Rule.{Shape, State, Knowledge, with_change, with_changes_of, with_news, names_between, is_named, with_learned}
use Rattle.lrc_exact_copies.specs.declared.copy.Word.{Word}
use Rattle.lrc_exact_copies.specs.declared.copy.Look.{Look}
use Rattle.lrc_exact_copies.specs.declared.made.Made.{Made}
use Rattle.lrc_exact_copies.specs.Copies.{IsCopyOf, before_of, with_one_interval, with_all_changes, with_all_pages}
use Rattle.lrc_exact_copies.specs.Learned.{with_row, with_rows}
use Rattle.lrc_exact_copies.specs.Made.{in_row, interval_of}
use Rattle.lrc_exact_copies.proofs.Copying.{same-view}

-- ---- the intervals of one node

module _ (node : ℕ) (f : ℕ → Interval) (first : ℕ) where
  -- none is new
  pub changes-none : (w last : ℕ) (x : memory.Word) → last ≤ first → with_changes_of node f w first last x ≡ x
  changes-none w zero x le = refl
  changes-none w (suc last) x le =
      cond-false (nat_le first last)
      (with_change (record { weight = (f (suc last)).weight; node = node }) ((f (suc last)).changed w) (with_changes_of node f w first last x))
      (with_changes_of node f w first last x) (lt-leb first last (omega arith))
      ∙ changes-none w last x (omega arith)

  pub names-none : (p last : ℕ) → last ≤ first → names_between f p first last ≡ false
  names-none p zero le = refl
  names-none p (suc last) le =
      ap (λ b. (b && (f (suc last)).names p) || names_between f p first last) (lt-leb first last (omega arith))
      ∙ names-none p last (omega arith)

  -- one more
  pub changes-one : (w i : ℕ) (x : memory.Word) → first ≤ i
      → with_changes_of node f w first (suc i) x
      ≡ with_change (record { weight = (f (suc i)).weight; node = node }) ((f (suc i)).changed w) (with_changes_of node f w first i x)
  changes-one w i x le =
      cond-true (nat_le first i)
      (with_change (record { weight = (f (suc i)).weight; node = node }) ((f (suc i)).changed w) (with_changes_of node f w first i x))
      (with_changes_of node f w first i x) (le-leb first i le)

  or-turn : (a b c : Bool) → (a || (c || b)) ≡ ((a || b) || c)
  or-turn true b c = refl
  or-turn false true true = refl
  or-turn false true false = refl
  or-turn false false true = refl
  or-turn false false false = refl

  pub names-one : (s : State) (p i : ℕ) → first ≤ i
      → (s.stale p || names_between f p first (suc i)) ≡ ((s.stale p || names_between f p first i) || (f (suc i)).names p)
  names-one s p i le =
      ap (λ b. s.stale p || ((b && (f (suc i)).names p) || names_between f p first i)) (le-leb first i le)
      ∙ or-turn (s.stale p) (names_between f p first i) ((f (suc i)).names p)

  -- the same from intervals that agree up to the last
  module _ (g : ℕ → Interval) where
    pub changes-agree : (w last : ℕ) (x : memory.Word) → ((i : ℕ) → i < last → f (suc i) ≡ g (suc i))
        → with_changes_of node f w first last x ≡ with_changes_of node g w first last x
    changes-agree w zero x same = refl
    changes-agree w (suc last) x same =
        ap (λ (k : Interval). cond (nat_le first last) (with_change (record { weight = k.weight; node = node }) (k.changed w) (with_changes_of node f w first last x))
        (with_changes_of node f w first last x)) (same last (omega arith))
        ∙ ap (λ y. cond (nat_le first last) (with_change (record { weight = (g (suc last)).weight; node = node }) ((g (suc last)).changed w) y) y)
        (changes-agree w last x (λ i lt. same i (omega arith)))

    pub names-agree : (p last : ℕ) → ((i : ℕ) → i < last → f (suc i) ≡ g (suc i)) → names_between f p first last ≡ names_between g p first last
    names-agree p zero same = refl
    names-agree p (suc last) same =
        ap (λ (k : Interval). (nat_le first last && k.names p) || names_between f p first last) (same last (omega arith))
        ∙ ap (λ b. (nat_le first last && (g (suc last)).names p) || b) (names-agree p last (λ i lt. same i (omega arith)))

-- ---- copies

module _ {shape : Shape} {node a l : ℕ} {words : ℕ → Word} {looks : ℕ → Look} {ow op nm time : List ℕ} where
  -- changes and pages of one interval
  pub interval-learned : (from : ℕ) (made : Made) (s : State)
      → IsCopyOf shape node a l words looks ow op nm time
      (with_all_pages made.pages.items (with_all_changes (record { weight = made.weight; node = from }) made.changes.items s))
      → IsCopyOf shape node a l words looks ow op nm time (with_one_interval from (interval_of made) s)
  interval-learned from made s h = same-view h (with_one_interval from (interval_of made) s) (λ w. refl) (λ w. refl) (λ p. refl) (λ p. refl) refl

  pub row-none : (from : ℕ) (f : ℕ → Interval) (first last : ℕ) (s : State) → last ≤ first → IsCopyOf shape node a l words looks ow op nm time s
      → IsCopyOf shape node a l words looks ow op nm time (with_row from f first last s)
  row-none from f first last s le h =
      same-view h (with_row from f first last s) (λ w. changes-none from f first w last (s.words w) le) (λ w. refl) (λ p. refl) stale refl
    where
      stale : (p : ℕ) → (s.stale p || names_between f p first last) ≡ s.stale p
      stale p = ap (λ b. s.stale p || b) (names-none from f first p last le) ∙ or-false (s.stale p)
        where
          or-false : (b : Bool) → (b || false) ≡ b
          or-false true = refl
          or-false false = refl

  -- nor is any, whichever is the last
  pub row-empty : (from : ℕ) (f : ℕ → Interval) (first i last : ℕ) (s : State) → i ≤ first → last ≤ first
      → IsCopyOf shape node a l words looks ow op nm time (with_row from f first i s)
      → IsCopyOf shape node a l words looks ow op nm time (with_row from f first last s)
  row-empty from f first i last s le le' h =
      same-view h (with_row from f first last s)
      (λ w. changes-none from f first w last (s.words w) le' ∙ sym (changes-none from f first w i (s.words w) le))
      (λ w. refl) (λ p. refl)
      (λ p. ap (λ b. s.stale p || b) (names-none from f first p last le' ∙ sym (names-none from f first p i le))) refl

  pub row-one : (from : ℕ) (f : ℕ → Interval) (first i : ℕ) (s : State) → first ≤ i
      → IsCopyOf shape node a l words looks ow op nm time (with_one_interval from (f (suc i)) (with_row from f first i s))
      → IsCopyOf shape node a l words looks ow op nm time (with_row from f first (suc i) s)
  row-one from f first i s le h =
      same-view h (with_row from f first (suc i) s) (λ w. changes-one from f first w i (s.words w) le) (λ w. refl) (λ p. refl)
      (λ p. names-one from f first s p i le) refl

  -- one node more
  pub rows-one : (q : ℕ) (row : List Made) (had : List ℕ) (news : Knowledge) (s : State)
      → ((i : ℕ) → i < entry news.time q → news.interval q (suc i) ≡ in_row row (suc i))
      → IsCopyOf shape node a l words looks ow op nm time (with_row q (in_row row) (entry had q) (entry news.time q) (with_rows q had news s))
      → IsCopyOf shape node a l words looks ow op nm time (with_rows (suc q) had news s)
  rows-one q row had news s agree h =
      same-view h (with_rows (suc q) had news s)
      (λ w. changes-agree q (news.interval q) (entry had q) (in_row row) w (entry news.time q) (with_news q had news w (s.words w)) agree)
      (λ w. refl) (λ p. refl) stale refl
    where
      or-turned : (x y z : Bool) → (x || (y || z)) ≡ ((x || z) || y)
      or-turned true y z = refl
      or-turned false true true = refl
      or-turned false true false = refl
      or-turned false false true = refl
      or-turned false false false = refl

      stale : (p : ℕ) → (s.stale p || is_named (suc q) had news p)
          ≡ ((s.stale p || is_named q had news p) || names_between (in_row row) p (entry had q) (entry news.time q))
      stale p =
          or-turned (s.stale p) (names_between (news.interval q) p (entry had q) (entry news.time q)) (is_named q had news p)
          ∙ ap (λ b. (s.stale p || is_named q had news p) || b)
          (names-agree q (news.interval q) (entry had q) (in_row row) p (entry news.time q) agree)

  -- all nodes: the time is joined
  pub rows-joined : (nodes : ℕ) (news : Knowledge) (s : State) → entry news.time node ≤ entry time node
      → IsCopyOf shape node a l words looks ow op nm time (with_rows nodes time news s) → s.knows.time ≡ time
      → IsCopyOf shape node a l words looks ow op nm (joined time news.time) (with_learned nodes news s)
  rows-joined nodes news s le h is = record {
    words_are = λ w. ap (λ t. with_news nodes t news w (s.words w)) is ∙ h.words_are w;
    before_is = λ w. h.before_is w ∙ ap (λ n. before_of (n + 1) (words w)) (sym own);
    written_is = λ p. h.written_is p ∙ ap (λ n. ((looks p).written == n + 1)) (sym own);
    stale_is = λ p. ap (λ t. s.stale p || is_named nodes t news p) is ∙ h.stale_is p;
    time_is = ap (λ t. joined t news.time) is;
    learned_by = h.learned_by;
    accessed_by = h.accessed_by;
    word_by = λ w. let b = h.word_by w in let o = own in omega arith;
    page_by = λ p. let b = h.page_by p in let o = own in omega arith;
    opened = λ w there. h.opened w (there ∙ ap (λ n. n + 1) own);
    opened_page = λ p. h.opened_page p ∙ ap (λ n. ((looks p).written == n + 1)) (sym own);
    all_named = h.all_named;
  }
    where
      own : entry (joined time news.time) node ≡ entry time node
      own = let both = entry-joined time news.time node in omega arith
