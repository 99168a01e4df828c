-- What is learned in two runs is alike, where each of its comparisons is decided.
use Rattle.std.proofs.Common.{◌≡◌, ℕ, zero, suc, ◌+◌, ◌<◌, ◌≤◌, ◌&&◌, ◌||◌, Bool, true, false, List, inl, inr, refl, sym, subst, ap, ap₂, ◌∙◌, arith}
use Rattle.std.specs.Prelude.{◌==◌, ◌⊎◌, Option, Some, None, max, if◌then◌else◌, nat_le, nat_lt}
use Rattle.std.proofs.lemmas.Bool.{cases_Bool, cases_eq, cases_lt, cond-true, cond-false, eq-eqb, le-leb, lt-leb, lt-ltb, ltb-true, ne_eqb, both_ways}
use Rattle.lrc_time.specs.Time.{entry, joined, weight_of}
use Rattle.lrc_time.proofs.Times.{entry-joined, length-joined_same}
use Rattle.lrc_exact.specs.Memory.{Interval, Rank, Word, is_lower, replaces}
use Rattle.lrc_exact.specs.Rule.{Knowledge, State, known_together, with_change, with_changes_of, with_learned, with_news}
use Rattle.lrc_exact_states.specs.Levels.{AreChangesAlike, AreLevels, AreRising, Change, IsWeightAlike, last_change, newest, no_change, one_change, Levels, Table}
use Rattle.lrc_exact_states.specs.Alike.{AreDecided, IsDecided, IsKnowledgeAlike, IsLow, IsMarkAlike, low, high, IsMarkOf, IsOfTable, IsStateAlike, IsWordAlike}
use Rattle.lrc_exact_states.proofs.Levels.{last-agree, last-is, last-none, last-one, level_max, rising-agree, told_apart}

-- ---- Of one node's intervals the last change decides.

abbrev pub applied : ℕ → Option Change → Word → Word
applied node None now = now
applied node (Some change) now = with_change (record { weight = change.weight; node = node }) (Some change.value) now

lower_by_weight : (a b : Rank) → a.weight < b.weight → is_lower a b ≡ true
lower_by_weight a b lt = ap (λ p. p || ((a.weight == b.weight) && nat_lt a.node b.node)) (lt-ltb a.weight b.weight lt)

-- a heavier change in place of an earlier one
over : (rank old : Rank) (v u : ℕ) (now : Word) → old.weight < rank.weight
    → with_change rank (Some v) (with_change old (Some u) now) ≡ with_change rank (Some v) now
over rank old v u now lt = go (replaces old now.mark) refl
  where
    still : (m : Option Rank) → replaces old m ≡ true → replaces rank m ≡ true
    still None is = refl
    still (Some m) is = lower_by_weight m rank (below (nat_lt m.weight old.weight) refl)
      where
        below : (b : Bool) → nat_lt m.weight old.weight ≡ b → m.weight < rank.weight
        below true x = let l = ltb-true m.weight old.weight x in omega (arith, l, lt)
        below false x = elim (cases_eq m.weight old.weight) [
          | inl same ↦ omega (arith, same, lt)
          | inr apart ↦
              let no : is_lower m old ≡ false =
              ap₂ (λ p q. p || (q && nat_lt m.node old.node)) x (ne_eqb m.weight old.weight apart) in
              absurd (both_ways (is_lower m old) no is)
        ]

    go : (b : Bool) → replaces old now.mark ≡ b
        → with_change rank (Some v) (if b then record { value = u; mark = Some old } else now) ≡ with_change rank (Some v) now
    go false e = refl
    go true e =
        cond-true (is_lower old rank) (record { value = v; mark = Some rank }) (record { value = u; mark = Some old }) (lower_by_weight old rank lt)
        ∙ sym (cond-true (replaces rank now.mark) (record { value = v; mark = Some rank }) now (still now.mark e))

-- the changes of a node whose weights rise come to the last of them
pub by_last : (node : ℕ) (f : ℕ → Interval) (word first last : ℕ) (now : Word) → AreRising f last
    → with_changes_of node f word first last now ≡ applied node (last_change f word first last) now
by_last node f word first zero now rising = refl
by_last node f word first (suc last) now rising = elim (cases_lt last first) [
  | inl lt ↦
      cond-false (nat_le first last) (with_change (record { weight = (f (suc last)).weight; node = node }) ((f (suc last)).changed word) (with_changes_of node f word first last now))
      (with_changes_of node f word first last now) (lt-leb first last lt)
      ∙ by_last node f word first last now earlier
      ∙ ap (λ (o : Option Change). applied node o now)
      (last-none f word first last (omega (arith, lt)) ∙ sym (last-none f word first (suc last) (omega (arith, lt))))
  | inr le ↦
      cond-true (nat_le first last) (with_change (record { weight = (f (suc last)).weight; node = node }) ((f (suc last)).changed word) (with_changes_of node f word first last now))
      (with_changes_of node f word first last now) (le-leb first last le)
      ∙ ap (with_change (record { weight = (f (suc last)).weight; node = node }) ((f (suc last)).changed word)) (by_last node f word first last now earlier)
      ∙ go ((f (suc last)).changed word) (last_change f word first last) refl
      ∙ ap (λ (o : Option Change). applied node o now) (sym (last-one f word first last le))
]
  where
    earlier : AreRising f last
    earlier i j some lt le = rising i j some lt (omega (arith, le))

    go : (o : Option ℕ) (c : Option Change) → last_change f word first last ≡ c
        → with_change (record { weight = (f (suc last)).weight; node = node }) o (applied node c now)
        ≡ applied node (newest o (f (suc last)).weight c) now
    go None c is = refl
    go (Some v) None is = refl
    go (Some v) (Some c) is =
        let b = last-is f word first last c is in
        let n = b.new in
        let k = b.known in
        let r = rising b.index (suc last) (omega (arith, n)) (omega (arith, k)) (omega arith) in
        let w = b.weighs in
        over (record { weight = (f (suc last)).weight; node = node }) (record { weight = c.weight; node = node }) v c.value now (omega (arith, r, w))

-- ---- marks are of intervals that are known

-- a mark once the news of the first so many nodes have come
abbrev pub IsTaken : (made : Table) (had known : List ℕ) (count : ℕ) → Option Rank → Type 0
IsTaken made had known count None = Unit {0}
IsTaken made had known count (Some rank) = ((rank.node < count) × IsMarkOf made known (Some rank)) ⊎ IsMarkOf made had (Some rank)

-- the change is heavier than a mark of the same node
abbrev pub IsNewer : (node : ℕ) → Option Rank → Option Change → Type 0
IsNewer node (Some mark) (Some change) = mark.node ≡ node → mark.weight < change.weight
IsNewer node _ _ = Unit {0}

module _ (nodes : ℕ) (made : Table) (had : List ℕ) (news : Knowledge) (is : IsOfTable nodes made news)
    (rising : (q : ℕ) → q < nodes → AreRising (made q) (entry news.time q)) (word : ℕ) where
  abbrev change_by : ℕ → Option Change
  change_by q = last_change (news.interval q) word (entry had q) (entry news.time q)

  rising_here : (q : ℕ) → q < nodes → AreRising (news.interval q) (entry news.time q)
  rising_here q lt = rising-agree (made q) (news.interval q) (entry news.time q) (λ i some le. sym (is q i lt some le)) (rising q lt)

  pub news_one : (q : ℕ) (now : Word) → q < nodes → with_news (suc q) had news word now ≡ applied q (change_by q) (with_news q had news word now)
  news_one q now lt = by_last q (news.interval q) word (entry had q) (entry news.time q) (with_news q had news word now) (rising_here q lt)

  -- a change of the news is by an interval that was made
  pub record IsNewsOf (q : ℕ) (change : Change) : Type 0 where
    pub index : ℕ
    pub new : entry had q < index
    pub known : index ≤ entry news.time q
    pub weighs : change.weight ≡ (made q index).weight

  pub is_news : (q : ℕ) (change : Change) → q < nodes → change_by q ≡ Some change → IsNewsOf q change
  is_news q change lt e =
      let b = last-is (news.interval q) word (entry had q) (entry news.time q) change e in
      let n = b.new in
      record {
        index = b.index;
        new = b.new;
        known = b.known;
        weighs = b.weighs ∙ ap (λ (k : Interval). k.weight) (is q b.index lt (omega (arith, n)) b.known);
      }

  taken_more : (q : ℕ) (mark : Option Rank) → IsTaken made had news.time q mark → IsTaken made had news.time (suc q) mark
  taken_more q None t = tt
  taken_more q (Some rank) (inl (lt, m)) = inl (omega (arith, lt), m)
  taken_more q (Some rank) (inr m) = inr m

  pub taken : (q : ℕ) (now : Word) → q ≤ nodes → IsMarkOf made had now.mark → IsTaken made had news.time q (with_news q had news word now).mark
  taken zero now le m = first now.mark m
    where
      first : (mark : Option Rank) → IsMarkOf made had mark → IsTaken made had news.time zero mark
      first None m = tt
      first (Some rank) m = inr m
  taken (suc q) now le m =
      subst (λ (x : Word). IsTaken made had news.time (suc q) x.mark) (sym (news_one q now (omega (arith, le))))
      (go (change_by q) refl (with_news q had news word now) (taken q now (omega (arith, le)) m))
    where
      go : (c : Option Change) → change_by q ≡ c → (x : Word) → IsTaken made had news.time q x.mark → IsTaken made had news.time (suc q) (applied q c x).mark
      go None e x t = taken_more q x.mark t
      go (Some c) e x t = put (replaces (record { weight = c.weight; node = q }) x.mark)
        where
          put : (b : Bool) → IsTaken made had news.time (suc q) (if b then record { value = c.value; mark = Some (record { weight = c.weight; node = q }) } else x).mark
          put false = taken_more q x.mark t
          put true =
              let n = is_news q c (omega (arith, le)) e in
              let new = n.new in
              inl (omega arith, (n.index, omega (arith, new), n.known, n.weighs))

  -- so each change is heavier than a mark of its node
  pub newer : (q : ℕ) (now : Word) → q < nodes → IsMarkOf made had now.mark → IsNewer q (with_news q had news word now).mark (change_by q)
  newer q now lt m = go (with_news q had news word now).mark (change_by q) (taken q now (omega (arith, lt)) m) refl
    where
      go : (mark : Option Rank) (c : Option Change) → IsTaken made had news.time q mark → change_by q ≡ c → IsNewer q mark c
      go None c t e = tt
      go (Some mark) None t e = tt
      go (Some mark) (Some c) (inl (less, m)) e = λ own. absurd (omega (arith, less, own))
      go (Some mark) (Some c) (inr (i, some, known, weighs)) e = λ own.
          let n = is_news q c lt e in
          let new = n.new in
          let heavy = n.weighs in
          let known' : i ≤ entry had q = subst (λ k. i ≤ entry had k) own known in
          let weighs' : mark.weight ≡ (made q i).weight = subst (λ k. mark.weight ≡ (made k i).weight) own weighs in
          let r = rising q lt i n.index some (omega (arith, known', new)) n.known in
          omega (arith, r, weighs', heavy)

  -- in the end the mark is of what is known then
  pub marked : (now : Word) → IsMarkOf made had now.mark → IsMarkOf made (joined had news.time) (with_news nodes had news word now).mark
  marked now m = go (with_news nodes had news word now).mark (taken nodes now (omega arith) m)
    where
      go : (mark : Option Rank) → IsTaken made had news.time nodes mark → IsMarkOf made (joined had news.time) mark
      go None t = tt
      go (Some mark) (inl (lt, (i, some, known, weighs))) =
          let both = entry-joined had news.time mark.node in (i, some, omega (arith, both, known), weighs)
      go (Some mark) (inr (i, some, known, weighs)) =
          let both = entry-joined had news.time mark.node in (i, some, omega (arith, both, known), weighs)

-- ---- two runs

-- a low mark gives way
gives_way : (bound : ℕ) (rank : Rank) (mark : Option Rank) → bound < rank.weight → IsLow bound mark → replaces rank mark ≡ true
gives_way bound rank None above is = refl
gives_way bound rank (Some mark) above is = lower_by_weight mark rank (omega (arith, above, is))

same_lt : (w v w' v' : ℕ) → (w < v → w' < v') → (w' < v' → w < v) → nat_lt w v ≡ nat_lt w' v'
same_lt w v w' v' on back = elim (cases_Bool (nat_lt w v)) [
  | inl holds ↦ holds ∙ sym (lt-ltb w' v' (on (ltb-true w v holds)))
  | inr fails ↦ elim (cases_Bool (nat_lt w' v')) [
    | inr fails' ↦ fails ∙ sym fails'
    | inl holds' ↦ absurd (both_ways (nat_lt w v) fails (lt-ltb w v (back (ltb-true w' v' holds'))))
  ]
]

same_eq : (w v w' v' : ℕ) → (w ≡ v → w' ≡ v') → (w' ≡ v' → w ≡ v) → (w == v) ≡ (w' == v')
same_eq w v w' v' on back = elim (cases_eq w v) [
  | inl same ↦ eq-eqb w v same ∙ sym (eq-eqb w' v' (on same))
  | inr other ↦ ne_eqb w v other ∙ sym (ne_eqb w' v' (λ same'. other (back same')))
]

module _ {cap : ℕ} {floor floor' : List ℕ} where
  replaced_alike : (node : ℕ) (m m' : Option Rank) (c c' : Change) → IsMarkAlike cap floor floor' m m' → IsWeightAlike cap floor floor' c.weight c'.weight
      → IsDecided cap floor' node m' (Some c') → IsNewer node m (Some c) → IsNewer node m' (Some c')
      → replaces (record { weight = c.weight; node = node }) m ≡ replaces (record { weight = c'.weight; node = node }) m'
  replaced_alike node m m' c c' (low is is') w decided new new' =
      gives_way (weight_of floor) (record { weight = c.weight; node = node }) m w.above is
      ∙ sym (gives_way (weight_of floor') (record { weight = c'.weight; node = node }) m' w.above' is')
  replaced_alike node (Some m) (Some m') c c' (high same v) w decided new new' = go decided
    where
      by_told : (m'.weight < weight_of floor' + cap) ⊎ (c'.weight < weight_of floor' + cap)
          → is_lower m (record { weight = c.weight; node = node }) ≡ is_lower m' (record { weight = c'.weight; node = node })
      by_told d =
          let t = told_apart m.weight c.weight m'.weight c'.weight v w d in
          ap₂ (λ p q. p || (q && nat_lt m.node node)) (same_lt m.weight c.weight m'.weight c'.weight t.less t.less')
          (same_eq m.weight c.weight m'.weight c'.weight t.same t.same')
          ∙ ap (λ k. nat_lt m'.weight c'.weight || ((m'.weight == c'.weight) && nat_lt k node)) (sym same)

      go : (m'.weight < weight_of floor' + cap) ⊎ ((c'.weight < weight_of floor' + cap) ⊎ (m'.node ≡ node))
          → is_lower m (record { weight = c.weight; node = node }) ≡ is_lower m' (record { weight = c'.weight; node = node })
      go (inl d) = by_told (inl d)
      go (inr (inl d)) = by_told (inr d)
      go (inr (inr own)) =
          lower_by_weight m (record { weight = c.weight; node = node }) (new (sym same ∙ own))
          ∙ sym (lower_by_weight m' (record { weight = c'.weight; node = node }) (new' own))

  applied_alike : (node : ℕ) (c c' : Option Change) (x x' : Word) → AreChangesAlike cap floor floor' c c' → IsWordAlike cap floor floor' x x'
      → IsDecided cap floor' node x'.mark c' → IsNewer node x.mark c → IsNewer node x'.mark c' → IsWordAlike cap floor floor' (applied node c x) (applied node c' x')
  applied_alike node None None x x' no_change a decided new new' = a
  applied_alike node None (Some c') x x' none a decided new new' = elim none [ ]
  applied_alike node (Some c) None x x' none a decided new new' = elim none [ ]
  applied_alike node (Some c) (Some c') x x' (one_change same w) a decided new new' =
      go (replaces (record { weight = c.weight; node = node }) x.mark) (replaces (record { weight = c'.weight; node = node }) x'.mark)
      (replaced_alike node x.mark x'.mark c c' a.mark w decided new new')
    where
      go : (b b' : Bool) → b ≡ b'
          → IsWordAlike cap floor floor' (if b then record { value = c.value; mark = Some (record { weight = c.weight; node = node }) } else x)
          (if b' then record { value = c'.value; mark = Some (record { weight = c'.weight; node = node }) } else x')
      go true true e = record { value = same; mark = high refl w }
      go false false e = a
      go true false e = let never : ⊥ = cc in absurd never
      go false true e = let never : ⊥ = cc in absurd never

module _ (nodes cap : ℕ) (floor floor' : List ℕ) (made made' : Table) (level : Levels) (levels : AreLevels cap floor floor' made made' level) where
  abbrev KnowAlike : Knowledge → Knowledge → Type 0
  KnowAlike k k' = IsKnowledgeAlike nodes made made' level k k'

  rising_of : (k k' : Knowledge) → KnowAlike k k' → (q : ℕ) → q < nodes → AreRising (made q) (entry k.time q)
  rising_of k k' a q lt = (levels.rising q (entry k.time q) (entry k'.time q) (a.at q lt)).0

  rising_of' : (k k' : Knowledge) → KnowAlike k k' → (q : ℕ) → q < nodes → AreRising (made' q) (entry k'.time q)
  rising_of' k k' a q lt = (levels.rising q (entry k.time q) (entry k'.time q) (a.at q lt)).1

  module _ (mine mine' news news' : Knowledge) (m : KnowAlike mine mine') (n : KnowAlike news news') where
    abbrev had : List ℕ
    had = mine.time

    abbrev had' : List ℕ
    had' = mine'.time

    -- the last changes that are news
    changes_alike : (q word : ℕ) → q < nodes
        → AreChangesAlike cap floor floor' (last_change (news.interval q) word (entry had q) (entry news.time q))
        (last_change (news'.interval q) word (entry had' q) (entry news'.time q))
    changes_alike q word lt = elim (cases_lt (entry news.time q) (entry had q)) [
      | inr le ↦
          subst (λ (o : Option Change). AreChangesAlike cap floor floor' o (last_change (news'.interval q) word (entry had' q) (entry news'.time q)))
          (last-agree (made q) word (entry had q) (news.interval q) (entry news.time q) (λ i less. sym (n.made_here q (suc i) lt (omega arith) (omega (arith, less)))))
          (subst (λ (o : Option Change). AreChangesAlike cap floor floor' (last_change (made q) word (entry had q) (entry news.time q)) o)
          (last-agree (made' q) word (entry had' q) (news'.interval q) (entry news'.time q)
          (λ i less. sym (n.made_here' q (suc i) lt (omega arith) (omega (arith, less)))))
          (levels.changes q word (entry had q) (entry had' q) (entry news.time q) (entry news'.time q) (m.at q lt) (n.at q lt) le))
      | inl less ↦
          let le' = levels.order q (entry news.time q) (entry news'.time q) (entry had q) (entry had' q) (n.at q lt) (m.at q lt) (omega (arith, less)) in
          subst (λ (o : Option Change). AreChangesAlike cap floor floor' o (last_change (news'.interval q) word (entry had' q) (entry news'.time q)))
          (sym (last-none (news.interval q) word (entry had q) (entry news.time q) (omega (arith, less))))
          (subst (λ (o : Option Change). AreChangesAlike cap floor floor' None o)
          (sym (last-none (news'.interval q) word (entry had' q) (entry news'.time q) le')) no_change)
    ]

    news_alike : (word count : ℕ) (now now' : Word) → count ≤ nodes → IsWordAlike cap floor floor' now now' → IsMarkOf made had now.mark
        → IsMarkOf made' had' now'.mark → AreDecided cap floor' count had' news' word now'
        → IsWordAlike cap floor floor' (with_news count had news word now) (with_news count had' news' word now')
    news_alike word zero now now' le a x x' decided = a
    news_alike word (suc q) now now' le a x x' (before, last) =
        let lt : q < nodes = omega (arith, le) in
        let here = news_alike word q now now' (omega (arith, le)) a x x' before in
        subst (λ (y : Word). IsWordAlike cap floor floor' y (with_news (suc q) had' news' word now'))
        (sym (news_one nodes made had news n.made_here (rising_of news news' n) word q now lt))
        (subst (λ (y : Word). IsWordAlike cap floor floor' (applied q (last_change (news.interval q) word (entry had q) (entry news.time q)) (with_news q had news word now)) y)
        (sym (news_one nodes made' had' news' n.made_here' (rising_of' news news' n) word q now' lt))
        (applied_alike q (last_change (news.interval q) word (entry had q) (entry news.time q)) (last_change (news'.interval q) word (entry had' q) (entry news'.time q))
        (with_news q had news word now) (with_news q had' news' word now') (changes_alike q word lt) here last
        (newer nodes made had news n.made_here (rising_of news news' n) word q now lt x)
        (newer nodes made' had' news' n.made_here' (rising_of' news news' n) word q now' lt x')))

    -- what two know together
    pub together_alike : KnowAlike (known_together mine news) (known_together mine' news')
    together_alike = record {
      wide = length-joined_same mine.time news.time (m.wide ∙ sym n.wide) ∙ m.wide;
      wide' = length-joined_same mine'.time news'.time (m.wide' ∙ sym n.wide') ∙ m.wide';
      at = λ q lt.
          subst (λ a. level q a (entry (joined had' news'.time) q)) (sym (entry-joined had news.time q))
          (subst (λ a. level q (max (entry had q) (entry news.time q)) a) (sym (entry-joined had' news'.time q))
          (level_max levels q (entry had q) (entry had' q) (entry news.time q) (entry news'.time q) (m.at q lt) (n.at q lt)));
      made_here = together_made made mine news m.made_here n.made_here;
      made_here' = together_made made' mine' news' m.made_here' n.made_here';
    }
      where
        together_made : (t : Table) (k other : Knowledge) → IsOfTable nodes t k → IsOfTable nodes t other → IsOfTable nodes t (known_together k other)
        together_made t k other is is' q j lt some le = elim (cases_lt (entry k.time q) j) [
          | inl above ↦
              let both = entry-joined k.time other.time q in
              cond-false (nat_le j (entry k.time q)) (k.interval q j) (other.interval q j) (lt-leb j (entry k.time q) above)
              ∙ is' q j lt some (omega (arith, both, above, le))
          | inr below ↦
              cond-true (nat_le j (entry k.time q)) (k.interval q j) (other.interval q j) (le-leb j (entry k.time q) below) ∙ is q j lt some below
        ]

  -- ---- a node learns

  abbrev StatesAlike : State → State → Type 0
  StatesAlike s s' = IsStateAlike nodes cap floor floor' made made' level s s'

  pub learned_alike : (news news' : Knowledge) (state state' : State) → KnowAlike news news' → StatesAlike state state'
      → ((word : ℕ) → AreDecided cap floor' nodes state'.knows.time news' word (state'.words word))
      → StatesAlike (with_learned nodes news state) (with_learned nodes news' state')
  learned_alike news news' state state' n s decided = record {
    words = λ word.
        news_alike state.knows state'.knows news news' s.knows n word nodes (state.words word) (state'.words word) (omega arith) (s.words word) (s.marks word)
        (s.marks' word) (decided word);
    before = s.before;
    knows = together_alike state.knows state'.knows news news' s.knows n;
    marks = λ word. marked nodes made state.knows.time news n.made_here (rising_of news news' n) word (state.words word) (s.marks word);
    marks' = λ word. marked nodes made' state'.knows.time news' n.made_here' (rising_of' news news' n) word (state'.words word) (s.marks' word);
  }
