-- What an act makes of states that are alike is alike.
use Rattle.std.proofs.Common.{◌≡◌, ℕ, zero, suc, ◌<◌, ◌≤◌, ◌&&◌, Bool, true, false, List, [], ◌∷◌, length, inl, inr, refl, sym, subst, ap, ap₂, ◌∙◌, arith}
use Rattle.std.specs.Prelude.{◌==◌, Option, Some, None, if◌then◌else◌, nat_le, unwrap_or}
use Rattle.std.proofs.lemmas.Bool.{cases_lt, cond-true, cond-false, le-leb, lt-leb}
use Rattle.std.proofs.lemmas.List.{length-replicate}
use Rattle.lrc_time.specs.Time.{entry, joined}
use Rattle.lrc_time.proofs.Times.{entry-joined, entry-zeros, length-joined_same}
use Rattle.lrc_exact.specs.Memory.{Interval, Rank, Word}
use Rattle.lrc_exact.specs.Rule.{Knowledge, Shape, State, accessed, collected, collects, departed, known_by_all, known_together}
use Rattle.lrc_exact.specs.Rule.{page_of, some_asks, with_arrived, with_change, with_changes_of, with_learned, with_news, with_write}
use Rattle.lrc_exact_states.specs.Levels.{AreLevels, Levels, Table}
use Rattle.lrc_exact_states.specs.Alike.{AreDecided, IsAllAlike, some_arrive, no_arrive, if_handed, IsHandedAlike, handed, known_to_all, IsKnowledgeAlike, IsKnownToAll, low, IsMarkOf, IsOfTable, IsStateAlike, IsWordAlike, ArriveAlike}
use Rattle.lrc_exact_states.proofs.Learning.{learned_alike, together_alike}

-- ---- nothing new is learned

pub changes-old : (node : ℕ) (f : ℕ → Interval) (word first last : ℕ) (now : Word) → last ≤ first → with_changes_of node f word first last now ≡ now
changes-old node f word first zero now le = refl
changes-old node f word first (suc last) now le =
    cond-false (nat_le first last) (with_change (record { weight = (f (suc last)).weight; node = node }) ((f (suc last)).changed word) (with_changes_of node f word first last now))
    (with_changes_of node f word first last now) (lt-leb first last (omega (arith, le)))
    ∙ changes-old node f word first last now (omega (arith, le))

pub news-old : (count : ℕ) (had : List ℕ) (news : Knowledge) (word : ℕ) (now : Word) → ((q : ℕ) → q < count → entry news.time q ≤ entry had q)
    → with_news count had news word now ≡ now
news-old zero had news word now old = refl
news-old (suc q) had news word now old =
    changes-old q (news.interval q) word (entry had q) (entry news.time q) (with_news q had news word now) (old q (omega arith))
    ∙ news-old q had news word now (λ k lt. old k (omega (arith, lt)))

-- where no barrier collects
pub calm_departed : (shape : Shape) → shape.collect ≡ 0 → (x : State) (o : ℕ → Option State)
    → departed shape x o ≡ with_learned shape.nodes (known_by_all shape.nodes shape.nodes o) x
calm_departed shape none x o =
    let all = known_by_all shape.nodes shape.nodes o in
    cond-false (collects shape o) (collected shape all o (with_learned shape.nodes all x)) (with_learned shape.nodes all x)
    (ap (λ c. nat_le 1 c && some_asks shape.nodes c o) none)

-- one state has what another has, as far as its nodes know
pub record IsAs (nodes : ℕ) (made : Table) (state like : State) : Type 0 where
  pub words : (word : ℕ) → state.words word ≡ like.words word
  pub before : (word : ℕ) → state.before word ≡ like.before word
  pub wide : length state.knows.time ≡ nodes
  pub times : (q : ℕ) → entry state.knows.time q ≡ entry like.knows.time q
  pub made_here : IsOfTable nodes made state.knows

pub nothing_learned : (nodes : ℕ) (made : Table) (news : Knowledge) (state : State) → length news.time ≡ nodes → length state.knows.time ≡ nodes
    → ((q : ℕ) → entry news.time q ≤ entry state.knows.time q) → IsOfTable nodes made state.knows → IsAs nodes made (with_learned nodes news state) state
nothing_learned nodes made news state long size old is = record {
  words = λ word. news-old nodes state.knows.time news word (state.words word) (λ q lt. old q);
  before = λ word. refl;
  wide = length-joined_same state.knows.time news.time (size ∙ sym long) ∙ size;
  times = λ q. let both = entry-joined state.knows.time news.time q in let o = old q in omega (arith, both, o);
  made_here = λ q j lt some le.
      let both = entry-joined state.knows.time news.time q in
      let o = old q in
      let known : j ≤ entry state.knows.time q = omega (arith, both, o, le) in
      cond-true (nat_le j (entry state.knows.time q)) (state.knows.interval q j) (news.interval q j) (le-leb j (entry state.knows.time q) known)
      ∙ is q j lt some known;
}

mark_as : (made : Table) (time like : List ℕ) (mark : Option Rank) → ((q : ℕ) → entry time q ≡ entry like q) → IsMarkOf made like mark → IsMarkOf made time mark
mark_as made time like None same m = tt
mark_as made time like (Some mark) same (i, some, known, weighs) = let e = same mark.node in (i, some, omega (arith, e, known), weighs)

module _ (shape : Shape) (cap : ℕ) (floor floor' : List ℕ) (made made' : Table) (level : Levels)
    (levels : AreLevels cap floor floor' made made' level) where
  abbrev nodes : ℕ
  nodes = shape.nodes

  abbrev StatesAlike : State → State → Type 0
  StatesAlike s s' = IsStateAlike nodes cap floor floor' made made' level s s'

  abbrev KnowAlike : Knowledge → Knowledge → Type 0
  KnowAlike k k' = IsKnowledgeAlike nodes made made' level k k'

  as_first : (state like state' : State) → IsAs nodes made state like → StatesAlike like state' → StatesAlike state state'
  as_first state like state' x s = record {
    words = λ word. subst (λ (w : Word). IsWordAlike cap floor floor' w (state'.words word)) (sym (x.words word)) (s.words word);
    before = λ word. s.before word ∙ sym (x.before word);
    knows = record {
      wide = x.wide;
      wide' = s.knows.wide';
      at = λ q lt. subst (λ a. level q a (entry state'.knows.time q)) (sym (x.times q)) (s.knows.at q lt);
      made_here = x.made_here;
      made_here' = s.knows.made_here';
    };
    marks = λ word.
        subst (λ (w : Word). IsMarkOf made state.knows.time w.mark) (sym (x.words word))
        (mark_as made state.knows.time like.knows.time (like.words word).mark x.times (s.marks word));
    marks' = s.marks';
  }

  as_second : (state state' like : State) → IsAs nodes made' state' like → StatesAlike state like → StatesAlike state state'
  as_second state state' like x s = record {
    words = λ word. subst (λ (w : Word). IsWordAlike cap floor floor' (state.words word) w) (sym (x.words word)) (s.words word);
    before = λ word. x.before word ∙ s.before word;
    knows = record {
      wide = s.knows.wide;
      wide' = x.wide;
      at = λ q lt. subst (λ a. level q (entry state.knows.time q) a) (sym (x.times q)) (s.knows.at q lt);
      made_here = s.knows.made_here;
      made_here' = x.made_here;
    };
    marks = s.marks;
    marks' = λ word.
        subst (λ (w : Word). IsMarkOf made' state'.knows.time w.mark) (sym (x.words word))
        (mark_as made' state'.knows.time like.knows.time (like.words word).mark x.times (s.marks' word));
  }

  -- ---- accesses

  no_mark : (made_ : Table) (time : List ℕ) (b : Bool) (word : Word) → IsMarkOf made_ time word.mark
      → IsMarkOf made_ time (if b then record word { mark = None } else word).mark
  no_mark made_ time true word m = tt
  no_mark made_ time false word m = m

  unmarked_alike : (b : Bool) (word word' : Word) → IsWordAlike cap floor floor' word word'
      → IsWordAlike cap floor floor' (if b then record word { mark = None } else word) (if b then record word' { mark = None } else word')
  unmarked_alike true word word' alike = record { value = alike.value; mark = low tt tt }
  unmarked_alike false word word' alike = alike

  accessed_alike : (page : ℕ) (state state' : State) → StatesAlike state state' → StatesAlike (accessed shape page state) (accessed shape page state')
  accessed_alike page state state' s = record {
    words = λ word. unmarked_alike (page_of shape word == page) (state.words word) (state'.words word) (s.words word);
    before = s.before;
    knows = s.knows;
    marks = λ word. no_mark made state.knows.time (page_of shape word == page) (state.words word) (s.marks word);
    marks' = λ word. no_mark made' state'.knows.time (page_of shape word == page) (state'.words word) (s.marks' word);
  }

  set_alike : (b : Bool) (value : ℕ) (word word' : Word) → IsWordAlike cap floor floor' word word'
      → IsWordAlike cap floor floor' (if b then record { value = value; mark = None } else word) (if b then record { value = value; mark = None } else word')
  set_alike true value word word' alike = record { value = refl; mark = low tt tt }
  set_alike false value word word' alike = alike

  set_mark : (made_ : Table) (time : List ℕ) (b : Bool) (value : ℕ) (word : Word) → IsMarkOf made_ time word.mark
      → IsMarkOf made_ time (if b then record { value = value; mark = None } else word).mark
  set_mark made_ time true value word m = tt
  set_mark made_ time false value word m = m

  before_alike : (b : Bool) (before before' : Option ℕ) (value value' : ℕ) → before' ≡ before → value' ≡ value
      → (if b then Some (unwrap_or before' value') else before') ≡ (if b then Some (unwrap_or before value) else before)
  before_alike true before before' value value' one two = ap₂ (λ o v. Some (unwrap_or o v)) one two
  before_alike false before before' value value' one two = one

  write_alike : (written value : ℕ) (state state' : State) → StatesAlike state state'
      → StatesAlike (with_write shape written value state) (with_write shape written value state')
  write_alike written value state state' s = record {
    words = λ word. set_alike (word == written) value (state.words word) (state'.words word) (s.words word);
    before = λ word.
        before_alike (word == written) (state.before word) (state'.before word) (state.words word).value (state'.words word).value (s.before word)
        (s.words word).value;
    knows = s.knows;
    marks = λ word. set_mark made state.knows.time (word == written) value (state.words word) (s.marks word);
    marks' = λ word. set_mark made' state'.knows.time (word == written) value (state'.words word) (s.marks' word);
  }

  pub read_alike : (word : ℕ) (state state' : State) → StatesAlike state state'
      → StatesAlike (accessed shape (page_of shape word) state) (accessed shape (page_of shape word) state')
  read_alike word state state' s = accessed_alike (page_of shape word) state state' s

  pub written_alike : (word value : ℕ) (state state' : State) → StatesAlike state state'
      → StatesAlike (with_write shape word value (accessed shape (page_of shape word) state)) (with_write shape word value (accessed shape (page_of shape word) state'))
  written_alike word value state state' s =
      write_alike word value (accessed shape (page_of shape word) state) (accessed shape (page_of shape word) state')
      (accessed_alike (page_of shape word) state state' s)

  -- ---- what is handed on

  -- a state covers the floors
  covers : (state state' : State) → StatesAlike state state' → (q : ℕ) → q < nodes → (entry floor q ≤ entry state.knows.time q) × (entry floor' q ≤ entry state'.knows.time q)
  covers state state' s q lt = levels.above q (entry state.knows.time q) (entry state'.knows.time q) (s.knows.at q lt)

  -- a time that has no entry beyond the nodes
  beyond : (time : List ℕ) (q : ℕ) → length time ≡ nodes → nodes ≤ q → entry time q ≡ 0
  beyond time q long le = none time q (omega (arith, long, le))
    where
      none : (xs : List ℕ) (k : ℕ) → length xs ≤ k → entry xs k ≡ 0
      none [] k le = refl
      none (x ∷ xs) zero le = absurd (omega (arith, le))
      none (x ∷ xs) (suc k) le = none xs k (omega (arith, le))

  pub handed_alike : (state state' : State) (news news' : Option State) → IsHandedAlike nodes made made' level floor floor' news news' → StatesAlike state state'
      → ((r' : State) → news' ≡ Some r' → (word : ℕ) → AreDecided cap floor' nodes state'.knows.time r'.knows word (state'.words word))
      → StatesAlike (if_handed nodes news state) (if_handed nodes news' state')
  handed_alike state state' (Some r) (Some r') (handed k) s decided =
      learned_alike nodes cap floor floor' made made' level levels r.knows r'.knows state state' k s (decided r' refl)
  handed_alike state state' news news' (known_to_all old old') s decided =
      as_first (if_handed nodes news state) state (if_handed nodes news' state') (first news old)
      (as_second state (if_handed nodes news' state') state' (second news' old') s)
    where
      first : (o : Option State) → IsKnownToAll nodes floor o → IsAs nodes made (if_handed nodes o state) state
      first None x = record { words = λ w. refl; before = λ w. refl; wide = s.knows.wide; times = λ q. refl; made_here = s.knows.made_here }
      first (Some r) (long, below) = nothing_learned nodes made r.knows state long s.knows.wide (λ q. under q) s.knows.made_here
        where
          under : (q : ℕ) → entry r.knows.time q ≤ entry state.knows.time q
          under q = elim (cases_lt q nodes) [
            | inl lt ↦ let (c, c') = covers state state' s q lt in let b = below q in omega (arith, b, c)
            | inr ge ↦ let z = beyond r.knows.time q long ge in omega (arith, z)
          ]

      second : (o : Option State) → IsKnownToAll nodes floor' o → IsAs nodes made' (if_handed nodes o state') state'
      second None x = record { words = λ w. refl; before = λ w. refl; wide = s.knows.wide'; times = λ q. refl; made_here = s.knows.made_here' }
      second (Some r) (long, below) = nothing_learned nodes made' r.knows state' long s.knows.wide' (λ q. under q) s.knows.made_here'
        where
          under : (q : ℕ) → entry r.knows.time q ≤ entry state'.knows.time q
          under q = elim (cases_lt q nodes) [
            | inl lt ↦ let (c, c') = covers state state' s q lt in let b = below q in omega (arith, b, c')
            | inr ge ↦ let z = beyond r.knows.time q long ge in omega (arith, z)
          ]

  -- ---- barriers

  arrived_alike : (o o' : Option State) (knows knows' : Knowledge) → ArriveAlike nodes made made' level o o' → IsAllAlike nodes made made' level knows knows'
      → IsAllAlike nodes made made' level (with_arrived o knows) (with_arrived o' knows')
  arrived_alike None None knows knows' a k = k
  arrived_alike (Some state) (Some state') knows knows' a (some_arrive k) =
      some_arrive (together_alike nodes cap floor floor' made made' level levels knows knows' state.knows state'.knows k a)
  arrived_alike (Some state) (Some state') knows knows' a (no_arrive long long' none none') =
      some_arrive (record {
        wide = length-joined_same knows.time state.knows.time (long ∙ sym a.wide) ∙ long;
        wide' = length-joined_same knows'.time state'.knows.time (long' ∙ sym a.wide') ∙ long';
        at = λ q lt.
            subst (λ x. level q x (entry (joined knows'.time state'.knows.time) q)) (sym (joined_is knows state.knows none q))
            (subst (λ x. level q (entry state.knows.time q) x) (sym (joined_is knows' state'.knows none' q)) (a.at q lt));
        made_here = joined_made made knows state.knows none a.made_here;
        made_here' = joined_made made' knows' state'.knows none' a.made_here';
      })
    where
      joined_is : (k other : Knowledge) → ((q : ℕ) → entry k.time q ≡ 0) → (q : ℕ) → entry (joined k.time other.time) q ≡ entry other.time q
      joined_is k other zero_ q = let both = entry-joined k.time other.time q in let z = zero_ q in omega (arith, both, z)

      joined_made : (t : Table) (k other : Knowledge) → ((q : ℕ) → entry k.time q ≡ 0) → IsOfTable nodes t other → IsOfTable nodes t (known_together k other)
      joined_made t k other zero_ is q j lt some le =
          let z = zero_ q in
          let e = joined_is k other zero_ q in
          cond-false (nat_le j (entry k.time q)) (k.interval q j) (other.interval q j) (lt-leb j (entry k.time q) (omega (arith, z, some)))
          ∙ is q j lt some (omega (arith, e, le))
  arrived_alike (Some state) None knows knows' a k = absurd a
  arrived_alike None (Some state') knows knows' a k = absurd a

  pub all_alike : (count : ℕ) (arrived arrived' : ℕ → Option State) → ((q : ℕ) → ArriveAlike nodes made made' level (arrived q) (arrived' q))
      → IsAllAlike nodes made made' level (known_by_all count nodes arrived) (known_by_all count nodes arrived')
  all_alike zero arrived arrived' a =
      no_arrive (length-replicate {A = ℕ} nodes 0) (length-replicate {A = ℕ} nodes 0) (λ q. entry-zeros nodes q) (λ q. entry-zeros nodes q)
  all_alike (suc count) arrived arrived' a =
      arrived_alike (arrived count) (arrived' count) (known_by_all count nodes arrived) (known_by_all count nodes arrived') (a count)
      (all_alike count arrived arrived' a)

  learned_all : (all all' : Knowledge) (state state' : State) → IsAllAlike nodes made made' level all all' → StatesAlike state state'
      → ((word : ℕ) → AreDecided cap floor' nodes state'.knows.time all' word (state'.words word))
      → StatesAlike (with_learned nodes all state) (with_learned nodes all' state')
  learned_all all all' state state' (some_arrive k) s decided = learned_alike nodes cap floor floor' made made' level levels all all' state state' k s decided
  learned_all all all' state state' (no_arrive long long' none none') s decided =
      as_first (with_learned nodes all state) state (with_learned nodes all' state')
      (nothing_learned nodes made all state long s.knows.wide (λ q. let z = none q in omega (arith, z)) s.knows.made_here)
      (as_second state (with_learned nodes all' state') state'
      (nothing_learned nodes made' all' state' long' s.knows.wide' (λ q. let z = none' q in omega (arith, z)) s.knows.made_here') s)

  -- where no barrier collects
  pub departed_alike : shape.collect ≡ 0 → (state state' : State) (arrived arrived' : ℕ → Option State)
      → ((q : ℕ) → ArriveAlike nodes made made' level (arrived q) (arrived' q)) → StatesAlike state state'
      → ((word : ℕ) → AreDecided cap floor' nodes state'.knows.time (known_by_all nodes nodes arrived') word (state'.words word))
      → StatesAlike (departed shape state arrived) (departed shape state' arrived')
  departed_alike none state state' arrived arrived' a s decided =
      subst (λ (x : State). StatesAlike x (departed shape state' arrived')) (sym (calm_departed shape none state arrived))
      (subst (λ (x : State). StatesAlike (with_learned nodes (known_by_all nodes nodes arrived) state) x) (sym (calm_departed shape none state' arrived'))
      (learned_all (known_by_all nodes nodes arrived) (known_by_all nodes nodes arrived') state state' (all_alike nodes arrived arrived' a) s decided))
