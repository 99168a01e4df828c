-- Runs that stand alike, one after another: a run stands as itself, and where a second stands as a first, and a third as the second, the third
-- stands as the first.
use Rattle.std.proofs.Common.{◌≡◌, ℕ, zero, suc, ◌+◌, ◌<◌, ◌≤◌, List, [], ◌∷◌, length, inl, inr, refl, sym, subst, ◌∙◌, arith}
use Rattle.std.specs.Prelude.{◌-◌, Option, Some, None}
use Rattle.std.proofs.lemmas.Bool.{cases_lt}
use Rattle.lrc_trace.specs.declared.act.Act.{Act}
use Rattle.lrc_time.specs.Time.{entry}
use Rattle.lrc_exact.specs.LocalRule.{arrived_state, released_state}
use Rattle.lrc_exact.specs.Memory.{Rank, Word}
use Rattle.lrc_exact.specs.Rule.{Knowledge, Shape, State}
use Rattle.lrc_exact_states.specs.Levels.{AreChangesAlike, AreLevels, Change, IsCapped, exact, much, IsWeightAlike, last_change, no_change, one_change}
use Rattle.lrc_exact_states.specs.Alike.{ArriveAlike, IsHandedAlike, handed, known_to_all, IsKnowledgeAlike, IsKnownToAll, IsMarkAlike, low, high, IsStateAlike, IsWordAlike}
use Rattle.lrc_exact_states.specs.Runs.{Base, here, IsAhead}
use Rattle.lrc_exact_states.proofs.By.{AreRunsAlikeBy}
use Rattle.lrc_exact_states.proofs.Levels.{capped-then, last-agree}

-- ---- weights, changes, marks and words

module _ {cap : ℕ} {f g h : List ℕ} where
  weight_then : {u v w : ℕ} → IsWeightAlike cap f g u v → IsWeightAlike cap g h v w → IsWeightAlike cap f h u w
  weight_then a b = record { above = a.above; above' = b.above'; capped = capped-then a.capped b.capped }

  change_then : (x y z : Option Change) → AreChangesAlike cap f g x y → AreChangesAlike cap g h y z → AreChangesAlike cap f h x z
  change_then None None None no_change no_change = no_change
  change_then (Some x) (Some y) (Some z) (one_change e a) (one_change d b) = one_change (d ∙ e) (weight_then a b)
  change_then None None (Some z) a b = elim b [ ]
  change_then None (Some y) z a b = elim a [ ]
  change_then (Some x) None z a b = elim a [ ]
  change_then (Some x) (Some y) None a b = elim b [ ]

  mark_then : (x y z : Option Rank) → IsMarkAlike cap f g x y → IsMarkAlike cap g h y z → IsMarkAlike cap f h x z
  mark_then x y z (low a b) (low c d) = low a d
  mark_then (Some x) (Some y) (Some z) (high e a) (high d b) = high (d ∙ e) (weight_then a b)
  mark_then x (Some y) (Some z) (low a b) (high d c) = let above = c.above in absurd (omega (arith, b, above))
  mark_then (Some x) (Some y) z (high e a) (low b c) = let above = a.above' in absurd (omega (arith, b, above))

  word_then : (x y z : Word) → IsWordAlike cap f g x y → IsWordAlike cap g h y z → IsWordAlike cap f h x z
  word_then x y z a b = record { value = b.value ∙ a.value; mark = mark_then x.mark y.mark z.mark a.mark b.mark }

-- ---- runs

ahead_then : {a b c first first' first'' : ℕ} → IsAhead a b first first' → IsAhead b c first' first'' → IsAhead a c first first''
ahead_then x y =
    let one = x.one in
    let two = x.other in
    let three = y.one in
    let four = y.other in
    record { more = x.more; one = x.one; other = omega (arith, two, three, four) }

module _ (shape : Shape) (cap : ℕ) (base base' base'' : Base) (run run' run'' : List Act) (states states' states'' : List State)
    (r : AreRunsAlikeBy shape cap base base' run run' states states') (t : AreRunsAlikeBy shape cap base' base'' run' run'' states' states'') where
  abbrev nodes : ℕ
  nodes = shape.nodes

  abbrev f : List ℕ
  f = base.floor

  abbrev g : List ℕ
  g = base'.floor

  abbrev h : List ℕ
  h = base''.floor

  -- a level of the one and of the other, by one of the run between
  pub record Both (q a c : ℕ) : Type 0 where
    pub among : q < nodes
    pub between : ℕ
    pub first : r.level q a between
    pub second : t.level q between c

  -- of the run between the two tables are one, as far as it goes
  middle : (q b : ℕ) → q < nodes → b ≤ entry (here shape run' states' q).knows.time q → (i : ℕ) → i < b → r.made' q (suc i) ≡ t.made q (suc i)
  middle q b lt le i less =
      sym ((r.nodes_are q lt).knows.made_here' q (suc i) lt (omega arith) (omega (arith, le, less)))
      ∙ (t.nodes_are q lt).knows.made_here q (suc i) lt (omega arith) (omega (arith, le, less))

  levels_then : AreLevels cap f h r.made t.made' Both
  levels_then = record {
    above = λ q a c x. ((r.levels.above q a x.between x.first).0, (t.levels.above q x.between c x.second).1);
    counted = λ q a c x. capped-then (r.levels.counted q a x.between x.first) (t.levels.counted q x.between c x.second);
    order = λ q a a' b b' x y le.
        t.levels.order q x.between a' y.between b' x.second y.second (r.levels.order q a x.between b y.between x.first y.first le);
    order' = λ q a a' b b' x y le.
        r.levels.order' q a x.between b y.between x.first y.first (t.levels.order' q x.between a' y.between b' x.second y.second le);
    changes = λ q word a a' b b' x y le.
        let le' = r.levels.order q a x.between b y.between x.first y.first le in
        let own = (r.most q b y.between y.among y.first).1 in
        change_then (last_change (r.made q) word a b) (last_change (r.made' q) word x.between y.between) (last_change (t.made' q) word a' b')
        (r.levels.changes q word a x.between b y.between x.first y.first le)
        (subst (λ (o : Option Change). AreChangesAlike cap g h o (last_change (t.made' q) word a' b'))
        (sym (last-agree (r.made' q) word x.between (t.made q) y.between (middle q y.between y.among own)))
        (t.levels.changes q word x.between a' y.between b' x.second y.second le'));
    rising = λ q a c x. ((r.levels.rising q a x.between x.first).0, (t.levels.rising q x.between c x.second).1);
  }

  knows_then : (x y z : Knowledge) → IsKnowledgeAlike nodes r.made r.made' r.level x y → IsKnowledgeAlike nodes t.made t.made' t.level y z
      → IsKnowledgeAlike nodes r.made t.made' Both x z
  knows_then x y z a b = record {
    wide = a.wide;
    wide' = b.wide';
    at = λ q lt. record { among = lt; between = entry y.time q; first = a.at q lt; second = b.at q lt };
    made_here = a.made_here;
    made_here' = b.made_here';
  }

  state_then : (x y z : State) → IsStateAlike nodes cap f g r.made r.made' r.level x y → IsStateAlike nodes cap g h t.made t.made' t.level y z
      → IsStateAlike nodes cap f h r.made t.made' Both x z
  state_then x y z a b = record {
    words = λ word. word_then (x.words word) (y.words word) (z.words word) (a.words word) (b.words word);
    before = λ word. b.before word ∙ a.before word;
    knows = knows_then x.knows y.knows z.knows a.knows b.knows;
    marks = a.marks;
    marks' = b.marks';
  }

  -- what is as high as a level at the floor is at the floor
  no_higher : (a b : ℕ) → IsCapped cap a b → b ≡ 0 → a ≡ 0
  no_higher a b (exact e) z = omega (arith, e, z)
  no_higher a b (much x y) z = let s = r.some in absurd (omega (arith, y, z, s))

  no_higher' : (a b : ℕ) → IsCapped cap a b → a ≡ 0 → b ≡ 0
  no_higher' a b (exact e) z = omega (arith, e, z)
  no_higher' a b (much x y) z = let s = r.some in absurd (omega (arith, x, z, s))

  beyond : (time : List ℕ) (q : ℕ) → length time ≤ q → entry time q ≡ 0
  beyond [] q le = refl
  beyond (x ∷ xs) zero le = absurd (omega (arith, le))
  beyond (x ∷ xs) (suc q) le = beyond xs q (omega (arith, le))

  known_first : (x y : State) → IsKnowledgeAlike nodes r.made r.made' r.level x.knows y.knows → IsKnownToAll nodes g (Some y) → IsKnownToAll nodes f (Some x)
  known_first x y a (long, below) = (a.wide, at)
    where
      at : (q : ℕ) → entry x.knows.time q ≤ entry f q
      at q = elim (cases_lt q nodes) [
        | inl lt ↦
            let (p, p') = r.levels.above q (entry x.knows.time q) (entry y.knows.time q) (a.at q lt) in
            let b = below q in
            let z = no_higher (entry x.knows.time q - entry f q) (entry y.knows.time q - entry g q)
            (r.levels.counted q (entry x.knows.time q) (entry y.knows.time q) (a.at q lt)) (omega (arith, b)) in
            omega (arith, p, z)
        | inr ge ↦ let w = a.wide in let z = beyond x.knows.time q (omega (arith, w, ge)) in omega (arith, z)
      ]

  known_second : (y z : State) → IsKnowledgeAlike nodes t.made t.made' t.level y.knows z.knows → IsKnownToAll nodes g (Some y) → IsKnownToAll nodes h (Some z)
  known_second y z a (long, below) = (a.wide', at)
    where
      at : (q : ℕ) → entry z.knows.time q ≤ entry h q
      at q = elim (cases_lt q nodes) [
        | inl lt ↦
            let (p, p') = t.levels.above q (entry y.knows.time q) (entry z.knows.time q) (a.at q lt) in
            let b = below q in
            let o = no_higher' (entry y.knows.time q - entry g q) (entry z.knows.time q - entry h q)
            (t.levels.counted q (entry y.knows.time q) (entry z.knows.time q) (a.at q lt)) (omega (arith, b)) in
            omega (arith, p', o)
        | inr ge ↦ let w = a.wide' in let o = beyond z.knows.time q (omega (arith, w, ge)) in omega (arith, o)
      ]

  handed_then : (x y z : Option State) → IsHandedAlike nodes r.made r.made' r.level f g x y → IsHandedAlike nodes t.made t.made' t.level g h y z
      → IsHandedAlike nodes r.made t.made' Both f h x z
  handed_then x y z (known_to_all a b) (known_to_all c d) = known_to_all a d
  handed_then (Some x) (Some y) (Some z) (handed a) (handed b) = handed (knows_then x.knows y.knows z.knows a b)
  handed_then (Some x) (Some y) z (handed a) (known_to_all c d) = known_to_all (known_first x y a c) d
  handed_then x (Some y) (Some z) (known_to_all a b) (handed c) = known_to_all a (known_second y z c b)

  arrive_then : (x y z : Option State) → ArriveAlike nodes r.made r.made' r.level x y → ArriveAlike nodes t.made t.made' t.level y z
      → ArriveAlike nodes r.made t.made' Both x z
  arrive_then None None None a b = tt
  arrive_then (Some x) (Some y) (Some z) a b = knows_then x.knows y.knows z.knows a b
  arrive_then None None (Some z) a b = absurd b
  arrive_then None (Some y) z a b = absurd a
  arrive_then (Some x) None z a b = absurd a
  arrive_then (Some x) (Some y) None a b = absurd b

  pub runs_then : AreRunsAlikeBy shape cap base base'' run run'' states states''
  runs_then = record {
    some = r.some;
    wide = r.wide;
    wide' = t.wide';
    keeps = r.keeps;
    keeps' = t.keeps';
    synchronized = record {
      holds = λ q l x. t.synchronized.holds q l (r.synchronized.holds q l x);
      holds' = λ q l x. r.synchronized.holds' q l (t.synchronized.holds' q l x);
      arrives = λ q lt. ahead_then (r.synchronized.arrives q lt) (t.synchronized.arrives q lt);
      departs = λ q lt. ahead_then (r.synchronized.departs q lt) (t.synchronized.departs q lt);
    };
    made = r.made;
    made' = t.made';
    level = Both;
    levels = levels_then;
    most = λ q b b' lt x. ((r.most q b x.between lt x.first).0, (t.most q x.between b' lt x.second).1);
    light = r.light;
    light' = t.light';
    nodes_are = λ q lt. state_then (here shape run states q) (here shape run' states' q) (here shape run'' states'' q) (r.nodes_are q lt) (t.nodes_are q lt);
    locks = λ l.
        handed_then (released_state run states l (length run)) (released_state run' states' l (length run')) (released_state run'' states'' l (length run''))
        (r.locks l) (t.locks l);
    arrived = λ k q.
        arrive_then (arrived_state run states (k + base.first) (length run) q) (arrived_state run' states' (k + base'.first) (length run') q)
        (arrived_state run'' states'' (k + base''.first) (length run'') q) (r.arrived k q) (t.arrived k q);
  }
