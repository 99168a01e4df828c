-- Runs that stand alike and are level stand alike, seen from where they are.
use Rattle.std.proofs.Common.{◌≡◌, ℕ, zero, suc, ◌+◌, ◌<◌, ◌≤◌, List, [], ◌∷◌, length, inl, inr, refl, sym, subst, ap, ◌∙◌, arith}
use Rattle.std.specs.Prelude.{◌-◌, Option, Some, None}
use Rattle.std.proofs.lemmas.Bool.{and_parts, cases_lt}
use Rattle.std.proofs.lemmas.List.{length-replicate}
use Rattle.lrc_trace.specs.declared.act.Act.{Act}
use Rattle.lrc_trace.specs.declared.act.Deed.TheVariants.{Arrive}
use Rattle.lrc_trace.specs.Run.{is_arrive, arrives_before}
use Rattle.lrc_trace.proofs.Intervals.{count_of-more, count_of-rises}
use Rattle.lrc_trace.proofs.Positions.{Does-one_node}
use Rattle.lrc_time.specs.Time.{entry, weight_of}
use Rattle.lrc_time.proofs.Times.{entry-zeros, same_times}
use Rattle.lrc_clock.specs.Times.{acts_at, arrives_at}
use Rattle.lrc_clock.proofs.Passing.{acts_at-act, arrives_at-act}
use Rattle.lrc_exact.specs.LocalRule.{arrived_state, arrives_there, released_state}
use Rattle.lrc_exact.specs.Memory.{Rank}
use Rattle.lrc_exact.specs.Rule.{Shape, State, KeepsExact, exact_rule, no_interval}
use Rattle.lrc_exact.proofs.LocalRules.{keeps-none, last-cases}
use Rattle.lrc_exact_states.specs.Levels.{AreLevels, AreChangesAlike, AreRising, Change, exact, last_change, no_change, Table}
use Rattle.lrc_exact_states.specs.Alike.{ArriveAlike, IsHandedAlike, handed, known_to_all, IsKnownToAll, IsLow, low, IsMarkOf, IsStateAlike}
use Rattle.lrc_exact_states.specs.Runs.{AreLight, Base, begun, here, IsLevel}
use Rattle.lrc_exact_states.proofs.By.{AreRunsAlikeBy}
use Rattle.lrc_exact_states.proofs.Levels.{last-none}

beyond : (time : List ℕ) (q : ℕ) → length time ≤ q → entry time q ≡ 0
beyond [] q le = refl
beyond (x ∷ xs) zero le = absurd (omega (arith, le))
beyond (x ∷ xs) (suc q) le = beyond xs q (omega (arith, le))

-- nobody has arrived with a number as high as the count of arrives
pub none_there : (shape : Shape) (run : List Act) (states : List State) → KeepsExact shape run states → (number q : ℕ)
    → (q < shape.nodes → arrives_before run q (length run) ≤ number) → arrived_state run states number (length run) q ≡ None
none_there shape run states keeps number q few = elim (last-cases (arrives_there run number q) states (length run)) [
  | inl (none, never) ↦ none
  | inr (p, lt, holds, last, is) ↦
      let both = and_parts (arrives_at run number p) (acts_at run q p) holds in
      let (m, does, count) = arrives_at-act run p number both.0 in
      let (d, acts) = acts_at-act run p q both.1 in
      let own : m ≡ q = Does-one_node does acts in
      let more = count_of-more is_arrive run m p Arrive does refl in
      let rises = count_of-rises is_arrive run m (p + 1) (length run) (omega (arith, lt)) in
      let among : q < shape.nodes = subst (λ k. k < shape.nodes) own (keeps.in_range p m Arrive does) in
      let most = few among in
      let same = ap (λ k. arrives_before run k (length run)) own in
      absurd (omega (arith, count, more, rises, most, same))
]

-- ---- one level run

module _ (shape : Shape) (base : Base) (run : List Act) (states : List State) (made : Table) (l : IsLevel shape base run states)
    (size : (q : ℕ) → q < shape.nodes → length (here shape run states q).knows.time ≡ shape.nodes) (light : AreLight shape run states made) where
  time_is : (q : ℕ) → q < shape.nodes → (here shape run states q).knows.time ≡ base.floor
  time_is q lt = same_times (here shape run states q).knows.time base.floor (size q lt ∙ sym l.wide) (λ node. elim (cases_lt node shape.nodes) [
    | inl among ↦ l.knows q node lt among
    | inr ge ↦
        let s = size q lt in
        let w = l.wide in
        beyond (here shape run states q).knows.time node (omega (arith, s, ge)) ∙ sym (beyond base.floor node (omega (arith, w, ge)))
  ])

  -- every mark is low
  mark_low : (q : ℕ) → q < shape.nodes → (mark : Option Rank) → IsMarkOf made (here shape run states q).knows.time mark → IsLow (weight_of base.floor) mark
  mark_low q lt None m = tt
  mark_low q lt (Some rank) (i, some, known, weighs) = elim (cases_lt rank.node shape.nodes) [
    | inl among ↦
        let one = l.knows q rank.node lt among in
        let own = l.knows rank.node rank.node among among in
        let w = light rank.node i among some (omega (arith, known, one, own)) in
        let same = ap weight_of (time_is rank.node among) in
        omega (arith, weighs, w, same)
    | inr ge ↦
        let s = size q lt in
        let none = beyond (here shape run states q).knows.time rank.node (omega (arith, s, ge)) in
        absurd (omega (arith, none, known, some))
  ]

-- ---- two of them

module _ (shape : Shape) (cap : ℕ) (base base' : Base) (run run' : List Act) (states states' : List State)
    (r : AreRunsAlikeBy shape cap base base' run run' states states') where
  abbrev nodes : ℕ
  nodes = shape.nodes

  module _ (new new' : Base) (l : IsLevel shape new run states) (l' : IsLevel shape new' run' states') where
    size : (q : ℕ) → q < nodes → length (here shape run states q).knows.time ≡ nodes
    size q lt = (r.nodes_are q lt).knows.wide

    size' : (q : ℕ) → q < nodes → length (here shape run' states' q).knows.time ≡ nodes
    size' q lt = (r.nodes_are q lt).knows.wide'

    -- the one level that is left
    pub record IsFloor (q a a' : ℕ) : Type 0 where
      pub among : q < nodes
      pub is : a ≡ entry new.floor q
      pub is' : a' ≡ entry new'.floor q

    rising_of : (q : ℕ) → q < nodes → AreRising (r.made q) (entry new.floor q) × AreRising (r.made' q) (entry new'.floor q)
    rising_of q lt =
        let (x, y) = r.levels.rising q (entry (here shape run states q).knows.time q) (entry (here shape run' states' q).knows.time q) ((r.nodes_are q lt).knows.at q lt) in (
          subst (λ k. AreRising (r.made q) k) (l.knows q q lt lt) x,
          subst (λ k. AreRising (r.made' q) k) (l'.knows q q lt lt) y,
        )

    levels_here : AreLevels cap new.floor new'.floor r.made r.made' IsFloor
    levels_here = record {
      above = λ q a a' x. let i = x.is in let i' = x.is' in (omega (arith, i), omega (arith, i'));
      counted = λ q a a' x. let i = x.is in let i' = x.is' in exact (omega (arith, i, i'));
      order = λ q a a' b b' x y le. let i = x.is' in let j = y.is' in omega (arith, i, j);
      order' = λ q a a' b b' x y le. let i = x.is in let j = y.is in omega (arith, i, j);
      changes = λ q word a a' b b' x y le.
          let i = x.is in
          let j = y.is in
          let i' = x.is' in
          let j' = y.is' in
          subst (λ (o : Option Change). AreChangesAlike cap new.floor new'.floor o (last_change (r.made' q) word a' b'))
          (sym (last-none (r.made q) word a b (omega (arith, i, j))))
          (subst (λ (o : Option Change). AreChangesAlike cap new.floor new'.floor None o) (sym (last-none (r.made' q) word a' b' (omega (arith, i', j')))) no_change);
      rising = λ q a a' x.
          let both = rising_of q x.among in (
            subst (λ k. AreRising (r.made q) k) (sym x.is) both.0,
            subst (λ k. AreRising (r.made' q) k) (sym x.is') both.1,
          );
    }

    state_here : (q : ℕ) → q < nodes
        → IsStateAlike nodes cap new.floor new'.floor r.made r.made' IsFloor (here shape run states q) (here shape run' states' q)
    state_here q lt =
        let s = r.nodes_are q lt in
        record {
          words = λ word. record {
            value = (s.words word).value;
            mark = low (mark_low shape new run states r.made l size r.light q lt ((here shape run states q).words word).mark (s.marks word))
                (mark_low shape new' run' states' r.made' l' size' r.light' q lt ((here shape run' states' q).words word).mark (s.marks' word));
          };
          before = s.before;
          knows = record {
            wide = s.knows.wide;
            wide' = s.knows.wide';
            at = λ k less. record { among = less; is = l.knows q k lt less; is' = l'.knows q k lt less };
            made_here = s.knows.made_here;
            made_here' = s.knows.made_here';
          };
          marks = s.marks;
          marks' = s.marks';
        }

    lock_low : (o o' : Option State) → IsHandedAlike nodes r.made r.made' r.level base.floor base'.floor o o'
        → IsKnownToAll nodes new.floor o × IsKnownToAll nodes new'.floor o'
    lock_low (Some s) (Some s') (handed k) = ((k.wide, first), (k.wide', second))
      where
        first : (q : ℕ) → entry s.knows.time q ≤ entry new.floor q
        first q = elim (cases_lt q nodes) [
          | inl lt ↦
              let (m, m') = r.most q (entry s.knows.time q) (entry s'.knows.time q) lt (k.at q lt) in
              let own = l.knows q q lt lt in
              omega (arith, m, own)
          | inr ge ↦ let w = k.wide in let z = beyond s.knows.time q (omega (arith, w, ge)) in omega (arith, z)
        ]

        second : (q : ℕ) → entry s'.knows.time q ≤ entry new'.floor q
        second q = elim (cases_lt q nodes) [
          | inl lt ↦
              let (m, m') = r.most q (entry s.knows.time q) (entry s'.knows.time q) lt (k.at q lt) in
              let own = l'.knows q q lt lt in
              omega (arith, m', own)
          | inr ge ↦ let w = k.wide' in let z = beyond s'.knows.time q (omega (arith, w, ge)) in omega (arith, z)
        ]
    lock_low o o' (known_to_all a b) = (first o a, second o' b)
      where
        under : (q : ℕ) → q < nodes → (entry base.floor q ≤ entry new.floor q) × (entry base'.floor q ≤ entry new'.floor q)
        under q lt =
            let (x, y) = r.levels.above q (entry (here shape run states q).knows.time q) (entry (here shape run' states' q).knows.time q) ((r.nodes_are q lt).knows.at q lt) in
            let own = l.knows q q lt lt in
            let own' = l'.knows q q lt lt in
            (omega (arith, x, own), omega (arith, y, own'))

        first : (p : Option State) → IsKnownToAll nodes base.floor p → IsKnownToAll nodes new.floor p
        first None x = tt
        first (Some s) (long, below) = (
          long,
          λ q. elim (cases_lt q nodes) [
            | inl lt ↦ let (u, u') = under q lt in let b = below q in omega (arith, u, b)
            | inr ge ↦ let z = beyond s.knows.time q (omega (arith, long, ge)) in omega (arith, z)
          ],
        )

        second : (p : Option State) → IsKnownToAll nodes base'.floor p → IsKnownToAll nodes new'.floor p
        second None x = tt
        second (Some s) (long, below) = (
          long,
          λ q. elim (cases_lt q nodes) [
            | inl lt ↦ let (u, u') = under q lt in let b = below q in omega (arith, u', b)
            | inr ge ↦ let z = beyond s.knows.time q (omega (arith, long, ge)) in omega (arith, z)
          ],
        )

    none_arrived : (k q : ℕ) → ArriveAlike nodes r.made r.made' IsFloor (arrived_state run states (k + new.first) (length run) q)
        (arrived_state run' states' (k + new'.first) (length run') q)
    none_arrived k q =
        subst (λ (o : Option State). ArriveAlike nodes r.made r.made' IsFloor o (arrived_state run' states' (k + new'.first) (length run') q))
        (sym (none_there shape run states r.keeps (k + new.first) q (λ lt. let a = l.arrived q lt in omega (arith, a))))
        (subst (λ (o : Option State). ArriveAlike nodes r.made r.made' IsFloor None o)
        (sym (none_there shape run' states' r.keeps' (k + new'.first) q (λ lt. let a = l'.arrived q lt in omega (arith, a)))) tt)

    pub from_here : AreRunsAlikeBy shape cap new new' run run' states states'
    from_here = record {
      some = r.some;
      wide = l.wide;
      wide' = l'.wide;
      keeps = r.keeps;
      keeps' = r.keeps';
      synchronized = record {
        holds = r.synchronized.holds;
        holds' = r.synchronized.holds';
        arrives = λ q lt. let a = l.arrived q lt in let a' = l'.arrived q lt in record { more = 0; one = omega (arith, a); other = omega (arith, a') };
        departs = λ q lt. let d = l.departed q lt in let d' = l'.departed q lt in record { more = 0; one = omega (arith, d); other = omega (arith, d') };
      };
      made = r.made;
      made' = r.made';
      level = IsFloor;
      levels = levels_here;
      most = λ q b b' lt x.
          let i = x.is in
          let i' = x.is' in
          let own = l.knows q q lt lt in
          let own' = l'.knows q q lt lt in
          (omega (arith, i, own), omega (arith, i', own'));
      light = r.light;
      light' = r.light';
      nodes_are = state_here;
      locks = λ x.
          let both = lock_low (released_state run states x (length run)) (released_state run' states' x (length run')) (r.locks x) in
          known_to_all both.0 both.1;
      arrived = none_arrived;
    }

  -- where the one is level, the other is
  module _ (new' : Base) (l' : IsLevel shape new' run' states') (node : ℕ) (some : node < nodes) where
    abbrev new : Base
    new = record { floor = (here shape run states node).knows.time; first = (new'.first - base'.first) + base.first }

    knows_same : (q k : ℕ) → q < nodes → k < nodes → entry (here shape run states q).knows.time k ≡ entry (here shape run states node).knows.time k
    knows_same q k lt among =
        let x = (r.nodes_are q lt).knows.at k among in
        let y = (r.nodes_are node some).knows.at k among in
        let e = l'.knows q k lt among in
        let d = l'.knows node k some among in
        let a = entry (here shape run states q).knows.time k in
        let a' = entry (here shape run' states' q).knows.time k in
        let b = entry (here shape run states node).knows.time k in
        let b' = entry (here shape run' states' node).knows.time k in
        let one : a ≤ b = r.levels.order' k a a' b b' x y (omega (arith, e, d)) in
        let other : b ≤ a = r.levels.order' k b b' a a' y x (omega (arith, e, d)) in
        omega (arith, one, other)

    pub level_too : IsLevel shape new run states
    level_too = record {
      wide = (r.nodes_are node some).knows.wide;
      knows = knows_same;
      arrived = λ q lt.
          let s = r.synchronized.arrives q lt in
          let one = s.one in
          let two = s.other in
          let e = l'.arrived q lt in
          omega (arith, one, two, e);
      departed = λ q lt.
          let s = r.synchronized.departs q lt in
          let one = s.one in
          let two = s.other in
          let e = l'.departed q lt in
          omega (arith, one, two, e);
    }

    pub level_alike : AreRunsAlikeBy shape cap new new' run run' states states'
    level_alike = from_here new new' level_too l'

-- ---- no act

module _ (shape : Shape) (cap : ℕ) (some : 1 ≤ cap) where
  abbrev from : Base
  from = begun shape.nodes

  record IsNone (q a a' : ℕ) : Type 0 where
    among : q < shape.nodes
    is : a ≡ 0
    is' : a' ≡ 0

  abbrev nothing_made : Table
  nothing_made q j = no_interval

  pub begun_alike : AreRunsAlikeBy shape cap from from [] [] [] []
  begun_alike = record {
    some = some;
    wide = length-replicate {A = ℕ} shape.nodes 0;
    wide' = length-replicate {A = ℕ} shape.nodes 0;
    keeps = keeps-none (exact_rule shape) shape.nodes;
    keeps' = keeps-none (exact_rule shape) shape.nodes;
    synchronized = record {
      holds = λ q l h. h;
      holds' = λ q l h. h;
      arrives = λ q lt. record { more = 0; one = refl; other = refl };
      departs = λ q lt. record { more = 0; one = refl; other = refl };
    };
    made = nothing_made;
    made' = nothing_made;
    level = IsNone;
    levels = record {
      above = λ q a a' x. let z = entry-zeros shape.nodes q in (omega (arith, z), omega (arith, z));
      counted = λ q a a' x. let i = x.is in let i' = x.is' in exact (omega (arith, i, i'));
      order = λ q a a' b b' x y le. let i = x.is' in let j = y.is' in omega (arith, i, j);
      order' = λ q a a' b b' x y le. let i = x.is in let j = y.is in omega (arith, i, j);
      changes = λ q word a a' b b' x y le.
          let j = y.is in
          let j' = y.is' in
          subst (λ (o : Option Change). AreChangesAlike cap from.floor from.floor o (last_change (nothing_made q) word a' b'))
          (sym (last-none (nothing_made q) word a b (omega (arith, j))))
          (subst (λ (o : Option Change). AreChangesAlike cap from.floor from.floor None o) (sym (last-none (nothing_made q) word a' b' (omega (arith, j')))) no_change);
      rising = λ q a a' x.
          let i = x.is in
          let i' = x.is' in
          (λ m n one lt le. absurd (omega (arith, one, lt, le, i)), λ m n one lt le. absurd (omega (arith, one, lt, le, i')));
    };
    most = λ q b b' lt x. let i = x.is in let i' = x.is' in (omega (arith, i), omega (arith, i'));
    light = λ q j lt one le. let z = entry-zeros shape.nodes q in absurd (omega (arith, z, one, le));
    light' = λ q j lt one le. let z = entry-zeros shape.nodes q in absurd (omega (arith, z, one, le));
    nodes_are = λ q lt. record {
      words = λ word. record { value = refl; mark = low tt tt };
      before = λ word. refl;
      knows = record {
        wide = length-replicate {A = ℕ} shape.nodes 0;
        wide' = length-replicate {A = ℕ} shape.nodes 0;
        at = λ k less. record { among = less; is = entry-zeros shape.nodes k; is' = entry-zeros shape.nodes k };
        made_here = λ k j less one le. let z = entry-zeros shape.nodes k in absurd (omega (arith, z, one, le));
        made_here' = λ k j less one le. let z = entry-zeros shape.nodes k in absurd (omega (arith, z, one, le));
      };
      marks = λ word. tt;
      marks' = λ word. tt;
    };
    locks = λ l. known_to_all tt tt;
    arrived = λ k q. tt;
  }
