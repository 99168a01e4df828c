-- Two runs whose states are alike go on alike, where what the second compares is decided.
use Rattle.std.proofs.Common.{◌≡◌, ◌≢◌, ℕ, suc, ◌+◌, ◌<◌, ◌≤◌, List, [], ◌∷◌, ◌++◌, length, take, inl, inr, refl, sym, subst, ap, ◌∙◌, arith}
use Rattle.std.specs.Prelude.{◌⊎◌, Bool, true, false, Option, Some, None}
use Rattle.std.proofs.lemmas.Bool.{cases_eq, cases_Bool}
use Rattle.std.proofs.lemmas.List.{length_push, take-append-le}
use Rattle.lrc_trace.specs.declared.act.Act.{Act}
use Rattle.lrc_trace.specs.declared.act.Deed.{Deed}
use Rattle.lrc_trace.specs.declared.act.Deed.TheVariants.{Quiet, Print, Read, Write, Acquire, Release, Arrive, Depart, Trap, End}
use Rattle.lrc_trace.specs.Run.{count_of, is_arrive, is_depart, arrives_before, departs_before}
use Rattle.lrc_trace.specs.Synchronization.{Holds, MayGoOn}
use Rattle.lrc_trace.proofs.Holding.{Holds-acquired, Holds-cases, Holds-kept}
use Rattle.lrc_trace.proofs.Intervals.{count_of-more, count_of-same}
use Rattle.lrc_trace.proofs.Positions.{Does-deed, Does-last, Does-node}
use Rattle.lrc_trace.proofs.Prefixes.{Holds-longer, Holds-shorter}
use Rattle.lrc_time.specs.Time.{entry, weight_of}
use Rattle.lrc_time.proofs.Times.{covers-joined_first, entry-set_same, weight-covers, weight-raised}
use Rattle.lrc_clock.specs.Times.{raised}
use Rattle.lrc_exact.specs.LocalRule.{arrived_state, released_state, state_after}
use Rattle.lrc_exact.specs.Memory.{Interval}
use Rattle.lrc_exact.specs.Rule.{Knowledge, Shape, State, exact_rule, accessed, acquired, closed, departed}
use Rattle.lrc_exact.specs.Rule.{known_by_all, open_interval, page_of, with_write}
use Rattle.lrc_exact.proofs.LocalRules.{keeps-more}
use Rattle.lrc_exact_judge.proofs.Next.{arrived-own, arrived-rest, before-other, before-own, released-other, released-own}
use Rattle.lrc_exact_states.specs.Levels.{AreLevels, Levels, Table}
use Rattle.lrc_exact_states.specs.Alike.{ArriveAlike, IsHandedAlike, handed, known_to_all, IsKnowledgeAlike, IsStateAlike, if_handed}
use Rattle.lrc_exact_states.specs.Runs.{AreLight, AreSynchronizedAlike, Base, here, IsAhead, IsDecidedDeed}
use Rattle.lrc_exact_states.proofs.By.{AreRunsAlikeBy}
use Rattle.lrc_exact_states.proofs.Closing.{closed_alike, grown, grown', knows_still, levels_more, made_new, made_old, more, state_still, with_level, with_made}
use Rattle.lrc_exact_states.proofs.Stepping.{calm_departed, departed_alike, handed_alike, read_alike, written_alike}

-- ---- counts, by one act more

module _ (kind : Deed → Bool) (run : List Act) (act : Act) (q : ℕ) where
  abbrev one_longer : List Act
  one_longer = run ++ act ∷ []

  counted_front : count_of kind q (take (length run) one_longer) ≡ count_of kind q (take (length run) run)
  counted_front = ap (count_of kind q) (take-append-le (length run) run (act ∷ []) (omega arith))

  pub counts_more : act.node ≡ q → kind act.deed ≡ true → count_of kind q (take (length one_longer) one_longer) ≡ count_of kind q (take (length run) run) + 1
  counts_more own is =
      ap (λ k. count_of kind q (take k one_longer)) (length_push run act)
      ∙ count_of-more kind one_longer q (length run) act.deed (Does-node own (Does-last run act)) is
      ∙ ap (λ n. n + 1) counted_front

  pub counts_same : (act.node ≡ q → kind act.deed ≡ true → ⊥) → count_of kind q (take (length one_longer) one_longer) ≡ count_of kind q (take (length run) run)
  counts_same other =
      ap (λ k. count_of kind q (take k one_longer)) (length_push run act)
      ∙ count_of-same kind one_longer q (length run) act.node act.deed (Does-last run act) other
      ∙ counted_front

module _ (kind : Deed → Bool) (run run' : List Act) (act : Act) (q first first' : ℕ) where
  pub ahead_more : IsAhead (count_of kind q (take (length run) run)) (count_of kind q (take (length run') run')) first first'
      → IsAhead (count_of kind q (take (length (run ++ act ∷ [])) (run ++ act ∷ []))) (count_of kind q (take (length (run' ++ act ∷ [])) (run' ++ act ∷ []))) first first'
  ahead_more a = elim (cases_eq act.node q) [
    | inr other ↦ stays (λ own is. other own)
    | inl own ↦ elim (cases_Bool (kind act.deed)) [
      | inl is ↦
          let o = a.one in
          let p = a.other in
          let c = counts_more kind run act q own is in
          let c' = counts_more kind run' act q own is in
          record { more = a.more + 1; one = omega (arith, o, c); other = omega (arith, p, c') }
      | inr isnt ↦ stays (λ own is. let never : true ≡ false = sym is ∙ isnt in cc)
    ]
  ]
    where
      stays : (act.node ≡ q → kind act.deed ≡ true → ⊥)
          → IsAhead (count_of kind q (take (length (run ++ act ∷ [])) (run ++ act ∷ []))) (count_of kind q (take (length (run' ++ act ∷ [])) (run' ++ act ∷ [])))
          first first'
      stays other = record {
        more = a.more;
        one = counts_same kind run act q other ∙ a.one;
        other = counts_same kind run' act q other ∙ a.other;
      }

-- ---- who holds a lock, by one act more

module _ (run : List Act) (act : Act) (q l : ℕ) where
  holds_more : ((act.node ≡ q) × (act.deed ≡ Acquire l)) ⊎ (Holds run (length run) q l × (q ≡ act.node → act.deed ≡ Release l → ⊥))
      → Holds (run ++ act ∷ []) (length (run ++ act ∷ [])) q l
  holds_more (inl (own, is)) =
      subst (λ k. Holds (run ++ act ∷ []) k q l) (sym (length_push run act)) (Holds-acquired (Does-node own (Does-deed is (Does-last run act))))
  holds_more (inr (holds, other)) =
      subst (λ k. Holds (run ++ act ∷ []) k q l) (sym (length_push run act))
      (Holds-kept (run ++ act ∷ []) (length run) act.node act.deed (Does-last run act) q l other (Holds-longer run (act ∷ []) (omega arith) holds))

  holds_less : Holds (run ++ act ∷ []) (length (run ++ act ∷ [])) q l
      → ((act.node ≡ q) × (act.deed ≡ Acquire l)) ⊎ (Holds run (length run) q l × (q ≡ act.node → act.deed ≡ Release l → ⊥))
  holds_less holds =
      elim (Holds-cases (run ++ act ∷ []) (length run) act.node act.deed (Does-last run act) q l
      (subst (λ k. Holds (run ++ act ∷ []) k q l) (length_push run act) holds)) [
        | inl (own, is) ↦ inl (sym own, is)
        | inr (before, other) ↦ inr (Holds-shorter run (act ∷ []) (omega arith) before, other)
      ]

holds_onward : (run run' : List Act) (act : Act) (q l : ℕ) → (Holds run (length run) q l → Holds run' (length run') q l)
    → Holds (run ++ act ∷ []) (length (run ++ act ∷ [])) q l → Holds (run' ++ act ∷ []) (length (run' ++ act ∷ [])) q l
holds_onward run run' act q l on holds = elim (holds_less run act q l holds) [
  | inl acquired ↦ holds_more run' act q l (inl acquired)
  | inr (before, other) ↦ holds_more run' act q l (inr (on before, other))
]

-- ---- two runs

module _ (nodes first first' : ℕ) where
  pub synchronized_more : (run run' : List Act) (act : Act) → AreSynchronizedAlike nodes first first' run run' → AreSynchronizedAlike nodes first first' (run ++ act ∷ []) (run' ++ act ∷ [])
  synchronized_more run run' act s = record {
    holds = λ q l. holds_onward run run' act q l (s.holds q l);
    holds' = λ q l. holds_onward run' run act q l (s.holds' q l);
    arrives = λ q lt. ahead_more is_arrive run run' act q first first' (s.arrives q lt);
    departs = λ q lt. ahead_more is_depart run run' act q first first' (s.departs q lt);
  }

  -- what one may go on with, the other may, too
  pub may_alike : (run run' : List Act) (act : Act) → act.node < nodes → AreSynchronizedAlike nodes first first' run run' → MayGoOn nodes run act → MayGoOn nodes run' act
  may_alike run run' act lt s may = record {
    acquires = λ l is other holds. may.acquires l is other (s.holds' other l holds);
    releases = λ l is. s.holds act.node l (may.releases l is);
    departs = λ is other within.
        let few = may.departs is other within in
        let d = s.departs act.node lt in
        let a = s.arrives other within in
        let one = d.one in
        let two = d.other in
        let three = a.one in
        let four = a.other in
        omega (arith, few, one, two, three, four);
  }

  pub may_back : (run run' : List Act) (act : Act) → act.node < nodes → AreSynchronizedAlike nodes first first' run run' → MayGoOn nodes run' act → MayGoOn nodes run act
  may_back run run' act lt s may = record {
    acquires = λ l is other holds. may.acquires l is other (s.holds other l holds);
    releases = λ l is. s.holds' act.node l (may.releases l is);
    departs = λ is other within.
        let few = may.departs is other within in
        let d = s.departs act.node lt in
        let a = s.arrives other within in
        let one = d.one in
        let two = d.other in
        let three = a.one in
        let four = a.other in
        omega (arith, few, one, two, three, four);
  }

-- ---- what the next act makes of its node's states

module _ (shape : Shape) (cap : ℕ) (base base' : Base) (run run' : List Act) (states states' : List State)
    (r : AreRunsAlikeBy shape cap base base' run run' states states') (node : ℕ) (lt : node < shape.nodes) where
  abbrev nodes : ℕ
  nodes = shape.nodes

  abbrev mine : State
  mine = here shape run states node

  abbrev yours : State
  yours = here shape run' states' node

  pub record IsNextAlike (next next' : State) : Type 1 where
    pub made : Table
    pub made' : Table
    pub level : Levels
    pub levels : AreLevels cap base.floor base'.floor made made' level
    pub alike : IsStateAlike nodes cap base.floor base'.floor made made' level next next'
    pub knows_on : (k k' : Knowledge) → IsKnowledgeAlike nodes r.made r.made' r.level k k' → IsKnowledgeAlike nodes made made' level k k'
    pub on : (s s' : State) → IsStateAlike nodes cap base.floor base'.floor r.made r.made' r.level s s'
        → IsStateAlike nodes cap base.floor base'.floor made made' level s s'
    pub most_own : (b b' : ℕ) → level node b b' → (b ≤ entry next.knows.time node) × (b' ≤ entry next'.knows.time node)
    pub most_other : (q b b' : ℕ) → (q ≡ node → ⊥) → level q b b' → r.level q b b'
    pub light_own : (j : ℕ) → 1 ≤ j → j ≤ entry next.knows.time node → (made node j).weight ≤ weight_of next.knows.time
    pub light_own' : (j : ℕ) → 1 ≤ j → j ≤ entry next'.knows.time node → (made' node j).weight ≤ weight_of next'.knows.time
    pub light_other : (q j : ℕ) → (q ≡ node → ⊥) → made q j ≡ r.made q j
    pub light_other' : (q j : ℕ) → (q ≡ node → ⊥) → made' q j ≡ r.made' q j

  abbrev Alike : State → State → Type 0
  Alike s s' = IsStateAlike nodes cap base.floor base'.floor r.made r.made' r.level s s'

  -- it knows no more than before
  same_knows : (next next' : State) → Alike next next' → next.knows ≡ mine.knows → next'.knows ≡ yours.knows → IsNextAlike next next'
  same_knows next next' a one two = record {
    made = r.made;
    made' = r.made';
    level = r.level;
    levels = r.levels;
    alike = a;
    knows_on = λ k k' x. x;
    on = λ s s' x. x;
    most_own = λ b b' x.
        let (m, m') = r.most node b b' lt x in
        let e = ap (λ (k : Knowledge). entry k.time node) one in
        let e' = ap (λ (k : Knowledge). entry k.time node) two in
        (omega (arith, m, e), omega (arith, m', e'));
    most_other = λ q b b' apart x. x;
    light_own = λ j some le.
        let e = ap (λ (k : Knowledge). entry k.time node) one in
        let w = ap (λ (k : Knowledge). weight_of k.time) one in
        let l = r.light node j lt some (omega (arith, le, e)) in
        omega (arith, l, w);
    light_own' = λ j some le.
        let e = ap (λ (k : Knowledge). entry k.time node) two in
        let w = ap (λ (k : Knowledge). weight_of k.time) two in
        let l = r.light' node j lt some (omega (arith, le, e)) in
        omega (arith, l, w);
    light_other = λ q j apart. refl;
    light_other' = λ q j apart. refl;
  }

  -- it closes an interval
  closes : IsNextAlike (closed node mine) (closed node yours)
  closes = record {
    made = grown nodes cap base.floor base'.floor r.wide r.wide' r.made r.made' r.level r.levels node mine yours s lt most light light';
    made' = grown' nodes cap base.floor base'.floor r.wide r.wide' r.made r.made' r.level r.levels node mine yours s lt most light light';
    level = more nodes cap base.floor base'.floor r.wide r.wide' r.made r.made' r.level r.levels node mine yours s lt most light light';
    levels = levels_more nodes cap base.floor base'.floor r.wide r.wide' r.made r.made' r.level r.levels node mine yours s lt most light light';
    alike = closed_alike nodes cap base.floor base'.floor r.wide r.wide' r.made r.made' r.level r.levels node mine yours s lt most light light';
    knows_on = knows_still nodes cap base.floor base'.floor r.wide r.wide' r.made r.made' r.level r.levels node mine yours s lt most light light';
    on = state_still nodes cap base.floor base'.floor r.wide r.wide' r.made r.made' r.level r.levels node mine yours s lt most light light';
    most_own = most_more;
    most_other = other_level;
    light_own = light_more r.made mine s.knows.wide light;
    light_own' = light_more r.made' yours s.knows.wide' light';
    light_other = λ q j apart. made_old node (entry mine.knows.time node) (open_interval mine) r.made q j (λ own. absurd (apart own));
    light_other' = λ q j apart. made_old node (entry yours.knows.time node) (open_interval yours) r.made' q j (λ own. absurd (apart own));
  }
    where
      s : Alike mine yours
      s = r.nodes_are node lt

      most : (b b' : ℕ) → r.level node b b' → (b ≤ entry mine.knows.time node) × (b' ≤ entry yours.knows.time node)
      most b b' x = r.most node b b' lt x

      light : (j : ℕ) → 1 ≤ j → j ≤ entry mine.knows.time node → (r.made node j).weight ≤ weight_of mine.knows.time
      light j some le = r.light node j lt some le

      light' : (j : ℕ) → 1 ≤ j → j ≤ entry yours.knows.time node → (r.made' node j).weight ≤ weight_of yours.knows.time
      light' j some le = r.light' node j lt some le

      own : (t : List ℕ) → length t ≡ nodes → entry (raised t node) node ≡ suc (entry t node)
      own t size = let e = entry-set_same t node (entry t node + 1) (omega (arith, size, lt)) in omega (arith, e)

      most_more : (b b' : ℕ) → with_level node (entry mine.knows.time node) (entry yours.knows.time node) r.level node b b'
          → (b ≤ entry (raised mine.knows.time node) node) × (b' ≤ entry (raised yours.knows.time node) node)
      most_more b b' (inl x) =
          let (m, m') = most b b' x in
          let e = own mine.knows.time s.knows.wide in
          let e' = own yours.knows.time s.knows.wide' in
          (omega (arith, m, e), omega (arith, m', e'))
      most_more b b' (inr (same, is, is')) =
          let e = own mine.knows.time s.knows.wide in
          let e' = own yours.knows.time s.knows.wide' in
          (omega (arith, is, e), omega (arith, is', e'))

      other_level : (q b b' : ℕ) → (q ≡ node → ⊥) → with_level node (entry mine.knows.time node) (entry yours.knows.time node) r.level q b b' → r.level q b b'
      other_level q b b' apart (inl x) = x
      other_level q b b' apart (inr (same, is, is')) = absurd (apart same)

      light_more : (t : Table) (x : State) → length x.knows.time ≡ nodes
          → ((j : ℕ) → 1 ≤ j → j ≤ entry x.knows.time node → (t node j).weight ≤ weight_of x.knows.time)
          → (j : ℕ) → 1 ≤ j → j ≤ entry (raised x.knows.time node) node
          → (with_made node (entry x.knows.time node) (open_interval x) t node j).weight ≤ weight_of (raised x.knows.time node)
      light_more t x size low j some le =
          let e = own x.knows.time size in
          let w = weight-raised x.knows.time node (entry x.knows.time node + 1) (omega (arith, size, lt)) in
          elim (cases_eq j (suc (entry x.knows.time node))) [
            | inl last ↦
                let one = ap (λ (k : Interval). k.weight) (made_new node (entry x.knows.time node) (open_interval x) t j last) in
                omega (arith, one, w)
            | inr before ↦
                let one = ap (λ (k : Interval). k.weight) (made_old node (entry x.knows.time node) (open_interval x) t node j (λ own. omega (arith, le, e, before))) in
                let l = low j some (omega (arith, le, e, before)) in
                omega (arith, one, w, l)
          ]

  -- it learns
  learns : (mid mid' next next' : State) (n : IsNextAlike mid mid') → IsStateAlike nodes cap base.floor base'.floor n.made n.made' n.level next next'
      → ((q : ℕ) → entry mid.knows.time q ≤ entry next.knows.time q) → ((q : ℕ) → entry mid'.knows.time q ≤ entry next'.knows.time q) → IsNextAlike next next'
  learns mid mid' next next' n a up up' = record {
    made = n.made;
    made' = n.made';
    level = n.level;
    levels = n.levels;
    alike = a;
    knows_on = n.knows_on;
    on = n.on;
    most_own = λ b b' x.
        let (m, m') = n.most_own b b' x in
        let u = up node in
        let u' = up' node in
        (omega (arith, m, u), omega (arith, m', u'));
    most_other = n.most_other;
    light_own = λ j some le.
        let (m, m') = n.most_own (entry next.knows.time node) (entry next'.knows.time node) (a.knows.at node lt) in
        let l = n.light_own j some (omega (arith, le, m)) in
        let w = weight-covers next.knows.time mid.knows.time up in
        omega (arith, l, w);
    light_own' = λ j some le.
        let (m, m') = n.most_own (entry next.knows.time node) (entry next'.knows.time node) (a.knows.at node lt) in
        let l = n.light_own' j some (omega (arith, le, m')) in
        let w = weight-covers next'.knows.time mid'.knows.time up' in
        omega (arith, l, w);
    light_other = n.light_other;
    light_other' = n.light_other';
  }

  acquired_is : (s : State) (o : Option State) → acquired nodes node s o ≡ if_handed nodes o (closed node s)
  acquired_is s None = refl
  acquired_is s (Some released) = refl

  handed_up : (o : Option State) (s : State) (q : ℕ) → entry s.knows.time q ≤ entry (if_handed nodes o s).knows.time q
  handed_up None s q = omega arith
  handed_up (Some released) s q = covers-joined_first s.knows.time released.knows.time q

  handed_on : (n : IsNextAlike (closed node mine) (closed node yours)) (o o' : Option State)
      → IsHandedAlike nodes r.made r.made' r.level base.floor base'.floor o o' → IsHandedAlike nodes n.made n.made' n.level base.floor base'.floor o o'
  handed_on n (Some s) (Some s') (handed k) = handed (n.knows_on s.knows s'.knows k)
  handed_on n o o' (known_to_all x y) = known_to_all x y

  acquires : (l : ℕ) → IsDecidedDeed shape cap base'.floor run' states' node (Acquire l)
      → IsNextAlike (state_after (exact_rule shape) run states (length run) node (Acquire l))
      (state_after (exact_rule shape) run' states' (length run') node (Acquire l))
  acquires l decided =
      let o = released_state run states l (length run) in
      let o' = released_state run' states' l (length run') in
      let n = closes in
      subst (λ (x : State). IsNextAlike x (acquired nodes node yours o')) (sym (acquired_is mine o))
      (subst (λ (x : State). IsNextAlike (if_handed nodes o (closed node mine)) x) (sym (acquired_is yours o'))
      (learns (closed node mine) (closed node yours) (if_handed nodes o (closed node mine)) (if_handed nodes o' (closed node yours)) n
      (handed_alike shape cap base.floor base'.floor n.made n.made' n.level n.levels (closed node mine) (closed node yours) o o' (handed_on n o o' (r.locks l)) n.alike
      decided)
      (handed_up o (closed node mine)) (handed_up o' (closed node yours))))

  departs : shape.collect ≡ 0 → IsDecidedDeed shape cap base'.floor run' states' node Depart
      → IsNextAlike (state_after (exact_rule shape) run states (length run) node Depart)
      (state_after (exact_rule shape) run' states' (length run') node Depart)
  unfolding same_knows
  departs calm decided =
      let d = r.synchronized.departs node lt in
      let arrived = arrived_state run states (departs_before run node (length run)) (length run) in
      let arrived' = arrived_state run' states' (departs_before run' node (length run')) (length run') in
      let alike : (q : ℕ) → ArriveAlike nodes r.made r.made' r.level (arrived q) (arrived' q) =
      λ q.
      subst (λ k. ArriveAlike nodes r.made r.made' r.level (arrived_state run states k (length run) q) (arrived' q)) (sym d.one)
      (subst (λ k. ArriveAlike nodes r.made r.made' r.level (arrived_state run states (d.more + base.first) (length run) q) (arrived_state run' states' k (length run') q))
      (sym d.other) (r.arrived d.more q)) in
      let s = r.nodes_are node lt in
      let n = same_knows mine yours s refl refl in
      learns mine yours (departed shape mine arrived) (departed shape yours arrived') n
      (departed_alike shape cap base.floor base'.floor r.made r.made' r.level r.levels calm mine yours arrived arrived' alike s decided)
      (departed_up calm mine arrived) (departed_up calm yours arrived')
    where
      departed_up : shape.collect ≡ 0 → (x : State) (o : ℕ → Option State) (q : ℕ) → entry x.knows.time q ≤ entry (departed shape x o).knows.time q
      departed_up calm x o q =
          subst (λ (s : State). entry x.knows.time q ≤ entry s.knows.time q) (sym (calm_departed shape calm x o))
          (covers-joined_first x.knows.time (known_by_all nodes nodes o).time q)

  pub next_alike : shape.collect ≡ 0 → (deed : Deed) → IsDecidedDeed shape cap base'.floor run' states' node deed
      → IsNextAlike (state_after (exact_rule shape) run states (length run) node deed) (state_after (exact_rule shape) run' states' (length run') node deed)
  next_alike calm (Acquire l) decided = acquires l decided
  next_alike calm Depart decided = departs calm decided
  next_alike calm (Release l) decided = closes
  next_alike calm Arrive decided = closes
  next_alike calm (Read w v) decided =
      same_knows (accessed shape (page_of shape w) mine) (accessed shape (page_of shape w) yours)
      (read_alike shape cap base.floor base'.floor r.made r.made' r.level r.levels w mine yours (r.nodes_are node lt)) refl refl
  next_alike calm (Write w v) decided =
      same_knows (with_write shape w v (accessed shape (page_of shape w) mine)) (with_write shape w v (accessed shape (page_of shape w) yours))
      (written_alike shape cap base.floor base'.floor r.made r.made' r.level r.levels w v mine yours (r.nodes_are node lt)) refl refl
  next_alike calm Quiet decided = same_knows mine yours (r.nodes_are node lt) refl refl
  next_alike calm (Print v) decided = same_knows mine yours (r.nodes_are node lt) refl refl
  next_alike calm (Trap c) decided = same_knows mine yours (r.nodes_are node lt) refl refl
  next_alike calm End decided = same_knows mine yours (r.nodes_are node lt) refl refl

-- ---- the runs with one act more

module _ (shape : Shape) (cap : ℕ) (base base' : Base) (run run' : List Act) (states states' : List State)
    (r : AreRunsAlikeBy shape cap base base' run run' states states') (act : Act) (lt : act.node < shape.nodes) (calm : shape.collect ≡ 0)
    (decided : IsDecidedDeed shape cap base'.floor run' states' act.node act.deed) where
  abbrev pub next : State
  next = state_after (exact_rule shape) run states (length run) act.node act.deed

  abbrev pub next' : State
  next' = state_after (exact_rule shape) run' states' (length run') act.node act.deed

  n : IsNextAlike shape cap base base' run run' states states' r act.node lt next next'
  n = next_alike shape cap base base' run run' states states' r act.node lt calm act.deed decided

  abbrev GoAlike : State → State → Type 0
  GoAlike s s' = IsStateAlike shape.nodes cap base.floor base'.floor n.made n.made' n.level s s'

  stated : length states ≡ length run
  stated = r.keeps.stated

  stated' : length states' ≡ length run'
  stated' = r.keeps'.stated

  abbrev longer : List Act
  longer = run ++ act ∷ []

  abbrev longer' : List Act
  longer' = run' ++ act ∷ []

  abbrev later : List State
  later = states ++ next ∷ []

  abbrev later' : List State
  later' = states' ++ next' ∷ []

  own_is : here shape longer later act.node ≡ next
  own_is = before-own (exact_rule shape) run states act next stated

  own_is' : here shape longer' later' act.node ≡ next'
  own_is' = before-own (exact_rule shape) run' states' act next' stated'

  other_is : (q : ℕ) → q ≢ act.node → here shape longer later q ≡ here shape run states q
  other_is q other = before-other (exact_rule shape) run states act next stated q other

  other_is' : (q : ℕ) → q ≢ act.node → here shape longer' later' q ≡ here shape run' states' q
  other_is' q other = before-other (exact_rule shape) run' states' act next' stated' q other

  nodes_more : (q : ℕ) → q < shape.nodes → GoAlike (here shape longer later q) (here shape longer' later' q)
  nodes_more q within = elim (cases_eq q act.node) [
    | inl own ↦
        subst (λ k. GoAlike (here shape longer later k) (here shape longer' later' k)) (sym own)
        (subst (λ (s : State). GoAlike s (here shape longer' later' act.node)) (sym own_is) (subst (λ (s : State). GoAlike next s) (sym own_is') n.alike))
    | inr other ↦
        subst (λ (s : State). GoAlike s (here shape longer' later' q)) (sym (other_is q other))
        (subst (λ (s : State). GoAlike (here shape run states q) s) (sym (other_is' q other))
        (n.on (here shape run states q) (here shape run' states' q) (r.nodes_are q within)))
  ]

  most_more : (q b b' : ℕ) → q < shape.nodes → n.level q b b'
      → (b ≤ entry (here shape longer later q).knows.time q) × (b' ≤ entry (here shape longer' later' q).knows.time q)
  most_more q b b' within x = elim (cases_eq q act.node) [
    | inl own ↦
        let (m, m') = n.most_own b b' (subst (λ k. n.level k b b') own x) in
        let e = ap (λ k. entry (here shape longer later k).knows.time k) own ∙ ap (λ (s : State). entry s.knows.time act.node) own_is in
        let e' = ap (λ k. entry (here shape longer' later' k).knows.time k) own ∙ ap (λ (s : State). entry s.knows.time act.node) own_is' in
        (omega (arith, m, e), omega (arith, m', e'))
    | inr other ↦
        let (m, m') = r.most q b b' within (n.most_other q b b' other x) in
        let e = ap (λ (s : State). entry s.knows.time q) (other_is q other) in
        let e' = ap (λ (s : State). entry s.knows.time q) (other_is' q other) in
        (omega (arith, m, e), omega (arith, m', e'))
  ]

  light_more : AreLight shape longer later n.made
  light_more q j within some le = elim (cases_eq q act.node) [
    | inl own ↦
        subst (λ (k : ℕ). (n.made k j).weight ≤ weight_of (here shape longer later k).knows.time) (sym own)
        (subst (λ (s : State). (n.made act.node j).weight ≤ weight_of s.knows.time) (sym own_is)
        (n.light_own j some
        (let e = ap (λ k. entry (here shape longer later k).knows.time k) own ∙ ap (λ (s : State). entry s.knows.time act.node) own_is in omega (arith, le, e))))
    | inr other ↦
        let e = ap (λ (s : State). entry s.knows.time q) (other_is q other) in
        let w = ap (λ (s : State). weight_of s.knows.time) (other_is q other) in
        let l = r.light q j within some (omega (arith, le, e)) in
        let o = ap (λ (i : Interval). i.weight) (n.light_other q j other) in
        omega (arith, l, w, o)
  ]

  light_more' : AreLight shape longer' later' n.made'
  light_more' q j within some le = elim (cases_eq q act.node) [
    | inl own ↦
        subst (λ (k : ℕ). (n.made' k j).weight ≤ weight_of (here shape longer' later' k).knows.time) (sym own)
        (subst (λ (s : State). (n.made' act.node j).weight ≤ weight_of s.knows.time) (sym own_is')
        (n.light_own' j some
        (let e = ap (λ k. entry (here shape longer' later' k).knows.time k) own ∙ ap (λ (s : State). entry s.knows.time act.node) own_is' in omega (arith, le, e))))
    | inr other ↦
        let e = ap (λ (s : State). entry s.knows.time q) (other_is' q other) in
        let w = ap (λ (s : State). weight_of s.knows.time) (other_is' q other) in
        let l = r.light' q j within some (omega (arith, le, e)) in
        let o = ap (λ (i : Interval). i.weight) (n.light_other' q j other) in
        omega (arith, l, w, o)
  ]

  -- ---- locks

  abbrev Handed : Option State → Option State → Type 0
  Handed o o' = IsHandedAlike shape.nodes n.made n.made' n.level base.floor base'.floor o o'

  handed_still : (o o' : Option State) → IsHandedAlike shape.nodes r.made r.made' r.level base.floor base'.floor o o' → Handed o o'
  handed_still (Some s) (Some s') (handed k) = handed (n.knows_on s.knows s'.knows k)
  handed_still o o' (known_to_all x y) = known_to_all x y

  lock_kept : (l : ℕ) → (act.deed ≡ Release l → ⊥) → Handed (released_state longer later l (length longer)) (released_state longer' later' l (length longer'))
  lock_kept l other =
      subst (λ (o : Option State). Handed o (released_state longer' later' l (length longer'))) (sym (released-other (exact_rule shape) run states act next stated l other))
      (subst (λ (o : Option State). Handed (released_state run states l (length run)) o)
      (sym (released-other (exact_rule shape) run' states' act next' stated' l other))
      (handed_still (released_state run states l (length run)) (released_state run' states' l (length run')) (r.locks l)))

  lock_own : (l : ℕ) → act.deed ≡ Release l → Handed (released_state longer later l (length longer)) (released_state longer' later' l (length longer'))
  lock_own l is =
      subst (λ (o : Option State). Handed o (released_state longer' later' l (length longer'))) (sym (released-own (exact_rule shape) run states act next stated l is))
      (subst (λ (o : Option State). Handed (Some next) o) (sym (released-own (exact_rule shape) run' states' act next' stated' l is)) (handed n.alike.knows))

  lock_more : (l : ℕ) (d : Deed) → act.deed ≡ d → Handed (released_state longer later l (length longer)) (released_state longer' later' l (length longer'))
  lock_more l (Release m) is = elim (cases_eq m l) [
    | inl own ↦ lock_own l (is ∙ ap Release own)
    | inr other ↦ lock_kept l (λ e. let back : Release m ≡ Release l = sym is ∙ e in other cc)
  ]
  lock_more l Quiet is = lock_kept l (λ e. let never : Quiet ≡ Release l = sym is ∙ e in cc)
  lock_more l (Print v) is = lock_kept l (λ e. let never : Print v ≡ Release l = sym is ∙ e in cc)
  lock_more l (Read w v) is = lock_kept l (λ e. let never : Read w v ≡ Release l = sym is ∙ e in cc)
  lock_more l (Write w v) is = lock_kept l (λ e. let never : Write w v ≡ Release l = sym is ∙ e in cc)
  lock_more l (Acquire m) is = lock_kept l (λ e. let never : Acquire m ≡ Release l = sym is ∙ e in cc)
  lock_more l Arrive is = lock_kept l (λ e. let never : Arrive ≡ Release l = sym is ∙ e in cc)
  lock_more l Depart is = lock_kept l (λ e. let never : Depart ≡ Release l = sym is ∙ e in cc)
  lock_more l (Trap c) is = lock_kept l (λ e. let never : Trap c ≡ Release l = sym is ∙ e in cc)
  lock_more l End is = lock_kept l (λ e. let never : End ≡ Release l = sym is ∙ e in cc)

  -- ---- barriers

  abbrev Arrived : Option State → Option State → Type 0
  Arrived o o' = ArriveAlike shape.nodes n.made n.made' n.level o o'

  arrived_still : (o o' : Option State) → ArriveAlike shape.nodes r.made r.made' r.level o o' → Arrived o o'
  arrived_still None None a = tt
  arrived_still (Some s) (Some s') a = n.knows_on s.knows s'.knows a
  arrived_still (Some s) None a = absurd a
  arrived_still None (Some s') a = absurd a

  arrived_kept : (k q : ℕ) → (act.deed ≡ Arrive → arrives_before run act.node (length run) ≡ k + base.first → q ≡ act.node → ⊥)
      → (act.deed ≡ Arrive → arrives_before run' act.node (length run') ≡ k + base'.first → q ≡ act.node → ⊥)
      → Arrived (arrived_state longer later (k + base.first) (length longer) q) (arrived_state longer' later' (k + base'.first) (length longer') q)
  arrived_kept k q other other' =
      subst (λ (o : Option State). Arrived o (arrived_state longer' later' (k + base'.first) (length longer') q))
      (sym (arrived-rest (exact_rule shape) run states act next stated (k + base.first) q other))
      (subst (λ (o : Option State). Arrived (arrived_state run states (k + base.first) (length run) q) o)
      (sym (arrived-rest (exact_rule shape) run' states' act next' stated' (k + base'.first) q other'))
      (arrived_still (arrived_state run states (k + base.first) (length run) q) (arrived_state run' states' (k + base'.first) (length run') q) (r.arrived k q)))

  arrived_here : (k q : ℕ) → act.deed ≡ Arrive → Arrived (arrived_state longer later (k + base.first) (length longer) q) (arrived_state longer' later' (k + base'.first) (length longer') q)
  arrived_here k q is =
      let a = r.synchronized.arrives act.node lt in
      let one = a.one in
      let two = a.other in
      elim (cases_eq q act.node) [
        | inr other ↦ arrived_kept k q (λ e n own. other own) (λ e n own. other own)
        | inl own ↦ elim (cases_eq a.more k) [
          | inr apart ↦ arrived_kept k q (λ e n o. apart (omega (arith, n, one))) (λ e n o. apart (omega (arith, n, two)))
          | inl now ↦
              subst (λ n. Arrived (arrived_state longer later (k + base.first) (length longer) n) (arrived_state longer' later' (k + base'.first) (length longer') n)) (sym own)
              (subst (λ (o : Option State). Arrived o (arrived_state longer' later' (k + base'.first) (length longer') act.node))
              (sym (arrived-own (exact_rule shape) run states act next stated (k + base.first) is (omega (arith, one, now))))
              (subst (λ (o : Option State). Arrived (Some next) o)
              (sym (arrived-own (exact_rule shape) run' states' act next' stated' (k + base'.first) is (omega (arith, two, now)))) n.alike.knows))
        ]
      ]

  arrived_more : (k q : ℕ) (d : Deed) → act.deed ≡ d
      → Arrived (arrived_state longer later (k + base.first) (length longer) q) (arrived_state longer' later' (k + base'.first) (length longer') q)
  arrived_more k q Arrive is = arrived_here k q is
  arrived_more k q Quiet is = arrived_kept k q (λ e n o. let never : Quiet ≡ Arrive = sym is ∙ e in cc) (λ e n o. let never : Quiet ≡ Arrive = sym is ∙ e in cc)
  arrived_more k q (Print v) is = arrived_kept k q (λ e n o. let never : Print v ≡ Arrive = sym is ∙ e in cc) (λ e n o. let never : Print v ≡ Arrive = sym is ∙ e in cc)
  arrived_more k q (Read w v) is = arrived_kept k q (λ e n o. let never : Read w v ≡ Arrive = sym is ∙ e in cc) (λ e n o. let never : Read w v ≡ Arrive = sym is ∙ e in cc)
  arrived_more k q (Write w v) is = arrived_kept k q (λ e n o. let never : Write w v ≡ Arrive = sym is ∙ e in cc) (λ e n o. let never : Write w v ≡ Arrive = sym is ∙ e in cc)
  arrived_more k q (Acquire l) is = arrived_kept k q (λ e n o. let never : Acquire l ≡ Arrive = sym is ∙ e in cc) (λ e n o. let never : Acquire l ≡ Arrive = sym is ∙ e in cc)
  arrived_more k q (Release l) is = arrived_kept k q (λ e n o. let never : Release l ≡ Arrive = sym is ∙ e in cc) (λ e n o. let never : Release l ≡ Arrive = sym is ∙ e in cc)
  arrived_more k q Depart is = arrived_kept k q (λ e n o. let never : Depart ≡ Arrive = sym is ∙ e in cc) (λ e n o. let never : Depart ≡ Arrive = sym is ∙ e in cc)
  arrived_more k q (Trap c) is = arrived_kept k q (λ e n o. let never : Trap c ≡ Arrive = sym is ∙ e in cc) (λ e n o. let never : Trap c ≡ Arrive = sym is ∙ e in cc)
  arrived_more k q End is = arrived_kept k q (λ e n o. let never : End ≡ Arrive = sym is ∙ e in cc) (λ e n o. let never : End ≡ Arrive = sym is ∙ e in cc)

  pub runs_more : AreRunsAlikeBy shape cap base base' longer longer' later later'
  runs_more = record {
    some = r.some;
    wide = r.wide;
    wide' = r.wide';
    keeps = keeps-more (exact_rule shape) shape.nodes run states act next r.keeps lt refl;
    keeps' = keeps-more (exact_rule shape) shape.nodes run' states' act next' r.keeps' lt refl;
    synchronized = synchronized_more shape.nodes base.first base'.first run run' act r.synchronized;
    made = n.made;
    made' = n.made';
    level = n.level;
    levels = n.levels;
    most = most_more;
    light = light_more;
    light' = light_more';
    nodes_are = nodes_more;
    locks = λ l. lock_more l act.deed refl;
    arrived = λ k q. arrived_more k q act.deed refl;
  }
