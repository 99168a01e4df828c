-- The reordering that shows a sure race: all events by way of which the two were reached, then the two.
use Rattle.std.proofs.Common.{◌≡◌, ◌≢◌, ℕ, ◌+◌, ◌<◌, ◌≤◌, ◌⊎◌, List, [], ◌∷◌, ◌++◌}
use Rattle.std.proofs.Common.{length, map, get_or, inl, inr, refl, sym, subst, ◌∙◌, ap, arith, length-append}
use Rattle.std.specs.Prelude.{◌↔◌, Option, Some, None, slice_get, option_map}
use Rattle.std.proofs.lemmas.Bool.{cases_eq, cases_lt}
use Rattle.std.proofs.lemmas.List.{length-map}
use Rattle.std.proofs.lemmas.Option.{slice_get_within, same_Some, slice_get-map, slice_get-get_or, get_or_from_slice_get}
use Rattle.lrc_races_trace.specs.declared.event.Event.{Event}
use Rattle.lrc_races_trace.specs.declared.event.Operation.TheVariants.{Read, Fork, Join, Arrive}
use Rattle.lrc_races_trace.specs.Trace.{At, Accesses, given}
use Rattle.lrc_races_trace.specs.Order.{Precedes, HappensBefore, base, program, Reaches}
use Rattle.lrc_races_trace.proofs.Positions.{At-one, At-within}
use Rattle.lrc_races_trace.proofs.HappensBefore.{forward, Reaches-last}
use Rattle.lrc_races_sure.specs.Leading.{IsLastWrite, read, LeadsTo, one, IsByWay}
use Rattle.lrc_races_sure.specs.Sure.{IsSureRace}
use Rattle.lrc_races_sure.specs.Reordering.{Stands, StandsBefore, IsReordering, AreOnTheWay}
use Rattle.lrc_races_sure.proofs.Leading.{to-forward, to-ordered, way-forward, way-ordered, way-led}
use Rattle.lrc_races_sure.proofs.Deciding.{Decided, decided_either, decide_way, last_write, last_write-one, precede_cases, Cases}
use Rattle.lrc_races_sure.proofs.Choosing.{get-front, get-back, select, rank, rank-lt, rank-back, chosen, chosen_back}

-- an access orders nothing but its thread
access-given : (a : Event) (v l : ℕ) → Accesses a v → given a.operation ≡ Some l → ⊥
access-given a v l (inl e) gives = let none : given a.operation ≡ None = ap given e in let never : ⊥ = cc in never
access-given a v l (inr e) gives = let none : given a.operation ≡ None = ap given e in let never : ⊥ = cc in never

access-fork : (a : Event) (v u : ℕ) → Accesses a v → a.operation ≡ Fork u → ⊥
access-fork a v u (inl e) is = let never : ⊥ = cc in never
access-fork a v u (inr e) is = let never : ⊥ = cc in never

access-join : (a : Event) (v u : ℕ) → Accesses a v → a.operation ≡ Join u → ⊥
access-join a v u (inl e) is = let never : ⊥ = cc in never
access-join a v u (inr e) is = let never : ⊥ = cc in never

access-arrive : (a : Event) (v x : ℕ) → Accesses a v → a.operation ≡ Arrive x → ⊥
access-arrive a v x (inl e) is = let never : ⊥ = cc in never
access-arrive a v x (inr e) is = let never : ⊥ = cc in never

module _ (events : List Event) (i j : ℕ) (r : IsSureRace events i j) where
  -- what is on the way to i or to j
  abbrev pub Taken : ℕ → Type 0
  Taken p = IsByWay events p i ⊎ IsByWay events p j

  abbrev pub decide_taken : (p : ℕ) → Decided (Taken p)
  decide_taken p = decided_either (decide_way events p i) (decide_way events p j)

  abbrev pub front : List ℕ
  front = select Taken decide_taken j

  abbrev pub place : ℕ → ℕ
  place p = rank Taken decide_taken p

  abbrev pub size : ℕ
  size = length front

  abbrev pub positions : List ℕ
  positions = front ++ (i ∷ j ∷ [])

  abbrev event_at : ℕ → Event
  event_at p = get_or events p r.a

  abbrev pub list : List Event
  list = map event_at positions

  pub taken_led : {p q : ℕ} → LeadsTo events p q → Taken q → Taken p
  taken_led h (inl w) = inl (way-led h w)
  taken_led h (inr w) = inr (way-led h w)

  pub taken_below : (p : ℕ) → Taken p → p < j
  taken_below p (inl w) = let lt = way-forward w in let e = r.earlier in omega arith
  taken_below p (inr w) = way-forward w

  pub untaken_first : Taken i → ⊥
  untaken_first (inl w) = let lt = way-forward w in omega arith
  untaken_first (inr w) = r.free w

  -- ---- what stands where

  pub stands_front : (p : ℕ) → Taken p → Stands positions (place p) p × (place p < size)
  stands_front p h =
      let is = chosen Taken decide_taken j p (taken_below p h) h in
      let within = slice_get_within front (place p) p is in
      (record { is = get-front front (i ∷ j ∷ []) (place p) within ∙ is }, within)

  pub stands_first : Stands positions size i
  stands_first = record { is = get-back front (i ∷ j ∷ []) size 0 (omega arith) }

  pub stands_second : Stands positions (size + 1) j
  stands_second = record { is = get-back front (i ∷ j ∷ []) (size + 1) 1 (omega arith) }

  -- each place is one before the two, or that of i, or that of j
  pub data Standing (k p : ℕ) : Type 0 where
    in_front : Taken p → k ≡ place p → k < size → Standing k p
    at_first : k ≡ size → p ≡ i → Standing k p
    at_second : k ≡ size + 1 → p ≡ j → Standing k p

  pub standing : (k p : ℕ) → Stands positions k p → Standing k p
  standing k p s =
      let within = slice_get_within positions k p s.is in
      let long : length positions ≡ size + 2 = length-append front (i ∷ j ∷ []) in
      elim (cases_lt k size) [
        | inl early ↦
            let (lt, h, is) = chosen_back Taken decide_taken j k p (sym (get-front front (i ∷ j ∷ []) k early) ∙ s.is) in
            in_front h is early
        | inr late ↦
            elim (cases_eq k size) [
              | inl same ↦
                  at_first same (sym (same_Some i p (sym (get-back front (i ∷ j ∷ []) k 0 (omega arith)) ∙ s.is)))
              | inr other ↦
                  let last : k ≡ size + 1 = omega arith in
                  at_second last (sym (same_Some j p (sym (get-back front (i ∷ j ∷ []) k 1 last) ∙ s.is)))
            ]
      ]

  pub stands_one : (k p q : ℕ) → Stands positions k p → Stands positions k q → p ≡ q
  stands_one k p q s t = same_Some p q (sym s.is ∙ t.is)

  pub within_second : (k p : ℕ) → Standing k p → p ≤ j
  within_second k p (in_front h is lt) = let below = taken_below p h in omega arith
  within_second k p (at_first is same) = let e = r.earlier in omega arith
  within_second k p (at_second is same) = omega arith

  -- ---- the list

  event_is : (p : ℕ) (a : Event) → At events p a → event_at p ≡ a
  event_is p a at = get_or_from_slice_get events p a r.a at.is

  event_stands : (p : ℕ) → p ≤ j → At events p (event_at p)
  event_stands p le = let within = At-within r.second in record { is = slice_get-get_or events p r.a (omega arith) }

  pub list_at : (k p : ℕ) (a : Event) → Stands positions k p → At events p a → At list k a
  list_at k p a s at = record {
    is = slice_get-map event_at positions k ∙ ap (λ o. option_map event_at o) s.is ∙ ap Some (event_is p a at);
  }

  pub list_back : (k : ℕ) (a : Event) → At list k a → (p : ℕ) × Stands positions k p × At events p a
  list_back k a at = of (slice_get positions k) refl
    where
      of : (o : Option ℕ) → slice_get positions k ≡ o → (p : ℕ) × Stands positions k p × At events p a
      of None e =
          let none : slice_get list k ≡ None = slice_get-map event_at positions k ∙ ap (λ x. option_map event_at x) e in
          let is = at.is in
          let never : ⊥ = cc in
          absurd never
      of (Some p) e =
          let s : Stands positions k p = record { is = e } in
          let some : slice_get list k ≡ Some (event_at p) = slice_get-map event_at positions k ∙ ap (λ x. option_map event_at x) e in
          let same : event_at p ≡ a = same_Some (event_at p) a (sym some ∙ at.is) in
          (p, s, subst (λ x. At events p x) same (event_stands p (within_second k p (standing k p s))))

  -- ---- the order of the list

  -- an event of the list before another is earlier, or is later and not led to by it
  pub behind : (k l p q : ℕ) → Stands positions k p → Stands positions l q → k < l → (p < q) ⊎ ((q < p) × (LeadsTo events q p → ⊥))
  behind k l p q s t lt = of (standing k p s) (standing l q t)
    where
      of : Standing k p → Standing l q → (p < q) ⊎ ((q < p) × (LeadsTo events q p → ⊥))
      of (in_front h is below) (in_front g at above) = inl (rank-back Taken decide_taken p q (omega arith))
      of (in_front h is below) (at_first at same) =
          elim (cases_lt p q) [
            | inl early ↦ inl early
            | inr late ↦
                elim (cases_eq p i) [
                  | inl there ↦ absurd (untaken_first (subst Taken there h))
                  | inr other ↦ inr (omega arith, λ led. untaken_first (subst Taken same (taken_led led h)))
                ]
          ]
      of (in_front h is below) (at_second at same) = let lt' = taken_below p h in inl (omega arith)
      of (at_first is same) (in_front g at above) = absurd (omega arith)
      of (at_first is same) (at_first at same') = absurd (omega arith)
      of (at_first is same) (at_second at same') = let e = r.earlier in inl (omega arith)
      of (at_second is same) (in_front g at above) = absurd (omega arith)
      of (at_second is same) (at_first at same') = absurd (omega arith)
      of (at_second is same) (at_second at same') = absurd (omega arith)

  -- so those of one thread stand in the trace's order
  pub own_behind : (k l p q : ℕ) (a b : Event) → Stands positions k p → Stands positions l q → At events p a → At events q b → a.thread ≡ b.thread
      → k < l → p < q
  own_behind k l p q a b s t at there same lt =
      elim (behind k l p q s t lt) [
        | inl early ↦ early
        | inr (late, unled) ↦ absurd (unled (to-ordered (base (program late there at (sym same)))))
      ]

  -- what happens before an event of the list stands before it
  pub ahead : (l p q : ℕ) → Stands positions l q → HappensBefore events p q → StandsBefore positions l p
  ahead l p q t h = of (standing l q t)
    where
      put : Taken p → size ≤ l → StandsBefore positions l p
      put g le = let (s, below) = stands_front p g in (place p, omega arith, s)

      of : Standing l q → StandsBefore positions l p
      of (in_front g is below) =
          let less = taken_led (to-ordered h) g in
          let (s, early) = stands_front p less in
          let lower = rank-lt Taken decide_taken p q less (forward h) in
          (place p, omega arith, s)
      of (at_first is same) = put (inl (way-ordered (subst (λ m. HappensBefore events p m) same h))) (omega arith)
      of (at_second is same) = put (inr (way-ordered (subst (λ m. HappensBefore events p m) same h))) (omega arith)

  -- before an event that stands before the two are those that are earlier
  pub front_behind : (k l p q : ℕ) → Stands positions k p → Stands positions l q → Taken q → k < l → p < q
  front_behind k l p q s t g lt =
      elim (behind k l p q s t lt) [
        | inl early ↦ early
        | inr (late, unled) ↦ of (standing k p s) (standing l q t)
      ]
    where
      of : Standing k p → Standing l q → p < q
      of (in_front h is below) (in_front g' at above) = rank-back Taken decide_taken p q (omega arith)
      of (at_first is same) (in_front g' at above) = absurd (omega arith)
      of (at_second is same) (in_front g' at above) = absurd (omega arith)
      of s' (at_first at same) = absurd (untaken_first (subst Taken same g))
      of s' (at_second at same) = let lt' = taken_below q g in absurd (omega arith)

  pub taken_place : (l q : ℕ) → Stands positions l q → q ≢ i → q ≢ j → Taken q × (l ≡ place q)
  taken_place l q t first second = of (standing l q t)
    where
      of : Standing l q → Taken q × (l ≡ place q)
      of (in_front h is below) = (h, is)
      of (at_first is same) = absurd (first same)
      of (at_second is same) = absurd (second same)

  -- ---- reads

  module _ (k q v : ℕ) (b : Event) (t : Stands positions k q) (first : q ≢ i) (second : q ≢ j) (at : At events q b) (reads : b.operation ≡ Read v) where
    q_taken : Taken q
    q_taken = (taken_place k q t first second).0

    -- the last write in the trace is the last one in the list
    kept : (p : ℕ) → IsLastWrite events p q v → (m : ℕ) × Stands positions m p × IsLastWrite list m k v
    kept p last =
        let taken = taken_led (one (read at reads last)) q_taken in
        let (s, early) = stands_front p taken in
        let lower = rank-lt Taken decide_taken p q taken last.before in
        let is = (taken_place k q t first second).1 in
        let (own, room) = stands_front q q_taken in (
          place p,
          s,
          record {
            write = last.write;
            before = omega arith;
            at = list_at (place p) p last.write s last.at;
            writes = last.writes;
            last = λ n c below there writes.
                let (o, u, real) = list_back n c there in
                let le = last.last o c (front_behind n k o q u t q_taken below) real writes in
                elim (cases_lt (place p) n) [
                  | inr done ↦ done
                  | inl later ↦ let more = front_behind (place p) n p o s u (front_taken n o u (omega arith)) later in absurd (omega arith)
                ];
          },
        )
      where
        front_taken : (n o : ℕ) → Stands positions n o → n < size → Taken o
        front_taken n o u lt = of (standing n o u)
          where
            of : Standing n o → Taken o
            of (in_front h is below) = h
            of (at_first is same) = absurd (omega arith)
            of (at_second is same) = absurd (omega arith)

    pub reads_kept : (p : ℕ) → IsLastWrite events p q v ↔ ((m : ℕ) × Stands positions m p × IsLastWrite list m k v)
    reads_kept p = (
      kept p,
      λ (m, s, last).
          let (o, u, real) = list_back m last.write last.at in
          let same : o ≡ p = stands_one m o p u s in
          elim (last_write events v q) [
            | inr none ↦ absurd (none o last.write (front_behind m k o q u t q_taken last.before) real last.writes)
            | inl (p', last') ↦
                let (m', s', list_last) = kept p' last' in
                let there : m' ≡ m = last_write-one list list_last last in
                let own : p' ≡ p = stands_one m p' p (subst (λ x. Stands positions x p') there s') s in
                subst (λ x. IsLastWrite events x q v) own last'
          ],
    )

  -- ---- the two are a sure race of the list

  first_at : At list size r.a
  first_at = list_at size i r.a stands_first r.first

  second_at : At list (size + 1) r.b
  second_at = list_at (size + 1) j r.b stands_second r.second

  unordered : Precedes list size (size + 1) → ⊥
  unordered p =
      let (a, b, at, there, cases) = precede_cases list size (size + 1) p in
      of (subst (λ x. Cases list size (size + 1) x r.b) (At-one at first_at) (subst (λ x. Cases list size (size + 1) a x) (At-one there second_at) cases))
    where
      of : Cases list size (size + 1) r.a r.b → ⊥
      of (inl same) = r.conflict.apart same
      of (inr (inl (l, gives, gets))) = access-given r.a r.conflict.variable l r.conflict.first gives
      of (inr (inr (inl forks))) = access-fork r.a r.conflict.variable r.b.thread r.conflict.first forks
      of (inr (inr (inr (inl joins)))) = access-join r.b r.conflict.variable r.a.thread r.conflict.second joins
      of (inr (inr (inr (inr (inl (u, forks, joins)))))) = access-fork r.a r.conflict.variable u r.conflict.first forks
      of (inr (inr (inr (inr (inr (x, arrives, departs, cycle)))))) = access-arrive r.a r.conflict.variable x r.conflict.first arrives

  adjacent : (k : ℕ) → Reaches list size k → Precedes list k (size + 1) → k < size + 1 → ⊥
  adjacent k (inl same) p lt = unordered (subst (λ m. Precedes list m (size + 1)) (sym same) p)
  adjacent k (inr h) p lt = let less = forward h in absurd (omega arith)

  free : IsByWay list size (size + 1) → ⊥
  free w =
      let lt = forward w.before in
      elim w.leads [
        | inr led ↦ let less = to-forward led in absurd (omega arith)
        | inl same ↦
            let h : HappensBefore list size (size + 1) = subst (λ m. HappensBefore list m (size + 1)) (sym same) w.before in
            let (k, reaches, p) = Reaches-last list h in
            adjacent k reaches p (let step = forward (base p) in omega arith)
      ]

  -- ---- the whole

  pub on_the_way : AreOnTheWay events i j positions
  on_the_way = record {
    front = front;
    is = refl;
    ascending = λ k l d lt within.
        let e = slice_get-get_or front k d (omega arith) in
        let f = slice_get-get_or front l d within in
        let (below, h, is) = chosen_back Taken decide_taken j k (get_or front k d) e in
        let (below', h', is') = chosen_back Taken decide_taken j l (get_or front l d) f in
        rank-back Taken decide_taken (get_or front k d) (get_or front l d) (omega arith);
    exact = λ p. (
      λ (k, lt, is).
          let e : slice_get front k ≡ Some p = slice_get-get_or front k p lt ∙ ap Some is in
          let (below, h, at) = chosen_back Taken decide_taken j k p e in
          h,
      λ h.
          let is = chosen Taken decide_taken j p (taken_below p h) h in
          (place p, slice_get_within front (place p) p is, get_or_from_slice_get front (place p) p p is),
    );
  }

  pub reordered : IsReordering events i j positions list
  reordered = record {
    taken = record {
      long = length-map positions event_at;
      same = λ k p s. let at = event_stands p (within_second k p (standing k p s)) in (event_at p, at, list_at k p (event_at p) s at);
      once = λ k m p s t. once k m p (standing k p s) (standing m p t);
    };
    threads = λ k p q a b t there at lt same. ahead k p q t (base (program lt at there same));
    waits = λ k p q b t at which h. ahead k p q t h;
    reads = λ k q v b t first second at reads. reads_kept k q v b t first second at reads;
    before = size;
    size = length-map positions event_at ∙ length-append front (i ∷ j ∷ []);
    first = stands_first;
    second = stands_second;
    sure = record {
      a = r.a;
      b = r.b;
      earlier = omega arith;
      first = first_at;
      second = second_at;
      conflict = r.conflict;
      free = free;
    };
  }
    where
      once : (k m p : ℕ) → Standing k p → Standing m p → k ≡ m
      once k m p (in_front h is lt) (in_front g at below) = is ∙ sym at
      once k m p (in_front h is lt) (at_first at same) = absurd (untaken_first (subst Taken same h))
      once k m p (in_front h is lt) (at_second at same) = let below = taken_below p h in absurd (omega arith)
      once k m p (at_first is same) (in_front g at below) = absurd (untaken_first (subst Taken same g))
      once k m p (at_first is same) (at_first at same') = is ∙ sym at
      once k m p (at_first is same) (at_second at same') = let e = r.earlier in absurd (omega arith)
      once k m p (at_second is same) (in_front g at below) = let less = taken_below p g in absurd (omega arith)
      once k m p (at_second is same) (at_first at same') = let e = r.earlier in absurd (omega arith)
      once k m p (at_second is same) (at_second at same') = is ∙ sym at
