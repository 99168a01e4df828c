-- The keepers after a collection: the least node with a stored interval that names the page is the exact memory's keeper.
use Rattle.std.proofs.Common.{◌≡◌, ◌⊎◌, ℕ, zero, suc, ◌+◌, ◌<◌, ◌≤◌, List, [], ◌∷◌, Bool, true, false, length, inl, inr, refl, sym, ap, subst, ◌∙◌, arith}
use Rattle.std.specs.Prelude.{Option, Some, None, is_some, Contains, ◌||◌, min, nat_lt, unwrap_or, option_map, slice_index, if◌then◌else◌}
use Rattle.std.specs.List.{enumerate_from, cons_option}
use Rattle.std.proofs.lemmas.Bool.{cases_eq, cases_lt, false≢true, ltb-true, lt-ltb}
use Rattle.std.proofs.lemmas.Option.{same_Some}
use Rattle.std.proofs.lemmas.List.{get_or-map}
use Rattle.std.proofs.lemmas.List.FromFn.{get_or-enumerate_from, length-enumerate_from}
use Rattle.lrc_time.specs.Time.{entry}
use Rattle.lrc_page.specs.declared.size.Size.{Size}
use Rattle.lrc_store.specs.Interval.{IntervalRecord, index_of}
use Rattle.lrc_store.specs.Store.{StoredRecord, interval_of, intervals_of, notice_of}
use Rattle.lrc_store.proofs.Orders.{Contains-first, Contains-later, cases_Contains, none_Contains}
use Rattle.lrc_copies.specs.Stamps.{stamp_index}
use Rattle.lrc_protocol.specs.Times.{is_named}
use Rattle.lrc_protocol.specs.Pages.{Memory, keeper_at}
use Rattle.lrc_protocol.specs.Barriers.{least, with_keepers}
use Rattle.lrc_reading_laws.specs.Written.{made_stamps}
use Rattle.lrc_reading_laws.proofs.Collected.Keepers.{names, Namer, namers_in, is_named_by, keeper-named, keeper-unnamed}
use Rattle.lrc_reading_laws.proofs.Fitting.Repair.{named_is}
use Rattle.lrc_reading_laws.proofs.Stamped.Lists.{HasRecord, interval-in, interval-from}
use Rattle.lrc_exact.specs.Rule.{Knowledge, is_writer, keeper_of}
use Rattle.lrc_exact_reading.proofs.Staleness.{IsNamedBy, named-from, named-to}
use Rattle.lrc_exact_made.specs.Copies.{IsExactly}
use Rattle.lrc_exact_made.specs.Steps.{IsAmong}
use Rattle.lrc_exact_collected.specs.Keepers.{StoresWhatIsKnown, KeepersAreExact}

-- ---- the exact memory's keeper is the first that wrote the page

pub record IsFirst (dropped : List ℕ) (all : Knowledge) (page n m : ℕ) : Type 0 where
  pub most : m ≤ n
  pub at : m < n → is_writer dropped all page m ≡ true
  pub below : (q : ℕ) → q < m → q < n → is_writer dropped all page q ≡ false

first-same : (dropped : List ℕ) (all : Knowledge) (page n m k : ℕ) → m ≡ k → IsFirst dropped all page n m → IsFirst dropped all page n k
first-same dropped all page n m k e h = subst (IsFirst dropped all page n) e h

pub keeper-first : (dropped : List ℕ) (all : Knowledge) (page n : ℕ) → IsFirst dropped all page n (keeper_of n dropped all page)
keeper-first dropped all page zero = record { most = omega arith; at = λ lt. absurd (omega arith); below = λ q lt less. absurd (omega arith) }
keeper-first dropped all page (suc n) = go (keeper-first dropped all page n) (nat_lt (keeper_of n dropped all page) n) refl
  where
    last : (lower : ℕ) → IsFirst dropped all page n lower → lower ≡ n → (t : Bool) → is_writer dropped all page n ≡ t
        → IsFirst dropped all page (suc n) (if t then n else (suc n))
    last lower h same true is = record {
      most = omega arith;
      at = λ lt. is;
      below = λ q lt less. h.below q (omega arith) (omega arith);
    }
    last lower h same false is = record {
      most = omega arith;
      at = λ lt. absurd (omega arith);
      below = λ q lt less. elim (cases_eq q n) [
        | inl here ↦ ap (is_writer dropped all page) here ∙ is
        | inr apart ↦ h.below q (omega arith) (omega arith)
      ];
    }

    go : IsFirst dropped all page n (keeper_of n dropped all page) → (t : Bool) → nat_lt (keeper_of n dropped all page) n ≡ t
        → IsFirst dropped all page (suc n)
        (if t then keeper_of n dropped all page else (if is_writer dropped all page n then n else (suc n)))
    go h true e =
        let less = ltb-true (keeper_of n dropped all page) n e in
        record {
          most = omega arith;
          at = λ lt. h.at less;
          below = λ q lt fewer. h.below q lt (omega arith);
        }
    go h false e =
        let most = h.most in
        let same : keeper_of n dropped all page ≡ n = elim (cases_lt (keeper_of n dropped all page) n) [
          | inl less ↦ absurd (false≢true (sym e ∙ lt-ltb (keeper_of n dropped all page) n less))
          | inr least ↦ omega arith
        ] in
        last (keeper_of n dropped all page) h same (is_writer dropped all page n) refl

-- ---- the least of some numbers

no_least : (xs : List ℕ) → least xs ≡ None → (x : ℕ) → Contains xs x → ⊥
no_least [] e x there = none_Contains x there
no_least (y ∷ xs) e x there = cc

-- none is less
least_below : (xs : List ℕ) (m : ℕ) → least xs ≡ Some m → (x : ℕ) → Contains xs x → m ≤ x
least_below [] m e x there = absurd (none_Contains x there)
least_below (y ∷ xs) m e x there = by_rest (λ n some later. least_below xs n some x later) (least xs) refl (same_Some _ m e)
  where
    by_rest : ((n : ℕ) → least xs ≡ Some n → Contains xs x → n ≤ x) → (o : Option ℕ) → least xs ≡ o → unwrap_or (option_map (min y) o) y ≡ m
        → m ≤ x
    by_rest more None none is = elim (cases_Contains y xs x there) [
      | inl here ↦ omega arith
      | inr later ↦ absurd (no_least xs none x later)
    ]
    by_rest more (Some n) some is =
        elim (cases_Contains y xs x there) [
          | inl here ↦ omega arith
          | inr later ↦ let le = more n some later in omega arith
        ]

-- a node with an interval that names the page is among those that do
alone : (b : Bool) → (b || false) ≡ b
alone true = refl
alone false = refl

in_namers : (intervals : List IntervalRecord) (page node : ℕ) → Namer intervals page node → Contains (namers_in intervals page) node
in_namers [] page node n = absurd (none_Contains n.interval n.among)
in_namers (x ∷ intervals) page node n =
    by_test (λ k. in_namers intervals page node k) (is_named (x ∷ []) page) refl (cases_Contains x intervals n.interval n.among)
  where
    by_test : (Namer intervals page node → Contains (namers_in intervals page) node) → (b : Bool) → is_named (x ∷ []) page ≡ b
        → (x ≡ n.interval) ⊎ Contains intervals n.interval
        → Contains (cons_option (if b then Some x.node else None) (namers_in intervals page)) node
    by_test more true is (inl here) =
        subst (Contains (x.node ∷ namers_in intervals page)) (ap (λ (i : IntervalRecord). i.node) here ∙ n.node_is)
        (Contains-first x.node (namers_in intervals page))
    by_test more true is (inr later) =
        Contains-later x.node (namers_in intervals page) node
        (more (record { interval = n.interval; among = later; node_is = n.node_is; named = n.named }))
    by_test more false is (inl here) = absurd (false≢true (sym is ∙ alone (names page x) ∙ ap (names page) here ∙ n.named))
    by_test more false is (inr later) =
        more (record { interval = n.interval; among = later; node_is = n.node_is; named = n.named })

keeper_then : (memory : Memory) (page : ℕ) → page < length memory.keepers
    → keeper_at (with_keepers memory) page ≡ unwrap_or (least (namers_in (intervals_of memory.store) page)) (keeper_at memory page)
keeper_then memory page lt =
    let f : ℕ × ℕ → ℕ = λ place. unwrap_or (least (namers_in (intervals_of memory.store) place.0)) place.1 in
    let same : 0 + page ≡ page = omega arith in
    let long = length-enumerate_from 0 memory.keepers in
    get_or-map f (enumerate_from 0 memory.keepers) page (0, 0) 0 (omega arith)
    ∙ ap f (get_or-enumerate_from 0 memory.keepers page (0, 0) lt)
    ∙ ap (λ k. f (k, slice_index memory.keepers page)) same

-- no node that names the page is less than its keeper
keeper_below : (memory : Memory) (page : ℕ) → page < length memory.keepers → (node : ℕ) → Namer (intervals_of memory.store) page node
    → keeper_at (with_keepers memory) page ≤ node
keeper_below memory page lt node n = by_least (least (namers_in (intervals_of memory.store) page)) refl
  where
    there : Contains (namers_in (intervals_of memory.store) page) node
    there = in_namers (intervals_of memory.store) page node n

    by_least : (o : Option ℕ) → least (namers_in (intervals_of memory.store) page) ≡ o → keeper_at (with_keepers memory) page ≤ node
    by_least None e = absurd (no_least (namers_in (intervals_of memory.store) page) e node there)
    by_least (Some m) e =
        let is : keeper_at (with_keepers memory) page ≡ m = keeper_then memory page lt ∙ ap (λ o. unwrap_or o (keeper_at memory page)) e in
        let le = least_below (namers_in (intervals_of memory.store) page) m e node there in
        omega arith

-- ---- who names a page

module _ (size : Size) (nodes : ℕ) (made : List StoredRecord) (dropped : List ℕ) (all : Knowledge) (memory : Memory) (page : ℕ)
    (h : StoresWhatIsKnown size nodes made dropped all memory.store) where
  abbrev intervals : List IntervalRecord
  intervals = intervals_of memory.store

  -- who has a stored interval that names the page wrote it
  pub writes : (node : ℕ) → Namer intervals page node → (is_writer dropped all page node ≡ true) × (node < nodes)
  writes node n =
      let had = (h.just n.interval).0 n.among in
      let x : HasRecord made n.interval = interval-from made n.interval had.0 in
      let index_is : stamp_index made_stamps x.x ≡ index_of n.interval = ap index_of x.is in
      let node_is : x.x.node ≡ node = ap (λ (i : IntervalRecord). i.node) x.is ∙ n.node_is in
      let known : stamp_index made_stamps x.x ≤ entry all.time x.x.node =
      subst (λ i. index_of i ≤ entry all.time i.node) (sym x.is) had.2 in
      let later : entry dropped x.x.node < stamp_index made_stamps x.x =
      subst (λ i. entry dropped i.node < index_of i) (sym x.is) had.1 in
      let it : IsExactly size x.x (all.interval x.x.node (stamp_index made_stamps x.x)) = h.exactly.each x.x x.in_list known in
      let named : is_some (notice_of page x.x) ≡ true =
      sym (named_is page x.x.notices) ∙ ap (names page) x.is ∙ n.named in (
        subst (λ q. is_writer dropped all page q ≡ true) node_is
            (named-to (all.interval x.x.node) page (entry dropped x.x.node) (entry all.time x.x.node) (stamp_index made_stamps x.x) later known
            (it.names page ∙ named)),
        subst (λ q. q < nodes) node_is (h.among x.x x.in_list),
      )

  -- and who wrote it has one
  pub namer : (node : ℕ) → is_writer dropped all page node ≡ true → Namer intervals page node
  namer node is =
      let by : IsNamedBy (all.interval node) page (entry dropped node) (entry all.time node) =
      named-from (all.interval node) page (entry dropped node) (entry all.time node) is in
      let new = by.new in
      let known = by.known in
      let it : IsAmong made node by.index = h.reach node by.index (omega arith) known in
      let y : StoredRecord = it.interval in
      let y_known : stamp_index made_stamps y ≤ entry all.time y.node =
      subst (λ q. stamp_index made_stamps y ≤ entry all.time q) (sym it.node_is)
      (subst (λ k. k ≤ entry all.time node) (sym it.index_is) known) in
      let y_later : entry dropped y.node < stamp_index made_stamps y =
      subst (λ q. entry dropped q < stamp_index made_stamps y) (sym it.node_is)
      (subst (λ k. entry dropped node < k) (sym it.index_is) new) in
      let exact : IsExactly size y (all.interval y.node (stamp_index made_stamps y)) = h.exactly.each y it.member y_known in
      let named : is_some (notice_of page y) ≡ true =
      sym (exact.names page)
      ∙ ap (λ k. (all.interval y.node k).names page) it.index_is
      ∙ ap (λ q. (all.interval q by.index).names page) it.node_is
      ∙ by.names in
      record {
        interval = interval_of y;
        among = (h.just (interval_of y)).1 (interval-in made y it.member, y_later, y_known);
        node_is = it.node_is;
        named = named_is page y.notices ∙ named;
      }

  first : IsFirst dropped all page nodes (keeper_of nodes dropped all page)
  first = keeper-first dropped all page nodes

  pub named-keeper : page < length memory.keepers → is_named intervals page ≡ true
      → keeper_at (with_keepers memory) page ≡ keeper_of nodes dropped all page
  named-keeper lt named =
      let keeper : ℕ = keeper_at (with_keepers memory) page in
      let other : ℕ = keeper_of nodes dropped all page in
      let mine = writes keeper (keeper-named intervals memory.keepers page lt named) in
      let within = mine.1 in
      elim (cases_lt keeper other) [
        | inl less ↦ absurd (false≢true (sym (first.below keeper less within) ∙ mine.0))
        | inr least ↦
            let le = keeper_below memory page lt other (namer other (first.at (omega arith))) in
            omega arith
      ]

  pub unnamed-keeper : is_named intervals page ≡ false
      → (keeper_of nodes dropped all page ≡ nodes) × (keeper_at (with_keepers memory) page ≡ keeper_at memory page)
  unnamed-keeper none = (nobody, keeper-unnamed intervals memory.keepers page none)
    where
      nobody : keeper_of nodes dropped all page ≡ nodes
      nobody = elim (cases_lt (keeper_of nodes dropped all page) nodes) [
        | inl less ↦
            let n : Namer intervals page (keeper_of nodes dropped all page) = namer (keeper_of nodes dropped all page) (first.at less) in
            absurd (false≢true (sym none ∙ is_named_by intervals page n.interval n.among n.named))
        | inr most ↦ let le = first.most in omega arith
      ]

pub keepers_exact : KeepersAreExact
keepers_exact size nodes made dropped all memory page h lt =
    (named-keeper size nodes made dropped all memory page h lt, unnamed-keeper size nodes made dropped all memory page h)
