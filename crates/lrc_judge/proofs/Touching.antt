-- What is kept of the accesses to a word, one position further, and the races that it shows.
use Rattle.std.proofs.Common.{◌≡◌, ℕ, ◌+◌, ◌-◌, ◌<◌, ◌≤◌, List, length, get_or, set, inl, inr, refl, sym, subst, ◌∙◌, ap, arith}
use Rattle.std.specs.Prelude.{◌≢◌, ◌↔◌, false, Option, Some, None}
use Rattle.std.specs.Ordering.{is_eq, nat_cmp}
use Rattle.std.specs.declared.cmp.Ordering.TheVariants.{Less, Greater}
use Rattle.std.specs.Cmp.{nat_cmp_is}
use Rattle.std.specs.BTreeMap.{BTreeMap, get, is_at, IsEmpty, Updates}
use Rattle.std.specs.Map.{lookup}
use Rattle.std.proofs.lemmas.Bool.{cases_eq, cases_lt}
use Rattle.std.proofs.lemmas.List.{get_or-set_same, get_or-set_other}
use Rattle.lrc_trace.specs.declared.act.Act.{Act}
use Rattle.lrc_trace.specs.declared.act.Deed.{Deed}
use Rattle.lrc_trace.specs.declared.act.Deed.TheVariants.{Read, Write}
use Rattle.lrc_trace.specs.Run.{Does}
use Rattle.lrc_trace.specs.Order.{HappensBefore}
use Rattle.lrc_trace.specs.Conflict.{Accesses, ConflictAt, Races, Writes}
use Rattle.lrc_trace.proofs.Positions.{Does-one_node, Does-one_deed, Does-within}
use Rattle.lrc_judge.specs.declared.reach.Reach.{Reach}
use Rattle.lrc_judge.specs.declared.touched.Touched.{Touched}
use Rattle.lrc_judge.specs.Past.{Gathers}
use Rattle.lrc_judge.specs.Touched.{AreLatest, IsTouched, IsTouchedOr, AreTouched}
use Rattle.lrc_judge.specs.Unreached.{IsSomeUnreached}

-- ---- the latest positions of the nodes

pub AreLatest-zeros : (run : List Act) (n : ℕ) (these : ℕ → ℕ → Type 0) (latest : List ℕ) → ((p : ℕ) → get_or latest p 0 ≡ 0)
    → ((i p : ℕ) → i < n → these i p → ⊥) → AreLatest run n these latest
AreLatest-zeros run n these latest zeros none = record {
  sound = λ i p e. let z = zeros p in absurd (omega arith);
  complete = λ i p lt h. absurd (none i p lt h);
}

module _ (run : List Act) (n : ℕ) (these : ℕ → ℕ → Type 0) (latest : List ℕ) (old : AreLatest run n these latest) where
  pub AreLatest-same : ((p : ℕ) → these n p → ⊥) → AreLatest run (n + 1) these latest
  AreLatest-same none = record {
    sound = λ i p e. let (lt, h) = old.sound i p e in (omega arith, h);
    complete = λ i p lt h.
        elim (cases_eq i n) [
          | inl same ↦ absurd (none p (subst (λ k. these k p) same h))
          | inr other ↦ old.complete i p (omega arith) h
        ];
  }

  pub AreLatest-next : (node : ℕ) → node < length latest → these n node → ((p : ℕ) → these n p → p ≡ node)
      → AreLatest run (n + 1) these (set latest node (n + 1))
  AreLatest-next node within now one = record {
    sound = λ i p e.
        elim (cases_eq p node) [
          | inl same ↦
              let at = get_or-set_same latest node (n + 1) 0 within in
              let e' : i + 1 ≡ get_or (set latest node (n + 1)) node 0 = e ∙ ap (λ q. get_or (set latest node (n + 1)) q 0) same in
              let is : i ≡ n = omega arith in
              (omega arith, subst (λ q. these i q) (sym same) (subst (λ k. these k node) (sym is) now))
          | inr other ↦
              let at = get_or-set_other latest node p (n + 1) 0 other in
              let (lt, h) = old.sound i p (e ∙ at) in
              (omega arith, h)
        ];
    complete = λ i p lt h.
        elim (cases_eq p node) [
          | inl same ↦
              let at = get_or-set_same latest node (n + 1) 0 within in
              let is : get_or (set latest node (n + 1)) p 0 ≡ n + 1 = ap (λ q. get_or (set latest node (n + 1)) q 0) same ∙ at in
              omega arith
          | inr other ↦
              let at = get_or-set_other latest node p (n + 1) 0 other in
              elim (cases_eq i n) [
                | inl here ↦ absurd (other (one p (subst (λ k. these k p) here h)))
                | inr before ↦ let lt' = old.complete i p (omega arith) h in omega arith
              ]
        ];
  }

-- ---- one access

module _ (run : List Act) (n node word value : ℕ) where
  pub read_is : Does run n node (Read word value) → (p w : ℕ) → Accesses run n p w → (p ≡ node) × (w ≡ word)
  read_is here p w (inl (v, h)) = let e = Does-one_deed h here in let same : w ≡ word = cc in (Does-one_node h here, same)
  read_is here p w (inr (v, h)) = let e = Does-one_deed h here in let never : ⊥ = cc in absurd never

  pub read_writes_nothing : Does run n node (Read word value) → (p w : ℕ) → Writes run n p w → ⊥
  read_writes_nothing here p w (v, h) = let e = Does-one_deed h here in let never : ⊥ = cc in never

  pub write_is : Does run n node (Write word value) → (p w : ℕ) → Accesses run n p w → (p ≡ node) × (w ≡ word)
  write_is here p w (inl (v, h)) = let e = Does-one_deed h here in let never : ⊥ = cc in absurd never
  write_is here p w (inr (v, h)) = let e = Does-one_deed h here in let same : w ≡ word = cc in (Does-one_node h here, same)

-- ---- a word

pub IsTouched-none : (run : List Act) (n word : ℕ) (touched : Touched) → ((p : ℕ) → get_or touched.accessed p 0 ≡ 0)
    → ((p : ℕ) → get_or touched.written p 0 ≡ 0) → ((i p : ℕ) → i < n → Accesses run i p word → ⊥) → IsTouched run n word touched
IsTouched-none run n word touched accessed written none = record {
  accessed = AreLatest-zeros run n _ touched.accessed accessed none;
  written = AreLatest-zeros run n _ touched.written written (λ i p lt h. none i p lt (inr h));
}

-- an act that does not access the word leaves what is kept of it
pub IsTouched-same : (run : List Act) (n word : ℕ) (touched : Touched) → ((p : ℕ) → Accesses run n p word → ⊥)
    → IsTouched run n word touched → IsTouched run (n + 1) word touched
IsTouched-same run n word touched none old = record {
  accessed = AreLatest-same run n _ touched.accessed old.accessed none;
  written = AreLatest-same run n _ touched.written old.written (λ p h. none p (inr h));
}

-- a read, or a write, by one node
pub IsTouched-read : (run : List Act) (n node word value : ℕ) (touched after : Touched) → Does run n node (Read word value)
    → node < length touched.accessed → after.accessed ≡ set touched.accessed node (n + 1) → after.written ≡ touched.written
    → IsTouched run n word touched → IsTouched run (n + 1) word after
IsTouched-read run n node word value touched after here within accessed written old = record {
  accessed = subst (λ l. AreLatest run (n + 1) (λ i p. Accesses run i p word) l) (sym accessed)
      (AreLatest-next run n _ touched.accessed old.accessed node within (inl (value, here)) (λ p h. (read_is run n node word value here p word h).0));
  written = subst (λ l. AreLatest run (n + 1) (λ i p. Writes run i p word) l) (sym written)
      (AreLatest-same run n _ touched.written old.written (λ p h. read_writes_nothing run n node word value here p word h));
}

pub IsTouched-write : (run : List Act) (n node word value : ℕ) (touched after : Touched) → Does run n node (Write word value)
    → node < length touched.accessed → node < length touched.written → after.accessed ≡ set touched.accessed node (n + 1)
    → after.written ≡ set touched.written node (n + 1) → IsTouched run n word touched → IsTouched run (n + 1) word after
IsTouched-write run n node word value touched after here within within' accessed written old = record {
  accessed = subst (λ l. AreLatest run (n + 1) (λ i p. Accesses run i p word) l) (sym accessed)
      (AreLatest-next run n _ touched.accessed old.accessed node within (inr (value, here)) (λ p h. (write_is run n node word value here p word h).0));
  written = subst (λ l. AreLatest run (n + 1) (λ i p. Writes run i p word) l) (sym written)
      (AreLatest-next run n _ touched.written old.written node within' (value, here) (λ p h. (write_is run n node word value here p word (inr h)).0));
}

same_or : (run : List Act) (n word : ℕ) (o : Option Touched) → ((p : ℕ) → Accesses run n p word → ⊥) → IsTouchedOr run n word o → IsTouchedOr run (n + 1) word o
same_or run n word (Some touched) none old = IsTouched-same run n word touched none old
same_or run n word None none old = λ i p lt h.
    elim (cases_eq i n) [
      | inl same ↦ none p (subst (λ k. Accesses run k p word) same h)
      | inr other ↦ old i p (omega arith) h
    ]

-- ---- all words

pub AreTouched-none : (run : List Act) (words : BTreeMap ℕ Touched) → IsEmpty words → AreTouched run 0 words
AreTouched-none run words empty = λ word.
    let none : get nat_cmp words word ≡ None = ap (λ es. lookup (is_at (nat_cmp word)) es) empty in
    subst (λ o. IsTouchedOr run 0 word o) (sym none) (λ i p lt h. absurd (omega arith))

-- an act that is no access
pub AreTouched-same : (run : List Act) (n : ℕ) (words : BTreeMap ℕ Touched) → ((p word : ℕ) → Accesses run n p word → ⊥)
    → AreTouched run n words → AreTouched run (n + 1) words
AreTouched-same run n words none old = λ word. same_or run n word (get nat_cmp words word) (λ p. none p word) (old word)

-- another word is at another key
pub apart_at : (k q : ℕ) → (q ≡ k → ⊥) → is_at (nat_cmp k) q ≡ false
apart_at k q other =
    elim (cases_lt k q) [
      | inl less ↦ ap is_eq (sym (nat_cmp_is k q Less less))
      | inr not_less ↦
          elim (cases_lt q k) [
            | inl more ↦ ap is_eq (sym (nat_cmp_is k q Greater more))
            | inr not_more ↦ absurd (other (omega arith))
          ]
    ]

-- an access of one word
pub AreTouched-next : (run : List Act) (n word : ℕ) (words after : BTreeMap ℕ Touched) (touched : Touched)
    → Updates nat_cmp words after word (Some touched) → IsTouched run (n + 1) word touched
    → ((p w : ℕ) → Accesses run n p w → w ≡ word) → AreTouched run n words → AreTouched run (n + 1) after
AreTouched-next run n word words after touched updates now one old = λ w.
    elim (cases_eq w word) [
      | inl same ↦
          let is : get nat_cmp after w ≡ Some touched = ap (λ q. get nat_cmp after q) same ∙ updates.1 in
          subst (λ o. IsTouchedOr run (n + 1) w o) (sym is) (subst (λ q. IsTouched run (n + 1) q touched) (sym same) now)
      | inr other ↦
          let is : get nat_cmp after w ≡ get nat_cmp words w = updates.2 w (apart_at word w other) in
          subst (λ o. IsTouchedOr run (n + 1) w o) (sym is) (same_or run n w (get nat_cmp words w) (λ p h. other (one p w h)) (old w))
    ]

-- ---- races

-- a position that is not reached does not happen before
module _ (run : List Act) (position node word : ℕ) (deed : Deed) (reach : Reach) (here : Does run position node deed)
    (gathers : Gathers run (λ k. k ≡ position) reach) where
  deed_of : (i p w : ℕ) → Accesses run i p w → (d : Deed) × Does run i p d
  deed_of i p w (inl (v, h)) = (Read w v, h)
  deed_of i p w (inr (v, h)) = (Write w v, h)

  unreached : (i p : ℕ) (d : Deed) → Does run i p d → get_or reach.latest p 0 ≤ i → HappensBefore run i position → ⊥
  unreached i p d h le before =
      let lt = gathers.complete i position p d h refl (inr before) in
      omega arith

  reached : (i p : ℕ) (d : Deed) → Does run i p d → i < position → i < get_or reach.latest p 0 → HappensBefore run i position
  reached i p d h earlier lt =
      let (k, is, reaches) = gathers.sound i p d h lt in
      elim reaches [
        | inl same ↦ absurd (omega (arith, same, is))
        | inr before ↦ subst (λ m. HappensBefore run i m) is before
      ]

  -- accesses of one kind, where just these conflict with the act
  module _ (these : ℕ → ℕ → Type 0) (latest : List ℕ) (kept : AreLatest run position these latest)
      (access : (i p : ℕ) → these i p → Accesses run i p word) where
    pub unreached_races : ((i p : ℕ) → p ≢ node → these i p → ConflictAt run i p position node word)
        → IsSomeUnreached latest node reach → (i : ℕ) × Races run i position
    unreached_races conflict u =
        let i = get_or latest u.other 0 - 1 in
        let lt = u.later in
        let e : i + 1 ≡ get_or latest u.other 0 = omega arith in
        let (earlier, h) = kept.sound i u.other e in
        let (d, does) = deed_of i u.other word (access i u.other h) in (
          i,
          record {
            earlier = earlier;
            conflict = (u.other, node, word, conflict i u.other u.apart h);
            unordered = unreached i u.other d does (omega arith);
          },
        )

    pub races_unreached : ((i p q w : ℕ) → ConflictAt run i p position q w → (p ≢ node) × these i p) → (i : ℕ)
        × Races run i position → IsSomeUnreached latest node reach
    races_unreached kind (i, r) =
        let (p, q, w, c) = r.conflict in
        let (apart, h) = kind i p q w c in
        let (d, does) = deed_of i p word (access i p h) in
        let lt = kept.complete i p r.earlier h in
        elim (cases_lt (get_or reach.latest p 0) (get_or latest p 0)) [
          | inl later ↦ record { other = p; apart = apart; later = later }
          | inr le ↦ absurd (r.unordered (reached i p d does r.earlier (omega arith)))
        ]

-- ---- by the deed

module _ (run : List Act) (position node word value : ℕ) (reach : Reach) (gathers : Gathers run (λ k. k ≡ position) reach)
    (touched : Touched) (kept : IsTouched run position word touched) where
  pub read_races : Does run position node (Read word value) → IsSomeUnreached touched.written node reach ↔ ((i : ℕ) × Races run i position)
  read_races here = (
    unreached_races run position node word (Read word value) reach here gathers
        (λ i p. Writes run i p word) touched.written kept.written (λ i p h. inr h) (λ i p apart h. record {
          apart = apart;
          first = inr h;
          second = inl (value, here);
          writes = inl h;
        }),
    races_unreached run position node word (Read word value) reach here gathers
        (λ i p. Writes run i p word) touched.written kept.written (λ i p h. inr h) (λ i p q w c.
        let (is, same) = read_is run position node word value here q w c.second in
        elim c.writes [
          | inl h ↦ (λ e. c.apart (e ∙ sym is), subst (λ v. Writes run i p v) same h)
          | inr h ↦ absurd (read_writes_nothing run position node word value here q w h)
        ]),
  )

  pub write_races : Does run position node (Write word value) → IsSomeUnreached touched.accessed node reach ↔ ((i : ℕ) × Races run i position)
  write_races here = (
    unreached_races run position node word (Write word value) reach here gathers
        (λ i p. Accesses run i p word) touched.accessed kept.accessed (λ i p h. h) (λ i p apart h. record {
          apart = apart;
          first = h;
          second = inr (value, here);
          writes = inr (value, here);
        }),
    races_unreached run position node word (Write word value) reach here gathers
        (λ i p. Accesses run i p word) touched.accessed kept.accessed (λ i p h. h) (λ i p q w c.
        let (is, same) = write_is run position node word value here q w c.second in
        (λ e. c.apart (e ∙ sym is), subst (λ v. Accesses run i p v) same c.first)),
  )

-- what accesses nothing races with nothing
pub races_access : (run : List Act) (i position : ℕ) → Races run i position → (p : ℕ) × (w : ℕ) × Accesses run position p w
races_access run i position r = let (p, q, w, c) = r.conflict in (q, w, c.second)

-- an act that is neither a read nor a write accesses nothing
pub no_access : (run : List Act) (n node : ℕ) (deed : Deed) → Does run n node deed → ((w v : ℕ) → deed ≡ Read w v → ⊥)
    → ((w v : ℕ) → deed ≡ Write w v → ⊥) → (p w : ℕ) → Accesses run n p w → ⊥
no_access run n node deed here not_read not_write p w (inl (v, h)) = not_read w v (Does-one_deed here h)
no_access run n node deed here not_read not_write p w (inr (v, h)) = not_write w v (Does-one_deed here h)

-- a race is between positions of the run
pub Races-within : (run : List Act) (i j : ℕ) → Races run i j → j < length run
Races-within run i j r =
    let (p, q, w, c) = r.conflict in
    elim c.second [ inl (v, h) ↦ Does-within h | inr (v, h) ↦ Does-within h ]
