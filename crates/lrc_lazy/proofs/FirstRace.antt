-- Whether two positions race is decided, so a run with a race has a first one.
use Rattle.std.proofs.Common.{◌≡◌, ℕ, zero, suc, ◌+◌, ◌<◌, ◌⊎◌, List, length, inl, inr, refl, sym, subst, ◌∙◌, arith}
use Rattle.std.proofs.lemmas.Bool.{cases_eq, cases_lt}
use Rattle.lrc_trace.specs.declared.act.Act.{Act}
use Rattle.lrc_trace.specs.declared.act.Deed.{Deed}
use Rattle.lrc_trace.specs.declared.act.Deed.TheVariants.{Read, Write}
use Rattle.lrc_trace.specs.Run.{Does}
use Rattle.lrc_trace.specs.Conflict.{Accesses, Writes, Conflict, Races, IsFirstRace}
use Rattle.lrc_trace.proofs.Positions.{Does-within, Does-deed, Does-one_deed, Does-one_node}
use Rattle.lrc_trace.proofs.Intervals.{act_at}
use Rattle.lrc_trace.proofs.Decided.{search_below, HappensBefore-decided}

-- a deed reads the word, or writes it
abbrev DeedReads : Deed → ℕ → Type 0
DeedReads d word = (v : ℕ) × (d ≡ Read word v)

abbrev DeedWrites : Deed → ℕ → Type 0
DeedWrites d word = (v : ℕ) × (d ≡ Write word v)

-- both access the word, and one of them writes it
data Clash (d e : Deed) : Type 0 where
  read_write : (word : ℕ) → DeedReads d word → DeedWrites e word → Clash d e
  write_read : (word : ℕ) → DeedWrites d word → DeedReads e word → Clash d e
  write_write : (word : ℕ) → DeedWrites d word → DeedWrites e word → Clash d e

-- what a deed is
data Kind (d : Deed) : Type 0 where
  a_read : (word : ℕ) → DeedReads d word → ((x : ℕ) → DeedWrites d x → ⊥) → ((x : ℕ) → DeedReads d x → x ≡ word) → Kind d
  a_write : (word : ℕ) → DeedWrites d word → ((x : ℕ) → DeedReads d x → ⊥) → ((x : ℕ) → DeedWrites d x → x ≡ word) → Kind d
  no_access : ((x : ℕ) → DeedReads d x → ⊥) → ((x : ℕ) → DeedWrites d x → ⊥) → Kind d

kind_of : (d : Deed) → Kind d
kind_of (Read w v) = a_read w (v, refl) (λ x (u, is). let never : ⊥ = cc in absurd never) (λ x (u, is). cc)
kind_of (Write w v) = a_write w (v, refl) (λ x (u, is). let never : ⊥ = cc in absurd never) (λ x (u, is). cc)
kind_of d = no_access (λ x (u, is). let never : ⊥ = cc in absurd never) (λ x (u, is). let never : ⊥ = cc in absurd never)

clash_of : (d e : Deed) → Kind d → Kind e → Clash d e ⊎ (Clash d e → ⊥)
clash_of d e (a_read w r not one) (a_read x s other two) = inr (λ c. elim c [
  | read_write y a b ↦ other y b
  | write_read y a b ↦ not y a
  | write_write y a b ↦ not y a
])
clash_of d e (a_read w r not one) (a_write x s other two) = elim (cases_eq x w) [
  | inl same ↦ inl (read_write w r (subst (λ y. DeedWrites e y) same s))
  | inr apart ↦ inr (λ c. elim c [
    | read_write y a b ↦ apart (sym (two y b) ∙ one y a)
    | write_read y a b ↦ not y a
    | write_write y a b ↦ not y a
  ])
]
clash_of d e (a_write w r not one) (a_read x s other two) = elim (cases_eq x w) [
  | inl same ↦ inl (write_read w r (subst (λ y. DeedReads e y) same s))
  | inr apart ↦ inr (λ c. elim c [
    | read_write y a b ↦ not y a
    | write_read y a b ↦ apart (sym (two y b) ∙ one y a)
    | write_write y a b ↦ other y b
  ])
]
clash_of d e (a_write w r not one) (a_write x s other two) = elim (cases_eq x w) [
  | inl same ↦ inl (write_write w r (subst (λ y. DeedWrites e y) same s))
  | inr apart ↦ inr (λ c. elim c [
    | read_write y a b ↦ not y a
    | write_read y a b ↦ other y b
    | write_write y a b ↦ apart (sym (two y b) ∙ one y a)
  ])
]
clash_of d e (no_access reads writes) other = inr (λ c. elim c [
  | read_write y a b ↦ reads y a
  | write_read y a b ↦ writes y a
  | write_write y a b ↦ writes y a
])
clash_of d e first (no_access reads writes) = inr (λ c. elim c [
  | read_write y a b ↦ writes y b
  | write_read y a b ↦ reads y b
  | write_write y a b ↦ writes y b
])

module _ (run : List Act) (i j p q : ℕ) (d e : Deed) (first : Does run i p d) (second : Does run j q e) where
  to_conflict : (p ≡ q → ⊥) → Clash d e → Conflict run i j
  to_conflict apart (read_write word (u, a) (v, b)) = (
    p,
    q,
    word,
    record {
      apart = apart;
      first = inl (u, Does-deed a first);
      second = inr (v, Does-deed b second);
      writes = inr (v, Does-deed b second);
    },
  )
  to_conflict apart (write_read word (u, a) (v, b)) = (
    p,
    q,
    word,
    record {
      apart = apart;
      first = inr (u, Does-deed a first);
      second = inl (v, Does-deed b second);
      writes = inl (u, Does-deed a first);
    },
  )
  to_conflict apart (write_write word (u, a) (v, b)) = (
    p,
    q,
    word,
    record {
      apart = apart;
      first = inr (u, Does-deed a first);
      second = inr (v, Does-deed b second);
      writes = inl (u, Does-deed a first);
    },
  )

  both : (m n word : ℕ) → Accesses run i m word → Accesses run j n word → Writes run i m word ⊎ Writes run j n word → Clash d e
  both m n word (inr (u, a)) (inr (v, b)) w = write_write word (u, Does-one_deed first a) (v, Does-one_deed second b)
  both m n word (inr (u, a)) (inl (v, b)) w = write_read word (u, Does-one_deed first a) (v, Does-one_deed second b)
  both m n word (inl (u, a)) (inr (v, b)) w = read_write word (u, Does-one_deed first a) (v, Does-one_deed second b)
  both m n word (inl (u, a)) (inl (v, b)) (inl (x, w)) = write_read word (x, Does-one_deed first w) (v, Does-one_deed second b)
  both m n word (inl (u, a)) (inl (v, b)) (inr (x, w)) = read_write word (u, Does-one_deed first a) (x, Does-one_deed second w)

  node_of : (k m n word : ℕ) (c : Deed) → Does run k m c → Accesses run k n word → m ≡ n
  node_of k m n word c here (inl (v, a)) = Does-one_node here a
  node_of k m n word c here (inr (v, a)) = Does-one_node here a

  from_conflict : Conflict run i j → (p ≡ q → ⊥) × Clash d e
  from_conflict (m, n, word, c) = (
    λ same. c.apart (sym (node_of i p m word d first c.first) ∙ same ∙ node_of j q n word e second c.second),
    both m n word c.first c.second c.writes,
  )

  conflict_or_not : Conflict run i j ⊎ (Conflict run i j → ⊥)
  conflict_or_not = elim (cases_eq p q) [
    | inl same ↦ inr (λ c. (from_conflict c).0 same)
    | inr apart ↦ elim (clash_of d e (kind_of d) (kind_of e)) [
      | inl clash ↦ inl (to_conflict apart clash)
      | inr none ↦ inr (λ c. none (from_conflict c).1)
    ]
  ]

-- an access stands in the run
pub access_within : {run : List Act} {j q word : ℕ} → Accesses run j q word → j < length run
access_within (inl (v, does)) = Does-within does
access_within (inr (v, does)) = Does-within does

module _ (run : List Act) where
  race_or_not : (i j : ℕ) → i < j → Races run i j ⊎ (Races run i j → ⊥)
  race_or_not i j lt = elim (cases_lt j (length run)) [
    | inr past ↦ inr (λ r. let within = access_within r.conflict.3.second in absurd (omega arith))
    | inl within ↦
        let a = act_at run i (omega arith) in
        let b = act_at run j within in
        elim (conflict_or_not run i j a.0.node b.0.node a.0.deed b.0.deed a.1 b.1) [
          | inr none ↦ inr (λ r. none r.conflict)
          | inl conflict ↦ elim (HappensBefore-decided run i j) [
            | inl before ↦ inr (λ r. r.unordered before)
            | inr unordered ↦ inl (record { earlier = lt; conflict = conflict; unordered = unordered })
          ]
        ]
  ]

  -- some race comes to a position, or none
  comes_or_not : (j : ℕ) → ((i : ℕ) × (i < j) × Races run i j) ⊎ ((i : ℕ) → Races run i j → ⊥)
  comes_or_not j = elim (search_below (λ i. Races run i j) j (λ i lt. race_or_not i j lt)) [
    | inl found ↦ inl found
    | inr none ↦ inr (λ i r. none i r.earlier r)
  ]

  -- the first position that a race comes to below a bound, where there is one
  first_below : (bound : ℕ) → ((position : ℕ) × (position < bound) × IsFirstRace run position) ⊎ ((i j : ℕ) → j < bound → Races run i j → ⊥)
  first_below zero = inr (λ i j lt r. absurd (omega (arith, lt)))
  first_below (suc bound) = elim (first_below bound) [
    | inl (position, lt, first) ↦ inl (position, omega (arith, lt), first)
    | inr none ↦ elim (comes_or_not bound) [
      | inl (i, lt, race) ↦
          inl (
            bound,
            omega arith,
            record {
              with = i;
              races = race;
              least = λ k j other. elim (cases_lt j bound) [ inl before ↦ absurd (none k j before other) | inr le ↦ le ];
            },
          )
      | inr here ↦ inr (λ i j lt r. elim (cases_eq j bound) [
        | inl same ↦ here i (subst (λ x. Races run i x) same r)
        | inr apart ↦ none i j (omega (arith, lt, apart)) r
      ])
    ]
  ]

  pub first_race : (i j : ℕ) → Races run i j → (position : ℕ) × IsFirstRace run position
  first_race i j race = elim (first_below (j + 1)) [
    | inl (position, lt, first) ↦ (position, first)
    | inr none ↦ absurd (none i j (omega arith) race)
  ]
