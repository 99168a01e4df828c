-- What a run of a program touches is in the program's range, and so is what its key lists.
use Rattle.std.proofs.Common.{◌≡◌, ℕ, zero, suc, ◌+◌, ◌<◌, ◌≤◌, ◌⊎◌, Bool, true, false, List, ◌++◌, length, inl, inr, refl, sym, subst, ap, ◌∙◌, arith}
use Rattle.std.specs.Prelude.{Option, Some, None, if◌then◌else◌, nat_le, option_map, unwrap_or}
use Rattle.std.proofs.lemmas.Bool.{cases_eq, cases_lt}
use Rattle.std.proofs.lemmas.Option.{none-some, same_Some}
use Rattle.lrc_trace.specs.declared.act.Act.{Act}
use Rattle.lrc_trace.specs.declared.act.Deed.{Deed}
use Rattle.lrc_trace.specs.declared.act.Deed.TheVariants.{Acquire, Release, Write}
use Rattle.lrc_trace.specs.Run.{Does}
use Rattle.lrc_trace.specs.Synchronization.{Holds}
use Rattle.lrc_time.specs.Time.{entry}
use Rattle.lrc_clock.specs.Times.{acts_at, releases_at}
use Rattle.lrc_clock.proofs.Passing.{releases_at-act}
use Rattle.lrc_exact.specs.LocalRule.{arrived_state, arrives_there, last_state, released_state}
use Rattle.lrc_exact.specs.Memory.{Interval}
use Rattle.lrc_exact.specs.Rule.{Knowledge, Shape, State, KeepsExact, state_at_start}
use Rattle.lrc_exact.proofs.LocalRules.{last-cases}
use Rattle.lrc_exact_states.specs.Levels.{Change, last_change, newest}
use Rattle.lrc_exact_states.specs.Runs.{Base, here}
use Rattle.lrc_exact_states.specs.Key.{arrived_since, arrives_of, at_arrive, at_lock, at_node, change_beyond, each_from, handed_on, is_above, known_at, Place, places_of}
use Rattle.lrc_exact_states.proofs.Fresh.{fresh_last, IfThere, IsFresh, IsUnchanged}
use Rattle.lrc_exact_states.proofs.Level.{none_there}
use Rattle.lrc_exact_states.proofs.Listed.{each_is, Has, has_cases, has_each, has_first, has_second}
use Rattle.lrc_exact_states.proofs.Placed.{IsPlace}
use Rattle.lrc_exact_states.proofs.Texts.{IsWithin}

-- ---- lists of places

has_arrive : (nodes : ℕ) (count : ℕ → ℕ) (number q : ℕ) → q < nodes → number < count q → Has (arrives_of nodes count) (at_arrive number q)
has_arrive zero count number q lt few = absurd (omega (arith, lt))
has_arrive (suc node) count number q lt few = elim (cases_eq node q) [
  | inl is ↦
      has_first (each_from 0 (count node) (λ (n : ℕ). at_arrive n node)) (arrives_of node count) (at_arrive number q)
      (subst (λ k. Has (each_from 0 (count node) (λ (n : ℕ). at_arrive n node)) (at_arrive number k)) is
      (has_each (λ (n : ℕ). at_arrive n node) 0 (count node) number (omega arith) (subst (λ k. number < 0 + count k) (sym is) (omega (arith, few)))))
  | inr other ↦
      has_second (each_from 0 (count node) (λ (n : ℕ). at_arrive n node)) (arrives_of node count) (at_arrive number q)
      (has_arrive node count number q (omega (arith, lt, other)) few)
]

arrive_valid : (nodes count_nodes : ℕ) (count : ℕ → ℕ) (p : Place) → Has (arrives_of count_nodes count) p → IsPlace nodes p
arrive_valid nodes zero count p has = absurd has
arrive_valid nodes (suc node) count p has = elim (has_cases (each_from 0 (count node) (λ (n : ℕ). at_arrive n node)) (arrives_of node count) p has) [
  | inl first ↦ let e = each_is (λ (n : ℕ). at_arrive n node) 0 (count node) p first in subst (IsPlace nodes) e.is tt
  | inr rest ↦ arrive_valid nodes node count p rest
]

pub places_valid : (nodes locks : ℕ) (count : ℕ → ℕ) (p : Place) → Has (places_of nodes locks count) p → IsPlace nodes p
places_valid nodes locks count p has = elim (has_cases (each_from 0 nodes at_node) (each_from 0 locks at_lock ++ arrives_of nodes count) p has) [
  | inl first ↦ let e = each_is at_node 0 nodes p first in let h = e.high in subst (IsPlace nodes) e.is (omega (arith, h))
  | inr rest ↦ elim (has_cases (each_from 0 locks at_lock) (arrives_of nodes count) p rest) [
    | inl second ↦ let e = each_is at_lock 0 locks p second in subst (IsPlace nodes) e.is tt
    | inr third ↦ arrive_valid nodes nodes count p third
  ]
]

arrives_agree : (nodes : ℕ) (count count' : ℕ → ℕ) → ((q : ℕ) → q < nodes → count q ≡ count' q) → arrives_of nodes count ≡ arrives_of nodes count'
arrives_agree zero count count' same = refl
arrives_agree (suc node) count count' same =
    ap (λ k. each_from 0 k (λ (n : ℕ). at_arrive n node) ++ arrives_of node count) (same node (omega arith))
    ∙ ap (λ ps. each_from 0 (count' node) (λ (n : ℕ). at_arrive n node) ++ ps) (arrives_agree node count count' (λ q lt. same q (omega (arith, lt))))

pub places_agree : (nodes locks : ℕ) (count count' : ℕ → ℕ) → ((q : ℕ) → q < nodes → count q ≡ count' q) → places_of nodes locks count ≡ places_of nodes locks count'
places_agree nodes locks count count' same =
    ap (λ ps. each_from 0 nodes at_node ++ (each_from 0 locks at_lock ++ ps)) (arrives_agree nodes count count' same)

-- ---- changes of a word that nobody changes

none_changed : (f : ℕ → Interval) (word first last : ℕ) → ((j : ℕ) → (f j).changed word ≡ None) → last_change f word first last ≡ None
none_changed f word first zero none = refl
none_changed f word first (suc last) none =
    ap (λ (o : Option ℕ). if nat_le first last then newest o (f (suc last)).weight (last_change f word first last) else None) (none (suc last))
    ∙ ap (λ (o : Option Change). if nat_le first last then o else None) (none_changed f word first last none)
    ∙ either (nat_le first last)
  where
    either : (b : Bool) → ◌≡◌ {A = Option Change} (if b then None else None) None
    either true = refl
    either false = refl

-- ---- one run

module _ (words locks : ℕ) (shape : Shape) (calm : shape.collect ≡ 0) (base : Base) (run : List Act) (states : List State) (keeps : KeepsExact shape run states)
    (within : (j q : ℕ) (deed : Deed) → Does run j q deed → IsWithin words locks deed) where
  -- who holds a lock, and which
  pub holds_within : (q l : ℕ) → Holds run (length run) q l → (q < shape.nodes) × (l < locks)
  holds_within q l h = (keeps.in_range h.since q (Acquire l) h.acquired, within h.since q (Acquire l) h.acquired)

  none_released : (l : ℕ) → locks ≤ l → released_state run states l (length run) ≡ None
  none_released l ge = elim (last-cases (releases_at run l) states (length run)) [
    | inl (none, never) ↦ none
    | inr (p, lt, holds, last, is) ↦
        let (m, does) = releases_at-act run p l holds in
        let less : l < locks = within p m (Release l) does in
        absurd (omega (arith, ge, less))
  ]

  none_arrived : (number q : ℕ) → (q < shape.nodes → arrived_since base run q ≤ number) → arrived_state run states (number + base.first) (length run) q ≡ None
  none_arrived number q few = none_there shape run states keeps (number + base.first) q (λ lt. let f = few lt in omega (arith, f))

  abbrev known : Place → Option Knowledge
  known p = known_at shape base run states p

  -- a place where something is known is in the list
  pub listed_or_none : (p : Place) → IsPlace shape.nodes p → Has (places_of shape.nodes locks (arrived_since base run)) p ⊎ (known p ≡ None)
  listed_or_none (at_node q) lt =
      inl (has_first (each_from 0 shape.nodes at_node) (each_from 0 locks at_lock ++ arrives_of shape.nodes (arrived_since base run)) (at_node q)
      (has_each at_node 0 shape.nodes q (omega arith) (omega (arith, lt))))
  listed_or_none (at_lock l) u = elim (cases_lt l locks) [
    | inl lt ↦
        inl (has_second (each_from 0 shape.nodes at_node) (each_from 0 locks at_lock ++ arrives_of shape.nodes (arrived_since base run)) (at_lock l)
        (has_first (each_from 0 locks at_lock) (arrives_of shape.nodes (arrived_since base run)) (at_lock l)
        (has_each at_lock 0 locks l (omega arith) (omega (arith, lt)))))
    | inr ge ↦ inr (ap (handed_on shape.nodes base.floor) (none_released l ge))
  ]
  listed_or_none (at_arrive number q) u = elim (cases_lt q shape.nodes) [
    | inr past ↦
        inr (ap (option_map (λ (s : State). s.knows)) (none_arrived number q (λ lt. absurd (omega (arith, past, lt)))))
    | inl lt ↦ elim (cases_lt number (arrived_since base run q)) [
      | inl few ↦
          inl (has_second (each_from 0 shape.nodes at_node) (each_from 0 locks at_lock ++ arrives_of shape.nodes (arrived_since base run)) (at_arrive number q)
          (has_second (each_from 0 locks at_lock) (arrives_of shape.nodes (arrived_since base run)) (at_arrive number q)
          (has_arrive shape.nodes (arrived_since base run) number q lt few)))
      | inr many ↦ inr (ap (option_map (λ (s : State). s.knows)) (none_arrived number q (λ less. many)))
    ]
  ]

  -- ---- words out of range

  module _ (word : ℕ) (past : words ≤ word) where
    never_written : (j q value : ℕ) → Does run j q (Write word value) → ⊥
    never_written j q value does = let lt : word < words = within j q (Write word value) does in omega (arith, lt, past)

    fresh : (passes : ℕ → Bool) → IfThere (IsFresh word) (last_state passes states (length run))
    fresh passes = fresh_last shape calm run states keeps word never_written passes

    pub fresh_here : (q : ℕ) → IsFresh word (here shape run states q)
    fresh_here q = go (last_state (acts_at run q) states (length run)) (fresh (acts_at run q))
      where
        go : (o : Option State) → IfThere (IsFresh word) o → IsFresh word (unwrap_or o (state_at_start shape.nodes))
        go None f = record { words = refl; before = refl; unchanged = λ n j. refl }
        go (Some state) f = f

    of_map : (o : Option State) → IfThere (IsFresh word) o → (k : Knowledge) → option_map (λ (s : State). s.knows) o ≡ Some k → IsUnchanged word k
    of_map None f k is = absurd (none-some k is)
    of_map (Some s) f k is = subst (IsUnchanged word) (same_Some s.knows k is) f.unchanged

    of_lock : (o : Option State) → IfThere (IsFresh word) o → (k : Knowledge) → handed_on shape.nodes base.floor o ≡ Some k → IsUnchanged word k
    of_lock None f k is = absurd (none-some k is)
    of_lock (Some s) f k is = go (is_above shape.nodes base.floor s.knows.time) is
      where
        go : (b : Bool) → ◌≡◌ {A = Option Knowledge} (if b then Some s.knows else None) (Some k) → IsUnchanged word k
        go true e = subst (IsUnchanged word) (same_Some s.knows k e) f.unchanged
        go false e = absurd (none-some k e)

    unchanged_at : (p : Place) (k : Knowledge) → known p ≡ Some k → IsUnchanged word k
    unchanged_at (at_node q) k is = subst (IsUnchanged word) (same_Some (here shape run states q).knows k is) (fresh_here q).unchanged
    unchanged_at (at_lock l) k is = of_lock (released_state run states l (length run)) (fresh (releases_at run l)) k is
    unchanged_at (at_arrive number q) k is =
        of_map (arrived_state run states (number + base.first) (length run) q) (fresh (arrives_there run (number + base.first) q)) k is

    pub no_change_beyond : (q : ℕ) (p o : Place) → change_beyond q word (known p) (known o) ≡ None
    no_change_beyond q p o = go (known p) (known o) (λ k is. unchanged_at o k is)
      where
        go : (x y : Option Knowledge) → ((k : Knowledge) → y ≡ Some k → IsUnchanged word k) → change_beyond q word x y ≡ None
        go None y un = refl
        go (Some k) None un = refl
        go (Some k) (Some m) un = none_changed (m.interval q) word (entry k.time q) (entry m.time q) (λ j. un m refl q j)
