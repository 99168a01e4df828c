-- What a run compares is decided below a cap that is higher than all weights.
use Rattle.std.proofs.Common.{◌≡◌, ℕ, zero, suc, ◌+◌, ◌<◌, ◌≤◌, List, length, inl, inr, refl, sym, subst, ap, arith}
use Rattle.std.specs.Prelude.{Option, Some, None}
use Rattle.std.proofs.lemmas.Bool.{cases_lt}
use Rattle.std.proofs.lemmas.Option.{same_Some}
use Rattle.lrc_trace.specs.declared.act.Act.{Act}
use Rattle.lrc_trace.specs.declared.act.Deed.{Deed}
use Rattle.lrc_trace.specs.declared.act.Deed.TheVariants.{Quiet, Print, Read, Write, Acquire, Release, Arrive, Depart, Trap, End}
use Rattle.lrc_trace.specs.Run.{departs_before}
use Rattle.lrc_time.specs.Time.{entry, weight_of}
use Rattle.lrc_time.proofs.Times.{covers-raised}
use Rattle.lrc_exact.specs.LocalRule.{arrived_state, released_state}
use Rattle.lrc_exact.specs.Memory.{Interval, Rank, Word}
use Rattle.lrc_exact.specs.Rule.{Knowledge, Shape, State, closed, known_by_all, with_news}
use Rattle.lrc_exact_states.specs.Levels.{Change, last_change}
use Rattle.lrc_exact_states.specs.Alike.{AreDecided, ArriveAlike, IsAllAlike, some_arrive, no_arrive, IsDecided, IsHandedAlike, handed, known_to_all, IsKnowledgeAlike, IsKnownToAll}
use Rattle.lrc_exact_states.specs.Runs.{Base, here, IsDecidedDeed}
use Rattle.lrc_exact_states.proofs.By.{AreRunsAlikeBy}
use Rattle.lrc_exact_states.proofs.Levels.{last-is}
use Rattle.lrc_exact_states.proofs.Stepping.{all_alike}

-- how heavy the times of the first so many nodes are together
abbrev pub heaviest : ℕ → (ℕ → List ℕ) → ℕ
heaviest zero times = 0
heaviest (suc node) times = weight_of (times node) + heaviest node times

no_heavier : (count : ℕ) (times : ℕ → List ℕ) (q : ℕ) → q < count → weight_of (times q) ≤ heaviest count times
no_heavier zero times q lt = absurd (omega (arith, lt))
no_heavier (suc count) times q lt = elim (cases_lt q count) [
  | inl less ↦ let l = no_heavier count times q less in omega (arith, l)
  | inr ge ↦
      let is : count ≡ q = omega (arith, lt, ge) in
      subst (λ k. weight_of (times k) ≤ heaviest (suc count) times) is (omega arith)
]

module _ (cap : ℕ) (floor : List ℕ) (had : List ℕ) (news : Knowledge) (word : ℕ) where
  -- a change that weighs less is decided, whatever the mark
  one_decided : (node : ℕ) (mark : Option Rank) (change : Option Change) → ((c : Change) → change ≡ Some c → c.weight < weight_of floor + cap)
      → IsDecided cap floor node mark change
  one_decided node (Some mark) (Some change) less = inr (inl (less change refl))
  one_decided node None change less = tt
  one_decided node (Some mark) None less = tt

  are_decided : (count : ℕ) (now : Word) → ((q j : ℕ) → q < count → entry had q < j → j ≤ entry news.time q → (news.interval q j).weight < weight_of floor + cap)
      → AreDecided cap floor count had news word now
  are_decided zero now less = tt
  are_decided (suc q) now less = (
    are_decided q now (λ k j lt. less k j (omega (arith, lt))),
    one_decided q (with_news q had news word now).mark (last_change (news.interval q) word (entry had q) (entry news.time q)) (λ c is.
        let b = last-is (news.interval q) word (entry had q) (entry news.time q) c is in
        let w = b.weighs in
        let l = less q b.index (omega arith) b.new b.known in
        omega (arith, w, l)),
  )

abbrev pub time_of : Shape → List Act → List State → ℕ → List ℕ
time_of shape run states q = (here shape run states q).knows.time

-- a cap that is higher than all weights
abbrev pub high_cap : Shape → List Act → List State → ℕ
high_cap shape run states = heaviest shape.nodes (time_of shape run states) + 1

module _ (shape : Shape) (cap : ℕ) (base : Base) (run : List Act) (states : List State) (r : AreRunsAlikeBy shape cap base base run run states states) (limit : ℕ)
    (high : high_cap shape run states ≤ limit) where
  abbrev nodes : ℕ
  nodes = shape.nodes

  abbrev Alike : Knowledge → Knowledge → Type 0
  Alike k k' = IsKnowledgeAlike nodes r.made r.made' r.level k k'

  weighs_less : (k k' : Knowledge) → Alike k k' → (q j : ℕ) → q < nodes → 1 ≤ j → j ≤ entry k.time q → (k.interval q j).weight < weight_of base.floor + limit
  weighs_less k k' a q j lt one le =
      let is = ap (λ (i : Interval). i.weight) (a.made_here q j lt one le) in
      let most = (r.most q (entry k.time q) (entry k'.time q) lt (a.at q lt)).0 in
      let light = r.light q j lt one (omega (arith, le, most)) in
      let heavy = no_heavier nodes (time_of shape run states) q lt in
      omega (arith, is, light, heavy, high)

  module _ (node : ℕ) (among : node < nodes) where
    abbrev mine : State
    mine = here shape run states node

    floor_known : (q : ℕ) → q < nodes → entry base.floor q ≤ entry mine.knows.time q
    floor_known q lt = (r.levels.above q (entry mine.knows.time q) (entry mine.knows.time q) ((r.nodes_are node among).knows.at q lt)).0

    handed_decided : (o o' : Option State) → IsHandedAlike nodes r.made r.made' r.level base.floor base.floor o o' → (s : State) → o ≡ Some s → (word : ℕ) (had : List ℕ) (now : Word)
        → ((q : ℕ) → q < nodes → entry mine.knows.time q ≤ entry had q) → AreDecided limit base.floor nodes had s.knows word now
    handed_decided (Some x) (Some x') (handed a) s is word had now up =
        subst (λ (z : State). AreDecided limit base.floor nodes had z.knows word now) (same_Some x s is)
        (are_decided limit base.floor had x.knows word nodes now (λ q j lt new le. weighs_less x.knows x'.knows a q j lt (omega (arith, new)) le))
    handed_decided o o' (known_to_all a b) s is word had now up =
        are_decided limit base.floor had s.knows word nodes now (λ q j lt new le.
        let low = (subst (λ (p : Option State). IsKnownToAll nodes base.floor p) is a).1 q in
        let f = floor_known q lt in
        let u = up q lt in
        absurd (omega (arith, new, le, low, f, u)))

    all_decided : (all all' : Knowledge) → IsAllAlike nodes r.made r.made' r.level all all' → (word : ℕ) (had : List ℕ) (now : Word)
        → AreDecided limit base.floor nodes had all word now
    all_decided all all' (some_arrive a) word had now =
        are_decided limit base.floor had all word nodes now (λ q j lt new le. weighs_less all all' a q j lt (omega (arith, new)) le)
    all_decided all all' (no_arrive long long' none none') word had now =
        are_decided limit base.floor had all word nodes now (λ q j lt new le. let z = none q in absurd (omega (arith, new, le, z)))

    pub deed_decided : (deed : Deed) → IsDecidedDeed shape limit base.floor run states node deed
    deed_decided (Acquire l) = λ s is word.
        handed_decided (released_state run states l (length run)) (released_state run states l (length run)) (r.locks l) s is word (closed node mine).knows.time
        ((closed node mine).words word) (λ q lt. covers-raised mine.knows.time node (entry mine.knows.time node + 1) (omega arith) q)
    deed_decided Depart = λ word.
        let d = r.synchronized.departs node among in
        let arrived = arrived_state run states (departs_before run node (length run)) (length run) in
        let alike : (q : ℕ) → ArriveAlike nodes r.made r.made' r.level (arrived q) (arrived q) =
        λ q. subst (λ k. ArriveAlike nodes r.made r.made' r.level (arrived_state run states k (length run) q) (arrived_state run states k (length run) q)) (sym d.one)
        (r.arrived d.more q) in
        all_decided (known_by_all nodes nodes arrived) (known_by_all nodes nodes arrived)
        (all_alike shape cap base.floor base.floor r.made r.made' r.level r.levels nodes arrived arrived alike) word mine.knows.time (mine.words word)
    deed_decided Quiet = tt
    deed_decided (Print v) = tt
    deed_decided (Read w v) = tt
    deed_decided (Write w v) = tt
    deed_decided (Release l) = tt
    deed_decided Arrive = tt
    deed_decided (Trap c) = tt
    deed_decided End = tt
