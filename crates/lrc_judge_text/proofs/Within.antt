-- Where the acts stand that a judgement names.
use Rattle.std.proofs.Common.{◌≡◌, ◌∙◌, ◌<◌, ◌≤◌, ◌+◌, ◌⊎◌, ◌++◌, ℕ, List, [], All, ap, Option, None, Some, length, take, get_or, inl, inr, subst, sym, arith}
use Rattle.std.specs.Prelude.{IfErr, IsErrAnd, Result, Ok, Err}
use Rattle.std.proofs.lemmas.List.{take_more}
use Rattle.std.proofs.lemmas.List.Elements.{All-cons, All-more, All-nil, All-pop, All-weaker, Contains-get_or}
use Rattle.lrc_trace.specs.declared.act.Act.{Act}
use Rattle.lrc_trace.specs.Conflict.{Races, Reads, Writes}
use Rattle.lrc_trace.proofs.Positions.{Does-within}
use Rattle.lrc_judge.specs.Reading.{IsFirstMisread}
use Rattle.lrc_judge.specs.InOrder.{IsFirstOutOfOrder}
use Rattle.lrc_judge.specs.declared.in_order.OutOfOrder.{OutOfOrder}
use Rattle.lrc_judge.specs.Pairs.{ArePairsWithLater}
use Rattle.lrc_judge.specs.declared.lanes.Pair.{Pair}
use Rattle.lrc_acts.specs.ActsText.{SayActs, empty, more, none}
use Rattle.lrc_acts.specs.declared.reading.ActsFault.{ActsFault}
use Rattle.lrc_judge_text.specs.Judgement.{CountsNodes, IsNodeCount}

pub misread_within : {run : List Act} {p : ℕ} → IsFirstMisread run p → p < length run
misread_within h = Does-within h.misread.read.1

pub disorder_within : {run : List Act} {first : OutOfOrder} → IsFirstOutOfOrder run first → first.position < length run
disorder_within h = Does-within h.read.1

pub as_many : {nodes : Option ℕ} {number : ℕ} {lines : List (List ℕ)} {acts : List Act} {numbers : List ℕ} → SayActs nodes number lines acts numbers
    → length acts ≡ length numbers
as_many none = omega arith
as_many (empty e n) = as_many n
as_many (more s n) = omega (arith, as_many n)

-- ---- races

access_within : {run : List Act} {j q word : ℕ} → Reads run j q word ⊎ Writes run j q word → j < length run
access_within (inl h) = Does-within h.1
access_within (inr h) = Does-within h.1

pub race_within : {run : List Act} {i j : ℕ} → Races run i j → j < length run
race_within r = access_within r.conflict.3.second

-- the positions of the pairs with a later position lie in the run
pub pairs_within : (acts : List Act) (later : ℕ) (pairs : List Pair) → ArePairsWithLater acts later pairs
    → All (λ pair. (pair.earlier < length acts) × (pair.later < length acts)) pairs
pairs_within acts later pairs are k d within =
    let race = ((are.exact (get_or pairs k d)).0 (Contains-get_or pairs k d within)).1 in
    let last = race_within race in
    let earlier = race.earlier in
    (omega arith, last)

-- ---- nodes

pub counted_more : (acts : List Act) (i count next : ℕ) (d : Act) → i < length acts → IsNodeCount (take i acts) count → count ≤ next
    → (get_or acts i d).node + 1 ≤ next → (next ≡ count) ⊎ (next ≡ (get_or acts i d).node + 1) → IsNodeCount (take (i + 1) acts) next
counted_more acts i count next d lt h le own one = record {
  some = omega (arith, h.some, le);
  above = All-more (λ (a : Act). a.node < next) acts i d lt
      (All-weaker (λ (a : Act). a.node < count) (λ (a : Act). a.node < next) (λ a k. omega (arith, k, le)) (take i acts) h.above) (omega (arith, own));
  least = λ other some all.
      let parts = All-pop (λ (a : Act). a.node < other) (take (i + 1) acts) (take i acts) (Some (get_or acts i d)) (take_more acts i d lt) all in
      elim one [
        | inl e ↦ omega (arith, e, h.least other some parts.0)
        | inr e ↦ omega (arith, e, parts.1)
      ];
}

pub acts_ranged : {nodes : Option ℕ} {number : ℕ} {lines : List (List ℕ)} {acts : List Act} {numbers : List ℕ} → SayActs nodes number lines acts numbers
    → All (λ act. act.node < 16) acts
acts_ranged none = All-nil (λ (act : Act). act.node < 16)
acts_ranged (empty e n) = acts_ranged n
acts_ranged (more s n) = All-cons (λ (act : Act). act.node < 16) _ _ (omega (arith, s.node.small)) (acts_ranged n)

acts_among : {n number : ℕ} {lines : List (List ℕ)} {acts : List Act} {numbers : List ℕ} → SayActs (Some n) number lines acts numbers
    → All (λ act. act.node < n) acts
acts_among {n} none = All-nil (λ (act : Act). act.node < n)
acts_among {n} (empty e k) = acts_among k
acts_among {n} (more s k) = All-cons (λ (act : Act). act.node < n) _ _ s.among (acts_among k)

-- each act is of one of the nodes that are counted
pub acts_below : (nodes : Option ℕ) {number : ℕ} {lines : List (List ℕ)} {acts : List Act} {numbers : List ℕ} (count : ℕ)
    → SayActs nodes number lines acts numbers → CountsNodes nodes acts count → All (λ act. act.node < count) acts
acts_below None count says counted = counted.above
acts_below (Some n) {acts = acts} count says counted = subst (λ m. All (λ act. act.node < m) acts) (sym counted) (acts_among says)

-- ---- texts

pub four_texts : (none one two three four first second third fourth : List ℕ) → none ≡ [] → one ≡ none ++ first → two ≡ one ++ second
    → three ≡ two ++ third → four ≡ three ++ fourth → four ≡ first ++ second ++ third ++ fourth
four_texts start one two three four first second third fourth n f s t u =
    u ∙ ap (λ (l : List ℕ). l ++ fourth) (t ∙ ap (λ (l : List ℕ). l ++ third)
    (s ∙ ap (λ (l : List ℕ). l ++ second) (f ∙ ap (λ (l : List ℕ). l ++ first) n)))

-- ---- faults

pub fault_up : {T : Type 0} (r : Result T ActsFault) (fault : ActsFault) (P : ActsFault → Type 0) → IsErrAnd r (λ f. f ≡ fault) → P fault → IfErr r P
fault_up (Ok x) fault P is h = tt
fault_up (Err f) fault P is h = subst P (sym is) h
