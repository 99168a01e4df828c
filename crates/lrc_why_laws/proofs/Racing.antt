-- What is told of two acts that race is why they are not ordered.
use Rattle.std.proofs.Common.{◌≡◌, ℕ, ◌<◌, List, Some, Option, inl, inr, sym, ap, subst, ◌∙◌, arith}
use Rattle.std.specs.Prelude.{Contains, MatchOption, false, max, min}
use Rattle.std.proofs.lemmas.Option.{get_or_from_slice_get, slice_get_within}
use Rattle.lrc_trace.specs.declared.act.Act.{Act}
use Rattle.lrc_trace.specs.declared.act.Deed.{Deed}
use Rattle.lrc_trace.specs.declared.act.Deed.TheVariants.{Arrive, Read, Write}
use Rattle.lrc_trace.specs.Conflict.{Accesses, Races}
use Rattle.lrc_trace.specs.Interval.{interval_at}
use Rattle.lrc_trace.specs.Order.{program, lock, base, further}
use Rattle.lrc_trace.specs.Run.{Does, is_depart}
use Rattle.lrc_trace.specs.Synchronization.{IsWellSynchronized, WaitsAtBarriers}
use Rattle.lrc_trace.proofs.Positions.{Does-one_deed, Does-one_node}
use Rattle.lrc_why_chains.specs.Known.{IsLastKnown}
use Rattle.lrc_why_chains.proofs.Barriers.{behind_one}
use Rattle.lrc_why_chains.proofs.Unordered.{accessed, held_in_order, known_is_earlier}
use Rattle.lrc_why.specs.declared.reasons.Opponent.{Opponent}
use Rattle.lrc_why.specs.declared.reasons.Parting.{Parting as PartingRecord}
use Rattle.lrc_why.specs.declared.reasons.Relation.{Relation}
use Rattle.lrc_why.specs.declared.reasons.Relation.TheVariants.{Race}
use Rattle.lrc_why.specs.declared.reasons.Standing.{Standing}
use Rattle.lrc_why.specs.Parting.{IsLastKnownIfAny, IsOpponent, IsParting, IsStanding, IsUnknown}
use Rattle.lrc_why.specs.Positions.{IsRacing}
use Rattle.lrc_why.specs.Whole.{IsRelation, same_node, before, apart, race}
use Rattle.lrc_why_laws.specs.Apart.{AreApart}

-- an access is no arrive and no depart
no_depart : {run : List Act} {i p q word : ℕ} {d : Deed} → Accesses run i p word → Does run i q d → is_depart d ≡ false
no_depart (inl (v, r)) does = ap is_depart (sym (Does-one_deed r does))
no_depart (inr (v, w)) does = ap is_depart (sym (Does-one_deed w does))

no_arrive : {run : List Act} {i p q word : ℕ} {d : Deed} → Accesses run i p word → Does run i q d → d ≡ Arrive → ⊥
no_arrive {word = word} (inl (v, r)) does e = let both : Read word v ≡ Arrive = Does-one_deed r does ∙ e in cc
no_arrive {word = word} (inr (v, w)) does e = let both : Write word v ≡ Arrive = Does-one_deed w does ∙ e in cc

-- what is known, if something is
known_at : {run : List Act} {node later known : ℕ} (found : Option ℕ) → IsLastKnownIfAny run node later found → found ≡ Some known → IsLastKnown run node later known
known_at {run} {node} {later} found h is = subst (λ (o : Option ℕ). MatchOption o (IsUnknown run node later) (IsLastKnown run node later)) is h

module _ {nodes : ℕ} {run : List Act} (sync : IsWellSynchronized nodes run) (waits : WaitsAtBarriers run)
    (within : (k n : ℕ) (d : Deed) → Does run k n d → n < nodes) where
  pub why_apart : (i j : ℕ) (parting : PartingRecord) (first second : Standing) → Races run i j → IsParting run i j parting
      → IsStanding run i first → IsStanding run j second → AreApart run parting first second
  why_apart i j parting first second raced is (p, (a, one), one_stands) (q, (b, two), two_stands) =
      let (x, y, word, conflict) = raced.conflict in
      let (c, accesses) = accessed conflict.first in
      let (d, accesses_too) = accessed conflict.second in
      record {
        locks = λ l h g. raced.unordered (held_in_order sync i j p q l a b raced.earlier one two ((one_stands.locks.exact l).0 h).1 ((two_stands.locks.exact l).0 g).1);
        barrier = one_stands.departs
            ∙ behind_one sync waits i j p q a b raced.earlier (within i p a one) (within j q b two) one two (no_arrive conflict.first one)
            (no_depart conflict.first one) (no_depart conflict.second two) raced.unordered
            ∙ sym two_stands.departs;
        handed = λ one_node other l release acquire (e, acts) (f, acts_too) low between high releases acquires.
            let first_does : Does run i one_node e = let P : ℕ → Type 0 = λ n. Does run n one_node e in subst P is.earlier_is acts in
            let second_does : Does run j other f = let P : ℕ → Type 0 = λ n. Does run n other f in subst P is.later_is acts_too in
            let low : i < release = let P : ℕ → Type 0 = λ n. n < release in subst P is.earlier_is low in
            let high : acquire < j = let P : ℕ → Type 0 = λ n. acquire < n in subst P is.later_is high in
            raced.unordered (further (further (base (program low first_does releases)) (lock between releases acquires)) (program high acquires second_does));
        past = λ node known (e, acts) known_is.
            let there : Does run i node e = let P : ℕ → Type 0 = λ n. Does run n node e in subst P is.earlier_is acts in
            let last = known_at parting.known (is.known node (e, there)) known_is in
            let (f, known_acts) = last.acts in
            let gap : node ≡ y → ⊥ = λ same. conflict.apart (Does-one_node accesses there ∙ same) in
            let lt : interval_at run node known < interval_at run node i =
            known_is_earlier i j known node y e d f raced.earlier there accesses_too gap raced.unordered known_acts last.known in
            let P : ℕ → Type 0 = λ n. interval_at run node known < interval_at run node n in subst P (sym is.earlier_is) lt;
      }

  -- of the act at the position and the least one that races with it, the earlier one comes first
  in_order : (node position least : ℕ) → IsRacing run node position least → Races run (min position least) (max position least)
  in_order node position least racing =
      elim racing.races [
        | inl first ↦
            let lt = first.earlier in
            let low : min position least ≡ least = omega arith in
            let high : max position least ≡ position = omega arith in
            let P : ℕ → Type 0 = λ n. Races run n (max position least) in
            let Q : ℕ → Type 0 = λ n. Races run least n in subst P (sym low) (subst Q (sym high) first)
        | inr second ↦
            let lt = second.earlier in
            let low : min position least ≡ position = omega arith in
            let high : max position least ≡ least = omega arith in
            let P : ℕ → Type 0 = λ n. Races run n (max position least) in
            let Q : ℕ → Type 0 = λ n. Races run position n in subst P (sym low) (subst Q (sym high) second)
      ]

  pub opponent_apart : (node position : ℕ) (opponent : Opponent) → IsOpponent run node position opponent
      → AreApart run opponent.parting opponent.first opponent.second
  opponent_apart node position opponent is =
      let there : Contains opponent.racing.items is.least = (
        0,
        slice_get_within opponent.racing.items 0 is.least is.is_least,
        get_or_from_slice_get opponent.racing.items 0 is.least is.least is.is_least,
      ) in
      why_apart (min position is.least) (max position is.least) opponent.parting opponent.first opponent.second
      (in_order node position is.least ((is.racing.exact is.least).0 there)) is.parting is.first is.second

  pub race_apart : (earlier later : ℕ) (parting : PartingRecord) (first second : Standing) (relation : Relation) → IsRelation run earlier later relation
      → relation ≡ Race parting first second → AreApart run parting first second
  race_apart earlier later parting first second relation (same_node h) e = cc
  race_apart earlier later parting first second relation (before not told) e = cc
  race_apart earlier later parting first second relation (apart h not is) e = cc
  race_apart earlier later parting first second relation (race {parting = p} {first = f} {second = s} races is one two) e =
      let parts : p ≡ parting = cc in
      let firsts : f ≡ first = cc in
      let seconds : s ≡ second = cc in
      subst (λ (x : PartingRecord). AreApart run x first second) parts
      (subst (λ (x : Standing). AreApart run p x second) firsts
      (subst (λ (x : Standing). AreApart run p f x) seconds (why_apart earlier later p f s races is one two)))
