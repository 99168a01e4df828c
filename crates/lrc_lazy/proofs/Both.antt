-- Where two neighbouring acts may change places, both ways at once; and what may come next still may when another node has made an act.
use Rattle.std.proofs.Common.{◌≡◌, ℕ, ◌+◌, ◌<◌, List, [], ◌∷◌, ◌++◌, length, sym, subst, arith}
use Rattle.std.specs.Prelude.{◌↔◌}
use Rattle.std.proofs.lemmas.List.{length_push}
use Rattle.lrc_trace.specs.declared.act.Act.{Act}
use Rattle.lrc_trace.specs.Run.{is_arrive, is_depart, arrives_before, departs_before}
use Rattle.lrc_trace.specs.Order.{HappensBefore}
use Rattle.lrc_trace.specs.Reading.{MayRead, ReadsLazily}
use Rattle.lrc_trace.specs.Synchronization.{Holds, IsWellSynchronized, MayGoOn}
use Rattle.lrc_trace.proofs.Holding.{Holds-kept}
use Rattle.lrc_trace.proofs.Intervals.{count_of-same, count_of-rises}
use Rattle.lrc_trace.proofs.Positions.{Does-last, arrives_before-prefix, departs_before-prefix}
use Rattle.lrc_trace.proofs.Prefixes.{Holds-longer}
use Rattle.lrc_lazy.specs.Swapped.{pair, Moved, IsNoAcquire, MayComeFirst}
use Rattle.lrc_lazy.proofs.Moving.{moved_back}
use Rattle.lrc_lazy.proofs.Order.{order_moved}
use Rattle.lrc_lazy.proofs.Reading.{read_moved, lazily_moved}
use Rattle.lrc_lazy.proofs.Synchronized.{unordered, unordered_then, may_go_on_then}

module _ (nodes : ℕ) (front : List Act) (first second : Act) (rest : List Act) (ws : IsWellSynchronized nodes (pair front first second rest))
    (m : MayComeFirst nodes front first second) where
  abbrev run : List Act
  run = pair front first second rest

  abbrev other : List Act
  other = pair front second first rest

  apart_too : second.node ≡ first.node → ⊥
  apart_too e = m.apart (sym e)

  pub order_both : {i j x y : ℕ} → Moved (length front) i x → Moved (length front) j y → HappensBefore run i j ↔ HappensBefore other x y
  order_both a b = (
    order_moved front first second rest m.apart (unordered nodes front first second rest ws m) a b,
    order_moved front second first rest apart_too (unordered_then nodes front first second rest ws m) (moved_back a) (moved_back b),
  )

  pub read_both : (i j word value : ℕ) → Moved (length front) i j → MayRead run i word value ↔ MayRead other j word value
  read_both i j word value at = (
    read_moved front first second rest m.apart (unordered nodes front first second rest ws m) (unordered_then nodes front first second rest ws m)
        i j word at,
    read_moved front second first rest apart_too (unordered_then nodes front first second rest ws m) (unordered nodes front first second rest ws m)
        j i word (moved_back at),
  )

  pub lazily_both : ReadsLazily run ↔ ReadsLazily other
  lazily_both = (
    lazily_moved front first second rest m.apart (unordered nodes front first second rest ws m) (unordered_then nodes front first second rest ws m),
    lazily_moved front second first rest apart_too (unordered_then nodes front first second rest ws m)
        (unordered nodes front first second rest ws m),
  )

pub may_go_on_both : (nodes : ℕ) (front : List Act) (first second : Act) (rest : List Act) → (first.node ≡ second.node → ⊥) → (act : Act)
    → MayGoOn nodes (pair front first second rest) act ↔ MayGoOn nodes (pair front second first rest) act
may_go_on_both nodes front first second rest apart act = (
  may_go_on_then nodes front first second rest apart act,
  may_go_on_then nodes front second first rest (λ e. apart (sym e)) act,
)

-- an act of another node takes nothing away but a lock that is free
pub still_may : (nodes : ℕ) (run : List Act) (act other : Act) → (other.node ≡ act.node → ⊥) → IsNoAcquire act.deed → MayGoOn nodes run act
    → MayGoOn nodes (run ++ other ∷ []) act
still_may nodes run act other apart free may =
    let more = run ++ other ∷ [] in
    let n = length run in
    let long = length_push run other in
    let does = Does-last run other in
    record {
      acquires = λ l is q h. free l is;
      releases = λ l is.
          subst (λ x. Holds more x act.node l) (sym long)
          (Holds-kept more n other.node other.deed does act.node l (λ e r. apart (sym e)) (Holds-longer run (other ∷ []) (omega arith) (may.releases l is)));
      departs = λ is q among.
          let less = may.departs is q among in
          let arrives = arrives_before-prefix run (other ∷ []) q n (omega arith) in
          let departs = departs_before-prefix run (other ∷ []) act.node n (omega arith) in
          let same = count_of-same is_depart more act.node n other.node other.deed does (λ e t. apart e) in
          let rises = count_of-rises is_arrive more q n (n + 1) (omega arith) in
          subst (λ x. departs_before more act.node x < arrives_before more q x) (sym long) (omega (arith, less, arrives, departs, same, rises));
    }
