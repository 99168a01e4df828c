-- How far acts are looked at.
use Rattle.std.proofs.Common.{◌≡◌, ℕ, ◌≤◌, ◌⊎◌, List, ◌++◌, length, take, take_all, drop, take-append-drop, inl, inr, refl, sym, subst, ap, arith}
use Rattle.std.specs.Prelude.{MatchOption, Option, Some, None, unwrap_or}
use Rattle.std.proofs.lemmas.List.{length-take-le, take-take}
use Rattle.lrc_trace.specs.declared.act.Act.{Act}
use Rattle.lrc_trace.specs.Synchronization.{IsWellSynchronized, WaitsAtBarriers}
use Rattle.lrc_trace.proofs.Positions.{Does-longer, Does-within, arrives_before-prefix, departs_before-prefix}
use Rattle.lrc_trace.proofs.Prefixes.{Holds-longer, Holds-shorter, IsWellSynchronized-shorter}
use Rattle.lrc_judge.specs.Synchronization.{Breaks, IsFirstBreak, acquire, release, depart}
use Rattle.lrc_judge.proofs.Breaking.{Breaks-within, no_break}
use Rattle.lrc_exact_judge.specs.LookedAt.{IsBetween, IsFirstBetween, IsLookedAt}
use Rattle.lrc_exact_judge.proofs.Counting.{waits-never}

Breaks-longer : {nodes : ℕ} {xs : List Act} {j : ℕ} (more : List Act) → Breaks nodes xs j → Breaks nodes (xs ++ more) j
Breaks-longer {nodes} {xs} {j} more (acquire d h) =
    let lt = Does-within d in acquire (Does-longer more d) (Holds-longer xs more (omega arith) h)
Breaks-longer {nodes} {xs} {j} more (release d free) =
    let lt = Does-within d in release (Does-longer more d) (λ h. free (Holds-shorter xs more (omega arith) h))
Breaks-longer {nodes} {xs} {j} more (depart {node} {other} d lt le) =
    let within = Does-within d in
    let a = arrives_before-prefix xs more other j (omega arith) in
    let b = departs_before-prefix xs more node j (omega arith) in
    depart (Does-longer more d) lt (omega arith)

Between-longer : {xs : List Act} {j : ℕ} (more : List Act) → IsBetween xs j → IsBetween (xs ++ more) j
Between-longer {xs} {j} more b =
    let within = Does-within b.does in
    let x = arrives_before-prefix xs more b.node j (omega arith) in
    let y = departs_before-prefix xs more b.node j (omega arith) in
    let less = b.waits in
    record { node = b.node; deed = b.deed; does = Does-longer more b.does; other = b.other; waits = omega arith }

-- up to the first break
pub record IsUnbroken (nodes : ℕ) (run : List Act) (s : ℕ) : Type 0 where
  pub within : s ≤ length run
  pub synchronized : IsWellSynchronized nodes (take s run)
  pub all : (s ≡ length run) ⊎ Breaks nodes run s

unbroken : (nodes : ℕ) (run : List Act) (o : Option ℕ) → MatchOption o (IsWellSynchronized nodes run) (IsFirstBreak nodes run)
    → IsUnbroken nodes run (unwrap_or o (length run))
unbroken nodes run None ws = record {
  within = omega arith;
  synchronized = subst (IsWellSynchronized nodes) (sym (take_all (length run) run (omega arith))) ws;
  all = inl refl;
}
unbroken nodes run (Some p) first =
    let lt = Breaks-within first.broken in
    let long = length-take-le p run (omega arith) in
    record {
      within = omega arith;
      synchronized =
          (no_break nodes (take p run)).0
          (λ j b.
          let less = Breaks-within b in
          first.earlier j (omega arith) (subst (λ ys. Breaks nodes ys j) (take-append-drop p run) (Breaks-longer (drop p run) b)));
      all = inr first.broken;
    }

pub looked : (nodes : ℕ) (run xs : List Act) (o p : Option ℕ) (s n : ℕ) → MatchOption o (IsWellSynchronized nodes run) (IsFirstBreak nodes run)
    → s ≡ unwrap_or o (length run) → xs ≡ take s run → MatchOption p (WaitsAtBarriers xs) (IsFirstBetween xs) → n ≡ unwrap_or p s → IsLookedAt nodes run n
looked nodes run xs o p s n found is taken between end =
    subst (IsLookedAt nodes run) (sym end) (go p (subst (λ ys. MatchOption p (WaitsAtBarriers ys) (IsFirstBetween ys)) taken between))
  where
    first : IsUnbroken nodes run s
    first = subst (IsUnbroken nodes run) (sym is) (unbroken nodes run o found)

    go : (q : Option ℕ) → MatchOption q (WaitsAtBarriers (take s run)) (IsFirstBetween (take s run)) → IsLookedAt nodes run (unwrap_or q s)
    go None waits = record {
      within = first.within;
      synchronized = first.synchronized;
      waits = waits;
      all =
          elim first.all [
            | inl whole ↦ inl whole
            | inr breaks ↦ inr (inl breaks)
          ];
    }
    go (Some k) b =
        let long = length-take-le s run first.within in
        let le = first.within in
        let lt = Does-within b.between.does in
        let inner : take k (take s run) ≡ take k run = take-take k s run (omega arith) in
        let short = length-take-le k run (omega arith) in
        record {
          within = omega arith;
          synchronized =
              subst (IsWellSynchronized nodes) inner
              (IsWellSynchronized-shorter (take k (take s run)) (drop k (take s run)) nodes
              (subst (IsWellSynchronized nodes) (sym (take-append-drop k (take s run))) first.synchronized));
          waits =
              subst WaitsAtBarriers inner
              (waits-never (take k (take s run))
              (λ j less h.
              let m = ap length inner in
              b.earlier j (omega arith) (subst (λ ys. IsBetween ys j) (take-append-drop k (take s run)) (Between-longer (drop k (take s run)) h))));
          all = inr (inr (subst (λ ys. IsBetween ys k) (take-append-drop s run) (Between-longer (drop s run) b.between)));
        }
