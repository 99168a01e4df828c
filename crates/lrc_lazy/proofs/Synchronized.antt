-- Where the second of two neighbouring acts may come first, both change places: neither is ordered before the other, locks and barriers let
-- both be made, and what may come next is the same.
use Rattle.std.proofs.Common.{◌≡◌, ℕ, ◌+◌, ◌<◌, ◌≤◌, List, ◌∷◌, length, inl, inr, refl, sym, subst, ◌∙◌, ap, arith}
use Rattle.std.proofs.lemmas.List.{length-append}
use Rattle.lrc_trace.specs.declared.act.Act.{Act}
use Rattle.lrc_trace.specs.declared.act.Deed.TheVariants.{Acquire, Release, Depart}
use Rattle.lrc_trace.specs.Run.{Does, is_arrive, is_depart, arrives_before, departs_before}
use Rattle.lrc_trace.specs.Order.{Precedes, program, lock, barrier}
use Rattle.lrc_trace.specs.Synchronization.{Holds, IsWellSynchronized, MayGoOn}
use Rattle.lrc_trace.proofs.Holding.{Holds-kept, Holds-cases}
use Rattle.lrc_trace.proofs.Positions.{Does-deed, Does-one_node, Does-one_deed, arrives_before-prefix, departs_before-prefix}
use Rattle.lrc_trace.proofs.Prefixes.{Holds-longer}
use Rattle.lrc_trace.proofs.Intervals.{count_of-rises}
use Rattle.lrc_lazy.specs.Swapped.{pair, Moved, before, forward, back, behind, MayComeFirst}
use Rattle.lrc_lazy.proofs.Moving.{moved, first_stands, second_stands, does_moved, count_far, count_past}
use Rattle.lrc_lazy.proofs.Holding.{holds_front, holds_far}

module _ (nodes : ℕ) (front : List Act) (first second : Act) (rest : List Act) (ws : IsWellSynchronized nodes (pair front first second rest))
    (m : MayComeFirst nodes front first second) where
  abbrev run : List Act
  run = pair front first second rest

  abbrev other : List Act
  other = pair front second first rest

  abbrev k : ℕ
  k = length front

  apart_too : second.node ≡ first.node → ⊥
  apart_too e = m.apart (sym e)

  -- ---- neither is ordered before the other

  pub unordered : Precedes run k (k + 1) → ⊥
  unordered (program {node = n} lt a b) =
      let one = Does-one_node (first_stands front first second rest) a in
      let two = Does-one_node (second_stands front first second rest) b in
      m.apart (omega (arith, one, two))
  unordered (lock {l = l} lt a b) = m.no_acquire l (Does-one_deed (second_stands front first second rest) b)
  unordered (barrier {p = p} {q = q} lt a b e) =
      let one : first.node ≡ p = Does-one_node (first_stands front first second rest) a in
      let two : second.node ≡ q = Does-one_node (second_stands front first second rest) b in
      let less = m.may.departs (Does-one_deed (second_stands front first second rest) b) first.node m.first_among in
      let arrives = arrives_before-prefix front (first ∷ second ∷ rest) first.node k (omega arith) in
      let departs = departs_before-prefix front (first ∷ second ∷ rest) second.node k (omega arith) in
      let past = count_past is_depart front first second rest second.node m.apart in
      let same : arrives_before run first.node k ≡ departs_before run second.node (k + 1) =
      ap (λ x. arrives_before run x k) one ∙ e ∙ ap (λ x. departs_before run x (k + 1)) (sym two) in
      absurd (omega (arith, less, arrives, departs, past, same))

  pub unordered_then : Precedes other k (k + 1) → ⊥
  unordered_then (program {node = n} lt a b) =
      let one = Does-one_node (first_stands front second first rest) a in
      let two = Does-one_node (second_stands front second first rest) b in
      m.apart (omega (arith, one, two))
  unordered_then (lock {l = l} lt a b) =
      let holds = Holds-longer front (first ∷ second ∷ rest) (omega arith) (m.may.releases l (Does-one_deed (first_stands front second first rest) a)) in
      ws.acquires k first.node l (Does-deed (Does-one_deed (second_stands front second first rest) b) (first_stands front first second rest)) second.node holds
  unordered_then (barrier {p = p} {q = q} lt a b e) =
      let one : second.node ≡ p = Does-one_node (first_stands front second first rest) a in
      let two : first.node ≡ q = Does-one_node (second_stands front second first rest) b in
      let departs_now = Does-deed (Does-one_deed (second_stands front second first rest) b) (first_stands front first second rest) in
      let less = ws.departs k first.node departs_now second.node m.second_among in
      let arrives = arrives_before-prefix front (first ∷ second ∷ rest) second.node k (omega arith) in
      let departs = departs_before-prefix front (first ∷ second ∷ rest) first.node k (omega arith) in
      let arrives' = arrives_before-prefix front (second ∷ first ∷ rest) second.node k (omega arith) in
      let departs' = departs_before-prefix front (second ∷ first ∷ rest) first.node k (omega arith) in
      let past = count_past is_depart front second first rest first.node apart_too in
      let same : arrives_before other second.node k ≡ departs_before other first.node (k + 1) =
      ap (λ x. arrives_before other x k) one ∙ e ∙ ap (λ x. departs_before other x (k + 1)) (sym two) in
      absurd (omega (arith, less, arrives, departs, arrives', departs', past, same))

  -- ---- the run that has them the other way round is well synchronized

  acquires_then : {i j node l : ℕ} → Moved k i j → Does other i node (Acquire l) → (q : ℕ) → Holds other i q l → ⊥
  acquires_then {i} {j} {node} {l} (before lt e) does q h =
      ws.acquires i node l (does_moved front second first rest (before lt refl) does) q
      (holds_front front (second ∷ first ∷ rest) (first ∷ second ∷ rest) (omega arith) h)
  acquires_then {i} {j} {node} {l} (forward p e) does q h =
      m.no_acquire l (Does-one_deed (first_stands front second first rest) (subst (λ x. Does other x node (Acquire l)) p does))
  acquires_then {i} {j} {node} {l} (back p e) does q h =
      let here = does_moved front second first rest (back p refl) does in
      elim (Holds-cases other k second.node second.deed (first_stands front second first rest) q l (subst (λ x. Holds other x q l) p h)) [
        | inl (own, is) ↦ m.no_acquire l is
        | inr (held, stays) ↦ ws.acquires k node l here q (holds_front front (second ∷ first ∷ rest) (first ∷ second ∷ rest) (omega arith) held)
      ]
  acquires_then {i} {j} {node} {l} (behind lt e) does q h =
      ws.acquires i node l (does_moved front second first rest (behind lt refl) does) q (holds_far front second first rest apart_too lt h)

  releases_then : {i j node l : ℕ} → Moved k i j → Does other i node (Release l) → Holds other i node l
  releases_then {i} {j} {node} {l} (before lt e) does =
      holds_front front (first ∷ second ∷ rest) (second ∷ first ∷ rest) (omega arith)
      (ws.releases i node l (does_moved front second first rest (before lt refl) does))
  releases_then {i} {j} {node} {l} (forward p e) does =
      let at = subst (λ x. Does other x node (Release l)) p does in
      let own : second.node ≡ node = Does-one_node (first_stands front second first rest) at in
      let holds = Holds-longer front (second ∷ first ∷ rest) (omega arith) (m.may.releases l (Does-one_deed (first_stands front second first rest) at)) in
      subst (λ x. Holds other x node l) (sym p) (subst (λ x. Holds other k x l) own holds)
  releases_then {i} {j} {node} {l} (back p e) does =
      let here = does_moved front second first rest (back p refl) does in
      let own : first.node ≡ node = Does-one_node (first_stands front first second rest) here in
      let holds = holds_front front (first ∷ second ∷ rest) (second ∷ first ∷ rest) (omega arith) (ws.releases k node l here) in
      subst (λ x. Holds other x node l) (sym p)
      (Holds-kept other k second.node second.deed (first_stands front second first rest) node l (λ f r. m.apart (omega (arith, f, own))) holds)
  releases_then {i} {j} {node} {l} (behind lt e) does =
      holds_far front first second rest m.apart lt (ws.releases i node l (does_moved front second first rest (behind lt refl) does))

  abbrev IsAbove : (i node q : ℕ) → Type 0
  IsAbove i node q = departs_before other node i < arrives_before other q i

  front_counts : (i node q : ℕ) → i ≤ k → departs_before run node i < arrives_before run q i → IsAbove i node q
  front_counts i node q le less =
      let arrives = arrives_before-prefix front (first ∷ second ∷ rest) q i le in
      let departs = departs_before-prefix front (first ∷ second ∷ rest) node i le in
      let arrives' = arrives_before-prefix front (second ∷ first ∷ rest) q i le in
      let departs' = departs_before-prefix front (second ∷ first ∷ rest) node i le in
      omega (arith, less, arrives, departs, arrives', departs')

  departs_then : {i j node : ℕ} → Moved k i j → Does other i node Depart → (q : ℕ) → q < nodes → IsAbove i node q
  departs_then {i} {j} {node} (before lt e) does q among =
      front_counts i node q (omega arith) (ws.departs i node (does_moved front second first rest (before lt refl) does) q among)
  departs_then {i} {j} {node} (forward p e) does q among =
      let at = subst (λ x. Does other x node Depart) p does in
      let own : second.node ≡ node = Does-one_node (first_stands front second first rest) at in
      let less = m.may.departs (Does-one_deed (first_stands front second first rest) at) q among in
      let arrives = arrives_before-prefix front (second ∷ first ∷ rest) q k (omega arith) in
      let departs = departs_before-prefix front (second ∷ first ∷ rest) second.node k (omega arith) in
      subst (λ x. IsAbove x node q) (sym p) (subst (λ x. IsAbove k x q) own (omega (arith, less, arrives, departs)))
  departs_then {i} {j} {node} (back p e) does q among =
      let here = does_moved front second first rest (back p refl) does in
      let own : first.node ≡ node = Does-one_node (first_stands front first second rest) here in
      let less = front_counts k node q (omega arith) (ws.departs k node here q among) in
      let past = count_past is_depart front second first rest node (λ f. m.apart (omega (arith, f, own))) in
      let rises = count_of-rises is_arrive other q k (k + 1) (omega arith) in
      subst (λ x. IsAbove x node q) (sym p) (omega (arith, less, past, rises))
  departs_then {i} {j} {node} (behind lt e) does q among =
      let less = ws.departs i node (does_moved front second first rest (behind lt refl) does) q among in
      let arrives = count_far front first second rest is_arrive q i lt in
      let departs = count_far front first second rest is_depart node i lt in
      omega (arith, less, arrives, departs)

  pub synchronized_then : IsWellSynchronized nodes other
  synchronized_then = record {
    acquires = λ i node l does q h. acquires_then (moved k i).1 does q h;
    releases = λ i node l does. releases_then (moved k i).1 does;
    departs = λ i node does q among. departs_then (moved k i).1 does q among;
  }

-- what may come next behind both
module _ (nodes : ℕ) (front : List Act) (first second : Act) (rest : List Act) (apart : first.node ≡ second.node → ⊥) where
  long : length (pair front first second rest) ≡ length (pair front second first rest)
  long = length-append front (first ∷ second ∷ rest) ∙ sym (length-append front (second ∷ first ∷ rest))

  far : length front + 1 < length (pair front first second rest)
  far = let is = length-append front (first ∷ second ∷ rest) in omega (arith, is)

  pub may_go_on_then : (act : Act) → MayGoOn nodes (pair front first second rest) act → MayGoOn nodes (pair front second first rest) act
  may_go_on_then act may =
      let run = pair front first second rest in
      let other = pair front second first rest in
      let n = length run in
      let apart_too : second.node ≡ first.node → ⊥ = λ e. apart (sym e) in
      record {
        acquires = λ l is q h. may.acquires l is q (holds_far front second first rest apart_too far (subst (λ x. Holds other x q l) (sym long) h));
        releases = λ l is. subst (λ x. Holds other x act.node l) long (holds_far front first second rest apart far (may.releases l is));
        departs = λ is q among.
            let less = may.departs is q among in
            let arrives = count_far front first second rest is_arrive q n far in
            let departs = count_far front first second rest is_depart act.node n far in
            subst (λ x. departs_before other act.node x < arrives_before other q x) long (omega (arith, less, arrives, departs));
      }
