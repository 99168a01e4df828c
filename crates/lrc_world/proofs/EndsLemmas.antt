-- The ends of a run after one act more.
use Rattle.std.proofs.Common.{◌≡◌, ℕ, ◌+◌, ◌<◌, List, [], ◌∷◌, ◌++◌, Bool, inl, inr, length, get_or, take, sym, ◌∙◌, ap, refl, arith, cond, zero-add}
use Rattle.std.specs.Prelude.{Option, Some, None, slice_set, filter, ◌==◌, replicate}
use Rattle.std.specs.List.{last_or, range_with_len}
use Rattle.std.proofs.lemmas.Bool.{cases_eq, eq-eqb, ne_eqb}
use Rattle.std.proofs.lemmas.List.{same_lists, length-map, length-set, get_or-map, get_or-set_same}
use Rattle.std.proofs.lemmas.List.{get_or-set_other, length-replicate, get_or-replicate, append-nil, take_more}
use Rattle.std.proofs.lemmas.List.Elements.{filter-append}
use Rattle.std.proofs.lemmas.List.FromFn.{length-range_with_len, get_or-range_with_len}
use Rattle.lrc_trace.specs.declared.act.Act.{Act}
use Rattle.lrc_trace.specs.declared.end.End.{End}
use Rattle.lrc_trace.specs.declared.end.End.TheVariants.{Unfinished}
use Rattle.lrc_node.specs.Logged.{end_after, end_by}
use Rattle.lrc_world.specs.Ends.{end_by_acts, ends_of}

length-ends : (nodes : ℕ) (acts : List Act) → length (ends_of nodes acts) ≡ nodes
length-ends nodes acts = length-map (range_with_len 0 nodes) (λ node. end_by_acts node acts) ∙ length-range_with_len 0 nodes

get_or-ends : (nodes : ℕ) (acts : List Act) (k : ℕ) (d : End) → k < nodes → get_or (ends_of nodes acts) k d ≡ end_by_acts k acts
get_or-ends nodes acts k d lt =
    get_or-map (λ node. end_by_acts node acts) (range_with_len 0 nodes) k 0 d (omega (arith, length-range_with_len 0 nodes))
    ∙ ap (λ node. end_by_acts node acts) (get_or-range_with_len 0 nodes k 0 lt ∙ zero-add k)

-- the last of a list that grew
last_or-push : {A : Type 0} (o : Option A) (xs : List A) (x : A) → last_or o (xs ++ x ∷ []) ≡ Some x
last_or-push o [] x = refl
last_or-push o (y ∷ xs) x = last_or-push (Some y) xs x

pub end_of-own : (acts : List Act) (a : Act) → end_by_acts a.node (acts ++ a ∷ []) ≡ end_after a.deed
end_of-own acts a =
    let mine : Act → Bool = λ x. x.node == a.node in
    let one : filter mine (a ∷ []) ≡ a ∷ [] = ap (λ b. cond b (a ∷ []) []) (eq-eqb a.node a.node refl) in
    ap (λ xs. end_by (last_or None xs)) (filter-append mine acts (a ∷ []) ∙ ap (λ ys. filter mine acts ++ ys) one)
    ∙ ap end_by (last_or-push None (filter mine acts) a)

pub end_of-other : (acts : List Act) (a : Act) (n : ℕ) → (n ≡ a.node → ⊥) → end_by_acts n (acts ++ a ∷ []) ≡ end_by_acts n acts
end_of-other acts a n h =
    let mine : Act → Bool = λ x. x.node == n in
    let none : filter mine (a ∷ []) ≡ [] = ap (λ b. cond b (a ∷ []) []) (ne_eqb a.node n (λ e. h (sym e))) in
    ap (λ xs. end_by (last_or None xs)) (filter-append mine acts (a ∷ []) ∙ ap (λ ys. filter mine acts ++ ys) none ∙ append-nil (filter mine acts))

-- after one act more, only its node may have ended otherwise
pub ends-push : (nodes : ℕ) (acts : List Act) (a : Act) → ends_of nodes (acts ++ a ∷ []) ≡ slice_set (ends_of nodes acts) a.node (end_after a.deed)
ends-push nodes acts a =
    let long = length-ends nodes (acts ++ a ∷ []) in
    let old = length-ends nodes acts in
    same_lists (ends_of nodes (acts ++ a ∷ [])) (slice_set (ends_of nodes acts) a.node (end_after a.deed)) (long
    ∙ sym (length-set (ends_of nodes acts) a.node (end_after a.deed) ∙ old)) (λ k d lt.
    let within : k < nodes = omega arith in
    let now = get_or-ends nodes (acts ++ a ∷ []) k d within in
    elim (cases_eq k a.node) [
      | inl same ↦
          let there : a.node < length (ends_of nodes acts) = omega arith in
          now ∙ ap (λ n. end_by_acts n (acts ++ a ∷ [])) same ∙ end_of-own acts a
          ∙ sym (ap (λ i. get_or (slice_set (ends_of nodes acts) a.node (end_after a.deed)) i d) same
          ∙ get_or-set_same (ends_of nodes acts) a.node (end_after a.deed) d there)
      | inr other ↦ now ∙ end_of-other acts a k other
          ∙ sym (get_or-set_other (ends_of nodes acts) a.node k (end_after a.deed) d other ∙ get_or-ends nodes acts k d within)
    ])

-- before any act, none has ended
pub ends-none : (nodes : ℕ) → ends_of nodes [] ≡ replicate nodes Unfinished
ends-none nodes =
    let long = length-ends nodes [] in
    same_lists (ends_of nodes []) (replicate nodes Unfinished) (long ∙ sym (length-replicate {A = End} nodes Unfinished)) (λ k d lt.
    let within : k < nodes = omega arith in
    get_or-ends nodes [] k d within ∙ sym (get_or-replicate nodes k Unfinished d within))

-- the step of a loop over the acts
pub ends-more : (nodes : ℕ) (acts : List Act) (i : ℕ) (d : Act) (old new : List End) → i < length acts → old ≡ ends_of nodes (take i acts)
    → new ≡ slice_set old (get_or acts i d).node (end_after (get_or acts i d).deed) → new ≡ ends_of nodes (take (i + 1) acts)
ends-more nodes acts i d old new lt before now =
    let a = get_or acts i d in
    now ∙ ap (λ es. slice_set es a.node (end_after a.deed)) before ∙ sym (ends-push nodes (take i acts) a) ∙ ap (ends_of nodes) (sym (take_more acts i d lt))
