-- Replies to requests of changes.
use Rattle.std.proofs.Common.{◌≡◌, ℕ, zero, suc, ◌+◌, ◌-◌, ◌<◌, List, length, map, get_or, ◌∙◌, ap, subst, arith}
use Rattle.std.specs.List.Sorted.{IsStrictlyIncreasing}
use Rattle.std.proofs.lemmas.List.{get_or-map, length-map}
use Rattle.lrc_envelope.specs.Records.{AreParts, IndexedChangesRecord}
use Rattle.lrc_memory.specs.View.{NodeMemory}
use Rattle.lrc_node.specs.Requests.{part_in}

later : (xs : List ℕ) → IsStrictlyIncreasing xs → (i n : ℕ) → i + (n + 1) < length xs → get_or xs i 0 < get_or xs (i + (n + 1)) 0
later xs up i zero within =
    let e : i + (0 + 1) ≡ i + 1 = omega arith in
    rw e (up i (rw (← e) within))
later xs up i (suc n) within =
    let e : i + (suc n + 1) ≡ (i + (n + 1)) + 1 = omega arith in
    let first = later xs up i n (omega arith) in
    let step = up (i + (n + 1)) (rw (← e) within) in
    rw e (omega arith)

above : (xs : List ℕ) → IsStrictlyIncreasing xs → (i j : ℕ) → i < j → j < length xs → get_or xs i 0 < get_or xs j 0
above xs up i j lt within =
    let e : i + ((j - (i + 1)) + 1) ≡ j = omega arith in
    subst (λ k. get_or xs i 0 < get_or xs k 0) e (later xs up i (j - (i + 1)) (rw e within))

pub parts_ascend : (m : NodeMemory) (page : ℕ) (xs : List ℕ) (parts : List IndexedChangesRecord) → parts ≡ map (part_in m page) xs → IsStrictlyIncreasing xs
    → AreParts parts
parts_ascend m page xs parts is up = λ i j d lt within.
    let long : length parts ≡ length xs = ap length is ∙ length-map xs (part_in m page) in
    let at_i = ap (λ ps. (get_or ps i d).index) is ∙ ap (λ (p : IndexedChangesRecord). p.index) (get_or-map (part_in m page) xs i 0 d (omega arith)) in
    let at_j = ap (λ ps. (get_or ps j d).index) is ∙ ap (λ (p : IndexedChangesRecord). p.index) (get_or-map (part_in m page) xs j 0 d (omega arith)) in
    let lt : get_or xs i 0 < get_or xs j 0 = above xs up i j lt (omega arith) in
    omega arith
