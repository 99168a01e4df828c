-- The entries of a time, set one after another.
use Rattle.std.proofs.Common.{◌≡◌, ◌∙◌, ◌<◌, ◌+◌, ◌-◌, ◌∷◌, ◌++◌, [], ℕ, zero, suc, List, ap, arith, refl, sym, append_assoc, append-nil, length, slice_set}
use Rattle.std.specs.List.{flat_map, range_with_len}
use Rattle.std.proofs.lemmas.List.{length-append, length-replicate}
use Rattle.std.proofs.Math.Seq.{set-append_seam}
use Rattle.lrc_time.specs.Time.{zeros}
use Rattle.lrc_text.proofs.Each.{range_more}

abbrev pub entries : (of : ℕ → ℕ) → (start many : ℕ) → List ℕ
entries of start many = flat_map (λ node. of node ∷ []) (range_with_len start many)

length_entries : (of : ℕ → ℕ) (many start : ℕ) → length (entries of start many) ≡ many
length_entries of zero start = refl
length_entries of (suc many) start = ap suc (length_entries of many (start + 1))

pub length_filled : (of : ℕ → ℕ) (nodes node : ℕ) (time : List ℕ) → node < nodes → time ≡ entries of 0 node ++ zeros (nodes - node)
    → length time ≡ nodes
length_filled of nodes node time inside is =
    let front = length_entries of node 0 in
    let back : length (zeros (nodes - node)) ≡ nodes - node = length-replicate (nodes - node) 0 in
    let whole = length-append (entries of 0 node) (zeros (nodes - node)) in
    ap length is ∙ omega (arith, inside, front, back, whole)

pub filled : (of : ℕ → ℕ) (nodes node : ℕ) (time : List ℕ) → node < nodes → time ≡ entries of 0 node ++ zeros (nodes - node)
    → slice_set time node (of node) ≡ entries of 0 (node + 1) ++ zeros (nodes - (node + 1))
filled of nodes node time inside is =
    let front = entries of 0 node in
    let rest = zeros (nodes - (node + 1)) in
    let many : length front ≡ node = length_entries of node 0 in
    let left : nodes - node ≡ suc (nodes - (node + 1)) = omega (arith, inside) in
    let whole : time ≡ front ++ 0 ∷ rest = is ∙ ap (λ m. front ++ zeros m) left in
    ap (λ (l : List ℕ). slice_set l node (of node)) whole
    ∙ ap (λ at. slice_set (front ++ 0 ∷ rest) at (of node)) (sym many)
    ∙ set-append_seam front 0 rest (of node)
    ∙ sym (append_assoc front (of node ∷ []) rest)
    ∙ ap (λ (l : List ℕ). l ++ rest) (sym (range_more (λ n. of n ∷ []) node))

pub all_filled : (of : ℕ → ℕ) (nodes node : ℕ) (time : List ℕ) → node ≡ nodes → time ≡ entries of 0 node ++ zeros (nodes - node)
    → time ≡ entries of 0 nodes
all_filled of nodes node time same is =
    let none : nodes - node ≡ 0 = omega (arith, same) in
    is ∙ ap (λ m. entries of 0 node ++ zeros m) none ∙ append-nil (entries of 0 node) ∙ ap (entries of 0) same
