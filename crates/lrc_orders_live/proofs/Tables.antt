-- Tables of names, and what matters in front of statements.
use Rattle.std.proofs.Common.{◌≡◌, ℕ, zero, suc, ◌+◌, ◌<◌, ◌≤◌, ◌||◌, ◌&&◌, ◌++◌, List, [], ◌∷◌, Bool, false, inl, inr, length, refl, sym, ap, ◌∙◌, arith}
use Rattle.std.specs.Prelude.{All, Some, not, nat_eq, replicate, slice_get, slice_index_or}
use Rattle.std.proofs.Math.ListN.{get_or-append}
use Rattle.std.proofs.Math.Seq.{get_or-append_seam}
use Rattle.std.proofs.lemmas.Bool.{cases_lt}
use Rattle.std.proofs.lemmas.List.{get_or_default, length_push}
use Rattle.lrc_program.specs.declared.Expression.{Expression}
use Rattle.lrc_program.specs.declared.Statement.{Statement, Row_of-Statement, end_of-Statement, more_of-Statement}
use Rattle.lrc_program.specs.declared.Statement.TheBlock.{hidden-the_row-Statement-0}
use Rattle.lrc_program.specs.declared.Statement.TheVariants.{Assign, Read, Write, Acquire, Release, Barrier, Print, If', While', If, While}
use Rattle.lrc_exec.specs.declared.code.Instruction.{Instruction}
use Rattle.lrc_exec.specs.Flat.{IsSoundFrom, rest_at}
use Rattle.lrc_exec.specs.Meaning.{block}
use Rattle.lrc_exec.proofs.Flat.{block-items, rest_at-end, rest_at-instruction}
use Rattle.lrc_orders_laws.specs.Names.{matters, matters_in, matters_still, no_name, uses}
use Rattle.lrc_orders_live.specs.Live.{AreNames, has, matters_among}

-- ---- what matters depends on what matters behind, name by name

mutual
  pub matters_at : (s : Statement) (f g : ℕ → Bool) (name : ℕ) → f name ≡ g name → matters s f name ≡ matters s g name
  matters_at (Assign own value) f g name e = ap (λ b. uses value name || (b && not (nat_eq own name))) e
  matters_at (Read own word) f g name e = ap (λ b. uses word name || (b && not (nat_eq own name))) e
  matters_at (Write word value) f g name e = ap (λ b. uses word name || (uses value name || b)) e
  matters_at (Acquire lock) f g name e = ap (λ b. uses lock name || b) e
  matters_at (Release lock) f g name e = ap (λ b. uses lock name || b) e
  matters_at Barrier f g name e = e
  matters_at (Print value) f g name e = ap (λ b. uses value name || b) e
  matters_at (If' condition p first q second) f g name e =
      ap (λ b. uses condition name || (b || matters_in second f name)) (matters_in_at first f g name e)
      ∙ ap (λ b. uses condition name || (matters_in first g name || b)) (matters_in_at second f g name e)
  matters_at (While' condition p body) f g name e = ap (λ b. uses condition name || (b || matters_in body no_name name)) e

  matters_in_at : {m : _} (row : Row_of-Statement m) (f g : ℕ → Bool) (name : ℕ) → f name ≡ g name → matters_in row f name ≡ matters_in row g name
  matters_in_at end_of-Statement f g name e = e
  matters_in_at (more_of-Statement first row) f g name e =
      matters_at first (matters_in row f) (matters_in row g) name (matters_in_at row f g name e)

pub among_at : (ss : List Statement) (f g : ℕ → Bool) (name : ℕ) → f name ≡ g name → matters_among ss f name ≡ matters_among ss g name
among_at [] f g name e = e
among_at (s ∷ ss) f g name e = matters_at s (matters_among ss f) (matters_among ss g) name (among_at ss f g name e)

-- ---- blocks

row_among : {m : _} (row : Row_of-Statement m) (f : ℕ → Bool) (name : ℕ) → matters_in row f name ≡ matters_among (block row) f name
row_among end_of-Statement f name = refl
row_among (more_of-Statement first row) f name = matters_at first (matters_in row f) (matters_among (block row) f) name (row_among row f name)

block_among : (v : _) (f : ℕ → Bool) (name : ℕ) → matters_in (hidden-the_row-Statement-0 v) f name ≡ matters_among v.items f name
block_among v f name =
    row_among (hidden-the_row-Statement-0 v) f name ∙ ap (λ l. matters_among l f name) (block-items v)

pub if_among : (e : Expression) (a b : _) (f : ℕ → Bool) (name : ℕ)
    → matters (If e a b) f name ≡ (uses e name || (matters_among a.items f name || matters_among b.items f name))
if_among e a b f name =
    ap (λ x. uses e name || (x || matters_in (hidden-the_row-Statement-0 b) f name)) (block_among a f name)
    ∙ ap (λ x. uses e name || (matters_among a.items f name || x)) (block_among b f name)

pub while_among : (e : Expression) (a : _) (f : ℕ → Bool) (name : ℕ)
    → matters (While e a) f name ≡ (uses e name || (f name || matters_among a.items no_name name))
while_among e a f name = ap (λ x. uses e name || (f name || x)) (block_among a no_name name)

-- ---- a name that is set, or not

pub has_none : (count name : ℕ) → has (replicate count false) name ≡ false
has_none zero name = refl
has_none (suc count) zero = refl
has_none (suc count) (suc name) = has_none count name

-- ---- the tables of the places of code

module _ (code : List Instruction) where
  -- there is a table for each place up to one
  abbrev pub HasTables : List (List Bool) → (places : ℕ) → Type 0
  HasTables table places = (place : ℕ) → place ≤ places → AreNames (slice_index_or table place []) (matters_still (rest_at code place))

  pub first_table : (table : List (List Bool)) → table ≡ replicate 32 false ∷ []
      → (length table ≡ 1) × All (λ names. length names ≡ 32) table × HasTables table 0
  first_table table is = (
    ap (λ l. length l) is,
    λ k d lt.
        let zero' : k ≡ 0 = omega (arith, lt, ap (λ (l : List (List Bool)). length l) is) in
        ap (λ l. length (slice_index_or l k d)) is ∙ ap (λ n. length (slice_index_or (replicate 32 false ∷ []) n d)) zero',
    λ place le name lt.
        let here : place ≡ 0 = omega (arith, le) in
        ap (λ l. has (slice_index_or l place []) name) is ∙ ap (λ n. has (slice_index_or (replicate 32 false ∷ []) n []) name) here
        ∙ has_none 32 name
        ∙ sym (ap (λ n. matters_still (rest_at code n) name) here ∙ ap (λ l. matters_still l name) (rest_at-end code)),
  )

  module _ (sound : IsSoundFrom 0 code) where
    pub next_below : (table : List (List Bool)) (k : ℕ) (i : Instruction) → slice_get code k ≡ Some i → length table ≡ k + 1 → i.next < length table
    next_below table k i at size =
        let below = (sound k i (omega arith) at).next_below in
        omega (arith, below, size)

    pub next_table : (old new : List (List Bool)) (k : ℕ) (i : Instruction) → slice_get code k ≡ Some i → length old ≡ k + 1
        → All (λ names. length names ≡ 32) old → HasTables old k → (behind : List Bool) → behind ≡ slice_index_or old i.next behind → (names : List Bool)
        → length names ≡ 32 → AreNames names (matters i.statement.now (has behind)) → new ≡ old ++ names ∷ []
        → (length new ≡ k + 1 + 1) × All (λ l. length l ≡ 32) new × HasTables new (k + 1)
    next_table old new k i at size sizes tables behind behind_is names long are is = (
      ap (λ l. length l) is ∙ length_push old names ∙ ap (λ n. n + 1) size,
      λ j d lt. elim (cases_lt j (length old)) [
        | inl le ↦ ap (λ l. length (slice_index_or l j d)) is ∙ ap (λ x. length x) (get_or-append old (names ∷ []) d j le) ∙ sizes j d le
        | inr past ↦
            let last : j ≡ length old = omega (arith, past, lt, ap (λ (l : List (List Bool)). length l) is, length_push old names) in
            ap (λ l. length (slice_index_or l j d)) is ∙ ap (λ n. length (slice_index_or (old ++ names ∷ []) n d)) last
            ∙ ap (λ x. length x) (get_or-append_seam old names [] d) ∙ long
      ],
      λ place le name lt. elim (cases_lt place (k + 1)) [
        | inl below ↦
            ap (λ l. has (slice_index_or l place []) name) is
            ∙ ap (λ x. has x name) (get_or-append old (names ∷ []) [] place (omega (arith, below, size)))
            ∙ tables place (omega (arith, below)) name lt
        | inr past ↦
            let last : place ≡ length old = omega (arith, past, le, size) in
            let there : place ≡ k + 1 = omega (arith, past, le) in
            let next = (sound k i (omega arith) at).next_below in
            let here : has behind name ≡ matters_still (rest_at code i.next) name =
            ap (λ x. has x name) (behind_is ∙ get_or_default old i.next behind [] (omega (arith, next, size))) ∙ tables i.next next name lt in
            ap (λ l. has (slice_index_or l place []) name) is ∙ ap (λ n. has (slice_index_or (old ++ names ∷ []) n []) name) last
            ∙ ap (λ x. has x name) (get_or-append_seam old names [] [])
            ∙ are name lt
            ∙ matters_at i.statement.now (has behind) (matters_still (rest_at code i.next)) name here
            ∙ sym (ap (λ n. matters_still (rest_at code n) name) there ∙ ap (λ l. matters_still l name) (rest_at-instruction code k i at next))
      ],
    )
