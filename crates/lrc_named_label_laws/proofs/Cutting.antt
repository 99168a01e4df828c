-- Texts cut at a divider that is known.
use Rattle.std.proofs.Common.{◌≡◌, ◌∙◌, ℕ, suc, ◌+◌, ◌<◌, Bool, true, false, cond, not, List, [], ◌∷◌, ◌++◌, length, drop, refl, ap, arith}
use Rattle.std.proofs.Common.{length-append, lt-ltb, ltb-true}
use Rattle.std.specs.Prelude.{nat_lt, filter, Some, None}
use Rattle.std.specs.List.{list_all, AllByRecursion, position_or_len}
use Rattle.std.proofs.lemmas.Bool.{and_parts, not-true}
use Rattle.lrc_labels.specs.declared.cut.Divider.TheVariants.{Blank, Hash}
use Rattle.lrc_labels.specs.Cut.{cut, divides, in_front}
use Rattle.lrc_labels.specs.Line.{fields_of, has_bytes, label_line_at, label_line_behind, label_line_in}

-- no byte of these divides
abbrev pub Whole : (ℕ → Bool) → List ℕ → Type 0
Whole is_divider text = list_all (λ byte. not (is_divider byte)) text ≡ true

whole_parts : (is_divider : ℕ → Bool) (b : ℕ) (text : List ℕ) → Whole is_divider (b ∷ text) → (is_divider b ≡ false) × Whole is_divider text
whole_parts is_divider b text h =
    let parts = and_parts (not (is_divider b)) (list_all (λ byte. not (is_divider byte)) text) h in
    (not-true (is_divider b) parts.0, parts.1)

-- what stands in front of a divider is a piece
pub cut_piece : (is_divider : ℕ → Bool) (piece : List ℕ) (byte : ℕ) (rest : List ℕ) → Whole is_divider piece → is_divider byte ≡ true
    → cut is_divider (piece ++ byte ∷ rest) ≡ piece ∷ cut is_divider rest
cut_piece is_divider [] byte rest whole ends = ap (λ b. cond b ([] ∷ cut is_divider rest) (in_front byte (cut is_divider rest))) ends
cut_piece is_divider (b ∷ piece) byte rest whole ends =
    let parts = whole_parts is_divider b piece whole in
    let behind = cut is_divider (piece ++ byte ∷ rest) in
    ap (λ t. cond t ([] ∷ behind) (in_front b behind)) parts.0 ∙ ap (in_front b) (cut_piece is_divider piece byte rest parts.1 ends)

pub cut_last : (is_divider : ℕ → Bool) (piece : List ℕ) → Whole is_divider piece → cut is_divider piece ≡ piece ∷ []
cut_last is_divider [] whole = refl
cut_last is_divider (b ∷ piece) whole =
    let parts = whole_parts is_divider b piece whole in
    ap (λ t. cond t ([] ∷ cut is_divider piece) (in_front b (cut is_divider piece))) parts.0 ∙ ap (in_front b) (cut_last is_divider piece parts.1)

-- ---- fields

-- a piece, and pieces with a blank in front of each
abbrev pub joined : List ℕ → List (List ℕ) → List ℕ
joined piece [] = piece
joined piece (other ∷ others) = piece ++ 32 ∷ joined other others

pub record IsField (piece : List ℕ) : Type 0 where
  pub whole : Whole (divides Blank) piece
  pub some : has_bytes piece ≡ true

cut_joined : (piece : List ℕ) (others : List (List ℕ)) → IsField piece → AllByRecursion IsField others → cut (divides Blank) (joined piece others) ≡ piece ∷ others
cut_joined piece [] is all = cut_last (divides Blank) piece is.whole
cut_joined piece (other ∷ others) is all =
    cut_piece (divides Blank) piece 32 (joined other others) is.whole refl ∙ ap (λ l. piece ∷ l) (cut_joined other others all.0 all.1)

kept : (pieces : List (List ℕ)) → AllByRecursion IsField pieces → filter has_bytes pieces ≡ pieces
kept [] all = refl
kept (piece ∷ others) all =
    ap (λ b. cond b (piece ∷ filter has_bytes others) (filter has_bytes others)) all.0.some ∙ ap (λ l. piece ∷ l) (kept others all.1)

-- the fields behind a blank
pub fields_joined : (piece : List ℕ) (others : List (List ℕ)) → IsField piece → AllByRecursion IsField others
    → fields_of (32 ∷ joined piece others) ≡ piece ∷ others
fields_joined piece others is all =
    ap (λ l. filter has_bytes ([] ∷ l)) (cut_joined piece others is all) ∙ kept (piece ∷ others) (is, all)

-- ---- the first `#` of a line

hash_at : (front behind : List ℕ) → Whole (divides Hash) front → position_or_len (divides Hash) (front ++ 35 ∷ behind) ≡ length front
hash_at [] behind whole = refl
hash_at (b ∷ front) behind whole =
    let parts = whole_parts (divides Hash) b front whole in
    let next : 1 + length front ≡ suc (length front) = omega arith in
    ap (λ t. cond (not t) (1 + position_or_len (divides Hash) (front ++ 35 ∷ behind)) 0) parts.0
    ∙ ap (λ n. 1 + n) (hash_at front behind parts.1) ∙ next

no_hash : (line : List ℕ) → Whole (divides Hash) line → position_or_len (divides Hash) line ≡ length line
no_hash [] whole = refl
no_hash (b ∷ line) whole =
    let parts = whole_parts (divides Hash) b line whole in
    let next : 1 + length line ≡ suc (length line) = omega arith in
    ap (λ t. cond (not t) (1 + position_or_len (divides Hash) line) 0) parts.0 ∙ ap (λ n. 1 + n) (no_hash line parts.1) ∙ next

past : (front : List ℕ) (byte : ℕ) (behind : List ℕ) → drop (length front + 1) (front ++ byte ∷ behind) ≡ behind
past [] byte behind = refl
past (b ∷ front) byte behind =
    let next : suc (length front) + 1 ≡ suc (length front + 1) = omega arith in
    ap (λ n. drop n (b ∷ (front ++ byte ∷ behind))) next ∙ past front byte behind

-- a line's comment begins at its first `#`
pub commented : (front behind : List ℕ) → Whole (divides Hash) front
    → label_line_in (front ++ 35 ∷ behind) ≡ label_line_behind (length front + 1) behind
commented front behind whole =
    let line = front ++ 35 ∷ behind in
    let at = hash_at front behind whole in
    let long : length front < length line = let l = length-append front (35 ∷ behind) in omega (arith, l) in
    ap (λ n. label_line_at line (cond (nat_lt n (length line)) (Some n) None)) at
    ∙ ap (λ b. label_line_at line (cond b (Some (length front)) None)) (lt-ltb (length front) (length line) long)
    ∙ ap (label_line_behind (length front + 1)) (past front 35 behind)

pub uncommented : (line : List ℕ) → Whole (divides Hash) line → label_line_in line ≡ None
uncommented line whole =
    ap (λ n. label_line_at line (cond (nat_lt n (length line)) (Some n) None)) (no_hash line whole)
    ∙ ap (λ b. label_line_at line (cond b (Some (length line)) None)) (not_below (length line))
  where
    not_below : (n : ℕ) → nat_lt n n ≡ false
    not_below n = tested (nat_lt n n) refl
      where
        tested : (b : Bool) → nat_lt n n ≡ b → b ≡ false
        tested true h = absurd (omega (arith, ltb-true n n h))
        tested false h = refl
