-- What is written piece by piece is the text of the lines.
use Rattle.std.proofs.Common.{◌≡◌, ◌∙◌, ◌≤◌, ◌<◌, ◌+◌, ℕ, zero, suc, List, [], ◌∷◌, ◌++◌}
use Rattle.std.proofs.Common.{ap, ap₂, append-nil, append_assoc, arith, drop, length, map, min, refl, subst, sym, take}
use Rattle.std.specs.Prelude.{Bool, true, false, codes, cond, nat_le}
use Rattle.std.specs.List.{flat_map}
use Rattle.std.proofs.lemmas.List.{drop_at, drop_min, length-append, length-drop, length-map, take_at, take_min}
use Rattle.lrc_chart_text.specs.Lines.{cut_words, filled, gap, headed, joined_line, lines_text, paragraph, pieces_of, plain_sign, plain_signs}
use Rattle.lrc_chart_text.specs.Written.{piece_joins, piece_text, used_behind, written}

-- ---- lines

headed_alike : (rest : List ℕ) (lines : List (List ℕ)) → headed rest rest lines ≡ map (λ l. rest ++ l) lines
headed_alike rest [] = refl
headed_alike rest (line ∷ lines) = refl

-- what is written of pieces behind a line, and the end of the last line
abbrev ending : (room : ℕ) → (rest : List ℕ) → (used : ℕ) → List (List ℕ) → List ℕ
ending room rest used pieces = written room (codes "\n" ++ rest) used pieces ++ codes "\n"

module _ (room : ℕ) (rest : List ℕ) where
  abbrev break : List ℕ
  break = codes "\n" ++ rest

  -- a piece more, which joins the line or does not
  one_more : (joins_it : Bool) (first line piece : List ℕ) (more : List (List ℕ))
      → (first ++ joined_line line piece) ++ ending room rest (length (joined_line line piece)) more
      ≡ lines_text (headed first rest (filled room (joined_line line piece) more))
      → (rest ++ piece) ++ ending room rest (length piece) more ≡ lines_text (headed rest rest (filled room piece more))
      → length (joined_line line piece) ≡ length line + length (gap (length line)) + length piece
      → (first ++ line) ++ ((cond joins_it (gap (length line)) break ++ piece
      ++ written room break (cond joins_it (length line + length (gap (length line)) + length piece) (length piece)) more) ++ codes "\n")
      ≡ lines_text (headed first rest (cond joins_it (filled room (joined_line line piece) more) (line ∷ filled room piece more)))
  one_more true first line piece more here there size =
      let between = gap (length line) in
      let left = written room break (length line + length between + length piece) more in
      let same : left ≡ written room break (length (joined_line line piece)) more = ap (λ n. written room break n more) (sym size) in
      ap (λ l. (first ++ line) ++ (between ++ piece ++ l ++ codes "\n")) same
      ∙ ap (λ l. (first ++ line) ++ l) (append_assoc (between ++ piece) (written room break (length (joined_line line piece)) more) (codes "\n"))
      ∙ sym (append_assoc (first ++ line) (between ++ piece) (ending room rest (length (joined_line line piece)) more))
      ∙ ap (λ l. l ++ ending room rest (length (joined_line line piece)) more)
      (append_assoc first line (between ++ piece) ∙ ap (λ l. first ++ l) (sym (append_assoc line between piece)))
      ∙ here
  one_more false first line piece more here there size =
      let left = written room break (length piece) more in
      ap (λ l. (first ++ line) ++ l)
      (append_assoc (break ++ piece) left (codes "\n") ∙ ap (λ l. l ++ ending room rest (length piece) more) (append_assoc (codes "\n") rest piece)
      ∙ append_assoc (codes "\n") (rest ++ piece) (ending room rest (length piece) more))
      ∙ sym (append_assoc (first ++ line) (codes "\n") ((rest ++ piece) ++ ending room rest (length piece) more))
      ∙ ap (λ l. ((first ++ line) ++ codes "\n") ++ l) (there ∙ ap lines_text (headed_alike rest (filled room piece more)))

  -- the lines of pieces behind a line that is begun
  pub lines_are : (first line : List ℕ) (pieces : List (List ℕ))
      → (first ++ line) ++ ending room rest (length line) pieces ≡ lines_text (headed first rest (filled room line pieces))
  lines_are first line [] = sym (append-nil ((first ++ line) ++ codes "\n"))
  lines_are first line (piece ∷ more) =
      let size : length (joined_line line piece) ≡ length line + length (gap (length line)) + length piece =
      length-append (line ++ gap (length line)) piece ∙ ap (λ n. n + length piece) (length-append line (gap (length line))) in
      let same : piece_joins room (length line) (length piece) ≡ nat_le (length (joined_line line piece)) room = ap (λ n. nat_le n room) (sym size) in
      ap (λ b. (first ++ line) ++ ((cond b (gap (length line)) break ++ piece
      ++ written room break (cond b (length line + length (gap (length line)) + length piece) (length piece)) more) ++ codes "\n")) same
      ∙ one_more (nat_le (length (joined_line line piece)) room) first line piece more (lines_are first (joined_line line piece) more)
      (lines_are rest piece more) size

-- ---- pieces

cut_enough : (m n room : ℕ) (words : List ℕ) → 0 < room → length words ≤ m → length words ≤ n → cut_words m room words ≡ cut_words n room words
cut_enough zero zero room words some few little = refl
cut_enough zero (suc n) room [] some few little = refl
cut_enough zero (suc n) room (w ∷ words) some few little = absurd (omega arith)
cut_enough (suc m) zero room [] some few little = refl
cut_enough (suc m) zero room (w ∷ words) some few little = absurd (omega arith)
cut_enough (suc m) (suc n) room [] some few little = refl
cut_enough (suc m) (suc n) room (w ∷ words) some few little =
    let left = length-drop room (w ∷ words) in
    ap (λ l. plain_signs (take room (w ∷ words)) ∷ l) (cut_enough m n room (drop room (w ∷ words)) some (omega (arith, left)) (omega (arith, left)))

cut_first : (words : List ℕ) (room : ℕ) → 0 < room → 0 < length words
    → pieces_of room words ≡ plain_signs (take room words) ∷ pieces_of room (drop room words)
cut_first [] room some any = absurd (omega arith)
cut_first (w ∷ words) room some any =
    let left = length-drop room (w ∷ words) in
    ap (λ l. plain_signs (take room (w ∷ words)) ∷ l)
    (cut_enough (length words) (length (drop room (w ∷ words))) room (drop room (w ∷ words)) some (omega (arith, left)) (omega arith))

-- the first piece of a phrase, and those of what is left of it
pub pieces_more : (room : ℕ) (piece rest : List ℕ) → 0 < room → length piece ≡ min room (length (piece ++ rest)) → 0 < length (piece ++ rest)
    → pieces_of room (piece ++ rest) ≡ plain_signs piece ∷ pieces_of room rest
pieces_more room piece rest some size any =
    let words = piece ++ rest in
    let front : take room words ≡ piece =
    sym (take_min room words) ∙ ap (λ n. take n words) (sym size) ∙ take_at piece rest (length piece) refl in
    let back : drop room words ≡ rest =
    sym (drop_min room words) ∙ ap (λ n. drop n words) (sym size) ∙ drop_at piece rest (length piece) refl in
    cut_first words room some any ∙ ap₂ (λ p r. plain_signs p ∷ pieces_of room r) front back

-- what is written with one piece more
pub written_more : (room : ℕ) (break : List ℕ) (used now : ℕ) (piece left rest : List ℕ) (old new : List ℕ) → 0 < room
    → left ≡ piece ++ rest → length piece ≡ min room (length left) → 0 < length left → now ≡ used_behind room used (length piece)
    → new ≡ old ++ piece_text room break used (plain_signs piece) → (more : List (List ℕ))
    → new ++ written room break now (pieces_of room rest ++ more) ≡ old ++ written room break used (pieces_of room left ++ more)
written_more room break used now piece left rest old new some is size any used_is pushed more =
    let behind = pieces_of room rest ++ more in
    let here = piece_text room break used (plain_signs piece) in
    let same : now ≡ used_behind room used (length (plain_signs piece)) =
    used_is ∙ ap (λ n. used_behind room used n) (sym (length-map piece plain_sign)) in
    let sized : length piece ≡ min room (length (piece ++ rest)) = size ∙ ap (λ l. min room (length l)) is in
    let many : 0 < length (piece ++ rest) = subst (λ (l : List ℕ). 0 < length l) is any in
    let pieces : pieces_of room left ≡ plain_signs piece ∷ pieces_of room rest = ap (pieces_of room) is ∙ pieces_more room piece rest some sized many in
    ap₂ (λ l n. l ++ written room break n behind) pushed same
    ∙ append_assoc old here (written room break (used_behind room used (length (plain_signs piece))) behind)
    ∙ ap (λ l. old ++ written room break used (l ++ more)) (sym pieces)

-- a paragraph is written, and its last line ends
pub paragraph_written : (room : ℕ) (first rest : List ℕ) (phrases : List (List ℕ)) (start begun last end : List ℕ) → begun ≡ start ++ first
    → last ≡ begun ++ written room (codes "\n" ++ rest) 0 (flat_map (pieces_of room) phrases) → end ≡ last ++ codes "\n"
    → end ≡ start ++ lines_text (headed first rest (paragraph room phrases))
paragraph_written room first rest phrases start begun last end begun_is last_is end_is =
    let pieces = flat_map (pieces_of room) phrases in
    let all = written room (codes "\n" ++ rest) 0 pieces in
    end_is ∙ ap (λ l. l ++ codes "\n") (last_is ∙ ap (λ l. l ++ all) begun_is) ∙ append_assoc (start ++ first) all (codes "\n")
    ∙ append_assoc start first (all ++ codes "\n")
    ∙ ap (λ l. start ++ l) (ap (λ l. l ++ (all ++ codes "\n")) (sym (append-nil first)) ∙ lines_are room rest first [] pieces)
