-- A text as it is spelled is read back, byte by byte.
use Rattle.std.proofs.Common.{◌≡◌, ◌∙◌, ◌<◌, ◌≤◌, ◌+◌, ◌-◌, ◌++◌, ◌∷◌, [], ℕ, Bool, true, false, List, Some, ap, sym, refl, arith, append-nil, append_assoc, codes}
use Rattle.std.specs.Prelude.{cond, nat_le, ◌==◌}
use Rattle.std.proofs.lemmas.Bool.{eqb-true, leb-true}
use Rattle.std.proofs.lemmas.Bool.Decides.{nat_tests}
use Rattle.std.proofs.lemmas.List.Sums.{fold-append}
use Rattle.lrc_step.specs.Reading.{Reader, plain, ended, reader_behind, reads, number_of, behind_digit}
use Rattle.lrc_json.specs.Spelling.{byte_text, control_text, digit_of, spelled}

-- what holds of both sides of a choice holds of it
pub by_choice : (P : List ℕ → Type 0) (c : Bool) (x y : List ℕ) → (c ≡ true → P x) → (c ≡ false → P y) → P (cond c x y)
by_choice P true x y one other = one refl
by_choice P false x y one other = other refl

-- a digit is that of its number
digit_read : (n : ℕ) → n < 16 → number_of (digit_of n) ≡ Some n
digit_read n few = grind (arith, nat_tests)

-- `byte` is read behind a text
abbrev IsRead : List ℕ → ℕ → List ℕ → Type 0
IsRead text byte spelling = reads (plain text) spelling ≡ plain (text ++ byte ∷ [])

-- what stands for one number is read as the byte that has it
as_number : (text : List ℕ) (byte number : ℕ) → (byte == number) ≡ true → plain (text ++ number ∷ []) ≡ plain (text ++ byte ∷ [])
as_number text byte number same = ap (λ (n : ℕ). plain (text ++ n ∷ [])) (sym (eqb-true byte number same))

low_read : (text : List ℕ) (byte : ℕ) → byte < 16 → IsRead text byte (codes "\\u000" ++ digit_of byte ∷ [])
low_read text byte few =
    let whole : 0 + byte ≡ byte = omega arith in
    ap (behind_digit text 3 0) (digit_read byte few) ∙ ap (λ (n : ℕ). plain (text ++ n ∷ [])) whole

high_read : (text : List ℕ) (byte : ℕ) → 16 ≤ byte → byte < 32 → IsRead text byte (codes "\\u001" ++ digit_of (byte - 16) ∷ [])
high_read text byte least few =
    let digit : number_of (digit_of (byte - 16)) ≡ Some (byte - 16) = digit_read (byte - 16) (omega arith) in
    let whole : 16 + (byte - 16) ≡ byte = omega arith in
    ap (behind_digit text 3 1) digit ∙ ap (λ (n : ℕ). plain (text ++ n ∷ [])) whole

control_read : (text : List ℕ) (byte : ℕ) → byte < 32 → IsRead text byte (control_text byte)
control_read text byte few = by_choice (IsRead text byte) (nat_le 16 byte) _ _
    (λ (least : nat_le 16 byte ≡ true). high_read text byte (leb-true 16 byte least) few)
    (λ (less : nat_le 16 byte ≡ false). let below : byte < 16 = grind (arith, nat_tests) in low_read text byte below)

itself_read : (text : List ℕ) (byte : ℕ) → (byte == 34) ≡ false → (byte == 92) ≡ false → nat_le 32 byte ≡ true → IsRead text byte (byte ∷ [])
itself_read text byte no_quote no_slash least = rw (no_quote, no_slash, least) refl

pub byte_read : (text : List ℕ) (byte : ℕ) → IsRead text byte (byte_text byte)
byte_read text byte =
    let P : List ℕ → Type 0 = IsRead text byte in
    by_choice P (byte == 34) _ _ (as_number text byte 34) (λ (quote : (byte == 34) ≡ false).
    by_choice P (byte == 92) _ _ (as_number text byte 92) (λ (slash : (byte == 92) ≡ false).
    by_choice P (byte == 60) _ _ (as_number text byte 60) (λ (_ : (byte == 60) ≡ false).
    by_choice P (byte == 62) _ _ (as_number text byte 62) (λ (_ : (byte == 62) ≡ false).
    by_choice P (byte == 38) _ _ (as_number text byte 38) (λ (_ : (byte == 38) ≡ false).
    by_choice P (byte == 8) _ _ (as_number text byte 8) (λ (_ : (byte == 8) ≡ false).
    by_choice P (byte == 9) _ _ (as_number text byte 9) (λ (_ : (byte == 9) ≡ false).
    by_choice P (byte == 10) _ _ (as_number text byte 10) (λ (_ : (byte == 10) ≡ false).
    by_choice P (byte == 12) _ _ (as_number text byte 12) (λ (_ : (byte == 12) ≡ false).
    by_choice P (byte == 13) _ _ (as_number text byte 13) (λ (_ : (byte == 13) ≡ false).
    by_choice P (nat_le 32 byte) _ _ (itself_read text byte quote slash) (λ (less : nat_le 32 byte ≡ false).
    let below : byte < 32 = grind (arith, nat_tests) in control_read text byte below)))))))))))

-- behind some bytes the reader has read them too
text_read : (before text : List ℕ) → reads (plain before) (spelled text) ≡ plain (before ++ text)
text_read before [] = ap plain (sym (append-nil before))
text_read before (byte ∷ rest) =
    fold-append reader_behind (plain before) (byte_text byte) (spelled rest)
    ∙ ap (λ (reader : Reader). reads reader (spelled rest)) (byte_read before byte)
    ∙ text_read (before ++ byte ∷ []) rest
    ∙ ap plain (append_assoc before (byte ∷ []) rest)

pub whole_read : (text : List ℕ) → reads (plain []) (spelled text ++ codes "\"") ≡ ended text
whole_read text =
    fold-append reader_behind (plain []) (spelled text) (codes "\"")
    ∙ ap (λ (reader : Reader). reader_behind reader 34) (text_read [] text)
