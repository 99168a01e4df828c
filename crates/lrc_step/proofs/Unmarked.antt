-- No byte of a line is a sign of markup.
use Rattle.std.proofs.Common.{◌≡◌, ◌∙◌, ◌<◌, ◌≤◌, ◌^◌, ◌++◌, ◌∷◌, [], ◌&&◌, ◌-◌, ◌+◌, ℕ, Bool, true, false, List, Option, Some, None, ap, ap₂, refl, arith, codes, decimal}
use Rattle.std.specs.Prelude.{nat_le, not, ◌==◌, ◌≢◌, All, IfSome, slice_index_or}
use Rattle.std.specs.List.{list_all, flat_map, enumerate_from, AllByRecursion}
use Rattle.std.proofs.lemmas.List.Elements.{recursion_from_All}
use Rattle.std.proofs.lemmas.List.Sums.{AllPass-from_list_all}
use Rattle.std.proofs.lemmas.Bool.Decides.{nat_tests}
use Rattle.std.proofs.lemmas.Fmt.{decimal_is_IsNumeral}
use Rattle.std.proofs.lemmas.List.Folds.{list_all-append}
use Rattle.std.proofs.lemmas.Str.Parse.{digit_at}
use Rattle.std.specs.Str.Parse.{AllDigits}
use Rattle.lrc_judge.specs.declared.lanes.Pair.{Pair}
use Rattle.lrc_explain.specs.declared.site.Site.{Site}
use Rattle.lrc_step.specs.declared.given.Given.{Given}
use Rattle.lrc_step.specs.declared.rivals.Rival.{Rival}
use Rattle.lrc_text.specs.Each.{each}
use Rattle.lrc_explain_waits.specs.declared.stand.Fate.{Fate}
use Rattle.lrc_explain_waits.specs.declared.stand.Fate.TheVariants.{Ended, Trapped, Unfinished}
use Rattle.lrc_step.specs.declared.end_lines.End.{End}
use Rattle.lrc_step.specs.EndLines.{IsEndOfWords, circle_at, circles_text, end_at, end_text, end_word, ends_text}
use Rattle.lrc_step.specs.Lines.{AreWords, HasNoMarkup, IsGivenOfWords, IsPairOfWords, IsRivalOfWords, IsSiteOfWords, access_text, comma_text, given_text, group_site_text, number_at, numbers_text, optional_text}
use Rattle.lrc_step.specs.Lines.{pair_text, pairs_text, quoted, quoted_at, quoted_each, rival_at, rival_text, rivals_text, site_text, text_part, writes_text}
use Rattle.lrc_step.specs.Spelling.{byte_text, control_text, digit_of, spelled}
use Rattle.lrc_step.proofs.Read.{by_choice}

-- a byte that is no sign of markup
abbrev pub is_unmarked : ℕ → Bool
is_unmarked byte = not (byte == 60) && (not (byte == 62) && not (byte == 38))

abbrev pub AreUnmarked : List ℕ → Type 0
AreUnmarked bytes = list_all is_unmarked bytes ≡ true

pub both : (a b : List ℕ) → AreUnmarked a → AreUnmarked b → AreUnmarked (a ++ b)
both a b one other = list_all-append is_unmarked a b ∙ ap₂ (λ (x y : Bool). x && y) one other

digit_unmarked : (n : ℕ) → n < 16 → is_unmarked (digit_of n) ≡ true
digit_unmarked n few = grind (arith, nat_tests)

low_unmarked : (byte : ℕ) → byte < 16 → AreUnmarked (codes "\\u000" ++ digit_of byte ∷ [])
low_unmarked byte few = ap (λ (b : Bool). b && true) (digit_unmarked byte few)

high_unmarked : (byte : ℕ) → byte < 32 → AreUnmarked (codes "\\u001" ++ digit_of (byte - 16) ∷ [])
high_unmarked byte few =
    let below : byte - 16 < 16 = omega arith in
    ap (λ (b : Bool). b && true) (digit_unmarked (byte - 16) below)

control_unmarked : (byte : ℕ) → byte < 32 → AreUnmarked (control_text byte)
control_unmarked byte few = by_choice AreUnmarked (nat_le 16 byte) _ _
    (λ (_ : nat_le 16 byte ≡ true). high_unmarked byte few)
    (λ (less : nat_le 16 byte ≡ false). let below : byte < 16 = grind (arith, nat_tests) in low_unmarked byte below)

itself_unmarked : (byte : ℕ) → (byte == 60) ≡ false → (byte == 62) ≡ false → (byte == 38) ≡ false → AreUnmarked (byte ∷ [])
itself_unmarked byte less greater ampersand = rw (less, greater, ampersand) refl

byte_unmarked : (byte : ℕ) → AreUnmarked (byte_text byte)
byte_unmarked byte =
    by_choice AreUnmarked (byte == 34) _ _ (λ (_ : (byte == 34) ≡ true). refl) (λ (_ : (byte == 34) ≡ false).
    by_choice AreUnmarked (byte == 92) _ _ (λ (_ : (byte == 92) ≡ true). refl) (λ (_ : (byte == 92) ≡ false).
    by_choice AreUnmarked (byte == 60) _ _ (λ (_ : (byte == 60) ≡ true). refl) (λ (less : (byte == 60) ≡ false).
    by_choice AreUnmarked (byte == 62) _ _ (λ (_ : (byte == 62) ≡ true). refl) (λ (greater : (byte == 62) ≡ false).
    by_choice AreUnmarked (byte == 38) _ _ (λ (_ : (byte == 38) ≡ true). refl) (λ (ampersand : (byte == 38) ≡ false).
    by_choice AreUnmarked (byte == 8) _ _ (λ (_ : (byte == 8) ≡ true). refl) (λ (_ : (byte == 8) ≡ false).
    by_choice AreUnmarked (byte == 9) _ _ (λ (_ : (byte == 9) ≡ true). refl) (λ (_ : (byte == 9) ≡ false).
    by_choice AreUnmarked (byte == 10) _ _ (λ (_ : (byte == 10) ≡ true). refl) (λ (_ : (byte == 10) ≡ false).
    by_choice AreUnmarked (byte == 12) _ _ (λ (_ : (byte == 12) ≡ true). refl) (λ (_ : (byte == 12) ≡ false).
    by_choice AreUnmarked (byte == 13) _ _ (λ (_ : (byte == 13) ≡ true). refl) (λ (_ : (byte == 13) ≡ false).
    by_choice AreUnmarked (nat_le 32 byte) _ _ (λ (_ : nat_le 32 byte ≡ true). itself_unmarked byte less greater ampersand) (λ (low : nat_le 32 byte ≡ false).
    let below : byte < 32 = grind (arith, nat_tests) in control_unmarked byte below)))))))))))

spelled_unmarked : (text : List ℕ) → AreUnmarked (spelled text)
spelled_unmarked [] = refl
spelled_unmarked (byte ∷ rest) = both (byte_text byte) (spelled rest) (byte_unmarked byte) (spelled_unmarked rest)

pub quoted_unmarked : (text : List ℕ) → AreUnmarked (quoted text)
unfolding quoted
quoted_unmarked text = both (codes "\"" ++ spelled text) (codes "\"") (both (codes "\"") (spelled text) refl (spelled_unmarked text)) refl

comma_unmarked : (place : ℕ) → AreUnmarked (comma_text place)
comma_unmarked place = by_choice AreUnmarked (place == 0) _ _ (λ (_ : (place == 0) ≡ true). refl) (λ (_ : (place == 0) ≡ false). refl)

-- what stands one behind another
each_unmarked : {X : Type 0} (Q : X → Type 0) (f : ℕ → X → List ℕ) → ((place : ℕ) (x : X) → Q x → AreUnmarked (f place x)) → (from : ℕ) (xs : List X)
    → AllByRecursion Q xs → AreUnmarked (flat_map (λ (at : ℕ × X). f at.0 at.1) (enumerate_from from xs))
each_unmarked Q f one from [] are = refl
each_unmarked Q f one from (x ∷ xs) are = both (f from x) _ (one from x are.0) (each_unmarked Q f one (from + 1) xs are.1)

any_text : (texts : List (List ℕ)) → AllByRecursion (λ (text : List ℕ). Unit {0}) texts
any_text [] = tt
any_text (text ∷ rest) = (tt, any_text rest)

pub quoted_each_unmarked : (texts : List (List ℕ)) → AreUnmarked (quoted_each texts)
quoted_each_unmarked texts = each_unmarked (λ (text : List ℕ). Unit {0}) quoted_at
    (λ (place : ℕ) (text : List ℕ) (_ : Unit {0}). both (comma_text place) (quoted text) (comma_unmarked place) (quoted_unmarked text)) 0 texts (any_text texts)

pub text_part_unmarked : (text : List ℕ) → AreUnmarked (text_part text)
unfolding text_part
text_part_unmarked text = both (codes ",\"text\":" ++ quoted text) (codes "}\n") (both (codes ",\"text\":") (quoted text) refl (quoted_unmarked text)) refl

digits_unmarked : (digits : List ℕ) → AllDigits 10 digits → AreUnmarked digits
digits_unmarked [] are = refl
digits_unmarked (digit ∷ rest) are =
    let range : (48 ≤ digit) × (digit ≤ 57) = digit_at (digit ∷ rest) 0 are (omega arith) in
    let here : is_unmarked digit ≡ true = grind (arith, nat_tests, range.0, range.1) in
    ap₂ (λ (x y : Bool). x && y) here (digits_unmarked rest are.1)

pub number_unmarked : (n : ℕ) → n < 2 ^ 64 → AreUnmarked (decimal n)
number_unmarked n few = digits_unmarked (decimal n) (decimal_is_IsNumeral n few).0.1

pair_unmarked : (place : ℕ) (pair : Pair) → IsPairOfWords pair → AreUnmarked (pair_text place pair)
pair_unmarked place pair few =
    both (comma_text place ++ codes "[" ++ decimal pair.earlier ++ codes "," ++ decimal pair.later) (codes "]")
    (both (comma_text place ++ codes "[" ++ decimal pair.earlier ++ codes ",") (decimal pair.later)
    (both (comma_text place ++ codes "[" ++ decimal pair.earlier) (codes ",")
    (both (comma_text place ++ codes "[") (decimal pair.earlier)
    (both (comma_text place) (codes "[") (comma_unmarked place) refl)
    (number_unmarked pair.earlier few.0))
    refl)
    (number_unmarked pair.later few.1))
    refl

pub pairs_unmarked : (pairs : List Pair) → All IsPairOfWords pairs → AreUnmarked (pairs_text pairs)
pairs_unmarked pairs few = each_unmarked IsPairOfWords pair_text pair_unmarked 0 pairs (recursion_from_All IsPairOfWords pairs few)

pub optional_unmarked : (group : Option ℕ) → IfSome group (λ number. number < 2 ^ 64) → AreUnmarked (optional_text group)
optional_unmarked None few = refl
optional_unmarked (Some number) few = number_unmarked number few

access_unmarked : (line : ℕ) (writes : Bool) → line < 2 ^ 64 → AreUnmarked (access_text line writes)
access_unmarked line true few =
    both (codes "{\"line\":" ++ decimal line) (codes ",\"kind\":\"write\"}") (both (codes "{\"line\":") (decimal line) refl (number_unmarked line few)) refl
access_unmarked line false few =
    both (codes "{\"line\":" ++ decimal line) (codes ",\"kind\":\"read\"}") (both (codes "{\"line\":") (decimal line) refl (number_unmarked line few)) refl

pub site_unmarked : (site : Site) → IsSiteOfWords site → AreUnmarked (site_text site)
unfolding site_text
site_unmarked site few =
    let first = access_text site.line site.writes in
    let then = access_text site.later_line site.later_writes in
    both (codes ",\"of\":[" ++ first ++ codes "," ++ then) (codes "]")
    (both (codes ",\"of\":[" ++ first ++ codes ",") then
    (both (codes ",\"of\":[" ++ first) (codes ",")
    (both (codes ",\"of\":[") first refl (access_unmarked site.line site.writes few.0)) refl)
    (access_unmarked site.later_line site.later_writes few.1)) refl

pub group_site_unmarked : (site : Option Site) → IfSome site IsSiteOfWords → AreUnmarked (group_site_text site)
group_site_unmarked None few = refl
group_site_unmarked (Some site) few = site_unmarked site few

rival_unmarked : (rival : Option Rival) → IfSome rival IsRivalOfWords → AreUnmarked (rival_text rival)
unfolding rival_text
rival_unmarked None few = refl
rival_unmarked (Some rival) few =
    both (codes "{\"act\":" ++ decimal rival.act ++ site_text rival.site) (codes "}")
    (both (codes "{\"act\":" ++ decimal rival.act) (site_text rival.site)
    (both (codes "{\"act\":") (decimal rival.act) refl (number_unmarked rival.act few.0))
    (site_unmarked rival.site few.1)) refl

number_at_unmarked : (place number : ℕ) → number < 2 ^ 64 → AreUnmarked (number_at place number)
number_at_unmarked place number few = both (comma_text place) (decimal number) (comma_unmarked place) (number_unmarked number few)

numbers_unmarked : (numbers : List ℕ) → AreWords numbers → AreUnmarked (numbers_text numbers)
unfolding numbers_text
numbers_unmarked numbers few =
    both (codes "[" ++ each number_at numbers) (codes "]")
    (both (codes "[") (each number_at numbers) refl
    (each_unmarked (λ (number : ℕ). number < 2 ^ 64) number_at number_at_unmarked 0 numbers
    (recursion_from_All (λ (number : ℕ). number < 2 ^ 64) numbers few))) refl

writes_unmarked : (given : Given) → IsGivenOfWords given → AreUnmarked (writes_text given)
unfolding writes_text
writes_unmarked given few =
    let last = codes "{\"last\":" ++ numbers_text given.last.items in
    both (last ++ codes ",\"unknown\":" ++ optional_text given.unknown) (codes "}")
    (both (last ++ codes ",\"unknown\":") (optional_text given.unknown)
    (both last (codes ",\"unknown\":") (both (codes "{\"last\":") (numbers_text given.last.items) refl (numbers_unmarked given.last.items few.0)) refl)
    (optional_unmarked given.unknown few.1)) refl

pub given_unmarked : (given : Option Given) → IfSome given IsGivenOfWords → AreUnmarked (given_text given)
given_unmarked None few = refl
given_unmarked (Some given) few = writes_unmarked given few

pub rivals_unmarked : (rivals : List (Option Rival)) → All (λ rival. IfSome rival IsRivalOfWords) rivals → AreUnmarked (rivals_text rivals)
rivals_unmarked rivals few =
    each_unmarked (λ (rival : Option Rival). IfSome rival IsRivalOfWords) rival_at
    (λ (node : ℕ) (rival : Option Rival) (small : IfSome rival IsRivalOfWords).
    both (comma_text node) (rival_text rival) (comma_unmarked node) (rival_unmarked rival small))
    0 rivals (recursion_from_All (λ (rival : Option Rival). IfSome rival IsRivalOfWords) rivals few)

end_word_unmarked : (fate : Fate) → AreUnmarked (end_word fate)
end_word_unmarked Ended = refl
end_word_unmarked (Trapped cause) = refl
end_word_unmarked Unfinished = refl

end_unmarked : (end : End) → IsEndOfWords end → AreUnmarked (end_text end)
unfolding end_text
end_unmarked end few =
    let word = codes "{\"end\":\"" ++ end_word end.fate in
    let line = word ++ codes "\",\"line\":" ++ decimal end.line in
    both (line ++ codes ",\"prints\":" ++ decimal end.prints) (codes "}")
    (both (line ++ codes ",\"prints\":") (decimal end.prints)
    (both line (codes ",\"prints\":")
    (both (word ++ codes "\",\"line\":") (decimal end.line)
    (both word (codes "\",\"line\":")
    (both (codes "{\"end\":\"") (end_word end.fate) refl (end_word_unmarked end.fate)) refl)
    (number_unmarked end.line few.0)) refl)
    (number_unmarked end.prints few.1)) refl

pub ends_unmarked : (ends : List End) → All IsEndOfWords ends → AreUnmarked (ends_text ends)
ends_unmarked ends few =
    each_unmarked IsEndOfWords end_at
    (λ (node : ℕ) (end : End) (small : IsEndOfWords end). both (comma_text node) (end_text end) (comma_unmarked node) (end_unmarked end small))
    0 ends (recursion_from_All IsEndOfWords ends few)

pub circles_unmarked : (circles : List (List ℕ)) → All AreWords circles → AreUnmarked (circles_text circles)
circles_unmarked circles few =
    each_unmarked AreWords circle_at
    (λ (place : ℕ) (circle : List ℕ) (small : AreWords circle).
    both (comma_text place) (numbers_text circle) (comma_unmarked place) (numbers_unmarked circle small))
    0 circles (recursion_from_All AreWords circles few)

byte_told : (byte : ℕ) → is_unmarked byte ≡ true → (byte ≢ 60) × (byte ≢ 62) × (byte ≢ 38)
byte_told byte is = (grind (arith, nat_tests), grind (arith, nat_tests), grind (arith, nat_tests))

-- the same of each byte
pub no_markup : (bytes : List ℕ) → AreUnmarked bytes → HasNoMarkup bytes
no_markup bytes are = λ k d lt. byte_told (slice_index_or bytes k d) (AllPass-from_list_all is_unmarked bytes are k d lt)
