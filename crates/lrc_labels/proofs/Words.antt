-- Names are the words of the language that are no keywords.
use Rattle.std.proofs.Common.{◌≡◌, ◌↔◌, ℕ, Bool, true, false, ◌&&◌, ◌||◌, not, arith, rules, tests, List, [], ◌∷◌, sym, refl, append-nil, get_or, inl, suc}
use Rattle.std.specs.Prelude.{All}
use Rattle.std.specs.List.{list_all, list_any}
use Rattle.std.specs.Str.{bytes_eq}
use Rattle.std.specs.Cmp.Derive.{both_true}
use Rattle.std.proofs.Math.Bool.{and-eq-true_iff}
use Rattle.std.proofs.lemmas.List.Sums.{AllPass-from_list_all, list_all-from_AllPass}
use Rattle.std.proofs.lemmas.Slice.Eq.{bytes_eq-Decides}
use Rattle.lrc_lang.specs.declared.token.Keyword.{Keyword}
use Rattle.lrc_lang.specs.declared.token.Keyword.TheVariants.{Words, Locks, Acquire, Release, Barrier, Print, If, Else, While, Me, Nodes}
use Rattle.lrc_lang.specs.Lexemes.{IsKeyword, IsLetterOrDigit, IsWord, keyword_text}
use Rattle.lrc_labels.specs.Name.{is_keyword, is_letter, is_name, is_word_byte, keywords}
use Rattle.lrc_labels.proofs.Names.{letter_iff}

word_byte_iff : (byte : ℕ) → (is_word_byte byte ≡ true) ↔ IsLetterOrDigit byte
word_byte_iff byte = search (rules, tests)

keyword_in : (word : List ℕ) (some : List Keyword) → list_any (λ keyword. bytes_eq (keyword_text keyword) word) some ≡ true → IsKeyword word
keyword_in word [] h = absurd (cc)
keyword_in word (keyword ∷ others) h = first (keyword_in word others) (bytes_eq (keyword_text keyword) word) refl h
  where
    first : (list_any (λ keyword. bytes_eq (keyword_text keyword) word) others ≡ true → IsKeyword word)
        → (b : Bool) → bytes_eq (keyword_text keyword) word ≡ b → (b || list_any (λ keyword. bytes_eq (keyword_text keyword) word) others) ≡ true → IsKeyword word
    first more true is k = (keyword, sym ((bytes_eq-Decides (keyword_text keyword) word).0 is))
    first more false is k = more k

any_of : (test : Keyword → Bool) (which : Keyword) → test which ≡ true → list_any test keywords ≡ true
any_of test Words h = grind (arith, h)
any_of test Locks h = grind (arith, h)
any_of test Acquire h = grind (arith, h)
any_of test Release h = grind (arith, h)
any_of test Barrier h = grind (arith, h)
any_of test Print h = grind (arith, h)
any_of test If h = grind (arith, h)
any_of test Else h = grind (arith, h)
any_of test While h = grind (arith, h)
any_of test Me h = grind (arith, h)
any_of test Nodes h = grind (arith, h)

keyword_is : (word : List ℕ) → IsKeyword word → is_keyword word ≡ true
keyword_is word h = any_of (λ keyword. bytes_eq (keyword_text keyword) word) h.0 ((bytes_eq-Decides (keyword_text h.0) word).1 (sym h.1))

no_keyword : (word : List ℕ) → not (is_keyword word) ≡ true → ¬ IsKeyword word
no_keyword word h k = grind (arith, keyword_is word k, h)

no_keyword_is : (word : List ℕ) → ¬ IsKeyword word → not (is_keyword word) ≡ true
no_keyword_is word none = tested (is_keyword word) refl
  where
    tested : (b : Bool) → is_keyword word ≡ b → not b ≡ true
    tested true h = absurd (none (keyword_in word keywords h))
    tested false h = refl

word_bytes : (first : ℕ) (rest : List ℕ) → is_letter first ≡ true → list_all is_word_byte rest ≡ true → All IsLetterOrDigit (first ∷ rest)
word_bytes first rest letter all k d lt =
    let each = AllPass-from_list_all is_word_byte (first ∷ rest) (both_true ((word_byte_iff first).1 (inl ((letter_iff first).0 letter))) all) in
    (word_byte_iff (get_or (first ∷ rest) k d)).0 (each k d lt)

pub name_is : (bytes : List ℕ) → is_name bytes ≡ true → IsWord bytes bytes [] × (¬ IsKeyword bytes)
name_is [] h = absurd (cc)
name_is (first ∷ rest) h =
    let one = (and-eq-true_iff (is_letter first) (list_all is_word_byte rest && not (is_keyword (first ∷ rest)))).0 h in
    let two = (and-eq-true_iff (list_all is_word_byte rest) (not (is_keyword (first ∷ rest)))).0 one.1 in (
      record {
        begins = (letter_iff first).0 one.0;
        span = record { whole = sym (append-nil (first ∷ rest)); each = word_bytes first rest one.0 two.0; no_more = λ (h : ⊥). h };
      },
      no_keyword (first ∷ rest) two.1,
    )

pub is_name_of : (bytes : List ℕ) → IsWord bytes bytes [] × (¬ IsKeyword bytes) → is_name bytes ≡ true
is_name_of [] h = absurd h.0.begins
is_name_of (first ∷ rest) h =
    let all : list_all is_word_byte rest ≡ true =
    list_all-from_AllPass is_word_byte rest (λ k d lt. (word_byte_iff (get_or rest k d)).1 (h.0.span.each (suc k) d (omega arith))) in
    both_true ((letter_iff first).1 h.0.begins) (both_true all (no_keyword_is (first ∷ rest) h.1))
