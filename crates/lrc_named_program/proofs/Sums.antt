-- Sums over what is declared, as a loop comes to it.
use Rattle.std.proofs.Common.{◌≡◌, ℕ, zero, suc, ◌+◌, ◌<◌, ◌≤◌, List, [], ◌∷◌, map, length, get_or, drop, refl, sym, ap, arith, ◌∙◌, add-one}
use Rattle.std.proofs.Math.Seq.{drop-cons}
use Rattle.lrc_named_names.specs.declared.names.Declared as code_declared
use Rattle.lrc_named_names.specs.View.{entry_of, meaning_seen}
use Rattle.lrc_named_constants.specs.Layout.{locks_in, locks_of, words_in, words_of}

pub words_step : (xs : List code_declared.Declared) (i : ℕ) (x : code_declared.Declared) → i < length xs → x ≡ get_or xs i x
    → words_in (map entry_of (drop i xs)) ≡ words_of (meaning_seen x.meaning) + words_in (map entry_of (drop (i + 1) xs))
words_step xs i x lt is =
    let step : drop i xs ≡ get_or xs i x ∷ drop (i + 1) xs = rw add-one (drop-cons xs i x lt) in
    ap (λ l. words_in (map entry_of l)) step ∙ ap (λ (y : code_declared.Declared). words_of (meaning_seen y.meaning) + words_in (map entry_of (drop (i + 1) xs))) (sym is)

pub locks_step : (xs : List code_declared.Declared) (i : ℕ) (x : code_declared.Declared) → i < length xs → x ≡ get_or xs i x
    → locks_in (map entry_of (drop i xs)) ≡ locks_of (meaning_seen x.meaning) + locks_in (map entry_of (drop (i + 1) xs))
locks_step xs i x lt is =
    let step : drop i xs ≡ get_or xs i x ∷ drop (i + 1) xs = rw add-one (drop-cons xs i x lt) in
    ap (λ l. locks_in (map entry_of l)) step ∙ ap (λ (y : code_declared.Declared). locks_of (meaning_seen y.meaning) + locks_in (map entry_of (drop (i + 1) xs))) (sym is)

pub words_past : (xs : List code_declared.Declared) (i : ℕ) → length xs ≤ i → words_in (map entry_of (drop i xs)) ≡ 0
words_past [] zero h = refl
words_past [] (suc i) h = refl
words_past (x ∷ xs) zero h = absurd (omega arith)
words_past (x ∷ xs) (suc i) h = words_past xs i (omega arith)

pub locks_past : (xs : List code_declared.Declared) (i : ℕ) → length xs ≤ i → locks_in (map entry_of (drop i xs)) ≡ 0
locks_past [] zero h = refl
locks_past [] (suc i) h = refl
locks_past (x ∷ xs) zero h = absurd (omega arith)
locks_past (x ∷ xs) (suc i) h = locks_past xs i (omega arith)
