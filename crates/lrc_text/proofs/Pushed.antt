-- What a text holds where more is added behind what was added before.
use Rattle.std.proofs.Common.{◌≡◌, ◌∙◌, ◌++◌, ℕ, List, [], ap, append-nil, sym}
use Rattle.std.specs.Prelude.{Err, Ok, OnErr, OnOk, Result, codes, cond, decimal, is_ok}
use Rattle.std.proofs.lemmas.Result.{on_err_weaker, on_ok_weaker}
use Rattle.lrc_text.specs.Front.{BeginsWith}
use Rattle.lrc_text.proofs.Fronts.{begins_still, grown, grown_by, grown_first, three}

-- what holds in any case holds of an error
pub err_is : {R E P : Type 0} (result : Result R E) → P → OnErr result P
err_is (Ok value) holds = tt
err_is (Err fault) holds = holds

-- a text to which nothing was added
pub unchanged : (now next : List ℕ) → next ≡ now → BeginsWith next now
unchanged now next same = record { rest = []; whole = same ∙ sym (append-nil now) }

pub extended_ok : {R E : Type 0} (result : Result R E) (now more next : List ℕ) → next ≡ cond (is_ok result) (now ++ more) now
    → OnOk result (next ≡ now ++ more)
extended_ok (Ok value) now more next is = is
extended_ok (Err fault) now more next is = tt

pub extended_err : {R E : Type 0} (result : Result R E) (now more next : List ℕ) → next ≡ cond (is_ok result) (now ++ more) now
    → OnErr result (BeginsWith next now)
extended_err (Ok value) now more next is = tt
extended_err (Err fault) now more next is = unchanged now next is

-- a word and a number behind a text
pub number_is : (old word next : List ℕ) (m n : ℕ) → next ≡ old ++ word ++ decimal m → m ≡ n → next ≡ old ++ (word ++ decimal n)
number_is old word next m n last same = grown_first old word m n last same

in_brackets : (name inner : List ℕ) → name ++ (codes "[" ++ inner ++ codes "]") ≡ name ++ codes "[" ++ inner ++ codes "]"
in_brackets name inner = sym (three name (codes "[") inner (codes "]"))

module _ (old words now next : List ℕ) (is : now ≡ old ++ words) where
  pub and_then : (more : List ℕ) → next ≡ now ++ more → next ≡ old ++ (words ++ more)
  and_then more last = grown_by old words more is last

  pub then_ok : {R E : Type 0} (result : Result R E) (more : List ℕ) → OnOk result (next ≡ now ++ more) → OnOk result (next ≡ old ++ (words ++ more))
  then_ok result more last = on_ok_weaker result (and_then more) last

  pub then_err : {R E : Type 0} (result : Result R E) → OnErr result (BeginsWith next now) → OnErr result (BeginsWith next old)
  then_err result last = on_err_weaker result (begins_still old words now next is) last

  pub and_number : (word : List ℕ) (m n : ℕ) → next ≡ now ++ word ++ decimal m → m ≡ n → next ≡ old ++ (words ++ word ++ decimal n)
  and_number word m n last same = grown old words word m n is last same

  pub number_ok : {R E : Type 0} (result : Result R E) (word : List ℕ) (m n : ℕ) → OnOk result (next ≡ now ++ word ++ decimal m) → m ≡ n
      → OnOk result (next ≡ old ++ (words ++ word ++ decimal n))
  number_ok result word m n last same = on_ok_weaker result (λ (e : next ≡ now ++ word ++ decimal m). and_number word m n e same) last

  pub slice_ok : {R E : Type 0} (result : Result R E) (more : List ℕ) → next ≡ cond (is_ok result) (now ++ more) now
      → OnOk result (next ≡ old ++ (words ++ more))
  slice_ok result more is_next = then_ok result more (extended_ok result now more next is_next)

  pub slice_err : {R E : Type 0} (result : Result R E) (more : List ℕ) → next ≡ cond (is_ok result) (now ++ more) now
      → OnErr result (BeginsWith next old)
  slice_err result more is_next = then_err result (extended_err result now more next is_next)

  pub bracketed_ok : {R E : Type 0} (result : Result R E) (inner : List ℕ) → OnOk result (next ≡ now ++ (codes "[" ++ inner ++ codes "]"))
      → OnOk result (next ≡ old ++ (words ++ codes "[" ++ inner ++ codes "]"))
  bracketed_ok result inner last =
      on_ok_weaker result (λ (e : next ≡ now ++ (codes "[" ++ inner ++ codes "]")).
      and_then (codes "[" ++ inner ++ codes "]") e ∙ ap (λ l. old ++ l) (in_brackets words inner)) last
