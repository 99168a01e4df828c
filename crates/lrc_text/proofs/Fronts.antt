-- How texts begin and grow.
use Rattle.std.proofs.Common.{◌≡◌, ◌∙◌, ◌++◌, ℕ, List, ap, append_assoc}
use Rattle.std.specs.Prelude.{Result, Ok, Err, OnErr, OnOk, decimal, if◌then◌else◌, is_ok}
use Rattle.lrc_text.specs.Front.{BeginsWith}

-- where words were added and more was refused, the text begins still as it did before them
pub begins_still : (old words now next : List ℕ) → now ≡ old ++ words → BeginsWith next now → BeginsWith next old
begins_still old words now next is begins =
    record { rest = words ++ begins.rest; whole = begins.whole ∙ ap (λ l. l ++ begins.rest) is ∙ append_assoc old words begins.rest }

-- a text that words were added to begins as the text before; so it does after more of them
pub begins_first : {old next : List ℕ} (a b : List ℕ) → next ≡ old ++ a ++ b → BeginsWith next old
begins_first {old} a b is = record { rest = a ++ b; whole = is ∙ append_assoc old a b }

pub begins_both : {old now next : List ℕ} → BeginsWith next now → BeginsWith now old → BeginsWith next old
begins_both {old} {now} {next} after before = begins_still old before.rest now next before.whole after

pub begins_word : {old next : List ℕ} (a : List ℕ) → next ≡ old ++ a → BeginsWith next old
begins_word a is = record { rest = a; whole = is }

-- and where a word was refused, and the text kept
pub begins_kept : {old now next : List ℕ} → next ≡ now → BeginsWith now old → BeginsWith next old
begins_kept is before = record { rest = before.rest; whole = is ∙ before.whole }

-- a text that a word and a number were added to, and that it was grown by words before
pub grown_first : {next : List ℕ} (old a : List ℕ) (n m : ℕ) → next ≡ old ++ a ++ decimal n → n ≡ m → next ≡ old ++ (a ++ decimal m)
grown_first old a n m is same = is ∙ append_assoc old a (decimal n) ∙ ap (λ k. old ++ (a ++ decimal k)) same

pub grown : {now next : List ℕ} (old words a : List ℕ) (n m : ℕ) → now ≡ old ++ words → next ≡ now ++ a ++ decimal n → n ≡ m
    → next ≡ old ++ (words ++ a ++ decimal m)
grown old words a n m was is same =
    is ∙ ap (λ l. l ++ a ++ decimal n) was ∙ ap (λ l. l ++ decimal n) (append_assoc old words a) ∙ append_assoc old (words ++ a) (decimal n)
    ∙ ap (λ k. old ++ (words ++ a ++ decimal k)) same

-- a text that a word was added to, and that it was grown by words before; and one that several were added to
pub grown_by : {now next : List ℕ} (old words a : List ℕ) → now ≡ old ++ words → next ≡ now ++ a → next ≡ old ++ (words ++ a)
grown_by old words a was is = is ∙ ap (λ l. l ++ a) was ∙ append_assoc old words a

pub three : (old a b c : List ℕ) → old ++ a ++ b ++ c ≡ old ++ (a ++ b ++ c)
three old a b c = ap (λ l. l ++ c) (append_assoc old a b) ∙ append_assoc old (a ++ b) c

pub four : (old a b c d : List ℕ) → old ++ a ++ b ++ c ++ d ≡ old ++ (a ++ b ++ c ++ d)
four old a b c d = ap (λ l. l ++ d) (three old a b c) ∙ append_assoc old (a ++ b ++ c) d

-- what an error that is handed up leaves
pub told_err : {T E B : Type 0} (r : Result T E) → B → OnErr r B
told_err (Ok x) b = tt
told_err (Err e) b = b

-- a last word is added or refused
pub ends_ok : {T E : Type 0} {now next : List ℕ} (r : Result T E) (old words last : List ℕ) → now ≡ old ++ words
    → next ≡ (if is_ok r then now ++ last else now) → OnOk r (next ≡ old ++ (words ++ last))
ends_ok (Ok x) old words last was is = grown_by old words last was is
ends_ok (Err e) old words last was is = tt

pub ends_err : {T E : Type 0} {now next : List ℕ} (r : Result T E) (old words last : List ℕ) → now ≡ old ++ words
    → next ≡ (if is_ok r then now ++ last else now) → OnErr r (BeginsWith next old)
ends_err (Ok x) old words last was is = tt
ends_err (Err e) old words last was is = record { rest = words; whole = is ∙ was }

-- what the last of several calls leaves where it is refused
pub last_err : {T E : Type 0} {old now : List ℕ} (r : Result T E) (next : List ℕ) → BeginsWith now old → OnErr r (BeginsWith next now)
    → OnErr r (BeginsWith next old)
last_err (Ok x) next before after = tt
last_err (Err e) next before after = begins_both after before
