-- What is said of a claim, put together of parts.
use Rattle.std.proofs.Common.{◌≡◌, ℕ, List, [], ◌∷◌, ◌++◌, sym, ap, ◌∙◌, append_assoc}
use Rattle.std.specs.Prelude.{Result, Ok, Err, OnOk}
use Rattle.std.proofs.lemmas.List.{append-nil}
use Rattle.lrc_races_text.specs.Spelled.{together}
use Rattle.lrc_races_text.specs.declared.asked.Sought.{Sought}
use Rattle.lrc_races_score.specs.Claims.{Statement}
use Rattle.lrc_races_claims.specs.declared.verdict.Reason.{Reason}
use Rattle.lrc_races_claims.specs.declared.verdict.Verdict.{Verdict}
use Rattle.lrc_races_claims.specs.declared.verdict.Verdict.TheVariants.{True, False}
use Rattle.lrc_races_claims.specs.Spelled.{separated_parts, reason_parts, verdict_parts}

pub on_ok : {T E : Type 0} (r : Result T E) {P Q : Type 0} → OnOk r P → (P → Q) → OnOk r Q
on_ok (Ok x) p f = f p
on_ok (Err e) p f = p

pub one_part : (old a : List ℕ) → ((old ++ a) ++ []) ++ [] ≡ old ++ together (a ∷ [])
one_part old a = simp (append_assoc, append-nil)

pub two_parts : (old a b : List ℕ) → (old ++ a) ++ b ≡ old ++ together (a ∷ b ∷ [])
two_parts old a b = simp (append_assoc, append-nil)

pub two_and_none : (old a b : List ℕ) → ((old ++ a) ++ b) ++ [] ≡ old ++ together (a ∷ b ∷ [])
two_and_none old a b = simp (append_assoc, append-nil)

pub three_at_once : (old a b c : List ℕ) → ((old ++ a) ++ b) ++ c ≡ old ++ together (a ∷ b ∷ c ∷ [])
three_at_once old a b c = simp (append_assoc, append-nil)

pub three_parts : (old middle a b c : List ℕ) → middle ≡ (old ++ a) ++ b → ((middle ++ c) ++ []) ++ [] ≡ old ++ together (a ∷ b ∷ c ∷ [])
three_parts old middle a b c e = ap (λ m. ((m ++ c) ++ []) ++ []) e ∙ simp (append_assoc, append-nil)

four_parts : (old a b c d : List ℕ) → (((old ++ a) ++ b) ++ c) ++ d ≡ old ++ together (a ∷ b ∷ c ∷ d ∷ [])
four_parts old a b c d = simp (append_assoc, append-nil)

pub separated_said : (sought other : Sought) (lesser greater : ℕ) (old middle after a b c d : List ℕ) → sought ≡ other → middle ≡ (old ++ a) ++ b
    → after ≡ (middle ++ c) ++ d → separated_parts other lesser greater ≡ a ∷ b ∷ c ∷ d ∷ [] → after ≡ old ++ together (separated_parts sought lesser greater)
separated_said sought other lesser greater old middle after a b c d same e f parts =
    f ∙ ap (λ m. (m ++ c) ++ d) e ∙ four_parts old a b c d ∙ ap (λ ps. old ++ together ps) (sym parts)
    ∙ ap (λ s. old ++ together (separated_parts s lesser greater)) (sym same)

pub reasoned : {T E : Type 0} (r : Result T E) (sought : Sought) (threads : List (List ℕ)) (claim : Statement) (reason other : Reason) (old new text : List ℕ)
    → reason ≡ other → OnOk r (new ≡ text) → text ≡ old ++ together (reason_parts sought threads claim other)
    → OnOk r (new ≡ old ++ together (reason_parts sought threads claim reason))
reasoned r sought threads claim reason other old new text same says parts =
    on_ok r says (λ is. is ∙ parts ∙ ap (λ x. old ++ together (reason_parts sought threads claim x)) (sym same))

-- what is said of a claim
pub true_said : {T E : Type 0} (r : Result T E) (sought : Sought) (threads : List (List ℕ)) (claim : Statement) (verdict : Verdict) (old new a : List ℕ)
    → verdict ≡ True → OnOk r (new ≡ ((old ++ a) ++ []) ++ []) → verdict_parts sought threads claim True ≡ a ∷ []
    → OnOk r (new ≡ old ++ together (verdict_parts sought threads claim verdict))
true_said r sought threads claim verdict old new a same says parts =
    on_ok r says (λ is. is ∙ one_part old a ∙ ap (λ ps. old ++ together ps) (sym parts)
    ∙ ap (λ v. old ++ together (verdict_parts sought threads claim v)) (sym same))

pub false_said : {T E : Type 0} (r : Result T E) (sought : Sought) (threads : List (List ℕ)) (claim : Statement) (verdict : Verdict) (reason : Reason)
    (old middle new a : List ℕ) → verdict ≡ False reason → middle ≡ ((old ++ a) ++ []) ++ []
    → OnOk r (new ≡ middle ++ together (reason_parts sought threads claim reason))
    → verdict_parts sought threads claim (False reason) ≡ a ∷ together (reason_parts sought threads claim reason) ∷ []
    → OnOk r (new ≡ old ++ together (verdict_parts sought threads claim verdict))
false_said r sought threads claim verdict reason old middle new a same e says parts =
    on_ok r says (λ is. is ∙ ap (λ m. m ++ together (reason_parts sought threads claim reason)) e
    ∙ false_parts old a (together (reason_parts sought threads claim reason)) ∙ ap (λ ps. old ++ together ps) (sym parts)
    ∙ ap (λ v. old ++ together (verdict_parts sought threads claim v)) (sym same))
  where
    false_parts : (old a b : List ℕ) → (((old ++ a) ++ []) ++ []) ++ b ≡ old ++ together (a ∷ b ∷ [])
    false_parts old a b = simp (append_assoc, append-nil)

-- the line of a claim
pub line_said : {T E : Type 0} (r : Result T E) (old one two three new a b c d e : List ℕ) → one ≡ (old ++ a) ++ b → two ≡ ((one ++ c) ++ []) ++ []
    → three ≡ two ++ d → OnOk r (new ≡ ((three ++ e) ++ []) ++ []) → OnOk r (new ≡ old ++ together (a ∷ b ∷ c ∷ d ∷ e ∷ []))
line_said r old one two three new a b c d e f g h says =
    on_ok r says (λ is. is ∙ ap (λ t. ((t ++ e) ++ []) ++ []) (h ∙ ap (λ t. t ++ d) (g ∙ ap (λ t. ((t ++ c) ++ []) ++ []) f)) ∙ all_parts old a b c d e)
  where
    all_parts : (old a b c d e : List ℕ) → ((((((((old ++ a) ++ b) ++ c) ++ []) ++ []) ++ d) ++ e) ++ []) ++ []
        ≡ old ++ together (a ∷ b ∷ c ∷ d ∷ e ∷ [])
    all_parts old a b c d e = simp (append_assoc, append-nil)
