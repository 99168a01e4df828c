-- What parts that are added one after another come to.
use Rattle.std.proofs.Common.{◌≡◌, ◌∙◌, ◌++◌, ℕ, List, [], ◌∷◌, ap, append_assoc, append-nil, refl, sym}
use Rattle.lrc_races_text.specs.Spelled.{together}

together-append : (parts more : List (List ℕ)) → together (parts ++ more) ≡ together parts ++ together more
together-append [] more = refl
together-append (part ∷ parts) more = ap (λ t. part ++ t) (together-append parts more) ∙ sym (append_assoc part (together parts) (together more))

-- these parts are added
pub record Pushed (old : List ℕ) (parts : List (List ℕ)) (now : List ℕ) : Type 0 where
  pub is : now ≡ old ++ together parts

pub start : (text : List ℕ) → Pushed text [] text
start text = record { is = sym (append-nil text) }

-- and these more
more : {old now next : List ℕ} {parts : List (List ℕ)} → Pushed old parts now → (others : List (List ℕ)) → next ≡ now ++ together others
    → Pushed old (parts ++ others) next
more {old} {now} {next} {parts} p others e = record {
  is = e ∙ ap (λ t. t ++ together others) p.is ∙ append_assoc old (together parts) (together others)
      ∙ ap (λ t. old ++ t) (sym (together-append parts others));
}

-- one part, or two
pub one : {old now next : List ℕ} {parts : List (List ℕ)} → Pushed old parts now → (a : List ℕ) → next ≡ now ++ a → Pushed old (parts ++ a ∷ []) next
one {now = now} p a e = more p (a ∷ []) (e ∙ ap (λ t. now ++ t) (sym (append-nil a)))

pub two : {old now next : List ℕ} {parts : List (List ℕ)} → Pushed old parts now → (a b : List ℕ) → next ≡ now ++ a ++ b
    → Pushed old (parts ++ a ∷ b ∷ []) next
two {now = now} p a b e = more p (a ∷ b ∷ []) (e ∙ append_assoc now a b ∙ ap (λ t. now ++ (a ++ t)) (sym (append-nil b)))

-- the same, where the last part is known by another term
pub one_as : {old now next : List ℕ} {parts : List (List ℕ)} → Pushed old parts now → (a same : List ℕ) → a ≡ same → next ≡ now ++ a
    → Pushed old (parts ++ same ∷ []) next
one_as {now = now} p a same is e = one p same (e ∙ ap (λ t. now ++ t) is)

pub two_as : {old now next : List ℕ} {parts : List (List ℕ)} → Pushed old parts now → (a b same : List ℕ) → b ≡ same → next ≡ now ++ a ++ b
    → Pushed old (parts ++ a ∷ same ∷ []) next
two_as {now = now} p a b same is e = two p a same (e ∙ ap (λ t. now ++ a ++ t) is)
