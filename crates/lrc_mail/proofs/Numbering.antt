-- Letters that get numbers one after another.
use Rattle.std.proofs.Common.{◌≡◌, ℕ, ◌+◌, ◌<◌, Bool, true, false, List, [], ◌∷◌, ◌++◌, length, refl, sym, ap, ◌∙◌, subst, append_assoc}
use Rattle.std.specs.Result.{IsErrAnd}
use Rattle.std.specs.Prelude.{Result, Ok, Err, Option, Some, None, option_map, nat_le, if◌then◌else◌, slice_index, slice_set, All}
use Rattle.std.proofs.lemmas.List.{length-set, append-nil}
use Rattle.std.proofs.lemmas.List.Elements.{All-tail}
use Rattle.std.proofs.lemmas.Option.{same_Some}
use Rattle.lrc_envelope.specs.Envelope.{EnvelopeRecord}
use Rattle.lrc_protocol.specs.Times.{MOST_NUMBER}
use Rattle.lrc_protocol.specs.Node.{Letter, numbered, envelope_of}
use Rattle.lrc_mail.specs.declared.fault.MailFault.{MailFault}
use Rattle.lrc_mail.specs.declared.fault.MailFault.TheVariants.{Worn}
use Rattle.lrc_mail.specs.Sent.{AreCounts, number_after}

-- what is numbered, behind what was numbered before
abbrev pub behind : List EnvelopeRecord → Option (List EnvelopeRecord × List ℕ) → Option (List EnvelopeRecord × List ℕ)
behind before rest = option_map (λ more. (before ++ more.0, more.1)) rest

behind-more : (out : List EnvelopeRecord) (e : EnvelopeRecord) (o : Option (List EnvelopeRecord × List ℕ))
    → behind out (option_map (λ more. (e ∷ more.0, more.1)) o) ≡ behind (out ++ e ∷ []) o
behind-more out e None = refl
behind-more out e (Some (more, sent)) = ap (λ l. Some (l, sent)) (sym (append_assoc out (e ∷ []) more))

-- so many letters have numbers: what all get is that, and what the others get
pub record Midway (me first : ℕ) (start : List ℕ) (all : List Letter) (sent : List ℕ) (out : List EnvelopeRecord) (rest : List Letter) : Type 0 where
  pub counts : AreCounts sent
  pub to : All (λ letter. letter.to < length sent) rest
  pub same : numbered me first start all ≡ behind out (numbered me first sent rest)

-- one letter more
goes_on : (me first : ℕ) (sent : List ℕ) (out : List EnvelopeRecord) (letter : Letter) (rest : List Letter) (number : ℕ) (b : Bool)
    → (if b then Some (first + slice_index sent letter.to) else None) ≡ Some number
    → behind out (if b
    then option_map (λ more. (envelope_of me (first + slice_index sent letter.to) letter ∷ more.0, more.1))
    (numbered me first (slice_set sent letter.to (slice_index sent letter.to + 1)) rest)
    else None)
    ≡ behind (out ++ envelope_of me number letter ∷ []) (numbered me first (slice_set sent letter.to (slice_index sent letter.to + 1)) rest)
goes_on me first sent out letter rest number false e = cc
goes_on me first sent out letter rest number true e =
    behind-more out (envelope_of me (first + slice_index sent letter.to) letter)
    (numbered me first (slice_set sent letter.to (slice_index sent letter.to + 1)) rest)
    ∙ ap (λ n. behind (out ++ envelope_of me n letter ∷ [])
    (numbered me first (slice_set sent letter.to (slice_index sent letter.to + 1)) rest)) (same_Some _ _ e)

pub continues : (me first : ℕ) (start : List ℕ) (all : List Letter) (sent after : List ℕ) (out : List EnvelopeRecord)
    (letter : Letter) (rest : List Letter) (number : ℕ)
    → Midway me first start all sent out (letter ∷ rest) → number_after first (slice_index sent letter.to) ≡ Some number
    → after ≡ slice_set sent letter.to (slice_index sent letter.to + 1) → AreCounts after
    → Midway me first start all after (out ++ envelope_of me number letter ∷ []) rest
continues me first start all sent after out letter rest number m e is counts = record {
  counts = counts;
  to =
      let long : length sent ≡ length after = sym (ap length is ∙ length-set sent letter.to (slice_index sent letter.to + 1)) in
      subst (λ n. All (λ (l : Letter). l.to < n) rest) long (All-tail (λ (l : Letter). l.to < length sent) letter rest m.to);
  same =
      m.same ∙ goes_on me first sent out letter rest number (nat_le (first + slice_index sent letter.to) MOST_NUMBER) e
      ∙ ap (λ s. behind (out ++ envelope_of me number letter ∷ []) (numbered me first s rest)) (sym is);
}

-- no letter is left
pub finishes : (me first : ℕ) (start : List ℕ) (all : List Letter) (sent : List ℕ) (out : List EnvelopeRecord) → Midway me first start all sent out []
    → numbered me first start all ≡ Some (out, sent)
finishes me first start all sent out m = m.same ∙ ap (λ l. Some (l, sent)) (append-nil out)

-- a number would be too large
stops : (me first : ℕ) (sent : List ℕ) (out : List EnvelopeRecord) (letter : Letter) (rest : List Letter) (b : Bool)
    → (if b then Some (first + slice_index sent letter.to) else None) ≡ None
    → behind out (if b
    then option_map (λ more. (envelope_of me (first + slice_index sent letter.to) letter ∷ more.0, more.1))
    (numbered me first (slice_set sent letter.to (slice_index sent letter.to + 1)) rest)
    else None)
    ≡ None
stops me first sent out letter rest false e = refl
stops me first sent out letter rest true e = cc

pub wears : (me first : ℕ) (start : List ℕ) (all : List Letter) (sent : List ℕ) (out : List EnvelopeRecord) (letter : Letter) (rest : List Letter)
    → Midway me first start all sent out (letter ∷ rest) → number_after first (slice_index sent letter.to) ≡ None → numbered me first start all ≡ None
wears me first start all sent out letter rest m e =
    m.same ∙ stops me first sent out letter rest (nat_le (first + slice_index sent letter.to) MOST_NUMBER) e

-- a fault that is handed up as `Worn` was `Worn`
pub fault_is_worn : {T : Type 0} (r : Result T MailFault) (fault : MailFault) → IsErrAnd r (λ f. f ≡ fault) → r ≡ Err Worn → fault ≡ Worn
fault_is_worn (Ok x) fault given worn = absurd given
fault_is_worn (Err other) fault given worn = cc
