-- Messages that were taken, and the turns that sent them.
use Rattle.std.proofs.Common.{◌≡◌, ◌∙◌, ◌+◌, ◌<◌, ◌↔◌, ℕ, zero, suc, false, true, IsTrue, List, [], ◌∷◌, Some, refl, sym, ap, subst, arith, below_more, get_or, length, map, max}
use Rattle.std.specs.Prelude.{option_map, slice_get, take}
use Rattle.std.proofs.lemmas.Option.{same_Some, slice_get-get_or, slice_get-map, slice_get_within}
use Rattle.lrc_envelope.specs.Envelope.{EnvelopeRecord}
use Rattle.lrc_protocol.specs.Follows.{log_of}
use Rattle.lrc_protocol.specs.Run.{EntryRecord, Flying, last_stamp}
use Rattle.lrc_weave.specs.Sent.{AreTakesSent, IsSent}
use Rattle.lrc_run.specs.Sources.{AreSentTo, HasSource}
use Rattle.lrc_weave.proofs.Places.{taken_more}
use Rattle.lrc_weave.proofs.Rising.{last_is}
use Rattle.std.specs.Bool.{Decides}
use Rattle.std.specs.Prelude.{Ok, Result}
use Rattle.lrc_wire.specs.declared.limits.TheConstants.{MOST_BODY_BYTES}
use Rattle.lrc_wire.specs.declared.version.Version.TheVariants.{Two}
use Rattle.lrc_wire.specs.Reading.{envelope_of}
use Rattle.lrc_wire.specs.Runs.{runs_of}
use Rattle.lrc_wire.specs.Spelling.{Spells, body}
use Rattle.lrc_wire.proofs.Envelopes.{envelope_again, only_spelling, plain}

-- a message as a turn with this stamp sends it
abbrev sent_as : ℕ → EnvelopeRecord → Flying
sent_as stamp envelope = record { envelope = envelope; stamp = stamp; delivered = false }

-- a log that is there
pub log_there : (logs : List (List EntryRecord)) (n : ℕ) (log : List EntryRecord) → slice_get logs n ≡ Some log → log_of logs n ≡ log
log_there [] n log at = absurd cc
log_there (l ∷ logs) zero log at = cc
log_there (l ∷ logs) (suc n) log at = log_there logs n log at

-- a log with an entry is there
entry_there : (logs : List (List EntryRecord)) (n place : ℕ) (entry : EntryRecord) → slice_get (log_of logs n) place ≡ Some entry
    → slice_get logs n ≡ Some (log_of logs n)
entry_there [] n place entry at = absurd cc
entry_there (l ∷ logs) zero place entry at = refl
entry_there (l ∷ logs) (suc n) place entry at = entry_there logs n place entry at

sent_was : (stamp : ℕ) (out : List EnvelopeRecord) (at : ℕ) (flying : Flying) → slice_get (map (sent_as stamp) out) at ≡ Some flying
    → (slice_get out at ≡ Some flying.envelope) × (flying.stamp ≡ stamp)
sent_was stamp [] at flying is = absurd cc
sent_was stamp (e ∷ out) zero flying is =
    let same : sent_as stamp e ≡ flying = cc in (ap (λ (f : Flying). Some f.envelope) same, sym (ap (λ (f : Flying). f.stamp) same))
sent_was stamp (e ∷ out) (suc at) flying is = sent_was stamp out at flying is

module _ (logs : List (List EntryRecord)) where
  sent_so : (n k : ℕ) (entry : EntryRecord) (envelope : EnvelopeRecord) → HasSource logs n (last_stamp (take k (log_of logs n))) entry.stamp envelope
      → (flying : Flying) × (flying.envelope ≡ envelope) × IsSent logs n (take k (log_of logs n)) entry flying
  sent_so n k entry envelope (to, (sender, log, there, (place, turn, at, next, (i, sent)))) = (
    sent_as turn.stamp envelope,
    refl,
    record {
      receiver = to;
      stamp = next;
      sender = sender;
      place = place;
      turn = turn;
      there = ap (λ l. slice_get l place) (log_there logs sender log there) ∙ at;
      sent = (i, slice_get-map (sent_as turn.stamp) turn.turn.out i ∙ ap (option_map (sent_as turn.stamp)) sent);
    },
  )

  source_so : (n k : ℕ) (entry : EntryRecord) (envelope : EnvelopeRecord) (flying : Flying) → flying.envelope ≡ envelope
      → IsSent logs n (take k (log_of logs n)) entry flying → HasSource logs n (last_stamp (take k (log_of logs n))) entry.stamp envelope
  source_so n k entry envelope flying same is =
      let was = sent_was is.turn.stamp is.turn.turn.out is.sent.0 flying is.sent.1 in (
        sym (ap (λ (e : EnvelopeRecord). e.to) same) ∙ is.receiver,
        (
          is.sender,
          log_of logs is.sender,
          entry_there logs is.sender is.place is.turn is.there,
          (
            is.place,
            is.turn,
            is.there,
            is.stamp ∙ ap (λ s. max (last_stamp (take k (log_of logs n))) s + 1) was.1,
            (is.sent.0, was.0 ∙ ap Some same),
          ),
        ),
      )

  -- each message was sent, where that is so of each log
  pub all_sent : ((n : ℕ) → n < length logs → AreSentTo logs n (log_of logs n)) → AreTakesSent logs
  all_sent each = record {
    each = λ n k entry envelope at input.
        let inside : n < length logs = slice_get_within logs n (log_of logs n) (entry_there logs n k entry at) in
        sent_so n k entry envelope (each n inside k entry at envelope input);
  }

  -- and only there
  pub each_sent : AreTakesSent logs → (n : ℕ) → AreSentTo logs n (log_of logs n)
  each_sent are n k entry at envelope input =
      let it = are.each n k entry envelope at input in source_so n k entry envelope it.0 it.1 it.2

-- ---- answers

pub untrue : IsTrue false → ⊥
untrue t = cc

pub yes : {P : Type 0} → P → IsTrue true ↔ P
yes p = (λ _. p, λ _. refl)

pub no : {P : Type 0} → (P → ⊥) → IsTrue false ↔ P
no never = (λ t. cc, λ p. absurd (never p))

-- what is at a place
pub at_place : {A : Type 0} (xs : List A) (k : ℕ) (x d : A) → k < length xs → x ≡ get_or xs k d → slice_get xs k ≡ Some x
at_place xs k x d inside is = slice_get-get_or xs k d inside ∙ ap Some (sym is)

-- ---- one turn after another

-- what none of the elements before a place has, the one at the place neither
pub none_more : {A : Type 0} (P : A → Type 0) (xs : List A) (i : ℕ) (x : A) → slice_get xs i ≡ Some x → (P x → ⊥)
    → ((k : ℕ) (y : A) → k < i → slice_get xs k ≡ Some y → P y → ⊥)
    → (k : ℕ) (y : A) → k < i + 1 → slice_get xs k ≡ Some y → P y → ⊥
none_more P xs i x at never before k y inside there =
    below_more (λ k. (y : _) → slice_get xs k ≡ Some y → P y → ⊥) i (λ k inside y there. before k y inside there)
    (λ y there p. never (subst P (same_Some y x (sym there ∙ at)) p)) k inside y there

-- what each of the elements before a place has, the one at the place too
pub each_more : {A : Type 0} (P : ℕ → A → Type 0) (xs : List A) (i : ℕ) (x : A) → slice_get xs i ≡ Some x → P i x
    → ((k : ℕ) (y : A) → k < i → slice_get xs k ≡ Some y → P k y) → (k : ℕ) (y : A) → k < i + 1 → slice_get xs k ≡ Some y → P k y
each_more P xs i x at here before k y inside there =
    below_more (λ k. (y : _) → slice_get xs k ≡ Some y → P k y) i (λ k inside y there. before k y inside there)
    (λ y there. subst (P i) (same_Some x y (sym at ∙ there)) here) k inside y there

-- the stamp of the last of the entries up to a place
pub last_at : (log : List EntryRecord) (i : ℕ) (entry : EntryRecord) → slice_get log i ≡ Some entry → last_stamp (take (i + 1) log) ≡ entry.stamp
last_at log i entry at = ap last_stamp (taken_more log i entry at) ∙ last_is (take i log) entry

-- ---- one message, one spelling

same_ok : {A E : Type 0} (r : Result A E) (x y : A) → r ≡ Ok x → r ≡ Ok y → x ≡ y
same_ok r x y a b = cc

-- what is written is compared
pub written_same : (one other : EnvelopeRecord) (bytes written : List ℕ) (is : _) → Decides is (bytes ≡ written) → Spells Two one bytes
    → Spells Two other written → IsTrue is ↔ (one ≡ other)
written_same one other bytes written is decides spelled said = (
  λ yes.
      same_ok (envelope_of bytes) one other (envelope_again Two bytes one spelled)
      (ap envelope_of (decides.0 yes) ∙ envelope_again Two written other said),
  λ same. decides.1 (only_spelling Two other bytes written (subst (λ e. Spells Two e bytes) same spelled) said),
)

-- what is written is not too long
pub not_too_long : (one other : EnvelopeRecord) (written : List ℕ) → MOST_BODY_BYTES < length (body Two runs_of one.message) → Spells Two other written
    → IsTrue false ↔ (one ≡ other)
not_too_long one other written long said = (
  λ no. cc,
  λ same.
      absurd (omega (
        arith,
        subst (λ (e : EnvelopeRecord). MOST_BODY_BYTES < length (body Two runs_of e.message)) same long,
        (plain Two other written said).short,
      )),
)
