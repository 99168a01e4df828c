-- Which turns take a message that a later turn takes again.
use Rattle.std.proofs.Common.{◌≡◌, ℕ, zero, suc, ◌+◌, ◌<◌, ◌≤◌, ◌⊎◌, inl, inr, Bool, true, false, cond, List, []}
use Rattle.std.proofs.Common.{◌∷◌, ◌++◌, length, map, take, drop, refl, sym, ap, subst, ◌∙◌, arith}
use Rattle.std.specs.Prelude.{Some, ◌||◌, ◌==◌, ◌&&◌, slice_get, slice_set, slice_index_or}
use Rattle.std.proofs.lemmas.Bool.{cases_eq}
use Rattle.std.proofs.lemmas.List.{length-map, length-set, length-append, get_or-set_same, get_or-set_other, map-append}
use Rattle.std.proofs.Math.Seq.{drop-length}
use Rattle.std.proofs.lemmas.Option.{slice_get-get_or, slice_get_within, slice_get_read, same_Some}
use Rattle.lrc_envelope.specs.Envelope.{EnvelopeRecord}
use Rattle.lrc_protocol.specs.Run.{Input, run, taken, EntryRecord}
use Rattle.lrc_weave.specs.Woven.{takes_same, is_taken_among}
use Rattle.lrc_weave.specs.Again.{has_key, is_noted, is_again, AreAgain, AreAllAgain}
use Rattle.lrc_weave.proofs.Places.{taken_more, dropped_less}
use Rattle.lrc_weave.proofs.Members.{in_map}

-- ---- what is noted

pub noted_more : (b c : Bool) → cond b true c ≡ (b || c)
noted_more true c = refl
noted_more false c = refl

-- a message more is noted, by its sender and its number
pub noted_one : (message other : EnvelopeRecord) (from number : ℕ) (keys new : List (ℕ × ℕ))
    → has_key new message ≡ cond ((from == message.from) && (number == message.number)) true (has_key keys message)
    → from ≡ other.from → number ≡ other.number → has_key new message ≡ (takes_same message (taken other) || has_key keys message)
noted_one message other from number keys new is from_is number_is =
    is ∙ noted_more ((from == message.from) && (number == message.number)) (has_key keys message)
    ∙ ap (λ n. ((n == message.from) && (number == message.number)) || has_key keys message) from_is
    ∙ ap (λ n. ((other.from == message.from) && (n == message.number)) || has_key keys message) number_is

-- from the last turn down to a place, each has its bit, and what those turns take is noted
pub record AreSo (log : List EntryRecord) (place : ℕ) (keys : List (ℕ × ℕ)) (again : List Bool) : Type 0 where
  pub there : place ≤ length log
  pub count : length again ≡ length log
  pub noted : (message : EnvelopeRecord) → has_key keys message ≡ is_taken_among message (drop place log)
  pub bits : (k : ℕ) (entry : EntryRecord) → place ≤ k → slice_get log k ≡ Some entry → slice_get again k ≡ Some (is_again entry.input (drop (k + 1) log))

pub so_begun : (log : List EntryRecord) (place : ℕ) (keys : List (ℕ × ℕ)) (again : List Bool) → place ≡ length log → keys ≡ [] → length again ≡ length log
    → AreSo log place keys again
so_begun log place keys again all none counted = record {
  there = omega (arith, all);
  count = counted;
  noted = λ message.
      ap (λ ks. has_key ks message) none ∙ sym (ap (is_taken_among message) (ap (λ n. drop n log) all ∙ drop-length log));
  bits = λ k entry le at. absurd (omega (arith, le, all, slice_get_within log k entry at));
}

noted_is : (log : List EntryRecord) (keys : List (ℕ × ℕ)) (later : List EntryRecord)
    → ((message : EnvelopeRecord) → has_key keys message ≡ is_taken_among message later)
    → (input : Input) → is_noted keys input ≡ is_again input later
noted_is log keys later noted run = refl
noted_is log keys later noted (taken message) = noted message

pub so_more : (log : List EntryRecord) (place below : ℕ) (keys new : List (ℕ × ℕ)) (again : List Bool) (entry : EntryRecord) (input : Input) (b : Bool)
    → AreSo log place keys again → place ≡ below + 1 → below < length log → entry ≡ slice_index_or log below entry → b ≡ is_noted keys input
    → ((message : EnvelopeRecord) → has_key new message ≡ (takes_same message input || has_key keys message)) → input ≡ entry.input
    → AreSo log below new (slice_set again below b)
so_more log place below keys new again entry input b so next low entry_is is more input_is =
    let at : slice_get log below ≡ Some entry = slice_get_read log (length log) below entry refl low entry_is in
    let within : below < length again = omega (arith, so.count, low) in
    let noted : (message : EnvelopeRecord) → has_key keys message ≡ is_taken_among message (drop (below + 1) log) =
    λ message. subst (λ p. has_key keys message ≡ is_taken_among message (drop p log)) next (so.noted message) in
    record {
      there = omega (arith, low);
      count = length-set again below b ∙ so.count;
      noted = λ message.
          more message ∙ ap (λ i. takes_same message i || has_key keys message) input_is ∙ ap (λ c. takes_same message entry.input || c) (noted message)
          ∙ ap (is_taken_among message) (sym (dropped_less log below entry at));
      bits = λ k other le there. elim (cases_eq below k) [
        | inl e ↦ (
            let same : entry ≡ other = same_Some entry other (sym at ∙ ap (slice_get log) e ∙ there) in
            let bit : b ≡ is_again other.input (drop (k + 1) log) = is ∙ ap (is_noted keys) input_is
            ∙ noted_is log keys (drop (below + 1) log) noted entry.input
            ∙ ap (λ (x : EntryRecord). is_again x.input (drop (below + 1) log)) same ∙ ap (λ n. is_again other.input (drop (n + 1) log)) e in
            ap (slice_get (slice_set again below b)) (sym e)
            ∙ slice_get-get_or (slice_set again below b) below b (omega (arith, within, length-set again below b))
            ∙ ap Some (get_or-set_same again below b b within ∙ bit)
            )
        | inr ne ↦ (
            let here : k < length again = omega (arith, so.count, slice_get_within log k other there) in
            slice_get-get_or (slice_set again below b) k b (omega (arith, here, length-set again below b))
            ∙ ap Some (get_or-set_other again below k b b (λ e. ne (sym e)))
            ∙ sym (slice_get-get_or again k b here) ∙ so.bits k other (omega (arith, le, ne, next)) there
            )
      ];
    }

-- ---- all logs

end_of : {X : Type 0} (xs : List X) (x y : X) (k : ℕ) → slice_get (xs ++ x ∷ []) k ≡ Some y → (slice_get xs k ≡ Some y) ⊎ ((k ≡ length xs) × (x ≡ y))
end_of [] x y zero at = inr (refl, (let same : x ≡ y = cc in same))
end_of [] x y (suc k) at = cc
end_of (z ∷ xs) x y zero at = inl at
end_of (z ∷ xs) x y (suc k) at = elim (end_of xs x y k at) [
  | inl here ↦ inl here
  | inr last ↦ inr (ap suc last.0, last.1)
]

kept : {X : Type 0} (xs : List X) (x y : X) (k : ℕ) → slice_get xs k ≡ Some y → slice_get (xs ++ x ∷ []) k ≡ Some y
kept [] x y k at = cc
kept (z ∷ xs) x y zero at = at
kept (z ∷ xs) x y (suc k) at = kept xs x y k at

ended : {X : Type 0} (xs : List X) (x : X) → slice_get (xs ++ x ∷ []) (length xs) ≡ Some x
ended [] x = refl
ended (z ∷ xs) x = ended xs x

pub all_more : (logs : List (List EntryRecord)) (bits : List (List Bool)) (log : List EntryRecord) (again : List Bool) → AreAllAgain logs bits
    → AreAgain log again → AreAllAgain (logs ++ log ∷ []) (bits ++ again ∷ [])
all_more logs bits log again all here = record {
  count = omega (arith, length-append bits (again ∷ []), length-append logs (log ∷ []), all.count);
  each = λ node other at. elim (end_of logs log other node at) [
    | inl before ↦ (let b = all.each node other before in (b.0, kept bits again b.0 node b.1, b.2))
    | inr last ↦ (
      again,
      ap (slice_get (bits ++ again ∷ [])) (last.0 ∙ sym all.count) ∙ ended bits again,
      subst (λ l. AreAgain l again) last.1 here,
    )
  ];
}

-- ---- a turn and its bit

module _ {V W : Type 0} (f : V → List EntryRecord) (g : W → List Bool) where
  pub has_bits : (logs : List V) (bits : List W) (node : ℕ) → AreAllAgain (map f logs) (map g bits) → node < length logs → node < length bits
  has_bits logs bits node all lt = omega (arith, lt, all.count, length-map logs f, length-map bits g)

  pub bits_of : (logs : List V) (bits : List W) (node : ℕ) (v : V) (w : W) → AreAllAgain (map f logs) (map g bits) → node < length logs
      → v ≡ slice_index_or logs node v → w ≡ slice_index_or bits node w → AreAgain (f v) (g w)
  bits_of logs bits node v w all lt v_is w_is =
      let at : slice_get (map f logs) node ≡ Some (f v) = in_map f logs v node (slice_get_read logs (length logs) node v refl lt v_is) in
      let b = all.each node (f v) at in
      let there : slice_get (map g bits) node ≡ Some (g w) =
      in_map g bits w node (slice_get_read bits (length bits) node w refl (has_bits logs bits node all lt) w_is) in
      subst (AreAgain (f v)) (same_Some b.0 (g w) (sym b.1 ∙ there)) b.2

  pub all_step : (logs : List V) (k : ℕ) (v : V) (bits : List W) (w : W) → k < length logs → v ≡ slice_index_or logs k v
      → AreAllAgain (map f (take k logs)) (map g bits) → AreAgain (f v) (g w) → AreAllAgain (map f (take (k + 1) logs)) (map g (bits ++ w ∷ []))
  all_step logs k v bits w lt v_is before here =
      let more : take (k + 1) logs ≡ take k logs ++ v ∷ [] = taken_more logs k v (slice_get_read logs (length logs) k v refl lt v_is) in
      subst (λ ls. AreAllAgain ls (map g (bits ++ w ∷ []))) (sym (ap (map f) more ∙ map-append f (take k logs) (v ∷ [])))
      (subst (AreAllAgain (map f (take k logs) ++ f v ∷ [])) (sym (map-append g bits (w ∷ [])))
      (all_more (map f (take k logs)) (map g bits) (f v) (g w) before here))
