-- A reader that takes what is spelled, and only that.
use Rattle.std.proofs.Common.{◌≡◌, ◌∙◌, ℕ, zero, suc, ◌<◌, ◌≤◌, ◌^◌, Bool, true, false, ltb, List, [], ◌∷◌, ◌++◌}
use Rattle.std.proofs.Common.{length, take, drop, Result, Ok, refl, sym, ap, subst, append_assoc, arith}
use Rattle.std.specs.Int.{Width, w16, w32, w64, byte_len, from_be_bytes, to_be_bytes}
use Rattle.std.specs.List.{flat_map}
use Rattle.std.proofs.lemmas.Bool.{ltb-false, le-ltb}
use Rattle.std.proofs.lemmas.List.{take_at, drop_at, take-append-drop, length-append, length-take}
use Rattle.std.proofs.lemmas.List.Concat.{flat_map-cons}
use Rattle.std.proofs.lemmas.Nat.{be_bytes_2, be_bytes_4, be_bytes_8, from_be_bytes-to_be_bytes_2, from_be_bytes-to_be_bytes_4, from_be_bytes-to_be_bytes_8}
use Rattle.lrc_wire.specs.declared.fault.WireFault.{WireFault}
use Rattle.lrc_wire.specs.declared.fault.WireFault.TheVariants.{Short}
use Rattle.lrc_wire.specs.Ranges.{HasBits}
use Rattle.lrc_wire.specs.Spelling.{byte, number}
use Rattle.lrc_wire.specs.Reading.{◌>>=◌, Field, byte_at, number_at, tested, elements_at}
use Rattle.lrc_wire.proofs.Bytes.{IsBytes, IsBytes-drop, IsBytes-take, IsBytes-rest, Takes, Takes-then}
use Rattle.lrc_wire.proofs.Steps.{bind_ok, unless_ok, ok_is, tested_ok, tested_again}
use Rattle.lrc_wire.proofs.Along.{Along}

-- what is read is spelled so and fits, and what fits is read again
pub record Agrees {A : Type 0} (reads : List ℕ → Field A) (spelled : A → List ℕ) (P : A → Type 0) : Type 0 where
  pub takes : (bytes : List ℕ) (x : A) (rest : List ℕ) → IsBytes bytes → reads bytes ≡ Ok (x, rest) → Takes bytes (spelled x) rest × P x
  pub again : (x : A) (rest : List ℕ) → P x → reads (spelled x ++ rest) ≡ Ok (x, rest)

-- a step of a reader: what its first field took, and how it goes on
pub record Step {A B : Type 0} (spelled : A → List ℕ) (P : A → Type 0) (bytes : List ℕ) (k : A × List ℕ → Result B WireFault) (y : B) : Type 0 where
  pub value : A
  pub rest : List ℕ
  pub took : Takes bytes (spelled value) rest
  pub fits : P value
  pub then : k (value, rest) ≡ Ok y

pub step : {A B : Type 0} (reads : List ℕ → Field A) (spelled : A → List ℕ) (P : A → Type 0) → Agrees reads spelled P
    → (bytes : List ℕ) (k : A × List ℕ → Result B WireFault) (y : B) → IsBytes bytes → (reads bytes >>= k) ≡ Ok y → Step spelled P bytes k y
step reads spelled P agrees bytes k y fits e =
    let a = bind_ok (reads bytes) k y e in
    let t = agrees.takes bytes a.0.0 a.0.1 fits a.1 in
    record { value = a.0.0; rest = a.0.1; took = t.0; fits = t.1; then = a.2 }

-- the same reader under an equivalent fact
pub Agrees-as : {A : Type 0} (reads : List ℕ → Field A) (spelled : A → List ℕ) (P Q : A → Type 0) → ((x : A) → P x → Q x) → ((x : A) → Q x → P x)
    → Agrees reads spelled P → Agrees reads spelled Q
Agrees-as reads spelled P Q to from agrees = record {
  takes = λ bytes x rest fits e. let t = agrees.takes bytes x rest fits e in (t.0, to x t.1);
  again = λ x rest h. agrees.again x rest (from x h);
}

-- a field with a test
pub Agrees-tested : {A : Type 0} (reads : List ℕ → Field A) (spelled : A → List ℕ) (P : A → Type 0) (test : A → Bool) (fault : WireFault)
    → Agrees reads spelled P
    → Agrees (λ bytes. tested test fault (reads bytes)) spelled (λ x. P x × (test x ≡ true))
Agrees-tested reads spelled P test fault agrees = record {
  takes = λ bytes x rest fits e.
      let t = tested_ok test fault (reads bytes) (x, rest) e in
      let u = agrees.takes bytes x rest fits t.0 in
      (u.0, (u.1, t.1));
  again = λ x rest h. tested_again test fault (reads (spelled x ++ rest)) (x, rest) (agrees.again x rest h.0) h.1;
}

-- ---- numbers

byte_takes : (bytes : List ℕ) (n : ℕ) (rest : List ℕ) → IsBytes bytes → byte_at bytes ≡ Ok (n, rest) → Takes bytes (byte n) rest × HasBits 8 n
unfolding byte_at byte
byte_takes [] n rest fits e = absurd cc
byte_takes (b ∷ bytes) n rest fits e =
    let same : b ≡ n = ap (λ (p : ℕ × List ℕ). p.0) (ok_is (b, bytes) (n, rest) e) in
    let others : bytes ≡ rest = ap (λ (p : ℕ × List ℕ). p.1) (ok_is (b, bytes) (n, rest) e) in
    (record { parts = cc; rest_fits = subst IsBytes others (IsBytes-rest b bytes fits) }, subst (HasBits 8) same (fits 0))

pub byte_agrees : Agrees byte_at byte (HasBits 8)
unfolding byte_at byte
byte_agrees = record { takes = byte_takes; again = λ n rest h. refl }

record IsWide (w : Width) (limit : ℕ) : Type 0 where
  len : (n : ℕ) → length (to_be_bytes w n) ≡ byte_len w
  back : (bytes : List ℕ) → length bytes ≡ byte_len w → IsBytes bytes → to_be_bytes w (from_be_bytes w bytes) ≡ bytes
  again : (n : ℕ) → n < limit → from_be_bytes w (to_be_bytes w n) ≡ n
  below : (bytes : List ℕ) → IsBytes bytes → from_be_bytes w bytes < limit

number_takes : (w : Width) (limit : ℕ) (wide : IsWide w limit) (bytes : List ℕ) (n : ℕ) (rest : List ℕ) → IsBytes bytes → number_at w bytes ≡ Ok (n, rest)
    → Takes bytes (number w n) rest × (n < limit)
unfolding number_at number
number_takes w limit wide bytes n rest fits e =
    let g = unless_ok (ltb (length bytes) (byte_len w)) Short (Ok (from_be_bytes w (take (byte_len w) bytes), drop (byte_len w) bytes)) (n, rest) e in
    let long : byte_len w ≤ length bytes = ltb-false _ _ g.0 in
    let both = ok_is (from_be_bytes w (take (byte_len w) bytes), drop (byte_len w) bytes) (n, rest) g.1 in
    let n-is : from_be_bytes w (take (byte_len w) bytes) ≡ n = ap (λ (p : ℕ × List ℕ). p.0) both in
    let rest-is : drop (byte_len w) bytes ≡ rest = ap (λ (p : ℕ × List ℕ). p.1) both in
    let front : to_be_bytes w n ≡ take (byte_len w) bytes =
    rw (← n-is) (wide.back (take (byte_len w) bytes) (omega (arith, length-take (byte_len w) bytes)) (IsBytes-take (byte_len w) bytes fits)) in (
      record {
        parts = rw (front, ← rest-is) (sym (take-append-drop (byte_len w) bytes));
        rest_fits =
            rw (← rest-is) (IsBytes-drop (byte_len w) bytes fits);
      },
      rw (← n-is) (wide.below (take (byte_len w) bytes) (IsBytes-take (byte_len w) bytes fits)),
    )

number_again : (w : Width) (limit : ℕ) (wide : IsWide w limit) (n : ℕ) (rest : List ℕ) → n < limit → number_at w (number w n ++ rest) ≡ Ok (n, rest)
unfolding number_at number
number_again w limit wide n rest lt =
    let len = wide.len n in
    let long : ltb (length (to_be_bytes w n ++ rest)) (byte_len w) ≡ false = le-ltb _ _ (omega (arith, length-append (to_be_bytes w n) rest)) in
    rw (long, take_at (to_be_bytes w n) rest (byte_len w) len, drop_at (to_be_bytes w n) rest (byte_len w) len, wide.again n lt) refl

number_agrees : (w : Width) (limit : ℕ) → IsWide w limit → Agrees (number_at w) (number w) (λ n. n < limit)
number_agrees w limit wide = record { takes = number_takes w limit wide; again = number_again w limit wide }

pub number16_agrees : Agrees (number_at w16) (number w16) (HasBits 16)
number16_agrees = number_agrees w16 (2 ^ 16) record {
  len = λ n. refl;
  back = λ bytes len fits. be_bytes_2 bytes _ len fits refl;
  again = λ n lt. from_be_bytes-to_be_bytes_2 n lt;
  below = λ bytes fits. omega (arith, fits 0, fits 1);
}

pub number32_agrees : Agrees (number_at w32) (number w32) (HasBits 32)
number32_agrees = number_agrees w32 (2 ^ 32) record {
  len = λ n. refl;
  back = λ bytes len fits. be_bytes_4 bytes _ len fits refl;
  again = λ n lt. from_be_bytes-to_be_bytes_4 n lt;
  below = λ bytes fits. omega (arith, fits 0, fits 1, fits 2, fits 3);
}

pub number64_agrees : Agrees (number_at w64) (number w64) (HasBits 64)
number64_agrees = number_agrees w64 (2 ^ 64) record {
  len = λ n. refl;
  back = λ bytes len fits. be_bytes_8 bytes _ len fits refl;
  again = λ n lt. from_be_bytes-to_be_bytes_8 n lt;
  below = λ bytes fits. omega (arith, fits 0, fits 1, fits 2, fits 3, fits 4, fits 5, fits 6, fits 7);
}

-- ---- elements

module _ {S A : Type 0} (element : S → List ℕ → Field A) (next : S → A → S) (spelled : A → List ℕ) (P : S → A → Type 0) (one : (state : S)
    → Agrees (element state) spelled (P state)) where
  elements_take : (count : ℕ) (state : S) (bytes : List ℕ) (xs : List A) (rest : List ℕ) → IsBytes bytes
      → elements_at element next count state bytes ≡ Ok (xs, rest)
      → Takes bytes (flat_map spelled xs) rest × (length xs ≡ count) × Along P next state xs
  unfolding elements_at
  elements_take zero state bytes xs rest fits e =
      subst (λ (y : List A × List ℕ). Takes bytes (flat_map spelled y.0) y.1 × (length y.0 ≡ 0)
      × Along P next state y.0) (ok_is ([], bytes) (xs, rest) e) (record { parts = refl; rest_fits = fits }, refl, tt)
  elements_take (suc count) state bytes xs rest fits e =
      let a = step (element state) spelled (P state) (one state) bytes
      (λ first. elements_at element next count (next state first.0) first.1 >>= λ others. Ok (first.0 ∷ others.0, others.1)) (xs, rest) fits e in
      let b = bind_ok (elements_at element next count (next state a.value) a.rest) (λ others. Ok (a.value ∷ others.0, others.1)) (xs, rest) a.then in
      let second = elements_take count (next state a.value) a.rest b.0.0 b.0.1 a.took.rest_fits b.1 in
      let both = Takes-then bytes (spelled a.value) a.rest (flat_map spelled b.0.0) b.0.1 a.took second.0 in
      let made : List A × List ℕ = (a.value ∷ b.0.0, b.0.1) in
      subst (λ (y : List A × List ℕ). Takes bytes (flat_map spelled y.0) y.1 × (length y.0 ≡ suc count)
      × Along P next state y.0) (ok_is made (xs, rest) b.2) (rw flat_map-cons both, ap suc second.1, (a.fits, second.2))

  elements_again : (xs : List A) (state : S) (rest : List ℕ) → Along P next state xs
      → elements_at element next (length xs) state (flat_map spelled xs ++ rest) ≡ Ok (xs, rest)
  unfolding elements_at
  elements_again [] state rest h = refl
  elements_again (x ∷ xs) state rest h =
      let regrouped : flat_map spelled (x ∷ xs) ++ rest ≡ spelled x ++ (flat_map spelled xs ++ rest) =
      ap (λ (bytes : List ℕ). bytes ++ rest) (flat_map-cons spelled x xs) ∙ append_assoc (spelled x) (flat_map spelled xs) rest in
      ap (elements_at element next (suc (length xs)) state) regrouped
      ∙ rw ((one state).again x (flat_map spelled xs ++ rest) h.0, elements_again xs (next state x) rest h.1) refl

  pub elements_agree : (count : ℕ) (state : S)
      → Agrees (elements_at element next count state) (flat_map spelled) (λ xs. (length xs ≡ count) × Along P next state xs)
  elements_agree count state = record {
    takes = λ bytes xs rest fits e. let t = elements_take count state bytes xs rest fits e in (t.0, (t.1, t.2));
    again = λ xs rest h. ap (λ (n : ℕ). elements_at element next n state (flat_map spelled xs ++ rest)) (sym h.0) ∙ elements_again xs state rest h.1;
  }
