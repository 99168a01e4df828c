-- Reading elements one after the other, as a loop does.
use Rattle.std.proofs.Common.{◌≡◌, ◌≢◌, ℕ, suc, ◌-◌, ◌+◌, ◌≤◌, ◌<◌, List, [], ◌∷◌, ◌++◌, Ok, Err, refl, sym, ap, ◌∙◌, append_assoc, arith}
use Rattle.std.proofs.lemmas.List.{append-nil}
use Rattle.lrc_wire.specs.declared.fault.WireFault.{WireFault}
use Rattle.lrc_wire.specs.declared.fault.WireFault.TheVariants.{NoMemory}
use Rattle.lrc_wire.specs.Reading.{◌>>=◌, Field, elements_at}

-- what was read before, and what is still read
abbrev pub with_front : {A : Type 0} → List A → Field (List A) → Field (List A)
with_front front read = read >>= λ x. Ok (front ++ x.0, x.1)

regroup : {A : Type 0} (front : List A) (x : A) (read : Field (List A))
    → with_front front (read >>= λ others. Ok (x ∷ others.0, others.1)) ≡ with_front (front ++ x ∷ []) read
regroup {A} front x (Ok others) = ap (λ (xs : List A). Ok (xs, others.1)) (simp append_assoc)
regroup front x (Err fault) = refl

-- nothing was read before
pub with_nothing : {A : Type 0} (read : Field (List A)) → with_front [] read ≡ read
with_nothing (Ok others) = refl
with_nothing (Err fault) = refl

module _ {S A : Type 0} (element : S → List ℕ → Field A) (next : S → A → S) where
  -- one more element was read
  pub goes_on : (front : List A) (count i : ℕ) (state : S) (bytes : List ℕ) (x : A) (after : List ℕ) (total : Field (List A)) → i < count
      → element state bytes ≡ Ok (x, after)
      → with_front front (elements_at element next (count - i) state bytes) ≡ total
      → with_front (front ++ x ∷ []) (elements_at element next (count - (i + 1)) (next state x) after) ≡ total
  unfolding elements_at
  goes_on front count i state bytes x after total lt read so_far =
      let k : count - i ≡ suc (count - (i + 1)) = omega arith in
      let one : with_front front (elements_at element next (count - i) state bytes) ≡ with_front (front
      ++ x ∷ []) (elements_at element next (count - (i + 1)) (next state x) after) =
      rw (k, read) (regroup front x (elements_at element next (count - (i + 1)) (next state x) after)) in
      sym one ∙ so_far

  -- an element has a fault
  pub ends : (fault : WireFault) (front : List A) (count i : ℕ) (state : S) (bytes : List ℕ) (total : Field (List A)) → i < count
      → (fault ≢ NoMemory → element state bytes ≡ Err fault)
      → with_front front (elements_at element next (count - i) state bytes) ≡ total → fault ≢ NoMemory → total ≡ Err fault
  unfolding elements_at
  ends fault front count i state bytes total lt read so_far other =
      let k : count - i ≡ suc (count - (i + 1)) = omega arith in
      let wrong : element state bytes ≡ Err fault = read other in
      let one : with_front front (elements_at element next (count - i) state bytes) ≡ Err fault = rw (k, wrong) refl in
      sym so_far ∙ one

  -- no element is left
  pub is_done : (front : List A) (count i : ℕ) (state : S) (bytes : List ℕ) (total : Field (List A)) → count ≤ i
      → with_front front (elements_at element next (count - i) state bytes) ≡ total → total ≡ Ok (front, bytes)
  unfolding elements_at
  is_done front count i state bytes total le so_far =
      let k : count - i ≡ 0 = omega arith in
      let one : with_front front (elements_at element next (count - i) state bytes) ≡ Ok (front, bytes) =
      rw k (ap (λ (xs : List A). Ok (xs, bytes)) (append-nil front)) in
      sym so_far ∙ one
