-- One field behind another: where the reader of each agrees with how it is spelled, so does the reader of all of them.
use Rattle.std.proofs.Common.{◌≡◌, ◌∙◌, ℕ, List, ◌++◌, length, Ok, refl, sym, ap, subst, append_assoc}
use Rattle.lrc_wire.specs.Reading.{◌>>=◌, Field}
use Rattle.lrc_wire.proofs.Bytes.{IsBytes, Takes, Takes-then}
use Rattle.lrc_wire.proofs.Steps.{ok_is}
use Rattle.lrc_wire.proofs.Agrees.{Agrees, step}

-- ---- the fields of a record

-- what is read is made of fields that are spelled so and fit, and fields that fit are read again
pub record AgreesBy {R M : Type 0} (make : R → M) (reads : List ℕ → Field M) (spelled : R → List ℕ) (P : R → Type 0) : Type 0 where
  pub takes : (bytes : List ℕ) (m : M) (rest : List ℕ) → IsBytes bytes → reads bytes ≡ Ok (m, rest)
      → (r : R) × (make r ≡ m) × Takes bytes (spelled r) rest × P r
  pub again : (r : R) (rest : List ℕ) → P r → reads (spelled r ++ rest) ≡ Ok (make r, rest)

-- the last field
pub last_field : {A M : Type 0} {reads : List ℕ → Field A} {spelled : A → List ℕ} {P : A → Type 0} (make : A → M) → Agrees reads spelled P
    → AgreesBy make (λ bytes. reads bytes >>= λ x. Ok (make x.0, x.1)) spelled P
last_field {A} {M} {reads} {spelled} {P} make agrees = record {
  takes = λ bytes m rest fits e.
      let a = step reads spelled P agrees bytes (λ x. Ok (make x.0, x.1)) (m, rest) fits e in
      let same = ok_is (make a.value, a.rest) (m, rest) a.then in
      (a.value, ap (λ y. y.0) same, subst (λ rest. Takes bytes (spelled a.value) rest) (ap (λ y. y.1) same) a.took, a.fits);
  again = λ x rest h. let read = agrees.again x rest h in rw read refl;
}

-- a field, and those behind it
pub then_fields : {A R M : Type 0} {make : A → R → M} {reads : List ℕ → Field A} {others : A → List ℕ → Field M}
    {spelled : A → List ℕ} {text : R → List ℕ} {P : A → Type 0} {Q : (a : A) → P a → R → Type 0}
    → Agrees reads spelled P → ((a : A) (p : P a) → AgreesBy (make a) (others a) text (Q a p))
    → AgreesBy (λ (r : A × R). make r.0 r.1) (λ bytes. reads bytes >>= λ x. others x.0 x.1) (λ (r : A × R). spelled r.0 ++ text r.1)
    (λ (r : A × R). (p : P r.0) × Q r.0 p r.1)
then_fields {make = make} {reads = reads} {others = others} {spelled = spelled} {text = text} {P = P} agrees more = record {
  takes = λ bytes m rest fits e.
      let a = step reads spelled P agrees bytes (λ x. others x.0 x.1) (m, rest) fits e in
      let b = (more a.value a.fits).takes a.rest m rest a.took.rest_fits a.then in
      ((a.value, b.0), b.1, Takes-then bytes (spelled a.value) a.rest (text b.0) rest a.took b.2, (a.fits, b.3));
  again = λ r rest h.
      let regrouped = append_assoc (spelled r.0) (text r.1) rest in
      let first = agrees.again r.0 (text r.1 ++ rest) h.0 in
      let others = (more r.0 h.0).again r.1 rest h.1 in
      rw (regrouped, first, others) refl;
}

-- the record, which is what its fields are
pub whole : {R M : Type 0} {make : R → M} {reads : List ℕ → Field M} {spelled : R → List ℕ} {P : R → Type 0} (fields : M → R)
    → ((r : R) → P r → fields (make r) ≡ r) → ((m : M) → make (fields m) ≡ m) → AgreesBy make reads spelled P
    → Agrees reads (λ m. spelled (fields m)) (λ m. P (fields m))
whole {spelled = spelled} {P = P} fields unmade made by = record {
  takes = λ bytes m rest fits e.
      let t = by.takes bytes m rest fits e in
      let same = sym (unmade t.0 t.3) ∙ ap fields t.1 in
      (subst (λ r. Takes bytes (spelled r) rest) same t.2, subst P same t.3);
  again = λ m rest h. by.again (fields m) rest h ∙ ap (λ x. Ok (x, rest)) (made m);
}

-- ---- a count, and as many elements

pub Agrees-counted : {A : Type 0} {reads : List ℕ → Field ℕ} {elements : ℕ → List ℕ → Field (List A)} {spelled : ℕ → List ℕ} {text : List A → List ℕ}
    {P : ℕ → Type 0} {Q : List A → Type 0}
    → Agrees reads spelled P → ((n : ℕ) → P n → Agrees (elements n) text (λ xs. (length xs ≡ n) × Q xs))
    → Agrees (λ bytes. reads bytes >>= λ count. elements count.0 count.1) (λ xs. spelled (length xs) ++ text xs) (λ xs. P (length xs) × Q xs)
Agrees-counted {reads = reads} {elements = elements} {spelled = spelled} {text = text} {P = P} agrees more = record {
  takes = λ bytes xs rest fits e.
      let a = step reads spelled P agrees bytes (λ count. elements count.0 count.1) (xs, rest) fits e in
      let b = (more a.value a.fits).takes a.rest xs rest a.took.rest_fits a.then in
      let both = Takes-then bytes (spelled a.value) a.rest (text xs) rest a.took b.0 in
      (subst (λ n. Takes bytes (spelled n ++ text xs) rest) (sym b.1.0) both, (subst P (sym b.1.0) a.fits, b.1.1));
  again = λ xs rest h.
      let regrouped = append_assoc (spelled (length xs)) (text xs) rest in
      let first = agrees.again (length xs) (text xs ++ rest) h.0 in
      let others = (more (length xs) h.0).again xs rest (refl, h.1) in
      rw (regrouped, first, others) refl;
}
