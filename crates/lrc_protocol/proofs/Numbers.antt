-- Numbers of messages: to each node they go on one after another.
use Rattle.std.proofs.Common.{◌≡◌, ℕ, zero, suc, ◌+◌, ◌<◌, List, [], ◌∷◌, ◌++◌, Bool, true, false, length, map}
use Rattle.std.proofs.Common.{refl, sym, ap, subst, ◌∙◌, inl, inr, arith, add-zero, zero-add}
use Rattle.std.specs.Prelude.{Option, Some, None, ◌==◌, nat_le, cond, filter, slice_index, slice_set, if◌then◌else◌, option_map}
use Rattle.std.specs.List.{range_with_len}
use Rattle.std.proofs.lemmas.Bool.{cases_eq, eq-eqb, ne_eqb}
use Rattle.std.proofs.lemmas.List.{get_or-set_same, get_or-set_other, length-set}
use Rattle.lrc_envelope.specs.Envelope.{EnvelopeRecord}
use Rattle.lrc_protocol.specs.Times.{MOST_NUMBER}
use Rattle.lrc_protocol.specs.Node.{Letter, envelope_of, numbered}
use Rattle.lrc_protocol.specs.Follows.{numbers_to}

-- to each node, these messages go on from what was sent before, one after another, to what was sent after
pub record GoOn (first : ℕ) (before : List ℕ) (out : List EnvelopeRecord) (after : List ℕ) (to : ℕ) : Type 0 where
  pub more : ℕ
  pub counted : slice_index after to ≡ slice_index before to + more
  pub numbers : numbers_to to out ≡ range_with_len (first + slice_index before to) more

pub record AreNumbered (first : ℕ) (before : List ℕ) (out : List EnvelopeRecord) (after : List ℕ) : Type 0 where
  pub size : length after ≡ length before
  pub each : (to : ℕ) → to < length before → GoOn first before out after to

pub nothing_sent : (first : ℕ) (sent : List ℕ) → AreNumbered first sent [] sent
nothing_sent first sent = record { size = refl; each = λ to lt. record { more = 0; counted = omega arith; numbers = refl } }

-- a range, and the range after it
pub ranges-append : (a m k n : ℕ) → n ≡ m + k → range_with_len a m ++ range_with_len (a + m) k ≡ range_with_len a n
ranges-append a zero k n e =
    ap (λ x. range_with_len x k) (add-zero a) ∙ ap (range_with_len a) (sym (e ∙ zero-add k))
ranges-append a (suc m) k zero e = absurd (omega (arith, e))
ranges-append a (suc m) k (suc n) e =
    ap (λ x. a ∷ (range_with_len (a + 1) m ++ range_with_len x k)) (omega arith)
    ∙ ap (λ xs. a ∷ xs) (ranges-append (a + 1) m k n (omega (arith, e)))

module _ (me first : ℕ) where
  -- to the letter's own receiver one message more goes
  here : (sent : List ℕ) (letter : Letter) (more : List EnvelopeRecord) (after : List ℕ)
      → letter.to < length sent
      → GoOn first (slice_set sent letter.to (slice_index sent letter.to + 1)) more after letter.to
      → GoOn first sent (envelope_of me (first + slice_index sent letter.to) letter ∷ more) after letter.to
  here sent letter more after lt rest =
      let before : ℕ = slice_index sent letter.to in
      let env : EnvelopeRecord = envelope_of me (first + before) letter in
      let same : slice_index (slice_set sent letter.to (before + 1)) letter.to ≡ before + 1 = get_or-set_same sent letter.to (before + 1) 0 lt in
      record {
        more = suc rest.more;
        counted = rest.counted ∙ ap (λ x. x + rest.more) same ∙ omega arith;
        numbers =
            ap (λ b. map (λ (e : EnvelopeRecord). e.number) (cond b (env ∷ filter (λ e. e.to == letter.to) more) (filter (λ e. e.to == letter.to) more)))
            (eq-eqb letter.to letter.to refl)
            ∙ ap (λ ns. (first + before) ∷ ns) (rest.numbers ∙ ap (λ x. range_with_len x rest.more) (ap (λ x. first + x) same ∙ omega arith));
      }

  -- to another node the same go
  there : (sent : List ℕ) (letter : Letter) (more : List EnvelopeRecord) (after : List ℕ) (to : ℕ)
      → (letter.to ≡ to → ⊥)
      → GoOn first (slice_set sent letter.to (slice_index sent letter.to + 1)) more after to
      → GoOn first sent (envelope_of me (first + slice_index sent letter.to) letter ∷ more) after to
  there sent letter more after to ne rest =
      let before : ℕ = slice_index sent letter.to in
      let env : EnvelopeRecord = envelope_of me (first + before) letter in
      let same : slice_index (slice_set sent letter.to (before + 1)) to ≡ slice_index sent to =
      get_or-set_other sent letter.to to (before + 1) 0 (λ e. ne (sym e)) in
      record {
        more = rest.more;
        counted = rest.counted ∙ ap (λ x. x + rest.more) same;
        numbers =
            ap (λ b. map (λ (e : EnvelopeRecord). e.number) (cond b (env ∷ filter (λ e. e.to == to) more) (filter (λ e. e.to == to) more)))
            (ne_eqb letter.to to ne)
            ∙ rest.numbers ∙ ap (λ x. range_with_len (first + x) rest.more) same;
      }

  -- one letter, and those after it
  one_letter : (sent : List ℕ) (letter : Letter) (more : List EnvelopeRecord) (after : List ℕ)
      → AreNumbered first (slice_set sent letter.to (slice_index sent letter.to + 1)) more after
      → AreNumbered first sent (envelope_of me (first + slice_index sent letter.to) letter ∷ more) after
  one_letter sent letter more after a = record {
    size = a.size ∙ length-set sent letter.to (slice_index sent letter.to + 1);
    each = λ to lt.
        let rest : GoOn first (slice_set sent letter.to (slice_index sent letter.to + 1)) more after to =
        a.each to (subst (λ n. to < n) (sym (length-set sent letter.to (slice_index sent letter.to + 1))) lt) in
        elim (cases_eq letter.to to) [
          | inl e ↦ subst (λ t. GoOn first sent (envelope_of me (first + slice_index sent letter.to) letter ∷ more) after t) e
              (here sent letter more after (subst (λ t. t < length sent) (sym e) lt)
              (subst (λ t. GoOn first (slice_set sent letter.to (slice_index sent letter.to + 1)) more after t) (sym e) rest))
          | inr ne ↦ there sent letter more after to ne rest
        ];
  }

  -- what is numbered, if it is
  abbrev pub Numbered : List ℕ → Option (List EnvelopeRecord × List ℕ) → Type 0
  Numbered sent None = Unit {0}
  Numbered sent (Some (out, after)) = AreNumbered first sent out after

  after_one : (sent : List ℕ) (letter : Letter) (o : Option (List EnvelopeRecord × List ℕ))
      → Numbered (slice_set sent letter.to (slice_index sent letter.to + 1)) o
      → Numbered sent (option_map (λ more. (envelope_of me (first + slice_index sent letter.to) letter ∷ more.0, more.1)) o)
  after_one sent letter None h = tt
  after_one sent letter (Some (out, after)) h = one_letter sent letter out after h

  if_room : (sent : List ℕ) (b : Bool) (o : Option (List EnvelopeRecord × List ℕ)) → Numbered sent o → Numbered sent (if b then o else None)
  if_room sent true o h = h
  if_room sent false o h = tt

  pub are_numbered : (sent : List ℕ) (letters : List Letter) → Numbered sent (numbered me first sent letters)
  are_numbered sent [] = nothing_sent first sent
  are_numbered sent (letter ∷ letters) =
      if_room sent (nat_le (first + slice_index sent letter.to) MOST_NUMBER) _
      (after_one sent letter (numbered me first (slice_set sent letter.to (slice_index sent letter.to + 1)) letters)
      (are_numbered (slice_set sent letter.to (slice_index sent letter.to + 1)) letters))
