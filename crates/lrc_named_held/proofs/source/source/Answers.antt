-- One token more.
use Rattle.std.proofs.Common.{◌≡◌, ◌∙◌, ◌+◌, ◌-◌, ◌≤◌, ◌++◌, ℕ, zero, suc, inl, inr, List, ap, sym, append_assoc, append-nil, arith}
use Rattle.std.specs.List.{flat_map, range_with_len}
use Rattle.std.proofs.lemmas.Bool.{cases_lt}
use Rattle.lrc_named_held.specs.Source.{bytes_from, spelled, with_gap}
use Rattle.lrc_named_held.proofs.source.source.Goals as goal

behind : (g : ℕ → List ℕ) (a n j : ℕ) → a + n ≡ j → flat_map g (range_with_len a (suc n)) ≡ flat_map g (range_with_len a n) ++ g j
behind g a zero j e = let same : a ≡ j = omega arith in append-nil (g a) ∙ ap g same
behind g a (suc n) j e = ap (λ l. g a ++ l) (behind g (a + 1) n j (omega arith)) ∙ sym (append_assoc (g a) (flat_map g (range_with_len (a + 1) n)) (g j))

one_more : (g : ℕ → List ℕ) (first token : ℕ) (old new : List ℕ) → first ≤ token → old ≡ flat_map g (range_with_len first (token - first))
    → new ≡ old ++ g token → new ≡ flat_map g (range_with_len first (token + 1 - first))
one_more g first token old new le before grown =
    let long : token + 1 - first ≡ suc (token - first) = omega arith in
    grown ∙ ap (λ l. l ++ g token) before ∙ sym (behind g first (token - first) token (omega arith)) ∙ ap (λ n. flat_map g (range_with_len first n)) (sym long)

-- at the end of the loop
at_end : (first token last : ℕ) → (last ≤ first → token ≡ first) → (first ≤ last → token ≤ last) → last ≤ token → token - first ≡ last - first
at_end first token last none within past =
    elim (cases_lt first last) [
      | inl some ↦ let le : first ≤ last = omega arith in let in_it = within le in omega arith
      | inr other ↦ let same = none other in omega arith
    ]

pub loop-token-preserved : goal.loop-token-preserved
loop-token-preserved c =
    let text = c.args.text.now in
    let offsets = c.args.offsets.now in
    let out = c.loop-token.out.items in
    record {
      passed = one_more (λ token. with_gap (bytes_from text offsets token)) c.args.first c.loop-token.token out _ (omega arith) c.loop-token.invariant.passed
          (c.in_ok-push_token.ensures ∙ ap (λ bytes. out ++ with_gap bytes) c.bytes_from.ensures);
      none = λ past. let on = c.loop-token-test.true in absurd (omega arith);
    }

pub returns : goal.returns
returns c =
    let text = c.args.text.now in
    let offsets = c.args.offsets.now in
    let out = c.loop-token.out.items in
    let end = at_end c.args.first c.loop-token.token c.args.last c.loop-token.invariant.none c.loop-token.auto.token-end c.loop-token-test.false in
    c.in_ok-extend_from_slice.ensures.items
    ∙ ap (λ l. l ++ c.spelled.result.now) (c.loop-token.invariant.passed ∙ ap (λ n. flat_map (λ token. with_gap (bytes_from text offsets token)) (range_with_len c.args.first n)) end)
    ∙ ap (λ l. flat_map (λ token. with_gap (bytes_from text offsets token)) (range_with_len c.args.first (c.args.last - c.args.first)) ++ l) (c.spelled.ensures ∙ ap spelled c.bytes_from-2.ensures)
