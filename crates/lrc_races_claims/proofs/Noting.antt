-- The first lines of variables, with one event more.
use Rattle.std.proofs.Common.{◌≡◌, ◌+◌, ℕ, List, [], Bool, true, false, length, inl, inr, refl, sym, subst, ap, ◌∙◌, arith}
use Rattle.std.specs.Prelude.{◌⊎◌, Option, Some, None, slice_get}
use Rattle.std.proofs.lemmas.Bool.{cases_eq, cases_lt}
use Rattle.std.proofs.lemmas.Option.{same_Some}
use Rattle.lrc_races_trace.specs.declared.event.Event.{Event}
use Rattle.lrc_races_trace.specs.declared.event.Operation.{Operation}
use Rattle.lrc_races_trace.specs.declared.event.Operation.TheVariants.{Read, Write}
use Rattle.lrc_races_trace.specs.Trace.{At, Accesses}
use Rattle.lrc_races_trace.proofs.Positions.{At-one}
use Rattle.lrc_races_claims.specs.declared.firsts.FirstLines.{FirstLines}
use Rattle.lrc_races_claims.specs.declared.firsts.Firsts.{Firsts}
use Rattle.lrc_races_claims.specs.Firsts.{line_at, line_of, first_line, IsLineSet, IsAny, IsMarked, IsFirstLine, AreFirsts}

module _ (These : ℕ → Event → Type 0) (n : ℕ) where
  -- the event is none of these
  pub first_same : (old : Option ℕ) → ((e : Event) → These n e → ⊥) → IsFirstLine n These old → IsFirstLine (n + 1) These old
  first_same (Some line) none first = record {
    position = first.position;
    event = first.event;
    before = let lt = first.before in omega arith;
    these = first.these;
    on = first.on;
    first = λ k other lt is.
        elim (cases_eq k n) [
          | inl same ↦ absurd (none other (subst (λ m. These m other) same is))
          | inr apart ↦ first.first k other (omega arith) is
        ];
  }
  first_same None none first = λ k other lt is.
      elim (cases_eq k n) [
        | inl same ↦ none other (subst (λ m. These m other) same is)
        | inr apart ↦ first k other (omega arith) is
      ]

  -- or one of them
  pub first_more : (old : Option ℕ) (e : Event) → These n e → IsFirstLine n These old → IsFirstLine (n + 1) These (first_line old e.line)
  first_more (Some line) e these first = record {
    position = first.position;
    event = first.event;
    before = let lt = first.before in omega arith;
    these = first.these;
    on = first.on;
    first = λ k other lt is.
        elim (cases_eq k n) [
          | inl same ↦ let lt' = first.before in omega arith
          | inr apart ↦ first.first k other (omega arith) is
        ];
  }
  first_more None e these first = record {
    position = n;
    event = e;
    before = omega arith;
    these = these;
    on = refl;
    first = λ k other lt is.
        elim (cases_lt k n) [
          | inl less ↦ absurd (first k other less is)
          | inr more ↦ more
        ];
  }

-- whatever the variable
module _ (These : ℕ → ℕ → Event → Type 0) (n v : ℕ) (event : Event) (own : (w : ℕ) (e : Event) → These w n e → (e ≡ event) × (w ≡ v)) where
  pub lines_more : (before after : FirstLines) → These v n event → IsLineSet before after v (first_line (line_of before v) event.line)
      → ((w : ℕ) → IsFirstLine n (These w) (line_of before w)) → (w : ℕ) → IsFirstLine (n + 1) (These w) (line_of after w)
  lines_more before after these set first w =
      elim (cases_eq w v) [
        | inl same ↦
            subst (λ u. IsFirstLine (n + 1) (These u) (line_of after u)) (sym same)
            (subst (λ (o : Option ℕ). IsFirstLine (n + 1) (These v) o) (sym set.here) (first_more (These v) n (line_of before v) event these (first v)))
        | inr apart ↦
            subst (λ (o : Option ℕ). IsFirstLine (n + 1) (These w) o) (sym (set.others w apart))
            (first_same (These w) n (line_of before w) (λ e is. apart ((own w e is).1)) (first w))
      ]

-- the variable that an event accesses
one_variable : (o : Operation) (v w : ℕ) → (o ≡ Read v) ⊎ (o ≡ Write v) → (o ≡ Read w) ⊎ (o ≡ Write w) → w ≡ v
one_variable o v w (inl e) (inl f) = let g : Read v ≡ Read w = sym e ∙ f in let h : w ≡ v = cc in h
one_variable o v w (inl e) (inr f) = let g : Read v ≡ Write w = sym e ∙ f in let never : ⊥ = cc in absurd never
one_variable o v w (inr e) (inl f) = let g : Write v ≡ Read w = sym e ∙ f in let never : ⊥ = cc in absurd never
one_variable o v w (inr e) (inr f) = let g : Write v ≡ Write w = sym e ∙ f in let h : w ≡ v = cc in h

pub same_variable : (a : Event) (v w : ℕ) → Accesses a v → Accesses a w → w ≡ v
same_variable a v w f g = one_variable a.operation v w f g

module _ (events : List Event) (marks : List Bool) (n : ℕ) (event : Event) (here : At events n event) where
  pub any_noted : (v : ℕ) → Accesses event v → (before after : FirstLines) → IsLineSet before after v (first_line (line_of before v) event.line)
      → ((w : ℕ) → IsFirstLine n (IsAny events marks w) (line_of before w)) → (w : ℕ) → IsFirstLine (n + 1) (IsAny events marks w) (line_of after w)
  any_noted v accesses before after set first =
      lines_more (IsAny events marks) n v event
      (λ w e is.
      let same = At-one is.at here in
      (same, same_variable event v w accesses (subst (λ (x : Event). Accesses x w) same is.accesses)))
      before after (record { at = here; accesses = accesses }) set first

  pub any_passed : ((v : ℕ) → Accesses event v → ⊥) → (lines : FirstLines) → ((w : ℕ) → IsFirstLine n (IsAny events marks w) (line_of lines w))
      → (w : ℕ) → IsFirstLine (n + 1) (IsAny events marks w) (line_of lines w)
  any_passed none lines first w =
      first_same (IsAny events marks w) n (line_of lines w) (λ e is. none w (subst (λ (x : Event). Accesses x w) (At-one is.at here) is.accesses)) (first w)

  pub marked_noted : slice_get marks n ≡ Some true → (v : ℕ) → Accesses event v → (before after : FirstLines)
      → IsLineSet before after v (first_line (line_of before v) event.line)
      → ((w : ℕ) → IsFirstLine n (IsMarked events marks w) (line_of before w)) → (w : ℕ) → IsFirstLine (n + 1) (IsMarked events marks w) (line_of after w)
  marked_noted mark v accesses before after set first =
      lines_more (IsMarked events marks) n v event
      (λ w e is.
      let same = At-one is.at here in
      (same, same_variable event v w accesses (subst (λ (x : Event). Accesses x w) same is.accesses)))
      before after (record { at = here; accesses = accesses; mark = mark }) set first

  pub marked_passed : ((v : ℕ) → Accesses event v → ⊥) → (lines : FirstLines) → ((w : ℕ) → IsFirstLine n (IsMarked events marks w) (line_of lines w))
      → (w : ℕ) → IsFirstLine (n + 1) (IsMarked events marks w) (line_of lines w)
  marked_passed none lines first w =
      first_same (IsMarked events marks w) n (line_of lines w)
      (λ e is. none w (subst (λ (x : Event). Accesses x w) (At-one is.at here) is.accesses)) (first w)

  pub unmarked_passed : (mark : Bool) → slice_get marks n ≡ Some mark → mark ≡ false → (lines : FirstLines)
      → ((w : ℕ) → IsFirstLine n (IsMarked events marks w) (line_of lines w))
      → (w : ℕ) → IsFirstLine (n + 1) (IsMarked events marks w) (line_of lines w)
  unmarked_passed mark is unset lines first w =
      first_same (IsMarked events marks w) n (line_of lines w)
      (λ e marked. let same : mark ≡ true = same_Some mark true (sym is ∙ marked.mark) in let never : ⊥ = cc in never) (first w)

pub firsts_none : (events : List Event) (marks : List Bool) (any marked : FirstLines) → any.lines.items ≡ [] → marked.lines.items ≡ []
    → AreFirsts events marks 0 (record { any = any; marked = marked })
firsts_none events marks any marked e f = record {
  any = λ v. subst (λ (o : Option ℕ). IsFirstLine 0 (IsAny events marks v) o) (sym (no_line any e v)) (λ k other lt is. omega arith);
  marked = λ v. subst (λ (o : Option ℕ). IsFirstLine 0 (IsMarked events marks v) o) (sym (no_line marked f v)) (λ k other lt is. omega arith);
}
  where
    no_line : (lines : FirstLines) → lines.lines.items ≡ [] → (v : ℕ) → line_of lines v ≡ None
    no_line lines e v = ap (λ (l : List (Option ℕ)). line_at (slice_get l v)) e

pub firsts_done : (events : List Event) (marks : List Bool) (n : ℕ) (firsts : Firsts) → n ≡ length events → AreFirsts events marks n firsts
    → AreFirsts events marks (length events) firsts
firsts_done events marks n firsts done are = subst (λ m. AreFirsts events marks m firsts) done are
