-- The first event that is so, one event further.
use Rattle.std.proofs.Common.{◌≡◌, ℕ, ◌+◌, List, inl, inr, refl, sym, subst, ◌∙◌, ap, arith}
use Rattle.std.specs.Prelude.{Option, Some, None}
use Rattle.std.proofs.lemmas.Bool.{cases_eq}
use Rattle.lrc_races_trace.specs.declared.event.Event.{Event}
use Rattle.lrc_races_trace.specs.declared.event.Operation.TheVariants.{Fork, Join}
use Rattle.lrc_races_trace.specs.Trace.{At}
use Rattle.lrc_races_trace.specs.Formed.{IsFirstBefore, Knows}
use Rattle.lrc_races_trace.proofs.Positions.{At-one}
use Rattle.lrc_races_detector.specs.declared.threads.Lines.{Lines}
use Rattle.lrc_races_detector.specs.Threads.{line_of, first_line, IsFirstLine, IsLineSet, Joins, AreJoined, AreKnown}

module _ (events : List Event) (n : ℕ) (b : Event) (here : At events n b) (These : Event → Type 0) where
  later : (a : Event) → IsFirstBefore events n These a → IsFirstBefore events (n + 1) These a
  later a old =
      let lt = old.before in
      record {
        position = old.position;
        before = omega arith;
        at = old.at;
        is = old.is;
        first = λ k other below at these.
            elim (cases_eq k n) [
              | inl same ↦ omega arith
              | inr before ↦ old.first k other (omega arith) at these
            ];
      }

  pub first_kept : (o : Option ℕ) → (These b → ⊥) → IsFirstLine events n These o → IsFirstLine events (n + 1) These o
  first_kept (Some line) fails (a, old, is) = (a, later a old, is)
  first_kept None fails old = λ k a below at these.
      elim (cases_eq k n) [
        | inl same ↦ fails (subst These (At-one (subst (λ m. At events m a) same at) here) these)
        | inr before ↦ old k a (omega arith) at these
      ]

  pub first_noted : (o : Option ℕ) → These b → IsFirstLine events n These o → IsFirstLine events (n + 1) These (first_line o b.line)
  first_noted (Some line) holds (a, old, is) = (a, later a old, is)
  first_noted None holds old = (
    b,
    record {
      position = n;
      before = omega arith;
      at = here;
      is = holds;
      first = λ k other below at these.
          elim (cases_eq k n) [
            | inl same ↦ omega arith
            | inr before ↦ absurd (old k other (omega arith) at these)
          ];
    },
    refl,
  )

first_twice : (o : Option ℕ) (line : ℕ) → first_line (first_line o line) line ≡ first_line o line
first_twice (Some first) line = refl
first_twice None line = refl

module _ (events : List Event) (n : ℕ) (b : Event) (here : At events n b) where
  pub joined_kept : (lines : Lines) → ((u : ℕ) → b.operation ≡ Join u → ⊥) → AreJoined events n lines → AreJoined events (n + 1) lines
  joined_kept lines none old u = first_kept events n b here (Joins u) (line_of lines u) (none u) (old u)

  pub joined_noted : (w : ℕ) → b.operation ≡ Join w → (lines after : Lines) → IsLineSet lines after w (first_line (line_of lines w) b.line)
      → AreJoined events n lines → AreJoined events (n + 1) after
  joined_noted w op lines after set old u =
      elim (cases_eq u w) [
        | inl same ↦
            subst (λ x. IsFirstLine events (n + 1) (Joins x) (line_of after x)) (sym same)
            (subst (IsFirstLine events (n + 1) (Joins w)) (sym set.here) (first_noted events n b here (Joins w) (line_of lines w) op (old w)))
        | inr other ↦
            subst (IsFirstLine events (n + 1) (Joins u)) (sym (set.others u other))
            (first_kept events n b here (Joins u) (line_of lines u) (λ e. let same : u ≡ w = cc in other same) (old u))
      ]

  known_here : (u : ℕ) (o x : Option ℕ) → Knows u b → x ≡ first_line o b.line → IsFirstLine events n (Knows u) o → IsFirstLine events (n + 1) (Knows u) x
  known_here u o x knows is old = subst (IsFirstLine events (n + 1) (Knows u)) (sym is) (first_noted events n b here (Knows u) o knows old)

  known_kept : (u : ℕ) (o x : Option ℕ) → (Knows u b → ⊥) → x ≡ o → IsFirstLine events n (Knows u) o → IsFirstLine events (n + 1) (Knows u) x
  known_kept u o x fails is old = subst (IsFirstLine events (n + 1) (Knows u)) (sym is) (first_kept events n b here (Knows u) o fails old)

  module _ (lines own : Lines) (set : IsLineSet lines own b.thread (first_line (line_of lines b.thread) b.line)) (old : AreKnown events n lines) where
    own_here : (u : ℕ) → u ≡ b.thread → line_of own u ≡ first_line (line_of lines u) b.line
    own_here u same = subst (λ x. line_of own x ≡ first_line (line_of lines x) b.line) (sym same) set.here

    pub known_own : ((u : ℕ) → b.operation ≡ Fork u → ⊥) → AreKnown events (n + 1) own
    known_own none u =
        elim (cases_eq u b.thread) [
          | inl same ↦ known_here u (line_of lines u) (line_of own u) (inl (sym same)) (own_here u same) (old u)
          | inr other ↦
              known_kept u (line_of lines u) (line_of own u) (λ knows. elim knows [ inl same ↦ other (sym same) | inr forks ↦ none u forks ]) (set.others u other) (old u)
        ]

    pub known_forked : (w : ℕ) → b.operation ≡ Fork w → (after : Lines) → IsLineSet own after w (first_line (line_of own w) b.line) → AreKnown events (n + 1) after
    known_forked w op after forked u =
        elim (cases_eq u w) [
          | inl at ↦
              let now : line_of after u ≡ first_line (line_of own u) b.line =
              subst (λ x. line_of after x ≡ first_line (line_of own x) b.line) (sym at) forked.here in
              let knows : Knows u b = inr (subst (λ x. b.operation ≡ Fork x) (sym at) op) in
              elim (cases_eq u b.thread) [
                | inl same ↦
                    known_here u (line_of lines u) (line_of after u) knows
                    (now ∙ ap (λ o. first_line o b.line) (own_here u same) ∙ first_twice (line_of lines u) b.line) (old u)
                | inr other ↦
                    known_here u (line_of lines u) (line_of after u) knows (now ∙ ap (λ o. first_line o b.line) (set.others u other)) (old u)
              ]
          | inr apart ↦
              elim (cases_eq u b.thread) [
                | inl same ↦ known_here u (line_of lines u) (line_of after u) (inl (sym same)) (forked.others u apart ∙ own_here u same) (old u)
                | inr other ↦
                    known_kept u (line_of lines u) (line_of after u)
                    (λ knows. elim knows [ inl same ↦ other (sym same) | inr forks ↦ let same : u ≡ w = cc in apart same ])
                    (forked.others u apart ∙ set.others u other) (old u)
              ]
        ]
