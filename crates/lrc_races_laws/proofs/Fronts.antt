-- Where whole lines are good, no front of them is bad.
use Rattle.std.proofs.Common.{◌≡◌, ℕ, ◌<◌, ◌≤◌, List, [], ◌∷◌, ◌++◌, length, inl, inr, sym, subst, refl, ◌∙◌, ap, arith, append_assoc}
use Rattle.std.proofs.Common.{append-nil}
use Rattle.std.specs.Prelude.{flat_map}
use Rattle.lrc_races_text.specs.declared.asked.Asked.{Asked}
use Rattle.lrc_races_text.specs.declared.form.Form.{Form}
use Rattle.lrc_races_text.specs.declared.form.Form.TheVariants.{Std, Acts}
use Rattle.lrc_races_text.specs.Says.{Said, Say, no_line, blank_line, event_line, SaysNothing}
use Rattle.lrc_races_text.specs.Told.{IsCut, AreLines, ended, IsBadEvent, IsBadTrace, IsOneLine}
use Rattle.lrc_races_lines.specs.Line.{empty, unreturned}
use Rattle.lrc_races_laws.proofs.Cuts.{front_lines, one_cut, line_at_most}
use Rattle.lrc_races_laws.proofs.Sayings.{one_say}
use Rattle.lrc_races_laws.proofs.TracesTold.{no_bad}

-- an empty line says nothing
pub empty_line : (form : Form) → SaysNothing form []
empty_line Std = record { body = []; of = unreturned (λ body e. never body e); short = omega arith; blank = empty }
  where
    never : (body : List ℕ) → [] ≡ body ++ 13 ∷ [] → ⊥
    never [] e = cc
    never (x ∷ body) e = cc
empty_line Acts = record { short = omega arith; wordless = refl }

pub say_both : {form : Form} (lines : List (List ℕ)) {number : ℕ} {said : List Said} → Say form number lines said → Say form number (lines ++ [] ∷ []) said
say_both {form} [] no_line = blank_line (empty_line form) no_line
say_both (line ∷ lines) (blank_line h rest) = blank_line h (say_both lines rest)
say_both (line ∷ lines) (event_line h rest) = event_line h (say_both lines rest)

-- a line that is said is no longer than a line may be
said_short : (form : Form) (line : List ℕ) {number : ℕ} {lines : List (List ℕ)} {said : List Said} → Say form number (line ∷ lines) said
    → length line ≤ 4096
said_short Std line (blank_line h rest) = h.short
said_short Std line (event_line h rest) = h.short
said_short Acts line (blank_line h rest) = h.short
said_short Acts line (event_line h rest) = h.short

-- the first of the lines behind others
behind_say : (form : Form) (before : List (List ℕ)) (line : List ℕ) (after : List (List ℕ)) {number : ℕ} {said : List Said}
    → Say form number (before ++ line ∷ after) said → length line ≤ 4096
behind_say form [] line after says = said_short form line says
behind_say form (x ∷ before) line after (blank_line h rest) = behind_say form before line after rest
behind_say form (x ∷ before) line after (event_line h rest) = behind_say form before line after rest

-- these bytes are these whole lines, which say this
pub record IsGood (form : Form) (bytes : List ℕ) (lines : List (List ℕ)) (said : List Said) : Type 0 where
  pub whole : bytes ≡ flat_map ended lines
  pub each : AreLines lines
  pub says : Say form 1 lines said

module _ (form : Form) (bytes : List ℕ) (lines : List (List ℕ)) (said : List Said) (good : IsGood form bytes lines said) where
  pub cut : IsCut bytes lines []
  cut = record { whole = good.whole ∙ sym (append-nil (flat_map ended lines)); each = good.each; last = tt }

  pub said_alone : (parts : List (List ℕ)) (rest : List ℕ) (others : List Said) → IsCut bytes parts rest
      → (Say form 1 parts others → others ≡ said) × (others ≡ said → Say form 1 parts others)
  said_alone parts rest others c =
      let (same, none) = one_cut cut c in
      let says = subst (λ ls. Say form 1 ls said) same good.says in
      (λ h. one_say h says, λ e. subst (λ s. Say form 1 parts s) (sym e) says)

  pub ends_said : (parts : List (List ℕ)) (rest : List ℕ) (others : List Said) → IsCut bytes parts rest → Say form 1 (parts ++ rest ∷ []) others
      → others ≡ said
  ends_said parts rest others c h =
      let (same, none) = one_cut cut c in
      one_say (subst (λ ls. Say form 1 ls others) (ap (λ r. parts ++ r ∷ []) (sym none) ∙ ap (λ ls. ls ++ [] ∷ []) (sym same)) h)
      (say_both lines good.says)

  not_long : (behind : List (List ℕ)) (rest more : List ℕ) → IsOneLine rest → rest ++ more ≡ flat_map ended behind
      → (before : List (List ℕ)) → lines ≡ before ++ behind → 4096 < length rest → ⊥
  not_long [] [] more one e before whole long = absurd (omega arith)
  not_long [] (x ∷ rest) more one e before whole long = let never : ⊥ = cc in absurd never
  not_long (line ∷ behind) rest more one e before whole long =
      let le = line_at_most line rest more (flat_map ended behind) one (e ∙ append_assoc line (10 ∷ []) (flat_map ended behind)) in
      let short = behind_say form before line behind (subst (λ ls. Say form 1 ls said) whole good.says) in
      omega arith

  pub front_good : (front more : List ℕ) (asked : Asked) (line : ℕ) (told : List ℕ) → bytes ≡ front ++ more → IsBadEvent form asked front line told → ⊥
  front_good front more asked line told e bad =
      let c = bad.cut in
      let parted : flat_map ended bad.lines ++ (bad.rest ++ more) ≡ flat_map ended lines =
      sym (append_assoc (flat_map ended bad.lines) bad.rest more) ∙ ap (λ b. b ++ more) (sym c.whole) ∙ sym e ∙ good.whole in
      let (behind, are, is) = front_lines bad.lines lines (bad.rest ++ more) c.each good.each parted in
      elim bad.first [
        | inl first ↦
            let whole : lines ≡ first.before ++ first.line ∷ (first.after ++ behind) =
            are ∙ ap (λ ls. ls ++ behind) first.whole ∙ append_assoc first.before (first.line ∷ first.after) behind in
            no_bad first.before first.line (first.after ++ behind) (subst (λ ls. Say form 1 ls said) whole good.says) first.bad
        | inr (says, counted, long) ↦ not_long behind bad.rest more c.last is bad.lines are long
      ]

  pub whole_good : (asked : Asked) (line : ℕ) (told : List ℕ) → IsBadTrace form asked bytes line told → ⊥
  whole_good asked line told bad =
      let (same, none) = one_cut cut bad.cut in
      let first = bad.first in
      let all : lines ++ [] ∷ [] ≡ first.before ++ first.line ∷ first.after =
      ap (λ ls. ls ++ [] ∷ []) same ∙ ap (λ r. bad.lines ++ r ∷ []) none ∙ first.whole in
      no_bad first.before first.line first.after (subst (λ ls. Say form 1 ls said) all (say_both lines good.says)) first.bad
