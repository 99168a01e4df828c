-- Of bytes one text is told.
use Rattle.std.proofs.Common.{◌≡◌, ℕ, ◌+◌, ◌<◌, ◌≤◌, ◌⊎◌, ◌==◌, cond, List, [], ◌∷◌, ◌++◌, length, inl, inr, sym, subst, refl, ◌∙◌, ap, ap₂}
use Rattle.std.proofs.Common.{arith}
use Rattle.std.specs.Prelude.{Option}
use Rattle.lrc_races_trace.specs.declared.event.Event.{Event}
use Rattle.lrc_races_trace.specs.declared.event.Pair.{Pair}
use Rattle.lrc_races_trace.specs.declared.fault.Fault.{Fault as IllFormed}
use Rattle.lrc_races_trace.specs.declared.group.Group.{Group}
use Rattle.lrc_races_trace.specs.Formed.{IsFirstFault}
use Rattle.lrc_races_trace.specs.Groups.{AreGroups}
use Rattle.lrc_races_text.specs.declared.asked.Asked.{Asked}
use Rattle.lrc_races_text.specs.declared.form.Form.{Form}
use Rattle.lrc_races_text.specs.Sought.{AreSought}
use Rattle.lrc_races_text.specs.Naming.{Naming}
use Rattle.lrc_races_text.specs.Says.{Said, Say, blank_line, event_line, IsBad, IsFirstBad}
use Rattle.lrc_races_text.specs.Layouts.{end_lines, pair_lines}
use Rattle.lrc_races_text.specs.Told.{IsToldOf, IsWholeOf, Tells, IsBadEvent, Ends, IsBadTrace}
use Rattle.lrc_races_laws.proofs.Cuts.{one_cut}
use Rattle.lrc_races_laws.proofs.Sayings.{one_say}
use Rattle.lrc_races_laws.proofs.Namings.{one_trace}
use Rattle.lrc_races_laws.proofs.Pairs.{one_sought}
use Rattle.lrc_races_laws.proofs.Groupings.{one_grouping}
use Rattle.lrc_races_laws.proofs.Faults.{one_fault}

-- ---- the first bad line

pub no_bad : {form : Form} (before : List (List ℕ)) (line : List ℕ) (after : List (List ℕ)) {number : ℕ} {said : List Said}
    → Say form number (before ++ line ∷ after) said → IsBad form line → ⊥
no_bad [] line after (blank_line h rest) bad = bad.0 h
no_bad [] line after (event_line {saying = saying} h rest) bad = bad.1 saying h
no_bad (x ∷ before) line after (blank_line h rest) bad = no_bad before line after rest bad
no_bad (x ∷ before) line after (event_line h rest) bad = no_bad before line after rest bad

others_say : {form : Form} {number : ℕ} {line : List ℕ} {lines : List (List ℕ)} {said : List Said} → Say form number (line ∷ lines) said
    → (rest : List Said) × Say form (number + 1) lines rest
others_say (blank_line h rest) = (_, rest)
others_say (event_line h rest) = (_, rest)

same_front : (form : Form) (number : ℕ) (before befores : List (List ℕ)) (line other : List ℕ) (after afters : List (List ℕ)) {said also : List Said}
    → before ++ line ∷ after ≡ befores ++ other ∷ afters → Say form number before said → Say form number befores also
    → IsBad form line → IsBad form other → before ≡ befores
same_front form number [] [] line other after afters e n m bad worse = refl
same_front form number [] (first ∷ befores) line other after afters {also = also} e n m bad worse =
    let same : first ≡ line = cc in
    absurd (no_bad [] line befores (subst (λ (l : List ℕ). Say form number (l ∷ befores) also) same m) bad)
same_front form number (first ∷ before) [] line other after afters {said = said} e n m bad worse =
    let same : first ≡ other = cc in
    absurd (no_bad [] other before (subst (λ (l : List ℕ). Say form number (l ∷ before) said) same n) worse)
same_front form number (first ∷ before) (second ∷ befores) line other after afters e n m bad worse =
    let heads : first ≡ second = cc in
    let rest : before ++ line ∷ after ≡ befores ++ other ∷ afters = cc in
    ap₂ (λ (l : List ℕ) (ls : List (List ℕ)). l ∷ ls) heads
    (same_front form (number + 1) before befores line other after afters rest (others_say n).1 (others_say m).1 bad worse)

one_first_bad : {form : Form} {lines : List (List ℕ)} {number other : ℕ} {said also : List Said} → IsFirstBad form lines number said
    → IsFirstBad form lines other also → (number ≡ other) × (said ≡ also)
one_first_bad {form} {said = said} {also = also} a b =
    let same = same_front form 1 a.before b.before a.line b.line a.after b.after (sym a.whole ∙ b.whole) a.good b.good a.bad b.bad in (
      a.counted ∙ ap (λ ls. length ls + 1) same ∙ sym b.counted,
      one_say a.good (subst (λ ls. Say form 1 ls also) (sym same) b.good),
    )

not_bad_too : {form : Form} {lines : List (List ℕ)} {number : ℕ} {said also : List Said} → IsFirstBad form lines number said → Say form 1 lines also → ⊥
not_bad_too {form} {also = also} a says = no_bad a.before a.line a.after (subst (λ ls. Say form 1 ls also) a.whole says) a.bad

-- ---- what is told of what is said

told_one : {form : Form} {asked : Asked} {said : List Said} {one other : List ℕ} → IsToldOf form asked said one → IsToldOf form asked said other
    → one ≡ other
told_one {form} {asked} {said} a b =
    let (names, events) = one_trace said a.naming b.naming a.events b.events a.trace b.trace in
    let pairs = one_sought asked.sought b.events a.pairs b.pairs (subst (λ es. AreSought asked.sought es a.pairs) events a.are_told) b.are_told in
    a.text ∙ ap₂ (λ (n : Naming) (ps : List Pair). cond asked.group [] (pair_lines asked.layout form n ps)) names pairs ∙ sym b.text

whole_one : {form : Form} {asked : Asked} {said : List Said} {one other : List ℕ} {status code : ℕ} → IsWholeOf form asked said status one
    → IsWholeOf form asked said code other → (one ≡ other) × (status ≡ code)
whole_one {form} {asked} {said} a b =
    let (names, events) = one_trace said a.naming b.naming a.events b.events a.trace b.trace in
    let pairs = one_sought asked.sought b.events a.pairs b.pairs (subst (λ es. AreSought asked.sought es a.pairs) events a.are_told) b.are_told in
    let groups = one_grouping (cond asked.group b.pairs []) a.groups b.groups
    (subst (λ ps. AreGroups (cond asked.group ps []) a.groups) pairs a.are_groups) b.are_groups in
    let fault = one_fault b.events (length b.events) a.fault b.fault
    (subst (λ es. IsFirstFault es (length es) a.fault) events a.first_fault) b.first_fault in
    let text : Naming → List Pair → List Group → Option IllFormed → List Event → List ℕ =
    λ n ps gs f es. cond asked.group [] (pair_lines asked.layout form n ps) ++ end_lines asked.layout form n gs f (length ps) (length es) in (
      a.text
          ∙ ap₂ (λ n ps. text n ps a.groups a.fault a.events) names pairs
          ∙ ap₂ (λ gs f. text b.naming b.pairs gs f a.events) groups fault
          ∙ ap (λ es. text b.naming b.pairs b.groups b.fault es) events
          ∙ sym b.text,
      a.answer ∙ ap (λ (ps : List Pair). cond (length ps == 0) 0 3) pairs ∙ sym b.answer,
    )

-- ---- what is told of bytes

module _ (form : Form) (asked : Asked) (bytes one other : List ℕ) where
  pub so_far : Tells form asked bytes one → Tells form asked bytes other → one ≡ other
  so_far a b =
      let (lines, rest) = one_cut a.cut b.cut in
      let said = one_say (subst (λ ls. Say form 1 ls a.said) lines a.says) b.says in
      told_one (subst (λ s. IsToldOf form asked s one) said a.tells) b.tells

  pub whole : (status code : ℕ) → Ends form asked bytes status one → Ends form asked bytes code other → (one ≡ other) × (status ≡ code)
  whole status code a b =
      let (lines, rest) = one_cut a.cut b.cut in
      let all = ap₂ (λ (ls : List (List ℕ)) (r : List ℕ). ls ++ r ∷ []) lines rest in
      let said = one_say (subst (λ ls. Say form 1 ls a.said) all a.says) b.says in
      whole_one (subst (λ s. IsWholeOf form asked s status one) said a.tells) b.tells

  one_stop : (lines : List (List ℕ)) (rest : List ℕ) (line number : ℕ) (said also : List Said)
      → IsFirstBad form lines line said ⊎ (Say form 1 lines said × (line ≡ length lines + 1) × (4096 < length rest))
      → IsFirstBad form lines number also ⊎ (Say form 1 lines also × (number ≡ length lines + 1) × (4096 < length rest))
      → (line ≡ number) × (said ≡ also)
  one_stop lines rest line number said also (inl a) (inl b) = one_first_bad a b
  one_stop lines rest line number said also (inl a) (inr (says, e, long)) = absurd (not_bad_too a says)
  one_stop lines rest line number said also (inr (says, e, long)) (inl b) = absurd (not_bad_too b says)
  one_stop lines rest line number said also (inr (says, e, long)) (inr (others, f, too)) = (e ∙ sym f, one_say says others)

  pub stopped : (line number : ℕ) → IsBadEvent form asked bytes line one → IsBadEvent form asked bytes number other
      → (one ≡ other) × (line ≡ number)
  stopped line number a b =
      let (lines, rest) = one_cut a.cut b.cut in
      let first = subst (λ r. IsFirstBad form b.lines line a.said ⊎ (Say form 1 b.lines a.said × (line ≡ length b.lines + 1) × (4096 < length r))) rest
      (subst (λ ls. IsFirstBad form ls line a.said ⊎ (Say form 1 ls a.said × (line ≡ length ls + 1) × (4096 < length a.rest))) lines a.first) in
      let (numbers, said) = one_stop b.lines b.rest line number a.said b.said first b.first in
      (told_one (subst (λ s. IsToldOf form asked s one) said a.tells) b.tells, numbers)

  pub failed : (line number : ℕ) → IsBadTrace form asked bytes line one → IsBadTrace form asked bytes number other
      → (one ≡ other) × (line ≡ number)
  failed line number a b =
      let (lines, rest) = one_cut a.cut b.cut in
      let all = ap₂ (λ (ls : List (List ℕ)) (r : List ℕ). ls ++ r ∷ []) lines rest in
      let (numbers, said) = one_first_bad (subst (λ ls. IsFirstBad form ls line a.said) all a.first) b.first in
      (told_one (subst (λ s. IsToldOf form asked s one) said a.tells) b.tells, numbers)

  stop_not : (lines : List (List ℕ)) (rest : List ℕ) (line : ℕ) (said also : List Said) → Say form 1 lines said → length rest ≤ 4096
      → IsFirstBad form lines line also ⊎ (Say form 1 lines also × (line ≡ length lines + 1) × (4096 < length rest)) → ⊥
  stop_not lines rest line said also says short (inl bad) = not_bad_too bad says
  stop_not lines rest line said also says short (inr (others, e, long)) = omega arith

  pub not_stopped : (line : ℕ) → Tells form asked bytes one → IsBadEvent form asked bytes line other → ⊥
  not_stopped line a b =
      let (lines, rest) = one_cut a.cut b.cut in
      let short : length b.rest ≤ 4096 = subst (λ r. length r ≤ 4096) rest a.short in
      stop_not b.lines b.rest line a.said b.said (subst (λ ls. Say form 1 ls a.said) lines a.says) short b.first

  pub not_failed : (status line : ℕ) → Ends form asked bytes status one → IsBadTrace form asked bytes line other → ⊥
  not_failed status line a b =
      let (lines, rest) = one_cut a.cut b.cut in
      let all = ap₂ (λ (ls : List (List ℕ)) (r : List ℕ). ls ++ r ∷ []) lines rest in
      not_bad_too b.first (subst (λ ls. Say form 1 ls a.said) all a.says)
