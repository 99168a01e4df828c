-- Sites, and the counts of them.
use Rattle.std.proofs.Common.{◌≡◌, ◌∙◌, ℕ, ◌+◌, ◌<◌, ◌≤◌, inl, inr, Bool, true, false, cond, List, [], Option, Some, None, length, take, get_or, refl, subst, sym, ap, arith}
use Rattle.std.specs.Prelude.{◌==◌, ◌&&◌, ◌||◌, count_by, if◌then◌else◌, unwrap_or}
use Rattle.std.specs.BTreeMap.{BTreeMap, get, Updates}
use Rattle.std.specs.Cmp.{IsTotalOrder, bool_cmp_total, eq_by_cmp_equiv}
use Rattle.std.specs.List.{list_any}
use Rattle.std.specs.Ordering.{bool_cmp, is_eq}
use Rattle.std.proofs.lemmas.Bool.{and_parts, cases_Bool, eqb-true, false≢true}
use Rattle.std.proofs.lemmas.Cmp.{nat_cmp_total, on_total, then_total}
use Rattle.std.proofs.lemmas.List.Folds.{list_any_more}
use Rattle.std.proofs.lemmas.List.Sums.{count_by_more_no, count_by_more_yes, get_or-le-sum_by}
use Rattle.lrc_judge.proofs.Ascending.{is_eq-nat, is_eq-then}
use Rattle.lrc_judge.specs.declared.lanes.Pair.{Pair}
use Rattle.lrc_labels.specs.Reading.{Label}
use Rattle.lrc_trace.specs.declared.act.Act.{Act}
use Rattle.lrc_explain.specs.declared.site.Site.{Site}
use Rattle.lrc_explain.specs.Groups.{group_at, group_if, group_text, is_of_site}
use Rattle.lrc_explain.specs.Site.{site_cmp, site_of}

site_total : IsTotalOrder site_cmp
site_total = then_total (on_total (λ (s : Site). s.line) nat_cmp_total)
    (then_total (on_total (λ (s : Site). s.writes) bool_cmp_total)
    (then_total (on_total (λ (s : Site). s.later_line) nat_cmp_total) (on_total (λ (s : Site). s.later_writes) bool_cmp_total)))

same_bool : (a b : Bool) → is_eq (bool_cmp a b) ≡ true → a ≡ b
same_bool true true h = refl
same_bool false false h = refl
same_bool true false h = absurd (false≢true h)
same_bool false true h = absurd (false≢true h)

-- sites that agree in every field are one
site_exact : (a b : Site) → is_eq (site_cmp a b) ≡ true → a ≡ b
site_exact a b h =
    let flat : ((a.line == b.line)
    && (is_eq (bool_cmp a.writes b.writes) && ((a.later_line == b.later_line) && is_eq (bool_cmp a.later_writes b.later_writes))))
    ≡ is_eq (site_cmp a b) = sym (simp (is_eq-then, is_eq-nat)) in
    let (lines, h1) = and_parts (a.line == b.line) _ (flat ∙ h) in
    let (kinds, h2) = and_parts (is_eq (bool_cmp a.writes b.writes)) _ h1 in
    let (later_lines, later_kinds) = and_parts (a.later_line == b.later_line) _ h2 in
    let l : a.line ≡ b.line = eqb-true a.line b.line lines in
    let w : a.writes ≡ b.writes = same_bool a.writes b.writes kinds in
    let m : a.later_line ≡ b.later_line = eqb-true a.later_line b.later_line later_lines in
    let v : a.later_writes ≡ b.later_writes = same_bool a.later_writes b.later_writes later_kinds in
    let e : ◌≡◌ {A = Site} (record { line = a.line; writes = a.writes; later_line = a.later_line; later_writes = a.later_writes })
    (record { line = b.line; writes = b.writes; later_line = b.later_line; later_writes = b.later_writes }) = cc in e

-- a pair is of its own site
own_site : (acts : List Act) (lines : List ℕ) (pair : Pair) → is_of_site acts lines (site_of acts lines pair) pair ≡ true
own_site acts lines pair = (eq_by_cmp_equiv site_total).refl (site_of acts lines pair)

-- one pair more is counted
pub counted_more : (acts : List Act) (lines : List ℕ) (pairs : List Pair) (i : ℕ) (d : Pair) (old new : BTreeMap Site ℕ) (count : ℕ) → i < length pairs
    → Updates site_cmp old new (site_of acts lines (get_or pairs i d)) (Some (count + 1))
    → count ≡ unwrap_or (get site_cmp old (site_of acts lines (get_or pairs i d))) 0
    → ((q : Site) → unwrap_or (get site_cmp old q) 0 ≡ count_by (is_of_site acts lines q) (take i pairs))
    → (q : Site) → unwrap_or (get site_cmp new q) 0 ≡ count_by (is_of_site acts lines q) (take (i + 1) pairs)
counted_more acts lines pairs i d old new count lt updates count_is before q =
    let key = site_of acts lines (get_or pairs i d) in
    elim (cases_Bool (is_of_site acts lines q (get_or pairs i d))) [
      | inl yes' ↦
          let same : key ≡ q = site_exact key q yes' in
          ap (λ o. unwrap_or o 0) (updates.0 q ∙ ap (λ b. cond b (Some (count + 1)) (get site_cmp old q)) yes')
          ∙ ap (λ m. m + 1) (count_is ∙ ap (λ k. unwrap_or (get site_cmp old k) 0) same ∙ before q)
          ∙ sym (count_by_more_yes (is_of_site acts lines q) pairs i d lt yes')
      | inr no' ↦
          ap (λ o. unwrap_or o 0) (updates.0 q ∙ ap (λ b. cond b (Some (count + 1)) (get site_cmp old q)) no')
          ∙ before q ∙ sym (count_by_more_no (is_of_site acts lines q) pairs i d lt no')
    ]

pub or_true : (b c : Bool) → c ≡ true → (b || c) ≡ true
or_true true c h = refl
or_true false c h = h

pub or_false : (b c : Bool) → c ≡ false → (b || c) ≡ b
or_false true c h = refl
or_false false c h = h

-- the counts of a site are taken out
pub left_more : (acts : List Act) (lines : List ℕ) (pairs : List Pair) (i : ℕ) (d : Pair) (start old new : BTreeMap Site ℕ) → i < length pairs
    → Updates site_cmp old new (site_of acts lines (get_or pairs i d)) None
    → ((q : Site) → get site_cmp old q ≡ (if list_any (is_of_site acts lines q) (take i pairs) then None else get site_cmp start q))
    → (q : Site) → get site_cmp new q ≡ (if list_any (is_of_site acts lines q) (take (i + 1) pairs) then None else get site_cmp start q)
left_more acts lines pairs i d start old new lt updates before q =
    let here = get_or pairs i d in
    let seen = list_any (is_of_site acts lines q) (take i pairs) in
    let more = list_any_more (is_of_site acts lines q) pairs i d lt in
    elim (cases_Bool (is_of_site acts lines q here)) [
      | inl yes' ↦
          updates.0 q ∙ ap (λ b. cond b None (get site_cmp old q)) yes'
          ∙ sym (ap (λ b. if b then None else get site_cmp start q) (more ∙ or_true seen (is_of_site acts lines q here) yes'))
      | inr no' ↦
          updates.0 q ∙ ap (λ b. cond b None (get site_cmp old q)) no' ∙ before q
          ∙ sym (ap (λ b. if b then None else get site_cmp start q) (more ∙ or_false seen (is_of_site acts lines q here) no'))
    ]

-- a pair whose site is counted is the first of its group
pub group_new : (labels : List Label) (acts : List Act) (lines : List ℕ) (pairs : List Pair) (i : ℕ) (d : Pair) (start : Option ℕ) (count : ℕ)
    → Some count ≡ (if list_any (is_of_site acts lines (site_of acts lines (get_or pairs i d))) (take i pairs) then None else start)
    → unwrap_or start 0 ≡ count_by (is_of_site acts lines (site_of acts lines (get_or pairs i d))) pairs
    → group_text labels acts lines (get_or pairs i d) count ≡ group_at labels acts lines pairs i (get_or pairs i d)
group_new labels acts lines pairs i d start count found counted =
    let here = get_or pairs i d in
    let of = is_of_site acts lines (site_of acts lines here) in
    elim (cases_Bool (list_any of (take i pairs))) [
      | inl seen ↦ let never : Some count ≡ None = found ∙ ap (λ b. if b then None else start) seen in let no' : ⊥ = cc in absurd no'
      | inr fresh ↦
          let is : Some count ≡ start = found ∙ ap (λ b. if b then None else start) fresh in
          let same : count ≡ count_by of pairs = ap (λ o. unwrap_or o 0) is ∙ counted in
          ap (group_text labels acts lines here) same
          ∙ sym (ap (λ b. if b then [] else group_text labels acts lines here (count_by of pairs)) fresh)
    ]

abbrev one_if : Bool → ℕ
one_if b = cond b 1 0

-- any other stands behind one of its group
pub group_old : (labels : List Label) (acts : List Act) (lines : List ℕ) (pairs : List Pair) (i : ℕ) (d : Pair) (start : Option ℕ) → i < length pairs
    → None ≡ (if list_any (is_of_site acts lines (site_of acts lines (get_or pairs i d))) (take i pairs) then None else start)
    → unwrap_or start 0 ≡ count_by (is_of_site acts lines (site_of acts lines (get_or pairs i d))) pairs
    → [] ≡ group_at labels acts lines pairs i (get_or pairs i d)
group_old labels acts lines pairs i d start lt found counted =
    let here = get_or pairs i d in
    let of = is_of_site acts lines (site_of acts lines here) in
    elim (cases_Bool (list_any of (take i pairs))) [
      | inl seen ↦ sym (ap (λ b. if b then [] else group_text labels acts lines here (count_by of pairs)) seen)
      | inr fresh ↦
          let is : None ≡ start = found ∙ ap (λ b. if b then None else start) fresh in
          let zero_is : ◌≡◌ {A = ℕ} 0 (count_by of pairs) = ap (λ (o : Option ℕ). unwrap_or o 0) is ∙ counted in
          let one : one_if (of here) ≤ count_by of pairs = get_or-le-sum_by (λ (pair : Pair). one_if (of pair)) pairs i d lt in
          let own : ◌≡◌ {A = ℕ} (one_if (of here)) 1 = ap one_if (own_site acts lines here) in
          let none : 1 ≤ 0 = subst (λ (k : ℕ). 1 ≤ k) (sym zero_is) (subst (λ (k : ℕ). k ≤ count_by of pairs) own one) in
          absurd (omega (arith, none))
    ]

-- what was taken out of the counts says whether a pair is the first of its group
pub group_is : (labels : List Label) (acts : List Act) (lines : List ℕ) (pairs : List Pair) (i : ℕ) (d : Pair) (start taken : Option ℕ) → i < length pairs
    → taken ≡ (if list_any (is_of_site acts lines (site_of acts lines (get_or pairs i d))) (take i pairs) then None else start)
    → unwrap_or start 0 ≡ count_by (is_of_site acts lines (site_of acts lines (get_or pairs i d))) pairs
    → group_if labels acts lines (get_or pairs i d) taken ≡ group_at labels acts lines pairs i (get_or pairs i d)
group_is labels acts lines pairs i d start None lt found counted = group_old labels acts lines pairs i d start lt found counted
group_is labels acts lines pairs i d start (Some count) lt found counted = group_new labels acts lines pairs i d start count found counted
