-- What the lines of a text say one behind the other.
use Rattle.std.proofs.Common.{◌≡◌, ◌∙◌, ℕ, ◌+◌, false, cond, List, [], ◌∷◌, ◌++◌, length, take, refl, sym, ap, subst, append_assoc, append-nil, length-append, fold}
use Rattle.std.specs.Prelude.{Err, Ok, Option, Result}
use Rattle.std.specs.List.{AllByRecursion, enumerate_from, flat_map, list_any}
use Rattle.std.specs.Str.{bytes_eq}
use Rattle.lrc_labels.specs.declared.label.IdleLabel.{IdleLabel}
use Rattle.lrc_labels.specs.declared.label.Reason.{Reason}
use Rattle.lrc_labels.specs.declared.label.Reason.TheVariants.{NameTaken}
use Rattle.lrc_labels.specs.Line.{LabelLine, label_line_in}
use Rattle.lrc_labels.specs.Reading.{Label, idle_at, idle_by, idle_in, idle_of, labels_by, labels_in, labels_of, labels_with, meets, taken, unless_taken}
use Rattle.std.proofs.lemmas.List.Sums.{fold-append}
use Rattle.lrc_named_label_laws.proofs.Items.{Says}
use Rattle.lrc_named_label_laws.proofs.Lines.{IsSilent}

module _ (words locks : ℕ) where
  -- behind these labels no label line of these lines says nothing
  abbrev pub NoneIdle : List Label → List (List ℕ) → Type 0
  NoneIdle earlier [] = Unit {0}
  NoneIdle earlier (line ∷ lines) =
      ((number : ℕ) → idle_in words locks earlier number (label_line_in line) ≡ []) × NoneIdle (labels_with words locks earlier line) lines

  -- behind these labels the lines say the others, and each says something
  pub record Reads (earlier : List Label) (lines : List (List ℕ)) (all : List Label) : Type 0 where
    pub labels : fold (labels_with words locks) earlier lines ≡ all
    pub none_idle : NoneIdle earlier lines

  pub reads_none : (earlier : List Label) → Reads earlier [] earlier
  reads_none earlier = record { labels = refl; none_idle = tt }

  -- one line more in front
  abbrev Tells : List Label → List Label → List ℕ → Type 0
  Tells earlier now line = (labels_with words locks earlier line ≡ now) × ((number : ℕ) → idle_in words locks earlier number (label_line_in line) ≡ [])

  one_more : (earlier now : List Label) (line : List ℕ) (lines : List (List ℕ)) (all : List Label) → Tells earlier now line → Reads now lines all
      → Reads earlier (line ∷ lines) all
  one_more earlier now line lines all told h = record {
    labels = ap (λ l. fold (labels_with words locks) l lines) told.0 ∙ h.labels;
    none_idle = (told.1, subst (λ l. NoneIdle l lines) (sym told.0) h.none_idle);
  }

  silent_tells : (earlier : List Label) (line : List ℕ) → IsSilent line → Tells earlier earlier line
  silent_tells earlier line silent = (
    ap (λ (found : Option LabelLine). earlier ++ labels_in words locks earlier found) silent ∙ append-nil earlier,
    λ number. ap (idle_in words locks earlier number) silent,
  )

  pub reads_silent : (earlier : List Label) (silent lines : List (List ℕ)) (all : List Label) → AllByRecursion IsSilent silent → Reads earlier lines all
      → Reads earlier (silent ++ lines) all
  reads_silent earlier [] lines all each h = h
  reads_silent earlier (line ∷ silent) lines all each h =
      one_more earlier earlier line (silent ++ lines) all (silent_tells earlier line each.0) (reads_silent earlier silent lines all each.1 h)

  -- a label line that says something
  says_free : (earlier : List Label) (label : Label) → list_any (λ (other : Label). meets other.target label.target) earlier ≡ false
      → list_any (λ (other : Label). bytes_eq other.name label.name) earlier ≡ false → unless_taken earlier (Ok label) ≡ Ok label
  says_free earlier label far differ =
      ap (λ b. cond b (Err (taken label.target)) (cond (list_any (λ (other : Label). bytes_eq other.name label.name) earlier) (Err NameTaken) (Ok label))) far
      ∙ ap (λ b. cond b (Err NameTaken) (Ok label)) differ

  label_tells : (earlier : List Label) (line : List ℕ) (label : Label) → Says words locks line label
      → list_any (λ (other : Label). meets other.target label.target) earlier ≡ false
      → list_any (λ (other : Label). bytes_eq other.name label.name) earlier ≡ false → Tells earlier (earlier ++ label ∷ []) line
  label_tells earlier line label says far differ =
      let said = ap (unless_taken earlier) says.reads ∙ says_free earlier label far differ in (
        ap (λ (found : Option LabelLine). earlier ++ labels_in words locks earlier found) says.stands ∙ ap (λ (r : Result Label Reason). earlier ++ labels_by r) said,
        λ number. ap (idle_in words locks earlier number) says.stands ∙ ap (idle_by number says.found.column) said,
      )

  pub reads_label : (earlier : List Label) (line : List ℕ) (label : Label) (lines : List (List ℕ)) (all : List Label) → Says words locks line label
      → list_any (λ (other : Label). meets other.target label.target) earlier ≡ false
      → list_any (λ (other : Label). bytes_eq other.name label.name) earlier ≡ false → Reads (earlier ++ label ∷ []) lines all
      → Reads earlier (line ∷ lines) all
  reads_label earlier line label lines all says far differ h =
      one_more earlier (earlier ++ label ∷ []) line lines all (label_tells earlier line label says far differ) h

  -- ---- all lines of a text

  taken_front : {A : Type 0} (front behind : List A) → take (length front) (front ++ behind) ≡ front
  taken_front [] behind = refl
  taken_front (x ∷ front) behind = ap (λ l. x ∷ l) (taken_front front behind)

  none_idle_from : (before after : List (List ℕ)) → NoneIdle (labels_of words locks before) after
      → flat_map (λ (at : ℕ × List ℕ). idle_at words locks (before ++ after) at.0 at.1) (enumerate_from (length before) after) ≡ []
  none_idle_from before [] h = refl
  none_idle_from before (line ∷ after) h =
      let whole = before ++ line ∷ after in
      let one : idle_at words locks whole (length before) line ≡ [] =
      ap (λ (l : List (List ℕ)). idle_in words locks (labels_of words locks l) (length before + 1) (label_line_in line)) (taken_front before (line ∷ after))
      ∙ h.0 (length before + 1) in
      let longer : length (before ++ line ∷ []) ≡ length before + 1 = length-append before (line ∷ []) in
      let same : (before ++ line ∷ []) ++ after ≡ whole = append_assoc before (line ∷ []) after in
      let later = none_idle_from (before ++ line ∷ []) after
      (subst (λ l. NoneIdle l after) (sym (fold-append (labels_with words locks) [] before (line ∷ []))) h.1) in
      let others : flat_map (λ (at : ℕ × List ℕ). idle_at words locks whole at.0 at.1) (enumerate_from (length before + 1) after) ≡ [] =
      subst (λ n. flat_map (λ (at : ℕ × List ℕ). idle_at words locks whole at.0 at.1) (enumerate_from n after) ≡ []) longer
      (subst (λ (l : List (List ℕ)). flat_map (λ (at : ℕ × List ℕ). idle_at words locks l at.0 at.1) (enumerate_from (length (before ++ line ∷ [])) after) ≡ []) same later) in
      ap (λ (l : List IdleLabel). l ++ flat_map (λ (at : ℕ × List ℕ). idle_at words locks whole at.0 at.1) (enumerate_from (length before + 1) after)) one ∙ others

  pub all_read : (lines : List (List ℕ)) (all : List Label) → Reads [] lines all → (labels_of words locks lines ≡ all) × (idle_of words locks lines ≡ [])
  all_read lines all h = (h.labels, none_idle_from [] lines h.none_idle)
