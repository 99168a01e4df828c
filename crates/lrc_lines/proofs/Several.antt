-- The walks of the nodes of a run, and the lines of acts.
use Rattle.std.proofs.Common.{◌≡◌, ℕ, zero, suc, ◌+◌, ◌<◌, ◌≤◌, List, [], ◌∷◌, ◌++◌, inl, inr, length, get_or, set, take, map, refl, sym, ap, ap₂, ◌∙◌}
use Rattle.std.proofs.Common.{append-nil, append_assoc, zero-add, arith}
use Rattle.std.specs.Prelude.{if◌then◌else◌, slice_index_or}
use Rattle.std.specs.List.{range_with_len}
use Rattle.std.proofs.lemmas.Bool.{cases_lt, eq-eqb, ne_eqb, lt-ltb, le-ltb}
use Rattle.std.proofs.lemmas.List.{map-set, length-map, get_or-map, get_or_past, take_more}
use Rattle.std.proofs.lemmas.List.FromFn.{length-map-range_with_len, get_or-map-range_with_len}
use Rattle.lrc_program.specs.declared.Program.{Program}
use Rattle.lrc_trace.specs.declared.act.Act.{Act}
use Rattle.lrc_lines.specs.declared.walk.Walk as code
use Rattle.lrc_lines.specs.Seen.{walk_of}
use Rattle.lrc_lines.specs.Walks.{Walk, led, led_by, walk_at_start, walk_behind, walks_behind, line_at, line_behind, lines_behind, act_lines, end_line}
use Rattle.lrc_lines.proofs.Passing.{fold_append}

-- ---- numbers in a row

same_in_range : {X : Type 0} (f g : ℕ → X) (from n : ℕ) → ((i : ℕ) → from ≤ i → i < from + n → f i ≡ g i)
    → map f (range_with_len from n) ≡ map g (range_with_len from n)
same_in_range f g from zero same = refl
same_in_range f g from (suc n) same =
    ap₂ ◌∷◌ (same from (omega arith) (omega arith)) (same_in_range f g (from + 1) n (λ i low high. same i (omega (arith, low)) (omega (arith, high))))

-- where a value is set, it is the one that the other function gives there
set_in_range : {X : Type 0} (f g : ℕ → X) (from n k : ℕ) → ((i : ℕ) → (i ≡ from + k → ⊥) → f i ≡ g i)
    → set (map f (range_with_len from n)) k (g (from + k)) ≡ map g (range_with_len from n)
set_in_range f g from zero k same = refl
set_in_range f g from (suc n) zero same =
    ap₂ ◌∷◌ (ap g (omega arith)) (same_in_range f g (from + 1) n (λ i low high. same i (λ e. omega (arith, e, low))))
set_in_range f g from (suc n) (suc k) same =
    let place : from + suc k ≡ from + 1 + k = omega arith in
    ap₂ ◌∷◌ (same from (λ e. omega (arith, e)))
    (ap (λ j. set (map f (range_with_len (from + 1) n)) k (g j)) place
    ∙ set_in_range f g (from + 1) n k (λ i other. same i (λ e. other (omega (arith, e)))))

map_twice : {X : Type 0} (f : Walk → X) (items : List code.Walk) → map (λ w. f (walk_of w)) items ≡ map f (map walk_of items)
map_twice f [] = refl
map_twice f (w ∷ items) = ap (λ l. f (walk_of w) ∷ l) (map_twice f items)

-- what is found of one of the nodes
pub found_at : {X : Type 0} (f : Walk → X) (items : List code.Walk) (k node : ℕ) (walk : code.Walk) (d : X) → k ≡ node → k < length items →
    walk ≡ get_or items k walk → f (walk_of walk) ≡ slice_index_or (map f (map walk_of items)) node d
found_at f items k node walk d place inside is =
    ap (λ w. f (walk_of w)) is ∙ sym (get_or-map (λ w. f (walk_of w)) items k walk d inside) ∙ ap (λ l. get_or l k d) (map_twice f items)
    ∙ ap (λ j. get_or (map f (map walk_of items)) j d) place

so_far : (acts : List Act) (i : ℕ) (act : Act) → i < length acts → act ≡ get_or acts i act → take i acts ++ act ∷ [] ≡ take (i + 1) acts
so_far acts i act inside is = ap (λ a. take i acts ++ a ∷ []) is ∙ sym (take_more acts i act inside)

-- ---- one act more

module _ (program : Program) (nodes : ℕ) (lines : List ℕ) where
  more : (before : List Act) (act : Act) (node : ℕ) → walk_behind program nodes lines (before ++ act ∷ []) node ≡
      led_by node (walk_behind program nodes lines before node) act
  more before act node = fold_append (led_by node) (walk_at_start program nodes lines node) before (act ∷ [])

  pub more_own : (before : List Act) (act : Act) → walk_behind program nodes lines (before ++ act ∷ []) act.node ≡
      led (walk_behind program nodes lines before act.node) act.deed
  more_own before act =
      let walk = walk_behind program nodes lines before act.node in
      more before act act.node ∙ ap (λ b. if b then led walk act.deed else walk) (eq-eqb act.node act.node refl)

  pub more_other : (before : List Act) (act : Act) (node : ℕ) → (act.node ≡ node → ⊥) →
      walk_behind program nodes lines (before ++ act ∷ []) node ≡ walk_behind program nodes lines before node
  more_other before act node other =
      let walk = walk_behind program nodes lines before node in
      more before act node ∙ ap (λ b. if b then led walk act.deed else walk) (ne_eqb act.node node other)

  -- an act of one of the nodes
  pub walks_more : (before : List Act) (act : Act) → act.node < nodes →
      set (walks_behind program nodes lines before) act.node (led (walk_behind program nodes lines before act.node) act.deed) ≡
      walks_behind program nodes lines (before ++ act ∷ [])
  walks_more before act inside =
      ap (set (walks_behind program nodes lines before) act.node)
      (sym (more_own before act) ∙ ap (walk_behind program nodes lines (before ++ act ∷ [])) (sym (zero-add act.node)))
      ∙ set_in_range (walk_behind program nodes lines before) (walk_behind program nodes lines (before ++ act ∷ [])) 0 nodes act.node
      (λ i other. sym (more_other before act i (λ e. other (sym e ∙ sym (zero-add act.node)))))

  -- an act of none of them
  pub walks_past : (before : List Act) (act : Act) → nodes ≤ act.node →
      walks_behind program nodes lines before ≡ walks_behind program nodes lines (before ++ act ∷ [])
  walks_past before act past =
      same_in_range (walk_behind program nodes lines before) (walk_behind program nodes lines (before ++ act ∷ [])) 0 nodes
      (λ i low high. sym (more_other before act i (λ e. omega (arith, e, past, high))))

  walk_in : (acts : List Act) (node : ℕ) (d : Walk) → node < nodes → get_or (walks_behind program nodes lines acts) node d ≡ walk_behind program nodes lines acts node
  walk_in acts node d inside = get_or-map-range_with_len (walk_behind program nodes lines acts) 0 nodes node node d inside (omega arith)

  counted : (acts : List Act) (items : List code.Walk) → map walk_of items ≡ walks_behind program nodes lines acts → length items ≡ nodes
  counted acts items same =
      sym (length-map items walk_of) ∙ ap length same ∙ length-map-range_with_len (walk_behind program nodes lines acts) 0 nodes

  -- the walk of the act's node is led on
  pub followed_own : (before : List Act) (act : Act) (items : List code.Walk) (old new : code.Walk) (k : ℕ) → k ≡ act.node →
      map walk_of items ≡ walks_behind program nodes lines before → k < length items → old ≡ get_or items k old →
      walk_of new ≡ led (walk_of old) act.deed → map walk_of (set items k new) ≡ walks_behind program nodes lines (before ++ act ∷ [])
  followed_own before act items old new k place same inside is led_is =
      let within : act.node < nodes = omega (arith, place, inside, counted before items same) in
      let there : walk_of old ≡ walk_behind program nodes lines before act.node =
      ap walk_of is ∙ sym (get_or-map walk_of items k old (walk_of old) inside) ∙ ap₂ (λ l j. get_or l j (walk_of old)) same place
      ∙ walk_in before act.node (walk_of old) within in
      map-set walk_of items k new ∙ ap₂ (λ l j. set l j (walk_of new)) same place
      ∙ ap (set (walks_behind program nodes lines before) act.node) (led_is ∙ ap (λ w. led w act.deed) there) ∙ walks_more before act within

  pub followed_past : (before : List Act) (act : Act) (items : List code.Walk) → map walk_of items ≡ walks_behind program nodes lines before →
      length items ≤ act.node → map walk_of items ≡ walks_behind program nodes lines (before ++ act ∷ [])
  followed_past before act items same past = same ∙ walks_past before act (omega (arith, past, counted before items same))

  -- ---- lines

  -- the line that is found among the walks
  pub line_found : (acts : List Act) (items : List code.Walk) (end node : ℕ) → map walk_of items ≡ walks_behind program nodes lines acts →
      end ≡ end_line lines → slice_index_or (map (line_at end) (map walk_of items)) node end ≡ line_behind program nodes lines acts node
  line_found acts items end node same end_is =
      let there : slice_index_or (map (line_at end) (map walk_of items)) node end ≡
      get_or (map (line_at (end_line lines)) (walks_behind program nodes lines acts)) node (end_line lines) =
      ap₂ (λ l e. get_or (map (line_at e) l) node e) same end_is in
      let walks = walks_behind program nodes lines acts in
      let long : length walks ≡ nodes = length-map-range_with_len (walk_behind program nodes lines acts) 0 nodes in
      let here = walk_behind program nodes lines acts node in
      there ∙ elim (cases_lt node nodes) [
        | inl lt ↦ get_or-map (line_at (end_line lines)) walks node here (end_line lines) (omega (arith, lt, long))
            ∙ ap (line_at (end_line lines)) (walk_in acts node here lt)
            ∙ sym (ap (λ b. if b then line_at (end_line lines) here else end_line lines) (lt-ltb node nodes lt))
        | inr le ↦ get_or_past (map (line_at (end_line lines)) walks) node (end_line lines) (omega (arith, le, long, length-map walks (line_at (end_line lines))))
            ∙ sym (ap (λ b. if b then line_at (end_line lines) here else end_line lines) (le-ltb node nodes le))
      ]

  lines_behind_more : (acts before : List Act) (act : Act) → lines_behind program nodes lines before (acts ++ act ∷ []) ≡
      lines_behind program nodes lines before acts ++ line_behind program nodes lines (before ++ acts) act.node ∷ []
  lines_behind_more [] before act = ap (λ b. line_behind program nodes lines b act.node ∷ []) (sym (append-nil before))
  lines_behind_more (a ∷ acts) before act =
      ap (λ l. line_behind program nodes lines before a.node ∷ l)
      (lines_behind_more acts (before ++ a ∷ []) act
      ∙ ap (λ b. lines_behind program nodes lines (before ++ a ∷ []) acts ++ line_behind program nodes lines b act.node ∷ []) (append_assoc before (a ∷ []) acts))

  -- one line more
  pub lines_of_more : (acts : List Act) (act : Act) → act_lines program nodes lines (acts ++ act ∷ []) ≡
      act_lines program nodes lines acts ++ line_behind program nodes lines acts act.node ∷ []
  lines_of_more acts act = lines_behind_more acts [] act

  -- ---- the acts so far

  pub acts_so_far : (acts : List Act) (i : ℕ) (act : Act) (walks : List Walk) (found : List ℕ) → i < length acts →
      walks ≡ walks_behind program nodes lines (take i acts ++ act ∷ []) →
      found ≡ act_lines program nodes lines (take i acts) ++ line_behind program nodes lines (take i acts) act.node ∷ [] → act ≡ get_or acts i act →
      (found ≡ act_lines program nodes lines (take (i + 1) acts)) × (walks ≡ walks_behind program nodes lines (take (i + 1) acts))
  acts_so_far acts i act walks found inside walks_are found_are is =
      let one = so_far acts i act inside is in
      (found_are ∙ sym (lines_of_more (take i acts) act) ∙ ap (act_lines program nodes lines) one, walks_are ∙ ap (walks_behind program nodes lines) one)
