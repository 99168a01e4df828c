-- Two runs whose keys are equal stand alike.
use Rattle.std.proofs.Common.{◌≡◌, ℕ, ◌<◌, ◌⊎◌, false, List, length, map, inl, inr, refl, sym, subst, ap, ◌∙◌, arith}
use Rattle.std.specs.Prelude.{◌-◌, Option, Some, None}
use Rattle.std.proofs.lemmas.Bool.{cases_lt}
use Rattle.std.proofs.lemmas.Option.{none-some}
use Rattle.lrc_program.specs.declared.Program.{Program}
use Rattle.lrc_trace.specs.declared.act.Act.{Act}
use Rattle.lrc_trace.specs.declared.act.Deed.{Deed}
use Rattle.lrc_trace.specs.Run.{arrives_before, departs_before, Does}
use Rattle.lrc_time.specs.Time.{weight_of}
use Rattle.lrc_exact.specs.Rule.{Knowledge, Shape, State}
use Rattle.lrc_exact_states.specs.Runs.{AreRunsAlike, AreSynchronizedAlike, Base, here, IsAhead}
use Rattle.lrc_exact_states.specs.Key.{arrived_since, change_beyond, change_kept, departed_since, each_from, Gap, gap_of, gaps_of, heights_of, is_held, is_under, Key, key_of, known_at, Place, places_in, word_kept}
use Rattle.lrc_exact_states.proofs.By.{AreRunsAlikeBy}
use Rattle.lrc_exact_states.proofs.Held.{holds_is}
use Rattle.lrc_exact_states.proofs.Listed.{each_same, Has, map_same}
use Rattle.lrc_exact_states.proofs.Placed.{IsPlace, runs_alike}
use Rattle.lrc_exact_states.proofs.Ranged.{fresh_here, holds_within, listed_or_none, no_change_beyond, places_agree, places_valid}
use Rattle.lrc_exact_states.proofs.Texts.{IsWithin}

under_none : (q : ℕ) (x : Option Knowledge) → is_under q x None ≡ false
under_none q None = refl
under_none q (Some k) = refl

beyond_none : (q word : ℕ) (x : Option Knowledge) → change_beyond q word x None ≡ None
beyond_none q word None = refl
beyond_none q word (Some k) = refl

-- a count that is as far above its base as another
ahead_alike : (count count' first first' : ℕ) → IsAhead count count first first → IsAhead count' count' first' first' → count - first ≡ count' - first' → IsAhead count count' first first'
ahead_alike count count' first first' a b e =
    let one = a.one in
    let other = b.one in
    record { more = a.more; one = a.one; other = omega (arith, one, other, e) }

module _ (program : Program) (shape : Shape) (calm : shape.collect ≡ 0) (cap : ℕ) (base base' : Base) (run run' : List Act) (states states' : List State)
    (r : AreRunsAlikeBy shape cap base base run run states states) (t : AreRunsAlikeBy shape cap base' base' run' run' states' states')
    (within : (j q : ℕ) (deed : Deed) → Does run j q deed → IsWithin program.words program.locks deed)
    (within' : (j q : ℕ) (deed : Deed) → Does run' j q deed → IsWithin program.words program.locks deed)
    (same : key_of program shape cap base run states ≡ key_of program shape cap base' run' states') where
  abbrev nodes : ℕ
  nodes = shape.nodes

  abbrev bound : ℕ
  bound = weight_of base.floor

  abbrev bound' : ℕ
  bound' = weight_of base'.floor

  abbrev known : Place → Option Knowledge
  known p = known_at shape base run states p

  abbrev known' : Place → Option Knowledge
  known' p = known_at shape base' run' states' p

  -- ---- locks and barriers

  arrived_same : (q : ℕ) → q < nodes → arrived_since base run q ≡ arrived_since base' run' q
  arrived_same q lt = each_same (arrived_since base run) (arrived_since base' run') 0 nodes (ap (λ (k : Key). k.arrived) same) q (omega arith) (omega (arith, lt))

  departed_same : (q : ℕ) → q < nodes → departed_since base run q ≡ departed_since base' run' q
  departed_same q lt = each_same (departed_since base run) (departed_since base' run') 0 nodes (ap (λ (k : Key). k.departed) same) q (omega arith) (omega (arith, lt))

  held_same : (q l : ℕ) → q < nodes → l < program.locks → is_held run q l (length run) ≡ is_held run' q l (length run')
  held_same q l lt less =
      each_same (λ (lock : ℕ). is_held run q lock (length run)) (λ (lock : ℕ). is_held run' q lock (length run')) 0 program.locks
      (each_same (λ (node : ℕ). each_from 0 program.locks (λ (lock : ℕ). is_held run node lock (length run)))
      (λ (node : ℕ). each_from 0 program.locks (λ (lock : ℕ). is_held run' node lock (length run'))) 0 nodes (ap (λ (k : Key). k.held) same) q (omega arith) (omega (arith, lt)))
      l (omega arith) (omega (arith, less))

  synchronized : AreSynchronizedAlike nodes base.first base'.first run run'
  synchronized = record {
    holds = λ q l h.
        let (lt, less) = holds_within program.words program.locks shape calm base run states r.keeps within q l h in
        (holds_is run' q l (length run') (omega arith)).1 (sym (held_same q l lt less) ∙ (holds_is run q l (length run) (omega arith)).0 h);
    holds' = λ q l h.
        let (lt, less) = holds_within program.words program.locks shape calm base' run' states' t.keeps within' q l h in
        (holds_is run q l (length run) (omega arith)).1 (held_same q l lt less ∙ (holds_is run' q l (length run') (omega arith)).0 h);
    arrives = λ q lt.
        ahead_alike (arrives_before run q (length run)) (arrives_before run' q (length run')) base.first base'.first (r.synchronized.arrives q lt) (t.synchronized.arrives q lt)
        (arrived_same q lt);
    departs = λ q lt.
        ahead_alike (departs_before run q (length run)) (departs_before run' q (length run')) base.first base'.first (r.synchronized.departs q lt) (t.synchronized.departs q lt)
        (departed_same q lt);
  }

  -- ---- nodes

  words_same : (q word : ℕ) → q < nodes → word_kept cap bound ((here shape run states q).words word) ≡ word_kept cap bound' ((here shape run' states' q).words word)
  words_same q word lt = elim (cases_lt word program.words) [
    | inl less ↦
        each_same (λ (w : ℕ). word_kept cap bound ((here shape run states q).words w)) (λ (w : ℕ). word_kept cap bound' ((here shape run' states' q).words w)) 0 program.words
        (each_same (λ (node : ℕ). each_from 0 program.words (λ (w : ℕ). word_kept cap bound ((here shape run states node).words w)))
        (λ (node : ℕ). each_from 0 program.words (λ (w : ℕ). word_kept cap bound' ((here shape run' states' node).words w))) 0 nodes (ap (λ (k : Key). k.words) same) q
        (omega arith) (omega (arith, lt))) word (omega arith) (omega (arith, less))
    | inr past ↦
        ap (word_kept cap bound) (fresh_here program.words program.locks shape calm base run states r.keeps within word past q).words
        ∙ sym (ap (word_kept cap bound') (fresh_here program.words program.locks shape calm base' run' states' t.keeps within' word past q).words)
  ]

  before_same : (q word : ℕ) → q < nodes → (here shape run' states' q).before word ≡ (here shape run states q).before word
  before_same q word lt = elim (cases_lt word program.words) [
    | inl less ↦
        sym (each_same (here shape run states q).before (here shape run' states' q).before 0 program.words
        (each_same (λ (node : ℕ). each_from 0 program.words (here shape run states node).before) (λ (node : ℕ). each_from 0 program.words (here shape run' states' node).before)
        0 nodes (ap (λ (k : Key). k.before) same) q (omega arith) (omega (arith, lt))) word (omega arith) (omega (arith, less)))
    | inr past ↦
        (fresh_here program.words program.locks shape calm base' run' states' t.keeps within' word past q).before
        ∙ sym (fresh_here program.words program.locks shape calm base run states r.keeps within word past q).before
  ]

  -- ---- places

  abbrev ps : List Place
  ps = places_in program shape base run

  abbrev ps' : List Place
  ps' = places_in program shape base' run'

  same_places : ps ≡ ps'
  same_places = places_agree nodes program.locks (arrived_since base run) (arrived_since base' run') arrived_same

  listed : (p : Place) → IsPlace nodes p → Has ps p ⊎ ((known p ≡ None) × (known' p ≡ None))
  listed p is_place = elim (listed_or_none program.words program.locks shape calm base run states r.keeps within p is_place) [
    | inl has ↦ inl has
    | inr none ↦ elim (listed_or_none program.words program.locks shape calm base' run' states' t.keeps within' p is_place) [
      | inl has' ↦ inl (subst (λ qs. Has qs p) (sym same_places) has')
      | inr none' ↦ inr (none, none')
    ]
  ]

  heights_same : (p : Place) → IsPlace nodes p → heights_of cap nodes base.floor (known p) ≡ heights_of cap nodes base'.floor (known' p)
  heights_same p is_place = elim (listed p is_place) [
    | inl has ↦
        map_same (λ (place : Place). heights_of cap nodes base.floor (known place)) (λ (place : Place). heights_of cap nodes base'.floor (known' place)) ps
        (ap (λ (k : Key). k.heights) same ∙ ap (map (λ (place : Place). heights_of cap nodes base'.floor (known' place))) (sym same_places)) p has
    | inr (none, none') ↦ ap (heights_of cap nodes base.floor) none ∙ sym (ap (heights_of cap nodes base'.floor) none')
  ]

  abbrev gaps_at : Place → Place → List Gap
  gaps_at p o = gaps_of cap bound program.words nodes (known p) (known o)

  abbrev gaps_at' : Place → Place → List Gap
  gaps_at' p o = gaps_of cap bound' program.words nodes (known' p) (known' o)

  gaps_same : (p o : Place) → Has ps p → Has ps o → gaps_at p o ≡ gaps_at' p o
  gaps_same p o has also =
      let all : map (λ (x : Place). map (λ (y : Place). gaps_at x y) ps) ps ≡ map (λ (x : Place). map (λ (y : Place). gaps_at' x y) ps) ps =
      ap (λ (k : Key). k.gaps) same ∙ ap (λ (qs : List Place). map (λ (x : Place). map (λ (y : Place). gaps_at' x y) qs) qs) (sym same_places) in
      map_same (λ (y : Place). gaps_at p y) (λ (y : Place). gaps_at' p y) ps
      (map_same (λ (x : Place). map (λ (y : Place). gaps_at x y) ps) (λ (x : Place). map (λ (y : Place). gaps_at' x y) ps) ps all p has) o also

  gap_same : (p o : Place) → Has ps p → Has ps o → (q : ℕ) → q < nodes
      → gap_of cap bound program.words q (known p) (known o) ≡ gap_of cap bound' program.words q (known' p) (known' o)
  gap_same p o has also q lt =
      each_same (λ (node : ℕ). gap_of cap bound program.words node (known p) (known o)) (λ (node : ℕ). gap_of cap bound' program.words node (known' p) (known' o)) 0 nodes
      (gaps_same p o has also) q (omega arith) (omega (arith, lt))

  under_same : (p o : Place) → IsPlace nodes p → IsPlace nodes o → (q : ℕ) → q < nodes → is_under q (known p) (known o) ≡ is_under q (known' p) (known' o)
  under_same p o one two q lt = elim (listed p one) [
    | inr (none, none') ↦ ap (λ (x : Option Knowledge). is_under q x (known o)) none ∙ sym (ap (λ (x : Option Knowledge). is_under q x (known' o)) none')
    | inl has ↦ elim (listed o two) [
      | inr (none, none') ↦
          ap (is_under q (known p)) none ∙ under_none q (known p) ∙ sym (ap (is_under q (known' p)) none' ∙ under_none q (known' p))
      | inl also ↦ ap (λ (g : Gap). g.under) (gap_same p o has also q lt)
    ]
  ]

  changes_same : (p o : Place) → IsPlace nodes p → IsPlace nodes o → (q word : ℕ) → q < nodes
      → change_kept cap bound (change_beyond q word (known p) (known o)) ≡ change_kept cap bound' (change_beyond q word (known' p) (known' o))
  changes_same p o one two q word lt = elim (listed p one) [
    | inr (none, none') ↦
        ap (λ (x : Option Knowledge). change_kept cap bound (change_beyond q word x (known o))) none
        ∙ sym (ap (λ (x : Option Knowledge). change_kept cap bound' (change_beyond q word x (known' o))) none')
    | inl has ↦ elim (listed o two) [
      | inr (none, none') ↦
          ap (change_kept cap bound) (ap (change_beyond q word (known p)) none ∙ beyond_none q word (known p))
          ∙ sym (ap (change_kept cap bound') (ap (change_beyond q word (known' p)) none' ∙ beyond_none q word (known' p)))
      | inl also ↦ elim (cases_lt word program.words) [
        | inl less ↦
            each_same (λ (w : ℕ). change_kept cap bound (change_beyond q w (known p) (known o)))
            (λ (w : ℕ). change_kept cap bound' (change_beyond q w (known' p) (known' o))) 0 program.words (ap (λ (g : Gap). g.changes) (gap_same p o has also q lt)) word
            (omega arith) (omega (arith, less))
        | inr past ↦
            ap (change_kept cap bound) (no_change_beyond program.words program.locks shape calm base run states r.keeps within word past q p o)
            ∙ sym (ap (change_kept cap bound') (no_change_beyond program.words program.locks shape calm base' run' states' t.keeps within' word past q p o))
      ]
    ]
  ]

  all_listed : (p : Place) (k : Knowledge) → IsPlace nodes p → known p ≡ Some k → Has ps p
  all_listed p k is_place is = elim (listed p is_place) [
    | inl has ↦ has
    | inr (none, none') ↦ absurd (none-some k (sym none ∙ is))
  ]

  pub keys_stand_alike : AreRunsAlike shape cap base base' run run' states states'
  keys_stand_alike =
      runs_alike shape cap base base' run run' states states' r t
      (record {
        heights = heights_same;
        under = under_same;
        changes = changes_same;
        places = ps;
        all = all_listed;
        valid = λ p has. places_valid nodes program.locks (arrived_since base run) p has;
      })
      (record { words = words_same; before = before_same }) synchronized
