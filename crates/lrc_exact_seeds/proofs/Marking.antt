-- Outcomes that are marked with seeds.
use Rattle.std.proofs.Common.{◌≡◌, ℕ, zero, suc, ◌+◌, ◌≤◌, List, [], ◌∷◌, length, true, false, inl, inr, refl, sym, subst, ◌∙◌, ap, arith, replicate}
use Rattle.std.specs.Prelude.{Option, Some, None, slice_get}
use Rattle.std.specs.List.{list_all}
use Rattle.std.specs.Option.{is_some}
use Rattle.std.proofs.lemmas.Bool.{and_parts, cases_eq}
use Rattle.std.proofs.lemmas.List.{length-replicate}
use Rattle.std.proofs.lemmas.Option.{same_Some, slice_get_within}
use Rattle.lrc_program.specs.declared.Program.{Program}
use Rattle.lrc_trace.specs.declared.act.Act.{Act}
use Rattle.lrc_orders.specs.declared.outcomes.Outcome.{Outcome}
use Rattle.lrc_orders.proofs.Keeping.{item_at}
use Rattle.lrc_protocol.specs.Node.{OptionsRecord}
use Rattle.lrc_exact_seeds.specs.Seeds.{AreLeastSeeds, AreMarked, IsAllOfSeed, IsLeastSeed, IsMarked, IsOutcomeOfSeed}

-- ---- none is tried yet

none_at : (count k : ℕ) (seed : Option ℕ) → slice_get (replicate count None) k ≡ Some seed → seed ≡ None
none_at zero k seed at = let never : ◌≡◌ {A = Option (Option ℕ)} None (Some seed) = at in cc
none_at (suc count) zero seed at = sym (same_Some None seed at)
none_at (suc count) (suc k) seed at = none_at count k seed at

pub none_tried : (program : Program) (nodes : ℕ) (options : OptionsRecord) (outcomes : List Outcome) (seeds : List (Option ℕ))
    → seeds ≡ replicate (length outcomes) None
    → AreLeastSeeds program nodes options 0 outcomes seeds
none_tried program nodes options outcomes seeds are = record {
  count = ap (λ (l : List (Option ℕ)). length l) are ∙ length-replicate {A = Option ℕ} (length outcomes) None;
  each = λ k outcome seed there at.
      let none = none_at (length outcomes) k seed (sym (ap (λ l. slice_get l k) are) ∙ at) in
      subst (IsLeastSeed program nodes options 0 outcome.notes.items) (sym none) (λ s lt. absurd (omega (arith, lt)));
}

-- ---- one seed more

least_more : (program : Program) (nodes : ℕ) (options : OptionsRecord) (tried : ℕ) (outcome : Outcome) (notes : List Act) (before after : Option ℕ)
    → IsAllOfSeed program nodes options tried (Some notes) → IsLeastSeed program nodes options tried outcome.notes.items before
    → IsMarked outcome notes tried before after → IsLeastSeed program nodes options (tried + 1) outcome.notes.items after
least_more program nodes options tried outcome notes (Some seed) after all (lt, has, least) marked =
    subst (IsLeastSeed program nodes options (tried + 1) outcome.notes.items) (sym marked) (omega (arith, lt), has, least)
least_more program nodes options tried outcome notes None after all none (inl (same, is)) =
    subst (IsLeastSeed program nodes options (tried + 1) outcome.notes.items) (sym is)
    (omega arith, (all outcome.notes.items).1 (ap Some (sym same)), none)
least_more program nodes options tried outcome notes None after all none (inr (other, is)) =
    subst (IsLeastSeed program nodes options (tried + 1) outcome.notes.items) (sym is)
    (λ s lt has. elim (cases_eq s tried) [
      | inl now ↦
          other (sym (same_Some notes outcome.notes.items
          ((all outcome.notes.items).0 (subst (λ n. IsOutcomeOfSeed program nodes options n outcome.notes.items) now has))))
      | inr apart ↦ none s (omega (arith, lt, apart)) has
    ])

pub marked_more : (program : Program) (nodes : ℕ) (options : OptionsRecord) (tried : ℕ) (outcomes : List Outcome) (notes : List Act) (old new : List (Option ℕ))
    → IsAllOfSeed program nodes options tried (Some notes) → AreLeastSeeds program nodes options tried outcomes old → AreMarked outcomes notes tried old new
    → AreLeastSeeds program nodes options (tried + 1) outcomes new
marked_more program nodes options tried outcomes notes old new all least marked = record {
  count = marked.count ∙ least.count;
  each = λ k outcome seed there at.
      let within = slice_get_within new k seed at in
      let count = marked.count in
      let stood = item_at old k (omega (arith, within, count)) in
      least_more program nodes options tried outcome notes stood.0 seed all (least.each k outcome stood.0 there stood.1)
      (marked.each k outcome stood.0 seed there stood.1 at);
}

-- a seed whose run has no outcome
none_more : (program : Program) (nodes : ℕ) (options : OptionsRecord) (tried : ℕ) (notes : List Act) (seed : Option ℕ) → IsAllOfSeed program nodes options tried None
    → IsLeastSeed program nodes options tried notes seed → IsLeastSeed program nodes options (tried + 1) notes seed
none_more program nodes options tried notes (Some seed) all (lt, has, least) = (omega (arith, lt), has, least)
none_more program nodes options tried notes None all none = λ s lt has. elim (cases_eq s tried) [
  | inl now ↦
      let never : ◌≡◌ {A = Option (List Act)} None (Some notes) = (all notes).0 (subst (λ n. IsOutcomeOfSeed program nodes options n notes) now has) in cc
  | inr apart ↦ none s (omega (arith, lt, apart)) has
]

pub unmarked_more : (program : Program) (nodes : ℕ) (options : OptionsRecord) (tried : ℕ) (outcomes : List Outcome) (seeds : List (Option ℕ))
    → IsAllOfSeed program nodes options tried None → AreLeastSeeds program nodes options tried outcomes seeds
    → AreLeastSeeds program nodes options (tried + 1) outcomes seeds
unmarked_more program nodes options tried outcomes seeds all least = record {
  count = least.count;
  each = λ k outcome seed there at. none_more program nodes options tried outcome.notes.items seed all (least.each k outcome seed there at);
}

-- ---- where each has a seed, more seeds change nothing

all_some : (seeds : List (Option ℕ)) (k : ℕ) → list_all is_some seeds ≡ true → slice_get seeds k ≡ Some None → ⊥
all_some [] k all at = cc
all_some (x ∷ seeds) zero all at =
    let is : x ≡ None = same_Some x None at in
    let never : false ≡ true = sym (ap is_some is) ∙ (and_parts (is_some x) (list_all is_some seeds) all).0 in
    cc
all_some (x ∷ seeds) (suc k) all at = all_some seeds k (and_parts (is_some x) (list_all is_some seeds) all).1 at

later : (program : Program) (nodes : ℕ) (options : OptionsRecord) (tried tries : ℕ) (notes : List Act) (seed : Option ℕ) → tried ≤ tries → (seed ≡ None → ⊥)
    → IsLeastSeed program nodes options tried notes seed → IsLeastSeed program nodes options tries notes seed
later program nodes options tried tries notes (Some seed) le some (lt, has, least) = (omega (arith, lt, le), has, least)
later program nodes options tried tries notes None le some none = absurd (some refl)

pub all_later : (program : Program) (nodes : ℕ) (options : OptionsRecord) (tried tries : ℕ) (outcomes : List Outcome) (seeds : List (Option ℕ))
    → tried ≤ tries → list_all is_some seeds ≡ true
    → AreLeastSeeds program nodes options tried outcomes seeds → AreLeastSeeds program nodes options tries outcomes seeds
all_later program nodes options tried tries outcomes seeds le all least = record {
  count = least.count;
  each = λ k outcome seed there at.
      later program nodes options tried tries outcome.notes.items seed le (λ none. all_some seeds k all (at ∙ ap Some none)) (least.each k outcome seed there at);
}
