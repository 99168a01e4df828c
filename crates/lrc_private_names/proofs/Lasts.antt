-- By which act each private name was set last, one act more.
use Rattle.std.proofs.Common.{◌≡◌, ℕ, ◌+◌, ◌<◌, List, Option, Some, None, length, get_or, set, inl, inr, refl, sym, ap, subst, ◌∙◌, arith, length-set}
use Rattle.std.specs.Prelude.{slice_get, slice_index_or, slice_set}
use Rattle.std.proofs.lemmas.Bool.{cases_eq}
use Rattle.std.proofs.lemmas.List.{get_or-set_other, get_or-set_same}
use Rattle.std.proofs.lemmas.Option.{same_Some, slice_get_read}
use Rattle.lrc_program.specs.declared.Program.{Program}
use Rattle.lrc_trace.specs.declared.act.Act.{Act}
use Rattle.lrc_trace.specs.declared.act.Deed.{Deed}
use Rattle.lrc_trace.specs.Run.{Does}
use Rattle.lrc_trace.proofs.Positions.{Does-node, Does-one_deed, Does-one_node}
use Rattle.lrc_private_names.specs.Standing.{AreLastSets, IsLastSet, Sets, SetsLast, set_by, thread_before}
use Rattle.lrc_private_names.specs.Ways.{noted}

module _ (program : Program) (nodes : ℕ) (lines : List ℕ) (acts : List Act) (node at : ℕ) where
  -- the act there does not set the name
  kept : (name : ℕ) (last : Option ℕ) → (Sets program nodes lines acts node name at → ⊥) → IsLastSet program nodes lines acts node name at last
      → IsLastSet program nodes lines acts node name (at + 1) last
  kept name None not old = λ k lt sets.
      elim (cases_eq k at) [
        | inl same ↦ not (subst (λ n. Sets program nodes lines acts node name n) same sets)
        | inr other ↦ old k (omega arith) sets
      ]
  kept name (Some position) not old =
      let earlier = old.earlier in
      record {
        earlier = omega arith;
        sets = old.sets;
        last = λ k after lt sets.
            elim (cases_eq k at) [
              | inl same ↦ not (subst (λ n. Sets program nodes lines acts node name n) same sets)
              | inr other ↦ old.last k after (omega arith) sets
            ];
      }

  -- it does
  here : (name : ℕ) → Sets program nodes lines acts node name at → IsLastSet program nodes lines acts node name (at + 1) (Some at)
  here name sets = record { earlier = omega arith; sets = sets; last = λ k after lt other. omega arith }

  module _ (deed : Deed) (does : Does acts at node deed) where
    sets_name : (name : ℕ) → set_by (thread_before program nodes lines acts node at) deed ≡ Some name → Sets program nodes lines acts node name at
    sets_name name e = record { deed = deed; does = does; sets = e }

    name_of : (name : ℕ) → Sets program nodes lines acts node name at → set_by (thread_before program nodes lines acts node at) deed ≡ Some name
    name_of name sets = ap (set_by (thread_before program nodes lines acts node at)) (Does-one_deed does sets.does) ∙ sets.sets

    pub own_lasts : (name_is : Option ℕ) (lasts : List (Option ℕ)) → set_by (thread_before program nodes lines acts node at) deed ≡ name_is
        → AreLastSets program nodes lines acts node at lasts → AreLastSets program nodes lines acts node (at + 1) (noted at name_is lasts)
    own_lasts None lasts e old = record {
      long = old.long;
      each = λ name lt. kept name (slice_index_or lasts name None) (λ sets. let both : None ≡ Some name = sym e ∙ name_of name sets in cc) (old.each name lt);
    }
    own_lasts (Some m) lasts e old =
        let long = old.long in
        record {
          long = length-set lasts m (Some at) ∙ long;
          each = λ name lt.
              elim (cases_eq name m) [
                | inl same ↦
                    let inside : m < length lasts = omega arith in
                    let now : Some at ≡ slice_index_or (set lasts m (Some at)) name None =
                    sym (get_or-set_same lasts m (Some at) None inside) ∙ ap (λ n. get_or (set lasts m (Some at)) n None) (sym same) in
                    subst (IsLastSet program nodes lines acts node name (at + 1)) now (here name (sets_name name (e ∙ ap (λ n. Some n) (sym same))))
                | inr other ↦
                    let now : slice_index_or lasts name None ≡ slice_index_or (set lasts m (Some at)) name None =
                    sym (get_or-set_other lasts m name (Some at) None other) in
                    subst (IsLastSet program nodes lines acts node name (at + 1)) now
                    (kept name (slice_index_or lasts name None) (λ sets. other (sym (same_Some m name (sym e ∙ name_of name sets)))) (old.each name lt))
              ];
        }

  -- another node acts there
  pub other_lasts : (act_node : ℕ) (deed : Deed) (lasts : List (Option ℕ)) → Does acts at act_node deed → (act_node ≡ node → ⊥)
      → AreLastSets program nodes lines acts node at lasts → AreLastSets program nodes lines acts node (at + 1) lasts
  other_lasts act_node deed lasts does other old = record {
    long = old.long;
    each = λ name lt. kept name (slice_index_or lasts name None) (λ sets. other (Does-one_node does sets.does)) (old.each name lt);
  }

-- what an act that was read does
pub Does-here : (acts : List Act) (at : ℕ) (act : Act) → at < length acts → act ≡ get_or acts at act → Does acts at act.node act.deed
Does-here acts at act within is = record { stands = slice_get_read acts (length acts) at act refl within is }

-- at the beginning no name is set
pub none_set : (program : Program) (nodes : ℕ) (lines : List ℕ) (acts : List Act) (node : ℕ) (lasts : List (Option ℕ)) → length lasts ≡ 32
    → ((name : ℕ) → slice_index_or lasts name None ≡ None) → AreLastSets program nodes lines acts node 0 lasts
none_set program nodes lines acts node lasts long none = record {
  long = long;
  each = λ name lt. subst (IsLastSet program nodes lines acts node name 0) (sym (none name)) (λ k below sets. omega arith);
}
