-- The list of what is on the way shows the sure race.
use Rattle.std.proofs.Common.{◌≡◌, ℕ, List, [], ◌∷◌, ◌++◌, sym, subst, ap, ◌∙◌}
use Rattle.lrc_races_trace.specs.declared.event.Event.{Event}
use Rattle.lrc_races_trace.specs.Formed.{IsWellFormed}
use Rattle.lrc_races_sure.specs.Reordering.{AreOnTheWay, IsReordering}
use Rattle.lrc_races_sure.proofs.Taking.{positions, list, on_the_way, reordered}
use Rattle.lrc_races_sure.proofs.Formed.{list_formed}
use Rattle.lrc_races_witness.specs.Showing.{Shows}
use Rattle.lrc_races_witness.proofs.Ascending.{same_lists}

-- there is one such list
one_way : (events : List Event) (i j : ℕ) (ps qs : List ℕ) → AreOnTheWay events i j ps → AreOnTheWay events i j qs → ps ≡ qs
one_way events i j ps qs one other =
    let same = same_lists one.front other.front one.ascending other.ascending (λ p has. (other.exact p).1 ((one.exact p).0 has))
    (λ p has. (one.exact p).1 ((other.exact p).0 has)) in
    one.is ∙ ap (λ xs. xs ++ (i ∷ j ∷ [])) same ∙ sym other.is

pub shows : (events : List Event) (i j : ℕ) (ps : List ℕ) → AreOnTheWay events i j ps → Shows events i j ps
shows events i j ps way = record {
  way = way;
  shows = λ r.
      subst (λ qs. (told : List Event) × IsReordering events i j qs told × (IsWellFormed events → IsWellFormed told))
      (one_way events i j (positions events i j r) ps (on_the_way events i j r) way)
      (list events i j r, reordered events i j r, λ formed. list_formed events i j r formed);
}
