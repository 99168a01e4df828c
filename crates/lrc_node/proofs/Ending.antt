-- How a node ended, by its log.
use Rattle.std.proofs.Common.{◌≡◌, ◌∙◌, ℕ, zero, suc, List, [], ◌∷◌, ◌++◌, Option, None, Some, refl, sym, ap}
use Rattle.std.specs.Prelude.{filter_map, slice_get, take}
use Rattle.std.specs.List.{last_or, cons_option}
use Rattle.std.proofs.lemmas.Option.{same_Some}
use Rattle.std.proofs.lemmas.List.{append-nil}
use Rattle.std.proofs.lemmas.List.Elements.{filter_map-append}
use Rattle.lrc_trace.specs.declared.act.Act.{Act}
use Rattle.lrc_protocol.specs.Run.{EntryRecord}
use Rattle.lrc_trace.specs.declared.end.End.{End}
use Rattle.lrc_node.specs.Logged.{end_by, ended_by, end_next}

last_snoc : {A : Type 0} (o : Option A) (xs : List A) (x : A) → last_or o (xs ++ x ∷ []) ≡ Some x
last_snoc o [] x = refl
last_snoc o (y ∷ ys) x = last_snoc (Some y) ys x

take_get : {A : Type 0} (xs : List A) (i : ℕ) (x : A) → slice_get xs i ≡ Some x → take (suc i) xs ≡ take i xs ++ x ∷ []
take_get [] i x e = cc
take_get (y ∷ ys) zero x e = ap (λ z. z ∷ []) (same_Some y x e)
take_get (y ∷ ys) (suc i) x e = ap (λ zs. y ∷ zs) (take_get ys i x e)

by_next : (xs : List Act) (act : Option Act) → end_by (last_or None (xs ++ cons_option act [])) ≡ end_next (end_by (last_or None xs)) act
by_next xs None = ap (λ ys. end_by (last_or None ys)) (append-nil xs)
by_next xs (Some a) = ap end_by (last_snoc None xs a)

abbrev act_of : EntryRecord → Option Act
act_of entry = entry.turn.act

-- one turn more
pub ended_more : (log : List EntryRecord) (i : ℕ) (entry : EntryRecord) (next : End) → slice_get log i ≡ Some entry
    → next ≡ end_next (ended_by (take i log)) entry.turn.act → next ≡ ended_by (take (suc i) log)
ended_more log i entry next at is =
    is ∙ sym (ap ended_by (take_get log i entry at) ∙ ap (λ xs. end_by (last_or None xs)) (filter_map-append act_of (take i log) (entry ∷ []))
    ∙ by_next (filter_map act_of (take i log)) entry.turn.act)
