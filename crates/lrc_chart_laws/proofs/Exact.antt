-- The pages that become invalid at a turn are exactly those whose copies do.
use Rattle.std.proofs.Common.{◌≡◌, ◌∙◌, ℕ, zero, suc, ◌+◌, ◌<◌, ◌≤◌, List, [], ◌∷◌, Bool, true, false, cond, Option, Some, inl, inr, refl, sym, ap, ap₂, subst, arith, get_or, length, zero-add}
use Rattle.std.specs.Prelude.{◌&&◌, ◌↔◌, All, Contains, filter, slice_get}
use Rattle.std.specs.List.{range_with_len}
use Rattle.std.proofs.lemmas.Bool.{cases_lt}
use Rattle.std.proofs.lemmas.List.{get_or_past}
use Rattle.std.proofs.lemmas.List.FromFn.{get_or-range_with_len, length-range_with_len}
use Rattle.lrc_protocol.specs.Pages.{absent, Copy, copy_at, invalid, is_readable, Memory, valid, written}
use Rattle.lrc_protocol.specs.Run.{Logged}
use Rattle.lrc_replay.specs.Turns.{Turn}
use Rattle.lrc_chart_invalid.specs.Invalidated.{becomes_invalid, invalidated, invalidated_at, invalidated_from, is_invalid}
use Rattle.lrc_chart_laws.specs.Told.{BecomesInvalid}

-- ---- lists

-- what a test keeps passes it
kept_here : (p : ℕ → Bool) (x : ℕ) (xs : List ℕ) (b : Bool) → p x ≡ b → (k d : ℕ) → k < length (cond b (x ∷ filter p xs) (filter p xs))
    → ((j : ℕ) → j < length (filter p xs) → p (get_or (filter p xs) j d) ≡ true) → p (get_or (cond b (x ∷ filter p xs) (filter p xs)) k d) ≡ true
kept_here p x xs true is zero d lt rest = is
kept_here p x xs true is (suc k) d lt rest = rest k (omega arith)
kept_here p x xs false is k d lt rest = rest k lt

kept_passes : (p : ℕ → Bool) (xs : List ℕ) (k d : ℕ) → k < length (filter p xs) → p (get_or (filter p xs) k d) ≡ true
kept_passes p [] k d lt = absurd (omega arith)
kept_passes p (x ∷ xs) k d lt = kept_here p x xs (p x) refl k d lt (λ j lt. kept_passes p xs j d lt)

-- and it keeps what passes it
one_more : (y : ℕ) (kept : List ℕ) (x : ℕ) (b : Bool) → Contains kept x → Contains (cond b (y ∷ kept) kept) x
one_more y kept x true c = (suc c.0, omega (arith, c.1), c.2)
one_more y kept x false c = c

keeps : (p : ℕ → Bool) (xs : List ℕ) (k x : ℕ) → k < length xs → get_or xs k x ≡ x → p x ≡ true → Contains (filter p xs) x
keeps p [] k x lt e h = absurd (omega arith)
keeps p (y ∷ xs) zero x lt e h =
    let here : p y ≡ true = ap p e ∙ h in
    subst (λ (b : Bool). Contains (cond b (y ∷ filter p xs) (filter p xs)) x) (sym here) (0, omega arith, e)
keeps p (y ∷ xs) (suc k) x lt e h = one_more y (filter p xs) x (p y) (keeps p xs k x (omega arith) e h)

-- ---- copies

becomes : (before after : Copy) → (is_readable before && is_invalid after) ≡ true → BecomesInvalid before after
becomes (valid v) (invalid w s) e = record { was = inl (v, refl); values = w; since = s; is = refl }
becomes (written v t) (invalid w s) e = record { was = inr (v, t, refl); values = w; since = s; is = refl }
becomes (valid v) (valid w) e = let x : false ≡ true = e in cc
becomes (valid v) (written w t) e = let x : false ≡ true = e in cc
becomes (valid v) absent e = let x : false ≡ true = e in cc
becomes (written v t) (valid w) e = let x : false ≡ true = e in cc
becomes (written v t) (written w u) e = let x : false ≡ true = e in cc
becomes (written v t) absent e = let x : false ≡ true = e in cc
becomes (invalid v s) after e = let x : false ≡ true = e in cc
becomes absent after e = let x : false ≡ true = e in cc

passes : (before after : Copy) → BecomesInvalid before after → becomes_invalid before after ≡ true
passes before after b = elim b.was [
  | inl was ↦ ap₂ becomes_invalid was.1 b.is
  | inr was ↦ ap₂ becomes_invalid was.2 b.is
]

-- there is a copy of the page
has_copy : (memory : Memory) (page : ℕ) (values since : List ℕ) → copy_at memory page ≡ invalid values since → page < length memory.copies
has_copy memory page values since is = elim (cases_lt page (length memory.copies)) [
  | inl lt ↦ lt
  | inr past ↦ let never : absent ≡ invalid values since = sym (get_or_past memory.copies page absent past) ∙ is in cc
]

module _ (before after : Memory) (page : ℕ) where
  abbrev test : ℕ → Bool
  test page = becomes_invalid (copy_at before page) (copy_at after page)

  abbrev pages : List ℕ
  pages = range_with_len 0 (length after.copies)

  exact : Contains (invalidated before after) page ↔ BecomesInvalid (copy_at before page) (copy_at after page)
  exact = (
    λ c. becomes (copy_at before page) (copy_at after page) (ap test (sym c.2) ∙ kept_passes test pages c.0 page c.1),
    λ b.
        let within = has_copy after page b.values b.since b.is in
        keeps test pages page page (subst (λ n. page < n) (sym (length-range_with_len 0 (length after.copies))) within)
        (get_or-range_with_len 0 (length after.copies) page page within ∙ zero-add page) (passes (copy_at before page) (copy_at after page) b),
  )

pub exact_at : (turn : Turn) (l : Logged) (page : ℕ) → slice_get turn.before.nodes turn.node ≡ Some l
    → Contains (invalidated_at turn) page ↔ BecomesInvalid (copy_at l.node.memory page) (copy_at turn.after.memory page)
exact_at turn l page there =
    subst (λ (o : Option Logged). Contains (invalidated_from o turn.after.memory) page ↔ BecomesInvalid (copy_at l.node.memory page) (copy_at turn.after.memory page))
    (sym there) (exact l.node.memory turn.after.memory page)
