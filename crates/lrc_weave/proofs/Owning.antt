-- The owner's entries of a history, turn by turn.
use Rattle.std.proofs.Common.{◌≡◌, ℕ, ◌+◌, ◌<◌, ◌↔◌, Bool, true, false, IsTrue, List, [], ◌∷◌, ◌++◌, length, map, filter, take, drop}
use Rattle.std.proofs.Common.{refl, sym, ap, subst, ◌∙◌, append-nil, append_assoc}
use Rattle.std.specs.Prelude.{Option, Some, None, is_none, flat_map, position, slice_index_or, ◌==◌}
use Rattle.std.proofs.lemmas.List.{append_cancel_left, map-append, take-append-drop}
use Rattle.std.proofs.lemmas.List.Elements.{filter-append}
use Rattle.std.proofs.lemmas.Grind.{flat_map-append}
use Rattle.std.proofs.Math.Seq.{take-length}
use Rattle.lrc_envelope.specs.Envelope.{EnvelopeRecord}
use Rattle.lrc_post.specs.declared.parcel.Wire.{Wire}
use Rattle.lrc_protocol.specs.Run.{Input, EntryRecord}
use Rattle.lrc_weave.specs.Matched.{is_own, is_put, own_in, own_of, own_puts, own_takes}
use Rattle.lrc_weave.specs.Compared.{AreOwn, AreOwnNext, IsNextOwn}
use Rattle.lrc_weave.proofs.Firsts.{first_kept, none_kept}
use Rattle.lrc_weave.proofs.Places.{nothing, read, taken_more}

-- ---- the next entries

-- these entries, then those
next_then : (a b old mid new : List Bool) (is : Bool) → AreOwnNext a old mid true → AreOwnNext b mid new is → AreOwnNext (a ++ b) old new is
next_then a b old mid new true first then = first ∙ ap (λ xs. a ++ xs) then ∙ sym (append_assoc a b new)
next_then a b old mid new false first then = λ more e.
    then more (append_cancel_left a mid (b ++ more) (sym first ∙ e ∙ append_assoc a b more))

-- what is not next is not so with more behind it
next_not : (a b old mid new : List Bool) → AreOwnNext a old mid false → AreOwnNext (a ++ b) old new false
next_not a b old mid new apart = λ more e. apart (b ++ more) (e ∙ append_assoc a b more)

-- the same of what elements make
module _ {X : Type 0} (f : List X → List Bool) (hom : (xs ys : List X) → f (xs ++ ys) ≡ f xs ++ f ys) (xs : List X) (k : ℕ) (x : X)
    (old mid new : List Bool) (within : k < length xs) (is : x ≡ slice_index_or xs k x) (before : AreOwnNext (f (take k xs)) old mid true) where
  longer : f (take (k + 1) xs) ≡ f (take k xs) ++ f (x ∷ [])
  longer = ap f (taken_more xs k x (read xs k x within is)) ∙ hom (take k xs) (x ∷ [])

  more : AreOwnNext (f (x ∷ [])) mid new true → AreOwnNext (f (take (k + 1) xs)) old new true
  more this =
      subst (λ bs. AreOwnNext bs old new true) (sym longer) (next_then (f (take k xs)) (f (x ∷ [])) old mid new true before this)

  no_more : AreOwnNext (f (x ∷ [])) mid new false → AreOwnNext (f xs) old new false
  no_more this =
      subst (λ bs. AreOwnNext bs old new false) (sym (hom (take (k + 1) xs) (drop (k + 1) xs)) ∙ ap f (take-append-drop (k + 1) xs))
      (next_not (f (take (k + 1) xs)) (f (drop (k + 1) xs)) old new new
      (subst (λ bs. AreOwnNext bs old new false) (sym longer) (next_then (f (take k xs)) (f (x ∷ [])) old mid new false before this)))

-- ---- one entry

pub own_next : (owner : ℕ) (history rest : List Wire) (i : ℕ) (d : Wire) (put : Bool) → position (is_own owner) history ≡ Some i
    → put ≡ is_put (slice_index_or history i d) → rest ≡ drop (i + 1) history → IsNextOwn owner history rest (Some put)
own_next owner history rest i d put at is left =
    ap (map is_put) (first_kept (is_own owner) history i d at)
    ∙ ap (λ b. b ∷ own_in owner (drop (i + 1) history)) (sym is) ∙ ap (λ xs. put ∷ own_in owner xs) (sym left)

pub no_own : (owner : ℕ) (history rest : List Wire) → position (is_own owner) history ≡ None → IsNextOwn owner history rest None
no_own owner history rest none = ap (map is_put) (none_kept (is_own owner) history none)

-- ---- the puts of a turn

puts_apart : (owner : ℕ) (xs ys : List EnvelopeRecord) → own_puts owner (xs ++ ys) ≡ own_puts owner xs ++ own_puts owner ys
puts_apart owner xs ys =
    ap (map (λ (e : EnvelopeRecord). true)) (filter-append (λ (e : EnvelopeRecord). e.to == owner) xs ys)
    ∙ map-append (λ (e : EnvelopeRecord). true) (filter (λ (e : EnvelopeRecord). e.to == owner) xs)
    (filter (λ (e : EnvelopeRecord). e.to == owner) ys)

module _ (owner : ℕ) (out : List EnvelopeRecord) (k : ℕ) (e : EnvelopeRecord) (old mid new : List Bool) (b : Bool) (within : k < length out)
    (is : e ≡ slice_index_or out k e) (before : AreOwnNext (own_puts owner (take k out)) old mid true)
    (this : AreOwnNext (own_puts owner (e ∷ [])) mid new b) where
  pub puts_more : b ≡ true → AreOwnNext (own_puts owner (take (k + 1) out)) old new true
  puts_more is_so =
      more (own_puts owner) (puts_apart owner) out k e old mid new within is before
      (subst (AreOwnNext (own_puts owner (e ∷ [])) mid new) is_so this)

  pub puts_not : b ≡ false → AreOwnNext (own_puts owner out) old new false
  puts_not none =
      no_more (own_puts owner) (puts_apart owner) out k e old mid new within is before
      (subst (AreOwnNext (own_puts owner (e ∷ [])) mid new) none this)

-- ---- the turns of a log

module _ (owner : ℕ) (log : List EntryRecord) (history : List Wire) (mid new : List Bool) (k : ℕ) (entry : EntryRecord) (input : Input)
    (out : List EnvelopeRecord) (b : Bool) (within : k < length log) (is : entry ≡ slice_index_or log k entry)
    (before : AreOwnNext (flat_map (own_of owner) (take k log)) (own_in owner history) mid true)
    (this : AreOwnNext (own_takes input ++ own_puts owner out) mid new b) (input_is : input ≡ entry.input) (out_is : out ≡ entry.turn.out) where
  one : own_takes input ++ own_puts owner out ≡ flat_map (own_of owner) (entry ∷ [])
  one =
      ap (λ i. own_takes i ++ own_puts owner out) input_is ∙ ap (λ es. own_takes entry.input ++ own_puts owner es) out_is
      ∙ sym (append-nil (own_of owner entry))

  this_is : (c : Bool) → b ≡ c → AreOwnNext (flat_map (own_of owner) (entry ∷ [])) mid new c
  this_is c e = subst (λ bs. AreOwnNext bs mid new c) one (subst (AreOwnNext (own_takes input ++ own_puts owner out) mid new) e this)

  pub turns_more : b ≡ true → AreOwnNext (flat_map (own_of owner) (take (k + 1) log)) (own_in owner history) new true
  turns_more is_so =
      more (flat_map (own_of owner)) (flat_map-append (own_of owner)) log k entry (own_in owner history) mid new within is before
      (this_is true is_so)

  pub turns_not : b ≡ false → IsTrue false ↔ AreOwn owner log history
  turns_not none = (
    λ e. nothing e,
    λ are.
        absurd
        (no_more (flat_map (own_of owner)) (flat_map-append (own_of owner)) log k entry (own_in owner history) mid new within is before
        (this_is false none) [] (are ∙ sym (append-nil (flat_map (own_of owner) log)))),
  )

pub turns_end : (owner : ℕ) (log : List EntryRecord) (history rest new : List Wire) (k : ℕ) → k ≡ length log
    → AreOwnNext (flat_map (own_of owner) (take k log)) (own_in owner history) (own_in owner rest) true → (o : Option Bool)
    → IsNextOwn owner rest new o → IsTrue (is_none o) ↔ AreOwn owner log history
turns_end owner log history rest new k all before o next = go o next
  where
    whole : own_in owner history ≡ flat_map (own_of owner) log ++ own_in owner rest
    whole =
        subst (λ es. own_in owner history ≡ flat_map (own_of owner) es ++ own_in owner rest) (ap (λ n. take n log) all ∙ take-length log) before

    go : (x : Option Bool) → IsNextOwn owner rest new x → IsTrue (is_none x) ↔ AreOwn owner log history
    go None none = (
      λ yes. whole ∙ ap (λ bs. flat_map (own_of owner) log ++ bs) none ∙ append-nil (flat_map (own_of owner) log),
      λ are. refl,
    )
    go (Some put) some = (
      λ e. nothing e,
      λ are.
          absurd
          (let no : own_in owner rest ≡ [] =
          append_cancel_left (flat_map (own_of owner) log) (own_in owner rest) []
          (sym whole ∙ are ∙ sym (append-nil (flat_map (own_of owner) log))) in
          cc some),
    )
