-- Lines of puts, and what the turns of a log take from them.
use Rattle.std.proofs.Common.{◌≡◌, ℕ, zero, suc, ◌+◌, ◌<◌, ◌↔◌, inl, inr, Bool, true, false, cond, IsTrue, List, [], ◌∷◌, ◌++◌}
use Rattle.std.proofs.Common.{length, map, filter, take, drop, replicate, refl, sym, ap, subst, ◌∙◌, arith, append-nil, append_assoc}
use Rattle.std.specs.Prelude.{Option, Some, Result, Ok, Err, IfOk, slice_get, slice_index_or, slice_set, ◌==◌, ◌&&◌}
use Rattle.std.specs.List.{list_all, range_with_len}
use Rattle.std.proofs.lemmas.Bool.{cases_eq, and_parts, eq-eqb, eqb-true, ne_eqb}
use Rattle.std.proofs.lemmas.List.{append_cancel_left, map-append, take-append-drop, length-map, length-set, length-replicate, get_or-replicate, get_or-set_same, get_or-set_other, ext_get_or, map-set, get_or-map}
use Rattle.std.proofs.lemmas.List.Elements.{filter-append}
use Rattle.std.proofs.lemmas.List.FromFn.{length-range_with_len, get_or-map-range_with_len}
use Rattle.std.proofs.lemmas.Grind.{flat_map-append}
use Rattle.std.proofs.Math.Seq.{take-length}
use Rattle.lrc_envelope.specs.Envelope.{EnvelopeRecord}
use Rattle.lrc_post.specs.declared.parcel.Wire.{Wire}
use Rattle.lrc_post.specs.declared.parcel.Wire.TheVariants.{Put, Took}
use Rattle.lrc_protocol.specs.Run.{EntryRecord, Flying, sent_by}
use Rattle.lrc_weave.specs.Logs.{all_sent, sent_to}
use Rattle.lrc_weave.specs.Matched.{is_put_by, sent_as}
use Rattle.lrc_weave.specs.Compared.{only_to, puts_by_each, with_put, line_at, AreNext, AreAllNext, AreSent}
use Rattle.lrc_weave.proofs.Places.{nothing, read, taken_more}

abbrev Line : Type 0
Line = List (Option Flying)

-- ---- one line

-- these messages, then those
next_then : (a b : List Flying) (old mid new : Line) (is : Bool) → AreNext a old mid true → AreNext b mid new is → AreNext (a ++ b) old new is
next_then a b old mid new true first then =
    first ∙ ap (λ xs. map Some a ++ xs) then ∙ sym (append_assoc (map Some a) (map Some b) new)
    ∙ ap (λ xs. xs ++ new) (sym (map-append Some a b))
next_then a b old mid new false first then = λ more e.
    then more
    (append_cancel_left (map Some a) mid (map Some b ++ more)
    (sym first ∙ e ∙ ap (λ xs. xs ++ more) (map-append Some a b) ∙ append_assoc (map Some a) (map Some b) more))

-- what is not next is not so with more behind it
next_not : (a b : List Flying) (old new : Line) → AreNext a old new false → AreNext (a ++ b) old new false
next_not a b old new apart = λ more e.
    apart (map Some b ++ more) (e ∙ ap (λ xs. xs ++ more) (map-append Some a b) ∙ append_assoc (map Some a) (map Some b) more)

-- ---- all lines

only_apart : (owner : ℕ) (a b : List Flying) → only_to owner (a ++ b) ≡ only_to owner a ++ only_to owner b
only_apart owner a b = filter-append (λ (f : Flying). f.envelope.to == owner) a b

all_then : (a b : List Flying) (old mid new : List Line) (is : Bool) → AreAllNext a old mid true → AreAllNext b mid new is → AreAllNext (a ++ b) old new is
all_then a b old mid new true first then = (
  then.0 ∙ first.0,
  λ owner within.
      subst (λ ms. AreNext ms (line_at old owner) (line_at new owner) true) (sym (only_apart owner a b))
      (next_then (only_to owner a) (only_to owner b) (line_at old owner) (line_at mid owner) (line_at new owner) true (first.1 owner within)
      (then.1 owner (subst (λ n. owner < n) (sym first.0) within))),
)
all_then a b old mid new false first then =
    let within : then.0 < length old = subst (λ n. then.0 < n) first.0 then.1 in (
      then.0,
      within,
      subst (λ ms. AreNext ms (line_at old then.0) [] false) (sym (only_apart then.0 a b))
          (next_then (only_to then.0 a) (only_to then.0 b) (line_at old then.0) (line_at mid then.0) [] false (first.1 then.0 within) then.2),
    )

all_not : (a b : List Flying) (old new : List Line) → AreAllNext a old new false → AreAllNext (a ++ b) old new false
all_not a b old new apart = (
  apart.0,
  apart.1,
  subst (λ ms. AreNext ms (line_at old apart.0) [] false) (sym (only_apart apart.0 a b))
      (next_not (only_to apart.0 a) (only_to apart.0 b) (line_at old apart.0) [] apart.2),
)

-- the same of what elements send
module _ {X : Type 0} (f : List X → List Flying) (hom : (xs ys : List X) → f (xs ++ ys) ≡ f xs ++ f ys) (xs : List X) (k : ℕ) (x : X)
    (old mid new : List Line) (at : slice_get xs k ≡ Some x) (before : AreAllNext (f (take k xs)) old mid true) where
  all_more : AreAllNext (f (x ∷ [])) mid new true → AreAllNext (f (take (k + 1) xs)) old new true
  all_more this =
      subst (λ ms. AreAllNext ms old new true) (sym (ap f (taken_more xs k x at) ∙ hom (take k xs) (x ∷ [])))
      (all_then (f (take k xs)) (f (x ∷ [])) old mid new true before this)

  all_no_more : AreAllNext (f (x ∷ [])) mid new false → AreAllNext (f xs) old new false
  all_no_more this =
      subst (λ ms. AreAllNext ms old new false)
      (sym (hom (take (k + 1) xs) (drop (k + 1) xs)) ∙ ap f (take-append-drop (k + 1) xs))
      (all_not (f (take (k + 1) xs)) (f (drop (k + 1) xs)) old new
      (subst (λ ms. AreAllNext ms old new false) (sym (ap f (taken_more xs k x at) ∙ hom (take k xs) (x ∷ [])))
      (all_then (f (take k xs)) (f (x ∷ [])) old mid new false before this)))

-- ---- one message

for_it : (m : Flying) (owner : ℕ) → m.envelope.to ≡ owner → only_to owner (m ∷ []) ≡ m ∷ []
for_it m owner e = ap (λ b. cond b (m ∷ []) []) (eq-eqb m.envelope.to owner e)

not_for_it : (m : Flying) (owner : ℕ) → (m.envelope.to ≡ owner → ⊥) → only_to owner (m ∷ []) ≡ []
not_for_it m owner ne = ap (λ b. cond b (m ∷ []) []) (ne_eqb m.envelope.to owner ne)

-- it is taken from its receiver's line
pub one_taken : (m : Flying) (to : ℕ) (lines : List Line) (rest : Line) (is : Bool) → m.envelope.to ≡ to → to < length lines
    → AreNext (m ∷ []) (line_at lines to) rest is → AreAllNext (m ∷ []) lines (slice_set lines to rest) is
one_taken m to lines rest true is_to within next = (
  length-set lines to rest,
  λ owner there. elim (cases_eq to owner) [
    | inl e ↦
        subst (λ n. AreNext (only_to n (m ∷ [])) (line_at lines n) (line_at (slice_set lines to rest) n) true) e
        (subst (λ ms. AreNext ms (line_at lines to) (line_at (slice_set lines to rest) to) true) (sym (for_it m to is_to))
        (subst (λ r. AreNext (m ∷ []) (line_at lines to) r true) (sym (get_or-set_same lines to rest [] within)) next))
    | inr ne ↦
        subst (λ ms. AreNext ms (line_at lines owner) (line_at (slice_set lines to rest) owner) true)
        (sym (not_for_it m owner (λ e. ne (sym is_to ∙ e))))
        (sym (get_or-set_other lines to owner rest [] (λ e. ne (sym e))))
  ],
)
one_taken m to lines rest false is_to within next =
    (to, within, subst (λ ms. AreNext ms (line_at lines to) [] false) (sym (for_it m to is_to)) next)

-- as the code keeps the lines
module _ {V : Type 0} (f : V → Line) where
  pub sent_next : (m : Flying) (to : ℕ) (vs later : List V) (d new : V) (E : Type 0) (result : Result Bool E) → m.envelope.to ≡ to → to < length vs
      → later ≡ slice_set vs to new → IfOk result (λ is. AreNext (m ∷ []) (f (slice_index_or vs to d)) (f new) is)
      → IfOk result (λ is. AreAllNext (m ∷ []) (map f vs) (map f later) is)
  sent_next m to vs later d new E (Ok is) is_to within after next =
      subst (λ ls. AreAllNext (m ∷ []) (map f vs) ls is) (sym (ap (map f) after ∙ map-set f vs to new))
      (one_taken m to (map f vs) (f new) is is_to (subst (λ n. to < n) (sym (length-map vs f)) within)
      (subst (λ l. AreNext (m ∷ []) l (f new) is) (sym (get_or-map f vs to d [] within)) next))
  sent_next m to vs later d new E (Err fault) is_to within after next = next

-- ---- the messages of a turn

module _ (stamp : ℕ) (out : List EnvelopeRecord) (k : ℕ) (e : EnvelopeRecord) (old mid new : List Line) (b : Bool) (within : k < length out)
    (is : e ≡ slice_index_or out k e) (before : AreAllNext (map (sent_as stamp) (take k out)) old mid true) (came : ℕ)
    (this : AreAllNext (sent_as came e ∷ []) mid new b) (came_is : came ≡ stamp) where
  next_is : (c : Bool) → b ≡ c → AreAllNext (sent_as stamp e ∷ []) mid new c
  next_is c is_so = subst (λ n. AreAllNext (sent_as n e ∷ []) mid new c) came_is (subst (AreAllNext (sent_as came e ∷ []) mid new) is_so this)

  pub turn_more : b ≡ true → AreAllNext (map (sent_as stamp) (take (k + 1) out)) old new true
  turn_more is_so =
      all_more (map (sent_as stamp)) (map-append (sent_as stamp)) out k e old mid new (read out k e within is) before (next_is true is_so)

  pub turn_not : b ≡ false → AreAllNext (map (sent_as stamp) out) old new false
  turn_not none =
      all_no_more (map (sent_as stamp)) (map-append (sent_as stamp)) out k e old mid new (read out k e within is) before (next_is false none)

-- ---- the turns of a log

sent_not : (log : List EntryRecord) (old new : List Line) → AreAllNext (all_sent log) old new false → IsTrue false ↔ AreSent log old
sent_not log old new apart = (
  λ e. nothing e,
  λ sent. absurd (apart.2 [] (sent apart.0 apart.1 ∙ sym (append-nil (map Some (sent_to apart.0 log))))),
)

module _ (log : List EntryRecord) (old mid new : List Line) (k : ℕ) (entry : EntryRecord) (b : Bool) (within : k < length log)
    (is : entry ≡ slice_index_or log k entry) (before : AreAllNext (all_sent (take k log)) old mid true) (this : AreAllNext (sent_by entry) mid new b) where
  this_is : (c : Bool) → b ≡ c → AreAllNext (all_sent (entry ∷ [])) mid new c
  this_is c e = subst (λ ms. AreAllNext ms mid new c) (sym (append-nil (sent_by entry))) (subst (AreAllNext (sent_by entry) mid new) e this)

  pub log_more : b ≡ true → AreAllNext (all_sent (take (k + 1) log)) old new true
  log_more is_so =
      all_more all_sent (flat_map-append sent_by) log k entry old mid new (read log k entry within is) before (this_is true is_so)

  pub log_not : b ≡ false → IsTrue false ↔ AreSent log old
  log_not none =
      sent_not log old new
      (all_no_more all_sent (flat_map-append sent_by) log k entry old mid new (read log k entry within is) before (this_is false none))

-- nothing is left of any line
module _ {V : Type 0} (f : V → Line) (empty : V → Bool) (means : (v : V) → IsTrue (empty v) ↔ (f v ≡ [])) where
  each_empty : (vs : List V) → list_all empty vs ≡ true → (n : ℕ) → line_at (map f vs) n ≡ []
  each_empty [] all n = refl
  each_empty (v ∷ vs) all zero = (means v).0 (and_parts (empty v) (list_all empty vs) all).0
  each_empty (v ∷ vs) all (suc n) = each_empty vs (and_parts (empty v) (list_all empty vs) all).1 n

  all_empty : (vs : List V) → ((n : ℕ) → n < length vs → line_at (map f vs) n ≡ []) → list_all empty vs ≡ true
  all_empty [] each = refl
  all_empty (v ∷ vs) each =
      ap (λ b. b && list_all empty vs) ((means v).1 (each 0 (omega arith))) ∙ all_empty vs (λ n lt. each (suc n) (omega (arith, lt)))

  pub log_end : (log : List EntryRecord) (old : List Line) (rest : List V) (k : ℕ) (all : Bool) → k ≡ length log
      → AreAllNext (all_sent (take k log)) old (map f rest) true → all ≡ list_all empty rest → IsTrue all ↔ AreSent log old
  log_end log old rest k all whole before is =
      let next : AreAllNext (all_sent log) old (map f rest) true =
      subst (λ l. AreAllNext (all_sent l) old (map f rest) true) (ap (λ n. take n log) whole ∙ take-length log) before in (
        λ yes owner there.
            next.1 owner there ∙ ap (λ xs. map Some (sent_to owner log) ++ xs) (each_empty rest (sym is ∙ yes) owner)
            ∙ append-nil (map Some (sent_to owner log)),
        λ sent.
            is
            ∙ all_empty rest (λ owner there.
            let within : owner < length old = subst (λ n. owner < n) (sym (length-map rest f) ∙ next.0) there in
            append_cancel_left (map Some (sent_to owner log)) (line_at (map f rest) owner) []
            (sym (next.1 owner within) ∙ sent owner within ∙ sym (append-nil (map Some (sent_to owner log))))),
      )

pub empty_is : {V : Type 0} (g : V → Option Flying) (xs : List V) (b : Bool) → b ≡ (length xs == 0) → IsTrue b ↔ (map g xs ≡ [])
empty_is g [] b is = (λ yes. refl, λ none. is)
empty_is g (x ∷ xs) b is = (λ yes. absurd (omega (arith, eqb-true (length (x ∷ xs)) 0 (sym is ∙ yes))), λ none. absurd (let no : map g (x ∷ xs) ≡ [] = none in cc))

-- ---- the lines of a history

pub puts_at : (nodes n : ℕ) (history : List Wire) → n < nodes → slice_index_or (puts_by_each nodes history) n [] ≡ filter (is_put_by n) history
puts_at nodes n history within = get_or-map-range_with_len (λ node. filter (is_put_by node) history) 0 nodes n n [] within (omega arith)

pub puts_count : (nodes : ℕ) (history : List Wire) → length (puts_by_each nodes history) ≡ nodes
puts_count nodes history =
    length-map (range_with_len 0 nodes) (λ node. filter (is_put_by node) history) ∙ length-range_with_len 0 nodes

-- one entry more
pub put_more : (nodes : ℕ) (history : List Wire) (wire : Wire) → with_put (puts_by_each nodes history) wire ≡ puts_by_each nodes (history ++ wire ∷ [])
put_more nodes history (Took me place) =
    let longer = history ++ Took me place ∷ [] in
    ext_get_or [] (puts_by_each nodes history) (puts_by_each nodes longer) (puts_count nodes history ∙ sym (puts_count nodes longer))
    (λ n lt.
    let within : n < nodes = subst (λ k. n < k) (puts_count nodes history) lt in
    puts_at nodes n history within
    ∙ sym (append-nil (filter (is_put_by n) history)) ∙ sym (filter-append (is_put_by n) history (Took me place ∷ []))
    ∙ sym (puts_at nodes n longer within))
put_more nodes history (Put from to stamp bytes) =
    let wire = Put from to stamp bytes in
    let longer = history ++ wire ∷ [] in
    let line = slice_index_or (puts_by_each nodes history) from [] ++ wire ∷ [] in
    let set = slice_set (puts_by_each nodes history) from line in
    let count : length set ≡ nodes = length-set (puts_by_each nodes history) from line ∙ puts_count nodes history in
    ext_get_or [] set (puts_by_each nodes longer) (count ∙ sym (puts_count nodes longer))
    (λ n lt.
    let within : n < nodes = subst (λ k. n < k) count lt in
    elim (cases_eq from n) [
      | inl e ↦
          let here : from < nodes = subst (λ k. k < nodes) (sym e) within in
          let there : from < length (puts_by_each nodes history) = subst (λ k. from < k) (sym (puts_count nodes history)) here in
          subst (λ k. slice_index_or set k [] ≡ slice_index_or (puts_by_each nodes longer) k []) e
          (get_or-set_same (puts_by_each nodes history) from line [] there
          ∙ ap (λ xs. xs ++ wire ∷ []) (puts_at nodes from history here)
          ∙ ap (λ b. filter (is_put_by from) history ++ cond b (wire ∷ []) []) (sym (eq-eqb from from refl))
          ∙ sym (filter-append (is_put_by from) history (wire ∷ [])) ∙ sym (puts_at nodes from longer here))
      | inr ne ↦
          get_or-set_other (puts_by_each nodes history) from n line [] (λ e. ne (sym e))
          ∙ puts_at nodes n history within
          ∙ sym (append-nil (filter (is_put_by n) history))
          ∙ ap (λ b. filter (is_put_by n) history ++ cond b (wire ∷ []) []) (sym (ne_eqb from n ne))
          ∙ sym (filter-append (is_put_by n) history (wire ∷ [])) ∙ sym (puts_at nodes n longer within)
    ])

pub no_puts : (nodes : ℕ) → replicate nodes [] ≡ puts_by_each nodes []
no_puts nodes =
    ext_get_or [] (replicate nodes []) (puts_by_each nodes []) (length-replicate nodes [] ∙ sym (puts_count nodes []))
    (λ n lt.
    let within : n < nodes = subst (λ k. n < k) (length-replicate nodes []) lt in
    get_or-replicate nodes n [] [] within ∙ sym (puts_at nodes n [] within))

-- as the code keeps them
module _ {V W : Type 0} (items : V → List W) (f : W → Wire) where
  abbrev seen : V → List Wire
  seen line = map f (items line)

  pub put_into : (lines : List V) (from to stamp : ℕ) (bytes : List ℕ) (line new : V) (wire : W) → from < length lines
      → line ≡ slice_index_or lines from line → items new ≡ items line ++ wire ∷ [] → f wire ≡ Put from to stamp bytes
      → map seen (slice_set lines from new) ≡ with_put (map seen lines) (f wire)
  put_into lines from to stamp bytes line new wire within is more put =
      map-set seen lines from new
      ∙ ap (slice_set (map seen lines) from)
      (ap (map f) more ∙ map-append f (items line) (wire ∷ [])
      ∙ ap (λ xs. xs ++ f wire ∷ []) (ap seen is ∙ sym (get_or-map seen lines from line [] within)))
      ∙ ap (λ w. slice_set (map seen lines) from (slice_index_or (map seen lines) from [] ++ w ∷ [])) put
      ∙ ap (with_put (map seen lines)) (sym put)

  pub put_next : (nodes : ℕ) (history : List Wire) (k : ℕ) (wire : Wire) (old new : List V) → k < length history → wire ≡ slice_index_or history k wire
      → map seen old ≡ puts_by_each nodes (take k history) → map seen new ≡ with_put (map seen old) wire
      → map seen new ≡ puts_by_each nodes (take (k + 1) history)
  put_next nodes history k wire old new within is before this =
      this ∙ ap (λ ls. with_put ls wire) before ∙ put_more nodes (take k history) wire
      ∙ ap (puts_by_each nodes) (sym (taken_more history k wire (read history k wire within is)))
