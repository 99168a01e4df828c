-- Events on lines of their own.
use Rattle.std.proofs.Common.{◌≡◌, ℕ, ◌<◌, List, length, get_or, inl, inr, sym, subst, ap, ◌∙◌, arith}
use Rattle.std.specs.Prelude.{◌↔◌, IsTrue, MatchOption, Option, Some, None}
use Rattle.std.proofs.lemmas.Bool.{cases_eq, cases_lt}
use Rattle.std.proofs.lemmas.Option.{slice_get-get_or}
use Rattle.lrc_races_trace.specs.declared.event.Event.{Event}
use Rattle.lrc_races_trace.specs.Trace.{At, Accesses, Writes}
use Rattle.lrc_races_trace.proofs.Positions.{At-one, At-within}
use Rattle.lrc_races_witness.specs.declared.relation.Access.{Access}
use Rattle.lrc_races_witness.specs.Relations.{AreByLine, HasNoAccess, IsThatOn}

-- an event that is on another line
pub not_here : (events : List Event) (n : ℕ) (d : Event) → n < length events → (line : ℕ) → ((get_or events n d).line ≡ line → ⊥)
    → (e : Event) → At events n e → e.line ≡ line → ⊥
not_here events n d lt line other e at on =
    let same : get_or events n d ≡ e = At-one (record { is = slice_get-get_or events n d lt }) at in
    other (ap (λ (x : Event). x.line) same ∙ on)

module _ (events : List Event) (by_line : AreByLine events) where
  -- an earlier event stands on a lesser line
  pub line_below : {p q : ℕ} {a b : Event} → p < q → At events p a → At events q b → a.line < b.line
  line_below {p} {q} {a} {b} lt at there =
      let within = At-within there in
      let below = by_line p q a lt within in
      let one : get_or events p a ≡ a = At-one (record { is = slice_get-get_or events p a (omega arith) }) at in
      let other : get_or events q a ≡ b = At-one (record { is = slice_get-get_or events q a within }) there in
      let e = ap (λ (x : Event). x.line) one in
      let f = ap (λ (x : Event). x.line) other in
      omega arith

  -- a line has one event
  pub one_line : {p q : ℕ} {a b : Event} → At events p a → At events q b → a.line ≡ b.line → p ≡ q
  one_line {p} {q} at there same =
      elim (cases_lt p q) [
        | inl below ↦ let lt = line_below below at there in absurd (omega arith)
        | inr above ↦
            elim (cases_eq p q) [
              | inl e ↦ e
              | inr other ↦ let lt = line_below (let l : q < p = omega arith in l) there at in absurd (omega arith)
            ]
      ]

  -- the line of an event that accesses nothing is no access
  pub no_access : {p line : ℕ} {a : Event} → At events p a → a.line ≡ line → ((v : ℕ) → Accesses a v → ⊥) → HasNoAccess events line
  no_access {p} {line} {a} at on none q v b is =
      let same : q ≡ p = one_line is.at at (is.on ∙ sym on) in
      let e : b ≡ a = At-one (subst (λ m. At events m b) same is.at) at in
      none v (subst (λ x. Accesses x v) e is.accesses)

  -- the access that an event is, is that on its line
  pub found : (p line : ℕ) (a : Event) → At events p a → a.line ≡ line → (o : Option Access)
      → MatchOption o ((v : ℕ) → Accesses a v → ⊥) (λ access. (access.position ≡ p) × (access.thread ≡ a.thread)
      × Accesses a access.variable × (IsTrue access.is_write ↔ Writes a access.variable))
      → MatchOption o (HasNoAccess events line) (IsThatOn events line)
  found p line a at on None none = no_access at on none
  found p line a at on (Some access) (place, of, accesses, writes) = record {
    event = a;
    is = record { at = subst (λ m. At events m a) (sym place) at; on = on; accesses = accesses };
    of = sym of;
    writes = writes;
  }

  -- where both lines are accesses, the lesser has the earlier one
  pub in_order : {first second : ℕ} {one other : Access} → first < second → IsThatOn events first one → IsThatOn events second other
      → one.position < other.position
  in_order {first} {second} {one} {other} lt is is' =
      elim (cases_lt one.position other.position) [
        | inl below ↦ below
        | inr above ↦
            let on = is.is.on in
            let on' = is'.is.on in
            elim (cases_eq other.position one.position) [
              | inl same ↦
                  let e : is'.event ≡ is.event = At-one (subst (λ m. At events m is'.event) same is'.is.at) is.is.at in
                  let f = ap (λ (x : Event). x.line) e in
                  absurd (omega arith)
              | inr apart ↦
                  let below = line_below (let l : other.position < one.position = omega arith in l) is'.is.at is.is.at in
                  absurd (omega arith)
            ]
      ]
