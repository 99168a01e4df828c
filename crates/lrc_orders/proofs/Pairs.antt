-- Pairs of nodes that do not meet.
use Rattle.std.proofs.Common.{◌≡◌, ℕ, ◌+◌, ◌<◌, ◌≤◌, Bool, true, false, ◌⊎◌, inl, inr, length, refl, sym, subst, ◌∙◌, ap, arith}
use Rattle.std.specs.Prelude.{Some, None, IsTrue, ◌||◌}
use Rattle.std.proofs.lemmas.Bool.{cases_eq, cases_lt}
use Rattle.std.proofs.lemmas.List.{length-map}
use Rattle.std.proofs.lemmas.Option.{some_pair_parts, option_and_then_some}
use Rattle.lrc_exec.specs.declared.spot.Flat.{Flat}
use Rattle.lrc_exec.specs.Meaning.{next_of}
use Rattle.lrc_exec.specs.Plain.{Plain, thread_in}
use Rattle.lrc_exec.specs.Spots.{spot_thread}
use Rattle.lrc_exec.proofs.PlainParts.{thread_within}
use Rattle.lrc_exec.specs.declared.state.State.{State}
use Rattle.lrc_exec.specs.States.{plain_at}
use Rattle.lrc_orders.specs.Meeting.{access_of, next_access, Meet, IsCalm, IsLeastPair, IsPartner, HasNoPartner}

-- no node below the bound meets a higher one
abbrev pub CalmBelow : Plain → ℕ → Type 0
CalmBelow machine bound = (p q : ℕ) → p < bound → p < q → Meet machine p q → ⊥

swap : (a b : Bool) → IsTrue (a || b) → IsTrue (b || a)
swap true true e = refl
swap true false e = refl
swap false true e = refl
swap false false e = e

-- a node that accesses a word is one of the nodes
access_within : (machine : Plain) (p : ℕ) (x : ℕ × Bool) → next_access machine p ≡ Some x → p < length machine.threads
access_within machine p x e = option_and_then_some (λ t. access_of (next_of t)) (thread_in machine p) x e (λ t at is. thread_within machine p t at)

swapped : (machine : Plain) (p q : ℕ) → Meet machine p q → Meet machine q p
swapped machine p q meet = record {
  apart = λ e. meet.apart (sym e);
  word = meet.word;
  first_writes = meet.second_writes;
  second_writes = meet.first_writes;
  first = meet.second;
  second = meet.first;
  writes = swap meet.first_writes meet.second_writes meet.writes;
}

-- what a node meets is its partner
partner_of : (machine : Plain) (p q word : ℕ) (also : Bool) → Some (word, also) ≡ next_access machine p → Meet machine p q
    → IsPartner machine q word also
partner_of machine p q word also is meet =
    let parts = some_pair_parts meet.word word meet.first_writes also (sym meet.first ∙ sym is) in
    record {
      writes = meet.second_writes;
      access = meet.second ∙ ap (λ w. Some (w, meet.second_writes)) parts.0;
      either = subst (λ b. IsTrue (b || meet.second_writes)) parts.1 meet.writes;
    }

-- a node and its lowest partner, where no lower node meets a higher one
module _ (machine : Plain) (p q word : ℕ) (also : Bool) (calm : CalmBelow machine p) (is : Some (word, also) ≡ next_access machine p)
    (none : HasNoPartner machine p q word also) where
  least_higher : (a b : ℕ) → a < b → Meet machine a b → (p < a) ⊎ ((p ≡ a) × (q ≤ b))
  least_higher a b lt meet = elim (cases_lt a p) [
    | inl below ↦ absurd (calm a b below lt meet)
    | inr le ↦ elim (cases_eq p a) [
      | inl same ↦
          inr (
            same,
            (elim (cases_lt b q) [
              | inl before ↦
                  absurd (none b (omega (arith, lt, same)) before
                  (partner_of machine p b word also is (subst (λ x. Meet machine x b) (sym same) meet)))
              | inr late ↦ late
            ]),
          )
      | inr apart ↦ inl (omega (arith, le, apart))
    ]
  ]

  pub least_pair : IsLeastPair machine p q
  least_pair a b meet = elim (cases_lt a b) [
    | inl lt ↦ least_higher a b lt meet
    | inr le ↦
        let lt : b < a = let apart = meet.apart in (elim (cases_eq b a) [
          | inl same ↦ absurd (apart (sym same))
          | inr other ↦ omega (arith, le, other)
        ]) in
        elim (least_higher b a lt (swapped machine a b meet)) [
          | inl above ↦ inl (omega (arith, above, lt))
          | inr at ↦ let same = at.0 in inl (omega (arith, same, lt))
        ]
  ]

pub all_calm : (flat : Flat) (state : State) (bound : ℕ) → length state.spots.items ≡ bound → CalmBelow (plain_at flat state) bound
    → IsCalm (plain_at flat state)
all_calm flat state bound long calm p q meet =
    let machine = plain_at flat state in
    let one = access_within machine p (meet.word, meet.first_writes) meet.first in
    let two = access_within machine q (meet.word, meet.second_writes) meet.second in
    let size = length-map state.spots.items (spot_thread flat) in
    elim (cases_lt p q) [
      | inl lt ↦ calm p q (omega arith) lt meet
      | inr le ↦ elim (cases_eq p q) [
        | inl same ↦ meet.apart same
        | inr apart ↦ calm q p (omega arith) (omega arith) (swapped machine p q meet)
      ]
    ]

-- one node more, that accesses nothing
pub calm_more_none : (machine : Plain) (bound : ℕ) → CalmBelow machine bound → None ≡ next_access machine bound → CalmBelow machine (bound + 1)
calm_more_none machine bound calm none p q lt less meet = elim (cases_eq p bound) [
  | inl same ↦
      let e : next_access machine bound ≡ Some (meet.word, meet.first_writes) =
      subst (λ x. next_access machine x ≡ Some (meet.word, meet.first_writes)) same meet.first in
      let x : None ≡ Some (meet.word, meet.first_writes) = none ∙ e in cc
  | inr apart ↦ calm p q (omega arith) less meet
]

-- one that accesses a word and has no partner
pub calm_more : (flat : Flat) (state : State) (bound word : ℕ) (also : Bool) → CalmBelow (plain_at flat state) bound
    → Some (word, also) ≡ next_access (plain_at flat state) bound
    → HasNoPartner (plain_at flat state) bound (length state.spots.items) word also → CalmBelow (plain_at flat state) (bound + 1)
calm_more flat state bound word also calm is alone p q lt less meet = elim (cases_eq p bound) [
  | inl same ↦
      let machine = plain_at flat state in
      let e : next_access machine bound ≡ Some (meet.word, meet.first_writes) =
      subst (λ x. next_access machine x ≡ Some (meet.word, meet.first_writes)) same meet.first in
      let parts = some_pair_parts meet.word word meet.first_writes also (sym e ∙ sym is) in
      let within = access_within machine q (meet.word, meet.second_writes) meet.second in
      alone q (omega arith) (omega (arith, length-map state.spots.items (spot_thread flat))) (record {
        writes = meet.second_writes;
        access = meet.second ∙ ap (λ w. Some (w, meet.second_writes)) parts.0;
        either = subst (λ b. IsTrue (b || meet.second_writes)) parts.1 meet.writes;
      })
  | inr apart ↦ calm p q (omega arith) less meet
]

-- one node more that is no partner
pub none_more : (machine : Plain) (node bound word other : ℕ) (also writes : Bool) → HasNoPartner machine node bound word writes
    → Some (other, also) ≡ next_access machine bound → (other ≡ word → IsTrue (writes || also) → ⊥) → HasNoPartner machine node (bound + 1) word writes
none_more machine node bound word other also writes none is apart q above lt partner = elim (cases_eq q bound) [
  | inl same ↦
      let e : next_access machine bound ≡ Some (word, partner.writes) = subst (λ x. next_access machine x ≡ Some (word, partner.writes)) same partner.access in
      let parts = some_pair_parts other word also partner.writes (is ∙ e) in
      apart parts.0 (subst (λ b. IsTrue (writes || b)) (sym parts.1) partner.either)
  | inr before ↦ none q above (omega arith) partner
]

pub none_more_none : (machine : Plain) (node bound word : ℕ) (writes : Bool) → HasNoPartner machine node bound word writes
    → None ≡ next_access machine bound → HasNoPartner machine node (bound + 1) word writes
none_more_none machine node bound word writes none is q above lt partner = elim (cases_eq q bound) [
  | inl same ↦
      let e : next_access machine bound ≡ Some (word, partner.writes) = subst (λ x. next_access machine x ≡ Some (word, partner.writes)) same partner.access in
      let x : None ≡ Some (word, partner.writes) = is ∙ e in cc
  | inr before ↦ none q above (omega arith) partner
]
