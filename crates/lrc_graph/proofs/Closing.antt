-- The places from which edges lead to some: what is reached against the edges, place by place.
use Rattle.std.proofs.Common.{◌≡◌, ℕ, ◌+◌, ◌<◌, ◌≤◌, ◌⊎◌, List, inl, inr, Bool, true, false, length, get_or, sym, ◌∙◌, subst, arith}
use Rattle.std.specs.Prelude.{◌↔◌, Contains, Some, Vec, slice_get}
use Rattle.std.specs.declared.alloc.Global.{Global}
use Rattle.std.proofs.lemmas.Bool.{cases_eq, cases_lt}
use Rattle.std.proofs.lemmas.List.{get_or_default, get_or_past}
use Rattle.std.proofs.lemmas.List.Sums.{count_by-le-length}
use Rattle.std.proofs.lemmas.Option.{same_Some}
use Rattle.lrc_graph.specs.declared.graph.Graph.{Graph}
use Rattle.lrc_graph.specs.declared.reached.Reached.{Reached}
use Rattle.lrc_graph.specs.Graph.{HasEdge, LeadsTo, here, on, LeadsToSome, place_count}
use Rattle.lrc_graph.specs.Reached.{Adds, AreListed, Has}

-- the places reached so far lead to some end, the ends are among them, and so is from where an edge leads to one of the first so many
pub record Closing (graph : Graph) (ends : List Bool) (reached : Reached) (index : ℕ) : Type 0 where
  pub listed : AreListed reached
  pub size : length reached.is.items ≡ place_count graph
  pub within : index ≤ length reached.places.items
  pub sound : (place : ℕ) → Has reached place → LeadsToSome graph ends place
  pub has_ends : (place : ℕ) → get_or ends place false ≡ true → Has reached place
  pub closed : (k : ℕ) → k < index → (from : ℕ) → HasEdge graph from (get_or reached.places.items k 0) → Has reached from

pub closing_first : (graph : Graph) (ends : List Bool) (reached : Reached) → AreListed reached → length reached.is.items ≡ length ends
    → length ends ≡ place_count graph → ((place : ℕ) → (Has reached place ↔ (get_or ends place false ≡ true))) → Closing graph ends reached 0
closing_first graph ends reached l size count exact = record {
  listed = l;
  size = size ∙ count;
  within = omega arith;
  sound = λ place has. record { to = place; is = (exact place).0 has; leads = here place };
  has_ends = λ place is. (exact place).1 is;
  closed = λ k lt. absurd (omega (arith, lt));
}

module _ (graph : Graph) (ends : List Bool) (reached : Reached) (index : ℕ) (c : Closing graph ends reached index) where
  pub place_within : (place : ℕ) → Has reached place → place < place_count graph
  place_within place has =
      elim (within_or place) [
        | inl lt ↦ lt
        | inr none ↦ let e : false ≡ true = sym none ∙ has in cc
      ]
    where
      within_or : (p : ℕ) → (p < place_count graph) ⊎ (get_or reached.is.items p false ≡ false)
      within_or p = elim (cases_lt p (length reached.is.items)) [
        | inl lt ↦ inl (let size = c.size in omega (arith, lt, size))
        | inr past ↦ inr (get_or_past reached.is.items p false past)
      ]

  -- no more are listed than there are places
  pub few_listed : length reached.places.items ≤ place_count graph
  few_listed =
      let count = c.listed.count in
      let few = count_by-le-length (λ b. b) reached.is.items in
      let size = c.size in
      omega (arith, count, few, size)

  module _ (new : Reached) (before : Vec ℕ Global) (lt : index < length reached.places.items)
      (there : slice_get graph.before.items (get_or reached.places.items index 0) ≡ Some before) (l : AreListed new)
      (a : Adds reached new (Contains before.items)) where
    abbrev place : ℕ
    place = get_or reached.places.items index 0

    sound_now : (p : ℕ) → Has new p → LeadsToSome graph ends p
    sound_now p has = elim ((a.exact p).0 has) [
      | inl had ↦ c.sound p had
      | inr listed ↦
          let further = c.sound place (c.listed.known index lt) in
          record {
            to = further.to;
            is = further.is;
            leads = on p place further.to (record { before = before; there = there; listed = listed }) further.leads;
          }
    ]

    closed_now : (k : ℕ) → k < index + 1 → (from : ℕ) → HasEdge graph from (get_or new.places.items k 0) → Has new from
    closed_now k less from edge =
        let bound = c.within in
        let was : HasEdge graph from (get_or reached.places.items k 0) =
        subst (HasEdge graph from) (a.stays k (omega (arith, less, lt))) edge in
        elim (cases_eq k index) [
          | inl same ↦
              let now : HasEdge graph from place = subst (λ n. HasEdge graph from (get_or reached.places.items n 0)) same was in
              let is : now.before ≡ before = same_Some now.before before (sym now.there ∙ there) in
              (a.exact from).1 (inr (subst (λ (v : Vec ℕ Global). Contains v.items from) is now.listed))
          | inr apart ↦ (a.exact from).1 (inl (c.closed k (omega (arith, less, apart)) from was))
        ]

    pub closing_on : Closing graph ends new (index + 1)
    closing_on = record {
      listed = l;
      size = a.size ∙ c.size;
      within = let longer = a.longer in omega (arith, lt, longer);
      sound = sound_now;
      has_ends = λ p is. (a.exact p).1 (inl (c.has_ends p is));
      closed = closed_now;
    }

  -- past all that are listed: those from which edges lead to an end are reached
  module _ (past : length reached.places.items ≤ index) where
    reached_by : {from to : ℕ} → LeadsTo graph from to → get_or ends to false ≡ true → Has reached from
    reached_by (here place) is = c.has_ends place is
    reached_by (on from mid to edge more) is =
        let at = c.listed.listed mid (reached_by more is) in
        let lt = at.1 in
        let same : get_or reached.places.items at.0 0 ≡ mid = get_or_default reached.places.items at.0 0 mid at.1 ∙ at.2 in
        c.closed at.0 (omega (arith, lt, past)) from (subst (HasEdge graph from) (sym same) edge)

    pub all_reached : (from : ℕ) → (Has reached from ↔ LeadsToSome graph ends from)
    all_reached from = (λ has. c.sound from has, λ leads. reached_by leads.leads leads.is)
