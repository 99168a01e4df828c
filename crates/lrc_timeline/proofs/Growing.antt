-- What one act more does to a timeline.
use Rattle.std.proofs.Common.{◌≡◌, ◌≢◌, ◌∙◌, ℕ, suc, ◌<◌, ◌==◌, Bool, List, [], ◌∷◌, ◌++◌, All, ap, ap₂, append_assoc, append-nil, arith}
use Rattle.std.proofs.Common.{cond, get_or, inl, inr, length, map, refl, set, sym}
use Rattle.std.specs.Prelude.{Option, Some, None, option_map}
use Rattle.std.specs.Option.{ForSome}
use Rattle.std.proofs.lemmas.Bool.{cases_eq, eq-eqb, ne_eqb}
use Rattle.std.proofs.lemmas.List.{get_or_append_left, get_or-set_other, get_or-set_same, map-append}
use Rattle.std.proofs.lemmas.List.Sums.{fold-append}
use Rattle.lrc_timeline.specs.declared.timeline.Timeline.{Timeline}
use Rattle.lrc_timeline.specs.Timeline.{IsTimelineOf, KeepsAt, Timed, brought, brought_behind, newest_in, newest_of, times_in}

-- ---- what acts bring

newest_more : (node : ℕ) (acts : List Timed) (act : Timed)
    → newest_of node (acts ++ act ∷ []) ≡ cond (act.node == node) (Some act.time) (newest_of node acts)
newest_more node acts act =
    fold-append (λ (last : Option (List ℕ)) (a : Timed). cond (a.node == node) (Some a.time) last) None acts (act ∷ [])

behind_more : (before acts : List Timed) (act : Timed)
    → brought_behind before (acts ++ act ∷ []) ≡ brought_behind before acts ++ brought (newest_of act.node (before ++ acts)) act.time
behind_more before [] act =
    append-nil (brought (newest_of act.node before) act.time)
    ∙ ap (λ (l : List Timed). brought (newest_of act.node l) act.time) (sym (append-nil before))
behind_more before (first ∷ acts) act =
    let one = brought (newest_of first.node before) first.time in
    ap (λ (l : List (List ℕ)). one ++ l)
    (behind_more (before ++ first ∷ []) acts act
    ∙ ap (λ (l : List Timed). brought_behind (before ++ first ∷ []) acts ++ brought (newest_of act.node l) act.time)
    (append_assoc before (first ∷ []) acts))
    ∙ sym (append_assoc one (brought_behind (before ++ first ∷ []) acts) (brought (newest_of act.node (before ++ first ∷ acts)) act.time))

-- ---- more times are kept

abbrev pub at_places : List (List ℕ) → List ℕ → List (List ℕ)
at_places kept places = map (λ place. get_or kept place []) places

same_times : (kept more : List (List ℕ)) (places : List ℕ) → All (λ place. place < length kept) places
    → at_places (kept ++ more) places ≡ at_places kept places
same_times kept more [] all = refl
same_times kept more (place ∷ places) all =
    ap₂ ◌∷◌ (get_or_append_left kept more [] place (all 0 0 (omega arith)))
    (same_times kept more places (λ k d inside. all (suc k) d (omega (arith, inside))))

same_newest : (kept more : List (List ℕ)) (last : Option ℕ) → ForSome last (λ place. place < length kept)
    → option_map (λ place. get_or (kept ++ more) place []) last ≡ option_map (λ place. get_or kept place []) last
same_newest kept more None is_kept = refl
same_newest kept more (Some place) is_kept = ap Some (get_or_append_left kept more [] place (is_kept place refl))

-- ---- a timeline with one act more

pub one_time_more : {more : List (List ℕ)} {time : List ℕ} {old middle : Timeline} {place : ℕ} (places : List ℕ)
    → KeepsAt more time old middle place → places ≡ middle.places.items ++ place ∷ []
    → at_places middle.kept.items places ≡ times_in old ++ time ∷ []
one_time_more {more} {time} {old} {middle} {place} places keeps places_are =
    ap (at_places middle.kept.items) (places_are ∙ ap (λ (l : List ℕ). l ++ place ∷ []) keeps.places)
    ∙ map-append (λ p. get_or middle.kept.items p []) old.places.items (place ∷ [])
    ∙ ap₂ (λ (l : List (List ℕ)) (t : List ℕ). l ++ t ∷ [])
    (ap (λ (k : List (List ℕ)). at_places k old.places.items) keeps.kept ∙ same_times old.kept.items more old.places.items old.places_are_kept)
    keeps.at.is

module _ (node : ℕ) (time : List ℕ) (old middle new : Timeline) (place : ℕ) (within : node < 16)
    (keeps : KeepsAt (brought (newest_in old node) time) time old middle place) (kept_is : new.kept.items ≡ middle.kept.items)
    (places_are : new.places.items ≡ middle.places.items ++ place ∷ []) (newest_is : new.newest ≡ set middle.newest node (Some place)) where
  abbrev more : List (List ℕ)
  more = brought (newest_in old node) time

  grown : new.kept.items ≡ old.kept.items ++ more
  grown = kept_is ∙ keeps.kept

  time_is : get_or new.kept.items place [] ≡ time
  time_is = ap (λ (l : List (List ℕ)). get_or l place []) kept_is ∙ keeps.at.is

  own : newest_in new node ≡ Some time
  own =
      let wide : node < length middle.newest = omega (arith, within, middle.all_nodes) in
      ap (option_map (λ p. get_or new.kept.items p []))
      (ap (λ (l : List (Option ℕ)). get_or l node None) newest_is ∙ get_or-set_same middle.newest node (Some place) None wide)
      ∙ ap Some time_is

  other : (q : ℕ) → q < 16 → q ≢ node → newest_in new q ≡ newest_in old q
  other q low apart =
      let inside : q < length old.newest = omega (arith, low, old.all_nodes) in
      ap (option_map (λ p. get_or new.kept.items p []))
      (ap (λ (l : List (Option ℕ)). get_or l q None) newest_is
      ∙ get_or-set_other middle.newest node q (Some place) None apart
      ∙ ap (λ (l : List (Option ℕ)). get_or l q None) keeps.newest)
      ∙ ap (λ (k : List (List ℕ)). option_map (λ p. get_or k p []) (get_or old.newest q None)) grown
      ∙ same_newest old.kept.items more (get_or old.newest q None) (old.newest_is_kept q None inside)

  module _ (acts : List Timed) (is : IsTimelineOf acts old) where
    abbrev act : Timed
    act = record { node = node; time = time }

    times_more : times_in new ≡ map (λ (a : Timed). a.time) (acts ++ act ∷ [])
    times_more =
        ap (λ (k : List (List ℕ)). at_places k new.places.items) kept_is
        ∙ one_time_more new.places.items keeps places_are
        ∙ ap (λ (l : List (List ℕ)). l ++ time ∷ []) is.times
        ∙ sym (map-append (λ (a : Timed). a.time) acts (act ∷ []))

    kept_more : new.kept.items ≡ brought_behind [] (acts ++ act ∷ [])
    kept_more =
        grown
        ∙ ap₂ (λ (l : List (List ℕ)) (o : Option (List ℕ)). l ++ brought o time) is.kept (is.newest node within)
        ∙ sym (behind_more [] acts act)

    newest_next : (q : ℕ) → q < 16 → newest_in new q ≡ newest_of q (acts ++ act ∷ [])
    newest_next q low = elim (cases_eq q node) [
      | inl same ↦
          ap (newest_in new) same ∙ own
          ∙ ap (λ (b : Bool). cond b (Some time) (newest_of q acts)) (sym (eq-eqb node q (sym same)))
          ∙ sym (newest_more q acts act)
      | inr apart ↦
          other q low apart ∙ is.newest q low
          ∙ ap (λ (b : Bool). cond b (Some time) (newest_of q acts)) (sym (ne_eqb node q (λ e. apart (sym e))))
          ∙ sym (newest_more q acts act)
    ]

    pub one_more : IsTimelineOf (acts ++ act ∷ []) new
    one_more = record { times = times_more; kept = kept_more; newest = newest_next }
