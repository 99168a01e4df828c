-- What a walk along a page's list has gathered.
use Rattle.std.proofs.Common.{◌≡◌, ℕ, ◌+◌, ◌<◌, ◌≤◌, ◌∙◌, Bool, true, false, not, ◌&&◌, cond, eqb, eqb-true, Option, None, Some}
use Rattle.std.proofs.Common.{List, [], ◌∷◌, ◌++◌, length, get_or, map, take, reverse, refl, ap, sym, subst, arith}
use Rattle.std.specs.List.{AllPairs, filter}
use Rattle.std.proofs.lemmas.List.{length-map, get_or-map, get_or-take, get_or_default, length-take-le}
use Rattle.std.proofs.lemmas.List.{take-map, take_all, reverse-append, append-nil, append_assoc}
use Rattle.lrc_time.specs.Time.{knows}
use Rattle.lrc_store.specs.declared.key.Key.{Key}
use Rattle.lrc_store.specs.Chains.{last_at}
use Rattle.lrc_store.specs.Links.{page_named, is_unknown_on}
use Rattle.lrc_store.specs.Lists.{knows_notice}
use Rattle.lrc_store.proofs.NodeWalks.{filter_of_none}
use Rattle.lrc_store.proofs.Chained.{Reaches, reaches, reach, reach-taken, picked_more, last_at-map}

abbrev none : ℕ × Key
none = (0, record { node = 0; index = 0; page = 0 })

module _ (page : ℕ) (since : List ℕ) (notices : List (ℕ × Key)) where
  abbrev on_page : ℕ × Key → Bool
  on_page notice = eqb (page_named notice) page

  narrow : (notice : ℕ × Key) → on_page notice ≡ false → is_unknown_on page since notice ≡ false
  narrow notice fails = ap (λ b. b && not (knows since notice.1.node notice.1.index)) fails

  -- the walk stands at an entry of the page's list, and what comes after it was gathered, newest first
  abbrev pub IsWalked : Option ℕ → List (ℕ × Key) → Type 0
  IsWalked next found =
      (bound : ℕ) × (bound ≤ length notices)
      × Reaches on_page (is_unknown_on page since) notices bound next
      × (filter (is_unknown_on page since) notices ≡ filter (is_unknown_on page since) (take bound notices) ++ reverse found)

  starts : (keys : List ℕ) (next : Option ℕ) → keys ≡ map page_named notices → next ≡ last_at (λ other. eqb other page) keys → IsWalked next []
  starts keys next linked is =
      let whole : take (length notices) notices ≡ notices = take_all (length notices) notices (omega arith) in
      let first : next ≡ last_at on_page (take (length notices) notices) =
      is ∙ ap (last_at (λ other. eqb other page)) linked ∙ last_at-map (λ other. eqb other page) page_named notices
      ∙ ap (last_at on_page) (sym whole) in (
        length notices,
        omega arith,
        subst (Reaches on_page (is_unknown_on page since) notices (length notices)) (sym first)
            (reaches on_page (is_unknown_on page since) narrow notices none (length notices) (omega arith)),
        sym (append-nil (filter (is_unknown_on page since) notices))
            ∙ ap (λ (l : List (ℕ × Key)). filter (is_unknown_on page since) l ++ []) (sym whole),
      )

  pub walk_starts : (keys : List ℕ) (next : Option ℕ) (found : List (ℕ × Key)) → found ≡ [] → keys ≡ map page_named notices
      → next ≡ last_at (λ other. eqb other page) keys → IsWalked next found
  walk_starts keys next found nothing linked is = subst (IsWalked next) (sym nothing) (starts keys next linked is)

  -- at an entry
  pub walk_at : (at : ℕ) (spot : Option ℕ) (found : List (ℕ × Key)) → spot ≡ Some at → IsWalked spot found → IsWalked (Some at) found
  walk_at at spot found is walked = subst (λ (next : Option ℕ). IsWalked next found) is walked

  -- every step goes to an entry before
  pub walk_falls : (at : ℕ) (spot next : Option ℕ) (keys : List ℕ) → spot ≡ Some at → at < length notices → keys ≡ map page_named notices
      → next ≡ last_at (λ other. eqb other (get_or keys at 0)) (take at keys) → reach next < reach spot
  walk_falls at spot next keys is within linked is_next =
      let long : at ≤ length keys = omega (arith, within, ap length linked, length-map notices page_named) in
      let falls : reach (last_at (λ other. eqb other (get_or keys at 0)) (take at keys)) ≤ at =
      reach-taken (λ other. eqb other (get_or keys at 0)) keys 0 at long in
      omega (arith, falls, ap reach is_next, ap reach is)

  pub walk_within : (at : ℕ) (found : List (ℕ × Key)) → IsWalked (Some at) found → at < length notices
  walk_within at found walked = omega (arith, walked.2.0, walked.1)

  here : (at : ℕ) (found : List (ℕ × Key)) → IsWalked (Some at) found → (d : ℕ × Key) → page_named (get_or notices at d) ≡ page
  here at found walked d = eqb-true _ _ (walked.2.1 d)

  -- what was gathered with the entry where the walk stands
  gathered : (at : ℕ) (found more : List (ℕ × Key)) (known : Bool) → IsWalked (Some at) found → (d : ℕ × Key)
      → knows since (get_or notices at d).1.node (get_or notices at d).1.index ≡ known
      → more ≡ found ++ cond known [] (get_or notices at d ∷ [])
      → filter (is_unknown_on page since) notices ≡ filter (is_unknown_on page since) (take at notices) ++ reverse more
  gathered at found more known walked d is_known is_more =
      let q = is_unknown_on page since in
      let n = get_or notices at d in
      let test : q n ≡ not known = ap (λ b. b && not (knows since n.1.node n.1.index)) (walked.2.1 d) ∙ ap not is_known in
      let step : filter q (take (at + 1) notices) ≡ filter q (take at notices) ++ cond (not known) (n ∷ []) [] =
      picked_more on_page q narrow notices d at (not known) (walk_within at found walked) test in
      walked.3 ∙ ap (λ (l : List (ℕ × Key)). l ++ reverse found) (walked.2.2 ∙ step)
      ∙ append_assoc (filter q (take at notices)) (cond (not known) (n ∷ []) []) (reverse found)
      ∙ ap (λ (l : List (ℕ × Key)). filter q (take at notices) ++ l) (turned known n ∙ ap reverse (sym is_more))
    where
      turned : (b : Bool) (n : ℕ × Key) → cond (not b) (n ∷ []) [] ++ reverse found ≡ reverse (found ++ cond b [] (n ∷ []))
      turned true n = ap reverse (sym (append-nil found))
      turned false n = sym (reverse-append found (n ∷ []))

  pub walk_goes_on : (at : ℕ) (found more : List (ℕ × Key)) (known : Bool) (keys : List ℕ) (next : Option ℕ) (d : ℕ × Key)
      → IsWalked (Some at) found → keys ≡ map page_named notices
      → next ≡ last_at (λ other. eqb other (get_or keys at 0)) (take at keys)
      → knows since (get_or notices at d).1.node (get_or notices at d).1.index ≡ known
      → more ≡ found ++ cond known [] (get_or notices at d ∷ []) → IsWalked next more
  walk_goes_on at found more known keys next d walked linked is_next is_known is_more =
      let within = walk_within at found walked in
      let key : get_or keys at 0 ≡ page =
      ap (λ (l : List ℕ). get_or l at 0) linked ∙ get_or-map page_named notices at d 0 within ∙ here at found walked d in
      let last : next ≡ last_at on_page (take at notices) =
      is_next ∙ ap (λ k. last_at (λ other. eqb other k) (take at keys)) key
      ∙ ap (λ (l : List ℕ). last_at (λ other. eqb other page) (take at l)) linked
      ∙ ap (last_at (λ other. eqb other page)) (take-map page_named at notices)
      ∙ last_at-map (λ other. eqb other page) page_named (take at notices) in (
        at,
        omega (arith, within),
        subst (Reaches on_page (is_unknown_on page since) notices at) (sym last)
            (reaches on_page (is_unknown_on page since) narrow notices none at (omega (arith, within))),
        gathered at found more known walked d is_known is_more,
      )

  -- what the time knows was added first
  abbrev pub IsKnownFirst : Type 0
  IsKnownFirst = AllPairs (λ a b. page_named a ≡ page → page_named b ≡ page → knows_notice since b.1 ≡ true → knows_notice since a.1 ≡ true) notices

  -- a notice before one that is known is not unknown
  older : (at k : ℕ) (d : ℕ × Key) → IsKnownFirst → at < length notices → k < at → page_named (get_or notices at d) ≡ page
      → knows_notice since (get_or notices at d).1 ≡ true → (b : Bool) → on_page (get_or notices k d) ≡ b
      → is_unknown_on page since (get_or notices k d) ≡ false
  older at k d first within less there known false fails = narrow (get_or notices k d) fails
  older at k d first within less there known true same =
      let n = get_or notices k d in
      ap (λ b. b && not (knows_notice since n.1)) same
      ∙ ap not (first k at d less within (eqb-true _ _ same) there known)

  -- at a notice that is known the walk is over
  pub walk_stops : (at : ℕ) (found : List (ℕ × Key)) (d : ℕ × Key) → IsWalked (Some at) found → IsKnownFirst
      → knows_notice since (get_or notices at d).1 ≡ true → IsWalked None found
  walk_stops at found d walked first known =
      let within = walk_within at found walked in
      let all_known : filter (is_unknown_on page since) (take at notices) ≡ [] =
      filter_of_none (is_unknown_on page since) (take at notices)
      (λ k d' inside.
      let less : k < at = omega (arith, inside, length-take-le at notices (omega (arith, within))) in
      let same : get_or (take at notices) k d' ≡ get_or notices k d =
      get_or-take at notices k d' less ∙ get_or_default notices k d' d (omega (arith, less, within)) in
      ap (is_unknown_on page since) same
      ∙ older at k d first within less (here at found walked d) known (on_page (get_or notices k d)) refl) in
      (at, omega (arith, within), all_known, gathered at found found true walked d known (sym (append-nil found)))

  -- what is turned round at the end is what the time does not know
  pub walk_ends : (spot : Option ℕ) (found all : List (ℕ × Key)) → spot ≡ None → IsWalked spot found → all ≡ reverse found
      → all ≡ filter (is_unknown_on page since) notices
  walk_ends spot found all is walked turned =
      let ended : IsWalked None found = subst (λ (next : Option ℕ). IsWalked next found) is walked in
      turned ∙ ap (λ (l : List (ℕ × Key)). l ++ reverse found) (sym ended.2) ∙ sym ended.3
