-- Of each group the first pair, by a set of the sites so far.
use Rattle.std.proofs.Common.{◌≡◌, ◌∙◌, ℕ, ◌+◌, ◌<◌, inl, inr, Bool, true, false, cond, List, [], ◌∷◌, ◌++◌, length, take, get_or, refl, sym, ap, append-nil}
use Rattle.std.specs.Prelude.{not}
use Rattle.std.specs.BTreeMap.{is_at}
use Rattle.std.specs.BTreeSet.{BTreeSet, contains, IsEmpty, Updates}
use Rattle.std.specs.List.{list_any}
use Rattle.std.proofs.lemmas.Bool.{cases_Bool}
use Rattle.std.proofs.lemmas.List.Folds.{list_any_more}
use Rattle.lrc_trace.specs.declared.act.Act.{Act}
use Rattle.lrc_judge.specs.declared.lanes.Pair.{Pair}
use Rattle.lrc_text.specs.Each.{each}
use Rattle.lrc_text.proofs.Each.{each_more}
use Rattle.lrc_explain.specs.declared.site.Site.{Site}
use Rattle.lrc_explain.specs.Groups.{is_of_site, leader_at}
use Rattle.lrc_explain.specs.Site.{site_cmp, site_of}
use Rattle.lrc_explain.proofs.Counting.{or_false, or_true}

abbrev pub no_pair : Pair
no_pair = record { later = 0; earlier = 0 }

-- the set has the sites of the first i pairs, and the leaders are those among these
pub record AreLed (acts : List Act) (lines : List ℕ) (pairs : List Pair) (i : ℕ) (sites : BTreeSet Site) (leaders : List Pair) : Type 0 where
  pub seen : (site : Site) → contains site_cmp sites site ≡ list_any (is_of_site acts lines site) (take i pairs)
  pub led : leaders ≡ each (leader_at acts lines pairs) (take i pairs)

pub led_none : (acts : List Act) (lines : List ℕ) (pairs : List Pair) (sites : BTreeSet Site) (leaders : List Pair) → IsEmpty sites → leaders ≡ []
    → AreLed acts lines pairs 0 sites leaders
led_none acts lines pairs sites leaders empty none = record {
  seen = λ site. ap (list_any (is_at (site_cmp site))) empty;
  led = none;
}

module _ (acts : List Act) (lines : List ℕ) (pairs : List Pair) (i : ℕ) (lt : i < length pairs) (old new : BTreeSet Site) (leaders : List Pair)
    (before : AreLed acts lines pairs i old leaders) where
  abbrev here : Pair
  here = get_or pairs i no_pair

  abbrev key : Site
  key = site_of acts lines here

  module _ (updates : Updates site_cmp old new key true) where
    seen_more : (q : Site) → contains site_cmp new q ≡ list_any (is_of_site acts lines q) (take (i + 1) pairs)
    seen_more q =
        let of = is_of_site acts lines q in
        let more = list_any_more of pairs i no_pair lt in
        elim (cases_Bool (of here)) [
          | inl yes' ↦
              updates.0 q ∙ ap (λ b. cond b true (contains site_cmp old q)) yes'
              ∙ sym (more ∙ or_true (list_any of (take i pairs)) (of here) yes')
          | inr no' ↦
              updates.0 q ∙ ap (λ b. cond b true (contains site_cmp old q)) no' ∙ before.seen q
              ∙ sym (more ∙ or_false (list_any of (take i pairs)) (of here) no')
        ]

    -- a pair of a new group, or of one that was seen: so the answer of the insertion says
    module _ (added : Bool) (is : added ≡ not (contains site_cmp old key)) where
      led_as : (b : Bool) → not (list_any (is_of_site acts lines key) (take i pairs)) ≡ b
          → leaders ++ cond b (here ∷ []) [] ≡ each (leader_at acts lines pairs) (take (i + 1) pairs)
      led_as b b_is =
          ap (λ l. l ++ cond b (here ∷ []) []) before.led
          ∙ ap (λ (l : List Pair). each (leader_at acts lines pairs) (take i pairs) ++ l) (turned (list_any (is_of_site acts lines key) (take i pairs)) b b_is)
          ∙ sym (each_more (leader_at acts lines pairs) pairs i no_pair lt)
        where
          turned : (seen b : Bool) → not seen ≡ b → cond b (here ∷ []) [] ≡ cond seen [] (here ∷ [])
          turned seen b e = ap (λ (x : Bool). cond {A = List Pair} x (here ∷ []) []) (sym e) ∙ both seen
            where
              both : (seen : Bool) → cond (not seen) (here ∷ []) [] ≡ cond seen [] (here ∷ [])
              both true = refl
              both false = refl

      answer : (b : Bool) → added ≡ b → not (list_any (is_of_site acts lines key) (take i pairs)) ≡ b
      answer b e = ap not (sym (before.seen key)) ∙ sym is ∙ e

      pub led_new : added ≡ true → (after : List Pair) → after ≡ leaders ++ here ∷ [] → AreLed acts lines pairs (i + 1) new after
      led_new yes' after pushed = record { seen = seen_more; led = pushed ∙ led_as true (answer true yes') }

      pub led_same : added ≡ false → AreLed acts lines pairs (i + 1) new leaders
      led_same no' = record { seen = seen_more; led = sym (append-nil leaders) ∙ led_as false (answer false no') }
