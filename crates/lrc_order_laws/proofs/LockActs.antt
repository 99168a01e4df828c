-- Who holds a lock, and the time of its last release, by one act more or none.
use Rattle.std.proofs.Common.{◌≡◌, ℕ, ◌+◌, ◌≤◌, ◌⊎◌, List, [], ◌∷◌, ◌++◌, true, false, length, refl, sym, ap, subst, ◌∙◌, inl, inr, arith, append-nil}
use Rattle.std.specs.Prelude.{Option, Some, None}
use Rattle.std.proofs.lemmas.Bool.{eq-eqb, ne_eqb}
use Rattle.std.proofs.lemmas.List.{get_or_push, length_push}
use Rattle.lrc_trace.specs.declared.act.Act.{Act}
use Rattle.lrc_trace.specs.declared.act.Deed.{Deed}
use Rattle.lrc_trace.specs.declared.act.Deed.TheVariants.{Acquire, Release}
use Rattle.lrc_trace.specs.Run.{Does, act_of}
use Rattle.lrc_trace.specs.Synchronization.{Holds}
use Rattle.lrc_trace.proofs.Positions.{Does-last, Does-deed, slice_get-seam}
use Rattle.lrc_trace.proofs.Holding.{Holds-start, Holds-acquired, Holds-kept, Holds-cases, Holds-released}
use Rattle.lrc_trace.proofs.Prefixes.{Holds-longer, Holds-shorter}
use Rattle.lrc_clock.specs.Times.{is_act, is_release, releases_at, released_time}
use Rattle.lrc_clock.proofs.Lasting.{last-here, last-not_here}
use Rattle.lrc_clock.proofs.Prefixes.{released_time-prefix}
use Rattle.lrc_order_laws.proofs.Present.{more_acts, more_times}
use Rattle.lrc_order_laws.proofs.LockMoves.{IsNeither}

-- after these acts nobody holds the lock, or this node alone
abbrev pub HeldNow : List Act → ℕ → ℕ → Type 0
HeldNow acts q l = Holds acts (length acts) q l

abbrev pub NobodyHolds : List Act → ℕ → Type 0
NobodyHolds acts l = (q : ℕ) → HeldNow acts q l → ⊥

pub record HoldsAlone (acts : List Act) (h l : ℕ) : Type 0 where
  pub holds : HeldNow acts h l
  pub alone : (q : ℕ) → HeldNow acts q l → q ≡ h

pub nobody-first : (l : ℕ) → NobodyHolds [] l
nobody-first l q h = Holds-start h

module _ (acts : List Act) (n : ℕ) (d : Deed) (l : ℕ) where
  abbrev acts' : List Act
  acts' = acts ++ act_of n d ∷ []

  here : Does acts' (length acts) n d
  here = Does-last acts (act_of n d)

  grown : length acts' ≡ length acts + 1
  grown = length_push acts (act_of n d)

  now : (q : ℕ) → Holds acts' (length acts + 1) q l → HeldNow acts' q l
  now q h = subst (λ k. Holds acts' k q l) (sym grown) h

  back : (q : ℕ) → HeldNow acts' q l → Holds acts' (length acts + 1) q l
  back q h = subst (λ k. Holds acts' k q l) grown h

  before : (q : ℕ) → HeldNow acts q l → Holds acts' (length acts) q l
  before q h = Holds-longer acts (act_of n d ∷ []) (omega arith) h

  after : (q : ℕ) → Holds acts' (length acts) q l → HeldNow acts q l
  after q h = Holds-shorter acts (act_of n d ∷ []) (omega arith) h

  keeps_on : (q : ℕ) → (q ≡ n → d ≡ Release l → ⊥) → HeldNow acts q l → HeldNow acts' q l
  keeps_on q ne h = now q (Holds-kept acts' (length acts) n d here q l ne (before q h))

  held_cases : (q : ℕ) → HeldNow acts' q l → ((q ≡ n) × (d ≡ Acquire l)) ⊎ HeldNow acts q l
  held_cases q h = elim (Holds-cases acts' (length acts) n d here q l (back q h)) [
    | inl e ↦ inl e
    | inr (had, _) ↦ inr (after q had)
  ]

  took_it : d ≡ Acquire l → HeldNow acts' n l
  took_it e = now n (Holds-acquired (Does-deed e here))

  let_it_go : d ≡ Release l → HeldNow acts' n l → ⊥
  let_it_go e h = Holds-released (Does-deed e here) (back n h)

module _ (nodes : ℕ) (acts : List Act) (times : List (List ℕ)) (timed : length times ≡ length acts) (n : ℕ) (time : List ℕ) (l : ℕ) where
  abbrev released : List Act → List (List ℕ) → List ℕ
  released acts times = released_time nodes acts times l (length acts)

  abbrev Acts' : Option Deed → List Act
  Acts' deed = acts ++ more_acts n deed

  abbrev Times' : Option Deed → List (List ℕ)
  Times' deed = times ++ more_times n time deed

  nothing_more : released (acts ++ []) (times ++ []) ≡ released acts times
  nothing_more = ap (λ acts. released acts (times ++ [])) (append-nil acts) ∙ ap (released acts) (append-nil times)

  releases_last : (d : Deed) → releases_at (acts ++ act_of n d ∷ []) l (length acts) ≡ is_release l d
  releases_last d = ap (is_act (λ a. is_release l a.deed)) (slice_get-seam acts (act_of n d) [])

  no_release : (d : Deed) → (d ≡ Release l → ⊥) → is_release l d ≡ false
  no_release (Release k) ne = ne_eqb k l (λ e. ne (ap (λ k. Release k) e))
  no_release _ ne = refl

  -- the time of the last release stays at an act that is none
  pub released-still : (deed : Option Deed) → (deed ≡ Some (Release l) → ⊥) → released (Acts' deed) (Times' deed) ≡ released acts times
  released-still None ne = nothing_more
  released-still (Some d) ne =
      let le : length acts ≤ length acts = omega arith in
      ap (released_time nodes (acts ++ act_of n d ∷ []) (times ++ time ∷ []) l) (length_push acts (act_of n d))
      ∙ last-not_here nodes (releases_at (acts ++ act_of n d ∷ []) l) (times ++ time ∷ []) (length acts)
      (releases_last d ∙ no_release d (λ e. ne (ap (λ (x : Deed). Some x) e)))
      ∙ released_time-prefix acts (act_of n d ∷ []) times (time ∷ []) timed nodes l (length acts) le

  -- and is that of the act where it is one
  released_by : (d : Deed) → is_release l d ≡ true → released (acts ++ act_of n d ∷ []) (times ++ time ∷ []) ≡ time
  released_by d is =
      ap (released_time nodes (acts ++ act_of n d ∷ []) (times ++ time ∷ []) l) (length_push acts (act_of n d))
      ∙ last-here nodes (releases_at (acts ++ act_of n d ∷ []) l) (times ++ time ∷ []) (length acts) (releases_last d ∙ is)
      ∙ get_or_push times time [] (length acts) timed

  pub released-now : (deed : Option Deed) → deed ≡ Some (Release l) → released (Acts' deed) (Times' deed) ≡ time
  released-now deed e =
      ap (λ deed. released (Acts' deed) (Times' deed)) e ∙ released_by (Release l) (eq-eqb l l refl)

  -- ---- who holds it

  pub nobody-still : (deed : Option Deed) → (deed ≡ Some (Acquire l) → ⊥) → NobodyHolds acts l → NobodyHolds (Acts' deed) l
  nobody-still None ne none = subst (λ acts. NobodyHolds acts l) (sym (append-nil acts)) none
  nobody-still (Some d) ne none = λ q h. elim (held_cases acts n d l q h) [
    | inl (_, e) ↦ ne (ap (λ (x : Deed). Some x) e)
    | inr had ↦ none q had
  ]

  pub alone-still : (deed : Option Deed) (h : ℕ) → IsNeither l deed → HoldsAlone acts h l → HoldsAlone (Acts' deed) h l
  alone-still None h ne a = subst (λ acts. HoldsAlone acts h l) (sym (append-nil acts)) a
  alone-still (Some d) h ne a = record {
    holds = keeps_on acts n d l h (λ _ e. ne.release (ap (λ (x : Deed). Some x) e)) a.holds;
    alone = λ q held. elim (held_cases acts n d l q held) [
      | inl (_, e) ↦ absurd (ne.acquire (ap (λ (x : Deed). Some x) e))
      | inr had ↦ a.alone q had
    ];
  }

  took_alone : NobodyHolds acts l → HoldsAlone (acts ++ act_of n (Acquire l) ∷ []) n l
  took_alone none = record {
    holds = took_it acts n (Acquire l) l refl;
    alone = λ q held. elim (held_cases acts n (Acquire l) l q held) [
      | inl (e, _) ↦ e
      | inr had ↦ absurd (none q had)
    ];
  }

  pub alone-taken : (deed : Option Deed) → deed ≡ Some (Acquire l) → NobodyHolds acts l → HoldsAlone (Acts' deed) n l
  alone-taken deed e none = subst (λ deed. HoldsAlone (Acts' deed) n l) (sym e) (took_alone none)

  let_go_all : HoldsAlone acts n l → NobodyHolds (acts ++ act_of n (Release l) ∷ []) l
  let_go_all a q held = elim (held_cases acts n (Release l) l q held) [
    | inl (_, e) ↦ let never : ⊥ = cc in never
    | inr had ↦ let_it_go acts n (Release l) l refl (subst (λ q. HeldNow (acts ++ act_of n (Release l) ∷ []) q l) (a.alone q had) held)
  ]

  pub nobody-released : (deed : Option Deed) → deed ≡ Some (Release l) → HoldsAlone acts n l → NobodyHolds (Acts' deed) l
  nobody-released deed e a = subst (λ deed. NobodyHolds (Acts' deed) l) (sym e) (let_go_all a)
