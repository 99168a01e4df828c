-- What the code's loop keeps, over logs in vectors.
use Rattle.std.proofs.Common.{◌≡◌, ℕ, zero, suc, ◌+◌, ◌<◌, inl, inr, List, [], ◌∷◌, ◌++◌, length, map, replicate, refl, sym, ap, subst, ◌∙◌, arith}
use Rattle.std.specs.Prelude.{Option, Some, None, option_map, slice_get, slice_set, slice_index_or}
use Rattle.std.proofs.lemmas.Bool.{cases_eq}
use Rattle.std.proofs.lemmas.List.{length-map, length-set, length-replicate, get_or-set_same, get_or-set_other}
use Rattle.std.proofs.lemmas.Option.{slice_get_within, slice_get-get_or, same_Some}
use Rattle.lrc_trace.specs.declared.act.Act.{Act}
use Rattle.lrc_protocol.specs.Run.{EntryRecord}
use Rattle.lrc_protocol.specs.Follows.{log_of, come_of}
use Rattle.lrc_weave.specs.Next.{stamp_of, IsNextOf}
use Rattle.lrc_protocol.specs.declared.event.Event.{Event}
use Rattle.lrc_weave.specs.declared.events.MessageName.{MessageName}
use Rattle.lrc_program.specs.declared.Program.{Program}
use Rattle.lrc_protocol.specs.Node.{OptionsRecord}
use Rattle.lrc_weave.specs.Logs.{AreLogs}
use Rattle.lrc_weave.specs.Sent.{AreTakesSent}
use Rattle.lrc_weave.specs.Events.{IsTurnOf, IsUnsent, NotesTurn}
use Rattle.lrc_weave.proofs.Heads.{head_stamp, AreHeads}
use Rattle.lrc_weave.proofs.Weaving.{to_come, one_less}
use Rattle.lrc_weave.proofs.Stepping.{WovenSo, so_start, so_more, so_sent}
use Rattle.lrc_weave.proofs.Places.{within_outer}

module _ {V : Type 0} (f : V → List EntryRecord) where
  pub log_at : (vs : List V) (n : ℕ) (v : V) → n < length vs → log_of (map f vs) n ≡ f (slice_index_or vs n v)
  log_at [] n v lt = absurd (omega (arith, lt))
  log_at (x ∷ vs) zero v lt = refl
  log_at (x ∷ vs) (suc n) v lt = log_at vs n v (omega (arith, lt))

  -- the next turn's node is one of them
  pub next_node : (vs : List V) (come : List ℕ) (n : ℕ) → IsNextOf (map f vs) come (Some n) → n < length vs
  next_node vs come n next =
      subst (λ k. n < k) (length-map vs f) (within_outer (map f vs) n (come_of come n) next.0 next.1.next)

  -- and it is there in its log
  pub next_place : (vs : List V) (come : List ℕ) (n : ℕ) (v : V) → IsNextOf (map f vs) come (Some n) → come_of come n < length (f (slice_index_or vs n v))
  next_place vs come n v next =
      subst (λ log. come_of come n < length log) (log_at vs n v (next_node vs come n next))
      (slice_get_within (log_of (map f vs) n) (come_of come n) next.0 next.1.next)

  -- what the code reads of how many turns have come
  pub place_of : (vs : List V) (come : List ℕ) (n place : ℕ) → length come ≡ length vs → IsNextOf (map f vs) come (Some n)
      → place ≡ slice_index_or come n place → place ≡ come_of come n
  place_of vs come n place counted next is =
      let within : n < length come = subst (λ k. n < k) (sym counted) (next_node vs come n next) in
      is ∙ same_Some (slice_index_or come n place) (come_of come n) (sym (slice_get-get_or come n place within) ∙ slice_get-get_or come n 0 within)

  pub below_end : (vs : List V) (come : List ℕ) (n place : ℕ) (v : V) → IsNextOf (map f vs) come (Some n) → place ≡ come_of come n
      → v ≡ slice_index_or vs n v → place < length (f v)
  below_end vs come n place v next place_is v_is =
      subst (λ w. place < length (f w)) (sym v_is) (subst (λ p. p < length (f (slice_index_or vs n v))) (sym place_is) (next_place vs come n v next))

  -- the stamps of the next turns are those of the first ones, before any has come
  first_at : (vs : List V) (n : ℕ)
      → stamp_of (map (λ v. option_map (λ (e : EntryRecord). e.stamp) (slice_get (f v) 0)) vs) n ≡ head_stamp (map f vs) (replicate (length vs) 0) n
  first_at [] n = refl
  first_at (v ∷ vs) zero = refl
  first_at (v ∷ vs) (suc n) = first_at vs n

  pub heads_begin : (vs : List V) (come : List ℕ) (stamps : List (Option ℕ)) → come ≡ replicate (length vs) 0
      → stamps ≡ map (λ v. option_map (λ (e : EntryRecord). e.stamp) (slice_get (f v) 0)) vs
      → (length stamps ≡ length vs) × AreHeads (map f vs) come stamps
  heads_begin vs come stamps come_is stamps_are = (
    ap length stamps_are ∙ length-map vs (λ v. option_map (λ (e : EntryRecord). e.stamp) (slice_get (f v) 0)),
    λ n. ap (λ ss. stamp_of ss n) stamps_are ∙ first_at vs n ∙ ap (λ c. head_stamp (map f vs) c n) (sym come_is),
  )

  -- one turn of a node comes, and the stamp of its next one is looked up
  pub heads_next : (vs : List V) (come : List ℕ) (stamps : List (Option ℕ)) (n next : ℕ) (s : Option ℕ) (v : V) → length come ≡ length vs
      → (length stamps ≡ length vs) × AreHeads (map f vs) come stamps → n < length vs → v ≡ slice_index_or vs n v
      → s ≡ option_map (λ (e : EntryRecord). e.stamp) (slice_get (f v) next)
      → (length (slice_set stamps n s) ≡ length vs) × AreHeads (map f vs) (slice_set come n next) (slice_set stamps n s)
  heads_next vs come stamps n next s v counted are within v_is s_is = (
    length-set stamps n s ∙ are.0,
    λ m. elim (cases_eq n m) [
      | inl e ↦ subst (λ i. stamp_of (slice_set stamps n s) i ≡ head_stamp (map f vs) (slice_set come n next) i) e here
      | inr ne ↦ other m (λ same. ne (sym same))
    ],
  )
    where
      log_is : f v ≡ log_of (map f vs) n
      log_is = ap f v_is ∙ sym (log_at vs n v within)

      here : stamp_of (slice_set stamps n s) n ≡ head_stamp (map f vs) (slice_set come n next) n
      here =
          get_or-set_same stamps n s None (subst (λ k. n < k) (sym are.0) within) ∙ s_is
          ∙ ap (λ log. option_map (λ (e : EntryRecord). e.stamp) (slice_get log next)) log_is
          ∙ ap (λ k. option_map (λ (e : EntryRecord). e.stamp) (slice_get (log_of (map f vs) n) k))
          (sym (get_or-set_same come n next 0 (subst (λ k. n < k) (sym counted) within)))

      other : (m : ℕ) → (m ≡ n → ⊥) → stamp_of (slice_set stamps n s) m ≡ head_stamp (map f vs) (slice_set come n next) m
      other m ne =
          get_or-set_other stamps n m s None ne ∙ are.1 m
          ∙ ap (λ k. option_map (λ (e : EntryRecord). e.stamp) (slice_get (log_of (map f vs) m) k)) (sym (get_or-set_other come n m next 0 ne))

  pub so_begin : (vs : List V) (come : List ℕ) (names : List MessageName) (events : List Event) (acts : List Act) → come ≡ replicate (length vs) 0
      → names ≡ [] → events ≡ [] → acts ≡ [] → (length come ≡ length vs) × WovenSo (map f vs) come names events acts
  so_begin vs come names events acts come_is names_is events_is acts_are = (
    ap length come_is ∙ length-replicate (length vs) 0,
    subst (λ c. WovenSo (map f vs) c names events acts) (sym (come_is ∙ ap (λ k. replicate k 0) (sym (length-map vs f))))
        (subst (λ k. WovenSo (map f vs) (replicate (length (map f vs)) 0) k events acts) (sym names_is)
        (subst (λ e. WovenSo (map f vs) (replicate (length (map f vs)) 0) [] e acts) (sym events_is)
        (subst (λ a. WovenSo (map f vs) (replicate (length (map f vs)) 0) [] [] a) (sym acts_are) (so_start (map f vs))))),
  )

  pub so_next : (vs : List V) (come : List ℕ) (names new : List MessageName) (events more : List Event) (event : Event) (acts noted : List Act)
      (n place x : ℕ) (v : V)
      → (length come ≡ length vs) × WovenSo (map f vs) come names events acts → IsNextOf (map f vs) come (Some n)
      → IsTurnOf n (f v) place names new event
      → NotesTurn (f v) place acts noted
      → v ≡ slice_index_or vs n v → place ≡ come_of come n → x ≡ place + 1 → more ≡ events ++ event ∷ []
      → (length (slice_set come n x) ≡ length vs) × WovenSo (map f vs) (slice_set come n x) new more noted
  so_next vs come names new events more event acts noted n place x v so next turn notes v_is place_is x_is more_is =
      let log_is : f v ≡ log_of (map f vs) n = ap f v_is ∙ sym (log_at vs n v (next_node vs come n next)) in
      let turned : IsTurnOf n (log_of (map f vs) n) (come_of come n) names new event =
      subst (λ p. IsTurnOf n (log_of (map f vs) n) p names new event) place_is (subst (λ l. IsTurnOf n l place names new event) log_is turn) in
      let done = so_more (map f vs) come names new events event acts noted n (so.0 ∙ sym (length-map vs f)) next turned
      (subst (λ p. NotesTurn (log_of (map f vs) n) p acts noted) place_is (subst (λ l. NotesTurn l place acts noted) log_is notes)) so.1 in (
        length-set come n x ∙ so.0,
        subst (λ k. WovenSo (map f vs) (slice_set come n k) new more noted) (sym (x_is ∙ ap (λ p. p + 1) place_is))
            (subst (λ e. WovenSo (map f vs) (slice_set come n (come_of come n + 1)) new e noted) (sym more_is) done),
      )

  pub so_unsent : (vs : List V) (come : List ℕ) (names : List MessageName) (events : List Event) (acts : List Act) (n place : ℕ) (v : V)
      → (length come ≡ length vs) × WovenSo (map f vs) come names events acts → IsNextOf (map f vs) come (Some n) → v ≡ slice_index_or vs n v
      → place ≡ come_of come n → IsUnsent (f v) place names
      → (program : Program) (nodes : ℕ) (options : OptionsRecord) → AreLogs program nodes options (map f vs)
      → AreTakesSent (map f vs) → ⊥
  so_unsent vs come names events acts n place v so next v_is place_is unsent program nodes options are sources =
      let log_is : f v ≡ log_of (map f vs) n = ap f v_is ∙ sym (log_at vs n v (next_node vs come n next)) in
      so_sent (map f vs) come names events acts n (so.0 ∙ sym (length-map vs f)) next
      (subst (λ p. IsUnsent (log_of (map f vs) n) p names) place_is (subst (λ l. IsUnsent l place names) log_is unsent)) so.1
      program nodes options are sources

  pub smaller : (vs : List V) (come : List ℕ) (n place x : ℕ) → length come ≡ length vs → IsNextOf (map f vs) come (Some n) → place ≡ come_of come n
      → x ≡ place + 1
      → to_come (map f vs) (slice_set come n x) < to_come (map f vs) come
  smaller vs come n place x counted next place_is x_is =
      let less = one_less (map f vs) come n next.0 (counted ∙ sym (length-map vs f)) next.1.next in
      let here : to_come (map f vs) (slice_set come n x) ≡ to_come (map f vs) (slice_set come n (come_of come n + 1)) =
      ap (λ k. to_come (map f vs) (slice_set come n k)) (x_is ∙ ap (λ p. p + 1) place_is) in
      omega (arith, less, here)
