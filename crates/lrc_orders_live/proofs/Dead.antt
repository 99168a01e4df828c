-- Values without those that are dead.
use Rattle.std.proofs.Common.{◌≡◌, ℕ, zero, suc, ◌<◌, ◌≤◌, List, [], ◌∷◌, Bool, true, false, inl, inr, length, get_or, map, refl, sym, ap, ◌∙◌, subst, arith}
use Rattle.std.specs.Prelude.{Some, None, Vec, vec_len, if◌then◌else◌, replicate, slice_index, slice_index_or}
use Rattle.std.proofs.lemmas.Bool.{cases_lt, true≢false}
use Rattle.std.specs.Vec.{with_items}
use Rattle.std.specs.declared.alloc.Global.{Global}
use Rattle.std.proofs.lemmas.List.{get_or-map, get_or_past, length-map, with_items_is}
use Rattle.lrc_exec.specs.declared.spot.Flat.{Flat}
use Rattle.lrc_exec.specs.declared.spot.Spot.{Spot}
use Rattle.lrc_exec.specs.Plain.{thread_in}
use Rattle.lrc_exec.specs.Spots.{spot_stopped, spot_thread, thread_at}
use Rattle.lrc_exec.specs.declared.state.State.{State}
use Rattle.lrc_exec.specs.States.{plain_at, IsStateOf}
use Rattle.lrc_orders_laws.specs.Alike.{BothAlike, stopped, going}
use Rattle.lrc_orders_laws.specs.Names.{AgreeWhereItMatters}
use Rattle.lrc_orders_settling.specs.Taking.{count_of, IsCounted}
use Rattle.lrc_orders_live.specs.Like.{AreLike}
use Rattle.lrc_orders_live.specs.Live.{AreLive, forgot, has, without_dead}

pub length_dead : (live : List Bool) (values : List ℕ) → length (without_dead live values) ≡ length values
length_dead [] values = refl
length_dead (true ∷ live) (v ∷ values) = ap suc (length_dead live values)
length_dead (false ∷ live) (v ∷ values) = ap suc (length_dead live values)
length_dead (true ∷ live) [] = refl
length_dead (false ∷ live) [] = refl

-- a value whose name is live, or has no name in the table
pub kept_value : (live : List Bool) (values : List ℕ) (name : ℕ) → (name < length live → has live name ≡ true)
    → slice_index (without_dead live values) name ≡ slice_index values name
kept_value [] values name kept = refl
kept_value (true ∷ live) [] name kept = refl
kept_value (false ∷ live) [] name kept = refl
kept_value (true ∷ live) (v ∷ values) zero kept = refl
kept_value (true ∷ live) (v ∷ values) (suc name) kept = kept_value live values name (λ lt. kept (omega (arith, lt)))
kept_value (false ∷ live) (v ∷ values) zero kept = absurd (true≢false (sym (kept (omega arith))))
kept_value (false ∷ live) (v ∷ values) (suc name) kept = kept_value live values name (λ lt. kept (omega (arith, lt)))

-- a value whose name is in the table
pub dead_at : (live : List Bool) (values : List ℕ) (name : ℕ) → name < length live
    → get_or (without_dead live values) name 0 ≡ (if get_or live name false then get_or values name 0 else 0)
dead_at [] values name lt = absurd (omega (arith, lt))
dead_at (true ∷ live) [] zero lt = refl
dead_at (false ∷ live) [] zero lt = refl
dead_at (true ∷ live) [] (suc name) lt = none (get_or live name false)
  where
    none : (b : Bool) → ◌≡◌ {A = ℕ} 0 (if b then 0 else 0)
    none true = refl
    none false = refl
dead_at (false ∷ live) [] (suc name) lt = none (get_or live name false)
  where
    none : (b : Bool) → ◌≡◌ {A = ℕ} 0 (if b then 0 else 0)
    none true = refl
    none false = refl
dead_at (true ∷ live) (v ∷ values) zero lt = refl
dead_at (false ∷ live) (v ∷ values) zero lt = refl
dead_at (true ∷ live) (v ∷ values) (suc name) lt = dead_at live values name (omega (arith, lt))
dead_at (false ∷ live) (v ∷ values) (suc name) lt = dead_at live values name (omega (arith, lt))

-- zeros stay
dead_zeros : (live : List Bool) (count : ℕ) → without_dead live (replicate count 0) ≡ replicate count 0
dead_zeros [] count = refl
dead_zeros (true ∷ live) zero = refl
dead_zeros (false ∷ live) zero = refl
dead_zeros (true ∷ live) (suc count) = ap (λ l. 0 ∷ l) (dead_zeros live count)
dead_zeros (false ∷ live) (suc count) = ap (λ l. 0 ∷ l) (dead_zeros live count)

-- ---- spots

-- a blank one stays
pub blank_forgot : (table : List (List Bool)) (s : Spot) → s ≡ spot_stopped s.me → forgot table s ≡ spot_stopped s.me
blank_forgot table s e = ap (forgot table) e ∙ ap (λ l. record (spot_stopped s.me) { privates = l }) (dead_zeros (slice_index_or table 0 []) 32)

-- those of a vector, each written anew
pub all_forgotten : (table : List (List Bool)) (spots : Vec Spot Global) (old new : List Spot) → old ≡ spots.items → length old ≡ vec_len spots
    → new ≡ map (forgot table) old → (with_items spots new).items ≡ map (forgot table) spots.items
all_forgotten table spots old new value len is =
    with_items_is spots new (ap (λ l. length l) is ∙ length-map old (forgot table) ∙ len) ∙ is ∙ ap (map (forgot table)) value

module _ (flat : Flat) (table : List (List Bool)) (live : AreLive flat.code.now table) where
  agree : (spot : Spot) (arrived : Bool) → spot.place ≤ length flat.code.now
      → AgreeWhereItMatters (record (thread_at flat (forgot table spot)) { arrived = arrived }) (record (thread_at flat spot) { arrived = arrived })
  agree spot arrived within = record {
    setting = refl;
    rest = refl;
    held = refl;
    arrived = refl;
    count = length_dead (slice_index_or table spot.place []) spot.privates;
    names = λ name it.
        kept_value (slice_index_or table spot.place []) spot.privates name
        (λ lt. live.each spot.place within name (small name lt) ∙ it);
  }
    where
      size : length (slice_index_or table spot.place []) ≡ 32
      size = live.sizes spot.place [] (omega (arith, within, live.size))

      small : (name : ℕ) → name < length (slice_index_or table spot.place []) → name < 32
      small name lt = omega (arith, lt, size)

  pub spot_like : (spot : Spot) → spot.place ≤ length flat.code.now → (b : Bool) → spot.stopped ≡ b
      → BothAlike AgreeWhereItMatters (spot_thread flat (forgot table spot)) (spot_thread flat spot)
  spot_like spot within true e =
      let none : spot_thread flat spot ≡ None = ap (λ b. if b then None else Some (record (thread_at flat spot) { arrived = spot.arrived })) e in
      let none' : spot_thread flat (forgot table spot) ≡ None =
      ap (λ b. if b then None else Some (record (thread_at flat (forgot table spot)) { arrived = spot.arrived })) e in
      subst (λ o. BothAlike AgreeWhereItMatters (spot_thread flat (forgot table spot)) o) (sym none)
      (subst (λ o. BothAlike AgreeWhereItMatters o None) (sym none') stopped)
  spot_like spot within false e =
      let some : spot_thread flat spot ≡ Some (record (thread_at flat spot) { arrived = spot.arrived }) =
      ap (λ b. if b then None else Some (record (thread_at flat spot) { arrived = spot.arrived })) e in
      let some' : spot_thread flat (forgot table spot) ≡ Some (record (thread_at flat (forgot table spot)) { arrived = spot.arrived }) =
      ap (λ b. if b then None else Some (record (thread_at flat (forgot table spot)) { arrived = spot.arrived })) e in
      subst (λ o. BothAlike AgreeWhereItMatters (spot_thread flat (forgot table spot)) o) (sym some)
      (subst (λ o. BothAlike AgreeWhereItMatters o (Some (record (thread_at flat spot) { arrived = spot.arrived }))) (sym some')
      (going (agree spot spot.arrived within)))

  -- ---- states

  module _ (old new : State) (valid : IsStateOf flat old) (memory : new.memory.items ≡ old.memory.items) (holders : new.holders.items ≡ old.holders.items)
      (arrivals : new.arrivals.items ≡ old.arrivals.items) (spots : new.spots.items ≡ map (forgot table) old.spots.items) where
    some_spot : (xs : List Spot) (k : ℕ) → k < length xs → Spot
    some_spot [] k lt = absurd (omega (arith, lt))
    some_spot (x ∷ xs) k lt = x

    long : length new.spots.items ≡ length old.spots.items
    long = ap (λ l. length l) spots ∙ length-map old.spots.items (forgot table)

    at_new : (node : ℕ) (d : Spot) → node < length old.spots.items → get_or new.spots.items node d ≡ forgot table (get_or old.spots.items node d)
    at_new node d lt = ap (λ l. get_or l node d) spots ∙ get_or-map (forgot table) old.spots.items node d d lt

    pub state_forgot : IsStateOf flat new
    state_forgot = record {
      memory = ap (λ l. length l) memory ∙ valid.memory;
      holders = ap (λ l. length l) holders ∙ valid.holders;
      arrivals = ap (λ l. length l) arrivals ∙ valid.arrivals;
      spots = long ∙ valid.spots;
      numbers = ap (λ l. map (λ (spot : Spot). spot.me) l) spots ∙ same_me old.spots.items ∙ valid.numbers;
      within = λ k d lt.
          let old_lt : k < length old.spots.items = omega (arith, lt, long) in
          subst (λ (s : Spot). s.place ≤ length flat.code.now) (sym (at_new k d old_lt)) (valid.within k d old_lt);
      blank = λ k d lt.
          let old_lt : k < length old.spots.items = omega (arith, lt, long) in
          subst (λ (s : Spot). s.stopped ≡ true → s ≡ spot_stopped s.me) (sym (at_new k d old_lt))
          (λ e. blank_forgot table (get_or old.spots.items k d) (valid.blank k d old_lt e));
    }
      where
        same_me : (xs : List Spot) → map (λ (spot : Spot). spot.me) (map (forgot table) xs) ≡ map (λ (spot : Spot). spot.me) xs
        same_me [] = refl
        same_me (x ∷ xs) = ap (λ l. x.me ∷ l) (same_me xs)

    pub counted_forgot : IsCounted old → IsCounted new
    counted_forgot counted =
        arrivals ∙ counted ∙ sym (same_count old.spots.items) ∙ ap (λ l. map count_of l) (sym spots)
      where
        same_count : (xs : List Spot) → map count_of (map (forgot table) xs) ≡ map count_of xs
        same_count [] = refl
        same_count (x ∷ xs) = ap (λ l. count_of x ∷ l) (same_count xs)

    pub like_forgot : AreLike (plain_at flat new) (plain_at flat old)
    like_forgot = record {
      memory = memory;
      holders = holders;
      count = length-map new.spots.items (spot_thread flat) ∙ long ∙ sym (length-map old.spots.items (spot_thread flat));
      threads = λ node. elim (cases_lt node (length old.spots.items)) [
        | inl lt ↦
            let d = some_spot old.spots.items node lt in
            let s = get_or old.spots.items node d in
            let here : thread_in (plain_at flat new) node ≡ spot_thread flat (forgot table s) =
            get_or-map (spot_thread flat) new.spots.items node d None (omega (arith, lt, long)) ∙ ap (spot_thread flat) (at_new node d lt) in
            let there : thread_in (plain_at flat old) node ≡ spot_thread flat s = get_or-map (spot_thread flat) old.spots.items node d None lt in
            subst (λ o. BothAlike AgreeWhereItMatters o (thread_in (plain_at flat old) node)) (sym here)
            (subst (λ o. BothAlike AgreeWhereItMatters (spot_thread flat (forgot table s)) o) (sym there)
            (spot_like s (valid.within node d lt) s.stopped refl))
        | inr le ↦
            let here : thread_in (plain_at flat new) node ≡ None =
            get_or_past (map (spot_thread flat) new.spots.items) node None (omega (arith, le, long, length-map new.spots.items (spot_thread flat))) in
            let there : thread_in (plain_at flat old) node ≡ None =
            get_or_past (map (spot_thread flat) old.spots.items) node None (omega (arith, le, length-map old.spots.items (spot_thread flat))) in
            subst (λ o. BothAlike AgreeWhereItMatters o (thread_in (plain_at flat old) node)) (sym here)
            (subst (λ o. BothAlike AgreeWhereItMatters None o) (sym there) stopped)
      ];
    }
