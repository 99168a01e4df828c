-- How flat code grows.
use Rattle.std.proofs.Common.{◌≡◌, ℕ, zero, suc, ◌+◌, ◌-◌, ◌<◌, ◌≤◌, List, [], ◌∷◌, ◌++◌, length, get_or, Some, refl}
use Rattle.std.proofs.Common.{sym, ap, ◌∙◌, subst, ⊎_elim, arith, append_assoc, length-append}
use Rattle.std.specs.Prelude.{slice_get, slice_set}
use Rattle.std.specs.Borrow.{Bor}
use Rattle.std.proofs.Math.ListN.{get_or-append}
use Rattle.std.proofs.Math.Seq.{get_or-append_seam, set-append_seam}
use Rattle.std.proofs.lemmas.Bool.{cases_lt}
use Rattle.std.proofs.lemmas.List.{append-nil}
use Rattle.std.proofs.lemmas.Option.{slice_get-get_or, slice_get_within, get_or_from_slice_get}
use Rattle.lrc_program.specs.declared.Statement.{Statement, Row_of-Statement, end_of-Statement, more_of-Statement, items-the_row-Statement}
use Rattle.lrc_program.specs.declared.Statement.{items_hidden-the_row-Statement-0, roll-Statement, roll-out-Statement}
use Rattle.lrc_program.specs.declared.Statement.TheBlock.{hidden-the_row-Statement-0, shown-the_row-Statement-0}
use Rattle.lrc_program.specs.declared.Statement.TheVariants.{Assign, Read, Write, Acquire, Release, Barrier, Print, If', While', If}
use Rattle.lrc_program.specs.declared.Statement.TheVariants.{While, outs-If', outs-While', rolls-If, rolls-While}
use Rattle.lrc_exec.specs.declared.code.Instruction.{Instruction}
use Rattle.lrc_exec.specs.Laid.{IsLaid}
use Rattle.lrc_exec.specs.Meaning.{block}
use Rattle.lrc_exec.specs.Flat.{rests_from, rest_at, where_it_holds, where_it_fails, IsSoundAt, IsSoundFrom, IsGrown, IsPut, IsCodeOf}
use Rattle.lrc_exec.proofs.Privates.{HasFew, HaveFew, few_of_one, few_front, few_behind, few_first, few_second, few_inside}

-- the rows of a block are the items of its vector
pub block-row : (n : _) (row : Row_of-Statement n) → block row ≡ items-the_row-Statement n row
block-row _ end_of-Statement = refl
block-row _ (more_of-Statement statement more) = ap (λ l. statement ∷ l) (block-row _ more)

-- the lists of a longer code
pub rests_from-append : (rests : List (List Statement)) (a b : List Instruction) → rests_from rests (a ++ b) ≡ rests_from (rests_from rests a) b
unfolding rests_from
rests_from-append rests [] b = refl
rests_from-append rests (i ∷ a) b = rests_from-append (rests ++ (i.statement.now ∷ get_or rests i.next []) ∷ []) a b

pub length-rests_from : (rests : List (List Statement)) (code : List Instruction) → length (rests_from rests code) ≡ length rests + length code
unfolding rests_from
length-rests_from rests [] = omega arith
length-rests_from rests (i ∷ code) =
    let more = rests ++ (i.statement.now ∷ get_or rests i.next []) ∷ [] in
    omega (arith, length-rests_from more code, length-append rests ((i.statement.now ∷ get_or rests i.next []) ∷ []))

pub get_or-rests_from : (rests : List (List Statement)) (code : List Instruction) (place : ℕ) → place < length rests
    → get_or (rests_from rests code) place [] ≡ get_or rests place []
unfolding rests_from
get_or-rests_from rests [] place within = refl
get_or-rests_from rests (i ∷ code) place within =
    let last = (i.statement.now ∷ get_or rests i.next []) ∷ [] in
    let inside : place < length (rests ++ last) = omega (arith, length-append rests last) in
    get_or-rests_from (rests ++ last) code place inside ∙ get_or-append rests last [] place within

-- what is still to do at a place stays as the code grows
pub rest_at-append : (a b : List Instruction) (place : ℕ) → place ≤ length a → rest_at (a ++ b) place ≡ rest_at a place
unfolding rest_at
rest_at-append a b place within =
    let inside : place < length (rests_from ([] ∷ []) a) = omega (arith, length-rests_from ([] ∷ []) a) in
    ap (λ l. get_or l place []) (rests_from-append ([] ∷ []) a b) ∙ get_or-rests_from (rests_from ([] ∷ []) a) b place inside

-- at the last place, the statement of the last instruction comes first
pub rest_at-last : (a : List Instruction) (i : Instruction) → rest_at (a ++ i ∷ []) (length a + 1) ≡ i.statement.now ∷ rest_at a i.next
unfolding rest_at rests_from
rest_at-last a i =
    let rests = rests_from ([] ∷ []) a in
    let here : length a + 1 ≡ length rests = omega (arith, length-rests_from ([] ∷ []) a) in
    ap (λ l. get_or l (length a + 1) []) (rests_from-append ([] ∷ []) a (i ∷ []))
    ∙ ap (λ n. get_or (rests ++ (i.statement.now ∷ get_or rests i.next []) ∷ []) n []) here
    ∙ get_or-append_seam rests (i.statement.now ∷ get_or rests i.next []) [] []

-- at the end nothing is still to do
pub rest_at-end : (code : List Instruction) → rest_at code 0 ≡ []
unfolding rest_at rests_from
rest_at-end code = rest_at-append [] code 0 (omega arith)

-- the instructions before the k-th, it, and those behind it
split_at : (code : List Instruction) (k : ℕ) (i : Instruction) → slice_get code k ≡ Some i → (before after : List Instruction) × (length before ≡ k)
    × (code ≡ before ++ i ∷ after)
split_at [] k i is = cc
split_at (j ∷ code) zero i is = ([], code, refl, (let e : j ≡ i = cc in ap (λ x. x ∷ code) e))
split_at (j ∷ code) (suc k) i is =
    let h = split_at code k i is in
    (j ∷ h.0, h.1, ap suc h.2, ap (λ l. j ∷ l) h.3)

-- at the place of an instruction, its statement comes first, and then what is still to do at its next place
pub rest_at-instruction : (code : List Instruction) (k : ℕ) (i : Instruction) → slice_get code k ≡ Some i → i.next ≤ k
    → rest_at code (k + 1) ≡ i.statement.now ∷ rest_at code i.next
rest_at-instruction code k i is below =
    let h = split_at code k i is in
    let before = h.0 in
    let after = h.1 in
    let long = h.2 in
    let whole : code ≡ (before ++ i ∷ []) ++ after = h.3 ∙ sym (append_assoc before (i ∷ []) after) in
    let within : k + 1 ≤ length (before ++ i ∷ []) = omega (arith, length-append before (i ∷ [])) in
    let next_within : i.next ≤ length before = omega arith in
    let next_inside : i.next ≤ length (before ++ i ∷ []) = omega arith in
    ap (λ c. rest_at c (k + 1)) whole
    ∙ rest_at-append (before ++ i ∷ []) after (k + 1) within
    ∙ ap (λ n. rest_at (before ++ i ∷ []) (n + 1)) (sym long)
    ∙ rest_at-last before i
    ∙ ap (λ l. i.statement.now ∷ l) (sym (ap (λ c. rest_at c i.next) whole ∙ rest_at-append (before ++ i ∷ []) after i.next next_inside
    ∙ rest_at-append before (i ∷ []) i.next next_within))

-- sound instructions stay so as the code grows
pub IsSound-append : (a b : List Instruction) (k : ℕ) (i : Instruction) → k < length a → IsSoundAt a k i → IsSoundAt (a ++ b) k i
IsSound-append a b k i inside sound =
    let next_within : i.next ≤ length a = omega (arith, sound.next_below) in
    let next_same = rest_at-append a b i.next next_within in
    record {
      next_below = sound.next_below;
      then_within = omega (arith, length-append a b, sound.then_within);
      otherwise_within = omega (arith, length-append a b, sound.otherwise_within);
      then_leads = rest_at-append a b i.then sound.then_within ∙ sound.then_leads ∙ ap (where_it_holds i.statement.now) (sym next_same);
      otherwise_leads = rest_at-append a b i.otherwise sound.otherwise_within ∙ sound.otherwise_leads ∙ ap (where_it_fails i.statement.now) (sym next_same);
      names = sound.names;
    }

slice_get_left : (a b : List Instruction) (k : ℕ) (i : Instruction) → k < length a → slice_get (a ++ b) k ≡ Some i → slice_get a k ≡ Some i
slice_get_left a b k i inside is =
    slice_get-get_or a k i inside ∙ ap Some (sym (get_or-append a b i k inside) ∙ get_or_from_slice_get (a ++ b) k i i is)

sound_both : (mid new more : List Instruction) (from : ℕ) → new ≡ mid ++ more → IsSoundFrom from mid → IsSoundFrom (length mid) new → IsSoundFrom from new
sound_both mid new more from grown before after k i past is =
    ⊎_elim (λ inside. subst (λ c. IsSoundAt c k i) (sym grown)
    (IsSound-append mid more k i inside (before k i past (slice_get_left mid more k i inside (sym (ap (λ c. slice_get c k) grown) ∙ is)))))
    (λ behind. after k i behind is)
    (cases_lt k (length mid))

-- code that has not grown
pub grown_none : (code : List Instruction) (next : ℕ) → next ≤ length code → IsGrown code code [] next next
grown_none code next within =
    record {
      more = [];
      grown = sym (append-nil code);
      within = within;
      leads = refl;
      sound = λ few k i past is. absurd (omega (arith, slice_get_within code k i is));
    }

-- code that grew once before
pub grown_behind : (old mid new : List Instruction) (first second : List Statement) (n p next place : ℕ) → (HaveFew second → HaveFew first)
    → IsGrown old mid first n p → IsGrown mid new second next place → IsGrown old new second next place
grown_behind old mid new first second n p next place both g h =
    let whole : new ≡ old ++ (g.more ++ h.more) = h.grown ∙ ap (λ c. c ++ h.more) g.grown ∙ append_assoc old g.more h.more in
    record {
      more = g.more ++ h.more;
      grown = whole;
      within = h.within;
      leads = h.leads;
      sound = λ few. sound_both mid new h.more (length old) h.grown (g.sound (both few)) (h.sound few);
    }

-- code that grew by a block, and then by what comes before it
pub grown_on : (old mid new : List Instruction) (first rest : List Statement) (next place entry : ℕ) → next ≤ length old → IsGrown old mid rest next place
    → IsGrown mid new first place entry → IsGrown old new (first ++ rest) next entry
grown_on old mid new first rest next place entry within g h =
    let whole : new ≡ old ++ (g.more ++ h.more) = h.grown ∙ ap (λ c. c ++ h.more) g.grown ∙ append_assoc old g.more h.more in
    let next_within : next ≤ length mid = omega (arith, ap length g.grown, length-append old g.more) in
    let at_place = ap (λ c. rest_at c place) h.grown ∙ rest_at-append mid h.more place g.within in
    let at_next = ap (λ c. rest_at c next) h.grown ∙ rest_at-append mid h.more next next_within in
    record {
      more = g.more ++ h.more;
      grown = whole;
      within = h.within;
      leads =
          h.leads ∙ ap (λ l. first ++ l) (at_place ∙ g.leads ∙ ap (λ l. rest ++ l) (sym at_next)) ∙ sym (append_assoc first rest (rest_at new next));
      sound = λ few. sound_both mid new h.more (length old) h.grown (g.sound (few_behind first rest few)) (h.sound (few_front first rest few));
    }

-- code that grew by one instruction, which leads where its statement does
pub grown_one : (code : List Instruction) (i : Instruction) → i.next ≤ length code → i.then ≤ length code → i.otherwise ≤ length code
    → rest_at code i.then ≡ where_it_holds i.statement.now (rest_at code i.next)
    → rest_at code i.otherwise ≡ where_it_fails i.statement.now (rest_at code i.next)
    → IsGrown code (code ++ i ∷ []) (i.statement.now ∷ []) i.next (length (code ++ i ∷ []))
grown_one code i next_within then_within otherwise_within then_leads otherwise_leads =
    let long = length-append code (i ∷ []) in
    let same_next = rest_at-append code (i ∷ []) i.next next_within in
    let sound : HasFew i.statement.now → IsSoundAt (code ++ i ∷ []) (length code) i =
    λ few. record {
      next_below = next_within;
      then_within = omega arith;
      otherwise_within = omega arith;
      then_leads = rest_at-append code (i ∷ []) i.then then_within ∙ then_leads ∙ ap (where_it_holds i.statement.now) (sym same_next);
      otherwise_leads = rest_at-append code (i ∷ []) i.otherwise otherwise_within ∙ otherwise_leads ∙ ap (where_it_fails i.statement.now) (sym same_next);
      names = few;
    }
    in
    record {
      more = i ∷ [];
      grown = refl;
      within = omega arith;
      leads = ap (rest_at (code ++ i ∷ [])) long ∙ rest_at-last code i ∙ ap (λ l. i.statement.now ∷ l) (sym same_next);
      sound = λ few k j past is.
          let here : k ≡ length code = omega (arith, slice_get_within (code ++ i ∷ []) k j is) in
          let same : i ≡ j = sym (get_or-append_seam code i [] j) ∙ ap (λ n. get_or (code ++ i ∷ []) n j) (sym here)
          ∙ get_or_from_slice_get (code ++ i ∷ []) k j j is in
          subst (λ n. IsSoundAt (code ++ i ∷ []) n j) (sym here)
          (subst (λ x. IsSoundAt (code ++ i ∷ []) (length code) x) same (sound (few_of_one i.statement.now few)));
    }

-- a block that a vector holds
pub block-items : (v : _) → block (hidden-the_row-Statement-0 v) ≡ v.items
block-items v = block-row _ (hidden-the_row-Statement-0 v) ∙ items_hidden-the_row-Statement-0 v

-- a choice and a loop, as made of their vectors
pub if_made : (e : _) (p : _) (a : _) (q : _) (b : _) → If' e p a q b ≡ If e (shown-the_row-Statement-0 p a) (shown-the_row-Statement-0 q b)
if_made e p a q b = sym (roll-out-Statement (If' e p a q b)) ∙ ap roll-Statement (outs-If' e p a q b) ∙ rolls-If e _ _

pub while_made : (e : _) (p : _) (a : _) → While' e p a ≡ While e (shown-the_row-Statement-0 p a)
while_made e p a = sym (roll-out-Statement (While' e p a)) ∙ ap roll-Statement (outs-While' e p a) ∙ rolls-While e _

-- a statement without a condition leads to what comes after it
pub straight_holds : (s : Statement) (rest : List Statement) → ((e : _) (a b : _) → s ≡ If e a b → ⊥) → ((e : _) (a : _) → s ≡ While e a → ⊥)
    → where_it_holds s rest ≡ rest
straight_holds (Assign name value) rest not_if not_while = refl
straight_holds (Read name word) rest not_if not_while = refl
straight_holds (Write word value) rest not_if not_while = refl
straight_holds (Acquire lock) rest not_if not_while = refl
straight_holds (Release lock) rest not_if not_while = refl
straight_holds Barrier rest not_if not_while = refl
straight_holds (Print value) rest not_if not_while = refl
straight_holds (If' e p a q b) rest not_if not_while = absurd (not_if e _ _ (if_made e p a q b))
straight_holds (While' e p a) rest not_if not_while = absurd (not_while e _ (while_made e p a))

pub straight_fails : (s : Statement) (rest : List Statement) → ((e : _) (a b : _) → s ≡ If e a b → ⊥) → where_it_fails s rest ≡ rest
straight_fails (Assign name value) rest not_if = refl
straight_fails (Read name word) rest not_if = refl
straight_fails (Write word value) rest not_if = refl
straight_fails (Acquire lock) rest not_if = refl
straight_fails (Release lock) rest not_if = refl
straight_fails Barrier rest not_if = refl
straight_fails (Print value) rest not_if = refl
straight_fails (If' e p a q b) rest not_if = absurd (not_if e _ _ (if_made e p a q b))
straight_fails (While' e p a) rest not_if = refl

-- code that grew by a statement without a condition
pub grown_straight : (code : List Instruction) (i : Instruction) (s : Statement) (next : ℕ) → i.statement.now ≡ s → i.next ≡ next → i.then ≡ next
    → i.otherwise ≡ next → next ≤ length code → ((e : _) (a b : _) → s ≡ If e a b → ⊥) → ((e : _) (a : _) → s ≡ While e a → ⊥)
    → IsGrown code (code ++ i ∷ []) (s ∷ []) next (length (code ++ i ∷ []))
grown_straight code i s next is_s is_next is_then is_otherwise within not_if not_while =
    let same_next = ap (rest_at code) is_next in
    let statement = i.statement.now in
    let grown : IsGrown code (code ++ i ∷ []) (statement ∷ []) i.next (length (code ++ i ∷ [])) =
    grown_one code i (omega arith) (omega arith) (omega arith)
    (ap (rest_at code) is_then ∙ sym same_next
    ∙ sym (straight_holds statement (rest_at code i.next) (λ e a b h. not_if e a b (sym is_s ∙ h)) (λ e a h. not_while e a (sym is_s ∙ h))))
    (ap (rest_at code) is_otherwise ∙ sym same_next ∙ sym (straight_fails statement (rest_at code i.next) (λ e a b h. not_if e a b (sym is_s ∙ h))))
    in
    subst (λ n. IsGrown code (code ++ i ∷ []) (s ∷ []) n (length (code ++ i ∷ []))) is_next
    (subst (λ x. IsGrown code (code ++ i ∷ []) (x ∷ []) i.next (length (code ++ i ∷ []))) is_s grown)

-- code that grew by a choice: both blocks, and then the instruction of its condition
pub grown_choice : (old c1 c2 : List Instruction) (i : Instruction) (e : _) (a b : _) (next then otherwise : ℕ) → i.statement.now ≡ If e a b → i.next ≡ next
    → i.then ≡ then → i.otherwise ≡ otherwise → next ≤ length old → IsGrown old c1 a.items next then → IsGrown c1 c2 b.items next otherwise
    → IsGrown old (c2 ++ i ∷ []) (If e a b ∷ []) next (length (c2 ++ i ∷ []))
grown_choice old c1 c2 i e a b next then otherwise is_s is_next is_then is_otherwise within g h =
    let long1 : length old ≤ length c1 = omega (arith, ap length g.grown, length-append old g.more) in
    let long2 : length c1 ≤ length c2 = omega (arith, ap length h.grown, length-append c1 h.more) in
    let then_within : i.then ≤ length c2 = omega (arith, g.within) in
    let otherwise_within : i.otherwise ≤ length c2 = omega (arith, h.within) in
    let next_within : i.next ≤ length c2 = omega arith in
    let at_then = ap (λ c. rest_at c then) h.grown ∙ rest_at-append c1 h.more then g.within in
    let at_next = ap (λ c. rest_at c next) h.grown ∙ rest_at-append c1 h.more next (omega arith) in
    let first : rest_at c2 i.then ≡ block (hidden-the_row-Statement-0 a) ++ rest_at c2 i.next =
    ap (rest_at c2) is_then ∙ at_then ∙ g.leads ∙ ap (λ l. a.items ++ l) (sym at_next ∙ sym (ap (rest_at c2) is_next))
    ∙ ap (λ l. l ++ rest_at c2 i.next) (sym (block-items a)) in
    let second : rest_at c2 i.otherwise ≡ block (hidden-the_row-Statement-0 b) ++ rest_at c2 i.next =
    ap (rest_at c2) is_otherwise ∙ h.leads ∙ ap (λ l. b.items ++ l) (sym (ap (rest_at c2) is_next)) ∙ ap (λ l. l ++ rest_at c2 i.next) (sym (block-items b)) in
    let one : IsGrown c2 (c2 ++ i ∷ []) (i.statement.now ∷ []) i.next (length (c2 ++ i ∷ [])) =
    grown_one c2 i next_within then_within otherwise_within
    (first ∙ ap (λ s. where_it_holds s (rest_at c2 i.next)) (sym is_s))
    (second ∙ ap (λ s. where_it_fails s (rest_at c2 i.next)) (sym is_s)) in
    let named = subst (λ n. IsGrown c2 (c2 ++ i ∷ []) (If e a b ∷ []) n (length (c2 ++ i ∷ []))) is_next
    (subst (λ x. IsGrown c2 (c2 ++ i ∷ []) (x ∷ []) i.next (length (c2 ++ i ∷ []))) is_s one) in
    let of_second = λ (few : HaveFew (If e a b ∷ [])). few_second e a b (few_of_one (If e a b) few) in
    let of_first = λ (few : HaveFew (If e a b ∷ [])). few_first e a b (few_of_one (If e a b) few) in
    let second_grown = grown_behind c1 c2 (c2 ++ i ∷ []) b.items (If e a b ∷ []) next otherwise next (length (c2 ++ i ∷ [])) of_second h named in
    grown_behind old c1 (c2 ++ i ∷ []) a.items (If e a b ∷ []) next then next (length (c2 ++ i ∷ [])) of_first g second_grown

-- an instruction with these places
abbrev pub leading : Bor Statement → (next then otherwise : ℕ) → Instruction
leading s next then otherwise = record { statement = s; next = next; then = then; otherwise = otherwise }

-- a place that is written into an instruction: where its condition leads
module _ (old more : List Instruction) (s : Bor Statement) (next then otherwise after : ℕ) where
  -- what is still to do at a place does not read it
  pub rest_at-written : (place : ℕ) → rest_at (old ++ leading s next then otherwise ∷ more) place ≡ rest_at (old ++ leading s next after otherwise ∷ more) place
  unfolding rest_at rests_from
  rest_at-written place =
      ap (λ l. get_or l place []) (rests_from-append ([] ∷ []) old (leading s next then otherwise ∷ more))
      ∙ sym (ap (λ l. get_or l place []) (rests_from-append ([] ∷ []) old (leading s next after otherwise ∷ more)))

  -- the other instructions stay sound
  pub IsSound-written : (k : ℕ) (i : Instruction) → IsSoundAt (old ++ leading s next then otherwise ∷ more) k i
      → IsSoundAt (old ++ leading s next after otherwise ∷ more) k i
  IsSound-written k i sound =
      let long = length-append old (leading s next then otherwise ∷ more) in
      let long' = length-append old (leading s next after otherwise ∷ more) in
      record {
        next_below = sound.next_below;
        then_within = omega (arith, sound.then_within);
        otherwise_within = omega (arith, sound.otherwise_within);
        then_leads = sym (rest_at-written i.then) ∙ sound.then_leads ∙ ap (where_it_holds i.statement.now) (rest_at-written i.next);
        otherwise_leads = sym (rest_at-written i.otherwise) ∙ sound.otherwise_leads ∙ ap (where_it_fails i.statement.now) (rest_at-written i.next);
        names = sound.names;
      }

-- the instruction at a seam, and those behind it
pub slice_get-seam : (old more : List Instruction) (i : Instruction) → slice_get (old ++ i ∷ more) (length old) ≡ Some i
slice_get-seam [] more i = refl
slice_get-seam (j ∷ old) more i = slice_get-seam old more i

pub slice_get-behind : (old more : List Instruction) (i j : Instruction) (k : ℕ) → length old < k
    → slice_get (old ++ i ∷ more) k ≡ slice_get (old ++ j ∷ more) k
slice_get-behind [] more i j zero behind = absurd (omega arith)
slice_get-behind [] more i j (suc k) behind = refl
slice_get-behind (x ∷ old) more i j zero behind = absurd (omega arith)
slice_get-behind (x ∷ old) more i j (suc k) behind = slice_get-behind old more i j k (omega arith)

-- code that grew by a loop: the instruction of its condition, and then its body, which leads back to it
pub grown_loop : (old c2 : List Instruction) (s : Bor Statement) (e : _) (a : _) (next then : ℕ) → s.now ≡ While e a → next ≤ length old
    → IsGrown (old ++ leading s next next next ∷ []) c2 a.items (length (old ++ leading s next next next ∷ [])) then
    → IsGrown old (slice_set c2 (length (old ++ leading s next next next ∷ []) - 1) (leading s next then next)) (While e a ∷ []) next (length (old
    ++ leading s next next next ∷ []))
grown_loop old c2 s e a next then is_s within g =
    let before = leading s next next next in
    let after = leading s next then next in
    let code = old ++ after ∷ g.more in
    let long : length (old ++ before ∷ []) ≡ length old + 1 = omega (arith, length-append old (before ∷ [])) in
    let grown : c2 ≡ old ++ before ∷ g.more = g.grown ∙ append_assoc old (before ∷ []) g.more in
    let here : length (old ++ before ∷ []) - 1 ≡ length old = omega arith in
    let whole : slice_set c2 (length (old ++ before ∷ []) - 1) after ≡ code =
    ap (λ c. slice_set c (length (old ++ before ∷ []) - 1) after) grown
    ∙ ap (λ n. slice_set (old ++ before ∷ g.more) n after) here
    ∙ set-append_seam old before g.more after in
    let length_code = length-append old (after ∷ g.more) in
    let length_c2 = ap length grown ∙ length-append old (before ∷ g.more) in
    let at_end : rest_at code (length old + 1) ≡ While e a ∷ rest_at code next =
    rest_at-instruction code (length old) after (slice_get-seam old g.more after) within ∙ ap (λ x. x ∷ rest_at code next) is_s in
    let same = λ (p : ℕ). ap (λ c. rest_at c p) grown ∙ rest_at-written old g.more s next next next then p in
    let body : rest_at code then ≡ where_it_holds (While e a) (rest_at code next) =
    sym (same then) ∙ g.leads
    ∙ ap (λ n. a.items ++ rest_at c2 n) long
    ∙ ap (λ l. a.items ++ l) (same (length old + 1) ∙ at_end)
    ∙ ap (λ l. l ++ While e a ∷ rest_at code next) (sym (block-items a)) in
    let first : HasFew (While e a) → IsSoundAt code (length old) after =
    λ few. record {
      next_below = within;
      then_within = omega (arith, g.within);
      otherwise_within = omega arith;
      then_leads = body ∙ ap (λ x. where_it_holds x (rest_at code next)) (sym is_s);
      otherwise_leads = ap (λ x. where_it_fails x (rest_at code next)) (sym is_s);
      names = subst HasFew (sym is_s) few;
    }
    in
    let sound : HasFew (While e a) → IsSoundFrom (length old) code = λ few k i past is.
    ⊎_elim
    (λ behind.
    let at_before : slice_get c2 k ≡ Some i = ap (λ c. slice_get c k) grown ∙ slice_get-behind old g.more before after k behind ∙ is in
    IsSound-written old g.more s next next next then k i (subst (λ c. IsSoundAt c k i) grown (g.sound (few_inside e a few) k i (omega arith) at_before)))
    (λ not_behind.
    let k_is : k ≡ length old = omega arith in
    let i_is : Some after ≡ Some i = sym (slice_get-seam old g.more after) ∙ ap (slice_get code) (sym k_is) ∙ is in
    let same_i : after ≡ i = cc in
    subst (λ n. IsSoundAt code n i) (sym k_is) (subst (λ x. IsSoundAt code (length old) x) same_i (first few)))
    (cases_lt (length old) k)
    in
    subst (λ c. IsGrown old c (While e a ∷ []) next (length (old ++ before ∷ []))) (sym whole)
    record {
      more = after ∷ g.more;
      grown = refl;
      within = omega arith;
      leads = ap (rest_at code) long ∙ at_end;
      sound = λ few. sound (few_of_one (While e a) few);
    }

-- code that grew from nothing is the code of its statements
pub grown_code : (old new : List Instruction) (statements : List Statement) (start : ℕ) → old ≡ [] → HaveFew statements
    → IsPut old new statements 0 start → IsCodeOf new start statements
grown_code old new statements start empty few p =
    let g = p.grown in
    record {
      within = g.within;
      leads = g.leads ∙ ap (λ l. statements ++ l) (rest_at-end new) ∙ append-nil statements;
      sound = λ k i past is. g.sound few k i (omega (arith, ap length empty)) is;
      each = omega (arith, p.each, ap length empty);
      laid = subst (λ n. IsLaid new n statements 0 start) (ap length empty) p.laid;
    }
