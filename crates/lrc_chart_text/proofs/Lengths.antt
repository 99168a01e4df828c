-- How long lines are.
use Rattle.std.proofs.Common.{◌≡◌, ◌≤◌, ◌<◌, ◌+◌, ◌*◌, ◌-◌, ℕ, zero, suc, List, [], ◌∷◌, ◌++◌, ap, arith, drop, length, map, refl, sym, take}
use Rattle.std.specs.Prelude.{All, Bool, true, false, codes, cond, decimal, nat_le, replicate}
use Rattle.std.specs.List.{enumerate_from, flat_map, range_with_len}
use Rattle.std.proofs.Math.Nat.{mul-le-mul_right, suc-mul}
use Rattle.std.proofs.lemmas.Bool.{le-leb, leb-true}
use Rattle.std.proofs.lemmas.Fmt.{length-decimal-le}
use Rattle.std.proofs.lemmas.List.{length-append, length-map, length-replicate, length-take}
use Rattle.std.proofs.lemmas.List.Elements.{All-append, All-cons, All-head, All-nil, All-tail}
use Rattle.lrc_text.specs.Each.{each}
use Rattle.lrc_chart_text.specs.declared.columns.Shape.{Shape}
use Rattle.lrc_chart_text.specs.Columns.{band_margin, bar, bars, bars_margin, between_sign, cell}
use Rattle.lrc_chart_text.specs.Columns.{cells, name_margin, number_text, room_of, row_margin, width_of}
use Rattle.lrc_chart_text.specs.Lines.{cut_words, filled, headed, joined_line, paragraph, pieces_of, plain_sign, plain_signs}
use Rattle.lrc_chart_text.specs.Short.{AreShort}

abbrev IsShort : (most : ℕ) → List ℕ → Type 0
IsShort most line = length line ≤ most

-- ---- lists of lines

pub short_none : (most : ℕ) → AreShort most []
short_none most = All-nil (IsShort most)

pub short_more : (most : ℕ) (line : List ℕ) (lines : List (List ℕ)) → length line ≤ most → AreShort most lines → AreShort most (line ∷ lines)
short_more most line lines here there = All-cons (IsShort most) line lines here there

pub short_both : (most : ℕ) (first second : List (List ℕ)) → AreShort most first → AreShort most second → AreShort most (first ++ second)
short_both most first second here there = All-append (IsShort most) first second here there

pub short_flat : {X : Type 0} (most : ℕ) (of : X → List (List ℕ)) (items : List X) → ((x : X) → AreShort most (of x)) → AreShort most (flat_map of items)
short_flat most of [] each_is = short_none most
short_flat most of (x ∷ items) each_is = short_both most (of x) (flat_map of items) (each_is x) (short_flat most of items each_is)

short_from : {X : Type 0} (most n bound : ℕ) (of : ℕ → X → List (List ℕ)) (items : List X) → n + length items ≤ bound
    → ((i : ℕ) (x : X) → i < bound → AreShort most (of i x)) → AreShort most (flat_map (λ at. of at.0 at.1) (enumerate_from n items))
short_from most n bound of [] within each_is = short_none most
short_from {X} most n bound of (x ∷ items) within each_is =
    short_both most (of n x) (flat_map (λ (at : ℕ × X). of at.0 at.1) (enumerate_from (n + 1) items)) (each_is n x (omega arith))
    (short_from most (n + 1) bound of items (omega arith) each_is)

pub short_each : {X : Type 0} (most : ℕ) (of : ℕ → X → List (List ℕ)) (items : List X)
    → ((i : ℕ) (x : X) → i < length items → AreShort most (of i x)) → AreShort most (each of items)
short_each most of items each_is = short_from most 0 (length items) of items (omega arith) each_is

-- of items that are so
short_where_from : {X : Type 0} (most n : ℕ) (P : X → Type 0) (of : ℕ → X → List (List ℕ)) (items : List X) → All P items
    → ((i : ℕ) (x : X) → P x → AreShort most (of i x)) → AreShort most (flat_map (λ at. of at.0 at.1) (enumerate_from n items))
short_where_from most n P of [] are each_is = short_none most
short_where_from {X} most n P of (x ∷ items) are each_is =
    short_both most (of n x) (flat_map (λ (at : ℕ × X). of at.0 at.1) (enumerate_from (n + 1) items)) (each_is n x (All-head P x items are))
    (short_where_from most (n + 1) P of items (All-tail P x items are) each_is)

pub short_where : {X : Type 0} (most : ℕ) (P : X → Type 0) (of : ℕ → X → List (List ℕ)) (items : List X) → All P items
    → ((i : ℕ) (x : X) → P x → AreShort most (of i x)) → AreShort most (each of items)
short_where most P of items are each_is = short_where_from most 0 P of items are each_is

-- ---- phrases in lines

cut_short : (most room : ℕ) (words : List ℕ) → AreShort room (cut_words most room words)
cut_short zero room words = short_none room
cut_short (suc most) room [] = short_none room
cut_short (suc most) room (w ∷ words) =
    let taken = length-take room (w ∷ words) in
    let same = length-map (take room (w ∷ words)) plain_sign in
    short_more room (plain_signs (take room (w ∷ words))) (cut_words most room (drop room (w ∷ words))) (omega (arith, taken, same))
    (cut_short most room (drop room (w ∷ words)))

-- a line and a piece that is no longer than a line make lines that are no longer
fill_one : (room : ℕ) (line piece : List ℕ) (more : List (List ℕ)) (fits : Bool) → fits ≡ nat_le (length (joined_line line piece)) room → length line ≤ room
    → (length (joined_line line piece) ≤ room → AreShort room (filled room (joined_line line piece) more)) → AreShort room (filled room piece more)
    → AreShort room (cond fits (filled room (joined_line line piece) more) (line ∷ filled room piece more))
fill_one room line piece more true is short here there = here (leb-true (length (joined_line line piece)) room (sym is))
fill_one room line piece more false is short here there = short_more room line (filled room piece more) short there

filled_short : (room : ℕ) (line : List ℕ) (pieces : List (List ℕ)) → length line ≤ room → AreShort room pieces → AreShort room (filled room line pieces)
filled_short room line [] short are = short_more room line [] short (short_none room)
filled_short room line (piece ∷ more) short are =
    let head : length piece ≤ room = All-head (IsShort room) piece more are in
    let tail : AreShort room more = All-tail (IsShort room) piece more are in
    fill_one room line piece more (nat_le (length (joined_line line piece)) room) refl short
    (λ fits. filled_short room (joined_line line piece) more fits tail) (filled_short room piece more head tail)

pub paragraph_short : (room : ℕ) (phrases : List (List ℕ)) → AreShort room (paragraph room phrases)
paragraph_short room phrases =
    filled_short room [] (flat_map (pieces_of room) phrases) (omega arith) (short_flat room (pieces_of room) phrases (λ phrase. cut_short (length phrase) room phrase))

behind_margin : (most room : ℕ) (margin : List ℕ) (lines : List (List ℕ)) → length margin + room ≤ most → AreShort room lines
    → AreShort most (map (λ l. margin ++ l) lines)
behind_margin most room margin [] fits are = short_none most
behind_margin most room margin (line ∷ lines) fits are =
    let head : length line ≤ room = All-head (IsShort room) line lines are in
    let long = length-append margin line in
    short_more most (margin ++ line) (map (λ l. margin ++ l) lines) (omega (arith, long, head, fits))
    (behind_margin most room margin lines fits (All-tail (IsShort room) line lines are))

pub headed_short : (most room : ℕ) (first rest : List ℕ) (lines : List (List ℕ)) → length first + room ≤ most → length rest + room ≤ most
    → AreShort room lines → AreShort most (headed first rest lines)
headed_short most room first rest [] fits others are = short_none most
headed_short most room first rest (line ∷ lines) fits others are =
    let head : length line ≤ room = All-head (IsShort room) line lines are in
    let long = length-append first line in
    short_more most (first ++ line) (map (λ l. rest ++ l) lines) (omega (arith, long, head, fits))
    (behind_margin most room rest lines others (All-tail (IsShort room) line lines are))

-- ---- margins

wide : (of : ℕ → List ℕ) (width a n : ℕ) → ((column : ℕ) → length (of column) ≡ width) → length (flat_map of (range_with_len a n)) ≡ n * width
wide of width a zero each_is = omega arith
wide of width a (suc n) each_is =
    let here = each_is a in
    let there = wide of width (a + 1) n each_is in
    let both = length-append (of a) (flat_map of (range_with_len (a + 1) n)) in
    let product = suc-mul n width in
    omega (arith, here, there, both, product)

-- how wide columns are, and what is left of a line
three_by : (few some : Bool) → 3 ≤ cond few 8 (cond some 5 3)
three_by true some = omega arith
three_by false true = omega arith
three_by false false = omega arith

pub three_or_more : (columns : ℕ) → 3 ≤ width_of columns
three_or_more columns = three_by (nat_le columns 4) (nat_le columns 8)

small_by : (columns : ℕ) (few some : Bool) → nat_le columns 4 ≡ few → nat_le columns 8 ≡ some → columns ≤ 16 → columns * cond few 8 (cond some 5 3) ≤ 48
small_by columns true some few_is some_is all = let few = leb-true columns 4 few_is in omega arith
small_by columns false true few_is some_is all = let some = leb-true columns 8 some_is in omega arith
small_by columns false false few_is some_is all = omega arith

pub small : (columns : ℕ) → columns ≤ 16 → columns * width_of columns ≤ 48
small columns all = small_by columns (nat_le columns 4) (nat_le columns 8) refl refl all

pub room_left : (columns : ℕ) → columns ≤ 16 → room_of columns + columns * width_of columns ≡ 93
room_left columns all =
    let few = small columns all in
    let is : room_of columns ≡ 93 - columns * width_of columns = ap (λ b. cond b (93 - columns * width_of columns) 45) (le-leb columns 16 all) in
    omega (arith, few, is)

bar_wide : (width : ℕ) → 3 ≤ width → length (bar width) ≡ width
bar_wide width some =
    let both = length-append (codes " |") (replicate (width - 2) 32) in
    let blanks = length-replicate {A = ℕ} (width - 2) 32 in
    omega (arith, both, blanks, some)

bars_wide : (width columns : ℕ) → 3 ≤ width → length (bars width columns) ≡ columns * width
bars_wide width columns some = wide (λ column. bar width) width 0 columns (λ column. bar_wide width some)

cell_wide : (width : ℕ) (shape : Shape) (column : ℕ) → 3 ≤ width → length (cell width shape column) ≡ width
cell_wide width shape column some =
    let blanks = length-replicate {A = ℕ} (width - 3) (between_sign shape column) in
    omega (arith, blanks, some)

cells_wide : (width columns : ℕ) (shape : Shape) → 3 ≤ width → length (cells width columns shape) ≡ columns * width
cells_wide width columns shape some = wide (cell width shape) width 0 columns (λ column. cell_wide width shape column some)

-- columns between six signs and one
framed : (first middle last : List ℕ) (n : ℕ) → length first ≡ 6 → length middle ≡ n → length last ≡ 1 → length (first ++ middle ++ last) ≡ 7 + n
framed first middle last n six is one =
    let both = length-append (first ++ middle) last in
    let front = length-append first middle in
    omega (arith, both, front, six, is, one)

number_wide : (n : ℕ) → n < 10000 → length (number_text n) ≡ 6
number_wide n few =
    let digits : length (decimal n) ≤ 4 = length-decimal-le 4 n (omega arith) (omega arith) (omega arith) in
    let blanks = length-replicate {A = ℕ} (4 - length (decimal n)) 32 in
    let front = length-append (replicate (4 - length (decimal n)) 32) (decimal n) in
    let all = length-append (replicate (4 - length (decimal n)) 32 ++ decimal n) (codes "  ") in
    omega (arith, digits, blanks, front, all)

module _ (columns : ℕ) (few : columns ≤ 16) where
  abbrev wide_enough : 3 ≤ width_of columns
  wide_enough = three_or_more columns

  pub row_fits : (number : ℕ) (shape : Shape) → number < 10000 → length (row_margin columns number shape) + room_of columns ≤ 100
  row_fits number shape low =
      let left = room_left columns few in
      let long = framed (number_text number) (cells (width_of columns) columns shape) (codes " ") (columns * width_of columns) (number_wide number low)
      (cells_wide (width_of columns) columns shape wide_enough) refl in
      omega (arith, left, long)

  pub bars_fit : length (bars_margin columns) + room_of columns ≤ 100
  bars_fit =
      let left = room_left columns few in
      let long = framed (codes "      ") (bars (width_of columns) columns) (codes " ") (columns * width_of columns) refl
      (bars_wide (width_of columns) columns wide_enough) refl in
      omega (arith, left, long)

  pub name_fits : (column : ℕ) → column < columns → length (name_margin columns column) + room_of columns ≤ 100
  name_fits column low =
      let left = room_left columns few in
      let long = framed (codes "      ") (bars (width_of columns) column) (codes " ") (column * width_of columns) refl
      (bars_wide (width_of columns) column wide_enough) refl in
      let less : column * width_of columns ≤ columns * width_of columns = mul-le-mul_right {m = column} {n = columns} (width_of columns) (omega arith) in
      omega (arith, left, long, less)

  pub band_fits : length (band_margin columns) + room_of columns ≤ 100
  band_fits =
      let left = room_left columns few in
      let rule = wide (λ column. replicate (width_of columns) 61) (width_of columns) 0 columns (λ column. length-replicate {A = ℕ} (width_of columns) 61) in
      let long = framed (codes "      ") (flat_map (λ column. replicate (width_of columns) 61) (range_with_len 0 columns)) (codes " ")
      (columns * width_of columns) refl rule refl in
      omega (arith, left, long)
