-- The line of `lint` on an index that is out of range.
use Rattle.std.specs.Prelude.{◌≡◌, ℕ, Option, Some, None, List, [], ◌++◌, codes, decimal}
use Rattle.lrc_named_tree.specs.Tree.{NamedTree}
use Rattle.lrc_named_expression_faults.specs.declared.fault.FaultKind.{FaultKind}
use Rattle.lrc_named_expression_faults.specs.declared.fault.FaultKind.TheVariants as kinds
use Rattle.lrc_named_index_hint.specs.declared.over.Beyond.{Beyond}
use Rattle.lrc_named_index_hint.specs.Out.{IsOutOfRange}

abbrev pub out_line : (value size : ℕ) → List ℕ
out_line value size = codes "  " ++ decimal value ++ codes " is not below " ++ decimal size ++ codes "\n"

-- the line of what was found, if it was
abbrev pub line_of : Option Beyond → List ℕ
line_of None = []
line_of (Some found) = out_line found.value found.size

-- the value of the index that begins at this token, and the size that it is not below
abbrev pub IsOutLine : NamedTree → (at : ℕ) → (line : List ℕ) → Type 0
IsOutLine tree at line = (value : ℕ) × (size : ℕ) × IsOutOfRange tree at value size × (line ≡ out_line value size)

-- the hint on a fault of this kind at this token: of an index that is out of range this line, and of other kinds none
abbrev pub IsIndexHint : FaultKind → NamedTree → (at : ℕ) → (line : List ℕ) → Type 0
IsIndexHint kinds.IndexOutOfRange tree at line = IsOutLine tree at line
IsIndexHint other tree at line = line ≡ []
