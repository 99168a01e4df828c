-- The lines that say where something was found, and what, and how much.
use Rattle.std.specs.Prelude.{ℕ, ◌==◌, List, ◌++◌, codes, decimal, if◌then◌else◌}
use Rattle.lrc_lang.specs.declared.fault.FaultKind.{FaultKind}
use Rattle.lrc_lang.specs.declared.fault.FaultKind.TheVariants.{TooLong, BadByte, BadNumber, Unexpected, TooDeep, TooManyNames, OverLimit, NoMemory}

-- where something was found
abbrev pub place_text : List ℕ → ℕ → ℕ → List ℕ
place_text file line column = file ++ codes ":" ++ decimal line ++ codes ":" ++ decimal column ++ codes ": "

-- what a fault is called
abbrev pub kind_text : FaultKind → List ℕ
kind_text TooLong = codes "text too long"
kind_text BadByte = codes "bad byte"
kind_text BadNumber = codes "bad number"
kind_text Unexpected = codes "unexpected token"
kind_text TooDeep = codes "nested too deep"
kind_text TooManyNames = codes "too many names"
kind_text OverLimit = codes "over a limit"
kind_text NoMemory = codes "out of memory"

-- a token that may not stand where it stands, as it is spelled, or the end of the text there
abbrev pub unexpected_text : List ℕ → List ℕ
unexpected_text token = codes "error: unexpected `" ++ token ++ codes "`\n"

abbrev pub unexpected_end_text : List ℕ
unexpected_end_text = codes "error: unexpected end of the text\n"

-- any other fault
abbrev pub fault_text : FaultKind → List ℕ
fault_text kind = codes "error: " ++ kind_text kind ++ codes "\n"

-- how many warnings there are
abbrev pub count_text : ℕ → List ℕ
count_text count =
    if count == 0 then codes "no warnings\n" else (if count == 1 then codes "1 warning\n" else decimal count ++ codes " warnings\n")
