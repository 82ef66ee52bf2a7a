-- The line that a refusal prints (docs/FORMATS.md, "Refusals"): its number and words, then the place and the
-- detail where there are any, and a line feed.
use Rattle.std.specs.Prelude.{ℕ, ◌+◌, ◌/◌, ◌%◌, nat_lt, if◌then◌else◌, List, [], ◌∷◌, ◌++◌, codes, slice_get, unwrap_or, Option, Some, None}
use Rattle.std.specs.Fmt.{decimal}
use Rattle.ms_list.specs.declared.at.At.{At}
use Rattle.ms_edge.specs.Refusal.{place_of}
use Rattle.ms_edge.specs.declared.refusal.Refusal.{Refusal}
use Rattle.ms_edge.specs.declared.refusal.Refusal.TheVariants.{Word, NumberTooLarge, Grammar, Unclosed, UnknownName, Twice, WrongOrder, Arity, ConstRange, NotHere, LeftOut, VarsDiffer, FileMissing, IncludeCycle, ImportMissing, ImportText, ImportMode, ImportVars, ImportOpen, AutomatonText, CertText, FileSize, Includes, Depth, CoreSize, Nodes, ReadFault, WriteFault, SinkFault, Memory}

-- the number and the words of a refusal; a fault of the sink has no line
abbrev pub words_of : Refusal → List ℕ
words_of (Word at byte) = codes "10 unexpected byte"
words_of (NumberTooLarge at) = codes "11 number too large"
words_of (Grammar at) = codes "12 grammar"
words_of (Unclosed at) = codes "13 unclosed"
words_of (UnknownName at name) = codes "20 unknown name"
words_of (Twice at name) = codes "21 named twice"
words_of (WrongOrder at) = codes "22 wrong order"
words_of (Arity at name given wanted) = codes "23 wrong number of arguments"
words_of (ConstRange at) = codes "24 out of range"
words_of (NotHere at) = codes "25 not allowed here"
words_of (LeftOut at word) = codes "26 left out"
words_of VarsDiffer = codes "28 variables differ"
words_of (FileMissing at name) = codes "30 no such file"
words_of (IncludeCycle at name chain) = codes "31 include cycle"
words_of (ImportMissing at name) = codes "40 no such import"
words_of (ImportText at name) = codes "41 not an automaton file"
words_of (ImportMode at name) = codes "42 import of another mode"
words_of (ImportVars at name) = codes "43 import variables differ"
words_of (ImportOpen at name length word) = codes "44 import does not settle"
words_of (AutomatonText name) = codes "45 not an automaton file"
words_of (CertText name) = codes "46 not a certificate"
words_of (FileSize name limit) = codes "50 file too long"
words_of (Includes at limit) = codes "51 too many includes"
words_of (Depth at) = codes "52 too deep"
words_of CoreSize = codes "53 source too large"
words_of (Nodes step limit) = codes "54 node limit"
words_of (ReadFault name) = codes "60 read fault"
words_of (WriteFault name) = codes "61 write fault"
words_of (SinkFault taken) = []
words_of Memory = codes "70 out of memory"

-- a hexadecimal digit, in lower case
abbrev pub hex_digit : ℕ → ℕ
hex_digit value = if nat_lt value 10 then 48 + value else 87 + value

-- the detail of a refusal, where it has one
abbrev pub detail_of : Refusal → Option (List ℕ)
detail_of (Word at byte) = Some (hex_digit (byte / 16) ∷ hex_digit (byte % 16) ∷ [])
detail_of (NumberTooLarge at) = None
detail_of (Grammar at) = None
detail_of (Unclosed at) = None
detail_of (UnknownName at name) = Some name
detail_of (Twice at name) = Some name
detail_of (WrongOrder at) = None
detail_of (Arity at name given wanted) = Some name
detail_of (ConstRange at) = None
detail_of (NotHere at) = None
detail_of (LeftOut at word) = Some word
detail_of VarsDiffer = None
detail_of (FileMissing at name) = Some name
detail_of (IncludeCycle at name chain) = Some name
detail_of (ImportMissing at name) = Some name
detail_of (ImportText at name) = Some name
detail_of (ImportMode at name) = Some name
detail_of (ImportVars at name) = Some name
detail_of (ImportOpen at name length word) = Some (codes "length " ++ decimal length)
detail_of (AutomatonText name) = Some name
detail_of (CertText name) = Some name
detail_of (FileSize name limit) = Some name
detail_of (Includes at limit) = Some (decimal limit)
detail_of (Depth at) = None
detail_of CoreSize = None
detail_of (Nodes step limit) = Some (decimal limit)
detail_of (ReadFault name) = Some name
detail_of (WriteFault name) = Some name
detail_of (SinkFault taken) = None
detail_of Memory = None

-- ` at FILE:PLACE`, the file by its number in the list of names
abbrev pub place_text : List (List ℕ) → Option At → List ℕ
place_text files None = []
place_text files (Some at) = codes " at " ++ unwrap_or (slice_get files at.file) [] ++ codes ":" ++ decimal at.place

-- `: DETAIL`
abbrev pub detail_text : Option (List ℕ) → List ℕ
detail_text None = []
detail_text (Some detail) = codes ": " ++ detail

-- the line of a refusal, over the names of the files by their numbers
abbrev pub line_of : Refusal → List (List ℕ) → List ℕ
line_of refusal files = words_of refusal ++ place_text files (place_of refusal) ++ detail_text (detail_of refusal) ++ 10 ∷ []

-- the refusal is not a fault of the sink, for which no line can be written
abbrev pub HasLine : Refusal → Type 0
HasLine (SinkFault taken) = ⊥
HasLine refusal = Unit {0}
