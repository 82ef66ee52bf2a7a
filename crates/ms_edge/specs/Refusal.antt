-- Where a refusal points to in a source.
use Rattle.std.specs.Prelude.{ℕ, ◌<◌, List, length, Option, Some, None}
use Rattle.ms_list.specs.declared.at.At.{At}
use Rattle.ms_edge.specs.declared.refusal.Refusal.{Refusal}
use Rattle.ms_edge.specs.declared.refusal.Refusal.TheVariants.{Word, NumberTooLarge, Grammar, Unclosed, UnknownName, Twice, WrongOrder, Arity, ConstRange, NotHere, LeftOut, VarsDiffer, FileMissing, IncludeCycle, ImportMissing, ImportText, ImportMode, ImportVars, ImportOpen, AutomatonText, CertText, FileSize, Includes, Depth, CoreSize, Nodes, ReadFault, WriteFault, SinkFault, Memory}

-- the place of a refusal, where it has one
abbrev pub place_of : Refusal → Option At
place_of (Word at byte) = Some at
place_of (NumberTooLarge at) = Some at
place_of (Grammar at) = Some at
place_of (Unclosed at) = Some at
place_of (UnknownName at name) = Some at
place_of (Twice at name) = Some at
place_of (WrongOrder at) = Some at
place_of (Arity at name given wanted) = Some at
place_of (ConstRange at) = at
place_of (NotHere at) = Some at
place_of (LeftOut at word) = Some at
place_of VarsDiffer = None
place_of (FileMissing at name) = at
place_of (IncludeCycle at name chain) = Some at
place_of (ImportMissing at name) = Some at
place_of (ImportText at name) = Some at
place_of (ImportMode at name) = Some at
place_of (ImportVars at name) = Some at
place_of (ImportOpen at name length word) = Some at
place_of (AutomatonText name) = None
place_of (CertText name) = None
place_of (FileSize name limit) = None
place_of (Includes at limit) = Some at
place_of (Depth at) = Some at
place_of CoreSize = None
place_of (Nodes step limit) = None
place_of (ReadFault name) = None
place_of (WriteFault name) = None
place_of (SinkFault taken) = None
place_of Memory = None

-- the place, where there is one, is in a file of the list
abbrev pub IsPlaced : Option At → List (List ℕ) → Type 0
IsPlaced None files = Unit {0}
IsPlaced (Some at) files = at.file < length files
