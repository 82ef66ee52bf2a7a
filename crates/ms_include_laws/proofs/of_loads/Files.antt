-- What a file reads as, where what is held is told.
use Rattle.std.proofs.Common.{◌≡◌, ℕ, ◌≤◌, inr, List, length, Option, Some, None, refl, sym, ap, ◌∙◌, subst, arith}
use Rattle.ms_edge.specs.Files.{Holding, Holds, HoldsMoreThan, Lacks, Seen}
use Rattle.ms_list.specs.declared.at.At.{At}
use Rattle.ms_edge.specs.declared.refusal.Refusal.{Refusal}
use Rattle.ms_edge.specs.declared.refusal.Refusal.TheVariants.{FileMissing, FileSize, Memory, ReadFault}
use Rattle.ms_logic.specs.declared.source.Source.{Source}
use Rattle.ms_include.specs.File.{AreBytes, IsNoSource, IsSource, IsUnread, ReadAs, source_limit}
use Rattle.ms_include_laws.specs.Told.{IsFromOutside, TellSame}
use Rattle.ms_include_laws.proofs.of_loads.Refusals.{one_read, read_or_refused}

same_some : (one other : List ℕ) → Some one ≡ Some other → one ≡ other
same_some one other same = cc

nothing_held : (bytes : List ℕ) → Some bytes ≡ None → ⊥
nothing_held bytes same = cc

held_once : (holding : Holding) (name one other : List ℕ) → holding name ≡ Some one → holding name ≡ Some other → one ≡ other
held_once holding name one other is is' = same_some one other (sym is ∙ is')

-- bytes of one file are the same
one_content : (holding : Holding) (held held' : Option Holding) (name one other : List ℕ) → held ≡ Some holding → held' ≡ Some holding → AreBytes held name one → AreBytes held' name other → one ≡ other
one_content holding held held' name one other told told' are are' =
    held_once holding name one other (subst (λ h. Holds h name one) told are.holds) (subst (λ h. Holds h name other) told' are'.holds)

-- a file reads as one source
pub one_source_of_file : (holding : Holding) (held held' : Option Holding) (number : ℕ) (name : List ℕ) (one other : Source) → held ≡ Some holding → held' ≡ Some holding →
    IsSource held number name one → IsSource held' number name other → one ≡ other
one_source_of_file holding held held' number name one other told told' (bytes, are, reads) (bytes', are', reads') =
    one_read number bytes' one other (subst (λ b. ReadAs number b one) (one_content holding held held' name bytes bytes' told told' are are') reads) reads'

-- a file that reads as a source is refused for want of memory alone
pub source_or_none : (holding : Holding) (held held' : Option Holding) (number : ℕ) (name : List ℕ) (source : Source) (refusal : Refusal) → held ≡ Some holding → held' ≡ Some holding →
    IsSource held number name source → IsNoSource held' number name refusal → refusal ≡ Memory
source_or_none holding held held' number name source refusal told told' (bytes, are, reads) (bytes', are', none) =
    read_or_refused number bytes' source refusal (subst (λ b. ReadAs number b source) (one_content holding held held' name bytes bytes' told told' are are') reads) none

not_too_long : (holding : Holding) (name bytes : List ℕ) → holding name ≡ Some bytes → length bytes ≤ source_limit → HoldsMoreThan (Some holding) name source_limit → ⊥
not_too_long holding name bytes is within (long, held, more) = let same : length bytes ≡ length long = ap length (held_once holding name bytes long is held) in omega (arith, same, within, more)

-- a file that reads as a source is unread only since a read failed
unread_told : (other : Seen) (holding : Holding) (named : Option At) (name bytes : List ℕ) (refusal : Refusal) → other.before.held ≡ Some holding → holding name ≡ Some bytes → length bytes ≤ source_limit →
    IsUnread other named name refusal → IsFromOutside other refusal
unread_told other holding named name bytes (FileMissing at missing) told is within unread =
    absurd (nothing_held bytes (sym is ∙ subst (λ h. Lacks h name) told unread.2))
unread_told other holding named name bytes (FileSize long limit) told is within unread =
    absurd (not_too_long holding name bytes is within (subst (λ h. HoldsMoreThan h name source_limit) told unread.2))
unread_told other holding named name bytes (ReadFault file) told is within unread = inr (file, refl, unread.1)
unread_told other holding named name bytes _ told is within unread = absurd unread

pub source_or_unread : (seen other : Seen) → TellSame seen other → (number : ℕ) (named : Option At) (name : List ℕ) (source : Source) (refusal : Refusal) →
    IsSource seen.before.held number name source → IsUnread other named name refusal → IsFromOutside other refusal
source_or_unread seen other same number named name source refusal (bytes, are, reads) unread =
    unread_told other same.holding named name bytes refusal same.other_told (subst (λ h. Holds h name bytes) same.one_told are.holds) are.within unread
