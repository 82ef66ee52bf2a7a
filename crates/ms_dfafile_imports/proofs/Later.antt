-- A call within a request, by what the files told.
use Rattle.std.proofs.Common.{ℕ, ◌≤◌, inl, inr, refl, ◌∙◌, subst, arith}
use Rattle.ms_edge.specs.Counts.{Rose}
use Rattle.ms_edge.specs.declared.refusal.Refusal.{Refusal}
use Rattle.ms_edge.specs.declared.refusal.Refusal.TheVariants.{FileSize, ImportMissing, ReadFault}
use Rattle.ms_edge.specs.Files.{FilesTold, HoldsMoreThan, Lacks, OnlyRead, between}
use Rattle.ms_dfafile_imports.specs.Imports.{IsMisfit, IsNoAutomaton, IsUnread, automaton_limit}
use Rattle.ms_dfafile_imports.specs.inner.Taken.{IsRefusedAt}
use Rattle.ms_logic.specs.declared.checked.ImportUse.{ImportUse}
use Rattle.ms_logic.specs.declared.mode.Mode.{Mode}

pub only-nothing : (told : FilesTold) → OnlyRead told told
only-nothing told = record { held = refl; counts = record { faults = omega arith; absences = omega arith; overlongs = omega arith } }

-- one call after another
pub later-read : (one two three : FilesTold) → OnlyRead one two → OnlyRead two three → OnlyRead one three
later-read one two three first second = record {
  held = second.held ∙ first.held;
  counts = record {
    faults = omega (arith, first.counts.faults, second.counts.faults);
    absences = omega (arith, first.counts.absences, second.counts.absences);
    overlongs = omega (arith, first.counts.overlongs, second.counts.overlongs);
  };
}

rose-before : (start one two : ℕ) → start ≤ one → Rose one two → Rose start two
rose-before start one two le (inl less) = inl (omega (arith, le, less))
rose-before start one two le (inr last) = inr last

-- what refuses an import in a later call refuses it in the request
unread-later : (start one two : FilesTold) (used : ImportUse) (refusal : Refusal) → OnlyRead start one → IsUnread (between one two) used refusal → IsUnread (between start two) used refusal
unread-later start one two used (ImportMissing at name) read h =
    (h.0, h.1, subst (λ held. Lacks held used.name) read.held h.2, rose-before start.absences one.absences two.absences read.counts.absences h.3)
unread-later start one two used (FileSize name limit) read h =
    (h.0, h.1, subst (λ held. HoldsMoreThan held used.name automaton_limit) read.held h.2, rose-before start.overlongs one.overlongs two.overlongs read.counts.overlongs h.3)
unread-later start one two used (ReadFault name) read h = (h.0, rose-before start.faults one.faults two.faults read.counts.faults h.1)
unread-later start one two used refusal read h = absurd h

pub refused-later : (start one two : FilesTold) (mode : Mode) (limit place : ℕ) (used : ImportUse) (refusal : Refusal) → OnlyRead start one → IsRefusedAt (between one two) mode limit place used refusal
    → IsRefusedAt (between start two) mode limit place used refusal
refused-later start one two mode limit place used refusal read (inl unread) = inl (unread-later start one two used refusal read unread)
refused-later start one two mode limit place used refusal read (inr (inl none)) = inr (inl (subst (λ held. IsNoAutomaton held used refusal) read.held none))
refused-later start one two mode limit place used refusal read (inr (inr misfit)) = inr (inr (subst (λ held. IsMisfit held mode limit place used refusal) read.held misfit))
