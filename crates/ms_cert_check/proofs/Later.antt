-- The certificate is read behind the automaton file: what refuses it then, refuses the check.
use Rattle.std.proofs.Common.{◌≡◌, ℕ, ◌≤◌, ◌⊎◌, inl, inr, List, subst, arith}
use Rattle.ms_edge.specs.Counts.{Rose}
use Rattle.ms_edge.specs.declared.refusal.Refusal.{Refusal}
use Rattle.ms_edge.specs.declared.refusal.Refusal.TheVariants.{FileMissing, FileSize, Memory, ReadFault}
use Rattle.ms_edge.specs.Files.{FilesTold, HoldsMoreThan, Lacks, OnlyRead, between}
use Rattle.ms_dfa.specs.declared.plain.Plain.{Plain}
use Rattle.ms_cert_check.specs.Check.{IsRefusedCheck, no_cert, no_memory, unread_cert}
use Rattle.ms_cert_check.specs.Files.{IsAutomatonFile, IsNoCert, IsUnread, cert_name, file_limit}

rose-before : (start one two : ℕ) → start ≤ one → Rose one two → Rose start two
rose-before start one two le (inl less) = inl (omega (arith, le, less))
rose-before start one two le (inr last) = inr last

module _ (start one two : FilesTold) (read : OnlyRead start one) where
  unread-later : (name : List ℕ) (refusal : Refusal) → IsUnread (between one two) name refusal → IsUnread (between start two) name refusal
  unread-later name (FileMissing at missing) h =
      (h.0, h.1, subst (λ held. Lacks held name) read.held h.2, rose-before start.absences one.absences two.absences read.counts.absences h.3)
  unread-later name (FileSize long limit) h =
      (h.0, h.1, subst (λ held. HoldsMoreThan held name file_limit) read.held h.2, rose-before start.overlongs one.overlongs two.overlongs read.counts.overlongs h.3)
  unread-later name (ReadFault unread) h = (h.0, rose-before start.faults one.faults two.faults read.counts.faults h.1)
  unread-later name refusal h = absurd h

  pub refused-later : (name : List ℕ) (plain : Plain) (refusal : Refusal) → IsAutomatonFile start.held name plain
      → (refusal ≡ Memory) ⊎ IsUnread (between one two) (cert_name name) refusal ⊎ IsNoCert one.held name refusal → IsRefusedCheck (between start two) name refusal
  refused-later name plain refusal file (inl memory) = no_memory memory
  refused-later name plain refusal file (inr (inl why)) = unread_cert plain file (unread-later (cert_name name) refusal why)
  refused-later name plain refusal file (inr (inr why)) = no_cert plain file (subst (λ held. IsNoCert held name refusal) read.held why)
