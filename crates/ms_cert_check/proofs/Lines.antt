-- The refusals of a check have lines, and no places.
use Rattle.std.proofs.Common.{ℕ, List, sym, subst}
use Rattle.ms_edge.specs.Files.{Seen}
use Rattle.ms_edge.specs.Refusal.{IsPlaced, place_of}
use Rattle.ms_edge.specs.declared.refusal.Refusal.{Refusal}
use Rattle.ms_edge.specs.declared.refusal.Refusal.TheVariants as refusals
use Rattle.ms_report.specs.Line.{HasLine}
use Rattle.ms_cert_check.specs.Check.{no_automaton, no_cert, no_memory, unread, unread_cert}
use Rattle.ms_cert_check.specs.Files.{IsUnread, cert_name}
use Rattle.ms_cert_check.specs.Laws.{RefusalsHaveLines}

abbrev IsTold : List (List ℕ) → Refusal → Type 0
IsTold files refusal = HasLine refusal × IsPlaced (place_of refusal) files

unread_told : (seen : Seen) (name : List ℕ) (refusal : Refusal) (files : List (List ℕ)) → IsUnread seen name refusal → IsTold files refusal
unread_told seen name (refusals.FileMissing at missing) files why = (tt, subst (λ place. IsPlaced place files) (sym why.0) tt)
unread_told seen name (refusals.FileSize long limit) files why = (tt, tt)
unread_told seen name (refusals.ReadFault other) files why = (tt, tt)
unread_told seen name refusal files why = absurd why

pub lines : RefusalsHaveLines
lines seen name refusal files (unread why) = unread_told seen name refusal files why
lines seen name refusal files (no_automaton why) = subst (IsTold files) (sym why.is) (tt, tt)
lines seen name refusal files (unread_cert plain automaton why) = unread_told seen (cert_name name) refusal files why
lines seen name refusal files (no_cert plain automaton why) = subst (IsTold files) (sym why.is) (tt, tt)
lines seen name refusal files (no_memory why) = subst (IsTold files) (sym why) (tt, tt)
