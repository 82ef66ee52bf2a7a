-- The limit that words name is a limit on nodes and states.
use Rattle.std.proofs.Common.{ℕ, List, Option, Some, None, inl, refl, true, false, arith}
use Rattle.ms_edge.specs.Files.{Seen}
use Rattle.ms_edge.specs.declared.refusal.Refusal.TheVariants.{Memory}
use Rattle.ms_build.specs.Built.{IsLimit}
use Rattle.ms_app_words.specs.Command.{HasLimit, IsCommand}
use Rattle.ms_app_words.specs.declared.command.Command.{Command}
use Rattle.ms_app_words.specs.declared.command.Command.TheVariants.{Decide, Same, Gen, Ltl, Presburger, Check, Certify}
use Rattle.ms_app.specs.Answer.{IsLimited, IsRefusedFor}
use Rattle.ms_cert_check.specs.Check as checks
use Rattle.ms_ltlf_decide.specs.Formula as formulas
use Rattle.ms_presburger_decide.specs.Problem as problems
use Rattle.ms_app.specs.Comparison as comparisons
use Rattle.ms_app.specs.Source as sources

limit_by : (given : Option (List ℕ)) (limit : ℕ) → HasLimit given limit → IsLimit limit
limit_by None limit is = record { some = omega (arith, is); small = omega (arith, is) }
limit_by (Some text) limit is = record { some = is.some; small = is.small }

pub limited : (words : List (List ℕ)) (command : Command) → IsCommand words command → IsLimited command
limited words (Decide file out max_nodes stats format) asked = limit_by _ max_nodes asked.asked.2
limited words (Same left right max_nodes) asked = limit_by _ max_nodes asked.asked.2
limited words (Gen number decide) asked = tt
limited words (Ltl file max_nodes) asked = limit_by _ max_nodes asked.asked.1
limited words (Presburger file max_nodes) asked = limit_by _ max_nodes asked.asked.1
limited words (Check name) asked = tt
limited words (Certify file name max_nodes) asked = limit_by _ max_nodes asked.asked.0.1

-- want of memory needs no cause
pub memory_refuses : (command : Command) (seen : Seen) (files : List (List ℕ)) → IsRefusedFor command seen Memory files
memory_refuses (Decide file out max_nodes stats format) seen files = sources.no_memory refl
memory_refuses (Same left right max_nodes) seen files = comparisons.no_memory refl
memory_refuses (Gen number false) seen files = inl refl
memory_refuses (Gen number true) seen files = inl refl
memory_refuses (Ltl file max_nodes) seen files = formulas.no_memory refl
memory_refuses (Presburger file max_nodes) seen files = problems.no_memory refl
memory_refuses (Check name) seen files = checks.no_memory refl
memory_refuses (Certify file name max_nodes) seen files = sources.no_memory refl
