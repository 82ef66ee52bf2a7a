-- Generated sources are accepted.
use Rattle.std.proofs.Common.{◌≤◌, ℕ, ◌-◌, List, refl, ap, ◌∙◌, arith}
use Rattle.ms_logic.specs.declared.mode.Mode.TheVariants.{Ws1s}
use Rattle.ms_names_rules.specs.Declarations.{first_fault_of}
use Rattle.ms_gen.specs.Generated.{IsNumber, generated}
use Rattle.ms_gen.specs.Accepted.{IsAccepted}
use Rattle.ms_gen.specs.inner.AcceptanceLaws.{GeneratedSourcesAreAccepted}
use Rattle.ms_gen.proofs.Becoming.{no-fault}
use Rattle.ms_gen.proofs.Limits.{depth-is, size-is}
use Rattle.ms_gen.proofs.Loading.{is-loaded, last_below, loaded}
use Rattle.ms_gen.proofs.Source.{items-viewed}
use Rattle.ms_gen.proofs.Typing.{checked, is-typed}

module _ (number : ℕ) (name : List ℕ) (is : IsNumber number) where
  abbrev pub last : ℕ
  last = number - 1

  pub small : last ≤ 2000
  small = omega (arith, last_below number is)

  abbrev pub accepted : IsAccepted name (generated number)
  accepted = record {
    loaded = loaded number is name;
    is_loaded = is-loaded number is name;
    no_fault = ap (first_fault_of Ws1s) (items-viewed last) ∙ no-fault last small;
    checked = checked last name;
    is_typed = is-typed last small name;
    within = record { imports = refl; exports = refl; goals = refl; depth = omega (arith, depth-is last name); size = omega (arith, size-is last name, small) };
  }

pub sources-are-accepted : GeneratedSourcesAreAccepted
sources-are-accepted number name is = accepted number name is
