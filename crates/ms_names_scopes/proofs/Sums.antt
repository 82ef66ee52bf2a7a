-- The faults of some numbers, one after another.
use Rattle.std.proofs.Common.{◌≡◌, List, ◌∷◌, ◌++◌, ap, ◌∙◌}
use Rattle.std.specs.Prelude.{flat_map}
use Rattle.ms_logic.specs.declared.source.PlacedInt.{PlacedInt}
use Rattle.ms_names_rules.specs.declared.fault.Fault.{Fault}
use Rattle.ms_names_rules.specs.Rules.{faults_of_placed}
use Rattle.ms_names_scopes.specs.inner.Found.{Found, with_faults}
use Rattle.ms_names_scopes.proofs.Repeats.{faults-faults}

pub ints-next : (t u : Found) (i : PlacedInt) (rest : List PlacedInt) → u ≡ with_faults t (faults_of_placed t.scope i) →
    with_faults u (flat_map (faults_of_placed u.scope) rest) ≡ with_faults t (flat_map (faults_of_placed t.scope) (i ∷ rest))
ints-next t u i rest checked =
    ap (λ (there : Found). with_faults there (flat_map (faults_of_placed there.scope) rest)) checked
    ∙ faults-faults t (faults_of_placed t.scope i) (flat_map (faults_of_placed t.scope) rest)

pub three-faults : (s r t u : Found) (fs gs hs : List Fault) → r ≡ with_faults s fs → t ≡ with_faults r gs → u ≡ with_faults t hs →
    u ≡ with_faults s (fs ++ (gs ++ hs))
three-faults s r t u fs gs hs first second third =
    third ∙ (ap (λ there. with_faults there hs) second
    ∙ (faults-faults r gs hs ∙ (ap (λ there. with_faults there (gs ++ hs)) first ∙ faults-faults s fs (gs ++ hs))))
