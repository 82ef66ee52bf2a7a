-- The laws of the spread.
use Rattle.std.proofs.Common.{◌<◌, ⊎_elim, List, [], ◌∷◌, refl, sym, subst, arith}
use Rattle.ms_logic.specs.Assignment.{Env, Variable, value_at, IsValueOf, GivesEach}
use Rattle.ms_logic.specs.FreeVariables.{IsListed, FreeUnder}
use Rattle.ms_logic_core.specs.Roots.{first_free}
use Rattle.ms_logic_core.specs.Spread.{callees_of, own_names}
use Rattle.ms_logic.specs.Truth.{meanings_of}
use Rattle.ms_logic_core.proofs.Saying.{Reading, reading-weaker}
use Rattle.ms_logic_spread.specs.SpreadLaws.{SpreadKeepsValueUnderNames, SpreadKeepsEachValue}
use Rattle.ms_logic_spread.proofs.Formulas.{keeps}
use Rattle.ms_logic_spread.proofs.Predicates.{kept_given, reads_of, body_reads_of}

pub spread_keeps_value_under_names : SpreadKeepsValueUnderNames
spread_keeps_value_under_names given f names free e c named =
    keeps (meanings_of given) (callees_of given) (reads_of given) given.imports (body_reads_of given) (kept_given given) f names free e c
    (record { universe = named.universe; below = named.below; values = named.values; valid = named.valid })

-- the variables of a list are below the least number above them, and have values of their orders
pub listed_below : (vs : List Variable) (w : Variable) → IsListed vs w → w.name < first_free vs
listed_below [] w listed = absurd listed
listed_below (v ∷ vs) w listed =
    ⊎_elim (λ is. let same = is.0 in omega (arith, same)) (λ later. let below = listed_below vs w later in omega (arith, below)) listed

pub listed_valid : (vs : List Variable) (e : Env) → GivesEach vs e → (w : Variable) → IsListed vs w → IsValueOf w.order e.universe (value_at w.order w.name e)
listed_valid [] e gives w listed = absurd listed
listed_valid (v ∷ vs) e gives w listed =
    ⊎_elim (λ is. subst (λ o. IsValueOf o e.universe (value_at o w.name e)) (sym is.1) (subst (λ x. IsValueOf v.order e.universe (value_at v.order x e)) (sym is.0) gives.0)) (λ later. listed_valid vs e gives.1 w later) listed

-- an assignment of variables reads them under their own names
pub reading_own : (variables : List Variable) (e : Env) → GivesEach variables e → Reading (IsListed variables) own_names (first_free variables) e e
reading_own variables e gives = record {
  universe = refl;
  below = listed_below variables;
  values = λ w listed. refl;
  valid = listed_valid variables e gives;
}

pub spread_keeps_value : SpreadKeepsEachValue
spread_keeps_value given mode variables f e assigned free =
    keeps (meanings_of given) (callees_of given) (reads_of given) given.imports (body_reads_of given) (kept_given given) f own_names (first_free variables) e e
    (reading-weaker (IsListed variables) (FreeUnder (reads_of given) f) own_names (first_free variables) e e free (reading_own variables e assigned.values))
