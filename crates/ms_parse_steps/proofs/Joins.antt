-- Operators and terminals behind an expression, as the code takes them.
use Rattle.std.proofs.Common.{◌≡◌, List, [], ◌∷◌, refl}
use Rattle.ms_parse_grammar.specs.Symbol.{Placed}
use Rattle.ms_parse_grammar.specs.declared.operator.Junction.{Junction}
use Rattle.ms_parse_grammar.specs.declared.operator.Junction.TheVariants.{Conjunction, Disjunction}
use Rattle.ms_parse_grammar.specs.Tree.{Expression}
use Rattle.ms_parse_steps.specs.inner.Links.{IsApart}
use Rattle.ms_parse_steps.specs.inner.Machine.{Frame, joined_frame, Context, join, join_new}
use Rattle.std.specs.Prelude.{ℕ}

-- an operand in another frame is the first of its list
pub other_joined : (limit : ℕ) (c : Context) (op : Junction) (e : Expression) (f : Frame) (st : List Frame) (from ts : List Placed) → IsApart op f → join limit c op e (f ∷ st) from ts ≡ join_new limit c op e (f ∷ st) from ts
other_joined limit c Conjunction e (joined_frame at Conjunction es) st from ts apart = absurd (apart refl)
other_joined limit c Conjunction e (joined_frame at Disjunction es) st from ts apart = refl
other_joined limit c Disjunction e (joined_frame at Conjunction es) st from ts apart = refl
other_joined limit c Disjunction e (joined_frame at Disjunction es) st from ts apart = absurd (apart refl)
other_joined limit c Conjunction e _ st from ts apart = refl
other_joined limit c Disjunction e _ st from ts apart = refl

pub first_joined : (limit : ℕ) (c : Context) (op : Junction) (e : Expression) (from ts : List Placed) → join limit c op e [] from ts ≡ join_new limit c op e [] from ts
first_joined limit c Conjunction e from ts = refl
first_joined limit c Disjunction e from ts = refl
