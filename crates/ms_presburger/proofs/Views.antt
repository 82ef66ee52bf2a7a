-- The mathematical tree of some forms of the code's trees.
use Rattle.std.proofs.Common.{◌≡◌, ℕ, List, map, sym, ◌∙◌, ap}
use Rattle.ms_logic.specs.declared.mode.Quant.{Quant}
use Rattle.ms_presburger.specs.declared.linear.Linear.{Linear}
use Rattle.ms_presburger.specs.declared.linear.Linear.TheOpen.{Linear-F}
use Rattle.ms_presburger.specs.declared.linear.Linear.TheFolds.{fold-roll-Linear}
use Rattle.ms_presburger.specs.declared.linear.Linear.TheVariants.{Not, And, Or, Implies, Iff, Bind, rolls-Not, rolls-And, rolls-Or, rolls-Implies, rolls-Iff, rolls-Bind}
use Rattle.ms_presburger.specs.Tree.{Arithmetic, negation, conjunction, disjunction, implication, equivalence, quantified}
use Rattle.ms_presburger.specs.View.{arithmetic_at, arithmetic_of, arithmetics}

pub arithmetic_of-And : (operands : List Linear) → arithmetic_of (And operands) ≡ conjunction (arithmetics (map arithmetic_of operands))
arithmetic_of-And operands = ap arithmetic_of (sym (rolls-And operands)) ∙ fold-roll-Linear Arithmetic arithmetic_at (Linear-F.And operands)

pub arithmetic_of-Or : (operands : List Linear) → arithmetic_of (Or operands) ≡ disjunction (arithmetics (map arithmetic_of operands))
arithmetic_of-Or operands = ap arithmetic_of (sym (rolls-Or operands)) ∙ fold-roll-Linear Arithmetic arithmetic_at (Linear-F.Or operands)

pub arithmetic_of-Bind : (q : Quant) (names : List (List ℕ)) (body : Linear) → arithmetic_of (Bind q names body) ≡ quantified q names (arithmetic_of body)
arithmetic_of-Bind q names body = ap arithmetic_of (sym (rolls-Bind q names body)) ∙ fold-roll-Linear Arithmetic arithmetic_at (Linear-F.Bind q names body)

pub arithmetic_of-Not : (f : Linear) → arithmetic_of (Not f) ≡ negation (arithmetic_of f)
arithmetic_of-Not f = ap arithmetic_of (sym (rolls-Not f)) ∙ fold-roll-Linear Arithmetic arithmetic_at (Linear-F.Not f)

pub arithmetic_of-Implies : (f g : Linear) → arithmetic_of (Implies f g) ≡ implication (arithmetic_of f) (arithmetic_of g)
arithmetic_of-Implies f g = ap arithmetic_of (sym (rolls-Implies f g)) ∙ fold-roll-Linear Arithmetic arithmetic_at (Linear-F.Implies f g)

pub arithmetic_of-Iff : (f g : Linear) → arithmetic_of (Iff f g) ≡ equivalence (arithmetic_of f) (arithmetic_of g)
arithmetic_of-Iff f g = ap arithmetic_of (sym (rolls-Iff f g)) ∙ fold-roll-Linear Arithmetic arithmetic_at (Linear-F.Iff f g)

-- the same of a tree whose operands are known by other names

pub implication_of : {formula f g left right : Linear} → formula ≡ Implies f g → left ≡ f → right ≡ g → arithmetic_of formula ≡ implication (arithmetic_of left) (arithmetic_of right)
implication_of {formula} {f} {g} {left} {right} is one other = let same = is ∙ (ap (λ (h : Linear). Implies h g) (sym one) ∙ ap (λ (h : Linear). Implies left h) (sym other)) in ap arithmetic_of same ∙ arithmetic_of-Implies left right

pub equivalence_of : {formula f g left right : Linear} → formula ≡ Iff f g → left ≡ f → right ≡ g → arithmetic_of formula ≡ equivalence (arithmetic_of left) (arithmetic_of right)
equivalence_of {formula} {f} {g} {left} {right} is one other = let same = is ∙ (ap (λ (h : Linear). Iff h g) (sym one) ∙ ap (λ (h : Linear). Iff left h) (sym other)) in ap arithmetic_of same ∙ arithmetic_of-Iff left right
