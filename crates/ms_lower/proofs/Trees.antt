-- What trees stand for, in forms that hold in each case.
use Rattle.std.proofs.Common.{◌≡◌, ℕ, List, map, Option, Some, None, sym, ap, ap₂, ◌∙◌}
use Rattle.std.specs.Option.{option_map}
use Rattle.ms_logic.specs.declared.mode.Order.{Order}
use Rattle.ms_logic.specs.declared.mode.Quant.{Quant}
use Rattle.ms_logic.specs.declared.formula.Arg.{Arg}
use Rattle.ms_logic.specs.declared.formula.Binding.{Binding}
use Rattle.ms_logic.specs.declared.formula.Formula.{Formula}
use Rattle.ms_logic.specs.declared.formula.Formula.TheVariants as form
use Rattle.ms_logic.specs.Tree.{call, quantified, where_let}
use Rattle.ms_logic.specs.View.{argument_of, arguments, binding_of, formula_of, restriction}
use Rattle.ms_logic.proofs.Views.{formula_of-Bind-none, formula_of-Bind-some, formula_of-Call, formula_of-Let}

pub formula_of-Bind : (q : Quant) (o : Order) (x : ℕ) (d : Option Formula) (f : Formula) →
    formula_of (form.Bind q o x d f) ≡ quantified q o x (restriction (option_map formula_of d)) (formula_of f)
formula_of-Bind q o x None f = formula_of-Bind-none q o x f
formula_of-Bind q o x (Some d) f = formula_of-Bind-some q o x d f

-- a `let` and a call, by what is read of them

pub let_read : (source body inner : Formula) (bindings all : List Binding) → source ≡ form.Let bindings body → all ≡ bindings → inner ≡ body →
    where_let (map (λ b. b.0) (map binding_of all)) (arguments (map (λ b. b.1) (map binding_of all))) (formula_of inner) ≡ formula_of source
let_read source body inner bindings all is same body_is =
    ap₂ (λ bs f. where_let (map (λ b. b.0) (map binding_of bs)) (arguments (map (λ b. b.1) (map binding_of bs))) (formula_of f)) same body_is
    ∙ sym (ap formula_of is ∙ formula_of-Let bindings body)

pub call_read : (source : Formula) (p : ℕ) (given all : List Arg) → source ≡ form.Call p given → all ≡ given → call p (arguments (map argument_of all)) ≡ formula_of source
call_read source p given all is same = ap (λ vs. call p (arguments (map argument_of vs))) same ∙ sym (ap formula_of is ∙ formula_of-Call p given)
