-- The product of a body and a domain over the variables of the body.
use Rattle.std.specs.Prelude.{◌≡◌, ℕ, ◌+◌, ◌==◌, if◌then◌else◌, List, [], ◌∷◌, length}
use Rattle.ms_logic_words.specs.declared.sign.Sign.{Sign}
use Rattle.ms_logic_words.specs.declared.sign.Sign.TheVariants.{Yes}
use Rattle.ms_logic.specs.Assignment.{Variable}
use Rattle.ms_logic_words.specs.Content.{Content}
use Rattle.ms_logic.specs.Lists.{IsAmong}
use Rattle.ms_product.specs.Pairing.{Operands, operands_over}
use Rattle.ms_product.specs.Widened.{sign_in}
use Rattle.ms_quotient.specs.declared.marks.Marks.{Marks}
use Rattle.ms_project.specs.Marks.{marks_of}

-- the domain has the mode of the body, and its variables are among those of the body
pub record IsDomainFor (body domain : Content Sign) : Type 0 where
  pub mode : body.mode ≡ domain.mode
  pub among : (v : Variable) → IsAmong domain.variables v → IsAmong body.variables v

-- body and domain over the variables of the body
abbrev pub operands_for : Content Sign → Content Sign → Operands
operands_for body domain = operands_over body domain body.variables

-- a domain that is truth: it has one state, and that is Yes
pub record IsTruth (domain : Content Sign) : Type 0 where
  pub one : length domain.states ≡ 1
  pub yes : sign_in domain 0 ≡ Yes

-- the marks of a pair of states
abbrev pub marks_of_pair : Content Sign → Content Sign → ℕ × ℕ → Marks
marks_of_pair body domain pair = marks_of (sign_in body pair.0) (sign_in domain pair.1)

-- for each variable its place among those with another name, the first of which stands at this place
abbrev pub places_left : ℕ → ℕ → List Variable → List ℕ
places_left name place [] = []
places_left name place (v ∷ vs) = place ∷ places_left name (if v.name == name then place else place + 1) vs
