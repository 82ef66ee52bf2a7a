-- What an automaton means: which sign is right at which assignment (Büchi, 1960; Elgot, 1961).
use Rattle.std.specs.Prelude.{◌≡◌, List, Option, Some}
use Rattle.ms_list.specs.declared.word.Word.{Word}
use Rattle.ms_logic.specs.declared.mode.Mode.{Mode}
use Rattle.ms_logic_words.specs.declared.sign.Sign.{Sign}
use Rattle.ms_logic_words.specs.declared.sign.Sign.TheVariants.{Yes, No, Undefined, Outside}
use Rattle.ms_logic.specs.Assignment.{Env, Variable, IsAssignment}
use Rattle.ms_logic_words.specs.Content.{Content, IsWordOver, shortest_word, sign_of}
use Rattle.ms_logic_core.specs.CoreForm.{CoreForm, CoreYes, CoreNo}
use Rattle.ms_logic.specs.Truth.{Import}
use Rattle.ms_logic.specs.Verdict.{Problem, MainYes, MainNo}
use Rattle.ms_logic_words.specs.Word.{Encodes}
use Rattle.ms_logic_words.specs.WordSign.{IsOutside}

-- the signs that are right at an assignment
abbrev pub Meaning : Type 1
Meaning = Env → Sign → Type 0

-- Yes is right where the first holds, No where the second does, and Undefined where neither does
abbrev pub meaning_by : (Env → Type 0) → (Env → Type 0) → Meaning
meaning_by HoldsYes HoldsNo e Yes = HoldsYes e
meaning_by HoldsYes HoldsNo e No = HoldsNo e
meaning_by HoldsYes HoldsNo e Undefined = (¬ HoldsYes e) × (¬ HoldsNo e)
meaning_by HoldsYes HoldsNo e Outside = ⊥

-- the value of a core formula
abbrev pub core_meaning : List Import → CoreForm → Meaning
core_meaning imports f = meaning_by (CoreYes imports f) (CoreNo imports f)

-- the main value of a problem
abbrev pub main_meaning : Problem → Meaning
main_meaning problem = meaning_by (MainYes problem) (MainNo problem)

-- at each assignment of the variables one sign at most is right, and never Outside
pub record IsMeaning (mode : Mode) (variables : List Variable) (meaning : Meaning) : Type 0 where
  pub one : (e : Env) (first second : Sign) → IsAssignment mode variables e → meaning e first → meaning e second → first ≡ second
  pub inside : (e : Env) → IsAssignment mode variables e → ¬ meaning e Outside

-- a word that encodes an assignment has a sign that is right there, and any other word has Outside
pub record HasValues (meaning : Meaning) (content : Content Sign) : Type 0 where
  pub right :
      (word : Word) (e : Env) → IsAssignment content.mode content.variables e → Encodes content.variables word e
      → (sign : Sign) × (sign_of content word ≡ Some sign) × meaning e sign
  pub outside : (word : Word) → IsWordOver content.variables word → IsOutside content.mode content.variables word → sign_of content word ≡ Some Outside

-- the sign of an automaton at an assignment: that of the shortest word that encodes it
abbrev pub sign_at_values : Content Sign → Env → Option Sign
sign_at_values content e = sign_of content (shortest_word content.variables e)

-- an automaton means its own signs
abbrev pub own_meaning : Content Sign → Meaning
own_meaning content e sign = sign_at_values content e ≡ Some sign
