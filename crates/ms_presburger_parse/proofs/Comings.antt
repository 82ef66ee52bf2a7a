-- Where the code comes to with one token more.
use Rattle.std.proofs.Common.{◌≡◌, ℕ, ◌+◌, [], ◌∷◌, ◌++◌, sym, ap, ◌∙◌, subst}
use Rattle.std.specs.Prelude.{Result, Ok, Err, IfOk}
use Rattle.ms_text.specs.TokenList.{Lexed}
use Rattle.ms_presburger_parse.specs.Reading.{CanFollow}
use Rattle.ms_presburger_parse.specs.Symbol.{Symbol}
use Rattle.ms_presburger_parse.specs.declared.state.Outcome.{Outcome}
use Rattle.ms_presburger_parse.specs.declared.state.Outcome.TheVariants.{Within, Done}
use Rattle.ms_parse_stack.specs.declared.stop.Stop.{Stop}
use Rattle.ms_parse_stack.specs.inner.Machine.{GoesOn}
use Rattle.ms_presburger_parse.specs.inner.Machine.{step}
use Rattle.ms_presburger_parse.specs.inner.Reached.{reached, front, HasCome}
use Rattle.ms_presburger_parse.specs.inner.States.{Begun, ComesTo, state_of}
use Rattle.ms_parse_stack.proofs.Readings.{follows_here}
use Rattle.ms_presburger_parse.proofs.Readings.{recognises, reached-append}

goes_on_here : (begun : Begun) (outcome : Outcome) → GoesOn (state_of begun outcome)
goes_on_here begun (Within place) = tt
goes_on_here begun (Done operand) = tt

pub can_follow : (lexed : Lexed) (i : ℕ) (begun : Begun) (outcome : Outcome) → HasCome lexed i begun outcome → CanFollow (front lexed i)
can_follow lexed i begun outcome h = follows_here recognises (front lexed i) (state_of begun outcome) begun h.state (goes_on_here begun outcome) h.measured

-- the step of the code is that of the machine
pub comes_next : (lexed : Lexed) (i : ℕ) (before begun : Begun) (outcome : Outcome) (x : Symbol) (r : Result Outcome Stop) → HasCome lexed i before outcome → front lexed (i + 1) ≡ front lexed i ++ x ∷ []
    → ComesTo (step (state_of before outcome) x) begun r → ComesTo (reached (front lexed (i + 1))) begun r
comes_next lexed i before begun outcome x r h next comes =
    let same : step (state_of before outcome) x ≡ reached (front lexed (i + 1)) =
    ap (λ s. step s x) (sym h.state) ∙ sym (reached-append (front lexed i) (x ∷ [])) ∙ ap reached (sym next) in
    subst (λ s. ComesTo s begun r) same comes

pub come_ok : (lexed : Lexed) (i : ℕ) (begun : Begun) (r : Result Outcome Stop) → ComesTo (reached (front lexed (i + 1))) begun r → IfOk r (λ next. HasCome lexed (i + 1) begun next)
come_ok lexed i begun (Ok next) comes = record { state = comes.0; measured = comes.1 }
come_ok lexed i begun (Err stop) comes = tt
