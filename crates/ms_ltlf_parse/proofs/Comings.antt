-- Where the code comes to with one token more.
use Rattle.std.proofs.Common.{◌≡◌, ℕ, ◌+◌, ◌≤◌, List, [], ◌∷◌, ◌++◌, length, take, sym, ap, ◌∙◌, subst, arith, length-take}
use Rattle.std.specs.Prelude.{Result, Ok, Err, IfOk, OnOk}
use Rattle.indexmap.specs.IndexMap.{get_by_text}
use Rattle.ms_text.specs.TokenList.{Lexed}
use Rattle.ms_ltlf_parse.specs.Grammar.{Names}
use Rattle.ms_ltlf_parse.specs.Reading.{CanFollow, place, with_name, with_sight, first_sights}
use Rattle.ms_ltlf_parse.specs.Symbol.{Symbol, symbol_of}
use Rattle.ms_ltlf_parse.specs.declared.read.Reader.{Reader}
use Rattle.ms_ltlf_parse.specs.declared.sights.Sights.{Sights}
use Rattle.ms_parse_stack.specs.declared.outcome.Outcome.TheVariants.{Wanted, Holding, Done}
use Rattle.ms_parse_stack.specs.declared.stop.Stop.{Stop}
use Rattle.ms_parse_stack.specs.inner.Machine.{GoesOn}
use Rattle.ms_ltlf_parse.specs.inner.Machine.{step}
use Rattle.ms_ltlf_parse.specs.inner.Reached.{reached, front, HasCome}
use Rattle.ms_ltlf_parse.specs.inner.Sights.{IsTable}
use Rattle.ms_ltlf_parse.specs.inner.States.{Begun, ComesTo, Outcome, state_of}
use Rattle.ms_ltlf_parse.proofs.Names.{few_first_sights, place-with_name, with_sights-append}
use Rattle.ms_parse_stack.proofs.Readings.{follows_here}
use Rattle.ms_ltlf_parse.proofs.Readings.{recognises, reached-append}
use Rattle.ms_parse_stack.proofs.Tokens.{length-symbols_of}

goes_on_here : (begun : Begun) (outcome : Outcome) → GoesOn (state_of begun outcome)
goes_on_here begun Wanted = tt
goes_on_here begun (Holding operand) = tt
goes_on_here begun (Done operand) = tt

pub can_follow : (lexed : Lexed) (i : ℕ) (reader : Reader) (outcome : Outcome) → HasCome lexed i reader outcome → CanFollow (front lexed i)
can_follow lexed i reader outcome h = follows_here recognises (front lexed i) (state_of reader.begun outcome) reader.begun h.state (goes_on_here reader.begun outcome) h.measured

-- no more names than tokens
pub few_names : (lexed : Lexed) (i : ℕ) (reader : Reader) (outcome : Outcome) → HasCome lexed i reader outcome → length reader.sights.names ≤ i
few_names lexed i reader outcome h =
    let few = few_first_sights (front lexed i) in
    let long = ap length h.names in
    omega (arith, few, long, length-symbols_of symbol_of lexed (take i lexed.tokens), length-take i lexed.tokens)

pub names_next : (before : List Symbol) (x : Symbol) → first_sights (before ++ x ∷ []) ≡ with_sight (first_sights before) x
names_next before x = with_sights-append [] before (x ∷ [])

pub reached_next : (before : List Symbol) (x : Symbol) → reached (before ++ x ∷ []) ≡ step (place (with_sight (first_sights before) x)) (reached before) x
reached_next before x = reached-append before (x ∷ []) ∙ ap (λ names. step (place names) (reached before) x) (names_next before x)

-- the step of the code is that of the machine
pub comes_next : (lexed : Lexed) (i : ℕ) (reader : Reader) (outcome : Outcome) (x : Symbol) (names : Names) (begun : Begun) (r : Result Outcome Stop) → HasCome lexed i reader outcome
    → front lexed (i + 1) ≡ front lexed i ++ x ∷ [] → names ≡ with_sight reader.sights.names x → ComesTo (step (place names) (state_of reader.begun outcome) x) begun r
    → (names ≡ first_sights (front lexed (i + 1))) × ComesTo (reached (front lexed (i + 1))) begun r
comes_next lexed i reader outcome x names begun r h next named comes =
    let here : names ≡ with_sight (first_sights (front lexed i)) x = named ∙ ap (λ y. with_sight y x) h.names in
    let same : step (place names) (state_of reader.begun outcome) x ≡ reached (front lexed (i + 1)) =
    ap (λ s. step (place names) s x) (sym h.state) ∙ ap (λ y. step (place y) (reached (front lexed i)) x) here ∙ sym (reached_next (front lexed i) x) ∙ ap reached (sym next) in
    (here ∙ sym (names_next (front lexed i) x) ∙ ap first_sights (sym next), subst (λ s. ComesTo s begun r) same comes)

pub come_ok : (lexed : Lexed) (i : ℕ) (sights : Sights) (begun : Begun) (r : Result Outcome Stop) → sights.names ≡ first_sights (front lexed (i + 1)) → IsTable (λ n. get_by_text sights.places n) sights.names
    → ComesTo (reached (front lexed (i + 1))) begun r → IfOk r (λ next. HasCome lexed (i + 1) (record { sights = sights; begun = begun }) next)
come_ok lexed i sights begun (Ok next) names table comes = record { names = names; table = table; state = comes.0; measured = comes.1 }
come_ok lexed i sights begun (Err stop) names table comes = tt

-- the number of a name is its place
pub number_is_place : {E : Type 0} (r : Result ℕ E) (old new : Names) (n slice : List ℕ) (T : Type 0) → IfOk r (λ number. number ≡ place old n) → OnOk r (new ≡ with_name old n) → n ≡ slice → IfOk r (λ number. T → place new slice ≡ number)
number_is_place (Ok number) old new n slice T is names same = λ t. ap (place new) (sym same) ∙ ap (λ y. place y n) names ∙ place-with_name old n ∙ sym is
number_is_place (Err stop) old new n slice T is names same = tt
