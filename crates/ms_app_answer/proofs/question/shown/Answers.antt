use Rattle.std.proofs.Common.{◌≡◌, List, subst}
use Rattle.std.proofs.lemmas.Option.{MatchOption-at_some, MatchOption-at_none}
use Rattle.ms_logic.specs.declared.mode.Mode.{Mode}
use Rattle.ms_logic.specs.Assignment.{Env, Variable, IsAssignment}
use Rattle.ms_logic.specs.First.{assignment_of}
use Rattle.ms_logic_words.specs.Word.{Encodes}
use Rattle.ms_dfa.specs.Automaton.{variables_of}
use Rattle.ms_app_answer.proofs.FirstAssignments.{first_shown, none_shown}
use Rattle.ms_app_answer.proofs.question.shown.Goals as goal

pub returns-in_ok-found-in-Some : goal.returns-in_ok-found-in-Some
returns-in_ok-found-in-Some c = λ problem value.
    let word = c.in-Some.word in
    let found = c.in_ok-found-in-Some.found in
    let M : Mode → Type 0 = λ mode. (e : Env) → IsAssignment mode (variables_of c.tracks.result.now) e → Encodes (variables_of c.tracks.result.now) word e → found ≡ assignment_of (variables_of c.tracks.result.now) e in
    let V : List Variable → Type 0 = λ vs. (e : Env) → IsAssignment c.args.automaton.now.mode vs e → Encodes vs word e → found ≡ assignment_of vs e in
    first_shown problem c.args.automaton.now c.args.sign value word found c.requires c.tracks.ensures.automaton
    (MatchOption-at_some _ _ word c.in-Some.is c.in_ok-word.ensures.first)
    (subst V c.tracks.ensures.variables (subst M c.mode.ensures c.in_ok-found-in-Some.ensures))

pub returns-in-None : goal.returns-in-None
returns-in-None c = λ problem value.
    none_shown problem c.args.automaton.now c.args.sign value (MatchOption-at_none _ _ c.in-None.is c.in_ok-word.ensures.none)
