use Rattle.std.proofs.Common.{◌≡◌, List, [], ◌∷◌, ◌++◌, sym, ap, subst, ◌∙◌}
use Rattle.ms_arena.specs.declared.node.Ref.TheVariants.{Leaf}
use Rattle.ms_dfa.specs.Automaton.{IsAutomaton, content_of}
use Rattle.ms_dfa.specs.declared.state.State.{State}
use Rattle.ms_logic_words.specs.declared.sign.Sign.TheVariants.{Yes}
use Rattle.ms_project.specs.Always.{always}
use Rattle.ms_project.proofs.AlwaysLemmas.{IsAutomaton-always}
use Rattle.ms_project.proofs.quantify.truth.Goals as goal

pub make-requires : goal.make-requires
make-requires c =
    let state : State = record { sign = Yes; next = Leaf 0 } in
    let states_are : c.push.new.list ≡ state ∷ [] = c.in_ok-push.ensures.ok ∙ ap (λ (list : List State). list ++ state ∷ []) c.new-states.ensures in
    let nodes_are = c.new-store.ensures.empty in
    let tracks_are = c.new.ensures in
    let same : content_of c.new-store.result.nodes c.args.mode c.new.result (Leaf 0) c.push.new.list ≡ always c.args.mode = λ i. content_of (nodes_are i) c.args.mode (tracks_are i) (Leaf 0) (states_are i) in
    subst IsAutomaton (sym same) (IsAutomaton-always c.args.mode)
