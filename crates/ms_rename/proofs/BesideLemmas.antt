-- The conjunction of an automaton with itself has its signs, and what it needs of pairs that are reached the automaton needs beside itself.
use Rattle.std.proofs.Common.{◌≡◌, ℕ, ◌+◌, nat_eq, nat_lt, true, false, if◌then◌else◌, ⊎_elim, List, [], ◌∷◌, ◌++◌, length, slice_get, Option, Some, None, Result, Ok, Err, IfOk, refl, sym, ap, subst, ◌∙◌, arith}
use Rattle.std.proofs.lemmas.Bool.{cases_lt, eq-eqb, le-ltb}
use Rattle.std.proofs.lemmas.Option.{same_Some, slice_get_past}
use Rattle.ms_list.specs.declared.fault.StepFault.{StepFault}
use Rattle.ms_list.specs.declared.fault.StepFault.TheVariants.{Nodes, Memory}
use Rattle.ms_list.specs.declared.word.Word.{Word}
use Rattle.ms_arena.specs.Bits.{below_from}
use Rattle.ms_arena.specs.Diagram.{Bits, end_at, leaf_of}
use Rattle.ms_dfa.specs.Automaton.{IsAutomaton}
use Rattle.ms_dfa.specs.Values.{HasValues, own_meaning}
use Rattle.ms_dfa.proofs.EncodingLemmas.{encoding_or_not, sign_of_encoding}
use Rattle.ms_dfa.proofs.OwnMeaningLemmas.{sign_outside}
use Rattle.ms_dfa_explore.specs.Explored.{IsFound, OnRefused, Origin, target_of}
use Rattle.ms_dfa_explore.specs.Tracks.{before, from, merged, places_among, without_first}
use Rattle.ms_logic.specs.Assignment.{Variable, IsAssignment}
use Rattle.ms_logic_words.specs.Content.{Content, IsWordOver, sign_of}
use Rattle.ms_logic_words.specs.Word.{Encodes}
use Rattle.ms_logic_words.specs.WordSign.{IsOutside}
use Rattle.ms_logic_words.specs.declared.sign.Sign.{Sign}
use Rattle.ms_logic_words.specs.declared.sign.Sign.TheVariants.{Yes, No, Undefined, Outside}
use Rattle.ms_product.specs.Combined.{HaveEqualOrders, combined}
use Rattle.ms_product.specs.Pairing.{Operands, ReachedAreAtLeast, behind_pair, first_pair, next_pair, operands_of, product_findings}
use Rattle.ms_product.specs.Signs.{strict}
use Rattle.ms_product.specs.Widened.{behind_through, first_through, next_through}
use Rattle.ms_product.specs.declared.op.Op.TheVariants.{And}
use Rattle.ms_product.proofs.ProductLemmas.{IsReachedPair-same}
use Rattle.ms_rename.specs.inner.Image.{IsRenamedBy}
use Rattle.ms_rename.specs.Renamed.{beside_itself}
use Rattle.ms_rename.proofs.OrderLemmas.{HaveOneOrder-rising}
use Rattle.ms_rename.proofs.RenamedLemmas.{start_as, step_as}

-- a list merged with itself
pub merged-itself : (vs : List Variable) → merged vs vs ≡ vs
merged-itself [] = refl
merged-itself (v ∷ vs) =
    let less : nat_lt v.name v.name ≡ false = le-ltb v.name v.name (omega arith) in
    let same : nat_eq v.name v.name ≡ true = eq-eqb v.name v.name refl in
    ap (λ t. (if t then v ∷ before v.name vs else []) ++ v ∷ merged vs (without_first v.name (if t then from v.name vs else v ∷ vs))) less
    ∙ ap (λ t. v ∷ merged vs (if t then vs else v ∷ vs)) same
    ∙ ap (λ us. v ∷ us) (merged-itself vs)

strict-itself : (sign : Sign) → strict And sign sign ≡ sign
strict-itself Yes = refl
strict-itself No = refl
strict-itself Undefined = refl
strict-itself Outside = refl

-- the conjunction of an automaton with itself
pub beside_variables : (content : Content Sign) (result : Result (Content Sign) StepFault) → IfOk result (λ made. made.variables ≡ merged content.variables content.variables) → IfOk result (λ made. made.variables ≡ content.variables)
beside_variables content (Ok made) are = are ∙ merged-itself content.variables
beside_variables content (Err fault) are = tt

module _ (content : Content Sign) (automaton : IsAutomaton content) where
  pub own_orders : HaveEqualOrders content.variables content.variables
  own_orders = HaveOneOrder-rising content.variables automaton.rising

  module _ (made : Content Sign) (mode_is : made.mode ≡ content.mode) (variables_are : made.variables ≡ content.variables) (values : HasValues (combined And (own_meaning content) (own_meaning content)) made) where
    signs_are : (word : Word) → IsWordOver content.variables word → sign_of made word ≡ sign_of content word
    signs_are word over = ⊎_elim
        (λ encoding.
        let e = encoding.0 in
        let assigned = subst (λ vs. IsAssignment made.mode vs e) (sym variables_are) (subst (λ m. IsAssignment m content.variables e) (sym mode_is) encoding.1) in
        let found = values.right word e assigned (subst (λ vs. Encodes vs word e) (sym variables_are) encoding.2) in
        let parts = found.2 in
        let same : parts.0 ≡ parts.1 = same_Some parts.0 parts.1 (sym parts.2 ∙ parts.3) in
        let sign : found.0 ≡ parts.0 = parts.4 ∙ ap (strict And parts.0) (sym same) ∙ strict-itself parts.0 in
        found.1 ∙ ap Some sign ∙ sym parts.2 ∙ sym (sign_of_encoding content automaton e encoding.1 word encoding.2))
        (λ outside.
        values.outside word (subst (λ vs. IsWordOver vs word) (sym variables_are) over) (subst (λ vs. IsOutside made.mode vs word) (sym variables_are) (subst (λ m. IsOutside m content.variables word) (sym mode_is) outside))
        ∙ sym (sign_outside content automaton word over outside))
        (encoding_or_not content.mode content.variables word automaton.rising over)

  pub beside_signs : (result : Result (Content Sign) StepFault) → IfOk result (λ made. made.mode ≡ content.mode) → IfOk result (λ made. made.variables ≡ merged content.variables content.variables)
      → IfOk result (HasValues (combined And (own_meaning content) (own_meaning content))) → IfOk result (λ made. (word : Word) → IsWordOver content.variables word → sign_of made word ≡ sign_of content word)
  beside_signs (Ok made) mode_is variables_are values = signs_are made mode_is (variables_are ∙ merged-itself content.variables) values
  beside_signs (Err fault) mode_is variables_are values = tt

-- what the renamed automaton needs beside itself, the automaton needs beside itself with its variables read at the places of the map
module _ (content made : Content Sign) (places : List ℕ) (made_is : IsAutomaton made) (is : IsRenamedBy places content made) where
  abbrev own : List ℕ
  own = places_among made.variables made.variables

  first_is : (bits : Bits) → first_through made own bits ≡ first_through content places bits
  first_is bits = start_as content made places made_is is bits (first_through made own bits) refl

  next_is : (state : ℕ) (bits : Bits) → next_through made own state bits ≡ next_through content places state bits
  next_is state bits = ⊎_elim
      (λ within. step_as content made places made_is is state within bits (next_through made own state bits) refl)
      (λ past.
      let counted = is.long in
      ap (λ found. behind_through made own found bits) (slice_get_past made.states state past)
      ∙ sym (ap (λ found. behind_through content places found bits) (slice_get_past content.states state (omega (arith, past, counted)))))
      (cases_lt state (length made.states))

  abbrev beside : Operands
  beside = beside_itself made own

  first_same : (bits : Bits) → first_pair beside bits ≡ first_pair (beside_itself content places) bits
  first_same bits = λ i. (first_is bits i, first_is bits i)

  next_same : (pair : ℕ × ℕ) (bits : Bits) → next_pair beside pair bits ≡ next_pair (beside_itself content places) pair bits
  next_same pair bits = λ i. (next_is pair.0 bits i, next_is pair.1 bits i)

  behind_as : (pairs : List (ℕ × ℕ)) (found : Option (ℕ × ℕ)) (bits : Bits) (number : ℕ) → behind_pair beside pairs found bits number → behind_pair (beside_itself content places) pairs found bits number
  behind_as pairs None bits number right = right
  behind_as pairs (Some pair) bits number right = right ∙ ap Some (next_same pair bits)

  needed_as : (pairs : List (ℕ × ℕ)) (origin : Origin) (bits : Bits) (number : ℕ) → target_of (product_findings And beside pairs) origin bits number → target_of (product_findings And (beside_itself content places) pairs) origin bits number
  needed_as pairs None bits number right = right ∙ ap Some (first_same bits)
  needed_as pairs (Some state) bits number right = behind_as pairs (slice_get pairs state) bits number right

  found_as : (pairs : List (ℕ × ℕ)) (origin : Origin) → IsFound (product_findings And beside pairs) origin → IsFound (product_findings And (beside_itself content places) pairs) origin
  found_as pairs None found = found
  found_as pairs (Some state) found = found

  beside_needs : (count : ℕ) → ReachedAreAtLeast count And beside → ReachedAreAtLeast count And (beside_itself content places)
  beside_needs count needs = record {
    least = record {
      nodes = needs.least.nodes;
      pairs = needs.least.pairs;
      ordered = needs.least.ordered;
      reduced = needs.least.reduced;
      needed = λ place node held.
          let was = needs.least.needed place node held in (
            was.0,
            found_as needs.least.pairs was.0 was.1,
            (was.2.0, λ bits. needed_as needs.least.pairs was.0 (below_from node.var was.2.0 bits) (leaf_of needs.least.nodes (end_at node bits) bits) (was.2.1 bits)),
          );
      numbering = needs.least.numbering;
      states = λ number pair held.
          let was = needs.least.states number pair held in
          let counted = is.long in
          (omega (arith, was.0, counted), omega (arith, was.1, counted));
      many = needs.least.many;
    };
    reached = λ number pair held. IsReachedPair-same beside (beside_itself content places) first_same next_same pair (needs.reached number pair held);
  }

  own_needs : (count : ℕ) → ReachedAreAtLeast count And (operands_of made made) → ReachedAreAtLeast count And (beside_itself content places)
  own_needs count needs =
      beside_needs count (subst (λ (wide : List Variable). ReachedAreAtLeast count And (beside_itself made (places_among made.variables wide))) (merged-itself made.variables) needs)

  -- so it is as large as the renaming needs
  pub made_beside : (result : Result (Content Sign) StepFault)
      → IfOk result (λ done. ReachedAreAtLeast (length done.nodes + length done.states) And (operands_of made made))
      → IfOk result (λ done. ReachedAreAtLeast (length done.nodes + length done.states) And (beside_itself content places))
  made_beside (Ok done) size = own_needs (length done.nodes + length done.states) size
  made_beside (Err fault) size = tt

  -- and a refusal of the conjunction is one of the renaming
  pub refused_beside : (limit : ℕ) (result : Result (Content Sign) StepFault) → OnRefused result (λ refused. ReachedAreAtLeast limit And (operands_of made made))
      → OnRefused result (λ refused. ReachedAreAtLeast limit And (beside_itself content places))
  refused_beside limit (Ok done) cause = tt
  refused_beside limit (Err Memory) cause = tt
  refused_beside limit (Err (Nodes refused)) cause =
      own_needs limit cause
