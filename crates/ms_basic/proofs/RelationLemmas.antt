-- A machine that decides a relation makes its automaton.
use Rattle.std.proofs.Common.{◌≡◌, ◌≢◌, ◌≤◌, List, [], length, Some, Result, Ok, Err, IfOk, refl, sym, ap, subst, ◌∙◌, arith}
use Rattle.ms_list.specs.declared.fault.StepFault.{StepFault}
use Rattle.ms_list.specs.declared.word.Word.{Word}
use Rattle.ms_logic_core.specs.declared.core_formula.Basic.{Basic}
use Rattle.ms_logic.specs.declared.mode.Mode.{Mode}
use Rattle.ms_logic_words.specs.declared.sign.Sign.{Sign}
use Rattle.ms_logic_words.specs.declared.sign.Sign.TheVariants.{Yes, No, Undefined, Outside}
use Rattle.ms_logic.specs.Assignment.{Env, Variable, IsAssignment}
use Rattle.ms_logic_words.specs.Content.{Content, IsWordOver, sign_of, with_zero_letter}
use Rattle.ms_logic_core.specs.CoreForm.{Holds, basic}
use Rattle.ms_logic_words.specs.Word.{Encodes, IsEncoding}
use Rattle.ms_logic_words.specs.WordSign.{IsOutside}
use Rattle.ms_logic_words.proofs.WordLaws.{encoding_is_over, zero_letter_keeps}
use Rattle.ms_dfa.specs.Values.{HasValues, core_meaning}
use Rattle.ms_dfa_explore.specs.Small.{TransitionTable, sign_by, TellsWords}
use Rattle.ms_dfa_explore.specs.Tracks.{distinct}
use Rattle.ms_logic.specs.Lists.{IsAmong}
use Rattle.ms_dfa_explore.proofs.TracksLemmas.{distinct-rising}
use Rattle.ms_basic.specs.declared.reading.Wiring.{Wiring}
use Rattle.ms_basic.specs.Operands.{HaveOneOrder}
use Rattle.ms_logic_core.specs.Operands.{variables_of_basic}
use Rattle.ms_basic.specs.inner.Reading.{wired, wiring_of}
use Rattle.ms_basic.specs.inner.Relation.{DecidesRelation, IsOfRelation, IsRight}
use Rattle.ms_basic.proofs.DistinctLemmas.{IsAssignment-some, among-distinct, bound_of-some, distinct-among, length-distinct}
use Rattle.ms_basic.proofs.ReadingLemmas.{state_at_end}
use Rattle.ms_basic.proofs.TallyLemmas.{inside_encodes}

-- a right sign is Yes or No, and there is one at most
never_outside : (Fact : Type 0) (sign : Sign) → IsRight Fact sign → sign ≢ Outside
never_outside Fact Yes right = λ same. cc
never_outside Fact No right = λ same. cc
never_outside Fact Undefined right = absurd right
never_outside Fact Outside right = absurd right

one_right : (Fact : Type 0) (first second : Sign) → IsRight Fact first → IsRight Fact second → first ≡ second
one_right Fact Yes Yes one two = refl
one_right Fact Yes No one two = absurd (two one)
one_right Fact No Yes one two = absurd (one two)
one_right Fact No No one two = refl
one_right Fact Undefined second one two = absurd one
one_right Fact Outside second one two = absurd one
one_right Fact Yes Undefined one two = absurd two
one_right Fact No Undefined one two = absurd two
one_right Fact Yes Outside one two = absurd two
one_right Fact No Outside one two = absurd two

-- a right sign is one of the relation's core formula
right_meaning : (form : Basic) (e : Env) (sign : Sign) → IsRight (Holds form e) sign → core_meaning [] (basic form) e sign
right_meaning form e Yes right = right
right_meaning form e No right = right
right_meaning form e Undefined right = absurd right
right_meaning form e Outside right = absurd right

-- a sign is Outside where it is not another
outside_or_not : (sign : Sign) → ((sign ≢ Outside) → ⊥) → sign ≡ Outside
outside_or_not Yes never = absurd (never (λ same. cc))
outside_or_not No never = absurd (never (λ same. cc))
outside_or_not Undefined never = absurd (never (λ same. cc))
outside_or_not Outside never = refl

module _ (mode : Mode) (operands : List Variable) (form : Basic) (table : TransitionTable) (orders : HaveOneOrder operands) (few : length operands ≤ 3)
    (decides : DecidesRelation mode operands form table) where
  abbrev tracks : List Variable
  tracks = distinct operands

  -- the machine over the tracks
  abbrev whole : TransitionTable
  whole = wired (wiring_of operands tracks) table

  few_tracks : length tracks ≤ 3
  few_tracks = omega (arith, few, length-distinct operands)

  -- the sign of a word that encodes an assignment is right there
  right_sign : (word : Word) (e : Env) → IsAssignment mode tracks e → Encodes tracks word e
      → IsRight (Holds form e) (sign_by whole tracks word)
  right_sign word e assigned encodes =
      let among : (v : Variable) → IsAmong operands v → IsAmong tracks v = λ v there. among-distinct operands v orders there in
      let bound = bound_of-some tracks operands e among in
      subst (λ s. IsRight (Holds form e) (table.sign s))
      (sym (state_at_end tracks e (distinct-rising operands) few_tracks operands among table word encodes))
      (decides.right e (length word.letters) (IsAssignment-some mode tracks operands e among assigned) (omega (arith, bound, encodes.room)) encodes.string)

  -- and any other word has the sign Outside
  inside : (word : Word) → IsWordOver tracks word → sign_by whole tracks word ≢ Outside → IsEncoding mode tracks word
  inside word over other =
      inside_encodes mode table tracks operands word (distinct-rising operands) few_tracks few (distinct-among operands) decides.tallies over other

  pub tells : TellsWords mode tracks whole
  tells = record {
    encodings = λ word over. (
      λ encoding. never_outside (Holds form encoding.0) (sign_by whole tracks word) (right_sign word encoding.0 encoding.1 encoding.2),
      inside word over,
    );
    settled = λ numbers word over encoding.
        let e = encoding.0 in
        let assigned = subst (λ m. IsAssignment m tracks e) (sym numbers) encoding.1 in
        one_right (Holds form e) (sign_by whole tracks (with_zero_letter tracks word)) (sign_by whole tracks word)
        (right_sign (with_zero_letter tracks word) e assigned (zero_letter_keeps tracks word e encoding.1.universe encoding.2))
        (right_sign word e assigned encoding.2);
  }

  -- an automaton with the signs of the machine has the values of the relation
  pub has_values : (content : Content Sign) → content.mode ≡ mode → content.variables ≡ distinct operands
      → ((word : Word) → IsWordOver tracks word → sign_of content word ≡ Some (sign_by whole tracks word))
      → HasValues (core_meaning [] (basic form)) content
  has_values content of_mode variables signs = record {
    right = λ word e assigned encodes.
        let encodes_there = subst (λ vs. Encodes vs word e) variables encodes in
        let assigned_there = subst (λ m. IsAssignment m tracks e) of_mode (subst (λ vs. IsAssignment content.mode vs e) variables assigned) in (
          sign_by whole tracks word,
          signs word (encoding_is_over tracks word e encodes_there),
          right_meaning form e (sign_by whole tracks word) (right_sign word e assigned_there encodes_there),
        );
    outside = λ word over outside.
        let over_there = subst (λ vs. IsWordOver vs word) variables over in
        let outside_there = subst (λ m. IsOutside m tracks word) of_mode (subst (λ vs. IsOutside content.mode vs word) variables outside) in
        signs word over_there
        ∙ ap Some (outside_or_not (sign_by whole tracks word) (λ other. outside_there (inside word over_there other)));
  }

-- the same of what was built
pub relation_built : (mode : Mode) (operands over : List Variable) (wiring : Wiring) (form : Basic) (table : TransitionTable) (result : Result (Content Sign) StepFault) → HaveOneOrder operands
    → length operands ≤ 3 → DecidesRelation mode operands form table → over ≡ distinct operands → wiring ≡ wiring_of operands (distinct operands)
    → distinct operands ≡ distinct (variables_of_basic form) → IfOk result (λ made. made.mode ≡ mode) → IfOk result (λ made. made.variables ≡ over)
    → IfOk result (λ made. (word : Word) → IsWordOver over word → sign_of made word ≡ Some (sign_by (wired wiring table) over word))
    → IfOk result (IsOfRelation mode form)
relation_built mode operands over wiring form table (Ok made) orders few decides are wires same of_mode variables signs = record {
  universe = of_mode;
  variables = variables ∙ are ∙ same;
  values = has_values mode operands form table orders few decides made of_mode (variables ∙ are)
      (subst (λ w. (word : Word) → IsWordOver (distinct operands) word → sign_of made word ≡ Some (sign_by (wired w table) (distinct operands) word)) wires
      (subst (λ vs. (word : Word) → IsWordOver vs word → sign_of made word ≡ Some (sign_by (wired wiring table) vs word)) are signs));
}
relation_built mode operands over wiring form table (Err fault) orders few decides are wires same of_mode variables signs = tt

-- and of what is to be built
pub tells_wired : (mode : Mode) (operands over : List Variable) (wiring : Wiring) (form : Basic) (table : TransitionTable) → HaveOneOrder operands → length operands ≤ 3
    → DecidesRelation mode operands form table → over ≡ distinct operands → wiring ≡ wiring_of operands (distinct operands) → TellsWords mode over (wired wiring table)
tells_wired mode operands over wiring form table orders few decides are wires =
    subst (λ w. TellsWords mode over (wired w table)) (sym wires)
    (subst (λ vs. TellsWords mode vs (wired (wiring_of operands (distinct operands)) table)) (sym are) (tells mode operands form table orders few decides))
