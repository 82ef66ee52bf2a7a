-- The automaton of the assignments of numbers, made one number after the other.
use Rattle.std.proofs.Common.{◌≡◌, ℕ, ◌+◌, ◌<◌, inl, ⊎_elim, List, [], ◌∷◌, slice_get, Some, refl, sym, ap, subst, ◌∙◌, arith}
use Rattle.std.proofs.lemmas.Bool.{cases_lt}
use Rattle.std.proofs.lemmas.Option.{same_Some}
use Rattle.ms_logic.specs.declared.mode.Mode.TheVariants.{M2lStr}
use Rattle.ms_logic.specs.declared.mode.Order.TheVariants.{One}
use Rattle.ms_logic_words.specs.declared.sign.Sign.{Sign}
use Rattle.ms_logic_words.specs.declared.sign.Sign.TheVariants.{Yes, No, Undefined, Outside}
use Rattle.ms_logic.specs.Assignment.{Env, Variable, IsAssignment}
use Rattle.ms_logic_words.specs.Content.{Content, shortest_word}
use Rattle.ms_logic_core.specs.CoreForm.{truth}
use Rattle.ms_logic.specs.Lists.{AreRising, IsAmong}
use Rattle.ms_dfa.specs.Automaton.{IsAutomaton}
use Rattle.ms_dfa.specs.Values.{HasValues, core_meaning, own_meaning}
use Rattle.ms_dfa.proofs.EncodingLemmas.{shortest}
use Rattle.ms_dfa_explore.specs.Tracks.{merged}
use Rattle.ms_dfa_explore.proofs.AmongLemmas.{among_at, merged-either}
use Rattle.ms_dfa_explore.proofs.TracksLemmas.{merged-left, merged-right}
use Rattle.ms_product.specs.Combined.{HaveEqualOrders}
use Rattle.ms_logic_words.specs.Residual.{HaveEqualSigns}
use Rattle.ms_rename.specs.Whole.{always}
use Rattle.ms_rename.proofs.RenamedLemmas.{HasValues-same}
use Rattle.ms_dfafile_adopt.specs.Readings.{TellsNumbers}
use Rattle.ms_dfafile_adopt.proofs.VariableLemmas.{IsAssignment-among, one_named}

always_true : (e : Env) (sign : Sign) → core_meaning [] truth e sign → always e sign
always_true e Yes is = refl
always_true e No is = absurd is
always_true e Undefined is = absurd (is.0 tt)
always_true e Outside is = absurd is

-- no variable is no number
pub no_numbers : (vs : List Variable) (all : Content Sign) → all.mode ≡ M2lStr → all.variables ≡ [] → HasValues (core_meaning [] truth) all → (made : Content Sign) → made.mode ≡ all.mode → made.variables ≡ all.variables
    → HaveEqualSigns all made → TellsNumbers vs 0 made
no_numbers vs all mode_is none values made same_mode same_variables signs =
    let same = HasValues-same (core_meaning [] truth) all made same_mode same_variables signs values in
    record {
      mode_is = same_mode ∙ mode_is;
      among = λ v there. absurd (subst (λ ws. IsAmong ws v) (same_variables ∙ none) there);
      only_numbers = λ v there. absurd (subst (λ ws. IsAmong ws v) (same_variables ∙ none) there);
      numbers = λ place v less there number. absurd (omega (arith, less));
      values = record {
        right = λ word e assigned encodes. let found = same.right word e assigned encodes in (found.0, found.1, always_true e found.0 found.2);
        outside = same.outside;
      };
    }

module _ (vs : List Variable) (rising : AreRising vs) (count : ℕ) (v : Variable) (held : slice_get vs count ≡ Some v) (content : Content Sign) (tells : TellsNumbers vs count content) where
  own_among : IsAmong vs v
  own_among = among_at vs count v held

  only_own : (w : Variable) → IsAmong (v ∷ []) w → v ≡ w
  only_own w among = ⊎_elim (λ here. here) (λ never. absurd never) among

  pub equal_orders : HaveEqualOrders content.variables (v ∷ [])
  equal_orders u w is also same = one_named vs rising u w (tells.among u is) (subst (IsAmong vs) (only_own w also) own_among) same

  -- the variable at the last place
  is_last : (place : ℕ) (w : Variable) → place < count + 1 → slice_get vs place ≡ Some w → (count < place + 1) → v ≡ w
  is_last place w less there past =
      let last : count ≡ place = omega (arith, less, past) in
      same_Some v w (sym held ∙ ap (slice_get vs) last ∙ there)

  -- one that is no number changes nothing
  pub TellsNumbers-other : (v.order ≡ One → ⊥) → TellsNumbers vs (count + 1) content
  TellsNumbers-other other = record {
    mode_is = tells.mode_is;
    among = tells.among;
    only_numbers = tells.only_numbers;
    numbers = λ place w less there number. ⊎_elim
        (λ before. tells.numbers place w before there number)
        (λ past. absurd (other (ap (λ (x : Variable). x.order) (is_last place w less there (omega (arith, past))) ∙ number)))
        (cases_lt place count);
    values = tells.values;
  }

  module _ (automaton : IsAutomaton content) (made : Content Sign) (mode_is : made.mode ≡ content.mode) (variables_are : made.variables ≡ merged content.variables (v ∷ []))
      (values : HasValues (own_meaning content) made) (is_number : v.order ≡ One) where
    was_among : (w : Variable) → IsAmong content.variables w → IsAmong made.variables w
    was_among w there = subst (λ ws. IsAmong ws w) (sym variables_are) (merged-left content.variables (v ∷ []) w there)

    now_among : IsAmong made.variables v
    now_among = subst (λ ws. IsAmong ws v) (sym variables_are) (merged-right content.variables (v ∷ []) v (λ u there name. equal_orders u v there (inl refl) name) (inl refl))

    -- it is Yes at each assignment still
    still : (e : Env) → IsAssignment made.mode made.variables e → (sign : Sign) → own_meaning content e sign → always e sign
    still e assigned sign own =
        let here = IsAssignment-among content.mode content.variables made.variables e was_among (subst (λ mode. IsAssignment mode made.variables e) mode_is assigned) in
        let found = tells.values.right (shortest_word content.variables e) e here (shortest content automaton e here) in
        same_Some sign found.0 (sym own ∙ found.1) ∙ found.2

    pub TellsNumbers-more : TellsNumbers vs (count + 1) made
    TellsNumbers-more = record {
      mode_is = mode_is ∙ tells.mode_is;
      among = λ w there. ⊎_elim (tells.among w) (λ own. subst (IsAmong vs) (only_own w own) own_among)
          (merged-either content.variables (v ∷ []) w (subst (λ ws. IsAmong ws w) variables_are there));
      only_numbers = λ w there. ⊎_elim (tells.only_numbers w) (λ own. subst (λ (x : Variable). x.order ≡ One) (only_own w own) is_number)
          (merged-either content.variables (v ∷ []) w (subst (λ ws. IsAmong ws w) variables_are there));
      numbers = λ place w less there number. ⊎_elim
          (λ before. was_among w (tells.numbers place w before there number))
          (λ past. subst (IsAmong made.variables) (is_last place w less there (omega (arith, past))) now_among)
          (cases_lt place count);
      values = record {
        right = λ word e assigned encodes. let found = values.right word e assigned encodes in (found.0, found.1, still e assigned found.0 found.2);
        outside = values.outside;
      };
    }
