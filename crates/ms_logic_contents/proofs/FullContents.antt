-- The full content of a core formula: the canonical content of its machine.
use Rattle.std.proofs.Common.{inl, inr, List, Some, refl, sym, ◌∙◌, ap, subst}
use Rattle.ms_logic.specs.Assignment.{Variable}
use Rattle.ms_logic_words.specs.Content.{IsWordOver}
use Rattle.ms_logic_words.specs.declared.sign.Sign.{Sign}
use Rattle.ms_logic_words.specs.declared.sign.Sign.TheVariants.{Yes, No, Undefined, Outside}
use Rattle.ms_logic_machines.specs.Machine.{IsTested, machine_sign}
use Rattle.ms_logic_machines.proofs.Quotients.{machines_have_canonical_contents}
use Rattle.ms_minim_canonical.proofs.EqualityLemmas.{canonical_equal}
use Rattle.ms_logic_contents.specs.Laws.{FullContentsAreEqual, FullContentsExist}
use Rattle.ms_logic_contents.proofs.Covers.{among-contains, contains-among, free-among}
use Rattle.ms_logic_contents.proofs.Signed.{has-machine, one-value}

signs-tested : IsTested Sign
signs-tested Yes Yes = inl refl
signs-tested Yes No = inr (λ same. cc)
signs-tested Yes Undefined = inr (λ same. cc)
signs-tested Yes Outside = inr (λ same. cc)
signs-tested No Yes = inr (λ same. cc)
signs-tested No No = inl refl
signs-tested No Undefined = inr (λ same. cc)
signs-tested No Outside = inr (λ same. cc)
signs-tested Undefined Yes = inr (λ same. cc)
signs-tested Undefined No = inr (λ same. cc)
signs-tested Undefined Undefined = inl refl
signs-tested Undefined Outside = inr (λ same. cc)
signs-tested Outside Yes = inr (λ same. cc)
signs-tested Outside No = inr (λ same. cc)
signs-tested Outside Undefined = inr (λ same. cc)
signs-tested Outside Outside = inl refl

pub full_contents_exist : FullContentsExist
full_contents_exist imports mode files variables f tied distinct over =
    let of_formula = has-machine imports mode files tied variables distinct f over in
    let made = machines_have_canonical_contents signs-tested mode variables of_formula.0 in (
      made.0,
      record {
        covers = λ w there. among-contains variables w (free-among imports f variables over w (contains-among _ w there));
        canonical = made.1;
        same_mode = made.2;
        same_variables = made.3;
        values = λ word over_word. (machine_sign of_formula.0 word, made.4 word over_word, of_formula.1 word over_word);
      },
    )

pub full_contents_are_equal : FullContentsAreEqual
full_contents_are_equal imports mode files variables f tied distinct over one other first second =
    canonical_equal Sign one other first.canonical second.canonical (first.same_mode ∙ sym second.same_mode) (first.same_variables ∙ sym second.same_variables)
    (λ word over_word.
    let here = subst (λ (vs : List Variable). IsWordOver vs word) first.same_variables over_word in
    let a = first.values word here in
    let b = second.values word here in
    b.1 ∙ (ap Some (one-value imports mode files tied variables distinct f over word here b.0 a.0 b.2 a.2) ∙ sym a.1))
