-- The canonical content of an automaton with values is a file that gives these values.
use Rattle.std.proofs.Common.{◌≡◌, ℕ, List, map, sym, ap, subst, ◌∙◌}
use Rattle.std.specs.Option.{option_map}
use Rattle.ms_dfa.specs.Files.{content_of_file, file_sign}
use Rattle.ms_dfa.proofs.OrdersLemmas.{orders_of, orders-by_place, over-same}
use Rattle.ms_dfa.specs.declared.plain.FileVersion.{FileVersion}
use Rattle.ms_dfa.specs.declared.plain.Plain.{Plain}
use Rattle.ms_list.specs.declared.word.Word.{Word}
use Rattle.ms_logic.specs.Assignment.{Variable, IsAssignment}
use Rattle.ms_logic_words.specs.declared.sign.Sign.{Sign}
use Rattle.ms_logic_words.specs.Content.{Content, IsWordOver, sign_of}
use Rattle.ms_logic_words.specs.Word.{IsEncoding}
use Rattle.ms_logic_words.proofs.WordLaws.{encoding_is_over}
use Rattle.ms_dfa.specs.Values.{HasValues, Meaning}
use Rattle.ms_build_source.specs.inner.Copies.{IsCanonicalCopy}
use Rattle.ms_build_source.specs.Values.{GivesValue, IsFileOf, content_over}
use Rattle.ms_build_source.proofs.SignOver.{sign-over}

module _ (version : FileVersion) (content : Content Sign) (names : List (List ℕ)) (plain : Plain) (copy : IsCanonicalCopy version content names plain) (variables : List Variable) (same : orders_of variables ≡ orders_of content.variables)
    (meaning : Meaning) (values : HasValues meaning (record content { variables = variables })) where
  orders : orders_of variables ≡ orders_of (content_of_file plain).variables
  orders = same ∙ sym copy.orders ∙ sym (orders-by_place (map (λ v. v.order) plain.variables))

  sign_is : (word : Word) → IsWordOver variables word → sign_of (content_over variables plain) word ≡ option_map (file_sign version) (sign_of (record content { variables = variables }) word)
  sign_is word over =
      sign-over (content_of_file plain) variables orders word ∙ copy.signs word (over-same variables content.variables same word over)
      ∙ ap (option_map (file_sign version)) (sym (sign-over content variables same word))

  gives : GivesValue version meaning (content_over variables plain)
  gives = record {
    right = λ word e assigned encodes.
        let found = values.right word e (subst (λ mode. IsAssignment mode variables e) copy.mode_is assigned) encodes in
        (found.0, sign_is word (encoding_is_over variables word e encodes) ∙ ap (option_map (file_sign version)) found.1, found.2);
    outside = λ word over out.
        sign_is word over
        ∙ ap (option_map (file_sign version)) (values.outside word over (λ encoding. out (subst (λ mode. IsEncoding mode variables word) (sym copy.mode_is) encoding)));
  }

  pub file_of : IsFileOf version content.mode variables names meaning plain
  file_of = record { version_is = copy.version_is; mode_is = copy.mode_is; orders = copy.orders ∙ sym same; names_are = copy.names_are; canonical = copy.canonical; value = gives }
