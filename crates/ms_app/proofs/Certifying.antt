-- A source that is certified is decided, and a certificate of the file of its main value stands behind its files.
use Rattle.std.proofs.Common.{◌≡◌, ◌≢◌, ℕ, ◌+◌, ◌-◌, false, List, [], ◌∷◌, ◌++◌, length, map, slice_get, Contains, option_map, Some, refl, sym, ap, subst, ◌∙◌, arith}
use Rattle.std.proofs.lemmas.List.{length-append, length-map, length_push, map_push}
use Rattle.std.proofs.lemmas.List.Elements.{Contains-push}
use Rattle.std.proofs.lemmas.Option.{same_Some, slice_get-map}
use Rattle.std.specs.Prelude.{codes}
use Rattle.ms_arena.proofs.Lists.{slice_get-push}
use Rattle.ms_cert_check.specs.Certified.{IsCanonicalFile, IsCertificateOf}
use Rattle.ms_cert_check.specs.Files.{cert_name}
use Rattle.ms_dfa.specs.declared.plain.FileVersion.TheVariants.{Two}
use Rattle.ms_logic.specs.declared.checked.Global.{Global}
use Rattle.ms_logic.specs.View.{main_question, problem_of}
use Rattle.ms_report.specs.Report.{report_of}
use Rattle.ms_report.specs.declared.found.Found.{Found}
use Rattle.ms_app.specs.Certification.{IsCertification, names_to_certify}
use Rattle.ms_app.specs.Decision.{IsDecided}
use Rattle.ms_app.specs.Source.{Origin, answers_with}
use Rattle.ms_app.specs.Written.{File}
use Rattle.ms_app.specs.declared.files.AutomatonFile.{AutomatonFile}
use Rattle.ms_app.specs.inner.Files.{HaveOwnNames, IsLast, IsWithCertificate, pairs_of}
use Rattle.ms_app.proofs.Outs.{out_free}
use Rattle.ms_app.proofs.Writing.{HasMainLast, main_last, own_names_beside}

-- a name is another one than that of its certificate
other_name : (name : List ℕ) → name ≢ cert_name name
other_name name same = let long = length-append name (codes ".cert") in let equal = ap (λ (n : List ℕ). length n) same in omega (arith, long, equal)

-- the file and its bytes, as a pair
abbrev pair_of : AutomatonFile → File
pair_of file = (file.name, file.bytes)

-- a file more, which has a certificate of the last one
pub with_certificate : (files more : List AutomatonFile) (last made : AutomatonFile) → slice_get files (length files - 1) ≡ Some last → IsCertificateOf last.bytes made.bytes
    → more ≡ files ++ made ∷ [] → IsWithCertificate (pairs_of files) made.name (pairs_of more)
with_certificate files more last made held certifies all = record {
  last = pair_of last;
  is_last = ap (λ n. slice_get (pairs_of files) (n - 1)) (length-map {B = File} files pair_of) ∙ slice_get-map pair_of files (length files - 1) ∙ ap (option_map pair_of) held;
  certificate = made.bytes;
  certifies = certifies;
  all = ap pairs_of all ∙ map_push pair_of files made;
}

module _ (origin : Origin) (name : List ℕ) (found : Found) (files : List File) (is : IsDecided origin (names_to_certify name) (Some name) false Two found files) where
  main : HasMainLast Two (problem_of is.checked (answers_with is.checked is.plains)) (main_question is.checked (answers_with is.checked is.plains)) (map (λ (g : Global). g.name) is.checked.globals) name files
  main = main_last Two (problem_of is.checked (answers_with is.checked is.plains)) (main_question is.checked (answers_with is.checked is.plains)) (map (λ (g : Global). g.name) is.checked.globals) 0 is.checked.exports name files is.written

  main_is_last : IsLast files (name, main.bytes)
  main_is_last =
      let long = length_push main.before (name, main.bytes) in
      let place : length (main.before ++ (name, main.bytes) ∷ []) - 1 ≡ length main.before = omega (arith, long) in
      subst (λ (fs : List File). IsLast fs (name, main.bytes)) (sym main.all)
      (ap (λ k. slice_get (main.before ++ (name, main.bytes) ∷ []) k) place ∙ slice_get-push main.before (name, main.bytes))

  -- the last file has a canonical content
  pub last_is_canonical : (last : File) × IsLast files last × IsCanonicalFile last.1
  last_is_canonical = ((name, main.bytes), main_is_last, record { plain = main.plain; spelled = main.spelled; canonical = main.is.canonical })

  module _ (more : List File) (with : IsWithCertificate files (cert_name name) more) where
    same_last : with.last ≡ (name, main.bytes)
    same_last = same_Some with.last (name, main.bytes) (sym with.is_last ∙ main_is_last)

    pub certified : (text : List ℕ) → text ≡ report_of found → IsCertification origin name text more
    certified text printed = record {
      found = found;
      files = files;
      is = is;
      printed = printed;
      automaton = main.bytes;
      among = subst (λ (fs : List File). Contains fs (name, main.bytes)) (sym main.all) (Contains-push main.before (name, main.bytes));
      certificate = with.certificate;
      certifies = subst (λ (file : File). IsCertificateOf file.1 with.certificate) same_last with.certifies;
      all = with.all;
    }

    pub own_names_more : HaveOwnNames files → HaveOwnNames more
    own_names_more own =
        subst HaveOwnNames (sym with.all)
        (own_names_beside Two (problem_of is.checked (answers_with is.checked is.plains)) (main_question is.checked (answers_with is.checked is.plains)) (map (λ (g : Global). g.name) is.checked.globals)
        is.checked.exports name files (cert_name name) with.certificate own
        (out_free (Some (cert_name name)) (names_to_certify name) is.checked.exports (1, omega arith, refl) is.is.is.free) (other_name name) is.written)
