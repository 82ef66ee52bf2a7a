-- Words for worked examples.
use Rattle.std.specs.Prelude.{List, [], ◌∷◌, codes}
use Rattle.clap.specs.Words.{Text}

abbrev pub one_file : List Text
one_file = codes "decide" ∷ codes "t.mona" ∷ []

abbrev pub no_file : List Text
no_file = codes "decide" ∷ []

abbrev pub two_files : List Text
two_files = codes "decide" ∷ codes "t.mona" ∷ codes "u.mona" ∷ []

abbrev pub with_limit : List Text
with_limit = codes "decide" ∷ codes "--max-nodes" ∷ codes "5" ∷ codes "t.mona" ∷ []

abbrev pub with_out : List Text
with_out = codes "decide" ∷ codes "t.mona" ∷ codes "--out" ∷ codes "t.dfa" ∷ []

abbrev pub with_counts : List Text
with_counts = codes "decide" ∷ codes "t.mona" ∷ codes "--stats" ∷ []

abbrev pub with_format : List Text
with_format = codes "decide" ∷ codes "t.mona" ∷ codes "--format" ∷ codes "1" ∷ []

abbrev pub for_help : List Text
for_help = codes "decide" ∷ codes "t.mona" ∷ codes "--help" ∷ []

abbrev pub two_to_compare : List Text
two_to_compare = codes "same" ∷ codes "a.mona" ∷ codes "b.mona" ∷ []

abbrev pub only_left : List Text
only_left = codes "same" ∷ codes "a.mona" ∷ []

abbrev pub gen_by_number : List Text
gen_by_number = codes "gen" ∷ codes "3" ∷ []

abbrev pub gen_and_decide : List Text
gen_and_decide = codes "gen" ∷ codes "3" ∷ codes "--decide" ∷ []

abbrev pub one_formula : List Text
one_formula = codes "ltl" ∷ codes "f.ltl" ∷ []

abbrev pub formula_with_limit : List Text
formula_with_limit = codes "ltl" ∷ codes "f.ltl" ∷ codes "--max-nodes" ∷ codes "5" ∷ []

abbrev pub formula_with_out : List Text
formula_with_out = codes "ltl" ∷ codes "f.ltl" ∷ codes "--out" ∷ codes "f.dfa" ∷ []

abbrev pub one_problem : List Text
one_problem = codes "presburger" ∷ codes "f.pa" ∷ []

abbrev pub one_certificate : List Text
one_certificate = codes "check" ∷ codes "t.dfa" ∷ []

abbrev pub check_with_limit : List Text
check_with_limit = codes "check" ∷ codes "t.dfa" ∷ codes "--max-nodes" ∷ codes "5" ∷ []

abbrev pub certify_one : List Text
certify_one = codes "certify" ∷ codes "t.mona" ∷ codes "t.dfa" ∷ []

abbrev pub certify_with_limit : List Text
certify_with_limit = codes "certify" ∷ codes "t.mona" ∷ codes "t.dfa" ∷ codes "--max-nodes" ∷ codes "5" ∷ []

abbrev pub certify_alone : List Text
certify_alone = codes "certify" ∷ codes "t.mona" ∷ []

abbrev pub certify_with_out : List Text
certify_with_out = codes "certify" ∷ codes "t.mona" ∷ codes "t.dfa" ∷ codes "--out" ∷ codes "u.dfa" ∷ []
