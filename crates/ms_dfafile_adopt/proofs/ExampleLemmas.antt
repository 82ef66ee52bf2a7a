-- Pairs and files of the worked examples.
use Rattle.std.proofs.Common.{◌≡◌, ℕ, zero, suc, slice_index, ⊎_elim, Bool, List, [], ◌∷◌, Contains, codes, refl, ap, lit<, arith}
use Rattle.std.proofs.lemmas.List.Elements.{All-from_recursion}
use Rattle.std.proofs.lemmas.Option.{same_Some}
use Rattle.ms_arena.specs.Diagram.{leaf_of}
use Rattle.ms_logic.specs.declared.mode.Order.TheVariants.{One, Two}
use Rattle.ms_logic_words.specs.Content.{IsOpen}
use Rattle.ms_logic.specs.First.{IsLower}
use Rattle.ms_dfa.specs.declared.plain.FileSign.TheVariants.{Plus, Minus}
use Rattle.ms_best.specs.FirstWord.{bits_of_word}
use Rattle.ms_dfa.specs.Files.{content_of_file}
use Rattle.ms_dfafile_adopt.specs.inner.Examples.{empty_word, nothing_in, number_pair, open_file, set_pair, subset}
use Rattle.ms_dfafile_adopt.specs.Import.{HasVariables, IsFirstOpen, Named, ShowsOpen, variables_named, variables_of_file}

abbrev named : List ℕ → Named
named name = record { name = name; order = Two }

-- one of one
only_one : (one x : Named) → Contains (one ∷ []) x → one ≡ x
only_one one x (zero, within, same) = same
only_one one x (suc k, within, same) = absurd (omega (arith, within))

names_differ : named (codes "P") ≡ named (codes "Q") → ⊥
names_differ same = let letters : 80 ≡ 81 = ap (λ (n : Named). slice_index n.name 0) same in omega (arith, letters)

pub turned_round : HasVariables subset (set_pair (codes "Q") ∷ set_pair (codes "P") ∷ [])
turned_round = record {
  each = All-from_recursion (Contains (variables_named (set_pair (codes "Q") ∷ set_pair (codes "P") ∷ []))) (variables_of_file subset) ((1, lit< tt, refl), ((0, lit< tt, refl), tt));
  only = All-from_recursion (Contains (variables_of_file subset)) (variables_named (set_pair (codes "Q") ∷ set_pair (codes "P") ∷ [])) ((1, lit< tt, refl), ((0, lit< tt, refl), tt));
}

pub too_few : ¬ HasVariables subset (set_pair (codes "P") ∷ [])
too_few has = names_differ (only_one (named (codes "P")) (named (codes "Q")) (has.each 1 (named []) (lit< tt)))

pub too_many : ¬ HasVariables open_file (set_pair (codes "P") ∷ set_pair (codes "Q") ∷ [])
too_many has = names_differ (only_one (named (codes "P")) (named (codes "Q")) (has.only 1 (named []) (lit< tt)))

pub other_order : ¬ HasVariables open_file (number_pair (codes "P") ∷ [])
other_order has =
    let same = only_one (record { name = codes "P"; order = One }) (named (codes "P")) (has.each 0 (named []) (lit< tt)) in
    let orders : One ≡ Two = ap (λ (n : Named). n.order) same in cc

signs_differ : Plus ≡ Minus → ⊥
signs_differ same = cc

-- the empty word shows that the file is open
shows : ShowsOpen (content_of_file open_file) empty_word
unfolding leaf_of
shows = (
  nothing_in,
  record { universe = refl; values = ((tt, tt), tt) },
  record { truth = refl; letters = refl; room = omega arith; string = tt },
  λ same. signs_differ (same_Some Plus Minus same),
)

none_lower : (bits : List Bool) → ¬ IsLower bits []
none_lower [] lower = lower
none_lower (bit ∷ bits) lower = lower

pub open_is : IsOpen (content_of_file open_file)
unfolding shows
open_is = record { numbers = refl; e = nothing_in; word = empty_word; assignment = shows.1; encodes = shows.2; changes = shows.3 }

pub first_open : IsFirstOpen (content_of_file open_file) empty_word
first_open = record {
  shows = shows;
  none_before = λ other also before. ⊎_elim (λ shorter. absurd (omega (arith, shorter))) (λ lower. none_lower (bits_of_word other) lower.1) before;
}
