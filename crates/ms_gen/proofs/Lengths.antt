-- How long a generated source is.
use Rattle.std.proofs.Common.{ℕ, zero, suc, ◌+◌, ◌*◌, ◌-◌, ◌≤◌, ◌<◌, List, [], ◌∷◌, ◌++◌, length, codes, length-append, arith}
use Rattle.std.proofs.lemmas.Fmt.{length-decimal-le}
use Rattle.ms_gen.specs.Generated.{IsNumber, chain_line, free_line, generated, links_text, name_of, names_text, sets_line, source_text}

-- a text behind another
behind : (a b : List ℕ) (m n : ℕ) → length a ≤ m → length b ≤ n → length (a ++ b) ≤ m + n
behind a b m n one two = omega (arith, length-append a b, one, two)

module _ (n : ℕ) (small : n < 10000) where
  name_short : length (name_of n) ≤ 5
  name_short = let digits = length-decimal-le 4 n (omega (arith)) (omega (arith, small)) (omega (arith, small)) in omega (arith, digits)

names_short : (n : ℕ) → n < 2000 → length (names_text n) ≤ 7 * n + 5
names_short zero small = name_short 0 (omega arith)
names_short (suc n) small =
    let before = behind (names_text n) (codes ", ") (7 * n + 5) 2 (names_short n (omega (arith, small))) (omega arith) in
    let all = behind (names_text n ++ codes ", ") (name_of (n + 1)) (7 * n + 5 + 2) 5 before (name_short (n + 1) (omega (arith, small))) in
    omega (arith, all)

links_short : (n : ℕ) → n < 2000 → length (links_text n) ≤ 18 * n
links_short zero small = omega arith
links_short (suc n) small =
    let before = links_short n (omega (arith, small)) in
    let one = behind (links_text n) (codes " & ") (18 * n) 3 before (omega arith) in
    let two = behind (links_text n ++ codes " & ") (name_of n) (18 * n + 3) 5 one (name_short n (omega (arith, small))) in
    let three = behind (links_text n ++ codes " & " ++ name_of n) (codes " sub ") (18 * n + 3 + 5) 5 two (omega arith) in
    let all = behind (links_text n ++ codes " & " ++ name_of n ++ codes " sub ") (name_of (n + 1)) (18 * n + 3 + 5 + 5) 5 three (name_short (n + 1) (omega (arith, small))) in
    omega (arith, all)

module _ (last : ℕ) (small : last < 2000) where
  sets_short : length (sets_line last) ≤ 14012
  sets_short =
      let one = behind (codes "var2 ") (names_text last) 5 (7 * last + 5) (omega arith) (names_short last small) in
      let two = behind (codes "var2 " ++ names_text last) (codes ";") (5 + (7 * last + 5)) 1 one (omega arith) in
      let all = behind (codes "var2 " ++ names_text last ++ codes ";") (10 ∷ []) (5 + (7 * last + 5) + 1) 1 two (omega arith) in
      omega (arith, all, small)

  chain_short : length (chain_line last) ≤ 36022
  chain_short =
      let one = behind (codes "true") (links_text last) 4 (18 * last) (omega arith) (links_short last small) in
      let two = behind (codes "true" ++ links_text last) (codes " => P0 sub ") (4 + 18 * last) 11 one (omega arith) in
      let three = behind (codes "true" ++ links_text last ++ codes " => P0 sub ") (name_of last) (4 + 18 * last + 11) 5 two (name_short last (omega (arith, small))) in
      let four = behind (codes "true" ++ links_text last ++ codes " => P0 sub " ++ name_of last) (codes ";") (4 + 18 * last + 11 + 5) 1 three (omega arith) in
      let all = behind (codes "true" ++ links_text last ++ codes " => P0 sub " ++ name_of last ++ codes ";") (10 ∷ []) (4 + 18 * last + 11 + 5 + 1) 1 four (omega arith) in
      omega (arith, all, small)

  free_short : length (free_line last) ≤ 38
  free_short =
      let one = behind (codes "all1 x: ex1 y: x < y & y notin ") (name_of last) 31 5 (omega arith) (name_short last (omega (arith, small))) in
      let two = behind (codes "all1 x: ex1 y: x < y & y notin " ++ name_of last) (codes ";") (31 + 5) 1 one (omega arith) in
      behind (codes "all1 x: ex1 y: x < y & y notin " ++ name_of last ++ codes ";") (10 ∷ []) (31 + 5 + 1) 1 two (omega arith)

  source_short : length (source_text last) ≤ 1048576
  source_short =
      let one = behind (codes "ws1s;" ++ 10 ∷ []) (sets_line last) 6 14012 (omega arith) sets_short in
      let two = behind (codes "ws1s;" ++ 10 ∷ [] ++ sets_line last) (chain_line last) (6 + 14012) 36022 one chain_short in
      let all = behind (codes "ws1s;" ++ 10 ∷ [] ++ sets_line last ++ chain_line last) (free_line last) (6 + 14012 + 36022) 38 two free_short in
      omega (arith, all)

pub generated_short : (number : ℕ) → IsNumber number → length (generated number) ≤ 1048576
generated_short number is = source_short (number - 1) (omega (arith, is.some, is.small))
