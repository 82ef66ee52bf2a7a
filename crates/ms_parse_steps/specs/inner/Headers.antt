-- The header of a source, as the code looks for it.
use Rattle.std.specs.Prelude.{◌≡◌, true, false, ◌&&◌, List, ◌∷◌, codes, bytes_eq}
use Rattle.ms_parse_grammar.specs.Symbol.{name, sign, word_ws1s, semicolon, Placed, placed}

-- the symbols do not begin with `ws1s;`
abbrev pub IsNoWs1s : List Placed → Type 0
IsNoWs1s (placed word_ws1s at ∷ placed semicolon a1 ∷ ts) = ⊥
IsNoWs1s _ = Unit {0}

-- the symbols do not begin with `m2l-str;`
abbrev pub IsNoString : List Placed → Type 0
IsNoString (placed (name n) at ∷ placed (sign true) a1 ∷ placed (name m) a2 ∷ placed semicolon a3 ∷ ts) =
    (bytes_eq n (codes "m2l") && bytes_eq m (codes "str")) ≡ false
IsNoString _ = Unit {0}
