use Rattle.std.proofs.Common.{◌++◌, ◌∷◌, List, ℕ, [], codes, string_bytes, sym, ap, ◌∙◌, append_assoc}
use Rattle.ms_gen.specs.Generated.{name_of}
use Rattle.ms_gen.proofs.chain.push_free.Goals as goal

pub returns : goal.returns
returns c =
    let before = string_bytes c.args.text.now in
    let words = codes "all1 x: ex1 y: x < y & y notin " in
    let end = codes ";" ++ 10 ∷ [] in
    let named = c.in_ok-push_name.ensures ∙ ap (λ (t : List ℕ). t ++ name_of c.args.last) c.in_ok-push_str.ensures.bytes in
    c.in_ok-push_str-2.ensures.bytes ∙ ap (λ (t : List ℕ). t ++ end) named
    ∙ append_assoc (before ++ words) (name_of c.args.last) end
    ∙ append_assoc before words (name_of c.args.last ++ end)
    ∙ ap (λ (t : List ℕ). before ++ (words ++ t)) (sym (append_assoc (name_of c.args.last) (codes ";") (10 ∷ [])))
