-- Where symbols leave the grammar: in one place.
use Rattle.std.proofs.Common.{◌≡◌, ℕ, true, ◌⊎◌, inl, inr, List, [], ◌∷◌, ◌++◌, refl, sym, ap, ◌∙◌, subst, append_assoc}
use Rattle.ms_list.specs.declared.at.At.{At}
use Rattle.ms_edge.specs.declared.refusal.Refusal.{Refusal}
use Rattle.ms_edge.specs.declared.refusal.Refusal.TheVariants.{Grammar, LeftOut, Depth}
use Rattle.ms_text.specs.TokenList.{Lexed}
use Rattle.ms_parse_grammar.specs.Continuation.{CanFollow, CanFollowAtAnyDepth}
use Rattle.ms_parse_grammar.specs.Declarations.{Reads}
use Rattle.ms_parse_grammar.specs.Grammar.{greatest_depth}
use Rattle.ms_parse_grammar.specs.Symbol.{Symbol, left_out, Placed, placed, symbols}
use Rattle.ms_parse.specs.Refused.{IsGrammarFault, IsLanguage, IsMisplaced, IsTooDeepAt, EndsEarly, NamesFault, end_of}
use Rattle.ms_parse_steps.proofs.AnyDepth.{follows_at_any_depth, within_grammar}

-- what can follow symbols can follow the first of them
front_follows : (front more : List Placed) → CanFollow (front ++ more) → CanFollow front
front_follows front more (m, d, reads) = (more ++ m, d, subst (λ all. Reads true all d) (append_assoc front more m) reads)

any_depth : (front : List Placed) → CanFollow front → CanFollowAtAnyDepth front
any_depth front can = follows_at_any_depth greatest_depth front (within_grammar front can)

with_head : (x y : Placed) (xs ys : List Placed) (p q : Placed) → x ≡ y → (xs ≡ ys) × (p ≡ q) → (x ∷ xs ≡ y ∷ ys) × (p ≡ q)
with_head x y xs ys p q same (rest, last) = (ap (λ z. z ∷ xs) same ∙ ap (λ zs. y ∷ zs) rest, last)

-- There is one first symbol of a list with which a beginning stops having a property, which shorter beginnings have too.
one_stop : (Can : List Placed → Type 0) → ((front more : List Placed) → Can (front ++ more) → Can front) → (before before' : List Placed) (p p' : Placed) (after after' : List Placed)
    → before ++ p ∷ after ≡ before' ++ p' ∷ after' → Can before → Can before' → (Can (before ++ p ∷ []) → ⊥) → (Can (before' ++ p' ∷ []) → ⊥) → (before ≡ before') × (p ≡ p')
one_stop Can shorter [] [] p p' after after' same can can' stops stops' = let first : p ≡ p' = cc in (refl, first)
one_stop Can shorter [] (y ∷ ys) p p' after after' same can can' stops stops' =
    let first : p ≡ y = cc in absurd (stops (subst (λ z. Can (z ∷ [])) (sym first) (shorter (y ∷ []) ys can')))
one_stop Can shorter (x ∷ xs) [] p p' after after' same can can' stops stops' =
    let first : x ≡ p' = cc in absurd (stops' (subst (λ z. Can (z ∷ [])) first (shorter (x ∷ []) xs can)))
one_stop Can shorter (x ∷ xs) (y ∷ ys) p p' after after' same can can' stops stops' =
    let first : x ≡ y = cc in
    let rest : xs ++ p ∷ after ≡ ys ++ p' ∷ after' = cc in
    with_head x y xs ys p p' first (
    one_stop (λ front. Can (x ∷ front)) (λ front more. shorter (x ∷ front) more) xs ys p p' after after' rest
    can (subst (λ z. Can (z ∷ ys)) (sym first) can') stops (λ there. stops' (subst (λ z. Can (z ∷ (ys ++ p' ∷ []))) first there)))

-- the refusal at a symbol that is misplaced
abbrev misplaced_refusal : Placed → Refusal
misplaced_refusal (placed (left_out word) at) = LeftOut at word
misplaced_refusal (placed s at) = Grammar at

abbrev depth_refusal : Placed → Refusal
depth_refusal (placed s at) = Depth at

in_language : (s : Symbol) (at : At) → IsLanguage s → Grammar at ≡ misplaced_refusal (placed s at)
in_language (left_out word) at language = absurd language
in_language _ at language = refl

-- what a refusal of the grammar tells: the end, a symbol that is misplaced, or one that is too deep
abbrev AtEnd : ℕ → Lexed → Refusal → Type 0
AtEnd file lexed refusal = CanFollow (symbols file lexed) × (refusal ≡ Grammar (end_of file lexed))

abbrev AtMisplaced : ℕ → Lexed → Refusal → Type 0
AtMisplaced file lexed refusal = (s : Symbol) × (at : At) × IsMisplaced file lexed s at × (refusal ≡ misplaced_refusal (placed s at))

abbrev AtDepth : ℕ → Lexed → Refusal → Type 0
AtDepth file lexed refusal = (s : Symbol) × (at : At) × IsTooDeepAt file lexed s at × (refusal ≡ depth_refusal (placed s at))

abbrev Told : ℕ → Lexed → Refusal → Type 0
Told file lexed refusal = AtEnd file lexed refusal ⊎ AtMisplaced file lexed refusal ⊎ AtDepth file lexed refusal

told_grammar : (file : ℕ) (lexed : Lexed) (at : At) → EndsEarly file lexed at ⊎ ((s : Symbol) × IsMisplaced file lexed s at × IsLanguage s) → Told file lexed (Grammar at)
told_grammar file lexed at (inl early) = inl (early.can_follow, ap (λ a. Grammar a) early.is_end)
told_grammar file lexed at (inr (s, is, language)) = inr (inl (s, at, is, in_language s at language))

told : (file : ℕ) (lexed : Lexed) (refusal : Refusal) → NamesFault file lexed refusal → Told file lexed refusal
told file lexed (Grammar at) names = told_grammar file lexed at names
told file lexed (LeftOut at word) names = inr (inl (left_out word, at, names, refl))
told file lexed (Depth at) names = inr (inr (names.0, at, names.1, refl))
told file lexed _ names = absurd names

-- the end and a symbol before it are not told both

goes_past : (file : ℕ) (lexed : Lexed) (before : List Placed) (p : Placed) (after : List Placed) → CanFollow (symbols file lexed) → symbols file lexed ≡ before ++ p ∷ after → CanFollow (before ++ p ∷ [])
goes_past file lexed before p after can cut =
    front_follows (before ++ p ∷ []) after (subst CanFollow (cut ∙ sym (append_assoc before (p ∷ []) after)) can)

end_or_misplaced : (file : ℕ) (lexed : Lexed) (s : Symbol) (at : At) → CanFollow (symbols file lexed) → IsMisplaced file lexed s at → ⊥
end_or_misplaced file lexed s at can is =
    is.cannot_follow (any_depth (is.before ++ placed s at ∷ []) (goes_past file lexed is.before (placed s at) is.stands.0 can is.stands.1))

end_or_deep : (file : ℕ) (lexed : Lexed) (s : Symbol) (at : At) → CanFollow (symbols file lexed) → IsTooDeepAt file lexed s at → ⊥
end_or_deep file lexed s at can is = is.cannot_follow (goes_past file lexed is.before (placed s at) is.stands.0 can is.stands.1)

-- symbols with which reading stops are one

one_misplaced : (file : ℕ) (lexed : Lexed) (s s' : Symbol) (at at' : At) → IsMisplaced file lexed s at → IsMisplaced file lexed s' at' → placed s at ≡ placed s' at'
one_misplaced file lexed s s' at at' is is' =
    (one_stop CanFollow front_follows is.before is'.before (placed s at) (placed s' at') is.stands.0 is'.stands.0 (sym is.stands.1 ∙ is'.stands.1) is.can_follow is'.can_follow
    (λ can. is.cannot_follow (any_depth (is.before ++ placed s at ∷ []) can)) (λ can. is'.cannot_follow (any_depth (is'.before ++ placed s' at' ∷ []) can))).1

one_deep : (file : ℕ) (lexed : Lexed) (s s' : Symbol) (at at' : At) → IsTooDeepAt file lexed s at → IsTooDeepAt file lexed s' at' → placed s at ≡ placed s' at'
one_deep file lexed s s' at at' is is' =
    (one_stop CanFollow front_follows is.before is'.before (placed s at) (placed s' at') is.stands.0 is'.stands.0 (sym is.stands.1 ∙ is'.stands.1) is.can_follow is'.can_follow
    is.cannot_follow is'.cannot_follow).1

misplaced_or_deep : (file : ℕ) (lexed : Lexed) (s s' : Symbol) (at at' : At) → IsMisplaced file lexed s at → IsTooDeepAt file lexed s' at' → ⊥
misplaced_or_deep file lexed s s' at at' is is' =
    let same = one_stop CanFollow front_follows is.before is'.before (placed s at) (placed s' at') is.stands.0 is'.stands.0 (sym is.stands.1 ∙ is'.stands.1) is.can_follow is'.can_follow
    (λ can. is.cannot_follow (any_depth (is.before ++ placed s at ∷ []) can)) is'.cannot_follow in
    is.cannot_follow (subst CanFollowAtAnyDepth (sym (ap (λ front. front ++ placed s at ∷ []) same.0 ∙ ap (λ p. is'.before ++ p ∷ []) same.1)) is'.can_follow_deeper)

one_told : (file : ℕ) (lexed : Lexed) (one other : Refusal) → Told file lexed one → Told file lexed other → one ≡ other
one_told file lexed one other (inl (can, is)) (inl (can', is')) = is ∙ sym is'
one_told file lexed one other (inl (can, is)) (inr (inl (s, at, mis, is'))) = absurd (end_or_misplaced file lexed s at can mis)
one_told file lexed one other (inl (can, is)) (inr (inr (s, at, deep, is'))) = absurd (end_or_deep file lexed s at can deep)
one_told file lexed one other (inr (inl (s, at, mis, is))) (inl (can', is')) = absurd (end_or_misplaced file lexed s at can' mis)
one_told file lexed one other (inr (inl (s, at, mis, is))) (inr (inl (s', at', mis', is'))) =
    is ∙ (ap misplaced_refusal (one_misplaced file lexed s s' at at' mis mis') ∙ sym is')
one_told file lexed one other (inr (inl (s, at, mis, is))) (inr (inr (s', at', deep, is'))) = absurd (misplaced_or_deep file lexed s s' at at' mis deep)
one_told file lexed one other (inr (inr (s, at, deep, is))) (inl (can', is')) = absurd (end_or_deep file lexed s at can' deep)
one_told file lexed one other (inr (inr (s, at, deep, is))) (inr (inl (s', at', mis', is'))) = absurd (misplaced_or_deep file lexed s' s at' at mis' deep)
one_told file lexed one other (inr (inr (s, at, deep, is))) (inr (inr (s', at', deep', is'))) =
    is ∙ (ap depth_refusal (one_deep file lexed s s' at at' deep deep') ∙ sym is')

-- the tokens of a file are refused in one way
pub one_grammar_fault : (file : ℕ) (lexed : Lexed) (one other : Refusal) → IsGrammarFault file lexed one → IsGrammarFault file lexed other → one ≡ other
one_grammar_fault file lexed one other is is' = one_told file lexed one other (told file lexed one is.names) (told file lexed other is'.names)
