-- What is refused where the reading stops at a token.
use Rattle.std.proofs.Common.{◌≡◌, ◌⊎◌, ℕ, suc, ◌<◌, ◌+◌, ◌≤◌, List, [], ◌∷◌, length, length-append, get_or, take, drop, slice_get, Some, refl, sym, ap, ◌∙◌, subst, inl, inr, arith}
use Rattle.std.specs.Prelude.{IfSome}
use Rattle.ms_list.specs.declared.at.At.{At}
use Rattle.ms_edge.specs.declared.refusal.Refusal.{Refusal}
use Rattle.ms_edge.specs.declared.refusal.Refusal.TheVariants as refusals
use Rattle.std.proofs.lemmas.Option.{slice_get-get_or}
use Rattle.ms_text.specs.TokenList.{Lexed, token_at}
use Rattle.ms_text.specs.declared.token.Kind.{Kind}
use Rattle.ms_text.specs.declared.token.Kind.TheVariants as kinds
use Rattle.ms_text.specs.declared.token.Token.{Token}
use Rattle.ms_parse_stack.specs.Refused.{IsMisplaced, IsTooDeepAt, NamesFault, refusal_of}
use Rattle.ms_parse_stack.specs.Symbols.{front, symbols, symbols_of}
use Rattle.ms_parse_stack.specs.declared.begun.Begun.{Begun}
use Rattle.ms_parse_stack.specs.declared.grammar.Grammar.{Ghosts}
use Rattle.ms_parse_stack.specs.declared.stop.Stop.{Stop}
use Rattle.ms_parse_stack.specs.declared.stop.Stop.TheVariants.{Memory, Misplaced, TooDeep}
use Rattle.ms_parse_stack.specs.inner.Stopped.{StopsAt}
use Rattle.ms_parse_stack.specs.inner.Machine.{shortest}
use Rattle.ms_parse_stack.specs.inner.States.{CodeFrame, IsMeasured, Standing}
use Rattle.ms_parse_stack.proofs.Readings.{IsOpen, Reading, Recognises, follows_from, on_open}
use Rattle.ms_parse_stack.proofs.Tokens.{front-whole, of_token, split_at, symbols-split, taken_next}

-- the token with a number
token_there : (lexed : Lexed) (i : ℕ) → i < length lexed.tokens → (token : Token) × (slice_get lexed.tokens i ≡ Some token)
token_there lexed i within =
    let none = token_at kinds.Text 0 0 in
    (get_or lexed.tokens i none, slice_get-get_or lexed.tokens i none within)

module _ {S : Type 0} (symbol_of : Kind → List ℕ → S) (CanFollow CanFollowAtAnyDepth : List S → Type 0) where
  misplaced : (file : ℕ) (lexed : Lexed) (i : ℕ) (token : Token) → slice_get lexed.tokens i ≡ Some token → StopsAt symbol_of CanFollow CanFollowAtAnyDepth lexed i Misplaced
      → IsMisplaced symbol_of CanFollow CanFollowAtAnyDepth file lexed (record { file = file; place = token.place })
  misplaced file lexed i token found stops = record {
    before = take i lexed.tokens;
    token = token;
    stands = record { after = drop (suc i) lexed.tokens; stands = split_at lexed.tokens i token found; is_place = refl };
    can_follow = stops.0;
    cannot_follow = subst (λ x. CanFollowAtAnyDepth (symbols_of symbol_of lexed x) → ⊥) (taken_next lexed.tokens i token found) stops.1;
  }

  too_deep : (file : ℕ) (lexed : Lexed) (i : ℕ) (token : Token) → slice_get lexed.tokens i ≡ Some token → StopsAt symbol_of CanFollow CanFollowAtAnyDepth lexed i TooDeep
      → IsTooDeepAt symbol_of CanFollow CanFollowAtAnyDepth file lexed (record { file = file; place = token.place })
  too_deep file lexed i token found stops = record {
    before = take i lexed.tokens;
    token = token;
    stands = record { after = drop (suc i) lexed.tokens; stands = split_at lexed.tokens i token found; is_place = refl };
    can_follow = stops.0;
    cannot_follow = subst (λ x. CanFollow (symbols_of symbol_of lexed x) → ⊥) (taken_next lexed.tokens i token found) stops.1;
    can_follow_deeper = subst (λ x. CanFollowAtAnyDepth (symbols_of symbol_of lexed x)) (taken_next lexed.tokens i token found) stops.2;
  }

  -- a text with no tokens is refused at its end
  pub fault_of_nothing : (file : ℕ) (bytes : List ℕ) (at : At) → NamesFault symbol_of CanFollow CanFollowAtAnyDepth file (record { bytes = bytes; tokens = [] }) (refusals.Grammar at) → at ≡ record { file = file; place = length bytes }
  fault_of_nothing file bytes at (inl early) = early.is_end
  fault_of_nothing file bytes at (inr there) =
      let never : ⊥ = omega (arith, ap length there.stands.stands, length-append there.before (there.token ∷ there.stands.after)) in
      absurd never

module _ {Grammar Tree Prefix Binary : Type 0} {g : Ghosts Grammar Tree Prefix Binary} {S : Type 0} (r : Reading g S) where
  -- the text reads as none, and the refusal says where it leaves the grammar
  pub record IsFault (file : ℕ) (lexed : Lexed) (refusal : Refusal) : Type 0 where
    pub reads_none : ¬ (r.Reads (symbols r.symbol_of lexed))
    pub names : NamesFault r.symbol_of r.CanFollow r.CanFollowAtAnyDepth file lexed refusal

module _ {Grammar Tree Prefix Binary : Type 0} {g : Ghosts Grammar Tree Prefix Binary} {S : Type 0} {r : Reading g S} (t : Recognises r) where
  -- what the text reads as goes on behind its first tokens
  front_follows : (lexed : Lexed) (i : ℕ) (token : Token) → slice_get lexed.tokens i ≡ Some token → r.Reads (symbols r.symbol_of lexed) → r.CanFollow (front r.symbol_of lexed (i + 1))
  front_follows lexed i token found reads =
      t.front_follows (front r.symbol_of lexed (i + 1)) (symbols_of r.symbol_of lexed (drop (suc i) lexed.tokens)) (subst r.Reads (symbols-split r.symbol_of lexed i token found) reads)

  pub is_misplaced : (file : ℕ) (lexed : Lexed) (i : ℕ) (token : Token) → slice_get lexed.tokens i ≡ Some token → StopsAt r.symbol_of r.CanFollow r.CanFollowAtAnyDepth lexed i Misplaced
      → IsFault r file lexed (refusals.Grammar (record { file = file; place = token.place }))
  is_misplaced file lexed i token found stops = record {
    reads_none = λ reads. stops.1 (t.deeper (front r.symbol_of lexed (i + 1)) (front_follows lexed i token found reads));
    names = inr (misplaced r.symbol_of r.CanFollow r.CanFollowAtAnyDepth file lexed i token found stops);
  }

  pub is_too_deep : (file : ℕ) (lexed : Lexed) (i : ℕ) (token : Token) → slice_get lexed.tokens i ≡ Some token → StopsAt r.symbol_of r.CanFollow r.CanFollowAtAnyDepth lexed i TooDeep
      → IsFault r file lexed (refusals.Depth (record { file = file; place = token.place }))
  is_too_deep file lexed i token found stops = record {
    reads_none = λ reads. stops.1 (front_follows lexed i token found reads);
    names = too_deep r.symbol_of r.CanFollow r.CanFollowAtAnyDepth file lexed i token found stops;
  }

  pub ends_early : (file : ℕ) (lexed : Lexed) (s : Standing g) → r.reached (symbols r.symbol_of lexed) ≡ s → IsOpen s → g.depth (shortest g.machine s) ≤ 300
      → IsFault r file lexed (refusals.Grammar (record { file = file; place = length lexed.bytes }))
  ends_early file lexed s is open_yet shallow = record {
    reads_none = λ reads. subst IsOpen (sym is ∙ (t.whole (symbols r.symbol_of lexed) reads).is) open_yet;
    names = inl (record { is_end = refl; can_follow = follows_from t (symbols r.symbol_of lexed) s is (on_open s open_yet) shallow });
  }

  -- so where the code has read all tokens
  pub ends_here : (file : ℕ) (lexed : Lexed) (begun : Begun (CodeFrame g)) (s : Standing g) → r.reached (front r.symbol_of lexed (length lexed.tokens)) ≡ s → IsOpen s → IsMeasured g begun (shortest g.machine s)
      → IsFault r file lexed (refusals.Grammar (record { file = file; place = length lexed.bytes }))
  ends_here file lexed begun s is open_yet h = ends_early file lexed s (ap r.reached (sym (front-whole r.symbol_of lexed)) ∙ is) open_yet (subst (λ n. n ≤ 300) h.measured h.shallow)

  -- the refusal where the reading stops at the token with this number
  pub refused : (file : ℕ) (lexed : Lexed) (i : ℕ) (stop : Stop) (refusal : Refusal) → i < length lexed.tokens → StopsAt r.symbol_of r.CanFollow r.CanFollowAtAnyDepth lexed i stop
      → IfSome (slice_get lexed.tokens i) (λ token. refusal ≡ refusal_of stop (record { file = file; place = token.place })) → (refusal ≡ refusals.Memory) ⊎ IsFault r file lexed refusal
  refused file lexed i Memory refusal inside stops is =
      let (token, found) = token_there lexed i inside in
      inl (of_token lexed.tokens i token _ found is)
  refused file lexed i Misplaced refusal inside stops is =
      let (token, found) = token_there lexed i inside in
      inr (subst (IsFault r file lexed) (sym (of_token lexed.tokens i token _ found is)) (is_misplaced file lexed i token found stops))
  refused file lexed i TooDeep refusal inside stops is =
      let (token, found) = token_there lexed i inside in
      inr (subst (IsFault r file lexed) (sym (of_token lexed.tokens i token _ found is)) (is_too_deep file lexed i token found stops))
