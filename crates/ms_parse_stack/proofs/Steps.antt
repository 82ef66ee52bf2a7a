-- Where the code's steps lead.
use Rattle.std.proofs.Common.{◌≡◌, ℕ, ◌+◌, Bool, true, false, List, [], ◌∷◌, refl, sym, ap, ◌∙◌, subst, arith}
use Rattle.std.specs.Prelude.{◌↔◌, IsTrue, Result, Ok, Err, IfErr}
use Rattle.ms_text.specs.TokenList.{Lexed}
use Rattle.ms_parse_stack.specs.Symbols.{front}
use Rattle.ms_parse_stack.specs.declared.begun.Begun.{Begun}
use Rattle.ms_parse_stack.specs.declared.grammar.Grammar.{Ghosts}
use Rattle.ms_parse_stack.specs.declared.stop.Stop.{Stop}
use Rattle.ms_parse_stack.specs.declared.stop.Stop.TheVariants.{Memory, Misplaced, TooDeep}
use Rattle.ms_parse_stack.specs.inner.Frames.{Frame, filled, yields}
use Rattle.ms_parse_stack.specs.inner.Machine.{GoesOn, stopped, ended, plugged, settled}
use Rattle.ms_parse_stack.specs.inner.States.{CodeFrame, Comes, Standing, stack_of}
use Rattle.ms_parse_stack.specs.inner.Stopped.{StopsAt}
use Rattle.ms_parse_stack.proofs.Readings.{Reading, Recognises}
use Rattle.ms_parse_stack.proofs.Settling.{plugged-settled}

module _ {Grammar Tree Prefix Binary : Type 0} (g : Ghosts Grammar Tree Prefix Binary) where
  -- the whole is as deep after frames are filled
  pub settled_depth : (least : ℕ) (frames : List (Frame Prefix Binary g.Tree)) (f : g.Tree) (held : List (Frame Prefix Binary g.Tree) × g.Tree) → settled g.machine least frames f ≡ held
      → g.depth (plugged g.machine frames f) ≡ g.depth (plugged g.machine held.0 held.1)
  settled_depth least frames f held same =
      ap g.depth (sym (plugged-settled (filled g.machine.operators) (yields g.machine.operators least) frames f)) ∙ ap (λ (p : List (Frame Prefix Binary g.Tree) × g.Tree). g.depth (plugged g.machine p.0 p.1)) same

  pub ended_more : (empty : Bool) (frames : List (CodeFrame g)) (f : g.Tree) → (IsTrue empty ↔ (frames ≡ [])) → empty ≡ false → ended g.machine (stack_of g frames, f) ≡ stopped
  ended_more empty [] f tells some = let never : true ≡ false = sym (tells.1 refl) ∙ some in cc
  ended_more empty (frame ∷ frames) f tells some = refl

module _ {Grammar Tree Prefix Binary : Type 0} {g : Ghosts Grammar Tree Prefix Binary} {S : Type 0} {r : Reading g S} (t : Recognises r) where
  -- where the code stops at a symbol, the machine stops, or the formula is too deep
  pub come_err : {Code : Type 0} (state : Begun (CodeFrame g) → Code → Standing g) (lexed : Lexed) (i : ℕ) (begun : Begun (CodeFrame g)) (result : Result Code Stop)
      → r.CanFollow (front r.symbol_of lexed i) → Comes g state (r.reached (front r.symbol_of lexed (i + 1))) begun result → IfErr result (StopsAt r.symbol_of r.CanFollow r.CanFollowAtAnyDepth lexed i)
  come_err state lexed i begun (Ok next) h comes = tt
  come_err state lexed i begun (Err Memory) h comes = tt
  come_err state lexed i begun (Err Misplaced) h comes = (h, λ any. subst GoesOn comes (t.goes_on (front r.symbol_of lexed (i + 1)) any))
  come_err state lexed i begun (Err TooDeep) h comes =
      (h, λ any. omega (arith, t.is_shallow (front r.symbol_of lexed (i + 1)) any, comes.1), t.follows_deeper (front r.symbol_of lexed (i + 1)) comes.0)
